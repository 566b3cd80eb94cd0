mod Reading
mod Stored
