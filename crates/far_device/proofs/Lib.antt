mod Kept
mod Shortened
