mod Bounds
mod Calls
mod Contents
mod Keys
pub mod Sent
mod Spelling
