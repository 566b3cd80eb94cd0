pub mod Files
pub mod Numbers
pub mod Running
mod Names
mod Streams
