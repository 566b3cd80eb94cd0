pub mod Numbers
mod Saying
pub mod Classes
pub mod Matching
pub mod Choices
pub mod Rows
