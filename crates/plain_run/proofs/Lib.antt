pub mod Sizes
pub mod Calls
pub mod Replies
pub mod Runs
