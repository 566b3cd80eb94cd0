pub mod Calls
pub mod Replies
pub mod Output
pub mod Runs
