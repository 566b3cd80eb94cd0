pub mod Settings
pub mod Replies
pub mod Runs
pub mod Ends
