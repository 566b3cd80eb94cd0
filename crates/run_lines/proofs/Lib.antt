pub mod Lined
pub mod Calls
pub mod Replying
pub mod Written
pub mod Texts
