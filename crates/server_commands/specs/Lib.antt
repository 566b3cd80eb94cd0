pub mod Replying
pub mod Greeting
pub mod SlowLog
