pub mod Devices
pub mod Failures
pub mod Objects
pub mod Wire
