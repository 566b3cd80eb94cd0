pub mod Calls
pub mod Canned
pub mod DeviceState
pub mod Fake
pub mod Faulty
pub mod Lying
