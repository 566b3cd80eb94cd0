mod TooLong
pub mod Trying
pub mod Stepping
pub mod Working
pub mod Ending
pub mod Adding
mod Contents
mod Lanes
