pub mod Overs
pub mod Parts
