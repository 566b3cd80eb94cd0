pub mod Resting
pub mod Serving
