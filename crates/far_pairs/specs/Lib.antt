pub mod Bundles
pub mod Heads
pub mod Ranges
