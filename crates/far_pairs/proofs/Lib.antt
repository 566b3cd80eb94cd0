pub mod Bundling
pub mod Heads
pub mod Ordering
pub mod Merging
