pub mod Slots
pub mod Fills
