pub mod Counted
pub mod Counts
pub mod Frames
pub mod Taking
pub mod Tops
pub mod Words
