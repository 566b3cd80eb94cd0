pub mod Marks
pub mod Calls
pub mod Workers
pub mod Served
pub mod Slots
pub mod Standing
pub mod Turns
pub mod Packets
