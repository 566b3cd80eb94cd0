pub mod Prefixes
pub mod Moves
pub mod Seating
pub mod Settles
pub mod Bits
pub mod Clocks
pub mod Collecting
pub mod Rooms
