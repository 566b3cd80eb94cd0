pub mod Marks
pub mod Chances
pub mod Meetings
pub mod Namings
pub mod Seats
pub mod Evictors
pub mod Rooms
