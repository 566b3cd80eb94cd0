pub mod Faults
pub mod Reading
pub mod Runs
pub mod Arguments
pub mod Statuses
pub mod Sources
