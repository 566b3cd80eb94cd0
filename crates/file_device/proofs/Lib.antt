mod Classes
mod Offsets
mod Files
mod Owned
mod Kept
mod Contents
mod Labels
mod Read
pub mod Sent
