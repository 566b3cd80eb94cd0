pub mod Collisions
pub mod Digests
