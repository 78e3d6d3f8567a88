pub mod Moves
pub mod Locked
