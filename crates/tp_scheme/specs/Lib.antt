pub mod Gathered
pub mod Laws
pub mod Moves
