pub mod Bounded
pub mod Laws
pub mod Sound
