pub mod Gives
pub mod Readings
pub mod Room
