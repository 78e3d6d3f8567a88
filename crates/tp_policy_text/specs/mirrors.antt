pub mod Gives
pub mod Readers
pub mod Readings
pub mod Scans
