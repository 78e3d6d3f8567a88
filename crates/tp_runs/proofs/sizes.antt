-- No record that an actor forces is too long for a log.
pub mod Counts
pub mod Crashes
pub mod Lengths
pub mod World
