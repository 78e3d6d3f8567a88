-- The age of a transaction is the place of its submission, wherever it is kept.
pub mod Actors
pub mod Crashes
pub mod World
