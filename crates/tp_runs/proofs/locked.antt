-- Locks keep the deeds of transactions apart.
pub mod Apart
pub mod Booted
pub mod Crashes
pub mod Fit
pub mod Servers
pub mod Taken
pub mod World
