-- A run sends few mails: at most 128 times as many as it has steps.
pub mod Actors
pub mod Crashes
pub mod World
