-- Actors agree with their logs, and logs with each other: one decision everywhere.
pub mod Coordinator
pub mod CoordinatorActs
pub mod Crashes
pub mod End
pub mod Ended
pub mod Known
pub mod Logs
pub mod Server
pub mod ServerActs
pub mod Steps
pub mod World
