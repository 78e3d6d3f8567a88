-- All that mails, records and facts name exists.
pub mod Acts
pub mod Coordinator
pub mod Crashes
pub mod Queries
pub mod Server
pub mod Steps
pub mod Valid
