-- Every value of a world is within the bound of its query, so that no step of a sum is cut.
pub mod Coordinator
pub mod Crashes
pub mod Numbers
pub mod Server
pub mod Values
pub mod World
