pub mod Appends
pub mod Found
pub mod Images
pub mod Logs
pub mod Openings
pub mod Refusals
pub mod mirrors
