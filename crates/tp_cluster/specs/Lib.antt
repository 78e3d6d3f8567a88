pub mod Runs
pub mod Offices
pub mod Calls
pub mod mirrors
