pub mod Bulk
pub mod Line
