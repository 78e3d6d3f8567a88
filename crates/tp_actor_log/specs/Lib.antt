pub mod Disks
pub mod Records
pub mod mirrors
