pub mod Disks
pub mod Pasts
