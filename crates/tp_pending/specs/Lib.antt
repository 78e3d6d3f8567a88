pub mod Flags
pub mod mirrors
