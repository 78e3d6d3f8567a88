pub mod Padded
pub mod Turned
pub mod mirrors
