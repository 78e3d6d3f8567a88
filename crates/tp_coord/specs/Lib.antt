pub mod Booted
pub mod Opened
pub mod Row
pub mod State
pub mod Sums
pub mod mirrors
