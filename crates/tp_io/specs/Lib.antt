pub mod Adapters
pub mod Fakes
pub mod Whole
