pub mod Ranges
pub mod Records
pub mod Spelling
pub mod mirrors
