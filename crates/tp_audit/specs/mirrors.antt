pub mod Digits
pub mod Programs
