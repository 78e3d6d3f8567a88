pub mod Places
pub mod Renewals
pub mod Sorted
