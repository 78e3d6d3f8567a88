pub mod Contents
pub mod Laws
pub mod Rule
pub mod Writes
pub mod mirrors
