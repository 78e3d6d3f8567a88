pub mod Gathered
pub mod Said
