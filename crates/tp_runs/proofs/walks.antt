-- What all theorems walk: each step once.
pub mod Crashes
pub mod Steps
pub mod Ups
