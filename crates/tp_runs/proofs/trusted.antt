-- Commits are trusted, and aborts have causes, in every world.
pub mod Crashes
pub mod End
pub mod Steps
