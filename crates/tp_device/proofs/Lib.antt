pub mod Blanks
pub mod Images
