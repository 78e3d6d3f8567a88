-- Facts of steps are those of the steps.
pub mod Crashes
pub mod Steps
