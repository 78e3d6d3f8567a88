-- Deaths for an older transaction. Fit says what is known of an answer Died by the facts so far, and of locks by entries. Told: each submission is
-- a fact of its place. Servers and World: so it is after every list of steps.
pub mod Coordinators
pub mod Crashes
pub mod Dying
pub mod Fit
pub mod Servers
pub mod Told
pub mod World
