-- Lemmas on flags of mails, parts, the opening and the machine.
pub mod Acted
pub mod Crashes
pub mod Fits
pub mod Flags
pub mod Machine
pub mod Moves
pub mod Opened
pub mod Parts
pub mod Rules
pub mod Start
pub mod Timers
pub mod Worlds
