-- Restarts: every epoch that is kept or named is of after its transaction's submission, and a restart that is told has
-- its crash. Counted sets epochs beside crashes, Since says what is carried, Servers and Coordinators carry it through
-- rows, World through acts, and Shown shows restarts.
pub mod Coordinators
pub mod Counted
pub mod Crashes
pub mod Servers
pub mod Shown
pub mod Since
pub mod Steps
pub mod World
