-- Reads and committed data are those of the serial run, in the order of commits. OnLog and UpOnLog say what a server's log keeps of it;
-- Unsettled, Settling, Receiving and Deciding how the acts of servers and coordinators change it.
pub mod Booted
pub mod Clear
pub mod Crashes
pub mod Deciding
pub mod End
pub mod Lone
pub mod OnLog
pub mod Receiving
pub mod Rows
pub mod Settling
pub mod Shares
pub mod Steps
pub mod Unsettled
pub mod UpOnLog
pub mod World
