-- A value that a server refused is that of its transaction's run by itself, on the store where the transaction first
-- aborted, unless work was lost.
pub mod Crashes
pub mod Refusing
pub mod Running
pub mod Steps
pub mod World
