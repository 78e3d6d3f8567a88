-- What servers do they do in their logs' epochs, and what is asked of a server names one.
pub mod Asked
pub mod Coordinator
pub mod Crashes
pub mod Kept
pub mod Server
pub mod World
