-- Lists of deeds alone: that their sums are exact, how deeds follow the queries, what they read, how a store stands to the values of servers,
-- and when a commit is serial.
pub mod Clamped
pub mod Commits
pub mod Joined
pub mod Lengths
pub mod Opening
pub mod Ranges
pub mod Reads
pub mod Refused
pub mod Rising
pub mod Runs
pub mod Stores
pub mod Tentative
