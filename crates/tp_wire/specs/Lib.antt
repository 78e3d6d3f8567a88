pub mod Entries
pub mod History
pub mod Passes
pub mod Calls
pub mod Closing
pub mod Rule
pub mod mirrors
