pub mod Meetings
pub mod Homes
