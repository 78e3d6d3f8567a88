pub mod Entries
pub mod Inquiries
