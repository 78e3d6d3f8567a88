pub mod Acts
pub mod History
