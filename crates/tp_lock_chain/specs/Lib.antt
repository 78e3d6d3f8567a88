pub mod Cost
pub mod mirrors
