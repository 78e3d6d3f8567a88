pub mod View
pub mod mirrors
