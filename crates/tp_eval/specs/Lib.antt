pub mod Uses
pub mod mirrors
