pub mod TokenLemmas
pub mod reading
