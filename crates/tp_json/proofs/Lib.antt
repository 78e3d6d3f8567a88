pub mod NumberLemmas
pub mod ReadLemmas
pub mod TurnLemmas
pub mod ViewLemmas
