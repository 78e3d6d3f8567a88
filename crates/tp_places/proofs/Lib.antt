pub mod PaddedLemmas
pub mod TurnedLemmas
