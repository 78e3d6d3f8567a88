pub mod BlockLemmas
pub mod LineLemmas
pub mod TellingLemmas
pub mod ToldLemmas
