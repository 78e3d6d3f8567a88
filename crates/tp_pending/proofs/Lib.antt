pub mod FlagLemmas
pub mod LinkLemmas
pub mod RingLemmas
