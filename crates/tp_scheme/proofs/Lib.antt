pub mod BelowLemmas
pub mod MoveLemmas
pub mod PinLemmas
