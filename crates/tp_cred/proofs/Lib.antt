pub mod HeldLemmas
pub mod NameLemmas
