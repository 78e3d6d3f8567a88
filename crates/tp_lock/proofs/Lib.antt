pub mod HoldsLemmas
mod KeptLemmas
pub mod OrderLemmas
mod OwnedLemmas
pub mod ReleaseLaws
pub mod RequestLaws
mod ShownLemmas
mod SlotLemmas
mod TakenLemmas
mod VisitLemmas
