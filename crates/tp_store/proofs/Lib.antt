pub mod AppliedLemmas
pub mod LawLemmas
pub mod OutsideLemmas
pub mod StoreLemmas
pub mod TableLemmas
pub mod ValueLemmas
pub mod WriteLemmas
