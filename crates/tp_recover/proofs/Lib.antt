pub mod AgeLemmas
pub mod BootsApart
pub mod HeldLemmas
pub mod KeptLemmas
pub mod LogLemmas
pub mod TableLemmas
