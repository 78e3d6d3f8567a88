pub mod GrantLemmas
pub mod RightVerdicts
pub mod Rows
pub mod Tables
