pub mod BulkCases
pub mod CommandLemmas
pub mod ListedLemmas
pub mod OwedLemmas
pub mod ReadBack
pub mod RunCases
pub mod TopLemmas
pub mod TraceCases
