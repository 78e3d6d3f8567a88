pub mod DiskLemmas
pub mod PastLemmas
