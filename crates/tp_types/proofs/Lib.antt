pub mod EachLemmas
pub mod ListLemmas
pub mod NumberLemmas
