pub mod CallerLemmas
pub mod PassLemmas
