pub mod OfficeLemmas
