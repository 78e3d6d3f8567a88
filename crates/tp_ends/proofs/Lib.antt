pub mod ByThemselves
pub mod InputLemmas
pub mod ListedRun
pub mod PrintableRun
pub mod RestLemmas
pub mod TrustedRun
