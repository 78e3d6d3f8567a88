pub mod CertificateLemmas
pub mod FoundLemmas
pub mod OnceLemmas
pub mod SaidLemmas
pub mod SoundLemmas
pub mod UsesLemmas
