pub mod TxnLemmas
pub mod Validity
