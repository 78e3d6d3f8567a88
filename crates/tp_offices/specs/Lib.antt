pub mod Authority
pub mod Master
