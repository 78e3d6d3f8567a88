pub mod Each
pub mod Effect
pub mod Faults
pub mod Spelling
pub mod Table
pub mod formers
pub mod mirrors
