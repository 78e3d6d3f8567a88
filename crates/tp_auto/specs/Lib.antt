pub mod Auto
pub mod Laws
pub mod mirrors
