pub mod Laws
pub mod Order
pub mod Rule
pub mod Table
pub mod mirrors
