pub mod mirrors
