pub mod Asking
pub mod Moments
pub mod Publishers
pub mod Said
