pub mod Certificates
pub mod Holder
pub mod Names
pub mod Store
pub mod Validity
pub mod mirrors
