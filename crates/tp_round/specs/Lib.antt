pub mod Judge
pub mod Laws
pub mod Replies
pub mod mirrors
