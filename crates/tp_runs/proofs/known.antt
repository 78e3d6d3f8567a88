-- What is known of one transaction at one server in every world, and that a query waits only for younger transactions.
pub mod Crashes
pub mod Waiting
pub mod World
