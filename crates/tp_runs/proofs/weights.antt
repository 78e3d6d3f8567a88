-- What undelivered mails, queries that wait and requests that are still to be made weigh: each automatic step makes it
-- less.
pub mod Awaiting
pub mod CoordinatorRows
pub mod ServerRows
pub mod Turns
pub mod Weights
pub mod World
