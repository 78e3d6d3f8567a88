-- Each transaction is served: what it awaits was asked for, is replied, or waits for a lock. It is kept by deliveries
-- and timers, and where nothing is undelivered all transactions are finished.
pub mod Awaited
pub mod CoordinatorRows
pub mod Lists
pub mod Moves
pub mod Quiet
pub mod Receipts
pub mod Requests
pub mod ServerRows
pub mod Steady
pub mod Steps
pub mod World
pub mod Younger
