pub mod Ask
pub mod Ends
pub mod Leave
pub mod Links
pub mod Pool
pub mod Rings
pub mod Room
