pub mod basics
