pub mod Grammar
pub mod Lexis
pub mod Parses
pub mod Printed
pub mod mirrors
