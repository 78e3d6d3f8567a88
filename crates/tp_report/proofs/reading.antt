-- The report read back: its tokens lead through a tree of choices to the facts and the ending that they are of.
pub mod Facts
pub mod History
pub mod Items
pub mod Names
pub mod Order
pub mod Report
pub mod Steps
pub mod Tree
pub mod Words
