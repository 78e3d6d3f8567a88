-- What a report may tell is true of each state: all that facts name exists, each number is of its type, and each item has a value.
pub mod Facts
pub mod Numbers
pub mod World
