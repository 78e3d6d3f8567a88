-- All invariants together: what each leans on, and what they show of every run. The proof is entered here, by Runs.
pub mod Runs
