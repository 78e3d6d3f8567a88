pub mod HeldBy
