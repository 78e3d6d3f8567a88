-- The deeds and epochs of one transaction at one server. Site and Pair say what is looked at, and Fits what holds in every state.
-- Loses, Grows and Follows: what was sent or kept before still fits after an event. Moves, Answered and Letters: what the
-- coordinator does and sends. Entries, Ran, Votes and Ends: what the server does. Outcomes: what follows.
pub mod Actors
pub mod Answered
pub mod CoordinatorRows
pub mod Ends
pub mod Entries
pub mod Fits
pub mod Follows
pub mod Grows
pub mod Letters
pub mod Loses
pub mod Moves
pub mod Outcomes
pub mod Pair
pub mod Ran
pub mod Rises
pub mod ServerRows
pub mod Site
pub mod Votes
