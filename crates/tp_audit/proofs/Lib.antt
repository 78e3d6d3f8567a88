mod CauseLemmas
mod ClockLemmas
mod DemandLemmas
mod FollowingLemmas
mod HeldLemmas
mod SerialLemmas
mod WideLemmas
