pub mod ConditionLemmas
pub mod DemandLemmas
pub mod HistoryLemmas
pub mod LevelLemmas
pub mod RuleLemmas
pub mod RunBounds
pub mod ServersLemmas
pub mod StoreBounds
