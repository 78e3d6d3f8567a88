-- What a transaction does next at each point that it comes to, by its scheme and by whether it reads the master
-- (Iskander et al. 2011).
use Rattle.std.specs.Prelude.{ℕ, nat_le, Bool, true, false, if◌then◌else◌}
use Rattle.tp_model.specs.Words.{Scheme}
use Rattle.tp_model.specs.Words.scheme
use Rattle.tp_scheme.specs.declared.moves.Move.{Move}
use Rattle.tp_scheme.specs.declared.moves.Point.{Point}
pub use Rattle.tp_scheme.specs.declared.moves.Move.TheVariants as move
pub use Rattle.tp_scheme.specs.declared.moves.Point.TheVariants as point

-- the scheme proves each query as it runs
abbrev pub proves_each : Scheme → Bool
proves_each scheme.Punctual = true
proves_each scheme.Incremental = true
proves_each _ = false

-- where a query begins
abbrev pub before_query : Scheme → Move
before_query scheme = if proves_each scheme then move.Ask else move.SendQuery

-- where all queries are done with: incremental has proved each, and the other schemes evaluate at commit
abbrev pub after_queries : Scheme → Move
after_queries scheme.Incremental = move.Votes
after_queries _ = move.CommitRounds

-- where a query has run
abbrev pub after_run : Scheme → Bool → Move
after_run scheme.Continuous reads = move.Validate
after_run scheme.Incremental true = move.Probe
after_run _ reads = move.Following

-- where all have voted
abbrev pub after_votes : Scheme → Bool → Move
after_votes scheme.Incremental true = move.Probe
after_votes _ reads = move.Decide

-- what a transaction of so many queries does at a point
abbrev pub next_move : Scheme → Bool → ℕ → Point → Move
next_move scheme reads queries (point.Begun query) =
    if nat_le query queries then before_query scheme else after_queries scheme
next_move scheme reads queries (point.Stapled query) = move.SendQuery
next_move scheme reads queries (point.Ran query) = after_run scheme reads
next_move scheme reads queries (point.Read query) = move.Following
next_move scheme reads queries (point.Validated query) = move.Following
next_move scheme reads queries point.Voted = after_votes scheme reads
next_move scheme reads queries point.VoteRead = move.Decide
