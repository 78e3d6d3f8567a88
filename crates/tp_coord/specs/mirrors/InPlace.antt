-- What follows from the round that a coordinator's phase awaits, where it is counted and judged in place.
use Rattle.std.specs.Prelude.{ℕ, List, None, Option, Some, []}
use Rattle.tp_types.specs.Effect.{Effect, ignores, sends}
use Rattle.tp_model.specs.Words.cause
use Rattle.tp_model.specs.Words.{Reading, Scenario, Verdict}
use Rattle.tp_coord.specs.Row.{aborts, asks, denied_by, on_all_true, on_reply, probes}
use Rattle.tp_coord.specs.State.{Coordinator}
use Rattle.tp_coord.specs.declared.coordinator.Phase.TheVariants as phase
use Rattle.tp_coord.specs.declared.coordinator.Phase.{Phase}
use Rattle.tp_coord.specs.declared.coordinator.Span.{Span}
use Rattle.tp_round.specs.Replies.{by_query, proofs_in}
use Rattle.tp_round.specs.declared.round.Judged.TheVariants as judged
use Rattle.tp_round.specs.declared.round.Judged.{Judged}

-- the round has one more reply
abbrev pub on_counted : Scenario → Coordinator → Phase → Effect Coordinator
on_counted sc c (phase.Checking over round staple) = on_reply sc c over round staple
on_counted sc c _ = ignores c

-- all have replied, and the master is to be read
abbrev pub reads_after : Coordinator → Phase → Effect Coordinator
reads_after c (phase.Checking over round staple) = probes c (phase.Reading over round)
reads_after c _ = ignores c

-- the authority is asked for the round that has begun
abbrev pub asks_anew : Coordinator → Phase → Effect Coordinator
asks_anew c (phase.Checking over round staple) = asks c over round
asks_anew c (phase.Reading over round) = asks c over round
asks_anew c _ = ignores c

-- what the round is over, and its number
abbrev pub span_in : Phase → Option (Span × ℕ)
span_in (phase.Checking over round staple) = Some (over, round.number)
span_in (phase.Reading over round) = Some (over, round.number)
span_in _ = None

-- the proofs of the round, by query
abbrev pub proofs_at : Phase → List Verdict
proofs_at (phase.Checking over round staple) = by_query (proofs_in round.targets)
proofs_at (phase.Reading over round) = by_query (proofs_in round.targets)
proofs_at _ = []

-- all proofs of the round are true
abbrev pub agrees_in : Scenario → Coordinator → Phase → Option Reading → Effect Coordinator
agrees_in sc c (phase.Checking over round staple) reading = on_all_true sc c over round reading
agrees_in sc c (phase.Reading over round) reading = on_all_true sc c over round reading
agrees_in sc c _ reading = ignores c

-- by what was judged of the round, which has begun anew where it was updated
abbrev pub follows : Scenario → Coordinator → Option Reading → Judged → Effect Coordinator
follows sc c reading judged.Waiting = sends c []
follows sc c reading (judged.Spent mets) = aborts c (cause.Rounds mets)
follows sc c reading (judged.Update named) = asks_anew c c.phase
follows sc c reading (judged.False verdict) = aborts c (cause.Denied (denied_by verdict))
follows sc c reading judged.AllTrue = agrees_in sc c c.phase reading
