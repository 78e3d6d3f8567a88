-- Trust: what a coordinator's phase rests on.
use Rattle.std.proofs.Common.{Bool, IfSome, List, false, is_some, true, ℕ, ◌≡◌}
use Rattle.tp_types.specs.Each.{Each}
use Rattle.tp_model.specs.Demand.{is_incremental}
use Rattle.tp_model.specs.Words.{Fact, Instance, Scenario, Scheme, Staple, TxnId, Verdict}
use Rattle.tp_model.specs.Words.scheme
use Rattle.tp_coord.specs.declared.coordinator.Phase.{Phase}
use Rattle.tp_coord.specs.declared.coordinator.Phase.TheVariants as phase
use Rattle.tp_coord.specs.declared.coordinator.Span.{Span}
use Rattle.tp_coord.specs.declared.coordinator.Span.TheVariants as span
use Rattle.tp_round.specs.Replies.{verdicts_in}
use Rattle.tp_round.specs.declared.round.Round.{Round}
use Rattle.tp_round.specs.declared.round.Target.{Target}
use Rattle.tp_scheme.specs.Moves.{proves_each}
use Rattle.tp_runs.proofs.basics.Turns.{IsAbove}
use Rattle.tp_runs.proofs.trust.Fit.{IsSubmitted, Later, StapleFits, maybe_stays, staple_stays}
use Rattle.tp_runs.proofs.trust.Fronts.{AreNewAfter}
use Rattle.tp_runs.proofs.trust.Instances.{AreAbove}
use Rattle.tp_runs.proofs.trust.Points.{IsProbed}
use Rattle.tp_runs.proofs.trust.Rounds.{RoundFits, round_fits_later}

-- a coordinator awaits the answer to a request that fits
abbrev pub PhaseFits : Scenario → List Fact → ℕ → TxnId → Phase → Type 0
PhaseFits sc facts place txn phase.Idle = Unit {0}
PhaseFits sc facts place txn (phase.Stapling number) = IsSubmitted facts txn
PhaseFits sc facts place txn (phase.Querying number staple) = IsSubmitted facts txn × IfSome staple (StapleFits sc facts place txn)
PhaseFits sc facts place txn (phase.Probing number) = IsSubmitted facts txn
PhaseFits sc facts place txn (phase.Asking over round) = IsSubmitted facts txn × RoundFits sc facts place txn over round
PhaseFits sc facts place txn (phase.Checking over round staple) = IsSubmitted facts txn × RoundFits sc facts place txn over round × StapleFits sc facts place txn staple
PhaseFits sc facts place txn (phase.Reading over round) = IsSubmitted facts txn × RoundFits sc facts place txn over round × (round.reads ≡ true)
PhaseFits sc facts place txn (phase.Voting awaited) = IsSubmitted facts txn
PhaseFits sc facts place txn phase.VoteProbing = IsSubmitted facts txn
PhaseFits sc facts place txn (phase.Ending ended awaited) = Unit {0}

-- it stays as facts are added
pub phase_stays : (sc : Scenario) (old new : List Fact) (low high : ℕ) (txn : TxnId) (awaited : Phase) → Later old new low high → PhaseFits sc old low txn awaited → PhaseFits sc new high txn awaited
phase_stays sc old new low high txn phase.Idle l h = tt
phase_stays sc old new low high txn (phase.Stapling number) l h = l.more txn h
phase_stays sc old new low high txn (phase.Probing number) l h = l.more txn h
phase_stays sc old new low high txn (phase.Querying number staple) l h =
    (l.more txn h.0, maybe_stays (StapleFits sc old low txn) (StapleFits sc new high txn) staple (λ s f. staple_stays sc old new low high txn s l f) h.1)
phase_stays sc old new low high txn (phase.Asking over round) l h = (l.more txn h.0, round_fits_later sc old new low high txn over round l h.1)
phase_stays sc old new low high txn (phase.Checking over round staple) l h =
    (l.more txn h.0, round_fits_later sc old new low high txn over round l h.1, staple_stays sc old new low high txn staple l h.2)
phase_stays sc old new low high txn (phase.Reading over round) l h = (l.more txn h.0, round_fits_later sc old new low high txn over round l h.1, h.2)
phase_stays sc old new low high txn (phase.Voting awaited) l h = l.more txn h
phase_stays sc old new low high txn phase.VoteProbing l h = l.more txn h
phase_stays sc old new low high txn (phase.Ending ended awaited) l h = tt

-- ---- what was made after all that is closed and gathered

-- so was each reply of a round
abbrev pub IsRepliedAfter : List Instance → List Verdict → Round → Type 0
IsRepliedAfter instances gathered round = Each (λ (target : Target). AreAbove instances gathered (verdicts_in target)) round.targets

-- and the staple that a phase has; of the proofs so far that of the last query was made after all that is closed, until it is closed too
abbrev pub IsMadeAfter : List Instance → List Verdict → Phase → Type 0
IsMadeAfter instances gathered (phase.Querying number staple) = IfSome staple (λ (given : Staple). IsAbove given.place instances gathered)
IsMadeAfter instances gathered (phase.Probing number) = AreNewAfter instances gathered
IsMadeAfter instances gathered (phase.Asking over round) = IsRepliedAfter instances gathered round
IsMadeAfter instances gathered (phase.Checking over round staple) = IsAbove staple.place instances gathered × IsRepliedAfter instances gathered round
IsMadeAfter instances gathered (phase.Reading over round) = IsRepliedAfter instances gathered round
IsMadeAfter instances gathered _ = Unit {0}

-- ---- phases of a scheme

-- continuous evaluates the queries so far, and every scheme but incremental all of them at commit
abbrev pub SuitsSpan : Scheme → Span → Type 0
SuitsSpan chosen (span.Validate number) = chosen ≡ scheme.Continuous
SuitsSpan chosen span.Commit = is_incremental chosen ≡ false

-- the authority is asked before a query where the scheme proves each, and a query has its staple exactly there; incremental alone votes without
-- an evaluation, and reads the master, where it does, after a query and after the votes
abbrev pub Suits : Scheme → Bool → Phase → Type 0
Suits chosen reads (phase.Stapling number) = proves_each chosen ≡ true
Suits chosen reads (phase.Querying number staple) = is_some staple ≡ proves_each chosen
Suits chosen reads (phase.Probing number) = IsProbed chosen reads
Suits chosen reads (phase.Asking over round) = SuitsSpan chosen over
Suits chosen reads (phase.Checking over round staple) = SuitsSpan chosen over
Suits chosen reads (phase.Reading over round) = SuitsSpan chosen over
Suits chosen reads (phase.Voting awaited) = chosen ≡ scheme.Incremental
Suits chosen reads phase.VoteProbing = IsProbed chosen reads
Suits chosen reads _ = Unit {0}
