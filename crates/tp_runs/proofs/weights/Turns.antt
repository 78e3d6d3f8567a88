-- Weights: a coordinator that has not decided has made fewer requests than its transaction's queries allow.
use Rattle.std.proofs.Common.{List, arith, length, refl, subst, true, ℕ, ◌≡◌, ◌≤◌}
use Rattle.tp_model.specs.Words.{Fact, Scenario, TxnId}
use Rattle.tp_model.specs.Valid.{is_valid}
use Rattle.tp_model.proofs.RuleLemmas.{rules_of}
use Rattle.tp_coord.specs.State.{Coordinator}
use Rattle.tp_coord.specs.declared.coordinator.Phase.{Phase}
use Rattle.tp_coord.specs.declared.coordinator.Phase.TheVariants as phase
use Rattle.tp_coord.specs.declared.coordinator.Span.{Span}
use Rattle.tp_coord.specs.declared.coordinator.Span.TheVariants as span
use Rattle.tp_machine.specs.Machine.{State}
use Rattle.tp_machine.specs.Parts.{Part}
use Rattle.tp_runs.proofs.basics.Found.{of_some}
use Rattle.tp_runs.proofs.basics.Phases.{is_undecided, until_asked, until_round}
use Rattle.tp_runs.proofs.basics.Turns.{end_move, few_queries, number_within, query_count, turn_rises}
use Rattle.tp_runs.proofs.runs.Runs.{Holds}
use Rattle.tp_runs.proofs.trust.Coordinator.{CoordinatorFits, turn_low}
use Rattle.tp_runs.proofs.trust.Phases.{PhaseFits}
use Rattle.tp_runs.proofs.trust.Rounds.{few_rounds}
use Rattle.tp_runs.proofs.walks.Steps.{IsCoordinatorUp}
use Rattle.tp_runs.proofs.weights.Awaiting.{AwaitFew, own_awaits, own_servers_few, some_servers}
use Rattle.tp_runs.proofs.weights.CoordinatorRows.{MayAsk}
use Rattle.tp_runs.specs.Sound.{IsSoundCoordinatorUp, IsSoundPhase, IsSoundSpan}

-- a request in a round
in_span : (sc : Scenario) (txn : TxnId) (over : Span) (number asked turn : ℕ) → IsSoundSpan sc txn over → number ≤ 17 → asked ≤ 3 → turn ≤ until_asked (query_count sc txn) over number asked → turn ≤ until_round (query_count sc txn) 17 3
in_span sc txn (span.Validate query) number asked turn k most of_three low =
    let within = number_within sc txn query k.asked k.asked_is in
    let first = within.0 in
    let last = within.1 in
    omega (arith, first, last, most, of_three, low)
in_span sc txn span.Commit number asked turn k most of_three low = end_move (query_count sc txn) number asked turn most of_three low

-- in each phase before the decision
in_phase : (sc : Scenario) (facts : List Fact) (place : ℕ) (c : Coordinator) (awaited : Phase) → CoordinatorFits sc facts place c → c.phase ≡ awaited → IsSoundPhase sc c.txn awaited → is_undecided awaited ≡ true
    → c.turn ≤ until_round (query_count sc c.txn) 17 3
in_phase sc facts place c phase.Idle h e sound undecided = let low = turn_low sc facts place c phase.Idle h e in omega (arith, low)
in_phase sc facts place c (phase.Stapling number) h e sound undecided =
    let low = turn_low sc facts place c (phase.Stapling number) h e in
    let within = number_within sc c.txn number sound.asked sound.asked_is in
    let first = within.0 in
    let last = within.1 in
    omega (arith, first, last, low)
in_phase sc facts place c (phase.Querying number staple) h e sound undecided =
    let low = turn_low sc facts place c (phase.Querying number staple) h e in
    let within = number_within sc c.txn number sound.0.asked sound.0.asked_is in
    let first = within.0 in
    let last = within.1 in
    omega (arith, first, last, low)
in_phase sc facts place c (phase.Probing number) h e sound undecided =
    let low = turn_low sc facts place c (phase.Probing number) h e in
    let within = number_within sc c.txn number sound.asked sound.asked_is in
    let first = within.0 in
    let last = within.1 in
    omega (arith, first, last, low)
in_phase sc facts place c (phase.Asking over round) h e sound undecided =
    let f = subst (PhaseFits sc facts place c.txn) e h.awaits in
    in_span sc c.txn over round.number 1 c.turn sound.0 (few_rounds sc facts place c.txn over round f.1) (omega arith) (turn_low sc facts place c (phase.Asking over round) h e)
in_phase sc facts place c (phase.Checking over round staple) h e sound undecided =
    let f = subst (PhaseFits sc facts place c.txn) e h.awaits in
    in_span sc c.txn over round.number 2 c.turn sound.0 (few_rounds sc facts place c.txn over round f.1) (omega arith) (turn_low sc facts place c (phase.Checking over round staple) h e)
in_phase sc facts place c (phase.Reading over round) h e sound undecided =
    let f = subst (PhaseFits sc facts place c.txn) e h.awaits in
    in_span sc c.txn over round.number 3 c.turn sound.0 (few_rounds sc facts place c.txn over round f.1) (omega arith) (turn_low sc facts place c (phase.Reading over round) h e)
in_phase sc facts place c (phase.Voting awaited) h e sound undecided = end_move (query_count sc c.txn) 1 1 c.turn (omega arith) (omega arith) (turn_low sc facts place c (phase.Voting awaited) h e)
in_phase sc facts place c phase.VoteProbing h e sound undecided = end_move (query_count sc c.txn) 1 2 c.turn (omega arith) (omega arith) (turn_low sc facts place c phase.VoteProbing h e)
in_phase sc facts place c (phase.Ending ended awaited) h e sound undecided = absurd (cc)

-- of a coordinator that is up in some world
pub own_low : (sc : Scenario) (w : State) (txn : TxnId) (part : Part Coordinator) (c : Coordinator) → Holds sc w → IsCoordinatorUp w txn part c → is_undecided c.phase ≡ true → c.turn ≤ until_round (query_count sc c.txn) 17 3
own_low sc w txn part c h up undecided =
    let sound : IsSoundCoordinatorUp sc txn c = of_some (IsSoundCoordinatorUp sc txn) part.up c up.up (h.sound.actors_are.coordinators txn.0 part up.found).state in
    let fits : CoordinatorFits sc w.facts (length w.steps) c = of_some (CoordinatorFits sc w.facts (length w.steps)) part.up c up.up (h.trusts.coordinators txn.0 part up.found) in
    in_phase sc w.facts (length w.steps) c c.phase fits refl sound.sound.awaits undecided

-- so it may make a request still
pub may_ask : (sc : Scenario) (w : State) (queries : ℕ) (txn : TxnId) (part : Part Coordinator) (c : Coordinator) → is_valid sc ≡ true → Holds sc w → AwaitFew sc w → ((t : TxnId) → query_count sc t ≤ queries) → IsCoordinatorUp w txn part c
    → MayAsk queries (length sc.servers) c
may_ask sc w queries txn part c formed h few most up =
    record {
      some = some_servers sc formed;
      own = own_servers_few sc w txn part c h.agrees up;
      awaits = own_awaits sc w txn part c few up;
      room = λ undecided. omega (arith, own_low sc w txn part c h up undecided, most c.txn);
      rises = λ undecided. turn_rises c (omega (arith, own_low sc w txn part c h up undecided, few_queries sc (rules_of sc formed) c.txn));
    }
