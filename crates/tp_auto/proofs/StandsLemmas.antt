-- What holds of the machine after every list of steps, as far as the automatic phase needs it: all invariants of the
-- runs, that each coordinator awaits few servers and some, and that each undelivered mail was sent.
use Rattle.std.proofs.Common.{◌≡◌, ℕ, ◌-◌, ◌<◌, ◌≤◌, ◌==◌, List, [], ◌∷◌, length, slice_get, not, true, Option, Some, None, is_some, if◌then◌else◌, refl, arith}
use Rattle.std.specs.List.{range_with_len}
use Rattle.std.proofs.lemmas.List.{length-append}
use Rattle.tp_model.specs.Words.{Scenario, Step}
use Rattle.tp_model.specs.Words.step
use Rattle.tp_model.specs.Words.what
use Rattle.tp_model.specs.Valid.{is_valid}
use Rattle.tp_machine.specs.declared.error.StepError.{StepError}
use Rattle.tp_machine.specs.Machine.{Machine, Move, State, after, after_step, after_steps, boots, crashes, delivery, idle_move, machine_after, mails_of, opening, publishes, pushes, refusal, revokes, state_after, submission, ticks, times, with_new, without_number}
use Rattle.tp_machine.specs.Named.{IsStepOf}
use Rattle.tp_runs.proofs.runs.Runs.{Holds, holds_next, holds_opening}
use Rattle.tp_runs.proofs.served.Steady.{Steady, steady_next, steady_opening}
use Rattle.tp_runs.proofs.weights.Awaiting.{AwaitFew, awaiting_next, awaiting_opening}
use Rattle.tp_types.proofs.EachLemmas.{each_append, each_as, each_filter}
use Rattle.tp_types.specs.Each.{Each}
use Rattle.tp_auto.proofs.NextLemmas.{below}
use Rattle.tp_auto.proofs.PotentialLemmas.{AreSent}

-- ---- the undelivered mails were sent

-- mails of before stay, and the new ones are those that were sent since
sent_after : (w : State) (taken : Step) (move : Move) (undelivered : List ℕ) → Each (λ (number : ℕ). number < length w.mails) undelivered → AreSent (with_new w (state_after w taken move) undelivered)
sent_after w taken move undelivered h =
    let next = state_after w taken move in
    let more : length w.mails ≤ length next.mails = omega (arith, length-append w.mails (mails_of (length w.steps) (length w.mails) move.letters)) in
    each_append (λ (number : ℕ). number < length next.mails) undelivered (range_with_len (length w.mails) (length next.mails - length w.mails))
    (each_as (λ (number : ℕ). number < length w.mails) (λ (number : ℕ). number < length next.mails) (λ number low. omega (arith, low, more)) undelivered h)
    (below (length w.mails) (length next.mails - length w.mails) (length next.mails) (omega (arith, more)))

sent_without : (w : State) (undelivered : List ℕ) (mail : ℕ) → Each (λ (number : ℕ). number < length w.mails) undelivered → Each (λ (number : ℕ). number < length w.mails) (without_number undelivered mail)
sent_without w undelivered mail h = each_filter (λ (number : ℕ). number < length w.mails) (λ (other : ℕ). not (other == mail)) undelivered h

sent_next : (sc : Scenario) (m : Machine) (taken : Step) → AreSent m → AreSent (machine_after sc m taken)
sent_next sc m (step.Submit txn) h = sent_after m.state (step.Submit txn) (submission sc m.state.actors txn (length m.state.steps)) m.undelivered h
sent_next sc m (step.Deliver mail) h =
    sent_after m.state (step.Deliver mail) (delivery sc m.state.actors (slice_get m.state.mails mail)) (without_number m.undelivered mail) (sent_without m.state m.undelivered mail h)
sent_next sc m (step.Lose mail) h =
    sent_after m.state (step.Lose mail) (idle_move m.state.actors (what.Lost mail ∷ [])) (without_number m.undelivered mail) (sent_without m.state m.undelivered mail h)
sent_next sc m (step.Publish admin) h = sent_after m.state (step.Publish admin) (publishes m.state.actors admin) m.undelivered h
sent_next sc m (step.Push admin server) h = sent_after m.state (step.Push admin server) (pushes m.state.actors admin server) m.undelivered h
sent_next sc m (step.Tick by) h = sent_after m.state (step.Tick by) (ticks m.state.actors by) m.undelivered h
sent_next sc m (step.Revoke cred) h = sent_after m.state (step.Revoke cred) (revokes m.state.actors cred) m.undelivered h
sent_next sc m (step.Timer txn) h = sent_after m.state (step.Timer txn) (times sc m.state.actors txn) m.undelivered h
sent_next sc m (step.Crash who None) h = sent_after m.state (step.Crash who None) (crashes sc m.state.actors m.state.mails who None) m.undelivered h
sent_next sc m (step.Crash who (Some cut)) h =
    sent_after m.state (step.Crash who (Some cut)) (crashes sc m.state.actors m.state.mails who (Some cut)) (without_number m.undelivered cut.mail) (sent_without m.state m.undelivered cut.mail h)
sent_next sc m (step.Boot who) h = sent_after m.state (step.Boot who) (boots sc m.state.actors who) m.undelivered h

-- ---- all of it

pub record Stands (sc : Scenario) (m : Machine) : Type 0 where
  pub holds : Holds sc m.state
  pub few : AwaitFew sc m.state
  pub steady : Steady sc m.state
  pub sent : AreSent m

-- it holds after any step that is not refused
pub stands_next : (sc : Scenario) (m : Machine) (taken : Step) → is_valid sc ≡ true → IsStepOf sc taken → refusal m.state taken ≡ None → Stands sc m → Stands sc (machine_after sc m taken)
stands_next sc m taken formed exists allowed s =
    record {
      holds = holds_next sc m taken formed exists allowed s.holds;
      few = awaiting_next sc m taken formed exists allowed s.holds.agrees s.few;
      steady = steady_next sc m taken formed exists allowed s.holds s.steady;
      sent = sent_next sc m taken s.sent;
    }

step_stands : (sc : Scenario) (m : Machine) (taken : Step) (why : Option StepError) → refusal m.state taken ≡ why → is_valid sc ≡ true → IsStepOf sc taken → Stands sc m
    → Stands sc (if is_some why then m else machine_after sc m taken)
step_stands sc m taken None e formed exists s = stands_next sc m taken formed exists e s
step_stands sc m taken (Some why) e formed exists s = s

steps_stand : (sc : Scenario) (m : Machine) (steps : List Step) → is_valid sc ≡ true → Each (IsStepOf sc) steps → Stands sc m → Stands sc (after_steps sc m steps)
steps_stand sc m [] formed exist s = s
steps_stand sc m (taken ∷ steps) formed exist s =
    steps_stand sc (after_step sc m taken) steps formed exist.1 (step_stands sc m taken (refusal m.state taken) refl formed exist.0 s)

-- after every list of steps
pub stands_after : (sc : Scenario) (steps : List Step) → is_valid sc ≡ true → Each (IsStepOf sc) steps → Stands sc (after sc steps)
stands_after sc steps formed exist =
    steps_stand sc (opening sc) steps formed exist (record { holds = holds_opening sc formed; few = awaiting_opening sc; steady = steady_opening sc; sent = tt })
