-- The cases of the command `bulk`. The listed steps of the large scenario are submissions, each of another transaction: none is refused.
use Rattle.std.proofs.Common.{◌≡◌, inl, inr, ℕ, suc, ◌+◌, ◌≤◌, Bool, List, length, map, zero, None, Option, Some, false, if◌then◌else◌, ap, arith, refl, slice_get, ◌∙◌}
use Rattle.std.specs.List.{range_with_len}
use Rattle.std.specs.Option.{option_map_or}
use Rattle.tp_bulk.proofs.Validity.{valid}
use Rattle.tp_bulk.specs.Bulk.{scenario_of}
use Rattle.tp_coord.specs.Opened.{idle}
use Rattle.tp_coord.specs.State.{Coordinator}
use Rattle.tp_machine.specs.Machine.{Machine, coordinator_submits, is_part_submitted, machine_after, opened_part, opening, refusal, submission_by}
use Rattle.tp_machine.specs.Parts.{Part}
use Rattle.tp_machine.specs.declared.actors.Actors.{Actors}
use Rattle.tp_machine.specs.declared.error.StepError.{StepError}
use Rattle.tp_machine.specs.declared.error.StepError.TheVariants as error
use Rattle.tp_model.specs.Words.step
use Rattle.tp_model.specs.Words.{Scenario, Step}
use Rattle.tp_top.proofs.CommandLemmas.{IsKept}
use Rattle.tp_top.proofs.OwedLemmas.{comes_to}
use Rattle.tp_ends.proofs.RestLemmas.{tells_trusted}
use Rattle.tp_top.specs.Bulk.{line_told}
use Rattle.tp_ends.specs.Listed.{refused_from, refused_or}
use Rattle.tp_top.specs.mirrors.Commands.{Answers}
use Rattle.tp_top.specs.Runs.{first_refused}
use Rattle.tp_ends.specs.Streams.{Stream}
use Rattle.tp_ends.specs.declared.answer.Answer.{Answer}
use Rattle.tp_ends.specs.declared.answer.Answer.TheVariants as answer
use Rattle.tp_ends.specs.declared.listed.StepRefusal.{StepRefusal}
use Rattle.tp_top.specs.mirrors.Runs.{IsCounted}
use Rattle.tp_types.proofs.EachLemmas.{at_made, at_set}
use Rattle.tp_types.specs.Each.{EachAt}
use Rattle.tp_words.specs.declared.commands.Command.TheVariants.{Bulk}

-- the coordinator is not submitted, if its transaction has this number or a later one
abbrev IsIdleFrom : ℕ → ℕ → Part Coordinator → Type 0
IsIdleFrom first number part = first ≤ number → is_part_submitted part.up ≡ false

abbrev AreIdleFrom : ℕ → Actors → Type 0
AreIdleFrom first actors = EachAt (IsIdleFrom first) actors.coordinators

idle_at_opening : (sc : Scenario) → AreIdleFrom 0 (opening sc).state.actors
idle_at_opening sc = λ n part e low. at_made (λ (number : ℕ) (one : Part Coordinator). is_part_submitted one.up ≡ false) (λ (number : ℕ). opened_part (idle sc (record { 0 = number }))) 0 (length sc.txns) (λ number within. refl) n part e

-- so it is not refused
not_submitted : (first : ℕ) (actors : Actors) (found : Option (Part Coordinator)) → AreIdleFrom first actors → slice_get actors.coordinators first ≡ found → option_map_or (λ (part : Part Coordinator). is_part_submitted part.up) found false ≡ false
not_submitted first actors None h e = refl
not_submitted first actors (Some part) h e = h first part e (omega arith)

submit_allowed : (m : Machine) (first : ℕ) → AreIdleFrom first m.state.actors → refusal m.state (step.Submit (record { 0 = first })) ≡ None
submit_allowed m first h =
    ap (λ (b : Bool). if b then Some (error.AlreadySubmitted (record { 0 = first })) else None) (not_submitted first m.state.actors (slice_get m.state.actors.coordinators first) h refl)

later_idle : (first : ℕ) (actors : Actors) → AreIdleFrom first actors → AreIdleFrom (first + 1) actors
later_idle first actors h = λ n part e low. h n part e (omega (arith, low))

-- and those behind it stay idle
submitted_idle : (sc : Scenario) (first place : ℕ) (actors : Actors) (found : Option (Part Coordinator)) → AreIdleFrom first actors → AreIdleFrom (first + 1) (submission_by sc actors (record { 0 = first }) place found).actors
submitted_idle sc first place actors None h = later_idle first actors h
submitted_idle sc first place actors (Some part) h =
    at_set (IsIdleFrom (first + 1)) actors.coordinators first (coordinator_submits sc part (record { 0 = first }) place).part (later_idle first actors h) (λ low. absurd (omega (arith, low)))

submissions_allowed : (sc : Scenario) (m : Machine) (at first count : ℕ) → AreIdleFrom first m.state.actors → refused_from sc m at (map (λ (number : ℕ). step.Submit (record { 0 = number })) (range_with_len first count)) ≡ None
submissions_allowed sc m at first zero h = refl
submissions_allowed sc m at first (suc count) h =
    let taken : Step = step.Submit (record { 0 = first }) in
    let others : List Step = map (λ (number : ℕ). step.Submit (record { 0 = number })) (range_with_len (first + 1) count) in
    let later : refused_from sc (machine_after sc m taken) (at + 1) others ≡ None = submissions_allowed sc (machine_after sc m taken) (at + 1) (first + 1) count
    (submitted_idle sc first (length m.state.steps) m.state.actors (slice_get m.state.actors.coordinators first) h) in
    ap (λ (why : Option StepError). refused_or why at (refused_from sc (machine_after sc m taken) (at + 1) others)) (submit_allowed m first h) ∙ later

-- no listed step of the large scenario is refused
pub bulk_lawful : (count : ℕ) → first_refused (scenario_of count) ≡ None
unfolding scenario_of
bulk_lawful count = submissions_allowed (scenario_of count) (opening (scenario_of count)) 0 0 count (idle_at_opening (scenario_of count))

pub never_stopped : (sc : Scenario) (count : ℕ) (refused : StepRefusal) → sc ≡ scenario_of count → first_refused sc ≡ Some refused → ⊥
never_stopped sc count refused e f =
    let none : first_refused sc ≡ None = ap first_refused e ∙ bulk_lawful count in
    cc

-- ---- what it answers and keeps

-- what comes of the large scenario is the answer to its command
pub answers_counted : (input : Stream) (count : ℕ) (answer : Answer) → 1 ≤ count → count ≤ 128 → IsCounted count answer → Answers (Bulk count) input answer
answers_counted input count (answer.Text text) least most h = comes_to (line_told count) (scenario_of count) text.0 (valid count least most) h
answers_counted input count answer.NoMemory least most h = tt
answers_counted input count (answer.Refused text line) least most h = absurd h
answers_counted input count answer.ReadFault least most h = absurd h

pub bulk_kept : (count : ℕ) → IsKept (Bulk count)
bulk_kept count = record {
  promised = λ call text has written. tells_trusted (line_told count) (scenario_of count) (scenario_of count).steps call.out text has.rests has.text_is written;
  done = λ call text has _. inl refl;
  refused = λ call text line r written. absurd r;
  unread = λ call fails. absurd (none_read fails.reads);
  no_memory = λ call _. inr refl;
  out_failed = λ call rose none. absurd (none rose);
  notes_failed = λ call text line r rose. absurd r;
}
  where
    none_read : 1 ≤ 0 → ⊥
    none_read h = omega (arith, h)
