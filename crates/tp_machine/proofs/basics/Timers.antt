-- A timer of an armed transaction is not refused: the transaction was submitted, and its coordinator is up.
use Rattle.std.proofs.Common.{◌≡◌, Bool, true, false, not, Option, Some, None, is_none, slice_get, if◌then◌else◌, refl}
use Rattle.std.specs.Option.{option_map_or, option_or}
use Rattle.std.proofs.lemmas.Bool.{and_parts}
use Rattle.tp_model.specs.Words.{TxnId}
use Rattle.tp_model.specs.Words.actor
use Rattle.tp_model.specs.Words.step
use Rattle.tp_coord.specs.Row.{is_armed, is_begun, is_done}
use Rattle.tp_coord.specs.State.{Coordinator}
use Rattle.tp_machine.specs.declared.error.StepError.{StepError}
use Rattle.tp_machine.specs.declared.error.StepError.TheVariants as error
use Rattle.tp_machine.specs.Parts.{Part}
use Rattle.tp_machine.specs.Machine.{State, is_armed_at, is_down, is_part_down, is_part_submitted, is_submitted, refusal}

submitted_up : (up : Option Coordinator) → option_map_or is_armed up false ≡ true → (is_part_submitted up ≡ true) × (is_none up ≡ false)
submitted_up None e = absurd (cc)
submitted_up (Some c) e = ((and_parts (is_begun c.phase) (not (is_done c.phase)) e).0, refl)

submitted_there : (found : Option (Part Coordinator)) → option_map_or (λ (part : Part Coordinator). option_map_or is_armed part.up false) found false ≡ true
    → (option_map_or (λ (part : Part Coordinator). is_part_submitted part.up) found false ≡ true) × (option_map_or is_part_down found false ≡ false)
submitted_there None e = absurd (cc)
submitted_there (Some part) e = submitted_up part.up e

none_of_both : (begun down : Bool) (one other : StepError) → begun ≡ true → down ≡ false → option_or (if begun then None else Some one) (if down then Some other else None) ≡ None
none_of_both true false one other b d = refl
none_of_both false down one other b d = absurd (cc)
none_of_both true true one other b d = absurd (cc)

pub timer_allowed : (w : State) (txn : TxnId) → is_armed_at w.actors txn ≡ true → refusal w (step.Timer txn) ≡ None
timer_allowed w txn e =
    let parts = submitted_there (slice_get w.actors.coordinators txn.0) e in
    none_of_both (is_submitted w.actors txn) (is_down w.actors (actor.Coordinator txn)) (error.NotSubmitted txn) (error.IsDown (actor.Coordinator txn)) parts.0 parts.1
