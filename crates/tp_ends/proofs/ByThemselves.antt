-- The automatic steps come by themselves, and are no more than were asked for.
use Rattle.std.proofs.Common.{◌≡◌, ℕ, zero, suc, ◌≤◌, [], ◌∷◌, length, slice_get, true, Option, Some, None, option_map, refl, subst, arith}
use Rattle.std.specs.List.{list_all}
use Rattle.std.specs.Option.{option_map_or, option_or}
use Rattle.std.proofs.lemmas.Option.{same_Some}
use Rattle.tp_model.specs.Words.step
use Rattle.tp_model.specs.Words.{Actor, Scenario, Step, TxnId}
use Rattle.tp_machine.specs.declared.actors.Actors.{Actors}
use Rattle.tp_machine.specs.Machine.{Machine, after_step}
use Rattle.tp_auto.specs.Auto.{automatic_from, cursor_after, first_armed, lowest_down, lowest_unsubmitted, next_by, next_of}
use Rattle.tp_ends.specs.Headline.{comes_by_itself}

chosen_by_itself : (make : TxnId → Step) → ((txn : TxnId) → comes_by_itself (make txn) ≡ true) → (found : Option TxnId) (taken : Step) → option_map make found ≡ Some taken → comes_by_itself taken ≡ true
chosen_by_itself make made None taken e = absurd (cc)
chosen_by_itself make made (Some txn) taken e = subst (λ (s : Step). comes_by_itself s ≡ true) (same_Some (make txn) taken e) (made txn)

unasked_by_itself : (found armed : Option TxnId) (taken : Step) → option_or (option_map (λ (txn : TxnId). step.Submit txn) found) (option_map (λ (txn : TxnId). step.Timer txn) armed) ≡ Some taken → comes_by_itself taken ≡ true
unasked_by_itself None armed taken e = chosen_by_itself (λ (txn : TxnId). step.Timer txn) (λ txn. refl) armed taken e
unasked_by_itself (Some txn) armed taken e = chosen_by_itself (λ (t : TxnId). step.Submit t) (λ t. refl) (Some txn) taken e

running_by_itself : (sc : Scenario) (actors : Actors) (cursor : ℕ) (oldest : Option ℕ) (taken : Step) → next_by sc actors cursor oldest ≡ Some taken → comes_by_itself taken ≡ true
running_by_itself sc actors cursor None taken e = unasked_by_itself (lowest_unsubmitted sc actors) (first_armed sc actors cursor) taken e
running_by_itself sc actors cursor (Some mail) taken e = subst (λ (s : Step). comes_by_itself s ≡ true) (same_Some (step.Deliver mail) taken e) refl

next_by_itself : (sc : Scenario) (m : Machine) (cursor : ℕ) (down : Option Actor) (taken : Step) → option_or (option_map (λ (who : Actor). step.Boot who) down) (next_by sc m.state.actors cursor (slice_get m.undelivered 0)) ≡ Some taken
    → comes_by_itself taken ≡ true
next_by_itself sc m cursor None taken e = running_by_itself sc m.state.actors cursor (slice_get m.undelivered 0) taken e
next_by_itself sc m cursor (Some who) taken e = subst (λ (s : Step). comes_by_itself s ≡ true) (same_Some (step.Boot who) taken e) refl

rest_by_themselves : (sc : Scenario) (left cursor : ℕ) (m : Machine) (next : Option Step) → next_of sc m cursor ≡ next → ((after : ℕ) (k : Machine) → list_all comes_by_itself (automatic_from sc left after k) ≡ true)
    → list_all comes_by_itself (option_map_or (λ (taken : Step). taken ∷ automatic_from sc left (cursor_after taken cursor) (after_step sc m taken)) next []) ≡ true
rest_by_themselves sc left cursor m None e rest = refl
rest_by_themselves sc left cursor m (Some taken) e rest =
    let here : comes_by_itself taken ≡ true = next_by_itself sc m cursor (lowest_down sc m.state.actors) taken e in
    let later : list_all comes_by_itself (automatic_from sc left (cursor_after taken cursor) (after_step sc m taken)) ≡ true = rest (cursor_after taken cursor) (after_step sc m taken) in
    grind arith

-- the automatic steps come by themselves
pub automatic_by_themselves : (sc : Scenario) (count cursor : ℕ) (m : Machine) → list_all comes_by_itself (automatic_from sc count cursor m) ≡ true
automatic_by_themselves sc zero cursor m = refl
automatic_by_themselves sc (suc left) cursor m = rest_by_themselves sc left cursor m (next_of sc m cursor) refl (λ after k. automatic_by_themselves sc left after k)

length-next : (sc : Scenario) (left cursor : ℕ) (m : Machine) (next : Option Step)
    → ((taken : Step) → length (automatic_from sc left (cursor_after taken cursor) (after_step sc m taken)) ≤ left)
    → length (option_map_or (λ (taken : Step). taken ∷ automatic_from sc left (cursor_after taken cursor) (after_step sc m taken)) next []) ≤ suc left
length-next sc left cursor m None h = omega arith
length-next sc left cursor m (Some taken) h = omega (arith, h taken)

-- there are no more automatic steps than were asked for
pub length-automatic_from : (sc : Scenario) (count cursor : ℕ) (m : Machine) → length (automatic_from sc count cursor m) ≤ count
length-automatic_from sc zero cursor m = omega arith
length-automatic_from sc (suc left) cursor m =
    length-next sc left cursor m (next_of sc m cursor) (λ taken. length-automatic_from sc left (cursor_after taken cursor) (after_step sc m taken))
