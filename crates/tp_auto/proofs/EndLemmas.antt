-- The automatic phase ends: after every list of steps there are no more automatic steps than the bound, after them the
-- machine is quiet, and each transaction was decided, and settled so at each of its servers.
use Rattle.std.proofs.Common.{◌≡◌, ℕ, ◌+◌, ◌≤◌, List, length, true, Option, Some, None, zero, suc, refl, sym, ap, subst, ◌∙◌, arith}
use Rattle.tp_model.specs.Words.{Scenario, Step}
use Rattle.tp_model.specs.Valid.{is_valid}
use Rattle.tp_machine.specs.Machine.{Machine, after, after_steps, machine_after}
use Rattle.tp_machine.specs.Named.{IsStepOf}
use Rattle.tp_runs.proofs.agreement.Ended.{all_ended}
use Rattle.tp_types.specs.Each.{Each}
use Rattle.tp_auto.proofs.AutoLemmas.{after_allowed, automatic-none, automatic-some}
use Rattle.tp_auto.proofs.GoingLemmas.{Going, going_first, next_goes}
use Rattle.tp_auto.proofs.NextLemmas.{quiet_anywhere, quiet_finished}
use Rattle.tp_auto.proofs.PotentialLemmas.{potential}
use Rattle.tp_auto.proofs.StandsLemmas.{Stands, stands_after}
use Rattle.tp_auto.proofs.StartLemmas.{start_within}
use Rattle.tp_auto.specs.Auto.{automatic_from, bound, cursor_after, is_quiet, next_of}
use Rattle.tp_auto.specs.Laws.{HasEnd, at_rest}

-- ---- all steps of the phase

-- there are no more than the potential
few_steps : (sc : Scenario) (left cursor : ℕ) (m : Machine) → is_valid sc ≡ true → Going sc m cursor → length (automatic_from sc left cursor m) ≤ potential sc m cursor
few_steps sc zero cursor m formed g = omega arith
few_steps sc (suc left) cursor m formed g =
    by_next (next_of sc m cursor) refl (λ taken e. few_steps sc left (cursor_after taken cursor) (machine_after sc m taken) formed (next_goes sc m cursor taken formed g e).going)
  where
    by_next : (next : Option Step) → next_of sc m cursor ≡ next
        → ((taken : Step) → next_of sc m cursor ≡ Some taken → length (automatic_from sc left (cursor_after taken cursor) (machine_after sc m taken)) ≤ potential sc (machine_after sc m taken) (cursor_after taken cursor))
        → length (automatic_from sc (suc left) cursor m) ≤ potential sc m cursor
    by_next None e later = let none : length (automatic_from sc (suc left) cursor m) ≡ 0 = ap length (automatic-none sc (suc left) cursor m e) in omega (arith, none)
    by_next (Some taken) e later =
        let goes = next_goes sc m cursor taken formed g e in
        let more : length (automatic_from sc (suc left) cursor m) ≡ length (automatic_from sc left (cursor_after taken cursor) (machine_after sc m taken)) + 1 =
        ap length (automatic-some sc left cursor m taken e goes.allowed) ∙ omega arith in
        omega (arith, more, later taken e, goes.falls)

-- none is next where it is 0
none_next : (sc : Scenario) (cursor : ℕ) (m : Machine) → is_valid sc ≡ true → Going sc m cursor → potential sc m cursor ≤ 0 → next_of sc m cursor ≡ None
none_next sc cursor m formed g le = by_next (next_of sc m cursor) refl
  where
    by_next : (next : Option Step) → next_of sc m cursor ≡ next → next_of sc m cursor ≡ None
    by_next None e = e
    by_next (Some taken) e = let goes = next_goes sc m cursor taken formed g e in absurd (omega (arith, goes.falls, le))

-- ---- the end of the phase

-- the machine is quiet, and all that holds of every machine holds of it
record IsAtRest (sc : Scenario) (m : Machine) : Type 0 where
  quiet : is_quiet sc m ≡ true
  stands : Stands sc m

rests : (sc : Scenario) (cursor : ℕ) (m : Machine) → Going sc m cursor → next_of sc m cursor ≡ None → IsAtRest sc m
rests sc cursor m g e = record { quiet = quiet_anywhere sc m cursor None (sym e); stands = g.stands }

-- where as many steps may be taken as the potential it comes to be so
comes_to_rest : (sc : Scenario) (left cursor : ℕ) (m : Machine) → is_valid sc ≡ true → Going sc m cursor → potential sc m cursor ≤ left → IsAtRest sc (after_steps sc m (automatic_from sc left cursor m))
comes_to_rest sc zero cursor m formed g le = rests sc cursor m g (none_next sc cursor m formed g le)
comes_to_rest sc (suc left) cursor m formed g le =
    by_next (next_of sc m cursor) refl
    (λ taken e. let goes = next_goes sc m cursor taken formed g e in comes_to_rest sc left (cursor_after taken cursor) (machine_after sc m taken) formed goes.going (omega (arith, goes.falls, le)))
  where
    by_next : (next : Option Step) → next_of sc m cursor ≡ next
        → ((taken : Step) → next_of sc m cursor ≡ Some taken → IsAtRest sc (after_steps sc (machine_after sc m taken) (automatic_from sc left (cursor_after taken cursor) (machine_after sc m taken))))
        → IsAtRest sc (after_steps sc m (automatic_from sc (suc left) cursor m))
    by_next None e later = subst (λ (steps : List Step). IsAtRest sc (after_steps sc m steps)) (sym (automatic-none sc (suc left) cursor m e)) (rests sc cursor m g e)
    by_next (Some taken) e later =
        let goes = next_goes sc m cursor taken formed g e in
        let others = automatic_from sc left (cursor_after taken cursor) (machine_after sc m taken) in
        subst (λ (steps : List Step). IsAtRest sc (after_steps sc m steps)) (sym (automatic-some sc left cursor m taken e goes.allowed))
        (subst (λ (k : Machine). IsAtRest sc (after_steps sc k others)) (sym (after_allowed sc m taken goes.allowed)) (later taken e))

-- ---- after every list of steps

pub always_ends : (sc : Scenario) (steps : List Step) → is_valid sc ≡ true → Each (IsStepOf sc) steps → HasEnd sc (after sc steps)
always_ends sc steps formed exist =
    let m = after sc steps in
    let stands = stands_after sc steps formed exist in
    let start = start_within sc m stands.holds in
    let rest = comes_to_rest sc (bound sc (length m.undelivered)) 0 m formed (going_first sc m stands) start in
    record {
      few = λ count. omega (arith, few_steps sc count 0 m formed (going_first sc m stands), start);
      quiet = rest.quiet;
      ended = all_ended sc (at_rest sc m).state rest.stands.holds.sound rest.stands.holds.agrees (quiet_finished sc (at_rest sc m) rest.quiet);
    }
