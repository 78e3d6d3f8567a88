-- Each entry of a history is of one caller: what is summed over the history is summed over the callers' own entries.
use Rattle.std.proofs.Common.{◌≡◌, ℕ, zero, suc, ◌+◌, ◌<◌, ◌≤◌, ◌==◌, List, [], ◌∷◌, cond, nat_lt, Bool, true, false, refl, sym, ap, ◌∙◌, arith}
use Rattle.std.proofs.lemmas.Bool.Decides.{nat_tests}
use Rattle.std.proofs.lemmas.List.Sums.{sum_by-cons}
use Rattle.std.specs.List.{sum_by}
use Rattle.tp_types.specs.declared.scenario.Step.{Step}
use Rattle.tp_types.specs.Each.{Each}
use Rattle.tp_wire.specs.declared.view.Entry.{Entry}
use Rattle.tp_wire.specs.Closing.{own}
use Rattle.tp_wire.specs.Entries.{steps_in}
use Rattle.tp_wire.specs.History.{names, one_if, times}

-- the entry names one of so many callers, whose numbers follow the actors', and behind it one actor
pub record IsOfOne (actors callers : ℕ) (e : Entry) : Type 0 where
  pub caller : ℕ
  pub mover : ℕ
  pub numbers : e.numbers ≡ caller ∷ mover ∷ []
  pub called : actors ≤ caller
  pub few : caller < actors + callers
  pub moved : mover < actors

-- a caller's number is named where it is the entry's caller
named_by : (b c : Bool) → c ≡ false → nat_lt 0 (one_if b + (one_if c + 0)) ≡ b
named_by true c e = grind (arith, nat_tests)
named_by false c e = ap (λ (d : Bool). nat_lt 0 (0 + (one_if d + 0))) e

named : (actors callers : ℕ) (e : Entry) (h : IsOfOne actors callers e) (number : ℕ) → actors ≤ number → names number e ≡ (h.caller == number)
named actors callers e h number low =
    let moved = h.moved in
    let apart : (h.mover == number) ≡ false = grind (arith, nat_tests) in
    ap (λ (numbers : List ℕ). nat_lt 0 (times number numbers)) h.numbers ∙ named_by (h.caller == number) (h.mover == number) apart

-- what the own entries of so many callers weigh, from this number on
abbrev pub spread : (Step → ℕ) → List Entry → ℕ → ℕ → ℕ
spread f log number zero = 0
spread f log number (suc count) = sum_by f (steps_in (own number log)) + spread f log (number + 1) count

own_one : (f : Step → ℕ) (b : Bool) (e : Entry) (log : List Entry) → sum_by f (steps_in (cond b (e ∷ log) log)) ≡ cond b (f e.step) 0 + sum_by f (steps_in log)
own_one f true e log = sum_by-cons f e.step (steps_in log)
own_one f false e log = omega arith

one_more : (f : Step → ℕ) (actors callers : ℕ) (e : Entry) (log : List Entry) (h : IsOfOne actors callers e) (number : ℕ) → actors ≤ number
    → sum_by f (steps_in (own number (e ∷ log))) ≡ cond (h.caller == number) (f e.step) 0 + sum_by f (steps_in (own number log))
one_more f actors callers e log h number low =
    own_one f (names number e) e (own number log) ∙ ap (λ (b : Bool). cond b (f e.step) 0 + sum_by f (steps_in (own number log))) (named actors callers e h number low)

-- behind its caller an entry weighs nothing
spread_behind : (f : Step → ℕ) (actors callers : ℕ) (e : Entry) (log : List Entry) (h : IsOfOne actors callers e) (number count : ℕ) → actors ≤ number → h.caller < number
    → spread f (e ∷ log) number count ≡ spread f log number count
spread_behind f actors callers e log h number zero low behind = refl
spread_behind f actors callers e log h number (suc count) low behind =
    let apart : (h.caller == number) ≡ false = grind (arith, nat_tests) in
    let here = one_more f actors callers e log h number low in
    let none : cond (h.caller == number) (f e.step) 0 ≡ 0 = ap (λ (b : Bool). cond b (f e.step) 0) apart in
    let later = spread_behind f actors callers e log h (number + 1) count (omega arith) (omega arith) in
    omega (arith, here, none, later)

spread_more : (f : Step → ℕ) (actors callers : ℕ) (e : Entry) (log : List Entry) (h : IsOfOne actors callers e) (number count : ℕ) → actors ≤ number → number ≤ h.caller → h.caller < number + count
    → spread f (e ∷ log) number count ≡ f e.step + spread f log number count
spread_more f actors callers e log h number zero low from upto = absurd (omega arith)
spread_more f actors callers e log h number (suc count) low from upto =
    let here = one_more f actors callers e log h number low in
    by_caller (h.caller == number) refl here (λ apart. spread_more f actors callers e log h (number + 1) count (omega arith) apart (omega (arith, upto)))
  where
    by_caller : (b : Bool) → (h.caller == number) ≡ b → sum_by f (steps_in (own number (e ∷ log))) ≡ cond b (f e.step) 0 + sum_by f (steps_in (own number log))
        → (number + 1 ≤ h.caller → spread f (e ∷ log) (number + 1) count ≡ f e.step + spread f log (number + 1) count)
        → spread f (e ∷ log) number (suc count) ≡ f e.step + spread f log number (suc count)
    by_caller true same first rest =
        let is : h.caller ≡ number = grind (arith, nat_tests) in
        let later = spread_behind f actors callers e log h (number + 1) count (omega arith) (omega (arith, is)) in
        omega (arith, first, later)
    by_caller false else first rest =
        let apart : number + 1 ≤ h.caller = grind (arith, nat_tests) in
        let later = rest apart in
        omega (arith, first, later)

spread_none : (f : Step → ℕ) (number count : ℕ) → spread f [] number count ≡ 0
spread_none f number zero = refl
spread_none f number (suc count) = let later = spread_none f (number + 1) count in omega (arith, later)

-- all steps weigh what those of all callers weigh
pub tallied : (f : Step → ℕ) (actors callers : ℕ) (log : List Entry) → Each (IsOfOne actors callers) log → sum_by f (steps_in log) ≡ spread f log actors callers
tallied f actors callers [] h = sym (spread_none f actors callers)
tallied f actors callers (e ∷ log) h =
    let one = h.0 in
    let called = one.called in
    let few = one.few in
    let more = spread_more f actors callers e log one actors callers (omega arith) called few in
    let later = tallied f actors callers log h.1 in
    omega (arith, sum_by-cons f e.step (steps_in log), more, later)
