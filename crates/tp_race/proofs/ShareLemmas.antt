-- What each caller has done of its script, and what all callers together have done of all scripts.
use Rattle.std.proofs.Common.{◌≡◌, inl, inr, ℕ, zero, suc, ◌+◌, List, [], ◌∷◌, ◌++◌, length, not, slice_get, false, refl, sym, ap, subst, ◌∙◌, arith}
use Rattle.std.proofs.lemmas.List.Sums.{sum_by-append, sum_by-cons}
use Rattle.std.specs.List.{sum_by}
use Rattle.tp_cluster.specs.Runs.{actors_of}
use Rattle.tp_model.specs.Words.step
use Rattle.tp_model.specs.Words.{Scenario, Step}
use Rattle.tp_types.specs.Each.{Each}
use Rattle.tp_wire.proofs.ListLemmas.{each_back, each_front}
use Rattle.tp_wire.specs.declared.view.Entry.{Entry}
use Rattle.tp_wire.specs.declared.view.Part.{Part}
use Rattle.tp_wire.specs.declared.view.View.{View}
use Rattle.tp_wire.specs.Closing.{own, parts_of}
use Rattle.tp_wire.specs.Entries.{steps_in}
use Rattle.tp_race.proofs.ListLemmas.{sum_filter}
use Rattle.tp_race.proofs.TallyLemmas.{spread}
use Rattle.tp_race.specs.Callers.{AllFrom, HasEnded, IsAt, is_delivery, script_at, script_or, scripts_of}

-- ---- one caller

-- a weight that no delivery has
abbrev pub Silent : (Step → ℕ) → Type 0
Silent f = (mail : ℕ) → f (step.Deliver mail) ≡ 0

delivery_silent : (f : Step → ℕ) → Silent f → (taken : Step) → not (is_delivery taken) ≡ false → f taken ≡ 0
delivery_silent f silent (step.Deliver mail) e = silent mail
delivery_silent f silent _ e = absurd (cc)

-- the entries of a part are all of the history that name it
abbrev pub InOrder : List Entry → Part → Type 0
InOrder log p = own p.number p.upto ≡ own p.number log

-- the entries of a caller in the history are those of its pass
pub own_of : (sc : Scenario) (log : List Entry) (caller : ℕ) (done : List Step) (v : View) (at : IsAt sc caller done v) → Each (InOrder log) v.parts
    → own (actors_of sc + caller) log ≡ own at.part.number at.part.upto
own_of sc log caller done v at in_order =
    let here : InOrder log at.part = (subst (Each (InOrder log)) at.one in_order).0 in
    ap (λ (n : ℕ). own n log) (sym at.number) ∙ sym here

-- what they weigh is what was done of its script
share_of : (sc : Scenario) (f : Step → ℕ) → Silent f → (log : List Entry) (caller : ℕ) (done : List Step) (v : View) → IsAt sc caller done v → Each (InOrder log) v.parts
    → sum_by f (steps_in (own (actors_of sc + caller) log)) ≡ sum_by f done
share_of sc f silent log caller done v at in_order =
    ap (λ (es : List Entry). sum_by f (steps_in es)) (own_of sc log caller done v at in_order)
    ∙ (sym (sum_filter f (λ (taken : Step). not (is_delivery taken)) (delivery_silent f silent) (steps_in (own at.part.number at.part.upto)))
    ∙ ap (sum_by f) at.commanded)

-- ---- all callers

-- what is left of a caller's script
abbrev pub left_of : (Step → ℕ) → (sc : Scenario) (caller : ℕ) (v : View) → HasEnded sc caller v → ℕ
left_of f sc caller v (inl run) = 0
left_of f sc caller v (inr stop) = sum_by f (stop.next ∷ stop.rest)

abbrev pub left_from : (Step → ℕ) → (sc : Scenario) (caller : ℕ) (views : List View) → AllFrom (HasEnded sc) caller views → ℕ
left_from f sc caller [] h = 0
left_from f sc caller (v ∷ views) h = left_of f sc caller v h.0 + left_from f sc (caller + 1) views h.1

-- what so many scripts weigh, from this one on
abbrev pub asked : (Step → ℕ) → List (List Step) → ℕ → ℕ → ℕ
asked f scripts caller zero = 0
asked f scripts caller (suc count) = sum_by f (script_or (slice_get scripts caller)) + asked f scripts (caller + 1) count

share_left : (sc : Scenario) (f : Step → ℕ) → Silent f → (log : List Entry) (caller : ℕ) (v : View) (end : HasEnded sc caller v) → Each (InOrder log) v.parts
    → sum_by f (steps_in (own (actors_of sc + caller) log)) + left_of f sc caller v end ≡ sum_by f (script_at sc caller)
share_left sc f silent log caller v (inl run) in_order = let share = share_of sc f silent log caller (script_at sc caller) v run in_order in omega (arith, share)
share_left sc f silent log caller v (inr stop) in_order =
    let share = share_of sc f silent log caller stop.done v stop.at in_order in
    let whole : sum_by f (script_at sc caller) ≡ sum_by f (stop.done ++ stop.next ∷ stop.rest) = ap (sum_by f) stop.script in
    omega (arith, share, whole, sum_by-append f stop.done (stop.next ∷ stop.rest))

-- what all did and what is left is what all scripts have
pub shares : (sc : Scenario) (f : Step → ℕ) → Silent f → (log : List Entry) (caller : ℕ) (views : List View) (ends : AllFrom (HasEnded sc) caller views) → Each (InOrder log) (parts_of views)
    → spread f log (actors_of sc + caller) (length views) + left_from f sc caller views ends ≡ asked f (scripts_of sc) caller (length views)
shares sc f silent log caller [] ends in_order = refl
shares sc f silent log caller (v ∷ views) ends in_order =
    let here = share_left sc f silent log caller v ends.0 (each_front (InOrder log) v.parts (parts_of views) in_order) in
    let later = shares sc f silent log (caller + 1) views ends.1 (each_back (InOrder log) v.parts (parts_of views) in_order) in
    let next : spread f log (actors_of sc + caller + 1) (length views) ≡ spread f log (actors_of sc + (caller + 1)) (length views) = ap (λ (n : ℕ). spread f log n (length views)) (omega arith) in
    omega (arith, here, later, next)

asked_none : (f : Step → ℕ) (caller count : ℕ) → asked f [] caller count ≡ 0
asked_none f caller zero = refl
asked_none f caller (suc count) = let later = asked_none f (caller + 1) count in let here = nothing f caller in omega (arith, later, here)
  where
    nothing : (f : Step → ℕ) (n : ℕ) → sum_by f (script_or (slice_get [] n)) ≡ 0
    nothing f zero = refl
    nothing f (suc n) = refl

asked_next : (f : Step → ℕ) (script : List Step) (scripts : List (List Step)) (caller count : ℕ) → asked f (script ∷ scripts) (caller + 1) count ≡ asked f scripts caller count
asked_next f script scripts caller zero = refl
asked_next f script scripts caller (suc count) =
    let place : caller + 1 ≡ suc caller = omega arith in
    let here : sum_by f (script_or (slice_get (script ∷ scripts) (caller + 1))) ≡ sum_by f (script_or (slice_get scripts caller)) = ap (λ (n : ℕ). sum_by f (script_or (slice_get (script ∷ scripts) n))) place in
    let later = asked_next f script scripts (caller + 1) count in
    omega (arith, here, later)

-- all callers' scripts are all scripts
pub asked_all : (f : Step → ℕ) (scripts : List (List Step)) → asked f scripts 0 (length scripts + 1) ≡ sum_by (sum_by f) scripts
asked_all f [] = asked_none f 0 1
asked_all f (script ∷ scripts) =
    let count : length (script ∷ scripts) + 1 ≡ suc (length scripts + 1) = omega arith in
    let whole : asked f (script ∷ scripts) 0 (length (script ∷ scripts) + 1) ≡ sum_by f script + asked f (script ∷ scripts) (0 + 1) (length scripts + 1) = ap (asked f (script ∷ scripts) 0) count in
    let later = asked_next f script scripts 0 (length scripts + 1) in
    let rest = asked_all f scripts in
    omega (arith, whole, later, rest, sum_by-cons (sum_by f) script scripts)
