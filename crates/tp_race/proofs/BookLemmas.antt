-- The book of a race whose callers have done their whole scripts.
use Rattle.std.proofs.Common.{◌≡◌, inl, ℕ, ◌+◌, ◌<◌, ◌≤◌, ◌==◌, zero, suc, List, [], ◌∷◌, append-nil, cond, length, not, slice_get, Bool, true, false, Some, refl, sym, ap, subst, ◌∙◌, arith}
use Rattle.std.proofs.lemmas.List.Sums.{sum_by-cons}
use Rattle.std.specs.List.{count_by, sum_by}
use Rattle.tp_cluster.proofs.RunLemmas.{all_named}
use Rattle.tp_cluster.specs.Calls.{IsClosedWorld}
use Rattle.tp_cluster.specs.Runs.{actors_of}
use Rattle.tp_cluster.specs.declared.plan.Plan.{Plan}
use Rattle.tp_machine.specs.Named.{IsStepOf}
use Rattle.tp_machine.specs.WorldView.{WorldView}
use Rattle.tp_model.specs.Words.step
use Rattle.tp_model.specs.Words.{Scenario, Step}
use Rattle.tp_types.proofs.EachLemmas.{each_placed}
use Rattle.tp_types.specs.Each.{Each}
use Rattle.tp_wire.proofs.ListLemmas.{each_back, each_front, times-append}
use Rattle.tp_wire.specs.declared.view.Entry.{Entry}
use Rattle.tp_wire.specs.declared.view.Part.{Part}
use Rattle.tp_wire.specs.declared.view.View.{View}
use Rattle.tp_wire.specs.Closing.{own, parts_of, taken_in}
use Rattle.tp_wire.specs.Entries.{steps_in}
use Rattle.tp_wire.specs.History.{names, one_if, times}
use Rattle.tp_race.proofs.ClosedLemmas.{book_left, raced, taken_append}
use Rattle.tp_race.proofs.ListLemmas.{one_by}
use Rattle.tp_race.proofs.ShareLemmas.{InOrder, Silent, left_from, own_of}
use Rattle.tp_race.proofs.TallyLemmas.{spread, tallied}
use Rattle.tp_race.specs.Callers.{AllFrom, AreAll, HasEnded, HasRun, IsAt, callers_of, commands, deliveries, is_delivery, mail_of, script_at, script_or, scripts_of}
use Rattle.tp_race.specs.WholeRace.{IsWithin, delivers}
use Rattle.tp_race.specs.WholeRace.IsWithin.{Kept, Nothing, Passed}

-- the book has of each script what the script has, within it, and delivers no mail twice
pub record IsRaceBook (sc : Scenario) (book : List Step) : Type 0 where
  pub exist : Each (IsStepOf sc) book
  pub weighs : (f : Step → ℕ) → Silent f → sum_by f book ≡ sum_by (sum_by f) (scripts_of sc)
  pub within : Each (λ (script : List Step). IsWithin script book) (scripts_of sc)
  pub once : (mail : ℕ) → count_by (delivers mail) book ≤ 1

-- ---- nothing is left

abbrev ends_of : (sc : Scenario) (caller : ℕ) (views : List View) → AllFrom (HasRun sc) caller views → AllFrom (HasEnded sc) caller views
ends_of sc caller [] runs = tt
ends_of sc caller (v ∷ views) runs = (inl runs.0, ends_of sc (caller + 1) views runs.1)

nothing_left : (f : Step → ℕ) (sc : Scenario) (caller : ℕ) (views : List View) (runs : AllFrom (HasRun sc) caller views) → left_from f sc caller views (ends_of sc caller views runs) ≡ 0
nothing_left f sc caller [] runs = refl
nothing_left f sc caller (v ∷ views) runs = let later = nothing_left f sc (caller + 1) views runs.1 in omega (arith, later)

-- ---- scripts stand within

kept_within : (c : Bool) (x : Step) (xs ys : List Step) → IsWithin xs ys → IsWithin (cond c (x ∷ xs) xs) (x ∷ ys)
kept_within true x xs ys h = Kept x xs ys h
kept_within false x xs ys h = Passed x xs ys h

own_step : (b : Bool) (e : Entry) (es log : List Entry) → IsWithin (commands (steps_in es)) (steps_in log) → IsWithin (commands (steps_in (cond b (e ∷ es) es))) (e.step ∷ steps_in log)
own_step true e es log h = kept_within (not (is_delivery e.step)) e.step (commands (steps_in es)) (steps_in log) h
own_step false e es log h = Passed e.step (commands (steps_in es)) (steps_in log) h

own_within : (number : ℕ) (log : List Entry) → IsWithin (commands (steps_in (own number log))) (steps_in log)
own_within number [] = Nothing []
own_within number (e ∷ log) = own_step (names number e) e (own number log) log (own_within number log)

-- what a caller has done does so
done_within : (sc : Scenario) (log : List Entry) (caller : ℕ) (done : List Step) (v : View) → IsAt sc caller done v → Each (InOrder log) v.parts → IsWithin done (steps_in log)
done_within sc log caller done v at in_order =
    subst (λ (steps : List Step). IsWithin steps (steps_in log))
    (ap (λ (es : List Entry). commands (steps_in es)) (own_of sc log caller done v at in_order) ∙ at.commanded) (own_within (actors_of sc + caller) log)

caller_within : (sc : Scenario) (log : List Entry) (caller : ℕ) (views : List View) (n : ℕ) → AllFrom (HasRun sc) caller views → Each (InOrder log) (parts_of views) → n < length views → IsWithin (script_at sc (caller + n)) (steps_in log)
caller_within sc log caller [] n runs in_order less = absurd (omega (arith, less))
caller_within sc log caller (v ∷ views) zero runs in_order less =
    let place : caller ≡ caller + 0 = omega arith in
    subst (λ (k : ℕ). IsWithin (script_at sc k) (steps_in log)) place (done_within sc log caller (script_at sc caller) v runs.0 (each_front (InOrder log) v.parts (parts_of views) in_order))
caller_within sc log caller (v ∷ views) (suc n) runs in_order less =
    let place : caller + 1 + n ≡ caller + suc n = omega arith in
    subst (λ (k : ℕ). IsWithin (script_at sc k) (steps_in log)) place
    (caller_within sc log (caller + 1) views n runs.1 (each_back (InOrder log) v.parts (parts_of views) in_order) (omega (arith, less)))

placed_low : {A : Type 0} (xs : List A) (n : ℕ) (x : A) → slice_get xs n ≡ Some x → n < length xs
placed_low [] n x e = absurd (cc)
placed_low (y ∷ xs) zero x e = omega arith
placed_low (y ∷ xs) (suc n) x e = omega (arith, placed_low xs n x e)

scripts_within : (sc : Scenario) (log : List Entry) (views : List View) → length views ≡ callers_of sc → AllFrom (HasRun sc) 0 views → Each (InOrder log) (parts_of views) → Each (λ (script : List Step). IsWithin script (steps_in log)) (scripts_of sc)
scripts_within sc log views count runs in_order =
    each_placed (λ (script : List Step). IsWithin script (steps_in log)) (scripts_of sc)
    (λ n script found.
    let place : 0 + n ≡ n = omega arith in
    subst (λ (s : List Step). IsWithin s (steps_in log)) (ap (script_at sc) place ∙ ap script_or found)
    (caller_within sc log 0 views n runs in_order (omega (arith, count, placed_low (scripts_of sc) n script found))))

-- ---- deliveries

delivered_here : (mail : ℕ) (taken : Step) → one_by (delivers mail taken) ≡ times mail (mail_of taken)
delivered_here mail (step.Deliver other) = by_test (other == mail)
  where
    by_test : (b : Bool) → one_by b ≡ one_if b + 0
    by_test true = refl
    by_test false = refl
delivered_here mail _ = refl

delivered_times : (mail : ℕ) (steps : List Step) → count_by (delivers mail) steps ≡ times mail (deliveries steps)
delivered_times mail [] = refl
delivered_times mail (taken ∷ steps) =
    let later = delivered_times mail steps in
    omega (arith, sum_by-cons (λ (s : Step). one_by (delivers mail s)) taken steps, times-append mail (mail_of taken) (deliveries steps), delivered_here mail taken, later)

-- a caller delivers what it took
taken_of : (sc : Scenario) (mail : ℕ) (log : List Entry) (caller : ℕ) (done : List Step) (v : View) → IsAt sc caller done v → Each (InOrder log) v.parts
    → count_by (delivers mail) (steps_in (own (actors_of sc + caller) log)) ≡ times mail (taken_in v.parts)
taken_of sc mail log caller done v at in_order =
    ap (λ (es : List Entry). count_by (delivers mail) (steps_in es)) (own_of sc log caller done v at in_order)
    ∙ (delivered_times mail (steps_in (own at.part.number at.part.upto))
    ∙ (ap (times mail) (at.delivered ∙ sym (append-nil at.part.took))
    ∙ ap (λ (ps : List Part). times mail (taken_in ps)) (sym at.one)))

all_taken : (sc : Scenario) (mail : ℕ) (log : List Entry) (caller : ℕ) (views : List View) → AllFrom (HasRun sc) caller views → Each (InOrder log) (parts_of views)
    → spread (λ (taken : Step). one_by (delivers mail taken)) log (actors_of sc + caller) (length views) ≡ times mail (taken_in (parts_of views))
all_taken sc mail log caller [] runs in_order = refl
all_taken sc mail log caller (v ∷ views) runs in_order =
    let f : Step → ℕ = λ taken. one_by (delivers mail taken) in
    let here = taken_of sc mail log caller (script_at sc caller) v runs.0 (each_front (InOrder log) v.parts (parts_of views) in_order) in
    let later = all_taken sc mail log (caller + 1) views runs.1 (each_back (InOrder log) v.parts (parts_of views) in_order) in
    let next : spread f log (actors_of sc + caller + 1) (length views) ≡ spread f log (actors_of sc + (caller + 1)) (length views) = ap (λ (n : ℕ). spread f log n (length views)) (omega arith) in
    omega (arith, here, later, next, taken_append mail v.parts (parts_of views))

-- ---- the book

pub race_book : (plan : Plan) (views : List View) (world : WorldView) (closed : IsClosedWorld plan views world) → plan.callers ≡ callers_of plan.scenario → AreAll (HasRun plan.scenario) (callers_of plan.scenario) views
    → IsRaceBook plan.scenario closed.book.steps
race_book plan views world closed count all =
    let r = raced plan views world closed in
    record {
      exist = subst (Each (IsStepOf plan.scenario)) (sym r.steps) (all_named plan.scenario r.log r.lawful);
      weighs = λ f silent.
          let whole = book_left plan.scenario plan.callers views closed.book.steps r count all.count (ends_of plan.scenario 0 views all.each) f silent in
          let none = nothing_left f plan.scenario 0 views all.each in
          let same : sum_by f closed.book.steps ≡ sum_by f (steps_in r.log) = ap (sum_by f) r.steps in
          omega (arith, whole, none, same);
      within = subst (λ (steps : List Step). Each (λ (script : List Step). IsWithin script steps) (scripts_of plan.scenario)) (sym r.steps) (scripts_within plan.scenario r.log views all.count all.each r.in_order);
      once = λ mail.
          let f : Step → ℕ = λ taken. one_by (delivers mail taken) in
          let tally = tallied f (actors_of plan.scenario) plan.callers r.log r.each in
          let place : actors_of plan.scenario + 0 ≡ actors_of plan.scenario = omega arith in
          let first : spread f r.log (actors_of plan.scenario + 0) (length views) ≡ spread f r.log (actors_of plan.scenario) plan.callers =
          ap (λ (n : ℕ). spread f r.log n (length views)) place ∙ ap (spread f r.log (actors_of plan.scenario)) (all.count ∙ sym count) in
          let taken = all_taken plan.scenario mail r.log 0 views all.each r.in_order in
          let once = r.taken_once mail in
          let same : count_by (delivers mail) closed.book.steps ≡ count_by (delivers mail) (steps_in r.log) = ap (count_by (delivers mail)) r.steps in
          omega (arith, tally, first, taken, once, same);
    }
