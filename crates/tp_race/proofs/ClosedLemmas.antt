-- What the closed book of a race tells of its callers, and that none of them was refused a step.
use Rattle.std.proofs.Common.{◌≡◌, ℕ, ◌+◌, ◌<◌, ◌≤◌, List, [], ◌∷◌, ◌++◌, length, nat_lt, Bool, true, false, refl, sym, ap, subst, ◌∙◌, append_assoc, arith}
use Rattle.std.proofs.lemmas.Bool.Decides.{nat_tests}
use Rattle.std.proofs.lemmas.Grind.{flat_map-append}
use Rattle.std.specs.List.{sum_by}
use Rattle.tp_cluster.specs.Calls.{IsClosedWorld}
use Rattle.tp_cluster.specs.Runs.{IsNext, actors_of}
use Rattle.tp_cluster.specs.declared.plan.Plan.{Plan}
use Rattle.tp_machine.specs.Moves.{number_of}
use Rattle.tp_machine.specs.WorldView.{WorldView}
use Rattle.tp_model.specs.Valid.{is_valid}
use Rattle.tp_model.specs.Words.{Scenario, Step}
use Rattle.tp_types.proofs.EachLemmas.{each_both}
use Rattle.tp_types.specs.Each.{Each}
use Rattle.tp_wire.proofs.ListLemmas.{each_front, times-append}
use Rattle.tp_wire.specs.declared.view.Entry.{Entry}
use Rattle.tp_wire.specs.declared.view.Part.{Part}
use Rattle.tp_wire.specs.declared.view.View.{View}
use Rattle.tp_wire.specs.Closing.{parts_of, taken_in}
use Rattle.tp_wire.specs.Entries.{steps_in}
use Rattle.tp_wire.specs.History.{HasOneActor, Lawful, StartsWith, one_if, times, times_below}
use Rattle.tp_race.proofs.RefusalLemmas.{all_run}
use Rattle.tp_race.proofs.ShareLemmas.{InOrder, Silent, asked, asked_all, left_from, shares}
use Rattle.tp_race.proofs.TallyLemmas.{IsOfOne, spread, tallied}
use Rattle.tp_race.specs.Callers.{AllFrom, AreAll, HasEnded, HasRun, callers_of, scripts_of}

-- ---- what the closing tells

-- there is one history, each entry of which is of one caller; what each caller has seen begins it, its part has all
-- entries of its own, and no mail was taken twice
pub record IsRaced (sc : Scenario) (callers : ℕ) (views : List View) (book : List Step) : Type 0 where
  pub log : List Entry
  pub steps : book ≡ steps_in log
  pub lawful : Lawful (IsNext sc) log
  pub each : Each (IsOfOne (actors_of sc) callers) log
  pub in_order : Each (InOrder log) (parts_of views)
  pub seen : Each (λ (v : View). StartsWith log v.seen) views
  pub taken_once : (mail : ℕ) → times mail (taken_in (parts_of views)) ≤ 1

-- an entry that may follow some others
abbrev Follows : Scenario → Entry → Type 0
Follows sc e = (before : List Entry) × IsNext sc before e

each_follows : (sc : Scenario) (log before rest : List Entry) → log ≡ before ++ rest → Lawful (IsNext sc) log → Each (Follows sc) rest
each_follows sc log before [] same lawful = tt
each_follows sc log before (e ∷ rest) same lawful =
    ((before, lawful before e rest same), each_follows sc log (before ++ e ∷ []) rest (same ∙ sym (append_assoc before (e ∷ []) rest)) lawful)

moved_low : (actors caller mover : ℕ) → actors ≤ caller → one_if (nat_lt caller actors) + (one_if (nat_lt mover actors) + 0) ≡ 1 → mover < actors
moved_low actors caller mover called one = by_test (nat_lt mover actors) refl
  where
    by_test : (b : Bool) → nat_lt mover actors ≡ b → mover < actors
    by_test true e = grind (arith, nat_tests)
    by_test false e =
        let first : one_if (nat_lt caller actors) ≡ 0 = ap one_if (off caller actors called) in
        let second : one_if (nat_lt mover actors) ≡ 0 = ap one_if e in
        absurd (omega (arith, one, first, second))
      where
        off : (n low : ℕ) → low ≤ n → nat_lt n low ≡ false
        off n low less = grind (arith, nat_tests)

one_of : (sc : Scenario) (callers : ℕ) (e : Entry) → Follows sc e → HasOneActor (actors_of sc) e → Each (λ (number : ℕ). number < actors_of sc + callers) e.numbers → IsOfOne (actors_of sc) callers e
one_of sc callers e follows acted named =
    let next : IsNext sc follows.0 e = follows.1 in
    let low = subst (Each (λ (number : ℕ). number < actors_of sc + callers)) next.numbers named in
    record {
      caller = next.caller;
      mover = number_of sc next.who;
      numbers = next.numbers;
      called = next.called;
      few = low.0;
      moved = moved_low (actors_of sc) next.caller (number_of sc next.who) next.called (sym (ap (times_below (actors_of sc)) next.numbers) ∙ acted);
    }

pub taken_append : (mail : ℕ) (ps qs : List Part) → times mail (taken_in (ps ++ qs)) ≡ times mail (taken_in ps) + times mail (taken_in qs)
taken_append mail [] qs = omega arith
taken_append mail (p ∷ ps) qs =
    let rest = taken_append mail ps qs in
    omega (arith, rest, times-append mail p.took (taken_in (ps ++ qs)), times-append mail p.took (taken_in ps))

pub raced : (plan : Plan) (views : List View) (world : WorldView) (closed : IsClosedWorld plan views world) → IsRaced plan.scenario plan.callers views closed.book.steps
raced plan views world closed =
    let c = closed.closed in
    let parts = flat_map-append (λ (v : View). v.parts) views closed.offices in
    record {
      log = c.log;
      steps = c.steps;
      lawful = c.lawful;
      each = each_both (λ (e : Entry). Follows plan.scenario e × HasOneActor (actors_of plan.scenario) e) (λ (e : Entry). Each (λ (number : ℕ). number < actors_of plan.scenario + plan.callers) e.numbers)
          (IsOfOne (actors_of plan.scenario) plan.callers) (λ e both named. one_of plan.scenario plan.callers e both.0 both.1 named) c.log
          (each_both (Follows plan.scenario) (HasOneActor (actors_of plan.scenario)) (λ (e : Entry). Follows plan.scenario e × HasOneActor (actors_of plan.scenario) e) (λ e follows acted. (follows, acted)) c.log
          (each_follows plan.scenario c.log [] c.log refl c.lawful) c.acted)
          c.named;
      in_order = each_front (InOrder c.log) (parts_of views) (parts_of closed.offices) (subst (Each (InOrder c.log)) parts c.in_order);
      seen = each_front (λ (v : View). StartsWith c.log v.seen) views closed.offices c.seen;
      taken_once = λ mail.
          let once = c.taken_once mail in
          let whole : times mail (taken_in (parts_of (views ++ closed.offices))) ≡ times mail (taken_in (parts_of views ++ parts_of closed.offices)) = ap (λ (ps : List Part). times mail (taken_in ps)) parts in
          omega (arith, once, whole, taken_append mail (parts_of views) (parts_of closed.offices));
    }

-- ---- nobody was refused

-- what the book weighs and is left is what all scripts have
pub book_left : (sc : Scenario) (callers : ℕ) (views : List View) (book : List Step) (r : IsRaced sc callers views book) → callers ≡ callers_of sc → length views ≡ callers_of sc → (ends : AllFrom (HasEnded sc) 0 views)
    → (f : Step → ℕ) → Silent f → sum_by f (steps_in r.log) + left_from f sc 0 views ends ≡ sum_by (sum_by f) (scripts_of sc)
book_left sc callers views book r count length_is ends f silent =
    let all = tallied f (actors_of sc) callers r.log r.each in
    let share = shares sc f silent r.log 0 views ends r.in_order in
    let place : actors_of sc + 0 ≡ actors_of sc = omega arith in
    let first : spread f r.log (actors_of sc + 0) (length views) ≡ spread f r.log (actors_of sc) callers =
    ap (λ (n : ℕ). spread f r.log n (length views)) place ∙ ap (spread f r.log (actors_of sc)) (length_is ∙ sym count) in
    let scripts : asked f (scripts_of sc) 0 (length views) ≡ sum_by (sum_by f) (scripts_of sc) = ap (asked f (scripts_of sc) 0) length_is ∙ asked_all f (scripts_of sc) in
    omega (arith, all, share, first, scripts)

-- the cluster refuses no step of a script: callers that ended have done their whole scripts
pub never_stopped : (plan : Plan) (views : List View) (world : WorldView) → is_valid plan.scenario ≡ true → plan.callers ≡ callers_of plan.scenario → IsClosedWorld plan views world
    → AreAll (HasEnded plan.scenario) (callers_of plan.scenario) views → AreAll (HasRun plan.scenario) (callers_of plan.scenario) views
never_stopped plan views world formed count closed all =
    let r = raced plan views world closed in
    record {
      count = all.count;
      each = all_run plan.scenario r.log 0 views formed all.each r.seen
          (λ f silent. let whole = book_left plan.scenario plan.callers views closed.book.steps r count all.count all.each f silent in omega (arith, whole));
    }
