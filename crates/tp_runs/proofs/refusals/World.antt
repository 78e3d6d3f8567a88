-- Refusals, in every state: while a transaction's coordinator is up and has not decided, facts show the reason that a server has settled the
-- transaction with, and once a server has aborted it the coordinator has done what the transaction does by itself on the store at the first
-- abort, unless work of it was lost by then; and facts show the value of each abort for a value out of its range.
use Rattle.std.specs.List.{list_any}
use Rattle.std.specs.Option.{option_map_or, option_or}
use Rattle.std.specs.Ordering.{int_eq}
use Rattle.std.proofs.Common.{Bool, IfSome, List, None, Option, Some, [], ap, arith, false, find, if◌then◌else◌, length, option_map, refl, slice_get, subst, sym, true, ℕ, ◌++◌, ◌+◌, ◌<◌, ◌∙◌, ◌∷◌, ◌≡◌, ◌≤◌, ◌||◌}
use Rattle.std.proofs.lemmas.Bool.{or_left}
use Rattle.std.proofs.lemmas.List.Folds.{list_any-append}
use Rattle.std.proofs.lemmas.List.{length_push}
use Rattle.tp_model.specs.Causes.{first_abort_of, has_refused_write, is_abort, is_explained_at, is_own_server, is_run_value, lost_work, place_of}
use Rattle.tp_model.specs.Facts.{before, is_settled_as}
use Rattle.tp_model.specs.SerialRun.{run_value, serial_run, store_of}
use Rattle.tp_model.specs.Words.cause
use Rattle.tp_model.specs.Words.decision
use Rattle.tp_model.specs.Words.no
use Rattle.tp_model.specs.Words.outcome
use Rattle.tp_model.specs.Words.what
use Rattle.tp_model.specs.Words.{Fact, No, OutOfRange, Scenario, ServerId, Settled, Step, Transaction, TxnId, What}
use Rattle.tp_runs.proofs.basics.Crashes.{shown_same}
use Rattle.tp_runs.proofs.basics.Facts.{ArePast, each_new_fact, facts_after, grows_with_facts}
use Rattle.tp_types.proofs.EachLemmas.{each_append}
use Rattle.tp_runs.proofs.basics.Phases.{Prepares, is_undecided, stand_of}
use Rattle.tp_machine.specs.Logs.{settled_at}
use Rattle.tp_machine.specs.Machine.{Move, State, facts_of, state_after}
use Rattle.tp_machine.specs.Parts.{Part}
use Rattle.tp_types.specs.Each.{Each}
use Rattle.tp_coord.specs.Row.{refused_by}
use Rattle.tp_coord.specs.State.{Coordinator}
use Rattle.tp_machine.specs.declared.actors.Actors.{Actors}

-- ---- what is shown

-- a refusal as facts show it; those that are earlier have the abort at the server
pub record IsRefused (sc : Scenario) (facts earlier : List Fact) (place : ℕ) (txn : TxnId) (refused : OutOfRange) (declared : Transaction) : Type 0 where
  pub write : has_refused_write sc declared refused ≡ true
  pub aborted : list_any (is_settled_as refused.server txn outcome.Abort) earlier ≡ true
  pub first : ℕ
  pub first_is : first_abort_of txn facts ≡ Some first
  pub past : first < place
  pub run : is_explained_at sc txn facts refused declared first ≡ true

abbrev pub RefusalShown : Scenario → List Fact → List Fact → ℕ → TxnId → OutOfRange → Type 0
RefusalShown sc facts earlier place txn refused = (declared : Transaction) → slice_get sc.txns txn.0 ≡ Some declared → IsRefused sc facts earlier place txn refused declared

abbrev pub ReasonShown : Scenario → List Fact → ℕ → ServerId → TxnId → No → Type 0
ReasonShown sc facts place at txn (no.Range number value) = RefusalShown sc facts facts place txn (refused_by at number value)
ReasonShown sc facts place at txn _ = Unit {0}

-- the transaction's coordinator is up and has not decided
pub record IsAwaiting (coordinators : List (Part Coordinator)) (txn : TxnId) : Type 0 where
  pub part : Part Coordinator
  pub c : Coordinator
  pub found : slice_get coordinators txn.0 ≡ Some part
  pub up : part.up ≡ Some c
  pub undecided : is_undecided c.phase ≡ true

abbrev pub AreSettledShown : Scenario → Actors → List Fact → ℕ → Type 0
AreSettledShown sc actors facts place = (at : ServerId) (txn : TxnId) (settled : Settled) → settled_at actors.servers at.0 txn ≡ Some settled → IsAwaiting actors.coordinators txn → IfSome settled.why (ReasonShown sc facts place at txn)

-- a coordinator brings the servers to vote, and where no work of its transaction was lost before a place that is past,
-- it has done what the transaction does by itself on the store there
pub record IsRunBefore (sc : Scenario) (facts : List Fact) (place first : ℕ) (txn : TxnId) (declared : Transaction) (c : Coordinator) : Type 0 where
  pub prepares : stand_of c.phase ≡ Prepares
  pub past : first < place
  pub runs : lost_work sc txn facts declared first ≡ false → c.deeds ≡ serial_run declared (store_of sc (before first facts))

-- once a server has aborted the transaction of a coordinator that is up and has not decided, that is so of it, at the place of the first abort
abbrev pub AreAbortedRuns : Scenario → List (Part Coordinator) → List Fact → ℕ → Type 0
AreAbortedRuns sc coordinators facts place = (txn : TxnId) (declared : Transaction) (first : ℕ) (awaiting : IsAwaiting coordinators txn) → slice_get sc.txns txn.0 ≡ Some declared → first_abort_of txn facts ≡ Some first
    → IsRunBefore sc facts place first txn declared awaiting.c

-- an abort for a refused value
abbrev pub WhatRefused : Scenario → List Fact → ℕ → What → Type 0
WhatRefused sc facts place (what.Decided txn (decision.Abort (cause.No refused))) = RefusalShown sc facts (before place facts) place txn refused
WhatRefused sc facts place _ = Unit {0}

abbrev pub FactRefused : Scenario → List Fact → Fact → Type 0
FactRefused sc facts fact = WhatRefused sc facts fact.place fact.what

pub record Refusals (sc : Scenario) (w : State) : Type 0 where
  pub settled : AreSettledShown sc w.actors w.facts (length w.steps)
  pub aborted : AreAbortedRuns sc w.actors.coordinators w.facts (length w.steps)
  pub facts : Each (FactRefused sc w.facts) w.facts

-- ---- it stays as facts are added

find_stays : (test : Fact → Bool) (facts more : List Fact) (z : ℕ) → option_map place_of (find test facts) ≡ Some z → option_map place_of (find test (facts ++ more)) ≡ Some z
find_stays test [] more z e = absurd (cc)
find_stays test (fact ∷ facts) more z e = by_test (test fact) e (λ later. find_stays test facts more z later)
  where
    by_test : (b : Bool) → option_map place_of (if b then Some fact else find test facts) ≡ Some z → (option_map place_of (find test facts) ≡ Some z → option_map place_of (find test (facts ++ more)) ≡ Some z)
        → option_map place_of (if b then Some fact else find test (facts ++ more)) ≡ Some z
    by_test true f rest = f
    by_test false f rest = rest f

-- what was lost before a place that is past stays so
pub lost_same : (sc : Scenario) (txn : TxnId) (facts : List Fact) (declared : Transaction) (first place : ℕ) (happened : List What) → first ≤ place
    → lost_work sc txn (facts ++ facts_of place happened) declared first ≡ lost_work sc txn facts declared first
lost_same sc txn facts declared first place happened le = shown_same (is_own_server sc declared) txn first place facts happened le

pub explained_same : (sc : Scenario) (txn : TxnId) (facts : List Fact) (refused : OutOfRange) (declared : Transaction) (first place : ℕ) (happened : List What) → first ≤ place
    → is_explained_at sc txn (facts ++ facts_of place happened) refused declared first ≡ is_explained_at sc txn facts refused declared first
explained_same sc txn facts refused declared first place happened le =
    ap (λ (lost : Bool). lost || is_run_value sc (facts ++ facts_of place happened) refused declared first) (lost_same sc txn facts declared first place happened le)
    ∙ ap (λ (found : List Fact). lost_work sc txn facts declared first || option_map_or (int_eq refused.value) (run_value declared (store_of sc found) refused.query) false)
    ((grows_with_facts facts place happened).same first le)

pub refused_stays : (sc : Scenario) (facts earlier later : List Fact) (happened : List What) (low high place : ℕ) (txn : TxnId) (refused : OutOfRange) (declared : Transaction)
    → (list_any (is_settled_as refused.server txn outcome.Abort) earlier ≡ true → list_any (is_settled_as refused.server txn outcome.Abort) later ≡ true) → low ≤ high → low ≤ place
    → IsRefused sc facts earlier low txn refused declared → IsRefused sc (facts ++ facts_of place happened) later high txn refused declared
refused_stays sc facts earlier later happened low high place txn refused declared more le before_new h =
    let past = h.past in
    record {
      write = h.write;
      aborted = more h.aborted;
      first = h.first;
      first_is = find_stays (is_abort txn) facts (facts_of place happened) h.first h.first_is;
      past = omega (arith, past, le);
      run = explained_same sc txn facts refused declared h.first place happened (omega (arith, past, before_new)) ∙ h.run;
    }

any_more : (test : Fact → Bool) (facts more : List Fact) → list_any test facts ≡ true → list_any test (facts ++ more) ≡ true
any_more test facts more e = list_any-append test facts more ∙ or_left (list_any test facts) (list_any test more) e

pub reason_stays : (sc : Scenario) (facts : List Fact) (happened : List What) (place : ℕ) (at : ServerId) (txn : TxnId) (why : No) → ReasonShown sc facts place at txn why
    → ReasonShown sc (facts ++ facts_of place happened) (place + 1) at txn why
reason_stays sc facts happened place at txn (no.Range number value) h = λ declared e.
    refused_stays sc facts facts (facts ++ facts_of place happened) happened place (place + 1) place txn (refused_by at number value) declared
    (any_more (is_settled_as at txn outcome.Abort) facts (facts_of place happened)) (omega arith) (omega arith) (h declared e)
reason_stays sc facts happened place at txn no.Restarted h = tt

what_stays_in_refusals : (sc : Scenario) (facts : List Fact) (happened : List What) (at place : ℕ) (w : What) → at < place → WhatRefused sc facts at w → WhatRefused sc (facts ++ facts_of place happened) at w
what_stays_in_refusals sc facts happened at place (what.Decided txn (decision.Abort (cause.No refused))) less h = λ declared e.
    let same : before at (facts ++ facts_of place happened) ≡ before at facts = (grows_with_facts facts place happened).same at (omega (arith, less)) in
    refused_stays sc facts (before at facts) (before at (facts ++ facts_of place happened)) happened at at place txn refused declared
    (λ old. ap (list_any (is_settled_as refused.server txn outcome.Abort)) same ∙ old) (omega arith) (omega (arith, less)) (h declared e)
what_stays_in_refusals sc facts happened at place _ less h = tt

facts_stay_in_refusals : (sc : Scenario) (all : List Fact) (happened : List What) (place : ℕ) (facts : List Fact) → ArePast place facts → Each (FactRefused sc all) facts → Each (FactRefused sc (all ++ facts_of place happened)) facts
facts_stay_in_refusals sc all happened place [] past h = tt
facts_stay_in_refusals sc all happened place (fact ∷ facts) past h = (what_stays_in_refusals sc all happened fact.place place fact.what past.0 h.0, facts_stay_in_refusals sc all happened place facts past.1 h.1)

-- a coordinator that brings the servers to vote still does, and has done nothing more
pub record StillPrepares (old new : Coordinator) : Type 0 where
  pub prepares : stand_of new.phase ≡ Prepares
  pub deeds : new.deeds ≡ old.deeds

-- of a coordinator that did so before
abbrev pub KeepsDeeds : Coordinator → Coordinator → Type 0
KeepsDeeds old new = stand_of old.phase ≡ Prepares → StillPrepares old new

pub keeps_same : (c : Coordinator) → KeepsDeeds c c
keeps_same c = λ prepares. record { prepares = prepares; deeds = refl }

pub run_stays : (sc : Scenario) (facts : List Fact) (happened : List What) (place first : ℕ) (txn : TxnId) (declared : Transaction) (old new : Coordinator) → KeepsDeeds old new → IsRunBefore sc facts place first txn declared old
    → IsRunBefore sc (facts ++ facts_of place happened) (place + 1) first txn declared new
run_stays sc facts happened place first txn declared old new keeps h =
    let past = h.past in
    let same : before first (facts ++ facts_of place happened) ≡ before first facts = (grows_with_facts facts place happened).same first (omega (arith, past)) in
    let still : StillPrepares old new = keeps h.prepares in
    record {
      prepares = still.prepares;
      past = omega (arith, past);
      runs = λ kept. still.deeds
          ∙ (h.runs (sym (lost_same sc txn facts declared first place happened (omega (arith, past))) ∙ kept) ∙ ap (λ (found : List Fact). serial_run declared (store_of sc found)) (sym same));
    }

-- the first abort is among the facts, or else among those that are added
pub first_abort_append : (txn : TxnId) (facts more : List Fact) → first_abort_of txn (facts ++ more) ≡ option_or (first_abort_of txn facts) (first_abort_of txn more)
first_abort_append txn [] more = refl
first_abort_append txn (fact ∷ facts) more = by_test (is_abort txn fact) (first_abort_append txn facts more)
  where
    by_test : (b : Bool) → first_abort_of txn (facts ++ more) ≡ option_or (first_abort_of txn facts) (first_abort_of txn more)
        → option_map place_of (if b then Some fact else find (is_abort txn) (facts ++ more)) ≡ option_or (option_map place_of (if b then Some fact else find (is_abort txn) facts)) (first_abort_of txn more)
    by_test true later = refl
    by_test false later = later

-- ---- a move

pub record MoveRefuses (sc : Scenario) (w : State) (move : Move) : Type 0 where
  pub settled : AreSettledShown sc move.actors (facts_after w move.happened) (length w.steps + 1)
  pub aborted : AreAbortedRuns sc move.actors.coordinators (facts_after w move.happened) (length w.steps + 1)
  pub happened : Each (WhatRefused sc (facts_after w move.happened) (length w.steps)) move.happened

pub state_after_refusals : (sc : Scenario) (w : State) (taken : Step) (move : Move) → ArePast (length w.steps) w.facts → Refusals sc w → MoveRefuses sc w move → Refusals sc (state_after w taken move)
state_after_refusals sc w taken move past h t =
    record {
      settled = subst (AreSettledShown sc move.actors (facts_after w move.happened)) (sym (length_push w.steps taken)) t.settled;
      aborted = subst (AreAbortedRuns sc move.actors.coordinators (facts_after w move.happened)) (sym (length_push w.steps taken)) t.aborted;
      facts = each_append (FactRefused sc (facts_after w move.happened)) w.facts (facts_of (length w.steps) move.happened)
          (facts_stay_in_refusals sc w.facts move.happened (length w.steps) w.facts past h.facts)
          (each_new_fact (WhatRefused sc (facts_after w move.happened)) (length w.steps) move.happened t.happened);
    }

-- what was settled before the step, where the coordinator was awaiting before it
pub old_shown : (sc : Scenario) (w : State) (happened : List What) (at : ServerId) (txn : TxnId) (settled : Settled) → Refusals sc w → settled_at w.actors.servers at.0 txn ≡ Some settled
    → IsAwaiting w.actors.coordinators txn → IfSome settled.why (ReasonShown sc (facts_after w happened) (length w.steps + 1) at txn)
old_shown sc w happened at txn settled h e awaiting = by_why settled.why (h.settled at txn settled e awaiting)
  where
    by_why : (why : Option No) → IfSome why (ReasonShown sc w.facts (length w.steps) at txn) → IfSome why (ReasonShown sc (facts_after w happened) (length w.steps + 1) at txn)
    by_why None k = tt
    by_why (Some why) k = reason_stays sc w.facts happened (length w.steps) at txn why k

-- what was aborted before the step was run before it, and is still; now is what is to be shown where the step has the first abort
pub old_run : (sc : Scenario) (w : State) (happened : List What) (txn : TxnId) (declared : Transaction) (first : ℕ) (awaiting : IsAwaiting w.actors.coordinators txn) (new : Coordinator) → Refusals sc w
    → slice_get sc.txns txn.0 ≡ Some declared → KeepsDeeds awaiting.c new → (first_abort_of txn w.facts ≡ None → first_abort_of txn (facts_of (length w.steps) happened) ≡ Some first → IsRunBefore sc (facts_after w happened) (length w.steps + 1) first txn declared new)
    → first_abort_of txn (facts_after w happened) ≡ Some first → IsRunBefore sc (facts_after w happened) (length w.steps + 1) first txn declared new
old_run sc w happened txn declared first awaiting new h exists keeps now e =
    by_old (first_abort_of txn w.facts) refl (sym (first_abort_append txn w.facts (facts_of (length w.steps) happened)) ∙ e)
  where
    by_old : (old : Option ℕ) → first_abort_of txn w.facts ≡ old → option_or old (first_abort_of txn (facts_of (length w.steps) happened)) ≡ Some first
        → IsRunBefore sc (facts_after w happened) (length w.steps + 1) first txn declared new
    by_old None none later = now none later
    by_old (Some was) found later =
        run_stays sc w.facts happened (length w.steps) first txn declared awaiting.c new keeps (h.aborted txn declared first awaiting exists (found ∙ later))
