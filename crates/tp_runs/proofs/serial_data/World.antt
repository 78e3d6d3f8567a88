-- Serial data over every list of steps: each commit did what its transaction does by itself, and servers apply it.
use Rattle.std.specs.Cmp.Lexicographic.{pointwise}
use Rattle.std.specs.List.{list_any}
use Rattle.std.specs.Option.{option_map_or, option_or}
use Rattle.std.specs.Ordering.{int_eq}
use Rattle.std.proofs.Common.{Bool, IfSome, List, None, Option, Some, [], ap, arith, false, fold, if◌then◌else◌, is_some, length, refl, slice_get, subst, sym, true, ℕ, ℤ, ◌&&◌, ◌++◌, ◌==◌, ◌||◌, ◌∙◌, ◌∷◌, ◌≡◌}
use Rattle.std.proofs.lemmas.Bool.Decides.{Decides-int_eq}
use Rattle.std.proofs.lemmas.Bool.{and_from}
use Rattle.std.proofs.lemmas.List.Sums.{fold-append}
use Rattle.tp_types.proofs.ListLemmas.{number_itself}
use Rattle.tp_model.specs.Facts.{before, commit_in_what, commit_of, is_decided_as, is_decided_what, is_earlier}
use Rattle.tp_model.specs.Ids.{same_item, same_txn}
use Rattle.tp_model.specs.Policies.{same_action}
use Rattle.tp_model.specs.SerialRun.{are_in_range, is_serial_commit, keeps_serial, keeps_serial_what, opening_store, overlay, overlay_deeds, overlay_fact, overlay_what, same_deed, serial_run, store_of, with_deeds, with_fact, with_what}
use Rattle.tp_model.specs.Words.action
use Rattle.tp_model.specs.Words.decision
use Rattle.tp_model.specs.Words.outcome
use Rattle.tp_model.specs.Words.what
use Rattle.tp_model.specs.Words.{Action, CommitRecord, Deed, Fact, Item, Prepared, Scenario, ServerId, Step, Transaction, TxnId, What}
use Rattle.tp_runs.proofs.agreement.World.{Agrees, FactFollows}
use Rattle.tp_runs.proofs.basics.Facts.{ArePast, Grows, before_past, grows_with_facts}
use Rattle.tp_types.proofs.EachLemmas.{each_append, each_as}
use Rattle.tp_runs.proofs.basics.Logs.{first_kept}
use Rattle.tp_recover.proofs.LogLemmas.{first_first}
use Rattle.tp_runs.proofs.locked.World.{ServersLocked}
use Rattle.tp_runs.proofs.deeds.Commits.{IsItemAt}
use Rattle.tp_runs.proofs.deeds.Joined.{share_at}
use Rattle.tp_runs.proofs.basics.Folds.{any_filtered, fold_as, pointwise_itself}
use Rattle.tp_runs.proofs.deeds.Ranges.{AreTested}
use Rattle.tp_runs.proofs.serial_data.OnLog.{LogReads}
use Rattle.tp_runs.proofs.serial_data.UpOnLog.{UpOnLog}
use Rattle.tp_runs.proofs.deeds.Stores.{StoreFits}
use Rattle.tp_runs.proofs.serial_data.Unsettled.{IsUnsettled}
use Rattle.tp_recover.specs.Log.{prepared_in, values_in}
use Rattle.tp_machine.specs.Logs.{decided_at, prepared_at}
use Rattle.tp_machine.specs.Machine.{Move, State, facts_of, state_after}
use Rattle.tp_machine.specs.Parts.{Part}
use Rattle.tp_types.specs.Each.{Each, EachAt}
use Rattle.tp_machine.specs.declared.actors.Actors.{Actors}
use Rattle.tp_server.specs.State.{Server}

-- ---- the invariant

-- the server's items have the values of the store
abbrev pub HoldsValues : Scenario → ServerId → List ℤ → List ℤ → Type 0
HoldsValues sc at store values = (n : ℕ) (item : Item) → slice_get sc.items n ≡ Some item → item.server ≡ at → slice_get values n ≡ slice_get store n

-- of a server, up or down: its log leaves its items the values of the store; what is prepared there has read those values, is apart, and
-- was tested against the ranges of items. Of one that is up: its entries have read its values, which are its log's
pub record ServerPartSerial (sc : Scenario) (store : List ℤ) (at : ServerId) (part : Part Server) : Type 0 where
  pub kept : HoldsValues sc at store (values_in sc part.log)
  pub log : LogReads sc part.log
  pub tested : (txn : TxnId) (p : Prepared) → prepared_in txn part.log ≡ Some p → AreTested sc p.deeds
  pub state : IfSome part.up (λ (s : Server). UpOnLog sc s part.log)

abbrev pub ServersSerial : Scenario → List ℤ → List (Part Server) → Type 0
ServersSerial sc store servers = EachAt (λ (n : ℕ) (part : Part Server). ServerPartSerial sc store (record { 0 = n }) part) servers

-- what a server has prepared of a commit is its share of the commit's deeds
abbrev pub AreShares : Scenario → Actors → Type 0
AreShares sc actors = (txn : TxnId) (at : ℕ) (committed : CommitRecord) (p : Prepared) → decided_at actors.coordinators txn.0 ≡ Some (decision.Commit committed)
    → prepared_at actors.servers at txn ≡ Some p → p.deeds ≡ share_at sc at committed.deeds

-- at each server the store has the values that settled commits left, but for commits that the server has not settled
abbrev pub StoreStands : Scenario → Actors → List ℤ → List ℤ → Type 0
StoreStands sc actors values store = (at : ℕ) → StoreFits (IsItemAt sc at) (IsUnsettled sc actors at) values store

-- all that serial data rests on
pub record Serial (sc : Scenario) (w : State) : Type 0 where
  -- servers' values, by their logs, are those that settled commits leave; what is prepared, and what entries have read, are these values
  pub servers : ServersSerial sc (overlay sc w.facts) w.actors.servers
  -- locks keep the deeds of transactions apart
  pub locked : ServersLocked sc w.actors.servers
  -- servers prepare their shares of commits
  pub shares : AreShares sc w.actors
  -- the store differs from what is settled in what is not settled yet
  pub store : StoreStands sc w.actors (overlay sc w.facts) (store_of sc w.facts)
  -- each commit is serial
  pub facts : Each (λ (fact : Fact). keeps_serial sc w.facts fact ≡ true) w.facts
  -- what all commits leave is in range
  pub range : are_in_range sc.items (store_of sc w.facts) ≡ true

-- ---- a move

-- a settled commit has its record among the facts
abbrev pub IsCommitted : List Fact → What → Type 0
IsCommitted facts (what.Settled at txn outcome.Commit) = is_some (commit_of txn facts) ≡ true
IsCommitted facts _ = Unit {0}

-- what a step tells of commits: one that is decided is serial on the store, and one that is settled was decided
abbrev pub WhatSerial : Scenario → List Fact → What → Type 0
WhatSerial sc facts (what.Decided txn (decision.Commit committed)) = option_map_or (is_serial_commit sc (store_of sc facts) committed) (slice_get sc.txns txn.0) false ≡ true
WhatSerial sc facts (what.Settled at txn outcome.Commit) = is_some (commit_of txn facts) ≡ true
WhatSerial sc facts _ = Unit {0}

-- the values that settled commits leave after a move
abbrev pub overlaid_by : Scenario → State → List What → List ℤ
overlaid_by sc w happened = fold (overlay_what sc w.facts) (overlay sc w.facts) happened

-- the store after a move
abbrev pub store_by : Scenario → State → List What → List ℤ
store_by sc w happened = fold with_what (store_of sc w.facts) happened

-- a step leaves actors and facts that are serial
pub record MoveSerial (sc : Scenario) (w : State) (move : Move) : Type 0 where
  pub servers : ServersSerial sc (overlaid_by sc w move.happened) move.actors.servers
  pub shares : AreShares sc move.actors
  pub store : StoreStands sc move.actors (overlaid_by sc w move.happened) (store_by sc w move.happened)
  pub happened : Each (WhatSerial sc w.facts) move.happened
  pub range : are_in_range sc.items (store_by sc w move.happened) ≡ true

-- ---- commits

same_action_itself : (kind : Action) → same_action kind kind ≡ true
same_action_itself action.Read = refl
same_action_itself action.Write = refl

same_deed_itself : (deed : Deed) → same_deed deed deed ≡ true
same_deed_itself deed =
    and_from ((deed.query == deed.query) && same_item deed.item deed.item) (same_action deed.action deed.action && int_eq deed.value deed.value)
    (and_from (deed.query == deed.query) (same_item deed.item deed.item) (number_itself deed.query) (number_itself deed.item.0))
    (and_from (same_action deed.action deed.action) (int_eq deed.value deed.value) (same_action_itself deed.action) ((Decides-int_eq deed.value deed.value).1 refl))

-- the deeds of a transaction run by itself on the store, which leave it in range, are a serial commit
pub run_is_serial : (sc : Scenario) (store : List ℤ) (committed : CommitRecord) (declared : Transaction) → committed.deeds ≡ serial_run declared store
    → are_in_range sc.items (with_deeds store committed.deeds) ≡ true → is_serial_commit sc store committed declared ≡ true
run_is_serial sc store committed declared runs range =
    and_from (pointwise same_deed committed.deeds (serial_run declared store)) (are_in_range sc.items (with_deeds store committed.deeds))
    (ap (pointwise same_deed committed.deeds) (sym runs) ∙ pointwise_itself same_deed same_deed_itself committed.deeds) range

-- ---- facts

-- a fact keeps its rule as later facts come
keeps_same_in_serial_data : (sc : Scenario) (old new : List Fact) (place : ℕ) (w : What) → before place new ≡ before place old → keeps_serial_what sc old place w ≡ true → keeps_serial_what sc new place w ≡ true
keeps_same_in_serial_data sc old new place (what.Decided txn (decision.Commit committed)) e h =
    subst (λ (earlier : List Fact). option_map_or (is_serial_commit sc (store_of sc earlier) committed) (slice_get sc.txns txn.0) false ≡ true) (sym e) h
keeps_same_in_serial_data sc old new place _ e h = refl

facts_stay_in_serial_data : (sc : Scenario) (old new : List Fact) (place : ℕ) (facts : List Fact) → Grows old new place → ArePast place facts → Each (λ (fact : Fact). keeps_serial sc old fact ≡ true) facts
    → Each (λ (fact : Fact). keeps_serial sc new fact ≡ true) facts
facts_stay_in_serial_data sc old new place [] g past h = tt
facts_stay_in_serial_data sc old new place (fact ∷ facts) g past h =
    (keeps_same_in_serial_data sc old new fact.place fact.what (g.same fact.place (omega (arith, past.0))) h.0, facts_stay_in_serial_data sc old new place facts g past.1 h.1)

-- a new fact keeps its rule
new_serial : (sc : Scenario) (old new : List Fact) (place : ℕ) (w : What) → before place new ≡ old → WhatSerial sc old w → keeps_serial_what sc new place w ≡ true
new_serial sc old new place (what.Decided txn (decision.Commit committed)) e h =
    subst (λ (earlier : List Fact). option_map_or (is_serial_commit sc (store_of sc earlier) committed) (slice_get sc.txns txn.0) false ≡ true) (sym e) h
new_serial sc old new place _ e h = refl

new_facts_serial : (sc : Scenario) (old new : List Fact) (place : ℕ) (happened : List What) → before place new ≡ old → Each (WhatSerial sc old) happened
    → Each (λ (fact : Fact). keeps_serial sc new fact ≡ true) (facts_of place happened)
new_facts_serial sc old new place [] e h = tt
new_facts_serial sc old new place (w ∷ happened) e h = (new_serial sc old new place w e h.0, new_facts_serial sc old new place happened e h.1)

-- ---- the store

stored_facts : (place : ℕ) (happened : List What) (store : List ℤ) → fold with_fact store (facts_of place happened) ≡ fold with_what store happened
stored_facts place [] store = refl
stored_facts place (w ∷ happened) store = stored_facts place happened (with_what store w)

-- the store after a step
store_move : (sc : Scenario) (w : State) (place : ℕ) (happened : List What) → store_by sc w happened ≡ store_of sc (w.facts ++ facts_of place happened)
store_move sc w place happened = sym (fold-append with_fact (opening_store sc) w.facts (facts_of place happened) ∙ stored_facts place happened (store_of sc w.facts))

-- ---- what is settled

told_first : (txn : TxnId) (w : What) (facts : List Fact) → (list_any (is_decided_as txn outcome.Commit) facts ≡ true → is_some (commit_of txn facts) ≡ true)
    → (is_decided_what txn outcome.Commit w || list_any (is_decided_as txn outcome.Commit) facts) ≡ true → is_some (option_or (commit_in_what txn w) (commit_of txn facts)) ≡ true
told_first txn (what.Decided other (decision.Commit committed)) facts later e = told (same_txn other txn) e
  where
    told : (b : Bool) → ((b && true) || list_any (is_decided_as txn outcome.Commit) facts) ≡ true → is_some (option_or (if b then Some committed else None) (commit_of txn facts)) ≡ true
    told true f = refl
    told false f = later f
told_first txn (what.Decided other (decision.Abort why)) facts later e = told (same_txn other txn) e
  where
    told : (b : Bool) → ((b && false) || list_any (is_decided_as txn outcome.Commit) facts) ≡ true → is_some (option_or (if b then None else None) (commit_of txn facts)) ≡ true
    told true f = later f
    told false f = later f
told_first txn _ facts later e = later e

-- a commit that is told is found
commit_told_in_world : (txn : TxnId) (facts : List Fact) → list_any (is_decided_as txn outcome.Commit) facts ≡ true → is_some (commit_of txn facts) ≡ true
commit_told_in_world txn [] e = absurd (cc)
commit_told_in_world txn (fact ∷ facts) e = told_first txn fact.what facts (commit_told_in_world txn facts) e

fact_committed : (sc : Scenario) (facts : List Fact) (place : ℕ) (w : What) → FactFollows sc facts (record { place = place; what = w }) → IsCommitted facts w
fact_committed sc facts place (what.Settled at txn outcome.Commit) h =
    commit_told_in_world txn facts (any_filtered (is_decided_as txn outcome.Commit) (is_earlier place) facts h.follows)
fact_committed sc facts place _ h = tt

commit_append : (txn : TxnId) (facts more : List Fact) → commit_of txn (facts ++ more) ≡ option_or (commit_of txn facts) (commit_of txn more)
commit_append txn [] more = refl
commit_append txn (fact ∷ facts) more = ap (option_or (commit_in_what txn fact.what)) (commit_append txn facts more) ∙ sym (first_first (commit_in_what txn fact.what) (commit_of txn facts) (commit_of txn more))

-- what was overlaid is overlaid alike as later facts come
overlaid_same : (sc : Scenario) (facts more : List Fact) (w : What) → IsCommitted facts w → (store : List ℤ) → overlay_what sc (facts ++ more) store w ≡ overlay_what sc facts store w
overlaid_same sc facts more (what.Settled at txn outcome.Commit) h store =
    ap (overlay_deeds sc at store) (commit_append txn facts more ∙ first_kept (commit_of txn facts) (commit_of txn more) h)
overlaid_same sc facts more _ h store = refl

what_committed : (sc : Scenario) (facts : List Fact) (w : What) → WhatSerial sc facts w → IsCommitted facts w
what_committed sc facts (what.Settled at txn outcome.Commit) h = h
what_committed sc facts (what.Settled at txn outcome.Abort) h = tt
what_committed sc facts _ h = tt

overlaid_with_facts : (sc : Scenario) (facts more : List Fact) (place : ℕ) (happened : List What) (store : List ℤ) → Each (WhatSerial sc facts) happened
    → fold (overlay_fact sc (facts ++ more)) store (facts_of place happened) ≡ fold (overlay_what sc facts) store happened
overlaid_with_facts sc facts more place [] store h = refl
overlaid_with_facts sc facts more place (w ∷ happened) store h =
    overlaid_with_facts sc facts more place happened (overlay_what sc (facts ++ more) store w) h.1
    ∙ ap (λ (b : List ℤ). fold (overlay_what sc facts) b happened) (overlaid_same sc facts more w (what_committed sc facts w h.0) store)

-- what settled commits leave after a step
overlaid_move : (sc : Scenario) (w : State) (place : ℕ) (happened : List What) → Agrees sc w → Each (WhatSerial sc w.facts) happened → overlaid_by sc w happened ≡ overlay sc (w.facts ++ facts_of place happened)
overlaid_move sc w place happened agrees h =
    let more = facts_of place happened in
    let committed : Each (λ (fact : Fact). IsCommitted w.facts fact.what) w.facts =
    each_as (FactFollows sc w.facts) (λ (fact : Fact). IsCommitted w.facts fact.what) (λ fact follows. fact_committed sc w.facts fact.place fact.what follows) w.facts agrees.facts in
    let same : fold (overlay_fact sc (w.facts ++ more)) (opening_store sc) w.facts ≡ overlay sc w.facts =
    fold_as (overlay_fact sc (w.facts ++ more)) (overlay_fact sc w.facts) w.facts
    (each_as (λ (fact : Fact). IsCommitted w.facts fact.what) (λ (fact : Fact). (store : List ℤ) → overlay_fact sc (w.facts ++ more) store fact ≡ overlay_fact sc w.facts store fact)
    (λ fact c. overlaid_same sc w.facts more fact.what c) w.facts committed) (opening_store sc) in
    sym (fold-append (overlay_fact sc (w.facts ++ more)) (opening_store sc) w.facts more
    ∙ (overlaid_with_facts sc w.facts more place happened (fold (overlay_fact sc (w.facts ++ more)) (opening_store sc) w.facts) h
    ∙ ap (λ (store : List ℤ). fold (overlay_what sc w.facts) store happened) same))

-- ---- a step

-- a step whose move is serial leaves a world that is
pub state_after_serial : (sc : Scenario) (w : State) (taken : Step) (move : Move) → Agrees sc w → Serial sc w → MoveSerial sc w move → ServersLocked sc move.actors.servers → Serial sc (state_after w taken move)
state_after_serial sc w taken move agrees h t locked =
    let place = length w.steps in
    let now = w.facts ++ facts_of place move.happened in
    let g : Grows w.facts now place = grows_with_facts w.facts place move.happened in
    let all : before place now ≡ w.facts = g.same place (omega arith) ∙ before_past place w.facts agrees.past in
    let values : overlaid_by sc w move.happened ≡ overlay sc now = overlaid_move sc w place move.happened agrees t.happened in
    let store : store_by sc w move.happened ≡ store_of sc now = store_move sc w place move.happened in
    record {
      servers = subst (λ (store : List ℤ). ServersSerial sc store move.actors.servers) values t.servers;
      locked = locked;
      shares = t.shares;
      store = subst (λ (left : List ℤ). StoreStands sc move.actors left (store_of sc now)) values (subst (StoreStands sc move.actors (overlaid_by sc w move.happened)) store t.store);
      facts = each_append (λ (fact : Fact). keeps_serial sc now fact ≡ true) w.facts (facts_of place move.happened)
          (facts_stay_in_serial_data sc w.facts now place w.facts g agrees.past h.facts)
          (new_facts_serial sc w.facts now place move.happened all t.happened);
      range = subst (λ (left : List ℤ). are_in_range sc.items left ≡ true) store t.range;
    }

-- ---- a server that is up

-- what is known of a server that is up
pub up_on_log : (sc : Scenario) (w : State) (at : ServerId) (part : Part Server) (s : Server) → Serial sc w → slice_get w.actors.servers at.0 ≡ Some part → part.up ≡ Some s → UpOnLog sc s part.log
up_on_log sc w at part s h found up = subst (λ (u : Option Server). IfSome u (λ (now : Server). UpOnLog sc now part.log)) up (h.servers at.0 part found).state
