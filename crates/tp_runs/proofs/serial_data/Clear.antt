-- What locks give serial data: what a transaction has done at a server is clear of what others did there, and what it commits is clear of all
-- commits that are not settled.
use Rattle.std.specs.Option.{option_flatten, option_map_or}
use Rattle.std.proofs.Common.{Bool, List, None, Option, Some, [], ap, false, filter, if◌then◌else◌, inl, inr, is_some, length, option_and_then, refl, slice_get, subst, sym, true, ℕ, ⊎_elim, ◌<◌, ◌==◌, ◌∙◌, ◌∷◌, ◌≡◌, ◌⊎◌}
use Rattle.std.proofs.lemmas.Option.{same_Some}
use Rattle.tp_types.proofs.ListLemmas.{number_itself}
use Rattle.tp_model.specs.Agreement.{has_item_at}
use Rattle.tp_model.specs.Words.decision
use Rattle.tp_model.specs.Words.outcome
use Rattle.tp_model.specs.Words.{Decision, Deed, Item, ItemId, Prepared, Scenario, Transaction, TxnId}
use Rattle.tp_runs.proofs.agreement.Coordinator.{DecisionRests}
use Rattle.tp_runs.proofs.agreement.Logs.{IsPrepared, IsServed, settled_outcome}
use Rattle.tp_runs.proofs.agreement.Server.{ServerAgrees}
use Rattle.tp_runs.proofs.agreement.Steps.{server_agrees}
use Rattle.tp_runs.proofs.agreement.World.{Agrees}
use Rattle.tp_runs.proofs.basics.Homes.{on_item}
use Rattle.tp_types.proofs.EachLemmas.{each_as, each_both, missing}
use Rattle.tp_runs.proofs.basics.Servers.{among_servers}
use Rattle.tp_runs.proofs.ids.Queries.{AreOnItems, queries_on_items}
use Rattle.tp_runs.proofs.ids.Valid.{IsValid}
use Rattle.tp_runs.proofs.locked.Apart.{entries_apart}
use Rattle.tp_runs.proofs.locked.World.{IsLockedServer}
use Rattle.tp_runs.proofs.basics.Found.{of_some}
use Rattle.tp_runs.proofs.deeds.Commits.{IsClearAtHome}
use Rattle.tp_runs.proofs.serial_data.Deciding.{IsClearCommit, IsPreparer, IsReady, preparer, preparer_is}
use Rattle.tp_runs.proofs.deeds.Joined.{at_home, is_at, share_at}
use Rattle.tp_runs.proofs.deeds.Reads.{AreClear, IsClear, ReadsFrom}
use Rattle.tp_runs.proofs.serial_data.Rows.{IsClearOfOthers, deeds_in}
use Rattle.tp_runs.proofs.deeds.Runs.{IsDeedOf, RunsSoFar, runs_each}
use Rattle.tp_runs.proofs.serial_data.OnLog.{LogReads}
use Rattle.tp_runs.proofs.serial_data.UpOnLog.{entry_apart, entry_read}
use Rattle.tp_runs.proofs.serial_data.Shares.{no_share, server_there}
use Rattle.tp_runs.proofs.serial_data.Unsettled.{IsUnsettled}
use Rattle.tp_runs.proofs.serial_data.World.{Serial, up_on_log}
use Rattle.tp_runs.proofs.walks.Steps.{IsServerUp}
use Rattle.tp_recover.specs.Log.{decided_in, prepared_in, values_in}
use Rattle.tp_machine.specs.Logs.{decided_at, decided_by, prepared_at}
use Rattle.tp_machine.specs.Machine.{State}
use Rattle.tp_machine.specs.Parts.{Part}
use Rattle.tp_types.specs.Each.{Each}
use Rattle.tp_coord.specs.Opened.{servers_at}
use Rattle.tp_coord.specs.State.{Coordinator}
use Rattle.tp_server.specs.declared.server.Entry.{Entry}
use Rattle.tp_server.specs.Row.{entry_at}
use Rattle.tp_server.specs.State.{Server}

-- ---- at a server

pub clear_of_others : (sc : Scenario) (s : Server) (txn : TxnId) → IsLockedServer sc s → IsClearOfOthers s txn
clear_of_others sc s txn h = λ n other found apart. by_entry (entry_at s txn) refl n other found apart
  where
    by_entry : (own : Option Entry) → entry_at s txn ≡ own → (n : ℕ) (other : Entry) → option_flatten (slice_get s.entries n) ≡ Some other → (n ≡ txn.0 → ⊥) → AreClear (deeds_in own) other.deeds
    by_entry None e n other found apart = tt
    by_entry (Some entry) e n other found apart = entries_apart sc s.entries s.locks txn.0 n entry other h (λ same. apart (sym same)) e found

-- ---- a share

-- a server, up or down, has of the transaction its share of these deeds: it is read from the values of the server's log, and is clear of all
-- that others have prepared there
pub record HasShare (sc : Scenario) (w : State) (txn : TxnId) (deeds : List Deed) (at : ℕ) : Type 0 where
  pub part : Part Server
  pub found : slice_get w.actors.servers at ≡ Some part
  pub clear : (other : TxnId) (q : Prepared) → (txn.0 ≡ other.0 → ⊥) → prepared_in other part.log ≡ Some q → AreClear (share_at sc at deeds) q.deeds
  pub reads : ReadsFrom (values_in sc part.log) (share_at sc at deeds)

-- so has each server at which the transaction has done something
abbrev pub HasShares : Scenario → State → TxnId → List Deed → Type 0
HasShares sc w txn deeds = (at : ℕ) → (share_at sc at deeds ≡ []) ⊎ HasShare sc w txn deeds at

-- an entry of a server that is up which has done the share
pub entry_share : (sc : Scenario) (w : State) (txn : TxnId) (deeds : List Deed) (at : ℕ) (part : Part Server) (s : Server) (entry : Entry) → Agrees sc w → Serial sc w → IsServerUp w (record { 0 = at }) part s → entry_at s txn ≡ Some entry
    → entry.deeds ≡ share_at sc at deeds → HasShare sc w txn deeds at
entry_share sc w txn deeds at part s entry agrees serial up found same =
    let locked : IsLockedServer sc s = of_some (IsLockedServer sc) part.up s up.up (serial.locked at part up.found) in
    let own : ServerAgrees s part.log = server_agrees sc w (record { 0 = at }) part s agrees up in
    record {
      part = part;
      found = up.found;
      clear = λ other q apart prepared. subst (λ (ds : List Deed). AreClear ds q.deeds) same (entry_apart sc s part.log txn other entry q locked own found prepared apart);
      reads = subst (ReadsFrom (values_in sc part.log)) same (entry_read sc s part.log txn entry (up_on_log sc w (record { 0 = at }) part s serial up.found up.up) found);
    }

-- a server that prepared it has its share
pub share_prepared : (sc : Scenario) (w : State) (txn : TxnId) (deeds : List Deed) (at : ℕ) → Serial sc w → is_some (prepared_at w.actors.servers at txn) ≡ true
    → ((p : Prepared) → prepared_at w.actors.servers at txn ≡ Some p → p.deeds ≡ share_at sc at deeds) → HasShare sc w txn deeds at
share_prepared sc w txn deeds at serial is share =
    let h : IsPreparer w txn at = preparer w txn at is in
    let same = share h.p (preparer_is w txn at h) in
    let kept : LogReads sc h.part.log = (serial.servers at h.part h.found).log in
    record {
      part = h.part;
      found = h.found;
      clear = λ other q apart prepared. subst (λ (ds : List Deed). AreClear ds q.deeds) same (kept.apart txn other h.p q h.prepared_is prepared apart);
      reads = subst (ReadsFrom (values_in sc h.part.log)) same (kept.reads txn h.p h.prepared_is);
    }

-- ---- a commit that is not settled

-- who has decided
record HasDecided (w : State) (txn : TxnId) (decided : Decision) : Type 0 where
  part : Part Coordinator
  found : slice_get w.actors.coordinators txn.0 ≡ Some part
  decided_is : decided_in part.log ≡ Some decided

has_decided : (w : State) (txn : TxnId) (decided : Decision) → decided_at w.actors.coordinators txn.0 ≡ Some decided → HasDecided w txn decided
has_decided w txn decided e = there (slice_get w.actors.coordinators txn.0) refl e
  where
    there : (part : Option (Part Coordinator)) → slice_get w.actors.coordinators txn.0 ≡ part → option_and_then decided_by part ≡ Some decided → HasDecided w txn decided
    there None f g = absurd (cc)
    there (Some part) f g = record { part = part; found = f; decided_is = g }

-- it is prepared at each server that has an item of it and has not settled it
unsettled_prepared : (sc : Scenario) (w : State) (at : ℕ) (others : List Deed) → IsValid sc → Agrees sc w → (u : IsUnsettled sc w.actors at others) → is_some (prepared_at w.actors.servers at u.txn) ≡ true
unsettled_prepared sc w at others valid agrees u =
    let d = has_decided w u.txn (decision.Commit u.committed) u.decided in
    let served : DecisionRests (IsServed w.actors.servers u.txn) (servers_at sc u.txn) (decision.Commit u.committed) =
    of_some (DecisionRests (IsServed w.actors.servers u.txn) (servers_at sc u.txn)) (decided_in d.part.log) (decision.Commit u.committed) d.decided_is (agrees.coordinators u.txn.0 d.part d.found).served in
    ⊎_elim (λ (prepared : IsPrepared w.actors.servers u.txn (record { 0 = at })). prepared)
    (λ (settled : settled_outcome w.actors.servers (record { 0 = at }) u.txn ≡ Some outcome.Commit). let none = u.unsettled in absurd (cc))
    (among_servers (IsServed w.actors.servers u.txn) sc (record { 0 = at }) u.txn (server_there sc (record { 0 = at }) u.txn valid u.item) u.item served)

-- ---- shares

passed_head : {A : Type 0} (P : A → Type 0) (x : A) (rest : List A) (b : Bool) → Each P (if b then x ∷ rest else rest) → (b ≡ true → P x) × Each P rest
passed_head P x rest true h = (λ e. h.0, h.1)
passed_head P x rest false h = (λ e. absurd (cc), h)

-- what holds of those that pass holds of all, if they pass
each_passing : {A : Type 0} (test : A → Bool) (P : A → Type 0) (xs : List A) → Each P (filter test xs) → Each (λ (x : A). test x ≡ true → P x) xs
each_passing test P [] h = tt
each_passing test P (x ∷ xs) h = let parts = passed_head P x (filter test xs) (test x) h in (parts.0, each_passing test P xs parts.1)

each_for_all : {A I : Type 0} (P : I → A → Type 0) (xs : List A) → ((i : I) → Each (P i) xs) → Each (λ (x : A). (i : I) → P i x) xs
each_for_all P [] h = tt
each_for_all P (x ∷ xs) h = (λ i. (h i).0, each_for_all P xs (λ i. (h i).1))

same_place : (sc : Scenario) (at : ℕ) (deed other : Deed) → deed.item.0 ≡ other.item.0 → is_at sc at deed ≡ true → is_at sc at other ≡ true
same_place sc at deed other same e = ap (λ (n : ℕ). option_map_or (λ (item : Item). item.server.0 == at) (slice_get sc.items n) false) (sym same) ∙ e

-- a deed at a server that is clear of a share there is clear of all
clear_of_all : (sc : Scenario) (at : ℕ) (deed : Deed) (others : List Deed) → is_at sc at deed ≡ true → Each (IsClear deed) (share_at sc at others) → Each (IsClear deed) others
clear_of_all sc at deed others here h =
    each_as (λ (other : Deed). is_at sc at other ≡ true → IsClear deed other) (IsClear deed) (λ other k same. k (same_place sc at deed other same here) same) others (each_passing (is_at sc at) (IsClear deed) others h)

-- ---- what is committed

-- a commit that a server has not settled
record IsOther (sc : Scenario) (w : State) : Type 0 where
  at : ℕ
  others : List Deed
  unsettled : IsUnsettled sc w.actors at others

-- a deed at the server is clear of it
abbrev IsClearOf : (sc : Scenario) (w : State) → IsOther sc w → Deed → Type 0
IsClearOf sc w other deed = is_at sc other.at deed ≡ true → Each (IsClear deed) other.others

shares_clear : (sc : Scenario) (w : State) (txn : TxnId) (deeds : List Deed) (other : IsOther sc w) → IsValid sc → Agrees sc w → Serial sc w → decided_at w.actors.coordinators txn.0 ≡ None
    → HasShare sc w txn deeds other.at → AreClear (share_at sc other.at deeds) (share_at sc other.at other.others)
shares_clear sc w txn deeds other valid agrees serial none own =
    let u = other.unsettled in
    let h : IsPreparer w u.txn other.at = preparer w u.txn other.at (unsettled_prepared sc w other.at other.others valid agrees u) in
    let same : h.p.deeds ≡ share_at sc other.at other.others = serial.shares u.txn other.at u.committed h.p u.decided (preparer_is w u.txn other.at h) ∙ ap (share_at sc other.at) u.deeds_are in
    let part_is : h.part ≡ own.part = same_Some h.part own.part (sym h.found ∙ own.found) in
    let prepared : prepared_in u.txn own.part.log ≡ Some h.p = ap (λ (part : Part Server). prepared_in u.txn part.log) (sym part_is) ∙ h.prepared_is in
    let apart : txn.0 ≡ u.txn.0 → ⊥ = λ is. let decided = u.decided in let undecided : decided_at w.actors.coordinators u.txn.0 ≡ None = ap (decided_at w.actors.coordinators) (sym is) ∙ none in cc in
    subst (AreClear (share_at sc other.at deeds)) same (own.clear u.txn h.p apart prepared)

other_clear : (sc : Scenario) (w : State) (txn : TxnId) (deeds : List Deed) → IsValid sc → Agrees sc w → Serial sc w → decided_at w.actors.coordinators txn.0 ≡ None → HasShares sc w txn deeds → (other : IsOther sc w)
    → Each (IsClearOf sc w other) deeds
other_clear sc w txn deeds valid agrees serial none shares other =
    let at = other.at in
    let clear : AreClear (share_at sc at deeds) (share_at sc at other.others) =
    ⊎_elim (λ (nothing : share_at sc at deeds ≡ []). subst (λ (ds : List Deed). AreClear ds (share_at sc at other.others)) (sym nothing) tt)
    (λ (own : HasShare sc w txn deeds at). shares_clear sc w txn deeds other valid agrees serial none own) (shares at) in
    each_as (λ (deed : Deed). is_at sc at deed ≡ true → Each (IsClear deed) (share_at sc at other.others)) (IsClearOf sc w other) (λ deed k here. clear_of_all sc at deed other.others here (k here)) deeds
    (each_passing (is_at sc at) (λ (deed : Deed). Each (IsClear deed) (share_at sc at other.others)) deeds clear)

item_found : (sc : Scenario) (n : ℕ) → n < length sc.items → (item : Item) × (slice_get sc.items n ≡ Some item)
item_found sc n within = there (slice_get sc.items n) refl
  where
    there : (found : Option Item) → slice_get sc.items n ≡ found → (item : Item) × (slice_get sc.items n ≡ Some item)
    there None e = absurd (missing sc.items n within e)
    there (Some item) e = (item, e)

deed_clear : (sc : Scenario) (w : State) (declared : Transaction) (deed : Deed) → AreOnItems sc declared.queries → IsDeedOf declared deed → ((other : IsOther sc w) → IsClearOf sc w other deed) → IsClearAtHome sc (IsUnsettled sc w.actors) deed
deed_clear sc w declared deed on h clear =
    let found = item_found sc deed.item.0 (subst (λ (item : ItemId). item.0 < length sc.items) (sym h.item_is) (on_item sc declared deed.query h.query on h.query_is)) in
    let home : is_at sc found.0.server.0 deed ≡ true = at_home sc deed found.0 found.0.server.0 found.1 ∙ number_itself found.0.server.0 in
    record { item = found.0; item_is = found.1; clear = λ others u. clear (record { at = found.0.server.0; others = others; unsettled = u }) home }

-- what an undecided transaction has done, and servers have of it, is clear of each commit that is not settled
pub commit_clear : (sc : Scenario) (w : State) (txn : TxnId) (declared : Transaction) (deeds : List Deed) → IsValid sc → Agrees sc w → Serial sc w → slice_get sc.txns txn.0 ≡ Some declared
    → decided_at w.actors.coordinators txn.0 ≡ None → RunsSoFar declared deeds → HasShares sc w txn deeds → Each (IsClearAtHome sc (IsUnsettled sc w.actors)) deeds
commit_clear sc w txn declared deeds valid agrees serial exists none runs shares =
    each_both (IsDeedOf declared) (λ (deed : Deed). (other : IsOther sc w) → IsClearOf sc w other deed) (IsClearAtHome sc (IsUnsettled sc w.actors))
    (λ deed h clear. deed_clear sc w declared deed (queries_on_items sc txn.0 declared valid exists) h clear) deeds (runs_each declared deeds runs)
    (each_for_all (IsClearOf sc w) deeds (other_clear sc w txn deeds valid agrees serial none shares))

-- where its servers have prepared it they have its shares
pub ready_shares : (sc : Scenario) (w : State) (txn : TxnId) (declared : Transaction) (deeds : List Deed) → Serial sc w → IsReady sc w txn declared deeds → HasShares sc w txn deeds
ready_shares sc w txn declared deeds serial r = λ at. by_item at (has_item_at sc (record { 0 = at }) txn) refl
  where
    by_item : (at : ℕ) (b : Bool) → has_item_at sc (record { 0 = at }) txn ≡ b → (share_at sc at deeds ≡ []) ⊎ HasShare sc w txn deeds at
    by_item at true item = inr (share_prepared sc w txn deeds at serial (r.prepared at item) (r.shares at))
    by_item at false item = inl (no_share sc at txn declared deeds r.declared_is r.runs item)

-- a coordinator that is about to commit
pub commit_ready : (sc : Scenario) (w : State) (txn : TxnId) (part : Part Coordinator) (c : Coordinator) (declared : Transaction) → IsValid sc → Agrees sc w → Serial sc w → slice_get w.actors.coordinators txn.0 ≡ Some part
    → decided_in part.log ≡ None → IsReady sc w txn declared c.deeds → IsClearCommit sc w c
commit_ready sc w txn part c declared valid agrees serial found none r =
    commit_clear sc w txn declared c.deeds valid agrees serial r.declared_is (ap (option_and_then decided_by) found ∙ none) r.runs (ready_shares sc w txn declared c.deeds serial r)
