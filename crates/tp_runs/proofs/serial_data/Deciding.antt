-- Serial data, an act of a coordinator: a commit has the deeds of its transaction run by itself on the store, and leaves it in range.
use Rattle.std.proofs.Common.{Bool, IfSome, List, None, Option, Some, [], ap, false, fold, is_some, length, option_and_then, refl, slice_get, subst, sym, true, ℕ, ℤ, ⊎_elim, if◌then◌else◌, ◌++◌, ◌∙◌, ◌∷◌, ◌≡◌}
use Rattle.std.proofs.lemmas.List.Sums.{fold-append}
use Rattle.std.specs.Option.{option_map_or, option_or}
use Rattle.tp_types.proofs.EachLemmas.{each_append, each_get}
use Rattle.tp_types.specs.Each.{Each}
use Rattle.tp_types.specs.Effect.{Effect}
use Rattle.tp_model.specs.Agreement.{has_item_at}
use Rattle.tp_model.specs.SerialRun.{are_in_range, is_serial_commit, overlay, overlay_what, serial_run, store_of, with_deeds, with_what}
use Rattle.tp_model.specs.Valid.{is_valid_txn}
use Rattle.tp_model.specs.Words.{Cause, CommitRecord, Decided, Decision, Deed, Letter, Mail, Prepared, Record, Scenario, Transaction, TxnId, What}
use Rattle.tp_model.specs.Words.decision
use Rattle.tp_model.specs.Words.log
use Rattle.tp_model.specs.Words.what
use Rattle.tp_coord.proofs.Rows.{coordinator_by}
use Rattle.tp_coord.specs.Opened.{servers_at}
use Rattle.tp_coord.specs.Row.{coordinator_row}
use Rattle.tp_coord.specs.State.{Coordinator}
use Rattle.tp_coord.specs.declared.coordinator.Phase.{Phase}
use Rattle.tp_coord.specs.declared.coordinator.Phase.TheVariants as phase
use Rattle.tp_machine.specs.Logs.{decided_at, prepared_at, prepared_by, settled_at, settled_by}
use Rattle.tp_machine.specs.Machine.{State, acts, coordinator_fact, coordinator_move}
use Rattle.tp_actor_log.specs.Records.{log_with}
use Rattle.tp_machine.specs.Named.{IsTxn}
use Rattle.tp_machine.specs.Parts.{Part}
use Rattle.tp_recover.specs.Log.{decided_in, decision_in, prepared_in, values_in}
use Rattle.tp_server.specs.State.{Server}
use Rattle.tp_runs.proofs.agreement.Coordinator.{DecisionRests, IsFirst}
use Rattle.tp_runs.proofs.agreement.CoordinatorActs.{coordinator_facts}
use Rattle.tp_runs.proofs.agreement.Logs.{IsPrepared, prepared_open}
use Rattle.tp_runs.proofs.agreement.World.{Agrees}
use Rattle.tp_runs.proofs.basics.Found.{of_some}
use Rattle.tp_runs.proofs.basics.Homes.{decided_voted}
use Rattle.tp_runs.proofs.basics.Logs.{appended, decided_with, gained}
use Rattle.tp_runs.proofs.basics.Passed.{deeds_kept, voted_not_ran, voted_stands}
use Rattle.tp_runs.proofs.basics.Phases.{Prepares, is_undecided, stand_of}
use Rattle.tp_runs.proofs.basics.Servers.{among_servers}
use Rattle.tp_runs.proofs.deeds.Commits.{IsClearAtHome, IsItemAt, commit_elsewhere, commit_serial, commit_store}
use Rattle.tp_runs.proofs.deeds.Joined.{share_at}
use Rattle.tp_runs.proofs.deeds.Lengths.{store_length}
use Rattle.tp_runs.proofs.deeds.Ranges.{AreTested, range_at, store_within, stored_in_range}
use Rattle.tp_runs.proofs.deeds.Reads.{ReadsFrom}
use Rattle.tp_runs.proofs.deeds.Runs.{RunsSoFar}
use Rattle.tp_runs.proofs.deeds.Stores.{HasPlace, StoreFits}
use Rattle.tp_runs.proofs.ids.Valid.{IsValid}
use Rattle.tp_runs.proofs.known.World.{Pairs, declared_by}
use Rattle.tp_runs.proofs.pairs.Actors.{asker_by, asker_of, asker_up, pair_at, site_of}
use Rattle.tp_runs.proofs.pairs.Fits.{AskerFits}
use Rattle.tp_runs.proofs.pairs.Outcomes.{prepared_for}
use Rattle.tp_runs.proofs.serial_data.Settling.{IsQuiet, quiet_facts, quiet_store, quiet_values}
use Rattle.tp_runs.proofs.serial_data.Shares.{no_share, server_there, share_reads, shares_tested}
use Rattle.tp_runs.proofs.serial_data.Unsettled.{DecidesFirst, IsUnsettled, SameEnds, commit_adds, decision_same, either_decided, fits_same, nothing_decided, same_commit, with_coordinator}
use Rattle.tp_runs.proofs.serial_data.World.{AreShares, MoveSerial, Serial, ServersSerial, StoreStands, WhatSerial, overlaid_by, run_is_serial, store_by}
use Rattle.tp_runs.proofs.walks.Steps.{IsCoordinatorUp}

-- ---- rows

-- a commit has the coordinator's deeds, and all queries have run
pub record IsOwnCommit (c : Coordinator) (committed : CommitRecord) : Type 0 where
  pub deeds : committed.deeds ≡ c.deeds
  pub prepares : stand_of c.phase ≡ Prepares

abbrev pub DecisionOwn : Coordinator → Decision → Type 0
DecisionOwn c (decision.Commit committed) = IsOwnCommit c committed
DecisionOwn c (decision.Abort why) = Unit {0}

abbrev pub RecordOwn : Coordinator → Record → Type 0
RecordOwn c (log.Decided d) = DecisionOwn c d.decision
RecordOwn c _ = Unit {0}

abbrev pub ForcesOwn : Coordinator → Effect Coordinator → Type 0
ForcesOwn c effect = IfSome effect.reaction.append (RecordOwn c)

-- a commit is of a coordinator that is up
pub record IsUpCommit (part : Part Coordinator) (committed : CommitRecord) : Type 0 where
  pub c : Coordinator
  pub up : part.up ≡ Some c
  pub own : IsOwnCommit c committed

abbrev pub DecisionUp : Part Coordinator → Decision → Type 0
DecisionUp part (decision.Commit committed) = IsUpCommit part committed
DecisionUp part (decision.Abort why) = Unit {0}

abbrev pub RecordUp : Part Coordinator → Record → Type 0
RecordUp part (log.Decided d) = DecisionUp part d.decision
RecordUp part _ = Unit {0}

-- what a coordinator that is up forces is so
pub record_up : (part : Part Coordinator) (c : Coordinator) (append : Option Record) → part.up ≡ Some c → IfSome append (RecordOwn c) → IfSome append (RecordUp part)
record_up part c None up h = tt
record_up part c (Some (log.Decided d)) up h = by_decision d.decision h
  where
    by_decision : (decided : Decision) → DecisionOwn c decided → DecisionUp part decided
    by_decision (decision.Commit committed) own = record { c = c; up = up; own = own }
    by_decision (decision.Abort why) own = tt
record_up part c (Some (log.Settled s)) up h = tt
record_up part c (Some (log.Prepared p)) up h = tt
record_up part c (Some (log.Told told)) up h = tt
record_up part c (Some log.Boot) up h = tt

-- every row of a coordinator on receipt of a mail
pub coordinator_row_own : (sc : Scenario) (c : Coordinator) (mail : Mail) → ForcesOwn c (coordinator_row sc c mail)
coordinator_row_own sc c mail =
    coordinator_by sc c mail (ForcesOwn c)
    (record {
      ignored = tt;
      stapled = λ tell query home k there. tt;
      sends_query = λ at now rounds next passed moves home. tt;
      asks_staple = λ at now rounds passed moves. tt;
      probes_proofs = λ at now rounds passed moves. tt;
      validates = λ at now rounds passed moves. tt;
      commit_rounds = λ at now rounds passed moves. tt;
      asks_votes = λ at now rounds passed moves. tt;
      told = λ tell over round k. tt;
      counted = λ over round staple server verdicts y. tt;
      probed = λ over round staple server verdicts y replied reads. tt;
      decides = λ at now rounds passed moves.
          let voted = decided_voted sc c at moves in
          record { deeds = deeds_kept sc c mail at now rounds passed (voted_not_ran at voted); prepares = voted_stands sc c mail at now rounds passed voted };
      aborted = λ why ended. tt;
      updated = λ over round staple reading named j e. tt;
      voted = λ reply awaited server verdicts y. tt;
      acknowledged = λ ack ended awaited server a. tt;
      inquired = λ inquiry ended awaited server k. tt;
    })

-- ---- a coordinator acts

-- what is to be known as a coordinator acts that was up or down
pub record CoordinatorActs (sc : Scenario) (w : State) (txn : TxnId) (part : Part Coordinator) (own : List What) (append : Option Record) : Type 0 where
  pub exists : IsTxn sc txn
  pub found : slice_get w.actors.coordinators txn.0 ≡ Some part
  pub quiet : Each IsQuiet own
  pub fresh : IfSome append (IsFirst sc (IsPrepared w.actors.servers txn) txn part.log)
  pub forces : IfSome append (RecordUp part)

abbrev next_part : Part Coordinator → Option Coordinator → Option Record → Part Coordinator
next_part part now append = record { up = now; log = log_with part.log append }

-- what the act leaves, where these facts are told of the record
pub record Leaves (sc : Scenario) (w : State) (txn : TxnId) (next : Part Coordinator) (told : List What) : Type 0 where
  pub values : fold (overlay_what sc w.facts) (overlay sc w.facts) told ≡ overlay sc w.facts
  pub shares : AreShares sc (with_coordinator w.actors txn next)
  pub store : StoreStands sc (with_coordinator w.actors txn next) (overlay sc w.facts) (fold with_what (store_of sc w.facts) told)
  pub serial : Each (WhatSerial sc w.facts) told
  pub range : are_in_range sc.items (fold with_what (store_of sc w.facts) told) ≡ true

left_serial_in_deciding : (sc : Scenario) (w : State) (txn : TxnId) (next : Part Coordinator) (own told : List What) (letters : List Letter) → Serial sc w → Each IsQuiet own → Leaves sc w txn next told
    → MoveSerial sc w (record { actors = with_coordinator w.actors txn next; happened = own ++ told; letters = letters })
left_serial_in_deciding sc w txn next own told letters h quiet l =
    let actors = with_coordinator w.actors txn next in
    let values : overlaid_by sc w (own ++ told) ≡ overlay sc w.facts =
    fold-append (overlay_what sc w.facts) (overlay sc w.facts) own told
    ∙ (ap (λ (xs : List ℤ). fold (overlay_what sc w.facts) xs told) (quiet_values sc w.facts own (overlay sc w.facts) quiet) ∙ l.values) in
    let store : store_by sc w (own ++ told) ≡ fold with_what (store_of sc w.facts) told =
    fold-append with_what (store_of sc w.facts) own told ∙ ap (λ (xs : List ℤ). fold with_what xs told) (quiet_store own (store_of sc w.facts) quiet) in
    record {
      servers = subst (λ (xs : List ℤ). ServersSerial sc xs w.actors.servers) (sym values) h.servers;
      shares = l.shares;
      store = subst (λ (xs : List ℤ). StoreStands sc actors xs (store_by sc w (own ++ told))) (sym values) (subst (StoreStands sc actors (overlay sc w.facts)) (sym store) l.store);
      happened = each_append (WhatSerial sc w.facts) own told (quiet_facts sc w.facts own quiet) l.serial;
      range = subst (λ (xs : List ℤ). are_in_range sc.items xs ≡ true) (sym store) l.range;
    }

-- ---- nothing is decided

undecided_leaves : (sc : Scenario) (w : State) (txn : TxnId) (part : Part Coordinator) (now : Option Coordinator) (append : Option Record) → Serial sc w → slice_get w.actors.coordinators txn.0 ≡ Some part
    → appended decision_in append ≡ None → Leaves sc w txn (next_part part now append) []
undecided_leaves sc w txn part now append h found none =
    let next = next_part part now append in
    let same : SameEnds w.actors (with_coordinator w.actors txn next) = nothing_decided w.actors txn part next append found refl none in
    record {
      values = refl;
      shares = λ other at committed p d e. h.shares other at committed p (sym (same.decided other.0) ∙ d) e;
      store = λ at. fits_same sc w.actors (with_coordinator w.actors txn next) at (overlay sc w.facts) (store_of sc w.facts) same (h.store at);
      serial = tt;
      range = h.range;
    }

-- ---- an abort

not_commit_in_serial_data : (why : Cause) (committed : CommitRecord) → decision.Abort why ≡ decision.Commit committed → ⊥
not_commit_in_serial_data why committed e = cc

abort_leaves_in_deciding : (sc : Scenario) (w : State) (txn named : TxnId) (part next : Part Coordinator) (why : Cause) → Serial sc w → DecidesFirst w.actors txn part next (decision.Abort why)
    → Leaves sc w txn next (what.Decided named (decision.Abort why) ∷ [])
abort_leaves_in_deciding sc w txn named part next why h k =
    record {
      values = refl;
      shares = λ other at committed p d e.
          ⊎_elim (λ (old : decided_at w.actors.coordinators other.0 ≡ Some (decision.Commit committed)). h.shares other at committed p old e)
          (λ (new : (txn.0 ≡ other.0) × (decision.Abort why ≡ decision.Commit committed)). absurd (not_commit_in_serial_data why committed new.1))
          (either_decided w.actors txn part next (decision.Abort why) (decision.Commit committed) other.0 k d);
      store = λ at. decision_same sc w.actors txn part next (decision.Abort why) at (overlay sc w.facts) (store_of sc w.facts) k (λ committed e. absurd (not_commit_in_serial_data why committed e)) (h.store at);
      serial = (tt, tt);
      range = h.range;
    }

-- ---- a commit

-- a commit, as its coordinator knows it: its transaction's queries have run, and each of its servers has prepared its share
pub record IsReady (sc : Scenario) (w : State) (txn : TxnId) (declared : Transaction) (deeds : List Deed) : Type 0 where
  pub declared_is : slice_get sc.txns txn.0 ≡ Some declared
  pub runs : RunsSoFar declared deeds
  pub all : length deeds ≡ length declared.queries
  pub shares : (at : ℕ) (p : Prepared) → prepared_at w.actors.servers at txn ≡ Some p → p.deeds ≡ share_at sc at deeds
  pub prepared : (at : ℕ) → has_item_at sc (record { 0 = at }) txn ≡ true → is_some (prepared_at w.actors.servers at txn) ≡ true

prepares_undecided : (awaited : Phase) → stand_of awaited ≡ Prepares → is_undecided awaited ≡ true
prepares_undecided phase.Idle e = refl
prepares_undecided (phase.Stapling number) e = refl
prepares_undecided (phase.Querying number staple) e = refl
prepares_undecided (phase.Probing number) e = refl
prepares_undecided (phase.Asking over round) e = refl
prepares_undecided (phase.Checking over round staple) e = refl
prepares_undecided (phase.Reading over round) e = refl
prepares_undecided (phase.Voting awaited) e = refl
prepares_undecided phase.VoteProbing e = refl
prepares_undecided (phase.Ending ended awaited) e = absurd (cc)

-- the coordinator as each server's pair has it
asker_there_in_serial_data : (w : State) (txn : TxnId) (part : Part Coordinator) (c : Coordinator) (at : ℕ) → IsCoordinatorUp w txn part c → stand_of c.phase ≡ Prepares → (pair_at w.actors txn at).asker ≡ Some (asker_of at c)
asker_there_in_serial_data w txn part c at up prepares =
    ap (option_and_then (asker_by at)) up.found ∙ (ap (option_and_then (asker_up at)) up.up
    ∙ ap (λ (b : Bool). if b then Some (asker_of at c) else None) (prepares_undecided c.phase prepares))

asker_fits_in_serial_data : (sc : Scenario) (w : State) (txn : TxnId) (part : Part Coordinator) (c : Coordinator) (declared : Transaction) → Pairs sc w → IsCoordinatorUp w txn part c → stand_of c.phase ≡ Prepares
    → slice_get sc.txns txn.0 ≡ Some declared → AskerFits (site_of sc 0 declared) (pair_at w.actors txn 0) (asker_of 0 c)
asker_fits_in_serial_data sc w txn part c declared pairs up prepares exists =
    of_some (AskerFits (site_of sc 0 declared) (pair_at w.actors txn 0)) (pair_at w.actors txn 0).asker (asker_of 0 c) (asker_there_in_serial_data w txn part c 0 up prepares) (pairs.fits txn 0 declared exists).asker

pub runs_so_far : (sc : Scenario) (w : State) (txn : TxnId) (part : Part Coordinator) (c : Coordinator) (declared : Transaction) → Pairs sc w → IsCoordinatorUp w txn part c → stand_of c.phase ≡ Prepares
    → slice_get sc.txns txn.0 ≡ Some declared → RunsSoFar declared c.deeds
runs_so_far sc w txn part c declared pairs up prepares exists = (asker_fits_in_serial_data sc w txn part c declared pairs up prepares exists).runs

pub ready : (sc : Scenario) (w : State) (txn : TxnId) (part : Part Coordinator) (c : Coordinator) (declared : Transaction) → IsValid sc → Pairs sc w → IsCoordinatorUp w txn part c → stand_of c.phase ≡ Prepares
    → slice_get sc.txns txn.0 ≡ Some declared → Each (IsPrepared w.actors.servers txn) (servers_at sc txn) → IsReady sc w txn declared c.deeds
ready sc w txn part c declared valid pairs up prepares exists prepared =
    let fits : AskerFits (site_of sc 0 declared) (pair_at w.actors txn 0) (asker_of 0 c) = asker_fits_in_serial_data sc w txn part c declared pairs up prepares exists in
    record {
      declared_is = exists;
      runs = fits.runs;
      all = fits.all prepares;
      shares = λ at p e. (prepared_for (site_of sc at declared) (pair_at w.actors txn at) (asker_of at c) p (asker_there_in_serial_data w txn part c at up prepares) e (pairs.fits txn at declared exists)).deeds;
      prepared = λ at item. among_servers (IsPrepared w.actors.servers txn) sc (record { 0 = at }) txn (server_there sc (record { 0 = at }) txn valid item) item prepared;
    }

-- ---- its reads

-- a server that has prepared it
pub record IsPreparer (w : State) (txn : TxnId) (at : ℕ) : Type 0 where
  pub part : Part Server
  pub found : slice_get w.actors.servers at ≡ Some part
  pub p : Prepared
  pub prepared_is : prepared_in txn part.log ≡ Some p

preparer_of : (w : State) (txn : TxnId) (at : ℕ) (part : Option (Part Server)) → slice_get w.actors.servers at ≡ part → is_some (option_and_then (prepared_by txn) part) ≡ true → IsPreparer w txn at
preparer_of w txn at None e is = absurd (cc)
preparer_of w txn at (Some part) e is = there (prepared_in txn part.log) refl is
  where
    there : (p : Option Prepared) → prepared_in txn part.log ≡ p → is_some p ≡ true → IsPreparer w txn at
    there None f some = absurd (cc)
    there (Some p) f some = record { part = part; found = e; p = p; prepared_is = f }

pub preparer : (w : State) (txn : TxnId) (at : ℕ) → is_some (prepared_at w.actors.servers at txn) ≡ true → IsPreparer w txn at
preparer w txn at is = preparer_of w txn at (slice_get w.actors.servers at) refl is

pub preparer_is : (w : State) (txn : TxnId) (at : ℕ) (h : IsPreparer w txn at) → prepared_at w.actors.servers at txn ≡ Some h.p
preparer_is w txn at h = ap (option_and_then (prepared_by txn)) h.found ∙ h.prepared_is

read_here : (sc : Scenario) (w : State) (txn : TxnId) (declared : Transaction) (deeds : List Deed) (at : ℕ) (b : Bool) → has_item_at sc (record { 0 = at }) txn ≡ b → Serial sc w → IsReady sc w txn declared deeds
    → ReadsFrom (overlay sc w.facts) (share_at sc at deeds)
read_here sc w txn declared deeds at false item h r = subst (ReadsFrom (overlay sc w.facts)) (sym (no_share sc at txn declared deeds r.declared_is r.runs item)) tt
read_here sc w txn declared deeds at true item h r =
    let there : IsPreparer w txn at = preparer w txn at (r.prepared at item) in
    let kept = (h.servers at there.part there.found).kept in
    let reads : ReadsFrom (values_in sc there.part.log) (share_at sc at deeds) =
    subst (ReadsFrom (values_in sc there.part.log)) (r.shares at there.p (preparer_is w txn at there)) ((h.servers at there.part there.found).log.reads txn there.p there.prepared_is) in
    share_reads sc at (values_in sc there.part.log) (overlay sc w.facts) deeds (λ n item found home. kept n item found (ap (λ (m : ℕ). record { 0 = m }) home)) reads

tested_here : (sc : Scenario) (w : State) (txn : TxnId) (declared : Transaction) (deeds : List Deed) (at : ℕ) → has_item_at sc (record { 0 = at }) txn ≡ true → Serial sc w → IsReady sc w txn declared deeds
    → AreTested sc (share_at sc at deeds)
tested_here sc w txn declared deeds at item h r =
    let there : IsPreparer w txn at = preparer w txn at (r.prepared at item) in
    subst (AreTested sc) (r.shares at there.p (preparer_is w txn at there)) ((h.servers at there.part there.found).tested txn there.p there.prepared_is)

-- ---- what it leaves

store_has : (sc : Scenario) (store : List ℤ) (at n : ℕ) → are_in_range sc.items store ≡ true → IsItemAt sc at n → HasPlace store n
store_has sc store at n range own = ap is_some (range_at sc.items store n own.declared range own.declared_is).found_is

unsettled_there : (w : State) (txn : TxnId) (at : ℕ) → IsPreparer w txn at → settled_at w.actors.servers at txn ≡ None
unsettled_there w txn at h = ap (option_and_then (settled_by txn)) h.found ∙ prepared_open txn h.part.log (ap is_some h.prepared_is)

commit_stands : (sc : Scenario) (w : State) (txn : TxnId) (part next : Part Coordinator) (declared : Transaction) (committed : CommitRecord) (at : ℕ) (b : Bool) → has_item_at sc (record { 0 = at }) txn ≡ b → Serial sc w
    → DecidesFirst w.actors txn part next (decision.Commit committed) → IsReady sc w txn declared committed.deeds → Each (IsClearAtHome sc (IsUnsettled sc w.actors)) committed.deeds
    → StoreFits (IsItemAt sc at) (IsUnsettled sc (with_coordinator w.actors txn next) at) (overlay sc w.facts) (with_deeds (store_of sc w.facts) committed.deeds)
commit_stands sc w txn part next declared committed at true item h k r clear =
    commit_store sc (IsUnsettled sc w.actors) (IsUnsettled sc (with_coordinator w.actors txn next)) (λ (n : ℕ). overlay sc w.facts) (store_of sc w.facts) committed.deeds at
    (λ n own. store_has sc (store_of sc w.facts) at n h.range own)
    (commit_adds sc w.actors txn part next committed at k item (unsettled_there w txn at (preparer w txn at (r.prepared at item)))) clear (h.store at)
commit_stands sc w txn part next declared committed at false item h k r clear =
    commit_elsewhere sc (IsUnsettled sc (with_coordinator w.actors txn next) at) (overlay sc w.facts) (store_of sc w.facts) committed.deeds at
    (λ n own. store_has sc (store_of sc w.facts) at n h.range own) (no_share sc at txn declared committed.deeds r.declared_is r.runs item)
    (decision_same sc w.actors txn part next (decision.Commit committed) at (overlay sc w.facts) (store_of sc w.facts) k (λ other e. item) (h.store at))

commit_leaves_in_deciding : (sc : Scenario) (w : State) (txn named : TxnId) (part next : Part Coordinator) (declared : Transaction) (committed : CommitRecord) → named ≡ txn → IsValid sc → Agrees sc w → Serial sc w
    → DecidesFirst w.actors txn part next (decision.Commit committed) → IsReady sc w txn declared committed.deeds → Each (IsClearAtHome sc (IsUnsettled sc w.actors)) committed.deeds
    → Leaves sc w txn next (what.Decided named (decision.Commit committed) ∷ [])
commit_leaves_in_deciding sc w txn named part next declared committed own valid agrees h k r clear =
    let valid_txn : is_valid_txn sc declared ≡ true = each_get (λ (t : Transaction). is_valid_txn sc t ≡ true) sc.txns txn.0 declared valid.txns r.declared_is in
    let runs : committed.deeds ≡ serial_run declared (store_of sc w.facts) =
    commit_serial sc declared (IsUnsettled sc w.actors) (λ (n : ℕ). overlay sc w.facts) (store_of sc w.facts) committed.deeds valid_txn
    (store_within sc (store_of sc w.facts) valid (store_length sc w.facts) h.range) r.runs r.all
    (λ at. read_here sc w txn declared committed.deeds at (has_item_at sc (record { 0 = at }) txn) refl h r) h.store clear in
    let tested : AreTested sc committed.deeds = shares_tested sc txn declared committed.deeds r.declared_is r.runs (λ at item. tested_here sc w txn declared committed.deeds at item h r) in
    let range : are_in_range sc.items (with_deeds (store_of sc w.facts) committed.deeds) ≡ true = stored_in_range sc (store_of sc w.facts) committed.deeds tested h.range in
    record {
      values = refl;
      shares = λ other at given p d e.
          ⊎_elim (λ (old : decided_at w.actors.coordinators other.0 ≡ Some (decision.Commit given)). h.shares other at given p old e)
          (λ (new : (txn.0 ≡ other.0) × (decision.Commit committed ≡ decision.Commit given)).
          let is : txn ≡ other = ap (λ (n : ℕ). record { 0 = n }) new.0 in
          r.shares at p (ap (prepared_at w.actors.servers at) is ∙ e) ∙ ap (λ (c : CommitRecord). share_at sc at c.deeds) (same_commit committed given new.1))
          (either_decided w.actors txn part next (decision.Commit committed) (decision.Commit given) other.0 k d);
      store = λ at. commit_stands sc w txn part next declared committed at (has_item_at sc (record { 0 = at }) txn) refl h k r clear;
      serial = (
        ap (λ (found : Option Transaction). option_map_or (is_serial_commit sc (store_of sc w.facts) committed) found false) (ap (λ (t : TxnId). slice_get sc.txns t.0) own ∙ r.declared_is)
            ∙ run_is_serial sc (store_of sc w.facts) committed declared runs range,
        tt,
      );
      range = range;
    }

-- ---- every act

-- what a coordinator that is about to commit has done is clear of what other commits did that are not settled
abbrev pub IsClearCommit : Scenario → State → Coordinator → Type 0
IsClearCommit sc w c = Each (IsClearAtHome sc (IsUnsettled sc w.actors)) c.deeds

-- an act of a coordinator, which was up or down and is up or down after it
pub coordinator_acts_serial : (sc : Scenario) (w : State) (txn : TxnId) (part : Part Coordinator) (now : Option Coordinator) (own : List What) (append : Option Record) (letters : List Letter) → IsValid sc → Agrees sc w → Pairs sc w
    → Serial sc w → CoordinatorActs sc w txn part own append → ((c : Coordinator) (declared : Transaction) → decided_in part.log ≡ None → IsReady sc w txn declared c.deeds → IsClearCommit sc w c)
    → MoveSerial sc w (coordinator_move w.actors txn (acts coordinator_fact own part.log now (log_with part.log append) letters))
coordinator_acts_serial sc w txn part now own append letters valid agrees pairs h k clear =
    subst (λ (told : List What). MoveSerial sc w (record { actors = with_coordinator w.actors txn (next_part part now append); happened = own ++ told; letters = letters }))
    (sym (gained coordinator_fact part.log append)) (left_serial_in_deciding sc w txn (next_part part now append) own (coordinator_facts append) letters h k.quiet (by_record append k.fresh k.forces))
  where
    decides : (d : Decided) → IsFirst sc (IsPrepared w.actors.servers txn) txn part.log (log.Decided d) → DecidesFirst w.actors txn part (next_part part now (Some (log.Decided d))) d.decision
    decides d first =
        record {
          found = k.found;
          undecided = first.undecided;
          now = decided_with part.log (Some (log.Decided d)) ∙ ap (λ (old : Option Decision). option_or old (Some d.decision)) first.undecided;
        }

    by_decision : (d : Decided) (given : Decision) → d.decision ≡ given → IsFirst sc (IsPrepared w.actors.servers txn) txn part.log (log.Decided d) → DecisionUp part given
        → DecisionRests (IsPrepared w.actors.servers txn) (servers_at sc txn) given → Leaves sc w txn (next_part part now (Some (log.Decided d))) (what.Decided d.txn given ∷ [])
    by_decision d (decision.Abort why) e first forces rests =
        abort_leaves_in_deciding sc w txn d.txn part (next_part part now (Some (log.Decided d))) why h (subst (DecidesFirst w.actors txn part (next_part part now (Some (log.Decided d)))) e (decides d first))
    by_decision d (decision.Commit committed) e first forces rests =
        let there = declared_by sc txn k.exists in
        let c = forces.c in
        let own : IsReady sc w txn there.0 c.deeds = ready sc w txn part c there.0 valid pairs (record { found = k.found; up = forces.up }) forces.own.prepares there.1 rests in
        let r : IsReady sc w txn there.0 committed.deeds = subst (IsReady sc w txn there.0) (sym forces.own.deeds) own in
        commit_leaves_in_deciding sc w txn d.txn part (next_part part now (Some (log.Decided d))) there.0 committed first.own valid agrees h
        (subst (DecidesFirst w.actors txn part (next_part part now (Some (log.Decided d)))) e (decides d first)) r
        (subst (Each (IsClearAtHome sc (IsUnsettled sc w.actors))) (sym forces.own.deeds) (clear c there.0 first.undecided own))

    by_record : (append : Option Record) → IfSome append (IsFirst sc (IsPrepared w.actors.servers txn) txn part.log) → IfSome append (RecordUp part) → Leaves sc w txn (next_part part now append) (coordinator_facts append)
    by_record None first forces = undecided_leaves sc w txn part now None h k.found refl
    by_record (Some (log.Decided d)) first forces = by_decision d d.decision refl first forces first.prepared
    by_record (Some (log.Settled s)) first forces = undecided_leaves sc w txn part now (Some (log.Settled s)) h k.found refl
    by_record (Some (log.Prepared p)) first forces = undecided_leaves sc w txn part now (Some (log.Prepared p)) h k.found refl
    by_record (Some (log.Told t)) first forces = undecided_leaves sc w txn part now (Some (log.Told t)) h k.found refl
    by_record (Some log.Boot) first forces = undecided_leaves sc w txn part now (Some log.Boot) h k.found refl
