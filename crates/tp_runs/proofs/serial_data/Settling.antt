-- Serial data, an act of a server, which was up or down and is up or down after it: its log's values change by what it settles, and the store stands to them as before.
use Rattle.std.proofs.Common.{Bool, IfSome, List, None, Option, Some, [], ap, cond, false, fold, if◌then◌else◌, is_some, option_and_then, option_map, refl, slice_get, slice_set, subst, sym, true, ℕ, ℤ, ⊎_elim, ◌++◌, ◌==◌, ◌∙◌, ◌∷◌, ◌≡◌}
use Rattle.std.proofs.lemmas.Bool.{eq-eqb, eqb-true}
use Rattle.std.proofs.lemmas.List.Sums.{fold-append}
use Rattle.std.proofs.lemmas.Option.{slice_get_within}
use Rattle.tp_model.specs.Agreement.{has_item_at}
use Rattle.tp_model.specs.Facts.{commit_of, outcome_of}
use Rattle.tp_model.specs.SerialRun.{are_in_range, overlay, overlay_at, overlay_deeds, overlay_what, store_of, with_deed, with_deeds, with_what}
use Rattle.tp_model.specs.Words.decision
use Rattle.tp_model.specs.Words.log
use Rattle.tp_model.specs.Words.outcome
use Rattle.tp_model.specs.Words.what
use Rattle.tp_model.specs.Words.{CommitRecord, Decision, Deed, Fact, Item, Letter, Outcome, Prepared, Record, Scenario, ServerId, Settled, TxnId, What}
use Rattle.tp_runs.proofs.agreement.Logs.{DecidedAs, IsAsked, LogPrepared, LogServed, outcome_settled}
use Rattle.tp_runs.proofs.agreement.Server.{RecordRests}
use Rattle.tp_runs.proofs.agreement.ServerActs.{not_committed, ordered_commit, served_here, server_facts}
use Rattle.tp_runs.proofs.agreement.World.{Agrees}
use Rattle.tp_runs.proofs.basics.Facts.{commit_found, first_commit}
use Rattle.tp_types.proofs.EachLemmas.{each_append, each_as, set_here}
use Rattle.tp_runs.proofs.basics.Logs.{Prepares, appended, gained, listed, prepared_grown}
use Rattle.tp_runs.proofs.deeds.Commits.{IsItemAt, settle_store}
use Rattle.tp_runs.proofs.deeds.Joined.{at_home, is_at, other_stored, same_stored, share_at}
use Rattle.tp_runs.proofs.deeds.Lengths.{has_value}
use Rattle.tp_runs.proofs.basics.Folds.{at_changed, set_elsewhere}
use Rattle.tp_runs.proofs.deeds.Ranges.{AreTested}
use Rattle.tp_runs.proofs.serial_data.OnLog.{LogReads, RecordReads, log_reads_with, values_after, values_grown}
use Rattle.tp_runs.proofs.serial_data.Rows.{RecordTested}
use Rattle.tp_runs.proofs.serial_data.UpOnLog.{UpOnLog}
use Rattle.tp_runs.proofs.deeds.Stores.{StoreFits, values_as}
use Rattle.tp_runs.proofs.serial_data.Unsettled.{IsUnsettled, SameEnds, SettlesAt, abort_same, elsewhere_same, fits_same, nothing_settled, settle_drops, with_server}
use Rattle.tp_runs.proofs.serial_data.World.{AreShares, HoldsValues, MoveSerial, Serial, ServerPartSerial, ServersSerial, StoreStands, WhatSerial, overlaid_by, store_by}
use Rattle.tp_recover.specs.Log.{ended_first, prepared_in, settled_in, settlement_in, values_in}
use Rattle.tp_machine.specs.Logs.{decided_at, prepared_at, prepared_by, settled_at}
use Rattle.tp_machine.specs.Machine.{State, acts, server_fact, server_move}
use Rattle.tp_actor_log.specs.Records.{log_with}
use Rattle.tp_machine.specs.Parts.{Part}
use Rattle.tp_types.specs.Each.{Each}
use Rattle.tp_coord.specs.State.{Coordinator}
use Rattle.tp_machine.specs.declared.actors.Actors.{Actors}
use Rattle.tp_server.specs.State.{Server}

-- ---- facts that tell of no end

-- the fact is of no decision and no settlement
abbrev pub IsQuiet : What → Type 0
IsQuiet (what.Decided txn decided) = ⊥
IsQuiet (what.Settled at txn ended) = ⊥
IsQuiet _ = Unit {0}

quiet_serial : (sc : Scenario) (facts : List Fact) (w : What) → IsQuiet w → WhatSerial sc facts w
quiet_serial sc facts (what.Decided txn decided) q = absurd q
quiet_serial sc facts (what.Settled at txn ended) q = absurd q
quiet_serial sc facts _ q = tt

quiet_overlaid : (sc : Scenario) (facts : List Fact) (store : List ℤ) (w : What) → IsQuiet w → overlay_what sc facts store w ≡ store
quiet_overlaid sc facts store (what.Settled at txn ended) q = absurd q
quiet_overlaid sc facts store _ q = refl

quiet_stored : (store : List ℤ) (w : What) → IsQuiet w → with_what store w ≡ store
quiet_stored store (what.Decided txn decided) q = absurd q
quiet_stored store _ q = refl

pub quiet_values : (sc : Scenario) (facts : List Fact) (happened : List What) (store : List ℤ) → Each IsQuiet happened → fold (overlay_what sc facts) store happened ≡ store
quiet_values sc facts [] store q = refl
quiet_values sc facts (w ∷ happened) store q = ap (λ (b : List ℤ). fold (overlay_what sc facts) b happened) (quiet_overlaid sc facts store w q.0) ∙ quiet_values sc facts happened store q.1

pub quiet_store : (happened : List What) (store : List ℤ) → Each IsQuiet happened → fold with_what store happened ≡ store
quiet_store [] store q = refl
quiet_store (w ∷ happened) store q = ap (λ (b : List ℤ). fold with_what b happened) (quiet_stored store w q.0) ∙ quiet_store happened store q.1

pub quiet_facts : (sc : Scenario) (facts : List Fact) (happened : List What) → Each IsQuiet happened → Each (WhatSerial sc facts) happened
quiet_facts sc facts happened q = each_as IsQuiet (WhatSerial sc facts) (quiet_serial sc facts) happened q

-- a move in which the servers and the coordinators stay
pub unmoved_serial : (sc : Scenario) (w : State) (actors : Actors) (happened : List What) (letters : List Letter) → Serial sc w → actors.servers ≡ w.actors.servers → actors.coordinators ≡ w.actors.coordinators → Each IsQuiet happened
    → MoveSerial sc w (record { actors = actors; happened = happened; letters = letters })
unmoved_serial sc w actors happened letters h servers coordinators q =
    let values : overlaid_by sc w happened ≡ overlay sc w.facts = quiet_values sc w.facts happened (overlay sc w.facts) q in
    let store : store_by sc w happened ≡ store_of sc w.facts = quiet_store happened (store_of sc w.facts) q in
    let same : SameEnds w.actors actors =
    record { decided = λ txn. ap (λ (xs : List (Part Coordinator)). decided_at xs txn) coordinators; settled = λ at txn. ap (λ (xs : List (Part Server)). settled_at xs at txn) servers } in
    record {
      servers = subst (λ (xs : List (Part Server)). ServersSerial sc (overlaid_by sc w happened) xs) (sym servers) (subst (λ (left : List ℤ). ServersSerial sc left w.actors.servers) (sym values) h.servers);
      shares = λ txn at committed p d e.
          h.shares txn at committed p (sym (same.decided txn.0) ∙ d) (sym (ap (λ (xs : List (Part Server)). prepared_at xs at txn) servers) ∙ e);
      store = λ at. subst (λ (left : List ℤ). StoreFits (IsItemAt sc at) (IsUnsettled sc actors at) left (store_by sc w happened)) (sym values)
          (subst (StoreFits (IsItemAt sc at) (IsUnsettled sc actors at) (overlay sc w.facts)) (sym store) (fits_same sc w.actors actors at (overlay sc w.facts) (store_of sc w.facts) same (h.store at)));
      happened = quiet_facts sc w.facts happened q;
      range = subst (λ (left : List ℤ). are_in_range sc.items left ≡ true) (sym store) h.range;
    }

-- ---- a share of deeds

overlaid_one : (sc : Scenario) (at : ℕ) (store : List ℤ) (deed : Deed) (deeds share : List Deed) (b : Bool) → ((before : List ℤ) → fold (overlay_at sc (record { 0 = at })) before deeds ≡ with_deeds before share)
    → fold (overlay_at sc (record { 0 = at })) (if b then with_deed store deed else store) deeds ≡ with_deeds store (cond b (deed ∷ share) share)
overlaid_one sc at store deed deeds share true later = later (with_deed store deed)
overlaid_one sc at store deed deeds share false later = later store

-- what deeds overlay at a server is its share of them
pub overlaid_share : (sc : Scenario) (at : ℕ) (store : List ℤ) (deeds : List Deed) → fold (overlay_at sc (record { 0 = at })) store deeds ≡ with_deeds store (share_at sc at deeds)
overlaid_share sc at store [] = refl
overlaid_share sc at store (deed ∷ deeds) = overlaid_one sc at store deed deeds (share_at sc at deeds) (is_at sc at deed) (λ before. overlaid_share sc at before deeds)

same_fold : (n : ℕ) (deeds : List Deed) (xs ys : List ℤ) → slice_get xs n ≡ slice_get ys n → slice_get (with_deeds xs deeds) n ≡ slice_get (with_deeds ys deeds) n
same_fold n [] xs ys e = e
same_fold n (deed ∷ deeds) xs ys e = same_fold n deeds (with_deed xs deed) (with_deed ys deed) (same_stored deed.action xs ys deed n e)

other_at : (sc : Scenario) (at n : ℕ) (item : Item) (deed : Deed) → slice_get sc.items n ≡ Some item → (at == item.server.0) ≡ false → is_at sc at deed ≡ true → deed.item.0 ≡ n → ⊥
other_at sc at n item deed found apart here same =
    let home : is_at sc at deed ≡ (item.server.0 == at) = at_home sc deed item at (ap (slice_get sc.items) same ∙ found) in
    let turned : item.server.0 ≡ at = eqb-true item.server.0 at (sym home ∙ here) in
    let equal : (at == item.server.0) ≡ true = eq-eqb at item.server.0 (sym turned) in
    cc

one_elsewhere : (sc : Scenario) (at n : ℕ) (item : Item) (store : List ℤ) (deed : Deed) (b : Bool) → is_at sc at deed ≡ b → slice_get sc.items n ≡ Some item → (at == item.server.0) ≡ false
    → slice_get (if b then with_deed store deed else store) n ≡ slice_get store n
one_elsewhere sc at n item store deed true here found apart = other_stored deed.action store deed n (other_at sc at n item deed found apart here)
one_elsewhere sc at n item store deed false here found apart = refl

-- it changes no item of another server
pub overlaid_elsewhere : (sc : Scenario) (at n : ℕ) (item : Item) (deeds : List Deed) (store : List ℤ) → slice_get sc.items n ≡ Some item → (at == item.server.0) ≡ false
    → slice_get (fold (overlay_at sc (record { 0 = at })) store deeds) n ≡ slice_get store n
overlaid_elsewhere sc at n item [] store found apart = refl
overlaid_elsewhere sc at n item (deed ∷ deeds) store found apart =
    overlaid_elsewhere sc at n item deeds (overlay_at sc (record { 0 = at }) store deed) found apart ∙ one_elsewhere sc at n item store deed (is_at sc at deed) refl found apart

-- ---- what is prepared

-- what a server has prepared of a commit is its share
pub record IsShare (sc : Scenario) (at : ServerId) (kept : List Record) (txn : TxnId) (committed : CommitRecord) : Type 0 where
  pub p : Prepared
  pub prepared_is : prepared_in txn kept ≡ Some p
  pub deeds_are : p.deeds ≡ share_at sc at.0 committed.deeds

share_here : (sc : Scenario) (w : State) (at : ServerId) (part : Part Server) (txn : TxnId) (committed : CommitRecord) (prepared : Option Prepared) → Serial sc w → slice_get w.actors.servers at.0 ≡ Some part
    → decided_at w.actors.coordinators txn.0 ≡ Some (decision.Commit committed) → prepared_in txn part.log ≡ prepared → is_some prepared ≡ true → IsShare sc at part.log txn committed
share_here sc w at part txn committed None h found d e is = absurd (cc)
share_here sc w at part txn committed (Some p) h found d e is =
    record { p = p; prepared_is = e; deeds_are = h.shares txn at.0 committed p d (ap (option_and_then (prepared_by txn)) found ∙ e) }

pub open_share : (sc : Scenario) (w : State) (at : ServerId) (part : Part Server) (txn : TxnId) (committed : CommitRecord) → Serial sc w → slice_get w.actors.servers at.0 ≡ Some part
    → decided_at w.actors.coordinators txn.0 ≡ Some (decision.Commit committed) → settled_in txn part.log ≡ None → LogServed txn part.log → IsShare sc at part.log txn committed
open_share sc w at part txn committed h found d fresh served =
    ⊎_elim (λ (p : LogPrepared txn part.log). share_here sc w at part txn committed (prepared_in txn part.log) h found d refl p)
    (λ (c : option_map outcome_settled (settled_in txn part.log) ≡ Some outcome.Commit). let none = ap (option_map outcome_settled) fresh in absurd (cc)) served

-- a vote on a transaction that was decided as a commit is on its share
abbrev pub IsShareOf : Scenario → State → ServerId → TxnId → Prepared → Type 0
IsShareOf sc w at txn p = (committed : CommitRecord) → decided_at w.actors.coordinators txn.0 ≡ Some (decision.Commit committed) → p.deeds ≡ share_at sc at.0 committed.deeds

-- ---- a server acts

-- what is to be known as a server acts that was up or down, and is up or down after it
pub record ServerActs (sc : Scenario) (w : State) (at : ServerId) (part next : Part Server) (append : Option Record) : Type 0 where
  pub found : slice_get w.actors.servers at.0 ≡ Some part
  pub grown : next.log ≡ log_with part.log append
  pub state : IfSome next.up (λ (s : Server). UpOnLog sc s next.log)
  pub rests : IfSome append (RecordRests (DecidedAs w.actors.coordinators) (IsAsked sc w.actors.coordinators at) part.log)
  pub reads : IfSome append (RecordReads sc part.log)
  pub tested : IfSome append (RecordTested sc)
  pub shares : IfSome append (Prepares (IsShareOf sc w at))

-- servers prepare their shares after it
acts_shares : (sc : Scenario) (w : State) (at : ServerId) (part next : Part Server) (append : Option Record) → Serial sc w → ServerActs sc w at part next append → AreShares sc (with_server w.actors at next)
acts_shares sc w at part next append h k txn other committed p d e = by_server (at.0 == other) refl e
  where
    by_server : (b : Bool) → (at.0 == other) ≡ b → prepared_at (slice_set w.actors.servers at.0 next) other txn ≡ Some p → p.deeds ≡ share_at sc other committed.deeds
    by_server false apart f = h.shares txn other committed p d (sym (ap (option_and_then (prepared_by txn)) (set_elsewhere w.actors.servers at.0 other next apart)) ∙ f)
    by_server true same f =
        let is : at.0 ≡ other = eqb-true at.0 other same in
        let now : prepared_in txn (log_with part.log append) ≡ Some p =
        sym (ap (prepared_in txn) k.grown)
        ∙ (sym (ap (option_and_then (prepared_by txn)) (ap (slice_get (slice_set w.actors.servers at.0 next)) (sym is) ∙ set_here w.actors.servers at.0 next (slice_get_within w.actors.servers at.0 part k.found))) ∙ f) in
        subst (λ (n : ℕ). p.deeds ≡ share_at sc n committed.deeds) is
        (prepared_grown (IsShareOf sc w at) part.log append txn p (λ q was given decided. h.shares txn at.0 given q decided (ap (option_and_then (prepared_by txn)) k.found ∙ was)) k.shares now committed d)

-- another server's items keep their values
others_hold : (sc : Scenario) (other : ServerId) (values after : List ℤ) (part : Part Server) → ((n : ℕ) (item : Item) → slice_get sc.items n ≡ Some item → item.server ≡ other → slice_get after n ≡ slice_get values n)
    → ServerPartSerial sc values other part → ServerPartSerial sc after other part
others_hold sc other values after part same h =
    record { kept = λ n item found here. h.kept n item found here ∙ sym (same n item found here); log = h.log; tested = h.tested; state = h.state }

-- what the act leaves, where these facts are told of its record and these values are left
pub record Leaves (sc : Scenario) (w : State) (at : ServerId) (next : Part Server) (told : List What) : Type 0 where
  pub here : HoldsValues sc at (overlaid_by sc w told) (values_in sc next.log)
  pub elsewhere : (n : ℕ) (item : Item) → slice_get sc.items n ≡ Some item → (at.0 == item.server.0) ≡ false → slice_get (overlaid_by sc w told) n ≡ slice_get (overlay sc w.facts) n
  pub store : StoreStands sc (with_server w.actors at next) (overlaid_by sc w told) (store_of sc w.facts)
  pub same_store : store_by sc w told ≡ store_of sc w.facts
  pub serial : Each (WhatSerial sc w.facts) told

-- the facts that the step says itself come before
left_serial_in_settling : (sc : Scenario) (w : State) (at : ServerId) (part next : Part Server) (append : Option Record) (own told : List What) (letters : List Letter) → Serial sc w → ServerActs sc w at part next append
    → Each IsQuiet own → Leaves sc w at next told → MoveSerial sc w (record { actors = with_server w.actors at next; happened = own ++ told; letters = letters })
left_serial_in_settling sc w at part next append own told letters h k quiet l =
    let after = overlaid_by sc w told in
    let values : overlaid_by sc w (own ++ told) ≡ after =
    fold-append (overlay_what sc w.facts) (overlay sc w.facts) own told ∙ ap (λ (xs : List ℤ). fold (overlay_what sc w.facts) xs told) (quiet_values sc w.facts own (overlay sc w.facts) quiet) in
    let store : store_by sc w (own ++ told) ≡ store_of sc w.facts =
    fold-append with_what (store_of sc w.facts) own told ∙ (ap (λ (xs : List ℤ). fold with_what xs told) (quiet_store own (store_of sc w.facts) quiet) ∙ l.same_store) in
    let here : ServerPartSerial sc after at next =
    record {
      kept = l.here;
      log = subst (LogReads sc) (sym k.grown) (log_reads_with sc part.log append (h.servers at.0 part k.found).log k.reads);
      tested = λ txn p e. prepared_grown (λ (t : TxnId) (q : Prepared). AreTested sc q.deeds) part.log append txn p ((h.servers at.0 part k.found).tested txn) k.tested (sym (ap (prepared_in txn) k.grown) ∙ e);
      state = k.state;
    } in
    let servers : ServersSerial sc after (slice_set w.actors.servers at.0 next) =
    at_changed (λ (n : ℕ) (p : Part Server). ServerPartSerial sc after (record { 0 = n }) p) w.actors.servers at.0 part next k.found
    (λ n p e apart. others_hold sc (record { 0 = n }) (overlay sc w.facts) after p
    (λ m item found home. l.elsewhere m item found (ap (λ (x : ServerId). at.0 == x.0) home ∙ apart)) (h.servers n p e)) here in
    record {
      servers = subst (λ (xs : List ℤ). ServersSerial sc xs (slice_set w.actors.servers at.0 next)) (sym values) servers;
      shares = acts_shares sc w at part next append h k;
      store = subst (λ (xs : List ℤ). StoreStands sc (with_server w.actors at next) xs (store_by sc w (own ++ told))) (sym values) (subst (StoreStands sc (with_server w.actors at next) after) (sym store) l.store);
      happened = each_append (WhatSerial sc w.facts) own told (quiet_facts sc w.facts own quiet) l.serial;
      range = subst (λ (xs : List ℤ). are_in_range sc.items xs ≡ true) (sym store) h.range;
    }

-- ---- an act that settles nothing

quiet_leaves : (sc : Scenario) (w : State) (at : ServerId) (part next : Part Server) (append : Option Record) → Serial sc w → ServerActs sc w at part next append
    → values_grown (values_in sc part.log) part.log append ≡ values_in sc part.log → ((txn : TxnId) → appended (settlement_in txn) append ≡ None) → Leaves sc w at next []
quiet_leaves sc w at part next append h k same_values none =
    let was = (h.servers at.0 part k.found).kept in
    let same : SameEnds w.actors (with_server w.actors at next) = nothing_settled w.actors at part next append k.found k.grown none in
    let values : values_in sc next.log ≡ values_in sc part.log = ap (values_in sc) k.grown ∙ (values_after sc part.log append ∙ same_values) in
    record {
      here = λ n item found home. ap (λ (xs : List ℤ). slice_get xs n) values ∙ was n item found home;
      elsewhere = λ n item found apart. refl;
      store = λ other. fits_same sc w.actors (with_server w.actors at next) other (overlay sc w.facts) (store_of sc w.facts) same (h.store other);
      same_store = refl;
      serial = tt;
    }

-- ---- an act that settles

-- the values that it leaves, where it is the first settlement
settled_values : (sc : Scenario) (part next : Part Server) (r : Settled) → next.log ≡ log_with part.log (Some (log.Settled r)) → settled_in r.txn part.log ≡ None
    → values_in sc next.log ≡ ended_first (values_in sc part.log) r.outcome None (prepared_in r.txn part.log)
settled_values sc part next r grown fresh =
    ap (values_in sc) grown
    ∙ (values_after sc part.log (Some (log.Settled r)) ∙ ap (λ (before : Option Settled). ended_first (values_in sc part.log) r.outcome before (prepared_in r.txn part.log)) fresh)

-- an abort
abort_leaves_in_settling : (sc : Scenario) (w : State) (at : ServerId) (part next : Part Server) (r : Settled) → Serial sc w → ServerActs sc w at part next (Some (log.Settled r)) → settled_in r.txn part.log ≡ None
    → r.outcome ≡ outcome.Abort → (DecidedAs w.actors.coordinators r.txn outcome.Commit → ⊥) → Leaves sc w at next (what.Settled at r.txn outcome.Abort ∷ [])
abort_leaves_in_settling sc w at part next r h k fresh aborts not_decided =
    let was = (h.servers at.0 part k.found).kept in
    let values : values_in sc next.log ≡ values_in sc part.log =
    settled_values sc part next r k.grown fresh ∙ ap (λ (ended : Outcome). ended_first (values_in sc part.log) ended None (prepared_in r.txn part.log)) aborts in
    let settles : SettlesAt w.actors at part next r = record { found = k.found; grown = k.grown; fresh = fresh } in
    record {
      here = λ n item found home. ap (λ (xs : List ℤ). slice_get xs n) values ∙ was n item found home;
      elsewhere = λ n item found apart. refl;
      store = λ other. by_server other (at.0 == other) refl settles;
      same_store = refl;
      serial = (tt, tt);
    }
  where
    by_server : (other : ℕ) (b : Bool) → (at.0 == other) ≡ b → SettlesAt w.actors at part next r
        → StoreFits (IsItemAt sc other) (IsUnsettled sc (with_server w.actors at next) other) (overlay sc w.facts) (store_of sc w.facts)
    by_server other false apart settles = elsewhere_same sc w.actors at part next r other (overlay sc w.facts) (store_of sc w.facts) settles apart (h.store other)
    by_server other true same settles =
        subst (λ (n : ℕ). StoreFits (IsItemAt sc n) (IsUnsettled sc (with_server w.actors at next) n) (overlay sc w.facts) (store_of sc w.facts)) (eqb-true at.0 other same)
        (abort_same sc w.actors at part next r (overlay sc w.facts) (store_of sc w.facts) settles not_decided (h.store at.0))

-- a commit that was decided, as the facts tell it
pub record IsToldCommit (w : State) (txn : TxnId) : Type 0 where
  pub committed : CommitRecord
  pub decided : decided_at w.actors.coordinators txn.0 ≡ Some (decision.Commit committed)
  pub told : commit_of txn w.facts ≡ Some committed

told_commit : (sc : Scenario) (w : State) (txn : TxnId) (decided : Option Decision) → Agrees sc w → decided_at w.actors.coordinators txn.0 ≡ decided → option_map outcome_of decided ≡ Some outcome.Commit → IsToldCommit w txn
told_commit sc w txn None agrees e d = absurd (cc)
told_commit sc w txn (Some (decision.Abort why)) agrees e d = absurd (cc)
told_commit sc w txn (Some (decision.Commit committed)) agrees e d =
    record {
      committed = committed;
      decided = e;
      told = commit_found txn w.facts ∙ (ap first_commit (agrees.decided txn) ∙ ap (λ (x : Option Decision). first_commit (listed x)) e);
    }

pub commit_told : (sc : Scenario) (w : State) (txn : TxnId) → Agrees sc w → DecidedAs w.actors.coordinators txn outcome.Commit → IsToldCommit w txn
commit_told sc w txn agrees d = told_commit sc w txn (decided_at w.actors.coordinators txn.0) agrees refl d

-- a commit
commit_leaves_in_settling : (sc : Scenario) (w : State) (at : ServerId) (part next : Part Server) (r : Settled) → Agrees sc w → Serial sc w → ServerActs sc w at part next (Some (log.Settled r)) → settled_in r.txn part.log ≡ None
    → r.outcome ≡ outcome.Commit → has_item_at sc at r.txn ≡ true → DecidedAs w.actors.coordinators r.txn outcome.Commit → Leaves sc w at next (what.Settled at r.txn outcome.Commit ∷ [])
commit_leaves_in_settling sc w at part next r agrees h k fresh commits item d =
    let was = (h.servers at.0 part k.found).kept in
    let settles : SettlesAt w.actors at part next r = record { found = k.found; grown = k.grown; fresh = fresh } in
    let told : IsToldCommit w r.txn = commit_told sc w r.txn agrees d in
    let deeds = told.committed.deeds in
    let share : IsShare sc at part.log r.txn told.committed = open_share sc w at part r.txn told.committed h k.found told.decided fresh (served_here sc w at part r.txn agrees k.found item d) in
    let overlays : overlaid_by sc w (what.Settled at r.txn outcome.Commit ∷ []) ≡ fold (overlay_at sc at) (overlay sc w.facts) deeds = ap (overlay_deeds sc at (overlay sc w.facts)) told.told in
    let after : overlaid_by sc w (what.Settled at r.txn outcome.Commit ∷ []) ≡ with_deeds (overlay sc w.facts) (share_at sc at.0 deeds) = overlays ∙ overlaid_share sc at.0 (overlay sc w.facts) deeds in
    let applied : values_in sc next.log ≡ with_deeds (values_in sc part.log) (share_at sc at.0 deeds) =
    settled_values sc part next r k.grown fresh
    ∙ (ap (λ (ended : Outcome). ended_first (values_in sc part.log) ended None (prepared_in r.txn part.log)) commits
    ∙ (ap (ended_first (values_in sc part.log) outcome.Commit None) share.prepared_is ∙ ap (with_deeds (values_in sc part.log)) share.deeds_are)) in
    let left : StoreStands sc (with_server w.actors at next) (with_deeds (overlay sc w.facts) (share_at sc at.0 deeds)) (store_of sc w.facts) = λ other. by_server other (at.0 == other) refl told.committed told.decided settles in
    record {
      here = λ n item found home. ap (λ (xs : List ℤ). slice_get xs n) applied
          ∙ (same_fold n (share_at sc at.0 deeds) (values_in sc part.log) (overlay sc w.facts) (was n item found home) ∙ ap (λ (xs : List ℤ). slice_get xs n) (sym after));
      elsewhere = λ n item found apart. ap (λ (xs : List ℤ). slice_get xs n) overlays ∙ overlaid_elsewhere sc at.0 n item deeds (overlay sc w.facts) found apart;
      store = subst (λ (xs : List ℤ). StoreStands sc (with_server w.actors at next) xs (store_of sc w.facts)) (sym after) left;
      same_store = refl;
      serial = (ap is_some told.told, tt);
    }
  where
    by_server : (other : ℕ) (b : Bool) → (at.0 == other) ≡ b → (committed : CommitRecord) → decided_at w.actors.coordinators r.txn.0 ≡ Some (decision.Commit committed)
        → SettlesAt w.actors at part next r
        → StoreFits (IsItemAt sc other) (IsUnsettled sc (with_server w.actors at next) other) (with_deeds (overlay sc w.facts) (share_at sc at.0 committed.deeds)) (store_of sc w.facts)
    by_server other false apart committed decided settles =
        values_as (IsItemAt sc other) (IsUnsettled sc (with_server w.actors at next) other) (overlay sc w.facts) (with_deeds (overlay sc w.facts) (share_at sc at.0 committed.deeds)) (store_of sc w.facts)
        (λ n own. sym (ap (λ (xs : List ℤ). slice_get xs n) (sym (overlaid_share sc at.0 (overlay sc w.facts) committed.deeds))
        ∙ overlaid_elsewhere sc at.0 n own.declared committed.deeds (overlay sc w.facts) own.declared_is (ap (λ (m : ℕ). at.0 == m) own.at_is ∙ apart)))
        (elsewhere_same sc w.actors at part next r other (overlay sc w.facts) (store_of sc w.facts) settles apart (h.store other))
    by_server other true same committed decided settles =
        subst (λ (n : ℕ). StoreFits (IsItemAt sc n) (IsUnsettled sc (with_server w.actors at next) n) (with_deeds (overlay sc w.facts) (share_at sc at.0 committed.deeds)) (store_of sc w.facts)) (eqb-true at.0 other same)
        (settle_store sc (IsUnsettled sc w.actors at.0) (IsUnsettled sc (with_server w.actors at next) at.0) (overlay sc w.facts) (store_of sc w.facts) committed.deeds at.0
        (λ n own. has_value sc w.facts n own.declared own.declared_is) (settle_drops sc w.actors at part next r committed settles decided item) (h.store at.0))

-- ---- every act

-- an act of a server: a receipt, a crash, a cut, a boot
pub server_acts_serial : (sc : Scenario) (w : State) (at : ServerId) (part : Part Server) (now : Option Server) (own : List What) (append : Option Record) (letters : List Letter) → Agrees sc w → Serial sc w
    → ServerActs sc w at part (record { up = now; log = log_with part.log append }) append → Each IsQuiet own
    → MoveSerial sc w (server_move w.actors at (acts (server_fact at) own part.log now (log_with part.log append) letters))
server_acts_serial sc w at part now own append letters agrees h k quiet =
    subst (λ (told : List What). MoveSerial sc w (record { actors = with_server w.actors at (record { up = now; log = log_with part.log append }); happened = own ++ told; letters = letters }))
    (sym (gained (server_fact at) part.log append)) (left_serial_in_settling sc w at part (record { up = now; log = log_with part.log append }) append own (server_facts at append) letters h k quiet (by_record append k))
  where
    by_outcome : (r : Settled) (ended : Outcome) → r.outcome ≡ ended → ServerActs sc w at part (record { up = now; log = log_with part.log (Some (log.Settled r)) }) (Some (log.Settled r))
        → Leaves sc w at (record { up = now; log = log_with part.log (Some (log.Settled r)) }) (what.Settled at r.txn ended ∷ [])
    by_outcome r outcome.Commit e k =
        commit_leaves_in_settling sc w at part (record { up = now; log = log_with part.log (Some (log.Settled r)) }) r agrees h k k.rests.fresh e k.rests.asked.item
        (ordered_commit (DecidedAs w.actors.coordinators) (IsAsked sc w.actors.coordinators at) part.log r r.why refl k.rests e).1
    by_outcome r outcome.Abort e k =
        abort_leaves_in_settling sc w at part (record { up = now; log = log_with part.log (Some (log.Settled r)) }) r h k k.rests.fresh e (not_committed sc w at part r r.why agrees k.found refl k.rests e)

    by_record : (append : Option Record) → ServerActs sc w at part (record { up = now; log = log_with part.log append }) append → Leaves sc w at (record { up = now; log = log_with part.log append }) (server_facts at append)
    by_record None k = quiet_leaves sc w at part (record { up = now; log = log_with part.log None }) None h k refl (λ txn. refl)
    by_record (Some (log.Settled r)) k = by_outcome r r.outcome refl k
    by_record (Some (log.Prepared p)) k = quiet_leaves sc w at part (record { up = now; log = log_with part.log (Some (log.Prepared p)) }) (Some (log.Prepared p)) h k refl (λ txn. refl)
    by_record (Some (log.Decided d)) k = quiet_leaves sc w at part (record { up = now; log = log_with part.log (Some (log.Decided d)) }) (Some (log.Decided d)) h k refl (λ txn. refl)
    by_record (Some (log.Told t)) k = quiet_leaves sc w at part (record { up = now; log = log_with part.log (Some (log.Told t)) }) (Some (log.Told t)) h k refl (λ txn. refl)
    by_record (Some log.Boot) k = quiet_leaves sc w at part (record { up = now; log = log_with part.log (Some log.Boot) }) (Some log.Boot) h k refl (λ txn. refl)
