-- Crashes and boots: what an actor that boots has of its log exists.
use Rattle.std.proofs.Common.{List, None, Option, Some, [], fold, length, refl, slice_get, subst, sym, ℕ, ◌∷◌, ◌≡◌}
use Rattle.tp_lock.specs.Rule.{opening}
use Rattle.tp_lock.specs.declared.entry.LockEntry.{LockEntry}
use Rattle.tp_model.specs.Facts.{outcome_of}
use Rattle.tp_model.specs.Words.actor
use Rattle.tp_model.specs.Words.log
use Rattle.tp_model.specs.Words.outcome
use Rattle.tp_model.specs.Words.what
use Rattle.tp_model.specs.Words.{Decision, Deed, Mail, Outcome, Prepared, Record, Scenario, ServerId, Settled, TxnId}
use Rattle.tp_recover.proofs.HeldLemmas.{placed_is, prepared_is, settled_is}
use Rattle.tp_recover.proofs.KeptLemmas.{kept_law}
use Rattle.tp_model.specs.ByAge.{by_age, by_txn}
use Rattle.tp_recover.specs.Kept.{kept, kept_end, kept_first, kept_step, kept_told, kept_vote, of_txn}
use Rattle.tp_recover.specs.Laws.{IsOfScenario}
use Rattle.tp_recover.specs.Log.{decided_in}
use Rattle.tp_recover.specs.declared.kept.Kept.{Kept}
use Rattle.tp_coord.specs.Booted as coord_boot
use Rattle.tp_coord.specs.Opened.{servers_at}
use Rattle.tp_coord.specs.Row.{coordinator_row}
use Rattle.tp_coord.specs.State.{Coordinator}
use Rattle.tp_server.specs.Booted.{boot_row, booted, inquiry, kept_store, restored, write_of}
use Rattle.tp_server.specs.Row.{server_row}
use Rattle.tp_server.specs.State.{Server}
use Rattle.tp_machine.specs.Machine.{goes_down, server_boots}
use Rattle.tp_machine.specs.Machine.{State, acts_by, coordinator_fact, coordinator_move, server_fact, server_move, state_after}
use Rattle.tp_machine.specs.Named.{IsServer, IsTxn}
use Rattle.tp_machine.specs.Parts.{Part}
use Rattle.tp_runs.proofs.basics.Booted.{OfItsLock, aged_each, booted_entries, booted_settled, listed_each, prepared_each, prepared_keeps, prepared_locks, records_of_scenario}
use Rattle.tp_runs.proofs.basics.Locks.{no_locks}
use Rattle.tp_runs.proofs.basics.Stores.{opened_each}
use Rattle.tp_runs.proofs.ids.Acts.{IsSoundCoordinatorAct, coordinator_acts_sound, coordinator_receives, known_sound, server_acts_sound, server_row_acts, servers_at_sound}
use Rattle.tp_runs.proofs.ids.Coordinator.{orders_sound}
use Rattle.tp_runs.proofs.ids.Server.{all_told_more, told_more}
use Rattle.tp_runs.proofs.ids.Steps.{IsSoundMove, coordinators_sound, letter_sound, servers_sound, state_after_sound}
use Rattle.tp_runs.proofs.ids.Valid.{IsValid}
use Rattle.tp_runs.proofs.walks.Crashes.{CrashCases, LeftOfCoordinator, LeftOfServer, crash_cases_as, left_shown}
use Rattle.tp_runs.proofs.walks.Steps.{IsCoordinatorUp, IsServerUp, WaitRightly}
use Rattle.tp_runs.specs.Sound.{AreSoundVerdicts, AreVersions, IsItemOf, IsSound, IsSoundCoordinator, IsSoundCoordinatorRecord, IsSoundDeedAt, IsSoundEntry, IsSoundLetter, IsSoundMail, IsSoundPrepared, IsSoundServer, IsSoundServerPart, IsSoundServerRecord, IsWriteOf}
use Rattle.tp_types.proofs.EachLemmas.{each_as, each_get, each_map, each_of_all}
use Rattle.tp_types.specs.Each.{Each, EachPlaced}

-- ---- versions

voted_newest : (k : Kept) (p : Prepared) (was : Option Settled) → (kept_vote k p was).newest ≡ k.newest
voted_newest k p None = refl
voted_newest k p (Some before) = refl

ended_newest : (k : Kept) (s : Settled) (was : Option Settled) → (kept_end k s was).newest ≡ k.newest
ended_newest k s None = refl
ended_newest k s (Some before) = refl

newest_step : (sc : Scenario) (at : ServerId) (k : Kept) (next : Record) → AreVersions sc k.newest → IsSoundServerRecord sc at next → AreVersions sc (kept_step k next).newest
newest_step sc at k log.Boot h r = h
newest_step sc at k (log.Told t) h r = told_more sc k.newest t.admin t.version h r
newest_step sc at k (log.Prepared p) h r =
    subst (AreVersions sc) (sym (voted_newest (kept_told k p.told) p (of_txn k.settled p.txn))) (all_told_more sc.admins k.newest p.told h r.told)
newest_step sc at k (log.Settled s) h r = subst (AreVersions sc) (sym (ended_newest k s (of_txn k.settled s.txn))) h
newest_step sc at k (log.Decided d) h r = h

newest_from : (sc : Scenario) (at : ServerId) (k : Kept) (records : List Record) → AreVersions sc k.newest → Each (IsSoundServerRecord sc at) records → AreVersions sc (fold kept_step k records).newest
newest_from sc at k [] h each = h
newest_from sc at k (next ∷ records) h each = newest_from sc at (kept_step k next) records (newest_step sc at k next h each.0) each.1

-- ---- locks

abbrev IsOwned : Scenario → ℕ → LockEntry → Type 0
IsOwned sc item lock = IsTxn sc lock.owner

-- ---- a server that boots

-- the write of a deed that is prepared
write_sound : (sc : Scenario) (at : ServerId) (txn : TxnId) (deed : Deed) → IsSoundDeedAt sc at txn deed → IsWriteOf sc at txn (write_of deed)
write_sound sc at txn deed h =
    record { query = record { asked = h.sound.asked; asked_is = h.sound.asked_is; kept = subst (IsItemOf sc at) h.sound.item_is h.kept }; item = h.kept }

entry_sound : (sc : Scenario) (at : ServerId) (txn : TxnId) (p : Prepared) → p.txn ≡ txn → IsSoundPrepared sc at p → IsSoundEntry sc at txn (restored p)
entry_sound sc at txn p own h =
    record {
      answers = tt;
      waiting = tt;
      deeds = subst (λ (t : TxnId). Each (IsSoundDeedAt sc at t) p.deeds) own h.deeds;
      ballot = subst (λ (t : TxnId). AreSoundVerdicts sc t p.verdicts) own h.verdicts;
    }

booted_sound : (sc : Scenario) (at : ServerId) (records : List Record) → IsValid sc → IsServer sc at → Each (IsSoundServerRecord sc at) records → IsSoundServer sc (booted sc at (kept sc at records))
booted_sound sc at records valid exists sound =
    let k = kept sc at records in
    let each : Each (IsOfScenario sc) records = records_of_scenario sc at records sound in
    let votes : EachPlaced (λ (n : ℕ) (p : Prepared). IsSoundPrepared sc at p) k.prepared = λ n p e.
    (prepared_is (IsSoundServerRecord sc at) p.txn records sound p (placed_is sc at k records (kept_law sc at records each) each n p e).0).1 in
    let newest : AreVersions sc k.newest = newest_from sc at (kept_first sc at) records (known_sound sc at (slice_get sc.servers at.0) valid exists refl) sound in
    record {
      exists = exists;
      known = subst (AreVersions sc) (sym (prepared_keeps (kept_store sc at k) k.prepared).known) newest;
      writes = prepared_each (IsWriteOf sc at) (kept_store sc at k) k.prepared (opened_each (IsWriteOf sc at) (kept_store sc at k) (length sc.txns) refl)
          (λ n p e. each_as (IsSoundDeedAt sc at p.txn) (λ (deed : Deed). IsWriteOf sc at p.txn (write_of deed)) (λ deed d. write_sound sc at p.txn deed d) p.deeds (votes n p e).deeds);
      settled = λ n s e.
          let ends = settled_is (IsSoundServerRecord sc at) (record { 0 = n }) records sound s (booted_settled sc at records each n s e) in
          record { own = ends.0; sound = ends.1 };
      entries = λ n entry e.
          let own = booted_entries sc at records each n entry e in
          subst (IsSoundEntry sc at (record { 0 = n })) own.entry_is (entry_sound sc at (record { 0 = n }) own.p own.own (votes n own.p own.placed));
      locks = prepared_locks (IsOwned sc) (by_age (by_txn k.prepared)) (opening (length sc.items))
          (aged_each (λ (p : Prepared). Each (OfItsLock (IsOwned sc) p.txn p.age) p.deeds) k.prepared (λ n p e. each_of_all (OfItsLock (IsOwned sc) p.txn p.age) (λ deed held. (votes n p e).txn) p.deeds)) (no_locks (IsOwned sc) (length sc.items));
    }

-- what it asks goes to coordinators that exist
inquiry_sound : (sc : Scenario) (s : Server) (p : Prepared) → IsServer sc s.server → IsTxn sc p.txn → IsSoundLetter sc (inquiry s p)
inquiry_sound sc s p here exists = record { from_is_actor = here; to_is_actor = exists; says = record { txn = exists; goes_to = refl }; refuses = tt }

booted_by_server : (sc : Scenario) (w : State) (at : ServerId) (part : Part Server) → IsValid sc → IsSound sc w → slice_get w.actors.servers at.0 ≡ Some part → IsSoundMove sc (server_move w.actors at (server_boots sc at part))
booted_by_server sc w at part valid h found =
    let k = kept sc at part.log in
    let old : IsSoundServerPart sc at part = h.actors_are.servers at.0 part found in
    let each : Each (IsOfScenario sc) part.log = records_of_scenario sc at part.log old.records in
    let exist : Each (λ (p : Prepared). IsTxn sc p.txn) (by_txn k.prepared) = listed_each (λ (p : Prepared). IsTxn sc p.txn) k.prepared
    (λ n p e. (prepared_is (IsSoundServerRecord sc at) p.txn part.log old.records p (placed_is sc at k part.log (kept_law sc at part.log each) each n p e).0).1.txn) in
    let move = server_acts_sound sc at part (Some (booted sc at k)) [] (Some log.Boot) (boot_row sc at k).reaction.letters old
    (record {
      state_is = record { server_is = refl; sound = booted_sound sc at part.log valid old.exists old.records };
      own_are = tt;
      forces = tt;
      sends_only = each_map (λ (p : Prepared). IsTxn sc p.txn) (IsSoundLetter sc) (inquiry (booted sc at k)) (λ p there. inquiry_sound sc (booted sc at k) p old.exists there) (by_txn k.prepared) exist;
    }) in
    record { actors_are = servers_sound sc w.actors at _ h.actors_are move.part_is; left = move.left }

-- ---- a coordinator that boots

-- a coordinator that has decided, and has nothing else
ending_sound : (sc : Scenario) (txn : TxnId) (ended : Outcome) → IsTxn sc txn → IsSoundCoordinator sc (coord_boot.ending sc txn ended)
ending_sound sc txn ended exists =
    let servers = servers_at_sound sc (slice_get sc.txns txn.0) in
    record { exists = exists; servers = servers; deeds = tt; gathered = tt; instances = tt; awaits = servers }

boot_acts : (sc : Scenario) (txn : TxnId) (decided : Option Decision) → IsTxn sc txn
    → IsSoundCoordinatorAct sc txn (Some (coord_boot.boot_by sc txn decided).state) [] (coord_boot.boot_by sc txn decided).reaction.append (coord_boot.boot_by sc txn decided).reaction.letters
boot_acts sc txn None exists =
    let c = ending_sound sc txn outcome.Abort exists in
    record { state_is = record { txn_is = refl; sound = c }; own_are = tt; forces = record { txn_is = refl; rests_on = tt }; sends_only = orders_sound sc (coord_boot.ending sc txn outcome.Abort) outcome.Abort (servers_at sc txn) c c.servers }
boot_acts sc txn (Some decision_is) exists =
    let c = ending_sound sc txn (outcome_of decision_is) exists in
    record { state_is = record { txn_is = refl; sound = c }; own_are = tt; forces = tt; sends_only = orders_sound sc (coord_boot.ending sc txn (outcome_of decision_is)) (outcome_of decision_is) (servers_at sc txn) c c.servers }

booted_by_coordinator : (sc : Scenario) (w : State) (txn : TxnId) (part : Part Coordinator) → IsSound sc w → IsTxn sc txn → slice_get w.actors.coordinators txn.0 ≡ Some part
    → IsSoundMove sc (coordinator_move w.actors txn (acts_by coordinator_fact [] part.log (coord_boot.boot_row sc txn part.log)))
booted_by_coordinator sc w txn part h exists found =
    let effect = coord_boot.boot_row sc txn part.log in
    let move = coordinator_acts_sound sc txn part (Some effect.state) [] effect.reaction.append effect.reaction.letters (h.actors_are.coordinators txn.0 part found) (boot_acts sc txn (decided_in part.log) exists) in
    record { actors_are = coordinators_sound sc w.actors txn _ h.actors_are move.part_is; left = move.left }

-- ---- crashes

crashed_by_server : (sc : Scenario) (w : State) (at : ServerId) (part : Part Server) (s : Server) (append : Option Record) → IsValid sc → WaitRightly sc w → IsSound sc w → IsServerUp w at part s → LeftOfServer sc w at s append
    → IsSoundMove sc (server_move w.actors at (goes_down (server_fact at) (what.Crashed (actor.Server at) ∷ []) part append))
crashed_by_server sc w at part s append valid rightly h up left =
    let old : IsSoundServerPart sc at part = h.actors_are.servers at.0 part up.found in
    let forces = left_shown w (actor.Server at) (λ (mail : Mail). (server_row sc s mail).reaction.append) append (IsSoundServerRecord sc at)
    (λ n mail sent. (server_row_acts sc at part s mail valid (rightly at part s up) old up.up (letter_sound sc w n mail (actor.Server at) h sent).1).forces) left in
    let move = server_acts_sound sc at part None (what.Crashed (actor.Server at) ∷ []) append [] old (record { state_is = tt; own_are = (old.exists, tt); forces = forces; sends_only = tt }) in
    record { actors_are = servers_sound sc w.actors at _ h.actors_are move.part_is; left = move.left }

crashed_by_coordinator : (sc : Scenario) (w : State) (txn : TxnId) (part : Part Coordinator) (c : Coordinator) (append : Option Record) → IsValid sc → IsSound sc w → IsTxn sc txn → IsCoordinatorUp w txn part c → LeftOfCoordinator sc w txn c append
    → IsSoundMove sc (coordinator_move w.actors txn (goes_down coordinator_fact (what.Crashed (actor.Coordinator txn) ∷ []) part append))
crashed_by_coordinator sc w txn part c append valid h exists up left =
    let old = h.actors_are.coordinators txn.0 part up.found in
    let forces = left_shown w (actor.Coordinator txn) (λ (mail : Mail). (coordinator_row sc c mail).reaction.append) append (IsSoundCoordinatorRecord sc txn)
    (λ n mail sent.
    let says = letter_sound sc w n mail (actor.Coordinator txn) h sent in
    (coordinator_receives sc txn part c mail valid old up.up says.0 (each_get (IsSoundMail sc) w.mails n mail h.mails_are sent.sent).refuses says.1).forces) left in
    let move = coordinator_acts_sound sc txn part None (what.Crashed (actor.Coordinator txn) ∷ []) append [] old (record { state_is = tt; own_are = (exists, tt); forces = forces; sends_only = tt }) in
    record { actors_are = coordinators_sound sc w.actors txn _ h.actors_are move.part_is; left = move.left }

-- ---- all of them

pub sound_crash_cases : (sc : Scenario) (w : State) → IsValid sc → WaitRightly sc w → IsSound sc w → CrashCases sc w (λ taken move. IsSoundMove sc move)
sound_crash_cases sc w valid rightly h =
    record {
      server_crashed = λ at part s cut append up left. crashed_by_server sc w at part s append valid rightly h up left;
      server_booted = λ at part exists found down. booted_by_server sc w at part valid h found;
      coordinator_crashed = λ txn part c cut append exists up begun left. crashed_by_coordinator sc w txn part c append valid h exists up left;
      coordinator_booted = λ txn part exists found down. booted_by_coordinator sc w txn part h exists found;
    }

-- the world stays sound
pub sound_crashed : (sc : Scenario) (w : State) → IsValid sc → WaitRightly sc w → IsSound sc w → CrashCases sc w (λ taken move. IsSound sc (state_after w taken move))
sound_crashed sc w valid rightly h =
    crash_cases_as sc w (λ taken move. IsSoundMove sc move) (λ taken move. IsSound sc (state_after w taken move)) (λ taken move t. state_after_sound sc w taken move h t) (sound_crash_cases sc w valid rightly h)
