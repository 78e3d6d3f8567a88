-- Deaths, crashes and boots: the locks that a server asks for as it boots are those of its entries, and it has no answers.
use Rattle.std.proofs.Common.{List, None, Option, Some, [], ap, length, option_map, refl, slice_get, subst, sym, ℕ, ◌∙◌, ◌∷◌, ◌≡◌}
use Rattle.std.specs.Option.{option_flatten}
use Rattle.tp_lock.specs.Rule.{opening}
use Rattle.tp_model.specs.Facts.{outcome_of}
use Rattle.tp_model.specs.Words.actor
use Rattle.tp_model.specs.Words.log
use Rattle.tp_model.specs.Words.outcome
use Rattle.tp_model.specs.Words.what
use Rattle.tp_model.specs.Words.{Decision, Deed, Fact, ItemId, Mail, Prepared, Record, Scenario, ServerId, TxnId}
use Rattle.tp_recover.proofs.HeldLemmas.{placed_is, prepared_is}
use Rattle.tp_recover.proofs.KeptLemmas.{kept_law}
use Rattle.tp_model.specs.ByAge.{by_age, by_txn}
use Rattle.tp_recover.specs.Kept.{kept}
use Rattle.tp_recover.specs.Log.{decided_in}
use Rattle.tp_coord.specs.Booted as coord_boot
use Rattle.tp_coord.specs.Opened.{idle}
use Rattle.tp_coord.specs.Row.{coordinator_row}
use Rattle.tp_coord.specs.State.{Coordinator}
use Rattle.tp_server.specs.Booted.{boot_row, booted, restored}
use Rattle.tp_server.specs.State.{Server}
use Rattle.tp_server.specs.declared.server.Entry.{Entry}
use Rattle.tp_machine.specs.Machine.{goes_down, server_boots}
use Rattle.tp_machine.specs.Machine.{State, acts_by, coordinator_fact, coordinator_move, server_move, state_after}
use Rattle.tp_machine.specs.Parts.{Part}
use Rattle.tp_runs.proofs.agreement.World.{Agrees}
use Rattle.tp_runs.proofs.basics.Booted.{OfItsLock, aged_each, booted_entries, inquiries_are, prepared_locks, records_of_scenario, restored_there}
use Rattle.tp_runs.proofs.basics.Locks.{no_locks}
use Rattle.tp_runs.proofs.deaths.Coordinators.{RecordDies, orders_none}
use Rattle.tp_runs.proofs.deaths.Fit.{LetterDies, LockFits}
use Rattle.tp_runs.proofs.deaths.Servers.{AnswersDie, ServerDies}
use Rattle.tp_runs.proofs.deaths.Told.{NewTold, state_after_told}
use Rattle.tp_runs.proofs.deaths.World.{Deaths, MoveDies, coordinator_acts_deaths, coordinator_sends_deaths, server_acts_deaths, state_after_deaths}
use Rattle.tp_runs.proofs.walks.Crashes.{CrashCases, LeftOfCoordinator, crash_cases_as, crash_cases_both, left_shown}
use Rattle.tp_runs.proofs.walks.Steps.{IsCoordinatorUp}
use Rattle.tp_runs.specs.Sound.{IsSound, IsSoundDeedAt, IsSoundServerRecord}
use Rattle.tp_types.proofs.EachLemmas.{each_as}
use Rattle.tp_types.specs.Each.{Each}

-- ---- servers

-- the lock of a deed that is prepared
deed_fits : (sc : Scenario) (at : ServerId) (entries : List (Option Entry)) (p : Prepared) (deed : Deed) → option_flatten (slice_get entries p.txn.0) ≡ Some (restored p) → IsSoundDeedAt sc at p.txn deed → OfItsLock (LockFits sc entries) p.txn p.age deed
deed_fits sc at entries p deed found h held =
    record {
      entry = restored p;
      found = found;
      age_is = refl;
      asked = record { number = deed.query; query = h.sound.asked; asked_is = h.sound.asked_is; item_is = ap (λ (item : ItemId). item.0) (sym h.sound.item_is); mode_is = sym h.sound.action_is };
    }

booted_dies : (sc : Scenario) (facts : List Fact) (at : ServerId) (records : List Record) → Each (IsSoundServerRecord sc at) records → ServerDies sc facts at (booted sc at (kept sc at records))
booted_dies sc facts at records sound =
    let k = kept sc at records in
    let each = records_of_scenario sc at records sound in
    let entries = (booted sc at k).entries in
    record {
      locks = prepared_locks (LockFits sc entries) (by_age (by_txn k.prepared)) (opening (length sc.items))
          (aged_each (λ (p : Prepared). Each (OfItsLock (LockFits sc entries) p.txn p.age) p.deeds) k.prepared
          (λ n p e.
          let placed = placed_is sc at k records (kept_law sc at records each) each n p e in
          let there : option_flatten (slice_get k.prepared p.txn.0) ≡ Some p = subst (λ (m : ℕ). option_flatten (slice_get k.prepared m) ≡ Some p) (sym placed.1) e in
          let found : option_flatten (slice_get entries p.txn.0) ≡ Some (restored p) = restored_there k.prepared p.txn.0 ∙ ap (option_map restored) there in
          each_as (IsSoundDeedAt sc at p.txn) (OfItsLock (LockFits sc entries) p.txn p.age) (λ deed d. deed_fits sc at entries p deed found d) p.deeds (prepared_is (IsSoundServerRecord sc at) p.txn records sound p placed.0).1.deeds))
          (no_locks (LockFits sc entries) (length sc.items));
      kept = λ n entry e. let own = booted_entries sc at records each n entry e in subst (AnswersDie sc facts at) own.entry_is tt;
    }

booted_by_server : (sc : Scenario) (w : State) (at : ServerId) (part : Part Server) → IsSound sc w → Deaths sc w → slice_get w.actors.servers at.0 ≡ Some part → MoveDies sc w (server_move w.actors at (server_boots sc at part))
booted_by_server sc w at part sound h found =
    let k = kept sc at part.log in
    server_acts_deaths sc w at part (Some (booted sc at k)) [] (Some log.Boot) (boot_row sc at k).reaction.letters h
    (record {
      state = booted_dies sc w.facts at part.log (sound.actors_are.servers at.0 part found).records;
      own_says = tt;
      sends = inquiries_are (LetterDies sc w.facts (length w.steps)) (booted sc at k) (λ p. tt) (by_txn k.prepared);
    })

-- ---- coordinators

crashed_by_coordinator : (sc : Scenario) (w : State) (txn : TxnId) (part : Part Coordinator) (c : Coordinator) (append : Option Record) → IsSound sc w → Agrees sc w → Deaths sc w → IsCoordinatorUp w txn part c → LeftOfCoordinator sc w txn c append
    → MoveDies sc w (coordinator_move w.actors txn (goes_down coordinator_fact (what.Crashed (actor.Coordinator txn) ∷ []) part append))
crashed_by_coordinator sc w txn part c append sound a h up left =
    coordinator_acts_deaths sc w txn part None (what.Crashed (actor.Coordinator txn) ∷ []) append [] a.past h (λ facts. tt, tt)
    (record {
      forces = λ facts added. left_shown w (actor.Coordinator txn) (λ (mail : Mail). (coordinator_row sc c mail).reaction.append) append (RecordDies sc facts (length w.steps))
          (λ n mail sent. (coordinator_sends_deaths sc w sound h n mail txn part c sent up).forces facts added) left;
      sends = tt;
    })

booted_by_coordinator : (sc : Scenario) (w : State) (txn : TxnId) (part : Part Coordinator) (decided : Option Decision) → Agrees sc w → Deaths sc w
    → MoveDies sc w (coordinator_move w.actors txn (acts_by coordinator_fact [] part.log (coord_boot.boot_by sc txn decided)))
booted_by_coordinator sc w txn part None a h =
    let effect = coord_boot.boot_by sc txn None in
    coordinator_acts_deaths sc w txn part (Some effect.state) [] effect.reaction.append effect.reaction.letters a.past h tt
    (record { forces = λ facts added. tt; sends = orders_none sc w.facts (length w.steps) (idle sc txn) outcome.Abort (idle sc txn).servers })
booted_by_coordinator sc w txn part (Some decision_is) a h =
    let effect = coord_boot.boot_by sc txn (Some decision_is) in
    coordinator_acts_deaths sc w txn part (Some effect.state) [] effect.reaction.append effect.reaction.letters a.past h tt
    (record { forces = λ facts added. tt; sends = orders_none sc w.facts (length w.steps) (idle sc txn) (outcome_of decision_is) (idle sc txn).servers })

-- ---- all of them

-- none of them submits
told_crash_cases : (sc : Scenario) (w : State) → CrashCases sc w (NewTold w)
told_crash_cases sc w =
    record {
      server_crashed = λ at part s cut append up left other is. absurd (cc);
      server_booted = λ at part exists found down other is. absurd (cc);
      coordinator_crashed = λ txn part c cut append exists up begun left other is. absurd (cc);
      coordinator_booted = λ txn part exists found down other is. absurd (cc);
    }

pub deaths_crash_cases : (sc : Scenario) (w : State) → IsSound sc w → Agrees sc w → Deaths sc w → CrashCases sc w (λ taken move. MoveDies sc w move)
deaths_crash_cases sc w sound a h =
    record {
      server_crashed = λ at part s cut append up left. server_acts_deaths sc w at part None (what.Crashed (actor.Server at) ∷ []) append [] h (record { state = tt; own_says = (λ facts. tt, tt); sends = tt });
      server_booted = λ at part exists found down. booted_by_server sc w at part sound h found;
      coordinator_crashed = λ txn part c cut append exists up begun left. crashed_by_coordinator sc w txn part c append sound a h up left;
      coordinator_booted = λ txn part exists found down. booted_by_coordinator sc w txn part (decided_in part.log) a h;
    }

-- deaths stay shown
pub deaths_crashed : (sc : Scenario) (w : State) → IsSound sc w → Agrees sc w → Deaths sc w → CrashCases sc w (λ taken move. Deaths sc (state_after w taken move))
deaths_crashed sc w sound a h =
    crash_cases_as sc w (λ taken move. MoveDies sc w move × NewTold w taken move) (λ taken move. Deaths sc (state_after w taken move))
    (λ taken move t. state_after_deaths sc w taken move a.past h t.0 (state_after_told w taken move h.told t.1)) (crash_cases_both (deaths_crash_cases sc w sound a h) (told_crash_cases sc w))
