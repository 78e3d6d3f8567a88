-- Bounds, crashes and boots: a server that boots has the values that its log leaves, and the writes and deeds of what is prepared there.
use Rattle.std.proofs.Common.{List, None, Option, Some, [], ap, length, refl, slice_get, subst, true, ◌∙◌, ◌∷◌, ◌≡◌}
use Rattle.tp_model.specs.Facts.{outcome_of}
use Rattle.tp_model.specs.SerialRun.{are_in_range}
use Rattle.tp_model.specs.Words.actor
use Rattle.tp_model.specs.Words.log
use Rattle.tp_model.specs.Words.outcome
use Rattle.tp_model.specs.Words.what
use Rattle.tp_model.specs.Words.{Decision, Mail, Record, Scenario, ServerId, TxnId}
use Rattle.tp_recover.proofs.HeldLemmas.{placed_is, prepared_is, settled_is}
use Rattle.tp_recover.proofs.KeptLemmas.{kept_law}
use Rattle.tp_model.specs.ByAge.{by_txn}
use Rattle.tp_recover.specs.Kept.{kept}
use Rattle.tp_recover.specs.Laws.{IsOfScenario}
use Rattle.tp_recover.specs.Log.{decided_in, values_in}
use Rattle.tp_coord.specs.Booted as coord_boot
use Rattle.tp_coord.specs.Opened.{idle}
use Rattle.tp_coord.specs.Row.{coordinator_row}
use Rattle.tp_coord.specs.State.{Coordinator}
use Rattle.tp_server.specs.Booted.{boot_row, booted, kept_store}
use Rattle.tp_server.specs.Row.{server_row}
use Rattle.tp_server.specs.State.{Server}
use Rattle.tp_machine.specs.Machine.{goes_down, server_boots}
use Rattle.tp_machine.specs.Machine.{State, acts_by, coordinator_fact, coordinator_move, server_fact, server_move, state_after}
use Rattle.tp_machine.specs.Parts.{Part}
use Rattle.tp_runs.proofs.agreement.World.{Agrees, PreparesNamed}
use Rattle.tp_runs.proofs.basics.Booted.{booted_entries, booted_settled, inquiries_are, prepared_each, prepared_keeps, records_of_scenario}
use Rattle.tp_runs.proofs.basics.Stores.{opened_each}
use Rattle.tp_runs.proofs.bounds.Coordinator.{orders_say_none}
use Rattle.tp_runs.proofs.bounds.Numbers.{values_most}
use Rattle.tp_runs.proofs.bounds.Server.{IsBoundedLetter}
use Rattle.tp_runs.proofs.bounds.World.{Bounds, MoveBounds, coordinator_acts_bounds, coordinator_sends_bounded, server_acts_bounds, server_sends_bounded, state_after_bounds}
use Rattle.tp_runs.proofs.ids.Valid.{IsValid}
use Rattle.tp_runs.proofs.known.World.{Pairs}
use Rattle.tp_runs.proofs.serial_data.Booted.{log_length}
use Rattle.tp_runs.proofs.serial_data.World.{Serial}
use Rattle.tp_runs.proofs.walks.Crashes.{CrashCases, LeftOfCoordinator, LeftOfServer, crash_cases_as, left_shown}
use Rattle.tp_runs.proofs.walks.Steps.{IsCoordinatorUp, IsServerUp, WaitRightly}
use Rattle.tp_runs.specs.Bounded.{IsBoundedEntry, IsBoundedRecord, IsBoundedServer, IsBoundedServerPart, IsBoundedWrite}
use Rattle.tp_runs.specs.Sound.{IsSound}
use Rattle.tp_store.specs.declared.writes.TentativeWrite.{TentativeWrite}
use Rattle.tp_types.specs.Each.{Each}

-- ---- a server that boots

booted_bounded : (sc : Scenario) (at : ServerId) (records : List Record) → IsValid sc → Each (IsOfScenario sc) records → Each IsBoundedRecord records → are_in_range sc.items (values_in sc records) ≡ true
    → IsBoundedServer sc (booted sc at (kept sc at records))
booted_bounded sc at records valid each bounded range =
    let k = kept sc at records in
    let says = kept_law sc at records each in
    let store = (booted sc at k).store in
    let values : store.values ≡ values_in sc records = (prepared_keeps (kept_store sc at k) k.prepared).values ∙ says.values in
    let in_range : are_in_range sc.items store.values ≡ true = ap (are_in_range sc.items) values ∙ range in
    record {
      in_range = in_range;
      values = values_most sc store.values valid (ap length values ∙ log_length sc records) in_range;
      writes = prepared_each (λ (txn : TxnId) (write : TentativeWrite). IsBoundedWrite write) (kept_store sc at k) k.prepared
          (opened_each (λ (txn : TxnId) (write : TentativeWrite). IsBoundedWrite write) (kept_store sc at k) (length sc.txns) refl)
          (λ n p e. (prepared_is IsBoundedRecord p.txn records bounded p (placed_is sc at k records says each n p e).0).1);
      settled = λ n s e. (settled_is IsBoundedRecord (record { 0 = n }) records bounded s (booted_settled sc at records each n s e)).1;
      entries = λ n entry e.
          let own = booted_entries sc at records each n entry e in
          subst IsBoundedEntry own.entry_is (record { answers = tt; waiting = tt; deeds = (prepared_is IsBoundedRecord own.p.txn records bounded own.p own.prepared_is).1 });
    }

booted_in_bounds : (sc : Scenario) (w : State) (at : ServerId) (part : Part Server) → IsValid sc → IsSound sc w → Serial sc w → Bounds sc w → slice_get w.actors.servers at.0 ≡ Some part
    → MoveBounds sc (server_move w.actors at (server_boots sc at part))
booted_in_bounds sc w at part valid sound serial h found =
    let k = kept sc at part.log in
    let each : Each (IsOfScenario sc) part.log = records_of_scenario sc at part.log (sound.actors_are.servers at.0 part found).records in
    let here : IsBoundedServerPart sc part = h.servers at.0 part found in
    server_acts_bounds sc w at part (Some (booted sc at k)) [] (Some log.Boot) (boot_row sc at k).reaction.letters serial h found (booted_bounded sc at part.log valid each here.records here.in_range) tt tt
    (inquiries_are IsBoundedLetter (booted sc at k) (λ p. tt) (by_txn k.prepared))

-- ---- a coordinator that boots

coordinator_booted_in_bounds : (sc : Scenario) (w : State) (txn : TxnId) (part : Part Coordinator) (decided : Option Decision) → Bounds sc w → slice_get w.actors.coordinators txn.0 ≡ Some part
    → MoveBounds sc (coordinator_move w.actors txn (acts_by coordinator_fact [] part.log (coord_boot.boot_by sc txn decided)))
coordinator_booted_in_bounds sc w txn part None h found =
    let effect = coord_boot.boot_by sc txn None in
    coordinator_acts_bounds sc w txn part (Some effect.state) [] effect.reaction.append effect.reaction.letters h found (record { deeds = tt; low = tt }) tt tt
    (orders_say_none (idle sc txn) outcome.Abort (idle sc txn).servers)
coordinator_booted_in_bounds sc w txn part (Some decision_is) h found =
    let effect = coord_boot.boot_by sc txn (Some decision_is) in
    coordinator_acts_bounds sc w txn part (Some effect.state) [] effect.reaction.append effect.reaction.letters h found (record { deeds = tt; low = tt }) tt tt
    (orders_say_none (idle sc txn) (outcome_of decision_is) (idle sc txn).servers)

-- ---- all of them

crashed_by_server_in_bounds : (sc : Scenario) (w : State) (at : ServerId) (part : Part Server) (s : Server) (append : Option Record) → IsValid sc → WaitRightly sc w → IsSound sc w → PreparesNamed w → Agrees sc w → Pairs sc w → Serial sc w → Bounds sc w
    → IsServerUp w at part s → LeftOfServer sc w at s append → MoveBounds sc (server_move w.actors at (goes_down (server_fact at) (what.Crashed (actor.Server at) ∷ []) part append))
crashed_by_server_in_bounds sc w at part s append valid rightly sound named agrees pairs serial h up left =
    server_acts_bounds sc w at part None (what.Crashed (actor.Server at) ∷ []) append [] serial h up.found tt (tt, tt)
    (left_shown w (actor.Server at) (λ (mail : Mail). (server_row sc s mail).reaction.append) append IsBoundedRecord
    (λ n mail sent. (server_sends_bounded sc w valid rightly sound named agrees pairs serial h n mail at part s sent up).forces) left) tt

crashed_by_coordinator_in_bounds : (sc : Scenario) (w : State) (txn : TxnId) (part : Part Coordinator) (c : Coordinator) (append : Option Record) → IsValid sc → Bounds sc w → IsCoordinatorUp w txn part c → LeftOfCoordinator sc w txn c append
    → MoveBounds sc (coordinator_move w.actors txn (goes_down coordinator_fact (what.Crashed (actor.Coordinator txn) ∷ []) part append))
crashed_by_coordinator_in_bounds sc w txn part c append valid h up left =
    coordinator_acts_bounds sc w txn part None (what.Crashed (actor.Coordinator txn) ∷ []) append [] h up.found tt (tt, tt)
    (left_shown w (actor.Coordinator txn) (λ (mail : Mail). (coordinator_row sc c mail).reaction.append) append IsBoundedRecord
    (λ n mail sent. (coordinator_sends_bounded sc w valid h n mail txn part c sent up).forces) left) tt

pub bounds_crash_cases : (sc : Scenario) (w : State) → IsValid sc → WaitRightly sc w → IsSound sc w → PreparesNamed w → Agrees sc w → Pairs sc w → Serial sc w → Bounds sc w → CrashCases sc w (λ taken move. MoveBounds sc move)
bounds_crash_cases sc w valid rightly sound named agrees pairs serial h =
    record {
      server_crashed = λ at part s cut append up left. crashed_by_server_in_bounds sc w at part s append valid rightly sound named agrees pairs serial h up left;
      server_booted = λ at part exists found down. booted_in_bounds sc w at part valid sound serial h found;
      coordinator_crashed = λ txn part c cut append exists up begun left. crashed_by_coordinator_in_bounds sc w txn part c append valid h up left;
      coordinator_booted = λ txn part exists found down. coordinator_booted_in_bounds sc w txn part (decided_in part.log) h found;
    }

-- values stay within their bounds
pub bounds_crashed : (sc : Scenario) (w : State) → IsValid sc → WaitRightly sc w → IsSound sc w → PreparesNamed w → Agrees sc w → Pairs sc w → Serial sc w → Bounds sc w → CrashCases sc w (λ taken move. Bounds sc (state_after w taken move))
bounds_crashed sc w valid rightly sound named agrees pairs serial h =
    crash_cases_as sc w (λ taken move. MoveBounds sc move) (λ taken move. Bounds sc (state_after w taken move)) (λ taken move t. state_after_bounds sc w taken move h t)
    (bounds_crash_cases sc w valid rightly sound named agrees pairs serial h)
