-- Serial data, crashes and boots: what a server's log says of it a crash leaves, and a boot takes up.
use Rattle.std.proofs.Common.{IfSome, List, None, Option, Some, [], ap, option_map, refl, slice_get, subst, sym, ℕ, ◌<◌, ◌∙◌, ◌∷◌, ◌≡◌, length}
use Rattle.tp_model.specs.Words.actor
use Rattle.tp_model.specs.Words.log
use Rattle.tp_model.specs.Words.what
use Rattle.tp_model.specs.Words.{Decision, Mail, Prepared, Record, Scenario, ServerId, TxnId}
use Rattle.tp_recover.proofs.HeldLemmas.{prepared_is}
use Rattle.tp_recover.specs.Kept.{kept}
use Rattle.tp_recover.specs.Laws.{IsOfScenario}
use Rattle.tp_recover.specs.Log.{decided_in, prepared_in}
use Rattle.tp_coord.specs.Booted as coord_boot
use Rattle.tp_coord.specs.Row.{coordinator_row}
use Rattle.tp_coord.specs.State.{Coordinator}
use Rattle.tp_server.specs.Booted.{boot_row, booted}
use Rattle.tp_server.specs.Row.{server_row}
use Rattle.tp_server.specs.State.{Server}
use Rattle.tp_machine.specs.Machine.{goes_down, server_boots}
use Rattle.tp_machine.specs.Machine.{State, acts_by, coordinator_fact, coordinator_move, server_fact, server_move, state_after}
use Rattle.tp_machine.specs.Named.{IsTxn}
use Rattle.tp_machine.specs.Parts.{Part}
use Rattle.tp_runs.proofs.agreement.Coordinator.{IsFirst}
use Rattle.tp_runs.proofs.agreement.Logs.{DecidedAs, IsAsked, IsPrepared}
use Rattle.tp_runs.proofs.agreement.Server.{RecordRests}
use Rattle.tp_runs.proofs.agreement.Steps.{coordinator_lawful, own_txn}
use Rattle.tp_runs.proofs.agreement.World.{Agrees, PreparesNamed}
use Rattle.tp_runs.proofs.basics.Booted.{records_of_scenario}
use Rattle.tp_runs.proofs.deeds.Rising.{AreRising}
use Rattle.tp_runs.proofs.basics.Logs.{Prepares}
use Rattle.tp_runs.proofs.ids.Valid.{IsValid}
use Rattle.tp_runs.proofs.locked.Crashes.{locked_crash_cases}
use Rattle.tp_runs.proofs.locked.World.{ServersLocked}
use Rattle.tp_runs.proofs.known.World.{Pairs, declared_by, pair_of_part}
use Rattle.tp_runs.proofs.pairs.Actors.{asker_at, pair_at, pair_of, site_of}
use Rattle.tp_runs.proofs.pairs.Fits.{IsFront}
use Rattle.tp_runs.proofs.pairs.Pair.{held, prepared_held}
use Rattle.tp_runs.proofs.pairs.Rises.{upto_rises}
use Rattle.tp_runs.proofs.serial_data.Booted.{DeedsRise, boot_on_log}
use Rattle.tp_runs.proofs.serial_data.Clear.{commit_ready}
use Rattle.tp_runs.proofs.serial_data.Deciding.{RecordUp, coordinator_acts_serial, coordinator_row_own, record_up}
use Rattle.tp_runs.proofs.serial_data.OnLog.{RecordReads}
use Rattle.tp_runs.proofs.serial_data.Receiving.{ServerReceives, record_shares}
use Rattle.tp_runs.proofs.serial_data.Rows.{RecordTested}
use Rattle.tp_runs.proofs.serial_data.Settling.{IsShareOf, server_acts_serial}
use Rattle.tp_runs.proofs.serial_data.Steps.{server_brings}
use Rattle.tp_runs.proofs.serial_data.UpOnLog.{UpOnLog, record_reads}
use Rattle.tp_runs.proofs.serial_data.World.{MoveSerial, Serial, state_after_serial, up_on_log}
use Rattle.tp_runs.proofs.walks.Crashes.{CrashCases, LeftOfCoordinator, LeftOfServer, crash_cases_as, crash_cases_both, left_shown}
use Rattle.tp_runs.proofs.walks.Steps.{IsCoordinatorUp, IsServerUp, WaitRightly, WasSent}
use Rattle.tp_runs.specs.Sound.{IsSound}
use Rattle.tp_types.specs.Each.{Each}

-- ---- a server crashes

crashed_by_server : (sc : Scenario) (w : State) (at : ServerId) (part : Part Server) (s : Server) (append : Option Record) → IsValid sc → WaitRightly sc w → IsSound sc w → PreparesNamed w → Agrees sc w → Pairs sc w → Serial sc w → IsServerUp w at part s
    → LeftOfServer sc w at s append → MoveSerial sc w (server_move w.actors at (goes_down (server_fact at) (what.Crashed (actor.Server at) ∷ []) part append))
crashed_by_server sc w at part s append valid rightly sound named agrees pairs h up left =
    let who = actor.Server at in
    let forces : Mail → Option Record = λ mail. (server_row sc s mail).reaction.append in
    let M = IsAsked sc w.actors.coordinators at in
    let was : UpOnLog sc s part.log = up_on_log sc w at part s h up.found up.up in
    let brings : (n : ℕ) (mail : Mail) → WasSent w n mail who → ServerReceives sc w at part s (server_row sc s mail) = λ n mail sent. server_brings sc w valid rightly sound named agrees pairs h n mail at part s sent up in
    server_acts_serial sc w at part None (what.Crashed who ∷ []) append [] agrees h
    (record {
      found = up.found;
      grown = refl;
      state = tt;
      rests = left_shown w who forces append (RecordRests (DecidedAs w.actors.coordinators) M part.log) (λ n mail sent. (brings n mail sent).rests) left;
      reads = left_shown w who forces append (RecordReads sc part.log)
          (λ n mail sent. let b = brings n mail sent in record_reads sc M s part.log (forces mail) was b.locked b.agrees b.keeps.votes) left;
      tested = left_shown w who forces append (RecordTested sc) (λ n mail sent. (brings n mail sent).keeps.forces) left;
      shares = left_shown w who forces append (Prepares (IsShareOf sc w at))
          (λ n mail sent. let b = brings n mail sent in record_shares sc w at part s (forces mail) agrees h up.found b.agrees b.keeps.votes) left;
    }) (tt, tt)

-- ---- a server boots

-- the deeds that are prepared on the log of a server that is down are those of its first queries
prepared_rise : (sc : Scenario) (w : State) (at : ServerId) (part : Part Server) → Each (IsOfScenario sc) part.log → Pairs sc w → slice_get w.actors.servers at.0 ≡ Some part → part.up ≡ None
    → (txn : TxnId) (p : Prepared) → prepared_in txn part.log ≡ Some p → DeedsRise p.deeds
prepared_rise sc w at part each pairs found down txn p e =
    let vote = prepared_is (IsOfScenario sc) txn part.log each p e in
    let exists : IsTxn sc txn = subst (λ (t : TxnId). t.0 < length sc.txns) vote.0 vote.1 in
    let there = declared_by sc txn exists in
    let asker = asker_at w.actors.coordinators txn.0 at.0 in
    let same : pair_at w.actors txn at.0 ≡ pair_of txn asker None part.log = pair_of_part w.actors at part txn found ∙ ap (λ (u : Option Server). pair_of txn asker u part.log) down in
    let holds : held (pair_at w.actors txn at.0) ≡ Some (prepared_held p) = ap held same ∙ ap (option_map prepared_held) e in
    let front : IsFront (site_of sc at.0 there.0) p.deeds = (pairs.fits txn at.0 there.0 there.1).server.front (prepared_held p) holds in
    record { last = front.last; rising = subst (λ (all : List ℕ). AreRising 0 all front.last) (sym front.numbers_are) (upto_rises (site_of sc at.0 there.0) front.last) }

booted_by_server : (sc : Scenario) (w : State) (at : ServerId) (part : Part Server) → IsSound sc w → Agrees sc w → Pairs sc w → Serial sc w → slice_get w.actors.servers at.0 ≡ Some part → part.up ≡ None
    → MoveSerial sc w (server_move w.actors at (server_boots sc at part))
booted_by_server sc w at part sound agrees pairs h found down =
    let k = kept sc at part.log in
    let each : Each (IsOfScenario sc) part.log = records_of_scenario sc at part.log (sound.actors_are.servers at.0 part found).records in
    server_acts_serial sc w at part (Some (booted sc at k)) [] (Some log.Boot) (boot_row sc at k).reaction.letters agrees h
    (record {
      found = found;
      grown = refl;
      state = boot_on_log sc at part.log each (h.servers at.0 part found).log (prepared_rise sc w at part each pairs found down);
      rests = tt;
      reads = tt;
      tested = tt;
      shares = tt;
    }) tt

-- ---- a coordinator crashes

crashed_by_coordinator : (sc : Scenario) (w : State) (txn : TxnId) (part : Part Coordinator) (c : Coordinator) (append : Option Record) → IsValid sc → IsSound sc w → Agrees sc w → Pairs sc w → Serial sc w → IsTxn sc txn
    → IsCoordinatorUp w txn part c → LeftOfCoordinator sc w txn c append
    → MoveSerial sc w (coordinator_move w.actors txn (goes_down coordinator_fact (what.Crashed (actor.Coordinator txn) ∷ []) part append))
crashed_by_coordinator sc w txn part c append valid sound agrees pairs h exists up left =
    let who = actor.Coordinator txn in
    let forces : Mail → Option Record = λ mail. (coordinator_row sc c mail).reaction.append in
    let own : c.txn ≡ txn = own_txn sc w txn part c sound up.found up.up in
    coordinator_acts_serial sc w txn part None (what.Crashed who ∷ []) append [] valid agrees pairs h
    (record {
      exists = exists;
      found = up.found;
      quiet = (tt, tt);
      fresh = left_shown w who forces append (IsFirst sc (IsPrepared w.actors.servers txn) txn part.log)
          (λ n mail sent.
          subst (λ (t : TxnId). IfSome (forces mail) (IsFirst sc (IsPrepared w.actors.servers txn) t part.log)) own (coordinator_lawful sc w sound agrees n mail txn part c sent up).fresh) left;
      forces = left_shown w who forces append (RecordUp part) (λ n mail sent. record_up part c (forces mail) up.up (coordinator_row_own sc c mail)) left;
    })
    (λ other declared undecided r. commit_ready sc w txn part other declared valid agrees h up.found undecided r)

-- ---- a coordinator boots

booted_by_coordinator : (sc : Scenario) (w : State) (txn : TxnId) (part : Part Coordinator) (decided : Option Decision) → IsValid sc → Agrees sc w → Pairs sc w → Serial sc w → IsTxn sc txn → slice_get w.actors.coordinators txn.0 ≡ Some part
    → decided_in part.log ≡ decided → MoveSerial sc w (coordinator_move w.actors txn (acts_by coordinator_fact [] part.log (coord_boot.boot_by sc txn decided)))
booted_by_coordinator sc w txn part None valid agrees pairs h exists found undecided =
    let effect = coord_boot.boot_by sc txn None in
    coordinator_acts_serial sc w txn part (Some effect.state) [] effect.reaction.append effect.reaction.letters valid agrees pairs h
    (record { exists = exists; found = found; quiet = tt; fresh = record { undecided = undecided; own = refl; prepared = tt }; forces = tt })
    (λ other declared none r. commit_ready sc w txn part other declared valid agrees h found none r)
booted_by_coordinator sc w txn part (Some decision_is) valid agrees pairs h exists found decided =
    let effect = coord_boot.boot_by sc txn (Some decision_is) in
    coordinator_acts_serial sc w txn part (Some effect.state) [] effect.reaction.append effect.reaction.letters valid agrees pairs h
    (record { exists = exists; found = found; quiet = tt; fresh = tt; forces = tt }) (λ other declared none r. commit_ready sc w txn part other declared valid agrees h found none r)

-- ---- all of them

pub serial_crash_cases : (sc : Scenario) (w : State) → IsValid sc → WaitRightly sc w → IsSound sc w → PreparesNamed w → Agrees sc w → Pairs sc w → Serial sc w → CrashCases sc w (λ taken move. MoveSerial sc w move)
serial_crash_cases sc w valid rightly sound named agrees pairs h =
    record {
      server_crashed = λ at part s cut append up left. crashed_by_server sc w at part s append valid rightly sound named agrees pairs h up left;
      server_booted = λ at part exists found down. booted_by_server sc w at part sound agrees pairs h found down;
      coordinator_crashed = λ txn part c cut append exists up begun left. crashed_by_coordinator sc w txn part c append valid sound agrees pairs h exists up left;
      coordinator_booted = λ txn part exists found down. booted_by_coordinator sc w txn part (decided_in part.log) valid agrees pairs h exists found refl;
    }

-- data stays serial
pub serial_crashed : (sc : Scenario) (w : State) → IsValid sc → WaitRightly sc w → IsSound sc w → PreparesNamed w → Agrees sc w → Pairs sc w → Serial sc w → CrashCases sc w (λ taken move. Serial sc (state_after w taken move))
serial_crashed sc w valid rightly sound named agrees pairs h =
    crash_cases_as sc w (λ taken move. MoveSerial sc w move × ServersLocked sc move.actors.servers) (λ taken move. Serial sc (state_after w taken move)) (λ taken move t. state_after_serial sc w taken move agrees h t.0 t.1)
    (crash_cases_both (serial_crash_cases sc w valid rightly sound named agrees pairs h) (locked_crash_cases sc w sound (λ n part found. (h.servers n part found).log.apart) h.locked))
