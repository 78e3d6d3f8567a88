-- Epochs, crashes and boots: a server that boots is in its log's next epoch, and a coordinator that boots keeps none.
use Rattle.std.proofs.Common.{None, Option, Some, [], ap, arith, false, length, refl, replicate, slice_get, subst, sym, ℕ, ◌∙◌, ◌∷◌, ◌≡◌, ◌≤◌}
use Rattle.std.proofs.lemmas.List.{length-replicate}
use Rattle.tp_model.specs.Facts.{outcome_of}
use Rattle.tp_model.specs.Words.actor
use Rattle.tp_model.specs.Words.log
use Rattle.tp_model.specs.Words.outcome
use Rattle.tp_model.specs.Words.what
use Rattle.tp_model.specs.Words.{Decision, Letter, Mail, Record, Scenario, ServerId, TxnId}
use Rattle.tp_recover.proofs.KeptLemmas.{kept_law}
use Rattle.tp_recover.proofs.LogLemmas.{boots_push}
use Rattle.tp_model.specs.ByAge.{by_txn}
use Rattle.tp_recover.specs.Kept.{kept}
use Rattle.tp_recover.specs.Log.{decided_in, epoch_in}
use Rattle.tp_coord.specs.Booted as coord_boot
use Rattle.tp_coord.specs.Opened.{idle}
use Rattle.tp_coord.specs.State.{Coordinator}
use Rattle.tp_server.specs.Booted.{boot_row, booted}
use Rattle.tp_server.specs.Row.{server_row}
use Rattle.tp_server.specs.State.{Server}
use Rattle.tp_machine.specs.Machine.{goes_down, server_boots}
use Rattle.tp_machine.specs.Logs.{epoch_at}
use Rattle.tp_machine.specs.Machine.{State, acts_by, coordinator_fact, coordinator_move, server_fact, server_move, state_after}
use Rattle.tp_actor_log.specs.Records.{log_with}
use Rattle.tp_machine.specs.Parts.{Part}
use Rattle.tp_runs.proofs.basics.Booted.{booted_entries, inquiries_are, records_of_scenario}
use Rattle.tp_runs.proofs.basics.Phases.{is_undecided}
use Rattle.tp_runs.proofs.epochs.Asked.{asked_in}
use Rattle.tp_runs.proofs.epochs.Coordinator.{orders_plain}
use Rattle.tp_runs.proofs.epochs.Kept.{CoordinatorKeeps, plain_keeps}
use Rattle.tp_runs.proofs.epochs.Server.{EntryMade, PreparedMade, RecordMade, ReplyMade}
use Rattle.tp_runs.proofs.epochs.World.{Epochs, StepEpochs, coordinator_acts_epochs, server_acts_epochs, server_sends_epochs, state_after_epochs}
use Rattle.tp_runs.proofs.walks.Crashes.{CrashCases, LeftOfServer, crash_cases_as, left_shown}
use Rattle.tp_runs.proofs.walks.Steps.{IsServerUp, WaitRightly}
use Rattle.tp_runs.specs.Sound.{IsSound}
use Rattle.tp_types.proofs.EachLemmas.{placed_none}
use Rattle.tp_types.specs.Each.{EachPlaced}

-- ---- servers

crashed_epochs : (sc : Scenario) (w : State) (at : ServerId) (part : Part Server) (s : Server) (append : Option Record) → WaitRightly sc w → IsSound sc w → Epochs sc w → IsServerUp w at part s → LeftOfServer sc w at s append
    → StepEpochs sc w (server_move w.actors at (goes_down (server_fact at) (what.Crashed (actor.Server at) ∷ []) part append))
crashed_epochs sc w at part s append rightly sound h up left =
    server_acts_epochs sc w at part (what.Crashed (actor.Server at) ∷ []) None append [] h up.found
    (record {
      made = tt;
      forces = left_shown w (actor.Server at) (λ (mail : Mail). (server_row sc s mail).reaction.append) append (RecordMade (asked_in w.mails) at (epoch_in part.log))
          (λ n mail sent. (server_sends_epochs sc w rightly sound h n mail at part s sent up).forces) left;
      replies = tt;
    })

booted_epochs : (sc : Scenario) (w : State) (at : ServerId) (part : Part Server) → IsSound sc w → Epochs sc w → slice_get w.actors.servers at.0 ≡ Some part → StepEpochs sc w (server_move w.actors at (server_boots sc at part))
booted_epochs sc w at part sound h found =
    let A = asked_in w.mails in
    let k = kept sc at part.log in
    let each = records_of_scenario sc at part.log (sound.actors_are.servers at.0 part found).records in
    let says = kept_law sc at part.log each in
    let epoch = says.epoch in
    server_acts_epochs sc w at part [] (Some (booted sc at k)) (Some log.Boot) (boot_row sc at k).reaction.letters h found
    (record {
      made = record {
        epoch_is = omega (arith, epoch, boots_push part.log log.Boot);
        entries = λ n entry e.
            let own = booted_entries sc at part.log each n entry e in
            let was : PreparedMade A at (epoch_in part.log) own.p.txn own.p = (h.servers at.0 part found).prepared own.p.txn own.p own.prepared_is in
            let past = was.past in
            subst (EntryMade sc A at (booted sc at k).epoch) own.entry_is (record { past = omega (arith, past, epoch); present = λ unvoted. absurd (cc); waiting = tt; answers = tt });
      };
      forces = tt;
      replies = inquiries_are (λ (letter : Letter). ReplyMade sc A at (epoch_in (log_with part.log (Some log.Boot))) letter.from letter.body) (booted sc at k) (λ p. tt) (by_txn k.prepared);
    })

-- ---- coordinators

-- a coordinator that has decided, and keeps no epoch
ending_keeps : (sc : Scenario) (E : ℕ → ℕ) (asked : ServerId → Option ℕ) (c : Coordinator) → c.epochs ≡ replicate (length sc.servers) None → is_undecided c.phase ≡ false → CoordinatorKeeps sc E asked c
ending_keeps sc E asked c none decided =
    record {
      places = ap length none ∙ length-replicate {A = Option ℕ} (length sc.servers) None;
      past = subst (EachPlaced (λ (n : ℕ) (epoch : ℕ). epoch ≤ E n)) (sym none) (placed_none (λ (n : ℕ) (epoch : ℕ). epoch ≤ E n) (length sc.servers));
      undecided = λ unsure. absurd (cc);
    }

coordinator_booted_epochs : (sc : Scenario) (w : State) (txn : TxnId) (part : Part Coordinator) (decided : Option Decision) → Epochs sc w → slice_get w.actors.coordinators txn.0 ≡ Some part
    → StepEpochs sc w (coordinator_move w.actors txn (acts_by coordinator_fact [] part.log (coord_boot.boot_by sc txn decided)))
coordinator_booted_epochs sc w txn part None h found =
    let effect = coord_boot.boot_by sc txn None in
    let E = epoch_at w.actors.servers in
    coordinator_acts_epochs sc w txn part [] (Some effect.state) effect.reaction.append effect.reaction.letters h found
    (plain_keeps sc E (asked_in w.mails) txn (Some effect.state) effect.reaction.letters (ending_keeps sc E (asked_in w.mails txn) effect.state refl refl) (orders_plain (idle sc txn) outcome.Abort (idle sc txn).servers))
coordinator_booted_epochs sc w txn part (Some decision_is) h found =
    let effect = coord_boot.boot_by sc txn (Some decision_is) in
    let E = epoch_at w.actors.servers in
    coordinator_acts_epochs sc w txn part [] (Some effect.state) effect.reaction.append effect.reaction.letters h found
    (plain_keeps sc E (asked_in w.mails) txn (Some effect.state) effect.reaction.letters (ending_keeps sc E (asked_in w.mails txn) effect.state refl refl)
    (orders_plain (idle sc txn) (outcome_of decision_is) (idle sc txn).servers))

-- ---- all of them

pub epochs_crash_cases : (sc : Scenario) (w : State) → WaitRightly sc w → IsSound sc w → Epochs sc w → CrashCases sc w (λ taken move. StepEpochs sc w move)
epochs_crash_cases sc w rightly sound h =
    record {
      server_crashed = λ at part s cut append up left. crashed_epochs sc w at part s append rightly sound h up left;
      server_booted = λ at part exists found down. booted_epochs sc w at part sound h found;
      coordinator_crashed = λ txn part c cut append exists up begun left.
          coordinator_acts_epochs sc w txn part (what.Crashed (actor.Coordinator txn) ∷ []) None append [] h up.found (plain_keeps sc (epoch_at w.actors.servers) (asked_in w.mails) txn None [] tt tt);
      coordinator_booted = λ txn part exists found down. coordinator_booted_epochs sc w txn part (decided_in part.log) h found;
    }

-- what is said of epochs stays so
pub epochs_crashed : (sc : Scenario) (w : State) → WaitRightly sc w → IsSound sc w → Epochs sc w → CrashCases sc w (λ taken move. Epochs sc (state_after w taken move))
epochs_crashed sc w rightly sound h =
    crash_cases_as sc w (λ taken move. StepEpochs sc w move) (λ taken move. Epochs sc (state_after w taken move)) (λ taken move t. state_after_epochs sc w taken move t) (epochs_crash_cases sc w rightly sound h)
