-- Ages, crashes and boots: an entry has the age that is prepared, and a coordinator that boots knows none.
use Rattle.std.proofs.Common.{None, Option, Some, [], length, slice_get, subst, ◌∷◌, ◌≡◌}
use Rattle.tp_model.specs.Facts.{outcome_of}
use Rattle.tp_model.specs.Words.actor
use Rattle.tp_model.specs.Words.log
use Rattle.tp_model.specs.Words.outcome
use Rattle.tp_model.specs.Words.step
use Rattle.tp_model.specs.Words.what
use Rattle.tp_model.specs.Words.{Cut, Decision, Mail, Record, Scenario, ServerId, TxnId}
use Rattle.tp_model.specs.ByAge.{by_txn}
use Rattle.tp_recover.specs.Kept.{kept}
use Rattle.tp_recover.specs.Log.{decided_in}
use Rattle.tp_coord.specs.Booted as coord_boot
use Rattle.tp_coord.specs.Opened.{idle}
use Rattle.tp_coord.specs.State.{Coordinator}
use Rattle.tp_server.specs.Booted.{boot_row, booted}
use Rattle.tp_server.specs.Row.{server_row}
use Rattle.tp_server.specs.State.{Server}
use Rattle.tp_machine.specs.Machine.{goes_down, server_boots}
use Rattle.tp_machine.specs.Machine.{State, acts_by, coordinator_fact, coordinator_move, server_fact, server_move, state_after}
use Rattle.tp_machine.specs.Parts.{Part}
use Rattle.tp_runs.proofs.ages.Actors.{EntryAged, LetterAged, RecordAged, orders_aged}
use Rattle.tp_runs.proofs.ages.World.{Ages, MoveAges, Now, ages_now, coordinator_acts_ages, server_acts_ages, server_sends_aged, state_after_ages}
use Rattle.tp_runs.proofs.basics.Booted.{booted_entries, inquiries_are, records_of_scenario}
use Rattle.tp_runs.proofs.walks.Crashes.{CrashCases, LeftOfServer, crash_cases_as, left_shown}
use Rattle.tp_runs.proofs.walks.Steps.{IsServerUp, WaitRightly}
use Rattle.tp_runs.specs.Sound.{IsSound}

-- ---- servers

crashed_ages : (sc : Scenario) (w : State) (at : ServerId) (part : Part Server) (s : Server) (cut : Option Cut) (append : Option Record) → WaitRightly sc w → Ages w → IsServerUp w at part s → LeftOfServer sc w at s append
    → MoveAges w (step.Crash (actor.Server at) cut) (server_move w.actors at (goes_down (server_fact at) (what.Crashed (actor.Server at) ∷ []) part append))
crashed_ages sc w at part s cut append rightly h up left =
    let taken = step.Crash (actor.Server at) cut in
    server_acts_ages w taken at part None (what.Crashed (actor.Server at) ∷ []) append [] h up.found
    (record {
      entries = tt;
      forces = left_shown w (actor.Server at) (λ (mail : Mail). (server_row sc s mail).reaction.append) append (RecordAged (Now w taken))
          (λ n mail sent. (server_sends_aged sc w taken rightly h n mail at part s sent up).forces) left;
      letters_are = tt;
    })

booted_ages : (sc : Scenario) (w : State) (at : ServerId) (part : Part Server) → IsSound sc w → Ages w → slice_get w.actors.servers at.0 ≡ Some part
    → MoveAges w (step.Boot (actor.Server at)) (server_move w.actors at (server_boots sc at part))
booted_ages sc w at part sound h found =
    let taken = step.Boot (actor.Server at) in
    let k = kept sc at part.log in
    let each = records_of_scenario sc at part.log (sound.actors_are.servers at.0 part found).records in
    let now = ages_now w taken h in
    server_acts_ages w taken at part (Some (booted sc at k)) [] (Some log.Boot) (boot_row sc at k).reaction.letters h found
    (record {
      entries = λ n entry e.
          let own = booted_entries sc at part.log each n entry e in
          subst (EntryAged (Now w taken) n) own.entry_is (subst (λ (txn : TxnId). Now w taken txn own.p.age) own.own ((now.servers at.0 part found).prepared own.p.txn own.p own.prepared_is));
      forces = tt;
      letters_are = inquiries_are (LetterAged (Now w taken) (length w.steps)) (booted sc at k) (λ p. tt) (by_txn k.prepared);
    })

-- ---- coordinators

coordinator_booted_ages : (sc : Scenario) (w : State) (txn : TxnId) (part : Part Coordinator) (decided : Option Decision) → Ages w
    → MoveAges w (step.Boot (actor.Coordinator txn)) (coordinator_move w.actors txn (acts_by coordinator_fact [] part.log (coord_boot.boot_by sc txn decided)))
coordinator_booted_ages sc w txn part None h =
    let taken = step.Boot (actor.Coordinator txn) in
    let effect = coord_boot.boot_by sc txn None in
    coordinator_acts_ages w taken txn part.log (Some effect.state) [] effect.reaction.append effect.reaction.letters h (record { age = tt; known = λ running. absurd (cc) })
    (orders_aged (Now w taken) (length w.steps) (idle sc txn) outcome.Abort (idle sc txn).servers)
coordinator_booted_ages sc w txn part (Some decision_is) h =
    let taken = step.Boot (actor.Coordinator txn) in
    let effect = coord_boot.boot_by sc txn (Some decision_is) in
    coordinator_acts_ages w taken txn part.log (Some effect.state) [] effect.reaction.append effect.reaction.letters h (record { age = tt; known = λ running. absurd (cc) })
    (orders_aged (Now w taken) (length w.steps) (idle sc txn) (outcome_of decision_is) (idle sc txn).servers)

-- ---- all of them

pub ages_crash_cases : (sc : Scenario) (w : State) → WaitRightly sc w → IsSound sc w → Ages w → CrashCases sc w (MoveAges w)
ages_crash_cases sc w rightly sound h =
    record {
      server_crashed = λ at part s cut append up left. crashed_ages sc w at part s cut append rightly h up left;
      server_booted = λ at part exists found down. booted_ages sc w at part sound h found;
      coordinator_crashed = λ txn part c cut append exists up begun left.
          coordinator_acts_ages w (step.Crash (actor.Coordinator txn) cut) txn part.log None (what.Crashed (actor.Coordinator txn) ∷ []) append [] h tt tt;
      coordinator_booted = λ txn part exists found down. coordinator_booted_ages sc w txn part (decided_in part.log) h;
    }

-- ages stay the places of submissions
pub ages_crashed : (sc : Scenario) (w : State) → WaitRightly sc w → IsSound sc w → Ages w → CrashCases sc w (λ taken move. Ages (state_after w taken move))
ages_crashed sc w rightly sound h = crash_cases_as sc w (MoveAges w) (λ taken move. Ages (state_after w taken move)) (λ taken move t. state_after_ages w taken move t) (ages_crash_cases sc w rightly sound h)
