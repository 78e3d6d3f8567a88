-- Sizes, crashes and boots: a crash leaves no record but that of a row, and a boot forces a small one.
use Rattle.std.proofs.Common.{None, Option, Some, [], slice_get, ◌≡◌}
use Rattle.tp_model.specs.Words.actor
use Rattle.tp_model.specs.Words.log
use Rattle.tp_model.specs.Words.{Decision, Mail, Scenario, TxnId}
use Rattle.tp_recover.specs.Kept.{kept}
use Rattle.tp_recover.specs.Log.{decided_in}
use Rattle.tp_coord.specs.Booted as coord_boot
use Rattle.tp_coord.specs.Row.{coordinator_row}
use Rattle.tp_coord.specs.State.{Coordinator}
use Rattle.tp_server.specs.Booted.{booted}
use Rattle.tp_server.specs.Row.{server_row}
use Rattle.tp_machine.specs.Machine.{State, acts_by, coordinator_fact, coordinator_move, state_after}
use Rattle.tp_machine.specs.Parts.{Part}
use Rattle.tp_runs.proofs.agreement.World.{Agrees}
use Rattle.tp_runs.proofs.basics.Homes.{HaveHomes}
use Rattle.tp_runs.proofs.ids.Valid.{IsValid}
use Rattle.tp_runs.proofs.known.World.{Pairs}
use Rattle.tp_runs.proofs.sizes.Counts.{IsSmallAtCoordinator, IsSmallAtServer}
use Rattle.tp_runs.proofs.sizes.World.{AreSmall, Sizes, coordinators_small, received_small, server_sends_small, servers_small}
use Rattle.tp_runs.proofs.trust.World.{Trusts}
use Rattle.tp_runs.proofs.walks.Crashes.{CrashCases, crash_cases_as, left_shown}
use Rattle.tp_runs.proofs.walks.Steps.{WaitRightly}
use Rattle.tp_runs.specs.Sound.{IsSound}

coordinator_booted_small : (sc : Scenario) (w : State) (txn : TxnId) (part : Part Coordinator) (decided : Option Decision) → Sizes w → slice_get w.actors.coordinators txn.0 ≡ Some part
    → AreSmall (coordinator_move w.actors txn (acts_by coordinator_fact [] part.log (coord_boot.boot_by sc txn decided))).actors
coordinator_booted_small sc w txn part None h found =
    let effect = coord_boot.boot_by sc txn None in
    coordinators_small w.actors txn part (Some effect.state) effect.reaction.append h found tt
coordinator_booted_small sc w txn part (Some decision_is) h found =
    let effect = coord_boot.boot_by sc txn (Some decision_is) in
    coordinators_small w.actors txn part (Some effect.state) effect.reaction.append h found tt

pub sizes_crash_cases : (sc : Scenario) (w : State) → HaveHomes sc → IsValid sc → WaitRightly sc w → IsSound sc w → Agrees sc w → Pairs sc w → Trusts sc w → Sizes w → CrashCases sc w (λ taken move. AreSmall move.actors)
sizes_crash_cases sc w homes valid rightly sound agrees pairs trusts h =
    record {
      server_crashed = λ at part s cut append up left.
          servers_small w.actors at part None append h up.found
          (left_shown w (actor.Server at) (λ (mail : Mail). (server_row sc s mail).reaction.append) append IsSmallAtServer (λ n mail sent. server_sends_small sc w homes rightly pairs mail at part s up) left);
      server_booted = λ at part exists found down. servers_small w.actors at part (Some (booted sc at (kept sc at part.log))) (Some log.Boot) h found tt;
      coordinator_crashed = λ txn part c cut append exists up begun left.
          coordinators_small w.actors txn part None append h up.found
          (left_shown w (actor.Coordinator txn) (λ (mail : Mail). (coordinator_row sc c mail).reaction.append) append IsSmallAtCoordinator
          (λ n mail sent. received_small sc w homes valid sound agrees pairs trusts n mail txn part c sent up) left);
      coordinator_booted = λ txn part exists found down. coordinator_booted_small sc w txn part (decided_in part.log) h found;
    }

-- records stay small
pub sizes_crashed : (sc : Scenario) (w : State) → HaveHomes sc → IsValid sc → WaitRightly sc w → IsSound sc w → Agrees sc w → Pairs sc w → Trusts sc w → Sizes w → CrashCases sc w (λ taken move. Sizes (state_after w taken move))
sizes_crashed sc w homes valid rightly sound agrees pairs trusts h =
    crash_cases_as sc w (λ taken move. AreSmall move.actors) (λ taken move. Sizes (state_after w taken move)) (λ taken move small. small) (sizes_crash_cases sc w homes valid rightly sound agrees pairs trusts h)
