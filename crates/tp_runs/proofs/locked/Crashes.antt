-- Locks, crashes and boots: a server that goes down has none, and one that boots has those of its log.
use Rattle.std.proofs.Common.{List, None, Some, [], slice_get, ℕ, ◌∷◌, ◌≡◌}
use Rattle.tp_model.specs.Words.actor
use Rattle.tp_model.specs.Words.log
use Rattle.tp_model.specs.Words.what
use Rattle.tp_model.specs.Words.{Scenario, ServerId}
use Rattle.tp_recover.specs.Kept.{kept}
use Rattle.tp_runs.proofs.locked.Booted.{PreparedApart, booted_locked}
use Rattle.tp_runs.proofs.locked.World.{ServersLocked, server_acts_locked}
use Rattle.tp_runs.proofs.walks.Crashes.{CrashCases}
use Rattle.tp_runs.specs.Sound.{IsSound}
use Rattle.tp_machine.specs.Machine.{server_boots}
use Rattle.tp_machine.specs.Machine.{State, server_move}
use Rattle.tp_machine.specs.Parts.{Part}
use Rattle.tp_server.specs.Booted.{boot_row, booted}
use Rattle.tp_server.specs.State.{Server}
use Rattle.tp_types.specs.Each.{EachAt}

-- what is prepared on each server's log is apart
abbrev pub ServersApart : List (Part Server) → Type 0
ServersApart servers = EachAt (λ (n : ℕ) (part : Part Server). PreparedApart part.log) servers

booted_in_locked : (sc : Scenario) (w : State) (at : ServerId) (part : Part Server) → IsSound sc w → ServersApart w.actors.servers → ServersLocked sc w.actors.servers → slice_get w.actors.servers at.0 ≡ Some part
    → ServersLocked sc (server_move w.actors at (server_boots sc at part)).actors.servers
booted_in_locked sc w at part sound apart h found =
    let k = kept sc at part.log in
    server_acts_locked sc w at part (Some (booted sc at k)) [] (Some log.Boot) (boot_row sc at k).reaction.letters h
    (booted_locked sc at part.log (sound.actors_are.servers at.0 part found).records (apart at.0 part found))

pub locked_crash_cases : (sc : Scenario) (w : State) → IsSound sc w → ServersApart w.actors.servers → ServersLocked sc w.actors.servers → CrashCases sc w (λ taken move. ServersLocked sc move.actors.servers)
locked_crash_cases sc w sound apart h =
    record {
      server_crashed = λ at part s cut append up left. server_acts_locked sc w at part None (what.Crashed (actor.Server at) ∷ []) append [] h tt;
      server_booted = λ at part exists found down. booted_in_locked sc w at part sound apart h found;
      coordinator_crashed = λ txn part c cut append exists up begun left. h;
      coordinator_booted = λ txn part exists found down. h;
    }
