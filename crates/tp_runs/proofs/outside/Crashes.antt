-- What comes from outside, crashes and boots: a crash is said by its step, and a boot says nothing.
use Rattle.std.proofs.Common.{List, Option, Some, [], ap, drop, flat_map, length, ◌∙◌, ◌∷◌, ◌≡◌}
use Rattle.tp_model.specs.Outside.{IsOutside}
use Rattle.tp_model.specs.Words.actor
use Rattle.tp_model.specs.Words.log
use Rattle.tp_model.specs.Words.what
use Rattle.tp_model.specs.Words.{Record, Scenario, ServerId, What}
use Rattle.tp_coord.specs.Booted as coord_boot
use Rattle.tp_machine.specs.Machine.{State, coordinator_fact, server_fact, state_after}
use Rattle.tp_actor_log.specs.Records.{log_with}
use Rattle.tp_runs.proofs.basics.Facts.{ArePast}
use Rattle.tp_runs.proofs.basics.Logs.{gained}
use Rattle.tp_runs.proofs.outside.Steps.{Says, own_coordinator_facts, own_of, own_server_facts, state_after_outside}
use Rattle.tp_runs.proofs.walks.Crashes.{CrashCases, crash_cases_as}

-- what a log has gained says nothing by itself
server_says : (at : ServerId) (records : List Record) (append : Option Record) → own_of (flat_map (server_fact at) (drop (length records) (log_with records append))) ≡ []
server_says at records append = ap own_of (gained (server_fact at) records append) ∙ own_server_facts at append

coordinator_says : (records : List Record) (append : Option Record) → own_of (flat_map coordinator_fact (drop (length records) (log_with records append))) ≡ []
coordinator_says records append = ap own_of (gained coordinator_fact records append) ∙ own_coordinator_facts append

pub outside_crash_cases : (sc : Scenario) (w : State) → CrashCases sc w (Says sc w)
outside_crash_cases sc w =
    record {
      server_crashed = λ at part s cut append up left. ap (λ (told : List What). what.Crashed (actor.Server at) ∷ told) (server_says at part.log append);
      server_booted = λ at part exists found down. server_says at part.log (Some log.Boot);
      coordinator_crashed = λ txn part c cut append exists up begun left. ap (λ (told : List What). what.Crashed (actor.Coordinator txn) ∷ told) (coordinator_says part.log append);
      coordinator_booted = λ txn part exists found down. coordinator_says part.log (coord_boot.boot_row sc txn part.log).reaction.append;
    }

-- the facts from outside are what the steps say
pub outside_crashed : (sc : Scenario) (w : State) → ArePast (length w.steps) w.facts → IsOutside sc w.steps w.facts → CrashCases sc w (λ taken move. IsOutside sc (state_after w taken move).steps (state_after w taken move).facts)
outside_crashed sc w past h =
    crash_cases_as sc w (Says sc w) (λ taken move. IsOutside sc (state_after w taken move).steps (state_after w taken move).facts) (λ taken move says. state_after_outside sc w taken move past h says) (outside_crash_cases sc w)
