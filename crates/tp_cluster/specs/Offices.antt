-- What stands behind an actor's lock.
use Rattle.std.specs.Prelude.{◌≡◌, ℕ, List, [], ◌∷◌, slice_get, Option, Some, None, option_map, false}
use Rattle.atomic_table.specs.Seated.{TableId}
use Rattle.tp_coord.specs.State.{Coordinator}
use Rattle.tp_model.specs.Words.actor
use Rattle.tp_model.specs.Words.{Actor, Scenario}
use Rattle.tp_offices.specs.declared.authority.Authority.{Authority}
use Rattle.tp_offices.specs.declared.master.Master.{Master}
use Rattle.tp_server.specs.State.{Server}
use Rattle.tp_machine.specs.declared.actors.Actors.{Actors}
use Rattle.tp_machine.specs.Moves.{number_of}
use Rattle.tp_machine.specs.Named.{IsActor}
use Rattle.tp_machine.specs.Parts as parts
use Rattle.tp_wire.specs.declared.view.Part.{Part}
use Rattle.tp_wire.specs.Passes.{Known}
use Rattle.tp_cluster.specs.declared.plan.Plan.{Plan}
use Rattle.tp_cluster.specs.Runs.{state_at}

-- what an actor has
pub data Held : Type 0 where
  OfServer : parts.Part Server → Held
  OfCoordinator : parts.Part Coordinator → Held
  OfAuthority : Authority → Held
  OfMaster : Master → Held

-- what an actor has among all actors
abbrev pub held_at : Actors → Actor → Option Held
held_at actors (actor.Server at) = option_map OfServer (slice_get actors.servers at.0)
held_at actors (actor.Coordinator txn) = option_map OfCoordinator (slice_get actors.coordinators txn.0)
held_at actors actor.Authority = Some (OfAuthority actors.authority)
held_at actors actor.Master = Some (OfMaster actors.master)

-- The pass kept with an actor has that actor's part and no other, and took no mail. What is kept is what the machine has of
-- the actor after the steps of the history up to which the part is known
pub record IsOffice (sc : Scenario) (table : TableId) (who : Actor) (held : Held) (kept : Known) : Type 0 where
  pub site : kept.table ≡ table
  pub live : kept.given_up ≡ false
  pub exists : IsActor sc who
  pub part : Part
  pub one : kept.view.parts ≡ part ∷ []
  pub number_is : part.number ≡ number_of sc who
  pub took : part.took ≡ []
  pub state : held_at (state_at sc part.upto).actors who ≡ Some held

-- the name of no table, and a cluster of nobody
abbrev pub no_table : TableId
no_table = record { words = 0; slots = 0; views_name = 0; atom = 0; block = 0; offset = 0; slot_names = [] }

abbrev pub no_plan : Plan
no_plan = record {
  scenario = record {
    admins = [];
    clock = 0;
    creds = [];
    servers = [];
    items = [];
    txns = [];
    steps = [];
    clients = [];
    publishers = [];
    officers = [];
  };
  callers = 0;
}
