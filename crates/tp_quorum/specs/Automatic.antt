-- The automatic phase: which step comes next by itself, what so many such steps are, and how many there are at most.
use Rattle.std.specs.Prelude.{◌≡◌, ℕ, ◌+◌, ◌*◌, ◌≤◌, List, [], ◌∷◌, length, map, slice_get, Option, None, option_map, zero, suc}
use Rattle.std.specs.Option.{option_map_or, option_or}
use Rattle.tp_quorum.specs.Machine.{Machine, after_step, after_steps, first_where, is_replica_down}
use Rattle.tp_quorum.specs.Operations.{answers_in, is_running}
use Rattle.tp_quorum.specs.Words.{Operation, QStep}
use Rattle.tp_quorum.specs.Words.step

-- the lowest replica that is down boots; else the oldest undelivered mail is delivered; else the timer of the least
-- operation that has not ended fires; else the machine is quiet
abbrev pub next_by : Option ℕ → Option ℕ → Option ℕ → Option QStep
next_by down mail op =
    option_or (option_map (λ (replica : ℕ). step.Boot replica) down)
    (option_or (option_map (λ (number : ℕ). step.Deliver number) mail)
    (option_map (λ (number : ℕ). step.Timer number) op))

abbrev pub next_of : Machine → Option QStep
next_of m =
    next_by (first_where is_replica_down 0 m.state.replicas) (slice_get m.undelivered 0)
    (first_where is_running 0 m.state.ops)

-- at most so many automatic steps from a machine on: fewer where it comes to be quiet
abbrev pub automatic_steps : ℕ → Machine → List QStep
automatic_steps zero m = []
automatic_steps (suc left) m =
    option_map_or
    (λ (taken : QStep). taken ∷ automatic_steps left (after_step m taken)) (next_of m) []

-- how many operations have not ended
abbrev pub running_count : List Operation → ℕ
running_count ops = answers_in (map is_running ops)

-- from a machine on there are at most so many automatic steps
abbrev pub bound : Machine → ℕ
bound m =
    length m.state.replicas + 2 * length m.undelivered
    + running_count m.state.ops * (4 * length m.state.replicas + 1)

-- the machine after its automatic steps, of which the bound may be taken
abbrev pub at_rest : Machine → Machine
at_rest m = after_steps m (automatic_steps (bound m) m)

-- however many automatic steps may be taken from this machine on, no more than the bound are; after them nothing is left to
-- do, and every operation has ended
pub record HasEnd (m : Machine) : Type 0 where
  pub few : (count : ℕ) → length (automatic_steps count m) ≤ bound m
  pub quiet : next_of (at_rest m) ≡ None
  pub ended : running_count (at_rest m).state.ops ≡ 0
