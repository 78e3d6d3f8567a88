-- The automatic phase: which step comes next by itself, what so many such steps are, how many there are at most, and
-- what a drain does.
use Rattle.std.specs.Prelude.{◌≡◌, ℕ, ◌+◌, ◌*◌, max, List, [], ◌∷◌, length, map, drop, find, fold, slice_get, take, Bool, false, not, Option, Some, None, is_none, option_map, zero, suc}
use Rattle.std.specs.List.{range_with_len}
use Rattle.std.specs.Option.{option_map_or, option_or}
use Rattle.tp_model.specs.Words.{Actor, Scenario, ServerId, Step, Transaction, TxnId}
use Rattle.tp_model.specs.Words.actor
use Rattle.tp_model.specs.Words.step
use Rattle.tp_machine.specs.declared.actors.Actors.{Actors}
use Rattle.tp_machine.specs.Machine.{Machine, after_step, after_steps, is_armed_at, is_down, is_submitted}
use Rattle.tp_machine.specs.WorldView.{GivesUp, WorldView}

-- ---- which step is next

-- the scenario's transactions, in order
abbrev pub txns_of : Scenario → List TxnId
txns_of sc = map (λ (n : ℕ). record { 0 = n }) (range_with_len 0 (length sc.txns))

-- the scenario's servers, in order
abbrev pub servers_of : Scenario → List ServerId
servers_of sc = map (λ (n : ℕ). record { 0 = n }) (range_with_len 0 (length sc.servers))

abbrev pub server_down : Scenario → Actors → Option ServerId
server_down sc actors =
    find (λ (at : ServerId). is_down actors (actor.Server at)) (servers_of sc)

abbrev pub coordinator_down : Scenario → Actors → Option TxnId
coordinator_down sc actors =
    find (λ (txn : TxnId). is_down actors (actor.Coordinator txn)) (txns_of sc)

-- the lowest actor that is down, servers before coordinators
abbrev pub lowest_down : Scenario → Actors → Option Actor
lowest_down sc actors =
    option_or (option_map (λ (at : ServerId). actor.Server at) (server_down sc actors))
    (option_map (λ (txn : TxnId). actor.Coordinator txn) (coordinator_down sc actors))

-- the lowest transaction that is not submitted
abbrev pub lowest_unsubmitted : Scenario → Actors → Option TxnId
lowest_unsubmitted sc actors = find (λ (txn : TxnId). not (is_submitted actors txn)) (txns_of sc)

-- the first armed transaction at or after the cursor, going round
abbrev pub first_armed : Scenario → Actors → ℕ → Option TxnId
first_armed sc actors cursor =
    option_or (find (is_armed_at actors) (drop cursor (txns_of sc)))
    (find (is_armed_at actors) (take cursor (txns_of sc)))

-- the oldest undelivered mail is delivered; where there is none, a transaction is submitted; and where all were, a
-- timer fires
abbrev pub next_by : Scenario → Actors → ℕ → Option ℕ → Option Step
next_by sc actors cursor (Some mail) = Some (step.Deliver mail)
next_by sc actors cursor None =
    option_or (option_map (λ (txn : TxnId). step.Submit txn) (lowest_unsubmitted sc actors))
    (option_map (λ (txn : TxnId). step.Timer txn) (first_armed sc actors cursor))

-- the next automatic step, if there is one. Before all else who is down boots; timers are looked for from the cursor on
abbrev pub next_of : Scenario → Machine → ℕ → Option Step
next_of sc m cursor =
    option_or (option_map (λ (who : Actor). step.Boot who) (lowest_down sc m.state.actors))
    (next_by sc m.state.actors cursor (slice_get m.undelivered 0))

-- a timer that fired moves the cursor behind its transaction
abbrev pub cursor_after : Step → ℕ → ℕ
cursor_after (step.Timer txn) cursor = txn.0 + 1
cursor_after _ cursor = cursor

-- no rule gives a step
abbrev pub is_quiet : Scenario → Machine → Bool
is_quiet sc m = is_none (next_of sc m 0)

-- ---- so many steps

-- at most so many automatic steps from a machine on: fewer where it comes to be quiet
abbrev pub automatic_from : Scenario → ℕ → ℕ → Machine → List Step
automatic_from sc zero cursor m = []
automatic_from sc (suc left) cursor m =
    option_map_or
    (λ (taken : Step). taken
    ∷ automatic_from sc left (cursor_after taken cursor) (after_step sc m taken))
    (next_of sc m cursor) []

-- the cursor begins at 0
abbrev pub automatic_steps : Scenario → ℕ → Machine → List Step
automatic_steps sc count m = automatic_from sc count 0 m

-- ---- how many there are at most

-- the most queries of a transaction, 0 if there is none
abbrev pub most_queries : List Transaction → ℕ
most_queries txns = fold (λ (most : ℕ) (txn : Transaction). max most (length txn.queries)) 0 txns

-- the greatest round limit, at least 2
abbrev pub greatest_rounds : List Transaction → ℕ
greatest_rounds txns = fold (λ (most : ℕ) (txn : Transaction). max most txn.rounds) 2 txns

-- the bound in numbers
abbrev pub bound_by : ℕ → ℕ → ℕ → ℕ → ℕ → ℕ
bound_by txns queries rounds servers undelivered =
    3 * undelivered
    + (txns * ((queries + 1) * (3 * rounds + 3) + servers + 2) + 1) *
    (16 * (txns + 1) * (servers + 1))
    + servers
    + txns
    + 2

-- from so many undelivered mails on there are at most so many automatic steps
abbrev pub bound : Scenario → ℕ → ℕ
bound sc undelivered =
    bound_by (length sc.txns) (most_queries sc.txns) (greatest_rounds sc.txns)
    (length sc.servers) undelivered

-- ---- what a drain does

-- the bound of a world
abbrev pub bound_of : WorldView → ℕ
bound_of world = bound world.scenario (length world.machine.undelivered)

-- the automatic steps of a world, within its bound
abbrev pub steps_of : WorldView → List Step
steps_of world = automatic_steps world.scenario (bound_of world) world.machine

-- the world after these steps
abbrev pub world_after : WorldView → List Step → WorldView
world_after world taken = record world { machine = after_steps world.scenario world.machine taken }

-- the world, which was not given up, did its automatic steps
pub record Drains (old new : WorldView) : Type 0 where
  pub was_up : old.given_up ≡ false
  pub now : new ≡ world_after old (steps_of old)

-- memory was refused in one of those steps, after the ones before it were done
pub record Stops (old new : WorldView) : Type 0 where
  pub count : ℕ
  pub next : Step
  pub is_next : slice_get (steps_of old) count ≡ Some next
  pub gave_up : GivesUp (world_after old (take count (steps_of old))) new next
