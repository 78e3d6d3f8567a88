-- The potential of a machine in the automatic phase, which falls at every automatic step: one for each replica that is
-- down, what undelivered mails weigh, and for each operation that runs what it may still send.
use Rattle.std.specs.List.{range_with_len}
use Rattle.std.proofs.Common.{◌≡◌, ◌⊎◌, ℕ, ◌+◌, ◌*◌, ◌<◌, ◌≤◌, List, [], ◌∷◌, ◌++◌, length, map, slice_get, Bool, true, false, Option, Some, None, sym, subst, arith, if◌then◌else◌}
use Rattle.tp_types.proofs.EachLemmas.{each_append, each_as, each_filter}
use Rattle.tp_types.specs.Each.{Each}
use Rattle.tp_quorum.proofs.Lists.{append_length}
use Rattle.tp_quorum.proofs.Sums.{IsIn, range_below, sum_below, sum_first, sum_most, weights_at, weights_most}
use Rattle.tp_quorum.proofs.World.{Rests}
use Rattle.tp_quorum.specs.Automatic.{bound, running_count}
use Rattle.tp_quorum.specs.Machine.{Machine, Move, is_down, moved, still_undelivered}
use Rattle.tp_quorum.specs.Operations.{answers_in, is_running, is_running_in}
use Rattle.tp_quorum.specs.Replica.{ReplicaView}
use Rattle.tp_quorum.specs.Words.{Operation, Phase, QBody, QStep}
use Rattle.tp_quorum.specs.Words.body
use Rattle.tp_quorum.specs.Words.phase
use Rattle.tp_quorum.specs.Words.step

-- ---- numbers of undelivered mails

-- one master's invariant, so many replicas and operations, and each undelivered mail was sent
pub record MachineRests (admins replicas ops : ℕ) (m : Machine) : Type 0 where
  pub rests : Rests admins m.state
  pub replica_count : length m.state.replicas ≡ replicas
  pub op_count : length m.state.ops ≡ ops
  pub sent : Each (λ (n : ℕ). n < length m.state.mails) m.undelivered

still_sent : (P : ℕ → Type 0) (taken : QStep) (numbers : List ℕ) → Each P numbers → Each P (still_undelivered taken numbers)
still_sent P (step.Publish admin) numbers each = each
still_sent P (step.Read reader admin) numbers each = each
still_sent P (step.Deliver mail) numbers each = each_filter P _ numbers each
still_sent P (step.Lose mail) numbers each = each_filter P _ numbers each
still_sent P (step.Crash replica None) numbers each = each
still_sent P (step.Crash replica (Some cut)) numbers each = each_filter P _ numbers each
still_sent P (step.Boot replica) numbers each = each
still_sent P (step.Timer op) numbers each = each

-- whatever a step is
pub moved_sent : (m : Machine) (taken : QStep) (move : Move) → Each (λ (n : ℕ). n < length m.state.mails) m.undelivered → Each (λ (n : ℕ). n < length (m.state.mails ++ move.sent)) (moved m taken move).undelivered
moved_sent m taken move each =
    let longer = append_length m.state.mails move.sent in
    each_append (λ (n : ℕ). n < length (m.state.mails ++ move.sent)) (still_undelivered taken m.undelivered) (range_with_len (length m.state.mails) (length move.sent))
    (still_sent (λ (n : ℕ). n < length (m.state.mails ++ move.sent)) taken m.undelivered
    (each_as (λ (n : ℕ). n < length m.state.mails) (λ (n : ℕ). n < length (m.state.mails ++ move.sent)) (λ n less. omega (arith, less, longer)) m.undelivered each))
    (range_below (length m.state.mails) (length move.sent) (length (m.state.mails ++ move.sent)) (omega (arith, longer)))

-- ---- an operation that needs no timer

-- the replica has answered in this phase
abbrev pub HasFlag : Phase → ℕ → Type 0
HasFlag (phase.Fetching greatest answered) r = slice_get answered r ≡ Some true
HasFlag (phase.Storing version answered) r = slice_get answered r ≡ Some true
HasFlag (phase.Ended version) r = ⊥

-- a request or a reply of this phase
abbrev pub IsOfPhase : Phase → QBody → Type 0
IsOfPhase (phase.Fetching greatest answered) (body.Fetch admin) = Unit {0}
IsOfPhase (phase.Fetching greatest answered) (body.Has version) = Unit {0}
IsOfPhase (phase.Storing version answered) (body.Store admin other) = Unit {0}
IsOfPhase (phase.Storing version answered) body.Stored = Unit {0}
IsOfPhase _ _ = ⊥

-- one of them is undelivered, to or from the replica
pub record IsUnderWay (m : Machine) (op r : ℕ) (now : Phase) : Type 0 where
  pub number : ℕ
  pub said : QBody
  pub undelivered : IsIn number m.undelivered
  pub sent : slice_get m.state.mails number ≡ Some (record { op = op; replica = r; body = said })
  pub of_phase : IsOfPhase now said

-- nobody is down, and each replica has answered in this phase or will
pub record IsCovered (replicas : ℕ) (m : Machine) (op : ℕ) (now : Phase) : Type 0 where
  pub up : (r : ℕ) → is_down (slice_get m.state.replicas r) ≡ false
  pub each : (r : ℕ) → r < replicas → HasFlag now r ⊎ IsUnderWay m op r now

-- these running operations are covered
abbrev pub Covers : ℕ → Machine → (ℕ → Bool) → Type 0
Covers replicas m covering =
    (op : ℕ) (o : Operation) → slice_get m.state.ops op ≡ Some o → covering op ≡ true → is_running o ≡ true → IsCovered replicas m op o.phase

-- ---- the potential

abbrev pub down_weight : Option ReplicaView → ℕ
down_weight found = if is_down found then 1 else 0

-- the requests of a timer and one more, while it may still have to fire in this phase
abbrev pub timer_weight : ℕ → Bool → ℕ
timer_weight replicas covered = if covered then 0 else 2 * replicas + 1

-- and the stores that a reading will send
abbrev pub phase_weight : ℕ → Bool → Phase → ℕ
phase_weight replicas covered (phase.Fetching greatest answered) = 2 * replicas + timer_weight replicas covered
phase_weight replicas covered (phase.Storing version answered) = timer_weight replicas covered
phase_weight replicas covered (phase.Ended version) = 0

abbrev pub op_weight : ℕ → Bool → Option Operation → ℕ
op_weight replicas covered None = 0
op_weight replicas covered (Some o) = phase_weight replicas covered o.phase

abbrev pub downs : ℕ → List ReplicaView → ℕ
downs count replicas = sum_below count (λ (r : ℕ). down_weight (slice_get replicas r))

abbrev pub op_weights : ℕ → ℕ → (ℕ → Bool) → List Operation → ℕ
op_weights replicas count covering ops = sum_below count (λ (k : ℕ). op_weight replicas (covering k) (slice_get ops k))

abbrev pub potential : ℕ → ℕ → Machine → (ℕ → Bool) → ℕ
potential replicas ops m covering =
    downs replicas m.state.replicas + weights_at m.state.mails m.undelivered + op_weights replicas ops covering m.state.ops

-- ---- it is at most the bound

-- nothing is known of any
abbrev pub uncovered : ℕ → Bool
uncovered op = false

down_most : (found : Option ReplicaView) → down_weight found ≤ 1
down_most found = by (is_down found)
  where
    by : (b : Bool) → (if b then 1 else 0) ≤ 1
    by true = omega arith
    by false = omega arith

phase_most : (replicas : ℕ) (now : Phase) → phase_weight replicas false now ≤ (if is_running_in now then 4 * replicas + 1 else 0)
phase_most replicas (phase.Fetching greatest answered) = omega arith
phase_most replicas (phase.Storing version answered) = omega arith
phase_most replicas (phase.Ended version) = omega arith

running_more : (replicas rest : ℕ) (ops : List Operation) (b : Bool) → rest ≤ running_count ops * (4 * replicas + 1) → (if b then 4 * replicas + 1 else 0) + rest ≤ answers_in (b ∷ map is_running ops) * (4 * replicas + 1)
running_more replicas rest ops true less = omega (arith, less)
running_more replicas rest ops false less = omega (arith, less)

ops_most : (replicas : ℕ) (ops : List Operation) → op_weights replicas (length ops) uncovered ops ≤ running_count ops * (4 * replicas + 1)
ops_most replicas [] = omega arith
ops_most replicas (o ∷ ops) =
    let split = sum_first (length ops) (λ (k : ℕ). op_weight replicas false (slice_get (o ∷ ops) k)) in
    let first = phase_most replicas o.phase in
    let whole = running_more replicas (op_weights replicas (length ops) uncovered ops) ops (is_running o) (ops_most replicas ops) in
    omega (arith, split, first, whole)

pub potential_most : (admins replicas ops : ℕ) (m : Machine) → MachineRests admins replicas ops m → potential replicas ops m uncovered ≤ bound m
potential_most admins replicas ops m h =
    let down = sum_most replicas 1 (λ (r : ℕ). down_weight (slice_get m.state.replicas r)) (λ r. down_most (slice_get m.state.replicas r)) in
    let mails = weights_most m.state.mails m.undelivered in
    let running : op_weights replicas ops uncovered m.state.ops ≤ running_count m.state.ops * (4 * replicas + 1) =
    subst (λ (count : ℕ). op_weights replicas count uncovered m.state.ops ≤ running_count m.state.ops * (4 * replicas + 1)) h.op_count (ops_most replicas m.state.ops) in
    let whole : potential replicas ops m uncovered ≤ replicas + 2 * length m.undelivered + running_count m.state.ops * (4 * replicas + 1) = omega (arith, down, mails, running) in
    subst (λ (count : ℕ). potential replicas ops m uncovered ≤ count + 2 * length m.undelivered + running_count m.state.ops * (4 * count + 1)) (sym h.replica_count) whole
