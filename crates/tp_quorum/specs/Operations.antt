-- An operation: what it asks of replicas, and what it does on receipt of their answers.
use Rattle.std.specs.Prelude.{◌<◌, ℕ, ◌+◌, ◌*◌, max, List, [], ◌∷◌, length, replicate, slice_get, slice_set, Bool, true, false, Option, Some, None, nat_lt, if◌then◌else◌}
use Rattle.tp_quorum.specs.Words.{AdminId, Heard, Operation, Phase, QBody, QMail, Version}
use Rattle.tp_quorum.specs.Words.body
use Rattle.tp_quorum.specs.Words.phase
use Rattle.tp_quorum.specs.Words.what

-- ---- answers

-- no replica has answered yet, of so many
abbrev pub none_yet : ℕ → List Bool
none_yet replicas = replicate replicas false

-- how many have answered
abbrev pub answers_in : List Bool → ℕ
answers_in [] = 0
answers_in (true ∷ answered) = answers_in answered + 1
answers_in (false ∷ answered) = answers_in answered

-- more than half of all replicas
abbrev pub is_majority : ℕ → ℕ → Bool
is_majority replicas count = nat_lt replicas (2 * count)

-- most replicas have answered, of those that have a flag
abbrev pub most_answered : List Bool → Bool
most_answered answered = is_majority (length answered) (answers_in answered)

-- there is such a replica, and it has not answered
abbrev pub is_awaited_flag : Option Bool → Bool
is_awaited_flag (Some false) = true
is_awaited_flag _ = false

abbrev pub is_awaited : List Bool → ℕ → Bool
is_awaited answered replica = is_awaited_flag (slice_get answered replica)

abbrev pub greater_of : Version → Version → Version
greater_of one other = record { 0 = max one.0 other.0 }

-- ---- requests

-- the request goes to each replica that has not answered, by number; the first flag is that of this replica
abbrev pub requests : ℕ → QBody → ℕ → List Bool → List QMail
requests op asked replica [] = []
requests op asked replica (true ∷ answered) = requests op asked (replica + 1) answered
requests op asked replica (false ∷ answered) =
    record { op = op; replica = replica; body = asked } ∷ requests op asked (replica + 1) answered

-- to all replicas, of which there are so many
abbrev pub to_all : ℕ → QBody → ℕ → List QMail
to_all op asked replicas = requests op asked 0 (none_yet replicas)

-- what an operation asks in its phase, of whoever has not answered
abbrev pub asks_again : ℕ → AdminId → Phase → List QMail
asks_again op admin (phase.Fetching greatest answered) = requests op (body.Fetch admin) 0 answered
asks_again op admin (phase.Storing version answered) =
    requests op (body.Store admin version) 0 answered
asks_again op admin (phase.Ended version) = []

abbrev pub is_running_in : Phase → Bool
is_running_in (phase.Ended version) = false
is_running_in _ = true

abbrev pub is_running : Operation → Bool
is_running o = is_running_in o.phase

-- ---- replies

-- the operation goes on to wait, and sends nothing
abbrev pub waits : Phase → Heard
waits now = record { next = now; happened = None; sent = [] }

-- a reading has these answers to its fetch: at a majority it stores the greatest version at all replicas
abbrev pub fetched : ℕ → AdminId → Version → List Bool → Heard
fetched op admin greatest answered =
    if most_answered answered
    then record {
      next = phase.Storing greatest (none_yet (length answered));
      happened = None;
      sent = to_all op (body.Store admin greatest) (length answered);
    }
    else waits (phase.Fetching greatest answered)

-- an operation has these answers to its store: at a majority it ends
abbrev pub stored : ℕ → Version → List Bool → Heard
stored op version answered =
    if most_answered answered
    then record {
      next = phase.Ended version;
      happened = Some (what.Ended op version);
      sent = [];
    }
    else waits (phase.Storing version answered)

-- an answer counts once for each replica, in the phase that it answers
abbrev pub hears : ℕ → AdminId → ℕ → Phase → QBody → Heard
hears op admin replica (phase.Fetching greatest answered) (body.Has version) =
    if is_awaited answered replica
    then fetched op admin (greater_of greatest version) (slice_set answered replica true)
    else waits (phase.Fetching greatest answered)
hears op admin replica (phase.Storing version answered) body.Stored =
    if is_awaited answered replica then stored op version (slice_set answered replica true)
    else waits (phase.Storing version answered)
hears op admin replica now _ = waits now

-- there are fewer flags than this
abbrev pub HasFlagsBelow : ℕ → Phase → Type 0
HasFlagsBelow most (phase.Fetching greatest answered) = length answered < most
HasFlagsBelow most (phase.Storing version answered) = length answered < most
HasFlagsBelow most (phase.Ended version) = Unit {0}
