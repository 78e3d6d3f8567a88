-- At the start of the automatic phase the potential is at most the bound.
use Rattle.std.proofs.Common.{◌≡◌, ℕ, ◌+◌, ◌-◌, ◌*◌, ◌≤◌, IfSome, max, fold, List, [], ◌∷◌, length, slice_get, Option, Some, None, suc, refl, subst, arith}
use Rattle.std.specs.Option.{option_map_or}
use Rattle.std.proofs.lemmas.Nat.{mul-le}
use Rattle.tp_types.specs.Each.{EachAt}
use Rattle.tp_model.specs.Words.{Mail, QueryRequest, Scenario, Transaction}
use Rattle.tp_coord.specs.State.{Coordinator}
use Rattle.tp_machine.specs.Machine.{Machine}
use Rattle.tp_machine.specs.Parts.{Part}
use Rattle.tp_server.specs.State.{Server}
use Rattle.tp_server.specs.declared.server.Entry.{Entry}
use Rattle.tp_runs.proofs.known.World.{HasPlaces}
use Rattle.tp_runs.proofs.mails.Actors.{one_for, waits_at, waits_in}
use Rattle.tp_runs.proofs.runs.Runs.{Holds}
use Rattle.tp_runs.proofs.weights.Weights.{left_most, left_to_ask, weighs_three, weight_of, weights_at}
use Rattle.tp_runs.proofs.weights.World.{requests_in, requests_of, server_weighs, servers_weigh, weigh_all}
use Rattle.tp_auto.proofs.PotentialLemmas.{potential}
use Rattle.tp_auto.specs.Auto.{bound, bound_by, greatest_rounds, most_queries}

-- ---- numbers

-- the work of transactions with so many queries in all, beside the bound's, with X for its moves
products_low : (txns servers asked moves : ℕ) → 9 * asked + 11 * txns ≤ moves → (2 * servers + 1) * (54 * asked + 55 * txns) + servers * (3 * txns + 1) ≤ (moves + 1) * (16 * (txns + 1) * (servers + 1)) + servers
products_low txns servers asked moves le =
    let each = mul-le servers (9 * asked + 11 * txns) servers moves (omega arith) le in
    let wide = mul-le 16 (servers + 1) (16 * (txns + 1)) (servers + 1) (omega arith) (omega arith) in
    let whole = mul-le (moves + 1) (16 * (servers + 1)) (moves + 1) (16 * (txns + 1) * (servers + 1)) (omega arith) wide in
    omega (arith, each, whole, le)

-- the moves of a transaction are at least nine for each of its queries
moves_most : (txns queries rounds servers : ℕ) → 2 ≤ rounds → 9 * (txns * queries) + 11 * txns ≤ txns * ((queries + 1) * (3 * rounds + 3) + servers + 2)
moves_most txns queries rounds servers two =
    let of_query = mul-le (queries + 1) 9 (queries + 1) (3 * rounds + 3) (omega arith) (omega (arith, two)) in
    let of_txns = mul-le txns (9 * (queries + 1) + 2) txns ((queries + 1) * (3 * rounds + 3) + servers + 2) (omega arith) (omega (arith, of_query)) in
    omega (arith, of_txns)

-- so what weighs so much is within the bound
pub within_bound : (txns queries rounds servers undelivered mails waiting requests : ℕ) → 2 ≤ rounds → mails ≤ 3 * undelivered → waiting ≤ servers * (3 * txns + 1) → requests ≤ txns * ((queries + 1) * 54)
    → mails + waiting + (2 * servers + 1) * (requests + (txns - 0)) ≤ bound_by txns queries rounds servers undelivered
within_bound txns queries rounds servers undelivered mails waiting requests two m w r =
    let moves = txns * ((queries + 1) * (3 * rounds + 3) + servers + 2) in
    let turns = mul-le (2 * servers + 1) (requests + (txns - 0)) (2 * servers + 1) (54 * (txns * queries) + 55 * txns) (omega arith) (omega (arith, r)) in
    let products = products_low txns servers (txns * queries) moves (moves_most txns queries rounds servers two) in
    omega (arith, turns, products, m, w)

-- ---- what weighs so much

weights_low : (mails : List Mail) (numbers : List ℕ) → weights_at mails numbers ≤ 3 * length numbers
weights_low mails [] = omega arith
weights_low mails (n ∷ numbers) =
    let later = weights_low mails numbers in
    let here = by_found (slice_get mails n) in
    let more : length (n ∷ numbers) ≡ length numbers + 1 = omega arith in
    omega (arith, later, here, more)
  where
    by_found : (found : Option Mail) → option_map_or (λ (mail : Mail). weight_of mail.letter.body) found 0 ≤ 3
    by_found None = omega arith
    by_found (Some mail) = weighs_three mail.letter.body

all_low : {S : Type 0} (weight : Part S → ℕ) (most : ℕ) (parts : List (Part S)) → EachAt (λ (n : ℕ) (part : Part S). weight part ≤ most) parts → weigh_all weight parts ≤ length parts * most
all_low weight most [] h = omega arith
all_low weight most (part ∷ parts) h =
    let later = all_low weight most parts (λ n found e. h (suc n) found e) in
    let here = h 0 part refl in
    let more : length (part ∷ parts) * most ≡ length parts * most + most = omega arith in
    omega (arith, later, here, more)

waits_low : (entries : List (Option Entry)) → waits_in entries ≤ length entries
waits_low [] = omega arith
waits_low (entry ∷ entries) = let later = waits_low entries in let here = one_low entry in omega (arith, later, here)
  where
    by_waiting : (waiting : Option QueryRequest) → one_for waiting ≤ 1
    by_waiting None = omega arith
    by_waiting (Some q) = omega arith

    one_low : (found : Option Entry) → waits_at found ≤ 1
    one_low None = omega arith
    one_low (Some found) = by_waiting found.waiting

server_low : (sc : Scenario) (part : Part Server) → IfSome part.up (HasPlaces sc) → server_weighs (length sc.txns) part ≤ 3 * length sc.txns + 1
server_low sc part places = by_up part.up places
  where
    by_up : (up : Option Server) → IfSome up (HasPlaces sc) → option_map_or (λ (s : Server). waits_in s.entries) up (3 * length sc.txns + 1) ≤ 3 * length sc.txns + 1
    by_up None h = omega arith
    by_up (Some s) h = omega (arith, waits_low s.entries, h)

coordinator_low : (queries : ℕ) (part : Part Coordinator) → requests_of queries part ≤ (queries + 1) * 54
coordinator_low queries part = by_up part.up
  where
    by_up : (up : Option Coordinator) → option_map_or (left_to_ask queries) up 1 ≤ (queries + 1) * 54
    by_up None = omega arith
    by_up (Some c) = omega (arith, left_most queries c)

rounds_from : (txns : List Transaction) (most : ℕ) → most ≤ fold (λ (most : ℕ) (txn : Transaction). max most txn.rounds) most txns
rounds_from [] most = omega arith
rounds_from (txn ∷ txns) most = omega (arith, rounds_from txns (max most txn.rounds))

-- ---- the start

-- the potential with the cursor at 0 is at most the bound
pub start_within : (sc : Scenario) (m : Machine) → Holds sc m.state → potential sc m 0 ≤ bound sc (length m.undelivered)
start_within sc m h =
    let T = length sc.txns in
    let S = length sc.servers in
    let Q = most_queries sc.txns in
    let servers : servers_weigh sc m.state ≤ length m.state.actors.servers * (3 * T + 1) = all_low (server_weighs T) (3 * T + 1) m.state.actors.servers (λ n part e. server_low sc part (h.pairs.places n part e)) in
    let servers_are : servers_weigh sc m.state ≤ S * (3 * T + 1) = subst (λ (k : ℕ). servers_weigh sc m.state ≤ k * (3 * T + 1)) h.agrees.server_count servers in
    let coordinators : requests_in Q m.state ≤ length m.state.actors.coordinators * ((Q + 1) * 54) = all_low (requests_of Q) ((Q + 1) * 54) m.state.actors.coordinators (λ n part e. coordinator_low Q part) in
    let coordinators_are : requests_in Q m.state ≤ T * ((Q + 1) * 54) = subst (λ (k : ℕ). requests_in Q m.state ≤ k * ((Q + 1) * 54)) h.agrees.coordinator_count coordinators in
    within_bound T Q (greatest_rounds sc.txns) S (length m.undelivered) (weights_at m.state.mails m.undelivered) (servers_weigh sc m.state) (requests_in Q m.state)
    (rounds_from sc.txns 2) (weights_low m.state.mails m.undelivered) servers_are coordinators_are
