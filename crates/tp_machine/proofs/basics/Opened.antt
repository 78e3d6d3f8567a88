-- One more actor is opened.
use Rattle.std.proofs.Common.{◌≡◌, ℕ, ◌+◌, ◌++◌, [], ◌∷◌, arith}
use Rattle.std.proofs.lemmas.List.FromFn.{map-range_with_len_more}
use Rattle.tp_model.specs.Words.{Scenario}
use Rattle.tp_coord.specs.Opened as coord
use Rattle.tp_server.specs.Opened as server
use Rattle.tp_machine.specs.Machine.{opened_part, opened_servers, idle_coordinators}

pub opened_servers_more : (sc : Scenario) (n : ℕ) → opened_servers sc (n + 1) ≡ opened_servers sc n ++ opened_part (server.opening sc (record { 0 = n })) ∷ []
opened_servers_more sc n = map-range_with_len_more (λ (k : ℕ). opened_part (server.opening sc (record { 0 = k }))) 0 n n (omega arith)

pub idle_coordinators_more : (sc : Scenario) (n : ℕ) → idle_coordinators sc (n + 1) ≡ idle_coordinators sc n ++ opened_part (coord.idle sc (record { 0 = n })) ∷ []
idle_coordinators_more sc n = map-range_with_len_more (λ (k : ℕ). opened_part (coord.idle sc (record { 0 = k }))) 0 n n (omega arith)
