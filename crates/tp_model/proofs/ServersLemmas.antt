-- One turn of the walk over a scenario's servers.
use Rattle.std.proofs.Common.{◌≡◌, suc, ℕ, ◌+◌, ◌-◌, ◌<◌, List, ◌∷◌, if◌then◌else◌, refl, arith}
use Rattle.std.specs.List.{list_any}
use Rattle.tp_model.specs.Words.{Query, Scenario}
use Rattle.tp_model.specs.Queries.{servers_from, is_at_server}

-- from a server before the end the walk looks at it and goes on from the next
pub servers_from_next : (scenario : Scenario) (queries : List Query) (server end : ℕ) → server < end
    → servers_from scenario queries server (end - server)
    ≡ (if list_any (is_at_server scenario server) queries then record { 0 = server } ∷ servers_from scenario queries (server + 1) (end - (server + 1)) else servers_from scenario queries (server + 1) (end - (server + 1)))
servers_from_next scenario queries server end h =
    let e : end - server ≡ suc (end - (server + 1)) = omega arith in
    rw e refl
