-- What each actor opens with.
use Rattle.std.proofs.Common.{◌≡◌, ℕ, zero, suc, ◌+◌, ◌^◌, ◌<◌, ◌≤◌, List, [], ◌∷◌, ◌++◌, length, map, refl, sym, ap, ◌∙◌, subst, arith}
use Rattle.std.specs.Prelude.{Option, Some, true, false, option_map, slice_get}
use Rattle.std.specs.List.{range_with_len}
use Rattle.atomic_table.specs.Seated.{TableId}
use Rattle.tp_coord.specs.Opened as coord
use Rattle.tp_coord.specs.State.{Coordinator}
use Rattle.tp_model.specs.Valid.{is_valid}
use Rattle.tp_model.specs.Words.actor
use Rattle.tp_model.specs.Words.{Actor, Scenario}
use Rattle.tp_model.proofs.RuleLemmas.{few_servers, few_txns, rules_of}
use Rattle.tp_server.specs.Opened as server
use Rattle.tp_server.specs.State.{Server}
use Rattle.tp_machine.specs.Fits.{AllFitLogs}
use Rattle.tp_machine.specs.Machine.{opened_actors, opened_part}
use Rattle.tp_machine.specs.Moves.{number_of}
use Rattle.tp_machine.specs.Named.{IsActor}
use Rattle.tp_machine.specs.Parts as parts
use Rattle.tp_wire.specs.Passes.{Known, fresh_pass, fresh_passes}
use Rattle.tp_wire.specs.Rule.{fresh}
use Rattle.tp_cluster.specs.declared.plan.Plan.{Plan}
use Rattle.tp_cluster.specs.Calls.{IsPlan}
use Rattle.tp_cluster.specs.Offices.{Held, IsOffice, held_at}
use Rattle.tp_cluster.specs.Offices.Held.{OfServer, OfCoordinator}
use Rattle.tp_cluster.specs.Runs.{actors_of}

-- the pass of an actor's number, as it is dealt, and what the actor opens with
pub opened_office : (sc : Scenario) (table : TableId) (who : Actor) (held : Held) (number : ℕ) (kept : Known) → kept ≡ fresh_pass table number → number ≡ number_of sc who → IsActor sc who
    → held_at (opened_actors sc) who ≡ Some held → IsOffice sc table who held kept
opened_office sc table who held number kept is same exists opens = record {
  site = ap (λ (k : Known). k.table) is;
  live = ap (λ (k : Known). k.given_up) is;
  exists = exists;
  part = fresh number;
  one = ap (λ (k : Known). k.view.parts) is;
  number_is = same;
  took = refl;
  state = opens;
}

-- a member of a list that is made by number
get_made : {A : Type 0} (f : ℕ → A) (a n k j : ℕ) → k < n → a + k ≡ j → slice_get (map f (range_with_len a n)) k ≡ Some (f j)
get_made f a zero k j h e = absurd (omega (arith, h))
get_made {A} f a (suc n) zero j h e = let same : a ≡ j = omega (arith, e) in ap (λ (i : ℕ). Some (f i)) same
get_made f a (suc n) (suc k) j h e = get_made f (a + 1) n k j (omega (arith, h)) (omega (arith, e))

pub server_opens : (sc : Scenario) (n : ℕ) (state : Server) (part : parts.Part Server) → n < length sc.servers → state ≡ server.opening sc (record { 0 = n }) → part ≡ opened_part state
    → held_at (opened_actors sc) (actor.Server (record { 0 = n })) ≡ Some (OfServer part)
server_opens sc n state part within is made =
    ap (option_map OfServer) (get_made (λ (k : ℕ). opened_part (server.opening sc (record { 0 = k }))) 0 (length sc.servers) n n within (omega arith))
    ∙ (ap (λ (s : Server). Some (OfServer (opened_part s))) (sym is) ∙ ap (λ (p : parts.Part Server). Some (OfServer p)) (sym made))

pub coordinator_opens : (sc : Scenario) (n : ℕ) (state : Coordinator) (part : parts.Part Coordinator) → n < length sc.txns → state ≡ coord.idle sc (record { 0 = n }) → part ≡ opened_part state
    → held_at (opened_actors sc) (actor.Coordinator (record { 0 = n })) ≡ Some (OfCoordinator part)
coordinator_opens sc n state part within is made =
    ap (option_map OfCoordinator) (get_made (λ (k : ℕ). opened_part (coord.idle sc (record { 0 = k }))) 0 (length sc.txns) n n within (omega arith))
    ∙ (ap (λ (s : Coordinator). Some (OfCoordinator (opened_part s))) (sym is) ∙ ap (λ (p : parts.Part Coordinator). Some (OfCoordinator p)) (sym made))

-- one pass more
dealt_next : (table : TableId) (first count : ℕ) → fresh_passes table first count ++ fresh_pass table (first + count) ∷ [] ≡ fresh_passes table first (suc count)
dealt_next table first zero = let e : first + 0 ≡ first = omega arith in ap (λ (n : ℕ). fresh_pass table n ∷ []) e
dealt_next table first (suc count) =
    let e : first + suc count ≡ (first + 1) + count = omega arith in
    ap (λ (n : ℕ). fresh_pass table first ∷ (fresh_passes table (first + 1) count ++ fresh_pass table n ∷ [])) e
    ∙ ap (λ (ps : List Known). fresh_pass table first ∷ ps) (dealt_next table (first + 1) count)

pub dealt_more : (table : TableId) (first count : ℕ) (made : List Known) (p : Known) → made ≡ fresh_passes table first count → p ≡ fresh_pass table (first + count)
    → made ++ p ∷ [] ≡ fresh_passes table first (count + 1)
dealt_more table first count made p so_far is =
    let one : suc count ≡ count + 1 = omega arith in
    ap (λ (l : List Known). l ++ p ∷ []) so_far
    ∙ (ap (λ (q : Known). fresh_passes table first count ++ q ∷ []) is ∙ (dealt_next table first count ∙ ap (fresh_passes table first) one))

-- a plan as it is told
pub plan_fits : (p q : Plan) → p ≡ q → IsPlan p → AllFitLogs q.scenario
plan_fits p q e is = subst (λ (r : Plan). AllFitLogs r.scenario) e is.fit

pub is_plan : (sc declared : Scenario) (callers : ℕ) → declared ≡ sc → IsPlan (record { scenario = sc; callers = callers }) → IsPlan (record { scenario = declared; callers = callers })
is_plan sc declared callers e is = subst (λ (s : Scenario). IsPlan (record { scenario = s; callers = callers })) (sym e) is

pub plan_valid : (p q : Plan) → p ≡ q → IsPlan p → is_valid q.scenario ≡ true
plan_valid p q e is = subst (λ (r : Plan). is_valid r.scenario ≡ true) e is.valid

-- a plan has few actors
pub plan_servers : (p : Plan) → IsPlan p → length p.scenario.servers ≤ 16
plan_servers p is = few_servers p.scenario (rules_of p.scenario is.valid)

pub plan_txns : (p : Plan) → IsPlan p → length p.scenario.txns ≤ 128
plan_txns p is = few_txns p.scenario (rules_of p.scenario is.valid)

short : (n most : ℕ) → n ≤ most → most ≤ 128 → n < 2 ^ 32
short n most less few = omega (arith, less, few)

pub short_servers : (p : Plan) → IsPlan p → length p.scenario.servers < 2 ^ 32
short_servers p is = short (length p.scenario.servers) 16 (plan_servers p is) (omega arith)

pub short_txns : (p : Plan) → IsPlan p → length p.scenario.txns < 2 ^ 32
short_txns p is = short (length p.scenario.txns) 128 (plan_txns p is) (omega arith)

-- the callers' passes follow those of the actors
pub callers_dealt : (table : TableId) (made : List Known) (p q : Plan) (first : ℕ) → p ≡ q → first ≡ actors_of p.scenario → made ≡ fresh_passes table first p.callers
    → made ≡ fresh_passes table (actors_of q.scenario) q.callers
callers_dealt table made p q first e is dealt =
    dealt ∙ (ap (λ (n : ℕ). fresh_passes table n p.callers) is ∙ ap (λ (r : Plan). fresh_passes table (actors_of r.scenario) r.callers) e)
