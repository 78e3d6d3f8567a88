-- The server of a coordinator's next query, where the items of all queries exist.
use Rattle.std.proofs.Common.{Bool, List, None, Option, Some, ap, arith, false, if◌then◌else◌, is_some, length, nat_le, option_and_then, option_map, refl, slice_get, subst, suc, sym, true, zero, ℕ, ⊎_elim, ◌+◌, ◌<◌, ◌∙◌, ◌≡◌, ◌≤◌}
use Rattle.std.proofs.lemmas.Bool.{both_ways, le-leb}
use Rattle.std.proofs.lemmas.Option.{same_Some, slice_get_past, slice_get_within}
use Rattle.std.specs.Option.{option_map_or}
use Rattle.tp_types.proofs.EachLemmas.{each_get, missing}
use Rattle.tp_types.specs.Each.{Each}
use Rattle.tp_model.specs.Levels.{reads_master}
use Rattle.tp_model.specs.Queries.{item_of, query_at}
use Rattle.tp_model.specs.Words.{Item, Query, Scenario, Scheme, ServerId, Transaction}
use Rattle.tp_model.specs.Words.scheme
use Rattle.tp_coord.specs.Row.{begins, followed, home_of, is_begun, move_after, move_at, move_of, next_at, next_number, number_at, own_query, query_count, sends_next, server_of, submit_row}
use Rattle.tp_coord.specs.State.{Coordinator}
use Rattle.tp_scheme.proofs.MoveLemmas.{asks_before_proved, decides_after_votes, probes_incremental, rounds_at_commit, sends_unproved, validates_continuous, votes_incremental}
use Rattle.tp_scheme.specs.Moves.{after_queries, after_run, after_votes, before_query, next_move, proves_each}
use Rattle.tp_scheme.specs.declared.moves.Move.{Move}
use Rattle.tp_scheme.specs.declared.moves.Move.TheVariants as move
use Rattle.tp_scheme.specs.declared.moves.Point.{Point}
use Rattle.tp_scheme.specs.declared.moves.Point.TheVariants as point
use Rattle.tp_runs.specs.Sound.{ProvesEach}

-- of each transaction the items of queries exist, and there are from one to 16
pub record HaveHomes (sc : Scenario) : Type 0 where
  pub on_items : (n : ℕ) (declared : Transaction) → slice_get sc.txns n ≡ Some declared → Each (λ (query : Query). (item_of query).0 < length sc.items) declared.queries
  pub few : (n : ℕ) (declared : Transaction) → slice_get sc.txns n ≡ Some declared → length declared.queries ≤ 16
  pub some : (n : ℕ) (declared : Transaction) → slice_get sc.txns n ≡ Some declared → 0 < length declared.queries

-- a query with its server
pub record IsHome (sc : Scenario) (c : Coordinator) (number : ℕ) (at : ServerId) : Type 0 where
  pub asked : Query
  pub asked_is : own_query sc c number ≡ Some asked
  pub server_is : server_of sc asked ≡ Some at

pub home_is : (sc : Scenario) (c : Coordinator) (number : ℕ) (at : ServerId) → home_of sc c number ≡ Some at → IsHome sc c number at
home_is sc c number at e = found (own_query sc c number) refl e
  where
    found : (asked : Option Query) → own_query sc c number ≡ asked → option_and_then (server_of sc) asked ≡ Some at → IsHome sc c number at
    found None f g = absurd (cc)
    found (Some asked) f g = record { asked = asked; asked_is = f; server_is = g }

query_within : (queries : List Query) (number : ℕ) (asked : Query) (declared : Transaction) → declared.queries ≡ queries → query_at declared number ≡ Some asked → number ≤ length queries
query_within queries zero asked declared is e = omega arith
query_within queries (suc before) asked declared is e =
    let within : before < length queries = slice_get_within queries before asked (ap (λ (qs : List Query). slice_get qs before) (sym is) ∙ e) in
    omega (arith, within)

-- the number after a query's
pub next_is : (sc : Scenario) (c : Coordinator) (number : ℕ) (asked : Query) → HaveHomes sc → own_query sc c number ≡ Some asked → next_number number ≡ number + 1
next_is sc c number asked homes e = found (slice_get sc.txns c.txn.0) refl e
  where
    found : (declared : Option Transaction) → slice_get sc.txns c.txn.0 ≡ declared → option_and_then (λ (txn : Transaction). query_at txn number) declared ≡ Some asked → next_number number ≡ number + 1
    found None f g = absurd (cc)
    found (Some declared) f g =
        let few : length declared.queries ≤ 16 = homes.few c.txn.0 declared f in
        let within : number ≤ length declared.queries = query_within declared.queries number asked declared refl g in
        let low : number ≤ 16 = omega (arith, few, within) in
        omega (arith, low)

item_there_in_basics : (sc : Scenario) (n : ℕ) → n < length sc.items → option_map (λ (i : Item). i.server) (slice_get sc.items n) ≡ None → ⊥
item_there_in_basics sc n within e = found (slice_get sc.items n) refl e
  where
    found : (item : Option Item) → slice_get sc.items n ≡ item → option_map (λ (i : Item). i.server) item ≡ None → ⊥
    found None f g = missing sc.items n within f
    found (Some item) f g = cc

pub on_item : (sc : Scenario) (declared : Transaction) (number : ℕ) (asked : Query) → Each (λ (query : Query). (item_of query).0 < length sc.items) declared.queries → query_at declared number ≡ Some asked → (item_of asked).0 < length sc.items
on_item sc declared zero asked h e = absurd (cc)
on_item sc declared (suc before) asked h e = each_get (λ (query : Query). (item_of query).0 < length sc.items) declared.queries before asked h e

-- where a query has no server there is none
pub no_home : (sc : Scenario) (c : Coordinator) (number : ℕ) → HaveHomes sc → home_of sc c number ≡ None → own_query sc c number ≡ None
no_home sc c number homes e = found (own_query sc c number) refl e
  where
    absent : (asked : Query) (declared : Option Transaction) → slice_get sc.txns c.txn.0 ≡ declared → option_and_then (λ (txn : Transaction). query_at txn number) declared ≡ Some asked → server_of sc asked ≡ None → ⊥
    absent asked None f g h = cc
    absent asked (Some declared) f g h = item_there_in_basics sc (item_of asked).0 (on_item sc declared number asked (homes.on_items c.txn.0 declared f) g) h

    found : (asked : Option Query) → own_query sc c number ≡ asked → option_and_then (server_of sc) asked ≡ None → asked ≡ None
    found None f g = refl
    found (Some asked) f g = absurd (absent asked (slice_get sc.txns c.txn.0) refl f g)

-- every transaction has a first one
pub first_there : (sc : Scenario) (c : Coordinator) → HaveHomes sc → c.txn.0 < length sc.txns → is_some (home_of sc c 1) ≡ true
first_there sc c homes exists = there (home_of sc c 1) refl
  where
    absent : (declared : Option Transaction) → slice_get sc.txns c.txn.0 ≡ declared → option_and_then (λ (txn : Transaction). query_at txn 1) declared ≡ None → ⊥
    absent None f g = missing sc.txns c.txn.0 exists f
    absent (Some declared) f g = missing declared.queries 0 (homes.some c.txn.0 declared f) g

    there : (home : Option ServerId) → home_of sc c 1 ≡ home → is_some home ≡ true
    there None e = absurd (absent (slice_get sc.txns c.txn.0) refl (no_home sc c 1 homes e))
    there (Some at) e = refl

-- where a query begins, it is sent, or the authority is asked before it
begins_so : (chosen : Scheme) (reads : Bool) (queries query : ℕ) → query ≤ queries → next_move chosen reads queries (point.Begun query) ≡ before_query chosen
begins_so chosen reads queries query within = ap (λ (b : Bool). if b then before_query chosen else after_queries chosen) (le-leb query queries within)

first_sent : (sc : Scenario) (c : Coordinator) (home : Option ServerId) → is_some home ≡ true → is_begun (sends_next sc c 1 None home).state.phase ≡ true
first_sent sc c None e = absurd (cc)
first_sent sc c (Some at) e = refl

first_begun : (sc : Scenario) (c : Coordinator) (chosen : Scheme) → is_some (home_of sc c 1) ≡ true → is_begun (begins sc c (before_query chosen)).state.phase ≡ true
first_begun sc c scheme.Deferred home = first_sent sc c (home_of sc c 1) home
first_begun sc c scheme.Continuous home = first_sent sc c (home_of sc c 1) home
first_begun sc c scheme.Punctual home = refl
first_begun sc c scheme.Incremental home = refl

-- so its submission begins each transaction
pub first_row_begins : (sc : Scenario) (c : Coordinator) → HaveHomes sc → c.txn.0 < length sc.txns → is_begun (submit_row sc c).state.phase ≡ true
first_row_begins sc c homes exists = found (slice_get sc.txns c.txn.0) refl
  where
    found : (declared : Option Transaction) → slice_get sc.txns c.txn.0 ≡ declared → is_begun (submit_row sc c).state.phase ≡ true
    found None e = absurd (missing sc.txns c.txn.0 exists e)
    found (Some declared) e =
        let some : 0 < length declared.queries = homes.some c.txn.0 declared e in
        let begins_by_it : move_at sc c (point.Begun 1) ≡ before_query declared.scheme =
        ap (λ (d : Option Transaction). option_map_or (move_of sc (point.Begun 1)) d move.Following) e ∙ begins_so declared.scheme (reads_master sc declared) (query_count declared) 1 (omega (arith, some)) in
        subst (λ (m : Move). is_begun (begins sc c m).state.phase ≡ true) (sym begins_by_it) (first_begun sc c declared.scheme (first_there sc c homes exists))

-- ---- what begins a query, or the end

-- a move where a query begins, or where all are done with
abbrev pub is_beginning : Move → Bool
is_beginning move.Ask = true
is_beginning move.SendQuery = true
is_beginning move.CommitRounds = true
is_beginning move.Votes = true
is_beginning _ = false

-- a move that comes where no query begins
abbrev pub is_elsewhere : Move → Bool
is_elsewhere move.Probe = true
is_elsewhere move.Validate = true
is_elsewhere move.Decide = true
is_elsewhere _ = false

begun_elsewhere : (chosen : Scheme) (b : Bool) → is_elsewhere (if b then before_query chosen else after_queries chosen) ≡ false
begun_elsewhere scheme.Deferred true = refl
begun_elsewhere scheme.Deferred false = refl
begun_elsewhere scheme.Punctual true = refl
begun_elsewhere scheme.Punctual false = refl
begun_elsewhere scheme.Incremental true = refl
begun_elsewhere scheme.Incremental false = refl
begun_elsewhere scheme.Continuous true = refl
begun_elsewhere scheme.Continuous false = refl

none_elsewhere : (sc : Scenario) (number : ℕ) (found : Option Transaction) → is_elsewhere (option_map_or (move_of sc (point.Begun number)) found move.Following) ≡ false
none_elsewhere sc number None = refl
none_elsewhere sc number (Some declared) = begun_elsewhere declared.scheme (nat_le number (query_count declared))

run_begins_none : (chosen : Scheme) (reads : Bool) → is_beginning (after_run chosen reads) ≡ false
run_begins_none scheme.Deferred reads = refl
run_begins_none scheme.Punctual reads = refl
run_begins_none scheme.Incremental true = refl
run_begins_none scheme.Incremental false = refl
run_begins_none scheme.Continuous reads = refl

votes_begin_none : (chosen : Scheme) (reads : Bool) → is_beginning (after_votes chosen reads) ≡ false
votes_begin_none scheme.Deferred reads = refl
votes_begin_none scheme.Punctual reads = refl
votes_begin_none scheme.Incremental true = refl
votes_begin_none scheme.Incremental false = refl
votes_begin_none scheme.Continuous reads = refl

-- a query ran there, or all have voted
abbrev pub is_past : Point → Bool
is_past (point.Begun number) = false
is_past (point.Stapled number) = false
is_past _ = true

pub past_begins_none : (sc : Scenario) (at : Point) (found : Option Transaction) → is_past at ≡ true → is_beginning (option_map_or (move_of sc at) found move.Following) ≡ false
past_begins_none sc at None past = refl
past_begins_none sc (point.Ran number) (Some declared) past = run_begins_none declared.scheme (reads_master sc declared)
past_begins_none sc (point.Read number) (Some declared) past = refl
past_begins_none sc (point.Validated number) (Some declared) past = refl
past_begins_none sc point.Voted (Some declared) past = votes_begin_none declared.scheme (reads_master sc declared)
past_begins_none sc point.VoteRead (Some declared) past = refl
past_begins_none sc (point.Begun number) (Some declared) past = absurd (cc)
past_begins_none sc (point.Stapled number) (Some declared) past = absurd (cc)

pub other_move : (next wanted : Move) → is_beginning next ≡ false → is_beginning wanted ≡ true → next ≡ wanted → ⊥
other_move next wanted none begins same =
    let both : true ≡ false = sym begins ∙ (ap is_beginning (sym same) ∙ none) in
    cc

begun_by : (sc : Scenario) (c : Coordinator) (number : ℕ) (next wanted : Move) → is_beginning next ≡ false → is_beginning wanted ≡ true → followed sc c number next ≡ wanted → move_at sc c (point.Begun (next_number number)) ≡ wanted
begun_by sc c number move.Following wanted none begins e = e
begun_by sc c number move.Ask wanted none begins e = absurd (other_move move.Ask wanted none begins e)
begun_by sc c number move.SendQuery wanted none begins e = absurd (other_move move.SendQuery wanted none begins e)
begun_by sc c number move.Probe wanted none begins e = absurd (other_move move.Probe wanted none begins e)
begun_by sc c number move.Validate wanted none begins e = absurd (other_move move.Validate wanted none begins e)
begun_by sc c number move.CommitRounds wanted none begins e = absurd (other_move move.CommitRounds wanted none begins e)
begun_by sc c number move.Votes wanted none begins e = absurd (other_move move.Votes wanted none begins e)
begun_by sc c number move.Decide wanted none begins e = absurd (other_move move.Decide wanted none begins e)

-- such a move at a point that is passed is that where the next query begins
pub begun_after : (sc : Scenario) (c : Coordinator) (at : Point) (wanted : Move) → is_past at ≡ true → is_beginning wanted ≡ true → move_after sc c at ≡ wanted → move_at sc c (point.Begun (next_at at)) ≡ wanted
begun_after sc c at wanted past begins e = begun_by sc c (number_at at) (move_at sc c at) wanted (past_begins_none sc at (slice_get sc.txns c.txn.0) past) begins e

here_by : (sc : Scenario) (c : Coordinator) (number : ℕ) (next wanted : Move) → is_elsewhere wanted ≡ true → followed sc c number next ≡ wanted → next ≡ wanted
here_by sc c number move.Following wanted other e =
    let begun : is_elsewhere (move_at sc c (point.Begun (next_number number))) ≡ true = subst (λ (m : Move). is_elsewhere m ≡ true) (sym e) other in
    absurd (both_ways (is_elsewhere (move_at sc c (point.Begun (next_number number)))) (none_elsewhere sc (next_number number) (slice_get sc.txns c.txn.0)) begun)
here_by sc c number move.Ask wanted other e = e
here_by sc c number move.SendQuery wanted other e = e
here_by sc c number move.Probe wanted other e = e
here_by sc c number move.Validate wanted other e = e
here_by sc c number move.CommitRounds wanted other e = e
here_by sc c number move.Votes wanted other e = e
here_by sc c number move.Decide wanted other e = e

-- any other move is that of the point itself
pub moved_here : (sc : Scenario) (c : Coordinator) (at : Point) (wanted : Move) → is_elsewhere wanted ≡ true → move_after sc c at ≡ wanted → move_at sc c at ≡ wanted
moved_here sc c at wanted other e = here_by sc c (number_at at) (move_at sc c at) wanted other e

-- ---- where the other moves come

-- a query ran there
abbrev pub is_ran : Point → Bool
is_ran (point.Ran number) = true
is_ran _ = false

-- a query ran there, or all have voted
abbrev pub is_probed : Point → Bool
is_probed (point.Ran number) = true
is_probed point.Voted = true
is_probed _ = false

-- all have voted, and the master was read after them, or not
abbrev pub is_voted : Point → Bool
is_voted point.Voted = true
is_voted point.VoteRead = true
is_voted _ = false

-- the point is one after a query ran
abbrev pub is_of_query : Point → Bool
is_of_query (point.Ran number) = true
is_of_query (point.Read number) = true
is_of_query (point.Validated number) = true
is_of_query _ = false

votes_follow : (sc : Scenario) (c : Coordinator) (chosen : Scheme) (reads : Bool) → is_beginning (followed sc c 0 (after_votes chosen reads)) ≡ false
votes_follow sc c scheme.Deferred reads = refl
votes_follow sc c scheme.Punctual reads = refl
votes_follow sc c scheme.Incremental true = refl
votes_follow sc c scheme.Incremental false = refl
votes_follow sc c scheme.Continuous reads = refl

voted_begins_none : (sc : Scenario) (c : Coordinator) (at : Point) → is_voted at ≡ true → is_beginning (move_after sc c at) ≡ false
voted_begins_none sc c at voted = by_txn (slice_get sc.txns c.txn.0) refl
  where
    by_point : (one : Point) (declared : Transaction) → is_voted one ≡ true → is_beginning (followed sc c (number_at one) (move_of sc one declared)) ≡ false
    by_point point.Voted declared e = votes_follow sc c declared.scheme (reads_master sc declared)
    by_point point.VoteRead declared e = refl
    by_point (point.Begun number) declared e = absurd (cc)
    by_point (point.Stapled number) declared e = absurd (cc)
    by_point (point.Ran number) declared e = absurd (cc)
    by_point (point.Read number) declared e = absurd (cc)
    by_point (point.Validated number) declared e = absurd (cc)

    by_txn : (found : Option Transaction) → slice_get sc.txns c.txn.0 ≡ found → is_beginning (followed sc c (number_at at) (move_at sc c at)) ≡ false
    by_txn None e =
        ap (λ (d : Option Transaction). is_beginning (followed sc c (number_at at) (option_map_or (move_of sc at) d move.Following))) e
        ∙ ap (λ (d : Option Transaction). is_beginning (option_map_or (move_of sc (point.Begun (next_at at))) d move.Following)) e
    by_txn (Some declared) e = ap (λ (d : Option Transaction). is_beginning (followed sc c (number_at at) (option_map_or (move_of sc at) d move.Following))) e ∙ by_point at declared voted

past_or_voted : (at : Point) → is_past at ≡ true → is_voted at ≡ false → is_of_query at ≡ true
past_or_voted (point.Begun number) past e = absurd (cc)
past_or_voted (point.Stapled number) past e = absurd (cc)
past_or_voted (point.Ran number) past e = refl
past_or_voted (point.Read number) past e = refl
past_or_voted (point.Validated number) past e = refl
past_or_voted point.Voted past e = absurd (cc)
past_or_voted point.VoteRead past e = absurd (cc)

-- a query begins, or all are done with, only after a query
pub begins_of_query : (sc : Scenario) (c : Coordinator) (at : Point) (wanted : Move) → is_past at ≡ true → is_beginning wanted ≡ true → move_after sc c at ≡ wanted → is_of_query at ≡ true
begins_of_query sc c at wanted past begins e = past_or_voted at past (by_test (is_voted at) refl)
  where
    by_test : (b : Bool) → is_voted at ≡ b → is_voted at ≡ false
    by_test false f = f
    by_test true f = absurd (let none = voted_begins_none sc c at f in let one : is_beginning (move_after sc c at) ≡ true = ap is_beginning e ∙ begins in both_ways (is_beginning (move_after sc c at)) none one)

-- the move at a point is one of a transaction of the scenario
moved_by : (sc : Scenario) (at : Point) (wanted : Move) (test : Point → Bool) → is_elsewhere wanted ≡ true → ((declared : Transaction) → move_of sc at declared ≡ wanted → test at ≡ true) → (found : Option Transaction)
    → option_map_or (move_of sc at) found move.Following ≡ wanted → test at ≡ true
moved_by sc at wanted test other step None e = absurd (let none : is_elsewhere move.Following ≡ true = subst (λ (m : Move). is_elsewhere m ≡ true) (sym e) other in cc)
moved_by sc at wanted test other step (Some declared) e = step declared e

-- the master is asked where a query ran, or all have voted
pub probed_there : (sc : Scenario) (c : Coordinator) (at : Point) → move_after sc c at ≡ move.Probe → is_probed at ≡ true
probed_there sc c at e =
    moved_by sc at move.Probe is_probed refl
    (λ declared moves. ⊎_elim (λ (ran : (query : ℕ) × (at ≡ point.Ran query)). ap is_probed ran.1) (λ (voted : at ≡ point.Voted). ap is_probed voted) (probes_incremental declared.scheme (reads_master sc declared) (query_count declared) at moves).2)
    (slice_get sc.txns c.txn.0) (moved_here sc c at move.Probe refl e)

-- the queries so far are evaluated together where one ran
pub validated_ran : (sc : Scenario) (c : Coordinator) (at : Point) → move_after sc c at ≡ move.Validate → is_ran at ≡ true
validated_ran sc c at e =
    moved_by sc at move.Validate is_ran refl (λ declared moves. ap is_ran (validates_continuous declared.scheme (reads_master sc declared) (query_count declared) at moves).1.1) (slice_get sc.txns c.txn.0) (moved_here sc c at move.Validate refl e)

-- the transaction commits where all have voted
pub decided_voted : (sc : Scenario) (c : Coordinator) (at : Point) → move_after sc c at ≡ move.Decide → is_voted at ≡ true
decided_voted sc c at e =
    moved_by sc at move.Decide is_voted refl
    (λ declared moves. ⊎_elim (λ (voted : at ≡ point.Voted). ap is_voted voted) (λ (read : at ≡ point.VoteRead). ap is_voted read) (decides_after_votes declared.scheme (reads_master sc declared) (query_count declared) at moves))
    (slice_get sc.txns c.txn.0) (moved_here sc c at move.Decide refl e)

-- ---- proofs of each query

-- what a transaction of the scenario does at a point
pub move_is : (sc : Scenario) (c : Coordinator) (declared : Transaction) (at : Point) (wanted : Move) → slice_get sc.txns c.txn.0 ≡ Some declared → move_at sc c at ≡ wanted → move_of sc at declared ≡ wanted
move_is sc c declared at wanted found e = sym (ap (λ (d : Option Transaction). option_map_or (move_of sc at) d move.Following) found) ∙ e

-- a query is sent at once where the scheme does not prove each
pub unproved : (sc : Scenario) (c : Coordinator) (declared : Transaction) (number : ℕ) → slice_get sc.txns c.txn.0 ≡ Some declared → move_at sc c (point.Begun number) ≡ move.SendQuery → proves_each declared.scheme ≡ false
unproved sc c declared number found e = (sends_unproved declared.scheme (reads_master sc declared) (query_count declared) number (move_is sc c declared (point.Begun number) move.SendQuery found e)).0

-- and the authority is asked before it where the scheme does
pub proved : (sc : Scenario) (c : Coordinator) (declared : Transaction) (number : ℕ) → slice_get sc.txns c.txn.0 ≡ Some declared → move_at sc c (point.Begun number) ≡ move.Ask → proves_each declared.scheme ≡ true
proved sc c declared number found e = (asks_before_proved declared.scheme (reads_master sc declared) (query_count declared) (point.Begun number) (move_is sc c declared (point.Begun number) move.Ask found e)).0

-- so a transaction that proves each query sends none at once
pub sent_unproved : (sc : Scenario) (c : Coordinator) (number : ℕ) → move_at sc c (point.Begun number) ≡ move.SendQuery → ProvesEach sc c.txn → ⊥
sent_unproved sc c number e each = by_txn (slice_get sc.txns c.txn.0) refl each
  where
    by_txn : (found : Option Transaction) → slice_get sc.txns c.txn.0 ≡ found → option_map (λ (declared : Transaction). proves_each declared.scheme) found ≡ Some true → ⊥
    by_txn None f g = cc
    by_txn (Some declared) f g = both_ways (proves_each declared.scheme) (unproved sc c declared number f e) (same_Some (proves_each declared.scheme) true g)

-- where the authority is asked, there is such a query
pub asked_there : (sc : Scenario) (c : Coordinator) (number : ℕ) → 1 ≤ number → move_at sc c (point.Begun number) ≡ move.Ask → is_some (own_query sc c number) ≡ true
asked_there sc c zero low e = absurd (omega (arith, low))
asked_there sc c (suc before) low e = by_txn (slice_get sc.txns c.txn.0) e
  where
    by_query : (declared : Transaction) (found : Option Query) → before < length declared.queries → slice_get declared.queries before ≡ found → is_some found ≡ true
    by_query declared None within f = absurd (missing declared.queries before within f)
    by_query declared (Some query) within f = refl

    by_txn : (found : Option Transaction) → option_map_or (move_of sc (point.Begun (suc before))) found move.Following ≡ move.Ask → is_some (option_and_then (λ (txn : Transaction). query_at txn (suc before)) found) ≡ true
    by_txn None f = absurd (cc)
    by_txn (Some declared) f =
        let law = asks_before_proved declared.scheme (reads_master sc declared) (query_count declared) (point.Begun (suc before)) f in
        let same : law.1.0 ≡ suc before = cc in
        let within : law.1.0 ≤ query_count declared = law.1.2 in
        by_query declared (slice_get declared.queries before) (omega (arith, same, within)) refl

-- ---- the end

-- a move where all queries are done with
abbrev pub is_ending : Move → Bool
is_ending move.CommitRounds = true
is_ending move.Votes = true
is_ending _ = false

ending_begins : (wanted : Move) → is_ending wanted ≡ true → is_beginning wanted ≡ true
ending_begins move.CommitRounds e = refl
ending_begins move.Votes e = refl
ending_begins move.Ask e = absurd (cc)
ending_begins move.SendQuery e = absurd (cc)
ending_begins move.Probe e = absurd (cc)
ending_begins move.Validate e = absurd (cc)
ending_begins move.Decide e = absurd (cc)
ending_begins move.Following e = absurd (cc)

-- where one comes, no query has this number
past_begun : (sc : Scenario) (declared : Transaction) (number : ℕ) (wanted : Move) → is_ending wanted ≡ true → move_of sc (point.Begun number) declared ≡ wanted → query_count declared < number
past_begun sc declared number move.CommitRounds ends e =
    let law = rounds_at_commit declared.scheme (reads_master sc declared) (query_count declared) (point.Begun number) e in
    subst (λ (n : ℕ). query_count declared < n) (cc) law.1.2
past_begun sc declared number move.Votes ends e =
    let law = votes_incremental declared.scheme (reads_master sc declared) (query_count declared) (point.Begun number) e in
    subst (λ (n : ℕ). query_count declared < n) (cc) law.1.2
past_begun sc declared number move.Ask ends e = absurd (cc)
past_begun sc declared number move.SendQuery ends e = absurd (cc)
past_begun sc declared number move.Probe ends e = absurd (cc)
past_begun sc declared number move.Validate ends e = absurd (cc)
past_begun sc declared number move.Decide ends e = absurd (cc)
past_begun sc declared number move.Following ends e = absurd (cc)

-- where one comes after a query, at the point of which it is passed, that was the last
pub last_is : (sc : Scenario) (c : Coordinator) (at : Point) (asked : Query) (wanted : Move) → HaveHomes sc → is_past at ≡ true → is_ending wanted ≡ true → own_query sc c (number_at at) ≡ Some asked → move_after sc c at ≡ wanted
    → own_query sc c (number_at at + 1) ≡ None
last_is sc c at asked wanted homes passed ends e moves = found (slice_get sc.txns c.txn.0) refl e
  where
    number : ℕ
    number = number_at at

    found : (declared : Option Transaction) → slice_get sc.txns c.txn.0 ≡ declared → option_and_then (λ (txn : Transaction). query_at txn number) declared ≡ Some asked
        → option_and_then (λ (txn : Transaction). query_at txn (number + 1)) declared ≡ None
    found None f g = refl
    found (Some declared) f g =
        let few : length declared.queries ≤ 16 = homes.few c.txn.0 declared f in
        let within : number ≤ length declared.queries = query_within declared.queries number asked declared refl g in
        let further : next_number number ≡ number + 1 = next_is sc c number asked homes e in
        let begins : move_of sc (point.Begun (next_number number)) declared ≡ wanted = move_is sc c declared (point.Begun (next_number number)) wanted f (begun_after sc c at wanted passed (ending_begins wanted ends) moves) in
        let past : query_count declared < next_number number = past_begun sc declared (next_number number) wanted ends begins in
        let all : length declared.queries ≤ number = omega (arith, few, within, further, past) in
        let next : number + 1 ≡ suc number = omega arith in
        ap (query_at declared) next ∙ slice_get_past declared.queries number all
