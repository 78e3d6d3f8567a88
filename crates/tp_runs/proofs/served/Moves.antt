-- Served, what a coordinator makes: a new request goes to each actor that is then awaited, and a decision to each
-- server; and at each point that a transaction passes something is made.
use Rattle.std.specs.Option.{option_map_or}
use Rattle.std.proofs.Common.{Bool, List, None, Option, Some, [], ap, arith, cond, false, filter, if◌then◌else◌, inl, is_some, length, map, nat_le, option_and_then, refl, slice_get, subst, suc, sym, true, ℕ, ◌&&◌, ◌+◌, ◌-◌, ◌==◌, ◌||◌, ◌∙◌, ◌∷◌, ◌≡◌, ◌≤◌}
use Rattle.std.proofs.lemmas.Bool.{or_left, or_right}
use Rattle.std.proofs.lemmas.Bool.Decides.{nat_tests}
use Rattle.std.proofs.lemmas.Option.{same_Some}
use Rattle.tp_types.proofs.EachLemmas.{missing, some_value}
use Rattle.tp_types.specs.Effect.{Effect}
use Rattle.tp_model.specs.Levels.{reads_master}
use Rattle.tp_model.specs.Queries.{query_at}
use Rattle.tp_model.specs.Words.actor
use Rattle.tp_model.specs.Words.body
use Rattle.tp_model.specs.Words.scheme
use Rattle.tp_model.specs.Words.{Actor, Outcome, Query, Scenario, Scheme, ServerId, Staple, Transaction, TxnId}
use Rattle.tp_coord.specs.Row as coord
use Rattle.tp_coord.specs.State.{Coordinator}
use Rattle.tp_coord.specs.declared.coordinator.Phase.{Phase}
use Rattle.tp_coord.specs.declared.coordinator.Phase.TheVariants as phase
use Rattle.tp_coord.specs.declared.coordinator.Span.{Span}
use Rattle.tp_coord.specs.declared.coordinator.Span.TheVariants as span
use Rattle.tp_round.specs.Judge.{is_awaited, is_missing, server_of_target}
use Rattle.tp_round.specs.declared.round.Round.{Round}
use Rattle.tp_round.specs.declared.round.Target.{Target}
use Rattle.tp_scheme.specs.Moves.{after_queries, after_run, after_votes, proves_each}
use Rattle.tp_scheme.specs.declared.moves.Move.{Move}
use Rattle.tp_scheme.specs.declared.moves.Move.TheVariants as move
use Rattle.tp_scheme.specs.declared.moves.Point.{Point}
use Rattle.tp_scheme.specs.declared.moves.Point.TheVariants as point
use Rattle.tp_runs.proofs.basics.Homes.{HaveHomes, is_past, no_home}
use Rattle.tp_runs.proofs.basics.Ids.{same_server_is}
use Rattle.tp_runs.proofs.basics.Rounds.{is_in, missing_in}
use Rattle.tp_runs.proofs.served.Awaited.{IsAskedOf, IsRequest, is_awaiting, is_home, kind_of}
use Rattle.tp_runs.proofs.served.Lists.{AnyOf, any_mapped}

-- ---- a new request

-- what is awaited after an act was asked for in it
pub record Fresh (sc : Scenario) (txn : TxnId) (effect : Effect Coordinator) : Type 0 where
  pub txn_is : effect.state.txn ≡ txn
  pub asked : (who : Actor) → is_awaiting sc effect.state effect.state.phase who ≡ true → AnyOf (IsAskedOf effect.state who) effect.reaction.letters

home_same : (home : Option ServerId) (known at : ServerId) → home ≡ Some known → is_home home at ≡ true → known ≡ at
home_same (Some one) known at e h = sym (same_Some one known e) ∙ same_server_is one at h
home_same None known at e h = absurd (cc)

pub query_fresh : (sc : Scenario) (c : Coordinator) (number : ℕ) (staple : Option Staple) (server : ServerId) → coord.home_of sc c number ≡ Some server → Fresh sc c.txn (coord.sends_query sc c number staple server)
query_fresh sc c number staple server home =
    record { txn_is = refl; asked = by_actor }
  where
    by_actor : (who : Actor) → is_awaiting sc (coord.sends_query sc c number staple server).state (phase.Querying number staple) who ≡ true
        → AnyOf (IsAskedOf (coord.sends_query sc c number staple server).state who) (coord.sends_query sc c number staple server).reaction.letters
    by_actor (actor.Server at) e =
        inl (record {
          goes_to = ap (λ (s : ServerId). actor.Server s) (home_same (coord.home_of sc c number) server at home e);
          says = record { q = coord.query_request sc c (coord.next_turn c) server number staple; said_is = refl; txn_is = refl; turn_is = refl; query_is = refl };
        })
    by_actor (actor.Coordinator txn) e = absurd (cc)
    by_actor actor.Master e = absurd (cc)
    by_actor actor.Authority e = absurd (cc)

pub staple_fresh : (sc : Scenario) (c : Coordinator) (number : ℕ) → Fresh sc c.txn (coord.asks_in c (phase.Stapling number))
staple_fresh sc c number = record { txn_is = refl; asked = by_actor }
  where
    by_actor : (who : Actor) → is_awaiting sc (coord.asks_in c (phase.Stapling number)).state (phase.Stapling number) who ≡ true
        → AnyOf (IsAskedOf (coord.asks_in c (phase.Stapling number)).state who) (coord.asks_in c (phase.Stapling number)).reaction.letters
    by_actor actor.Authority e = inl (record { goes_to = refl; says = refl })
    by_actor (actor.Server at) e = absurd (cc)
    by_actor (actor.Coordinator txn) e = absurd (cc)
    by_actor actor.Master e = absurd (cc)

pub asks_fresh : (sc : Scenario) (c : Coordinator) (over : Span) (round : Round) → Fresh sc c.txn (coord.asks c over round)
asks_fresh sc c over round = record { txn_is = refl; asked = by_actor }
  where
    by_actor : (who : Actor) → is_awaiting sc (coord.asks c over round).state (phase.Asking over round) who ≡ true → AnyOf (IsAskedOf (coord.asks c over round).state who) (coord.asks c over round).reaction.letters
    by_actor actor.Authority e = inl (record { goes_to = refl; says = refl })
    by_actor (actor.Server at) e = absurd (cc)
    by_actor (actor.Coordinator txn) e = absurd (cc)
    by_actor actor.Master e = absurd (cc)

-- the master alone is awaited
abbrev pub IsOfMaster : Scenario → Phase → Type 0
IsOfMaster sc awaiting = (c : Coordinator) (who : Actor) → is_awaiting sc c awaiting who ≡ true → (who ≡ actor.Master) × ((txn : TxnId) (turn : ℕ) → IsRequest txn turn (kind_of awaiting) (body.Probe (record { txn = txn; turn = turn })))

probing_master : (sc : Scenario) (number : ℕ) → IsOfMaster sc (phase.Probing number)
probing_master sc number c actor.Master e = (refl, λ txn turn. refl)
probing_master sc number c (actor.Server at) e = absurd (cc)
probing_master sc number c (actor.Coordinator txn) e = absurd (cc)
probing_master sc number c actor.Authority e = absurd (cc)

reading_master : (sc : Scenario) (over : Span) (round : Round) → IsOfMaster sc (phase.Reading over round)
reading_master sc over round c actor.Master e = (refl, λ txn turn. refl)
reading_master sc over round c (actor.Server at) e = absurd (cc)
reading_master sc over round c (actor.Coordinator txn) e = absurd (cc)
reading_master sc over round c actor.Authority e = absurd (cc)

votes_master : (sc : Scenario) → IsOfMaster sc phase.VoteProbing
votes_master sc c actor.Master e = (refl, λ txn turn. refl)
votes_master sc c (actor.Server at) e = absurd (cc)
votes_master sc c (actor.Coordinator txn) e = absurd (cc)
votes_master sc c actor.Authority e = absurd (cc)

probed_master : (sc : Scenario) (at : Point) → IsOfMaster sc (coord.probing_at at)
probed_master sc (point.Begun number) = probing_master sc number
probed_master sc (point.Stapled number) = probing_master sc number
probed_master sc (point.Ran number) = probing_master sc number
probed_master sc (point.Read number) = probing_master sc number
probed_master sc (point.Validated number) = probing_master sc number
probed_master sc point.Voted = votes_master sc
probed_master sc point.VoteRead = probing_master sc 0

master_fresh : (sc : Scenario) (c : Coordinator) (awaiting : Phase) → IsOfMaster sc awaiting → Fresh sc c.txn (coord.probes c awaiting)
master_fresh sc c awaiting master =
    record {
      txn_is = refl;
      asked = λ who e. let k = master (coord.probes c awaiting).state who e in inl (record { goes_to = sym k.0; says = k.1 c.txn (coord.next_turn c) });
    }

pub reading_fresh : (sc : Scenario) (c : Coordinator) (over : Span) (round : Round) → Fresh sc c.txn (coord.probes c (phase.Reading over round))
reading_fresh sc c over round = master_fresh sc c (phase.Reading over round) (reading_master sc over round)

pub probes_fresh : (sc : Scenario) (c : Coordinator) (at : Point) → Fresh sc c.txn (coord.probes c (coord.probing_at at))
probes_fresh sc c at = master_fresh sc c (coord.probing_at at) (probed_master sc at)

-- ---- a request to several servers

pub votes_fresh : (sc : Scenario) (c : Coordinator) → Fresh sc c.txn (coord.asks_votes c)
votes_fresh sc c = record { txn_is = refl; asked = by_actor }
  where
    by_actor : (who : Actor) → is_awaiting sc (coord.asks_votes c).state (phase.Voting c.servers) who ≡ true → AnyOf (IsAskedOf (coord.asks_votes c).state who) (coord.asks_votes c).reaction.letters
    by_actor (actor.Server at) e =
        any_mapped (IsAskedOf (coord.asks_votes c).state (actor.Server at)) (coord.vote_letter c (coord.next_turn c)) (λ (other : ServerId). other.0 == at.0)
        (λ other same. record {
          goes_to = ap (λ (s : ServerId). actor.Server s) (same_server_is other at same);
          says = record { p = coord.prepare_with c (coord.next_turn c) None [] other; said_is = refl; txn_is = refl; turn_is = refl };
        }) c.servers e
    by_actor (actor.Coordinator txn) e = absurd (cc)
    by_actor actor.Master e = absurd (cc)
    by_actor actor.Authority e = absurd (cc)

pub orders_fresh : (sc : Scenario) (c next : Coordinator) (ended : Outcome) (effect : Effect Coordinator) → effect.state ≡ record next { phase = phase.Ending ended next.servers } → next.txn ≡ c.txn
    → effect.reaction.letters ≡ coord.decide_letters next ended next.servers → Fresh sc c.txn effect
orders_fresh sc c next ended effect state same letters =
    record {
      txn_is = ap (λ (k : Coordinator). k.txn) state ∙ same;
      asked = λ who e.
          subst (λ (k : Coordinator). AnyOf (IsAskedOf k who) effect.reaction.letters) (sym state)
          (subst (AnyOf (IsAskedOf ends who)) (sym letters) (by_actor who (subst (λ (k : Coordinator). is_awaiting sc k k.phase who ≡ true) state e)));
    }
  where
    ends : Coordinator
    ends = record next { phase = phase.Ending ended next.servers }

    by_actor : (who : Actor) → is_awaiting sc (record next { phase = phase.Ending ended next.servers }) (phase.Ending ended next.servers) who ≡ true
        → AnyOf (IsAskedOf (record next { phase = phase.Ending ended next.servers }) who) (coord.decide_letters next ended next.servers)
    by_actor (actor.Server at) e =
        any_mapped (IsAskedOf (record next { phase = phase.Ending ended next.servers }) (actor.Server at)) (λ (server : ServerId). coord.request next server (body.Decide (record { txn = next.txn; outcome = ended }))) (λ (other : ServerId). other.0 == at.0)
        (λ other same_one. record { goes_to = ap (λ (s : ServerId). actor.Server s) (same_server_is other at same_one); says = refl }) next.servers e
    by_actor (actor.Coordinator txn) e = absurd (cc)
    by_actor actor.Master e = absurd (cc)
    by_actor actor.Authority e = absurd (cc)

-- who is awaited in a round is one of those that are asked
missing_by : (target : Target) (targets : List Target) (at : ServerId) (s m : Bool) → (target.server.0 == at.0) ≡ s → is_missing target ≡ m → (is_awaited targets at ≡ true → is_in (missing_in targets) at ≡ true)
    → ((s && m) || is_awaited targets at) ≡ true → is_in (map server_of_target (cond m (target ∷ filter is_missing targets) (filter is_missing targets))) at ≡ true
missing_by target targets at true true s m later e = or_left (target.server.0 == at.0) (is_in (missing_in targets) at) s
missing_by target targets at true false s m later e = later e
missing_by target targets at false true s m later e = or_right (target.server.0 == at.0) (is_in (missing_in targets) at) (later e)
missing_by target targets at false false s m later e = later e

pub awaited_missing : (targets : List Target) (at : ServerId) → is_awaited targets at ≡ true → is_in (missing_in targets) at ≡ true
awaited_missing [] at e = absurd (cc)
awaited_missing (target ∷ targets) at e = missing_by target targets at (target.server.0 == at.0) (is_missing target) refl refl (awaited_missing targets at) e

round_says : (c : Coordinator) (over : Span) (turn : ℕ) (round : Round) (staple : Staple) (at : ServerId) → IsRequest c.txn turn (kind_of (phase.Checking over round staple)) (coord.round_letter c over turn round staple at).body
round_says c (span.Validate number) turn round staple at = record { v = coord.validate_request c turn round staple at; said_is = refl; txn_is = refl; turn_is = refl }
round_says c span.Commit turn round staple at = record { p = coord.prepare_request c turn round staple at; said_is = refl; txn_is = refl; turn_is = refl }

round_goes : (c : Coordinator) (over : Span) (turn : ℕ) (round : Round) (staple : Staple) (at : ServerId) → (coord.round_letter c over turn round staple at).to ≡ actor.Server at
round_goes c (span.Validate number) turn round staple at = refl
round_goes c span.Commit turn round staple at = refl

-- the requests of a round, in the turn of the coordinator
pub round_asked : (c next : Coordinator) (over : Span) (round : Round) (staple : Staple) (at : ServerId) → next.txn ≡ c.txn → next.phase ≡ phase.Checking over round staple → is_awaited round.targets at ≡ true
    → AnyOf (IsAskedOf next (actor.Server at)) (coord.round_letters c over next.turn round staple)
round_asked c next over round staple at same e awaited =
    any_mapped (IsAskedOf next (actor.Server at)) (coord.round_letter c over next.turn round staple) (λ (other : ServerId). other.0 == at.0)
    (λ other same_one. record {
      goes_to = round_goes c over next.turn round staple other ∙ ap (λ (s : ServerId). actor.Server s) (same_server_is other at same_one);
      says = subst (λ (p : Phase). IsRequest next.txn next.turn (kind_of p) (coord.round_letter c over next.turn round staple other).body) (sym e)
          (subst (λ (t : TxnId). IsRequest t next.turn (kind_of (phase.Checking over round staple)) (coord.round_letter c over next.turn round staple other).body) (sym same) (round_says c over next.turn round staple other));
    }) (missing_in round.targets) (awaited_missing round.targets at awaited)

pub checks_fresh : (sc : Scenario) (c : Coordinator) (over : Span) (round : Round) (staple : Staple) → Fresh sc c.txn (coord.checks c over round staple)
checks_fresh sc c over round staple = record { txn_is = refl; asked = by_actor }
  where
    by_actor : (who : Actor) → is_awaiting sc (coord.checks c over round staple).state (phase.Checking over round staple) who ≡ true
        → AnyOf (IsAskedOf (coord.checks c over round staple).state who) (coord.checks c over round staple).reaction.letters
    by_actor (actor.Server at) e = round_asked c (coord.checks c over round staple).state over round staple at refl refl e
    by_actor (actor.Coordinator txn) e = absurd (cc)
    by_actor actor.Master e = absurd (cc)
    by_actor actor.Authority e = absurd (cc)

-- ---- a transaction has servers

-- what the moves rest on: the transaction exists, each query has its home, and that is one of the transaction's servers
pub record IsAtHome (sc : Scenario) (c : Coordinator) : Type 0 where
  pub homes : HaveHomes sc
  pub declared : Transaction
  pub declared_is : slice_get sc.txns c.txn.0 ≡ Some declared
  pub some : c.servers ≡ [] → ⊥
  pub upto : (number : ℕ) (asked : Query) → coord.own_query sc c number ≡ Some asked → coord.servers_upto sc c number ≡ [] → ⊥

-- the home of a query exists
pub home_there : (sc : Scenario) (c : Coordinator) (number : ℕ) (asked : Query) → HaveHomes sc → coord.own_query sc c number ≡ Some asked → (home : ServerId) × (coord.home_of sc c number ≡ Some home)
home_there sc c number asked homes e = there (coord.home_of sc c number) refl
  where
    there : (home : Option ServerId) → coord.home_of sc c number ≡ home → (at : ServerId) × (coord.home_of sc c number ≡ Some at)
    there None f = let none = no_home sc c number homes f in absurd (cc)
    there (Some home) f = (home, f)

-- ---- at each point something is made

query_within : (sc : Scenario) (c : Coordinator) (declared : Transaction) (number : ℕ) → slice_get sc.txns c.txn.0 ≡ Some declared → number + 1 ≤ length declared.queries → is_some (coord.own_query sc c (number + 1)) ≡ true
query_within sc c declared number found within =
    by_query (slice_get declared.queries number) refl
  where
    one_more : suc number ≡ number + 1
    one_more = omega arith

    by_query : (asked : Option Query) → slice_get declared.queries number ≡ asked → is_some (coord.own_query sc c (number + 1)) ≡ true
    by_query None e = absurd (missing declared.queries number (omega (arith, within)) e)
    by_query (Some asked) e =
        ap (λ (d : Option Transaction). is_some (option_and_then (λ (txn : Transaction). query_at txn (number + 1)) d)) found
        ∙ subst (λ (k : ℕ). is_some (query_at declared k) ≡ true) one_more (ap is_some e)

le_of : (a b : ℕ) → nat_le a b ≡ true → a ≤ b
le_of a b e = grind (arith, nat_tests)

-- the move where a query begins is none that leads on, and a query that it sends has a home
begun_made : (sc : Scenario) (c : Coordinator) (at : Point) (declared : Transaction) (chosen : Scheme) (b : Bool) → (b ≡ true → is_some (coord.home_of sc c (coord.next_at at)) ≡ true)
    → coord.is_made sc c at (if b then (if proves_each chosen then move.Ask else move.SendQuery) else after_queries chosen) ≡ true
begun_made sc c at declared scheme.Deferred true home = home refl
begun_made sc c at declared scheme.Continuous true home = home refl
begun_made sc c at declared scheme.Punctual true home = refl
begun_made sc c at declared scheme.Incremental true home = refl
begun_made sc c at declared scheme.Deferred false home = refl
begun_made sc c at declared scheme.Continuous false home = refl
begun_made sc c at declared scheme.Punctual false home = refl
begun_made sc c at declared scheme.Incremental false home = refl

some_there : {A : Type 0} (found : Option A) → (v : A) × (found ≡ Some v) → is_some found ≡ true
some_there found there = ap is_some there.1

-- where the next query begins
next_made : (sc : Scenario) (c : Coordinator) (at : Point) → IsAtHome sc c → coord.is_made sc c at (coord.move_at sc c (point.Begun (coord.next_at at))) ≡ true
next_made sc c at k =
    subst (λ (d : Option Transaction). coord.is_made sc c at (option_map_or (coord.move_of sc (point.Begun (coord.next_at at))) d move.Following) ≡ true) (sym k.declared_is)
    (begun_made sc c at k.declared k.declared.scheme (nat_le (coord.next_at at) (coord.query_count k.declared)) (λ e. home_some (coord.next_at at) refl e))
  where
    home_some : (number : ℕ) → number ≡ coord.next_at at → nat_le (coord.next_at at) (coord.query_count k.declared) ≡ true → is_some (coord.home_of sc c (coord.next_at at)) ≡ true
    home_some number e le =
        let few : length k.declared.queries ≤ 16 = k.homes.few c.txn.0 k.declared k.declared_is in
        let within : coord.next_at at ≤ coord.query_count k.declared = le_of (coord.next_at at) (coord.query_count k.declared) le in
        let least : coord.next_at at ≡ (coord.next_at at - 1) + 1 = omega arith in
        let there = query_within sc c k.declared (coord.next_at at - 1) k.declared_is (omega (arith, within, least)) in
        let asked = some_value (coord.own_query sc c (coord.next_at at)) (subst (λ (n : ℕ). is_some (coord.own_query sc c n) ≡ true) (sym least) there) in
        some_there (coord.home_of sc c (coord.next_at at)) (home_there sc c (coord.next_at at) asked.0 k.homes asked.1)

-- no move that sends a query
abbrev pub is_elsewhere_or_on : Move → Bool
is_elsewhere_or_on move.SendQuery = false
is_elsewhere_or_on _ = true

-- a move of a point that is passed is made, or leads to where the next query begins
followed_made : (sc : Scenario) (c : Coordinator) (at : Point) (next : Move) → is_elsewhere_or_on next ≡ true → coord.is_made sc c at (coord.move_at sc c (point.Begun (coord.next_at at))) ≡ true
    → coord.is_made sc c at (coord.followed sc c (coord.number_at at) next) ≡ true
followed_made sc c at move.Following e made = made
followed_made sc c at move.Probe e made = refl
followed_made sc c at move.Validate e made = refl
followed_made sc c at move.Decide e made = refl
followed_made sc c at move.Ask e made = refl
followed_made sc c at move.CommitRounds e made = refl
followed_made sc c at move.Votes e made = refl
followed_made sc c at move.SendQuery e made = absurd (cc)

run_elsewhere : (chosen : Scheme) (reads : Bool) → is_elsewhere_or_on (after_run chosen reads) ≡ true
run_elsewhere scheme.Deferred reads = refl
run_elsewhere scheme.Punctual reads = refl
run_elsewhere scheme.Continuous reads = refl
run_elsewhere scheme.Incremental true = refl
run_elsewhere scheme.Incremental false = refl

votes_elsewhere : (chosen : Scheme) (reads : Bool) → is_elsewhere_or_on (after_votes chosen reads) ≡ true
votes_elsewhere scheme.Deferred reads = refl
votes_elsewhere scheme.Punctual reads = refl
votes_elsewhere scheme.Continuous reads = refl
votes_elsewhere scheme.Incremental true = refl
votes_elsewhere scheme.Incremental false = refl

point_elsewhere : (sc : Scenario) (at : Point) (found : Option Transaction) → is_past at ≡ true → is_elsewhere_or_on (option_map_or (coord.move_of sc at) found move.Following) ≡ true
point_elsewhere sc at None past = refl
point_elsewhere sc (point.Ran number) (Some declared) past = run_elsewhere declared.scheme (reads_master sc declared)
point_elsewhere sc (point.Read number) (Some declared) past = refl
point_elsewhere sc (point.Validated number) (Some declared) past = refl
point_elsewhere sc point.Voted (Some declared) past = votes_elsewhere declared.scheme (reads_master sc declared)
point_elsewhere sc point.VoteRead (Some declared) past = refl
point_elsewhere sc (point.Begun number) (Some declared) past = absurd (cc)
point_elsewhere sc (point.Stapled number) (Some declared) past = absurd (cc)

-- so at each point that is passed something is made
pub past_made : (sc : Scenario) (c : Coordinator) (at : Point) → IsAtHome sc c → is_past at ≡ true → coord.is_made sc c at (coord.move_after sc c at) ≡ true
past_made sc c at k past = followed_made sc c at (coord.move_at sc c at) (point_elsewhere sc at (slice_get sc.txns c.txn.0) past) (next_made sc c at k)
