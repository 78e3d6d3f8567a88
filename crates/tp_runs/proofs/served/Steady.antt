-- Served, what holds of coordinators and servers in every world: where a reply is awaited somebody is asked, and a
-- server that is up has a place for each transaction.
use Rattle.std.specs.List.{list_any}
use Rattle.std.specs.Option.{option_map_or}
use Rattle.std.proofs.Common.{Bool, IfSome, List, None, Option, Some, [], ap, arith, cond, false, filter, length, option_and_then, option_map, refl, slice_get, slice_set, subst, suc, sym, take, true, zero, ℕ, ◌+◌, ◌-◌, ◌<◌, ◌==◌, ◌∙◌, ◌∷◌, ◌≡◌, ◌≤◌}
use Rattle.std.proofs.lemmas.Bool.{or_right}
use Rattle.std.proofs.lemmas.Bool.Decides.{nat_tests}
use Rattle.std.proofs.lemmas.List.{length-replicate, length-set}
use Rattle.std.proofs.lemmas.Option.{same_Some}
use Rattle.tp_types.proofs.EachLemmas.{at_made, at_set, by_cond, each_as, each_get, some_value}
use Rattle.tp_types.proofs.ListLemmas.{number_itself}
use Rattle.tp_types.specs.Each.{Each, EachAt}
use Rattle.tp_types.specs.Effect.{Effect}
use Rattle.tp_model.specs.Agreement.{has_item_at}
use Rattle.tp_model.specs.Queries.{is_at_server, item_of, servers_from, servers_of}
use Rattle.tp_model.specs.Valid.{is_valid}
use Rattle.tp_model.specs.Words.{Decision, Item, Mail, Query, Record, Scenario, ServerId, Settled, Step, Transaction, TxnId}
use Rattle.tp_recover.proofs.KeptLemmas.{kept_law}
use Rattle.tp_recover.specs.Kept.{kept}
use Rattle.tp_recover.specs.Log.{decided_in}
use Rattle.tp_coord.proofs.Rows.{submit_by}
use Rattle.tp_coord.specs.Booted as coord_boot
use Rattle.tp_coord.specs.Opened.{idle, servers_at}
use Rattle.tp_coord.specs.Row as coord
use Rattle.tp_coord.specs.State.{Coordinator}
use Rattle.tp_coord.specs.declared.coordinator.Phase.{Phase}
use Rattle.tp_coord.specs.declared.coordinator.Phase.TheVariants as phase
use Rattle.tp_coord.specs.declared.coordinator.Span.{Span}
use Rattle.tp_coord.specs.declared.coordinator.Span.TheVariants as span
use Rattle.tp_machine.specs.Machine.{Machine, State, machine_after, opened_part, opening_state, refusal, state_after, with_age}
use Rattle.tp_actor_log.specs.Records.{log_with}
use Rattle.tp_machine.specs.Named.{IsServer, IsStepOf}
use Rattle.tp_machine.specs.Parts.{Part}
use Rattle.tp_server.proofs.Rows.{AreRightWaits, server_by}
use Rattle.tp_server.specs.Booted.{boot_row}
use Rattle.tp_server.specs.Opened as server_opened
use Rattle.tp_server.specs.Row.{server_row}
use Rattle.tp_server.specs.State.{Server}
use Rattle.tp_runs.proofs.agreement.Steps.{coordinator_agrees}
use Rattle.tp_runs.proofs.basics.Booted.{records_of_scenario}
use Rattle.tp_runs.proofs.basics.Found.{of_some}
use Rattle.tp_runs.proofs.basics.Homes.{first_there, home_is}
use Rattle.tp_runs.proofs.basics.Phases.{next_ran, only_spanned, queries_of, sent_to_server, spanned_any}
use Rattle.tp_runs.proofs.basics.Servers.{among_servers, servers_over}
use Rattle.tp_runs.proofs.ids.Queries.{have_homes}
use Rattle.tp_runs.proofs.ids.Valid.{IsValid, IsValidItem, valid_of}
use Rattle.tp_runs.proofs.known.Waiting.{wait_rightly}
use Rattle.tp_runs.proofs.runs.Runs.{Holds}
use Rattle.tp_runs.proofs.served.Awaited.{AwaitsSome}
use Rattle.tp_runs.proofs.served.CoordinatorRows.{AreApart, IsSteady, ServersApart}
use Rattle.tp_runs.proofs.served.Moves.{home_there}
use Rattle.tp_runs.proofs.served.Receipts.{coordinator_row_handles}
use Rattle.tp_runs.proofs.trust.Coordinator.{CoordinatorFits, declared_there}
use Rattle.tp_runs.proofs.trust.Phases.{PhaseFits}
use Rattle.tp_runs.proofs.walks.Crashes.{CrashCases, every_step_by}
use Rattle.tp_runs.proofs.walks.Steps.{Cases, IsCoordinatorUp, machine_after_by}
use Rattle.tp_runs.specs.Sound.{IsSoundCoordinatorUp}

-- ---- the invariant

abbrev pub AwaitSome : List (Part Coordinator) → Type 0
AwaitSome coordinators = EachAt (λ (n : ℕ) (part : Part Coordinator). IfSome part.up (λ (c : Coordinator). AwaitsSome c.phase)) coordinators

abbrev pub HasPlaces : Scenario → Server → Type 0
HasPlaces sc s = length s.settled ≡ length sc.txns

abbrev pub HavePlaces : Scenario → List (Part Server) → Type 0
HavePlaces sc servers = EachAt (λ (n : ℕ) (part : Part Server). IfSome part.up (HasPlaces sc)) servers

pub record Steady (sc : Scenario) (w : State) : Type 0 where
  pub awaits : AwaitSome w.actors.coordinators
  pub places : HavePlaces sc w.actors.servers

-- ---- the home of a query

-- a server of the transaction, which one of the queries up to this one is at
record IsHomeOf (sc : Scenario) (c : Coordinator) (number : ℕ) (at : ServerId) : Type 0 where
  exists : IsServer sc at
  item : has_item_at sc at c.txn ≡ true
  upto : list_any (is_at_server sc at.0) (take number (queries_of sc c.txn)) ≡ true

item_server : (sc : Scenario) (at : ServerId) (n : ℕ) (found : Option Item) → slice_get sc.items n ≡ found → Each (IsValidItem sc) sc.items → option_map (λ (i : Item). i.server) found ≡ Some at → IsServer sc at
item_server sc at n None e items f = absurd (cc)
item_server sc at n (Some item) e items f = subst (IsServer sc) (same_Some item.server at f) (each_get (IsValidItem sc) sc.items n item items e).server

in_queries : (sc : Scenario) (at : ServerId) (number : ℕ) (found : Option Transaction) → list_any (is_at_server sc at.0) (take number (option_map_or (λ (declared : Transaction). declared.queries) found [])) ≡ true
    → option_map_or (λ (declared : Transaction). list_any (is_at_server sc at.0) declared.queries) found false ≡ true
in_queries sc at zero None e = absurd (cc)
in_queries sc at (suc number) None e = absurd (cc)
in_queries sc at number (Some declared) e = spanned_any (is_at_server sc at.0) (span.Validate number) declared.queries e

home_of_query : (sc : Scenario) (c : Coordinator) (number : ℕ) (asked : Query) (at : ServerId) → IsValid sc → coord.own_query sc c number ≡ Some asked → coord.server_of sc asked ≡ Some at → IsHomeOf sc c number at
home_of_query sc c number asked at valid e f =
    let ran = next_ran sc c.txn number asked (is_at_server sc at.0) e in
    let here : is_at_server sc at.0 asked ≡ true = sent_to_server sc asked at at.0 f ∙ number_itself at.0 in
    let upto : list_any (is_at_server sc at.0) (take number (queries_of sc c.txn)) ≡ true = ran ∙ or_right (list_any (is_at_server sc at.0) (take (number - 1) (queries_of sc c.txn))) (is_at_server sc at.0 asked) here in
    record { exists = item_server sc at (item_of asked).0 (slice_get sc.items (item_of asked).0) refl valid.items f; item = in_queries sc at number (slice_get sc.txns c.txn.0) upto; upto = upto }

none_left_of : {A : Type 0} (test : A → Bool) (xs : List A) → filter test xs ≡ [] → Each (λ (x : A). test x ≡ false) xs
none_left_of test [] e = tt
none_left_of {A = A} test (x ∷ xs) e = by_test (test x) refl e (λ f. none_left_of test xs f)
  where
    by_test : (b : Bool) → test x ≡ b → cond b (x ∷ filter test xs) (filter test xs) ≡ [] → (filter test xs ≡ [] → Each (λ (y : A). test y ≡ false) xs) → (test x ≡ false) × Each (λ (y : A). test y ≡ false) xs
    by_test true t f later = absurd (cc)
    by_test false t f later = (t, later f)

-- the servers of the queries up to one are some
some_upto : (sc : Scenario) (c : Coordinator) (number : ℕ) (asked : Query) → IsValid sc → c.servers ≡ servers_at sc c.txn → coord.own_query sc c number ≡ Some asked → coord.servers_upto sc c number ≡ [] → ⊥
some_upto sc c number asked valid same e none =
    let homes = have_homes sc valid in
    let home = home_there sc c number asked homes e in
    let server : coord.server_of sc asked ≡ Some home.0 = sym (ap (λ (q : Option Query). option_and_then (coord.server_of sc) q) e) ∙ home.1 in
    let k = home_of_query sc c number asked home.0 valid e server in
    by_found (slice_get sc.txns c.txn.0) refl home.0 k
  where
    by_found : (found : Option Transaction) → slice_get sc.txns c.txn.0 ≡ found → (at : ServerId) → IsHomeOf sc c number at → ⊥
    by_found None f at k = let none_there = ap (λ (d : Option Transaction). option_map_or (λ (declared : Transaction). list_any (is_at_server sc at.0) declared.queries) d false) f in let item = k.item in cc
    by_found (Some declared) f at k =
        let test : ServerId → Bool = coord.has_query sc (take number declared.queries) in
        let filtered : filter test c.servers ≡ [] = sym (ap (λ (d : Option Transaction). option_map_or (λ (txn : Transaction). filter (coord.has_query sc (take number txn.queries)) c.servers) d []) f) ∙ none in
        let fails : Each (λ (s : ServerId). test s ≡ false) (servers_at sc c.txn) = subst (Each (λ (s : ServerId). test s ≡ false)) same (none_left_of test c.servers filtered) in
        let missing_here : test at ≡ false = among_servers (λ (s : ServerId). test s ≡ false) sc at c.txn k.exists k.item fails in
        let there : test at ≡ true = sym (ap (λ (d : Option Transaction). list_any (is_at_server sc at.0) (take number (option_map_or (λ (t : Transaction). t.queries) d []))) f) ∙ k.upto in
        cc

-- so are the transaction's
some_servers_of : (sc : Scenario) (c : Coordinator) → IsValid sc → c.txn.0 < length sc.txns → c.servers ≡ servers_at sc c.txn → c.servers ≡ [] → ⊥
some_servers_of sc c valid exists same none =
    let homes = have_homes sc valid in
    let home = some_value (coord.home_of sc c 1) (first_there sc c homes exists) in
    let is = home_is sc c 1 home.0 home.1 in
    let k = home_of_query sc c 1 is.asked home.0 valid is.asked_is is.server_is in
    among_servers (λ (s : ServerId). ⊥) sc home.0 c.txn k.exists k.item (subst (Each (λ (s : ServerId). ⊥)) (sym none ∙ same) tt)

-- ---- servers are apart

above_low : (sc : Scenario) (queries : List Query) (low left : ℕ) → Each (λ (at : ServerId). low ≤ at.0) (servers_from sc queries low left)
above_low sc queries low zero = tt
above_low sc queries low (suc left) =
    let later : Each (λ (at : ServerId). low ≤ at.0) (servers_from sc queries (low + 1) left) =
    each_as (λ (at : ServerId). low + 1 ≤ at.0) (λ (at : ServerId). low ≤ at.0) (λ at le. omega (arith, le)) (servers_from sc queries (low + 1) left) (above_low sc queries (low + 1) left) in
    by_cond (Each (λ (at : ServerId). low ≤ at.0)) (list_any (is_at_server sc low) queries) (λ here. (omega arith, later)) (λ elsewhere. later)

above_apart : (low n : ℕ) → low + 1 ≤ n → (n == low) ≡ false
above_apart low n le = grind (arith, nat_tests)

from_apart : (sc : Scenario) (queries : List Query) (low left : ℕ) → AreApart (servers_from sc queries low left)
from_apart sc queries low zero = tt
from_apart sc queries low (suc left) =
    by_cond AreApart (list_any (is_at_server sc low) queries)
    (λ here. (
      each_as (λ (at : ServerId). low + 1 ≤ at.0) (λ (at : ServerId). (at.0 == low) ≡ false) (λ at le. above_apart low at.0 le) (servers_from sc queries (low + 1) left) (above_low sc queries (low + 1) left),
      from_apart sc queries (low + 1) left,
    ))
    (λ elsewhere. from_apart sc queries (low + 1) left)

over_apart : (sc : Scenario) (txn : TxnId) (over : Span) → AreApart (servers_over sc txn over)
over_apart sc txn over = by_found (slice_get sc.txns txn.0)
  where
    by_found : (found : Option Transaction) → AreApart (option_map_or (λ (declared : Transaction). servers_of sc (only_spanned over declared)) found [])
    by_found None = tt
    by_found (Some declared) = from_apart sc (only_spanned over declared).queries 0 (length sc.servers)

phase_apart : (sc : Scenario) (w : State) (txn : TxnId) (awaited : Phase) → PhaseFits sc w.facts (length w.steps) txn awaited → ServersApart awaited
phase_apart sc w txn (phase.Checking over round staple) f = subst AreApart (sym f.1.servers) (over_apart sc txn over)
phase_apart sc w txn phase.Idle f = tt
phase_apart sc w txn (phase.Stapling number) f = tt
phase_apart sc w txn (phase.Querying number staple) f = tt
phase_apart sc w txn (phase.Probing number) f = tt
phase_apart sc w txn (phase.Asking over round) f = tt
phase_apart sc w txn (phase.Reading over round) f = tt
phase_apart sc w txn (phase.Voting awaited) f = tt
phase_apart sc w txn phase.VoteProbing f = tt
phase_apart sc w txn (phase.Ending ended awaited) f = tt

-- ---- a coordinator that is up

pub steady_of : (sc : Scenario) (w : State) (txn : TxnId) (part : Part Coordinator) (c : Coordinator) → is_valid sc ≡ true → Holds sc w → Steady sc w → IsCoordinatorUp w txn part c → IsSteady sc c
steady_of sc w txn part c formed h steady up =
    let valid = valid_of sc formed in
    let own : IsSoundCoordinatorUp sc txn c = of_some (IsSoundCoordinatorUp sc txn) part.up c up.up (h.sound.actors_are.coordinators txn.0 part up.found).state in
    let fits : CoordinatorFits sc w.facts (length w.steps) c = of_some (CoordinatorFits sc w.facts (length w.steps)) part.up c up.up (h.trusts.coordinators txn.0 part up.found) in
    let servers : c.servers ≡ servers_at sc c.txn = (coordinator_agrees sc w txn part c h.agrees up).agrees.servers in
    let there = declared_there sc c.txn own.sound.exists in
    record {
      home = record {
        homes = have_homes sc valid;
        declared = there.0;
        declared_is = there.1;
        some = some_servers_of sc c valid own.sound.exists servers;
        upto = λ number asked e none. some_upto sc c number asked valid servers e none;
      };
      sound = own.sound.awaits;
      awaits = of_some (λ (k : Coordinator). AwaitsSome k.phase) part.up c up.up (steady.awaits txn.0 part up.found);
      apart = phase_apart sc w c.txn c.phase fits.awaits;
    }

-- ---- rows

begun_some : (sc : Scenario) (c : Coordinator) (place : ℕ) → AwaitsSome c.phase → AwaitsSome (with_age (coord.submit_row sc c) place).state.phase
begun_some sc c place h =
    submit_by sc c (λ (effect : Effect Coordinator). AwaitsSome (with_age effect place).state.phase) (record { ignored = h; sent = λ server moves home. tt; asked = λ moves. tt })

booted_some : (sc : Scenario) (txn : TxnId) (decided : Option Decision) → AwaitsSome (coord_boot.boot_by sc txn decided).state.phase
booted_some sc txn None = tt
booted_some sc txn (Some decided) = tt

server_keeps_places : (sc : Scenario) (s : Server) (mail : Mail) → AreRightWaits sc s → HasPlaces sc s → HasPlaces sc (server_row sc s mail).state
server_keeps_places sc s mail waits h =
    server_by sc s mail (λ (effect : Effect Server). HasPlaces sc effect.state) waits
    (record {
      relocked = λ effect locks k. k;
      relearnt = λ effect admin pin k. k;
      ignored = h;
      ran = λ q query entry value proof k r. h;
      denied = λ q query entry value verdict k d. h;
      outdated = λ q query entry value newer k found. h;
      waited = λ q query entry value k. h;
      died = λ q query entry value other k dying. h;
      restarted = λ q k. h;
      answered = λ q entry given k. h;
      voted = λ p entry verdicts k. h;
      shown = λ v entry txn k. h;
      lost_verdicts = λ v k. h;
      voted_again = λ p entry cast k. h;
      refused = λ p entry number value k. length-set s.settled p.txn.0 _ ∙ h;
      lost = λ p k. length-set s.settled p.txn.0 _ ∙ h;
      refused_again = λ p settled why k. h;
      settled = λ d k. length-set s.settled d.txn.0 _ ∙ h;
      acknowledged = λ d settled k. h;
      pushed = λ push k. h;
      resumed = λ effect grant q query entry value proof k r now. now;
      resumed_denied = λ effect grant q query entry value verdict k d now. now;
      resumed_outdated = λ effect grant q query entry value newer k found now. now;
    })

-- ---- steps

some_set : (coordinators : List (Part Coordinator)) (n : ℕ) (now : Option Coordinator) (log : List Record) → AwaitSome coordinators → IfSome now (λ (c : Coordinator). AwaitsSome c.phase) → AwaitSome (slice_set coordinators n (record { up = now; log = log }))
some_set coordinators n now log h k = at_set (λ (m : ℕ) (part : Part Coordinator). IfSome part.up (λ (c : Coordinator). AwaitsSome c.phase)) coordinators n (record { up = now; log = log }) h k

places_set : (sc : Scenario) (servers : List (Part Server)) (n : ℕ) (now : Option Server) (log : List Record) → HavePlaces sc servers → IfSome now (HasPlaces sc) → HavePlaces sc (slice_set servers n (record { up = now; log = log }))
places_set sc servers n now log h k = at_set (λ (m : ℕ) (part : Part Server). IfSome part.up (HasPlaces sc)) servers n (record { up = now; log = log }) h k

-- what actors of a state have
abbrev ActorsSteady : Scenario → List (Part Coordinator) → List (Part Server) → Type 0
ActorsSteady sc coordinators servers = AwaitSome coordinators × HavePlaces sc servers

steady_cases : (sc : Scenario) (w : State) → is_valid sc ≡ true → Holds sc w → Steady sc w → Cases sc w (λ taken move. ActorsSteady sc move.actors.coordinators move.actors.servers)
steady_cases sc w formed h steady =
    let same : ActorsSteady sc w.actors.coordinators w.actors.servers = (steady.awaits, steady.places) in
    record {
      idle = λ taken happened e. same;
      server_received = λ n mail at part s sent up. (
        steady.awaits,
        places_set sc w.actors.servers at.0 (Some (server_row sc s mail).state) (log_with part.log (server_row sc s mail).reaction.append) steady.places
            (server_keeps_places sc s mail (wait_rightly sc w h.sound h.pairs at part s up) (of_some (HasPlaces sc) part.up s up.up (steady.places at.0 part up.found))),
      );
      coordinator_received = λ n mail txn part c sent up. (
        some_set w.actors.coordinators txn.0 (Some (coord.coordinator_row sc c mail).state) (log_with part.log (coord.coordinator_row sc c mail).reaction.append) steady.awaits
            (coordinator_row_handles sc c mail (steady_of sc w txn part c formed h steady up)).some,
        steady.places,
      );
      authority_told = λ n mail sent. same;
      master_told = λ n mail sent. same;
      published = λ admin exists more. same;
      pushed = λ admin server exists there. same;
      ticked = λ by. same;
      revoked = λ cred exists. same;
      begun = λ txn part c exists up new. (
        some_set w.actors.coordinators txn.0 (Some (with_age (coord.submit_row sc c) (length w.steps)).state) (log_with part.log (with_age (coord.submit_row sc c) (length w.steps)).reaction.append) steady.awaits
            (begun_some sc c (length w.steps) (of_some (λ (k : Coordinator). AwaitsSome k.phase) part.up c up.up (steady.awaits txn.0 part up.found))),
        steady.places,
      );
      timed = λ txn part c exists up begun. same;
    }

steady_crashed : (sc : Scenario) (w : State) → Holds sc w → Steady sc w → CrashCases sc w (λ taken move. Steady sc (state_after w taken move))
steady_crashed sc w h steady =
    record {
      server_crashed = λ at part s cut append up left. record { awaits = steady.awaits; places = places_set sc w.actors.servers at.0 None (log_with part.log append) steady.places tt };
      server_booted = λ at part exists found down.
          let says = kept_law sc at part.log (records_of_scenario sc at part.log (h.sound.actors_are.servers at.0 part found).records) in
          let effect = boot_row sc at (kept sc at part.log) in
          record { awaits = steady.awaits; places = places_set sc w.actors.servers at.0 (Some effect.state) (log_with part.log effect.reaction.append) steady.places says.settled_places };
      coordinator_crashed = λ txn part c cut append exists up begun left. record { awaits = some_set w.actors.coordinators txn.0 None (log_with part.log append) steady.awaits tt; places = steady.places };
      coordinator_booted = λ txn part exists found down.
          let effect = coord_boot.boot_by sc txn (decided_in part.log) in
          record { awaits = some_set w.actors.coordinators txn.0 (Some effect.state) (log_with part.log effect.reaction.append) steady.awaits (booted_some sc txn (decided_in part.log)); places = steady.places };
    }

pub steady_next : (sc : Scenario) (m : Machine) (taken : Step) → is_valid sc ≡ true → IsStepOf sc taken → refusal m.state taken ≡ None → Holds sc m.state → Steady sc m.state → Steady sc (machine_after sc m taken).state
steady_next sc m taken formed exists allowed h steady =
    every_step_by sc m (Steady sc) (steady_crashed sc m.state h steady) h.agrees.server_count h.agrees.coordinator_count taken exists allowed
    (λ stays. machine_after_by sc m (λ done move. ActorsSteady sc move.actors.coordinators move.actors.servers) (Steady sc) (steady_cases sc m.state formed h steady) h.agrees.coordinator_count
    (λ done move t. record { awaits = t.0; places = t.1 }) taken exists stays allowed)

pub steady_opening : (sc : Scenario) → Steady sc (opening_state sc)
steady_opening sc =
    record {
      awaits = λ n part e. at_made (λ (k : ℕ) (found : Part Coordinator). IfSome found.up (λ (c : Coordinator). AwaitsSome c.phase)) (λ (k : ℕ). opened_part (idle sc (record { 0 = k }))) 0 (length sc.txns) (λ k within. tt) n part e;
      places = λ n part e. at_made (λ (k : ℕ) (found : Part Server). IfSome found.up (HasPlaces sc)) (λ (k : ℕ). opened_part (server_opened.opening sc (record { 0 = k }))) 0 (length sc.servers)
          (λ k within. length-replicate {A = Option Settled} (length sc.txns) None) n part e;
    }
