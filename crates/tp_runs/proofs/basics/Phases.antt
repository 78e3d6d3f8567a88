-- What a coordinator's phase tells: whether it has decided, which queries ran before it, whether any is still to run, where the
-- coordinator stands, and how many requests it has made at most.
use Rattle.std.specs.List.{list_any}
use Rattle.std.specs.Option.{option_map_or}
use Rattle.std.proofs.Common.{Bool, List, None, Option, Some, [], ap, arith, false, length, not, option_and_then, option_map, refl, slice_get, subst, suc, sym, take, true, zero, ℕ, ◌*◌, ◌+◌, ◌-◌, ◌==◌, ◌||◌, ◌∙◌, ◌∷◌, ◌≡◌, ◌<◌, ◌≤◌}
use Rattle.std.proofs.lemmas.Bool.{and_parts, eqb-true}
use Rattle.std.proofs.lemmas.List.Folds.{list_any_more}
use Rattle.std.proofs.lemmas.Option.{get_or_from_slice_get, same_Some, slice_get_within}
use Rattle.tp_model.specs.Agreement.{has_item, has_item_at}
use Rattle.tp_model.specs.Queries.{is_at_server, item_of, query_at}
use Rattle.tp_model.specs.Words.{DoneReply, Item, Query, Scenario, ServerId, Staple, Transaction, TxnId}
use Rattle.tp_runs.specs.Sound.{query_in}
use Rattle.tp_coord.specs.Row.{awaits_query, server_of}
use Rattle.tp_coord.specs.State.{Coordinator}
use Rattle.tp_coord.specs.declared.coordinator.Phase.TheVariants as phase
use Rattle.tp_coord.specs.declared.coordinator.Phase.{Phase}
use Rattle.tp_coord.specs.declared.coordinator.Span.TheVariants as span
use Rattle.tp_coord.specs.declared.coordinator.Span.{Span}

-- a coordinator that is not ending has not decided
abbrev pub is_undecided : Phase → Bool
is_undecided (phase.Ending ended awaited) = false
is_undecided _ = true

-- the transaction runs: it was submitted, and is not decided
abbrev pub is_running : Phase → Bool
is_running phase.Idle = false
is_running (phase.Ending ended awaited) = false
is_running _ = true

-- so it is not decided
pub running_undecided : (awaited : Phase) → is_running awaited ≡ true → is_undecided awaited ≡ true
running_undecided phase.Idle e = absurd (cc)
running_undecided (phase.Ending ended awaited) e = absurd (cc)
running_undecided _ e = refl

-- a round at commit is over all queries
abbrev pub is_at_commit : Span → Bool
is_at_commit (span.Validate number) = false
is_at_commit span.Commit = true

-- all queries ran, and their servers are asked to prepare
abbrev pub is_late : Phase → Bool
is_late (phase.Asking over round) = is_at_commit over
is_late (phase.Checking over round staple) = is_at_commit over
is_late (phase.Reading over round) = is_at_commit over
is_late (phase.Voting awaited) = true
is_late phase.VoteProbing = true
is_late _ = false

-- of a transaction's queries, those that a round is over
abbrev pub spanned : Span → List Query → List Query
spanned (span.Validate number) queries = take number queries
spanned span.Commit queries = queries

-- the transaction, of the queries alone that a round is over
abbrev pub only_spanned : Span → Transaction → Transaction
only_spanned over declared = record declared { queries = spanned over declared.queries }

-- the number of the last query that a round is over
abbrev pub last_spanned : Span → Transaction → ℕ
last_spanned over declared = length (spanned over declared.queries)

-- of a transaction's queries, those that ran before the phase of a coordinator that has not decided
abbrev pub ran_before : Phase → List Query → List Query
ran_before phase.Idle queries = []
ran_before (phase.Stapling number) queries = take (number - 1) queries
ran_before (phase.Querying number staple) queries = take (number - 1) queries
ran_before (phase.Probing number) queries = take number queries
ran_before (phase.Asking over round) queries = spanned over queries
ran_before (phase.Checking over round staple) queries = spanned over queries
ran_before (phase.Reading over round) queries = spanned over queries
ran_before (phase.Voting awaited) queries = queries
ran_before phase.VoteProbing queries = queries
ran_before (phase.Ending ended awaited) queries = queries

abbrev pub queries_of : Scenario → TxnId → List Query
queries_of sc txn = option_map_or (λ (declared : Transaction). declared.queries) (slice_get sc.txns txn.0) []

-- a query of the transaction ran at the server before the phase
abbrev pub has_run_at : Scenario → TxnId → Phase → ServerId → Bool
has_run_at sc txn awaited at = list_any (is_at_server sc at.0) (ran_before awaited (queries_of sc txn))

-- no query of the transaction before this number is at the server
abbrev pub is_first_at : Scenario → ServerId → TxnId → ℕ → Bool
is_first_at sc at txn number = not (list_any (is_at_server sc at.0) (take (number - 1) (queries_of sc txn)))

-- ---- where the coordinator stands

-- it awaits the answer to a query; it is between two queries of a transaction that is not decided; all queries have run, and it brings
-- the servers to vote; or it has not begun, or has decided
pub data Stand : Type 0 where
  Asks : Stand
  Pauses : Stand
  Prepares : Stand
  Rests : Stand

-- a round over the queries so far asks no server to prepare
abbrev pub stand_over : Span → Stand
stand_over (span.Validate number) = Pauses
stand_over span.Commit = Prepares

abbrev pub stand_of : Phase → Stand
stand_of phase.Idle = Rests
stand_of (phase.Stapling number) = Pauses
stand_of (phase.Querying number staple) = Asks
stand_of (phase.Probing number) = Pauses
stand_of (phase.Asking over round) = stand_over over
stand_of (phase.Checking over round staple) = stand_over over
stand_of (phase.Reading over round) = stand_over over
stand_of (phase.Voting awaited) = Prepares
stand_of phase.VoteProbing = Prepares
stand_of (phase.Ending ended awaited) = Rests

-- ---- requests

-- the most requests before a query: each query before it takes at most three, and then three for each of at most 17 rounds
abbrev pub before_query : ℕ → ℕ
before_query number = (number - 1) * 54

-- the most requests until this one of three in a round at commit, of a transaction with so many queries
abbrev pub until_round : ℕ → ℕ → ℕ → ℕ
until_round count number asked = count * 54 + (number - 1) * 3 + asked

-- and in a round over the queries up to this one, which took two requests at most
abbrev pub until_validation : ℕ → ℕ → ℕ → ℕ
until_validation query number asked = before_query query + 2 + (number - 1) * 3 + asked

abbrev pub until_asked : ℕ → Span → ℕ → ℕ → ℕ
until_asked count (span.Validate query) number asked = until_validation query number asked
until_asked count span.Commit number asked = until_round count number asked

-- the most requests that a coordinator has made in its phase
abbrev pub ceiling_in : ℕ → Phase → ℕ
ceiling_in count phase.Idle = 0
ceiling_in count (phase.Stapling number) = before_query number + 1
ceiling_in count (phase.Querying number staple) = before_query number + 2
ceiling_in count (phase.Probing number) = before_query number + 3
ceiling_in count (phase.Asking over round) = until_asked count over round.number 1
ceiling_in count (phase.Checking over round staple) = until_asked count over round.number 2
ceiling_in count (phase.Reading over round) = until_asked count over round.number 3
ceiling_in count (phase.Voting awaited) = until_round count 1 1
ceiling_in count phase.VoteProbing = until_round count 1 2
ceiling_in count (phase.Ending ended awaited) = until_round count 17 3

-- ---- laws

-- the query that is awaited is the one that the answer says, and was asked with some staple or none
pub awaits_is : (c : Coordinator) (awaited : Phase) (done : DoneReply) → awaits_query c awaited done ≡ true → (staple : Option Staple) × (awaited ≡ phase.Querying done.query staple)
awaits_is c (phase.Querying number staple) done e = (staple, ap (λ (n : ℕ). phase.Querying n staple) (sym (eqb-true done.query number (and_parts (done.turn == c.turn) (done.query == number) e).1)))
awaits_is c phase.Idle done e = absurd (cc)
awaits_is c (phase.Stapling number) done e = absurd (cc)
awaits_is c (phase.Probing number) done e = absurd (cc)
awaits_is c (phase.Asking over round) done e = absurd (cc)
awaits_is c (phase.Checking over round staple) done e = absurd (cc)
awaits_is c (phase.Reading over round) done e = absurd (cc)
awaits_is c (phase.Voting awaited) done e = absurd (cc)
awaits_is c phase.VoteProbing done e = absurd (cc)
awaits_is c (phase.Ending ended servers) done e = absurd (cc)

any_declared : (sc : Scenario) (at : ServerId) (found : Option Transaction)
    → list_any (is_at_server sc at.0) (option_map_or (λ (declared : Transaction). declared.queries) found []) ≡ option_map_or (has_item sc at) found false
any_declared sc at None = refl
any_declared sc at (Some declared) = refl

-- once it is late, a query ran at each of the transaction's servers
pub late_has_run : (sc : Scenario) (txn : TxnId) (awaited : Phase) (at : ServerId) → is_late awaited ≡ true → has_run_at sc txn awaited at ≡ has_item_at sc at txn
late_has_run sc txn (phase.Asking span.Commit round) at e = any_declared sc at (slice_get sc.txns txn.0)
late_has_run sc txn (phase.Checking span.Commit round staple) at e = any_declared sc at (slice_get sc.txns txn.0)
late_has_run sc txn (phase.Reading span.Commit round) at e = any_declared sc at (slice_get sc.txns txn.0)
late_has_run sc txn (phase.Voting awaited) at e = any_declared sc at (slice_get sc.txns txn.0)
late_has_run sc txn phase.VoteProbing at e = any_declared sc at (slice_get sc.txns txn.0)
late_has_run sc txn (phase.Asking (span.Validate number) round) at e = absurd (cc)
late_has_run sc txn (phase.Checking (span.Validate number) round staple) at e = absurd (cc)
late_has_run sc txn (phase.Reading (span.Validate number) round) at e = absurd (cc)
late_has_run sc txn phase.Idle at e = absurd (cc)
late_has_run sc txn (phase.Stapling number) at e = absurd (cc)
late_has_run sc txn (phase.Probing number) at e = absurd (cc)
late_has_run sc txn (phase.Querying number staple) at e = absurd (cc)
late_has_run sc txn (phase.Ending ended awaited) at e = absurd (cc)

-- a query is at the server to which it is sent, and at no other
pub sent_to_server : (sc : Scenario) (asked : Query) (at : ServerId) (n : ℕ) → server_of sc asked ≡ Some at → is_at_server sc n asked ≡ (at.0 == n)
sent_to_server sc asked at n e = of_item (slice_get sc.items (item_of asked).0) e
  where
    of_item : (item : Option Item) → option_map (λ (i : Item). i.server) item ≡ Some at → option_map_or (λ (i : Item). i.server.0 == n) item false ≡ (at.0 == n)
    of_item None f = absurd (cc)
    of_item (Some item) f = let same : item.server ≡ at = same_Some item.server at f in ap (λ (s : ServerId). s.0 == n) same

take_all : (queries : List Query) (n : ℕ) → slice_get queries n ≡ None → take n queries ≡ queries
take_all [] zero e = refl
take_all [] (suc n) e = refl
take_all (first ∷ queries) zero e = absurd (cc)
take_all (first ∷ queries) (suc n) e = ap (λ (qs : List Query). first ∷ qs) (take_all queries n e)

-- ---- queries that a round is over

take_get : (queries : List Query) (number k : ℕ) → k < length (take number queries) → slice_get (take number queries) k ≡ slice_get queries k
take_get [] zero k low = absurd (omega (arith, low))
take_get [] (suc number) k low = absurd (omega (arith, low))
take_get (first ∷ queries) zero k low = absurd (omega (arith, low))
take_get (first ∷ queries) (suc number) zero low = refl
take_get (first ∷ queries) (suc number) (suc k) low = take_get queries number k (omega (arith, low))

-- each of them stands where it stands among all
pub spanned_get : (over : Span) (queries : List Query) (k : ℕ) → k < length (spanned over queries) → slice_get (spanned over queries) k ≡ slice_get queries k
spanned_get (span.Validate number) queries k low = take_get queries number k low
spanned_get span.Commit queries k low = refl

take_short : (queries : List Query) (number : ℕ) → length (take number queries) ≤ length queries
take_short [] zero = omega arith
take_short [] (suc number) = omega arith
take_short (first ∷ queries) zero = omega arith
take_short (first ∷ queries) (suc number) = omega (arith, take_short queries number)

-- there are no more of them than of all
pub spanned_short : (over : Span) (queries : List Query) → length (spanned over queries) ≤ length queries
spanned_short (span.Validate number) queries = take_short queries number
spanned_short span.Commit queries = omega arith

take_any : (test : Query → Bool) (queries : List Query) (number : ℕ) → list_any test (take number queries) ≡ true → list_any test queries ≡ true
take_any test [] zero e = absurd (cc)
take_any test [] (suc number) e = absurd (cc)
take_any test (first ∷ queries) zero e = absurd (cc)
take_any test (first ∷ queries) (suc number) e = by_first (test first) e (take_any test queries number)
  where
    by_first : (b : Bool) → (b || list_any test (take number queries)) ≡ true → (list_any test (take number queries) ≡ true → list_any test queries ≡ true) → (b || list_any test queries) ≡ true
    by_first true some later = refl
    by_first false some later = later some

-- what one of them passes one of all passes
pub spanned_any : (test : Query → Bool) (over : Span) (queries : List Query) → list_any test (spanned over queries) ≡ true → list_any test queries ≡ true
spanned_any test (span.Validate number) queries e = take_any test queries number e
spanned_any test span.Commit queries e = e

-- ---- queries that ran

-- among the queries up to one are those before it and itself
pub next_ran : (sc : Scenario) (txn : TxnId) (number : ℕ) (asked : Query) (test : Query → Bool) → query_in sc txn number ≡ Some asked
    → list_any test (take number (queries_of sc txn)) ≡ (list_any test (take (number - 1) (queries_of sc txn)) || test asked)
next_ran sc txn number asked test e = declared_next (slice_get sc.txns txn.0) number e
  where
    declared_next : (found : Option Transaction) (k : ℕ) → option_and_then (λ (declared : Transaction). query_at declared k) found ≡ Some asked
        → list_any test (take k (option_map_or (λ (declared : Transaction). declared.queries) found [])) ≡ (list_any test (take (k - 1) (option_map_or (λ (declared : Transaction). declared.queries) found [])) || test asked)
    declared_next None k f = absurd (cc)
    declared_next (Some declared) zero f = absurd (cc)
    declared_next (Some declared) (suc n) f =
        let queries = declared.queries in
        let one_more : suc n ≡ n + 1 = omega arith in
        let before : n ≡ suc n - 1 = omega arith in
        ap (λ (k : ℕ). list_any test (take k queries)) one_more
        ∙ (list_any_more test queries n asked (slice_get_within queries n asked f)
        ∙ (ap (λ (q : Query). list_any test (take n queries) || test q) (get_or_from_slice_get queries n asked asked f)
        ∙ ap (λ (k : ℕ). list_any test (take k queries) || test asked) before))

-- those up to the last one are all
pub all_ran : (sc : Scenario) (txn : TxnId) (number : ℕ) → query_in sc txn (number + 1) ≡ None → take number (queries_of sc txn) ≡ queries_of sc txn
all_ran sc txn number e = declared_all (slice_get sc.txns txn.0) (subst (λ (k : ℕ). query_in sc txn k ≡ None) next e)
  where
    next : number + 1 ≡ suc number
    next = omega arith

    declared_all : (found : Option Transaction) → option_and_then (λ (declared : Transaction). query_at declared (suc number)) found ≡ None
        → take number (option_map_or (λ (declared : Transaction). declared.queries) found []) ≡ option_map_or (λ (declared : Transaction). declared.queries) found []
    declared_all None f = take_all [] number refl
    declared_all (Some declared) f = take_all declared.queries number f
