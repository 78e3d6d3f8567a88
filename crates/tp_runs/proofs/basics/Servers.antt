-- The servers of a transaction, and of the queries that a round is over: each has an item of these, and what holds of
-- all of the transaction's holds of each that has an item of it.
use Rattle.std.proofs.Common.{Bool, List, None, Option, Some, [], ap, arith, false, filter, length, refl, slice_get, subst, suc, sym, take, true, zero, ℕ, if◌then◌else◌, ◌+◌, ◌<◌, ◌==◌, ◌∙◌, ◌∷◌, ◌≡◌, ◌≤◌}
use Rattle.std.proofs.lemmas.Bool.{eqb-true}
use Rattle.std.proofs.lemmas.Bool.Decides.{nat_tests}
use Rattle.std.specs.List.{list_any}
use Rattle.std.specs.Option.{option_map_or}
use Rattle.tp_types.proofs.EachLemmas.{by_cond, each_filter}
use Rattle.tp_types.specs.Each.{Each}
use Rattle.tp_model.specs.Agreement.{has_item, has_item_at}
use Rattle.tp_model.specs.Queries.{is_at_server, servers_from, servers_of}
use Rattle.tp_model.specs.Words.{Query, Scenario, ServerId, Transaction, TxnId}
use Rattle.tp_coord.specs.Opened.{servers_at}
use Rattle.tp_coord.specs.Row.{has_query, servers_upto}
use Rattle.tp_coord.specs.State.{Coordinator}
use Rattle.tp_coord.specs.declared.coordinator.Span.{Span}
use Rattle.tp_coord.specs.declared.coordinator.Span.TheVariants as span
use Rattle.tp_machine.specs.Named.{IsServer}
use Rattle.tp_runs.proofs.basics.Phases.{only_spanned, spanned_any}

-- ---- the servers of a round

-- the servers of those of a transaction's queries that a round is over
abbrev pub servers_over : Scenario → TxnId → Span → List ServerId
servers_over sc txn over = option_map_or (λ (declared : Transaction). servers_of sc (only_spanned over declared)) (slice_get sc.txns txn.0) []

-- one of these queries is at the server
abbrev pub has_item_over : Scenario → TxnId → Span → ServerId → Bool
has_item_over sc txn over at = option_map_or (λ (declared : Transaction). has_item sc at (only_spanned over declared)) (slice_get sc.txns txn.0) false

-- a round at commit is over all of them, so of all of the transaction's servers
pub all_servers : (sc : Scenario) (txn : TxnId) → servers_over sc txn span.Commit ≡ servers_at sc txn
all_servers sc txn = refl

servers_have : (sc : Scenario) (declared : Transaction) (low left : ℕ) → Each (λ (at : ServerId). has_item sc at declared ≡ true) (servers_from sc declared.queries low left)
servers_have sc declared low zero = tt
servers_have sc declared low (suc left) =
    let later = servers_have sc declared (low + 1) left in
    by_cond (Each (λ (at : ServerId). has_item sc at declared ≡ true)) (list_any (is_at_server sc low) declared.queries) (λ here. (here, later)) (λ not_here. later)

-- at each of them is one of the queries that the round is over
pub servers_over_have : (sc : Scenario) (txn : TxnId) (over : Span) → Each (λ (at : ServerId). has_item_over sc txn over at ≡ true) (servers_over sc txn over)
servers_over_have sc txn over = found (slice_get sc.txns txn.0)
  where
    found : (declared : Option Transaction) → Each (λ (at : ServerId). option_map_or (λ (t : Transaction). has_item sc at (only_spanned over t)) declared false ≡ true) (option_map_or (λ (t : Transaction). servers_of sc (only_spanned over t)) declared [])
    found (Some declared) = servers_have sc (only_spanned over declared) 0 (length sc.servers)
    found None = tt

-- ---- the servers of the queries so far

-- one of these queries is at the server
abbrev has_one : Scenario → List Query → ServerId → Bool
has_one sc queries server = list_any (is_at_server sc server.0) queries

kept_where : (sc : Scenario) (some : List Query) (new : ServerId) (others left : List ServerId) (b : Bool) → has_one sc some new ≡ b → filter (has_one sc some) others ≡ left
    → filter (has_one sc some) (new ∷ others) ≡ (if b then new ∷ left else left)
kept_where sc some new others left true e later = ap (λ (t : Bool). if t then new ∷ filter (has_one sc some) others else filter (has_one sc some) others) e ∙ ap (λ (servers : List ServerId). new ∷ servers) later
kept_where sc some new others left false e later = ap (λ (t : Bool). if t then new ∷ filter (has_one sc some) others else filter (has_one sc some) others) e ∙ later

-- the next server by whether one of all the queries is at it, and one of fewer
kept_by_tests : (sc : Scenario) (some : List Query) (new : ServerId) (others left : List ServerId) (w b : Bool) → (b ≡ true → w ≡ true) → has_one sc some new ≡ b → filter (has_one sc some) others ≡ left
    → filter (has_one sc some) (if w then new ∷ others else others) ≡ (if b then new ∷ left else left)
kept_by_tests sc some new others left true b into e later = kept_where sc some new others left b e later
kept_by_tests sc some new others left false true into e later = absurd (let there = into refl in cc)
kept_by_tests sc some new others left false false into e later = later

-- of the servers of some queries, those of fewer of them
fewer_servers : (sc : Scenario) (some whole : List Query) → ((server : ℕ) → list_any (is_at_server sc server) some ≡ true → list_any (is_at_server sc server) whole ≡ true) → (low left : ℕ)
    → filter (has_one sc some) (servers_from sc whole low left) ≡ servers_from sc some low left
fewer_servers sc some whole into low zero = refl
fewer_servers sc some whole into low (suc left) =
    kept_by_tests sc some (record { 0 = low }) (servers_from sc whole (low + 1) left) (servers_from sc some (low + 1) left) (list_any (is_at_server sc low) whole) (list_any (is_at_server sc low) some) (into low) refl
    (fewer_servers sc some whole into (low + 1) left)

-- those of the transaction's servers that have one of the queries up to this one
pub servers_upto_are : (sc : Scenario) (c : Coordinator) (number : ℕ) → c.servers ≡ servers_at sc c.txn → servers_upto sc c number ≡ servers_over sc c.txn (span.Validate number)
servers_upto_are sc c number servers = found (slice_get sc.txns c.txn.0) refl
  where
    found : (declared : Option Transaction) → slice_get sc.txns c.txn.0 ≡ declared → option_map_or (λ (txn : Transaction). filter (has_query sc (take number txn.queries)) c.servers) declared []
        ≡ option_map_or (λ (txn : Transaction). servers_of sc (only_spanned (span.Validate number) txn)) declared []
    found None e = refl
    found (Some declared) e =
        ap (filter (has_query sc (take number declared.queries))) (servers ∙ ap (λ (d : Option Transaction). option_map_or (servers_of sc) d []) e)
        ∙ fewer_servers sc (take number declared.queries) declared.queries (λ server e. spanned_any (is_at_server sc server) (span.Validate number) declared.queries e) 0 (length sc.servers)

-- what holds of each of the transaction's servers holds of these
pub servers_upto_each : (sc : Scenario) (c : Coordinator) (number : ℕ) (P : ServerId → Type 0) → Each P c.servers → Each P (servers_upto sc c number)
servers_upto_each sc c number P h = found (slice_get sc.txns c.txn.0)
  where
    found : (declared : Option Transaction) → Each P (option_map_or (λ (txn : Transaction). filter (has_query sc (take number txn.queries)) c.servers) declared [])
    found None = tt
    found (Some declared) = each_filter P (has_query sc (take number declared.queries)) c.servers h

-- what passes a test is no more than there is
pub fewer_left : {A : Type 0} (test : A → Bool) (xs : List A) → length (filter test xs) ≤ length xs
fewer_left test [] = omega arith
fewer_left {A = A} test (x ∷ xs) =
    let later = fewer_left test xs in
    by_cond (λ (ys : List A). length ys ≤ length (x ∷ xs)) (test x) (λ y. omega (arith, later)) (λ n. omega (arith, later))

-- and they are no more
pub servers_upto_few : (sc : Scenario) (c : Coordinator) (number : ℕ) → length (servers_upto sc c number) ≤ length c.servers
servers_upto_few sc c number = found (slice_get sc.txns c.txn.0)
  where
    found : (declared : Option Transaction) → length (option_map_or (λ (txn : Transaction). filter (has_query sc (take number txn.queries)) c.servers) declared []) ≤ length c.servers
    found None = omega arith
    found (Some declared) = fewer_left (has_query sc (take number declared.queries)) c.servers

-- ---- all of them

split_cond : {A : Type 0} (P : A → Type 0) (b : Bool) (x : A) (xs : List A) → Each P (if b then x ∷ xs else xs) → Each P xs × (b ≡ true → P x)
split_cond P true x xs h = (h.1, λ e. h.0)
split_cond P false x xs h = (h, λ e. absurd (cc))

next_above : (low k : ℕ) → low ≤ k → (low == k) ≡ false → low + 1 ≤ k
next_above low k above apart = grind (arith, nat_tests)

among_next : (P : ServerId → Type 0) (test : ℕ → Bool) (low k : ℕ) (b : Bool) → (low == k) ≡ b → low ≤ k → test k ≡ true → (test low ≡ true → P (record { 0 = low })) → (low + 1 ≤ k → P (record { 0 = k }))
    → P (record { 0 = k })
among_next P test low k true same above here first later =
    let number : low ≡ k = eqb-true low k same in
    subst (λ (n : ℕ). P (record { 0 = n })) number (first (subst (λ (n : ℕ). test n ≡ true) (sym number) here))
among_next P test low k false apart above here first later = later (next_above low k above apart)

among_from : (P : ServerId → Type 0) (sc : Scenario) (queries : List Query) (low left k : ℕ) → low ≤ k → k < low + left → list_any (is_at_server sc k) queries ≡ true
    → Each P (servers_from sc queries low left) → P (record { 0 = k })
among_from P sc queries low zero k above below here h = absurd (omega (arith, above, below))
among_from P sc queries low (suc left) k above below here h =
    let parts = split_cond P (list_any (is_at_server sc low) queries) (record { 0 = low }) (servers_from sc queries (low + 1) left) h in
    among_next P (λ (n : ℕ). list_any (is_at_server sc n) queries) low k (low == k) refl above here parts.1 (λ next. among_from P sc queries (low + 1) left k next (omega (arith, below)) here parts.0)

-- what holds of all of a transaction's servers holds of one with an item of it
pub among_servers : (P : ServerId → Type 0) (sc : Scenario) (at : ServerId) (txn : TxnId) → IsServer sc at → has_item_at sc at txn ≡ true → Each P (servers_at sc txn) → P at
among_servers P sc at txn exists item h = among (slice_get sc.txns txn.0) item h
  where
    among : (declared : Option Transaction) → option_map_or (has_item sc at) declared false ≡ true → Each P (option_map_or (servers_of sc) declared []) → P at
    among (Some declared) e k = among_from P sc declared.queries 0 (length sc.servers) at.0 (omega arith) (omega (arith, exists)) e k
    among None e k = absurd (cc)
