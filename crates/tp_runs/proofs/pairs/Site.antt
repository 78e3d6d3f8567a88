-- One transaction at one server, and the numbers of its queries there.
use Rattle.std.proofs.Common.{◌≡◌, ⊎_elim, ℕ, zero, suc, ◌+◌, ◌<◌, ◌≤◌, ◌==◌, List, [], ◌∷◌, ◌++◌, length, slice_get, Bool, true, false, Option, Some, None, Contains, refl, sym, ap, subst, ◌∙◌, arith}
use Rattle.std.specs.Option.{option_map_or}
use Rattle.std.proofs.lemmas.Bool.{cases_lt, eqb-true, false_from_ne_true, ne_eqb}
use Rattle.std.proofs.lemmas.List.Elements.{Contains-append_left, Contains-push, Contains-push_cases}
use Rattle.std.proofs.lemmas.Option.{slice_get_within}
use Rattle.tp_model.specs.Words.{Item, Query, Scenario, Transaction}
use Rattle.tp_model.specs.Queries.{is_at_server, item_of, query_at}
use Rattle.tp_types.proofs.EachLemmas.{missing}
use Rattle.tp_runs.proofs.basics.Found.{contains_none}
use Rattle.tp_runs.proofs.deeds.Runs.{query_after}

-- a transaction, and a server by its number
pub record Site : Type 0 where
  pub scenario : Scenario
  pub txn : Transaction
  pub at : ℕ

-- the transaction's query of this number is on an item of the server
abbrev pub here : Site → ℕ → Bool
here s number = option_map_or (is_at_server s.scenario s.at) (query_at s.txn number) false

-- how many queries the transaction has, at all servers
abbrev pub count : Site → ℕ
count s = length s.txn.queries

abbrev pub with_number : Bool → List ℕ → ℕ → List ℕ
with_number true numbers number = numbers ++ number ∷ []
with_number false numbers number = numbers

-- the numbers of the transaction's queries at the server up to one, in order
abbrev pub upto : Site → ℕ → List ℕ
upto s zero = []
upto s (suc before) = with_number (here s (suc before)) (upto s before) (suc before)

item_elsewhere : (found : Option Item) (at other : ℕ) → (at ≡ other → ⊥) → option_map_or (λ (item : Item). item.server.0 == at) found false ≡ true
    → option_map_or (λ (item : Item). item.server.0 == other) found false ≡ false
item_elsewhere None at other apart e = refl
item_elsewhere (Some item) at other apart e = let same = eqb-true item.server.0 at e in ne_eqb item.server.0 other (λ f. apart (omega (arith, same, f)))

found_elsewhere : (sc : Scenario) (found : Option Query) (at other : ℕ) → (at ≡ other → ⊥) → option_map_or (is_at_server sc at) found false ≡ true → option_map_or (is_at_server sc other) found false ≡ false
found_elsewhere sc None at other apart e = refl
found_elsewhere sc (Some query) at other apart e = item_elsewhere (slice_get sc.items (item_of query).0) at other apart e

-- a query is at one server alone
pub one_home : (sc : Scenario) (txn : Transaction) (at other number : ℕ) → (at ≡ other → ⊥) → here (record { scenario = sc; txn = txn; at = at }) number ≡ true
    → here (record { scenario = sc; txn = txn; at = other }) number ≡ false
one_home sc txn at other number apart e = found_elsewhere sc (query_at txn number) at other apart e

-- ---- one number more

-- the next query is at the server
pub upto_here : (s : Site) (before : ℕ) → here s (before + 1) ≡ true → upto s (before + 1) ≡ upto s before ++ (before + 1) ∷ []
upto_here s before e =
    let next : suc before ≡ before + 1 = omega arith in
    subst (λ (n : ℕ). here s n ≡ true → upto s n ≡ upto s before ++ n ∷ []) next (λ f. ap (λ (b : Bool). with_number b (upto s before) (suc before)) f) e

-- the next query is elsewhere
pub upto_elsewhere : (s : Site) (before : ℕ) → here s (before + 1) ≡ false → upto s (before + 1) ≡ upto s before
upto_elsewhere s before e =
    let next : suc before ≡ before + 1 = omega arith in
    subst (λ (n : ℕ). here s n ≡ false → upto s n ≡ upto s before) next (λ f. ap (λ (b : Bool). with_number b (upto s before) (suc before)) f) e

-- ---- what numbers there are

-- a number of a query at the server, and at most so
pub record IsUpto (s : Site) (last number : ℕ) : Type 0 where
  pub low : 1 ≤ number
  pub high : number ≤ last
  pub at : here s number ≡ true

upto_more : (s : Site) (last number : ℕ) → IsUpto s last number → IsUpto s (suc last) number
upto_more s last number h = record { low = h.low; high = omega (arith, h.high); at = h.at }

pushed : (s : Site) (last number : ℕ) (b : Bool) → here s (suc last) ≡ b → (Contains (upto s last) number → IsUpto s last number) → Contains (with_number b (upto s last) (suc last)) number → IsUpto s (suc last) number
pushed s last number false at before h = upto_more s last number (before h)
pushed s last number true at before h =
    ⊎_elim (λ (old : Contains (upto s last) number). upto_more s last number (before old))
    (λ (same : suc last ≡ number). record { low = omega (arith, same); high = omega (arith, same); at = subst (λ (n : ℕ). here s n ≡ true) same at })
    (Contains-push_cases (upto s last) (suc last) number h)

pub upto_in : (s : Site) (last number : ℕ) → Contains (upto s last) number → IsUpto s last number
upto_in s zero number h = absurd (contains_none number h)
upto_in s (suc last) number h = pushed s last number (here s (suc last)) refl (upto_in s last number) h

kept_in : (b : Bool) (numbers : List ℕ) (new number : ℕ) → Contains numbers number → Contains (with_number b numbers new) number
kept_in false numbers new number h = h
kept_in true numbers new number h = Contains-append_left numbers (new ∷ []) number h

new_in : (s : Site) (last number : ℕ) (b : Bool) → here s (suc last) ≡ b → number ≡ suc last → here s number ≡ true → Contains (with_number b (upto s last) (suc last)) number
new_in s last number true e same at = subst (Contains (upto s last ++ suc last ∷ [])) (sym same) (Contains-push (upto s last) (suc last))
new_in s last number false e same at = let f = ap (here s) same in absurd (cc)

pub in_upto : (s : Site) (last number : ℕ) → IsUpto s last number → Contains (upto s last) number
in_upto s zero number h = absurd (omega (arith, h.low, h.high))
in_upto s (suc last) number h =
    ⊎_elim (λ (less : number < suc last). kept_in (here s (suc last)) (upto s last) (suc last) number (in_upto s last number (record { low = h.low; high = omega (arith, less); at = h.at })))
    (λ (most : suc last ≤ number). new_in s last number (here s (suc last)) refl (omega (arith, most, h.high)) h.at)
    (cases_lt number (suc last))

-- where there is no number, there is no query
pub upto_none : (s : Site) (last number : ℕ) → upto s last ≡ [] → IsUpto s last number → ⊥
upto_none s last number e h = contains_none number (subst (λ (numbers : List ℕ). Contains numbers number) e (in_upto s last number h))

-- no query between two numbers is at the server
pub upto_same : (s : Site) (last more : ℕ) → last ≤ more → ((number : ℕ) → last < number → number ≤ more → here s number ≡ false) → upto s more ≡ upto s last
upto_same s last zero low none = let same : 0 ≡ last = omega arith in ap (upto s) same
upto_same s last (suc more) low none =
    ⊎_elim (λ (less : last < suc more). ap (λ (b : Bool). with_number b (upto s more) (suc more)) (none (suc more) less (omega arith)) ∙ upto_same s last more (omega (arith, less)) (λ number above below. none number above (omega (arith, below))))
    (λ (most : suc more ≤ last). let same : suc more ≡ last = omega (arith, most, low) in ap (upto s) same)
    (cases_lt last (suc more))

-- ---- queries that there are

found_within : (s : Site) (before : ℕ) (found : Option Query) → slice_get s.txn.queries before ≡ found → option_map_or (is_at_server s.scenario s.at) found false ≡ true → before < count s
found_within s before None e h = absurd (cc)
found_within s before (Some query) e h = slice_get_within s.txn.queries before query e

-- a query at the server is one of the transaction's
pub here_within : (s : Site) (number : ℕ) → here s number ≡ true → (1 ≤ number) × (number ≤ count s)
here_within s zero e = absurd (cc)
here_within s (suc before) e = let within = found_within s before (slice_get s.txn.queries before) refl e in (omega arith, omega (arith, within))

-- past the last query there is none
pub past_last : (s : Site) (number : ℕ) → count s < number → here s number ≡ false
past_last s number past = false_from_ne_true (here s number) (λ at. let within = here_within s number at in omega (arith, past, within.1))

-- a query that there is
pub query_there : (s : Site) (before : ℕ) → before < count s → (query : Query) × (query_at s.txn (before + 1) ≡ Some query)
query_there s before less = there (slice_get s.txn.queries before) refl
  where
    there : (found : Option Query) → slice_get s.txn.queries before ≡ found → (query : Query) × (query_at s.txn (before + 1) ≡ Some query)
    there None e = absurd (missing s.txn.queries before less e)
    there (Some query) e = (query, query_after s.txn before ∙ e)
