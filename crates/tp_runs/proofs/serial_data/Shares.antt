-- A commit by its servers' shares: where it has no item it has no share, and what its servers tested leaves each item in its range.
use Rattle.std.specs.List.{list_any}
use Rattle.std.specs.Option.{option_map_or}
use Rattle.std.proofs.Common.{Bool, List, None, Option, Some, [], ap, arith, cond, false, length, refl, slice_get, suc, sym, true, zero, ℕ, ℤ, ⊎_elim, ◌<◌, ◌==◌, ◌∙◌, ◌∷◌, ◌≡◌}
use Rattle.std.proofs.lemmas.Bool.{eqb-true, false_from_ne_true, or_cases}
use Rattle.std.proofs.lemmas.Map.Keys.{any_passes_from_place}
use Rattle.tp_model.specs.Agreement.{has_item, has_item_at}
use Rattle.tp_model.specs.Limits.{is_between}
use Rattle.tp_model.specs.Queries.{is_at_server, item_of, query_at}
use Rattle.tp_model.specs.SerialRun.{with_deed}
use Rattle.tp_model.specs.Words.{Deed, Item, ItemId, Query, Scenario, ServerId, Transaction, TxnId}
use Rattle.tp_types.proofs.EachLemmas.{each_get}
use Rattle.tp_runs.proofs.ids.Valid.{IsValid, IsValidItem}
use Rattle.tp_runs.proofs.deeds.Commits.{IsItemAt, last_write_share}
use Rattle.tp_runs.proofs.deeds.Joined.{is_at, same_stored, share_at}
use Rattle.tp_runs.proofs.deeds.Ranges.{AreTested}
use Rattle.tp_runs.proofs.deeds.Reads.{ReadsFrom, read_as}
use Rattle.tp_runs.proofs.deeds.Runs.{IsDeedOf, RunsSoFar, runs_each}
use Rattle.tp_runs.proofs.deeds.Stores.{last_write}
use Rattle.tp_types.specs.Each.{Each}
use Rattle.tp_machine.specs.Named.{IsServer}

-- ---- the servers of a transaction

queried : (sc : Scenario) (at : ℕ) (declared : Transaction) (number : ℕ) (query : Query) → query_at declared number ≡ Some query → is_at_server sc at query ≡ true → has_item sc (record { 0 = at }) declared ≡ true
queried sc at declared zero query e t = absurd (cc)
queried sc at declared (suc before) query e t = any_passes_from_place (is_at_server sc at) declared.queries before query e t

deed_at_server : (sc : Scenario) (at : ℕ) (declared : Transaction) (deed : Deed) (h : IsDeedOf declared deed) → is_at sc at deed ≡ is_at_server sc at h.query
deed_at_server sc at declared deed h = ap (λ (item : ItemId). option_map_or (λ (i : Item). i.server.0 == at) (slice_get sc.items item.0) false) h.item_is

not_there : (sc : Scenario) (at : ℕ) (declared : Transaction) (deed : Deed) → IsDeedOf declared deed → has_item sc (record { 0 = at }) declared ≡ false → is_at sc at deed ≡ false
not_there sc at declared deed h none =
    deed_at_server sc at declared deed h
    ∙ false_from_ne_true (is_at_server sc at h.query) (λ here. let there = queried sc at declared deed.query h.query h.query_is here in let absent = none in cc)

none_there : (sc : Scenario) (at : ℕ) (declared : Transaction) (deeds : List Deed) → Each (IsDeedOf declared) deeds → has_item sc (record { 0 = at }) declared ≡ false → share_at sc at deeds ≡ []
none_there sc at declared [] h none = refl
none_there sc at declared (deed ∷ deeds) h none =
    ap (λ (b : Bool). cond b (deed ∷ share_at sc at deeds) (share_at sc at deeds)) (not_there sc at declared deed h.0 none) ∙ none_there sc at declared deeds h.1 none

-- at a server without an item of the transaction there is no share of its deeds
pub no_share : (sc : Scenario) (at : ℕ) (txn : TxnId) (declared : Transaction) (deeds : List Deed) → slice_get sc.txns txn.0 ≡ Some declared → RunsSoFar declared deeds → has_item_at sc (record { 0 = at }) txn ≡ false
    → share_at sc at deeds ≡ []
no_share sc at txn declared deeds found runs none =
    none_there sc at declared deeds (runs_each declared deeds runs) (sym (ap (λ (d : Option Transaction). option_map_or (has_item sc (record { 0 = at })) d false) found) ∙ none)

item_home_in_serial_data : (sc : Scenario) (at n : ℕ) (item : Option Item) → Each (IsValidItem sc) sc.items → slice_get sc.items n ≡ item → option_map_or (λ (i : Item). i.server.0 == at) item false ≡ true → at < length sc.servers
item_home_in_serial_data sc at n None valid found e = absurd (cc)
item_home_in_serial_data sc at n (Some item) valid found e =
    let exists : IsServer sc item.server = (each_get (IsValidItem sc) sc.items n item valid found).server in
    let same : item.server.0 ≡ at = eqb-true item.server.0 at e in
    omega (arith, exists, same)

queries_home : (sc : Scenario) (at : ℕ) (queries : List Query) → Each (IsValidItem sc) sc.items → list_any (is_at_server sc at) queries ≡ true → at < length sc.servers
queries_home sc at [] valid e = absurd (cc)
queries_home sc at (query ∷ queries) valid e =
    ⊎_elim (item_home_in_serial_data sc at (item_of query).0 (slice_get sc.items (item_of query).0) valid refl) (queries_home sc at queries valid)
    (or_cases (is_at_server sc at query) (list_any (is_at_server sc at) queries) e)

-- a server with an item of a transaction exists
pub server_there : (sc : Scenario) (at : ServerId) (txn : TxnId) → IsValid sc → has_item_at sc at txn ≡ true → IsServer sc at
server_there sc at txn valid e = there (slice_get sc.txns txn.0) e
  where
    there : (declared : Option Transaction) → option_map_or (has_item sc at) declared false ≡ true → IsServer sc at
    there None f = absurd (cc)
    there (Some declared) f = queries_home sc at.0 declared.queries valid.items f

-- ---- ranges

-- what each of the transaction's servers tested of its share leaves each item in its range
pub shares_tested : (sc : Scenario) (txn : TxnId) (declared : Transaction) (deeds : List Deed) → slice_get sc.txns txn.0 ≡ Some declared → RunsSoFar declared deeds
    → ((at : ℕ) → has_item_at sc (record { 0 = at }) txn ≡ true → AreTested sc (share_at sc at deeds)) → AreTested sc deeds
shares_tested sc txn declared deeds found runs tested = λ n item v there last.
    let own : IsItemAt sc item.server.0 n = record { declared = item; declared_is = there; at_is = refl } in
    let share : last_write n (share_at sc item.server.0 deeds) ≡ Some v = last_write_share sc item.server.0 n deeds own ∙ last in
    by_item n item v there share (has_item_at sc item.server txn) refl
  where
    by_item : (n : ℕ) (item : Item) (v : ℤ) → slice_get sc.items n ≡ Some item → last_write n (share_at sc item.server.0 deeds) ≡ Some v → (b : Bool) → has_item_at sc item.server txn ≡ b
        → is_between item.min item.max v ≡ true
    by_item n item v there share true e = tested item.server.0 e n item v there share
    by_item n item v there share false e =
        let none : last_write n (share_at sc item.server.0 deeds) ≡ None = ap (last_write n) (no_share sc item.server.0 txn declared deeds found runs e) in
        absurd (cc)

-- ---- reads

kept_at : (sc : Scenario) (at : ℕ) (deed : Deed) (share : List Deed) (b : Bool) → is_at sc at deed ≡ b → Each (λ (d : Deed). is_at sc at d ≡ true) share → Each (λ (d : Deed). is_at sc at d ≡ true) (cond b (deed ∷ share) share)
kept_at sc at deed share true e later = (e, later)
kept_at sc at deed share false e later = later

at_all : (sc : Scenario) (at : ℕ) (deeds : List Deed) → Each (λ (deed : Deed). is_at sc at deed ≡ true) (share_at sc at deeds)
at_all sc at [] = tt
at_all sc at (deed ∷ deeds) = kept_at sc at deed (share_at sc at deeds) (is_at sc at deed) refl (at_all sc at deeds)

same_item : (sc : Scenario) (at : ℕ) (xs ys : List ℤ) (deed : Deed) (found : Option Item) → ((n : ℕ) (item : Item) → slice_get sc.items n ≡ Some item → item.server.0 ≡ at → slice_get xs n ≡ slice_get ys n)
    → slice_get sc.items deed.item.0 ≡ found → option_map_or (λ (i : Item). i.server.0 == at) found false ≡ true → slice_get xs deed.item.0 ≡ slice_get ys deed.item.0
same_item sc at xs ys deed None same e here = absurd (cc)
same_item sc at xs ys deed (Some item) same e here = same deed.item.0 item e (eqb-true item.server.0 at here)

reads_same : (sc : Scenario) (at : ℕ) (xs ys : List ℤ) (deeds : List Deed) → Each (λ (deed : Deed). is_at sc at deed ≡ true) deeds
    → ((n : ℕ) (item : Item) → slice_get sc.items n ≡ Some item → item.server.0 ≡ at → slice_get xs n ≡ slice_get ys n) → ReadsFrom xs deeds → ReadsFrom ys deeds
reads_same sc at xs ys [] here same h = tt
reads_same sc at xs ys (deed ∷ deeds) here same h = (
  read_as deed.action xs ys deed (same_item sc at xs ys deed (slice_get sc.items deed.item.0) same refl here.0) h.0,
  reads_same sc at (with_deed xs deed) (with_deed ys deed) deeds here.1 (λ n item found home. same_stored deed.action xs ys deed n (same n item found home)) h.1,
)

-- what a server's share reads of its values, it reads of a store that has the same at the server's items
pub share_reads : (sc : Scenario) (at : ℕ) (xs ys : List ℤ) (deeds : List Deed) → ((n : ℕ) (item : Item) → slice_get sc.items n ≡ Some item → item.server.0 ≡ at → slice_get xs n ≡ slice_get ys n)
    → ReadsFrom xs (share_at sc at deeds) → ReadsFrom ys (share_at sc at deeds)
share_reads sc at xs ys deeds same h = reads_same sc at xs ys (share_at sc at deeds) (at_all sc at deeds) same h
