-- The last write of an item by a transaction whose queries all ran: no later query writes the item. So one that is
-- outside its item's range is one that may be refused. Where the transaction runs by itself, its value is that of its
-- query in the run. A server's share of deeds has the last writes of its items.
use Rattle.std.specs.List.{list_any}
use Rattle.std.specs.Option.{option_map_or, option_or}
use Rattle.std.proofs.Common.{Bool, List, None, Option, Some, [], ap, arith, cond, drop, false, find, if◌then◌else◌, length, not, option_map, refl, slice_get, slice_set, subst, suc, sym, true, ℕ, ℤ, ◌+◌, ◌==◌, ◌∙◌, ◌∷◌, ◌≡◌, ◌≤◌}
use Rattle.std.proofs.lemmas.Bool.{and_from, eq-eqb, eqb-true, ne_eqb, or_from}
use Rattle.std.proofs.lemmas.Option.{same_Some}
use Rattle.tp_types.specs.declared.scenario.Query.TheVariants.{Read, Write}
use Rattle.tp_model.specs.Causes.{has_refused_write, is_outside_range, is_refused_write, is_write_of}
use Rattle.tp_model.specs.Queries.{query_at}
use Rattle.tp_model.specs.SerialRun.{cleared_registers, deed_value, deeds_from, is_deed_of, number_at, run_value, serial_run, sum_in}
use Rattle.tp_model.specs.Words.action
use Rattle.tp_model.specs.Words.{Action, Deed, ItemId, OutOfRange, Query, Scenario, ServerId, Term, Transaction}
use Rattle.tp_types.proofs.EachLemmas.{not_kept}
use Rattle.tp_recover.proofs.LogLemmas.{first_none}
use Rattle.tp_runs.proofs.deeds.Commits.{IsItemAt}
use Rattle.tp_runs.proofs.deeds.Joined.{at_home, is_at, share_at}
use Rattle.tp_runs.proofs.deeds.Runs.{IsRun, RunsFrom, RunsSoFar}
use Rattle.tp_coord.specs.Sums.{registers_with}
use Rattle.tp_runs.proofs.deeds.Tentative.{kept_by_action, kept_one, last_kept}
use Rattle.tp_server.specs.Booted.{write_of}
use Rattle.tp_store.specs.declared.writes.TentativeWrite.{TentativeWrite}

-- ---- no later write

both_none : {A : Type 0} (x y : Option A) → option_or x y ≡ None → (x ≡ None) × (y ≡ None)
both_none None y e = (refl, e)
both_none (Some found) y e = absurd (cc)

-- the write of a query, as it is kept
abbrev one_write : ℕ → ItemId → ℤ → TentativeWrite
one_write number item value = record { query = number; item = item; value = value }

-- a write that ran is kept as such
wrote : (number : ℕ) (other item : ItemId) (expr : List Term) (registers : List ℤ) (deed : Deed) → IsRun number (Write other expr) registers deed
    → kept_one item deed ≡ (if other.0 == item.0 then Some (one_write number other deed.value) else None)
wrote number other item expr registers deed run = ap (kept_one item) run.deed_is

-- a read that ran is no write
read_none : (number : ℕ) (other item : ItemId) (into : ℕ) (registers : List ℤ) (deed : Deed) → IsRun number (Read other into) registers deed → kept_one item deed ≡ None
read_none number other item into registers deed run = ap (kept_one item) run.deed_is

-- queries whose deeds do not write the item
no_write : (number : ℕ) (queries : List Query) (registers : List ℤ) (deeds : List Deed) (item : ItemId) → RunsFrom number queries registers deeds → length deeds ≡ length queries → last_kept item deeds ≡ None
    → list_any (is_write_of item) queries ≡ false
no_write number [] registers deeds item h all e = refl
no_write number (query ∷ queries) registers [] item h all e = absurd (omega (arith, all))
no_write number (Read other into ∷ queries) registers (deed ∷ deeds) item h all e =
    no_write (number + 1) queries (registers_with (Read other into) deed.value registers) deeds item h.1 (omega (arith, all)) (both_none (last_kept item deeds) (kept_one item deed) e).0
no_write number (Write other expr ∷ queries) registers (deed ∷ deeds) item h all e =
    let none = both_none (last_kept item deeds) (kept_one item deed) e in
    or_from (other.0 == item.0) (list_any (is_write_of item) queries)
    (not_kept (one_write number other deed.value) (other.0 == item.0) (sym (wrote number other item expr registers deed h.0) ∙ none.1))
    (no_write (number + 1) queries (registers_with (Write other expr) deed.value registers) deeds item h.1 (omega (arith, all)) none.0)

-- the query of this number, where they count from a number on, writes the item, and no later one does
record IsLastWrite (number : ℕ) (queries : List Query) (item : ItemId) (asked : ℕ) : Type 0 where
  pub before : ℕ
  pub number_is : number + before ≡ asked
  pub expr : List Term
  pub query_is : slice_get queries before ≡ Some (Write item expr)
  pub unwritten : list_any (is_write_of item) (drop (suc before) queries) ≡ false

write_later : (number : ℕ) (first : Query) (queries : List Query) (item : ItemId) (asked : ℕ) → IsLastWrite (number + 1) queries item asked → IsLastWrite number (first ∷ queries) item asked
write_later number first queries item asked h =
    let number_is = h.number_is in record { before = suc h.before; number_is = omega (arith, number_is); expr = h.expr; query_is = h.query_is; unwritten = h.unwritten }

write_here : (number : ℕ) (expr : List Term) (queries : List Query) (other item : ItemId) (value : ℤ) (last : Option TentativeWrite) (w : TentativeWrite) (b : Bool) → (other.0 == item.0) ≡ b
    → (last ≡ None → list_any (is_write_of item) queries ≡ false) → ((x : TentativeWrite) → last ≡ Some x → IsLastWrite (number + 1) queries item x.query)
    → option_or last (if b then Some (one_write number other value) else None) ≡ Some w → IsLastWrite number (Write other expr ∷ queries) item w.query
write_here number expr queries other item value (Some x) w b test none later e =
    subst (λ (y : TentativeWrite). IsLastWrite number (Write other expr ∷ queries) item y.query) (same_Some x w e) (write_later number (Write other expr) queries item x.query (later x refl))
write_here number expr queries other item value None w false test none later e = absurd (cc)
write_here number expr queries other item value None w true test none later e =
    let is = same_Some (one_write number other value) w e in
    let number_is : number ≡ w.query = ap (λ (x : TentativeWrite). x.query) is in
    record {
      before = 0;
      number_is = omega (arith, number_is);
      expr = expr;
      query_is = ap (λ (n : ℕ). Some (Write (record { 0 = n }) expr)) (eqb-true other.0 item.0 test);
      unwritten = none refl;
    }

last_is_write : (number : ℕ) (queries : List Query) (registers : List ℤ) (deeds : List Deed) (item : ItemId) (w : TentativeWrite) → RunsFrom number queries registers deeds → length deeds ≡ length queries
    → last_kept item deeds ≡ Some w → IsLastWrite number queries item w.query
last_is_write number queries registers [] item w h all e = absurd (cc)
last_is_write number [] registers (deed ∷ deeds) item w h all e = absurd h
last_is_write number (Read other into ∷ queries) registers (deed ∷ deeds) item w h all e =
    write_later number (Read other into) queries item w.query
    (last_is_write (number + 1) queries (registers_with (Read other into) deed.value registers) deeds item w h.1 (omega (arith, all))
    (sym (first_none (last_kept item deeds)) ∙ (ap (option_or (last_kept item deeds)) (sym (read_none number other item into registers deed h.0)) ∙ e)))
last_is_write number (Write other expr ∷ queries) registers (deed ∷ deeds) item w h all e =
    let rest = registers_with (Write other expr) deed.value registers in
    write_here number expr queries other item deed.value (last_kept item deeds) w (other.0 == item.0) refl (no_write (number + 1) queries rest deeds item h.1 (omega (arith, all)))
    (λ x f. last_is_write (number + 1) queries rest deeds item x h.1 (omega (arith, all)) f) (ap (option_or (last_kept item deeds)) (sym (wrote number other item expr registers deed h.0)) ∙ e)

refused_here : (sc : Scenario) (at : ServerId) (value : ℤ) (later : List Query) (item : ItemId) (expr : List Term) (found : Option Query) → found ≡ Some (Write item expr)
    → list_any (is_write_of item) later ≡ false → option_map_or (is_outside_range at value) (slice_get sc.items item.0) false ≡ true
    → option_map_or (is_refused_write sc at value later) found false ≡ true
refused_here sc at value later item expr found is none outside =
    ap (λ (query : Option Query). option_map_or (is_refused_write sc at value later) query false) is
    ∙ and_from (not (list_any (is_write_of item) later)) (option_map_or (is_outside_range at value) (slice_get sc.items item.0) false) (ap not none) outside

-- the last write of an item, outside the item's range, is one that its server refuses
pub last_is_refused : (sc : Scenario) (declared : Transaction) (deeds : List Deed) (refused : OutOfRange) (item : ItemId) (write : TentativeWrite) → RunsSoFar declared deeds → length deeds ≡ length declared.queries
    → last_kept item deeds ≡ Some write → write.query ≡ refused.query → option_map_or (is_outside_range refused.server refused.value) (slice_get sc.items item.0) false ≡ true → has_refused_write sc declared refused ≡ true
last_is_refused sc declared deeds refused item write runs all e same outside =
    let last = last_is_write 1 declared.queries cleared_registers deeds item write runs all e in
    let number_is : suc last.before ≡ refused.query = omega (arith, last.number_is, same) in
    subst (λ (n : ℕ). option_map_or (is_refused_write sc refused.server refused.value (drop n declared.queries)) (query_at declared n) false ≡ true) number_is
    (refused_here sc refused.server refused.value (drop (suc last.before) declared.queries) item last.expr (slice_get declared.queries last.before) last.query_is last.unwritten outside)

-- ---- the value of a query

-- the deeds have the numbers from one on
abbrev AreFrom : ℕ → List Deed → Type 0
AreFrom number [] = Unit {0}
AreFrom number (deed ∷ deeds) = (deed.query ≡ number) × AreFrom (number + 1) deeds

numbers_from : (number : ℕ) (queries : List Query) (registers store : List ℤ) → AreFrom number (deeds_from number queries registers store)
numbers_from number [] registers store = tt
numbers_from number (Read item into ∷ queries) registers store = (refl, numbers_from (number + 1) queries (slice_set registers into (number_at store item.0)) store)
numbers_from number (Write item expr ∷ queries) registers store = (refl, numbers_from (number + 1) queries registers (slice_set store item.0 (sum_in registers expr)))

kept_if : (deed : Deed) (w : TentativeWrite) (b : Bool) → (if b then Some (write_of deed) else None) ≡ Some w → write_of deed ≡ w
kept_if deed w true e = same_Some (write_of deed) w e
kept_if deed w false e = absurd (cc)

kept_is : (a : Action) (item : ItemId) (deed : Deed) (w : TentativeWrite) → kept_by_action a item deed ≡ Some w → write_of deed ≡ w
kept_is action.Read item deed w e = absurd (cc)
kept_is action.Write item deed w e = kept_if deed w (deed.item.0 == item.0) e

-- the write is of a query from this number on, and its value is that of the deed that is found by its number
abbrev IsFound : ℕ → List Deed → TentativeWrite → Type 0
IsFound number deeds w = (number ≤ w.query) × (option_map deed_value (find (is_deed_of w.query) deeds) ≡ Some w.value)

found_first : (number : ℕ) (deed : Deed) (deeds : List Deed) → deed.query ≡ number → IsFound number (deed ∷ deeds) (write_of deed)
found_first number deed deeds is =
    (omega (arith, is), ap (λ (b : Bool). option_map deed_value (cond b (Some deed) (find (is_deed_of deed.query) deeds))) (eq-eqb deed.query deed.query refl))

found_later : (number : ℕ) (deed : Deed) (deeds : List Deed) (w : TentativeWrite) → deed.query ≡ number → IsFound (number + 1) deeds w → IsFound number (deed ∷ deeds) w
found_later number deed deeds w is h =
    let above = h.0 in
    let apart : (deed.query == w.query) ≡ false = ne_eqb deed.query w.query (λ same. omega (arith, is, above, same)) in
    (omega (arith, above), ap (λ (b : Bool). option_map deed_value (cond b (Some deed) (find (is_deed_of w.query) deeds))) apart ∙ h.1)

found_either : (number : ℕ) (deed : Deed) (deeds : List Deed) (last one : Option TentativeWrite) (w : TentativeWrite) → deed.query ≡ number
    → ((x : TentativeWrite) → last ≡ Some x → IsFound (number + 1) deeds x) → (one ≡ Some w → write_of deed ≡ w) → option_or last one ≡ Some w → IsFound number (deed ∷ deeds) w
found_either number deed deeds None one w is later here e = subst (IsFound number (deed ∷ deeds)) (here e) (found_first number deed deeds is)
found_either number deed deeds (Some x) one w is later here e = found_later number deed deeds w is (later w e)

last_is_found : (number : ℕ) (item : ItemId) (deeds : List Deed) (w : TentativeWrite) → AreFrom number deeds → last_kept item deeds ≡ Some w → IsFound number deeds w
last_is_found number item [] w h e = absurd (cc)
last_is_found number item (deed ∷ deeds) w h e =
    found_either number deed deeds (last_kept item deeds) (kept_one item deed) w h.0 (λ x f. last_is_found (number + 1) item deeds x h.1 f) (kept_is deed.action item deed w) e

-- the last write of an item has the value of its query in the run
pub last_is_run : (declared : Transaction) (store : List ℤ) (item : ItemId) (write : TentativeWrite) → last_kept item (serial_run declared store) ≡ Some write
    → run_value declared store write.query ≡ Some write.value
last_is_run declared store item write e =
    (last_is_found 1 item (serial_run declared store) write (numbers_from 1 declared.queries cleared_registers store) e).1

-- ---- a server's share

kept_elsewhere : (a : Action) (item : ItemId) (deed : Deed) → (deed.item.0 ≡ item.0 → ⊥) → kept_by_action a item deed ≡ None
kept_elsewhere action.Read item deed apart = refl
kept_elsewhere action.Write item deed apart = ap (λ (b : Bool). if b then Some (write_of deed) else None) (ne_eqb deed.item.0 item.0 apart)

share_kept : (item : ItemId) (deed : Deed) (deeds share : List Deed) (b : Bool) → last_kept item share ≡ last_kept item deeds → (b ≡ false → kept_one item deed ≡ None)
    → last_kept item (cond b (deed ∷ share) share) ≡ option_or (last_kept item deeds) (kept_one item deed)
share_kept item deed deeds share true same none = ap (λ (last : Option TentativeWrite). option_or last (kept_one item deed)) same
share_kept item deed deeds share false same none = same ∙ (sym (first_none (last_kept item deeds)) ∙ ap (option_or (last_kept item deeds)) (sym (none refl)))

is_own : (sc : Scenario) (at : ℕ) (item : ItemId) (deed : Deed) → IsItemAt sc at item.0 → deed.item.0 ≡ item.0 → is_at sc at deed ≡ true
is_own sc at item deed own same = at_home sc deed own.declared at (ap (slice_get sc.items) same ∙ own.declared_is) ∙ eq-eqb own.declared.server.0 at own.at_is

-- the server's share of deeds keeps the same last writes of its items as all deeds do
pub last_kept_share : (sc : Scenario) (at : ℕ) (item : ItemId) (deeds : List Deed) → IsItemAt sc at item.0 → last_kept item (share_at sc at deeds) ≡ last_kept item deeds
last_kept_share sc at item [] own = refl
last_kept_share sc at item (deed ∷ deeds) own =
    share_kept item deed deeds (share_at sc at deeds) (is_at sc at deed) (last_kept_share sc at item deeds own)
    (λ e. kept_elsewhere deed.action item deed (λ same. let here = is_own sc at item deed own same in cc))
