-- The four cases of a request, and that a request keeps the lists orderly.
use Rattle.std.proofs.Common.{◌≡◌, ℕ, Bool, true, false, not, ◌&&◌, ◌||◌, cond, List, [], ◌∷◌, Option, Some, None, get_or, inl, inr, length, refl, ap, sym, ◌∙◌, arith}
use Rattle.std.proofs.lemmas.Bool.{and_parts, cases_lt, or_parts}
use Rattle.std.proofs.lemmas.Bool.Decides.{nat_tests}
use Rattle.std.proofs.lemmas.List.{get_or_past}
use Rattle.std.proofs.lemmas.List.Elements.{All-replicate, All-set}
use Rattle.std.specs.List.{All, find, list_any}
use Rattle.tp_types.specs.declared.ids.ItemId.{ItemId}
use Rattle.tp_types.specs.declared.ids.TxnId.{TxnId}
use Rattle.tp_types.specs.declared.policy.Action.{Action}
use Rattle.tp_lock.specs.declared.entry.Asked.TheVariants.{Granted, Dies}
use Rattle.tp_lock.specs.declared.entry.LockEntry.{LockEntry}
use Rattle.tp_lock.specs.Laws.{AgesAreOrdered, NobodyIsOlderThanItself, OlderThanTheOlder, Gives, IsAnswered}
use Rattle.tp_lock.specs.Order.{AreOrderly, IsOrderly, IsRight, WaitsForYounger, all_let_wait, is_younger, lets_wait}
use Rattle.tp_lock.specs.Rule.{after_request, conflicts, is_elder, is_of_other, is_older, is_write, lock_of, opening, serves, waits_or_dies, with_answer, with_lock}
use Rattle.tp_lock.specs.Table.{Table}
use Rattle.tp_lock.proofs.OrderLemmas.{each_push}

pub ages_are_ordered : AgesAreOrdered
ages_are_ordered owner age entry other = grind (arith, nat_tests)

pub nobody_is_older_than_itself : NobodyIsOlderThanItself
nobody_is_older_than_itself entry e = grind (arith, nat_tests)

pub older_than_the_older : OlderThanTheOlder
older_than_the_older first second third e f = grind (arith, nat_tests)

-- an entry that conflicts is younger where it is not older
younger_where : (owner : TxnId) (age : ℕ) (mode : Action) (entry : LockEntry) → conflicts owner mode entry ≡ true
    → is_younger owner age entry ≡ not (is_older owner age entry)
younger_where owner age mode entry conflict =
    ages_are_ordered owner age entry (and_parts (is_of_other owner entry) (is_write mode || is_write entry.mode) conflict).0

lets_where : (conflict older younger : Bool) → (conflict ≡ true → younger ≡ not older) → (conflict && older) ≡ false → (not conflict || younger) ≡ true
lets_where true older younger is none = is refl ∙ ap not none
lets_where false older younger is none = refl

none_where : (conflict older younger : Bool) → (conflict ≡ true → younger ≡ not older) → (not conflict || younger) ≡ true → (conflict && older) ≡ false
none_where true true younger is lets = let not_so : younger ≡ false = is refl in cc
none_where true false younger is lets = refl
none_where false older younger is lets = refl

found_none : (entry : LockEntry) (rest : Option LockEntry) (b : Bool) → cond b (Some entry) rest ≡ None → (b ≡ false) × (rest ≡ None)
found_none entry rest true e = (cc, cc)
found_none entry rest false e = (refl, e)

pub none_elder : (owner : TxnId) (age : ℕ) (mode : Action) (entries : List LockEntry)
    → find (is_elder owner age mode) entries ≡ None → all_let_wait owner age mode entries ≡ true
none_elder owner age mode [] none = refl
none_elder owner age mode (entry ∷ entries) none =
    let parts = found_none entry (find (is_elder owner age mode) entries) (is_elder owner age mode entry) none in
    let lets : lets_wait owner age mode entry ≡ true =
    lets_where (conflicts owner mode entry) (is_older owner age entry) (is_younger owner age entry) (younger_where owner age mode entry) parts.0 in
    ap (λ b. b && all_let_wait owner age mode entries) lets ∙ none_elder owner age mode entries parts.1

pub all_younger : (owner : TxnId) (age : ℕ) (mode : Action) (entries : List LockEntry)
    → all_let_wait owner age mode entries ≡ true → find (is_elder owner age mode) entries ≡ None
all_younger owner age mode [] all = refl
all_younger owner age mode (entry ∷ entries) all =
    let parts = and_parts (lets_wait owner age mode entry) (all_let_wait owner age mode entries) all in
    let none : is_elder owner age mode entry ≡ false =
    none_where (conflicts owner mode entry) (is_older owner age entry) (is_younger owner age entry) (younger_where owner age mode entry) parts.0 in
    ap (λ b. cond b (Some entry) (find (is_elder owner age mode) entries)) none ∙ all_younger owner age mode entries parts.1

-- where no entry conflicts all let wait
all_free : (owner : TxnId) (age : ℕ) (mode : Action) (entries : List LockEntry) → list_any (conflicts owner mode) entries ≡ false → all_let_wait owner age mode entries ≡ true
all_free owner age mode [] none = refl
all_free owner age mode (entry ∷ entries) none =
    let parts = or_parts (conflicts owner mode entry) (list_any (conflicts owner mode) entries) none in
    ap (λ b. (not b || is_younger owner age entry) && all_let_wait owner age mode entries) parts.0 ∙ all_free owner age mode entries parts.1

conflict_where : (owner : TxnId) (age : ℕ) (mode : Action) (entries : List LockEntry) (conflict : Bool) → list_any (conflicts owner mode) entries ≡ conflict
    → all_let_wait owner age mode entries ≡ false → conflict ≡ true
conflict_where owner age mode entries true e not_all = refl
conflict_where owner age mode entries false e not_all = let all = all_free owner age mode entries e in cc

elder_where : (owner : TxnId) (age : ℕ) (mode : Action) (entries : List LockEntry) (elder : Option LockEntry) → find (is_elder owner age mode) entries ≡ elder
    → all_let_wait owner age mode entries ≡ false → (named : LockEntry) × (find (is_elder owner age mode) entries ≡ Some named)
elder_where owner age mode entries None e not_all = let all = none_elder owner age mode entries e in (cc)
elder_where owner age mode entries (Some named) e not_all = (named, e)

-- ---- the four cases

dies_by : (owner : TxnId) (age : ℕ) (mode : Action) (entries : List LockEntry) (elder : LockEntry) → list_any (serves owner mode) entries ≡ false
    → list_any (conflicts owner mode) entries ≡ true → find (is_elder owner age mode) entries ≡ Some elder → Gives owner age mode entries (Dies elder.owner) entries
dies_by owner age mode entries elder s c e = record { answered = rw (s, c, e) refl; leaves = rw (s, c, e) refl }

pub is_answered : (owner : TxnId) (age : ℕ) (mode : Action) (entries : List LockEntry) → IsAnswered owner age mode entries
is_answered owner age mode entries = record {
  served = λ s. record { answered = rw s refl; leaves = rw s refl };
  free = λ s c. record { answered = rw (s, c) refl; leaves = rw (s, c) refl };
  waits = λ s c all. let none : find (is_elder owner age mode) entries ≡ None = all_younger owner age mode entries all in
      record { answered = rw (s, c, none) refl; leaves = rw (s, c, none) refl };
  dies = λ s not_all.
      let c : list_any (conflicts owner mode) entries ≡ true = conflict_where owner age mode entries (list_any (conflicts owner mode) entries) refl not_all in
      let elder = elder_where owner age mode entries (find (is_elder owner age mode) entries) refl not_all in
      (elder.0, elder.1, dies_by owner age mode entries elder.0 s c elder.1);
}

-- ---- order

orderly_where : (owner : TxnId) (age : ℕ) (mode : Action) (entries : List LockEntry) (served conflict : Bool) (elder : Option LockEntry)
    → list_any (conflicts owner mode) entries ≡ conflict → find (is_elder owner age mode) entries ≡ elder → IsOrderly entries
    → IsOrderly (cond served entries (with_answer owner age mode (cond conflict (waits_or_dies elder) Granted) entries))
orderly_where owner age mode entries true conflict elder c e order = order
orderly_where owner age mode entries false false elder c e order = record {
  right = each_push IsRight [] entries (lock_of owner age mode true) order.right (sym (ap not c));
  younger = each_push WaitsForYounger [] entries (lock_of owner age mode true) order.younger (λ waiting. cc);
}
orderly_where owner age mode entries false true None c e order = record {
  right = each_push IsRight [] entries (lock_of owner age mode false) order.right (sym (ap not c));
  younger = each_push WaitsForYounger [] entries (lock_of owner age mode false) order.younger (λ waiting. none_elder owner age mode entries e);
}
orderly_where owner age mode entries false true (Some elder) c e order = order

-- a request keeps the list of its item orderly
pub with_lock_orderly : (owner : TxnId) (age : ℕ) (mode : Action) (entries : List LockEntry) → IsOrderly entries → IsOrderly (with_lock owner age mode entries)
with_lock_orderly owner age mode entries =
    orderly_where owner age mode entries (list_any (serves owner mode) entries) (list_any (conflicts owner mode) entries) (find (is_elder owner age mode) entries) refl refl

pub no_entry_orderly : IsOrderly []
no_entry_orderly = record { right = tt; younger = tt }

-- a table that is opened is orderly
pub opening_orderly : (items : ℕ) → AreOrderly (opening items)
opening_orderly items = All-replicate IsOrderly items [] no_entry_orderly

pub orderly_at : (item : ℕ) (lists : List (List LockEntry)) → All IsOrderly lists → IsOrderly (get_or lists item [])
orderly_at item lists all = elim (cases_lt item (length lists)) [
  | inl lt ↦ all item [] lt
  | inr past ↦ let empty : get_or lists item [] ≡ [] = get_or_past lists item [] past in rw empty no_entry_orderly
]

-- and so the whole table
pub after_request_orderly : (owner : TxnId) (age : ℕ) (item : ItemId) (mode : Action) (table : Table) → AreOrderly table → AreOrderly (after_request owner age item mode table)
after_request_orderly owner age item mode table order =
    All-set IsOrderly table.lists item.0 (with_lock owner age mode (get_or table.lists item.0 []))
    (with_lock_orderly owner age mode (get_or table.lists item.0 []) (orderly_at item.0 table.lists order)) order
