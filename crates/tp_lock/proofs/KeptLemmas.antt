-- What each call of a table keeps between its lists, the items of the owners, and the items of the last release.
use Rattle.std.proofs.Common.{◌≡◌, ◌≢◌, ◌≤◌, ◌<◌, ◌+◌, ◌==◌, ℕ, zero, suc, Bool, true, false, ◌||◌, cond, List, [], ◌∷◌, ◌++◌, length, get_or, take, drop, map, filter, set, replicate, Some, None, option_map, Result, Ok, Err, OnOk, OnErr, refl, ap, sym, subst, ◌∙◌, arith, inl, inr}
use Rattle.std.proofs.lemmas.Bool.{and_from, cases_eq, cases_lt, eq-eqb, ne_eqb, or_from, or_parts}
use Rattle.std.proofs.lemmas.List.{drop_all, get_or-set_other, get_or-set_same, get_or_default, get_or_past, set-get_or, set_past}
use Rattle.std.specs.List.{find, list_all, list_any}
use Rattle.tp_types.specs.declared.ids.ItemId.{ItemId}
use Rattle.tp_types.specs.declared.ids.TxnId.{TxnId}
use Rattle.tp_types.specs.declared.list.NoMemory.{NoMemory}
use Rattle.tp_types.specs.declared.policy.Action.{Action}
use Rattle.tp_lock.specs.declared.entry.Asked.{Asked}
use Rattle.tp_lock.specs.declared.entry.Asked.TheVariants.{Granted, Waits, Dies}
use Rattle.tp_lock.specs.declared.entry.LockEntry.{LockEntry}
use Rattle.tp_lock.specs.declared.slots.Slot.{Slot}
use Rattle.tp_lock.specs.Order.{AreOrderly, IsOrderly}
use Rattle.tp_lock.specs.Rule as rule
use Rattle.tp_lock.specs.Table.{Table}
use Rattle.tp_lock.specs.mirrors.Kept.{AreKept, at_each, at_item, slots_at, stands_at}
use Rattle.tp_lock.specs.mirrors.Owned.{HasOneMore, IsRising, IsRisingFrom, is_among, items_of}
use Rattle.tp_lock.specs.mirrors.Slots.{all_told, are_told, entries_of, is_untold, left_by, owner_of, shown, told_first, with_slot}
use Rattle.tp_lock.proofs.OwnedLemmas.{among_with, none_below, rising_drop, rising_more}
use Rattle.tp_lock.proofs.ReleaseLaws.{after_release_orderly, any_with_grant, owner_is_gone}
use Rattle.tp_lock.proofs.RequestLaws.{after_request_orderly, opening_orderly, orderly_at}
use Rattle.tp_lock.proofs.ShownLemmas.{entries_at_of, shown_after_release, shown_after_request, shown_opening}
use Rattle.tp_lock.proofs.TakenLemmas.{all_passed, here_passed, none_found, told_none, told_with_slot}
use Rattle.tp_lock.proofs.VisitLemmas.{all_are_told, all_told_entries, all_told_stay, each_elsewhere, each_is_all, item_elsewhere, left_as_it_was, mapped_at}

along : {old new : Table} → new ≡ old → AreOrderly old → AreOrderly new
along same order = let P : Table → Type 0 = λ table. AreOrderly table in subst P (sym same) order

-- ---- a table that is opened

nothing_at : (A : Type 0) (items item : ℕ) → let none : List A = [] in get_or (replicate items none) item [] ≡ []
nothing_at A zero item = refl
nothing_at A (suc items) zero = refl
nothing_at A (suc items) (suc item) = nothing_at A items item

pub opening_kept : (items : ℕ) → AreKept (replicate items []) [] [] 0
opening_kept items = record {
  order = along (shown_opening items) (opening_orderly items);
  noted = λ owner item none. ap (stands_at owner item) (shown_opening items) ∙ ap (list_any (rule.is_of owner)) (nothing_at LockEntry items item);
  rising = λ owner. tt;
  in_order = tt;
  told = λ item none. ap are_told (nothing_at Slot items item);
}

-- ---- items that are noted

less_among : (owner item other place : ℕ) (owned more : List (List ℕ)) → HasOneMore owner item owned more → is_among place (items_of other more) ≡ false
    → is_among place (items_of other owned) ≡ false
less_among owner item other place owned more has none = elim (cases_eq other owner) [
  | inl same ↦
      let here : is_among place (items_of owner more) ≡ false = ap (λ n. is_among place (items_of n more)) (sym same) ∙ none in
      let parts = or_parts (item == place) (is_among place (items_of owner owned)) (sym (ap (is_among place) has.own ∙ among_with item place (items_of owner owned)) ∙ here) in
      ap (λ n. is_among place (items_of n owned)) same ∙ parts.1
  | inr apart ↦ ap (is_among place) (sym (has.others other apart)) ∙ none
]

-- an owner may have items where it has no entry
pub noting_kept : (owner item : ℕ) (lists : List (List Slot)) (owned more : List (List ℕ)) (touched : List ℕ) (next : ℕ) → HasOneMore owner item owned more
    → AreKept lists owned touched next → AreKept lists more touched next
noting_kept owner item lists owned more touched next has kept = record {
  order = kept.order;
  noted = λ other place none. kept.noted other place (less_among owner item other.0 place owned more has none);
  rising = rising_more owner item owned more has kept.rising;
  in_order = kept.in_order;
  told = kept.told;
}

among_now : (owner item : ℕ) (owned more : List (List ℕ)) → HasOneMore owner item owned more → is_among item (items_of owner more) ≡ true
among_now owner item owned more has =
    ap (is_among item) has.own ∙ among_with item item (items_of owner owned) ∙ ap (λ b. b || is_among item (items_of owner owned)) (eq-eqb item item refl)

-- ---- a request

-- a list that passes a test as the one before it did
test_at_set : (A : Type 0) (test : List A → Bool) (lists : List (List A)) (item place : ℕ) (new : List A) → test new ≡ test (get_or lists item [])
    → test (get_or (set lists item new) place []) ≡ test (get_or lists place [])
test_at_set A test [] item place new e = refl
test_at_set A test (first ∷ lists) zero zero new e = e
test_at_set A test (first ∷ lists) zero (suc place) new e = refl
test_at_set A test (first ∷ lists) (suc item) zero new e = refl
test_at_set A test (first ∷ lists) (suc item) (suc place) new e = test_at_set A test lists item place new e

-- a request adds no entry of another owner
push_other : (owner other : TxnId) (age : ℕ) (mode : Action) (held : Bool) (entries : List LockEntry) → other.0 ≢ owner.0
    → list_any (rule.is_of other) (entries ++ rule.lock_of owner age mode held ∷ []) ≡ list_any (rule.is_of other) entries
push_other owner other age mode held [] apart = or_from (owner.0 == other.0) false (ne_eqb owner.0 other.0 (λ same. apart (sym same))) refl
push_other owner other age mode held (entry ∷ entries) apart = ap (λ b. rule.is_of other entry || b) (push_other owner other age mode held entries apart)

answer_other : (owner other : TxnId) (age : ℕ) (mode : Action) (asked : Asked) (entries : List LockEntry) → other.0 ≢ owner.0
    → list_any (rule.is_of other) (rule.with_answer owner age mode asked entries) ≡ list_any (rule.is_of other) entries
answer_other owner other age mode Granted entries apart = push_other owner other age mode true entries apart
answer_other owner other age mode Waits entries apart = push_other owner other age mode false entries apart
answer_other owner other age mode (Dies elder) entries apart = refl

lock_other : (owner other : TxnId) (age : ℕ) (mode : Action) (asked : Asked) (entries : List LockEntry) (served : Bool) → other.0 ≢ owner.0
    → list_any (rule.is_of other) (cond served entries (rule.with_answer owner age mode asked entries)) ≡ list_any (rule.is_of other) entries
lock_other owner other age mode asked entries true apart = refl
lock_other owner other age mode asked entries false apart = answer_other owner other age mode asked entries apart

stands_other : (owner other : TxnId) (age : ℕ) (item : ItemId) (mode : Action) (place : ℕ) (table : Table) → other.0 ≢ owner.0
    → stands_at other place (rule.after_request owner age item mode table) ≡ stands_at other place table
stands_other owner other age item mode place table apart =
    let entries = rule.entries_at item table in
    test_at_set LockEntry (list_any (rule.is_of other)) table.lists item.0 place (rule.with_lock owner age mode entries)
    (lock_other owner other age mode (rule.answer_to_new owner age mode entries) entries (list_any (rule.serves owner mode) entries) apart)

-- the item is the owner's already
pub asking_kept : (owner : TxnId) (age : ℕ) (item : ItemId) (mode : Action) (lists : List (List Slot)) (owned : List (List ℕ)) (touched : List ℕ) (next : ℕ)
    → is_among item.0 (items_of owner.0 owned) ≡ true → AreKept lists owned touched next
    → AreKept (set lists item.0 (with_slot owner age mode (slots_at item.0 lists))) owned touched next
asking_kept owner age item mode lists owned touched next own kept = record {
  order = along (shown_after_request owner age item mode lists) (after_request_orderly owner age item mode (shown lists) kept.order);
  noted = λ other place none. ap (stands_at other place) (shown_after_request owner age item mode lists) ∙ elim (cases_eq other.0 owner.0) [
    | inl same ↦
        let apart : place ≢ item.0 = λ here. let among : is_among place (items_of other.0 owned) ≡ true = rw (here, same) own in cc in
        ap (list_any (rule.is_of other)) (get_or-set_other (shown lists).lists item.0 place (rule.with_lock owner age mode (rule.entries_at item (shown lists))) [] apart)
        ∙ kept.noted other place none
    | inr apart ↦ stands_other owner other age item mode place (shown lists) apart ∙ kept.noted other place none
  ];
  rising = kept.rising;
  in_order = kept.in_order;
  told = λ place none.
      test_at_set Slot are_told lists item.0 place (with_slot owner age mode (slots_at item.0 lists)) (told_with_slot owner age mode (slots_at item.0 lists)) ∙ kept.told place none;
}

pub request_kept : (owner : TxnId) (age : ℕ) (item : ItemId) (mode : Action) (lists : List (List Slot)) (owned more : List (List ℕ)) (touched : List ℕ) (next : ℕ)
    (slots grown : List Slot) (result : Result Asked NoMemory)
    → AreKept lists owned touched next → HasOneMore owner.0 item.0 owned more → slots ≡ slots_at item.0 lists
    → OnOk result (grown ≡ with_slot owner age mode slots) → OnErr result (grown ≡ slots) → AreKept (set lists item.0 grown) more touched next
request_kept owner age item mode lists owned more touched next slots grown (Ok asked) kept has here ok err =
    rw (ok ∙ ap (with_slot owner age mode) here)
    (asking_kept owner age item mode lists more touched next (among_now owner.0 item.0 owned more has) (noting_kept owner.0 item.0 lists owned more touched next has kept))
request_kept owner age item mode lists owned more touched next slots grown (Err error) kept has here ok err =
    let same : set lists item.0 grown ≡ lists = ap (set lists item.0) (err ∙ here) ∙ set-get_or lists item.0 [] in
    rw same (noting_kept owner.0 item.0 lists owned more touched next has kept)

-- ---- a release

-- the lists after it
abbrev pub after : TxnId → List (List Slot) → List (List ℕ) → List ℕ → ℕ → List (List Slot)
after owner lists owned touched next = at_each (left_by owner) (items_of owner.0 owned) (at_each all_told (drop next touched) lists)

forgotten : (lists : List (List Slot)) (owned : List (List ℕ)) (touched : List ℕ) (next : ℕ) → AreKept lists owned touched next
    → at_each all_told (drop next touched) lists ≡ map all_told lists
forgotten lists owned touched next kept =
    each_is_all all_told (drop next touched) lists refl (rising_drop 0 next touched kept.in_order) (λ item none. all_told_stay (slots_at item lists) (kept.told item none))

forgotten_at : (lists : List (List Slot)) (item : ℕ) → entries_of (slots_at item (map all_told lists)) ≡ entries_of (slots_at item lists)
forgotten_at lists item = ap entries_of (mapped_at all_told item lists refl) ∙ all_told_entries (slots_at item lists)

-- where the owner has no item nothing changes
stays_at : (owner : TxnId) (lists : List (List Slot)) (owned : List (List ℕ)) (touched : List ℕ) (next : ℕ) → AreKept lists owned touched next → (item : ℕ)
    → is_among item (items_of owner.0 owned) ≡ false → left_by owner (slots_at item (map all_told lists)) ≡ slots_at item (map all_told lists)
stays_at owner lists owned touched next kept item none =
    let slots = slots_at item (map all_told lists) in
    let told : are_told slots ≡ true = ap are_told (mapped_at all_told item lists refl) ∙ all_are_told (slots_at item lists) in
    let same : get_or (map entries_of lists) item [] ≡ entries_of slots = entries_at_of item lists ∙ sym (forgotten_at lists item) in
    let order : IsOrderly (entries_of slots) = rw (← same) (orderly_at item (map entries_of lists) kept.order) in
    left_as_it_was owner slots told order (ap (list_any (rule.is_of owner)) (sym same) ∙ kept.noted owner item none)

left_all : (owner : TxnId) (lists : List (List Slot)) (owned : List (List ℕ)) (touched : List ℕ) (next : ℕ) → AreKept lists owned touched next
    → after owner lists owned touched next ≡ map (left_by owner) (map all_told lists)
left_all owner lists owned touched next kept =
    ap (at_each (left_by owner) (items_of owner.0 owned)) (forgotten lists owned touched next kept)
    ∙ each_is_all (left_by owner) (items_of owner.0 owned) (map all_told lists) refl (kept.rising owner.0) (stays_at owner lists owned touched next kept)

told_shown : (lists : List (List Slot)) → map entries_of (map all_told lists) ≡ map entries_of lists
told_shown [] = refl
told_shown (slots ∷ lists) = ap (λ entries. entries ∷ map entries_of (map all_told lists)) (all_told_entries slots) ∙ ap (λ rest. entries_of slots ∷ rest) (told_shown lists)

-- so it shows what a release of all lists gives
pub shown_after : (owner : TxnId) (lists : List (List Slot)) (owned : List (List ℕ)) (touched : List ℕ) (next : ℕ) → AreKept lists owned touched next
    → shown (after owner lists owned touched next) ≡ rule.after_release owner (shown lists)
shown_after owner lists owned touched next kept =
    ap shown (left_all owner lists owned touched next kept) ∙ shown_after_release owner (map all_told lists)
    ∙ ap (λ entries. let table : Table = record { lists = map (rule.left_by owner) entries; grants = rule.grants_of owner 0 entries } in table) (told_shown lists)

any_kept : (owner other : TxnId) (entry : LockEntry) (kept : List LockEntry) (b : Bool) → rule.is_of other entry ≡ false → list_any (rule.is_of other) kept ≡ false
    → list_any (rule.is_of other) (cond b (entry ∷ kept) kept) ≡ false
any_kept owner other entry kept true here rest = or_from (rule.is_of other entry) (list_any (rule.is_of other) kept) here rest
any_kept owner other entry kept false here rest = rest

any_other : (owner other : TxnId) (entries : List LockEntry) → list_any (rule.is_of other) entries ≡ false → list_any (rule.is_of other) (filter (rule.is_of_other owner) entries) ≡ false
any_other owner other [] none = refl
any_other owner other (entry ∷ entries) none =
    let parts = or_parts (rule.is_of other entry) (list_any (rule.is_of other) entries) none in
    any_kept owner other entry (filter (rule.is_of_other owner) entries) (rule.is_of_other owner entry) parts.0 (any_other owner other entries parts.1)

stands_left : (owner other : TxnId) (entries : List LockEntry) → list_any (rule.is_of other) entries ≡ false → list_any (rule.is_of other) (rule.left_by owner entries) ≡ false
stands_left owner other entries none = any_with_grant other [] (filter (rule.is_of_other owner) entries) ∙ any_other owner other entries none

left_at : (owner : TxnId) (item : ℕ) (lists : List (List LockEntry)) → get_or (map (rule.left_by owner) lists) item [] ≡ rule.left_by owner (get_or lists item [])
left_at owner item [] = refl
left_at owner zero (entries ∷ lists) = refl
left_at owner (suc item) (entries ∷ lists) = left_at owner item lists

gone_at : (owner other : TxnId) (item : ℕ) (table : Table) → other.0 ≡ owner.0 → stands_at other item (rule.after_release owner table) ≡ false
gone_at owner other item table same =
    ap (list_any (rule.is_of other)) (left_at owner item table.lists)
    ∙ ap (λ n. let who : TxnId = record { 0 = n } in list_any (rule.is_of who) (rule.left_by owner (get_or table.lists item []))) same
    ∙ owner_is_gone owner (get_or table.lists item [])

rising_without : (owner : ℕ) (owned : List (List ℕ)) → ((other : ℕ) → IsRising (items_of other owned)) → (other : ℕ) → IsRising (items_of other (set owned owner []))
rising_without owner owned rising other = elim (cases_eq other owner) [
  | inl same ↦ elim (cases_lt owner (length owned)) [
    | inl lt ↦ let none : items_of owner (set owned owner []) ≡ [] = get_or-set_same owned owner [] [] lt in rw (same, none) tt
    | inr past ↦ let stays : set owned owner [] ≡ owned = set_past owned owner [] past in rw stays (rising other)
  ]
  | inr apart ↦ let stays : items_of other (set owned owner []) ≡ items_of other owned = get_or-set_other owned owner other [] [] apart in rw stays (rising other)
]

pub release_kept : (owner : TxnId) (lists : List (List Slot)) (owned : List (List ℕ)) (touched : List ℕ) (next : ℕ) → AreKept lists owned touched next
    → AreKept (after owner lists owned touched next) (set owned owner.0 []) (items_of owner.0 owned) 0
release_kept owner lists owned touched next kept =
    let same = shown_after owner lists owned touched next kept in
    record {
      order = along same (after_release_orderly owner (shown lists) kept.order);
      noted = λ other item none. ap (stands_at other item) same ∙ elim (cases_eq other.0 owner.0) [
        | inl own ↦ gone_at owner other item (shown lists) own
        | inr apart ↦
            let before : is_among item (items_of other.0 owned) ≡ false = ap (is_among item) (sym (get_or-set_other owned owner.0 other.0 [] [] apart)) ∙ none in
            ap (list_any (rule.is_of other)) (left_at owner item (shown lists).lists)
            ∙ stands_left owner other (get_or (shown lists).lists item []) (kept.noted other item before)
      ];
      rising = rising_without owner.0 owned kept.rising;
      in_order = kept.rising owner.0;
      told = λ item none.
          ap are_told
          (each_elsewhere (left_by owner) (items_of owner.0 owned) item (at_each all_told (drop next touched) lists) none
          ∙ ap (slots_at item) (forgotten lists owned touched next kept) ∙ mapped_at all_told item lists refl)
          ∙ all_are_told (slots_at item lists);
    }

-- ---- a grant that is taken

told_front : (n : ℕ) (lists : List (List Slot)) → ((item : ℕ) → item < n → are_told (slots_at item lists) ≡ true) → list_all are_told (take n lists) ≡ true
told_front zero lists all = refl
told_front (suc n) [] all = refl
told_front (suc n) (slots ∷ lists) all =
    and_from (are_told slots) (list_all are_told (take n lists)) (all 0 (omega arith)) (told_front n lists (λ item lt. all (suc item) (omega arith)))

-- no list before that of the next item has a grant
told_before : (lists : List (List Slot)) (owned : List (List ℕ)) (touched : List ℕ) (at item : ℕ) → AreKept lists owned touched at
    → drop at touched ≡ item ∷ drop (at + 1) touched → list_all are_told (take item lists) ≡ true
told_before lists owned touched at item kept rest =
    let P : List ℕ → Type 0 = λ items. IsRisingFrom 0 items in
    let rising : IsRisingFrom 0 (item ∷ drop (at + 1) touched) = subst P rest (rising_drop 0 at touched kept.in_order) in
    told_front item lists
    (λ place lt. kept.told place (ap (is_among place) rest ∙ none_below item place (item ∷ drop (at + 1) touched) lt (omega arith, rising.1)))

-- the next list has the first grant, which is taken
pub record IsTaken (lists : List (List Slot)) (owned : List (List ℕ)) (touched : List ℕ) (at item : ℕ) (owner : TxnId) : Type 0 where
  pub first : Some (rule.grant_of owner item) ≡ rule.first_grant (shown lists)
  pub left : shown (at_item told_first item lists) ≡ rule.without_grant (shown lists)
  pub kept : AreKept (at_item told_first item lists) owned touched at

within_where : (lists : List (List Slot)) (item : ℕ) (owner : TxnId) → option_map owner_of (find is_untold (slots_at item lists)) ≡ Some owner → item < length lists
within_where lists item owner some = elim (cases_lt item (length lists)) [
  | inl lt ↦ lt
  | inr past ↦ let none : option_map owner_of (find is_untold (slots_at item lists)) ≡ None = ap (λ slots. option_map owner_of (find is_untold slots)) (get_or_past lists item [] past) in absurd (cc)
]

pub taken_here : (lists : List (List Slot)) (owned : List (List ℕ)) (touched : List ℕ) (at item : ℕ) (owner : TxnId) → AreKept lists owned touched at
    → drop at touched ≡ item ∷ drop (at + 1) touched → option_map owner_of (find is_untold (slots_at item lists)) ≡ Some owner → IsTaken lists owned touched at item owner
taken_here lists owned touched at item owner kept rest some =
    let slots = slots_at item lists in
    let lt : item < length lists = within_where lists item owner some in
    let here : slots ≡ get_or lists item slots = get_or_default lists item [] slots lt in
    let met = here_passed lists item slots owner lt here some (told_before lists owned touched at item kept rest) in
    record {
      first = met.0;
      left = met.1;
      kept = record {
        order = along met.1 kept.order;
        noted = λ other place none. ap (stands_at other place) met.1 ∙ kept.noted other place none;
        rising = kept.rising;
        in_order = kept.in_order;
        told = λ place none.
            let parts = or_parts (item == place) (is_among place (drop (at + 1) touched)) (ap (is_among place) (sym rest) ∙ none) in
            let apart : place ≢ item = λ same. let equal = eq-eqb item place (sym same) in cc in
            ap are_told (item_elsewhere told_first item place lists apart) ∙ kept.told place none;
      };
    }

-- the next list has none
pub passed_here : (lists : List (List Slot)) (owned : List (List ℕ)) (touched : List ℕ) (at item : ℕ) → AreKept lists owned touched at
    → drop at touched ≡ item ∷ drop (at + 1) touched → option_map owner_of (find is_untold (slots_at item lists)) ≡ None
    → (at_item told_first item lists ≡ lists) × AreKept lists owned touched (at + 1)
passed_here lists owned touched at item kept rest none = (
  ap (set lists item) (told_none (slots_at item lists) none) ∙ set-get_or lists item [],
  record {
    order = kept.order;
    noted = kept.noted;
    rising = kept.rising;
    in_order = kept.in_order;
    told = λ place later. elim (cases_eq place item) [
      | inl same ↦ ap (λ n. are_told (slots_at n lists)) same ∙ none_found (slots_at item lists) none
      | inr apart ↦
          kept.told place
          (ap (is_among place) rest ∙ or_from (item == place) (is_among place (drop (at + 1) touched)) (ne_eqb item place (λ same. apart (sym same))) later)
    ];
  },
)

-- no list has one
pub all_taken : (lists : List (List Slot)) (owned : List (List ℕ)) (touched : List ℕ) (at : ℕ) → AreKept lists owned touched at → length touched ≤ at
    → (None ≡ rule.first_grant (shown lists)) × (shown lists ≡ rule.without_grant (shown lists))
all_taken lists owned touched at kept over =
    let past : drop at touched ≡ [] = drop_all at touched over in
    all_passed lists (length lists) (omega arith) (told_front (length lists) lists (λ item lt. kept.told item (ap (is_among item) past)))
