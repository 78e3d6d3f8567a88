-- What a request finds and leaves: the answer and the list of the rule.
use Rattle.std.proofs.Common.{◌≡◌, ◌≢◌, ◌<◌, ◌≤◌, ◌||◌, not, ℕ, Bool, true, false, cond, List, [], ◌∷◌, ◌++◌, length, get_or, set, take, drop, map, find, Option, Some, None, option_map, refl, sym, ap, ap₂, subst, ◌∙◌, inl, inr, arith}
use Rattle.std.proofs.lemmas.Bool.{cases_eq}
use Rattle.std.proofs.lemmas.List.{get_or-set_other, get_or-set_same, get_or_past, length-set, map-append, set-get_or, set_past}
use Rattle.std.proofs.lemmas.List.FromFn.{fill_by_all, get_or-map-range_with_len, length-map-range_with_len}
use Rattle.std.specs.List.{list_any, range_with_len}
use Rattle.tp_types.specs.declared.ids.ItemId.{ItemId}
use Rattle.tp_types.specs.declared.ids.TxnId.{TxnId}
use Rattle.tp_types.specs.declared.policy.Action.{Action}
use Rattle.tp_lock.specs.Order.{AreOrderly}
use Rattle.tp_lock.specs.Rule as rule
use Rattle.tp_lock.specs.Table.{Table}
use Rattle.tp_lock.specs.declared.entry.Asked.TheVariants.{Granted}
use Rattle.tp_lock.specs.declared.entry.Grant.{Grant}
use Rattle.tp_lock.specs.declared.entry.LockEntry.{LockEntry}
use Rattle.tp_lock.proofs.RequestLaws.{after_request_orderly}
use Rattle.tp_lock_chain.specs.declared.ask.Ask.{Ask}
use Rattle.tp_lock_chain.specs.declared.ask.Found.{Found}
use Rattle.tp_lock_chain.specs.declared.links.Kind.TheVariants.{Item}
use Rattle.tp_lock_chain.specs.declared.links.Pair.{Pair}
use Rattle.tp_lock_chain.specs.declared.links.Pool.{Pool}
use Rattle.tp_lock_chain.specs.declared.links.Spot.TheVariants.{End, On}
use Rattle.tp_lock_chain.specs.mirrors.Ask.{adds, answer, answer_of, elder_of, entered, entered_new, look, made, met, met_all, nothing, waits}
use Rattle.tp_lock_chain.specs.mirrors.Links.{links, moved, with_entry}
use Rattle.tp_lock_chain.specs.mirrors.Pool.{IsChained, IsKept, entries_of, entry_at, list_of, ring_of, shown}
use Rattle.tp_lock_chain.specs.mirrors.Room.{Adds, Keeps, with_list, with_place}
use Rattle.tp_lock_chain.proofs.EnterLemmas.{IsEntered, entered_is}
use Rattle.tp_lock_chain.proofs.PlaceLemmas.{first_is_free, made_placed, moved_placed}
use Rattle.tp_lock_chain.proofs.RoomLemmas.{keeps_twice, one_place, with_place_keeps}
use Rattle.tp_lock_chain.proofs.SettleLemmas.{entries_stay}

-- ---- what a list says

or_no : (b : Bool) → b ≡ (b || false)
or_no true = refl
or_no false = refl

or_three : (a b c : Bool) → ((a || b) || c) ≡ (a || (b || c))
or_three true b c = refl
or_three false b c = refl

abbrev either : Option TxnId → Option TxnId → Option TxnId
either (Some first) other = Some first
either None other = other

either_none : (one : Option TxnId) → one ≡ either one None
either_none None = refl
either_none (Some first) = refl

abbrev own : LockEntry → TxnId
own entry = entry.owner

served_is : (ask : Ask) (found : Found) (entries : List LockEntry) → (met_all ask found entries).served ≡ (found.served || list_any (rule.serves ask.owner ask.mode) entries)
served_is ask found [] = or_no found.served
served_is ask found (entry ∷ entries) =
    served_is ask (met ask entry found) entries ∙ or_three found.served (rule.serves ask.owner ask.mode entry) (list_any (rule.serves ask.owner ask.mode) entries)

hindered_is : (ask : Ask) (found : Found) (entries : List LockEntry) → (met_all ask found entries).hindered ≡ (found.hindered || list_any (rule.conflicts ask.owner ask.mode) entries)
hindered_is ask found [] = or_no found.hindered
hindered_is ask found (entry ∷ entries) =
    hindered_is ask (met ask entry found) entries ∙ or_three found.hindered (rule.conflicts ask.owner ask.mode entry) (list_any (rule.conflicts ask.owner ask.mode) entries)

one_elder : (ask : Ask) (entry : LockEntry) (elder : Option TxnId) (entries : List LockEntry)
    → either (elder_of ask entry elder) (option_map own (find (rule.is_elder ask.owner ask.age ask.mode) entries))
    ≡ either elder (option_map own (find (rule.is_elder ask.owner ask.age ask.mode) (entry ∷ entries)))
one_elder ask entry (Some first) entries = refl
one_elder ask entry None entries = by_test (rule.is_elder ask.owner ask.age ask.mode entry) entry (find (rule.is_elder ask.owner ask.age ask.mode) entries)
  where
    by_test : (b : Bool) (entry : LockEntry) (rest : Option LockEntry) → either (cond b (Some entry.owner) None) (option_map own rest) ≡ option_map own (cond b (Some entry) rest)
    by_test true entry rest = refl
    by_test false entry rest = refl

elder_is : (ask : Ask) (found : Found) (entries : List LockEntry) → (met_all ask found entries).elder
    ≡ either found.elder (option_map own (find (rule.is_elder ask.owner ask.age ask.mode) entries))
elder_is ask found [] = either_none found.elder
elder_is ask found (entry ∷ entries) = elder_is ask (met ask entry found) entries ∙ one_elder ask entry found.elder entries

-- the answer, by what was found
answers : (served hindered : Bool) (elder : Option LockEntry)
    → cond (served || not hindered) Granted (answer_of (option_map own elder)) ≡ cond served Granted (cond hindered (rule.waits_or_dies elder) Granted)
answers true hindered elder = refl
answers false false elder = refl
answers false true None = refl
answers false true (Some elder) = refl

pub answer_is : (ask : Ask) (entries : List LockEntry) → answer (met_all ask nothing entries) ≡ rule.answer ask.owner ask.age ask.mode entries
answer_is ask entries =
    ap₂ (λ (s h : Bool). cond (s || not h) Granted (answer_of (met_all ask nothing entries).elder)) (served_is ask nothing entries) (hindered_is ask nothing entries)
    ∙ ap (λ (e : Option TxnId). cond (list_any (rule.serves ask.owner ask.mode) entries || not (list_any (rule.conflicts ask.owner ask.mode) entries)) Granted (answer_of e)) (elder_is ask nothing entries)
    ∙ answers (list_any (rule.serves ask.owner ask.mode) entries) (list_any (rule.conflicts ask.owner ask.mode) entries) (find (rule.is_elder ask.owner ask.age ask.mode) entries)

-- the list with what is added
abbrev pub with_added : Ask → Option Bool → List LockEntry → List LockEntry
with_added ask None entries = entries
with_added ask (Some held) entries = entries ++ rule.lock_of ask.owner ask.age ask.mode held ∷ []

added : (ask : Ask) (entries : List LockEntry) (served hindered : Bool) (elder : Option LockEntry)
    → with_added ask (cond served None (cond (not hindered) (Some true) (waits (option_map own elder)))) entries
    ≡ cond served entries (rule.with_answer ask.owner ask.age ask.mode (cond hindered (rule.waits_or_dies elder) Granted) entries)
added ask entries true hindered elder = refl
added ask entries false false elder = refl
added ask entries false true None = refl
added ask entries false true (Some elder) = refl

pub adds_is : (ask : Ask) (entries : List LockEntry) → with_added ask (adds (met_all ask nothing entries)) entries ≡ rule.with_lock ask.owner ask.age ask.mode entries
adds_is ask entries =
    ap₂ (λ (s h : Bool). with_added ask (cond s None (cond (not h) (Some true) (waits (met_all ask nothing entries).elder))) entries) (served_is ask nothing entries) (hindered_is ask nothing entries)
    ∙ ap (λ (e : Option TxnId). with_added ask (cond (list_any (rule.serves ask.owner ask.mode) entries) None (cond (not (list_any (rule.conflicts ask.owner ask.mode) entries)) (Some true) (waits e))) entries) (elder_is ask nothing entries)
    ∙ added ask entries (list_any (rule.serves ask.owner ask.mode) entries) (list_any (rule.conflicts ask.owner ask.mode) entries) (find (rule.is_elder ask.owner ask.age ask.mode) entries)

-- ---- the lists of a table

pub list_at : (pool : Pool) (item : ℕ) → item < pool.free → get_or (shown pool).lists item [] ≡ list_of pool item
list_at pool item lt = get_or-map-range_with_len (list_of pool) 0 pool.free item item [] lt (omega arith)

pub many_lists : (pool : Pool) → length (shown pool).lists ≡ pool.free
many_lists pool = length-map-range_with_len (list_of pool) 0 pool.free

-- lists of which one is another
one_list : (count at : ℕ) (f g : ℕ → List LockEntry) → at < count → ((other : ℕ) → other < count → other ≢ at → g other ≡ f other)
    → map g (range_with_len 0 count) ≡ set (map f (range_with_len 0 count)) at (g at)
one_list count at f g lt same = sym (fill_by_all g (set (map f (range_with_len 0 count)) at (g at)) count []
    (length-set (map f (range_with_len 0 count)) at (g at) ∙ length-map-range_with_len f 0 count)
    (λ k below. elim (cases_eq k at) [
      | inl here ↦
          let place : at < length (map f (range_with_len 0 count)) = subst (λ (n : ℕ). at < n) (sym (length-map-range_with_len f 0 count)) lt in
          ap (λ n. get_or (set (map f (range_with_len 0 count)) at (g at)) n []) here ∙ get_or-set_same (map f (range_with_len 0 count)) at (g at) [] place ∙ ap g (sym here)
      | inr ne ↦
          get_or-set_other (map f (range_with_len 0 count)) at k (g at) [] ne ∙ get_or-map-range_with_len f 0 count k k [] below (omega arith) ∙ sym (same k below ne)
    ]))

-- ---- an entry that is added

-- the list of its item has it
entered_shows : (pool new : Pool) (node item : ℕ) (entry : LockEntry) → IsChained pool → item < pool.free → IsEntered pool new node item entry
    → shown new ≡ with_list item (list_of pool item ++ entry ∷ []) (shown pool)
entered_shows pool new node item entry chained lt is =
    let stay : (other : ℕ) → other < pool.free → entries_of new (ring_of Item pool other) ≡ list_of pool other = λ other lt'.
    entries_stay pool new (ring_of Item pool other) (λ n is_there. is.entries_else n (is.unlisted other n lt' is_there)) in
    let now : list_of new item ≡ list_of pool item ++ entry ∷ [] =
    ap (entries_of new) is.gained ∙ map-append (entry_at new) (ring_of Item pool item) (node ∷ [])
    ∙ ap₂ (λ (es : List LockEntry) (e : LockEntry). es ++ e ∷ []) (stay item lt) is.entry_now in
    let lists : map (list_of new) (range_with_len 0 new.free) ≡ set (shown pool).lists item (list_of pool item ++ entry ∷ []) =
    ap (λ n. map (list_of new) (range_with_len 0 n)) is.free
    ∙ one_list pool.free item (list_of pool) (list_of new) lt (λ other lt' ne. ap (entries_of new) (is.elsewhere other lt' ne) ∙ stay other lt')
    ∙ ap (set (shown pool).lists item) now in
    ap₂ (λ (ls : List (List LockEntry)) (gs : List Grant). let table : Table = record { lists = ls; grants = gs } in table) lists
    (ap₂ (λ (n : ℕ) (gs : List Grant). drop n gs) is.next (ap₂ (λ (n : ℕ) (gs : List Grant). take n gs) is.given is.granted))

adds_entry : (pool ready new : Pool) (node item : ℕ) (entry : LockEntry) → Keeps pool ready → (IsKept pool → item < ready.free → IsEntered ready new node item entry) → Adds item entry pool new
adds_entry pool ready new node item entry keeps is = record {
  chained = λ kept lt. (is kept (subst (λ (n : ℕ). item < n) (sym keeps.free) lt)).chained;
  shows = λ kept lt.
      let lt' : item < ready.free = subst (λ (n : ℕ). item < n) (sym keeps.free) lt in
      let same : list_of ready item ≡ list_of pool item = sym (list_at ready item lt') ∙ ap (λ (t : Table). get_or t.lists item []) (keeps.same kept) ∙ list_at pool item lt in
      entered_shows ready new node item entry (keeps.kept kept).chained lt' (is kept lt')
      ∙ ap₂ (λ (es : List LockEntry) (t : Table). with_list item (es ++ entry ∷ []) t) same (keeps.same kept);
}

-- of free nodes, where there are some, it is the first that gets the entry
pub adds_free : (pool ready new : Pool) (pair : Pair) (node item : ℕ) (entry : LockEntry) → Keeps pool ready → entry.owner.0 < length ready.owners → pair ≡ links Item ready (End ready.free)
    → pair.after ≡ On node → new ≡ entered node item entry ready → Adds item entry pool new
unfolding entered
adds_free pool ready new pair node item entry keeps owner_lt read first new_is =
    adds_entry pool ready new node item entry keeps (λ kept lt.
    let now = keeps.kept kept in
    let at_end = moved_placed ready node item entry now.chained lt (first_is_free ready pair node read first now) in
    subst (λ (p : Pool). IsEntered ready p node item entry) (sym new_is) (entered_is ready (moved node item (with_entry node entry ready)) node item entry now.chained owner_lt lt at_end))

-- and otherwise a new one, behind all others
pub adds_new : (pool ready mid new : Pool) (item : ℕ) (entry : LockEntry) → Keeps pool ready → entry.owner.0 < length ready.owners → mid ≡ with_place ready
    → new ≡ entered_new item entry mid → Adds item entry pool new
unfolding entered_new
adds_new pool ready mid new item entry keeps owner_lt mid_is new_is =
    let placed = with_place ready in
    adds_entry pool placed new (length ready.nodes) item entry (keeps_twice pool ready placed keeps (with_place_keeps ready)) (λ kept lt.
    let was = (keeps.kept kept).chained in
    let now = ((with_place_keeps ready).kept (keeps.kept kept)).chained in
    let more = one_place ready in
    let room = was.room in
    let at_end = made_placed placed item entry now lt (omega arith) in
    subst (λ (p : Pool). IsEntered placed p (length ready.nodes) item entry) (sym (new_is ∙ ap (entered_new item entry) mid_is))
    (entered_is placed (made item entry placed) (length ready.nodes) item entry now owner_lt lt at_end))

-- where memory for it is refused the lists stay
pub keeps_place : (pool ready mid new : Pool) → Keeps pool ready → mid ≡ with_place ready → new ≡ mid → Keeps pool new
keeps_place pool ready mid new keeps mid_is new_is =
    subst (λ (p : Pool). Keeps pool p) (sym (new_is ∙ mid_is)) (keeps_twice pool ready (with_place ready) keeps (with_place_keeps ready))

-- ---- the table after a request

-- where nothing is added it is the one before
pub request_none : (pool : Pool) (ask : Ask) (item : ItemId) → item.0 < pool.free → adds (look ask item.0 pool) ≡ None
    → shown pool ≡ rule.after_request ask.owner ask.age item ask.mode (shown pool)
request_none pool ask item lt none =
    let entries = rule.entries_at item (shown pool) in
    let at : entries ≡ list_of pool item.0 = list_at pool item.0 lt in
    let same : rule.with_lock ask.owner ask.age ask.mode entries ≡ entries =
    ap (rule.with_lock ask.owner ask.age ask.mode) at ∙ sym (adds_is ask (list_of pool item.0)) ∙ ap (λ o. with_added ask o (list_of pool item.0)) none ∙ sym at in
    sym (ap (λ (es : List LockEntry). with_list item.0 es (shown pool)) same
    ∙ ap (λ (ls : List (List LockEntry)). let table : Table = record { lists = ls; grants = (shown pool).grants } in table) (set-get_or (shown pool).lists item.0 []))

-- where an entry is added it is that with the entry
pub request_some : (pool new : Pool) (ask : Ask) (item : ItemId) (held : Bool) → IsKept pool → item.0 < pool.free → adds (look ask item.0 pool) ≡ Some held
    → Adds item.0 (rule.lock_of ask.owner ask.age ask.mode held) pool new → shown new ≡ rule.after_request ask.owner ask.age item ask.mode (shown pool)
request_some pool new ask item held kept lt some adds_it =
    let entries = rule.entries_at item (shown pool) in
    let at : entries ≡ list_of pool item.0 = list_at pool item.0 lt in
    let same : list_of pool item.0 ++ rule.lock_of ask.owner ask.age ask.mode held ∷ [] ≡ rule.with_lock ask.owner ask.age ask.mode entries =
    ap (λ o. with_added ask o (list_of pool item.0)) (sym some) ∙ adds_is ask (list_of pool item.0) ∙ ap (rule.with_lock ask.owner ask.age ask.mode) (sym at) in
    adds_it.shows kept lt ∙ ap (λ (es : List LockEntry). with_list item.0 es (shown pool)) same

pub request_kept : (pool new : Pool) (ask : Ask) (item : ItemId) (held : Bool) → IsKept pool → item.0 < pool.free → adds (look ask item.0 pool) ≡ Some held
    → Adds item.0 (rule.lock_of ask.owner ask.age ask.mode held) pool new → IsKept new
request_kept pool new ask item held kept lt some adds_it = record {
  chained = adds_it.chained kept lt;
  order = subst (λ (table : Table). AreOrderly table) (sym (request_some pool new ask item held kept lt some adds_it))
      (after_request_orderly ask.owner ask.age item ask.mode (shown pool) kept.order);
}

pub request_answer : (pool : Pool) (ask : Ask) (item : ItemId) → item.0 < pool.free → answer (look ask item.0 pool) ≡ rule.answer_at ask.owner ask.age item ask.mode (shown pool)
request_answer pool ask item lt = answer_is ask (list_of pool item.0) ∙ ap (rule.answer ask.owner ask.age ask.mode) (sym (list_at pool item.0 lt))

-- an item that is not there
pub request_past : (pool : Pool) (owner : TxnId) (age : ℕ) (item : ItemId) (mode : Action) → pool.free ≤ item.0
    → (Granted ≡ rule.answer_at owner age item mode (shown pool)) × (shown pool ≡ rule.after_request owner age item mode (shown pool))
request_past pool owner age item mode past =
    let over : length (shown pool).lists ≤ item.0 = subst (λ (n : ℕ). n ≤ item.0) (sym (many_lists pool)) past in (
      sym (ap (rule.answer owner age mode) (get_or_past (shown pool).lists item.0 [] over)),
      sym (ap (λ (ls : List (List LockEntry)). let table : Table = record { lists = ls; grants = (shown pool).grants } in table)
          (set_past (shown pool).lists item.0 (rule.with_lock owner age mode (rule.entries_at item (shown pool))) over)),
    )

-- ---- the list of an item

pub told_list : (pool : Pool) (item : ItemId) → item.0 < pool.free → list_of pool item.0 ≡ rule.entries_at item (shown pool)
told_list pool item lt = sym (list_at pool item.0 lt)

pub told_past : (pool : Pool) (item : ItemId) → pool.free ≤ item.0 → [] ≡ rule.entries_at item (shown pool)
told_past pool item past =
    let over : length (shown pool).lists ≤ item.0 = subst (λ (n : ℕ). n ≤ item.0) (sym (many_lists pool)) past in
    sym (get_or_past (shown pool).lists item.0 [] over)

-- after want of memory
pub refused_kept : (pool new : Pool) → IsKept pool → Keeps pool new → IsKept new
refused_kept pool new kept keeps = keeps.kept kept
