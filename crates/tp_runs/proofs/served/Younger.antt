-- Served: a query that waits at a server waits for a younger transaction, which has an entry there.
use Rattle.std.specs.List.{list_all, list_any}
use Rattle.std.specs.Option.{option_map_or}
use Rattle.std.proofs.Common.{Bool, List, None, Option, Some, [], ap, arith, false, inl, inr, is_some, nat_lt, not, option_and_then, refl, slice_get, subst, suc, sym, true, zero, ℕ, ⊎_elim, ◌&&◌, ◌++◌, ◌+◌, ◌<◌, ◌==◌, ◌||◌, ◌∙◌, ◌∷◌, ◌≡◌, ◌≤◌, ◌⊎◌}
use Rattle.std.proofs.lemmas.Bool.{eqb-true, not-false, not-true, or_left, or_right}
use Rattle.std.proofs.lemmas.Bool.Decides.{nat_tests}
use Rattle.std.proofs.lemmas.Option.{get_or_from_slice_get, same_Some}
use Rattle.tp_types.proofs.EachLemmas.{each_append, each_two}
use Rattle.tp_types.proofs.ListLemmas.{number_itself}
use Rattle.tp_types.specs.Each.{Each, EachPlaced}
use Rattle.tp_lock.proofs.RequestLaws.{orderly_at}
use Rattle.tp_lock.specs.Order.{EachAfter, IsOrderly, IsRight, WaitsForYounger, all_let_wait, is_younger, lets_wait}
use Rattle.tp_lock.specs.Rule.{conflicts}
use Rattle.tp_lock.specs.declared.entry.LockEntry.{LockEntry}
use Rattle.tp_model.specs.Agreement.{has_item_at}
use Rattle.tp_model.specs.Queries.{is_at_server, item_of, query_at}
use Rattle.tp_model.specs.Words.actor
use Rattle.tp_model.specs.Words.{Action, Item, Query, QueryRequest, Scenario, ServerId, Transaction, TxnId}
use Rattle.tp_machine.specs.Machine.{State}
use Rattle.tp_machine.specs.Parts.{Part}
use Rattle.tp_server.specs.Row as server
use Rattle.tp_server.specs.State.{Server}
use Rattle.tp_server.specs.declared.server.Entry.{Entry}
use Rattle.tp_runs.proofs.ages.Actors.{EntryAged}
use Rattle.tp_runs.proofs.ages.World.{IsSubmission}
use Rattle.tp_runs.proofs.basics.Found.{of_some}
use Rattle.tp_runs.proofs.basics.Ids.{txn_number}
use Rattle.tp_runs.proofs.basics.LockCounts.{is_waiting, one_if, waiting_in, waiting_on}
use Rattle.tp_runs.proofs.deaths.Fit.{LockFits}
use Rattle.tp_runs.proofs.deaths.Servers.{ServerDies}
use Rattle.tp_runs.proofs.locked.Fit.{LockWaits, WaitFits}
use Rattle.tp_runs.proofs.locked.World.{IsLockedServer}
use Rattle.tp_runs.proofs.runs.Runs.{Holds}
use Rattle.tp_runs.proofs.walks.Steps.{IsServerUp}
use Rattle.tp_runs.specs.Sound.{IsItemOf, IsSoundEntry, IsSoundServerUp, IsSoundWait, query_in}

-- ---- one list

-- a lock of the owner that waits, and one that stands in its way
record IsBlocked (P : LockEntry → Type 0) (n : ℕ) : Type 0 where
  lock : LockEntry
  other : LockEntry
  owner_is : (lock.owner.0 == n) ≡ true
  waits : lock.held ≡ false
  own : P lock
  stands : P other
  younger : is_younger lock.owner lock.age other ≡ true

either : (a b : Bool) → (a || b) ≡ true → (a ≡ true) ⊎ (b ≡ true)
either true b e = inl refl
either false b e = inr e

both : (a b : Bool) → (a && b) ≡ true → (a ≡ true) × (b ≡ true)
both true true e = (refl, refl)
both true false e = absurd (cc)
both false b e = absurd (cc)

younger_where : (owner : TxnId) (age : ℕ) (mode : Action) (other : LockEntry) → conflicts owner mode other ≡ true → lets_wait owner age mode other ≡ true → is_younger owner age other ≡ true
younger_where owner age mode other conflict lets = by_test (conflicts owner mode other) conflict lets
  where
    by_test : (b : Bool) → b ≡ true → (not b || is_younger owner age other) ≡ true → is_younger owner age other ≡ true
    by_test true e f = f
    by_test false e f = absurd (cc)

-- of those that stand before a lock one conflicts, and it is younger
earlier_one : (P : LockEntry → Type 0) (owner : TxnId) (age : ℕ) (mode : Action) (earlier : List LockEntry) → Each P earlier → list_any (conflicts owner mode) earlier ≡ true → all_let_wait owner age mode earlier ≡ true
    → (other : LockEntry) × (P other × (is_younger owner age other ≡ true))
earlier_one P owner age mode [] h e f = absurd (cc)
earlier_one P owner age mode (first ∷ earlier) h e f =
    let all = both (lets_wait owner age mode first) (list_all (lets_wait owner age mode) earlier) f in
    ⊎_elim (λ (here : conflicts owner mode first ≡ true). (first, (h.0, younger_where owner age mode first here all.0)))
    (λ (later : list_any (conflicts owner mode) earlier ≡ true). earlier_one P owner age mode earlier h.1 later all.1) (either (conflicts owner mode first) (list_any (conflicts owner mode) earlier) e)

blocked_here : (P : LockEntry → Type 0) (n : ℕ) (earlier : List LockEntry) (lock : LockEntry) → Each P earlier → P lock → IsRight earlier lock → WaitsForYounger earlier lock → is_waiting n lock ≡ true → IsBlocked P n
blocked_here P n earlier lock h own right younger waits =
    let parts = both (lock.owner.0 == n) (not lock.held) waits in
    let unheld : lock.held ≡ false = not-true lock.held parts.1 in
    let stands : list_any (conflicts lock.owner lock.mode) earlier ≡ true = not-false (list_any (conflicts lock.owner lock.mode) earlier) (sym right ∙ unheld) in
    let one = earlier_one P lock.owner lock.age lock.mode earlier h stands (younger unheld) in
    record { lock = lock; other = one.0; owner_is = parts.0; waits = unheld; own = own; stands = one.1.0; younger = one.1.1 }

blocked_in : (P : LockEntry → Type 0) (n : ℕ) (earlier entries : List LockEntry) → Each P earlier → Each P entries → EachAfter IsRight earlier entries → EachAfter WaitsForYounger earlier entries → 1 ≤ waiting_in n entries → IsBlocked P n
blocked_in P n earlier [] h k right younger some = absurd (omega (arith, some))
blocked_in P n earlier (lock ∷ entries) h k right younger some =
    by_test (is_waiting n lock) refl (λ later. blocked_in P n (earlier ++ lock ∷ []) entries (each_append P earlier (lock ∷ []) h (k.0, tt)) k.1 right.1 younger.1 later) some
  where
    by_test : (b : Bool) → is_waiting n lock ≡ b → (1 ≤ waiting_in n entries → IsBlocked P n) → 1 ≤ one_if b + waiting_in n entries → IsBlocked P n
    by_test true e later f = blocked_here P n earlier lock h k.0 right.0 younger.0 e
    by_test false e later f = later (omega (arith, f))

-- ---- all lists

list_with : (n : ℕ) (lists : List (List LockEntry)) → 1 ≤ waiting_on n lists → (item : ℕ) × ((entries : List LockEntry) × ((slice_get lists item ≡ Some entries) × (1 ≤ waiting_in n entries)))
list_with n [] some = absurd (omega (arith, some))
list_with n (entries ∷ lists) some = by_count (waiting_in n entries) refl (λ later. list_with n lists later) some
  where
    by_count : (count : ℕ) → waiting_in n entries ≡ count → (1 ≤ waiting_on n lists → (item : ℕ) × ((found : List LockEntry) × ((slice_get lists item ≡ Some found) × (1 ≤ waiting_in n found)))) → 1 ≤ count + waiting_on n lists
        → (item : ℕ) × ((found : List LockEntry) × ((slice_get (entries ∷ lists) item ≡ Some found) × (1 ≤ waiting_in n found)))
    by_count zero e later f = let rest = later (omega (arith, f)) in (suc rest.0, (rest.1.0, (rest.1.1.0, rest.1.1.1)))
    by_count (suc k) e later f = (0, (entries, (refl, omega (arith, e))))

-- ---- at a server

-- a younger transaction, with its entry, and an item here that it asks for
pub record IsBehind (sc : Scenario) (w : State) (at : ServerId) (s : Server) (txn : TxnId) : Type 0 where
  pub age : ℕ
  pub age_is : IsSubmission w.steps txn age
  pub other : TxnId
  pub entry : Entry
  pub found : server.entry_at s other ≡ Some entry
  pub other_age : IsSubmission w.steps other entry.age
  pub item : has_item_at sc at other ≡ true
  pub younger : (age < entry.age) ⊎ ((age ≡ entry.age) × (txn.0 < other.0))

younger_is : (owner : TxnId) (age : ℕ) (other : LockEntry) → is_younger owner age other ≡ true → (age < other.age) ⊎ ((age ≡ other.age) × (owner.0 < other.owner.0))
younger_is owner age other e =
    ⊎_elim (λ (less : nat_lt age other.age ≡ true). inl (lt_of age other.age less))
    (λ (same : ((other.age == age) && nat_lt owner.0 other.owner.0) ≡ true).
    let parts = both (other.age == age) (nat_lt owner.0 other.owner.0) same in
    inr (sym (eqb-true other.age age parts.0), lt_of owner.0 other.owner.0 parts.1))
    (either (nat_lt age other.age) ((other.age == age) && nat_lt owner.0 other.owner.0) e)
  where
    lt_of : (a b : ℕ) → nat_lt a b ≡ true → a < b
    lt_of a b f = grind (arith, nat_tests)

-- an item of a query is at its server
item_here : (sc : Scenario) (at : ServerId) (item : ℕ) (query : Query) (declared : Item) → (item_of query).0 ≡ item → slice_get sc.items item ≡ Some declared → declared.server ≡ at → is_at_server sc at.0 query ≡ true
item_here sc at item query declared is found here =
    ap (λ (n : ℕ). option_map_or (λ (i : Item). i.server.0 == at.0) (slice_get sc.items n) false) is
    ∙ (ap (λ (i : Option Item). option_map_or (λ (k : Item). k.server.0 == at.0) i false) found ∙ subst (λ (s : ServerId). (s.0 == at.0) ≡ true) (sym here) (number_itself at.0))

any_query : (test : Query → Bool) (queries : List Query) (k : ℕ) (query : Query) → slice_get queries k ≡ Some query → test query ≡ true → list_any test queries ≡ true
any_query test [] k query e t = absurd (cc)
any_query test (first ∷ queries) zero query e t = or_left (test first) (list_any test queries) (ap test (same_Some first query e) ∙ t)
any_query test (first ∷ queries) (suc k) query e t = or_right (test first) (list_any test queries) (any_query test queries k query e t)

-- so its transaction has an item there
has_item_by : (sc : Scenario) (at : ServerId) (txn : TxnId) (number : ℕ) (query : Query) → query_in sc txn number ≡ Some query → is_at_server sc at.0 query ≡ true → has_item_at sc at txn ≡ true
has_item_by sc at txn number query e here = by_found (slice_get sc.txns txn.0) number e
  where
    by_found : (found : Option Transaction) (k : ℕ) → option_and_then (λ (declared : Transaction). query_at declared k) found ≡ Some query → option_map_or (λ (declared : Transaction). list_any (is_at_server sc at.0) declared.queries) found false ≡ true
    by_found None k f = absurd (cc)
    by_found (Some declared) zero f = absurd (cc)
    by_found (Some declared) (suc k) f = any_query (is_at_server sc at.0) declared.queries k query f here

-- what stands in a lock's way is of a younger transaction
blocked_behind : (sc : Scenario) (w : State) (at : ServerId) (s : Server) (txn : TxnId) (item : ℕ) → IsBlocked (λ (lock : LockEntry). LockFits sc s.entries item lock × LockWaits sc s.entries item lock) txn.0
    → EachPlaced (EntryAged (IsSubmission w.steps)) s.entries → IsSoundServerUp sc at s → IsBehind sc w at s txn
blocked_behind sc w at s txn item b ages own =
    let owner : b.lock.owner ≡ txn = ap txn_number (eqb-true b.lock.owner.0 txn.0 b.owner_is) in
    let wait : WaitFits sc s.entries item b.lock = b.own.1 b.waits in
    let stands : LockFits sc s.entries item b.other = b.stands.0 in
    record {
      age = b.lock.age;
      age_is = subst (λ (t : TxnId). IsSubmission w.steps t b.lock.age) owner (subst (IsSubmission w.steps b.lock.owner) b.own.0.age_is (ages b.lock.owner.0 b.own.0.entry b.own.0.found));
      other = b.other.owner;
      entry = stands.entry;
      found = stands.found;
      other_age = ages b.other.owner.0 stands.entry stands.found;
      item = waited_item b.lock wait b.other stands;
      younger = ⊎_elim (λ (less : b.lock.age < b.other.age). inl (omega (arith, less, stands.age_is)))
          (λ (same : (b.lock.age ≡ b.other.age) × (b.lock.owner.0 < b.other.owner.0)). inr (same.0 ∙ sym stands.age_is, subst (λ (t : TxnId). t.0 < b.other.owner.0) owner same.1))
          (younger_is b.lock.owner b.lock.age b.other b.younger);
    }
  where
    server_from : (one other : ServerId) → actor.Server one ≡ actor.Server other → one ≡ other
    server_from one other e = cc

    waited_item : (lock : LockEntry) → WaitFits sc s.entries item lock → (other : LockEntry) → LockFits sc s.entries item other → has_item_at sc at other.owner ≡ true
    waited_item lock wait other stands =
        let sound_entry : IsSoundEntry sc s.server (record { 0 = lock.owner.0 }) wait.entry = own.sound.entries lock.owner.0 wait.entry wait.found in
        let sound_wait : IsSoundWait sc s.server (record { 0 = lock.owner.0 }) wait.waited.q = of_some (IsSoundWait sc s.server (record { 0 = lock.owner.0 })) wait.entry.waiting wait.waited.q wait.waited.waiting_is sound_entry.waiting in
        by_wait sound_wait.sound.asked sound_wait.sound.at (same_Some sound_wait.sound.asked wait.waited.query (sym sound_wait.sound.asked_is ∙ wait.waited.asked_is)) sound_wait.sound.kept
        (server_from s.server sound_wait.sound.at sound_wait.sound.goes_to)
      where
        by_wait : (asked : Query) (home : ServerId) → asked ≡ wait.waited.query → IsItemOf sc home (item_of asked) → s.server ≡ home → has_item_at sc at other.owner ≡ true
        by_wait asked home is kept here =
            let found : slice_get sc.items item ≡ Some kept.declared =
            subst (λ (n : ℕ). slice_get sc.items n ≡ Some kept.declared) (ap (λ (k : Query). (item_of k).0) is ∙ wait.waited.item_is) kept.declared_is in
            has_item_by sc at other.owner stands.asked.number stands.asked.query stands.asked.asked_is
            (item_here sc at item stands.asked.query kept.declared stands.asked.item_is found (kept.server_is ∙ (sym here ∙ own.server_is)))

-- where a query waits, a younger transaction stands in its way
pub behind_younger : (sc : Scenario) (w : State) (at : ServerId) (part : Part Server) (s : Server) (txn : TxnId) (entry : Entry) (q : QueryRequest) → Holds sc w → IsServerUp w at part s → server.entry_at s txn ≡ Some entry → entry.waiting ≡ Some q
    → IsBehind sc w at s txn
behind_younger sc w at part s txn entry q h up found waiting =
    let locked : IsLockedServer sc s = of_some (IsLockedServer sc) part.up s up.up (h.serial.locked at.0 part up.found) in
    let dies : ServerDies sc w.facts at s = of_some (ServerDies sc w.facts at) part.up s up.up (h.deaths.servers at.0 part up.found) in
    let ages = of_some (λ (k : Server). EachPlaced (EntryAged (IsSubmission w.steps)) k.entries) part.up s up.up (h.ages.servers at.0 part up.found).entries in
    let own : IsSoundServerUp sc at s = of_some (IsSoundServerUp sc at) part.up s up.up (h.sound.actors_are.servers at.0 part up.found).state in
    let some : 1 ≤ waiting_on txn.0 s.locks.lists = locked.asks txn.0 entry found (ap is_some waiting) in
    let list = list_with txn.0 s.locks.lists some in
    by_list locked dies ages own list.0 list.1.0 list.1.1.0 list.1.1.1
  where
    by_list : IsLockedServer sc s → ServerDies sc w.facts at s → EachPlaced (EntryAged (IsSubmission w.steps)) s.entries → IsSoundServerUp sc at s → (item : ℕ) (entries : List LockEntry) → slice_get s.locks.lists item ≡ Some entries
        → 1 ≤ waiting_in txn.0 entries → IsBehind sc w at s txn
    by_list locked dies ages own item entries there some =
        let order : IsOrderly entries = subst IsOrderly (get_or_from_slice_get s.locks.lists item entries [] there) (orderly_at item s.locks.lists locked.orderly) in
        let fits : Each (LockFits sc s.entries item) entries = dies.locks item entries there in
        let waits : Each (LockWaits sc s.entries item) entries = locked.waits item entries there in
        blocked_behind sc w at s txn item
        (blocked_in (λ (lock : LockEntry). LockFits sc s.entries item lock × LockWaits sc s.entries item lock) txn.0 [] entries tt (each_two (LockFits sc s.entries item) (LockWaits sc s.entries item) entries fits waits) order.right order.younger some)
        ages own
