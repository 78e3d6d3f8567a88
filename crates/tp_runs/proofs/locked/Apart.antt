-- Locks that are held keep the deeds of two transactions apart: where they did something on one item, both read it.
use Rattle.std.proofs.Common.{Bool, List, Option, Some, [], ap, arith, false, inl, inr, length, not, refl, slice_get, slice_index_or, subst, suc, sym, true, zero, ℕ, ◌&&◌, ◌<◌, ◌==◌, ◌||◌, ◌∙◌, ◌∷◌, ◌≡◌}
use Rattle.std.proofs.lemmas.Bool.{and_parts, cases_lt, eqb-true, ne_eqb, or_parts}
use Rattle.std.proofs.lemmas.List.Folds.{Any-from_list_any}
use Rattle.std.specs.Option.{option_flatten}
use Rattle.tp_model.specs.Words.{Action, Deed, ItemId, Scenario, TxnId}
use Rattle.tp_model.specs.Words.action
use Rattle.tp_lock.proofs.OrderLemmas.{held_apart}
use Rattle.tp_lock.proofs.RequestLaws.{orderly_at}
use Rattle.tp_lock.specs.Laws.{Holds}
use Rattle.tp_lock.specs.Order.{IsOrderly}
use Rattle.tp_lock.specs.Rule.{conflicts, entries_at, is_of, is_write, serves}
use Rattle.tp_lock.specs.Table.{Table}
use Rattle.tp_lock.specs.declared.entry.LockEntry.{LockEntry}
use Rattle.tp_types.proofs.EachLemmas.{each_as}
use Rattle.tp_runs.proofs.locked.Fit.{DeedLocked, Locked}
use Rattle.tp_runs.proofs.deeds.Reads.{AreClear, AreReads, IsClear}
use Rattle.tp_types.specs.Each.{Each}
use Rattle.tp_server.specs.declared.server.Entry.{Entry}

-- ---- two locks

-- a lock that is not to write serves reads alone
reads_alone : (mode asked : Action) → (is_write mode || not (is_write asked)) ≡ true → is_write mode ≡ false → asked ≡ action.Read
reads_alone mode action.Read e f = refl
reads_alone action.Read action.Write e f = absurd (cc)
reads_alone action.Write action.Write e f = absurd (cc)

-- what is not in conflict, of two owners, both reads
no_conflict : (one other : LockEntry) → (one.owner.0 ≡ other.owner.0 → ⊥) → conflicts other.owner other.mode one ≡ false → (is_write other.mode ≡ false) × (is_write one.mode ≡ false)
no_conflict one other apart e =
    let others : (one.owner.0 == other.owner.0) ≡ false = ne_eqb one.owner.0 other.owner.0 apart in
    or_parts (is_write other.mode) (is_write one.mode) (sym (ap (λ (b : Bool). not b && (is_write other.mode || is_write one.mode)) others) ∙ e)

-- a lock that serves is held, of the owner, and serves in its mode
record Serves (owner : TxnId) (mode : Action) (lock : LockEntry) : Type 0 where
  held : lock.held ≡ true
  own : lock.owner.0 ≡ owner.0
  serving : (is_write lock.mode || not (is_write mode)) ≡ true

serving : (owner : TxnId) (mode : Action) (lock : LockEntry) → serves owner mode lock ≡ true → Serves owner mode lock
serving owner mode lock e =
    let parts = and_parts lock.held (is_of owner lock && (is_write lock.mode || not (is_write mode))) e in
    let rest = and_parts (is_of owner lock) (is_write lock.mode || not (is_write mode)) parts.1 in
    record { held = parts.0; own = eqb-true lock.owner.0 owner.0 rest.0; serving = rest.1 }

-- ---- one list

any_default : (entries : List LockEntry) (place : ℕ) (x d : LockEntry) → place < length entries → slice_index_or entries place d ≡ slice_index_or entries place x
any_default [] place x d lt = absurd (omega (arith, lt))
any_default (lock ∷ entries) zero x d lt = refl
any_default (lock ∷ entries) (suc place) x d lt = any_default entries place x d (omega (arith, lt))

-- the one stands before the other
ordered_reads : (entries : List LockEntry) → IsOrderly entries → (owner next : TxnId) (mode asked : Action) (i j : ℕ) (lock later : LockEntry) → (owner.0 ≡ next.0 → ⊥) → i < j → j < length entries → slice_index_or entries i lock ≡ lock
    → slice_index_or entries j later ≡ later → Serves owner mode lock → Serves next asked later → AreReads mode asked
ordered_reads entries orderly owner next mode asked i j lock later others less within is there s t =
    let stands : slice_index_or entries i later ≡ lock = any_default entries i lock later (omega (arith, less, within)) ∙ is in
    let excluded = held_apart entries orderly i j later less within in
    let clear : conflicts later.owner later.mode lock ≡ false =
    subst (λ (x : LockEntry). conflicts x.owner x.mode lock ≡ false) there
    (subst (λ (x : LockEntry). conflicts (slice_index_or entries j later).owner (slice_index_or entries j later).mode x ≡ false) stands
    (excluded (ap (λ (x : LockEntry). x.held) stands ∙ s.held) (ap (λ (x : LockEntry). x.held) there ∙ t.held))) in
    let reads = no_conflict lock later (λ same. others (sym s.own ∙ same ∙ t.own)) clear in
    (reads_alone lock.mode mode s.serving reads.1, reads_alone later.mode asked t.serving reads.0)

held_reads : (entries : List LockEntry) → IsOrderly entries → (one other : TxnId) (a b : Action) → (one.0 ≡ other.0 → ⊥) → Holds one a entries → Holds other b entries → AreReads a b
held_reads entries orderly one other a b apart h k =
    let x = Any-from_list_any (serves one a) entries h in
    let y = Any-from_list_any (serves other b) entries k in
    let s = serving one a x.1 x.4 in
    let t = serving other b y.1 y.4 in
    elim (cases_lt x.0 y.0) [
      | inl lt ↦ ordered_reads entries orderly one other a b x.0 y.0 x.1 y.1 apart lt y.2 x.3 y.3 s t
      | inr past ↦ elim (cases_lt y.0 x.0) [
        | inl lt ↦ let reads = ordered_reads entries orderly other one b a y.0 x.0 y.1 x.1 (λ same. apart (sym same)) lt x.2 y.3 x.3 t s in (reads.1, reads.0)
        | inr over ↦
            let place : x.0 ≡ y.0 = omega (arith, past, over) in
            let same : x.1 ≡ y.1 = sym x.3 ∙ ap (λ (n : ℕ). slice_index_or entries n x.1) place ∙ any_default entries y.0 y.1 x.1 y.2 ∙ y.3 in
            absurd (apart (sym s.own ∙ ap (λ (l : LockEntry). l.owner.0) same ∙ t.own))
      ]
    ]

-- ---- the deeds of two entries

pub entries_apart : (sc : Scenario) (entries : List (Option Entry)) (locks : Table) (n m : ℕ) (one other : Entry) → Locked sc entries locks → (n ≡ m → ⊥) → option_flatten (slice_get entries n) ≡ Some one → option_flatten (slice_get entries m) ≡ Some other
    → AreClear one.deeds other.deeds
entries_apart sc entries locks n m one other h apart e f =
    each_as (DeedLocked locks (record { 0 = n })) (λ (deed : Deed). Each (IsClear deed) other.deeds)
    (λ deed held. each_as (DeedLocked locks (record { 0 = m })) (IsClear deed) (λ second theirs. clear deed second held theirs) other.deeds (h.deeds m other f)) one.deeds (h.deeds n one e)
  where
    clear : (deed second : Deed) → DeedLocked locks (record { 0 = n }) deed → DeedLocked locks (record { 0 = m }) second → IsClear deed second
    clear deed second held theirs same =
        let item : second.item ≡ deed.item = ap (λ (k : ℕ). record { 0 = k }) (sym same) in
        held_reads (entries_at deed.item locks) (orderly_at deed.item.0 locks.lists h.orderly) (record { 0 = n }) (record { 0 = m }) deed.action second.action apart held
        (subst (λ (i : ItemId). Holds (record { 0 = m }) second.action (entries_at i locks)) item theirs)
