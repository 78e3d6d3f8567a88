-- What look-ups on a log say after one more record.
use Rattle.std.proofs.Common.{◌≡◌, ℕ, ◌+◌, ◌++◌, max, List, [], ◌∷◌, Option, Some, None, refl, ap, sym, ◌∙◌, arith, append_assoc, append-nil, ℤ}
use Rattle.std.specs.Option.{option_or}
use Rattle.tp_model.specs.Words.{AdminId, Prepared, Record, Scenario, Settled, TxnId}
use Rattle.tp_model.specs.Words.log
use Rattle.tp_model.specs.SerialRun.{opening_store}
use Rattle.tp_recover.specs.Log.{boots_in, first_settlement, known_in, preparation_in, prepared_in, settled_in, settlement_in, settlements_from, settlements_in, told_in, value_step, values_from, values_in, voted_in, while_unsettled}

-- ---- the first of two

pub first_none : {A : Type 0} (x : Option A) → option_or x None ≡ x
first_none None = refl
first_none (Some found) = refl

pub first_first : {A : Type 0} (x y z : Option A) → option_or (option_or x y) z ≡ option_or x (option_or y z)
first_first None y z = refl
first_first (Some found) y z = refl

-- ---- epochs

-- how often a record boots the server
abbrev pub boot_of : Record → ℕ
boot_of log.Boot = 1
boot_of _ = 0

boots_first : (first : Record) (records : List Record) → boots_in (first ∷ records) ≡ boots_in records + boot_of first
boots_first log.Boot records = refl
boots_first (log.Told t) records = omega arith
boots_first (log.Prepared p) records = omega arith
boots_first (log.Settled s) records = omega arith
boots_first (log.Decided d) records = omega arith

pub boots_push : (records : List Record) (next : Record) → boots_in (records ++ next ∷ []) ≡ boots_in records + boot_of next
boots_push [] next = boots_first next []
boots_push (first ∷ records) next = omega (arith, boots_first first (records ++ next ∷ []), boots_first first records, boots_push records next)

-- ---- versions

max_both : (n m : ℕ) → max n m ≡ max m n
max_both n m = omega arith

max_three : (n m k : ℕ) → max n (max m k) ≡ max (max n m) k
max_three n m k = omega arith

pub known_push : (first : ℕ) (admin : AdminId) (records : List Record) (next : Record)
    → known_in first admin (records ++ next ∷ []) ≡ max (known_in first admin records) (told_in admin next)
known_push first admin [] next = max_both (told_in admin next) first
known_push first admin (earliest ∷ records) next =
    ap (max (told_in admin earliest)) (known_push first admin records next)
    ∙ max_three (told_in admin earliest) (known_in first admin records) (told_in admin next)

-- ---- votes and settlements

pub settled_push : (txn : TxnId) (records : List Record) (next : Record)
    → settled_in txn (records ++ next ∷ []) ≡ option_or (settled_in txn records) (settlement_in txn next)
settled_push txn [] next = first_none (settlement_in txn next)
settled_push txn (first ∷ records) next =
    ap (option_or (settlement_in txn first)) (settled_push txn records next)
    ∙ sym (first_first (settlement_in txn first) (settled_in txn records) (settlement_in txn next))

pub voted_push : (txn : TxnId) (records : List Record) (next : Record)
    → voted_in txn (records ++ next ∷ []) ≡ option_or (preparation_in txn next) (voted_in txn records)
voted_push txn [] next = sym (first_none (preparation_in txn next))
voted_push txn (first ∷ records) next =
    ap (λ found. option_or found (preparation_in txn first)) (voted_push txn records next)
    ∙ first_first (preparation_in txn next) (voted_in txn records) (preparation_in txn first)

pub prepared_push : (txn : TxnId) (records : List Record) (next : Record) → prepared_in txn (records ++ next ∷ [])
    ≡ while_unsettled (option_or (settled_in txn records) (settlement_in txn next)) (option_or (preparation_in txn next) (voted_in txn records))
prepared_push txn records next =
    ap (λ (s : Option Settled). while_unsettled s (voted_in txn (records ++ next ∷ []))) (settled_push txn records next)
    ∙ ap (while_unsettled (option_or (settled_in txn records) (settlement_in txn next))) (voted_push txn records next)

-- a record that does not settle the transaction leaves how it is settled
pub settled_stays : (txn : TxnId) (records : List Record) (next : Record) → settlement_in txn next ≡ None
    → settled_in txn (records ++ next ∷ []) ≡ settled_in txn records
settled_stays txn records next none =
    settled_push txn records next ∙ ap (option_or (settled_in txn records)) none ∙ first_none (settled_in txn records)

-- one that does not prepare it either leaves what is prepared
pub prepared_stays : (txn : TxnId) (records : List Record) (next : Record) → settlement_in txn next ≡ None → preparation_in txn next ≡ None
    → prepared_in txn (records ++ next ∷ []) ≡ prepared_in txn records
prepared_stays txn records next none unvoted =
    prepared_push txn records next
    ∙ ap (λ (s : Option Settled). while_unsettled (option_or (settled_in txn records) s) (option_or (preparation_in txn next) (voted_in txn records))) none
    ∙ ap (λ (s : Option Settled). while_unsettled s (option_or (preparation_in txn next) (voted_in txn records))) (first_none (settled_in txn records))
    ∙ ap (λ (p : Option Prepared). while_unsettled (settled_in txn records) (option_or p (voted_in txn records))) unvoted

-- ---- values, and settlements in their order

values_further : (values : List ℤ) (before records : List Record) (next : Record)
    → values_from values before (records ++ next ∷ []) ≡ value_step (values_from values before records) (before ++ records) next
values_further values before [] next = ap (λ (all : List Record). value_step values all next) (sym (append-nil before))
values_further values before (first ∷ records) next =
    let later : List ℤ = value_step values before first in
    values_further later (before ++ first ∷ []) records next
    ∙ ap (λ (all : List Record). value_step (values_from later (before ++ first ∷ []) records) all next) (append_assoc before (first ∷ []) records)

pub values_push : (sc : Scenario) (records : List Record) (next : Record)
    → values_in sc (records ++ next ∷ []) ≡ value_step (values_in sc records) records next
values_push sc records next = values_further (opening_store sc) [] records next

settlements_further : (before records : List Record) (next : Record)
    → settlements_from before (records ++ next ∷ []) ≡ settlements_from before records ++ first_settlement (before ++ records) next
settlements_further before [] next = append-nil (first_settlement before next) ∙ ap (λ (all : List Record). first_settlement all next) (sym (append-nil before))
settlements_further before (first ∷ records) next =
    let here : List Settled = first_settlement before first in
    ap (λ (later : List Settled). here ++ later)
    (settlements_further (before ++ first ∷ []) records next
    ∙ ap (λ (all : List Record). settlements_from (before ++ first ∷ []) records ++ first_settlement all next) (append_assoc before (first ∷ []) records))
    ∙ sym (append_assoc here (settlements_from (before ++ first ∷ []) records) (first_settlement (before ++ first ∷ records) next))

pub settlements_push : (records : List Record) (next : Record)
    → settlements_in (records ++ next ∷ []) ≡ settlements_in records ++ first_settlement records next
settlements_push records next = settlements_further [] records next
