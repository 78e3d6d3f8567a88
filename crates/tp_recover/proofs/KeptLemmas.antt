-- What is kept of a log is what the log says.
use Rattle.std.proofs.Common.{◌≡◌, ℕ, suc, zero, fold, ◌+◌, ◌<◌, ◌++◌, max, Bool, true, false, if◌then◌else◌, is_some, List, [], ◌∷◌, length, slice_get, slice_set, Option, Some, None, refl, ap, sym, subst, ◌∙◌, arith, append_assoc, append-nil, ℤ}
use Rattle.std.proofs.lemmas.Bool.{eqb-false, eqb-true}
use Rattle.std.proofs.lemmas.List.{get_or-set_other, get_or-set_same, length-replicate, length-set}
use Rattle.std.proofs.lemmas.Option.{unwrap_or-slice_get}
use Rattle.std.specs.Option.{option_flatten, option_map_or, option_or}
use Rattle.tp_types.specs.Each.{Each}
use Rattle.tp_types.proofs.EachLemmas.{set_here, unset_at}
use Rattle.tp_model.specs.Words.{AdminId, Decided, Prepared, Record, Scenario, ServerId, Settled, Told, TxnId, Version}
use Rattle.tp_model.specs.Words.log
use Rattle.tp_model.specs.Ids.{same_admin, same_txn}
use Rattle.tp_store.specs.Rule.{greater, known_at_first}
use Rattle.tp_recover.specs.declared.kept.Kept.{Kept}
use Rattle.tp_recover.specs.Kept.{kept, kept_end, kept_first, kept_step, kept_told, kept_vote, of_txn, version_at, with_all_told, with_told}
use Rattle.tp_recover.specs.Laws.{IsOfScenario, SaysLog}
use Rattle.tp_recover.specs.Log.{deeds_of_prepared, ended_first, epoch_in, known_in, prepared_in, settled_in, settlements_in, told_in, values_by, values_in, voted_in, while_unsettled}
use Rattle.tp_recover.proofs.LogLemmas.{boot_of, boots_push, first_none, known_push, prepared_push, prepared_stays, settled_push, settled_stays, settlements_push, values_push}

-- ---- tables

pub same_txn_is : (one other : TxnId) → same_txn one other ≡ true → one ≡ other
same_txn_is one other e = ap (λ (n : ℕ). let txn : TxnId = record { 0 = n } in txn) (eqb-true one.0 other.0 e)

other_stays : {A : Type 0} (xs : List A) (i j : ℕ) (x : A) → (i ≡ j → ⊥) → slice_get (slice_set xs i x) j ≡ slice_get xs j
other_stays [] i j x apart = refl
other_stays (y ∷ xs) zero zero x apart = absurd (apart refl)
other_stays (y ∷ xs) zero (suc j) x apart = refl
other_stays (y ∷ xs) (suc i) zero x apart = refl
other_stays (y ∷ xs) (suc i) (suc j) x apart = other_stays xs i j x (λ e. apart (ap suc e))

-- what a table has of a transaction after one place was written
look_after : {A : Type 0} (table : List (Option A)) (one other : TxnId) (x : Option A) → one.0 < length table
    → of_txn (slice_set table one.0 x) other ≡ (if same_txn one other then x else of_txn table other)
look_after {A = A} table one other x within = chosen (same_txn one other) refl
  where
    chosen : (b : Bool) → same_txn one other ≡ b → of_txn (slice_set table one.0 x) other ≡ (if b then x else of_txn table other)
    chosen true same =
        ap (λ (txn : TxnId). of_txn (slice_set table one.0 x) txn) (sym (same_txn_is one other same)) ∙ ap option_flatten (set_here table one.0 x within)
    chosen false apart = ap option_flatten (other_stays table one.0 other.0 x (eqb-false one.0 other.0 apart))

-- ---- versions

max_none : (n : ℕ) → max n 0 ≡ n
max_none n = omega arith

-- the number known of an administrator after one is told
told_at : (newest : List Version) (t : Told) (admin : AdminId) → admin.0 < length newest
    → (version_at (with_told newest t.admin.0 t.version) admin.0).0 ≡ max (version_at newest admin.0).0 (told_in admin (log.Told t))
told_at newest t admin within = chosen (same_admin t.admin admin) refl
  where
    one : Version
    one = record { 0 = 1 }

    chosen : (b : Bool) → same_admin t.admin admin ≡ b
        → (version_at (with_told newest t.admin.0 t.version) admin.0).0 ≡ max (version_at newest admin.0).0 (if b then t.version.0 else 0)
    chosen true same =
        let e : t.admin.0 ≡ admin.0 = eqb-true t.admin.0 admin.0 same in
        let next : Version = greater (version_at newest admin.0) t.version in
        ap (λ (n : ℕ). (version_at (with_told newest n t.version) admin.0).0) e
        ∙ ap (λ (v : Version). v.0) (unwrap_or-slice_get (slice_set newest admin.0 next) admin.0 one ∙ get_or-set_same newest admin.0 next one within)
    chosen false apart =
        let next : Version = greater (version_at newest t.admin.0) t.version in
        let other : admin.0 ≡ t.admin.0 → ⊥ = λ e. eqb-false t.admin.0 admin.0 apart (sym e) in
        ap (λ (v : Version). v.0)
        (unwrap_or-slice_get (slice_set newest t.admin.0 next) admin.0 one ∙ get_or-set_other newest t.admin.0 admin.0 next one other
        ∙ sym (unwrap_or-slice_get newest admin.0 one))
        ∙ sym (max_none (version_at newest admin.0).0)

-- the number known of each after a list is told
all_told_at : (newest told : List Version) (n : ℕ) → n < length newest
    → (version_at (with_all_told newest told) n).0 ≡ max (version_at newest n).0 (option_map_or (λ (v : Version). v.0) (slice_get told n) 0)
all_told_at [] told n within = absurd (omega (arith, within))
all_told_at (known ∷ newest) [] n within = sym (max_none (version_at (known ∷ newest) n).0)
all_told_at (known ∷ newest) (version ∷ told) zero within = refl
all_told_at (known ∷ newest) (version ∷ told) (suc n) within = all_told_at newest told n (omega (arith, within))

length_all_told : (newest told : List Version) → length (with_all_told newest told) ≡ length newest
length_all_told [] told = refl
length_all_told (known ∷ newest) [] = refl
length_all_told (known ∷ newest) (version ∷ told) = ap suc (length_all_told newest told)

-- ---- one more record

-- the first version known of an administrator
abbrev first_of : Scenario → ServerId → AdminId → ℕ
first_of sc at admin = (version_at (known_at_first sc at) admin.0).0

untold : (sc : Scenario) (at : ServerId) (k : Kept) (records : List Record) (next : Record) (admin : AdminId) → SaysLog sc at k records
    → told_in admin next ≡ 0 → admin.0 < length k.newest → (version_at k.newest admin.0).0 ≡ known_in (first_of sc at admin) admin (records ++ next ∷ [])
untold sc at k records next admin h none within =
    h.newest admin within
    ∙ sym (known_push (first_of sc at admin) admin records next ∙ ap (max (known_in (first_of sc at admin) admin records)) none
    ∙ max_none (known_in (first_of sc at admin) admin records))

says_boot : (sc : Scenario) (at : ServerId) (k : Kept) (records : List Record) → SaysLog sc at k records
    → SaysLog sc at (kept_step k log.Boot) (records ++ log.Boot ∷ [])
says_boot sc at k records h =
    record {
      epoch = ap (λ (n : ℕ). n + 1) (h.epoch ∙ sym (boots_push records log.Boot));
      newest = λ admin within. untold sc at k records log.Boot admin h refl within;
      values = h.values ∙ sym (values_push sc records log.Boot);
      prepared = λ txn within. h.prepared txn within ∙ sym (prepared_stays txn records log.Boot refl refl);
      settled = λ txn within. h.settled txn within ∙ sym (settled_stays txn records log.Boot refl);
      in_order = h.in_order ∙ sym (settlements_push records log.Boot ∙ append-nil (settlements_in records));
      admins = h.admins;
      prepared_places = h.prepared_places;
      settled_places = h.settled_places;
    }

same_epoch : (k : Kept) (records : List Record) (next : Record) → boot_of next ≡ 0 → k.epoch ≡ epoch_in records → k.epoch ≡ epoch_in (records ++ next ∷ [])
same_epoch k records next none is = omega (arith, boots_push records next)

says_decided : (sc : Scenario) (at : ServerId) (k : Kept) (records : List Record) (d : Decided) → SaysLog sc at k records
    → SaysLog sc at (kept_step k (log.Decided d)) (records ++ log.Decided d ∷ [])
says_decided sc at k records d h =
    record {
      epoch = same_epoch k records (log.Decided d) refl h.epoch;
      newest = λ admin within. untold sc at k records (log.Decided d) admin h refl within;
      values = h.values ∙ sym (values_push sc records (log.Decided d));
      prepared = λ txn within. h.prepared txn within ∙ sym (prepared_stays txn records (log.Decided d) refl refl);
      settled = λ txn within. h.settled txn within ∙ sym (settled_stays txn records (log.Decided d) refl);
      in_order = h.in_order ∙ sym (settlements_push records (log.Decided d) ∙ append-nil (settlements_in records));
      admins = h.admins;
      prepared_places = h.prepared_places;
      settled_places = h.settled_places;
    }

says_told : (sc : Scenario) (at : ServerId) (k : Kept) (records : List Record) (t : Told) → SaysLog sc at k records
    → SaysLog sc at (kept_step k (log.Told t)) (records ++ log.Told t ∷ [])
says_told sc at k records t h =
    let next : Record = log.Told t in
    let long : length (with_told k.newest t.admin.0 t.version) ≡ length k.newest =
    length-set k.newest t.admin.0 (greater (version_at k.newest t.admin.0) t.version) in
    record {
      epoch = same_epoch k records next refl h.epoch;
      newest = λ admin within.
          let inside : admin.0 < length k.newest = omega arith in
          told_at k.newest t admin inside ∙ ap (λ (n : ℕ). max n (told_in admin next)) (h.newest admin inside)
          ∙ sym (known_push (first_of sc at admin) admin records next);
      values = h.values ∙ sym (values_push sc records next);
      prepared = λ txn within. h.prepared txn within ∙ sym (prepared_stays txn records next refl refl);
      settled = λ txn within. h.settled txn within ∙ sym (settled_stays txn records next refl);
      in_order = h.in_order ∙ sym (settlements_push records next ∙ append-nil (settlements_in records));
      admins = long ∙ h.admins;
      prepared_places = h.prepared_places;
      settled_places = h.settled_places;
    }

-- ---- a vote

settled_same : (one other : TxnId) (records : List Record) (was : Option Settled) → same_txn one other ≡ true → settled_in one records ≡ was → settled_in other records ≡ was
settled_same one other records was same e = ap (λ (txn : TxnId). settled_in txn records) (sym (same_txn_is one other same)) ∙ e

-- what a vote of a transaction that is not settled leaves prepared
voted_first : (records : List Record) (p : Prepared) (txn : TxnId) (old : Option Prepared) (b : Bool) → same_txn p.txn txn ≡ b → settled_in p.txn records ≡ None
    → old ≡ prepared_in txn records
    → (if b then Some p else old) ≡ while_unsettled (option_or (settled_in txn records) None) (option_or (if b then Some p else None) (voted_in txn records))
voted_first records p txn old true same e is =
    sym (ap (λ (s : Option Settled). while_unsettled (option_or s None) (Some p)) (settled_same p.txn txn records None same e))
voted_first records p txn old false apart e is =
    is ∙ sym (ap (λ (s : Option Settled). while_unsettled s (voted_in txn records)) (first_none (settled_in txn records)))

-- a vote of a settled one leaves what is prepared
voted_late : (records : List Record) (p : Prepared) (txn : TxnId) (before : Settled) (b : Bool) → same_txn p.txn txn ≡ b → settled_in p.txn records ≡ Some before
    → prepared_in txn records ≡ while_unsettled (option_or (settled_in txn records) None) (option_or (if b then Some p else None) (voted_in txn records))
voted_late records p txn before true same e =
    let here : settled_in txn records ≡ Some before = settled_same p.txn txn records (Some before) same e in
    ap (λ (s : Option Settled). while_unsettled s (voted_in txn records)) here
    ∙ sym (ap (λ (s : Option Settled). while_unsettled (option_or s None) (Some p)) here)
voted_late records p txn before false apart e =
    sym (ap (λ (s : Option Settled). while_unsettled s (voted_in txn records)) (first_none (settled_in txn records)))

prepared_after : (sc : Scenario) (at : ServerId) (k : Kept) (records : List Record) (p : Prepared) (was : Option Settled) (txn : TxnId) → SaysLog sc at k records
    → settled_in p.txn records ≡ was → p.txn.0 < length sc.txns → txn.0 < length sc.txns
    → of_txn (kept_vote (kept_told k p.told) p was).prepared txn ≡ prepared_in txn (records ++ log.Prepared p ∷ [])
prepared_after sc at k records p None txn h e there within =
    let inside : p.txn.0 < length k.prepared = omega (arith, h.prepared_places) in
    look_after k.prepared p.txn txn (Some p) inside
    ∙ voted_first records p txn (of_txn k.prepared txn) (same_txn p.txn txn) refl e (h.prepared txn within) ∙ sym (prepared_push txn records (log.Prepared p))
prepared_after sc at k records p (Some before) txn h e there within =
    h.prepared txn within ∙ voted_late records p txn before (same_txn p.txn txn) refl e ∙ sym (prepared_push txn records (log.Prepared p))

length_after : (k : Kept) (p : Prepared) (was : Option Settled) → length (kept_vote k p was).prepared ≡ length k.prepared
length_after k p None = length-set k.prepared p.txn.0 (Some p)
length_after k p (Some before) = refl

-- what a vote does not touch
record VoteKeeps (k after : Kept) : Type 0 where
  epoch : after.epoch ≡ k.epoch
  newest : after.newest ≡ k.newest
  values : after.values ≡ k.values
  settled : after.settled ≡ k.settled
  in_order : after.in_order ≡ k.in_order

vote_keeps : (k : Kept) (p : Prepared) (was : Option Settled) → VoteKeeps k (kept_vote k p was)
vote_keeps k p None = record { epoch = refl; newest = refl; values = refl; settled = refl; in_order = refl }
vote_keeps k p (Some before) = record { epoch = refl; newest = refl; values = refl; settled = refl; in_order = refl }

says_vote : (sc : Scenario) (at : ServerId) (k : Kept) (records : List Record) (p : Prepared) (was : Option Settled) → SaysLog sc at k records
    → settled_in p.txn records ≡ was → p.txn.0 < length sc.txns → SaysLog sc at (kept_vote (kept_told k p.told) p was) (records ++ log.Prepared p ∷ [])
says_vote sc at k records p was h e there =
    let next : Record = log.Prepared p in
    let same = vote_keeps (kept_told k p.told) p was in
    let long : length (with_all_told k.newest p.told) ≡ length k.newest = length_all_told k.newest p.told in
    record {
      epoch = same.epoch ∙ same_epoch k records next refl h.epoch;
      newest = λ admin within.
          let inside : admin.0 < length k.newest = omega (arith, ap length same.newest) in
          ap (λ (newest : List Version). (version_at newest admin.0).0) same.newest
          ∙ all_told_at k.newest p.told admin.0 inside ∙ ap (λ (n : ℕ). max n (told_in admin next)) (h.newest admin inside)
          ∙ sym (known_push (first_of sc at admin) admin records next);
      values = same.values ∙ h.values ∙ sym (values_push sc records next);
      prepared = λ txn within. prepared_after sc at k records p was txn h e there within;
      settled = λ txn within.
          ap (λ (table : List (Option Settled)). of_txn table txn) same.settled ∙ h.settled txn within ∙ sym (settled_stays txn records next refl);
      in_order = same.in_order ∙ h.in_order ∙ sym (settlements_push records next ∙ append-nil (settlements_in records));
      admins = ap length same.newest ∙ long ∙ h.admins;
      prepared_places = length_after (kept_told k p.told) p was ∙ h.prepared_places;
      settled_places = ap length same.settled ∙ h.settled_places;
    }

-- ---- a settlement

-- how the transaction is settled after its first settlement
settled_first : (records : List Record) (s : Settled) (txn : TxnId) (old : Option Settled) (b : Bool) → same_txn s.txn txn ≡ b → settled_in s.txn records ≡ None
    → old ≡ settled_in txn records → (if b then Some s else old) ≡ option_or (settled_in txn records) (if b then Some s else None)
settled_first records s txn old true same e is = sym (ap (λ (x : Option Settled). option_or x (Some s)) (settled_same s.txn txn records None same e))
settled_first records s txn old false apart e is = is ∙ sym (first_none (settled_in txn records))

ended_first_time : (records : List Record) (s : Settled) (txn : TxnId) (old : Option Prepared) (b : Bool) → same_txn s.txn txn ≡ b → settled_in s.txn records ≡ None
    → old ≡ prepared_in txn records
    → (if b then None else old) ≡ while_unsettled (option_or (settled_in txn records) (if b then Some s else None)) (voted_in txn records)
ended_first_time records s txn old true same e is =
    sym (ap (λ (x : Option Settled). while_unsettled (option_or x (Some s)) (voted_in txn records)) (settled_same s.txn txn records None same e))
ended_first_time records s txn old false apart e is =
    is ∙ sym (ap (λ (x : Option Settled). while_unsettled x (voted_in txn records)) (first_none (settled_in txn records)))

-- a later settlement leaves it
pub settled_late : (records : List Record) (s : Settled) (txn : TxnId) (before : Settled) (b : Bool) → same_txn s.txn txn ≡ b → settled_in s.txn records ≡ Some before
    → settled_in txn records ≡ option_or (settled_in txn records) (if b then Some s else None)
settled_late records s txn before true same e =
    let here : settled_in txn records ≡ Some before = settled_same s.txn txn records (Some before) same e in
    here ∙ sym (ap (λ (x : Option Settled). option_or x (Some s)) here)
settled_late records s txn before false apart e = sym (first_none (settled_in txn records))

says_end : (sc : Scenario) (at : ServerId) (k : Kept) (records : List Record) (s : Settled) (was : Option Settled) → SaysLog sc at k records
    → settled_in s.txn records ≡ was → s.txn.0 < length sc.txns → SaysLog sc at (kept_end k s was) (records ++ log.Settled s ∷ [])
says_end sc at k records s None h e there =
    let next : Record = log.Settled s in
    record {
      epoch = same_epoch k records next refl h.epoch;
      newest = λ admin within. untold sc at k records next admin h refl within;
      values =
          ap (λ (values : List ℤ). values_by values s.outcome (deeds_of_prepared (of_txn k.prepared s.txn))) h.values
          ∙ ap (λ (p : Option Prepared). values_by (values_in sc records) s.outcome (deeds_of_prepared p)) (h.prepared s.txn there)
          ∙ sym (values_push sc records next
          ∙ ap (λ (x : Option Settled). ended_first (values_in sc records) s.outcome x (prepared_in s.txn records)) e);
      prepared = λ txn within.
          let inside : s.txn.0 < length k.prepared = omega (arith, h.prepared_places) in
          look_after k.prepared s.txn txn None inside
          ∙ ended_first_time records s txn (of_txn k.prepared txn) (same_txn s.txn txn) refl e (h.prepared txn within) ∙ sym (prepared_push txn records next);
      settled = λ txn within.
          let inside : s.txn.0 < length k.settled = omega (arith, h.settled_places) in
          look_after k.settled s.txn txn (Some s) inside
          ∙ settled_first records s txn (of_txn k.settled txn) (same_txn s.txn txn) refl e (h.settled txn within) ∙ sym (settled_push txn records next);
      in_order =
          ap (λ (before : List Settled). before ++ s ∷ []) h.in_order
          ∙ sym (settlements_push records next ∙ ap (λ (x : Option Settled). settlements_in records ++ (if is_some x then [] else s ∷ [])) e);
      admins = h.admins;
      prepared_places = length-set k.prepared s.txn.0 None ∙ h.prepared_places;
      settled_places = length-set k.settled s.txn.0 (Some s) ∙ h.settled_places;
    }
says_end sc at k records s (Some before) h e there =
    let next : Record = log.Settled s in
    record {
      epoch = same_epoch k records next refl h.epoch;
      newest = λ admin within. untold sc at k records next admin h refl within;
      values = h.values
          ∙ sym (values_push sc records next
          ∙ ap (λ (x : Option Settled). ended_first (values_in sc records) s.outcome x (prepared_in s.txn records)) e);
      prepared = λ txn within.
          h.prepared txn within
          ∙ ap (λ (x : Option Settled). while_unsettled x (voted_in txn records)) (settled_late records s txn before (same_txn s.txn txn) refl e)
          ∙ sym (prepared_push txn records next);
      settled = λ txn within.
          h.settled txn within ∙ settled_late records s txn before (same_txn s.txn txn) refl e ∙ sym (settled_push txn records next);
      in_order = h.in_order
          ∙ sym (settlements_push records next ∙ ap (λ (x : Option Settled). settlements_in records ++ (if is_some x then [] else s ∷ [])) e
          ∙ append-nil (settlements_in records));
      admins = h.admins;
      prepared_places = h.prepared_places;
      settled_places = h.settled_places;
    }

-- ---- the laws

-- what is kept says what the log does, after one more record
pub kept_says : (sc : Scenario) (at : ServerId) (k : Kept) (records : List Record) (next : Record) → SaysLog sc at k records → IsOfScenario sc next
    → SaysLog sc at (kept_step k next) (records ++ next ∷ [])
kept_says sc at k records log.Boot h there = says_boot sc at k records h
kept_says sc at k records (log.Told t) h there = says_told sc at k records t h
kept_says sc at k records (log.Prepared p) h there =
    subst (λ (was : Option Settled). SaysLog sc at (kept_vote (kept_told k p.told) p was) (records ++ log.Prepared p ∷ [])) (sym (h.settled p.txn there))
    (says_vote sc at k records p (settled_in p.txn records) h refl there)
kept_says sc at k records (log.Settled s) h there =
    subst (λ (was : Option Settled). SaysLog sc at (kept_end k s was) (records ++ log.Settled s ∷ [])) (sym (h.settled s.txn there))
    (says_end sc at k records s (settled_in s.txn records) h refl there)
kept_says sc at k records (log.Decided d) h there = says_decided sc at k records d h

first_says : (sc : Scenario) (at : ServerId) → SaysLog sc at (kept_first sc at) []
first_says sc at =
    record {
      epoch = refl;
      newest = λ admin within. refl;
      values = refl;
      prepared = λ txn within. unset_at (length sc.txns) txn.0;
      settled = λ txn within. unset_at (length sc.txns) txn.0;
      in_order = refl;
      admins = refl;
      prepared_places = length-replicate (length sc.txns) None;
      settled_places = length-replicate (length sc.txns) None;
    }

says_from : (sc : Scenario) (at : ServerId) (k : Kept) (before records : List Record) → SaysLog sc at k before → Each (IsOfScenario sc) records
    → SaysLog sc at (fold kept_step k records) (before ++ records)
says_from sc at k before [] h each = subst (SaysLog sc at k) (sym (append-nil before)) h
says_from sc at k before (next ∷ records) h each =
    subst (SaysLog sc at (fold kept_step (kept_step k next) records)) (append_assoc before (next ∷ []) records)
    (says_from sc at (kept_step k next) (before ++ next ∷ []) records (kept_says sc at k before next h each.0) each.1)

-- what is kept of a log whose records name transactions of the scenario alone says what the log does
pub kept_law : (sc : Scenario) (at : ServerId) (records : List Record) → Each (IsOfScenario sc) records → SaysLog sc at (kept sc at records) records
kept_law sc at records each = says_from sc at (kept_first sc at) [] records (first_says sc at) each
