-- Laws of what logs say as they grow, and of look-ups in lists of which one member changes.
use Rattle.std.specs.Option.{option_map_or, option_or}
use Rattle.std.proofs.Common.{Bool, IfSome, List, max, None, Option, Some, [], ap, arith, drop, false, flat_map, if◌then◌else◌, is_some, length, option_and_then, refl, slice_get, slice_set, subst, suc, sym, true, zero, ℕ, ◌++◌, ◌==◌, ◌∙◌, ◌∷◌, ◌≡◌, option_map}
use Rattle.std.proofs.Math.Seq.{drop-append_seam, drop-length}
use Rattle.std.proofs.lemmas.Bool.Decides.{nat_tests}
use Rattle.std.proofs.lemmas.Option.{same_Some}
use Rattle.std.proofs.lemmas.List.{append-nil}
use Rattle.tp_model.specs.Ids.{same_txn}
use Rattle.tp_model.specs.Words.{AdminId, Prepared, Record, Settled, TxnId, What}
use Rattle.tp_model.specs.Words.log
use Rattle.tp_recover.specs.Log.{decided_in, decision_in, has_voted, is_prepared_or_settled, known_in, preparation_in, prepared_in, settled_in, settlement_in, told_in, voted_in, while_unsettled}
use Rattle.tp_recover.proofs.LogLemmas.{first_first, first_none, known_push, settled_push, voted_push}
use Rattle.tp_actor_log.specs.Records.{log_with}
use Rattle.tp_runs.proofs.basics.Ids.{same_txn_is}

-- ---- the first of two

pub later_some : {A : Type 0} (x y : Option A) → is_some y ≡ true → is_some (option_or x y) ≡ true
later_some None y e = e
later_some (Some found) y e = refl

pub first_kept : {A : Type 0} (x y : Option A) → is_some x ≡ true → option_or x y ≡ x
first_kept None y e = absurd (cc)
first_kept (Some found) y e = refl

pub map_first : {A : Type 0} {B : Type 0} (f : A → B) (x y : Option A) → option_or (option_map f x) (option_map f y) ≡ option_map f (option_or x y)
map_first f None y = refl
map_first f (Some found) y = refl

-- what is found stays found
pub first_stays : {A : Type 0} (x y : Option A) (found : A) → x ≡ Some found → option_or x y ≡ Some found
first_stays x y found e = ap (λ z. option_or z y) e

abbrev pub listed : {A : Type 0} → Option A → List A
listed None = []
listed (Some found) = found ∷ []

abbrev pub IsFresh : {A : Type 0} {B : Type 0} → Option A → Option B → Type 0
IsFresh None old = Unit {0}
IsFresh (Some new) old = old ≡ None

-- two lists of at most one member each, of which the second comes only where the first is empty
pub listed_first : {A : Type 0} (old new : Option A) → IsFresh new old → listed old ++ listed new ≡ listed (option_or old new)
listed_first None new fresh = refl
listed_first (Some found) None fresh = refl
listed_first (Some found) (Some new) fresh = absurd (cc)

-- ---- one more record

abbrev pub appended : {A : Type 0} → (Record → Option A) → Option Record → Option A
appended look append = option_and_then look append

decided_push : (kept : List Record) (forced : Record) → decided_in (kept ++ forced ∷ []) ≡ option_or (decided_in kept) (decision_in forced)
decided_push [] forced = first_none (decision_in forced)
decided_push (first ∷ kept) forced =
    ap (option_or (decision_in first)) (decided_push kept forced) ∙ sym (first_first (decision_in first) (decided_in kept) (decision_in forced))

pub decided_with : (kept : List Record) (append : Option Record) → decided_in (log_with kept append) ≡ option_or (decided_in kept) (appended decision_in append)
decided_with kept None = sym (first_none (decided_in kept))
decided_with kept (Some forced) = decided_push kept forced

pub settled_with : (txn : TxnId) (kept : List Record) (append : Option Record) → settled_in txn (log_with kept append) ≡ option_or (settled_in txn kept) (appended (settlement_in txn) append)
settled_with txn kept None = sym (first_none (settled_in txn kept))
settled_with txn kept (Some forced) = settled_push txn kept forced

pub voted_with : (txn : TxnId) (kept : List Record) (append : Option Record) → voted_in txn (log_with kept append) ≡ option_or (appended (preparation_in txn) append) (voted_in txn kept)
voted_with txn kept None = refl
voted_with txn kept (Some forced) = voted_push txn kept forced

-- a record keeps what is prepared or settled so
voted_more : (settled more : Option Settled) (voted new : Option Prepared) → is_prepared_or_settled settled voted ≡ true → is_prepared_or_settled (option_or settled more) (option_or new voted) ≡ true
voted_more (Some s) more voted new e = refl
voted_more None (Some s) voted new e = refl
voted_more None None None new e = absurd (cc)
voted_more None None (Some p) None e = refl
voted_more None None (Some p) (Some q) e = refl

pub has_voted_with : (txn : TxnId) (kept : List Record) (append : Option Record) → has_voted txn kept ≡ true → has_voted txn (log_with kept append) ≡ true
has_voted_with txn kept append e =
    ap (λ (s : Option Settled). is_prepared_or_settled s (voted_in txn (log_with kept append))) (settled_with txn kept append)
    ∙ (ap (is_prepared_or_settled (option_or (settled_in txn kept) (appended (settlement_in txn) append))) (voted_with txn kept append)
    ∙ voted_more (settled_in txn kept) (appended (settlement_in txn) append) (voted_in txn kept) (appended (preparation_in txn) append) e)

-- what is prepared on a log after a record
pub prepared_with : (txn : TxnId) (kept : List Record) (append : Option Record) → prepared_in txn (log_with kept append)
    ≡ while_unsettled (option_or (settled_in txn kept) (appended (settlement_in txn) append)) (option_or (appended (preparation_in txn) append) (voted_in txn kept))
prepared_with txn kept append =
    ap (λ (s : Option Settled). while_unsettled s (voted_in txn (log_with kept append))) (settled_with txn kept append)
    ∙ ap (while_unsettled (option_or (settled_in txn kept) (appended (settlement_in txn) append))) (voted_with txn kept append)

-- a record that neither settles nor prepares the transaction leaves what the log says of it
pub settled_still : (txn : TxnId) (kept : List Record) (append : Option Record) → appended (settlement_in txn) append ≡ None → settled_in txn (log_with kept append) ≡ settled_in txn kept
settled_still txn kept append none = settled_with txn kept append ∙ (ap (option_or (settled_in txn kept)) none ∙ first_none (settled_in txn kept))

pub prepared_still : (txn : TxnId) (kept : List Record) (append : Option Record) → appended (settlement_in txn) append ≡ None → appended (preparation_in txn) append ≡ None
    → prepared_in txn (log_with kept append) ≡ prepared_in txn kept
prepared_still txn kept append none unvoted =
    prepared_with txn kept append
    ∙ (ap (λ (s : Option Settled). while_unsettled (option_or (settled_in txn kept) s) (option_or (appended (preparation_in txn) append) (voted_in txn kept))) none
    ∙ (ap (λ (s : Option Settled). while_unsettled s (option_or (appended (preparation_in txn) append) (voted_in txn kept))) (first_none (settled_in txn kept))
    ∙ ap (λ (p : Option Prepared). while_unsettled (settled_in txn kept) (option_or p (voted_in txn kept))) unvoted))

-- a record that prepares a transaction does it so that P holds
abbrev pub Prepares : (TxnId → Prepared → Type 0) → Record → Type 0
Prepares P (log.Prepared p) = P p.txn p
Prepares P _ = Unit {0}

grown_from : (P : TxnId → Prepared → Type 0) (append : Option Record) (txn : TxnId) (settled : Option Settled) (voted : Option Prepared) (now : Prepared)
    → ((p : Prepared) → while_unsettled settled voted ≡ Some p → P txn p) → IfSome append (Prepares P)
    → while_unsettled (option_or settled (appended (settlement_in txn) append)) (option_or (appended (preparation_in txn) append) voted) ≡ Some now → P txn now
grown_from P append txn (Some s) voted now h r e = absurd (cc)
grown_from P None txn None voted now h r e = h now e
grown_from P (Some (log.Prepared p)) txn None voted now h r e = chosen (same_txn p.txn txn) refl e
  where
    chosen : (b : Bool) → same_txn p.txn txn ≡ b → option_or (if b then Some p else None) voted ≡ Some now → P txn now
    chosen true same f = subst (P txn) (same_Some p now f) (subst (λ (t : TxnId). P t p) (same_txn_is p.txn txn same) r)
    chosen false apart f = h now f
grown_from P (Some (log.Settled s)) txn None voted now h r e = chosen (same_txn s.txn txn) e
  where
    chosen : (b : Bool) → while_unsettled (if b then Some s else None) voted ≡ Some now → P txn now
    chosen true f = absurd (cc)
    chosen false f = h now f
grown_from P (Some _) txn None voted now h r e = h now e

-- what holds of what was prepared, and of what a record prepares, holds of what is prepared after it
pub prepared_grown : (P : TxnId → Prepared → Type 0) (kept : List Record) (append : Option Record) (txn : TxnId) (now : Prepared) → ((p : Prepared) → prepared_in txn kept ≡ Some p → P txn p)
    → IfSome append (Prepares P) → prepared_in txn (log_with kept append) ≡ Some now → P txn now
prepared_grown P kept append txn now h r e = grown_from P append txn (settled_in txn kept) (voted_in txn kept) now h r (sym (prepared_with txn kept append) ∙ e)

either_prepared : (settled more : Option Settled) (voted new : Option Prepared) (P : Prepared → Type 0) → ((p : Prepared) → while_unsettled settled voted ≡ Some p → P p) → ((p : Prepared) → new ≡ Some p → P p)
    → (p : Prepared) → while_unsettled (option_or settled more) (option_or new voted) ≡ Some p → P p
either_prepared (Some s) more voted new P old now p e = absurd (cc)
either_prepared None (Some s) voted new P old now p e = absurd (cc)
either_prepared None None voted None P old now p e = old p e
either_prepared None None voted (Some q) P old now p e = now p e

-- what is prepared after a record was prepared before it, or is the record
pub prepared_either : (txn : TxnId) (kept : List Record) (append : Option Record) (P : Prepared → Type 0) → ((p : Prepared) → prepared_in txn kept ≡ Some p → P p)
    → ((p : Prepared) → appended (preparation_in txn) append ≡ Some p → P p) → (p : Prepared) → prepared_in txn (log_with kept append) ≡ Some p → P p
prepared_either txn kept append P old now p e =
    either_prepared (settled_in txn kept) (appended (settlement_in txn) append) (voted_in txn kept) (appended (preparation_in txn) append) P old now p (sym (prepared_with txn kept append) ∙ e)

-- what has voted and is not settled is prepared
pub voted_open : (settled : Option Settled) (voted : Option Prepared) → settled ≡ None → is_prepared_or_settled settled voted ≡ true → is_some (while_unsettled settled voted) ≡ true
voted_open (Some s) voted e h = absurd (cc)
voted_open None None e h = absurd (cc)
voted_open None (Some p) e h = refl

-- ---- what is told of versions

-- what is told of an administrator by a record, if there is one
abbrev pub told_by : AdminId → Option Record → ℕ
told_by admin append = option_map_or (told_in admin) append 0

max_none : (n : ℕ) → max n 0 ≡ n
max_none n = omega arith

-- a record raises what is known to the greater of it and what the record tells
pub known_with : (first : ℕ) (admin : AdminId) (kept : List Record) (append : Option Record) → known_in first admin (log_with kept append) ≡ max (known_in first admin kept) (told_by admin append)
known_with first admin kept None = sym (max_none (known_in first admin kept))
known_with first admin kept (Some forced) = known_push first admin kept forced

-- a record that tells nothing of the administrator leaves it
pub known_still : (first : ℕ) (admin : AdminId) (kept : List Record) (append : Option Record) → told_by admin append ≡ 0 → known_in first admin (log_with kept append) ≡ known_in first admin kept
known_still first admin kept append none = known_with first admin kept append ∙ (ap (max (known_in first admin kept)) none ∙ max_none (known_in first admin kept))

-- ---- what a log gained

-- the facts of the records that a log gained are those of the record that was appended
pub gained : (fact : Record → List What) (kept : List Record) (append : Option Record) → flat_map fact (drop (length kept) (log_with kept append)) ≡ option_map_or fact append []
gained fact kept None = ap (flat_map fact) (drop-length kept)
gained fact kept (Some forced) = ap (flat_map fact) (drop-append_seam kept (forced ∷ [])) ∙ append-nil (fact forced)

-- ---- one member changes

zero_not_suc : (m : ℕ) → (0 == suc m) ≡ false
zero_not_suc m = grind (arith, nat_tests)

suc_not_zero : (m : ℕ) → (suc m == 0) ≡ false
suc_not_zero m = grind (arith, nat_tests)

both_suc : (n m : ℕ) → (suc n == suc m) ≡ (n == m)
both_suc n m = grind (arith, nat_tests)

pub get_set : {A : Type 0} (xs : List A) (n m : ℕ) (old new : A) → slice_get xs n ≡ Some old → slice_get (slice_set xs n new) m ≡ (if n == m then Some new else slice_get xs m)
get_set [] n m old new e = absurd (cc)
get_set (x ∷ xs) zero zero old new e = refl
get_set (x ∷ xs) zero (suc m) old new e = sym (ap (λ (b : Bool). if b then Some new else slice_get xs m) (zero_not_suc m))
get_set (x ∷ xs) (suc n) zero old new e = sym (ap (λ (b : Bool). if b then Some new else Some x) (suc_not_zero n))
get_set (x ∷ xs) (suc n) (suc m) old new e =
    get_set xs n m old new e ∙ sym (ap (λ (b : Bool). if b then Some new else slice_get xs m) (both_suc n m))

chosen : {A : Type 0} {B : Type 0} (look : A → Option B) (b : Bool) (new : A) (other : Option A) → option_and_then look (if b then Some new else other) ≡ (if b then look new else option_and_then look other)
chosen look true new other = refl
chosen look false new other = refl

-- what is looked up after one member changed
pub look_set : {A : Type 0} {B : Type 0} (look : A → Option B) (xs : List A) (n m : ℕ) (old new : A) → slice_get xs n ≡ Some old
    → option_and_then look (slice_get (slice_set xs n new) m) ≡ (if n == m then look new else option_and_then look (slice_get xs m))
look_set look xs n m old new e = ap (option_and_then look) (get_set xs n m old new e) ∙ chosen look (n == m) new (slice_get xs m)

-- a member that is put where it stands
pub set_same : {A : Type 0} (xs : List A) (n : ℕ) (x : A) → slice_get xs n ≡ Some x → slice_set xs n x ≡ xs
set_same [] n x e = refl
set_same (y ∷ xs) zero x e = ap (λ z. z ∷ xs) (sym (same_Some y x e))
set_same (y ∷ xs) (suc n) x e = ap (λ zs. y ∷ zs) (set_same xs n x e)
