-- What a search through numbers says: where one is found the ones before it fail, and where none is found all do. So
-- where nobody is found that is down, and none that is not submitted, all actors are up and all transactions are
-- submitted.
use Rattle.std.proofs.Common.{◌≡◌, ℕ, ◌+◌, ◌<◌, ◌≤◌, ◌==◌, length, map, drop, find, cond, Bool, true, false, not, option_map, Option, Some, None, zero, suc, refl, ap, subst, arith}
use Rattle.std.specs.List.{range_with_len}
use Rattle.std.specs.Option.{option_or}
use Rattle.std.proofs.lemmas.Bool.Decides.{nat_tests}
use Rattle.std.proofs.lemmas.Option.{same_Some}
use Rattle.tp_model.specs.Words.{Actor, Scenario, ServerId, TxnId}
use Rattle.tp_model.specs.Words.actor
use Rattle.tp_machine.specs.declared.actors.Actors.{Actors}
use Rattle.tp_machine.specs.Machine.{is_down, is_submitted}
use Rattle.tp_machine.specs.Named.{IsActor, IsTxn}
use Rattle.tp_runs.proofs.basics.Ids.{same_txn_is, server_number, txn_number}
use Rattle.tp_auto.specs.Auto.{coordinator_down, lowest_down, lowest_unsubmitted, server_down}

-- ---- none is found

-- then the test fails of each of these numbers
none_named : {A : Type 0} (name : ℕ → A) (test : A → Bool) (low count k : ℕ) → find test (map name (range_with_len low count)) ≡ None → low ≤ k → k < low + count → test (name k) ≡ false
none_named name test low zero k e above within = absurd (omega (arith, above, within))
none_named {A = A} name test low (suc count) k e above within =
    by_test (test (name low)) refl e (λ f apart. none_named name test (low + 1) count k f apart (omega (arith, within)))
  where
    elsewhere : (b : Bool) → (low == k) ≡ b → test (name low) ≡ false → (low + 1 ≤ k → test (name k) ≡ false) → test (name k) ≡ false
    elsewhere true s t later = let same : low ≡ k = grind (arith, nat_tests) in subst (λ (n : ℕ). test (name n) ≡ false) same t
    elsewhere false s t later =
        let apart : low + 1 ≤ k = grind (arith, nat_tests) in
        later apart

    by_test : (b : Bool) → test (name low) ≡ b → cond b (Some (name low)) (find test (map name (range_with_len (low + 1) count))) ≡ None
        → (find test (map name (range_with_len (low + 1) count)) ≡ None → low + 1 ≤ k → test (name k) ≡ false) → test (name k) ≡ false
    by_test true t f later = absurd (cc)
    by_test false t f later = elsewhere (low == k) refl t (λ apart. later f apart)

-- so where nobody is found from a place on
pub none_behind : (test : TxnId → Bool) (k low count : ℕ) (txn : TxnId) → find test (drop k (map txn_number (range_with_len low count))) ≡ None → low + k ≤ txn.0 → txn.0 < low + count → test txn ≡ false
none_behind test zero low count txn e behind within = none_named txn_number test low count txn.0 e (omega (arith, behind)) within
none_behind test (suc k) low zero txn e behind within = absurd (omega (arith, behind, within))
none_behind test (suc k) low (suc count) txn e behind within = none_behind test k (low + 1) count txn e (omega (arith, behind)) (omega (arith, within))

-- ---- one is found

-- the first of these transactions that passes
pub record IsFirst (test : TxnId → Bool) (low high : ℕ) (txn : TxnId) : Type 0 where
  pub behind : low ≤ txn.0
  pub within : txn.0 < high
  pub passes : test txn ≡ true
  pub earlier : (other : TxnId) → low ≤ other.0 → other.0 < txn.0 → test other ≡ false

first_found : (test : TxnId → Bool) (low count : ℕ) (txn : TxnId) → find test (map txn_number (range_with_len low count)) ≡ Some txn → IsFirst test low (low + count) txn
first_found test low zero txn e = absurd (cc)
first_found test low (suc count) txn e = by_test (test (txn_number low)) refl e (λ f. first_found test (low + 1) count txn f)
  where
    elsewhere : (other : TxnId) (b : Bool) → (low == other.0) ≡ b → test (txn_number low) ≡ false → IsFirst test (low + 1) (low + 1 + count) txn → low ≤ other.0 → other.0 < txn.0 → test other ≡ false
    elsewhere other true s t later above before = subst (λ (x : TxnId). test x ≡ false) (same_txn_is (txn_number low) other s) t
    elsewhere other false s t later above before =
        let apart : low + 1 ≤ other.0 = grind (arith, nat_tests) in
        later.earlier other apart before

    by_test : (b : Bool) → test (txn_number low) ≡ b → cond b (Some (txn_number low)) (find test (map txn_number (range_with_len (low + 1) count))) ≡ Some txn
        → (find test (map txn_number (range_with_len (low + 1) count)) ≡ Some txn → IsFirst test (low + 1) (low + 1 + count) txn) → IsFirst test low (low + suc count) txn
    by_test true t f rest =
        let same : txn_number low ≡ txn = same_Some (txn_number low) txn f in
        let number : low ≡ txn.0 = ap (λ (x : TxnId). x.0) same in
        record { behind = omega (arith, number); within = omega (arith, number); passes = subst (λ (x : TxnId). test x ≡ true) same t; earlier = λ other above before. absurd (omega (arith, number, above, before)) }
    by_test false t f rest =
        let later = rest f in
        record { behind = omega (arith, later.behind); within = omega (arith, later.within); passes = later.passes; earlier = λ other above before. elsewhere other (low == other.0) refl t later above before }

-- and from a place on
pub first_behind : (test : TxnId → Bool) (k low count : ℕ) (txn : TxnId) → find test (drop k (map txn_number (range_with_len low count))) ≡ Some txn → IsFirst test (low + k) (low + count) txn
first_behind test zero low count txn e =
    let f = first_found test low count txn e in
    record { behind = omega (arith, f.behind); within = f.within; passes = f.passes; earlier = λ other above before. f.earlier other (omega (arith, above)) before }
first_behind test (suc k) low zero txn e = absurd (cc)
first_behind test (suc k) low (suc count) txn e =
    let f = first_behind test k (low + 1) count txn e in
    record { behind = omega (arith, f.behind); within = omega (arith, f.within); passes = f.passes; earlier = λ other above before. f.earlier other (omega (arith, above)) before }

-- ---- all are up and submitted

pub record AllRunning (sc : Scenario) (actors : Actors) : Type 0 where
  pub up : (who : Actor) → IsActor sc who → is_down actors who ≡ false
  pub begun : (txn : TxnId) → IsTxn sc txn → is_submitted actors txn ≡ true

-- neither a server nor a coordinator
none_of_both : (server : Option ServerId) (coordinator : Option TxnId) → option_or (option_map (λ (at : ServerId). actor.Server at) server) (option_map (λ (txn : TxnId). actor.Coordinator txn) coordinator) ≡ None
    → (server ≡ None) × (coordinator ≡ None)
none_of_both None None e = (refl, refl)
none_of_both None (Some txn) e = absurd (cc)
none_of_both (Some at) coordinator e = absurd (cc)

not_not : (b : Bool) → not b ≡ false → b ≡ true
not_not true e = refl
not_not false e = absurd (cc)

pub all_running : (sc : Scenario) (actors : Actors) → lowest_down sc actors ≡ None → lowest_unsubmitted sc actors ≡ None → AllRunning sc actors
all_running sc actors none begun =
    let both = none_of_both (server_down sc actors) (coordinator_down sc actors) none in
    record {
      up = λ who exists. is_up both.0 both.1 who exists;
      begun = λ txn exists. not_not (is_submitted actors txn) (none_named txn_number (λ (t : TxnId). not (is_submitted actors t)) 0 (length sc.txns) txn.0 begun (omega arith) (omega (arith, exists)));
    }
  where
    is_up : server_down sc actors ≡ None → coordinator_down sc actors ≡ None → (who : Actor) → IsActor sc who → is_down actors who ≡ false
    is_up s c (actor.Server at) exists = none_named server_number (λ (x : ServerId). is_down actors (actor.Server x)) 0 (length sc.servers) at.0 s (omega arith) (omega (arith, exists))
    is_up s c (actor.Coordinator txn) exists = none_named txn_number (λ (t : TxnId). is_down actors (actor.Coordinator t)) 0 (length sc.txns) txn.0 c (omega arith) (omega (arith, exists))
    is_up s c actor.Master exists = refl
    is_up s c actor.Authority exists = refl
