-- What deferred demands, in one line.
use Rattle.std.proofs.Common.{◌≡◌, ℕ, suc, Bool, true, false, ◌==◌, ◌&&◌, nat_le, if◌then◌else◌, is_none, List, [], ◌∷◌, length, ap, ◌∙◌, arith}
use Rattle.std.proofs.lemmas.Bool.Decides.{nat_tests}
use Rattle.std.proofs.Math.Bool.{and-true}
use Rattle.std.specs.Option.{option_map_or}
use Rattle.tp_model.specs.Words.scheme
use Rattle.tp_model.specs.Words.{CommitRecord, Fact, Instance, Scenario, Scheme, Transaction}
use Rattle.tp_model.specs.Demand.{agrees_at, are_instances, count_of, each_follows, first_of, is_incremental, is_over, is_round_count, many_of, meets_demand, most_rounds}
use Rattle.tp_model.specs.Levels.{reads_master}
use Rattle.tp_model.specs.Queries.{only}
use Rattle.tp_model.specs.Versions.{is_consistent}

-- one instance over all queries, which is consistent
abbrev pub is_final : Scenario → List Fact → Transaction → Instance → Bool
is_final sc facts txn instance =
    is_over 1 (length txn.queries) instance.proofs && is_consistent sc txn facts instance

not_one : (more : ℕ) → (suc (suc more) == 1) ≡ false
not_one more = grind (arith, nat_tests)

-- what a scheme demands of one instance, after so many rounds
abbrev of_one : Scenario → List Fact → Transaction → ℕ → Instance → Scheme → Bool
of_one sc facts txn rounds instance scheme =
    (1 == count_of scheme (reads_master sc txn) (length txn.queries))
    && ((is_over (first_of scheme (length txn.queries) 1) (many_of scheme (length txn.queries) 1) instance.proofs
    && (if agrees_at scheme (length txn.queries) 1 then is_consistent sc txn facts instance else is_none instance.reading)) && true)
    && true
    && (if is_incremental scheme then rounds == 0 else nat_le 1 rounds && nat_le rounds (most_rounds sc txn))

-- deferred demands one instance, which is final, and at least one round and at most the most
pub deferred_demand : (sc : Scenario) (facts : List Fact) (txn : Transaction) (committed : CommitRecord) → txn.scheme ≡ scheme.Deferred
    → meets_demand sc facts txn committed
    ≡ (option_map_or (is_final sc facts txn) (only committed.instances) false && (nat_le 1 committed.rounds && nat_le committed.rounds (most_rounds sc txn)))
deferred_demand sc facts txn committed e = by committed.instances
  where
    by : (instances : List Instance) → meets_demand sc facts txn (record committed { instances = instances })
        ≡ (option_map_or (is_final sc facts txn) (only instances) false && (nat_le 1 committed.rounds && nat_le committed.rounds (most_rounds sc txn)))
    by [] = ap (λ (s : Scheme). (0 == count_of s (reads_master sc txn) (length txn.queries)) && true && true && is_round_count sc txn committed.rounds) e
    by (instance ∷ []) =
        ap (of_one sc facts txn committed.rounds instance) e
        ∙ ap (λ (b : Bool). b && (nat_le 1 committed.rounds && nat_le committed.rounds (most_rounds sc txn)))
        (and-true (is_final sc facts txn instance && true) ∙ and-true (is_final sc facts txn instance))
    by (instance ∷ other ∷ others) =
        ap (λ (s : Scheme). (length (instance ∷ other ∷ others) == count_of s (reads_master sc txn) (length txn.queries))
        && are_instances sc facts txn 1 (instance ∷ other ∷ others) && each_follows txn.scheme (instance ∷ other ∷ others) && is_round_count sc txn committed.rounds) e
        ∙ ap (λ (b : Bool). b && are_instances sc facts txn 1 (instance ∷ other ∷ others) && each_follows txn.scheme (instance ∷ other ∷ others) && is_round_count sc txn committed.rounds)
        (not_one (length others))
