-- Laws of flags: how many are set, and that any two majorities share a replica.
use Rattle.std.proofs.Common.{◌≡◌, ℕ, ◌+◌, ◌*◌, ◌<◌, ◌≤◌, List, [], ◌∷◌, length, replicate, slice_get, Bool, true, false, Some, zero, suc, refl, sym, arith, ◌∙◌}
use Rattle.std.proofs.lemmas.Bool.{ltb-true}
use Rattle.tp_quorum.proofs.Lists.{same_length}
use Rattle.tp_quorum.specs.Operations.{answers_in, most_answered, none_yet}

-- more than half of these replicas, each of which P holds of
pub record Most (replicas : ℕ) (P : ℕ → Type 0) : Type 0 where
  pub flags : List Bool
  pub count : length flags ≡ replicas
  pub many : replicas < 2 * answers_in flags
  pub each : (r : ℕ) → slice_get flags r ≡ Some true → P r

-- a replica of both
shared_flag : (some others : List Bool) → length some ≡ length others → length some < answers_in some + answers_in others
    → (r : ℕ) × (slice_get some r ≡ Some true) × (slice_get others r ≡ Some true)
shared_flag [] [] e more = absurd (omega (arith, more))
shared_flag [] (other ∷ others) e more = absurd (omega (arith, e))
shared_flag (one ∷ some) [] e more = absurd (omega (arith, e))
shared_flag (true ∷ some) (true ∷ others) e more = (0, refl, refl)
shared_flag (true ∷ some) (false ∷ others) e more = let found = shared_flag some others (omega (arith, e)) (omega (arith, more)) in (suc found.0, found.1, found.2)
shared_flag (false ∷ some) (true ∷ others) e more = let found = shared_flag some others (omega (arith, e)) (omega (arith, more)) in (suc found.0, found.1, found.2)
shared_flag (false ∷ some) (false ∷ others) e more = let found = shared_flag some others (omega (arith, e)) (omega (arith, more)) in (suc found.0, found.1, found.2)

-- any two majorities share a replica
pub majorities_share : (replicas : ℕ) (P Q : ℕ → Type 0) → Most replicas P → Most replicas Q → (r : ℕ) × P r × Q r
majorities_share replicas P Q one other =
    let found = shared_flag one.flags other.flags (one.count ∙ sym other.count) (omega (arith, one.count, one.many, other.many)) in
    (found.0, one.each found.0 found.1, other.each found.0 found.2)

pub most_as : (replicas : ℕ) (P Q : ℕ → Type 0) → ((r : ℕ) → P r → Q r) → Most replicas P → Most replicas Q
most_as replicas P Q step most = record {
  flags = most.flags;
  count = most.count;
  many = most.many;
  each = λ r e. step r (most.each r e);
}

all_answer : (replicas : ℕ) → answers_in (replicate replicas true) ≡ replicas
all_answer zero = refl
all_answer (suc replicas) = omega (arith, all_answer replicas)

-- all of them are most of them
pub most_all : (replicas : ℕ) (P : ℕ → Type 0) → 1 ≤ replicas → ((r : ℕ) → P r) → Most replicas P
most_all replicas P some holds = record {
  flags = replicate replicas true;
  count = same_length replicas true;
  many = omega (arith, all_answer replicas);
  each = λ r e. holds r;
}

-- flags of which most are set
pub most_flags : (replicas : ℕ) (answered : List Bool) (P : ℕ → Type 0) → length answered ≡ replicas → most_answered answered ≡ true
    → ((r : ℕ) → slice_get answered r ≡ Some true → P r) → Most replicas P
most_flags replicas answered P count most each = record {
  flags = answered;
  count = count;
  many = omega (arith, count, ltb-true (length answered) (2 * answers_in answered) most);
  each = each;
}

none_answer : (replicas : ℕ) → answers_in (none_yet replicas) ≡ 0
none_answer zero = refl
none_answer (suc replicas) = none_answer replicas

-- where none has answered most have not
pub none_most : (replicas : ℕ) → most_answered (none_yet replicas) ≡ false
none_most replicas = by (most_answered (none_yet replicas)) refl
  where
    by : (b : Bool) → most_answered (none_yet replicas) ≡ b → b ≡ false
    by false e = refl
    by true e = absurd (omega (arith, none_answer replicas, ltb-true (length (none_yet replicas)) (2 * answers_in (none_yet replicas)) e))
