-- Numbers that a report tells are of their types.
use Rattle.std.proofs.Common.{Some, arith, length, pos, negsuc, suc, true, zero, ℕ, ℤ, ◌^◌, ◌<◌, ◌≡◌, ◌≤◌}
use Rattle.std.proofs.lemmas.Bool.{lt-ltb}
use Rattle.std.proofs.lemmas.Int.{ints}
use Rattle.std.proofs.lemmas.Option.{slice_get_within}
use Rattle.tp_model.proofs.RunBounds.{IsWithin, wider}
use Rattle.tp_model.specs.Authorisation.{policy_at, rule_in, rule_of}
use Rattle.tp_model.specs.Words.{AdminId, Policy, Rule, Scenario, Version}
use Rattle.tp_model.specs.Printable.{is_i128, is_u32, is_u64}
use Rattle.tp_runs.proofs.bounds.Numbers.{bound_rises, within_from}
use Rattle.tp_runs.specs.Bounded.{IsBounded, bound_of}
use Rattle.tp_server.specs.Verdicts.{HasFewRules}

-- no count of a valid scenario is greater than 4,096
pub few_is_u32 : (n : ℕ) → n ≤ 4096 → is_u32 n ≡ true
few_is_u32 n h = lt-ltb n (2 ^ 32) (omega (arith, h))

pub low_is_u64 : (n most : ℕ) → n < most → most ≤ 2 ^ 64 → is_u64 n ≡ true
low_is_u64 n most h k = lt-ltb n (2 ^ 64) (omega (arith, h, k))

-- what is far from the ends of an i128 is one
within_is_i128 : (z : ℤ) → IsWithin (2 ^ 126) z → is_i128 z ≡ true
within_is_i128 (pos n) h = let high = h.high in lt-ltb n (2 ^ 127) (omega (arith, ints))
within_is_i128 (negsuc n) h = let low = h.low in lt-ltb n (2 ^ 127) (omega (arith, ints))

-- a value of one of at most 16 queries
pub bounded_is_i128 : (query : ℕ) (z : ℤ) → query ≤ 16 → IsBounded query z → is_i128 z ≡ true
bounded_is_i128 query z few h =
    let most : bound_of query ≤ bound_of 16 = bound_rises query 16 few in
    within_is_i128 z (wider (bound_of query) (2 ^ 126) z (omega (arith, most)) (within_from (bound_of query) z h))

-- an item's value
pub item_is_i128 : (z : ℤ) → IsWithin (10 ^ 15) z → is_i128 z ≡ true
item_is_i128 z h = within_is_i128 z (wider (10 ^ 15) (2 ^ 126) z (omega arith) h)

-- the number of a rule of a policy, of which there are few
rule_is_few : (policy : Policy) (number : ℕ) (rule : Rule) → length policy.rules < 2 ^ 32 → rule_in policy number ≡ Some rule → is_u32 number ≡ true
rule_is_few policy zero rule few e = absurd (cc)
rule_is_few policy (suc before) rule few e = let within = slice_get_within policy.rules before rule e in lt-ltb (suc before) (2 ^ 32) (omega (arith, few, within))

pub rule_is_u32 : (sc : Scenario) (admin : AdminId) (version : Version) (policy : Policy) (number : ℕ) (rule : Rule) → HasFewRules sc → policy_at sc admin version ≡ Some policy → rule_of policy (Some number) ≡ Some rule → is_u32 number ≡ true
rule_is_u32 sc admin version policy number rule few there e = rule_is_few policy number rule (few admin version policy there) e
