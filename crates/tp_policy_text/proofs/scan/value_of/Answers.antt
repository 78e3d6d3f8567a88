use Rattle.std.proofs.Common.{arith, ◌<◌, ◌^◌}
use Rattle.tp_types.proofs.NumberLemmas.{value_below}
use Rattle.tp_policy_text.proofs.scan.value_of.Goals as goal

pub overflow_mul-value : goal.overflow_mul-value
overflow_mul-value c =
    let small : c.loop-digit.value < 10 ^ 14 = value_below c.loop-digit.value c.loop-digit.digit-index 14 c.loop-digit.invariant.small (omega arith) in
    omega arith

pub overflow_add-value : goal.overflow_add-value
overflow_add-value c =
    let small : c.loop-digit.value < 10 ^ 14 = value_below c.loop-digit.value c.loop-digit.digit-index 14 c.loop-digit.invariant.small (omega arith) in
    omega arith

pub returns-clause-small : goal.returns-clause-small
returns-clause-small c = value_below c.loop-digit.value c.loop-digit.digit-index 15 c.loop-digit.invariant.small (omega arith)
