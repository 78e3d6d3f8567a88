use Rattle.std.proofs.Common.{◌≡◌, ◌+ℤ◌, drop}
use Rattle.tp_audit.specs.mirrors.Digits.{number_above, number_of}
use Rattle.tp_model.specs.Queries.{with_sign}
use Rattle.tp_audit.proofs.wide.digits_of_sum.Given as goal

-- the digits so far, and above them the sum of what is left
abbrev pub invariant-loop-at : goal.invariant-loop-at
invariant-loop-at l =
    number_above l.made ((l.total.wraps +ℤ number_of (drop l.at l.one)) +ℤ with_sign l.minus (number_of (drop l.at l.other))) ≡ (number_of l.one +ℤ with_sign l.minus (number_of l.other))
