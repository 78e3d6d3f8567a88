use Rattle.std.proofs.Common.{◌≡◌, drop}
use Rattle.std.specs.Ordering.{int_eq}
use Rattle.tp_audit.specs.mirrors.Digits.{number_of}
use Rattle.tp_audit.proofs.wide.is_of_digits.Given as goal

-- what is wanted of the digits that are left
abbrev pub invariant-loop-digit : goal.invariant-loop-digit
invariant-loop-digit l =
    int_eq l.wanted (number_of (drop l.digit-index l.digits)) ≡ int_eq l.value (number_of l.digits)
