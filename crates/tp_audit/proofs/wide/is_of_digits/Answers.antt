use Rattle.std.proofs.Common.{SFits, ◌≡◌, ◌==◌, ◌<◌, ◌≤◌, length, get_or, pos, of_z, to_z, sym, ap, ◌∙◌, arith, rules}
use Rattle.std.proofs.Math.Facts.{of_z-to_z}
use Rattle.std.proofs.lemmas.Int.{ints, to_z-of_z}
use Rattle.std.specs.Int.{w128}
use Rattle.std.specs.Ordering.{int_eq}
use Rattle.tp_audit.specs.mirrors.Digits.{number_of}
use Rattle.tp_audit.proofs.WideLemmas.{none_left, other_digit, wanted_digit}
use Rattle.tp_audit.proofs.wide.is_of_digits.Goals as goal

pub loop-digit-preserved : goal.loop-digit-preserved
loop-digit-preserved c =
    let digits = c.args.digits.now in
    let at = c.loop-digit.digit-index in
    let here : at < length digits = omega arith in
    let fits : SFits w128 (get_or digits at (pos 0)) = search rules in
    let same = sym (to_z-of_z w128 (get_or digits at (pos 0)) fits) ∙ ap (to_z w128) c.if-digit-wanted.false in
    wanted_digit digits at (to_z w128 c.loop-digit.wanted-bits) (int_eq (to_z w128 (of_z w128 c.args.value)) (number_of digits)) here same c.loop-digit.invariant

pub returns-then-digit-wanted : goal.returns-then-digit-wanted
returns-then-digit-wanted c =
    let digits = c.args.digits.now in
    let at = c.loop-digit.digit-index in
    let wanted = to_z w128 c.loop-digit.wanted-bits in
    let here : at < length digits = omega arith in
    let digit_fits : SFits w128 (get_or digits at (pos 0)) = search rules in
    let wanted_fits : SFits w128 wanted = search rules in
    let value = to_z-of_z w128 c.args.value c.ranges.value in
    other_digit digits at wanted (int_eq (to_z w128 (of_z w128 c.args.value)) (number_of digits)) here wanted_fits digit_fits
    (λ e. c.if-digit-wanted.true (ap (of_z w128) e ∙ of_z-to_z c.loop-digit.auto.wanted)) c.loop-digit.invariant
    ∙ ap (λ v. int_eq v (number_of digits)) value

pub returns : goal.returns
returns c =
    let digits = c.args.digits.now in
    let bits = c.loop-digit.wanted-bits in
    let past : length digits ≤ c.loop-digit.digit-index = omega arith in
    let none = ap (int_eq (to_z w128 bits)) (none_left digits c.loop-digit.digit-index past) in
    let zero : (bits == 0) ≡ int_eq (to_z w128 bits) (pos 0) = grind (arith, ints) in
    let value = to_z-of_z w128 c.args.value c.ranges.value in
    zero ∙ sym none ∙ c.loop-digit.invariant ∙ ap (λ v. int_eq v (number_of digits)) value
