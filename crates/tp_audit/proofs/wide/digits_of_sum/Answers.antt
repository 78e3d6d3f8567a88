use Rattle.std.proofs.Common.{SFits, ◌+◌, ◌≤◌, ◌+ℤ◌, drop, length, ap, ◌∙◌, arith, rules}
use Rattle.std.proofs.lemmas.Int.{to_z-of_z}
use Rattle.std.specs.Int.{w128}
use Rattle.tp_audit.specs.mirrors.Digits.{number_above, number_of}
use Rattle.tp_model.specs.Queries.{with_sign}
use Rattle.tp_audit.proofs.WideLemmas.{sum_end, sum_step}
use Rattle.tp_audit.proofs.wide.digits_of_sum.Goals as goal

pub loop-at-preserved : goal.loop-at-preserved
loop-at-preserved c =
    let one = c.args.one.now in
    let other = c.args.other.now in
    let at = c.loop-at.at in
    let total = c.column-total.result in
    let carry_fits : SFits w128 c.loop-at.total.wraps = search rules in
    let one_fits : SFits w128 c.digit_at.result = search rules in
    let other_fits : SFits w128 c.digit_at-in-loop-at.result = search rules in
    let part_fits : SFits w128 total.part = search rules in
    let exact = simp to_z-of_z at c.column-total.ensures in
    let column = rw (c.digit_at.ensures, c.digit_at-in-loop-at.ensures) at exact in
    let pushed = simp to_z-of_z at c.in_ok-push.ensures.ok in
    ap (λ m. number_above m ((total.wraps +ℤ number_of (drop (at + 1) one)) +ℤ with_sign c.args.minus (number_of (drop (at + 1) other)))) pushed
    ∙ (sum_step c.loop-at.made one other c.args.minus at c.loop-at.total.wraps total.part total.wraps column ∙ c.loop-at.invariant)

pub returns : goal.returns
returns c =
    let one = c.args.one.now in
    let other = c.args.other.now in
    let at = c.loop-at.at in
    let past_one : length one ≤ at = grind arith in
    let past_other : length other ≤ at = grind arith in
    let carry_fits : SFits w128 c.loop-at.total.wraps = search rules in
    let pushed = simp to_z-of_z at c.in_ok-push-2.ensures.ok in
    ap number_of pushed ∙ (sum_end c.loop-at.made one other c.args.minus at c.loop-at.total.wraps past_one past_other ∙ c.loop-at.invariant)
