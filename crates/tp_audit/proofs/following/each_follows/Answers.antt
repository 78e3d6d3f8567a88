use Rattle.std.proofs.Common.{◌<◌, length, true, ap, sym, ◌∙◌, arith}
use Rattle.std.specs.Option.{option_map_or}
use Rattle.tp_model.specs.Demand.{follows}
use Rattle.tp_audit.proofs.FollowingLemmas.{follows_at}
use Rattle.tp_audit.proofs.SerialLemmas.{goes_on, stops}
use Rattle.tp_audit.proofs.following.each_follows.Goals as goal

pub returns-then-not-is_followed : goal.returns-then-not-is_followed
returns-then-not-is_followed c =
    let within : c.loop-at.at < length c.args.instances.now = grind arith in
    let turn = follows_at c.args.scheme c.args.instances.now c.loop-at.at c.one-item.result within (cc) in
    let same = ap (λ next. option_map_or (follows c.args.scheme c.one-item.result) next true) c.get.ensures in
    stops _ _ _ (sym same ∙ sym c.is_followed.ensures ∙ c.if-not-is_followed.true) (sym turn ∙ c.loop-at.invariant)

pub loop-at-preserved : goal.loop-at-preserved
loop-at-preserved c =
    let within : c.loop-at.at < length c.args.instances.now = grind arith in
    let turn = follows_at c.args.scheme c.args.instances.now c.loop-at.at c.one-item.result within (cc) in
    let same = ap (λ next. option_map_or (follows c.args.scheme c.one-item.result) next true) c.get.ensures in
    goes_on _ _ _ (sym same ∙ sym c.is_followed.ensures ∙ c.if-not-is_followed.false) (sym turn ∙ c.loop-at.invariant)
