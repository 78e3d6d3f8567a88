use Rattle.std.proofs.Common.{◌<◌, length, sym, ◌∙◌, arith}
use Rattle.tp_audit.proofs.FollowingLemmas.{met_at}
use Rattle.tp_audit.proofs.SerialLemmas.{goes_on, stops}
use Rattle.tp_audit.proofs.newer.are_met_on.Goals as goal

pub returns-then-not-is_met_next : goal.returns-then-not-is_met_next
returns-then-not-is_met_next c =
    let within : c.loop-at.at < length c.args.mets.now = grind arith in
    let turn = met_at c.args.scenario.now c.args.facts.now c.args.mets.now c.loop-at.at within in
    let same = rw c.get.ensures at (rw c.as_slice-one-items.ensures at c.is_met_next.ensures) in
    stops _ _ _ (sym same ∙ c.if-not-is_met_next.true) (sym turn ∙ c.loop-at.invariant)

pub loop-at-preserved : goal.loop-at-preserved
loop-at-preserved c =
    let within : c.loop-at.at < length c.args.mets.now = grind arith in
    let turn = met_at c.args.scenario.now c.args.facts.now c.args.mets.now c.loop-at.at within in
    let same = rw c.get.ensures at (rw c.as_slice-one-items.ensures at c.is_met_next.ensures) in
    goes_on _ _ _ (sym same ∙ c.if-not-is_met_next.false) (sym turn ∙ c.loop-at.invariant)
