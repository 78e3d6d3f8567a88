use Rattle.std.proofs.Common.{◌<◌, length, sym, ◌∙◌, arith}
use Rattle.tp_audit.proofs.FollowingLemmas.{begins_at, begins_none, same_front}
use Rattle.tp_audit.proofs.SerialLemmas.{goes_on, stops}
use Rattle.tp_audit.proofs.following.keeps_proofs.Goals as goal

pub returns-then-not-is_same_at : goal.returns-then-not-is_same_at
returns-then-not-is_same_at c =
    let within : c.loop-at.at < length c.args.proofs.now = grind arith in
    let turn = begins_at c.args.proofs.now c.args.next.now c.loop-at.at c.proof-item.result within (cc) in
    stops _ _ _ (sym c.is_same_at.ensures ∙ c.if-not-is_same_at.true) (sym turn ∙ c.loop-at.invariant) ∙ sym (same_front c.args.proofs.now c.args.next.now)

pub loop-at-preserved : goal.loop-at-preserved
loop-at-preserved c =
    let within : c.loop-at.at < length c.args.proofs.now = grind arith in
    let turn = begins_at c.args.proofs.now c.args.next.now c.loop-at.at c.proof-item.result within (cc) in
    goes_on _ _ _ (sym c.is_same_at.ensures ∙ c.if-not-is_same_at.false) (sym turn ∙ c.loop-at.invariant)

pub returns : goal.returns
returns c =
    sym (begins_none c.args.proofs.now _ c.loop-at.at (grind arith)) ∙ c.loop-at.invariant ∙ sym (same_front c.args.proofs.now c.args.next.now)
