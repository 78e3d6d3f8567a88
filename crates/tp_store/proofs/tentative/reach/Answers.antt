use Rattle.std.proofs.Common.{arith, ap, ◌∙◌, ◌++◌, ◌∷◌, []}
use Rattle.tp_store.specs.mirrors.Places.{padded}
use Rattle.tp_store.proofs.TableLemmas.{made_more}
use Rattle.tp_store.proofs.tentative.reach.Goals as goal

pub loop-made-preserved : goal.loop-made-preserved
loop-made-preserved c =
    let made = c.loop-made.made in
    let more = c.in_ok-push.ensures.ok ∙ ap (λ writes. made ++ writes ∷ []) c.new.ensures in
    ap (λ lists. padded lists c.args.txns) more
    ∙ made_more made c.args.txns (omega (arith, c.loop-made-test.true, c.if-len-at.true, c.len.ensures))
    ∙ c.loop-made.invariant
