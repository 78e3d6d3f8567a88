use Rattle.std.proofs.Common.{ap, ◌∙◌, ◌++◌, ◌∷◌, []}
use Rattle.tp_wire.specs.declared.view.View.{View}
use Rattle.tp_wire.specs.Passes.{without_part, part_alone, fresh_passes}
use Rattle.tp_wire.proofs.OpeningLemmas.{dealt_more, part_cut, pass_cut}
use Rattle.tp_wire.proofs.wire.deal.Goals as goal

pub loop-number-preserved : goal.loop-number-preserved
loop-number-preserved g c =
    let i = c.loop-number.invariant in
    let n = c.loop-number.number in
    let cut = c.cut_off-part.ensures in
    let parts = part_cut n c.args.passes c.loop-number-test.true in
    let pass = pass_cut c.of.result n _ g.B.Site.table _ c.of.ensures (cut.right.0 ∙ i.0) (ap (λ m. m.0) cut.right.1 ∙ (ap (λ m. part_alone n m.0) i.1 ∙ parts.0)) in (
      cut.left.0 ∙ i.0,
      cut.left.1 ∙ (ap (λ m. (without_part n m.0, m.1)) i.1 ∙ ap (λ (v : View). (v, [])) parts.1),
      c.in_ok-push.ensures.ok ∙ (ap (λ l. l ++ c.of.result ∷ []) i.2 ∙ (ap (λ p. fresh_passes g.B.Site.table 0 n ++ p ∷ []) pass ∙ dealt_more g.B.Site.table n)),
    )
