use Rattle.std.proofs.Common.{◌∙◌, ap, arith}
use Rattle.tp_wire.specs.Passes.{fresh_pass}
use Rattle.tp_cluster.proofs.OpeningLemmas.{dealt_more}
use Rattle.tp_cluster.proofs.opening.Dealer.callers.Goals as goal

pub loop-dealt-preserved : goal.loop-dealt-preserved
loop-dealt-preserved g c =
    let i = c.loop-dealt.invariant in
    let e = c.in_ok-pass.ensures in
    let first = i.0 in
    let next = e.2 in (
      omega (arith, first, next),
      c.in_ok-push.ensures.ok
          ∙ dealt_more g.B.Site.table c.args.self.now c.loop-dealt.dealt c.loop-dealt.made c.in_ok-pass.pass i.1 (e.1 ∙ ap (fresh_pass g.B.Site.table) i.0),
    )
