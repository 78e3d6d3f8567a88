use Rattle.std.proofs.Common.{◌≡◌, length, take, ap, ◌∙◌, arith}
use Rattle.std.proofs.Math.Seq.{take-length}
use Rattle.tp_why.proofs.MomentLemmas.{clock_sums}
use Rattle.tp_why.proofs.moment.clock_at.Goals as goal

pub returns : goal.returns
returns c =
    let facts = c.args.facts.now in
    let total = clock_sums c.args.place facts in
    let end : c.loop-fact.fact-index ≡ length facts = grind arith in
    let whole = ap (λ n. take n facts) end ∙ take-length facts in
    cc
