use Rattle.std.proofs.Common.{◌<◌, length, ap, ◌∙◌, arith}
use Rattle.tp_places.specs.Padded.{padded}
use Rattle.tp_places.proofs.PaddedLemmas.{padded_more}
use Rattle.tp_places.proofs.overlay.reach.Goals as goal

pub loop-made-preserved : goal.loop-made-preserved
loop-made-preserved g c =
    let made = c.loop-made.made in
    let less : length made.items < c.args.count = omega (arith, made.ok.0, c.loop-made-test.true, c.len.ensures, c.requires.within) in
    record {
      table = ap (λ items. padded items c.args.count) c.push_reserved.ensures.items ∙ padded_more made.items c.args.count less ∙ c.loop-made.invariant.table;
      few = omega (arith, c.push_reserved.ensures.len, made.ok.0, less);
      room = c.push_reserved.ensures.capacity ∙ c.loop-made.invariant.room;
    }
