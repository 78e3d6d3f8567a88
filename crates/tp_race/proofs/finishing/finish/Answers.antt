use Rattle.tp_race.proofs.FinishLemmas.{finishes_trusted}
use Rattle.tp_race.proofs.finishing.finish.Goals as goal

pub returns-in-Ok-write_all-clause-promised : goal.returns-in-Ok-write_all-clause-promised
returns-in-Ok-write_all-clause-promised g c =
    let written = rw c.as_slice.ensures at c.in-Ok-write_all.ensures.whole in
    λ done. finishes_trusted g.B.Site.about g.B.Site.table c.args.passes _ c.in-Ok.text.0 c.requires c.in-Ok.ensures written

pub returns-in-Ok-write_all-clause-ended : goal.returns-in-Ok-write_all-clause-ended
returns-in-Ok-write_all-clause-ended g c = record {
  text = c.in-Ok.text.0;
  finishes = c.in-Ok.ensures;
  written = rw c.as_slice.ensures at c.in-Ok-write_all.ensures.whole;
}
