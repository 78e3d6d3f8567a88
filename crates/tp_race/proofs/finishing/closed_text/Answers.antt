use Rattle.tp_race.proofs.FinishLemmas.{closed_to}
use Rattle.tp_race.proofs.finishing.closed_text.Goals as goal

pub close-requires : goal.close-requires
close-requires g c = c.requires.site

pub returns : goal.returns
returns g c = closed_to g.B.Site.about c.args.passes c.in_ok-world.world c.rested_text-text.result c.in_ok-world.ensures.live c.in_ok-world.ensures.closed c.rested_text-text.ensures.valid c.rested_text-text.ensures.text
