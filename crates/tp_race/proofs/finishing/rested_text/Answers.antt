use Rattle.tp_race.proofs.FinishLemmas.{rested_tells}
use Rattle.tp_race.proofs.finishing.rested_text.Goals as goal

pub returns-clause-text : goal.returns-clause-text
returns-clause-text c = rested_tells c.args.world.now c.settle.new.world c.race_text.result c.scenario-valid.ensures.valid c.in_ok-settle.ensures.rests c.race_text.ensures.text c.race_text.ensures.so_far c.race_text.ensures.whole
