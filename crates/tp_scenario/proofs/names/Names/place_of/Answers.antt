use Rattle.std.proofs.Common.{ap, ◌∙◌}
use Rattle.tp_scenario.specs.Names.{place_of}
use Rattle.tp_scenario.proofs.NameLemmas.{place_found}
use Rattle.tp_scenario.proofs.names.Names.place_of.Goals as goal

pub returns-in-None-clause-value : goal.returns-in-None-clause-value
returns-in-None-clause-value c = c.in-None.ensures.index ∙ (place_found c.args.name.now c.self.inside.names.keys ∙ ap (place_of c.args.name.now) c.self.view_is)

pub returns-in-Some-clause-value : goal.returns-in-Some-clause-value
returns-in-Some-clause-value c = c.in-Some.ensures.index ∙ (place_found c.args.name.now c.self.inside.names.keys ∙ ap (place_of c.args.name.now) c.self.view_is)
