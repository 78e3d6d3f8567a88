use Rattle.std.proofs.Common.{not, ap, ◌∙◌}
use Rattle.tp_scenario.specs.Names.{is_new, with_name}
use Rattle.tp_scenario.proofs.NameLemmas.{name_added, name_found}
use Rattle.tp_scenario.specs.mirrors.Texts.{texts}
use Rattle.tp_scenario.proofs.names.Names.declare.Goals as goal

pub returns-clause-new : goal.returns-clause-new
returns-clause-new c = c.in_ok-insert.ensures.added ∙ (ap not (name_found c.args.name.now c.self.inside.names.keys) ∙ ap (is_new c.args.name.now) c.self.view_is)

pub returns-clause-names : goal.returns-clause-names
returns-clause-names c =
    ap texts c.in_ok-insert.ensures.keys ∙ (name_added c.args.name c.self.inside.names.keys ∙ ap (with_name c.args.name.now) c.self.view_is)
