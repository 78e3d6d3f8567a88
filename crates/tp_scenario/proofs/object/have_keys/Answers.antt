use Rattle.std.proofs.Common.{◌++◌, sym, ◌∙◌}
use Rattle.tp_scenario.proofs.Views.{have_keys-view}
use Rattle.tp_scenario.proofs.object.have_keys.Goals as goal

pub returns : goal.returns
returns c = c.are_keys.ensures ∙ sym (have_keys-view (c.args.needed.now ++ c.args.others.now) c.args.members.now)
