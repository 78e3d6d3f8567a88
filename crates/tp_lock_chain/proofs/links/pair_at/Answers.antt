use Rattle.std.proofs.Common.{ap, sym, ◌∙◌}
use Rattle.tp_lock_chain.specs.mirrors.Links as mirror
use Rattle.tp_lock_chain.proofs.ReadLemmas.{read_none, read_some}
use Rattle.tp_lock_chain.proofs.links.pair_at.Goals as goal

pub returns-in-None : goal.returns-in-None
returns-in-None c = c.pair_of.ensures ∙ ap (mirror.pair_of c.args.kind) (c.blank.ensures ∙ sym (read_none c.args.nodes.now c.args.node mirror.blank c.in-None.ensures))

pub returns-in-Some : goal.returns-in-Some
returns-in-Some c = c.pair_of-in-Some.ensures ∙ ap (mirror.pair_of c.args.kind) (sym (read_some c.args.nodes.now c.args.node mirror.blank c.in-Some.found.now c.in-Some.ensures))
