use Rattle.std.proofs.Common.{sym, ◌∙◌}
use Rattle.tp_lock_chain.specs.mirrors.Links as mirror
use Rattle.tp_lock_chain.proofs.ReadLemmas.{read_none, read_some}
use Rattle.tp_lock_chain.proofs.links.end_of.Goals as goal

pub returns-in-None : goal.returns-in-None
returns-in-None c = c.nowhere.ensures ∙ sym (read_none c.args.ends.now c.args.ring mirror.nowhere c.in-None.ensures)

pub returns-in-Some : goal.returns-in-Some
returns-in-Some c = sym (read_some c.args.ends.now c.args.ring mirror.nowhere c.in-Some.found.now c.in-Some.ensures)
