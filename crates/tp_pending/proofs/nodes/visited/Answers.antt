use Rattle.std.proofs.Common.{sym, ◌∙◌}
use Rattle.tp_pending.specs.mirrors.Ring as mirror
use Rattle.tp_pending.proofs.RingLemmas.{read_none, read_some}
use Rattle.tp_pending.proofs.nodes.visited.Goals as goal

pub returns-in-None-clause-value : goal.returns-in-None-clause-value
returns-in-None-clause-value g c = c.end_alone.ensures ∙ sym (read_none c.args.nodes.now c.args.at mirror.end_alone c.in-None.ensures)

pub returns-in-Some-clause-value : goal.returns-in-Some-clause-value
returns-in-Some-clause-value g c = sym (read_some c.args.nodes.now c.args.at mirror.end_alone c.in-Some.found.now c.in-Some.ensures)
