use Rattle.std.proofs.Common.{Bool, List, sym, ◌∙◌, ap, arith, length, slice_get, ◌-◌}
use Rattle.tp_pending.proofs.RingLemmas.{oldest_none, oldest_some}
use Rattle.tp_pending.proofs.FlagLemmas.{marked-within}
use Rattle.tp_pending.specs.Flags.{marked}
use Rattle.tp_pending.specs.mirrors.Ring.{flags_of, link_after}
use Rattle.tp_pending.proofs.pending.Pending.first.Goals as goal

pub returns-then-node-eq0-clause-value : goal.returns-then-node-eq0-clause-value
returns-then-node-eq0-clause-value g c =
    oldest_none c.self.inside.nodes c.visited-node.result.after (ap link_after c.visited-node.ensures.value) c.if-node-eq0.true c.self.invariant
    ∙ ap (λ (flags : List Bool). slice_get (marked 0 flags) 0) c.self.view_is

pub returns-else-node-eq0-clause-value : goal.returns-else-node-eq0-clause-value
returns-else-node-eq0-clause-value g c =
    oldest_some c.self.inside.nodes c.visited-node.result.after (ap link_after c.visited-node.ensures.value) c.if-node-eq0.false c.self.invariant
    ∙ ap (λ (flags : List Bool). slice_get (marked 0 flags) 0) c.self.view_is

pub returns-else-node-eq0-clause-posted : goal.returns-else-node-eq0-clause-posted
returns-else-node-eq0-clause-posted g c =
    let shown = oldest_some c.self.inside.nodes c.visited-node.result.after (ap link_after c.visited-node.ensures.value) c.if-node-eq0.false c.self.invariant in
    let within = marked-within 0 (flags_of c.self.inside.nodes) 0 (c.visited-node.result.after - 1) (sym shown) in
    omega (arith, within, ap length c.self.view_is)
