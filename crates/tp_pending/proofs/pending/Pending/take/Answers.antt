use Rattle.std.proofs.Common.{arith, Bool, List, Option, Some, length, slice_get, slice_set, sym, subst, ◌∙◌, ◌+◌, ◌<◌, ◌≡◌, ap, false, unwrap_or}
use Rattle.tp_pending.proofs.RingLemmas.{flag_past, flag_read, flags_long, taken_flags, taken_ring}
use Rattle.tp_pending.proofs.FlagLemmas.{taken_already}
use Rattle.tp_pending.specs.mirrors.Ring.{IsRing, flags_of, is_pending_in, with_before, with_done, without}
use Rattle.tp_pending.proofs.pending.Pending.take.Goals as goal

pub returns-then-len-number : goal.returns-then-len-number
returns-then-len-number c =
    taken_already c.args.self.now c.args.number (ap (λ (o : Option Bool). unwrap_or o false) (flag_past c.args.self.now c.args.number (omega (arith, c.if-len-number.true, c.len.ensures))))

pub invariant_of-self : goal.invariant_of-self
invariant_of-self c =
    let long = flags_long c.self.inside.nodes c.self.invariant.ended in
    let within : c.args.number + 1 < length c.self.inside.nodes = omega (arith, long, c.if-len-number.false, c.len.ensures, ap length c.self.view_is) in
    let here = flag_read c.self.inside.nodes c.args.number within ∙ ap (λ (b : Bool). Some b) (ap is_pending_in (sym c.visited-node.ensures.value) ∙ c.if-node.true) in
    let left : c.set_done.new.nodes ≡ without (c.args.number + 1) c.visited-node.result c.self.inside.nodes =
    c.set_done.ensures ∙ ap (with_done (c.args.number + 1)) (c.set_before.ensures ∙ ap (with_before c.visited-node.result.after c.visited-node.result.before) c.set_after.ensures) in
    subst IsRing (sym left) (taken_ring c.self.inside.nodes c.args.number c.visited-node.result here c.visited-node.ensures.value c.self.invariant)

pub returns-then-node : goal.returns-then-node
returns-then-node c =
    let left : c.set_done.new.nodes ≡ without (c.args.number + 1) c.visited-node.result c.self.inside.nodes =
    c.set_done.ensures ∙ ap (with_done (c.args.number + 1)) (c.set_before.ensures ∙ ap (with_before c.visited-node.result.after c.visited-node.result.before) c.set_after.ensures) in
    ap flags_of left ∙ (taken_flags c.self.inside.nodes c.args.number c.visited-node.result ∙ ap (λ (flags : List Bool). slice_set flags c.args.number false) c.self.view_is)

pub returns-else-node : goal.returns-else-node
returns-else-node c =
    let long = flags_long c.self.inside.nodes c.self.invariant.ended in
    let within : c.args.number + 1 < length c.self.inside.nodes = omega (arith, long, c.if-len-number.false, c.len.ensures, ap length c.self.view_is) in
    let here = flag_read c.self.inside.nodes c.args.number within ∙ ap (λ (b : Bool). Some b) (ap is_pending_in (sym c.visited-node.ensures.value) ∙ c.if-node.false) in
    taken_already c.args.self.now c.args.number (ap (λ (flags : List Bool). unwrap_or (slice_get flags c.args.number) false) (sym c.self.view_is) ∙ ap (λ (o : Option Bool). unwrap_or o false) here)
