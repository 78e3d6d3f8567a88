use Rattle.std.proofs.Common.{Bool, List, Option, sym, ◌∙◌, ◌+◌, ◌<◌, ap, arith, false, length, slice_get, unwrap_or}
use Rattle.tp_pending.proofs.FlagLemmas.{any-marked_all}
use Rattle.tp_pending.proofs.RingLemmas.{flag_past, flag_read, flags_long, read_past, read_some}
use Rattle.tp_pending.specs.mirrors.Ring.{end_alone, is_pending_in}
use Rattle.tp_pending.proofs.pending.Pending.is_pending.Goals as goal

pub returns-then-len-number : goal.returns-then-len-number
returns-then-len-number c =
    sym (any-marked_all c.args.number c.args.self.now ∙ ap (λ (o : Option Bool). unwrap_or o false) (flag_past c.args.self.now c.args.number (omega (arith, c.if-len-number.true, c.len.ensures))))

pub returns-in-None : goal.returns-in-None
returns-in-None c =
    sym (any-marked_all c.args.number c.args.self.now
    ∙ ap (λ (o : Option Bool). unwrap_or o false) (flag_past c.args.self.now c.args.number
    (omega (arith, read_past c.self.inside.nodes (c.args.number + 1) c.in-None.ensures, flags_long c.self.inside.nodes c.self.invariant.ended, ap length c.self.view_is))))

pub returns-in-Some : goal.returns-in-Some
returns-in-Some c =
    let long = flags_long c.self.inside.nodes c.self.invariant.ended in
    let within : c.args.number + 1 < length c.self.inside.nodes = omega (arith, long, c.if-len-number.false, c.len.ensures, ap length c.self.view_is) in
    let here = read_some c.self.inside.nodes (c.args.number + 1) end_alone c.in-Some.node.now c.in-Some.ensures in
    sym (any-marked_all c.args.number c.args.self.now
    ∙ (ap (λ (flags : List Bool). unwrap_or (slice_get flags c.args.number) false) (sym c.self.view_is)
    ∙ (ap (λ (o : Option Bool). unwrap_or o false) (flag_read c.self.inside.nodes c.args.number within) ∙ ap is_pending_in here)))
