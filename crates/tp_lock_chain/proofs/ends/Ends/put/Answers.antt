use Rattle.std.proofs.Common.{◌≡◌, ◌<◌, ◌∙◌, ◌++◌, ◌∷◌, [], length, ap, arith, slice_set}
use Rattle.tp_lock_chain.specs.mirrors.Ends.{filled}
use Rattle.tp_lock_chain.proofs.EndLemmas.{set_last, set_over, set_written}
use Rattle.tp_lock_chain.proofs.ends.Ends.put.Goals as goal

pub returns-then-ring-self : goal.returns-then-ring-self
returns-then-ring-self c =
    let e = c.self.inside in
    let within : c.args.ring < length e.written = omega (arith, c.self.invariant, c.if-ring-self.true) in
    ap (λ written. filled 0 written ++ e.last ∷ []) c.put.ensures
    ∙ set_written e.written c.args.ring e.last c.args.pair within
    ∙ ap (λ ends. slice_set ends c.args.ring c.args.pair) c.self.view_is

pub returns-then-ring-self-2 : goal.returns-then-ring-self-2
returns-then-ring-self-2 c =
    let e = c.self.inside in
    let all : length e.written ≡ c.args.ring = omega (arith, c.self.invariant, c.if-ring-self-2.true) in
    set_last e.written c.args.ring e.last c.args.pair all ∙ ap (λ ends. slice_set ends c.args.ring c.args.pair) c.self.view_is

pub returns-else-ring-self-2 : goal.returns-else-ring-self-2
returns-else-ring-self-2 c =
    let e = c.self.inside in
    let over : length e.written < c.args.ring = omega (arith, c.self.invariant, c.if-ring-self.false, c.if-ring-self-2.false) in
    rw (← c.self.view_is) (set_over e.written c.args.ring e.last c.args.pair over)
