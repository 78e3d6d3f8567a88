use Rattle.std.proofs.Common.{◌≡◌, ◌<◌, ◌∙◌, length, ap, arith}
use Rattle.tp_lock_chain.specs.mirrors.Ends.{end_or_lone}
use Rattle.tp_lock_chain.specs.mirrors.Links.{end_of}
use Rattle.tp_lock_chain.proofs.EndLemmas.{read_filled, read_last, read_past, stands_within}
use Rattle.tp_lock_chain.proofs.ends.Ends.get.Goals as goal

pub returns-in-Some : goal.returns-in-Some
returns-in-Some c =
    let e = c.self.inside in
    let within = stands_within e.written c.args.ring c.in-Some.pair c.in-Some.ensures in
    ap (end_or_lone c.args.ring) c.in-Some.ensures ∙ read_filled e.written c.args.ring e.last within ∙ ap (λ ends. end_of ends c.args.ring) c.self.view_is

pub returns-then-ring-self : goal.returns-then-ring-self
returns-then-ring-self c =
    let e = c.self.inside in
    let within : c.args.ring < length e.written = omega (arith, c.self.invariant, c.if-ring-self.true) in
    c.lone.ensures
    ∙ ap (end_or_lone c.args.ring) c.in-None.ensures
    ∙ read_filled e.written c.args.ring e.last within
    ∙ ap (λ ends. end_of ends c.args.ring) c.self.view_is

pub returns-then-ring-self-2 : goal.returns-then-ring-self-2
returns-then-ring-self-2 c =
    let e = c.self.inside in
    let all : length e.written ≡ c.args.ring = omega (arith, c.self.invariant, c.if-ring-self-2.true) in
    read_last e.written c.args.ring e.last all ∙ ap (λ ends. end_of ends c.args.ring) c.self.view_is

pub returns-else-ring-self-2 : goal.returns-else-ring-self-2
returns-else-ring-self-2 c =
    let e = c.self.inside in
    let over : length e.written < c.args.ring = omega (arith, c.self.invariant, c.if-ring-self.false, c.if-ring-self-2.false) in
    c.nowhere.ensures ∙ read_past e.written c.args.ring e.last over ∙ ap (λ ends. end_of ends c.args.ring) c.self.view_is
