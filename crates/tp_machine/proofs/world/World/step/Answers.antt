use Rattle.std.proofs.Common.{arith, sym, subst}
use Rattle.tp_model.proofs.RuleLemmas.{few_servers, rules_of}
use Rattle.tp_machine.specs.WorldView.{WorldView, machine_of}
use Rattle.tp_machine.specs.Named.{IsStepOf}
use Rattle.tp_machine.proofs.basics.Rules.{few_rules}
use Rattle.tp_machine.proofs.basics.Worlds.{logs_fit, world_next}
use Rattle.tp_machine.proofs.world.World.step.Goals as goal

pub invariant_of-self : goal.invariant_of-self
invariant_of-self g c =
    let w = c.self.inside in
    let view : WorldView = record { scenario = w.scenario; given_up = w.given_up; machine = machine_of w.actors w.history } in
    let exists = subst (λ (v : WorldView). IsStepOf v.scenario c.args.taken.now) (sym c.self.view_is) c.requires.ids in
    let new = machine_of c.act-done.new.actors c.act-done.new.history in
    (world_next view new c.args.taken.now c.self.invariant.0 c.if-self.false exists (sym c.in-None.ensures) c.in-Ok.ensures.ok, c.self.invariant.1)

pub act-done-requires-clause-servers : goal.act-done-requires-clause-servers
act-done-requires-clause-servers g c = let few = few_servers c.self.inside.scenario (rules_of c.self.inside.scenario c.self.invariant.0.valid) in omega (arith, few)

pub act-done-requires-clause-few : goal.act-done-requires-clause-few
act-done-requires-clause-few g c = few_rules c.self.inside.scenario c.self.invariant.0.valid

pub act-done-requires-clause-fits : goal.act-done-requires-clause-fits
act-done-requires-clause-fits g c =
    let w = c.self.inside in
    let view : WorldView = record { scenario = w.scenario; given_up = w.given_up; machine = machine_of w.actors w.history } in
    let exists = subst (λ (v : WorldView). IsStepOf v.scenario c.args.taken.now) (sym c.self.view_is) c.requires.ids in
    logs_fit view c.args.taken.now c.self.invariant.0 c.if-self.false exists (sym c.in-None.ensures)
