use Rattle.std.proofs.Common.{arith, refl}
use Rattle.tp_model.proofs.RuleLemmas.{few_servers, few_txns, rules_of}
use Rattle.tp_machine.proofs.basics.Start.{machine_opened, world_at_start}
use Rattle.tp_machine.proofs.world.World.of.Goals as goal

pub invariant_of-result : goal.invariant_of-result
invariant_of-result c =
    let sc = c.args.scenario in
    let empty = c.in_ok-history.ensures in (
      world_at_start sc _ _ c.requires.valid c.requires.fit refl
          (machine_opened sc c.in_ok-actors.actors c.in_ok-history.history c.in_ok-actors.ensures empty.steps empty.facts empty.mails empty.pending),
      c.in_ok-opening.ensures,
    )

pub opened-requires-clause-servers : goal.opened-requires-clause-servers
opened-requires-clause-servers c = let few = few_servers c.args.scenario (rules_of c.args.scenario c.requires.valid) in omega (arith, few)

pub opened-requires-clause-txns : goal.opened-requires-clause-txns
opened-requires-clause-txns c = let few = few_txns c.args.scenario (rules_of c.args.scenario c.requires.valid) in omega (arith, few)
