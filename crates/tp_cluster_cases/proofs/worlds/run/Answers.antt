use Rattle.std.proofs.Common.{◌∙◌, ap}
use Rattle.tp_machine.specs.WorldView.{WorldView}
use Rattle.tp_cluster_cases.proofs.PassLemmas.{listed_here}
use Rattle.tp_cluster_cases.proofs.worlds.run.Goals as goal

pub start_of-requires : goal.start_of-requires
start_of-requires c = c.requires

pub done_in-requires-clause-ids : goal.done_in-requires-clause-ids
done_in-requires-clause-ids c = listed_here c.args.scenario c.in_ok-world.world c.as_slice.result.now c.requires c.in_ok-world.ensures (c.as_slice.ensures ∙ c.in_ok-steps.ensures)

pub done_in-requires-clause-up : goal.done_in-requires-clause-up
done_in-requires-clause-up c = ap (λ (w : WorldView). w.given_up) c.in_ok-world.ensures
