use Rattle.std.proofs.Common.{[], ◌∷◌, ap}
use Rattle.tp_model.specs.Words.what
use Rattle.tp_coord.specs.Row.{submit_row}
use Rattle.tp_coord.specs.State.{Coordinator}
use Rattle.tp_machine.specs.Parts.{Part}
use Rattle.tp_machine.specs.Machine.{coordinator_fact}
use Rattle.tp_machine.proofs.basics.Acted.{acted_by}
use Rattle.tp_machine.proofs.part.coordinator_begins.Goals as goal

pub returns-clause-ok : goal.returns-clause-ok
returns-clause-ok g c =
    rw (← c.part.view_is, c.in-Some.is)
    (acted_by coordinator_fact (what.Submitted c.args.txn ∷ []) c.args.part.now c.noted.new.part _ (submit_row c.args.scenario.now c.in-Some.coordinator) c.submit.new.self c.in_ok-reaction.reaction c.noted.result c.in_ok-reaction.ensures
    (ap (λ (p : Part Coordinator). p.log) c.part.view_is) c.noted.ensures.forced (c.noted.ensures.told _ c.with_decision-happened.ensures))
