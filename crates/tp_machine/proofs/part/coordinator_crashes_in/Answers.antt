use Rattle.std.proofs.Common.{[], ◌∷◌, ap, refl}
use Rattle.std.proofs.lemmas.Result.{on_ok_weaker}
use Rattle.tp_model.specs.Words.actor
use Rattle.tp_model.specs.Words.what
use Rattle.tp_coord.specs.Row.{coordinator_row}
use Rattle.tp_coord.specs.State.{Coordinator}
use Rattle.tp_machine.specs.Parts.{Part}
use Rattle.tp_machine.specs.Machine.{coordinator_fact}
use Rattle.tp_machine.proofs.basics.Acted.{torn_by}
use Rattle.tp_machine.proofs.part.coordinator_crashes_in.Goals as goal

pub returns-clause-ok : goal.returns-clause-ok
returns-clause-ok g c =
    rw (← c.part.view_is, c.in-Some.is)
    (torn_by coordinator_fact (what.Crashed (actor.Coordinator c.args.txn) ∷ []) (record { up = c.part.inside.up; log = c.part.inside.records }) c.torn.new.part _ c.args.cut c.in_ok-append.field-0 (coordinator_row c.args.scenario.now c.in-Some.coordinator c.args.mail.now).reaction c.torn.result
    c.in_ok-append.ensures.reaction_is refl (on_ok_weaker c.torn.result (ap (λ (p : Part Coordinator). p.log)) c.torn.ensures.torn)
    (c.torn.ensures.told _ c.coordinator_cut_facts-happened.ensures))
