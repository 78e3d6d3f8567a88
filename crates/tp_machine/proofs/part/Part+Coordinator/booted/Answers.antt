use Rattle.std.proofs.Common.{◌≡◌, Option, ap, subst, ◌∙◌}
use Rattle.std.proofs.lemmas.Result.{IfOk-weaker}
use Rattle.tp_types.specs.Effect.{Gives}
use Rattle.tp_model.specs.Words.{Decision}
use Rattle.tp_recover.specs.Log.{decided_in}
use Rattle.tp_recover.proofs.BootsApart.{decided_is_apart}
use Rattle.tp_coord.specs.Booted.{boot_by}
use Rattle.tp_machine.proofs.part.Part+Coordinator.booted.Goals as goal

pub returns-clause-made : goal.returns-clause-made
returns-clause-made c =
    let records = c.self.inside.records in
    let same : decided_in c.in_ok-past.past.others ≡ decided_in c.args.self.now.log =
    ap decided_in c.in_ok-past.ensures.whole.others_are ∙ decided_is_apart records ∙ ap decided_in (ap (λ p. p.log) c.self.view_is) in
    IfOk-weaker c.booted-made.result _ _
    (λ made gives. subst (λ (decided : Option Decision). Gives (boot_by c.args.scenario.now c.args.txn decided) made.0 made.1) same gives)
    c.booted-made.ensures
