use Rattle.std.proofs.Common.{ap, ◌∙◌}
use Rattle.std.proofs.lemmas.Result.{IfOk-weaker}
use Rattle.tp_recover.specs.Kept.{kept}
use Rattle.tp_machine.proofs.part.Part.kept.Goals as goal

pub kept_apart-made-requires-clause-boots : goal.kept_apart-made-requires-clause-boots
kept_apart-made-requires-clause-boots g c = c.in_ok-past.ensures.whole.few

pub returns-clause-kept : goal.returns-clause-kept
returns-clause-kept g c =
    let records = c.self.inside.records in
    let whole = c.in_ok-past.ensures.whole in
    IfOk-weaker c.kept_apart-made.result _ _
    (λ made is. is records whole.others_are whole.boots_are ∙ ap (kept c.args.scenario.now c.args.server) (ap (λ p. p.log) c.self.view_is))
    c.kept_apart-made.ensures.kept
