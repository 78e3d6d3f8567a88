use Rattle.std.proofs.Common.{sym, subst}
use Rattle.std.proofs.lemmas.Result.{IfOk-weaker}
use Rattle.tp_recover.specs.declared.answer.Held.{Held}
use Rattle.tp_recover.specs.Laws.{HeldSays}
use Rattle.tp_recover.proofs.HeldLemmas.{held_says}
use Rattle.tp_recover.proofs.recovery.held.Goals as goal

pub returns-clause-says : goal.returns-clause-says
returns-clause-says c =
    IfOk-weaker c.recovered.result _ _
    (λ made is each. subst (λ (h : Held). HeldSays c.args.scenario.now c.args.server h c.args.records.now) (sym is)
    (held_says c.args.scenario.now c.args.server c.args.records.now each))
    c.recovered.ensures
