use Rattle.std.proofs.Common.{◌≡◌, ◌∙◌, IfOk, ap, rules}
use Rattle.std.proofs.lemmas.Result.{IfOk-weaker}
use Rattle.tp_why.specs.Denial.{denial, is_shown}
use Rattle.tp_why.proofs.DenialLemmas.{denial_complete}
use Rattle.tp_why.proofs.denial.denial_of.Goals as goal

pub returns-in-Some-clause-complete : goal.returns-in-Some-clause-complete
returns-in-Some-clause-complete c none =
    let exact : IfOk c.refutation_at.result (λ found. found ≡ denial c.args.scenario.now c.args.facts.now c.args.declared.now c.args.denied.now) = search rules in
    IfOk-weaker c.refutation_at.result _ _
    (λ found is. ap (is_shown c.args.scenario.now c.args.facts.now c.args.declared.now c.args.denied.now) is ∙ denial_complete c.args.scenario.now c.args.facts.now c.args.declared.now c.args.denied.now none)
    exact
