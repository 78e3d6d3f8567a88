use Rattle.std.proofs.Common.{◌≡◌, ◌∙◌, IfOk, sym, rules}
use Rattle.std.proofs.lemmas.Result.{IfOk-weaker}
use Rattle.tp_why.specs.Denial.{is_shown}
use Rattle.tp_why.proofs.DenialLemmas.{denial_sound}
use Rattle.tp_why.proofs.denial.is_denial_shown.Goals as goal

pub returns-in-Some-clause-sound : goal.returns-in-Some-clause-sound
returns-in-Some-clause-sound c =
    let exact : IfOk c.is_refuted_at.result (λ shown. shown ≡ is_shown c.args.scenario.now c.args.facts.now c.args.declared.now c.args.denied.now c.args.atoms.now) = search rules in
    IfOk-weaker c.is_refuted_at.result _ _
    (λ shown e is. denial_sound c.args.scenario.now c.args.facts.now c.args.declared.now c.args.denied.now c.args.atoms.now (sym e ∙ is))
    exact
