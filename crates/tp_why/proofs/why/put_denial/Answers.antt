use Rattle.std.proofs.Common.{◌≡◌, ◌∙◌, ◌++◌, ℕ, List, Some, ap, rules}
use Rattle.std.proofs.lemmas.Result.{on_ok_weaker}
use Rattle.tp_why.specs.Denial.{asked_of}
use Rattle.tp_why.specs.Lines.{why_text}
use Rattle.tp_why.specs.mirrors.Asking.{lent_asked}
use Rattle.tp_why.proofs.WhyLemmas.{lines_at}
use Rattle.tp_why.proofs.why.put_denial.Goals as goal

pub returns-in_ok-moment-in-Some : goal.returns-in_ok-moment-in-Some
returns-in_ok-moment-in-Some c =
    let abort = c.args.abort.now in
    let moment = c.in_ok-moment-in-Some.moment in
    let told = c.in_ok-moment-in-Some.ensures in
    let found : Some (lent_asked c.in-Some.asked) ≡ asked_of abort.scenario.now c.args.declared.now c.args.denied.now = search rules in
    let same = lines_at abort.scenario.now moment.scenario.now c.args.denied.now.place moment.place abort.facts.now moment.facts.now c.args.declared.now (lent_asked c.in-Some.asked) _ told.scenario told.place told.facts found in
    on_ok_weaker c.put_at.result
    (λ put. put ∙ ap (λ (lines : List (List ℕ)). c.args.out.now.items ++ why_text abort.place lines) same)
    c.put_at.ensures
