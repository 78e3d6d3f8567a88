use Rattle.std.proofs.Common.{rules, codes, ◌∙◌, ◌++◌, ap, sym, refl, List, ℕ}
use Rattle.std.proofs.lemmas.List.{append_assoc}
use Rattle.std.proofs.lemmas.Result.{on_ok_weaker}
use Rattle.std.specs.List.{flat_map}
use Rattle.tp_report.specs.ReportText.{earlier_met_tokens}
use Rattle.tp_report.specs.Tokens.{text_of}
use Rattle.tp_report.proofs.TokenLemmas.{rounds_text, three_puts}
use Rattle.tp_report.proofs.cause.put_rounds.Goals as goal

pub returns-in_ok-put_met-in-Some : goal.returns-in_ok-put_met-in-Some
returns-in_ok-put_met-in-Some c =
    let text = rounds_text c.args.scenario.now c.args.mets.now c.in-Some.others.now c.in-Some.last.now (search rules) in
    on_ok_weaker c.put_byte.result
    (λ put. three_puts (c.args.out.now.items ++ codes "rounds ") _ _ _ _ _ (codes "\n") _ (c.in_ok-put_earlier_mets-in-Some.ensures ∙ ap (λ (l : List ℕ). l ++ text_of (flat_map (earlier_met_tokens c.args.scenario.now) c.in-Some.others.now)) c.in_ok-put-in-Some.ensures) c.in_ok-put_met-in-Some.ensures put refl
    ∙ (append_assoc c.args.out.now.items (codes "rounds ") _ ∙ ap (λ (l : List ℕ). c.args.out.now.items ++ l) (sym text)))
    c.put_byte.ensures
