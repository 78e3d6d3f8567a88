use Rattle.std.proofs.Common.{◌⊎◌, ◌≤◌, Ok, length, sym, subst, ◌∙◌}
use Rattle.tp_policy_text.specs.Grammar.{IsWithin, Spells}
use Rattle.tp_policy_text.specs.Parses.{Answers, IsOutOfMemory}
use Rattle.tp_policy_text.proofs.Answering.{shallow_within}
use Rattle.tp_policy_text.proofs.rereading.print_and_parse.Goals as goal

pub returns-clause-answer : goal.returns-clause-answer
returns-clause-answer c = subst (λ l. IsOutOfMemory c.parse.result ⊎ Answers l c.parse.result) (c.as_slice.ensures ∙ c.in_ok-text.ensures.printed) c.parse.ensures.answer

pub returns-clause-same : goal.returns-clause-same
returns-clause-same c fits within =
    let same = c.as_slice.ensures in
    let printed_is = same ∙ c.in_ok-text.ensures.printed in
    c.parse.ensures.only (Ok c.args.policy.now) (
      subst (λ l. length l ≤ 4096) (sym printed_is) fits,
      shallow_within c.as_slice.result.now c.args.policy.now (subst (Spells c.args.policy.now) (sym same) c.in_ok-text.ensures.spelled)
          (subst (IsWithin 16) (sym printed_is) within),
    )
