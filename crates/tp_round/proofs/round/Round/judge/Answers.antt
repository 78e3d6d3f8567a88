use Rattle.std.proofs.Common.{◌≡◌, false, true, Option, ap, subst, sym, ◌∙◌, IfOk, OnOk}
use Rattle.std.specs.List.{list_any}
use Rattle.std.specs.Option.{option_copied}
use Rattle.tp_model.specs.Words.{Reading}
use Rattle.tp_round.specs.declared.round.Judged.{Judged}
use Rattle.tp_round.specs.declared.round.Round.{Round}
use Rattle.tp_round.specs.Judge as rule
use Rattle.tp_round.specs.Replies.{proofs_in}
use Rattle.tp_round.proofs.JudgeLemmas.{judge_outdated, judged_outdated}
use Rattle.tp_round.proofs.round.Round.judge.Goals as goal

record Outdated (c : goal.After-outdated) : Type 0 where
  goes_on : rule.is_waiting c.args.self.now (option_copied c.args.reading) ≡ false
  is_met : c.met_in-met.result ≡ rule.met_in c.args.self.now (option_copied c.args.reading)
  is_out : list_any (rule.is_outdated c.in_ok-aim.aim) c.args.self.now.targets ≡ true

outdated_here : (c : goal.After-outdated) → Outdated c
outdated_here c =
    let round : Round = c.args.self.now in
    let read : Option Reading = option_copied c.args.reading in
    record {
      goes_on = sym c.is_waiting.ensures ∙ c.if-is_waiting.false;
      is_met =
          c.met_in-met.ensures ∙ ap (rule.met_by round.levels read (proofs_in round.targets)) (c.as_slice-then-has_outdated.ensures ∙ c.in_ok-aim.ensures);
      is_out =
          ap (λ aim. list_any (rule.is_outdated aim) round.targets) (sym c.as_slice.ensures) ∙ sym c.has_outdated.ensures ∙ c.if-has_outdated.true;
    }

pub returns-then-has_outdated-clause-answer : goal.returns-then-has_outdated-clause-answer
returns-then-has_outdated-clause-answer c =
    let here = outdated_here c in
    let answer = judge_outdated c.args.self.now (option_copied c.args.reading) c.in_ok-aim.aim c.met_in-met.result here.goes_on c.in_ok-aim.ensures here.is_met here.is_out in
    let P : Judged → Type 0 = λ judged. IfOk c.outdated.result (λ made. made ≡ judged) in
    subst P answer c.outdated.ensures.answer

pub returns-then-has_outdated-clause-next : goal.returns-then-has_outdated-clause-next
returns-then-has_outdated-clause-next c =
    let here = outdated_here c in
    let next = judged_outdated c.args.self.now (option_copied c.args.reading) c.in_ok-aim.aim c.met_in-met.result here.goes_on c.in_ok-aim.ensures here.is_met here.is_out in
    let P : Round → Type 0 = λ round. OnOk c.outdated.result (c.outdated.new.self ≡ round) in
    subst P next c.outdated.ensures.next
