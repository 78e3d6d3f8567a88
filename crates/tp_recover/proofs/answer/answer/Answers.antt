use Rattle.std.proofs.Common.{List, ap, sym, ◌∙◌}
use Rattle.tp_model.specs.Words.{Prepared}
use Rattle.tp_model.specs.ByAge.{by_age}
use Rattle.tp_recover.specs.Held as rule
use Rattle.tp_recover.proofs.TableLemmas.{by_txn_front}
use Rattle.tp_recover.proofs.answer.answer.Goals as goal

pub returns : goal.returns
returns c =
    let is = c.in_ok-prepared.ensures ∙ ap by_age (sym (by_txn_front c.args.kept.prepared c.into_made.result _ c.into_made.ensures)) in
    ap (λ (placed : List Prepared). record (rule.held_of c.args.kept) { prepared = placed }) is
