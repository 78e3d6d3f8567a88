use Rattle.std.proofs.Common.{◌≡◌, ◌∙◌, List, ap, sym}
use Rattle.std.proofs.lemmas.Result.{IfOk-weaker}
use Rattle.tp_model.specs.Words.{Prepared}
use Rattle.tp_model.specs.ByAge.{by_age, by_txn}
use Rattle.tp_recover.proofs.TableLemmas.{by_txn_front}
use Rattle.tp_server.proofs.booted.aged.Goals as goal

pub returns : goal.returns
returns c =
    let same = by_txn_front c.args.table c.into_made.result _ c.into_made.ensures in
    let all = ap by_age (sym same) in
    IfOk-weaker c.by_age.result
    (λ (made : List Prepared). made ≡ by_age (by_txn c.into_made.result))
    (λ (made : List Prepared). made ≡ by_age (by_txn c.args.table))
    (λ made is. is ∙ all)
    c.by_age.ensures
