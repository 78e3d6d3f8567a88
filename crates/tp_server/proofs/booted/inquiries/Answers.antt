use Rattle.std.proofs.Common.{◌≡◌, ◌∙◌, List, ap, sym}
use Rattle.std.proofs.lemmas.Result.{IfOk-weaker}
use Rattle.tp_model.specs.Words.{Letter}
use Rattle.tp_model.specs.ByAge.{by_txn}
use Rattle.tp_recover.proofs.TableLemmas.{by_txn_front}
use Rattle.tp_server.specs.mirrors.Inquiries as mirror
use Rattle.tp_server.proofs.booted.inquiries.Goals as goal

pub returns : goal.returns
returns c =
    let table = c.args.table.now in
    let front = c.made.result.now in
    let same = by_txn_front table front _ c.made.ensures in
    let all = ap (mirror.inquiries c.args.server) (sym same) in
    IfOk-weaker c.inquiries_in.result
    (λ (letters : List Letter). letters ≡ mirror.inquiries c.args.server (by_txn front))
    (λ (letters : List Letter). letters ≡ mirror.inquiries c.args.server (by_txn table))
    (λ letters is. is ∙ all)
    c.inquiries_in.ensures
