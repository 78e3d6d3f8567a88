use Rattle.std.proofs.Common.{codes, decimal}
use Rattle.std.proofs.lemmas.Result.{on_ok_weaker}
use Rattle.tp_report.proofs.TokenLemmas.{instance_text, three_puts}
use Rattle.tp_report.proofs.commit.put_instance_front.Goals as goal

pub returns : goal.returns
returns c =
    on_ok_weaker c.put_byte.result
    (λ put. three_puts c.args.out.now.items _ _ _ (codes "instance ") (decimal c.args.number) (codes " ") _ c.in_ok-put.ensures c.in_ok-put_number.ensures put (instance_text c.args.number))
    c.put_byte.ensures
