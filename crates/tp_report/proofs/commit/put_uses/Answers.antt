use Rattle.std.proofs.Common.{rules, codes}
use Rattle.std.proofs.lemmas.Result.{on_ok_weaker}
use Rattle.tp_report.proofs.TokenLemmas.{three_puts, uses_text}
use Rattle.tp_report.proofs.commit.put_uses.Goals as goal

pub returns-in_ok-put_cred-in-Some : goal.returns-in_ok-put_cred-in-Some
returns-in_ok-put_cred-in-Some c =
    let text = uses_text c.args.scenario.now c.args.uses.now c.in-Some.others.now c.in-Some.last.now (search rules) in
    on_ok_weaker c.put_byte.result
    (λ put. three_puts c.args.out.now.items _ _ _ _ _ (codes "\n") _ c.in_ok-put_creds-in-Some.ensures c.in_ok-put_cred-in-Some.ensures put text)
    c.put_byte.ensures
