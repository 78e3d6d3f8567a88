use Rattle.std.proofs.Common.{◌≡◌, ◌∙◌, ap, sym, IfOk}
use Rattle.std.proofs.lemmas.Result.{IfOk-weaker}
use Rattle.std.specs.Option.{is_some}
use Rattle.tp_cred.specs.mirrors.HeldBy.{holder_in}
use Rattle.tp_eval.specs.Uses.{certificate}
use Rattle.tp_eval.proofs.CertificateLemmas.{distinct_where, exists_where_allowed, passes_where, presented_where, some_where}
use Rattle.tp_eval.proofs.SoundLemmas.{Asked}
use Rattle.tp_eval.proofs.policies.evaluate.Goals as goal

abbrev asked_by : goal.After-drop-said-5 → Asked
asked_by c = record {
  holder = holder_in c.args.held.now;
  presented = c.args.held.now.creds.now;
}

exact : (c : goal.After-drop-said-5) → IfOk c.certify_presented.result
    (λ found. found ≡ certificate c.args.policy.now c.args.action c.args.item.now (holder_in c.args.held.now) c.args.held.now.creds.now)
exact c = c.certify_presented.ensures

pub returns-clause-truth : goal.returns-clause-truth
returns-clause-truth c =
    IfOk-weaker c.certify_presented.result _ _ (λ found is. ap is_some is ∙ exists_where_allowed (asked_by c) c.args.policy.now c.args.action c.args.item.now) (exact c)

pub returns-clause-passes : goal.returns-clause-passes
returns-clause-passes c =
    IfOk-weaker c.certify_presented.result _ _
    (λ found is. some_where found _ (λ given e. passes_where (asked_by c) c.args.policy.now c.args.action c.args.item.now given (sym is ∙ e)))
    (exact c)

pub returns-clause-presented : goal.returns-clause-presented
returns-clause-presented c =
    IfOk-weaker c.certify_presented.result _ _
    (λ found is. some_where found _ (λ given e. presented_where (asked_by c) c.args.policy.now c.args.action c.args.item.now given (sym is ∙ e)))
    (exact c)

pub returns-clause-each_once : goal.returns-clause-each_once
returns-clause-each_once c =
    IfOk-weaker c.certify_presented.result _ _
    (λ found is. some_where found _ (λ given e. distinct_where (asked_by c) c.args.policy.now c.args.action c.args.item.now given (sym is ∙ e)))
    (exact c)
