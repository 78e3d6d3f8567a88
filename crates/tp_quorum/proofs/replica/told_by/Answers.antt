use Rattle.std.proofs.Common.{◌≡◌, ◌∙◌, List, IfOk, ap, subst}
use Rattle.tp_quorum.proofs.ReplicaLemmas.{told_without_boots}
use Rattle.tp_quorum.specs.Replica.{told_of_all}
use Rattle.tp_quorum.specs.Words.{Version}
use Rattle.tp_quorum.proofs.replica.told_by.Goals as goal

pub returns-clause-told : goal.returns-clause-told
returns-clause-told c =
    subst (λ (all : List Version). IfOk c.told_of_all-made.result (λ known. known ≡ all))
    (ap (told_of_all c.args.admins) (c.as_slice.ensures ∙ c.in_ok-past.ensures.whole.others_are) ∙ told_without_boots c.args.admins c.args.log.now) c.told_of_all-made.ensures
