use Rattle.std.proofs.Common.{add-one, ap, ◌∙◌}
use Rattle.tp_round.specs.mirrors.Renewals.{with_renewed}
use Rattle.tp_round.proofs.RenewLemmas.{renewed_on}
use Rattle.tp_round.proofs.aim.renew.Goals as goal

pub loop-at-preserved : goal.loop-at-preserved
loop-at-preserved c = rw add-one (c.renew_at.ensures ∙ ap (λ targets. with_renewed c.args.aim.now targets c.loop-at.at) c.loop-at.invariant ∙ renewed_on c.args.aim.now c.args.targets.now c.loop-at.at)
