use Rattle.std.proofs.Common.{◌∙◌}
use Rattle.tp_scenario.proofs.TermLemmas.{terms_step}
use Rattle.tp_scenario.proofs.query.terms_after.Goals as goal

pub loop-sign-preserved : goal.loop-sign-preserved
loop-sign-preserved c =
    terms_step _ _ _ _ _ _ _ _ c.in-Some.ensures.some c.in-Some-next.ensures.some c.in-Some-signed_term.ensures c.in_ok-push.ensures.ok ∙ c.loop-sign.invariant
