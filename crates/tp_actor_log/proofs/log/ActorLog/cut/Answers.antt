use Rattle.tp_actor_log.proofs.PastLemmas.{past_torn}
use Rattle.tp_actor_log.proofs.log.ActorLog.cut.Goals as goal

pub invariant_of-self : goal.invariant_of-self
invariant_of-self c =
    let done = c.tear.ensures in
    past_torn c.self.inside.past c.self.inside.log c.tear.new.log c.args.cut c.in-Some.forced c.tear.result c.self.invariant done.forced done.ok done.err
