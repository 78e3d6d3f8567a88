use Rattle.tp_scenario.specs.Policies.{policy_answer, policy_answer_is}
use Rattle.tp_scenario.proofs.admins.answer_of.Goals as goal

pub returns : goal.returns
returns c = c.parse.ensures.only (policy_answer c.args.text.now) (policy_answer_is c.args.text.now)
