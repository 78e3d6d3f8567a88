use Rattle.tp_policy_text.proofs.AnswerLaws.{has_answer, has_one}
use Rattle.tp_policy_text.proofs.parsing.texts_have_one_answer.Goals as goal

pub returns-clause-some : goal.returns-clause-some
returns-clause-some c = has_answer

pub returns-clause-alone : goal.returns-clause-alone
returns-clause-alone c = has_one
