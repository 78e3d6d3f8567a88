-- The one answer that a policy's text has.
use Rattle.std.specs.Prelude.{ℕ, List, Result}
use Rattle.tp_model.specs.Words.{Policy}
use Rattle.tp_policy_text.specs.declared.parsing.ParseError.{ParseError}
use Rattle.tp_policy_text.specs.Parses.{Answers}
use Rattle.tp_policy_text.proofs.AnswerLaws.{has_answer}

-- each text has one answer, and this is it
pub policy_answer : List ℕ → Result Policy ParseError
policy_answer text = (has_answer text).0

-- the answer is that of the policy language
pub policy_answer_is : (text : List ℕ) → Answers text (policy_answer text)
unfolding policy_answer
policy_answer_is text = (has_answer text).1
