use Rattle.tp_policy_text.specs.Printed.{policy_text}
use Rattle.tp_policy_text.proofs.Answering.{shallow_within}
use Rattle.tp_policy_text.proofs.PrintedGrammar.{spelled_of_grammar}
use Rattle.tp_policy_text.proofs.PrintedRules.{printed_spells}
use Rattle.tp_policy_text.proofs.PrintedWholes.{spells_alone}
use Rattle.tp_policy_text.proofs.printer.printed_is_exact.Goals as goal

pub returns-clause-spelled : goal.returns-clause-spelled
returns-clause-spelled c = printed_spells

pub returns-clause-alone : goal.returns-clause-alone
returns-clause-alone c = spells_alone

pub returns-clause-of_grammar : goal.returns-clause-of_grammar
returns-clause-of_grammar c = spelled_of_grammar

pub returns-clause-within : goal.returns-clause-within
returns-clause-within c = λ policy h fits within. (fits, shallow_within (policy_text policy) policy (printed_spells policy h) within)
