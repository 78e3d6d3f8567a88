use Rattle.std.proofs.Common.{◌≡◌, rules, sym, subst}
use Rattle.tp_policy_text.specs.Grammar.{Spells}
use Rattle.tp_policy_text.specs.Printed.{policy_text}
use Rattle.tp_policy_text.proofs.PrintedRules.{printed_spells}
use Rattle.tp_policy_text.proofs.PrintedWholes.{spells_alone}
use Rattle.tp_policy_text.proofs.printer.print.Goals as goal

text_is : (c : goal.After-from_vec) → c.from_vec.result ≡ policy_text c.args.policy.now
text_is c = search rules

pub returns-clause-spelled : goal.returns-clause-spelled
returns-clause-spelled c = subst (λ l. Spells c.args.policy.now l) (sym (text_is c)) (printed_spells c.args.policy.now c.requires)

pub returns-clause-alone : goal.returns-clause-alone
returns-clause-alone c = λ other h. spells_alone other c.args.policy.now c.from_vec.result h (returns-clause-spelled c)
