use Rattle.std.proofs.Common.{◌≡◌, ◌++◌, drop}
use Rattle.std.specs.List.{flat_map}
use Rattle.tp_policy_text.specs.Printed.{rule_line}
use Rattle.tp_policy_text.proofs.printer.put_rules.Given as goal

abbrev pub invariant-loop-rule : goal.invariant-loop-rule
invariant-loop-rule l = l.out.items ++ flat_map rule_line (drop l.rule-index l.rules) ≡ l.initial.out.items ++ flat_map rule_line l.rules
