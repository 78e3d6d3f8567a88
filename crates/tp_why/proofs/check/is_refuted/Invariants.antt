use Rattle.std.proofs.Common.{◌≡◌, ◌+◌, drop}
use Rattle.tp_why.specs.Refutation.{each_rule, is_rule_refuted}
use Rattle.tp_why.specs.mirrors.Said.{said_by}
use Rattle.tp_why.proofs.check.is_refuted.Given as goal

-- the rules that are left decide
abbrev pub invariant-loop-before : goal.invariant-loop-before
invariant-loop-before l =
    each_rule (is_rule_refuted l.action l.item (said_by l.held) l.atoms) (l.before + 1) (drop l.before l.rule-items)
    ≡ each_rule (is_rule_refuted l.action l.item (said_by l.held) l.atoms) 1 l.rule-items
