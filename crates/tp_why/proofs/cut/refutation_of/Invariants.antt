use Rattle.std.proofs.Common.{◌≡◌, ◌+◌, ◌++◌, drop}
use Rattle.tp_why.specs.Refutation.{atoms_from, rule_atoms}
use Rattle.tp_why.specs.mirrors.Said.{said_by}
use Rattle.tp_why.proofs.cut.refutation_of.Given as goal

-- what is found so far, and the atoms of the rules that are left, make the whole
abbrev pub invariant-loop-before : goal.invariant-loop-before
invariant-loop-before l =
    l.found ++ atoms_from (rule_atoms l.action l.item (said_by l.held)) (l.before + 1) (drop l.before l.rule-items)
    ≡ atoms_from (rule_atoms l.action l.item (said_by l.held)) 1 l.rule-items
