use Rattle.std.proofs.Common.{◌≡◌, ◌+◌, [], drop}
use Rattle.tp_eval.specs.mirrors.Gathered.{takes_by_rule}
use Rattle.tp_eval.specs.Uses.{first_certificate}
use Rattle.tp_eval.proofs.policies.first_rule.Given as goal

-- the rules that are left decide, and nothing was added
abbrev pub invariant-loop-before : goal.invariant-loop-before
invariant-loop-before l =
    (first_certificate (takes_by_rule l.held l.action l.item) (l.before + 1) (drop l.before l.rules) ≡ first_certificate (takes_by_rule l.held l.action l.item) 1 l.rules)
    × (l.uses ≡ [])
