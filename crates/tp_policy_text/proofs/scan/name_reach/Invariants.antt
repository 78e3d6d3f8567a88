use Rattle.std.proofs.Common.{◌≡◌, ◌+◌, drop}
use Rattle.tp_policy_text.specs.mirrors.Scans.{follows, reach}
use Rattle.tp_policy_text.proofs.scan.name_reach.Given as goal

-- what is left reaches the rest of the way
abbrev pub invariant-loop-count : goal.invariant-loop-count
invariant-loop-count l = l.count + reach follows l.count (drop l.count l.text) ≡ reach follows 0 l.text
