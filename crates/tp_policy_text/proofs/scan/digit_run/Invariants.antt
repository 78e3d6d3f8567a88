use Rattle.std.proofs.Common.{◌≡◌, ◌+◌, drop}
use Rattle.tp_policy_text.specs.mirrors.Scans.{is_next_digit, reach}
use Rattle.tp_policy_text.proofs.scan.digit_run.Given as goal

-- what is left reaches the rest of the way
abbrev pub invariant-loop-count : goal.invariant-loop-count
invariant-loop-count l = l.count + reach is_next_digit l.count (drop l.count l.text) ≡ reach is_next_digit 0 l.text
