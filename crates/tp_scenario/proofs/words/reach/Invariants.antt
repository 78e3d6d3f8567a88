use Rattle.std.proofs.Common.{◌≡◌, ◌+◌, drop}
use Rattle.tp_scenario.specs.Words.{reach}
use Rattle.tp_scenario.proofs.words.reach.Given as goal

-- what is left reaches the rest of the way
abbrev pub invariant-loop-count : goal.invariant-loop-count
invariant-loop-count l = l.count + reach (drop l.count l.text) ≡ reach l.text
