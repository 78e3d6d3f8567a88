use Rattle.std.proofs.Common.{◌≡◌, drop}
use Rattle.tp_scenario.specs.Words.{skip_spaces}
use Rattle.tp_scenario.proofs.words.behind_spaces.Given as goal

-- only spaces were passed
abbrev pub invariant-loop-count : goal.invariant-loop-count
invariant-loop-count l = skip_spaces (drop l.count l.text) ≡ skip_spaces l.text
