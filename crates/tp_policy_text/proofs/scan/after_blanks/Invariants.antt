use Rattle.std.proofs.Common.{◌≡◌, drop}
use Rattle.tp_policy_text.specs.Lexis.{skip}
use Rattle.tp_policy_text.proofs.scan.after_blanks.Given as goal

-- only blanks were passed
abbrev pub invariant-loop-count : goal.invariant-loop-count
invariant-loop-count l = skip (drop l.count l.text) ≡ skip l.text
