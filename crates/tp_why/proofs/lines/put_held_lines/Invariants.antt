use Rattle.std.proofs.Common.{◌≡◌, ◌++◌, drop, map}
use Rattle.tp_why.specs.Lines.{held_words, why_text}
use Rattle.tp_why.specs.mirrors.Said.{lent}
use Rattle.tp_why.proofs.lines.put_held_lines.Given as goal

-- what is put so far, and the lines of what is left, make the whole
abbrev pub invariant-loop-credential : goal.invariant-loop-credential
invariant-loop-credential l = l.out.items ++ why_text l.place (map held_words (map lent (drop l.credential-index l.held))) ≡ l.initial.out.items ++ why_text l.place (map held_words (map lent l.held))
