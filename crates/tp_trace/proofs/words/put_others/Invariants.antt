use Rattle.std.proofs.Common.{◌≡◌, ◌++◌, drop}
use Rattle.std.specs.List.{flat_map}
use Rattle.tp_trace.specs.Words.{behind_comma}
use Rattle.tp_trace.proofs.words.put_others.Given as goal

-- what is put so far, and the words of what is left, make the whole
abbrev pub invariant-loop-other : goal.invariant-loop-other
invariant-loop-other g l = l.out.items ++ flat_map (behind_comma (g.M.Member.word l.scenario)) (drop l.other-index l.others) ≡ l.initial.out.items ++ flat_map (behind_comma (g.M.Member.word l.scenario)) l.others
