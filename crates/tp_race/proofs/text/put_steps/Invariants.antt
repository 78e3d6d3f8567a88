use Rattle.std.proofs.Common.{◌≡◌, ◌++◌, drop}
use Rattle.std.specs.Prelude.{flat_map}
use Rattle.tp_race.specs.Texts.{step_line}
use Rattle.tp_race.proofs.text.put_steps.Given as goal

-- what is put so far, and the lines of what is left, make the whole
abbrev pub invariant-loop-taken : goal.invariant-loop-taken
invariant-loop-taken l = l.out.items ++ flat_map (step_line l.scenario) (drop l.taken-index l.taken-items) ≡ l.initial.out.items ++ flat_map (step_line l.scenario) l.taken-items
