use Rattle.std.proofs.Common.{◌≡◌, ◌++◌, take}
use Rattle.tp_race.proofs.scripts.add_all.Given as goal

-- the scripts so far are added
abbrev pub invariant-loop-script : goal.invariant-loop-script
invariant-loop-script l = l.made ≡ l.initial.made ++ take l.script-index l.script-items
