use Rattle.std.proofs.Common.{◌≡◌, take}
use Rattle.tp_recover.specs.Kept.{with_all_told}
use Rattle.tp_recover.proofs.versions.tell_all.Given as goal

-- the versions so far are told
abbrev pub invariant-loop-admin : goal.invariant-loop-admin
invariant-loop-admin l = l.newest ≡ with_all_told l.initial.newest (take l.admin l.told)
