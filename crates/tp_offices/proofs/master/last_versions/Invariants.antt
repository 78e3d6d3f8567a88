use Rattle.std.proofs.Common.{◌≡◌, map, take}
use Rattle.tp_offices.specs.Master.{last_of}
use Rattle.tp_offices.proofs.master.last_versions.Given as goal

-- the administrators so far have their versions
abbrev pub invariant-loop-admin : goal.invariant-loop-admin
invariant-loop-admin l = l.made ≡ map last_of (take l.admin-index l.admins)
