use Rattle.std.proofs.Common.{◌≡◌, map, take}
use Rattle.tp_offices.specs.Master.{opening_in}
use Rattle.tp_offices.proofs.master.opening_versions.Given as goal

-- the administrators so far have their versions
abbrev pub invariant-loop-admin : goal.invariant-loop-admin
invariant-loop-admin l = l.made ≡ map opening_in (take l.admin-index l.admins)
