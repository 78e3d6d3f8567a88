use Rattle.std.proofs.Common.{◌≡◌}
use Rattle.tp_machine.specs.Machine.{idle_coordinators}
use Rattle.tp_machine.proofs.actors.idle_coordinators.Given as goal

-- so many coordinators are made so far
abbrev pub invariant-loop-number : goal.invariant-loop-number
invariant-loop-number l = l.made ≡ idle_coordinators l.scenario l.number
