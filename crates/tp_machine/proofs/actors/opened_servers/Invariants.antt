use Rattle.std.proofs.Common.{◌≡◌}
use Rattle.tp_machine.specs.Machine.{opened_servers}
use Rattle.tp_machine.proofs.actors.opened_servers.Given as goal

-- so many servers are opened so far
abbrev pub invariant-loop-number : goal.invariant-loop-number
invariant-loop-number l = l.made ≡ opened_servers l.scenario l.number
