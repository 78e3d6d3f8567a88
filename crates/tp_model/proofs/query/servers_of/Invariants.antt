use Rattle.std.proofs.Common.{◌≡◌, ◌-◌, ◌++◌, length}
use Rattle.tp_model.specs.Queries.{servers_from, servers_of}
use Rattle.tp_model.proofs.query.servers_of.Given as goal

-- what is made so far, and what the walk gives from here on, are the whole
abbrev pub invariant-loop-server : goal.invariant-loop-server
invariant-loop-server l =
    l.made ++ servers_from l.scenario l.txn.queries l.server (length l.scenario.servers - l.server) ≡ servers_of l.scenario l.txn
