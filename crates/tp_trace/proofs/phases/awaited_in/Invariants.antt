use Rattle.std.proofs.Common.{◌≡◌, ◌++◌, drop, map, filter}
use Rattle.tp_round.specs.Judge.{is_missing, server_of_target}
use Rattle.tp_trace.proofs.phases.awaited_in.Given as goal

-- the servers so far, and those of the targets that are left, are all
abbrev pub invariant-loop-target : goal.invariant-loop-target
invariant-loop-target l = l.missing ++ map server_of_target (filter is_missing (drop l.target-index l.target-items)) ≡ map server_of_target (filter is_missing l.target-items)
