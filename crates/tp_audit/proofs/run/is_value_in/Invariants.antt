use Rattle.std.proofs.Common.{◌≡◌, ◌+◌, drop}
use Rattle.tp_audit.specs.mirrors.Programs.{has_value}
use Rattle.tp_model.specs.SerialRun.{deeds_from}
use Rattle.tp_audit.proofs.run.is_value_in.Given as goal

-- the query is among those that are left
abbrev pub invariant-loop-at : goal.invariant-loop-at
invariant-loop-at l =
    has_value l.number l.value (deeds_from (l.at + 1) (drop l.at l.queries) l.registers l.store) ≡ has_value l.number l.value (deeds_from 1 l.queries l.initial.registers l.initial.store)
