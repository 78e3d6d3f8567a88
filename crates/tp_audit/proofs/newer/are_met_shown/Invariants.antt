use Rattle.std.proofs.Common.{◌≡◌, drop}
use Rattle.std.specs.List.{list_all}
use Rattle.tp_model.specs.Causes.{is_met_shown}
use Rattle.tp_audit.proofs.newer.are_met_shown.Given as goal

-- the rounds that are left decide
abbrev pub invariant-loop-met : goal.invariant-loop-met
invariant-loop-met l =
    list_all (is_met_shown l.scenario l.txn l.decided l.facts l.declared) (drop l.met-index l.mets)
    ≡ list_all (is_met_shown l.scenario l.txn l.decided l.facts l.declared) l.mets
