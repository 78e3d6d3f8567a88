use Rattle.std.proofs.Common.{◌≡◌, length}
use Rattle.tp_model.specs.Demand.{is_over}
use Rattle.tp_audit.proofs.DemandLemmas.{are_over}
use Rattle.tp_audit.proofs.demand.is_over.Given as goal

-- the proofs that are left decide
abbrev pub invariant-loop-at : goal.invariant-loop-at
invariant-loop-at l =
    record {
      complete : length l.proofs ≡ l.many;
      same : are_over l.at l.first l.many l.proofs ≡ is_over l.first l.many l.proofs;
    }
