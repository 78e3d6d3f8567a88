use Rattle.tp_audit.proofs.agreement.keeps_agreement.Goals as goal

pub returns-in-Decided : goal.returns-in-Decided
returns-in-Decided c = rw c.in-Decided.is c.is_good_decision.ensures

pub returns-in-Settled : goal.returns-in-Settled
returns-in-Settled c = rw c.in-Settled.is c.is_good_settlement.ensures
