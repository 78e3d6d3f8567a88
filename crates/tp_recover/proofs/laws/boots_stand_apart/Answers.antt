use Rattle.tp_recover.proofs.BootsApart.{decided_is_apart, kept_is_apart}
use Rattle.tp_recover.proofs.laws.boots_stand_apart.Goals as goal

pub returns-clause-kept : goal.returns-clause-kept
returns-clause-kept c = kept_is_apart

pub returns-clause-decided : goal.returns-clause-decided
returns-clause-decided c = decided_is_apart
