use Rattle.tp_store.proofs.AppliedLemmas.{apart_with, set_after}
use Rattle.tp_store.proofs.laws.writes_are_applied_in_order.Goals as goal

pub returns-clause-order : goal.returns-clause-order
returns-clause-order c = set_after

pub returns-clause-apart : goal.returns-clause-apart
returns-clause-apart c = apart_with
