use Rattle.tp_lock.proofs.OrderLemmas.{held_apart}
use Rattle.tp_lock.proofs.ReleaseLaws.{after_release_orderly, taken_orderly}
use Rattle.tp_lock.proofs.RequestLaws.{after_request_orderly, opening_orderly}
use Rattle.tp_lock.proofs.laws.tables_are_orderly.Goals as goal

pub returns-clause-opened : goal.returns-clause-opened
returns-clause-opened c = opening_orderly

pub returns-clause-requested : goal.returns-clause-requested
returns-clause-requested c = after_request_orderly

pub returns-clause-released : goal.returns-clause-released
returns-clause-released c = after_release_orderly

pub returns-clause-exclusive : goal.returns-clause-exclusive
returns-clause-exclusive c = held_apart

pub returns-clause-taken : goal.returns-clause-taken
returns-clause-taken c = taken_orderly
