use Rattle.tp_lock.proofs.HoldsLemmas.{granted_is_held, kept_by_request}
use Rattle.tp_lock.proofs.RequestLaws.{is_answered, nobody_is_older_than_itself, older_than_the_older}
use Rattle.tp_lock.proofs.laws.requests_are_answered.Goals as goal

pub returns-clause-itself : goal.returns-clause-itself
returns-clause-itself c = nobody_is_older_than_itself

pub returns-clause-chains : goal.returns-clause-chains
returns-clause-chains c = older_than_the_older

pub returns-clause-cases : goal.returns-clause-cases
returns-clause-cases c = is_answered

pub returns-clause-held : goal.returns-clause-held
returns-clause-held c = granted_is_held

pub returns-clause-kept : goal.returns-clause-kept
returns-clause-kept c = kept_by_request
