use Rattle.tp_lock.proofs.HoldsLemmas.{grants_are_held, kept_by_release}
use Rattle.tp_lock.proofs.ReleaseLaws.{clear_is_held, grants_are_those, grants_go_by_item, others_stay, owner_is_gone, untouched}
use Rattle.tp_lock.proofs.laws.releases_grant.Goals as goal

pub returns-clause-gone : goal.returns-clause-gone
returns-clause-gone c = owner_is_gone

pub returns-clause-others : goal.returns-clause-others
returns-clause-others c = others_stay

pub returns-clause-clear : goal.returns-clause-clear
returns-clause-clear c = clear_is_held

pub returns-clause-grants : goal.returns-clause-grants
returns-clause-grants c = grants_are_those

pub returns-clause-by_item : goal.returns-clause-by_item
returns-clause-by_item c = grants_go_by_item

pub returns-clause-absent : goal.returns-clause-absent
returns-clause-absent c = untouched

pub returns-clause-kept : goal.returns-clause-kept
returns-clause-kept c = kept_by_release

pub returns-clause-held : goal.returns-clause-held
returns-clause-held c = grants_are_held
