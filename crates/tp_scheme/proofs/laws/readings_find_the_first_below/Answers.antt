use Rattle.tp_scheme.proofs.BelowLemmas.{finds_the_first_below, none_where_none_is_below}
use Rattle.tp_scheme.proofs.laws.readings_find_the_first_below.Goals as goal

pub returns-clause-none : goal.returns-clause-none
returns-clause-none c = none_where_none_is_below

pub returns-clause-found : goal.returns-clause-found
returns-clause-found c = finds_the_first_below
