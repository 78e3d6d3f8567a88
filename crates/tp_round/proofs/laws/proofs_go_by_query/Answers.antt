use Rattle.tp_round.proofs.QueryLemmas.{goes_by_query, keeps_each_query}
use Rattle.tp_round.proofs.laws.proofs_go_by_query.Goals as goal

pub returns-clause-kept : goal.returns-clause-kept
returns-clause-kept c = keeps_each_query

pub returns-clause-ordered : goal.returns-clause-ordered
returns-clause-ordered c = goes_by_query
