use Rattle.tp_scheme.proofs.MoveLemmas.{last_query_decides, queries_lead_on}
use Rattle.tp_scheme.proofs.laws.queries_lead_on.Goals as goal

pub returns-clause-next : goal.returns-clause-next
returns-clause-next c = queries_lead_on

pub returns-clause-last : goal.returns-clause-last
returns-clause-last c = last_query_decides
