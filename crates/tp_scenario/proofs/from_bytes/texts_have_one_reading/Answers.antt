use Rattle.tp_scenario.proofs.SpelledQueries.{one_query, query_so, so_query}
use Rattle.tp_scenario.proofs.SpelledSteps.{one_step, so_step, step_so}
use Rattle.tp_scenario.proofs.SpelledValues.{query_value, step_value}
use Rattle.tp_scenario.proofs.SpelledWords.{one_split}
use Rattle.tp_scenario.proofs.from_bytes.texts_have_one_reading.Goals as goal

pub returns-clause-words : goal.returns-clause-words
returns-clause-words c = one_split

pub returns-clause-queries : goal.returns-clause-queries
returns-clause-queries c text asked = (query_so text asked, so_query text asked)

pub returns-clause-one_query : goal.returns-clause-one_query
returns-clause-one_query c = one_query

pub returns-clause-steps : goal.returns-clause-steps
returns-clause-steps c text command = (step_so text command, so_step text command)

pub returns-clause-one_step : goal.returns-clause-one_step
returns-clause-one_step c = one_step

pub returns-clause-query_values : goal.returns-clause-query_values
returns-clause-query_values c = query_value

pub returns-clause-step_values : goal.returns-clause-step_values
returns-clause-step_values c = step_value
