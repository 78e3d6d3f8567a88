use Rattle.tp_json.specs.View.{view}
use Rattle.tp_scenario.proofs.ReadLemmas.{spelled_from, valid_from}
use Rattle.tp_scenario.proofs.from_bytes.read.Goals as goal

pub returns-clause-valid : goal.returns-clause-valid
returns-clause-valid c = valid_from (view c.in_ok-value.value) c.scenario_of.result c.scenario_of.ensures

pub returns-clause-spelled : goal.returns-clause-spelled
returns-clause-spelled c = spelled_from (view c.in_ok-value.value) c.scenario_of.result c.scenario_of.ensures
