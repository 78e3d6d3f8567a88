use Rattle.tp_scenario.proofs.KeptRules.{walked_spelled, walked_valid}
use Rattle.tp_scenario.proofs.ReadLemmas.{says_one, text_of_one}
use Rattle.tp_scenario.proofs.from_bytes.reading_is_exact.Goals as goal

pub returns-clause-answer : goal.returns-clause-answer
returns-clause-answer c = says_one

pub returns-clause-text : goal.returns-clause-text
returns-clause-text c = text_of_one

pub returns-clause-valid : goal.returns-clause-valid
returns-clause-valid c = walked_valid

pub returns-clause-spelled : goal.returns-clause-spelled
returns-clause-spelled c = walked_spelled
