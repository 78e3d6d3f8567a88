use Rattle.std.proofs.Common.{rules}
use Rattle.tp_scenario.specs.declared.from_bytes.ScenarioError.TheVariants as error
use Rattle.tp_ends.proofs.InputLemmas.{unread_refused}
use Rattle.tp_ends.proofs.input.scenario_in.Goals as goal

pub returns-in-Err-TooLong-clause-unread : goal.returns-in-Err-TooLong-clause-unread
returns-in-Err-TooLong-clause-unread g c = unread_refused _ error.TooLong _ (c.in-Err-TooLong.ensures.too_long (search rules)) c.refused.ensures
