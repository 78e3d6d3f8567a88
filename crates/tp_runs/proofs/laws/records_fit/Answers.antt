use Rattle.tp_runs.proofs.runs.Runs.{always_fit}
use Rattle.tp_runs.proofs.laws.records_fit.Goals as goal

pub returns : goal.returns
returns c = always_fit
