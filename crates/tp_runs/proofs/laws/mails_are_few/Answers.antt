use Rattle.tp_runs.proofs.runs.Runs.{sends_few}
use Rattle.tp_runs.proofs.laws.mails_are_few.Goals as goal

pub returns : goal.returns
returns c = sends_few
