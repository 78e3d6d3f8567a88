use Rattle.tp_runs.proofs.runs.Runs.{always_printable}
use Rattle.tp_runs.proofs.laws.histories_are_printable.Goals as goal

pub returns : goal.returns
returns c = always_printable
