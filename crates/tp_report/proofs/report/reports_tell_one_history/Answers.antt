use Rattle.tp_report.proofs.reading.History.{one_history}
use Rattle.tp_report.proofs.report.reports_tell_one_history.Goals as goal

pub returns : goal.returns
returns c = one_history
