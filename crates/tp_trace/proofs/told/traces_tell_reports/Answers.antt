use Rattle.tp_trace.proofs.ToldLemmas.{reports_told}
use Rattle.tp_trace.proofs.told.traces_tell_reports.Goals as goal

pub returns : goal.returns
returns c = reports_told
