use Rattle.tp_runs.proofs.runs.Runs.{always_trusted, has_all_commits, has_all_ends}
use Rattle.tp_runs.proofs.laws.histories_are_trusted.Goals as goal

pub returns-clause-trusted : goal.returns-clause-trusted
returns-clause-trusted c = always_trusted

pub returns-clause-ended : goal.returns-clause-ended
returns-clause-ended c = has_all_ends

pub returns-clause-whole : goal.returns-clause-whole
returns-clause-whole c = has_all_commits
