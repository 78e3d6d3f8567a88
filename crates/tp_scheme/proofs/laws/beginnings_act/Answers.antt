use Rattle.tp_scheme.proofs.MoveLemmas.{asks_before_proved, beginnings_act, sends_unproved}
use Rattle.tp_scheme.proofs.laws.beginnings_act.Goals as goal

pub returns-clause-act : goal.returns-clause-act
returns-clause-act c = beginnings_act

pub returns-clause-sends : goal.returns-clause-sends
returns-clause-sends c = sends_unproved

pub returns-clause-asks : goal.returns-clause-asks
returns-clause-asks c = asks_before_proved
