use Rattle.tp_record.proofs.Bodies.{one_spelling}
use Rattle.tp_record.proofs.one_spelling.Goals as goal

pub returns : goal.returns
returns c = one_spelling
