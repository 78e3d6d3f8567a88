use Rattle.tp_why.proofs.AbsentLemmas as lemmas
use Rattle.tp_why.proofs.nearest.absent_is_of_none.Goals as goal

pub returns : goal.returns
returns c = lemmas.absent_is_of_none
