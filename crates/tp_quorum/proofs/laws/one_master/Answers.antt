use Rattle.tp_quorum.proofs.Runs.{always_one_master}
use Rattle.tp_quorum.proofs.laws.one_master.Goals as goal

pub returns : goal.returns
returns c = always_one_master
