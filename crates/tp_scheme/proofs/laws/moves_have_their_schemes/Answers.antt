use Rattle.tp_scheme.proofs.MoveLemmas.{decides_after_votes, probes_incremental, rounds_at_commit, validates_continuous, votes_incremental}
use Rattle.tp_scheme.proofs.laws.moves_have_their_schemes.Goals as goal

pub returns-clause-probes : goal.returns-clause-probes
returns-clause-probes c = probes_incremental

pub returns-clause-validates : goal.returns-clause-validates
returns-clause-validates c = validates_continuous

pub returns-clause-votes : goal.returns-clause-votes
returns-clause-votes c = votes_incremental

pub returns-clause-rounds : goal.returns-clause-rounds
returns-clause-rounds c = rounds_at_commit

pub returns-clause-decides : goal.returns-clause-decides
returns-clause-decides c = decides_after_votes
