use Rattle.tp_cluster_cases.proofs.calls.tried.Goals as goal

pub trial_of-requires : goal.trial_of-requires
trial_of-requires g c = c.in-Ok.ensures.valid
