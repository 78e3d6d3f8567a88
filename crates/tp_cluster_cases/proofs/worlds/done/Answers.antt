use Rattle.tp_cluster_cases.proofs.worlds.done.Goals as goal

pub follow-requires-clause-ids : goal.follow-requires-clause-ids
follow-requires-clause-ids c = c.requires.ids

pub follow-requires-clause-up : goal.follow-requires-clause-up
follow-requires-clause-up c = c.requires.up
