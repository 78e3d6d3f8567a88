use Rattle.tp_cluster_cases.proofs.worlds.done_in.Goals as goal

pub done-found-requires-clause-ids : goal.done-found-requires-clause-ids
done-found-requires-clause-ids c = c.requires.ids

pub done-found-requires-clause-up : goal.done-found-requires-clause-up
done-found-requires-clause-up c = c.requires.up
