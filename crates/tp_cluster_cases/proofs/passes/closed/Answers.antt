use Rattle.tp_cluster_cases.proofs.PassLemmas.{all_of_table}
use Rattle.tp_cluster_cases.proofs.passes.closed.Goals as goal

pub close-requires : goal.close-requires
close-requires g c = all_of_table g.B.Site.about.scenario g.B.Site.table c.args.passes c.requires
