use Rattle.std.proofs.Common.{◌+◌, ap}
use Rattle.tp_recover.specs.declared.kept.Kept.{Kept}
use Rattle.tp_recover.proofs.BootsApart.{kept_counted}
use Rattle.tp_recover.proofs.apart.kept_apart.Goals as goal

pub returns-clause-kept : goal.returns-clause-kept
returns-clause-kept c =
    kept_counted c.args.scenario.now c.args.server c.args.others.now c.args.boots _ (ap (λ (k : Kept). record k { epoch = c.args.boots + 1 }) c.in_ok-kept.ensures.kept)
