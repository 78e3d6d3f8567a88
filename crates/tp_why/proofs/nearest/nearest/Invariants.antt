use Rattle.std.proofs.Common.{◌≡◌, drop}
use Rattle.tp_why.specs.Nearest.{failing, nearer, nearest_by}
use Rattle.tp_why.proofs.nearest.nearest.Given as goal

-- the nearest so far and that of the rest give the nearest of all
abbrev pub invariant-loop-cred : goal.invariant-loop-cred
invariant-loop-cred l =
    nearer l.best (nearest_by (failing l.moment.scenario.now l.moment.place l.moment.facts.now l.declared l.atom) (drop l.cred-index l.cred-items))
    ≡ nearest_by (failing l.moment.scenario.now l.moment.place l.moment.facts.now l.declared l.atom) l.cred-items
