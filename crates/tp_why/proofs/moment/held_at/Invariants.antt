use Rattle.std.proofs.Common.{◌≡◌, ◌++◌, drop, map}
use Rattle.std.specs.List.{filter_map}
use Rattle.tp_why.specs.Held.{counting}
use Rattle.tp_why.specs.mirrors.Said.{lent}
use Rattle.tp_why.proofs.moment.held_at.Given as goal

-- those found so far, and those of the rest, make the whole
abbrev pub invariant-loop-cred : goal.invariant-loop-cred
invariant-loop-cred l =
    map lent l.made ++ filter_map (counting l.moment.scenario.now l.moment.place l.moment.facts.now l.declared) (drop l.cred-index l.cred-items)
    ≡ filter_map (counting l.moment.scenario.now l.moment.place l.moment.facts.now l.declared) l.cred-items
