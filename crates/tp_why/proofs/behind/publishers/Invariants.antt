use Rattle.std.proofs.Common.{◌≡◌, ◌++◌, drop}
use Rattle.std.specs.List.{filter_map}
use Rattle.tp_why.specs.mirrors.Publishers.{publisher}
use Rattle.tp_why.proofs.behind.publishers.Given as goal

-- those found so far, and those of the facts that are left, make the whole
abbrev pub invariant-loop-fact : goal.invariant-loop-fact
invariant-loop-fact l = l.made ++ filter_map (publisher l.place) (drop l.fact-index l.facts) ≡ filter_map (publisher l.place) l.facts
