use Rattle.std.proofs.Common.{◌≡◌, ◌++◌, take, length}
use Rattle.std.specs.Vec.Iter.{into_iter_items}
use Rattle.tp_machine.specs.Machine.{facts_of}
use Rattle.tp_machine.proofs.history.add_facts.Given as goal

-- what is added so far, and what is left to add, are the whole; and the list still begins with what it had
abbrev pub invariant-loop-what : goal.invariant-loop-what
invariant-loop-what l =
    let left = into_iter_items l.what-iterator in let whole = into_iter_items l.initial.what-iterator in
    (l.facts ++ facts_of l.place left ≡ l.initial.facts ++ facts_of l.place whole)
    × (take (length l.initial.facts) l.facts ≡ l.initial.facts)
