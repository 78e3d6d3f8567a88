use Rattle.std.proofs.Common.{◌≡◌, ◌++◌, ◌+◌, ◌≤◌, length}
use Rattle.std.specs.Vec.{vec_capacity, vec_len}
use Rattle.std.specs.Vec.Iter.{into_iter_items}
use Rattle.tp_wire.specs.Entries.{facts_of}
use Rattle.tp_wire.proofs.book.add_facts.Given as goal

-- what is added so far, and what is left to add, are the whole; and there is room for what is left
abbrev pub invariant-loop-what : goal.invariant-loop-what
invariant-loop-what l =
    let left = into_iter_items l.what-iterator in let whole = into_iter_items l.initial.what-iterator in
    (l.facts.items ++ facts_of l.place left ≡ l.initial.facts.items ++ facts_of l.place whole)
    × (vec_len l.facts + length left ≤ vec_capacity l.facts)
