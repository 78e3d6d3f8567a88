use Rattle.std.proofs.Common.{◌≡◌, ◌+◌, ◌++◌, take, length}
use Rattle.std.specs.Vec.Iter.{into_iter_items}
use Rattle.tp_recover.specs.Log.{boots_in, without_boots}
use Rattle.tp_recover.proofs.apart.add_apart.Given as goal

-- what is added so far, and what is left to add, are the whole; and the list still begins with what it had
abbrev pub invariant-loop-next : goal.invariant-loop-next
invariant-loop-next l =
    let left = into_iter_items l.next-iterator in let whole = into_iter_items l.initial.next-iterator in
    record {
      boots : l.boots + boots_in left ≡ boots_in whole;
      others : l.others ++ without_boots left ≡ l.initial.others ++ without_boots whole;
      front : take (length l.initial.others) l.others ≡ l.initial.others;
    }
