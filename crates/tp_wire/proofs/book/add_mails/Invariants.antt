use Rattle.std.proofs.Common.{◌≡◌, ◌++◌, ◌+◌, ◌≤◌, length}
use Rattle.std.specs.Vec.{vec_capacity, vec_len}
use Rattle.std.specs.Vec.Iter.{into_iter_items}
use Rattle.tp_wire.specs.Entries.{mails_of}
use Rattle.tp_wire.proofs.book.add_mails.Given as goal

-- the mails so far, and those of the letters that are left, are the whole; and there is room for what is left
abbrev pub invariant-loop-letter : goal.invariant-loop-letter
invariant-loop-letter l =
    let left = into_iter_items l.letter-iterator in let whole = into_iter_items l.initial.letter-iterator in
    (l.mails.items ++ mails_of l.sent (length l.mails.items) left ≡ l.initial.mails.items ++ mails_of l.sent (length l.initial.mails.items) whole)
    × (vec_len l.mails + length left ≤ vec_capacity l.mails)
