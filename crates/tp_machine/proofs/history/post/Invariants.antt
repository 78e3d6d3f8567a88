use Rattle.std.proofs.Common.{◌≡◌, ◌++◌, take, length, replicate, true}
use Rattle.std.specs.Vec.Iter.{into_iter_items}
use Rattle.tp_machine.specs.Machine.{mails_of}
use Rattle.tp_machine.proofs.history.post.Given as goal

-- the mails so far, and those of the letters that are left, are the whole; and the lists still begin with what they had
abbrev pub invariant-loop-letter : goal.invariant-loop-letter
invariant-loop-letter l =
    let left = into_iter_items l.letter-iterator in let whole = into_iter_items l.initial.letter-iterator in
    (l.mails ++ mails_of l.sent (length l.mails) left ≡ l.initial.mails ++ mails_of l.sent (length l.initial.mails) whole)
    × (l.pending ++ replicate (length left) true ≡ l.initial.pending ++ replicate (length whole) true)
    × (take (length l.initial.mails) l.mails ≡ l.initial.mails)
    × (take (length l.initial.pending) l.pending ≡ l.initial.pending)
