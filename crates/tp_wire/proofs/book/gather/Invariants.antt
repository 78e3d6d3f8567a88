use Rattle.std.proofs.Common.{◌≡◌}
use Rattle.std.specs.Vec.Iter.{into_iter_items}
use Rattle.tp_types.specs.Each.{Each}
use Rattle.tp_wire.specs.Passes.{Known, views_of}
use Rattle.tp_wire.specs.mirrors.Moves.{all_joined}
use Rattle.tp_wire.proofs.book.gather.Given as goal

-- the seat with what it has taken in, and what is left to take in, are the whole
abbrev pub invariant-loop-pass : goal.invariant-loop-pass
invariant-loop-pass g l =
    let left = into_iter_items l.pass-iterator in let whole = into_iter_items l.initial.pass-iterator in
    (l.seat.table_id ≡ l.initial.seat.table_id)
    × (all_joined l.seat.me.0 (views_of left) ≡ all_joined l.initial.seat.me.0 (views_of whole))
    × (l.seat.me.1 ≡ l.initial.seat.me.1)
    × Each (λ (p : Known). p.table ≡ g.B.Site.table) left
