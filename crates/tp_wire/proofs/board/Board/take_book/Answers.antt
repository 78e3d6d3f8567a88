use Rattle.std.proofs.Common.{sym, ◌∙◌, arith}
use Rattle.tp_wire.proofs.SeatLemmas.{joins_book}
use Rattle.tp_wire.proofs.board.Board.take_book.Goals as goal

pub join_seat-requires : goal.join_seat-requires
join_seat-requires g c =
    let i = c.self.invariant in
    let r = c.requires in
    (r.site.0 ∙ sym i.0, r.site.1 ∙ sym i.0, r.alone, omega (arith, i.1), joins_book _ _ _ _ _ _ _)
