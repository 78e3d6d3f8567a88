use Rattle.std.proofs.Common.{sym, ◌∙◌, arith}
use Rattle.tp_wire.proofs.SeatLemmas.{cuts_book}
use Rattle.tp_wire.proofs.board.Board.cut_book.Goals as goal

pub split_seat-requires : goal.split_seat-requires
split_seat-requires g c =
    let i = c.self.invariant in
    (c.requires ∙ sym i.0, omega (arith, i.1), cuts_book _ _ _ _ _)
