use Rattle.std.proofs.Common.{sym, ◌∙◌, arith}
use Rattle.tp_wire.proofs.BoardLemmas.{take_at}
use Rattle.tp_wire.proofs.board.Board.take.Goals as goal

pub load-requires : goal.load-requires
load-requires g c =
    let i = c.self.invariant in
    let r = c.requires in
    (r.site ∙ sym i.0, omega (arith, i.1), take_at g.L.Law.follows g.L.Law.actors g.L.Law.passes _ _ i.2 _ _ _ r.book r.part r.free)
