use Rattle.std.proofs.Common.{sym, ◌∙◌, arith}
use Rattle.tp_wire.proofs.BoardLemmas.{look_at}
use Rattle.tp_wire.proofs.board.Board.look.Goals as goal

pub load-requires : goal.load-requires
load-requires g c =
    let i = c.self.invariant in
    (c.requires ∙ sym i.0, omega (arith, i.1), look_at g.L.Law.follows g.L.Law.actors g.L.Law.passes _ _ i.2 _ _ _)
