use Rattle.std.proofs.Common.{sym, ◌∙◌, arith}
use Rattle.tp_wire.proofs.BoardLemmas.{add_at}
use Rattle.tp_wire.proofs.board.Board.add.Goals as goal

pub fetch_add-requires : goal.fetch_add-requires
fetch_add-requires g c =
    let i = c.self.invariant in
    let r = c.requires in
    (r.site ∙ sym i.0, omega (arith, i.1), add_at g.L.Law.follows g.L.Law.actors g.L.Law.passes _ _ i.2 _ _ _ g.E.Posting.entry r.book r.room r.numbers r.actor r.law)
