use Rattle.std.proofs.Common.{ap, ◌∙◌}
use Rattle.tp_wire.specs.Passes.{views_of}
use Rattle.tp_wire.proofs.ClosingLemmas.{book_stays, closes}
use Rattle.tp_wire.proofs.LockedLemmas.{keeps_book}
use Rattle.tp_wire.proofs.book.LockedBook.close.Goals as goal

pub read-requires-clause-book : goal.read-requires-clause-book
read-requires-clause-book g c =
    ap (λ m. m.0.book) c.gather.ensures.views ∙ book_stays c.self.inside.seat.me.0 (views_of c.args.passes) (keeps_book _ _ _ _ _ c.self.invariant.2)

pub returns : goal.returns
returns g c =
    closes _ _ _ c.self.inside.seat.me.0 c.gather.new.seat.me.0 (views_of c.args.passes) _ _ _ _ _ c.self.invariant.2 (ap (λ m. m.0) c.gather.ensures.views) c.read.ensures.made.held c.from_vec.ensures c.from_vec-2.ensures c.from_vec-3.ensures
