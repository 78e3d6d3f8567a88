use Rattle.std.proofs.Common.{◌∙◌}
use Rattle.tp_wire.proofs.LockedLemmas.{free_test}
use Rattle.tp_wire.proofs.book.LockedBook.has_free.Goals as goal

pub returns : goal.returns
returns g c = free_test _ _ _ _ _ _ _ c.self.invariant.2 c.self.view_is (c.len.ensures ∙ c.self.inside.mails.ok.0)
