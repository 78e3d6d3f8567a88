use Rattle.std.proofs.Common.{ap, sym, ◌∙◌, subst, ◌<◌, length}
use Rattle.tp_wire.specs.Entries.{sent_in}
use Rattle.tp_wire.specs.Passes.{Known}
use Rattle.tp_wire.specs.declared.view.View.{View}
use Rattle.tp_wire.specs.mirrors.Moves.{without_book}
use Rattle.tp_wire.proofs.LockedLemmas.{is_taken, not_all_taken}
use Rattle.tp_wire.proofs.book.LockedBook.take.Goals as goal

pub returns-clause-taken : goal.returns-clause-taken
returns-clause-taken g c =
    is_taken _ _ _ _ c.self.inside.seat.me.0 c.pass.inside.seat.me.0 c.args.pass.now.view _ _ _ _ _ _ c.self.invariant.2 c.take.ensures.made
    (ap (λ m. m.0) c.take_book.ensures.1)
    (ap (λ m. m.0) c.cut_book-seat.ensures.left.1 ∙ ap (λ m. without_book m.0) c.take.ensures.same.1)
    (ap (λ (k : Known). k.view) c.pass.view_is)
    (subst (λ (v : View). length v.takers < sent_in v.log) (sym c.self.view_is) c.requires.free)

pub prove-unreachable-requires : goal.prove-unreachable-requires
prove-unreachable-requires g c = not_all_taken _ _ _ _ _ _ _ c.self.invariant.2 c.self.view_is (c.len-sent.ensures ∙ c.self.inside.mails.ok.0) c.requires.free c.if-prove.true
