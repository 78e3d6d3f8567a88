use Rattle.std.proofs.Common.{ap, ◌∙◌, ◌∷◌, [], ◌++◌, length}
use Rattle.tp_wire.specs.Entries.{facts_of, mails_of}
use Rattle.tp_wire.specs.Passes.{Known}
use Rattle.tp_wire.specs.mirrors.Moves.{adds, book_alone}
use Rattle.tp_wire.proofs.LockedLemmas.{posted}
use Rattle.tp_wire.proofs.book.LockedBook.post.Goals as goal

pub invariant_of-book-2 : goal.invariant_of-book-2
invariant_of-book-2 g c =
    let i = c.self.invariant in
    let room = c.make_room-room.ensures.same in
    let taken = c.take_book.ensures in
    let added = c.add-place.ensures in
    let cut = c.cut_book-seat.ensures.right in
    let e = g.E.Posting.entry in (
      cut.0 ∙ (added.same.0 ∙ (taken.0 ∙ (ap (λ (k : Known). k.table) c.pass.view_is ∙ c.requires.site))),
      ap (λ m. m.1) cut.1,
      posted c.self.inside.seat.me.0 c.pass.inside.seat.me.0 _ e _ _ _ _ _ _ _ c.add-place.result c.args.pass.now.view c.args.step c.args.happened c.args.letters i.2 c.requires.entry
          (added.made.found_is ∙ ap (λ m. length m.0.log) taken.1)
          (ap (λ m. m.0) cut.1 ∙ (ap (λ m. book_alone m.0) added.same.1 ∙ ap (λ m. book_alone (adds e m.0)) taken.1))
          (c.push_reserved.ensures.items ∙ ap (λ l. l ++ c.args.step ∷ []) room.0)
          (c.add_facts.ensures ∙ ap (λ l. l ++ facts_of c.add-place.result c.args.happened) room.1)
          (c.add_mails.ensures ∙ ap (λ l. l ++ mails_of c.add-place.result (length l) c.args.letters) room.2),
    )
