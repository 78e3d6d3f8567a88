use Rattle.std.proofs.Common.{◌∙◌, ap, refl, slice_set, []}
use Rattle.tp_store.proofs.TableLemmas.{clear_past, set_made}
use Rattle.tp_store.proofs.tentative.Tentative.clear.Goals as goal
use Rattle.tp_store.proofs.tentative.Tentative.clear.Goals.{in-None, in-Some}

pub returns : goal.returns
returns c =
    let made = c.self.inside.made in
    elim c.match-get_mut.branch [
      | in-None w ↦ rw w.self-inside-is (clear_past made c.self.inside.txns c.args.txn.0 w.in-None.ensures.item.3 ∙ ap (λ lists. slice_set lists c.args.txn.0 []) c.self.view_is)
      | in-Some w ↦
          rw (w.self-inside-is, w.truncate.ensures)
          (set_made made c.self.inside.txns c.args.txn.0 [] (w.in-Some.ensures.variant.0 refl) ∙ ap (λ lists. slice_set lists c.args.txn.0 []) c.self.view_is)
    ]
