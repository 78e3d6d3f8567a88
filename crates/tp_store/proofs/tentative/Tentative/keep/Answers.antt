use Rattle.std.proofs.Common.{◌≡◌, ◌∙◌, ap, refl, sym, get_or, rules, slice_set, []}
use Rattle.std.proofs.lemmas.Option.{unwrap_or-slice_get}
use Rattle.std.proofs.lemmas.Result.{IfOk-weaker}
use Rattle.tp_store.specs.Rule.{writes_in}
use Rattle.tp_store.specs.Writes.{with_write}
use Rattle.tp_store.specs.mirrors.Places.{padded}
use Rattle.tp_store.proofs.TableLemmas.{over_all, read_padded, set_made, set_nowhere}
use Rattle.tp_store.proofs.tentative.Tentative.keep.Goals as goal
use Rattle.tp_store.proofs.tentative.Tentative.keep.Goals.{in-None, in-Some}

pub returns-clause-ok : goal.returns-clause-ok
returns-clause-ok c =
    let at = c.args.txn.0 in
    let txns = c.self.inside.txns in
    let made = c.reach.new.made in
    let kept = ap (λ table. slice_set table at (with_write (writes_in table c.args.txn) c.args.new)) (c.in_ok-reach.ensures.same ∙ c.self.view_is) in
    elim c.match-get_mut.branch [
      | in-None w ↦
          let past = w.in-None.ensures.item.3 in
          rw (w.result-is, w.self-inside-is)
          (set_nowhere made txns at (with_write (writes_in (padded made txns) c.args.txn) c.args.new) past (over_all at txns made c.in_ok-reach.ensures.reached past) ∙ kept)
      | in-Some w ↦
          let here : w.in-Some.writes.now ≡ get_or made at [] = w.in-Some.ensures.item.4 (search rules) [] in
          rw (w.result-is, w.self-inside-is)
          (IfOk-weaker w.keep.result _ _
          (λ _ is.
          set_made made txns at w.keep.new.writes (w.in-Some.ensures.variant.0 refl)
          ∙ ap (slice_set (padded made txns) at)
          (is ∙ ap (λ writes. with_write writes c.args.new) (here ∙ sym (unwrap_or-slice_get made at []) ∙ sym (read_padded made txns at)))
          ∙ kept)
          w.keep.ensures.ok)
    ]
