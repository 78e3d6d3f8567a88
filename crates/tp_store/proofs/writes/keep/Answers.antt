use Rattle.std.proofs.Common.{◌≡◌, ◌∙◌, ap, sym, position, None, Some}
use Rattle.std.proofs.lemmas.Result.{IfOk-weaker}
use Rattle.tp_store.specs.Writes.{is_on}
use Rattle.tp_store.proofs.WriteLemmas.{put_at, put_where}
use Rattle.tp_store.proofs.writes.keep.Goals as goal

pub returns-in-None-clause-ok : goal.returns-in-None-clause-ok
returns-in-None-clause-ok c =
    let found : position (is_on c.args.new.item) c.args.writes.now ≡ None = rw c.as_slice.ensures at (sym c.place_of.ensures ∙ c.in-None.is) in
    IfOk-weaker c.push.result _ _ (λ _ is. is ∙ sym (ap (put_at c.args.writes.now c.args.new) found) ∙ put_where c.args.writes.now c.args.new) c.push.ensures.ok

pub returns-in-Some-clause-ok : goal.returns-in-Some-clause-ok
returns-in-Some-clause-ok c =
    let found : position (is_on c.args.new.item) c.args.writes.now ≡ Some c.in-Some.at = rw c.as_slice.ensures at (sym c.place_of.ensures ∙ c.in-Some.is) in
    c.renew.ensures ∙ sym (ap (put_at c.args.writes.now c.args.new) found) ∙ put_where c.args.writes.now c.args.new
