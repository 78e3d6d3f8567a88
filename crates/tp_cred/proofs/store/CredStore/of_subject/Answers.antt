use Rattle.std.proofs.Common.{◌≡◌, ◌<◌, ◌++◌, ◌∷◌, [], ◌∙◌, ap, sym, length, get_or}
use Rattle.tp_cred.specs.Store.{id_at}
use Rattle.tp_cred.proofs.NameLemmas.{next_of_other, next_of_subject}
use Rattle.tp_cred.proofs.store.CredStore.of_subject.Goals as goal
use Rattle.tp_cred.proofs.store.CredStore.of_subject.Goals.{then-eq+in_ok-push, else-eq}

pub loop-place-preserved : goal.loop-place-preserved
loop-place-preserved c =
    let same : c.as_slice-credential-items.result.now ≡ c.args.self.now = cc in
    let lt : c.loop-place.place < length c.args.self.now = rw same at c.loop-place-test.true in
    let here : c.credential-item.result ≡ get_or c.args.self.now c.loop-place.place c.credential-item.result = rw same at c.credential-item.is in
    elim c.if-eq.branch [
      | then-eq+in_ok-push w ↦
          w.found-is ∙ w.in_ok-push.ensures.ok ∙ ap (λ found. found ++ id_at c.loop-place.place ∷ []) c.loop-place.invariant
          ∙ sym (next_of_subject c.args.self.now c.args.subject.now c.loop-place.place c.credential-item.result lt here (sym c.eq.ensures ∙ w.if-eq.true))
      | else-eq w ↦
          w.found-is ∙ c.loop-place.invariant
          ∙ sym (next_of_other c.args.self.now c.args.subject.now c.loop-place.place c.credential-item.result lt here (sym c.eq.ensures ∙ w.if-eq.false))
    ]
