use Rattle.std.proofs.Common.{◌∙◌, sym, ap, ◌++◌, ◌∷◌, []}
use Rattle.std.proofs.lemmas.Result.{on_ok_weaker}
use Rattle.tp_eval.specs.mirrors.Said.{at_place, with_first}
use Rattle.tp_eval.proofs.SaidLemmas.{as_new, as_old}
use Rattle.tp_eval.proofs.said.Said.note_kind.Goals as goal

pub returns-in_ok-of_one : goal.returns-in_ok-of_one
returns-in_ok-of_one c =
    on_ok_weaker c.push.result
    (λ pushed. record {
      kind = (c.bytes.result, c.bytes-2.result);
      of_issuer = c.bytes.ensures.value;
      of_attr = c.bytes-2.ensures.value;
      kinds_are = c.in_ok-at.ensures.keys;
      lists_are = pushed ∙ ap (λ one. c.args.self.now.lists ++ one ∷ []) c.in_ok-of_one.ensures ∙ as_new _ _ _ (sym c.in_ok-at.ensures.added ∙ c.if-is_new.true);
    })
    c.push.ensures.ok

pub returns-else-is_new : goal.returns-else-is_new
returns-else-is_new c =
    on_ok_weaker c.keep_at.result
    (λ kept. record {
      kind = (c.bytes.result, c.bytes-2.result);
      of_issuer = c.bytes.ensures.value;
      of_attr = c.bytes-2.ensures.value;
      kinds_are = c.in_ok-at.ensures.keys;
      lists_are = kept ∙ ap (λ at. at_place (with_first c.args.creds.now c.args.subject.now c.args.credential.now c.args.cred) at c.args.self.now.lists) c.in_ok-at.ensures.index ∙ as_old _ _ _ (sym c.in_ok-at.ensures.added ∙ c.if-is_new.false);
    })
    c.keep_at.ensures
