use Rattle.std.proofs.Common.{◌≡◌, ◌∙◌, ap, sym, slice_get, Some}
use Rattle.std.proofs.lemmas.Result.{on_ok_weaker}
use Rattle.std.specs.Option.{option_copied}
use Rattle.tp_eval.proofs.SaidLemmas.{added, from_not}
use Rattle.tp_eval.proofs.said.Said.note.Goals as goal

pub returns : goal.returns
returns c =
    let there : slice_get c.args.creds.now c.args.cred.0 ≡ Some c.in-Some.credential.now = sym c.credential_of.ensures ∙ ap option_copied c.in-Some.is in
    on_ok_weaker c.note_kind.result (added _ _ _ _ _ _ _ _ there (from_not _ (sym c.ne.ensures ∙ c.if-ne.false))) c.note_kind.ensures
