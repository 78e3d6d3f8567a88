use Rattle.std.proofs.Common.{◌∙◌, sym}
use Rattle.std.proofs.lemmas.List.{take_more}
use Rattle.tp_model.specs.Credentials.{is_valid_in}
use Rattle.tp_eval.proofs.SaidLemmas.{index_grows, index_stays}
use Rattle.tp_eval.proofs.said.said_by.Goals.{then-is_valid+in_ok-note, else-is_valid}
use Rattle.tp_eval.proofs.said.said_by.Goals as goal

pub loop-cred-preserved : goal.loop-cred-preserved
loop-cred-preserved c =
    let valid = is_valid_in c.args.creds.now c.args.now c.args.revoked.now in
    let more = take_more c.args.presented.now c.loop-cred.cred-index _ c.loop-cred-test.true in
    elim c.if-is_valid.branch [
      | then-is_valid+in_ok-note w ↦
          rw w.said-is
          (index_grows c.args.creds.now c.args.subject.now valid c.args.presented.now c.loop-cred.cred-index _ _ _ _ _ more (sym c.is_valid.ensures ∙ w.if-is_valid.true) c.loop-cred.invariant w.in_ok-note.ensures)
      | else-is_valid w ↦
          rw w.said-is
          (index_stays c.args.creds.now c.args.subject.now valid c.args.presented.now c.loop-cred.cred-index _ _ _ more (sym c.is_valid.ensures ∙ w.if-is_valid.false) c.loop-cred.invariant)
    ]
