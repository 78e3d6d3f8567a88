use Rattle.std.proofs.Common.{sym, ◌∙◌}
use Rattle.tp_model.specs.Credentials.{revoked_by}
use Rattle.tp_model.specs.Facts.{before}
use Rattle.tp_model.specs.Ids.{same_cred}
use Rattle.tp_audit.proofs.HeldLemmas.{any_shown}
use Rattle.tp_audit.proofs.credentials.was_revoked.Goals as goal

pub returns : goal.returns
returns c = c.has_revocation.ensures ∙ sym (any_shown (same_cred c.args.cred) revoked_by (before c.args.place c.args.facts.now))
