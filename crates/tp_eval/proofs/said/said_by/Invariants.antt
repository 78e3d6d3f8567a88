use Rattle.std.proofs.Common.{filter, take}
use Rattle.tp_model.specs.Credentials.{is_valid_in}
use Rattle.tp_eval.specs.mirrors.Said.{IsIndexOf}
use Rattle.tp_eval.proofs.said.said_by.Given as goal

-- what those so far say that are valid
abbrev pub invariant-loop-cred : goal.invariant-loop-cred
invariant-loop-cred l = IsIndexOf l.creds l.subject (filter (is_valid_in l.creds l.now l.revoked) (take l.cred-index l.presented)) l.said.kinds.keys l.said.lists
