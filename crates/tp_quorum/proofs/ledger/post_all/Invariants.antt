use Rattle.std.proofs.Common.{take}
use Rattle.tp_quorum.specs.Acts.{PostsAll}
use Rattle.tp_quorum.proofs.ledger.post_all.Given as goal

-- those so far were sent
abbrev pub invariant-loop-mail : goal.invariant-loop-mail
invariant-loop-mail l = PostsAll l.initial.mails l.initial.pending (take l.mail-index l.sent) l.mails l.pending
