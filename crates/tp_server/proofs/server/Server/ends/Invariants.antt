use Rattle.std.proofs.Common.{length, ◌≡◌}
use Rattle.tp_types.specs.Effect.{logs}
use Rattle.tp_model.specs.Words.log
use Rattle.tp_server.specs.Row.{after_grants, ends}
use Rattle.tp_server.proofs.server.Server.ends.Given as goal

-- what was done so far, and each grant that is left after it, are the whole
abbrev pub invariant-loop-grant : goal.invariant-loop-grant
invariant-loop-grant g l =
    after_grants l.scenario l.self.locks.grants (logs l.self (log.Settled l.settled) l.letters)
    ≡ ends l.scenario l.fn.self l.settled l.fn.letter

abbrev pub decreases-loop-grant : goal.decreases-loop-grant
decreases-loop-grant g l = length l.self.locks.grants
