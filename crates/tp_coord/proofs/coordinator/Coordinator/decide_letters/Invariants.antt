use Rattle.std.proofs.Common.{◌≡◌, take, map}
use Rattle.tp_model.specs.Words.{ServerId}
use Rattle.tp_model.specs.Words.body
use Rattle.tp_coord.specs.Row.{request}
use Rattle.tp_coord.proofs.coordinator.Coordinator.decide_letters.Given as goal

-- the servers so far have their letters
abbrev pub invariant-loop-server : goal.invariant-loop-server
invariant-loop-server l =
    l.letters ≡ map (λ (server : ServerId). request l.self server (body.Decide (record { txn = l.self.txn; outcome = l.outcome }))) (take l.server-index l.servers)
