use Rattle.std.proofs.Common.{◌<◌, length, arith}
use Rattle.std.proofs.lemmas.Grind.{common_steps}
use Rattle.tp_model.proofs.ServersLemmas.{servers_from_next}
use Rattle.tp_model.proofs.query.servers_of.Goals as goal
use Rattle.tp_model.proofs.query.servers_of.Goals.{then-has_query_at+in_ok-push, else-has_query_at}

pub loop-server-preserved : goal.loop-server-preserved
loop-server-preserved c =
    let within : c.loop-server.server < length c.args.scenario.now.servers = omega (arith) in
    let turn = servers_from_next c.args.scenario.now c.args.txn.now.queries c.loop-server.server (length c.args.scenario.now.servers) within in
    elim c.if-has_query_at.branch [
      | then-has_query_at+in_ok-push w ↦ grind (arith, common_steps, turn, w)
      | else-has_query_at w ↦ grind (arith, common_steps, turn, w)
    ]
