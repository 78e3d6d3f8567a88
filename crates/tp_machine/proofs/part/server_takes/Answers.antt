use Rattle.std.proofs.Common.{[], ap}
use Rattle.tp_server.specs.Row.{server_row}
use Rattle.tp_server.specs.State.{Server}
use Rattle.tp_machine.specs.Parts.{Part}
use Rattle.tp_machine.specs.Machine.{server_fact}
use Rattle.tp_machine.proofs.basics.Acted.{acted_by}
use Rattle.tp_machine.proofs.part.server_takes.Goals as goal

pub returns-clause-ok : goal.returns-clause-ok
returns-clause-ok g c =
    rw (← c.part.view_is, c.in-Some.is)
    (acted_by (server_fact c.args.at) [] c.args.part.now c.noted.new.part _ (server_row c.args.scenario.now c.in-Some.server c.args.mail.now) c.receive.new.self c.in_ok-reaction.reaction c.noted.result c.in_ok-reaction.ensures
    (ap (λ (p : Part Server). p.log) c.part.view_is) c.noted.ensures.forced (c.noted.ensures.told _ c.server_facts-happened.ensures))
