use Rattle.std.proofs.Common.{◌∙◌, ap}
use Rattle.tp_wire.specs.Passes.{fresh_passes}
use Rattle.tp_cluster.specs.declared.plan.Plan.{Plan}
use Rattle.tp_cluster.proofs.opening.deal.Goals as goal

pub of-dealer-requires : goal.of-dealer-requires
of-dealer-requires g c = c.requires.passes

pub servers-requires-clause-about : goal.servers-requires-clause-about
servers-requires-clause-about g c = ap (λ (p : Plan). p.scenario) c.requires.about

pub servers-requires-clause-few : goal.servers-requires-clause-few
servers-requires-clause-few g c = c.requires.servers

pub coordinators-requires-clause-about : goal.coordinators-requires-clause-about
coordinators-requires-clause-about g c = ap (λ (p : Plan). p.scenario) c.requires.about

pub coordinators-requires-clause-servers : goal.coordinators-requires-clause-servers
coordinators-requires-clause-servers g c = c.requires.servers

pub coordinators-requires-clause-few : goal.coordinators-requires-clause-few
coordinators-requires-clause-few g c = c.requires.txns

pub coordinators-requires-clause-first : goal.coordinators-requires-clause-first
coordinators-requires-clause-first g c = c.in_ok-servers.ensures

pub authority-requires-clause-about : goal.authority-requires-clause-about
authority-requires-clause-about g c = ap (λ (p : Plan). p.scenario) c.requires.about

pub authority-requires-clause-first : goal.authority-requires-clause-first
authority-requires-clause-first g c = c.in_ok-coordinators.ensures

pub master-requires-clause-about : goal.master-requires-clause-about
master-requires-clause-about g c = ap (λ (p : Plan). p.scenario) c.requires.about

pub master-requires-clause-first : goal.master-requires-clause-first
master-requires-clause-first g c = c.in_ok-authority.ensures

pub returns : goal.returns
returns g c = c.in_ok-callers.ensures ∙ ap (λ n. fresh_passes g.B.Site.table n c.args.plan.now.callers) c.in_ok-master.ensures
