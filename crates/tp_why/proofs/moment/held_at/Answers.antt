use Rattle.std.proofs.Common.{◌≡◌, map, arith}
use Rattle.std.proofs.lemmas.Grind.{common_steps}
use Rattle.tp_why.specs.Held.{held}
use Rattle.tp_why.specs.mirrors.Said.{lent}
use Rattle.tp_why.proofs.MomentLemmas.{says_holdings}
use Rattle.tp_why.proofs.moment.held_at.Goals as goal

pub returns-clause-holdings : goal.returns-clause-holdings
returns-clause-holdings c =
    let moment = c.args.moment.now in
    let exact : map lent c.loop-cred.made ≡ held moment.scenario.now moment.place moment.facts.now c.args.declared.now = grind (arith, common_steps) in
    says_holdings moment.scenario.now moment.place moment.facts.now c.args.declared.now c.loop-cred.made exact
