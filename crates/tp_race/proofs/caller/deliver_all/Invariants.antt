use Rattle.std.proofs.Common.{◌≡◌, false}
use Rattle.tp_race.specs.Commands.{IsOfCaller, StaysAt}
use Rattle.tp_race.proofs.caller.deliver_all.Given as goal

abbrev pub invariant-loop : goal.invariant-loop
invariant-loop g l =
    (goal.iterator-loop g).can_next l.iterator'
    × (goal.iterator-loop g).is_finite l.iterator'
    × IsOfCaller g.B.Site.about.scenario g.B.Site.table l.pass
    × (l.pass.given_up ≡ false → StaysAt g.B.Site.about.scenario l.initial.pass l.pass)
