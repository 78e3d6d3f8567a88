use Rattle.std.proofs.Common.{◌≡◌, ℕ, [], false, take}
use Rattle.tp_race.specs.Callers.{IsAt}
use Rattle.tp_race.specs.Commands.{IsOfCaller}
use Rattle.tp_race.proofs.caller.do_script.Given as goal

-- the steps so far are done
abbrev pub invariant-loop-taken : goal.invariant-loop-taken
invariant-loop-taken g l =
    IsOfCaller g.B.Site.about.scenario g.B.Site.table l.pass
    × ((caller : ℕ) → IsAt g.B.Site.about.scenario caller [] l.initial.pass.view → l.pass.given_up ≡ false
    → IsAt g.B.Site.about.scenario caller (take l.taken-index l.taken-items) l.pass.view)
