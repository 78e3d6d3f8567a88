use Rattle.std.proofs.Common.{◌≡◌, ◌∷◌, [], length}
use Rattle.tp_scenario.specs.Queries.{terms_after}
use Rattle.tp_scenario.proofs.query.terms_after.Given as goal

abbrev pub invariant-loop-sign : goal.invariant-loop-sign
invariant-loop-sign l = terms_after l.made l.words ≡ terms_after (l.fn.first ∷ []) l.initial.words

abbrev pub decreases-loop-sign : goal.decreases-loop-sign
decreases-loop-sign l = length l.words
