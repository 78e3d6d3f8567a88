-- What comes from outside: the facts that the steps say by themselves, each at its step's place.
use Rattle.std.specs.Prelude.{◌≡◌, ℕ, ◌+◌, ◌&&◌, nat_le, List, [], ◌∷◌, ◌++◌, filter, length, Bool, true, false}
use Rattle.std.specs.List.{list_all}
use Rattle.tp_model.specs.Words.{Fact, Scenario, Step, What}
use Rattle.tp_model.specs.Words.step
use Rattle.tp_model.specs.Words.what
use Rattle.tp_model.specs.Facts.{is_earlier}
use Rattle.tp_model.specs.Versions.{newest}

abbrev pub is_from_outside_what : What → Bool
is_from_outside_what (what.Decided txn decided) = false
is_from_outside_what (what.Settled at txn ended) = false
is_from_outside_what _ = true

-- the fact is said by a step, and not by an actor's log
abbrev pub is_from_outside : Fact → Bool
is_from_outside fact = is_from_outside_what fact.what

-- what a step says at its place. A publication has the version after the newest there
abbrev pub said_by : Scenario → List Fact → ℕ → Step → List What
said_by sc facts place (step.Submit txn) = what.Submitted txn ∷ []
said_by sc facts place (step.Publish admin) =
    what.Published admin (record { 0 = newest sc admin place facts + 1 }) ∷ []
said_by sc facts place (step.Revoke cred) = what.Revoked cred ∷ []
said_by sc facts place (step.Tick by) = what.Ticked by ∷ []
said_by sc facts place (step.Crash who cut) = what.Crashed who ∷ []
said_by sc facts place (step.Lose mail) = what.Lost mail ∷ []
said_by sc facts place _ = []

-- so many things, at one place
abbrev pub at_place : ℕ → List What → List Fact
at_place place [] = []
at_place place (said ∷ others) = record { place = place; what = said } ∷ at_place place others

-- what steps say from a place on
abbrev pub said_from : Scenario → List Fact → ℕ → List Step → List Fact
said_from sc facts place [] = []
said_from sc facts place (taken ∷ steps) =
    at_place place (said_by sc facts place taken) ++ said_from sc facts (place + 1) steps

-- places never fall, from one on
abbrev pub rises_from : ℕ → List Fact → Bool
rises_from place [] = true
rises_from place (fact ∷ facts) = nat_le place fact.place && rises_from fact.place facts

-- the facts from outside are exactly what the steps say; no fact's place is before that of an earlier one, and each is a step's
pub record IsOutside (sc : Scenario) (steps : List Step) (facts : List Fact) : Type 0 where
  pub said : filter is_from_outside facts ≡ said_from sc facts 0 steps
  pub rising : rises_from 0 facts ≡ true
  pub within : list_all (is_earlier (length steps)) facts ≡ true
