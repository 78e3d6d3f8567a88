-- Short histories of one administrator, of which one is that of one master, and three are not; and a run after which the
-- automatic phase is as long as it can be.
use Rattle.std.specs.Prelude.{◌≡◌, ℕ, List, [], ◌∷◌, length, Some, None}
use Rattle.tp_quorum.specs.Automatic.{automatic_steps, bound}
use Rattle.tp_quorum.specs.Machine.{Machine}
use Rattle.tp_quorum.specs.Words.{AdminId, QFact, QStep, QWhat, Sizes, Version}
use Rattle.tp_quorum.specs.Words.step
use Rattle.tp_quorum.specs.Words.what

-- the only administrator
abbrev pub admin : AdminId
admin = record { 0 = 0 }

abbrev pub version : ℕ → Version
version number = record { 0 = number }

abbrev pub at_place : ℕ → QWhat → QFact
at_place place said = record { place = place; what = said }

-- a publication of this version begins
abbrev pub publishes : ℕ → ℕ → ℕ → QFact
publishes place op number = at_place place (what.Began op admin None (Some (version number)))

-- a reading begins
abbrev pub reads : ℕ → ℕ → QFact
reads place op = at_place place (what.Began op admin (Some 0) None)

abbrev pub ends : ℕ → ℕ → ℕ → QFact
ends place op number = at_place place (what.Ended op (version number))

-- a reading that begins while a version is published may end with the one before it
abbrev pub fair : List QFact
fair = publishes 0 0 2 ∷ reads 1 1 ∷ ends 2 1 1 ∷ ends 3 0 2 ∷ []

-- a reading that began after a publication had ended reads an older version
abbrev pub stale : List QFact
stale = publishes 0 0 2 ∷ ends 1 0 2 ∷ reads 2 1 ∷ ends 3 1 1 ∷ []

-- a reading reads an older version than one that had ended before it began
abbrev pub back : List QFact
back = publishes 0 0 2 ∷ reads 1 1 ∷ ends 2 1 2 ∷ reads 3 2 ∷ ends 4 2 1 ∷ []

-- a reading reads what was never published
abbrev pub made_up : List QFact
made_up = reads 0 0 ∷ ends 1 0 2 ∷ []

-- ---- the longest automatic phase

-- three replicas, one administrator and one reader
abbrev pub three : Sizes
three = record { replicas = 3; admins = 1; readers = 1 }

-- a reading begins, its requests are lost, and all replicas crash
abbrev pub all_lost : List QStep
all_lost =
    step.Read 0 admin
    ∷ step.Lose 0
    ∷ step.Lose 1
    ∷ step.Lose 2
    ∷ step.Crash 0 None
    ∷ step.Crash 1 None
    ∷ step.Crash 2 None
    ∷ []

-- there are as many automatic steps as the bound
abbrev pub ReachesBound : Machine → Type 0
ReachesBound m = length (automatic_steps (bound m) m) ≡ bound m
