-- The clock and the revocations at a place of a history.
use Rattle.std.specs.Prelude.{◌≡◌, ◌<◌, ℕ, List, [], ◌∷◌, Bool, true, false, slice_get, slice_set, unwrap_or, if◌then◌else◌}
use Rattle.tp_model.specs.Words.{CredId, Fact, What}
use Rattle.tp_model.specs.Words.what
use Rattle.tp_model.specs.Credentials.{is_among}
use Rattle.tp_model.specs.Facts.{is_earlier}

-- of each of so many credentials it is marked whether it is among those revoked
abbrev pub IsMarked : ℕ → List CredId → List Bool → Type 0
IsMarked count revoked marks =
    (cred : CredId) → cred.0 < count → unwrap_or (slice_get marks cred.0) false ≡ is_among revoked cred

abbrev pub marked_what : What → List Bool → List Bool
marked_what (what.Revoked cred) marks = slice_set marks cred.0 true
marked_what _ marks = marks

-- the marks after a fact
abbrev pub marked_by : ℕ → Fact → List Bool → List Bool
marked_by place fact marks = if is_earlier place fact then marked_what fact.what marks else marks

-- the marks after facts
abbrev pub marked : ℕ → List Fact → List Bool → List Bool
marked place [] marks = marks
marked place (fact ∷ facts) marks = marked place facts (marked_by place fact marks)
