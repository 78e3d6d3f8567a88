-- Places of what is declared, as code notes them.
use Rattle.std.specs.Prelude.{ℕ, List, map}
use Rattle.tp_model.specs.Words.{CredId}

-- the credential at a place
abbrev pub cred_at : ℕ → CredId
cred_at place = record { 0 = place }

-- the credentials at some places
abbrev pub creds_at : List ℕ → List CredId
creds_at places = map cred_at places
