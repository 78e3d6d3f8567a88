-- What the lines of a denial say beside their definitions.
use Rattle.std.specs.Prelude.{◌≡◌, ℕ, List, slice_get, Bool, false, None}
use Rattle.std.specs.List.{list_any}
use Rattle.std.specs.Option.{option_map_or}
use Rattle.tp_model.specs.Words.{CredId, Fact, Scenario, Transaction}
use Rattle.tp_model.specs.Credentials.{holdings}
use Rattle.tp_why.specs.declared.atoms.Atom.{Atom}
use Rattle.tp_why.specs.Nearest.{is_of, nearest}
use Rattle.tp_why.specs.Refutation.{is_true}

-- the credential of this id is from the atom's issuer, with its attribute
abbrev pub is_there : Scenario → Atom → CredId → Bool
is_there sc atom cred = option_map_or (is_of atom) (slice_get sc.creds cred.0) false

-- of an atom that is false on what is held it is told that nothing comes near only where no presented credential is
-- from its issuer, with its attribute
abbrev pub AbsentIsOfNone : Type 0
AbsentIsOfNone =
    (sc : Scenario) (place : ℕ) (facts : List Fact) (declared : Transaction) (atom : Atom)
    → is_true (holdings sc place facts declared) atom ≡ false
    → nearest sc place facts declared atom ≡ None
    → list_any (is_there sc atom) declared.creds ≡ false
