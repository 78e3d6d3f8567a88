-- What every store of credentials keeps.
use Rattle.std.specs.Prelude.{ℕ, ◌≤◌, ◌^◌, List, length, map}
use Rattle.std.specs.List.{IsDistinct}
use Rattle.tp_model.specs.Words.{Credential}
use Rattle.tp_model.specs.Ids.{same_name}

abbrev pub name_of : Credential → List ℕ
name_of credential = credential.name

abbrev pub names_of : List Credential → List (List ℕ)
names_of store = map name_of store

-- no two credentials have one name, and the ids of all fit
pub record IsStore (store : List Credential) : Type 0 where
  pub distinct : IsDistinct same_name (names_of store)
  pub fits : length store ≤ 2 ^ 32
