-- Credentials in a store by name and by subject.
use Rattle.std.specs.Prelude.{ℕ, List, length, map, filter, slice_get, Bool, false, Option, Some, None, Result, Ok, Err}
use Rattle.std.specs.List.{range_with_len}
use Rattle.std.specs.Option.{option_map_or}
use Rattle.tp_model.specs.Words.{CredId, Credential}
use Rattle.tp_model.specs.Ids.{same_name}
use Rattle.tp_cred.specs.declared.store.CredError.{CredError}
use Rattle.tp_cred.specs.declared.store.CredError.TheVariants.{Duplicate, NoMemory}

abbrev pub is_named : List ℕ → Credential → Bool
is_named name credential = same_name credential.name name

-- the id of the credential that an answer calls a duplicate
abbrev pub duplicate_in : Result CredId CredError → Option ℕ
duplicate_in (Ok id) = None
duplicate_in (Err (Duplicate id)) = Some id.0
duplicate_in (Err NoMemory) = None

abbrev pub id_at : ℕ → CredId
id_at place = record { 0 = place }

-- the ids of a store's credentials, in their order
abbrev pub ids_of : List Credential → List CredId
ids_of store = map id_at (range_with_len 0 (length store))

abbrev pub is_of : List ℕ → Credential → Bool
is_of subject credential = same_name credential.subject subject

-- the credential of this id is the subject's
abbrev pub is_of_at : List Credential → List ℕ → CredId → Bool
is_of_at store subject cred = option_map_or (is_of subject) (slice_get store cred.0) false

-- the ids of the subject's credentials, in their order
abbrev pub of_subject : List Credential → List ℕ → List CredId
of_subject store subject = filter (is_of_at store subject) (ids_of store)
