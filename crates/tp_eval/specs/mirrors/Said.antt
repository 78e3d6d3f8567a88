-- What valid credentials say of a subject, by issuer and attribute.
use Rattle.std.specs.Prelude.{◌≡◌, ℕ, ◌==◌, ◌&&◌, ◌++◌, List, [], ◌∷◌, Bool, Option, if◌then◌else◌, length, slice_get, slice_set, position, find, false, unwrap_or}
use Rattle.std.specs.List.{list_any, position_or_len}
use Rattle.std.specs.Option.{option_map_or, option_or}
use Rattle.std.specs.Cmp.Lexicographic.{pointwise}
use denote.Ref.{Bor}
use Rattle.tp_model.specs.Words.{CredId, Credential, Op, Value}
use Rattle.tp_types.specs.declared.policy.Op.TheVariants.{Equal}
use Rattle.tp_model.specs.Ids.{same_name}
use Rattle.tp_model.specs.Credentials.{said_in}
use Rattle.tp_model.specs.Policies.{Triple, meets, same_value}

-- an issuer with an attribute, as they are borrowed
abbrev pub Kind : Type 0
Kind = Bor (List ℕ) × Bor (List ℕ)

abbrev pub is_kind : List ℕ → List ℕ → Kind → Bool
is_kind issuer attr kind = same_name issuer kind.0.now && same_name attr kind.1.now

-- the credentials that are kept of an issuer and an attribute
abbrev pub list_for : List Kind → List (List CredId) → List ℕ → List ℕ → List CredId
list_for kinds lists issuer attr =
    option_map_or (λ at. unwrap_or (slice_get lists at) []) (position (is_kind issuer attr) kinds) []

-- what the credential says of the subject passes the test
abbrev pub says_in : List Credential → List ℕ → (Triple → Bool) → CredId → Bool
says_in creds subject test cred = option_map_or test (said_in creds subject cred) false

-- the first of these credentials that says what an atom asks is the first of those that are kept of its issuer and attribute
pub record IsIndexOf (creds : List Credential) (subject : List ℕ) (valid : List CredId) (kinds : List Kind) (lists : List (List CredId))
    : Type 0 where
  pub as_many : length kinds ≡ length lists
  pub finds : (issuer attr : List ℕ) (op : Op) (wanted : Value)
      → find (says_in creds subject (meets issuer attr op wanted)) (list_for kinds lists issuer attr)
      ≡ find (says_in creds subject (meets issuer attr op wanted)) valid

-- ---- one more credential

-- a credential that says the same
abbrev pub meets_same : Credential → Triple → Bool
meets_same credential = meets credential.issuer credential.attr Equal credential.value

-- a list of credentials, with one more unless one there says the same
abbrev pub with_first : List Credential → List ℕ → Credential → CredId → List CredId → List CredId
with_first creds subject credential cred kept =
    if list_any (says_in creds subject (meets_same credential)) kept then kept else kept ++ cred ∷ []

-- lists, of which that at a place is changed
abbrev pub at_place : (List CredId → List CredId) → ℕ → List (List CredId) → List (List CredId)
at_place change at lists = slice_set lists at (change (unwrap_or (slice_get lists at) []))

-- the credential is kept in the list of its issuer and attribute, which may be new
pub record NotesKind (creds : List Credential) (subject : List ℕ) (credential : Credential) (cred : CredId)
    (kinds : List Kind) (lists : List (List CredId)) (kinds_after : List Kind) (lists_after : List (List CredId)) : Type 0 where
  pub kind : Kind
  pub of_issuer : kind.0.now ≡ credential.issuer
  pub of_attr : kind.1.now ≡ credential.attr
  pub kinds_are : kinds_after
      ≡ (if list_any (is_kind kind.0.now kind.1.now) kinds then kinds else kinds ++ kind ∷ [])
  pub lists_are : lists_after
      ≡ (if list_any (is_kind kind.0.now kind.1.now) kinds
      then at_place (with_first creds subject credential cred) (position_or_len (is_kind kind.0.now kind.1.now) kinds) lists
      else lists ++ (cred ∷ []) ∷ [])

-- what is found afterwards is what was found before, or else the credential where it says what the atom asks
pub record Adds (creds : List Credential) (subject : List ℕ) (cred : CredId)
    (kinds : List Kind) (lists : List (List CredId)) (kinds_after : List Kind) (lists_after : List (List CredId)) : Type 0 where
  pub as_many : length kinds ≡ length lists → length kinds_after ≡ length lists_after
  pub finds : length kinds ≡ length lists → (issuer attr : List ℕ) (op : Op) (wanted : Value)
      → find (says_in creds subject (meets issuer attr op wanted)) (list_for kinds_after lists_after issuer attr)
      ≡ option_or (find (says_in creds subject (meets issuer attr op wanted)) (list_for kinds lists issuer attr))
      (find (says_in creds subject (meets issuer attr op wanted)) (cred ∷ []))
