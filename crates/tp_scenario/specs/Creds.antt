-- Credentials.
use Rattle.std.specs.Prelude.{ℕ, List, [], ◌∷◌, length, neg_ℤ, Bool, if◌then◌else◌, Option, Result, Ok, map, is_some, option_and_then}
use Rattle.serde_json.specs.Data.{Data}
use Rattle.serde_json.specs.Find.{as_str}
use Rattle.tp_types.specs.declared.policy.Value.{Value as CredValue}
use Rattle.tp_types.specs.declared.policy.Value.TheVariants.{Number, Word}
use Rattle.tp_model.specs.Words.{Credential}
use Rattle.tp_model.specs.Limits.{clock_limit, creds_limit, number_limit}
use Rattle.tp_scenario.specs.declared.fault.Fault.{Fault}
use Rattle.tp_scenario.specs.declared.path.Key.TheVariants.{Credentials, Name, Issuer, Subject, Attr, Value, From, Until}
use Rattle.tp_scenario.specs.declared.path.Path.{Path}
use Rattle.tp_scenario.specs.declared.path.Path.TheVariants.{Top, Member, Field}
use Rattle.tp_scenario.specs.Chain.{◌>>=◌}
use Rattle.tp_scenario.specs.Names.{Names}
use Rattle.tp_scenario.specs.Values.{count_or, each, field, items_or, name_at, new_name_at, object_at, whole_in}

abbrev pub is_text : Option Data → Bool
is_text value = is_some (option_and_then as_str value)

unfoldable pub word_at : Path → Option Data → Result CredValue Fault
word_at path value = do
  word ← name_at path value
  Ok (Word word)

unfoldable pub number_at : Path → Option Data → Result CredValue Fault
number_at path value = do
  number ← whole_in path (neg_ℤ number_limit) number_limit value
  Ok (Number number)

-- a name, or a whole number of at most 15 digits
unfoldable pub value_at : Path → Option Data → Result CredValue Fault
value_at path value = if is_text value then word_at path value else number_at path value

-- the credential of this number, after those of these names; it holds from 0 to 10^12 where nothing else is told
unfoldable pub cred_at : Names → ℕ → Data → Result Credential Fault
cred_at names at d = do
  fields ← object_at (Member Credentials at) (Name ∷ Issuer ∷ Subject ∷ Attr ∷ Value ∷ [])
      (From ∷ Until ∷ []) d
  name ← new_name_at (Field Credentials at Name) names (field Name fields)
  issuer ← name_at (Field Credentials at Issuer) (field Issuer fields)
  subject ← name_at (Field Credentials at Subject) (field Subject fields)
  attr ← name_at (Field Credentials at Attr) (field Attr fields)
  value ← value_at (Field Credentials at Value) (field Value fields)
  from ← count_or (Field Credentials at From) 0 clock_limit 0 (field From fields)
  until ← count_or (Field Credentials at Until) 0 clock_limit clock_limit (field Until fields)
  Ok (record {
    name = name;
    issuer = issuer;
    subject = subject;
    attr = attr;
    value = value;
    from = from;
    until = until;
  })

abbrev pub cred_name : Credential → List ℕ
cred_name cred = cred.name

abbrev pub cred_in : List Credential → Data → Result Credential Fault
cred_in made d = cred_at (map cred_name made) (length made) d

-- at most 256 credentials
unfoldable pub creds_at : Option Data → Result (List Credential) Fault
creds_at value = do
  creds ← items_or (Top Credentials) creds_limit value
  each cred_in [] creds
