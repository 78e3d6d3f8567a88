-- Administrators and their policies.
use Rattle.std.specs.Prelude.{ℕ, List, [], ◌∷◌, length, Option, Some, Result, Ok, Err, map}
use Rattle.serde_json.specs.Data.{Data}
use Rattle.tp_model.specs.Words.{Admin, Policy, Version}
use Rattle.tp_model.specs.Limits.{admins_limit, versions_limit}
use Rattle.tp_policy_text.specs.declared.parsing.ParseError.{ParseError}
use Rattle.tp_scenario.specs.declared.fault.Fault.{Fault}
use Rattle.tp_scenario.specs.declared.path.Key.TheVariants.{Admins, Name, Policies, Opening}
use Rattle.tp_scenario.specs.declared.path.Path.{Path}
use Rattle.tp_scenario.specs.declared.path.Path.TheVariants.{Top, Member, Field, Entry}
use Rattle.tp_scenario.specs.Chain.{◌>>=◌}
use Rattle.tp_scenario.specs.Faults.{policy}
use Rattle.tp_scenario.specs.Names.{Names}
use Rattle.tp_scenario.specs.Policies.{policy_answer}
use Rattle.tp_scenario.specs.Values.{count_or, each, field, items_at, new_name_at, object_at, text_at}

abbrev pub policy_or_fault : Path → Result Policy ParseError → Result Policy Fault
policy_or_fault path (Ok policy) = Ok policy
policy_or_fault path (Err why) = Err (policy path why)

-- the policy that a text says
unfoldable pub policy_text_at : Path → Data → Result Policy Fault
policy_text_at path d = do
  text ← text_at path (Some d)
  policy_or_fault path (policy_answer text)

-- the policy of the administrator of this number after these
abbrev pub policy_in : ℕ → List Policy → Data → Result Policy Fault
policy_in at made d = policy_text_at (Entry Admins at Policies (length made)) d

-- 1 to 64 versions
unfoldable pub policies_at : ℕ → Option Data → Result (List Policy) Fault
policies_at at value = do
  texts ← items_at (Field Admins at Policies) 1 versions_limit value
  each (policy_in at) [] texts

-- the version that is newest at the start: the first where none is told
unfoldable pub opening_at : ℕ → ℕ → Option Data → Result Version Fault
opening_at at count value = do
  opening ← count_or (Field Admins at Opening) 1 count 1 value
  Ok (record { 0 = opening })

-- the administrator of this number, after those of these names
unfoldable pub admin_at : Names → ℕ → Data → Result Admin Fault
admin_at names at d = do
  fields ← object_at (Member Admins at) (Name ∷ Policies ∷ []) (Opening ∷ []) d
  name ← new_name_at (Field Admins at Name) names (field Name fields)
  library ← policies_at at (field Policies fields)
  opening ← opening_at at (length library) (field Opening fields)
  Ok (record { name = name; library = library; opening = opening })

abbrev pub admin_name : Admin → List ℕ
admin_name admin = admin.name

abbrev pub admin_in : List Admin → Data → Result Admin Fault
admin_in made d = admin_at (map admin_name made) (length made) d

-- 1 to 16 administrators
unfoldable pub admins_at : Option Data → Result (List Admin) Fault
admins_at value = do
  admins ← items_at (Top Admins) 1 admins_limit value
  each admin_in [] admins
