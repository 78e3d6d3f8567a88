-- Transactions.
use Rattle.std.specs.Prelude.{ℕ, List, [], ◌∷◌, length, if◌then◌else◌, Option, Some, None, Result, Ok, Err, map, codes}
use Rattle.std.specs.List.{list_any}
use Rattle.serde_json.specs.Data.{Data}
use Rattle.tp_model.specs.Words.{CredId, Level, Query, Scheme, Transaction}
use Rattle.tp_model.specs.Limits.{creds_limit, queries_limit, rounds_limit, txns_limit}
use Rattle.tp_model.specs.Words.level
use Rattle.tp_model.specs.Words.scheme
use Rattle.tp_model.specs.Ids.{same_cred, same_name}
use Rattle.tp_scenario.specs.declared.fault.Fault.{Fault}
use Rattle.tp_scenario.specs.declared.names.Declared.{Declared}
use Rattle.tp_scenario.specs.declared.path.Key.TheVariants.{Transactions, Name, Subject, Scheme as SchemeKey, Level as LevelKey, Rounds, Credentials, Queries}
use Rattle.tp_scenario.specs.declared.path.Path.{Path}
use Rattle.tp_scenario.specs.declared.path.Path.TheVariants.{Top, Member, Field, Entry}
use Rattle.tp_scenario.specs.Chain.{◌>>=◌}
use Rattle.tp_scenario.specs.Faults.{range}
use Rattle.tp_scenario.specs.Names.{Names}
use Rattle.tp_scenario.specs.Queries.{query_at}
use Rattle.tp_scenario.specs.Values.{apart, count_or, each, field, items_at, items_or, name_at, new_name_at, object_at, place_at, text_at}

abbrev pub scheme_or_range : Path → List ℕ → Result Scheme Fault
scheme_or_range path text =
    if same_name text (codes "deferred") then Ok scheme.Deferred
    else (if same_name text (codes "punctual") then Ok scheme.Punctual
    else (if same_name text (codes "incremental") then Ok scheme.Incremental
    else (if same_name text (codes "continuous") then Ok scheme.Continuous else Err (range path))))

abbrev pub scheme_in_text : Path → Option Data → Result Scheme Fault
scheme_in_text path value = text_at path value >>= scheme_or_range path

-- deferred where none is told
unfoldable pub scheme_at : Path → Option Data → Result Scheme Fault
scheme_at path None = Ok scheme.Deferred
scheme_at path (Some d) = scheme_in_text path (Some d)

abbrev pub level_or_range : Path → List ℕ → Result Level Fault
level_or_range path text =
    if same_name text (codes "view") then Ok level.View
    else (if same_name text (codes "global") then Ok level.Global else Err (range path))

abbrev pub level_in_text : Path → Option Data → Result Level Fault
level_in_text path value = text_at path value >>= level_or_range path

-- view where none is told
unfoldable pub level_at : Path → Option Data → Result Level Fault
level_at path None = Ok level.View
level_at path (Some d) = level_in_text path (Some d)

-- a credential that is presented, after these
abbrev pub credential_or_range : Path → List CredId → CredId → Result CredId Fault
credential_or_range path made cred =
    if list_any (same_cred cred) made then Err (range path) else Ok cred

unfoldable pub credential_at : Path → Names → List CredId → Data → Result CredId Fault
credential_at path creds made d = do
  place ← place_at path creds (Some d)
  credential_or_range path made (record { 0 = place })

abbrev pub credential_in : Names → ℕ → List CredId → Data → Result CredId Fault
credential_in creds at made d =
    credential_at (Entry Transactions at Credentials (length made)) creds made d

-- at most 256, each at most once
unfoldable pub credentials_at : Names → ℕ → Option Data → Result (List CredId) Fault
credentials_at creds at value = do
  names ← items_or (Field Transactions at Credentials) creds_limit value
  each (credential_in creds at) [] names

abbrev pub query_in : Names → ℕ → List Query → Data → Result Query Fault
query_in items at made d = query_at (Entry Transactions at Queries (length made)) items d

-- 1 to 16 queries
unfoldable pub queries_at : Names → ℕ → Option Data → Result (List Query) Fault
queries_at items at value = do
  texts ← items_at (Field Transactions at Queries) 1 queries_limit value
  each (query_in items at) [] texts

-- the name of a transaction: no other transaction has it, and no server
unfoldable pub txn_name_at : Names → Names → ℕ → Option Data → Result (List ℕ) Fault
txn_name_at servers txns at value = do
  name ← new_name_at (Field Transactions at Name) txns value
  apart (Field Transactions at Name) servers name

-- the transaction of this number
unfoldable pub txn_at : Declared → ℕ → Data → Result Transaction Fault
txn_at names at d = do
  fields ← object_at (Member Transactions at) (Name ∷ Subject ∷ Queries ∷ [])
      (SchemeKey ∷ LevelKey ∷ Rounds ∷ Credentials ∷ []) d
  name ← txn_name_at names.servers names.txns at (field Name fields)
  subject ← name_at (Field Transactions at Subject) (field Subject fields)
  scheme ← scheme_at (Field Transactions at SchemeKey) (field SchemeKey fields)
  level ← level_at (Field Transactions at LevelKey) (field LevelKey fields)
  rounds ← count_or (Field Transactions at Rounds) 1 rounds_limit 8 (field Rounds fields)
  creds ← credentials_at names.creds at (field Credentials fields)
  queries ← queries_at names.items at (field Queries fields)
  Ok (record {
    name = name;
    subject = subject;
    scheme = scheme;
    level = level;
    rounds = rounds;
    creds = creds;
    queries = queries;
  })

abbrev pub txn_name : Transaction → List ℕ
txn_name txn = txn.name

-- the next transaction, where these names are declared before all transactions
abbrev pub txn_in : Declared → List Transaction → Data → Result Transaction Fault
txn_in names made d = txn_at (record names { txns = map txn_name made }) (length made) d

-- at most 128 transactions
unfoldable pub txns_at : Declared → Option Data → Result (List Transaction) Fault
txns_at names value = do
  txns ← items_at (Top Transactions) 0 txns_limit value
  each (txn_in names) [] txns
