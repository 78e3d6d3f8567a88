-- The scripts of a race.
use Rattle.std.specs.Prelude.{ℕ, zero, suc, ◌-◌, ◌||◌, List, [], ◌∷◌, ◌++◌, length, slice_get, slice_set, Bool, true, false, if◌then◌else◌, Option, Some, Result, Ok, Err, map}
use Rattle.std.specs.List.{list_any}
use Rattle.std.specs.Option.{option_map_or}
use Rattle.serde_json.specs.Data.{Data}
use Rattle.tp_model.specs.Words.{Admin, Step, TxnId}
use Rattle.tp_model.specs.Limits.{clients_limit, officers_limit, publishers_limit, steps_limit}
use Rattle.tp_model.specs.Words.step
use Rattle.tp_model.specs.Ids.{same_txn}
use Rattle.tp_scenario.specs.declared.command.CountVerb.TheVariants.{Tick}
use Rattle.tp_scenario.specs.declared.command.NameVerb.TheVariants.{Publish, Revoke}
use Rattle.tp_scenario.specs.declared.fault.Fault.{Fault}
use Rattle.tp_scenario.specs.declared.names.Declared.{Declared}
use Rattle.tp_scenario.specs.declared.path.Key.TheVariants.{Clients, Publishers, Officers}
use Rattle.tp_scenario.specs.declared.path.Path.{Path}
use Rattle.tp_scenario.specs.declared.path.Path.TheVariants.{Top, Member, Line}
use Rattle.tp_scenario.specs.declared.scripts.Published.{Published}
use Rattle.tp_scenario.specs.declared.scripts.Publishing.{Publishing}
use Rattle.tp_scenario.specs.Chain.{◌>>=◌}
use Rattle.tp_scenario.specs.Faults.{range}
use Rattle.tp_scenario.specs.Names.{Names}
use Rattle.tp_scenario.specs.Steps.{Command, of_name, by_number, push, cut, command_at, step_for}
use Rattle.tp_scenario.specs.Values.{array_at, each, items_at, items_or, place_at, through}

-- ---- clients

-- the transaction is submitted by one of these scripts, or by this beginning of another
abbrev pub is_submitted : List (List TxnId) → List TxnId → TxnId → Bool
is_submitted earlier made txn =
    list_any (same_txn txn) made || list_any (list_any (same_txn txn)) earlier

abbrev pub submission_or_range : Path → List (List TxnId) → List TxnId → TxnId → Result TxnId Fault
submission_or_range path earlier made txn =
    if is_submitted earlier made txn then Err (range path) else Ok txn

-- a transaction that no script has submitted so far
unfoldable pub submission_at : Path → Names → List (List TxnId) → List TxnId → Data
    → Result TxnId Fault
submission_at path txns earlier made d = do
  place ← place_at path txns (Some d)
  submission_or_range path earlier made (record { 0 = place })

abbrev pub submission_in : Names → List (List TxnId) → List TxnId → Data → Result TxnId Fault
submission_in txns earlier made d =
    submission_at (Line Clients (length earlier) (length made)) txns earlier made d

unfoldable pub client_at : Names → List (List TxnId) → Data → Result (List TxnId) Fault
client_at txns earlier d = do
  names ← array_at (Member Clients (length earlier)) (Some d)
  each (submission_in txns earlier) [] names

-- at most 16 clients
unfoldable pub clients_at : Names → Option Data → Result (List (List TxnId)) Fault
clients_at txns value = do
  scripts ← items_or (Top Clients) clients_limit value
  each (client_at txns) [] scripts

-- ---- publishers

abbrev pub is_publishing : Command → Bool
is_publishing (of_name Publish name) = true
is_publishing (of_name _ name) = false
is_publishing (push admin server) = true
is_publishing (by_number verb number) = false
is_publishing (cut name mail calls fill) = false

-- a step of another kind is out of range, whatever it names
abbrev pub step_or_range : Bool → Path → Declared → Command → Result Step Fault
step_or_range allowed path names command =
    if allowed then step_for path names command else Err (range path)

-- one version less is left of it, if one was
abbrev pub fewer_or_range : Path → List ℕ → ℕ → ℕ → Result (List ℕ) Fault
fewer_or_range path left place zero = Err (range path)
fewer_or_range path left place (suc count) = Ok (slice_set left place count)

-- the versions that are left after a step
abbrev pub left_after : Path → List ℕ → Step → Result (List ℕ) Fault
left_after path left (step.Publish admin) =
    fewer_or_range path left admin.0 (option_map_or (λ count. count) (slice_get left admin.0) 0)
left_after path left _ = Ok left

-- the next step of a publisher
unfoldable pub publication_at : Path → Declared → Published → Data → Result Published Fault
publication_at path names state d = do
  command ← command_at path d
  made ← step_or_range (is_publishing command) path names command
  left ← left_after path state.left made
  Ok (record { script = state.script ++ made ∷ []; left = left })

abbrev pub publication_in : Declared → ℕ → Published → Data → Result Published Fault
publication_in names at state d =
    publication_at (Line Publishers at (length state.script)) names state d

unfoldable pub publisher_at : Declared → Publishing → Data → Result Publishing Fault
publisher_at names state d = do
  steps ← array_at (Member Publishers (length state.scripts)) (Some d)
  published ← through (publication_in names (length state.scripts))
      (record { script = []; left = state.left }) steps
  Ok (record { scripts = state.scripts ++ published.script ∷ []; left = published.left })

-- how many versions of an administrator come after the opening one
abbrev pub versions_left : Admin → ℕ
versions_left admin = length admin.library - admin.opening.0

unfoldable pub publishing_from : Declared → List Admin → Option Data → Result Publishing Fault
publishing_from names admins value = do
  scripts ← items_or (Top Publishers) publishers_limit value
  through (publisher_at names) (record { scripts = []; left = map versions_left admins }) scripts

-- at most 8 publishers, who publish no more versions together than are left
unfoldable pub publishers_at : Declared → List Admin → Option Data → Result (List (List Step)) Fault
publishers_at names admins value = do
  publishing ← publishing_from names admins value
  Ok publishing.scripts

-- ---- officers

abbrev pub is_official : Command → Bool
is_official (of_name Revoke name) = true
is_official (of_name _ name) = false
is_official (push admin server) = false
is_official (by_number Tick number) = true
is_official (by_number _ number) = false
is_official (cut name mail calls fill) = false

unfoldable pub official_step_at : Path → Declared → Data → Result Step Fault
official_step_at path names d = do
  command ← command_at path d
  step_or_range (is_official command) path names command

abbrev pub official_step_in : Declared → ℕ → List Step → Data → Result Step Fault
official_step_in names at made d = official_step_at (Line Officers at (length made)) names d

unfoldable pub officer_at : Declared → List (List Step) → Data → Result (List Step) Fault
officer_at names earlier d = do
  steps ← items_at (Member Officers (length earlier)) 0 steps_limit (Some d)
  each (official_step_in names (length earlier)) [] steps

-- at most 8 officers
unfoldable pub officers_at : Declared → Option Data → Result (List (List Step)) Fault
officers_at names value = do
  scripts ← items_or (Top Officers) officers_limit value
  each (officer_at names) [] scripts
