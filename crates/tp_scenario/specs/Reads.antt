-- Which scenario bytes are, and why others are refused.
use Rattle.std.specs.Prelude.{◌≡◌, ◌⊎◌, true, ℕ, ◌≤◌, ◌<◌, List, length, Some, None, Result, Ok, Err, IsUtf8}
use Rattle.serde_json.specs.Data.{Data}
use Rattle.serde_json.specs.Read.{read}
use Rattle.tp_model.specs.Words.{Scenario, Text}
use Rattle.tp_model.specs.SpelledNames.{is_spelled}
use Rattle.tp_model.specs.Valid.{is_valid}
use Rattle.tp_scenario.specs.declared.fault.Fault.{Fault}
use Rattle.tp_scenario.specs.declared.fault.Kind.{Kind}
use Rattle.tp_scenario.specs.declared.fault.Kind.TheVariants as kind
use Rattle.tp_scenario.specs.declared.path.Site.{Site}
use Rattle.tp_scenario.specs.declared.from_bytes.ScenarioError.{ScenarioError}
use Rattle.tp_scenario.specs.declared.from_bytes.ScenarioError.TheVariants as refusal
use Rattle.tp_scenario.specs.Paths.{site_text}
use Rattle.tp_scenario.specs.Walk.{walk_of}

-- the most bytes of a scenario
abbrev pub length_max : ℕ
length_max = 16777216

-- where a fault stands, as it is written
abbrev pub path_of : Site → Text
path_of site = record { 0 = site_text site }

abbrev pub error_at : Kind → Text → ScenarioError
error_at kind.Shape path = refusal.Shape path
error_at kind.Range path = refusal.Range path
error_at kind.Unknown path = refusal.Unknown path
error_at (kind.Policy why) path = refusal.Policy path why

-- the refusal of a fault
abbrev pub error_of : Fault → ScenarioError
error_of fault = error_at fault.kind (path_of fault.site)

abbrev pub answer_by : Result Scenario Fault → Result Scenario ScenarioError
answer_by (Ok scenario) = Ok scenario
answer_by (Err fault) = Err (error_of fault)

-- what is answered to a JSON value: its scenario, or the first fault of its walk
abbrev pub answer_to : Data → Result Scenario ScenarioError
answer_to value = answer_by (walk_of value)

-- the bytes are too many
pub record SaysTooLong (bytes : List ℕ) (answer : Result Scenario ScenarioError) : Type 0 where
  pub long : length_max < length bytes
  pub answer_is : answer ≡ Err refusal.TooLong

-- the bytes are no JSON text
pub record SaysNoJson (bytes : List ℕ) (answer : Result Scenario ScenarioError) : Type 0 where
  pub short : length bytes ≤ length_max
  pub no_text : IsUtf8 bytes → read bytes ≡ None
  pub answer_is : answer ≡ Err refusal.BadJson

-- the bytes are a JSON text, and this is the answer to its value
pub record SaysValue (bytes : List ℕ) (answer : Result Scenario ScenarioError) : Type 0 where
  pub short : length bytes ≤ length_max
  pub utf8 : IsUtf8 bytes
  pub value : Data
  pub text : read bytes ≡ Some value
  pub answer_is : answer ≡ answer_to value

-- the one answer to the bytes
abbrev pub Says : List ℕ → Result Scenario ScenarioError → Type 0
Says bytes answer = SaysTooLong bytes answer ⊎ (SaysNoJson bytes answer ⊎ SaysValue bytes answer)

-- memory was refused
abbrev pub IsOutOfMemory : Result Scenario ScenarioError → Type 0
IsOutOfMemory answer = answer ≡ Err refusal.NoMemory

-- the bytes are a text of the scenario
pub record IsText (bytes : List ℕ) (scenario : Scenario) : Type 0 where
  pub short : length bytes ≤ length_max
  pub utf8 : IsUtf8 bytes
  pub value : Data
  pub text : read bytes ≡ Some value
  pub form : walk_of value ≡ Ok scenario

-- no bytes have two answers
abbrev pub HasOneAnswer : Type 0
HasOneAnswer =
    (bytes : List ℕ) (one other : Result Scenario ScenarioError) → Says bytes one → Says bytes other
    → one ≡ other

-- no bytes are a text of two scenarios
abbrev pub IsTextOfOne : Type 0
IsTextOfOne =
    (bytes : List ℕ) (one other : Scenario) → IsText bytes one → IsText bytes other → one ≡ other

-- what the walk gives keeps every rule of a scenario
abbrev pub GivesValid : Type 0
GivesValid =
    (value : Data) (scenario : Scenario) → walk_of value ≡ Ok scenario → is_valid scenario ≡ true

-- and each name in it is spelled as a name
abbrev pub GivesSpelled : Type 0
GivesSpelled =
    (value : Data) (scenario : Scenario) → walk_of value ≡ Ok scenario → is_spelled scenario ≡ true
