-- Refusals, beside the want of memory for their paths.
use Rattle.std.specs.Prelude.{◌≡◌, ◌⊎◌, ℕ, List, None, IsUtf8}
use Rattle.serde_json.specs.Read.{read}
use Rattle.tp_scenario.specs.declared.from_bytes.ScenarioError.{ScenarioError}
use Rattle.tp_scenario.specs.declared.from_bytes.ScenarioError.TheVariants as refusal

-- it is this refusal, or memory was refused
abbrev pub IsRefusal : ScenarioError → ScenarioError → Type 0
IsRefusal wanted given = (given ≡ refusal.NoMemory) ⊎ (given ≡ wanted)

-- why no JSON value was made of the bytes
abbrev pub IsTextError : List ℕ → ScenarioError → Type 0
IsTextError bytes refusal.BadJson = IsUtf8 bytes → read bytes ≡ None
IsTextError bytes refusal.NoMemory = Unit {0}
IsTextError bytes refusal.TooLong = ⊥
IsTextError bytes (refusal.Shape path) = ⊥
IsTextError bytes (refusal.Range path) = ⊥
IsTextError bytes (refusal.Unknown path) = ⊥
IsTextError bytes (refusal.Policy path fault) = ⊥
