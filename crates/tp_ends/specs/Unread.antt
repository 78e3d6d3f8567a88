-- What comes of an input that is not read as a scenario.
use Rattle.std.specs.Prelude.{◌≡◌, ◌+◌, Err, List, [], ℕ}
use Rattle.tp_io.specs.Whole.{TakesAtMost, TakesExactly}
use Rattle.tp_scenario.specs.declared.from_bytes.ScenarioError.{ScenarioError}
use Rattle.tp_scenario.specs.declared.from_bytes.ScenarioError.TheVariants.{TooLong, BadJson, Shape, Range, Unknown, Policy, NoMemory}
use Rattle.tp_scenario.specs.Reads.{Says, length_max}
use Rattle.tp_ends.specs.Input.{TakesAll}
use Rattle.tp_ends.specs.Refusals.{refusal_line}
use Rattle.tp_ends.specs.Seen.{HasFailed}
use Rattle.tp_ends.specs.Streams.{Stream}

-- the most bytes of an input, which are those of a scenario
abbrev pub input_max : ℕ
input_max = length_max

-- the bytes are refused so
abbrev pub AreRefused : List ℕ → ScenarioError → Type 0
AreRefused bytes why = Says bytes (Err why)

-- the input was read whole, and its bytes are refused so
pub record TakesRefused (input : Stream) (why : ScenarioError) : Type 0 where
  pub bytes : List ℕ
  pub taken : TakesAll input bytes
  pub refused : AreRefused bytes why

-- why the input was refused
abbrev pub IsInputRefused : Stream → ScenarioError → Type 0
IsInputRefused input TooLong = TakesExactly (input_max + 1) input.old input.new
IsInputRefused input BadJson = TakesRefused input BadJson
IsInputRefused input (Shape path) = TakesRefused input (Shape path)
IsInputRefused input (Range path) = TakesRefused input (Range path)
IsInputRefused input (Unknown path) = TakesRefused input (Unknown path)
IsInputRefused input (Policy path fault) = TakesRefused input (Policy path fault)
IsInputRefused input NoMemory = ⊥

-- the input is no scenario that can be run, of which nothing is told, and the line says why
pub record RefusesInput (input : Stream) (text line : List ℕ) : Type 0 where
  pub why : ScenarioError
  pub cause : IsInputRefused input why
  pub text_is : text ≡ []
  pub line_is : line ≡ refusal_line why

-- the input failed behind a part of it
pub record FailsToRead (input : Stream) : Type 0 where
  pub rose : HasFailed input
  pub taken : TakesAtMost (input_max + 1) input.old input.new
