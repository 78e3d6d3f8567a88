-- The lines of refusals of an input.
use Rattle.std.specs.Prelude.{ℕ, List, [], ◌++◌, codes, decimal}
use Rattle.tp_policy_text.specs.declared.parsing.ParseError.{ParseError}
use Rattle.tp_policy_text.specs.declared.parsing.ParseError.TheVariants as fault
use Rattle.tp_scenario.specs.declared.from_bytes.ScenarioError.{ScenarioError}
use Rattle.tp_scenario.specs.declared.from_bytes.ScenarioError.TheVariants.{TooLong, BadJson, Shape, Range, Unknown, Policy, NoMemory}

-- what is wrong with a policy's text, and at which byte of it
abbrev pub fault_text : ParseError → List ℕ
fault_text (fault.Syntax place) = codes " syntax " ++ decimal place
fault_text (fault.TooDeep place) = codes " toodeep " ++ decimal place
fault_text fault.TooLong = codes " toolong 4096"
fault_text fault.NoMemory = []

-- the line that says why a scenario was refused; want of memory is no refusal
abbrev pub refusal_line : ScenarioError → List ℕ
refusal_line TooLong = codes "refused toolong\n"
refusal_line BadJson = codes "refused badjson\n"
refusal_line (Shape path) = codes "refused shape " ++ path.0 ++ codes "\n"
refusal_line (Range path) = codes "refused range " ++ path.0 ++ codes "\n"
refusal_line (Unknown path) = codes "refused unknown " ++ path.0 ++ codes "\n"
refusal_line (Policy path fault) =
    codes "refused policy " ++ path.0 ++ fault_text fault ++ codes "\n"
refusal_line NoMemory = []
