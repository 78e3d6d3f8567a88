-- What is read: bytes that an input gave, and the scenario that they say.
use Rattle.std.specs.Prelude.{List, Ok, ℕ}
use Rattle.std.specs.Io.KnownBytes.{Consumes, IsAtEnd}
use Rattle.tp_model.specs.Words.{Scenario}
use Rattle.tp_scenario.specs.Reads.{Says}
use Rattle.tp_ends.specs.Streams.{Stream}

-- the bytes are read as this scenario
abbrev pub Reads : List ℕ → Scenario → Type 0
Reads bytes scenario = Says bytes (Ok scenario)

-- exactly these bytes were consumed, and the input is at its end
pub record TakesAll (input : Stream) (bytes : List ℕ) : Type 0 where
  pub consumed : Consumes input.old input.new bytes
  pub at_end : IsAtEnd input.new

-- the input was read whole as this scenario
pub record IsRead (input : Stream) (scenario : Scenario) : Type 0 where
  pub bytes : List ℕ
  pub taken : TakesAll input bytes
  pub reads : Reads bytes scenario
