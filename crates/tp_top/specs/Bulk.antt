-- The command `bulk` tells the line of a run, of the large scenario of so many transactions.
use Rattle.std.specs.Prelude.{ℕ}
use Rattle.tp_bulk.specs.Bulk.{scenario_of}
use Rattle.tp_bulk.specs.Line.{line_of}
use Rattle.tp_ends.specs.Headline.{TellsTrusted, Told}
use Rattle.tp_ends.specs.Streams.{Stream}

abbrev pub line_told : ℕ → Told
line_told count sc steps facts ending = line_of count facts ending

-- exactly the line of a trusted history of it was written
abbrev pub CountsTrusted : ℕ → Stream → Type 0
CountsTrusted count out =
    TellsTrusted (line_told count) (scenario_of count) (scenario_of count).steps out
