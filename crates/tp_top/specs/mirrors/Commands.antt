-- What the helpers of the answer to a command promise to one another.
use Rattle.std.specs.Prelude.{◌≤◌}
use Rattle.tp_top.specs.Rows.{FailsFor, HasText, RefusesFor}
use Rattle.tp_ends.specs.Streams.{Stream}
use Rattle.tp_ends.specs.declared.answer.Answer.{Answer}
use Rattle.tp_ends.specs.declared.answer.Answer.TheVariants as answer
use Rattle.tp_words.specs.declared.commands.Command.{Command}
use Rattle.tp_words.specs.declared.commands.Command.TheVariants.{Bulk, Run, Trace}

-- a large scenario has from 1 to 128 transactions
abbrev pub IsOfCommand : Command → Type 0
IsOfCommand Run = Unit {0}
IsOfCommand Trace = Unit {0}
IsOfCommand (Bulk count) = (1 ≤ count) × (count ≤ 128)

-- the answer to a command, with its cause; want of memory has none
abbrev pub Answers : Command → Stream → Answer → Type 0
Answers command input (answer.Text text) = HasText command input text.0
Answers command input (answer.Refused text line) = RefusesFor command input text.0 line.0
Answers command input answer.ReadFault = FailsFor command input
Answers command input answer.NoMemory = Unit {0}
