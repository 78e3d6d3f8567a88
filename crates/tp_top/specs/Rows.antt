-- The commands, a row of each in each table: what they read, what they write and refuse, and what they owe.
use Rattle.std.specs.Prelude.{ℕ, ◌+◌, ◌≤◌, List}
use Rattle.tp_bulk.specs.Bulk.{scenario_of}
use Rattle.tp_io.specs.Whole.{TakesAtMost}
use Rattle.tp_model.specs.Words.{Text}
use Rattle.tp_top.specs.Bulk.{line_told}
use Rattle.tp_top.specs.Run.{report_told}
use Rattle.tp_top.specs.Runs.{ComesTo, HasRefusal, OwesRun, RunsTo, nothing_before}
use Rattle.tp_ends.specs.Seen.{Ends, HasFailed}
use Rattle.tp_ends.specs.Streams.{Call, Stream}
use Rattle.tp_top.specs.Trace.{trace_told}
use Rattle.tp_ends.specs.Unread.{input_max}
use Rattle.tp_ends.specs.declared.status.Status.{Status}
use Rattle.tp_ends.specs.declared.status.Status.TheVariants.{Done}
use Rattle.tp_trace.specs.Blocks.{trace_text}
use Rattle.tp_words.specs.Commands.{IsCommand}
use Rattle.tp_words.specs.declared.commands.Command.{Command}
use Rattle.tp_words.specs.declared.commands.Command.TheVariants.{Bulk, Run, Trace}

-- so many bytes of the input a command takes at most: one more than an input may have, or none
abbrev pub reads_at_most : Command → ℕ
reads_at_most Run = input_max + 1
reads_at_most Trace = input_max + 1
reads_at_most (Bulk count) = 0

-- the text is what the command asks for
abbrev pub HasText : Command → Stream → List ℕ → Type 0
HasText Run input text = RunsTo report_told input text
HasText Trace input text = RunsTo trace_told input text
HasText (Bulk count) input text = ComesTo (line_told count) (scenario_of count) text

-- the command is refused with this line behind this text: a large scenario is never refused
abbrev pub RefusesFor : Command → Stream → List ℕ → List ℕ → Type 0
RefusesFor Run input text line = HasRefusal nothing_before input text line
RefusesFor Trace input text line = HasRefusal trace_text input text line
RefusesFor (Bulk count) input text line = ⊥

-- what status it owes where nothing failed that it needs
abbrev pub Owes : Command → Call → Status → Type 0
Owes Run call status = OwesRun call status
Owes Trace call status = OwesRun call status
Owes (Bulk count) call status = ¬ (HasFailed call.out) → Ends status Done

-- the words are no command that takes more than so many bytes
abbrev pub TakesWithin : List Text → ℕ → Type 0
TakesWithin words most =
    (command : Command) → IsCommand words command → reads_at_most command ≤ most

-- the input failed behind a part of it, of a command that reads one
pub record FailsFor (command : Command) (input : Stream) : Type 0 where
  pub reads : 1 ≤ reads_at_most command
  pub rose : HasFailed input
  pub taken : TakesAtMost (reads_at_most command) input.old input.new
