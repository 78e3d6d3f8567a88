-- What the top call promises at each status: what was read, what was written, and why.
use Rattle.std.specs.Prelude.{◌⊎◌, ℕ, List}
use Rattle.std.specs.Io.KnownBytes.{Appends}
use Rattle.tp_io.specs.Whole.{AppendsFront}
use Rattle.tp_top.specs.Refusals.{usage_line}
use Rattle.tp_top.specs.Rows.{FailsFor, HasText, RefusesFor}
use Rattle.tp_ends.specs.Seen.{HasFailed, IsUntouched}
use Rattle.tp_ends.specs.Streams.{Call}
use Rattle.tp_ends.specs.declared.status.Status.{Status}
use Rattle.tp_ends.specs.declared.status.Status.TheVariants.{Done, Refused, Usage, ReadFault, WriteFault, NoMemory}
use Rattle.tp_words.specs.Commands.{IsCommand, IsNoCommand}
use Rattle.tp_words.specs.declared.commands.Command.{Command}

-- the words are a command, what it asks for was written to out, and nothing to notes
pub record IsDone (call : Call) : Type 0 where
  pub command : Command
  pub words_are : IsCommand call.words command
  pub text : List ℕ
  pub has : HasText command call.input text
  pub written : Appends call.out.old call.out.new text
  pub notes_kept : IsUntouched call.notes

-- the words are a command, which is refused; what is told before that was written to out, and the line that says why to
-- notes
pub record IsRefused (call : Call) : Type 0 where
  pub command : Command
  pub words_are : IsCommand call.words command
  pub text : List ℕ
  pub line : List ℕ
  pub cause : RefusesFor command call.input text line
  pub told : Appends call.out.old call.out.new text
  pub written : Appends call.notes.old call.notes.new line

-- the words are no command, the line on usage was written to notes, and nothing to out
pub record IsUsage (call : Call) : Type 0 where
  pub no_command : IsNoCommand call.words
  pub written : Appends call.notes.old call.notes.new usage_line
  pub out_kept : IsUntouched call.out

-- the words are a command, the input failed after a part of it, and nothing was written
pub record IsReadFault (call : Call) : Type 0 where
  pub command : Command
  pub words_are : IsCommand call.words command
  pub fails : FailsFor command call.input
  pub out_kept : IsUntouched call.out
  pub notes_kept : IsUntouched call.notes

-- nothing was written
pub record IsNoMemory (call : Call) : Type 0 where
  pub out_kept : IsUntouched call.out
  pub notes_kept : IsUntouched call.notes

-- out failed after a part of what the command asks for, and notes were kept
pub record IsOutFault (call : Call) : Type 0 where
  pub command : Command
  pub words_are : IsCommand call.words command
  pub text : List ℕ
  pub has : HasText command call.input text
  pub front : AppendsFront call.out.old call.out.new text
  pub rose : HasFailed call.out
  pub notes_kept : IsUntouched call.notes

-- out failed after a part of what is told before a refusal, and notes were kept
pub record IsTellingFault (call : Call) : Type 0 where
  pub command : Command
  pub words_are : IsCommand call.words command
  pub text : List ℕ
  pub line : List ℕ
  pub cause : RefusesFor command call.input text line
  pub front : AppendsFront call.out.old call.out.new text
  pub rose : HasFailed call.out
  pub notes_kept : IsUntouched call.notes

-- notes failed after a part of the line of a refusal, and what is told before it was written to out
pub record IsRefusalFault (call : Call) : Type 0 where
  pub command : Command
  pub words_are : IsCommand call.words command
  pub text : List ℕ
  pub line : List ℕ
  pub cause : RefusesFor command call.input text line
  pub told : Appends call.out.old call.out.new text
  pub front : AppendsFront call.notes.old call.notes.new line
  pub rose : HasFailed call.notes

-- notes failed after a part of the line on usage, and out was kept
pub record IsUsageFault (call : Call) : Type 0 where
  pub no_command : IsNoCommand call.words
  pub front : AppendsFront call.notes.old call.notes.new usage_line
  pub rose : HasFailed call.notes
  pub out_kept : IsUntouched call.out

-- what a call was, by its status
abbrev pub EndsWith : Status → Call → Type 0
EndsWith Done call = IsDone call
EndsWith Refused call = IsRefused call
EndsWith Usage call = IsUsage call
EndsWith ReadFault call = IsReadFault call
EndsWith WriteFault call =
    IsOutFault call ⊎ (IsTellingFault call ⊎ (IsRefusalFault call ⊎ IsUsageFault call))
EndsWith NoMemory call = IsNoMemory call
