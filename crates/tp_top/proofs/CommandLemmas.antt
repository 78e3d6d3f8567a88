-- What is shown of each command: that it keeps what it promises and owes.
use Rattle.std.proofs.Common.{ℕ, List}
use Rattle.std.specs.Io.KnownBytes.{Appends}
use Rattle.tp_top.specs.Promises.{Promises}
use Rattle.tp_top.specs.Rows.{FailsFor, HasText, Owes, RefusesFor}
use Rattle.tp_ends.specs.Seen.{HasFailed}
use Rattle.tp_ends.specs.Streams.{Call}
use Rattle.tp_ends.specs.declared.status.Status.TheVariants.{Done, NoMemory, ReadFault, Refused, WriteFault}
use Rattle.tp_words.specs.declared.commands.Command.{Command}

pub record IsKept (command : Command) : Type 0 where
  pub promised : (call : Call) (text : List ℕ) → HasText command call.input text → Appends call.out.old call.out.new text → Promises command call
  pub done : (call : Call) (text : List ℕ) → HasText command call.input text → Owes command call Done
  pub refused : (call : Call) (text line : List ℕ) → RefusesFor command call.input text line → Appends call.notes.old call.notes.new line → Owes command call Refused
  pub unread : (call : Call) → FailsFor command call.input → Owes command call ReadFault
  pub no_memory : (call : Call) → Owes command call NoMemory
  pub out_failed : (call : Call) → HasFailed call.out → Owes command call WriteFault
  pub notes_failed : (call : Call) (text line : List ℕ) → RefusesFor command call.input text line → HasFailed call.notes → Owes command call WriteFault
