-- The cases of the command `run`.
use Rattle.std.proofs.Common.{inl, ℕ, List, refl}
use Rattle.std.specs.Io.KnownBytes.{Appends}
use Rattle.tp_model.specs.Words.{Scenario}
use Rattle.tp_top.proofs.CommandLemmas.{IsKept}
use Rattle.tp_top.proofs.OwedLemmas.{run_done, run_failed, run_memory, run_refused, told_by, unread_by}
use Rattle.tp_ends.proofs.RestLemmas.{tells_trusted}
use Rattle.tp_top.specs.mirrors.Commands.{Answers}
use Rattle.tp_top.specs.Run.{PrintsTrusted, report_told}
use Rattle.tp_top.specs.Runs.{RunsTo, nothing_before}
use Rattle.tp_ends.specs.Streams.{Stream}
use Rattle.tp_ends.specs.declared.answer.Answer.{Answer}
use Rattle.tp_ends.specs.declared.status.Status.TheVariants.{ReadFault, WriteFault}
use Rattle.tp_ends.specs.Calls.{IsInput, IsUnread}
use Rattle.tp_top.specs.mirrors.Runs.{IsReported}
use Rattle.tp_words.specs.declared.commands.Command.TheVariants.{Run}

pub answers_reported : (input : Stream) (sc : Scenario) (answer : Answer) → IsInput input sc → IsReported sc answer → Answers Run input answer
answers_reported input sc answer i h = told_by Run report_told nothing_before input sc answer (λ _ has. has) (λ _ _ refuses. refuses) i h

pub run_unread : (input : Stream) (answer : Answer) → IsUnread input answer → Answers Run input answer
run_unread input answer h = unread_by Run input answer refl (λ _ _ refuses. inl refuses) h

prints_trusted : (input out : Stream) (text : List ℕ) → RunsTo report_told input text → Appends out.old out.new text → PrintsTrusted input out
prints_trusted input out text r written =
    record { scenario = r.scenario; read = r.read; tells = tells_trusted report_told r.scenario r.scenario.steps out text r.comes.rests r.comes.text_is written }

pub run_kept : IsKept Run
run_kept = record {
  promised = λ call text has written. prints_trusted call.input call.out text has written;
  done = λ call text has. run_done report_told call text has;
  refused = λ call text line r written. run_refused nothing_before call text line r written;
  unread = λ call fails. run_failed call ReadFault (λ none. none.input fails.rose);
  no_memory = λ call. run_memory call;
  out_failed = λ call rose. run_failed call WriteFault (λ none. none.out rose);
  notes_failed = λ call text line r rose. run_failed call WriteFault (λ none. none.notes rose);
}
