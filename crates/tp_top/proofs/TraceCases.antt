-- The cases of the command `trace`.
use Rattle.std.proofs.Common.{◌≡◌, ◌++◌, inl, ℕ, List, codes, refl, subst, sym}
use Rattle.std.specs.Io.KnownBytes.{Appends}
use Rattle.std.specs.List.{flat_map}
use Rattle.tp_machine.specs.Machine.{Machine, ending_of}
use Rattle.tp_model.specs.Words.{Scenario}
use Rattle.tp_report.specs.ReportText.{report_text}
use Rattle.tp_top.proofs.CommandLemmas.{IsKept}
use Rattle.tp_top.proofs.OwedLemmas.{run_done, run_failed, run_memory, run_refused, told_by, unread_by}
use Rattle.tp_ends.proofs.RestLemmas.{tells_trusted}
use Rattle.tp_ends.proofs.TrustedRun.{final_is}
use Rattle.tp_ends.specs.After.{all_after, final_after}
use Rattle.tp_top.specs.mirrors.Commands.{Answers}
use Rattle.tp_top.specs.Runs.{RunsTo}
use Rattle.tp_ends.specs.Streams.{Stream}
use Rattle.tp_top.specs.Trace.{TracesTrusted, trace_told}
use Rattle.tp_ends.specs.declared.answer.Answer.{Answer}
use Rattle.tp_ends.specs.declared.status.Status.TheVariants.{ReadFault, WriteFault}
use Rattle.tp_ends.specs.Calls.{IsInput, IsUnread}
use Rattle.tp_top.specs.mirrors.Runs.{IsTraced}
use Rattle.tp_trace.proofs.ToldLemmas.{reports_told}
use Rattle.tp_trace.specs.Blocks.{ending_text, trace_lines, trace_text}
use Rattle.tp_trace.specs.Laws.{told_of}
use Rattle.tp_words.specs.declared.commands.Command.TheVariants.{Trace}

pub answers_traced : (input : Stream) (sc : Scenario) (answer : Answer) → IsInput input sc → IsTraced sc answer → Answers Trace input answer
answers_traced input sc answer i h = told_by Trace trace_told trace_text input sc answer (λ _ has. has) (λ _ _ refuses. refuses) i h

pub trace_unread : (input : Stream) (answer : Answer) → IsUnread input answer → Answers Trace input answer
trace_unread input answer h = unread_by Trace input answer refl (λ _ _ refuses. inl refuses) h

-- the report of a run is in its trace
told_at_rest : (sc : Scenario)
    → report_text sc (final_after sc sc.steps).state.facts (ending_of sc (final_after sc sc.steps).state)
    ≡ codes "tpvc 1\n" ++ flat_map told_of (trace_lines sc (all_after sc sc.steps)) ++ ending_text sc (ending_of sc (final_after sc sc.steps).state)
told_at_rest sc =
    subst (λ (m : Machine). report_text sc m.state.facts (ending_of sc m.state) ≡ codes "tpvc 1\n" ++ flat_map told_of (trace_lines sc (all_after sc sc.steps)) ++ ending_text sc (ending_of sc m.state))
    (sym (final_is sc sc.steps)) (reports_told sc (all_after sc sc.steps))

traces_trusted : (input out : Stream) (text : List ℕ) → RunsTo trace_told input text → Appends out.old out.new text → TracesTrusted input out
traces_trusted input out text r written =
    record {
      scenario = r.scenario;
      read = r.read;
      tells = tells_trusted trace_told r.scenario r.scenario.steps out text r.comes.rests r.comes.text_is written;
      reports = told_at_rest r.scenario;
    }

pub trace_kept : IsKept Trace
trace_kept = record {
  promised = λ call text has written. traces_trusted call.input call.out text has written;
  done = λ call text has. run_done trace_told call text has;
  refused = λ call text line r written. run_refused trace_text call text line r written;
  unread = λ call fails. run_failed call ReadFault (λ none. none.input fails.rose);
  no_memory = λ call. run_memory call;
  out_failed = λ call rose. run_failed call WriteFault (λ none. none.out rose);
  notes_failed = λ call text line r rose. run_failed call WriteFault (λ none. none.notes rose);
}
