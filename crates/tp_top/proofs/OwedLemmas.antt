-- What comes of a scenario that is read, as the answer of a command that runs it, and what such a command owes.
use Rattle.std.proofs.Common.{◌≡◌, inl, inr, ℕ, ◌+◌, List, true, Option, Some, None, refl, sym, ap, subst, ◌∙◌, arith}
use Rattle.std.proofs.lemmas.Option.{same_Some}
use Rattle.std.specs.Io.KnownBytes.{Appends}
use Rattle.std.specs.Prelude.{IfSome}
use Rattle.tp_io.specs.Whole.{TakesAtMost}
use Rattle.tp_model.specs.Valid.{is_valid}
use Rattle.tp_model.specs.Words.{Scenario, Step}
use Rattle.tp_scenario.specs.declared.from_bytes.ScenarioError.{ScenarioError}
use Rattle.tp_scenario.specs.declared.from_bytes.ScenarioError.TheVariants as error
use Rattle.tp_ends.proofs.InputLemmas.{cause_whole, long_refused, read_whole, refused_or_read, same_refusal, same_scenario}
use Rattle.tp_top.proofs.ListedLemmas.{listed_are}
use Rattle.tp_ends.proofs.PrintableRun.{run_rests}
use Rattle.tp_ends.specs.Headline.{Told}
use Rattle.tp_ends.specs.Input.{Reads}
use Rattle.tp_ends.specs.Refusals.{refusal_line}
use Rattle.tp_top.specs.Refusals.{step_line}
use Rattle.tp_top.specs.Rows.{HasText, RefusesFor, reads_at_most}
use Rattle.tp_top.specs.mirrors.Commands.{Answers}
use Rattle.tp_top.specs.Runs.{ComesTo, EndsRightly, HasRefusal, OwesRun, RunsTo, first_refused}
use Rattle.tp_ends.specs.Seen.{NoneFailed}
use Rattle.tp_ends.specs.Streams.{Call, Stream}
use Rattle.tp_ends.specs.Unread.{AreRefused, RefusesInput, input_max}
use Rattle.tp_ends.specs.declared.answer.Answer.{Answer}
use Rattle.tp_ends.specs.declared.answer.Answer.TheVariants as answer
use Rattle.tp_ends.specs.declared.listed.StepRefusal.{StepRefusal}
use Rattle.tp_ends.specs.declared.status.Status.{Status}
use Rattle.tp_ends.specs.declared.status.Status.TheVariants.{Done, Refused, NoMemory}
use Rattle.tp_ends.specs.Calls.{IsInput, IsRestedTo, IsUnread}
use Rattle.tp_top.specs.mirrors.Runs.{IsTold}
use Rattle.tp_words.specs.declared.commands.Command.{Command}

-- ---- answers

-- a valid scenario that is rested, with what is told of it, comes to rest
pub comes_to : (told : Told) (sc : Scenario) (text : List ℕ) → is_valid sc ≡ true → IsRestedTo told sc sc.steps text → ComesTo told sc text
comes_to told sc text formed h = record { rests = run_rests sc sc.steps formed (listed_are sc formed) h.rested; text_is = h.text_is }

-- what comes of a scenario that was read is the answer to a command that tells so of it
pub told_by : (command : Command) (told : Told) (before : Scenario → List Step → List ℕ) (input : Stream) (sc : Scenario) (answer : Answer)
    → ((text : List ℕ) → RunsTo told input text → HasText command input text) → ((text line : List ℕ) → HasRefusal before input text line → RefusesFor command input text line)
    → IsInput input sc → IsTold told before sc answer → Answers command input answer
told_by command told before input sc (answer.Text text) has refuses i h = has text.0 (record { scenario = sc; read = i.read; comes = comes_to told sc text.0 i.valid h })
told_by command told before input sc (answer.Refused text line) has refuses i h = refuses text.0 line.0 (inr (record { scenario = sc; read = i.read; stops = h }))
told_by command told before input sc answer.NoMemory has refuses i h = tt
told_by command told before input sc answer.ReadFault has refuses i h = absurd h

-- what comes of an input that is no scenario is the answer to a command that reads one
pub unread_by : (command : Command) (input : Stream) (answer : Answer) → reads_at_most command ≡ input_max + 1
    → ((text line : List ℕ) → RefusesInput input text line → RefusesFor command input text line) → IsUnread input answer → Answers command input answer
unread_by command input (answer.Text text) most refuses h = absurd h
unread_by command input (answer.Refused text line) most refuses h = refuses text.0 line.0 h
unread_by command input answer.ReadFault most refuses h =
    record { reads = omega (arith, most); rose = h.rose; taken = subst (λ (count : ℕ). TakesAtMost count input.old input.new) (sym most) h.taken }
unread_by command input answer.NoMemory most refuses h = tt

-- ---- the statuses

same_refused : (bytes : List ℕ) (one other : Scenario) (refused also : Option StepRefusal) → Reads bytes one → Reads bytes other → first_refused one ≡ refused → first_refused other ≡ also → refused ≡ also
same_refused bytes one other refused also r s e f = sym e ∙ (ap first_refused (same_scenario bytes one other r s) ∙ f)

refused_or_lawful : (bytes : List ℕ) (one other : Scenario) (refused : StepRefusal) → Reads bytes one → Reads bytes other → first_refused one ≡ Some refused → first_refused other ≡ None → ⊥
refused_or_lawful bytes one other refused r s e f = let same : Some refused ≡ None = same_refused bytes one other (Some refused) None r s e f in cc

-- want of memory may come for every cause
memory_rightly : (told : List ℕ) (notes : Stream) → EndsRightly told NoMemory notes
memory_rightly told notes =
    record {
      too_long = λ _. inr refl;
      refused = λ _ _. inr refl;
      stopped = λ _ _ _ _. inr refl;
      lawful = λ _ _ _. inr refl;
    }

-- a scenario of which no listed step is refused is done
done_rightly : (told : List ℕ) (notes : Stream) (sc : Scenario) → Reads told sc → first_refused sc ≡ None → EndsRightly told Done notes
done_rightly told notes sc reads lawful =
    record {
      too_long = λ long. absurd (refused_or_read told error.TooLong sc (long_refused told long) reads);
      refused = λ why s. absurd (refused_or_read told why sc s reads);
      stopped = λ other refused s e. absurd (refused_or_lawful told other sc refused s reads e lawful);
      lawful = λ _ _ _. inl refl;
    }

-- a refusal has its line
refused_rightly : (told : List ℕ) (notes : Stream) (why : ScenarioError) → AreRefused told why → Appends notes.old notes.new (refusal_line why) → EndsRightly told Refused notes
refused_rightly told notes why r written =
    let line : (other : ScenarioError) → AreRefused told other → Appends notes.old notes.new (refusal_line other) =
    λ other s. subst (λ (e : ScenarioError). Appends notes.old notes.new (refusal_line e)) (same_refusal told why other r s) written in
    record {
      too_long = λ long. inl (refl, line error.TooLong (long_refused told long));
      refused = λ other s. inl (refl, line other s);
      stopped = λ sc _ s _. absurd (refused_or_read told why sc r s);
      lawful = λ sc s _. absurd (refused_or_read told why sc r s);
    }

-- the line of a listed step that is refused
step_rightly : (told : List ℕ) (notes : Stream) (sc : Scenario) (refused : StepRefusal) → Reads told sc → first_refused sc ≡ Some refused → Appends notes.old notes.new (step_line sc refused.at refused.why) → EndsRightly told Refused notes
step_rightly told notes sc refused reads first written =
    record {
      too_long = λ long. absurd (refused_or_read told error.TooLong sc (long_refused told long) reads);
      refused = λ why s. absurd (refused_or_read told why sc s reads);
      stopped = λ other also s e. inl (refl, subst (Appends notes.old notes.new) (same_line other also s e) written);
      lawful = λ other s lawful. absurd (refused_or_lawful told sc other refused reads s first lawful);
    }
  where
    same_line : (other : Scenario) (also : StepRefusal) → Reads told other → first_refused other ≡ Some also → step_line sc refused.at refused.why ≡ step_line other also.at also.why
    same_line other also s e =
        let same : refused ≡ also = same_Some refused also (same_refused told sc other (Some refused) (Some also) reads s first e) in
        ap (λ (x : Scenario). step_line x refused.at refused.why) (same_scenario told sc other reads s) ∙ ap (λ (x : StepRefusal). step_line other x.at x.why) same

refusal_rightly : (before : Scenario → List Step → List ℕ) (input notes : Stream) (told text line : List ℕ) → input.old ≡ Some told → HasRefusal before input text line → Appends notes.old notes.new line → EndsRightly told Refused notes
refusal_rightly before input notes told text line e (inl r) written =
    refused_rightly told notes r.why (cause_whole input told r.why e r.cause) (subst (Appends notes.old notes.new) r.line_is written)
refusal_rightly before input notes told text line e (inr r) written =
    step_rightly told notes r.scenario r.stops.refused (read_whole input told r.scenario e r.read) r.stops.first (subst (Appends notes.old notes.new) r.stops.line_is written)

-- ---- what a command that runs a scenario owes

-- what is so of whatever is told is so of an input that may be told
if_told : (P : List ℕ → Type 0) (old : Option (List ℕ)) → ((told : List ℕ) → old ≡ Some told → P told) → IfSome old P
if_told P None h = tt
if_told P (Some told) h = h told refl

pub run_memory : (call : Call) → OwesRun call NoMemory
run_memory call = λ _. if_told (λ told. EndsRightly told NoMemory call.notes) call.input.old (λ told _. memory_rightly told call.notes)

pub run_done : (told : Told) (call : Call) (text : List ℕ) → RunsTo told call.input text → OwesRun call Done
run_done told call text r =
    λ _. if_told (λ bytes. EndsRightly bytes Done call.notes) call.input.old (λ bytes e. done_rightly bytes call.notes r.scenario (read_whole call.input bytes r.scenario e r.read) r.comes.rests.lawful)

pub run_refused : (before : Scenario → List Step → List ℕ) (call : Call) (text line : List ℕ) → HasRefusal before call.input text line → Appends call.notes.old call.notes.new line → OwesRun call Refused
run_refused before call text line r written =
    λ _. if_told (λ told. EndsRightly told Refused call.notes) call.input.old (λ told e. refusal_rightly before call.input call.notes told text line e r written)

-- where a stream failed it owes nothing
pub run_failed : (call : Call) (status : Status) → (NoneFailed call → ⊥) → OwesRun call status
run_failed call status some = λ none. absurd (some none)
