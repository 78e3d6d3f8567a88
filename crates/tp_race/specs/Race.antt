-- The top call of a race: what it promises at each status, what was read, what was written, and why.
use Rattle.std.specs.Prelude.{◌≡◌, ◌≢◌, ◌⊎◌, ◌<◌, ℕ, List, [], length, codes, IfSome}
use Rattle.std.specs.Io.KnownBytes.{Appends}
use Rattle.tp_io.specs.Whole.{AppendsFront}
use Rattle.tp_model.specs.Words.{Scenario, Step, Text}
use Rattle.tp_scenario.specs.declared.from_bytes.ScenarioError.{ScenarioError}
use Rattle.tp_scenario.specs.declared.from_bytes.ScenarioError.TheVariants as error
use Rattle.tp_ends.specs.After.{RestsAfter, automatic_after, told_after}
use Rattle.tp_ends.specs.Headline.{TellsTrusted}
use Rattle.tp_ends.specs.Input.{IsRead, Reads}
use Rattle.tp_ends.specs.Refusals.{refusal_line}
use Rattle.tp_ends.specs.Seen.{Ends, EndsRefused, HasFailed, IsUntouched, NoneFailed}
use Rattle.tp_ends.specs.Streams.{Call, Stream}
use Rattle.tp_ends.specs.Unread.{AreRefused, FailsToRead, RefusesInput, input_max}
use Rattle.tp_ends.specs.declared.status.Status.{Status}
use Rattle.tp_ends.specs.declared.status.Status.TheVariants.{Done, Refused, Usage, ReadFault, WriteFault, NoMemory}
use Rattle.tp_race.specs.Texts.{race_told}
use Rattle.tp_race.specs.WholeRace.{WholeRace}

-- the line that says how the program is called
abbrev pub usage_line : List ℕ
usage_line = codes "usage: tpvc_race\n"

-- where the listed steps of a scenario stand
abbrev pub steps_path : Text
steps_path = record { 0 = codes "$.steps" }

-- the line that refuses a scenario with listed steps
abbrev pub steps_line : List ℕ
steps_line = refusal_line (error.Range steps_path)

-- ---- what comes of an input

-- the input was read whole as this scenario, which lists no steps
pub record IsRaceInput (input : Stream) (sc : Scenario) : Type 0 where
  pub read : IsRead input sc
  pub unlisted : sc.steps ≡ []

-- a race of the scenario came to rest after these steps, which are a whole race with the automatic ones after them, and
-- the text is what is told of that
pub record RacesTo (sc : Scenario) (text : List ℕ) : Type 0 where
  pub book : List Step
  pub rests : RestsAfter sc book
  pub whole : WholeRace sc book
  pub text_is : text ≡ told_after race_told sc book

-- the input is a scenario, and the text is what is told of a race of it
pub record HasRace (input : Stream) (text : List ℕ) : Type 0 where
  pub scenario : Scenario
  pub input_is : IsRaceInput input scenario
  pub races : RacesTo scenario text

-- the input was read whole as a scenario that lists steps, and the line says so
pub record RefusesSteps (input : Stream) (line : List ℕ) : Type 0 where
  pub scenario : Scenario
  pub read : IsRead input scenario
  pub listed : scenario.steps ≢ []
  pub line_is : line ≡ steps_line

-- the input is refused with this line
abbrev pub RefusesRace : Stream → List ℕ → Type 0
RefusesRace input line = RefusesInput input [] line ⊎ RefusesSteps input line

-- ---- the headline

-- the input was read whole as a scenario without listed steps, and exactly the text of a race with a trusted history of
-- it was written, whose steps are a whole race
pub record RacesTrusted (input out : Stream) : Type 0 where
  pub scenario : Scenario
  pub input_is : IsRaceInput input scenario
  pub book : List Step
  pub tells : TellsTrusted race_told scenario book out
  pub automatic : tells.later ≡ automatic_after scenario book
  pub whole : WholeRace scenario book

-- ---- what a call was, by its status

-- there are no words, the text of a race was written to out, and nothing to notes
pub record IsDone (call : Call) : Type 0 where
  pub no_words : call.words ≡ []
  pub text : List ℕ
  pub has : HasRace call.input text
  pub written : Appends call.out.old call.out.new text
  pub notes_kept : IsUntouched call.notes

-- there are no words, and the input is refused; the line that says why was written to notes, and nothing to out
pub record IsRefused (call : Call) : Type 0 where
  pub no_words : call.words ≡ []
  pub line : List ℕ
  pub cause : RefusesRace call.input line
  pub written : Appends call.notes.old call.notes.new line
  pub out_kept : IsUntouched call.out

-- there is a word, the line on usage was written to notes, and nothing to out
pub record IsUsage (call : Call) : Type 0 where
  pub some_word : call.words ≢ []
  pub written : Appends call.notes.old call.notes.new usage_line
  pub out_kept : IsUntouched call.out

-- there are no words, the input failed after a part of it, and nothing was written
pub record IsReadFault (call : Call) : Type 0 where
  pub no_words : call.words ≡ []
  pub fails : FailsToRead call.input
  pub out_kept : IsUntouched call.out
  pub notes_kept : IsUntouched call.notes

-- there are no words, and nothing was written
pub record IsNoMemory (call : Call) : Type 0 where
  pub no_words : call.words ≡ []
  pub out_kept : IsUntouched call.out
  pub notes_kept : IsUntouched call.notes

-- out failed after a part of the text, and notes were kept
pub record IsOutFault (call : Call) : Type 0 where
  pub no_words : call.words ≡ []
  pub text : List ℕ
  pub has : HasRace call.input text
  pub front : AppendsFront call.out.old call.out.new text
  pub rose : HasFailed call.out
  pub notes_kept : IsUntouched call.notes

-- notes failed after a part of the line of a refusal, and out was kept
pub record IsRefusalFault (call : Call) : Type 0 where
  pub no_words : call.words ≡ []
  pub line : List ℕ
  pub cause : RefusesRace call.input line
  pub front : AppendsFront call.notes.old call.notes.new line
  pub rose : HasFailed call.notes
  pub out_kept : IsUntouched call.out

-- notes failed after a part of the line on usage, and out was kept
pub record IsUsageFault (call : Call) : Type 0 where
  pub some_word : call.words ≢ []
  pub front : AppendsFront call.notes.old call.notes.new usage_line
  pub rose : HasFailed call.notes
  pub out_kept : IsUntouched call.out

abbrev pub EndsWith : Status → Call → Type 0
EndsWith Done call = IsDone call
EndsWith Refused call = IsRefused call
EndsWith Usage call = IsUsage call
EndsWith ReadFault call = IsReadFault call
EndsWith WriteFault call = IsOutFault call ⊎ (IsRefusalFault call ⊎ IsUsageFault call)
EndsWith NoMemory call = IsNoMemory call

-- ---- what it owes

-- each cause in the input has its line, and a scenario that lists no steps is done
pub record EndsRightly (input : List ℕ) (status : Status) (notes : Stream) : Type 0 where
  pub too_long : input_max < length input → EndsRefused status notes (refusal_line error.TooLong)
  pub refused : (why : ScenarioError) → AreRefused input why
      → EndsRefused status notes (refusal_line why)
  pub listed : (sc : Scenario) → Reads input sc → sc.steps ≢ []
      → EndsRefused status notes steps_line
  pub unlisted : (sc : Scenario) → Reads input sc → sc.steps ≡ [] → Ends status Done

-- so it is where there are no words, the input is told and no count rose
abbrev pub OwesRace : Call → Status → Type 0
OwesRace call status =
    call.words ≡ [] → NoneFailed call
    → IfSome call.input.old (λ input. EndsRightly input status call.notes)
