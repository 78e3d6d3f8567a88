-- What comes of a scenario: of its run, where that comes to rest, or of the first listed step that is refused.
use Rattle.std.specs.Prelude.{◌≡◌, ◌⊎◌, ◌<◌, ℕ, List, [], length, take, Option, Some, None, IfSome}
use Rattle.tp_model.specs.Words.{Scenario, Step}
use Rattle.tp_scenario.specs.declared.from_bytes.ScenarioError.{ScenarioError}
use Rattle.tp_scenario.specs.declared.from_bytes.ScenarioError.TheVariants as error
use Rattle.tp_ends.specs.After.{RestsAfter, first_refused_of, told_after}
use Rattle.tp_ends.specs.Headline.{Told}
use Rattle.tp_ends.specs.Input.{IsRead, Reads}
use Rattle.tp_ends.specs.Refusals.{refusal_line}
use Rattle.tp_top.specs.Refusals.{step_line}
use Rattle.tp_ends.specs.Seen.{Ends, EndsRefused, NoneFailed}
use Rattle.tp_ends.specs.Streams.{Call, Stream}
use Rattle.tp_ends.specs.Unread.{AreRefused, RefusesInput, input_max}
use Rattle.tp_ends.specs.declared.listed.StepRefusal.{StepRefusal}
use Rattle.tp_ends.specs.declared.status.Status.{Status}
use Rattle.tp_ends.specs.declared.status.Status.TheVariants.{Done}

-- the first listed step that the machine refuses
abbrev pub first_refused : Scenario → Option StepRefusal
first_refused sc = first_refused_of sc sc.steps

-- no listed step is refused, the run comes to rest, and the text is what is told of it
pub record ComesTo (told : Told) (sc : Scenario) (text : List ℕ) : Type 0 where
  pub rests : RestsAfter sc sc.steps
  pub text_is : text ≡ told_after told sc sc.steps

-- the input was read whole as such a scenario
pub record RunsTo (told : Told) (input : Stream) (text : List ℕ) : Type 0 where
  pub scenario : Scenario
  pub read : IsRead input scenario
  pub comes : ComesTo told scenario text

-- what is told before the line of a refused step, of the steps before it: nothing
abbrev pub nothing_before : Scenario → List Step → List ℕ
nothing_before sc steps = []

-- a listed step is refused; the text is what is told of the steps before the first such step, and the line says which
-- that is, and why
pub record StopsAt (before : Scenario → List Step → List ℕ) (sc : Scenario) (text line : List ℕ) : Type 0 where
  pub refused : StepRefusal
  pub first : first_refused sc ≡ Some refused
  pub text_is : text ≡ before sc (take refused.at sc.steps)
  pub line_is : line ≡ step_line sc refused.at refused.why

-- the input was read whole as such a scenario
pub record RefusesStep (before : Scenario → List Step → List ℕ) (input : Stream) (text line : List ℕ)
    : Type 0 where
  pub scenario : Scenario
  pub read : IsRead input scenario
  pub stops : StopsAt before scenario text line

-- the input is refused with this text and this line
abbrev pub HasRefusal : (Scenario → List Step → List ℕ) → Stream → List ℕ → List ℕ → Type 0
HasRefusal before input text line =
    RefusesInput input text line ⊎ RefusesStep before input text line

-- each cause in the input has its line, and a scenario of which no listed step is refused is done
pub record EndsRightly (input : List ℕ) (status : Status) (notes : Stream) : Type 0 where
  pub too_long : input_max < length input → EndsRefused status notes (refusal_line error.TooLong)
  pub refused : (why : ScenarioError) → AreRefused input why
      → EndsRefused status notes (refusal_line why)
  pub stopped : (sc : Scenario) (refused : StepRefusal) → Reads input sc
      → first_refused sc ≡ Some refused
      → EndsRefused status notes (step_line sc refused.at refused.why)
  pub lawful : (sc : Scenario) → Reads input sc → first_refused sc ≡ None → Ends status Done

-- so it is where the input is told and no count rose
abbrev pub OwesRun : Call → Status → Type 0
OwesRun call status =
    NoneFailed call → IfSome call.input.old (λ input. EndsRightly input status call.notes)
