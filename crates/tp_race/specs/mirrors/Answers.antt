-- What the helpers of a race promise to one another.
use Rattle.std.specs.Prelude.{◌≡◌, List, ℕ, false}
use Rattle.std.specs.Io.KnownBytes.{Appends}
use Rattle.atomic_table.specs.Seated.{TableId}
use Rattle.tp_io.specs.Whole.{AppendsFront}
use Rattle.tp_model.specs.Words.{Scenario}
use Rattle.tp_types.specs.Each.{Each}
use Rattle.tp_wire.specs.Passes.{Known, views_of}
use Rattle.tp_cluster.specs.declared.plan.Plan.{Plan}
use Rattle.tp_ends.specs.Seen.{HasFailed, IsUntouched}
use Rattle.tp_ends.specs.Streams.{Stream}
use Rattle.tp_ends.specs.Unread.{FailsToRead}
use Rattle.tp_ends.specs.declared.answer.Answer.{Answer}
use Rattle.tp_ends.specs.declared.answer.Answer.TheVariants as answer
use Rattle.tp_ends.specs.declared.status.Status.{Status}
use Rattle.tp_ends.specs.declared.status.Status.TheVariants.{Done, WriteFault, NoMemory}
use Rattle.tp_race.specs.Callers.{AreAll, HasEnded, callers_of}
use Rattle.tp_race.specs.Race.{RacesTo, RefusesRace, steps_line}

-- what comes of a scenario that lists steps
abbrev pub IsStepsRefusal : Answer → Type 0
IsStepsRefusal (answer.Refused text line) = line.0 ≡ steps_line
IsStepsRefusal answer.NoMemory = Unit {0}
IsStepsRefusal _ = ⊥

-- what comes of an input that is no scenario without listed steps
abbrev pub IsUnraced : Stream → Answer → Type 0
IsUnraced input (answer.Text text) = ⊥
IsUnraced input (answer.Refused text line) = RefusesRace input line.0
IsUnraced input answer.ReadFault = FailsToRead input
IsUnraced input answer.NoMemory = Unit {0}

-- the passes of a cluster after its scripts: where none is given up, each caller has ended
pub record IsRaced (plan : Plan) (table : TableId) (passes : List Known) : Type 0 where
  pub site : Each (λ (p : Known). p.table ≡ table) passes
  pub ended : Each (λ (p : Known). p.given_up ≡ false) passes
      → AreAll (HasEnded plan.scenario) (callers_of plan.scenario) (views_of passes)

-- the text of a race was written
pub record IsWritten (sc : Scenario) (out : Stream) : Type 0 where
  pub text : List ℕ
  pub races : RacesTo sc text
  pub written : Appends out.old out.new text

-- out failed after a part of it
pub record IsWrittenInPart (sc : Scenario) (out : Stream) : Type 0 where
  pub text : List ℕ
  pub races : RacesTo sc text
  pub front : AppendsFront out.old out.new text
  pub rose : HasFailed out

-- what comes of a race of the scenario, by the status
abbrev pub RaceEnds : Status → Scenario → Stream → Type 0
RaceEnds Done sc out = IsWritten sc out
RaceEnds WriteFault sc out = IsWrittenInPart sc out
RaceEnds NoMemory sc out = IsUntouched out
RaceEnds _ sc out = ⊥
