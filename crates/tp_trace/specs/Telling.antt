-- What who tells a run has told of it.
use Rattle.std.specs.Prelude.{◌≡◌, ℕ, List, ◌++◌, Option, Some, None, false, nat_lt, length}
use Rattle.tp_machine.specs.Machine.{after}
use Rattle.tp_machine.specs.Moves.{moved_by}
use Rattle.tp_machine.specs.WorldView.{WorldView}
use Rattle.tp_model.specs.Words.{Record, Step}
use Rattle.tp_trace.specs.Blocks.{trace_text}
use Rattle.tp_trace.specs.Lines.{lines_text}
use Rattle.tp_trace.specs.declared.telling.Telling.{Telling}
use Rattle.tp_trace.specs.mirrors.Noted.{begun, noted_of}

-- the text is the trace of the steps that the world has done
abbrev pub IsTraceOf : WorldView → List ℕ → Type 0
IsTraceOf world text = text ≡ trace_text world.scenario world.machine.state.steps

-- the trace stands of all steps, or memory was refused
abbrev pub Tells : Telling → WorldView → Type 0
Tells t world = t.lost ≡ false → IsTraceOf world t.out.items

-- behind the trace of the steps before it stand the line of this step and what becomes of its mail, and what it may change is noted
pub record HasBegun (t : Telling) (world : WorldView) (taken : Step) : Type 0 where
  pub front : List ℕ
  pub told : IsTraceOf world front
  pub begins : t.out.items
      ≡ front
      ++ lines_text (begun world.scenario
      (nat_lt (length world.machine.state.steps) (length world.scenario.steps)) world.machine.state taken)
  pub noted_is : t.noted
      ≡ Some (noted_of world.scenario world.machine.state taken
      (moved_by world.machine.state.mails taken))
  pub unheard : t.forced ≡ None
  pub reached : world.machine ≡ after world.scenario world.machine.state.steps

abbrev pub Awaits : Telling → WorldView → Step → Type 0
Awaits t world taken = t.lost ≡ false → HasBegun t world taken

-- it keeps the record, and what it had
pub record HasHeard (old : Telling) (forced : Record) (new : Telling) : Type 0 where
  pub was : old.lost ≡ false
  pub out_is : new.out ≡ old.out
  pub noted_is : new.noted ≡ old.noted
  pub forced_is : new.forced ≡ Some forced

abbrev pub Hears : Telling → Record → Telling → Type 0
Hears old forced new = new.lost ≡ false → HasHeard old forced new
