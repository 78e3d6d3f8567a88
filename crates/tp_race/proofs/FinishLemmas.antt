-- A closed cluster comes to rest after its book, and what is told of that.
use Rattle.std.proofs.Common.{◌≡◌, ℕ, ◌+◌, ◌<◌, ◌≤◌, ◌^◌, List, [], ◌∷◌, ◌++◌, length, Bool, true, false, nat_lt, Option, Some, None, Result, Ok, Err, IfOk, OnOk, if◌then◌else◌, refl, sym, ap, ◌∙◌, subst, append_assoc, arith}
use Rattle.std.proofs.lemmas.Bool.{ltb-true}
use Rattle.std.specs.Io.KnownBytes.{Appends}
use Rattle.atomic_table.specs.Seated.{TableId}
use Rattle.tp_machine.specs.declared.error.StepError.{StepError}
use Rattle.tp_machine.specs.declared.error.StepError.TheVariants as error
use Rattle.tp_machine.specs.Machine.{Machine, State, after, ending_of, machine_after, opening, refusal, too_late}
use Rattle.tp_machine.specs.Moves.{moved_by}
use Rattle.tp_machine.specs.Named.{IsStepOf}
use Rattle.tp_machine.specs.WorldView.{WorldView}
use Rattle.tp_machine.proofs.basics.Machine.{after_steps-snoc}
use Rattle.tp_model.specs.Valid.{is_valid}
use Rattle.tp_model.specs.Words.step
use Rattle.tp_model.specs.Words.{Actor, Scenario, Step, Text}
use Rattle.tp_offices.specs.Authority.{clock_end}
use Rattle.tp_runs.specs.Laws.{HasNumbers, IsTrustedState}
use Rattle.tp_types.specs.Each.{Each}
use Rattle.tp_wire.specs.declared.view.Entry.{Entry}
use Rattle.tp_wire.specs.Entries.{steps_in}
use Rattle.tp_wire.specs.History.{Lawful}
use Rattle.tp_wire.specs.Passes.{Known, views_of}
use Rattle.tp_wire.proofs.EntryLemmas.{length-steps, steps-more}
use Rattle.tp_cluster.specs.declared.plan.Plan.{Plan}
use Rattle.tp_cluster.specs.Calls.{IsClosedWorld}
use Rattle.tp_cluster.specs.Runs.{IsNext, state_at}
use Rattle.tp_cluster.proofs.RunLemmas.{all_named, allowed_after}
use Rattle.tp_ends.proofs.PrintableRun.{run_rests}
use Rattle.tp_ends.proofs.RestLemmas.{rested_told, tells_trusted}
use Rattle.tp_ends.specs.After.{first_refused_of}
use Rattle.tp_ends.specs.Calls.{IsAfter, IsRestedTo, IsWhole, Settles}
use Rattle.tp_ends.specs.Listed.{refused_from, refused_or}
use Rattle.tp_ends.specs.Streams.{Stream}
use Rattle.tp_race.proofs.PassedBook.{book_of}
use Rattle.tp_race.specs.Finish.{AreAllPasses, FinishesTo, FinishesTrusted}
use Rattle.tp_race.specs.Texts.{race_told}
use Rattle.tp_race.specs.mirrors.Ends.{TellsRest}

-- ---- the steps of a lawful history

next_machine : (sc : Scenario) (before : List Entry) (e : Entry) → IsNext sc before e → after sc (steps_in (before ++ e ∷ [])) ≡ machine_after sc (after sc (steps_in before)) e.step
next_machine sc before e n =
    ap (after sc) (steps-more before e)
    ∙ (after_steps-snoc sc (opening sc) (steps_in before) e.step
    ∙ allowed_after sc (after sc (steps_in before)) e.step (refusal (after sc (steps_in before)).state e.step) n.allowed)

-- none is refused
none_refused : (sc : Scenario) (before rest : List Entry) (at : ℕ) → Lawful (IsNext sc) (before ++ rest) → refused_from sc (after sc (steps_in before)) at (steps_in rest) ≡ None
none_refused sc before [] at lawful = refl
none_refused sc before (e ∷ rest) at lawful =
    let n : IsNext sc before e = lawful before e rest refl in
    let same : (before ++ e ∷ []) ++ rest ≡ before ++ e ∷ rest = append_assoc before (e ∷ []) rest in
    ap (λ (why : Option StepError). refused_or why at (refused_from sc (machine_after sc (after sc (steps_in before)) e.step) (at + 1) (steps_in rest))) n.allowed
    ∙ (ap (λ (m : Machine). refused_from sc m (at + 1) (steps_in rest)) (sym (next_machine sc before e n))
    ∙ none_refused sc (before ++ e ∷ []) rest (at + 1) (subst (Lawful (IsNext sc)) (sym same) lawful))

-- the clock of a tick that is not refused stays within its range
tick_within : (clock by : ℕ) → too_late clock by ≡ None → by < 2 ^ 64
tick_within clock by e = by_test (nat_lt (clock + by) clock_end) refl e
  where
    by_test : (b : Bool) → nat_lt (clock + by) clock_end ≡ b → (if b then None else Some (error.TooLate clock)) ≡ None → by < 2 ^ 64
    by_test true low none = let most = ltb-true (clock + by) clock_end low in omega (arith, most)
    by_test false low none = absurd (cc)

-- their numbers are of 64 bits
next_numbered : (w : State) (taken : Step) (who : Actor) → refusal w taken ≡ None → moved_by w.mails taken ≡ Some who → HasNumbers taken
next_numbered w (step.Tick by) who allowed mover = tick_within w.actors.authority.clock by allowed
next_numbered w (step.Lose mail) who allowed mover = absurd (cc)
next_numbered w (step.Submit txn) who allowed mover = tt
next_numbered w (step.Deliver mail) who allowed mover = tt
next_numbered w (step.Publish admin) who allowed mover = tt
next_numbered w (step.Push admin server) who allowed mover = tt
next_numbered w (step.Revoke cred) who allowed mover = tt
next_numbered w (step.Timer txn) who allowed mover = tt
next_numbered w (step.Crash actor cut) who allowed mover = tt
next_numbered w (step.Boot actor) who allowed mover = tt

all_numbered : (sc : Scenario) (before rest : List Entry) → Lawful (IsNext sc) (before ++ rest) → Each HasNumbers (steps_in rest)
all_numbered sc before [] lawful = tt
all_numbered sc before (e ∷ rest) lawful =
    let n : IsNext sc before e = lawful before e rest refl in
    let same : (before ++ e ∷ []) ++ rest ≡ before ++ e ∷ rest = append_assoc before (e ∷ []) rest in
    (next_numbered (state_at sc before) e.step n.who n.allowed n.mover, all_numbered sc (before ++ e ∷ []) rest (subst (Lawful (IsNext sc)) (sym same) lawful))

-- ---- a closed cluster at rest

-- it comes to rest after its book
pub finishes_to : (plan : Plan) (passes : List Known) (world : WorldView) (text : List ℕ) → Each (λ (p : Known). p.given_up ≡ false) passes → IsClosedWorld plan (views_of passes) world → is_valid world.scenario ≡ true → TellsRest world text → FinishesTo plan passes text
finishes_to plan passes world text live c valid tells =
    let log : List Entry = c.closed.log in
    let book : List Step = c.book.steps in
    let exist : Each (IsStepOf plan.scenario) book = subst (Each (IsStepOf plan.scenario)) (sym c.closed.steps) (all_named plan.scenario log c.closed.lawful) in
    let numbered : Each HasNumbers book = subst (Each HasNumbers) (sym c.closed.steps) (all_numbered plan.scenario [] log c.closed.lawful) in
    let few : length book ≤ 2 ^ 48 = omega (arith, ap (λ (ss : List Step). length ss) c.closed.steps, length-steps log, c.closed.short) in
    let lawful : first_refused_of plan.scenario book ≡ None = ap (λ (ss : List Step). first_refused_of plan.scenario ss) c.closed.steps ∙ none_refused plan.scenario [] log 0 c.closed.lawful in
    let here : IsAfter book world = record {
      up = c.live;
      lawful = ap (λ (sc : Scenario). first_refused_of sc book) c.scenario ∙ lawful;
      now = c.machine ∙ ap (λ (sc : Scenario). after sc book) (sym c.scenario);
    } in
    let told : IsRestedTo race_told plan.scenario book text =
    subst (λ (sc : Scenario). IsRestedTo race_told sc book text) c.scenario (tells book (subst (λ (sc : Scenario). Each (IsStepOf sc) book) (sym c.scenario) exist) here) in
    record {
      live = live;
      world = world;
      closed = c;
      rests = run_rests plan.scenario book (ap is_valid (sym c.scenario) ∙ valid) (record { exist = exist; numbered = numbered; few = few }) told.rested;
      text_is = told.text_is;
    }

-- where its text was made
pub closed_to : {E : Type 0} (plan : Plan) (passes : List Known) (world : WorldView) (result : Result Text E) → Each (λ (p : Known). p.given_up ≡ false) passes → IsClosedWorld plan (views_of passes) world
    → OnOk result (is_valid world.scenario ≡ true) → IfOk result (λ text. TellsRest world text.0) → IfOk result (λ text. FinishesTo plan passes text.0)
closed_to plan passes world (Ok text) live closed valid tells = finishes_to plan passes world text.0 live closed valid tells
closed_to plan passes world (Err why) live closed valid tells = tt

-- ---- the headline

pub finishes_trusted : (plan : Plan) (table : TableId) (passes : List Known) (out : Stream) (text : List ℕ) → AreAllPasses plan table passes → FinishesTo plan passes text → Appends out.old out.new text → FinishesTrusted plan passes out
finishes_trusted plan table passes out text are f written = record {
  book = f.closed.book.steps;
  is_book = book_of plan (views_of passes) f.world f.closed (are.callers f.live);
  tells = tells_trusted race_told plan.scenario f.closed.book.steps out text f.rests f.text_is written;
  automatic = refl;
  facts = refl;
  ending = refl;
}

-- ---- a world that comes to rest

-- where the text of a world at rest was made
pub rested_tells : {E : Type 0} (old new : WorldView) (result : Result Text E) → is_valid old.scenario ≡ true → Settles old new
    → IfOk result (λ text. text.0 ≡ race_told new.scenario new.machine.state.steps new.machine.state.facts (ending_of new.scenario new.machine.state))
    → OnOk result (IsTrustedState new.scenario new.machine.state) → OnOk result (IsWhole new.scenario new.machine.state) → IfOk result (λ text. TellsRest old text.0)
rested_tells old new (Ok text) valid settles told so_far whole =
    λ steps exist here. rested_told race_told old.scenario steps new text.0 valid exist (settles steps here) told so_far whole
rested_tells old new (Err why) valid settles told so_far whole = tt
