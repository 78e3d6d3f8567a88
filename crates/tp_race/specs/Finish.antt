-- How a race is finished: what is told of the book of the closed cluster, and what its callers' passes say of it.
use Rattle.std.specs.Prelude.{◌≡◌, ℕ, ◌+◌, ◌<◌, ◌≤◌, List, [], ◌∷◌, length, flat_map, false}
use Rattle.std.specs.Io.KnownBytes.{Appends}
use Rattle.atomic_table.specs.Seated.{TableId}
use Rattle.tp_io.specs.Whole.{AppendsFront}
use Rattle.tp_machine.specs.Machine.{ending_of}
use Rattle.tp_machine.specs.WorldView.{WorldView}
use Rattle.tp_model.specs.Words.{Scenario, Step}
use Rattle.tp_types.specs.Each.{Each}
use Rattle.tp_wire.specs.declared.view.Entry.{Entry}
use Rattle.tp_wire.specs.declared.view.Part.{Part}
use Rattle.tp_wire.specs.declared.view.View.{View}
use Rattle.tp_wire.specs.Closing.{own, parts_of, taken_in}
use Rattle.tp_wire.specs.Entries.{mails_in, steps_in}
use Rattle.tp_wire.specs.History.{Lawful, StartsWith, names, numbers_of, one_if, times}
use Rattle.tp_wire.specs.Passes.{Known, views_of}
use Rattle.tp_cluster.specs.declared.plan.Plan.{Plan}
use Rattle.tp_cluster.specs.Calls.{IsClosedWorld}
use Rattle.tp_cluster.specs.Runs.{IsNext, actors_of}
use Rattle.tp_ends.specs.After.{RestsAfter, automatic_after, final_after, told_after}
use Rattle.tp_ends.specs.Headline.{TellsTrusted}
use Rattle.tp_ends.specs.Seen.{HasFailed, IsUntouched}
use Rattle.tp_ends.specs.Streams.{Stream}
use Rattle.tp_ends.specs.declared.status.Status.{Status}
use Rattle.tp_ends.specs.declared.status.Status.TheVariants.{Done, WriteFault, NoMemory}
use Rattle.tp_race.specs.Texts.{race_told}

-- ---- the passes

-- the part of each caller's number is among these
abbrev pub HasCallers : Plan → List Part → Type 0
HasCallers plan parts =
    (number : ℕ) → actors_of plan.scenario ≤ number → number < actors_of plan.scenario + plan.callers
    → 1 ≤ times number (numbers_of parts)

-- they are all passes that the opening of a cluster gave: each is of its table, and where none is given up, each
-- caller's part is among theirs
pub record AreAllPasses (plan : Plan) (table : TableId) (passes : List Known) : Type 0 where
  pub site : Each (λ (p : Known). p.table ≡ table) passes
  pub callers : Each (λ (p : Known). p.given_up ≡ false) passes → HasCallers plan (parts_of (views_of passes))

-- ---- the book

-- the entries of a part: what the caller did whose pass has it
abbrev pub own_of : Part → List Entry
own_of p = own p.number p.upto

-- in how many of these parts an entry stands
abbrev pub standing : List Part → Entry → ℕ
standing [] e = 0
standing (p ∷ parts) e = one_if (names p.number e) + standing parts e

-- These steps are the book, beside the passes of all callers. They are those of a history that is a run. Each step is
-- of just one pass; the steps of each pass stand in the history in the pass's order, and with those of all passes
-- together there are no others. What a pass has seen begins it. No mail was taken twice, and each that was taken is
-- one of the history's
pub record IsBook (sc : Scenario) (views : List View) (book : List Step) : Type 0 where
  pub log : List Entry
  pub steps : book ≡ steps_in log
  pub lawful : Lawful (IsNext sc) log
  pub of_one : Each (λ (e : Entry). standing (parts_of views) e ≡ 1) log
  pub in_order : Each (λ (p : Part). own_of p ≡ own p.number log) (parts_of views)
  pub together : length (flat_map own_of (parts_of views)) ≡ length book
  pub begun : Each (λ (v : View). StartsWith book (steps_in v.seen)) views
  pub taken_once : (mail : ℕ) → times mail (taken_in (parts_of views)) ≤ 1
  pub taken_sent : (mail : ℕ) → 1 ≤ times mail (taken_in (parts_of views)) → mail < length (mails_in log)

-- ---- what is told

-- no pass is given up, a closed cluster comes to rest after its book, and the text is what is told of that
pub record FinishesTo (plan : Plan) (passes : List Known) (text : List ℕ) : Type 0 where
  pub live : Each (λ (p : Known). p.given_up ≡ false) passes
  pub world : WorldView
  pub closed : IsClosedWorld plan (views_of passes) world
  pub rests : RestsAfter plan.scenario closed.book.steps
  pub text_is : text ≡ told_after race_told plan.scenario closed.book.steps

-- The headline: exactly the text of a trusted history was written, whose steps are those of the book and then the
-- automatic ones, and whose facts and ending are those of the machine after all of them
pub record FinishesTrusted (plan : Plan) (passes : List Known) (out : Stream) : Type 0 where
  pub book : List Step
  pub is_book : IsBook plan.scenario (views_of passes) book
  pub tells : TellsTrusted race_told plan.scenario book out
  pub automatic : tells.later ≡ automatic_after plan.scenario book
  pub facts : tells.facts ≡ (final_after plan.scenario book).state.facts
  pub ending : tells.ending ≡ ending_of plan.scenario (final_after plan.scenario book).state

-- the whole text was written
pub record IsFinished (plan : Plan) (passes : List Known) (out : Stream) : Type 0 where
  pub text : List ℕ
  pub finishes : FinishesTo plan passes text
  pub written : Appends out.old out.new text

-- out failed after a part of the text
pub record IsFinishedInPart (plan : Plan) (passes : List Known) (out : Stream) : Type 0 where
  pub text : List ℕ
  pub finishes : FinishesTo plan passes text
  pub front : AppendsFront out.old out.new text
  pub rose : HasFailed out

-- what came of it, by the status
abbrev pub FinishEnds : Status → Plan → List Known → Stream → Type 0
FinishEnds Done plan passes out = IsFinished plan passes out
FinishEnds WriteFault plan passes out = IsFinishedInPart plan passes out
FinishEnds NoMemory plan passes out = IsUntouched out
FinishEnds _ plan passes out = ⊥
