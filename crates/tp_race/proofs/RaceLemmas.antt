-- What comes of a race whose callers have ended, and what a race owes.
use Rattle.std.proofs.Common.{◌≡◌, ◌≢◌, inl, inr, ℕ, ◌+◌, ◌<◌, ◌≤◌, ◌==◌, List, [], ◌∷◌, ◌++◌, length, map, true, false, Bool, Option, Some, None, refl, sym, ap, ◌∙◌, subst, arith}
use Rattle.std.proofs.lemmas.Bool.{and_parts}
use Rattle.std.proofs.lemmas.Bool.Decides.{nat_tests}
use Rattle.std.proofs.lemmas.List.{length-append, length-map}
use Rattle.std.specs.List.{list_all}
use Rattle.std.specs.Io.KnownBytes.{Appends}
use Rattle.std.specs.Prelude.{IfSome}
use Rattle.atomic_table.specs.Seated.{TableId}
use Rattle.tp_model.specs.Limits.{clients_limit, has_count, officers_limit, publishers_limit}
use Rattle.tp_model.specs.Valid.{are_submitted_once, have_versions_left, is_officer_script, is_publisher_script, is_script_of_txns, is_valid}
use Rattle.tp_model.specs.Words.{Scenario}
use Rattle.tp_model.proofs.RuleLemmas.{count_most, rules_of}
use Rattle.tp_scenario.specs.declared.from_bytes.ScenarioError.{ScenarioError}
use Rattle.tp_scenario.specs.declared.from_bytes.ScenarioError.TheVariants as error
use Rattle.tp_types.proofs.ListLemmas.{three_parts}
use Rattle.tp_wire.specs.declared.view.Part.{Part}
use Rattle.tp_wire.specs.declared.view.View.{View}
use Rattle.tp_wire.specs.Closing.{parts_of}
use Rattle.tp_wire.specs.History.{numbers_of, one_if, times}
use Rattle.tp_wire.specs.Passes.{Known, views_of}
use Rattle.tp_cluster.specs.declared.plan.Plan.{Plan}
use Rattle.tp_cluster.specs.Runs.{actors_of}
use Rattle.tp_ends.proofs.InputLemmas.{cause_whole, long_refused, read_whole, refused_or_read, same_refusal, same_scenario}
use Rattle.tp_ends.proofs.RestLemmas.{tells_trusted}
use Rattle.tp_ends.specs.Input.{Reads}
use Rattle.tp_ends.specs.Refusals.{refusal_line}
use Rattle.tp_ends.specs.Seen.{Ends, HasFailed, IsUntouched, NoneFailed}
use Rattle.tp_ends.specs.Streams.{Call, Stream}
use Rattle.tp_ends.specs.Unread.{AreRefused}
use Rattle.tp_ends.specs.declared.status.Status.{Status}
use Rattle.tp_ends.specs.declared.status.Status.TheVariants.{Done, Refused, Usage, ReadFault, WriteFault, NoMemory}
use Rattle.tp_race.specs.Callers.{AllFrom, HasEnded, callers_of, submissions}
use Rattle.tp_race.specs.Finish.{AreAllPasses, FinishEnds, FinishesTo}
use Rattle.tp_race.specs.Race.{EndsRightly, EndsWith, IsRaceInput, OwesRace, RacesTo, RacesTrusted, RefusesRace, steps_line}
use Rattle.tp_race.specs.Texts.{race_told}
use Rattle.tp_race.specs.mirrors.Answers.{IsRaced, IsWritten, RaceEnds}
use Rattle.tp_race.proofs.ClosedLemmas.{never_stopped}
use Rattle.tp_race.proofs.WholeLemmas.{whole_race}

-- ---- the passes of all callers

-- the one part of a caller's pass
record IsMine (sc : Scenario) (caller : ℕ) (v : View) : Type 0 where
  part : Part
  one : v.parts ≡ part ∷ []
  number : part.number ≡ actors_of sc + caller

mine_of : (sc : Scenario) (caller : ℕ) (v : View) → HasEnded sc caller v → IsMine sc caller v
mine_of sc caller v (inl run) = record { part = run.part; one = run.one; number = run.number }
mine_of sc caller v (inr stopped) = record { part = stopped.at.part; one = stopped.at.one; number = stopped.at.number }

all_stand : (sc : Scenario) (views : List View) (from : ℕ) → AllFrom (HasEnded sc) from views → (number : ℕ) → actors_of sc + from ≤ number → number < actors_of sc + (from + length views)
    → 1 ≤ times number (numbers_of (parts_of views))
all_stand sc [] from ended number low high = absurd (omega (arith, low, high))
all_stand sc (v ∷ views) from ended number low high =
    let mine : IsMine sc from v = mine_of sc from v ended.0 in
    let whole : times number (numbers_of (parts_of (v ∷ views))) ≡ one_if (mine.part.number == number) + times number (numbers_of (parts_of views)) =
    ap (λ (ps : List Part). times number (numbers_of (ps ++ parts_of views))) mine.one in
    by_test mine (λ more. all_stand sc views (from + 1) ended.1 number more (omega (arith, high))) (mine.part.number == number) refl whole
  where
    by_test : (mine : IsMine sc from v) → (actors_of sc + (from + 1) ≤ number → 1 ≤ times number (numbers_of (parts_of views))) → (b : Bool) → (mine.part.number == number) ≡ b
        → times number (numbers_of (parts_of (v ∷ views))) ≡ one_if (mine.part.number == number) + times number (numbers_of (parts_of views)) → 1 ≤ times number (numbers_of (parts_of (v ∷ views)))
    by_test mine later true e whole = omega (arith, whole, ap one_if e)
    by_test mine later false e whole =
        let other : mine.part.number ≢ number = grind (arith, nat_tests, e) in
        let rest : 1 ≤ times number (numbers_of (parts_of views)) = later (omega (arith, low, other, mine.number)) in
        omega (arith, whole, rest)

-- callers that have ended are all
pub all_passes : (plan : Plan) (table : TableId) (passes : List Known) → plan.callers ≡ callers_of plan.scenario → IsRaced plan table passes → AreAllPasses plan table passes
all_passes plan table passes count r =
    record {
      site = r.site;
      callers = λ live number low high.
          let all = r.ended live in
          all_stand plan.scenario (views_of passes) 0 all.each number (omega (arith, low)) (omega (arith, high, count, all.count));
    }

-- ---- how many callers there are

pub few_clients : (sc : Scenario) → is_valid sc ≡ true → length sc.clients ≤ 16
few_clients sc valid = count_most 0 clients_limit (length sc.clients) (three_parts (has_count 0 clients_limit sc.clients) (list_all (is_script_of_txns sc) sc.clients) (are_submitted_once sc.clients 0 sc.txns) (rules_of sc valid).clients).0

pub few_publishers : (sc : Scenario) → is_valid sc ≡ true → length sc.publishers ≤ 8
few_publishers sc valid = count_most 0 publishers_limit (length sc.publishers) (three_parts (has_count 0 publishers_limit sc.publishers) (list_all (is_publisher_script sc) sc.publishers) (have_versions_left sc.publishers 0 sc.admins) (rules_of sc valid).publishers).0

pub few_officers : (sc : Scenario) → is_valid sc ≡ true → length sc.officers ≤ 8
few_officers sc valid = count_most 0 officers_limit (length sc.officers) (and_parts (has_count 0 officers_limit sc.officers) (list_all (is_officer_script sc) sc.officers) (rules_of sc valid).officers).0

pub counted : (sc : Scenario) → callers_of sc ≡ length sc.clients + length sc.publishers + length sc.officers + 1
counted sc = omega (arith, length-append (map submissions sc.clients) (sc.publishers ++ sc.officers), length-append sc.publishers sc.officers, length-map sc.clients submissions)

-- ---- what a race comes to

-- a cluster whose callers have ended was in a whole race
pub races_to : (plan : Plan) (table : TableId) (passes : List Known) (text : List ℕ) → is_valid plan.scenario ≡ true → plan.callers ≡ callers_of plan.scenario → IsRaced plan table passes → FinishesTo plan passes text
    → RacesTo plan.scenario text
races_to plan table passes text valid count r f =
    let run = never_stopped plan (views_of passes) f.world valid count f.closed (r.ended f.live) in
    record {
      book = f.closed.book.steps;
      rests = f.rests;
      whole = whole_race plan (views_of passes) f.world f.closed valid count run f.rests;
      text_is = f.text_is;
    }

pub race_ends : (plan : Plan) (table : TableId) (passes : List Known) (out : Stream) (status : Status) → is_valid plan.scenario ≡ true → plan.callers ≡ callers_of plan.scenario → IsRaced plan table passes
    → FinishEnds status plan passes out → RaceEnds status plan.scenario out
race_ends plan table passes out Done valid count r f = record { text = f.text; races = races_to plan table passes f.text valid count r f.finishes; written = f.written }
race_ends plan table passes out WriteFault valid count r f = record { text = f.text; races = races_to plan table passes f.text valid count r f.finishes; front = f.front; rose = f.rose }
race_ends plan table passes out NoMemory valid count r f = f
race_ends plan table passes out Refused valid count r f = absurd f
race_ends plan table passes out Usage valid count r f = absurd f
race_ends plan table passes out ReadFault valid count r f = absurd f

-- a plan of a scenario and its callers
pub planned : (sc : Scenario) (callers : ℕ) (plan : Plan) → plan ≡ record { scenario = sc; callers = callers } → callers ≡ callers_of sc → plan.callers ≡ callers_of plan.scenario
planned sc callers plan e count = ap (λ (p : Plan). p.callers) e ∙ (count ∙ ap callers_of (sym (ap (λ (p : Plan). p.scenario) e)))

pub planned_ends : (sc : Scenario) (callers : ℕ) (plan : Plan) (out : Stream) (status : Status) → plan ≡ record { scenario = sc; callers = callers } → RaceEnds status plan.scenario out → RaceEnds status sc out
planned_ends sc callers plan out status e h = subst (λ (of : Scenario). RaceEnds status of out) (ap (λ (p : Plan). p.scenario) e) h

-- the headline
pub races_trusted : (input out : Stream) (sc : Scenario) → IsRaceInput input sc → IsWritten sc out → RacesTrusted input out
races_trusted input out sc read w = record {
  scenario = sc;
  input_is = read;
  book = w.races.book;
  tells = tells_trusted race_told sc w.races.book out w.text w.races.rests w.races.text_is w.written;
  automatic = refl;
  whole = w.races.whole;
}

-- ---- what a race owes

unlisted_both : (bytes : List ℕ) (one other : Scenario) → Reads bytes one → Reads bytes other → one.steps ≢ [] → other.steps ≡ [] → ⊥
unlisted_both bytes one other r s listed none = listed (ap (λ (sc : Scenario). sc.steps) (same_scenario bytes one other r s) ∙ none)

memory_rightly : (told : List ℕ) (notes : Stream) → EndsRightly told NoMemory notes
memory_rightly told notes =
    record {
      too_long = λ _. inr refl;
      refused = λ _ _. inr refl;
      listed = λ _ _ _. inr refl;
      unlisted = λ _ _ _. inr refl;
    }

done_rightly : (told : List ℕ) (notes : Stream) (sc : Scenario) → Reads told sc → sc.steps ≡ [] → EndsRightly told Done notes
done_rightly told notes sc reads none =
    record {
      too_long = λ long. absurd (refused_or_read told error.TooLong sc (long_refused told long) reads);
      refused = λ why s. absurd (refused_or_read told why sc s reads);
      listed = λ other s some. absurd (unlisted_both told other sc s reads some none);
      unlisted = λ _ _ _. inl refl;
    }

refused_rightly : (told : List ℕ) (notes : Stream) (why : ScenarioError) → AreRefused told why → Appends notes.old notes.new (refusal_line why) → EndsRightly told Refused notes
refused_rightly told notes why r written =
    let line : (other : ScenarioError) → AreRefused told other → Appends notes.old notes.new (refusal_line other) =
    λ other s. subst (λ (e : ScenarioError). Appends notes.old notes.new (refusal_line e)) (same_refusal told why other r s) written in
    record {
      too_long = λ long. inl (refl, line error.TooLong (long_refused told long));
      refused = λ other s. inl (refl, line other s);
      listed = λ sc s _. absurd (refused_or_read told why sc r s);
      unlisted = λ sc s _. absurd (refused_or_read told why sc r s);
    }

listed_rightly : (told : List ℕ) (notes : Stream) (sc : Scenario) → Reads told sc → sc.steps ≢ [] → Appends notes.old notes.new steps_line → EndsRightly told Refused notes
listed_rightly told notes sc reads some written =
    record {
      too_long = λ long. absurd (refused_or_read told error.TooLong sc (long_refused told long) reads);
      refused = λ why s. absurd (refused_or_read told why sc s reads);
      listed = λ _ _ _. inl (refl, written);
      unlisted = λ other s none. absurd (unlisted_both told sc other reads s some none);
    }

line_rightly : (input notes : Stream) (told line : List ℕ) → input.old ≡ Some told → RefusesRace input line → Appends notes.old notes.new line → EndsRightly told Refused notes
line_rightly input notes told line e (inl r) written =
    refused_rightly told notes r.why (cause_whole input told r.why e r.cause) (subst (Appends notes.old notes.new) r.line_is written)
line_rightly input notes told line e (inr r) written =
    listed_rightly told notes r.scenario (read_whole input told r.scenario e r.read) r.listed (subst (Appends notes.old notes.new) r.line_is written)

-- what is so of whatever is told is so of an input that may be told
if_told : (P : List ℕ → Type 0) (old : Option (List ℕ)) → ((told : List ℕ) → old ≡ Some told → P told) → IfSome old P
if_told P None h = tt
if_told P (Some told) h = h told refl

pub owes_memory : (call : Call) → OwesRace call NoMemory
owes_memory call = λ _ _. if_told (λ told. EndsRightly told NoMemory call.notes) call.input.old (λ told _. memory_rightly told call.notes)

pub owes_done : (call : Call) (sc : Scenario) → IsRaceInput call.input sc → OwesRace call Done
owes_done call sc i =
    λ _ _. if_told (λ bytes. EndsRightly bytes Done call.notes) call.input.old (λ bytes e. done_rightly bytes call.notes sc (read_whole call.input bytes sc e i.read) i.unlisted)

pub owes_refused : (call : Call) (line : List ℕ) → RefusesRace call.input line → Appends call.notes.old call.notes.new line → OwesRace call Refused
owes_refused call line r written =
    λ _ _. if_told (λ told. EndsRightly told Refused call.notes) call.input.old (λ told e. line_rightly call.input call.notes told line e r written)

-- where a stream failed, and where there are words, it owes nothing
pub owes_nothing : (call : Call) (status : Status) → (NoneFailed call → ⊥) → OwesRace call status
owes_nothing call status some = λ _ none. absurd (some none)

pub owes_words : (call : Call) (status : Status) → call.words ≢ [] → OwesRace call status
owes_words call status some = λ none _. absurd (some none)

-- ---- the call whose input is a race

-- where it is done, it keeps its promise
pub raced_trusted : (input out : Stream) (sc : Scenario) (status : Status) → IsRaceInput input sc → RaceEnds status sc out → status ≡ Done → RacesTrusted input out
raced_trusted input out sc status read ended done = races_trusted input out sc read (subst (λ (s : Status). RaceEnds s sc out) done ended)

-- whichever status it has, it was as that says
pub raced_ended : (call : Call) (sc : Scenario) (status : Status) → call.words ≡ [] → IsRaceInput call.input sc → IsUntouched call.notes → RaceEnds status sc call.out → EndsWith status call
raced_ended call sc Done none read kept h =
    record { no_words = none; text = h.text; has = record { scenario = sc; input_is = read; races = h.races }; written = h.written; notes_kept = kept }
raced_ended call sc WriteFault none read kept h =
    inl (record { no_words = none; text = h.text; has = record { scenario = sc; input_is = read; races = h.races }; front = h.front; rose = h.rose; notes_kept = kept })
raced_ended call sc NoMemory none read kept h = record { no_words = none; out_kept = h; notes_kept = kept }
raced_ended call sc Refused none read kept h = absurd h
raced_ended call sc Usage none read kept h = absurd h
raced_ended call sc ReadFault none read kept h = absurd h

-- and it has done what it owes
pub raced_owes : (call : Call) (sc : Scenario) (status : Status) → IsRaceInput call.input sc → (¬ (HasFailed call.out) → Ends status Done) → OwesRace call status
raced_owes call sc status read ends =
    λ none fine. elim (ends fine.out) [
      | inl done ↦ subst (λ (s : Status). OwesRace call s) (sym done) (owes_done call sc read) none fine
      | inr memory ↦ subst (λ (s : Status). OwesRace call s) (sym memory) (owes_memory call) none fine
    ]
