-- What comes from outside: the facts that the steps say by themselves, after every list of steps.
use Rattle.std.proofs.Common.{◌≡◌, ℕ, ◌+◌, ◌<◌, ◌≤◌, nat_le, List, [], ◌∷◌, ◌++◌, length, filter, Bool, true, false, cond, Option, Some, None, refl, sym, ap, subst, ◌∙◌, arith, drop, flat_map}
use Rattle.std.specs.List.{count_by, list_all}
use Rattle.std.proofs.lemmas.Bool.Decides.{nat_tests}
use Rattle.std.proofs.lemmas.List.{append-nil, append_assoc, length_push}
use Rattle.std.proofs.lemmas.Bool.{and_from, and_parts, le-leb}
use Rattle.std.proofs.lemmas.List.Elements.{filter-append}
use Rattle.tp_model.specs.Words.{AdminId, Fact, Record, Scenario, ServerId, Step, What}
use Rattle.tp_model.specs.Words.log
use Rattle.tp_model.specs.Words.step
use Rattle.tp_model.specs.Words.what
use Rattle.tp_model.specs.Facts.{before, is_earlier}
use Rattle.tp_model.specs.Outside.{IsOutside, is_from_outside, is_from_outside_what, rises_from, said_by, said_from, at_place}
use Rattle.tp_model.specs.Versions.{is_publication, newest, opening_version}
use Rattle.tp_coord.specs.State.{Coordinator}
use Rattle.tp_machine.specs.Parts.{Part}
use Rattle.tp_machine.specs.Machine.{Machine, State, Move, state_after, coordinator_fact, machine_after, idle_move, publishes, facts_of, server_fact, refusal}
use Rattle.tp_actor_log.specs.Records.{log_with}
use Rattle.tp_coord.specs.Row.{coordinator_row, submit_row}
use Rattle.tp_server.specs.Row.{server_row}
use Rattle.tp_runs.proofs.agreement.CoordinatorActs.{coordinator_facts}
use Rattle.tp_runs.proofs.agreement.ServerActs.{server_facts}
use Rattle.tp_runs.proofs.basics.Facts.{ArePast, Grows, all_from_each, earlier_passes, facts_after, grows_with_facts, new_facts_past, past_as}
use Rattle.tp_runs.proofs.basics.Logs.{gained}
use Rattle.tp_types.proofs.EachLemmas.{each_append}
use Rattle.tp_runs.proofs.walks.Steps.{Cases, KeepsUp, SaysIdle, machine_after_by}
use Rattle.tp_types.specs.Effect.{Effect}
use Rattle.tp_machine.specs.Named.{IsAdmin, IsStepOf}
use Rattle.tp_runs.proofs.trust.World.{MasterFits}
use Rattle.tp_offices.specs.Master as master

-- ---- what a move says by itself

-- of what happened, what the step says
abbrev pub own_of : List What → List What
own_of happened = filter is_from_outside_what happened

pub own_server_facts : (at : ServerId) (append : Option Record) → own_of (server_facts at append) ≡ []
own_server_facts at None = refl
own_server_facts at (Some (log.Settled s)) = refl
own_server_facts at (Some _) = refl

pub own_coordinator_facts : (append : Option Record) → own_of (coordinator_facts append) ≡ []
own_coordinator_facts None = refl
own_coordinator_facts (Some (log.Decided d)) = refl
own_coordinator_facts (Some _) = refl

-- ---- growth

said_grows : (sc : Scenario) (old new : List Fact) (place : ℕ) (taken : Step) → before place new ≡ before place old → said_by sc new place taken ≡ said_by sc old place taken
said_grows sc old new place (step.Publish admin) e =
    ap (λ (earlier : List Fact). what.Published admin (record { 0 = (opening_version sc admin).0 + count_by (is_publication admin) earlier + 1 }) ∷ []) e
said_grows sc old new place _ e = refl

said_from_grows : (sc : Scenario) (old new : List Fact) (last first : ℕ) (steps : List Step) → Grows old new last → first + length steps ≤ last → said_from sc new first steps ≡ said_from sc old first steps
said_from_grows sc old new last first [] g le = refl
said_from_grows sc old new last first (taken ∷ steps) g le =
    let here : said_by sc new first taken ≡ said_by sc old first taken = said_grows sc old new first taken (g.same first (omega (arith, le))) in
    let later : said_from sc new (first + 1) steps ≡ said_from sc old (first + 1) steps = said_from_grows sc old new last (first + 1) steps g (omega (arith, le)) in
    ap (λ (whats : List What). at_place first whats ++ said_from sc new (first + 1) steps) here ∙ ap (λ (rest : List Fact). at_place first (said_by sc old first taken) ++ rest) later

said_from_more : (sc : Scenario) (facts : List Fact) (first : ℕ) (steps : List Step) (taken : Step)
    → said_from sc facts first (steps ++ taken ∷ []) ≡ said_from sc facts first steps ++ at_place (first + length steps) (said_by sc facts (first + length steps) taken)
said_from_more sc facts first [] taken =
    let same : first ≡ first + 0 = omega arith in
    append-nil (at_place first (said_by sc facts first taken)) ∙ ap (λ (p : ℕ). at_place p (said_by sc facts p taken)) same
said_from_more sc facts first (one ∷ steps) taken =
    let same : (first + 1) + length steps ≡ first + length (one ∷ steps) = omega arith in
    ap (λ (rest : List Fact). at_place first (said_by sc facts first one) ++ rest)
    (said_from_more sc facts (first + 1) steps taken ∙ ap (λ (p : ℕ). said_from sc facts (first + 1) steps ++ at_place p (said_by sc facts p taken)) same)
    ∙ sym (append_assoc (at_place first (said_by sc facts first one)) (said_from sc facts (first + 1) steps) (at_place (first + length (one ∷ steps)) (said_by sc facts (first + length (one ∷ steps)) taken)))

abbrev fact_at : ℕ → What → Fact
fact_at place w = record { place = place; what = w }

new_facts_one : (b : Bool) (place : ℕ) (w : What) (rest : List Fact) (whats : List What) → rest ≡ at_place place whats
    → cond b (fact_at place w ∷ rest) rest ≡ at_place place (cond b (w ∷ whats) whats)
new_facts_one true place w rest whats e = ap (λ (fs : List Fact). fact_at place w ∷ fs) e
new_facts_one false place w rest whats e = e

new_facts_own : (place : ℕ) (happened : List What) → filter is_from_outside (facts_of place happened) ≡ at_place place (own_of happened)
new_facts_own place [] = refl
new_facts_own place (w ∷ happened) = new_facts_one (is_from_outside_what w) place w (filter is_from_outside (facts_of place happened)) (own_of happened) (new_facts_own place happened)

new_facts_rise : (low place : ℕ) (happened : List What) → low ≤ place → rises_from low (facts_of place happened) ≡ true
new_facts_rise low place [] le = refl
new_facts_rise low place (w ∷ happened) le = and_from (nat_le low place) (rises_from place (facts_of place happened)) (le-leb low place le) (new_facts_rise place place happened (omega arith))

rises_more : (low place : ℕ) (facts : List Fact) (happened : List What) → low ≤ place → ArePast place facts → rises_from low facts ≡ true → rises_from low (facts ++ facts_of place happened) ≡ true
rises_more low place [] happened le past e = new_facts_rise low place happened le
rises_more low place (fact ∷ facts) happened le past e =
    let parts = and_parts (nat_le low fact.place) (rises_from fact.place facts) e in
    and_from (nat_le low fact.place) (rises_from fact.place (facts ++ facts_of place happened)) parts.0 (rises_more fact.place place facts happened (omega (arith, past.0)) past.1 parts.1)

past_from : (place : ℕ) (fact : Fact) → is_earlier place fact ≡ true → fact.place < place
past_from place fact e = grind (arith, nat_tests)

-- ---- a step

-- a step that says just what it is to say
pub state_after_outside : (sc : Scenario) (w : State) (taken : Step) (move : Move) → ArePast (length w.steps) w.facts → IsOutside sc w.steps w.facts
    → own_of move.happened ≡ said_by sc (w.facts ++ facts_of (length w.steps) move.happened) (length w.steps) taken
    → IsOutside sc (state_after w taken move).steps (state_after w taken move).facts
state_after_outside sc w taken move past h e =
    let place = length w.steps in
    let now = w.facts ++ facts_of place move.happened in
    let zero_place : 0 + place ≡ place = omega arith in
    let same : said_from sc now 0 w.steps ≡ said_from sc w.facts 0 w.steps = said_from_grows sc w.facts now place 0 w.steps (grows_with_facts w.facts place move.happened) (omega arith) in
    record {
      said = filter-append is_from_outside w.facts (facts_of place move.happened)
          ∙ (ap (λ (fs : List Fact). fs ++ filter is_from_outside (facts_of place move.happened)) (h.said ∙ sym same)
          ∙ (ap (λ (fs : List Fact). said_from sc now 0 w.steps ++ fs) (new_facts_own place move.happened ∙ ap (at_place place) e)
          ∙ (ap (λ (p : ℕ). said_from sc now 0 w.steps ++ at_place p (said_by sc now p taken)) (sym zero_place)
          ∙ sym (said_from_more sc now 0 w.steps taken))));
      rising = rises_more 0 place w.facts move.happened (omega arith) past h.rising;
      within = subst (λ (p : ℕ). list_all (is_earlier p) now ≡ true) (sym (length_push w.steps taken))
          (all_from_each (λ (fact : Fact). fact.place < place + 1) (is_earlier (place + 1)) (earlier_passes (place + 1)) now
          (each_append (λ (fact : Fact). fact.place < place + 1) w.facts (facts_of place move.happened) (past_as place (place + 1) (omega arith) w.facts past) (new_facts_past place move.happened)));
    }

coordinator_says : (part : Part Coordinator) (effect : Effect Coordinator) → own_of (flat_map coordinator_fact (drop (length part.log) (log_with part.log effect.reaction.append))) ≡ []
coordinator_says part effect = ap own_of (gained coordinator_fact part.log effect.reaction.append) ∙ own_coordinator_facts effect.reaction.append

-- a move says by itself what its step is to say
abbrev pub Says : Scenario → State → Step → Move → Type 0
Says sc w taken move = own_of move.happened ≡ said_by sc (w.facts ++ facts_of (length w.steps) move.happened) (length w.steps) taken

idle_says : (sc : Scenario) (w : State) (taken : Step) (happened : List What) → SaysIdle taken happened → Says sc w taken (idle_move w.actors happened)
idle_says sc w (step.Deliver mail) happened e = subst (λ (hs : List What). Says sc w (step.Deliver mail) (idle_move w.actors hs)) (sym e) refl
idle_says sc w (step.Lose mail) happened e = subst (λ (hs : List What). Says sc w (step.Lose mail) (idle_move w.actors hs)) (sym e) refl
idle_says sc w _ happened e = absurd e

-- the version that is published comes after the newest
published_says_in_outside : (sc : Scenario) (w : State) (admin : AdminId) → IsAdmin sc admin → MasterFits sc w.facts (length w.steps) w.actors.master → Says sc w (step.Publish admin) (publishes w.actors admin)
published_says_in_outside sc w admin exists fits =
    let place = length w.steps in
    let happened = what.Published admin (master.next_of w.actors.master admin) ∷ [] in
    let same : newest sc admin place (facts_after w happened) ≡ newest sc admin place w.facts =
    ap (λ (earlier : List Fact). (opening_version sc admin).0 + count_by (is_publication admin) earlier) ((grows_with_facts w.facts place happened).same place (omega arith)) in
    ap (λ (version : ℕ). what.Published admin (record { 0 = version + 1 }) ∷ []) (fits.newest_is admin exists ∙ sym same)

outside_cases : (sc : Scenario) (w : State) → MasterFits sc w.facts (length w.steps) w.actors.master → Cases sc w (Says sc w)
outside_cases sc w fits =
    record {
      idle = idle_says sc w;
      server_received = λ n mail at part s sent up.
          let append = (server_row sc s mail).reaction.append in
          ap own_of (gained (server_fact at) part.log append) ∙ own_server_facts at append;
      coordinator_received = λ n mail txn part c sent up. coordinator_says part (coordinator_row sc c mail);
      authority_told = λ n mail sent. refl;
      master_told = λ n mail sent. refl;
      published = λ admin exists more. published_says_in_outside sc w admin exists fits;
      pushed = λ admin server exists there. refl;
      ticked = λ by. refl;
      revoked = λ cred exists. refl;
      begun = λ txn part c exists up new. ap (λ (told : List What). what.Submitted txn ∷ told) (coordinator_says part (submit_row sc c));
      timed = λ txn part c exists up begun. refl;
    }

-- a step keeps that the facts from outside are what the steps say
pub outside_next : (sc : Scenario) (m : Machine) (taken : Step) → IsStepOf sc taken → KeepsUp taken → refusal m.state taken ≡ None → length m.state.actors.coordinators ≡ length sc.txns
    → ArePast (length m.state.steps) m.state.facts → MasterFits sc m.state.facts (length m.state.steps) m.state.actors.master → IsOutside sc m.state.steps m.state.facts → IsOutside sc (machine_after sc m taken).state.steps (machine_after sc m taken).state.facts
outside_next sc m taken exists stays allowed count past fits h =
    machine_after_by sc m (Says sc m.state) (λ w. IsOutside sc w.steps w.facts) (outside_cases sc m.state fits) count
    (λ taken move says. state_after_outside sc m.state taken move past h says) taken exists stays allowed

-- before the first step nothing was said
pub outside_opening : (sc : Scenario) → IsOutside sc [] []
outside_opening sc = record { said = refl; rising = refl; within = refl }
