-- Every commit is the only one of its place: a step makes at most one.
use Rattle.std.proofs.lemmas.Bool.{and_from, eqb-true}
use Rattle.std.proofs.Common.{◌≡◌, ℕ, ◌+◌, ◌≤◌, ◌<◌, ◌==◌, ◌&&◌, List, [], ◌∷◌, length, slice_get, Bool, true, false, cond, Option, Some, None, is_some, refl, sym, ap, subst, ◌∙◌, arith, drop, flat_map}
use Rattle.std.specs.List.{count_by}
use Rattle.std.proofs.lemmas.Bool.Decides.{nat_tests}
use Rattle.std.proofs.lemmas.List.Sums.{sum_by-cons}
use Rattle.tp_model.specs.Words.{Fact, Record, Scenario, ServerId, Step, What}
use Rattle.tp_model.specs.Words.actor
use Rattle.tp_model.specs.Words.decision
use Rattle.tp_model.specs.Words.log
use Rattle.tp_model.specs.Words.step
use Rattle.tp_model.specs.Words.what
use Rattle.tp_model.specs.Facts.{record_of}
use Rattle.tp_model.specs.Commits.{are_lone, is_commit_at, is_commit_what, is_lone, is_lone_what}
use Rattle.tp_coord.specs.Booted as coord_boot
use Rattle.tp_coord.specs.State.{Coordinator}
use Rattle.tp_machine.specs.Parts.{Part}
use Rattle.tp_machine.specs.Machine.{Machine, State, Move, state_after, coordinator_fact, machine_after, facts_of, server_fact, refusal}
use Rattle.tp_actor_log.specs.Records.{log_with}
use Rattle.tp_coord.specs.Row.{coordinator_row, submit_row}
use Rattle.tp_server.specs.Row.{server_row}
use Rattle.tp_server.specs.State.{Server}
use Rattle.tp_runs.proofs.agreement.ServerActs.{server_facts}
use Rattle.tp_runs.proofs.agreement.CoordinatorActs.{coordinator_facts}
use Rattle.tp_runs.proofs.agreement.End.{member_counted}
use Rattle.tp_runs.proofs.basics.Facts.{ArePast, all_from_each, count_append}
use Rattle.tp_types.proofs.EachLemmas.{each_placed}
use Rattle.tp_runs.proofs.basics.Logs.{gained}
use Rattle.tp_runs.proofs.walks.Crashes.{CrashCases, crash_cases_as}
use Rattle.tp_runs.proofs.walks.Steps.{Cases, KeepsUp, SaysIdle, machine_after_by}
use Rattle.tp_machine.specs.Named.{IsStepOf}

-- no place has two commits
abbrev pub AreLone : List Fact → Type 0
AreLone facts = (place : ℕ) → count_by (is_commit_at place) facts ≤ 1

abbrev commits : List What → ℕ
commits happened = count_by is_commit_what happened

-- ---- counts

-- a commit among all facts is one at its place
pub lone_fact : (facts : List Fact) (n place : ℕ) (w : What) → AreLone facts → slice_get facts n ≡ Some (record { place = place; what = w }) → is_lone_what facts place w ≡ true
lone_fact facts n place (what.Decided txn (decision.Commit committed)) h e =
    let here : (place == place) ≡ true = grind (arith, nat_tests) in
    let least : 1 ≤ count_by (is_commit_at place) facts =
    member_counted (is_commit_at place) facts n (record { place = place; what = what.Decided txn (decision.Commit committed) }) e (and_from (place == place) true here refl) in
    let most = h place in
    let exact : count_by (is_commit_at place) facts ≡ 1 = omega (arith, least, most) in
    ap (λ (k : ℕ). k == 1) exact
lone_fact facts n place (what.Decided txn (decision.Abort why)) h e = refl
lone_fact facts n place _ h e = refl

-- so all commits stand apart
pub facts_lone : (facts : List Fact) → AreLone facts → are_lone facts ≡ true
facts_lone facts h =
    all_from_each (λ (fact : Fact). is_lone facts fact ≡ true) (is_lone facts) (λ fact e. e) facts
    (each_placed (λ (fact : Fact). is_lone facts fact ≡ true) facts (λ n fact e. lone_fact facts n fact.place fact.what h e))

fewer : (a b : Bool) (us vs : ℕ) → us ≤ vs → cond (a && b) 1 0 + us ≤ cond b 1 0 + vs
fewer true true us vs le = omega (arith, le)
fewer true false us vs le = omega (arith, le)
fewer false true us vs le = omega (arith, le)
fewer false false us vs le = omega (arith, le)

-- the facts of a step have no more commits of a place than happened
new_facts_most : (k place : ℕ) (happened : List What) → count_by (is_commit_at k) (facts_of place happened) ≤ commits happened
new_facts_most k place [] = omega arith
new_facts_most k place (w ∷ happened) =
    let later = new_facts_most k place happened in
    let whole : count_by (is_commit_at k) (facts_of place (w ∷ happened)) ≡ cond ((place == k) && is_commit_what w) 1 0 + count_by (is_commit_at k) (facts_of place happened) =
    sum_by-cons (λ z. cond (is_commit_at k z) 1 0) (record { place = place; what = w }) (facts_of place happened) in
    let told : commits (w ∷ happened) ≡ cond (is_commit_what w) 1 0 + commits happened = sum_by-cons (λ z. cond (is_commit_what z) 1 0) w happened in
    let here : cond ((place == k) && is_commit_what w) 1 0 + count_by (is_commit_at k) (facts_of place happened) ≤ cond (is_commit_what w) 1 0 + commits happened = fewer (place == k) (is_commit_what w) _ _ later in
    omega (arith, whole, told, here)

none_of_in_serial_data : (a b : Bool) (rest : ℕ) → a ≡ false → rest ≡ 0 → cond (a && b) 1 0 + rest ≡ 0
none_of_in_serial_data true b rest e f = absurd (cc)
none_of_in_serial_data false b rest e f = omega (arith, f)

-- at another place than the step's there are none
new_facts_none : (k place : ℕ) (happened : List What) → (place == k) ≡ false → count_by (is_commit_at k) (facts_of place happened) ≡ 0
new_facts_none k place [] e = refl
new_facts_none k place (w ∷ happened) e =
    sum_by-cons (λ z. cond (is_commit_at k z) 1 0) (record { place = place; what = w }) (facts_of place happened)
    ∙ none_of_in_serial_data (place == k) (is_commit_what w) _ e (new_facts_none k place happened e)

apart : (one other : ℕ) → one < other → (one == other) ≡ false
apart one other e = grind (arith, nat_tests)

-- the facts of before have none at the step's place
past_none : (place : ℕ) (facts : List Fact) → ArePast place facts → count_by (is_commit_at place) facts ≡ 0
past_none place [] h = refl
past_none place (fact ∷ facts) h =
    sum_by-cons (λ z. cond (is_commit_at place z) 1 0) fact facts ∙ none_of_in_serial_data (fact.place == place) (is_commit_what fact.what) _ (apart fact.place place h.0) (past_none place facts h.1)

new_facts_lone : (place : ℕ) (facts : List Fact) (happened : List What) (k : ℕ) (b : Bool) → (place == k) ≡ b → ArePast place facts → AreLone facts → commits happened ≤ 1
    → count_by (is_commit_at k) facts + count_by (is_commit_at k) (facts_of place happened) ≤ 1
new_facts_lone place facts happened k true e past h one =
    let none : count_by (is_commit_at k) facts ≡ 0 = subst (λ (p : ℕ). count_by (is_commit_at p) facts ≡ 0) (eqb-true place k e) (past_none place facts past) in
    let most = new_facts_most k place happened in
    omega (arith, none, most, one)
new_facts_lone place facts happened k false e past h one =
    let none = new_facts_none k place happened e in
    let most = h k in
    omega (arith, none, most)

state_after_lone : (w : State) (taken : Step) (move : Move) → ArePast (length w.steps) w.facts → AreLone w.facts → commits move.happened ≤ 1 → AreLone (state_after w taken move).facts
state_after_lone w taken move past h one k =
    let sum = count_append (is_commit_at k) w.facts (facts_of (length w.steps) move.happened) in
    let most = new_facts_lone (length w.steps) w.facts move.happened k (length w.steps == k) refl past h one in
    omega (arith, sum, most)

-- ---- what a move has of commits

by_none : (at : ServerId) (append : Option Record) → commits (server_facts at append) ≤ 1
by_none at None = omega arith
by_none at (Some (log.Settled s)) = omega arith
by_none at (Some _) = omega arith

at_most : (b : Bool) → 0 + cond b 1 0 ≤ 1
at_most true = omega arith
at_most false = omega arith

of_one : (append : Option Record) → commits (coordinator_facts append) ≤ 1
of_one None = omega arith
of_one (Some (log.Decided d)) = at_most (is_some (record_of d.decision))
of_one (Some _) = omega arith

server_one : (at : ServerId) (part : Part Server) (append : Option Record) → commits (flat_map (server_fact at) (drop (length part.log) (log_with part.log append))) ≤ 1
server_one at part append = subst (λ (told : List What). commits told ≤ 1) (sym (gained (server_fact at) part.log append)) (by_none at append)

coordinator_one : (part : Part Coordinator) (append : Option Record) → commits (flat_map coordinator_fact (drop (length part.log) (log_with part.log append))) ≤ 1
coordinator_one part append = subst (λ (told : List What). commits told ≤ 1) (sym (gained coordinator_fact part.log append)) (of_one append)

-- what is no commit leaves as many
after_other : (w : What) (rest : List What) → is_commit_what w ≡ false → commits rest ≤ 1 → commits (w ∷ rest) ≤ 1
after_other w rest other h =
    let whole : commits (w ∷ rest) ≡ 0 + commits rest = sum_by-cons (λ z. cond (is_commit_what z) 1 0) w rest ∙ ap (λ (b : Bool). cond b 1 0 + commits rest) other in
    omega (arith, whole, h)

idle_one : (taken : Step) (happened : List What) → SaysIdle taken happened → commits happened ≤ 1
idle_one (step.Deliver mail) happened e = subst (λ (hs : List What). commits hs ≤ 1) (sym e) (omega arith)
idle_one (step.Lose mail) happened e = subst (λ (hs : List What). commits hs ≤ 1) (sym e) (omega arith)
idle_one _ happened e = absurd e

lone_cases : (sc : Scenario) (w : State) → Cases sc w (λ taken move. commits move.happened ≤ 1)
lone_cases sc w =
    record {
      idle = idle_one;
      server_received = λ n mail at part s sent up. server_one at part (server_row sc s mail).reaction.append;
      coordinator_received = λ n mail txn part c sent up. coordinator_one part (coordinator_row sc c mail).reaction.append;
      authority_told = λ n mail sent. omega arith;
      master_told = λ n mail sent. omega arith;
      published = λ admin exists more. omega arith;
      pushed = λ admin server exists there. omega arith;
      ticked = λ by. omega arith;
      revoked = λ cred exists. omega arith;
      begun = λ txn part c exists up new. after_other (what.Submitted txn) (flat_map coordinator_fact (drop (length part.log) (log_with part.log (submit_row sc c).reaction.append))) refl (coordinator_one part (submit_row sc c).reaction.append);
      timed = λ txn part c exists up begun. omega arith;
    }

-- a step keeps that no place has two commits
pub lone_next : (sc : Scenario) (m : Machine) (taken : Step) → IsStepOf sc taken → KeepsUp taken → refusal m.state taken ≡ None → length m.state.actors.coordinators ≡ length sc.txns
    → ArePast (length m.state.steps) m.state.facts → AreLone m.state.facts → AreLone (machine_after sc m taken).state.facts
lone_next sc m taken exists stays allowed count past h =
    machine_after_by sc m (λ taken move. commits move.happened ≤ 1) (λ w. AreLone w.facts) (lone_cases sc m.state) count
    (λ taken move one. state_after_lone m.state taken move past h one) taken exists stays allowed

pub lone_opening : AreLone []
lone_opening place = omega arith

-- ---- crashes and boots

lone_crash_cases : (sc : Scenario) (w : State) → CrashCases sc w (λ taken move. commits move.happened ≤ 1)
lone_crash_cases sc w =
    record {
      server_crashed = λ at part s cut append up left. after_other (what.Crashed (actor.Server at)) (flat_map (server_fact at) (drop (length part.log) (log_with part.log append))) refl (server_one at part append);
      server_booted = λ at part exists found down. server_one at part (Some log.Boot);
      coordinator_crashed = λ txn part c cut append exists up begun left.
          after_other (what.Crashed (actor.Coordinator txn)) (flat_map coordinator_fact (drop (length part.log) (log_with part.log append))) refl (coordinator_one part append);
      coordinator_booted = λ txn part exists found down. coordinator_one part (coord_boot.boot_row sc txn part.log).reaction.append;
    }

-- they keep it too
pub lone_crashed : (sc : Scenario) (w : State) → ArePast (length w.steps) w.facts → AreLone w.facts → CrashCases sc w (λ taken move. AreLone (state_after w taken move).facts)
lone_crashed sc w past h =
    crash_cases_as sc w (λ taken move. commits move.happened ≤ 1) (λ taken move. AreLone (state_after w taken move).facts) (λ taken move one. state_after_lone w taken move past h one) (lone_crash_cases sc w)
