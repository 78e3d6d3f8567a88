-- Restarts, crashes and boots: a crash is counted, who comes up is in the next epoch, and a halt has its crash.
use Rattle.std.proofs.Common.{Bool, List, None, Option, Some, [], ap, arith, cond, drop, false, flat_map, is_none, length, nat_le, refl, slice_get, subst, true, ℕ, ◌+◌, ◌==◌, ◌∙◌, ◌∷◌, ◌≡◌}
use Rattle.std.proofs.lemmas.Bool.{and_from, le-leb, or_left, or_right}
use Rattle.std.proofs.lemmas.List.Folds.{list_any-append}
use Rattle.std.specs.List.{list_any}
use Rattle.tp_types.proofs.EachLemmas.{placed_none}
use Rattle.tp_types.proofs.ListLemmas.{number_itself}
use Rattle.tp_model.specs.Causes.{is_coordinator_actor, is_server_actor}
use Rattle.tp_model.specs.Facts.{before, is_submission, outcome_of}
use Rattle.tp_model.specs.Words.{Decision, Fact, Mail, Record, Scenario, ServerId, TxnId, What}
use Rattle.tp_model.specs.Words.actor
use Rattle.tp_model.specs.Words.log
use Rattle.tp_model.specs.Words.outcome
use Rattle.tp_model.specs.Words.what
use Rattle.tp_coord.specs.Booted as coord_boot
use Rattle.tp_coord.specs.Opened.{idle}
use Rattle.tp_coord.specs.Row.{coordinator_row, is_begun}
use Rattle.tp_coord.specs.State.{Coordinator}
use Rattle.tp_machine.specs.Machine.{State, acts_by, coordinator_fact, coordinator_move, facts_of, goes_down, server_boots, server_fact, server_move, state_after}
use Rattle.tp_actor_log.specs.Records.{log_with}
use Rattle.tp_machine.specs.Parts.{Part}
use Rattle.tp_model.specs.ByAge.{by_txn}
use Rattle.tp_recover.specs.Kept.{kept}
use Rattle.tp_recover.specs.Log.{decided_in}
use Rattle.tp_server.specs.Booted.{boot_row, booted}
use Rattle.tp_server.specs.Row.{server_row}
use Rattle.tp_server.specs.State.{Server}
use Rattle.tp_runs.proofs.ages.World.{Ages}
use Rattle.tp_runs.proofs.agreement.Logs.{once, submitted_count, submitted_up}
use Rattle.tp_runs.proofs.agreement.ServerActs.{begun_count, submitted_told}
use Rattle.tp_runs.proofs.agreement.World.{Agrees}
use Rattle.tp_runs.proofs.basics.Booted.{booted_entries, inquiries_are, records_of_scenario}
use Rattle.tp_runs.proofs.basics.Crashes.{crash_shown, first_noted, is_crash_from, noted}
use Rattle.tp_runs.proofs.basics.Facts.{before_past, facts_after, grows_with_facts, past_after}
use Rattle.tp_runs.proofs.basics.Homes.{HaveHomes}
use Rattle.tp_runs.proofs.basics.Ids.{server_number}
use Rattle.tp_runs.proofs.deaths.World.{Deaths}
use Rattle.tp_runs.proofs.epochs.World.{Epochs}
use Rattle.tp_runs.proofs.known.World.{Pairs}
use Rattle.tp_runs.proofs.restarts.Coordinators.{orders_since}
use Rattle.tp_runs.proofs.restarts.Counted.{boots_by, is_up}
use Rattle.tp_runs.proofs.restarts.Since.{DecidesSince, EntriesSince, EntrySince, LetterSince, RecordSince}
use Rattle.tp_runs.proofs.restarts.Steps.{coordinator_sends_since, server_sends_since}
use Rattle.tp_runs.proofs.restarts.World.{CoordinatorActsSince, IsHalted, MoveSince, Restarts, ShownIn, SinceIn, WasLostAt, coordinator_acts_since, server_acts_since, state_after_since}
use Rattle.tp_runs.proofs.walks.Crashes.{CrashCases, Left, LeftOfCoordinator, LeftOfServer, Nothing, crash_cases_as, left_shown}
use Rattle.tp_runs.proofs.walks.Steps.{IsCoordinatorUp, IsServerUp, WaitRightly}
use Rattle.tp_runs.specs.Sound.{IsSound}

-- ---- servers

-- one crash of the server is noted
noted_itself : (at : ServerId) → noted (is_server_actor at) (what.Crashed (actor.Server at) ∷ []) ≡ 1
noted_itself at = first_noted (is_server_actor at) (what.Crashed (actor.Server at)) [] ∙ ap (λ (b : Bool). cond b 1 0 + 0) (number_itself at.0)

-- and none of another
noted_apart : (at : ServerId) (n : ℕ) → (at.0 == n) ≡ false → noted (is_server_actor (server_number n)) (what.Crashed (actor.Server at) ∷ []) ≡ 0
noted_apart at n apart = first_noted (is_server_actor (server_number n)) (what.Crashed (actor.Server at)) [] ∙ ap (λ (b : Bool). cond b 1 0 + 0) apart

-- what is left of a record is no boot
left_no_boot : (sc : Scenario) (w : State) (at : ServerId) (part : Part Server) (s : Server) (append : Option Record) → WaitRightly sc w → IsSound sc w → Agrees sc w → Epochs sc w → Ages w → Pairs sc w → Deaths sc w → Restarts sc w
    → IsServerUp w at part s → LeftOfServer sc w at s append → boots_by append ≡ 0
left_no_boot sc w at part s _ rightly sound a epochs ages pairs deaths h up Nothing = refl
left_no_boot sc w at part s _ rightly sound a epochs ages pairs deaths h up (Left n mail sent) = (server_sends_since sc w rightly sound a epochs ages pairs deaths.told h n mail at part s sent up).no_boot

crashed_by_server : (sc : Scenario) (w : State) (at : ServerId) (part : Part Server) (s : Server) (append : Option Record) → WaitRightly sc w → IsSound sc w → Agrees sc w → Epochs sc w → Ages w → Pairs sc w → Deaths sc w → Restarts sc w
    → IsServerUp w at part s → LeftOfServer sc w at s append → MoveSince sc w (server_move w.actors at (goes_down (server_fact at) (what.Crashed (actor.Server at) ∷ []) part append))
crashed_by_server sc w at part s append rightly sound a epochs ages pairs deaths h up left =
    let own = what.Crashed (actor.Server at) ∷ [] in
    let even : noted (is_server_actor at) own + once (is_none part.up) ≡ boots_by append + 1 =
    omega (arith, noted_itself at, is_up part.up s up.up, left_no_boot sc w at part s append rightly sound a epochs ages pairs deaths h up left) in
    server_acts_since sc w at part None own append [] h up.found
    (record {
      state = tt;
      forces = left_shown w (actor.Server at) (λ (mail : Mail). (server_row sc s mail).reaction.append) append (RecordSince (SinceIn w.steps w.facts) (ShownIn w.facts (length w.steps)) at)
          (λ n mail sent. (server_sends_since sc w rightly sound a epochs ages pairs deaths.told h n mail at part s sent up).forces) left;
      letters_are = tt;
      even = even;
      others = λ n apart. noted_apart at n apart;
      own_says = λ facts. (tt, tt);
    })

booted_by_server : (sc : Scenario) (w : State) (at : ServerId) (part : Part Server) → IsSound sc w → Restarts sc w → slice_get w.actors.servers at.0 ≡ Some part → part.up ≡ None → MoveSince sc w (server_move w.actors at (server_boots sc at part))
booted_by_server sc w at part sound h found down =
    let S = SinceIn w.steps w.facts in
    let R = ShownIn w.facts (length w.steps) in
    let k = kept sc at part.log in
    let each = records_of_scenario sc at part.log (sound.actors_are.servers at.0 part found).records in
    let state : EntriesSince S R at (booted sc at k) = λ n entry e.
    let own = booted_entries sc at part.log each n entry e in
    subst (EntrySince S R at n) own.entry_is (record { epoch = subst (λ (txn : TxnId). S txn at own.p.epoch) own.own ((h.servers at.0 part found).prepared own.p.txn own.p own.prepared_is); answers = tt }) in
    server_acts_since sc w at part (Some (booted sc at k)) [] (Some log.Boot) (boot_row sc at k).reaction.letters h found
    (record {
      state = state;
      forces = tt;
      letters_are = inquiries_are (LetterSince S R) (booted sc at k) (λ p. tt) (by_txn k.prepared);
      even = ap (λ (up : Option Server). 0 + once (is_none up)) down;
      others = λ n apart. refl;
      own_says = λ facts. tt;
    })

-- ---- coordinators

-- a coordinator that crashes has halted since its transaction's submission
halted_now : (sc : Scenario) (w : State) (txn : TxnId) (part : Part Coordinator) (c : Coordinator) (more : List What) → Agrees sc w → IsCoordinatorUp w txn part c → is_begun c.phase ≡ true
    → IsHalted (facts_after w (what.Crashed (actor.Coordinator txn) ∷ more)) (length w.steps + 1) txn
halted_now sc w txn part c more a up begun =
    let place = length w.steps in
    let who = is_coordinator_actor txn in
    let happened = what.Crashed (actor.Coordinator txn) ∷ more in
    let crash : Fact = record { place = place; what = what.Crashed (actor.Coordinator txn) } in
    let submitted : list_any (is_submission txn) w.facts ≡ true = submitted_told txn w.facts (a.submitted txn ∙ (ap submitted_count up.found ∙ (ap submitted_up up.up ∙ begun_count (is_begun c.phase) begun))) in
    let all : before place (facts_after w happened) ≡ w.facts = (grows_with_facts w.facts place happened).same place (omega arith) ∙ before_past place w.facts a.past in
    let here : is_crash_from who place crash ≡ true = and_from (txn.0 == txn.0) (nat_le place place) (number_itself txn.0) (le-leb place place (omega arith)) in
    crash_shown who txn place (place + 1) (facts_after w happened) (past_after w happened a.past) (ap (list_any (is_submission txn)) all ∙ submitted)
    (list_any-append (is_crash_from who place) w.facts (facts_of place happened) ∙ or_right _ _ (or_left (is_crash_from who place crash) _ here))

crashed_by_coordinator : (sc : Scenario) (w : State) (txn : TxnId) (part : Part Coordinator) (c : Coordinator) (append : Option Record) → HaveHomes sc → IsSound sc w → Agrees sc w → Epochs sc w → Deaths sc w → Restarts sc w → IsCoordinatorUp w txn part c
    → is_begun c.phase ≡ true → LeftOfCoordinator sc w txn c append → MoveSince sc w (coordinator_move w.actors txn (goes_down coordinator_fact (what.Crashed (actor.Coordinator txn) ∷ []) part append))
crashed_by_coordinator sc w txn part c append homes sound a epochs deaths h up begun left =
    coordinator_acts_since sc w txn part.log None (what.Crashed (actor.Coordinator txn) ∷ []) append [] h
    (record {
      state = tt;
      letters_are = tt;
      servers = λ n. refl;
      down = λ down. halted_now sc w txn part c (flat_map coordinator_fact (drop (length part.log) (log_with part.log append))) a up begun;
      own_says = λ facts. (tt, tt);
      forces = left_shown w (actor.Coordinator txn) (λ (mail : Mail). (coordinator_row sc c mail).reaction.append) append (DecidesSince (WasLostAt sc w.facts (length w.steps)) (IsHalted w.facts (length w.steps)))
          (λ n mail sent. (coordinator_sends_since sc w homes sound a epochs deaths h n mail txn part c sent up).forces) left;
    })

-- one that boots keeps no epoch, and where it aborts, for its halt, it was down until now
boot_acts : (sc : Scenario) (w : State) (txn : TxnId) (part : Part Coordinator) (decided : Option Decision) → IsHalted w.facts (length w.steps) txn
    → CoordinatorActsSince sc w txn part.log (Some (coord_boot.boot_by sc txn decided).state) [] (coord_boot.boot_by sc txn decided).reaction.append (coord_boot.boot_by sc txn decided).reaction.letters
boot_acts sc w txn part None halted =
    record {
      state = placed_none (λ (m : ℕ) (epoch : ℕ). SinceIn w.steps w.facts txn (server_number m) epoch) (length sc.servers);
      letters_are = orders_since (SinceIn w.steps w.facts) (ShownIn w.facts (length w.steps)) (idle sc txn) outcome.Abort (idle sc txn).servers;
      servers = λ n. refl;
      down = λ down. absurd (cc);
      own_says = λ facts. tt;
      forces = halted;
    }
boot_acts sc w txn part (Some decision_is) halted =
    record {
      state = placed_none (λ (m : ℕ) (epoch : ℕ). SinceIn w.steps w.facts txn (server_number m) epoch) (length sc.servers);
      letters_are = orders_since (SinceIn w.steps w.facts) (ShownIn w.facts (length w.steps)) (idle sc txn) (outcome_of decision_is) (idle sc txn).servers;
      servers = λ n. refl;
      down = λ down. absurd (cc);
      own_says = λ facts. tt;
      forces = tt;
    }

booted_by_coordinator : (sc : Scenario) (w : State) (txn : TxnId) (part : Part Coordinator) → Restarts sc w → slice_get w.actors.coordinators txn.0 ≡ Some part → part.up ≡ None
    → MoveSince sc w (coordinator_move w.actors txn (acts_by coordinator_fact [] part.log (coord_boot.boot_row sc txn part.log)))
booted_by_coordinator sc w txn part h found down =
    let effect = coord_boot.boot_row sc txn part.log in
    coordinator_acts_since sc w txn part.log (Some effect.state) [] effect.reaction.append effect.reaction.letters h (boot_acts sc w txn part (decided_in part.log) (h.down txn.0 part found down))

-- ---- all of them

pub restarts_crash_cases : (sc : Scenario) (w : State) → HaveHomes sc → WaitRightly sc w → IsSound sc w → Agrees sc w → Epochs sc w → Ages w → Pairs sc w → Deaths sc w → Restarts sc w → CrashCases sc w (λ taken move. MoveSince sc w move)
restarts_crash_cases sc w homes rightly sound a epochs ages pairs deaths h =
    record {
      server_crashed = λ at part s cut append up left. crashed_by_server sc w at part s append rightly sound a epochs ages pairs deaths h up left;
      server_booted = λ at part exists found down. booted_by_server sc w at part sound h found down;
      coordinator_crashed = λ txn part c cut append exists up begun left. crashed_by_coordinator sc w txn part c append homes sound a epochs deaths h up begun left;
      coordinator_booted = λ txn part exists found down. booted_by_coordinator sc w txn part h found down;
    }

-- what is said of restarts stays
pub restarts_crashed : (sc : Scenario) (w : State) → HaveHomes sc → WaitRightly sc w → IsSound sc w → Agrees sc w → Epochs sc w → Ages w → Pairs sc w → Deaths sc w → Restarts sc w → CrashCases sc w (λ taken move. Restarts sc (state_after w taken move))
restarts_crashed sc w homes rightly sound a epochs ages pairs deaths h =
    crash_cases_as sc w (λ taken move. MoveSince sc w move) (λ taken move. Restarts sc (state_after w taken move)) (λ taken move t. state_after_since sc w taken move h t)
    (restarts_crash_cases sc w homes rightly sound a epochs ages pairs deaths h)
