-- Trust, crashes and boots: who comes up keeps of its log what fits, and a coordinator that comes up has decided.
use Rattle.std.proofs.Common.{IfSome, List, None, Option, Some, [], arith, length, slice_get, subst, true, ℕ, ◌∷◌, ◌≡◌}
use Rattle.tp_model.proofs.RuleLemmas as rules
use Rattle.tp_model.specs.Valid.{is_valid}
use Rattle.tp_model.specs.Facts.{outcome_of}
use Rattle.tp_model.specs.Words.{Actor, Decision, Fact, Letter, Mail, Record, Scenario, ServerId, TxnId}
use Rattle.tp_model.specs.Words.actor
use Rattle.tp_model.specs.Words.log
use Rattle.tp_model.specs.Words.outcome
use Rattle.tp_model.specs.Words.what
use Rattle.tp_coord.specs.Booted as coord_boot
use Rattle.tp_coord.specs.Opened.{idle}
use Rattle.tp_coord.specs.Row.{coordinator_row}
use Rattle.tp_coord.specs.State.{Coordinator}
use Rattle.tp_machine.specs.Machine.{State, acts_by, coordinator_fact, coordinator_move, goes_down, server_boots, server_fact, server_move, state_after}
use Rattle.tp_machine.specs.Parts.{Part}
use Rattle.tp_model.specs.ByAge.{by_txn}
use Rattle.tp_recover.specs.Kept.{kept}
use Rattle.tp_recover.specs.Log.{decided_in}
use Rattle.tp_server.specs.Booted.{boot_row, booted}
use Rattle.tp_server.specs.Row.{ballot_of, server_row}
use Rattle.tp_server.specs.State.{Server}
use Rattle.tp_runs.proofs.agreement.Crashes.{booted_version}
use Rattle.tp_runs.proofs.agreement.World.{Agrees}
use Rattle.tp_runs.proofs.basics.Booted.{booted_entries, inquiries_are, records_of_scenario}
use Rattle.tp_runs.proofs.basics.Facts.{ArePast}
use Rattle.tp_runs.proofs.basics.Homes.{HaveHomes}
use Rattle.tp_runs.proofs.basics.Turns.{AreFew, Stamp, few_queries, stamp_of}
use Rattle.tp_runs.proofs.ids.Queries.{have_homes}
use Rattle.tp_runs.proofs.ids.Valid.{IsValid, valid_of}
use Rattle.tp_runs.proofs.known.World.{Pairs}
use Rattle.tp_runs.proofs.trust.Acts.{ForcesPublished, SaysFit, act_trusts, coordinator_acts_trusts, server_acts_trusts}
use Rattle.tp_runs.proofs.trust.Coordinator.{CoordinatorTrusts, RecordDecides, orders_fit, orders_timely}
use Rattle.tp_runs.proofs.trust.Fit.{BodyFits}
use Rattle.tp_runs.proofs.trust.Kept.{IsKept, IsTrusted, RecordKept, vote_cast}
use Rattle.tp_runs.proofs.trust.Server.{ServerTrusts}
use Rattle.tp_runs.proofs.trust.World.{MoveTrusts, Timely, Trusts, state_after_trusts}
use Rattle.tp_runs.proofs.trusted.Steps.{received_row_trusts, server_sends_published, server_sends_trusts}
use Rattle.tp_runs.proofs.walks.Crashes.{CrashCases, Left, LeftOfCoordinator, LeftOfServer, Nothing, crash_cases_as, left_shown}
use Rattle.tp_runs.proofs.walks.Steps.{IsCoordinatorUp, IsServerUp, WaitRightly}
use Rattle.tp_runs.specs.Sound.{IsSound}

-- a crash leaves the clock, the revocations and the newest versions
crashed_fits : (sc : Scenario) (place : ℕ) (who : Actor) → SaysFit sc place (what.Crashed who ∷ [])
crashed_fits sc place who = record { still = (tt, tt); fit = λ facts. (tt, tt) }

-- ---- servers

-- what is left of a record tells of no version above the newest
left_published : (sc : Scenario) (w : State) (at : ServerId) (part : Part Server) (s : Server) (append : Option Record) → IsValid sc → WaitRightly sc w → IsSound sc w → Pairs sc w → Trusts sc w → IsServerUp w at part s
    → LeftOfServer sc w at s append → ForcesPublished sc w.facts (length w.steps) append
left_published sc w at part s _ valid rightly sound pairs h up Nothing = λ admin exists. omega arith
left_published sc w at part s _ valid rightly sound pairs h up (Left n mail sent) = server_sends_published sc w valid rightly sound pairs h n mail at part s sent up

crashed_by_server : (sc : Scenario) (w : State) (at : ServerId) (part : Part Server) (s : Server) (append : Option Record) → IsValid sc → WaitRightly sc w → IsSound sc w → ArePast (length w.steps) w.facts → Pairs sc w → Trusts sc w
    → IsServerUp w at part s → LeftOfServer sc w at s append → MoveTrusts sc w (server_move w.actors at (goes_down (server_fact at) (what.Crashed (actor.Server at) ∷ []) part append))
crashed_by_server sc w at part s append valid rightly sound past pairs h up left =
    let T = Timely sc w.actors.coordinators in
    server_acts_trusts sc w at part (what.Crashed (actor.Server at) ∷ []) None append [] past h up.found (crashed_fits sc (length w.steps) (actor.Server at))
    (left_published sc w at part s append valid rightly sound pairs h up left)
    (record {
      fits = tt;
      keeps = tt;
      forces = left_shown w (actor.Server at) (λ (mail : Mail). (server_row sc s mail).reaction.append) append (RecordKept (IsTrusted sc w.facts (length w.steps) T))
          (λ n mail sent. (server_sends_trusts sc w valid rightly sound pairs h n mail at part s sent up).forces) left;
      says = tt;
      timely = tt;
    })

-- a server that boots has the votes that are on its log, and knows the versions there
booted_trusts : (sc : Scenario) (w : State) (at : ServerId) (part : Part Server) → IsValid sc → IsSound sc w → Trusts sc w → slice_get w.actors.servers at.0 ≡ Some part
    → ServerTrusts sc w.facts (length w.steps) (Timely sc w.actors.coordinators) (Some (booted sc at (kept sc at part.log))) (Some log.Boot) (boot_row sc at (kept sc at part.log)).reaction.letters
booted_trusts sc w at part valid sound h found =
    let place = length w.steps in
    let T = Timely sc w.actors.coordinators in
    let I = IsTrusted sc w.facts place T in
    let k = kept sc at part.log in
    let here = sound.actors_are.servers at.0 part found in
    let each = records_of_scenario sc at part.log here.records in
    let was = h.servers at.0 part found in
    record {
      fits = record { known = λ admin exists. omega (arith, booted_version sc at part.log admin valid here.exists each exists, was.told admin exists) };
      keeps = λ n entry e.
          let own = booted_entries sc at part.log each n entry e in
          subst (IsKept I (record { 0 = n })) own.entry_is
          (record { answers = tt; waiting = tt; ballot = subst (λ (txn : TxnId). I (vote_cast txn (ballot_of own.p))) own.own (was.kept.prepared own.p.txn own.p own.prepared_is) });
      forces = tt;
      says = inquiries_are (λ (letter : Letter). BodyFits sc w.facts place place letter.body) (booted sc at k) (λ p. tt) (by_txn k.prepared);
      timely = inquiries_are (λ (letter : Letter). IfSome (stamp_of letter.body) (λ (stamped : Stamp). T letter.body)) (booted sc at k) (λ p. tt) (by_txn k.prepared);
    }

booted_by_server : (sc : Scenario) (w : State) (at : ServerId) (part : Part Server) → IsValid sc → IsSound sc w → ArePast (length w.steps) w.facts → Trusts sc w → slice_get w.actors.servers at.0 ≡ Some part
    → MoveTrusts sc w (server_move w.actors at (server_boots sc at part))
booted_by_server sc w at part valid sound past h found =
    let k = kept sc at part.log in
    server_acts_trusts sc w at part [] (Some (booted sc at k)) (Some log.Boot) (boot_row sc at k).reaction.letters past h found (record { still = tt; fit = λ facts. tt }) (λ admin exists. omega arith)
    (booted_trusts sc w at part valid sound h found)

-- ---- coordinators

crashed_by_coordinator : (sc : Scenario) (w : State) (txn : TxnId) (part : Part Coordinator) (c : Coordinator) (append : Option Record) → AreFew sc → HaveHomes sc → IsValid sc → IsSound sc w → Agrees sc w → Pairs sc w → Trusts sc w
    → IsCoordinatorUp w txn part c → LeftOfCoordinator sc w txn c append → MoveTrusts sc w (coordinator_move w.actors txn (goes_down coordinator_fact (what.Crashed (actor.Coordinator txn) ∷ []) part append))
crashed_by_coordinator sc w txn part c append few homes valid sound a pairs h up left =
    let own = what.Crashed (actor.Coordinator txn) ∷ [] in
    coordinator_acts_trusts sc w txn part own None append [] a.past h up.found
    (act_trusts sc w txn part.up None own append [] (crashed_fits sc (length w.steps) (actor.Coordinator txn))
    (record {
      fits = tt;
      decides = left_shown w (actor.Coordinator txn) (λ (mail : Mail). (coordinator_row sc c mail).reaction.append) append (RecordDecides sc w.facts (length w.steps))
          (λ n mail sent. (received_row_trusts sc w few homes valid sound a pairs h n mail txn part c sent up).decides) left;
      says = λ sent. tt;
      timely = λ sent. tt;
      old = λ sent turn said t. tt;
    }))

-- one that boots has decided, so no mail is of its present request
boot_trusts : (sc : Scenario) (facts : List Fact) (place : ℕ) (txn : TxnId) (was : Option Coordinator) (decided : Option Decision)
    → CoordinatorTrusts sc facts place txn was (Some (coord_boot.boot_by sc txn decided).state) (coord_boot.boot_by sc txn decided).reaction.append (coord_boot.boot_by sc txn decided).reaction.letters
boot_trusts sc facts place txn was None =
    record {
      fits = record { awaits = tt; suits = λ declared found. tt; so_far = λ unsure. absurd (cc); above = λ unsure. absurd (cc); made_after = tt; turn = omega arith };
      decides = tt;
      says = λ sent. orders_fit sc facts place sent (idle sc txn) outcome.Abort (idle sc txn).servers;
      timely = λ sent. orders_timely sc (idle sc txn) (Some (coord_boot.boot_by sc txn None).state) sent outcome.Abort (idle sc txn).servers;
      old = λ sent turn said t unsure. absurd (cc);
    }
boot_trusts sc facts place txn was (Some decision_is) =
    record {
      fits = record { awaits = tt; suits = λ declared found. tt; so_far = λ unsure. absurd (cc); above = λ unsure. absurd (cc); made_after = tt; turn = omega arith };
      decides = tt;
      says = λ sent. orders_fit sc facts place sent (idle sc txn) (outcome_of decision_is) (idle sc txn).servers;
      timely = λ sent. orders_timely sc (idle sc txn) (Some (coord_boot.boot_by sc txn (Some decision_is)).state) sent (outcome_of decision_is) (idle sc txn).servers;
      old = λ sent turn said t unsure. absurd (cc);
    }

booted_by_coordinator : (sc : Scenario) (w : State) (txn : TxnId) (part : Part Coordinator) → ArePast (length w.steps) w.facts → Trusts sc w → slice_get w.actors.coordinators txn.0 ≡ Some part
    → MoveTrusts sc w (coordinator_move w.actors txn (acts_by coordinator_fact [] part.log (coord_boot.boot_row sc txn part.log)))
booted_by_coordinator sc w txn part past h found =
    let effect = coord_boot.boot_row sc txn part.log in
    coordinator_acts_trusts sc w txn part [] (Some effect.state) effect.reaction.append effect.reaction.letters past h found
    (act_trusts sc w txn part.up (Some effect.state) [] effect.reaction.append effect.reaction.letters (record { still = tt; fit = λ facts. tt }) (boot_trusts sc w.facts (length w.steps) txn part.up (decided_in part.log)))

-- ---- all of them

pub trusts_crash_cases : (sc : Scenario) (w : State) → AreFew sc → IsValid sc → WaitRightly sc w → IsSound sc w → Agrees sc w → Pairs sc w → Trusts sc w → CrashCases sc w (λ taken move. MoveTrusts sc w move)
trusts_crash_cases sc w few valid rightly sound a pairs h =
    record {
      server_crashed = λ at part s cut append up left. crashed_by_server sc w at part s append valid rightly sound a.past pairs h up left;
      server_booted = λ at part exists found down. booted_by_server sc w at part valid sound a.past h found;
      coordinator_crashed = λ txn part c cut append exists up begun left. crashed_by_coordinator sc w txn part c append few (have_homes sc valid) valid sound a pairs h up left;
      coordinator_booted = λ txn part exists found down. booted_by_coordinator sc w txn part a.past h found;
    }

-- what trust rests on stays
pub trusts_crashed : (sc : Scenario) (w : State) → is_valid sc ≡ true → WaitRightly sc w → IsSound sc w → Agrees sc w → Pairs sc w → Trusts sc w → CrashCases sc w (λ taken move. Trusts sc (state_after w taken move))
trusts_crashed sc w formed rightly sound a pairs h =
    crash_cases_as sc w (λ taken move. MoveTrusts sc w move) (λ taken move. Trusts sc (state_after w taken move)) (λ taken move t. state_after_trusts sc w taken move a h t)
    (trusts_crash_cases sc w (few_queries sc (rules.rules_of sc formed)) (valid_of sc formed) rightly sound a pairs h)
