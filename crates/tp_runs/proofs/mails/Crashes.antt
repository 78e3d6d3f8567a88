-- Mails, crashes and boots: a boot sends a letter for each transaction that is prepared, or to each server of one transaction.
use Rattle.std.proofs.Common.{List, None, Option, Some, [], ap, arith, length, map, option_map, refl, slice_get, true, ℕ, ◌+◌, ◌∷◌, ◌≡◌, ◌≤◌}
use Rattle.std.proofs.lemmas.List.{length-map}
use Rattle.tp_model.proofs.RuleLemmas.{few_txns, rules_of}
use Rattle.tp_model.specs.Valid.{is_valid}
use Rattle.tp_model.specs.Facts.{outcome_of}
use Rattle.tp_model.specs.Words.actor
use Rattle.tp_model.specs.Words.body
use Rattle.tp_model.specs.Words.log
use Rattle.tp_model.specs.Words.outcome
use Rattle.tp_model.specs.Words.what
use Rattle.tp_model.specs.Words.{Decision, Outcome, Prepared, Scenario, ServerId, TxnId}
use Rattle.tp_recover.proofs.KeptLemmas.{kept_law}
use Rattle.tp_model.specs.ByAge.{by_txn}
use Rattle.tp_recover.specs.Kept.{kept}
use Rattle.tp_recover.specs.Log.{decided_in}
use Rattle.tp_coord.specs.Booted as coord_boot
use Rattle.tp_coord.specs.Opened.{idle, servers_at}
use Rattle.tp_coord.specs.Row as coord
use Rattle.tp_coord.specs.State.{Coordinator}
use Rattle.tp_server.specs.Booted.{boot_row, booted, inquiry, restored}
use Rattle.tp_machine.specs.Machine.{server_boots}
use Rattle.tp_machine.specs.Machine.{State, acts_by, coordinator_fact, coordinator_move, server_move, state_after}
use Rattle.tp_machine.specs.Parts.{Part}
use Rattle.tp_runs.proofs.basics.Booted.{records_of_scenario}
use Rattle.tp_runs.proofs.mails.Actors.{waits_in}
use Rattle.tp_runs.proofs.mails.World.{FewMails, MoveFew, coordinator_acts_few, server_acts_few, servers_few, state_after_few, waits_of}
use Rattle.tp_runs.proofs.walks.Crashes.{CrashCases, crash_cases_as}
use Rattle.tp_runs.specs.Laws.{mails_most}
use Rattle.tp_runs.specs.Sound.{IsSound}
use Rattle.tp_server.specs.State.{Server}

-- ---- a server that boots

-- no query waits at an entry that was prepared
none_wait : (table : List (Option Prepared)) → waits_in (map (option_map restored) table) ≡ 0
none_wait [] = refl
none_wait (None ∷ table) = ap (λ (n : ℕ). 0 + n) (none_wait table)
none_wait (Some p ∷ table) = ap (λ (n : ℕ). 0 + n) (none_wait table)

listed_few : (table : List (Option Prepared)) → length (by_txn table) ≤ length table
listed_few [] = omega arith
listed_few (None ∷ table) = omega (arith, listed_few table)
listed_few (Some p ∷ table) = omega (arith, listed_few table)

booted_few : (sc : Scenario) (w : State) (at : ServerId) (part : Part Server) → is_valid sc ≡ true → IsSound sc w → FewMails w → slice_get w.actors.servers at.0 ≡ Some part → part.up ≡ None
    → MoveFew w (server_move w.actors at (server_boots sc at part))
booted_few sc w at part formed sound h found down =
    let k = kept sc at part.log in
    let says = kept_law sc at part.log (records_of_scenario sc at part.log (sound.actors_are.servers at.0 part found).records) in
    let places = says.prepared_places in
    let txns = few_txns sc (rules_of sc formed) in
    let letters : length (boot_row sc at k).reaction.letters ≡ length (by_txn k.prepared) = length-map (by_txn k.prepared) (inquiry (booted sc at k)) in
    let waits : waits_of (Some (booted sc at k)) ≡ 0 = none_wait k.prepared in
    server_acts_few w at part (Some (booted sc at k)) [] (Some log.Boot) (boot_row sc at k).reaction.letters h found (omega (arith, places, txns, letters, waits, listed_few k.prepared))

-- ---- a coordinator that boots

orders_few : (sc : Scenario) (txn : TxnId) (ended : Outcome) → is_valid sc ≡ true → length (coord.decide_letters (idle sc txn) ended (servers_at sc txn)) ≤ mails_most
orders_few sc txn ended formed =
    let long = length-map (servers_at sc txn) (λ (at : ServerId). coord.request (idle sc txn) at (body.Decide (record { txn = txn; outcome = ended }))) in
    let few = servers_few sc txn formed in
    omega (arith, long, few)

coordinator_booted_few : (sc : Scenario) (w : State) (txn : TxnId) (part : Part Coordinator) (decided : Option Decision) → is_valid sc ≡ true → FewMails w
    → MoveFew w (coordinator_move w.actors txn (acts_by coordinator_fact [] part.log (coord_boot.boot_by sc txn decided)))
coordinator_booted_few sc w txn part None formed h =
    let effect = coord_boot.boot_by sc txn None in
    coordinator_acts_few w txn part (Some effect.state) [] effect.reaction.append effect.reaction.letters h (servers_few sc txn formed) (orders_few sc txn outcome.Abort formed)
coordinator_booted_few sc w txn part (Some decision_is) formed h =
    let effect = coord_boot.boot_by sc txn (Some decision_is) in
    coordinator_acts_few w txn part (Some effect.state) [] effect.reaction.append effect.reaction.letters h (servers_few sc txn formed) (orders_few sc txn (outcome_of decision_is) formed)

-- ---- all of them

pub few_crash_cases : (sc : Scenario) (w : State) → is_valid sc ≡ true → IsSound sc w → FewMails w → CrashCases sc w (λ taken move. MoveFew w move)
few_crash_cases sc w formed sound h =
    record {
      server_crashed = λ at part s cut append up left. server_acts_few w at part None (what.Crashed (actor.Server at) ∷ []) append [] h up.found (omega arith);
      server_booted = λ at part exists found down. booted_few sc w at part formed sound h found down;
      coordinator_crashed = λ txn part c cut append exists up begun left. coordinator_acts_few w txn part None (what.Crashed (actor.Coordinator txn) ∷ []) append [] h tt (omega arith);
      coordinator_booted = λ txn part exists found down. coordinator_booted_few sc w txn part (decided_in part.log) formed h;
    }

-- few mails are sent
pub few_crashed : (sc : Scenario) (w : State) → is_valid sc ≡ true → IsSound sc w → FewMails w → CrashCases sc w (λ taken move. FewMails (state_after w taken move))
few_crashed sc w formed sound h =
    crash_cases_as sc w (λ taken move. MoveFew w move) (λ taken move. FewMails (state_after w taken move)) (λ taken move t. state_after_few w taken move h t) (few_crash_cases sc w formed sound h)
