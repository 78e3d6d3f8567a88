-- Weights: a coordinator that is up awaits at most as many servers as there are, in every world.
use Rattle.std.specs.List.{list_any}
use Rattle.std.specs.Option.{option_map_or}
use Rattle.std.proofs.Common.{IfSome, List, None, Option, Some, [], arith, length, slice_get, slice_set, subst, suc, sym, true, zero, ℕ, ◌+◌, ◌≡◌, ◌≤◌}
use Rattle.tp_model.specs.Valid.{is_valid}
use Rattle.tp_model.specs.Queries.{is_at_server, servers_from, servers_of}
use Rattle.tp_model.specs.Limits.{has_count, is_from_to}
use Rattle.tp_model.specs.Valid.{are_distinct, are_valid_from, same_server_name}
use Rattle.tp_model.proofs.RuleLemmas.{rules_of}
use Rattle.tp_model.specs.Words.{Decision, Query, Record, Scenario, ServerId, Step, Transaction, TxnId}
use Rattle.std.proofs.lemmas.Bool.Decides.{nat_tests}
use Rattle.tp_types.proofs.EachLemmas.{at_made, at_set, by_cond}
use Rattle.tp_types.proofs.ListLemmas.{three_parts}
use Rattle.tp_types.specs.Each.{EachAt}
use Rattle.tp_recover.specs.Log.{decided_in}
use Rattle.tp_coord.specs.Booted as coord_boot
use Rattle.tp_coord.specs.Opened.{idle, servers_at}
use Rattle.tp_coord.specs.Row.{coordinator_row, submit_row}
use Rattle.tp_coord.specs.State.{Coordinator}
use Rattle.tp_machine.specs.Machine.{Machine, State, machine_after, opened_part, opening_state, refusal, state_after, with_age}
use Rattle.tp_actor_log.specs.Records.{log_with}
use Rattle.tp_machine.specs.Named.{IsStepOf}
use Rattle.tp_machine.specs.Parts.{Part}
use Rattle.tp_runs.proofs.agreement.Steps.{coordinator_agrees}
use Rattle.tp_runs.proofs.agreement.World.{Agrees}
use Rattle.tp_runs.proofs.mails.Actors.{AwaitsFew, coordinator_row_sends, submit_row_sends}
use Rattle.tp_runs.proofs.walks.Crashes.{CrashCases, every_step_by}
use Rattle.tp_runs.proofs.walks.Steps.{Cases, IsCoordinatorUp, machine_after_by}

-- ---- the invariant

abbrev pub AwaitFewAt : ℕ → List (Part Coordinator) → Type 0
AwaitFewAt most coordinators = EachAt (λ (n : ℕ) (part : Part Coordinator). IfSome part.up (AwaitsFew most)) coordinators

-- at most as many servers as there are
abbrev pub AwaitFew : Scenario → State → Type 0
AwaitFew sc w = AwaitFewAt (length sc.servers) w.actors.coordinators

-- ---- a transaction's servers

from_few : (sc : Scenario) (queries : List Query) (low left : ℕ) → length (servers_from sc queries low left) ≤ left
from_few sc queries low zero = omega arith
from_few sc queries low (suc left) =
    let later = from_few sc queries (low + 1) left in
    by_cond (λ (servers : List ServerId). length servers ≤ suc left) (list_any (is_at_server sc low) queries) (λ here. omega (arith, later)) (λ other. omega (arith, later))

-- are not more than all
pub servers_at_few : (sc : Scenario) (txn : TxnId) → length (servers_at sc txn) ≤ length sc.servers
servers_at_few sc txn = among (slice_get sc.txns txn.0)
  where
    among : (declared : Option Transaction) → length (option_map_or (servers_of sc) declared []) ≤ length sc.servers
    among None = omega arith
    among (Some declared) = from_few sc declared.queries 0 (length sc.servers)

some_servers_in : (count : ℕ) → is_from_to 1 16 count ≡ true → 1 ≤ count
some_servers_in count e = grind (arith, nat_tests)

-- there is a server
pub some_servers : (sc : Scenario) → is_valid sc ≡ true → 1 ≤ length sc.servers
some_servers sc formed =
    some_servers_in (length sc.servers) (three_parts (has_count 1 16 sc.servers) (are_valid_from sc 0 sc.servers) (are_distinct same_server_name sc.servers) (rules_of sc formed).servers).0

pub own_servers_few : (sc : Scenario) (w : State) (txn : TxnId) (part : Part Coordinator) (c : Coordinator) → Agrees sc w → IsCoordinatorUp w txn part c → length c.servers ≤ length sc.servers
own_servers_few sc w txn part c a up =
    subst (λ (servers : List ServerId). length servers ≤ length sc.servers) (sym (coordinator_agrees sc w txn part c a up).agrees.servers) (servers_at_few sc c.txn)

pub own_awaits : (sc : Scenario) (w : State) (txn : TxnId) (part : Part Coordinator) (c : Coordinator) → AwaitFew sc w → IsCoordinatorUp w txn part c → AwaitsFew (length sc.servers) c
own_awaits sc w txn part c h up = subst (λ (u : Option Coordinator). IfSome u (AwaitsFew (length sc.servers))) up.up (h txn.0 part up.found)

-- ---- acts

acts_few : (most : ℕ) (coordinators : List (Part Coordinator)) (n : ℕ) (now : Option Coordinator) (kept : List Record) → AwaitFewAt most coordinators → IfSome now (AwaitsFew most)
    → AwaitFewAt most (slice_set coordinators n (record { up = now; log = kept }))
acts_few most coordinators n now kept h few = at_set (λ (k : ℕ) (part : Part Coordinator). IfSome part.up (AwaitsFew most)) coordinators n (record { up = now; log = kept }) h few

booted_few : (sc : Scenario) (txn : TxnId) (decided : Option Decision) → AwaitsFew (length sc.servers) (coord_boot.boot_by sc txn decided).state
booted_few sc txn None = servers_at_few sc txn
booted_few sc txn (Some decided) = servers_at_few sc txn

-- ---- steps

awaiting_cases : (sc : Scenario) (w : State) → is_valid sc ≡ true → Agrees sc w → AwaitFew sc w → Cases sc w (λ taken move. AwaitFewAt (length sc.servers) move.actors.coordinators)
awaiting_cases sc w formed a h =
    let most = length sc.servers in
    record {
      idle = λ taken happened e. h;
      server_received = λ n mail at part s sent up. h;
      coordinator_received = λ n mail txn part c sent up.
          acts_few most w.actors.coordinators txn.0 (Some (coordinator_row sc c mail).state) (log_with part.log (coordinator_row sc c mail).reaction.append) h
          (coordinator_row_sends most sc c mail (some_servers sc formed) (own_servers_few sc w txn part c a up) (own_awaits sc w txn part c h up)).awaits;
      authority_told = λ n mail sent. h;
      master_told = λ n mail sent. h;
      published = λ admin exists more. h;
      pushed = λ admin server exists there. h;
      ticked = λ by. h;
      revoked = λ cred exists. h;
      begun = λ txn part c exists up new.
          acts_few most w.actors.coordinators txn.0 (Some (with_age (submit_row sc c) (length w.steps)).state) (log_with part.log (with_age (submit_row sc c) (length w.steps)).reaction.append) h
          (submit_row_sends most (length w.steps) sc c (some_servers sc formed) (own_awaits sc w txn part c h up)).awaits;
      timed = λ txn part c exists up begun. h;
    }

awaiting_crashed : (sc : Scenario) (w : State) → AwaitFew sc w → CrashCases sc w (λ taken move. AwaitFew sc (state_after w taken move))
awaiting_crashed sc w h =
    let most = length sc.servers in
    record {
      server_crashed = λ at part s cut append up left. h;
      server_booted = λ at part exists found down. h;
      coordinator_crashed = λ txn part c cut append exists up begun left. acts_few most w.actors.coordinators txn.0 None (log_with part.log append) h tt;
      coordinator_booted = λ txn part exists found down.
          acts_few most w.actors.coordinators txn.0 (Some (coord_boot.boot_by sc txn (decided_in part.log)).state) (log_with part.log (coord_boot.boot_by sc txn (decided_in part.log)).reaction.append) h
          (booted_few sc txn (decided_in part.log));
    }

pub awaiting_next : (sc : Scenario) (m : Machine) (taken : Step) → is_valid sc ≡ true → IsStepOf sc taken → refusal m.state taken ≡ None → Agrees sc m.state → AwaitFew sc m.state → AwaitFew sc (machine_after sc m taken).state
awaiting_next sc m taken formed exists allowed a h =
    every_step_by sc m (AwaitFew sc) (awaiting_crashed sc m.state h) a.server_count a.coordinator_count taken exists allowed
    (λ stays. machine_after_by sc m (λ taken_is move. AwaitFewAt (length sc.servers) move.actors.coordinators) (AwaitFew sc) (awaiting_cases sc m.state formed a h) a.coordinator_count (λ taken_is move t. t) taken exists stays allowed)

pub awaiting_opening : (sc : Scenario) → AwaitFew sc (opening_state sc)
awaiting_opening sc n part e =
    at_made (λ (k : ℕ) (found : Part Coordinator). IfSome found.up (AwaitsFew (length sc.servers))) (λ (k : ℕ). opened_part (idle sc (record { 0 = k }))) 0 (length sc.txns) (λ k within. omega arith) n part e
