-- Mails over every list of steps: a step sends no more than `mails_most`, and one for each query that waited until it. Such a query was a
-- step that sent none, so no more than `mails_most` mails come on each step.
use Rattle.std.specs.List.{list_any}
use Rattle.std.specs.Option.{option_map_or}
use Rattle.std.proofs.Common.{IfSome, List, None, Option, Some, [], arith, ap, if◌then◌else◌, is_some, length, refl, replicate, slice_get, slice_set, subst, suc, sym, zero, ℕ, ◌*◌, ◌+◌, ◌≡◌, ◌≤◌, ◌∷◌, true}
use Rattle.std.proofs.lemmas.List.{length-append}
use Rattle.std.proofs.lemmas.Option.{same_Some}
use Rattle.tp_model.specs.Valid.{is_valid}
use Rattle.tp_model.specs.Queries.{is_at_server, servers_from, servers_of}
use Rattle.tp_model.specs.Words.body
use Rattle.tp_model.specs.Words.what
use Rattle.tp_model.specs.Words.{Body, Letter, Mail, Query, Record, Scenario, ServerId, Step, Transaction, TxnId, What}
use Rattle.tp_model.proofs.RuleLemmas.{few_servers, rules_of}
use Rattle.tp_runs.proofs.agreement.Steps.{coordinator_agrees}
use Rattle.tp_runs.proofs.agreement.World.{Agrees}
use Rattle.tp_machine.proofs.basics.Flags.{length_mails_of}
use Rattle.tp_machine.proofs.basics.Machine.{steps_next}
use Rattle.tp_types.proofs.EachLemmas.{at_made, at_set, by_cond}
use Rattle.tp_runs.proofs.mails.Actors.{AwaitsFew, coordinator_row_sends, repeats_sends, server_row_sends, submit_row_sends, waits_in}
use Rattle.tp_runs.proofs.walks.Steps.{Cases, IsCoordinatorUp, IsServerUp, KeepsUp, WaitRightly, machine_after_by}
use Rattle.tp_machine.specs.Machine.{Machine, Move, State, acts, acts_by, after_step, after_steps, coordinator_fact, coordinator_move, machine_after, mails_of, opened_part, opening_state, refusal, server_fact, server_move, state_after, with_age}
use Rattle.tp_actor_log.specs.Records.{log_with}
use Rattle.tp_machine.specs.Parts.{Part}
use Rattle.tp_types.specs.Each.{EachAt}
use Rattle.tp_runs.specs.Laws.{mails_most}
use Rattle.tp_machine.specs.Named.{IsStepOf}
use Rattle.tp_coord.specs.Opened.{idle, servers_at}
use Rattle.tp_coord.specs.Row.{coordinator_row, submit_row}
use Rattle.tp_coord.specs.State.{Coordinator}
use Rattle.tp_machine.specs.declared.error.StepError.{StepError}
use Rattle.tp_server.specs.Opened as server_opened
use Rattle.tp_server.specs.Row.{server_row}
use Rattle.tp_server.specs.State.{Server}
use Rattle.tp_offices.specs.Authority as office
use Rattle.tp_offices.specs.Master as master
use Rattle.tp_offices.specs.declared.authority.Authority.{Authority}
use Rattle.tp_offices.specs.declared.master.Master.{Master}

-- ---- the invariant

abbrev AwaitFew : List (Part Coordinator) → Type 0
AwaitFew coordinators = EachAt (λ (n : ℕ) (part : Part Coordinator). IfSome part.up (AwaitsFew 16)) coordinators

-- few mails were sent
abbrev pub HasFewMails : State → Type 0
HasFewMails w = length w.mails ≤ mails_most * length w.steps

-- how many queries wait at a server
abbrev pub waits_of : Option Server → ℕ
waits_of None = 0
waits_of (Some s) = waits_in s.entries

-- how many wait at all servers
abbrev pub waiting : List (Part Server) → ℕ
waiting [] = 0
waiting (part ∷ parts) = waits_of part.up + waiting parts

-- few mails were sent, those among them that are still to come for queries that wait; and coordinators that are up await few servers
pub record FewMails (w : State) : Type 0 where
  pub awaits : AwaitFew w.actors.coordinators
  pub mails : length w.mails + waiting w.actors.servers ≤ mails_most * length w.steps

pub few_mails : (w : State) → FewMails w → HasFewMails w
few_mails w h = omega (arith, h.mails)

-- ---- a move

pub record MoveFew (w : State) (move : Move) : Type 0 where
  pub awaits : AwaitFew move.actors.coordinators
  pub letters : length move.letters + waiting move.actors.servers ≤ mails_most + waiting w.actors.servers

pub state_after_few : (w : State) (taken : Step) (move : Move) → FewMails w → MoveFew w move → FewMails (state_after w taken move)
state_after_few w taken move h t =
    record {
      awaits = t.awaits;
      mails = omega (
        arith,
        h.mails,
        t.letters,
        length-append w.mails (mails_of (length w.steps) (length w.mails) move.letters),
        length_mails_of (length w.steps) (length w.mails) move.letters,
        length-append w.steps (taken ∷ []),
      );
    }

-- ---- a transaction's servers are few

from_few : (sc : Scenario) (queries : List Query) (low left : ℕ) → length (servers_from sc queries low left) ≤ left
from_few sc queries low zero = omega arith
from_few sc queries low (suc left) =
    let later = from_few sc queries (low + 1) left in
    by_cond (λ (servers : List ServerId). length servers ≤ suc left) (list_any (is_at_server sc low) queries) (λ here. omega (arith, later)) (λ other. omega (arith, later))

pub servers_few : (sc : Scenario) (txn : TxnId) → is_valid sc ≡ true → length (servers_at sc txn) ≤ 16
servers_few sc txn formed = among (slice_get sc.txns txn.0)
  where
    among : (declared : Option Transaction) → length (option_map_or (servers_of sc) declared []) ≤ 16
    among None = omega arith
    among (Some declared) = omega (arith, from_few sc declared.queries 0 (length sc.servers), few_servers sc (rules_of sc formed))

-- so are those of a coordinator that is up
own_servers_few : (sc : Scenario) (w : State) (txn : TxnId) (part : Part Coordinator) (c : Coordinator) → is_valid sc ≡ true → Agrees sc w → IsCoordinatorUp w txn part c → length c.servers ≤ 16
own_servers_few sc w txn part c formed a up =
    subst (λ (servers : List ServerId). length servers ≤ 16) (sym (coordinator_agrees sc w txn part c a up).agrees.servers) (servers_few sc c.txn formed)

own_awaits : (w : State) (txn : TxnId) (part : Part Coordinator) (c : Coordinator) → FewMails w → IsCoordinatorUp w txn part c → AwaitsFew 16 c
own_awaits w txn part c h up = subst (λ (u : Option Coordinator). IfSome u (AwaitsFew 16)) up.up (h.awaits txn.0 part up.found)

-- ---- acts

-- an act of a coordinator, whether it was up before it or down, and is up after it or down
pub coordinator_acts_few : (w : State) (txn : TxnId) (part : Part Coordinator) (now : Option Coordinator) (own : List What) (append : Option Record) (letters : List Letter) → FewMails w → IfSome now (AwaitsFew 16) → length letters ≤ mails_most
    → MoveFew w (coordinator_move w.actors txn (acts coordinator_fact own part.log now (log_with part.log append) letters))
coordinator_acts_few w txn part now own append letters h awaits few =
    let new : Part Coordinator = record { up = now; log = log_with part.log append } in
    record { awaits = at_set (λ (n : ℕ) (other : Part Coordinator). IfSome other.up (AwaitsFew 16)) w.actors.coordinators txn.0 new h.awaits awaits; letters = omega (arith, few) }

-- one server changes
waiting_set : (parts : List (Part Server)) (n : ℕ) (old new : Part Server) → slice_get parts n ≡ Some old → waiting (slice_set parts n new) + waits_of old.up ≡ waiting parts + waits_of new.up
waiting_set [] n old new e = absurd (cc)
waiting_set (part ∷ parts) zero old new e =
    let same : waits_of part.up ≡ waits_of old.up = ap (λ (p : Part Server). waits_of p.up) (same_Some part old e) in
    let now : waiting (slice_set (part ∷ parts) zero new) ≡ waits_of new.up + waiting parts = refl in
    omega (arith, same, now)
waiting_set (part ∷ parts) (suc n) old new e =
    let now : waiting (slice_set (part ∷ parts) (suc n) new) ≡ waits_of part.up + waiting (slice_set parts n new) = refl in
    omega (arith, now, waiting_set parts n old new e)

-- an act of a server, whether it was up before it or down, and is up after it or down
pub server_acts_few : (w : State) (at : ServerId) (part : Part Server) (now : Option Server) (own : List What) (append : Option Record) (letters : List Letter) → FewMails w → slice_get w.actors.servers at.0 ≡ Some part
    → length letters + waits_of now ≤ mails_most + waits_of part.up → MoveFew w (server_move w.actors at (acts (server_fact at) own part.log now (log_with part.log append) letters))
server_acts_few w at part now own append letters h found few =
    let new : Part Server = record { up = now; log = log_with part.log append } in
    record { awaits = h.awaits; letters = omega (arith, few, waiting_set w.actors.servers at.0 part new found) }

receipt_few : (sc : Scenario) (w : State) (at : ServerId) (part : Part Server) (s : Server) (mail : Mail) → WaitRightly sc w → FewMails w → IsServerUp w at part s
    → MoveFew w (server_move w.actors at (acts_by (server_fact at) [] part.log (server_row sc s mail)))
receipt_few sc w at part s mail rightly h up =
    let effect = server_row sc s mail in
    let was : waits_of part.up ≡ waits_in s.entries = ap waits_of up.up in
    server_acts_few w at part (Some effect.state) [] effect.reaction.append effect.reaction.letters h up.found (omega (arith, was, server_row_sends sc s mail (rightly at part s up)))

authority_sends : (authority : Authority) (said : Body) → length (office.on_body authority said).reaction.letters ≤ mails_most
authority_sends authority (body.Ask ask) = omega arith
authority_sends authority _ = omega arith

master_sends : (held : Master) (said : Body) → length (master.on_body held said).reaction.letters ≤ mails_most
master_sends held (body.Probe probe) = omega arith
master_sends held _ = omega arith

-- ---- steps

few_cases : (sc : Scenario) (w : State) → is_valid sc ≡ true → WaitRightly sc w → Agrees sc w → FewMails w → Cases sc w (λ taken move. MoveFew w move)
few_cases sc w formed rightly a h =
    record {
      idle = λ taken happened e. record { awaits = h.awaits; letters = omega arith };
      server_received = λ n mail at part s sent up. receipt_few sc w at part s mail rightly h up;
      coordinator_received = λ n mail txn part c sent up.
          let effect = coordinator_row sc c mail in
          let few = coordinator_row_sends 16 sc c mail (omega arith) (own_servers_few sc w txn part c formed a up) (own_awaits w txn part c h up) in
          coordinator_acts_few w txn part (Some effect.state) [] effect.reaction.append effect.reaction.letters h few.awaits (omega (arith, few.letters));
      authority_told = λ n mail sent. record { awaits = h.awaits; letters = omega (arith, authority_sends w.actors.authority mail.letter.body) };
      master_told = λ n mail sent. record { awaits = h.awaits; letters = omega (arith, master_sends w.actors.master mail.letter.body) };
      published = λ admin exists more. record { awaits = h.awaits; letters = omega arith };
      pushed = λ admin server exists there. record { awaits = h.awaits; letters = omega arith };
      ticked = λ by. record { awaits = h.awaits; letters = omega arith };
      revoked = λ cred exists. record { awaits = h.awaits; letters = omega arith };
      begun = λ txn part c exists up new.
          let effect = with_age (submit_row sc c) (length w.steps) in
          let few = submit_row_sends 16 (length w.steps) sc c (omega arith) (own_awaits w txn part c h up) in
          coordinator_acts_few w txn part (Some effect.state) (what.Submitted txn ∷ []) effect.reaction.append effect.reaction.letters h few.awaits (omega (arith, few.letters));
      timed = λ txn part c exists up begun. record { awaits = h.awaits; letters = omega (arith, repeats_sends 16 sc c (omega arith) (own_awaits w txn part c h up)) };
    }

-- a step that is not refused sends few mails
pub few_next : (sc : Scenario) (m : Machine) (taken : Step) → is_valid sc ≡ true → IsStepOf sc taken → KeepsUp taken → refusal m.state taken ≡ None → WaitRightly sc m.state → Agrees sc m.state → FewMails m.state → FewMails (machine_after sc m taken).state
few_next sc m taken formed exists stays allowed rightly a h =
    machine_after_by sc m (λ taken_is move. MoveFew m.state move) FewMails (few_cases sc m.state formed rightly a h) a.coordinator_count
    (λ taken_is move t. state_after_few m.state taken_is move h t) taken exists stays allowed

-- where no query waits at each server none does
none_waiting : (parts : List (Part Server)) → EachAt (λ (n : ℕ) (part : Part Server). waits_of part.up ≡ 0) parts → waiting parts ≡ 0
none_waiting [] h = refl
none_waiting (part ∷ parts) h = omega (arith, h 0 part refl, none_waiting parts (λ n found e. h (suc n) found e))

no_waits : (count : ℕ) → waits_in (replicate count None) ≡ 0
no_waits zero = refl
no_waits (suc count) =
    let now : waits_in (replicate (suc count) None) ≡ 0 + waits_in (replicate count None) = refl in
    omega (arith, now, no_waits count)

-- before the first step none was sent
pub few_opening : (sc : Scenario) → FewMails (opening_state sc)
few_opening sc =
    record {
      awaits = λ n part e. at_made (λ (k : ℕ) (found : Part Coordinator). IfSome found.up (AwaitsFew 16)) (λ (k : ℕ). opened_part (idle sc (record { 0 = k }))) 0 (length sc.txns) (λ k within. omega arith) n part e;
      mails = omega (
        arith,
        none_waiting (opening_state sc).actors.servers
            (λ n part e. at_made (λ (k : ℕ) (found : Part Server). waits_of found.up ≡ 0) (λ (k : ℕ). opened_part (server_opened.opening sc (record { 0 = k }))) 0 (length sc.servers) (λ k within. no_waits (length sc.txns)) n part e),
      );
    }

-- ---- how many steps are done

-- a step that is taken is done at most once
step_counted : (sc : Scenario) (m : Machine) (taken : Step) → length (machine_after sc m taken).state.steps ≤ length m.state.steps + 1
step_counted sc m taken = omega (arith, ap length (steps_next sc m taken), length-append m.state.steps (taken ∷ []))

taken_counted : (sc : Scenario) (m : Machine) (taken : Step) (why : Option StepError) → length (if is_some why then m else machine_after sc m taken).state.steps ≤ length m.state.steps + 1
taken_counted sc m taken None = step_counted sc m taken
taken_counted sc m taken (Some why) = omega arith

-- of a list no more steps are done than there are
pub steps_counted : (sc : Scenario) (m : Machine) (steps : List Step) → length (after_steps sc m steps).state.steps ≤ length m.state.steps + length steps
steps_counted sc m [] = omega arith
steps_counted sc m (taken ∷ steps) = omega (arith, taken_counted sc m taken (refusal m.state taken), steps_counted sc (after_step sc m taken) steps)
