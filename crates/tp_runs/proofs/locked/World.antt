-- Locks over every list of steps.
use Rattle.std.proofs.Common.{IfSome, List, None, Option, Some, [], arith, is_some, true, length, refl, replicate, subst, sym, ℕ, ◌<◌, ◌∙◌, ◌≡◌, ◌≤◌}
use Rattle.std.proofs.lemmas.List.{length-replicate}
use Rattle.std.proofs.lemmas.Option.{same_Some, slice_get_within}
use Rattle.tp_lock.proofs.RequestLaws.{opening_orderly}
use Rattle.tp_lock.specs.Rule.{opening}
use Rattle.tp_lock.specs.declared.entry.LockEntry.{LockEntry}
use Rattle.tp_model.specs.Queries.{item_of}
use Rattle.tp_model.specs.Words.actor
use Rattle.tp_model.specs.Words.{Letter, Mail, Query, Record, Scenario, ServerId, Step, What}
use Rattle.tp_runs.proofs.agreement.Steps.{mail_sound}
use Rattle.tp_runs.proofs.agreement.World.{Agrees}
use Rattle.tp_types.proofs.EachLemmas.{at_made, at_set, placed_none}
use Rattle.tp_runs.proofs.basics.LockCounts.{IsHeldOf, none_on, waiting_on}
use Rattle.tp_runs.proofs.basics.Locks.{no_locks}
use Rattle.tp_runs.proofs.locked.Fit.{EntryLocked, LockWaits, Locked}
use Rattle.tp_runs.proofs.locked.Servers.{AskerPlaced, server_row_locked}
use Rattle.tp_runs.proofs.basics.Found.{of_some}
use Rattle.tp_runs.proofs.known.World.{HasPlaces, Pairs}
use Rattle.tp_runs.proofs.walks.Steps.{Cases, IsServerUp, KeepsUp, WaitRightly, WasSent, machine_after_by}
use Rattle.tp_machine.specs.Machine.{Machine, State, acts, acts_by, machine_after, opened_part, opening_state, refusal, server_fact, server_move}
use Rattle.tp_actor_log.specs.Records.{log_with}
use Rattle.tp_machine.specs.Parts.{Part}
use Rattle.tp_types.specs.Each.{EachAt}
use Rattle.tp_runs.specs.Sound.{IsSound, IsSoundBody, IsSoundQuery}
use Rattle.tp_machine.specs.Named.{IsStepOf}
use Rattle.tp_server.specs.declared.server.Entry.{Entry}
use Rattle.tp_server.specs.Opened as server_opened
use Rattle.tp_server.specs.Row.{server_row}
use Rattle.tp_server.specs.State.{Server}

-- ---- the invariant

abbrev pub IsLockedServer : Scenario → Server → Type 0
IsLockedServer sc s = Locked sc s.entries s.locks

-- the locks of each server that is up
abbrev pub ServersLocked : Scenario → List (Part Server) → Type 0
ServersLocked sc servers = EachAt (λ (n : ℕ) (part : Part Server). IfSome part.up (IsLockedServer sc)) servers

-- ---- steps

-- who asks is told of what exists
asker_placed : (sc : Scenario) (w : State) (n : ℕ) (mail : Mail) (at : ServerId) (part : Part Server) (s : Server) → IsSound sc w → Pairs sc w → WasSent w n mail (actor.Server at) → IsServerUp w at part s → AskerPlaced sc s mail
asker_placed sc w n mail at part s sound pairs sent up =
    let heard : IsSoundBody sc (actor.Server at) mail.letter.body = mail_sound sc w n mail (actor.Server at) sound sent in
    record {
      places = of_some (HasPlaces sc) part.up s up.up (pairs.places at.0 part up.found);
      exists = λ q e. (subst (IsSoundBody sc (actor.Server at)) e heard).txn;
      on_item = λ q query e is.
          let m : IsSoundQuery sc (actor.Server at) q = subst (IsSoundBody sc (actor.Server at)) e heard in
          let same : m.asked ≡ query = same_Some m.asked query (sym m.asked_is ∙ is) in
          subst (λ (x : Query). (item_of x).0 < length sc.items) same (slice_get_within sc.items (item_of m.asked).0 m.kept.declared m.kept.declared_is);
    }

-- an act of a server, whether it was up before it or down, and is up after it or down
pub server_acts_locked : (sc : Scenario) (w : State) (at : ServerId) (part : Part Server) (now : Option Server) (own : List What) (append : Option Record) (letters : List Letter) → ServersLocked sc w.actors.servers → IfSome now (IsLockedServer sc)
    → ServersLocked sc (server_move w.actors at (acts (server_fact at) own part.log now (log_with part.log append) letters)).actors.servers
server_acts_locked sc w at part now own append letters h state =
    let new : Part Server = record { up = now; log = log_with part.log append } in
    at_set (λ (m : ℕ) (p : Part Server). IfSome p.up (IsLockedServer sc)) w.actors.servers at.0 new h state

server_moves_in_locked : (sc : Scenario) (w : State) (n : ℕ) (mail : Mail) (at : ServerId) (part : Part Server) (s : Server) → WaitRightly sc w → IsSound sc w → Pairs sc w → ServersLocked sc w.actors.servers → WasSent w n mail (actor.Server at) → IsServerUp w at part s
    → ServersLocked sc (server_move w.actors at (acts_by (server_fact at) [] part.log (server_row sc s mail))).actors.servers
server_moves_in_locked sc w n mail at part s rightly sound pairs h sent up =
    let effect = server_row sc s mail in
    let row = server_row_locked sc s mail (rightly at part s up) (asker_placed sc w n mail at part s sound pairs sent up) (of_some (IsLockedServer sc) part.up s up.up (h at.0 part up.found)) in
    server_acts_locked sc w at part (Some effect.state) [] effect.reaction.append effect.reaction.letters h row.state

locked_cases : (sc : Scenario) (w : State) → WaitRightly sc w → IsSound sc w → Pairs sc w → ServersLocked sc w.actors.servers → Cases sc w (λ taken move. ServersLocked sc move.actors.servers)
locked_cases sc w rightly sound pairs h =
    record {
      idle = λ taken happened e. h;
      server_received = λ n mail at part s sent up. server_moves_in_locked sc w n mail at part s rightly sound pairs h sent up;
      coordinator_received = λ n mail txn part c sent up. h;
      authority_told = λ n mail sent. h;
      master_told = λ n mail sent. h;
      published = λ admin exists more. h;
      pushed = λ admin server exists there. h;
      ticked = λ by. h;
      revoked = λ cred exists. h;
      begun = λ txn part c exists up new. h;
      timed = λ txn part c exists up begun. h;
    }

-- a step that is not refused keeps what locks keep
pub locked_next : (sc : Scenario) (m : Machine) (taken : Step) → IsStepOf sc taken → KeepsUp taken → refusal m.state taken ≡ None → WaitRightly sc m.state → IsSound sc m.state → Agrees sc m.state → Pairs sc m.state → ServersLocked sc m.state.actors.servers
    → ServersLocked sc (machine_after sc m taken).state.actors.servers
locked_next sc m taken exists stays allowed rightly sound a pairs h =
    machine_after_by sc m (λ taken_is move. ServersLocked sc move.actors.servers) (λ w. ServersLocked sc w.actors.servers) (locked_cases sc m.state rightly sound pairs h) a.coordinator_count
    (λ taken_is move t. t) taken exists stays allowed

-- ---- before the first step

opening_locked : (sc : Scenario) (at : ServerId) → IsLockedServer sc (server_opened.opening sc at)
opening_locked sc at =
    let items = length sc.items in
    record {
      items = length-replicate items [];
      orderly = opening_orderly items;
      deeds = placed_none (EntryLocked (opening items)) (length sc.txns);
      waits = no_locks (LockWaits sc (server_opened.opening sc at).entries) items;
      asks = placed_none (λ (n : ℕ) (entry : Entry). is_some entry.waiting ≡ true → 1 ≤ waiting_on n (opening items).lists) (length sc.txns);
      taken = refl;
      once = λ n. let none : waiting_on n (replicate items []) ≡ 0 = none_on n (replicate items []) (no_locks (λ (item : ℕ) (lock : LockEntry). IsHeldOf n lock) items) in omega (arith, none);
    }

pub locked_opening : (sc : Scenario) → ServersLocked sc (opening_state sc).actors.servers
locked_opening sc n part e =
    at_made (λ (k : ℕ) (found : Part Server). IfSome found.up (IsLockedServer sc)) (λ (k : ℕ). opened_part (server_opened.opening sc (record { 0 = k }))) 0 (length sc.servers)
    (λ k within. opening_locked sc (record { 0 = k })) n part e
