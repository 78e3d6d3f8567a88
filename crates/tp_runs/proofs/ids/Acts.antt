-- What an actor does when it acts keeps its part sound, and gives sound facts and letters; and the actors before the first
-- step are sound.
use Rattle.std.specs.List.{list_any}
use Rattle.std.specs.Option.{option_map_or}
use Rattle.std.proofs.Common.{IfSome, List, None, Option, Some, [], arith, drop, flat_map, length, refl, replicate, slice_get, subst, suc, sym, zero, ℕ, true, ◌++◌, ◌+◌, ◌<◌, ◌∙◌, ◌∷◌, ◌≡◌}
use Rattle.std.proofs.lemmas.Bool.{ltb-true}
use Rattle.std.proofs.lemmas.Option.{same_Some}
use Rattle.tp_types.specs.Effect.{Effect}
use Rattle.tp_lock.specs.declared.entry.LockEntry.{LockEntry}
use Rattle.tp_runs.proofs.basics.Locks.{no_locks}
use Rattle.tp_model.specs.Queries.{is_at_server, servers_from, servers_of}
use Rattle.tp_model.specs.Words.actor
use Rattle.tp_model.specs.Words.body
use Rattle.tp_model.specs.Words.log
use Rattle.tp_model.specs.Words.what
use Rattle.tp_model.specs.Words.{Admin, AdminId, Body, CredId, Letter, Mail, Query, Record, Scenario, ServerDecl, ServerId, Settled, Transaction, TxnId, What}
use Rattle.tp_types.proofs.EachLemmas.{by_cond, each_append, each_drop, each_flat_map, each_get, each_more, each_set, missing, placed_none}
use Rattle.tp_runs.proofs.basics.Stores.{opened_each}
use Rattle.tp_runs.proofs.ids.Coordinator.{IsSoundCoordinatorEffect, coordinator_row_sound, coordinator_with_age_sound, repeats_sound, submit_row_sound}
use Rattle.tp_runs.proofs.ids.Server.{IsSoundServerEffect, server_row_sound, version_of, versions_set}
use Rattle.tp_runs.proofs.ids.Valid.{IsValid}
use Rattle.tp_server.proofs.Rows.{AreRightWaits}
use Rattle.tp_machine.specs.Machine.{PartMove, acts, acts_by, coordinator_fact, opened_part, server_fact, with_age}
use Rattle.tp_actor_log.specs.Records.{log_with}
use Rattle.tp_machine.specs.Parts.{Part}
use Rattle.tp_runs.specs.Sound.{AreCreds, AreVersions, IsSettledOf, IsSoundAuthority, IsSoundBody, IsSoundCoordinatorPart, IsSoundCoordinatorRecord, IsSoundCoordinatorUp, IsSoundDecision, IsSoundEntry, IsSoundLetter, IsSoundMaster, IsSoundRefusal, IsSoundServerPart, IsSoundServerRecord, IsSoundServerUp, IsSoundWhat, IsVersion, IsVersionOf, IsWriteOf}
use Rattle.tp_types.specs.Each.{Each}
use Rattle.tp_machine.specs.Named.{IsActor, IsAdmin, IsCred, IsServer, IsTxn}
use Rattle.tp_coord.specs.Opened as coord
use Rattle.tp_coord.specs.Row.{coordinator_row, repeats, submit_row}
use Rattle.tp_coord.specs.State.{Coordinator}
use Rattle.tp_server.specs.declared.server.Entry.{Entry}
use Rattle.tp_server.specs.Opened as server
use Rattle.tp_server.specs.Row.{server_row}
use Rattle.tp_server.specs.State.{Server}
use Rattle.tp_offices.specs.Authority as office
use Rattle.tp_offices.specs.Master as master
use Rattle.tp_offices.specs.declared.authority.Authority.{Authority}
use Rattle.tp_offices.specs.declared.master.Master.{Master}

-- ---- what all actors share

-- what an act leaves for the history is sound
pub record IsSoundAct (sc : Scenario) (happened : List What) (letters : List Letter) : Type 0 where
  pub facts_are : Each (IsSoundWhat sc) happened
  pub letters_are : Each (IsSoundLetter sc) letters

-- the log with a sound record is sound
log_sound : (P : Record → Type 0) (kept : List Record) (append : Option Record) → Each P kept → IfSome append P → Each P (log_with kept append)
log_sound P kept None h p = h
log_sound P kept (Some forced) h p = each_more P kept forced h p

-- the step's own facts and those of the records that the log gained are sound
facts_sound : (sc : Scenario) (P : Record → Type 0) (fact : Record → List What) (own : List What) (old kept : List Record)
    → ((forced : Record) → P forced → Each (IsSoundWhat sc) (fact forced)) → Each (IsSoundWhat sc) own → Each P kept
    → Each (IsSoundWhat sc) (own ++ flat_map fact (drop (length old) kept))
facts_sound sc P fact own old kept tells o k =
    each_append (IsSoundWhat sc) own (flat_map fact (drop (length old) kept)) o
    (each_flat_map P (IsSoundWhat sc) fact tells (drop (length old) kept) (each_drop P (length old) kept k))

-- ---- servers

-- a server's part after it acted, and what it left
pub record IsSoundServerMove (sc : Scenario) (at : ServerId) (move : PartMove Server) : Type 0 where
  pub part_is : IsSoundServerPart sc at move.part
  pub left : IsSoundAct sc move.happened move.letters

server_fact_sound : (sc : Scenario) (at : ServerId) → IsServer sc at → (forced : Record) → IsSoundServerRecord sc at forced → Each (IsSoundWhat sc) (server_fact at forced)
server_fact_sound sc at exists (log.Settled settled) h = ((exists, h.txn), tt)
server_fact_sound sc at exists _ h = tt

-- what an act of a server leaves and says: its state, where it is up after it, what it forced if anything, what the step says by
-- itself, and letters
pub record IsSoundServerAct (sc : Scenario) (at : ServerId) (now : Option Server) (own : List What) (append : Option Record) (letters : List Letter) : Type 0 where
  pub state_is : IfSome now (IsSoundServerUp sc at)
  pub own_are : Each (IsSoundWhat sc) own
  pub forces : IfSome append (IsSoundServerRecord sc at)
  pub sends_only : Each (IsSoundLetter sc) letters

-- such an act, of a server that was up or down before it
pub server_acts_sound : (sc : Scenario) (at : ServerId) (part : Part Server) (now : Option Server) (own : List What) (append : Option Record) (letters : List Letter) → IsSoundServerPart sc at part
    → IsSoundServerAct sc at now own append letters → IsSoundServerMove sc at (acts (server_fact at) own part.log now (log_with part.log append) letters)
server_acts_sound sc at part now own append letters h e =
    let longer : Each (IsSoundServerRecord sc at) (log_with part.log append) = log_sound (IsSoundServerRecord sc at) part.log append h.records e.forces in
    record {
      part_is = record { exists = h.exists; state = e.state_is; records = longer };
      left = record {
        facts_are = facts_sound sc (IsSoundServerRecord sc at) (server_fact at) own part.log (log_with part.log append) (server_fact_sound sc at h.exists) e.own_are longer;
        letters_are = e.sends_only;
      };
    }

-- the row of a server that is up, on a mail to it
pub server_row_acts : (sc : Scenario) (at : ServerId) (part : Part Server) (s : Server) (mail : Mail) → IsValid sc → AreRightWaits sc s → IsSoundServerPart sc at part → part.up ≡ Some s → IsSoundBody sc (actor.Server at) mail.letter.body
    → IsSoundServerAct sc at (Some (server_row sc s mail).state) [] (server_row sc s mail).reaction.append (server_row sc s mail).reaction.letters
server_row_acts sc at part s mail valid waits h e m =
    let state : IsSoundServerUp sc at s = subst (λ (up : Option Server). IfSome up (IsSoundServerUp sc at)) e h.state in
    let effect = server_row sc s mail in
    let row : IsSoundServerEffect sc s effect = server_row_sound sc s mail valid waits state.sound (subst (λ (to : ServerId). IsSoundBody sc (actor.Server to) mail.letter.body) (sym state.server_is) m) in
    record {
      state_is = record { server_is = row.same_server ∙ state.server_is; sound = row.state_is };
      own_are = tt;
      forces = subst (λ (to : ServerId). IfSome effect.reaction.append (IsSoundServerRecord sc to)) state.server_is row.forces;
      sends_only = row.sends_only;
    }

-- a server that is up and receives a mail to it
pub server_receipt_sound : (sc : Scenario) (at : ServerId) (part : Part Server) (s : Server) (mail : Mail) → IsValid sc → AreRightWaits sc s → IsSoundServerPart sc at part → part.up ≡ Some s
    → IsSoundBody sc (actor.Server at) mail.letter.body → IsSoundServerMove sc at (acts_by (server_fact at) [] part.log (server_row sc s mail))
server_receipt_sound sc at part s mail valid waits h e m =
    let effect = server_row sc s mail in
    server_acts_sound sc at part (Some effect.state) [] effect.reaction.append effect.reaction.letters h (server_row_acts sc at part s mail valid waits h e m)

-- ---- coordinators

-- a coordinator's part after it acted, and what it left
pub record IsSoundCoordinatorMove (sc : Scenario) (txn : TxnId) (move : PartMove Coordinator) : Type 0 where
  pub part_is : IsSoundCoordinatorPart sc txn move.part
  pub left : IsSoundAct sc move.happened move.letters

coordinator_fact_sound : (sc : Scenario) (txn : TxnId) → IsTxn sc txn → (forced : Record) → IsSoundCoordinatorRecord sc txn forced → Each (IsSoundWhat sc) (coordinator_fact forced)
coordinator_fact_sound sc txn exists (log.Decided d) h =
    ((subst (IsTxn sc) (sym h.txn_is) exists, subst (λ (t : TxnId). IsSoundDecision sc t d.decision) (sym h.txn_is) h.rests_on), tt)
coordinator_fact_sound sc txn exists _ h = tt

-- what an act of a coordinator leaves and says: its state, where it is up after it, what it forced if anything, what the step says by
-- itself, and letters
pub record IsSoundCoordinatorAct (sc : Scenario) (txn : TxnId) (now : Option Coordinator) (own : List What) (append : Option Record) (letters : List Letter) : Type 0 where
  pub state_is : IfSome now (IsSoundCoordinatorUp sc txn)
  pub own_are : Each (IsSoundWhat sc) own
  pub forces : IfSome append (IsSoundCoordinatorRecord sc txn)
  pub sends_only : Each (IsSoundLetter sc) letters

-- such an act, of a coordinator that was up or down before it
pub coordinator_acts_sound : (sc : Scenario) (txn : TxnId) (part : Part Coordinator) (now : Option Coordinator) (own : List What) (append : Option Record) (letters : List Letter) → IsSoundCoordinatorPart sc txn part
    → IsSoundCoordinatorAct sc txn now own append letters → IsSoundCoordinatorMove sc txn (acts coordinator_fact own part.log now (log_with part.log append) letters)
coordinator_acts_sound sc txn part now own append letters h e =
    let longer : Each (IsSoundCoordinatorRecord sc txn) (log_with part.log append) = log_sound (IsSoundCoordinatorRecord sc txn) part.log append h.records e.forces in
    record {
      part_is = record { exists = h.exists; state = e.state_is; records = longer };
      left = record {
        facts_are = facts_sound sc (IsSoundCoordinatorRecord sc txn) coordinator_fact own part.log (log_with part.log append) (coordinator_fact_sound sc txn h.exists) e.own_are longer;
        letters_are = e.sends_only;
      };
    }

-- a row of a coordinator that is up is such an act
coordinator_row_acts : (sc : Scenario) (txn : TxnId) (c : Coordinator) (own : List What) (effect : Effect Coordinator) → c.txn ≡ txn → Each (IsSoundWhat sc) own → IsSoundCoordinatorEffect sc c effect
    → IsSoundCoordinatorAct sc txn (Some effect.state) own effect.reaction.append effect.reaction.letters
coordinator_row_acts sc txn c own effect same told e =
    record {
      state_is = record { txn_is = e.same_txn ∙ same; sound = e.state_is };
      own_are = told;
      forces = subst (λ (to : TxnId). IfSome effect.reaction.append (IsSoundCoordinatorRecord sc to)) same e.forces;
      sends_only = e.sends_only;
    }

-- the row of a coordinator that is up, on a mail to it
pub coordinator_receives : (sc : Scenario) (txn : TxnId) (part : Part Coordinator) (c : Coordinator) (mail : Mail) → IsValid sc → IsSoundCoordinatorPart sc txn part → part.up ≡ Some c → IsActor sc mail.letter.from
    → IsSoundRefusal sc mail.letter.from mail.letter.body → IsSoundBody sc (actor.Coordinator txn) mail.letter.body
    → IsSoundCoordinatorAct sc txn (Some (coordinator_row sc c mail).state) [] (coordinator_row sc c mail).reaction.append (coordinator_row sc c mail).reaction.letters
coordinator_receives sc txn part c mail valid h e a r m =
    let state : IsSoundCoordinatorUp sc txn c = subst (λ (up : Option Coordinator). IfSome up (IsSoundCoordinatorUp sc txn)) e h.state in
    let said : IsSoundBody sc (actor.Coordinator c.txn) mail.letter.body = subst (λ (to : TxnId). IsSoundBody sc (actor.Coordinator to) mail.letter.body) (sym state.txn_is) m in
    coordinator_row_acts sc txn c [] (coordinator_row sc c mail) state.txn_is tt (coordinator_row_sound sc c mail valid state.sound a r said)

-- a coordinator that is up and receives a mail to it
pub coordinator_receipt_sound : (sc : Scenario) (txn : TxnId) (part : Part Coordinator) (c : Coordinator) (mail : Mail) → IsValid sc → IsSoundCoordinatorPart sc txn part → part.up ≡ Some c
    → IsActor sc mail.letter.from → IsSoundRefusal sc mail.letter.from mail.letter.body → IsSoundBody sc (actor.Coordinator txn) mail.letter.body → IsSoundCoordinatorMove sc txn (acts_by coordinator_fact [] part.log (coordinator_row sc c mail))
coordinator_receipt_sound sc txn part c mail valid h e a r m =
    let effect = coordinator_row sc c mail in
    coordinator_acts_sound sc txn part (Some effect.state) [] effect.reaction.append effect.reaction.letters h (coordinator_receives sc txn part c mail valid h e a r m)

with_age_sound : (sc : Scenario) (c : Coordinator) (effect : Effect Coordinator) (place : ℕ) → IsSoundCoordinatorEffect sc c effect → IsSoundCoordinatorEffect sc c (with_age effect place)
with_age_sound sc c effect place e =
    record { same_txn = e.same_txn; state_is = coordinator_with_age_sound sc effect.state place e.state_is; forces = e.forces; sends_only = e.sends_only }

-- a coordinator that is up and whose transaction is submitted
pub coordinator_begun_sound : (sc : Scenario) (txn : TxnId) (part : Part Coordinator) (c : Coordinator) (place : ℕ) → IsValid sc → IsSoundCoordinatorPart sc txn part → part.up ≡ Some c
    → IsSoundCoordinatorMove sc txn (acts_by coordinator_fact (what.Submitted txn ∷ []) part.log (with_age (submit_row sc c) place))
coordinator_begun_sound sc txn part c place valid h e =
    let state : IsSoundCoordinatorUp sc txn c = subst (λ (up : Option Coordinator). IfSome up (IsSoundCoordinatorUp sc txn)) e h.state in
    let effect = with_age (submit_row sc c) place in
    coordinator_acts_sound sc txn part (Some effect.state) (what.Submitted txn ∷ []) effect.reaction.append effect.reaction.letters h
    (coordinator_row_acts sc txn c (what.Submitted txn ∷ []) effect state.txn_is (h.exists, tt) (with_age_sound sc c (submit_row sc c) place (submit_row_sound sc c valid state.sound)))

-- what a coordinator that is up sends again
pub coordinator_repeats_sound : (sc : Scenario) (txn : TxnId) (part : Part Coordinator) (c : Coordinator) → IsValid sc → IsSoundCoordinatorPart sc txn part → part.up ≡ Some c
    → Each (IsSoundLetter sc) (repeats sc c c.phase)
coordinator_repeats_sound sc txn part c valid h e =
    let state : IsSoundCoordinatorUp sc txn c = subst (λ (up : Option Coordinator). IfSome up (IsSoundCoordinatorUp sc txn)) e h.state in
    repeats_sound sc c valid state.sound

-- ---- the authority

-- the places that have an id give the revocations
revocations_sound : (sc : Scenario) (places : List (Option CredId)) → Each (λ (place : Option CredId). IfSome place (IsCred sc)) places → AreCreds sc (office.revocations places)
revocations_sound sc [] h = tt
revocations_sound sc (None ∷ places) h = revocations_sound sc places h.1
revocations_sound sc (Some cred ∷ places) h = (h.0, revocations_sound sc places h.1)

pub revoked_sound : (sc : Scenario) (authority : Authority) (cred : CredId) → IsSoundAuthority sc authority → IsCred sc cred → IsSoundAuthority sc (office.after_revocation cred authority)
revoked_sound sc authority cred h exists = each_set (λ (place : Option CredId). IfSome place (IsCred sc)) authority.revoked cred.0 (Some cred) h exists

-- before the first step nothing is revoked
pub none_sound : (sc : Scenario) (count : ℕ) → Each (λ (place : Option CredId). IfSome place (IsCred sc)) (replicate count None)
none_sound sc zero = tt
none_sound sc (suc count) = (tt, none_sound sc count)

told_sound : (sc : Scenario) (authority : Authority) (said : Body) → IsSoundAuthority sc authority → IsSoundBody sc actor.Authority said
    → Each (IsSoundLetter sc) (office.on_body authority said).reaction.letters
told_sound sc authority (body.Ask ask) h m =
    (record { from_is_actor = tt; to_is_actor = m.txn; says = record { txn = m.txn; goes_to = refl; revoked = revocations_sound sc authority.revoked h }; refuses = tt }, tt)
told_sound sc authority _ h m = tt

-- what the authority sends on receipt of a mail to it
pub authority_sends_sound : (sc : Scenario) (authority : Authority) (mail : Mail) → IsSoundAuthority sc authority → IsSoundBody sc actor.Authority mail.letter.body
    → Each (IsSoundLetter sc) (office.authority_row authority mail).reaction.letters
authority_sends_sound sc authority mail h m = told_sound sc authority mail.letter.body h m

-- ---- the master

newest_sound : (sc : Scenario) (held : Master) (said : Body) → IsSoundMaster sc held → IsSoundBody sc actor.Master said → Each (IsSoundLetter sc) (master.on_body held said).reaction.letters
newest_sound sc held (body.Probe probe) h m = (record { from_is_actor = tt; to_is_actor = m.txn; says = record { txn = m.txn; goes_to = refl; newest = h.newest }; refuses = tt }, tt)
newest_sound sc held _ h m = tt

-- what the master sends on receipt of a mail to it
pub master_sends_sound : (sc : Scenario) (held : Master) (mail : Mail) → IsSoundMaster sc held → IsSoundBody sc actor.Master mail.letter.body
    → Each (IsSoundLetter sc) (master.master_row held mail).reaction.letters
master_sends_sound sc held mail h m = newest_sound sc held mail.letter.body h m

-- a version that is published exists, as the library has more
pub published_exists : (sc : Scenario) (held : Master) (admin : AdminId) → IsSoundMaster sc held → IsAdmin sc admin → master.has_more held admin ≡ true → IsVersion sc admin (master.next_of held admin)
published_exists sc held admin h within more =
    let last = version_of sc.admins held.last admin.0 (record { 0 = 0 }) h.last within in
    let below : (master.version_for held.newest admin).0 < (master.version_for held.last admin).0 = ltb-true (master.version_for held.newest admin).0 (master.version_for held.last admin).0 more in
    record { declared = last.0; declared_is = last.1; in_library = (omega arith, omega (arith, below, last.2.1)) }

-- so the master stays sound
pub published_sound : (sc : Scenario) (held : Master) (admin : AdminId) → IsSoundMaster sc held → IsVersion sc admin (master.next_of held admin) → IsSoundMaster sc (master.after_publication admin held)
published_sound sc held admin h v =
    record {
      newest = versions_set sc.admins held.newest admin.0 (master.next_of held admin) h.newest
          (λ declared e. subst (λ (a : Admin). IsVersionOf a (master.next_of held admin)) (same_Some v.declared declared (sym v.declared_is ∙ e)) v.in_library);
      last = h.last;
    }

-- a version that is pushed exists
pub pushes_sound : (sc : Scenario) (held : Master) (admin : AdminId) (server : ServerId) → IsSoundMaster sc held → IsAdmin sc admin → IsServer sc server → Each (IsSoundLetter sc) (master.pushes held admin server).reaction.letters
pushes_sound sc held admin server h within exists =
    let newest = version_of sc.admins held.newest admin.0 (record { 0 = 0 }) h.newest within in
    (record { from_is_actor = tt; to_is_actor = exists; says = record { goes_to = tt; version = record { declared = newest.0; declared_is = newest.1; in_library = newest.2 } }; refuses = tt }, tt)

-- ---- before the first step

pub known_sound : (sc : Scenario) (at : ServerId) (declared : Option ServerDecl) → IsValid sc → IsServer sc at → slice_get sc.servers at.0 ≡ declared
    → AreVersions sc (option_map_or (λ (d : ServerDecl). d.knows) declared [])
known_sound sc at (Some declared) valid exists e = each_get (λ (d : ServerDecl). AreVersions sc d.knows) sc.servers at.0 declared valid.servers e
known_sound sc at None valid exists e = absurd (missing sc.servers at.0 exists e)

pub server_opening_sound : (sc : Scenario) (at : ServerId) → IsValid sc → IsServer sc at → IsSoundServerPart sc at (opened_part (server.opening sc at))
server_opening_sound sc at valid exists =
    record {
      exists = exists;
      state = record {
        server_is = refl;
        sound = record {
          exists = exists;
          known = known_sound sc at (slice_get sc.servers at.0) valid exists refl;
          writes = opened_each (IsWriteOf sc at) (server.opening sc at).store (length sc.txns) refl;
          settled = placed_none (λ (n : ℕ) (found : Settled). IsSettledOf sc at (record { 0 = n }) found) (length sc.txns);
          entries = placed_none (λ (n : ℕ) (found : Entry). IsSoundEntry sc at (record { 0 = n }) found) (length sc.txns);
          locks = no_locks (λ (item : ℕ) (lock : LockEntry). IsTxn sc lock.owner) (length sc.items);
        };
      };
      records = tt;
    }

-- the servers that a walk over a scenario's servers finds
servers_from_sound : (sc : Scenario) (queries : List Query) (low left : ℕ) → low + left ≡ length sc.servers → Each (IsServer sc) (servers_from sc queries low left)
servers_from_sound sc queries low zero e = tt
servers_from_sound sc queries low (suc left) e =
    let later : Each (IsServer sc) (servers_from sc queries (low + 1) left) = servers_from_sound sc queries (low + 1) left (omega (arith, e)) in
    by_cond (Each (IsServer sc)) (list_any (is_at_server sc low) queries) (λ here. (omega (arith, e), later)) (λ not_here. later)

pub servers_at_sound : (sc : Scenario) (declared : Option Transaction) → Each (IsServer sc) (option_map_or (servers_of sc) declared [])
servers_at_sound sc (Some declared) = servers_from_sound sc declared.queries 0 (length sc.servers) (omega arith)
servers_at_sound sc None = tt

pub coordinator_idle_sound : (sc : Scenario) (txn : TxnId) → IsTxn sc txn → IsSoundCoordinatorPart sc txn (opened_part (coord.idle sc txn))
coordinator_idle_sound sc txn exists =
    record {
      exists = exists;
      state = record {
        txn_is = refl;
        sound = record {
          exists = exists;
          servers = servers_at_sound sc (slice_get sc.txns txn.0);
          deeds = tt;
          gathered = tt;
          instances = tt;
          awaits = tt;
        };
      };
      records = tt;
    }
