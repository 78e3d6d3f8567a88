-- One walk of a step after which each actor is up or down as it was: what a theorem shows of each kind of these it shows of all. A new kind
-- of step is a new field here, and a field of each theorem's cases. Crashes and boots have a walk of their own.
use Rattle.std.proofs.Common.{◌≡◌, ℕ, List, [], ◌∷◌, length, slice_get, Bool, true, false, Option, Some, None, is_none, if◌then◌else◌, refl, sym, subst, arith}
use Rattle.std.specs.Option.{option_map_or, option_or}
use Rattle.tp_model.specs.Words.{Actor, AdminId, CredId, Mail, Scenario, ServerId, Step, TxnId, What}
use Rattle.tp_model.specs.Words.actor
use Rattle.tp_model.specs.Words.step
use Rattle.tp_model.specs.Words.what
use Rattle.tp_coord.specs.State.{Coordinator}
use Rattle.tp_machine.specs.declared.error.StepError.{StepError}
use Rattle.tp_machine.specs.declared.error.StepError.TheVariants as error
use Rattle.tp_machine.specs.Parts.{Part}
use Rattle.tp_server.specs.State.{Server}
use Rattle.tp_machine.specs.Machine.{Machine, Move, State, acts_by, coordinator_fact, coordinator_move, coordinator_submits_up, coordinator_takes_up, delivery, idle_move, is_down, is_part_down, is_part_submitted, is_submitted, machine_after, publishes, pushes, receipt, refusal, repeats_of, revokes, server_fact, server_move, server_takes_up, state_after, submission, submission_by, ticks, times, to_authority, to_coordinator, to_master, to_server, with_age}
use Rattle.tp_machine.specs.Named.{IsAdmin, IsCred, IsServer, IsStepOf, IsTxn}
use Rattle.tp_server.proofs.Rows.{AreRightWaits}
use Rattle.tp_coord.specs.Row.{coordinator_row, is_begun, repeats, submit_row}
use Rattle.tp_server.specs.Row.{server_row}
use Rattle.tp_offices.specs.Master as master
use Rattle.tp_runs.proofs.basics.Logs.{set_same}
use Rattle.tp_types.proofs.EachLemmas.{missing, not_kept}

-- what a step says in which no actor acts: a loss is noted, and a delivery to an actor that is down or not there leaves nothing
abbrev pub SaysIdle : Step → List What → Type 0
SaysIdle (step.Deliver mail) happened = happened ≡ []
SaysIdle (step.Lose mail) happened = happened ≡ what.Lost mail ∷ []
SaysIdle _ happened = ⊥

-- a mail of this number was sent, to this actor
pub record WasSent (w : State) (n : ℕ) (mail : Mail) (to : Actor) : Type 0 where
  pub sent : slice_get w.mails n ≡ Some mail
  pub goes_to : mail.letter.to ≡ to

-- a server stands at its place, and is up
pub record IsServerUp (w : State) (at : ServerId) (part : Part Server) (s : Server) : Type 0 where
  pub found : slice_get w.actors.servers at.0 ≡ Some part
  pub up : part.up ≡ Some s

-- at each server that is up all queries that wait do so rightly
abbrev pub WaitRightly : Scenario → State → Type 0
WaitRightly sc w = (at : ServerId) (part : Part Server) (s : Server) → IsServerUp w at part s → AreRightWaits sc s

-- a coordinator stands at its place, and is up
pub record IsCoordinatorUp (w : State) (txn : TxnId) (part : Part Coordinator) (c : Coordinator) : Type 0 where
  pub found : slice_get w.actors.coordinators txn.0 ≡ Some part
  pub up : part.up ≡ Some c

-- after the step each actor is up or down as it was: it crashes none and boots none
abbrev pub KeepsUp : Step → Type 0
KeepsUp (step.Crash who cut) = ⊥
KeepsUp (step.Boot who) = ⊥
KeepsUp _ = Unit {0}

-- what is to be shown of the kinds of these steps: P of the step and of its move
pub record Cases (sc : Scenario) (w : State) (P : Step → Move → Type 0) : Type 0 where
  pub idle : (taken : Step) (happened : List What) → SaysIdle taken happened → P taken (idle_move w.actors happened)
  pub server_received : (n : ℕ) (mail : Mail) (at : ServerId) (part : Part Server) (s : Server) → WasSent w n mail (actor.Server at) → IsServerUp w at part s
      → P (step.Deliver n) (server_move w.actors at (acts_by (server_fact at) [] part.log (server_row sc s mail)))
  pub coordinator_received : (n : ℕ) (mail : Mail) (txn : TxnId) (part : Part Coordinator) (c : Coordinator) → WasSent w n mail (actor.Coordinator txn) → IsCoordinatorUp w txn part c
      → P (step.Deliver n) (coordinator_move w.actors txn (acts_by coordinator_fact [] part.log (coordinator_row sc c mail)))
  pub authority_told : (n : ℕ) (mail : Mail) → WasSent w n mail actor.Authority → P (step.Deliver n) (to_authority w.actors mail)
  pub master_told : (n : ℕ) (mail : Mail) → WasSent w n mail actor.Master → P (step.Deliver n) (to_master w.actors mail)
  pub published : (admin : AdminId) → IsAdmin sc admin → master.has_more w.actors.master admin ≡ true → P (step.Publish admin) (publishes w.actors admin)
  pub pushed : (admin : AdminId) (server : ServerId) → IsAdmin sc admin → IsServer sc server → P (step.Push admin server) (pushes w.actors admin server)
  pub ticked : (by : ℕ) → P (step.Tick by) (ticks w.actors by)
  pub revoked : (cred : CredId) → IsCred sc cred → P (step.Revoke cred) (revokes w.actors cred)
  pub begun : (txn : TxnId) (part : Part Coordinator) (c : Coordinator) → IsTxn sc txn → IsCoordinatorUp w txn part c → is_part_submitted (Some c) ≡ false
      → P (step.Submit txn) (coordinator_move w.actors txn (acts_by coordinator_fact (what.Submitted txn ∷ []) part.log (with_age (submit_row sc c) (length w.steps))))
  -- a timer fires, and the coordinator's outstanding request is sent again
  pub timed : (txn : TxnId) (part : Part Coordinator) (c : Coordinator) → IsTxn sc txn → IsCoordinatorUp w txn part c → is_begun c.phase ≡ true
      → P (step.Timer txn) (record { actors = w.actors; happened = []; letters = repeats sc c c.phase })

-- ---- receipts

server_by_up : (sc : Scenario) (w : State) (P : Step → Move → Type 0) → Cases sc w P → (n : ℕ) (mail : Mail) (at : ServerId) (part : Part Server) (up : Option Server)
    → WasSent w n mail (actor.Server at) → slice_get w.actors.servers at.0 ≡ Some part → part.up ≡ up → P (step.Deliver n) (server_move w.actors at (server_takes_up sc at part mail up))
server_by_up sc w P cases n mail at part None sent found e =
    subst (λ (servers : List (Part Server)). P (step.Deliver n) (record { actors = record w.actors { servers = servers }; happened = []; letters = [] }))
    (sym (set_same w.actors.servers at.0 part found)) (cases.idle (step.Deliver n) [] refl)
server_by_up sc w P cases n mail at part (Some s) sent found e = cases.server_received n mail at part s sent (record { found = found; up = e })

server_by_part : (sc : Scenario) (w : State) (P : Step → Move → Type 0) → Cases sc w P → (n : ℕ) (mail : Mail) (at : ServerId) (part : Option (Part Server))
    → WasSent w n mail (actor.Server at) → slice_get w.actors.servers at.0 ≡ part → P (step.Deliver n) (to_server sc w.actors mail at part)
server_by_part sc w P cases n mail at None sent e = cases.idle (step.Deliver n) [] refl
server_by_part sc w P cases n mail at (Some part) sent e = server_by_up sc w P cases n mail at part part.up sent e refl

coordinator_by_up : (sc : Scenario) (w : State) (P : Step → Move → Type 0) → Cases sc w P → (n : ℕ) (mail : Mail) (txn : TxnId) (part : Part Coordinator) (up : Option Coordinator)
    → WasSent w n mail (actor.Coordinator txn) → slice_get w.actors.coordinators txn.0 ≡ Some part → part.up ≡ up
    → P (step.Deliver n) (coordinator_move w.actors txn (coordinator_takes_up sc part mail up))
coordinator_by_up sc w P cases n mail txn part None sent found e =
    subst (λ (coordinators : List (Part Coordinator)). P (step.Deliver n) (record { actors = record w.actors { coordinators = coordinators }; happened = []; letters = [] }))
    (sym (set_same w.actors.coordinators txn.0 part found)) (cases.idle (step.Deliver n) [] refl)
coordinator_by_up sc w P cases n mail txn part (Some c) sent found e = cases.coordinator_received n mail txn part c sent (record { found = found; up = e })

coordinator_by_part : (sc : Scenario) (w : State) (P : Step → Move → Type 0) → Cases sc w P → (n : ℕ) (mail : Mail) (txn : TxnId) (part : Option (Part Coordinator))
    → WasSent w n mail (actor.Coordinator txn) → slice_get w.actors.coordinators txn.0 ≡ part → P (step.Deliver n) (to_coordinator sc w.actors mail txn part)
coordinator_by_part sc w P cases n mail txn None sent e = cases.idle (step.Deliver n) [] refl
coordinator_by_part sc w P cases n mail txn (Some part) sent e = coordinator_by_up sc w P cases n mail txn part part.up sent e refl

receipt_by : (sc : Scenario) (w : State) (P : Step → Move → Type 0) → Cases sc w P → (n : ℕ) (mail : Mail) (to : Actor) → WasSent w n mail to → P (step.Deliver n) (receipt sc w.actors mail to)
receipt_by sc w P cases n mail (actor.Server at) sent = server_by_part sc w P cases n mail at (slice_get w.actors.servers at.0) sent refl
receipt_by sc w P cases n mail (actor.Coordinator txn) sent = coordinator_by_part sc w P cases n mail txn (slice_get w.actors.coordinators txn.0) sent refl
receipt_by sc w P cases n mail actor.Authority sent = cases.authority_told n mail sent
receipt_by sc w P cases n mail actor.Master sent = cases.master_told n mail sent

delivery_by : (sc : Scenario) (w : State) (P : Step → Move → Type 0) → Cases sc w P → (n : ℕ) (found : Option Mail) → slice_get w.mails n ≡ found → P (step.Deliver n) (delivery sc w.actors found)
delivery_by sc w P cases n None e = cases.idle (step.Deliver n) [] refl
delivery_by sc w P cases n (Some mail) e = receipt_by sc w P cases n mail mail.letter.to (record { sent = e; goes_to = refl })

-- ---- submissions

begun_by_up : (sc : Scenario) (w : State) (P : Step → Move → Type 0) → Cases sc w P → (txn : TxnId) (part : Part Coordinator) (up : Option Coordinator) → IsTxn sc txn
    → slice_get w.actors.coordinators txn.0 ≡ Some part → part.up ≡ up → is_part_submitted up ≡ false
    → P (step.Submit txn) (coordinator_move w.actors txn (coordinator_submits_up sc part txn (length w.steps) up))
begun_by_up sc w P cases txn part None exists found e new = absurd (cc)
begun_by_up sc w P cases txn part (Some c) exists found e new = cases.begun txn part c exists (record { found = found; up = e }) new

submission_by_part : (sc : Scenario) (w : State) (P : Step → Move → Type 0) → Cases sc w P → (txn : TxnId) (part : Option (Part Coordinator)) → length w.actors.coordinators ≡ length sc.txns → IsTxn sc txn
    → slice_get w.actors.coordinators txn.0 ≡ part → option_map_or (λ (p : Part Coordinator). is_part_submitted p.up) part false ≡ false
    → P (step.Submit txn) (submission_by sc w.actors txn (length w.steps) part)
submission_by_part sc w P cases txn None count exists e new = absurd (missing w.actors.coordinators txn.0 (omega (arith, exists, count)) e)
submission_by_part sc w P cases txn (Some part) count exists e new = begun_by_up sc w P cases txn part part.up exists e refl new

-- ---- timers

-- a timer that is not refused is of a transaction that was submitted, and whose coordinator is up
is_timed : (begun down : Bool) (one other : StepError) → option_or (if begun then None else Some one) (if down then Some other else None) ≡ None → (begun ≡ true) × (down ≡ false)
is_timed true false one other e = (refl, refl)
is_timed true true one other e = absurd (cc)
is_timed false down one other e = absurd (cc)

timed_by_up : (sc : Scenario) (w : State) (P : Step → Move → Type 0) → Cases sc w P → (txn : TxnId) (part : Part Coordinator) (up : Option Coordinator) → IsTxn sc txn
    → slice_get w.actors.coordinators txn.0 ≡ Some part → part.up ≡ up → is_part_submitted up ≡ true → is_none up ≡ false
    → P (step.Timer txn) (record { actors = w.actors; happened = []; letters = repeats_of sc up })
timed_by_up sc w P cases txn part None exists found e submitted running = absurd (cc)
timed_by_up sc w P cases txn part (Some c) exists found e submitted running = cases.timed txn part c exists (record { found = found; up = e }) submitted

timed_by_part : (sc : Scenario) (w : State) (P : Step → Move → Type 0) → Cases sc w P → (txn : TxnId) (part : Option (Part Coordinator)) → length w.actors.coordinators ≡ length sc.txns → IsTxn sc txn
    → slice_get w.actors.coordinators txn.0 ≡ part → option_map_or (λ (p : Part Coordinator). is_part_submitted p.up) part false ≡ true → option_map_or is_part_down part false ≡ false
    → P (step.Timer txn) (record { actors = w.actors; happened = []; letters = option_map_or (λ (p : Part Coordinator). repeats_of sc p.up) part [] })
timed_by_part sc w P cases txn None count exists e submitted running = absurd (missing w.actors.coordinators txn.0 (omega (arith, exists, count)) e)
timed_by_part sc w P cases txn (Some part) count exists e submitted running = timed_by_up sc w P cases txn part part.up exists e refl submitted running

-- ---- publications

-- what is not refused meets its condition, as a publication that finds a version in the library
pub is_met : (b : Bool) (why : StepError) → (if b then None else Some why) ≡ None → b ≡ true
is_met true why e = refl
is_met false why e = absurd (cc)

-- ---- steps

-- what is shown of each case holds of the state after any of these steps that is not refused
pub machine_after_by : (sc : Scenario) (m : Machine) (P : Step → Move → Type 0) (Q : State → Type 0) → Cases sc m.state P → length m.state.actors.coordinators ≡ length sc.txns
    → ((taken : Step) (move : Move) → P taken move → Q (state_after m.state taken move))
    → (taken : Step) → IsStepOf sc taken → KeepsUp taken → refusal m.state taken ≡ None → Q (machine_after sc m taken).state
machine_after_by sc m P Q cases count ends (step.Submit txn) exists stays allowed =
    ends (step.Submit txn) (submission sc m.state.actors txn (length m.state.steps))
    (submission_by_part sc m.state P cases txn (slice_get m.state.actors.coordinators txn.0) count exists refl (not_kept (error.AlreadySubmitted txn) (is_submitted m.state.actors txn) allowed))
machine_after_by sc m P Q cases count ends (step.Deliver mail) exists stays allowed =
    ends (step.Deliver mail) (delivery sc m.state.actors (slice_get m.state.mails mail)) (delivery_by sc m.state P cases mail (slice_get m.state.mails mail) refl)
machine_after_by sc m P Q cases count ends (step.Lose mail) exists stays allowed =
    ends (step.Lose mail) (idle_move m.state.actors (what.Lost mail ∷ [])) (cases.idle (step.Lose mail) (what.Lost mail ∷ []) refl)
machine_after_by sc m P Q cases count ends (step.Publish admin) exists stays allowed =
    ends (step.Publish admin) (publishes m.state.actors admin) (cases.published admin exists (is_met (master.has_more m.state.actors.master admin) (error.NoMore admin) allowed))
machine_after_by sc m P Q cases count ends (step.Push admin server) exists stays allowed =
    ends (step.Push admin server) (pushes m.state.actors admin server) (cases.pushed admin server exists.0 exists.1)
machine_after_by sc m P Q cases count ends (step.Tick by) exists stays allowed = ends (step.Tick by) (ticks m.state.actors by) (cases.ticked by)
machine_after_by sc m P Q cases count ends (step.Revoke cred) exists stays allowed = ends (step.Revoke cred) (revokes m.state.actors cred) (cases.revoked cred exists)
machine_after_by sc m P Q cases count ends (step.Timer txn) exists stays allowed =
    let parts = is_timed (is_submitted m.state.actors txn) (is_down m.state.actors (actor.Coordinator txn)) (error.NotSubmitted txn) (error.IsDown (actor.Coordinator txn)) allowed in
    ends (step.Timer txn) (times sc m.state.actors txn) (timed_by_part sc m.state P cases txn (slice_get m.state.actors.coordinators txn.0) count exists refl parts.0 parts.1)
machine_after_by sc m P Q cases count ends (step.Crash who cut) exists stays allowed = absurd stays
machine_after_by sc m P Q cases count ends (step.Boot who) exists stays allowed = absurd stays
