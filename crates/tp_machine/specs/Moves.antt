-- Whose step it is, what it does to all actors, and what it has that actor force.
use Rattle.std.specs.Prelude.{◌≡◌, ◌≢◌, ℕ, ◌+◌, List, [], ◌∷◌, length, slice_get, Option, Some, None, option_and_then, option_map}
use Rattle.tp_actor_log.specs.Records.{cut_record, log_with}
use Rattle.tp_model.specs.Words.actor
use Rattle.tp_model.specs.Words.step
use Rattle.tp_model.specs.Words.what
use Rattle.tp_model.specs.Words.{Actor, Mail, Record, Scenario, ServerId, Step, TxnId}
use Rattle.tp_machine.specs.declared.actors.Actors.{Actors}
use Rattle.tp_machine.specs.Logs.{records_of}
use Rattle.tp_machine.specs.Machine.{Machine, Move, State, begin_forces, boots, coordinator_boot_forces, coordinator_forces, crashes, delivery, idle_move, machine_after, publishes, pushes, revokes, server_boot_forces, server_forces, state_after, submission, ticks, times}
use Rattle.tp_machine.specs.Named.{IsActor}
use Rattle.tp_machine.specs.Views.{coordinator_at, server_at}

-- ---- whose step it is

-- the actors of a scenario are numbered: its servers, its coordinators, the authority, the master
abbrev pub number_of : Scenario → Actor → ℕ
number_of sc (actor.Server at) = at.0
number_of sc (actor.Coordinator txn) = length sc.servers + txn.0
number_of sc actor.Authority = length sc.servers + length sc.txns
number_of sc actor.Master = length sc.servers + length sc.txns + 1

abbrev pub recipient : Mail → Actor
recipient mail = mail.letter.to

-- the actor whom a step moves: of a delivery the recipient of that mail. A mail that is lost moves nobody
abbrev pub moved_by : List Mail → Step → Option Actor
moved_by mails (step.Submit txn) = Some (actor.Coordinator txn)
moved_by mails (step.Deliver mail) = option_map recipient (slice_get mails mail)
moved_by mails (step.Lose mail) = None
moved_by mails (step.Publish admin) = Some actor.Master
moved_by mails (step.Push admin server) = Some actor.Master
moved_by mails (step.Tick by) = Some actor.Authority
moved_by mails (step.Revoke cred) = Some actor.Authority
moved_by mails (step.Timer txn) = Some (actor.Coordinator txn)
moved_by mails (step.Crash who cut) = Some who
moved_by mails (step.Boot who) = Some who

-- ---- what it does

-- what a step that is not refused does to all actors
abbrev pub move_of : Scenario → State → Step → Move
move_of sc w (step.Submit txn) = submission sc w.actors txn (length w.steps)
move_of sc w (step.Deliver mail) = delivery sc w.actors (slice_get w.mails mail)
move_of sc w (step.Lose mail) = idle_move w.actors (what.Lost mail ∷ [])
move_of sc w (step.Publish admin) = publishes w.actors admin
move_of sc w (step.Push admin server) = pushes w.actors admin server
move_of sc w (step.Tick by) = ticks w.actors by
move_of sc w (step.Revoke cred) = revokes w.actors cred
move_of sc w (step.Timer txn) = times sc w.actors txn
move_of sc w (step.Crash who cut) = crashes sc w.actors w.mails who cut
move_of sc w (step.Boot who) = boots sc w.actors who

-- ---- what it has its actor force

-- the record that an actor forces on a mail, while it is up; an office forces none
abbrev pub forces_at : Scenario → Actors → Actor → Mail → Option Record
forces_at sc actors (actor.Server at) mail = server_forces sc (server_at actors at) mail
forces_at sc actors (actor.Coordinator txn) mail =
    coordinator_forces sc (coordinator_at actors txn) mail
forces_at sc actors _ mail = None

-- the record that its recipient forces on a mail
abbrev pub received_forces : Scenario → Actors → Mail → Option Record
received_forces sc actors mail = forces_at sc actors mail.letter.to mail

-- the record that an actor forces as it boots
abbrev pub boot_forces : Scenario → Actors → Actor → Option Record
boot_forces sc actors (actor.Server at) =
    option_and_then (server_boot_forces sc at) (slice_get actors.servers at.0)
boot_forces sc actors (actor.Coordinator txn) =
    option_and_then (coordinator_boot_forces sc txn) (slice_get actors.coordinators txn.0)
boot_forces sc actors _ = None

-- the record that a step has its actor force: it stands on the log after the step, but where the actor crashes as it is forced
abbrev pub logged : Scenario → State → Step → Option Record
logged sc w (step.Submit txn) = begin_forces sc (coordinator_at w.actors txn)
logged sc w (step.Deliver mail) =
    option_and_then (received_forces sc w.actors) (slice_get w.mails mail)
logged sc w (step.Crash who (Some cut)) =
    option_and_then (forces_at sc w.actors who) (slice_get w.mails cut.mail)
logged sc w (step.Boot who) = boot_forces sc w.actors who
logged sc w _ = None

-- what then stands on the log of that record
abbrev pub left_by : Step → Option Record → Option Record
left_by (step.Crash who (Some cut)) forced = cut_record cut forced
left_by _ forced = forced

-- ---- laws

-- the machine after a step is that move put in the place of its state
abbrev pub StepsAreMoves : Type 0
StepsAreMoves =
    (sc : Scenario) (m : Machine) (taken : Step)
    → (machine_after sc m taken).state ≡ state_after m.state taken (move_of sc m.state taken)

-- a step leaves every actor as it is but the one whom it moves
pub record LeavesOthers (mover : Option Actor) (old new : Actors) : Type 0 where
  pub servers : (at : ServerId) → mover ≢ Some (actor.Server at)
      → slice_get new.servers at.0 ≡ slice_get old.servers at.0
  pub coordinators : (txn : TxnId) → mover ≢ Some (actor.Coordinator txn)
      → slice_get new.coordinators txn.0 ≡ slice_get old.coordinators txn.0
  pub authority : mover ≢ Some actor.Authority → new.authority ≡ old.authority
  pub master : mover ≢ Some actor.Master → new.master ≡ old.master

abbrev pub StepsLeaveOthers : Type 0
StepsLeaveOthers =
    (sc : Scenario) (w : State) (taken : Step)
    → LeavesOthers (moved_by w.mails taken) w.actors (move_of sc w taken).actors

-- the log of the actor whom it moves gains what is left of the record that it has it force
abbrev pub StepsForceOneRecord : Type 0
StepsForceOneRecord =
    (sc : Scenario) (w : State) (taken : Step) (who : Actor)
    → moved_by w.mails taken ≡ Some who
    → records_of (move_of sc w taken).actors who
    ≡ log_with (records_of w.actors who) (left_by taken (logged sc w taken))

-- two actors of a scenario have two numbers
abbrev pub NumbersDiffer : Type 0
NumbersDiffer =
    (sc : Scenario) (one other : Actor) → IsActor sc one → IsActor sc other
    → number_of sc one ≡ number_of sc other → one ≡ other
