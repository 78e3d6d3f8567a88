-- The cluster as a machine: its state, what a step does to it, and the state after a list of steps.
use Rattle.std.specs.Prelude.{ℕ, ◌+◌, ◌-◌, ◌==◌, List, [], ◌∷◌, ◌++◌, length, map, filter, drop, slice_get, slice_set, Bool, true, false, not, Option, Some, None, is_some, is_none, nat_lt, option_and_then, unwrap_or, ℤ, if◌then◌else◌}
use Rattle.std.specs.List.{flat_map, range_with_len}
use Rattle.std.specs.Option.{option_map_or, option_or}
use Rattle.tp_actor_log.specs.Records.{cut_record, log_with}
use Rattle.tp_model.specs.Words.{Actor, AdminId, CredId, Cut, Ending, Fact, Item, Letter, Mail, Record, Scenario, ServerId, Step, TxnId, What}
use Rattle.tp_model.specs.Words.actor
use Rattle.tp_model.specs.Words.log
use Rattle.tp_model.specs.Words.step
use Rattle.tp_model.specs.Words.what
use Rattle.tp_machine.specs.declared.actors.Actors.{Actors}
use Rattle.tp_coord.specs.State.{Coordinator}
use Rattle.tp_machine.specs.declared.error.StepError.{StepError}
use Rattle.tp_machine.specs.declared.error.StepError.TheVariants as error
use Rattle.tp_machine.specs.Parts.{Part}
use Rattle.tp_server.specs.State.{Server}
use Rattle.tp_types.specs.Effect.{Effect}
use Rattle.tp_recover.specs.Kept.{kept}
use Rattle.tp_coord.specs.Booted as coord_boot
use Rattle.tp_coord.specs.Opened as coord
use Rattle.tp_coord.specs.Row.{coordinator_row, is_armed, is_begun, submit_row, timer_row, coordinator_with_age}
use Rattle.tp_offices.specs.Authority as office
use Rattle.tp_offices.specs.Master as master
use Rattle.tp_offices.specs.declared.master.Master.{Master}
use Rattle.tp_server.specs.Booted as server_boot
use Rattle.tp_server.specs.Opened as server
use Rattle.tp_server.specs.Row.{server_row}

-- the actors with their logs, every mail ever sent, the facts and the steps
pub record State : Type 0 where
  pub actors : Actors
  pub mails : List Mail
  pub facts : List Fact
  pub steps : List Step

-- and the numbers of the mails that are neither delivered nor lost, which rise
pub record Machine : Type 0 where
  pub state : State
  pub undelivered : List ℕ

-- ---- what all steps share

-- what a step did to all actors: the actors after it, what happened, and what was sent
pub record Move : Type 0 where
  pub actors : Actors
  pub happened : List What
  pub letters : List Letter

-- the letters as mails of these numbers, sent at a place
abbrev pub mails_of : ℕ → ℕ → List Letter → List Mail
mails_of place number [] = []
mails_of place number (letter ∷ letters) = record { number = number; sent = place; letter = letter } ∷ mails_of place (number + 1) letters

-- what happened, at a place
abbrev pub facts_of : ℕ → List What → List Fact
facts_of place happened = map (λ (w : What). record { place = place; what = w }) happened

-- the state after a step: its letters are mails, what happened are facts of its place, and it is added to the steps
abbrev pub state_after : State → Step → Move → State
state_after w taken move =
    record {
      actors = move.actors;
      mails = w.mails ++ mails_of (length w.steps) (length w.mails) move.letters;
      facts = w.facts ++ facts_of (length w.steps) move.happened;
      steps = w.steps ++ taken ∷ [];
    }

-- the move in which no actor acts
abbrev pub idle_move : Actors → List What → Move
idle_move actors happened = record { actors = actors; happened = happened; letters = [] }

-- ---- an actor acts

-- what an actor's act leaves: its part, what happened, and what it sends
pub record PartMove (S : Type 0) : Type 0 where
  pub part : Part S
  pub happened : List What
  pub letters : List Letter

-- the facts of the records that a log gained follow the step's own
abbrev pub acts : {S : Type 0} → (Record → List What) → List What → List Record → Option S
    → List Record → List Letter → PartMove S
acts fact own old up kept letters =
    record {
      part = record { up = up; log = kept };
      happened = own ++ flat_map fact (drop (length old) kept);
      letters = letters;
    }

-- an actor that is up acts by its row
abbrev pub acts_by : {S : Type 0} → (Record → List What) → List What → List Record → Effect S
    → PartMove S
acts_by fact own old effect =
    acts fact own old (Some effect.state)
    (log_with old effect.reaction.append) effect.reaction.letters

-- an actor that is down does nothing, and what was sent to it is gone
abbrev pub stays_down : {S : Type 0} → Part S → List What → PartMove S
stays_down part own = record { part = part; happened = own; letters = [] }

-- ---- servers

abbrev pub server_fact : ServerId → Record → List What
server_fact at (log.Settled s) = what.Settled at s.txn s.outcome ∷ []
server_fact at _ = []

abbrev pub server_takes_up : Scenario → ServerId → Part Server → Mail → Option Server
    → PartMove Server
server_takes_up sc at part mail None = stays_down part []
server_takes_up sc at part mail (Some s) =
    acts_by (server_fact at) [] part.log (server_row sc s mail)

abbrev pub server_takes : Scenario → ServerId → Part Server → Mail → PartMove Server
server_takes sc at part mail = server_takes_up sc at part mail part.up

-- the move in which a server acted
abbrev pub server_move : Actors → ServerId → PartMove Server → Move
server_move actors at move =
    record {
      actors = record actors { servers = slice_set actors.servers at.0 move.part };
      happened = move.happened;
      letters = move.letters;
    }

abbrev pub to_server : Scenario → Actors → Mail → ServerId → Option (Part Server) → Move
to_server sc actors mail at None = idle_move actors []
to_server sc actors mail at (Some part) = server_move actors at (server_takes sc at part mail)

-- ---- coordinators

abbrev pub coordinator_fact : Record → List What
coordinator_fact (log.Decided d) = what.Decided d.txn d.decision ∷ []
coordinator_fact _ = []

abbrev pub coordinator_takes_up : Scenario → Part Coordinator → Mail → Option Coordinator
    → PartMove Coordinator
coordinator_takes_up sc part mail None = stays_down part []
coordinator_takes_up sc part mail (Some c) =
    acts_by coordinator_fact [] part.log (coordinator_row sc c mail)

abbrev pub coordinator_takes : Scenario → Part Coordinator → Mail → PartMove Coordinator
coordinator_takes sc part mail = coordinator_takes_up sc part mail part.up

-- ---- submissions: what needs no place, and then the place

abbrev pub coordinator_begins_up : Scenario → Part Coordinator → TxnId → Option Coordinator
    → PartMove Coordinator
coordinator_begins_up sc part txn None = stays_down part (what.Submitted txn ∷ [])
coordinator_begins_up sc part txn (Some c) =
    acts_by coordinator_fact (what.Submitted txn ∷ []) part.log (submit_row sc c)

-- a coordinator begins its transaction, wherever that is
abbrev pub coordinator_begins : Scenario → Part Coordinator → TxnId → PartMove Coordinator
coordinator_begins sc part txn = coordinator_begins_up sc part txn part.up

abbrev pub placed_up : ℕ → Option Coordinator → Option Coordinator
placed_up place None = None
placed_up place (Some c) = Some (coordinator_with_age c place)

-- and is told the place, which is its age
abbrev pub placed_part : ℕ → Part Coordinator → Part Coordinator
placed_part place part = record part { up = placed_up place part.up }

-- the record that a coordinator forces as its transaction is submitted, while it is up
abbrev pub begin_forces : Scenario → Option Coordinator → Option Record
begin_forces sc None = None
begin_forces sc (Some c) = (submit_row sc c).reaction.append

-- the effect of a submission, with its place
abbrev pub with_age : Effect Coordinator → ℕ → Effect Coordinator
with_age effect place = record {
  state = coordinator_with_age effect.state place;
  reaction = effect.reaction;
}

abbrev pub coordinator_submits_up : Scenario → Part Coordinator → TxnId → ℕ → Option Coordinator
    → PartMove Coordinator
coordinator_submits_up sc part txn place None = stays_down part (what.Submitted txn ∷ [])
coordinator_submits_up sc part txn place (Some c) =
    acts_by coordinator_fact (what.Submitted txn ∷ []) part.log (with_age (submit_row sc c) place)

abbrev pub coordinator_submits : Scenario → Part Coordinator → TxnId → ℕ → PartMove Coordinator
coordinator_submits sc part txn place = coordinator_submits_up sc part txn place part.up

-- the move in which a coordinator acted
abbrev pub coordinator_move : Actors → TxnId → PartMove Coordinator → Move
coordinator_move actors txn move =
    record {
      actors = record actors { coordinators = slice_set actors.coordinators txn.0 move.part };
      happened = move.happened;
      letters = move.letters;
    }

abbrev pub to_coordinator : Scenario → Actors → Mail → TxnId → Option (Part Coordinator) → Move
to_coordinator sc actors mail txn None = idle_move actors []
to_coordinator sc actors mail txn (Some part) =
    coordinator_move actors txn (coordinator_takes sc part mail)

abbrev pub submission_by : Scenario → Actors → TxnId → ℕ → Option (Part Coordinator) → Move
submission_by sc actors txn place None = idle_move actors (what.Submitted txn ∷ [])
submission_by sc actors txn place (Some part) =
    coordinator_move actors txn (coordinator_submits sc part txn place)

-- ---- steps

abbrev pub to_authority : Actors → Mail → Move
to_authority actors mail =
    record {
      actors = actors;
      happened = [];
      letters = (office.authority_row actors.authority mail).reaction.letters;
    }

abbrev pub to_master : Actors → Mail → Move
to_master actors mail =
    record {
      actors = actors;
      happened = [];
      letters = (master.master_row actors.master mail).reaction.letters;
    }

-- a mail is delivered to its actor
abbrev pub receipt : Scenario → Actors → Mail → Actor → Move
receipt sc actors mail (actor.Server at) =
    to_server sc actors mail at (slice_get actors.servers at.0)
receipt sc actors mail (actor.Coordinator txn) =
    to_coordinator sc actors mail txn (slice_get actors.coordinators txn.0)
receipt sc actors mail actor.Authority = to_authority actors mail
receipt sc actors mail actor.Master = to_master actors mail

-- a transaction is submitted
abbrev pub submission : Scenario → Actors → TxnId → ℕ → Move
submission sc actors txn place =
    submission_by sc actors txn place (slice_get actors.coordinators txn.0)

abbrev pub delivery : Scenario → Actors → Option Mail → Move
delivery sc actors None = idle_move actors []
delivery sc actors (Some mail) = receipt sc actors mail mail.letter.to

-- the clock moves
abbrev pub ticks : Actors → ℕ → Move
ticks actors by =
    record {
      actors = record actors { authority = office.after_tick by actors.authority };
      happened = what.Ticked by ∷ [];
      letters = [];
    }

-- a credential is revoked
abbrev pub revokes : Actors → CredId → Move
revokes actors cred =
    record {
      actors = record actors { authority = office.after_revocation cred actors.authority };
      happened = what.Revoked cred ∷ [];
      letters = [];
    }

-- the master publishes the next version of an administrator
abbrev pub publishes : Actors → AdminId → Move
publishes actors admin =
    record {
      actors = record actors { master = master.after_publication admin actors.master };
      happened = what.Published admin (master.next_of actors.master admin) ∷ [];
      letters = [];
    }

-- the master pushes the newest version of an administrator to a server
abbrev pub pushes : Actors → AdminId → ServerId → Move
pushes actors admin server =
    record {
      actors = actors;
      happened = [];
      letters = (master.pushes actors.master admin server).reaction.letters;
    }

-- what a coordinator sends again at its timer; nothing while it is down
abbrev pub repeats_of : Scenario → Option Coordinator → List Letter
repeats_of sc None = []
repeats_of sc (Some c) = (timer_row sc c).reaction.letters

-- a transaction's timer fires: no actor changes
abbrev pub times : Scenario → Actors → TxnId → Move
times sc actors txn =
    record {
      actors = actors;
      happened = [];
      letters = option_map_or (λ (part : Part Coordinator). repeats_of sc part.up)
          (slice_get actors.coordinators txn.0) [];
    }

-- ---- crashes

-- an actor goes down, with what its log has gained by then; nothing is sent
abbrev pub goes_down : {S : Type 0} → (Record → List What) → List What → Part S → Option Record
    → PartMove S
goes_down fact own part append = acts fact own part.log None (log_with part.log append) []

-- the record that a server forces on a mail, while it is up
abbrev pub server_forces : Scenario → Option Server → Mail → Option Record
server_forces sc None mail = None
server_forces sc (Some s) mail = (server_row sc s mail).reaction.append

-- what is left of a server's receipt where it crashes in one
abbrev pub server_left : Scenario → List Mail → Option Server → Option Cut → Option Record
server_left sc mails up None = None
server_left sc mails up (Some cut) =
    cut_record cut (option_and_then (server_forces sc up) (slice_get mails cut.mail))

abbrev pub server_crashes : Scenario → List Mail → ServerId → Option Cut → Part Server
    → PartMove Server
server_crashes sc mails at cut part =
    goes_down (server_fact at) (what.Crashed (actor.Server at) ∷ []) part
    (server_left sc mails part.up cut)

-- the record that a coordinator forces on a mail, while it is up
abbrev pub coordinator_forces : Scenario → Option Coordinator → Mail → Option Record
coordinator_forces sc None mail = None
coordinator_forces sc (Some c) mail = (coordinator_row sc c mail).reaction.append

-- what is left of a coordinator's receipt where it crashes in one
abbrev pub coordinator_left : Scenario → List Mail → Option Coordinator → Option Cut
    → Option Record
coordinator_left sc mails up None = None
coordinator_left sc mails up (Some cut) =
    cut_record cut (option_and_then (coordinator_forces sc up) (slice_get mails cut.mail))

abbrev pub coordinator_crashes : Scenario → List Mail → TxnId → Option Cut → Part Coordinator
    → PartMove Coordinator
coordinator_crashes sc mails txn cut part =
    goes_down coordinator_fact (what.Crashed (actor.Coordinator txn) ∷ []) part
    (coordinator_left sc mails part.up cut)

abbrev pub crash_of_server : Scenario → Actors → List Mail → ServerId → Option Cut
    → Option (Part Server) → Move
crash_of_server sc actors mails at cut None =
    idle_move actors (what.Crashed (actor.Server at) ∷ [])
crash_of_server sc actors mails at cut (Some part) =
    server_move actors at (server_crashes sc mails at cut part)

abbrev pub crash_of_coordinator : Scenario → Actors → List Mail → TxnId → Option Cut
    → Option (Part Coordinator) → Move
crash_of_coordinator sc actors mails txn cut None =
    idle_move actors (what.Crashed (actor.Coordinator txn) ∷ [])
crash_of_coordinator sc actors mails txn cut (Some part) =
    coordinator_move actors txn (coordinator_crashes sc mails txn cut part)

-- an actor crashes; with a cut it does so in the receipt of a mail. The offices never do
abbrev pub crashes : Scenario → Actors → List Mail → Actor → Option Cut → Move
crashes sc actors mails (actor.Server at) cut =
    crash_of_server sc actors mails at cut (slice_get actors.servers at.0)
crashes sc actors mails (actor.Coordinator txn) cut =
    crash_of_coordinator sc actors mails txn cut (slice_get actors.coordinators txn.0)
crashes sc actors mails who cut = idle_move actors (what.Crashed who ∷ [])

-- ---- boots

-- the record that a server forces as it boots
abbrev pub server_boot_forces : Scenario → ServerId → Part Server → Option Record
server_boot_forces sc at part = (server_boot.boot_row sc at (kept sc at part.log)).reaction.append

-- the record that a coordinator forces as it boots
abbrev pub coordinator_boot_forces : Scenario → TxnId → Part Coordinator → Option Record
coordinator_boot_forces sc txn part = (coord_boot.boot_row sc txn part.log).reaction.append

-- a server boots by what its log comes to
abbrev pub server_boots : Scenario → ServerId → Part Server → PartMove Server
server_boots sc at part =
    acts_by (server_fact at) [] part.log (server_boot.boot_row sc at (kept sc at part.log))

abbrev pub coordinator_boots : Scenario → TxnId → Part Coordinator → PartMove Coordinator
coordinator_boots sc txn part =
    acts_by coordinator_fact [] part.log (coord_boot.boot_row sc txn part.log)

abbrev pub boot_of_server : Scenario → Actors → ServerId → Option (Part Server) → Move
boot_of_server sc actors at None = idle_move actors []
boot_of_server sc actors at (Some part) = server_move actors at (server_boots sc at part)

abbrev pub boot_of_coordinator : Scenario → Actors → TxnId → Option (Part Coordinator) → Move
boot_of_coordinator sc actors txn None = idle_move actors []
boot_of_coordinator sc actors txn (Some part) =
    coordinator_move actors txn (coordinator_boots sc txn part)

-- an actor boots
abbrev pub boots : Scenario → Actors → Actor → Move
boots sc actors (actor.Server at) =
    boot_of_server sc actors at (slice_get actors.servers at.0)
boots sc actors (actor.Coordinator txn) =
    boot_of_coordinator sc actors txn (slice_get actors.coordinators txn.0)
boots sc actors who = idle_move actors []

-- ---- the machine after a step

-- the numbers but this one
abbrev pub without_number : List ℕ → ℕ → List ℕ
without_number numbers number = filter (λ (other : ℕ). not (other == number)) numbers

-- the mails that were sent since are undelivered too
abbrev pub with_new : State → State → List ℕ → Machine
with_new before after undelivered =
    record {
      state = after;
      undelivered = undelivered
          ++ range_with_len (length before.mails) (length after.mails - length before.mails);
    }

-- a step is done that delivers and loses no mail
abbrev pub does : Machine → Step → Move → Machine
does m taken move = with_new m.state (state_after m.state taken move) m.undelivered

-- a mail is lost: no actor sees it
abbrev pub machine_after_loss : Machine → ℕ → Machine
machine_after_loss m mail =
    with_new m.state
    (state_after m.state (step.Lose mail) (idle_move m.state.actors (what.Lost mail ∷ [])))
    (without_number m.undelivered mail)

-- the machine after a step that is not refused
abbrev pub machine_after : Scenario → Machine → Step → Machine
machine_after sc m (step.Submit txn) =
    does m (step.Submit txn) (submission sc m.state.actors txn (length m.state.steps))
machine_after sc m (step.Deliver mail) =
    with_new m.state
    (state_after m.state (step.Deliver mail)
    (delivery sc m.state.actors (slice_get m.state.mails mail)))
    (without_number m.undelivered mail)
machine_after sc m (step.Lose mail) = machine_after_loss m mail
machine_after sc m (step.Publish admin) =
    does m (step.Publish admin) (publishes m.state.actors admin)
machine_after sc m (step.Push admin server) =
    does m (step.Push admin server) (pushes m.state.actors admin server)
machine_after sc m (step.Tick by) = does m (step.Tick by) (ticks m.state.actors by)
machine_after sc m (step.Revoke cred) = does m (step.Revoke cred) (revokes m.state.actors cred)
machine_after sc m (step.Timer txn) =
    does m (step.Timer txn) (times sc m.state.actors txn)
machine_after sc m (step.Crash who None) =
    does m (step.Crash who None) (crashes sc m.state.actors m.state.mails who None)
machine_after sc m (step.Crash who (Some cut)) =
    with_new m.state
    (state_after m.state (step.Crash who (Some cut))
    (crashes sc m.state.actors m.state.mails who (Some cut)))
    (without_number m.undelivered cut.mail)
machine_after sc m (step.Boot who) = does m (step.Boot who) (boots sc m.state.actors who)

-- a coordinator that is down was submitted before
abbrev pub is_part_submitted : Option Coordinator → Bool
is_part_submitted None = true
is_part_submitted (Some c) = is_begun c.phase

-- the transaction was submitted
abbrev pub is_submitted : Actors → TxnId → Bool
is_submitted actors txn =
    option_map_or (λ (part : Part Coordinator). is_part_submitted part.up)
    (slice_get actors.coordinators txn.0) false

-- whether an actor is down; the offices never are
abbrev pub is_part_down : {S : Type 0} → Part S → Bool
is_part_down part = is_none part.up

abbrev pub is_down : Actors → Actor → Bool
is_down actors (actor.Server at) = option_map_or is_part_down (slice_get actors.servers at.0) false
is_down actors (actor.Coordinator txn) =
    option_map_or is_part_down (slice_get actors.coordinators txn.0) false
is_down actors _ = false

-- the transaction's coordinator is up, and some request of it is outstanding
abbrev pub is_armed_at : Actors → TxnId → Bool
is_armed_at actors txn =
    option_map_or (λ (part : Part Coordinator). option_map_or is_armed part.up false)
    (slice_get actors.coordinators txn.0) false

abbrev pub missing_mail : List Mail → ℕ → Option StepError
missing_mail mails mail =
    if nat_lt mail (length mails) then None else Some (error.NoSuchMail mail (length mails))

-- a library without a version after the newest
abbrev pub none_left : Master → AdminId → Option StepError
none_left held admin = if master.has_more held admin then None else Some (error.NoMore admin)

-- a clock that would reach its end
abbrev pub too_late : ℕ → ℕ → Option StepError
too_late clock by = if nat_lt (clock + by) office.clock_end then None else Some (error.TooLate clock)

-- a transaction that was not submitted
abbrev pub unsubmitted : Actors → TxnId → Option StepError
unsubmitted actors txn = if is_submitted actors txn then None else Some (error.NotSubmitted txn)

-- an actor that is down
abbrev pub down_now : Actors → Actor → Option StepError
down_now actors who = if is_down actors who then Some (error.IsDown who) else None

-- an actor that is up
abbrev pub up_now : Actors → Actor → Option StepError
up_now actors who = if is_down actors who then None else Some (error.NotDown who)

-- a coordinator whose transaction was not submitted; a server was there always
abbrev pub unsubmitted_actor : Actors → Actor → Option StepError
unsubmitted_actor actors (actor.Coordinator txn) = unsubmitted actors txn
unsubmitted_actor actors _ = None

-- the mail of a cut was sent
abbrev pub missing_cut : List Mail → Option Cut → Option StepError
missing_cut mails None = None
missing_cut mails (Some cut) = missing_mail mails cut.mail

abbrev pub same_actor : Actor → Actor → Bool
same_actor (actor.Server one) (actor.Server other) = one.0 == other.0
same_actor (actor.Coordinator one) (actor.Coordinator other) = one.0 == other.0
same_actor actor.Master actor.Master = true
same_actor actor.Authority actor.Authority = true
same_actor _ _ = false

-- a mail to another actor
abbrev pub sent_elsewhere : Actor → ℕ → Option Mail → Option StepError
sent_elsewhere who number None = None
sent_elsewhere who number (Some mail) =
    if same_actor mail.letter.to who then None else Some (error.NotItsMail number)

abbrev pub cut_elsewhere : List Mail → Actor → Option Cut → Option StepError
cut_elsewhere mails who None = None
cut_elsewhere mails who (Some cut) = sent_elsewhere who cut.mail (slice_get mails cut.mail)

-- why a crash is refused, if it is
abbrev pub crash_refusal : State → Actor → Option Cut → Option StepError
crash_refusal w who cut =
    option_or (missing_cut w.mails cut)
    (option_or (unsubmitted_actor w.actors who)
    (option_or (down_now w.actors who) (cut_elsewhere w.mails who cut)))

-- why a step is refused, if it is
abbrev pub refusal : State → Step → Option StepError
refusal w (step.Submit txn) =
    if is_submitted w.actors txn then Some (error.AlreadySubmitted txn) else None
refusal w (step.Deliver mail) = missing_mail w.mails mail
refusal w (step.Lose mail) = missing_mail w.mails mail
refusal w (step.Publish admin) = none_left w.actors.master admin
refusal w (step.Tick by) = too_late w.actors.authority.clock by
refusal w (step.Timer txn) =
    option_or (unsubmitted w.actors txn) (down_now w.actors (actor.Coordinator txn))
refusal w (step.Crash who cut) = crash_refusal w who cut
refusal w (step.Boot who) = option_or (unsubmitted_actor w.actors who) (up_now w.actors who)
refusal w _ = None

-- a step that is refused changes nothing
abbrev pub after_step : Scenario → Machine → Step → Machine
after_step sc m taken = if is_some (refusal m.state taken) then m else machine_after sc m taken

-- the machine after a list of steps
abbrev pub after_steps : Scenario → Machine → List Step → Machine
after_steps sc m [] = m
after_steps sc m (taken ∷ others) = after_steps sc (after_step sc m taken) others

-- ---- before the first step

abbrev pub opened_part : {S : Type 0} → S → Part S
opened_part state = record { up = Some state; log = [] }

-- the first servers of a scenario, so many
abbrev pub opened_servers : Scenario → ℕ → List (Part Server)
opened_servers sc count =
    map (λ (n : ℕ). opened_part (server.opening sc (record { 0 = n }))) (range_with_len 0 count)

-- the coordinators of its first transactions, so many
abbrev pub idle_coordinators : Scenario → ℕ → List (Part Coordinator)
idle_coordinators sc count =
    map (λ (n : ℕ). opened_part (coord.idle sc (record { 0 = n }))) (range_with_len 0 count)

-- the actors as they stand before the first step
abbrev pub opened_actors : Scenario → Actors
opened_actors sc =
    record {
      servers = opened_servers sc (length sc.servers);
      coordinators = idle_coordinators sc (length sc.txns);
      authority = office.opening sc;
      master = master.opening sc;
    }

abbrev pub opening_state : Scenario → State
opening_state sc = record { actors = opened_actors sc; mails = []; facts = []; steps = [] }

-- the world before the first step
abbrev pub opening : Scenario → Machine
opening sc = record { state = opening_state sc; undelivered = [] }

-- the machine is what the scenario's world is after these steps
abbrev pub after : Scenario → List Step → Machine
after sc taken = after_steps sc (opening sc) taken

-- ---- what is seen

-- the values at a server: while it is down, those that its log leaves
abbrev pub values_by_log : Scenario → ServerId → List Record → Option Server → List ℤ
values_by_log sc at records None = (kept sc at records).values
values_by_log sc at records (Some s) = s.store.values

abbrev pub value_up : Scenario → ServerId → Part Server → ℕ → ℤ → ℤ
value_up sc at part item opening =
    unwrap_or (slice_get (values_by_log sc at part.log part.up) item) opening

-- the value of an item at its server
abbrev pub item_value : Scenario → List (Part Server) → ℕ → Item → ℤ
item_value sc servers item declared =
    option_map_or
    (λ (part : Part Server). value_up sc declared.server part item declared.value)
    (slice_get servers declared.server.0) declared.value

-- the values of items, the first having this number
abbrev pub item_values : Scenario → List (Part Server) → ℕ → List Item → List ℤ
item_values sc servers first [] = []
item_values sc servers first (item ∷ items) =
    item_value sc servers first item ∷ item_values sc servers (first + 1) items

-- how many steps and mails there were, and the value of each item
abbrev pub ending_of : Scenario → State → Ending
ending_of sc w = record {
  steps = length w.steps;
  mails = length w.mails;
  values = item_values sc w.actors.servers 0 sc.items;
}
