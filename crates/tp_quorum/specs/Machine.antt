-- The replicated master as a machine: its state, what a step does to it, when a step is refused, and the machine after a
-- list of steps.
use Rattle.std.specs.Prelude.{ℕ, ◌+◌, ◌<◌, ◌==◌, ◌&&◌, List, [], ◌∷◌, ◌++◌, length, filter, replicate, slice_get, slice_set, Bool, true, false, not, Option, Some, None, is_some, is_none, nat_lt, option_map, unwrap_or, if◌then◌else◌}
use Rattle.std.specs.List.{range_with_len}
use Rattle.std.specs.Option.{option_or, option_to_list}
use Rattle.tp_quorum.specs.Operations.{asks_again, hears, is_running, none_yet, to_all}
use Rattle.tp_quorum.specs.Replica.{ReplicaView, booted, crashed, first_version, received, reply_of, told_of_all}
use Rattle.tp_quorum.specs.Words.{AdminId, Cut, Heard, Operation, QBody, QError, QFact, QMail, QStep, QWhat, Sizes, Version}
use Rattle.tp_quorum.specs.Words.body
use Rattle.tp_quorum.specs.Words.error
use Rattle.tp_quorum.specs.Words.phase
use Rattle.tp_quorum.specs.Words.step
use Rattle.tp_quorum.specs.Words.what

-- the replicas with their logs, every operation that began, the last version of each publisher, every mail ever sent, the
-- facts and the steps
pub record State : Type 0 where
  pub replicas : List ReplicaView
  pub ops : List Operation
  pub last : List Version
  pub mails : List QMail
  pub facts : List QFact
  pub steps : List QStep

-- and the numbers of the mails that are neither delivered nor lost, which rise
pub record Machine : Type 0 where
  pub state : State
  pub undelivered : List ℕ

-- ---- what all steps share

-- what a step did: who stands how after it, what happened, and what was sent
pub record Move : Type 0 where
  pub replicas : List ReplicaView
  pub ops : List Operation
  pub last : List Version
  pub happened : Option QWhat
  pub sent : List QMail

-- nothing is done
abbrev pub idles : State → Move
idles w =
    record { replicas = w.replicas; ops = w.ops; last = w.last; happened = None; sent = [] }

-- what happened, at a place
abbrev pub with_fact : List QFact → ℕ → Option QWhat → List QFact
with_fact facts place None = facts
with_fact facts place (Some happened) = facts ++ record { place = place; what = happened } ∷ []

-- the state after a step
abbrev pub state_after : State → QStep → Move → State
state_after w taken move =
    record {
      replicas = move.replicas;
      ops = move.ops;
      last = move.last;
      mails = w.mails ++ move.sent;
      facts = with_fact w.facts (length w.steps) move.happened;
      steps = w.steps ++ taken ∷ [];
    }

-- ---- operations begin

abbrev pub last_of : List Version → AdminId → Version
last_of versions admin = unwrap_or (slice_get versions admin.0) first_version

abbrev pub next_version : List Version → AdminId → Version
next_version versions admin = record { 0 = (last_of versions admin).0 + 1 }

-- a publication stores the version after the publisher's last
abbrev pub publishes_at : State → AdminId → Version → Move
publishes_at w admin version =
    record {
      replicas = w.replicas;
      ops = w.ops
          ++ record {
            admin = admin;
            reader = None;
            phase = phase.Storing version (none_yet (length w.replicas));
          }
          ∷ [];
      last = slice_set w.last admin.0 version;
      happened = Some (what.Began (length w.ops) admin None (Some version));
      sent = to_all (length w.ops) (body.Store admin version) (length w.replicas);
    }

abbrev pub publishes : State → AdminId → Move
publishes w admin = publishes_at w admin (next_version w.last admin)

-- a reading fetches, and has the first version at least
abbrev pub reads : State → ℕ → AdminId → Move
reads w reader admin =
    record {
      replicas = w.replicas;
      ops = w.ops
          ++ record {
            admin = admin;
            reader = Some reader;
            phase = phase.Fetching first_version (none_yet (length w.replicas));
          }
          ∷ [];
      last = w.last;
      happened = Some (what.Began (length w.ops) admin (Some reader) None);
      sent = to_all (length w.ops) (body.Fetch admin) (length w.replicas);
    }

-- ---- mails come

-- who gets it: a request goes to its replica, and a reply to its operation
abbrev pub is_request : QBody → Bool
is_request (body.Fetch admin) = true
is_request (body.Store admin version) = true
is_request _ = false

-- the reply, if there is one, goes back to the operation
abbrev pub sends_back : QMail → Option QBody → List QMail
sends_back mail reply =
    option_to_list
    (option_map (λ (said : QBody). record { op = mail.op; replica = mail.replica; body = said })
    reply)

abbrev pub replica_takes_at : State → QMail → Option ReplicaView → Move
replica_takes_at w mail None = idles w
replica_takes_at w mail (Some replica) =
    record {
      replicas = slice_set w.replicas mail.replica (received replica mail.body);
      ops = w.ops;
      last = w.last;
      happened = None;
      sent = sends_back mail (reply_of replica mail.body);
    }

abbrev pub replica_takes : State → QMail → Move
replica_takes w mail = replica_takes_at w mail (slice_get w.replicas mail.replica)

-- the operation in its next phase
abbrev pub in_phase : Operation → Heard → Operation
in_phase o heard = record { admin = o.admin; reader = o.reader; phase = heard.next }

abbrev pub operation_goes : State → ℕ → Operation → Heard → Move
operation_goes w op o heard =
    record {
      replicas = w.replicas;
      ops = slice_set w.ops op (in_phase o heard);
      last = w.last;
      happened = heard.happened;
      sent = heard.sent;
    }

abbrev pub operation_takes_at : State → QMail → Option Operation → Move
operation_takes_at w mail None = idles w
operation_takes_at w mail (Some o) =
    operation_goes w mail.op o (hears mail.op o.admin mail.replica o.phase mail.body)

abbrev pub operation_takes : State → QMail → Move
operation_takes w mail = operation_takes_at w mail (slice_get w.ops mail.op)

abbrev pub receipt : State → QMail → Move
receipt w mail = if is_request mail.body then replica_takes w mail else operation_takes w mail

abbrev pub delivery : State → Option QMail → Move
delivery w None = idles w
delivery w (Some mail) = receipt w mail

-- ---- crashes, boots, timers

-- a replica stands otherwise, and nothing is sent
abbrev pub with_replica : State → ℕ → ReplicaView → Move
with_replica w replica now =
    record {
      replicas = slice_set w.replicas replica now;
      ops = w.ops;
      last = w.last;
      happened = None;
      sent = [];
    }

abbrev pub crashes_at : State → ℕ → Option Cut → Option ReplicaView → Move
crashes_at w replica cut None = idles w
crashes_at w replica cut (Some found) = with_replica w replica (crashed w.mails found cut)

-- a replica crashes; with a cut it does so in the receipt of a mail
abbrev pub crashes : State → ℕ → Option Cut → Move
crashes w replica cut = crashes_at w replica cut (slice_get w.replicas replica)

abbrev pub boots_at : State → ℕ → Option ReplicaView → Move
boots_at w replica None = idles w
boots_at w replica (Some found) = with_replica w replica (booted (length w.last) found)

abbrev pub boots : State → ℕ → Move
boots w replica = boots_at w replica (slice_get w.replicas replica)

abbrev pub times_out_at : State → ℕ → Option Operation → Move
times_out_at w op None = idles w
times_out_at w op (Some o) =
    record {
      replicas = w.replicas;
      ops = w.ops;
      last = w.last;
      happened = None;
      sent = asks_again op o.admin o.phase;
    }

-- an operation asks again
abbrev pub times_out : State → ℕ → Move
times_out w op = times_out_at w op (slice_get w.ops op)

-- ---- the machine after a step

abbrev pub move_of : State → QStep → Move
move_of w (step.Publish admin) = publishes w admin
move_of w (step.Read reader admin) = reads w reader admin
move_of w (step.Deliver mail) = delivery w (slice_get w.mails mail)
move_of w (step.Lose mail) = idles w
move_of w (step.Crash replica cut) = crashes w replica cut
move_of w (step.Boot replica) = boots w replica
move_of w (step.Timer op) = times_out w op

-- the numbers but this one
abbrev pub without_number : List ℕ → ℕ → List ℕ
without_number numbers number = filter (λ (other : ℕ). not (other == number)) numbers

-- a mail that is delivered, lost, or cut in its receipt is undelivered no more
abbrev pub still_undelivered : QStep → List ℕ → List ℕ
still_undelivered (step.Deliver mail) numbers = without_number numbers mail
still_undelivered (step.Lose mail) numbers = without_number numbers mail
still_undelivered (step.Crash replica (Some cut)) numbers = without_number numbers cut.mail
still_undelivered _ numbers = numbers

-- and what was sent is undelivered too
abbrev pub moved : Machine → QStep → Move → Machine
moved m taken move =
    record {
      state = state_after m.state taken move;
      undelivered = still_undelivered taken m.undelivered
          ++ range_with_len (length m.state.mails) (length move.sent);
    }

-- the machine after a step that is not refused
abbrev pub machine_after : Machine → QStep → Machine
machine_after m taken = moved m taken (move_of m.state taken)

-- ---- refusals

-- the first member that passes a test, by its number, the first having this one
abbrev pub first_where : {A : Type 0} → (A → Bool) → ℕ → List A → Option ℕ
first_where test number [] = None
first_where test number (x ∷ xs) =
    if test x then Some number else first_where test (number + 1) xs

abbrev pub is_by_publisher : AdminId → Operation → Bool
is_by_publisher admin o = is_running o && is_none o.reader && o.admin.0 == admin.0

abbrev pub is_reader : ℕ → Option ℕ → Bool
is_reader reader None = false
is_reader reader (Some other) = other == reader

abbrev pub is_by_reader : ℕ → Operation → Bool
is_by_reader reader o = is_running o && is_reader reader o.reader

abbrev pub busy : Option ℕ → Option QError
busy running = option_map (λ (op : ℕ). error.Busy op) running

abbrev pub missing_mail : List QMail → ℕ → Option QError
missing_mail mails mail =
    if nat_lt mail (length mails) then None else Some (error.NoSuchMail mail (length mails))

abbrev pub missing_cut : List QMail → Option Cut → Option QError
missing_cut mails None = None
missing_cut mails (Some cut) = missing_mail mails cut.mail

abbrev pub is_idle : Option Operation → Bool
is_idle None = true
is_idle (Some o) = not (is_running o)

abbrev pub is_replica_down : ReplicaView → Bool
is_replica_down replica = is_none replica.up

abbrev pub is_down : Option ReplicaView → Bool
is_down None = false
is_down (Some replica) = is_replica_down replica

-- a reply, or a request to another replica
abbrev pub sent_elsewhere : ℕ → ℕ → Option QMail → Option QError
sent_elsewhere replica number None = None
sent_elsewhere replica number (Some mail) =
    if is_request mail.body && mail.replica == replica then None else Some (error.NotItsMail number)

abbrev pub cut_elsewhere : List QMail → ℕ → Option Cut → Option QError
cut_elsewhere mails replica None = None
cut_elsewhere mails replica (Some cut) =
    sent_elsewhere replica cut.mail (slice_get mails cut.mail)

-- why a step is refused, if it is
abbrev pub refusal : State → QStep → Option QError
refusal w (step.Publish admin) = busy (first_where (is_by_publisher admin) 0 w.ops)
refusal w (step.Read reader admin) = busy (first_where (is_by_reader reader) 0 w.ops)
refusal w (step.Deliver mail) = missing_mail w.mails mail
refusal w (step.Lose mail) = missing_mail w.mails mail
refusal w (step.Timer op) = if is_idle (slice_get w.ops op) then Some (error.Idle op) else None
refusal w (step.Crash replica cut) =
    option_or (missing_cut w.mails cut)
    (option_or
    (if is_down (slice_get w.replicas replica) then Some (error.IsDown replica) else None)
    (cut_elsewhere w.mails replica cut))
refusal w (step.Boot replica) =
    if is_down (slice_get w.replicas replica) then None else Some (error.NotDown replica)

-- a step that is refused changes nothing
abbrev pub after_step : Machine → QStep → Machine
after_step m taken = if is_some (refusal m.state taken) then m else machine_after m taken

-- the machine after a list of steps
abbrev pub after_steps : Machine → List QStep → Machine
after_steps m [] = m
after_steps m (taken ∷ others) = after_steps (after_step m taken) others

-- ---- before the first step

-- a replica that was never told anything
abbrev pub opened_replica : ℕ → ReplicaView
opened_replica admins = record { up = Some (told_of_all admins []); log = [] }

abbrev pub opening_state : Sizes → State
opening_state sizes =
    record {
      replicas = replicate sizes.replicas (opened_replica sizes.admins);
      ops = [];
      last = replicate sizes.admins first_version;
      mails = [];
      facts = [];
      steps = [];
    }

abbrev pub opening : Sizes → Machine
opening sizes = record { state = opening_state sizes; undelivered = [] }

-- the machine after these steps
abbrev pub after : Sizes → List QStep → Machine
after sizes steps = after_steps (opening sizes) steps

-- ---- what steps name

-- the administrator or replica that a step names exists; of readers, mails and operations nothing is asked
abbrev pub IsStepOf : Sizes → QStep → Type 0
IsStepOf sizes (step.Publish admin) = admin.0 < sizes.admins
IsStepOf sizes (step.Read reader admin) = admin.0 < sizes.admins
IsStepOf sizes (step.Crash replica cut) = replica < sizes.replicas
IsStepOf sizes (step.Boot replica) = replica < sizes.replicas
IsStepOf sizes _ = Unit {0}
