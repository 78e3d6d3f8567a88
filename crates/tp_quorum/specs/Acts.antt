-- What the code of an act does, by the move of the machine.
use Rattle.std.specs.Prelude.{◌≡◌, ◌+◌, ◌<◌, ◌^◌, ℕ, List, [], ◌∷◌, ◌++◌, length, replicate, slice_set, Bool, true, false, Option, Some, None}
use Rattle.tp_actor_log.specs.Records.{cut_record, log_with}
use Rattle.tp_quorum.specs.Machine.{Machine, Move, State, in_phase, last_of, move_of, with_fact}
use Rattle.tp_pending.specs.Flags.{marked}
use Rattle.tp_quorum.specs.Operations.{HasFlagsBelow, hears}
use Rattle.tp_quorum.specs.Replica.{ReplicaView, booted, forced_up, received, reply_of}
use Rattle.tp_quorum.specs.Words.{Cut, Heard, Operation, QBody, QMail, QStep}
use Rattle.tp_quorum.specs.Words.step
use Rattle.tp_quorum.specs.declared.acts.Act.{Act}
use Rattle.tp_quorum.specs.declared.acts.Members.{Members}
use Rattle.tp_quorum.specs.declared.ledger.Ledger.{Ledger}
use Rattle.tp_types.specs.Each.{Each}

-- these members, and no mails, facts and steps beside them
abbrev pub among : Members → State
among members =
    record {
      replicas = members.replicas;
      ops = members.ops;
      last = members.last;
      mails = [];
      facts = [];
      steps = [];
    }

-- and these mails
abbrev pub beside : Members → List QMail → State
beside members mails = record (among members) { mails = mails }

-- the members did this move, and the act is what it did beside
pub record Did (move : Move) (members : Members) (act : Act) : Type 0 where
  pub members_are : members ≡ record { replicas = move.replicas; ops = move.ops; last = move.last }
  pub act_is : act ≡ record { happened = move.happened; sent = move.sent }

-- replicas and operations have numbers of 32 bits
pub record FitNumbers (members : Members) : Type 0 where
  pub replicas : length members.replicas < 2 ^ 32
  pub ops : length members.ops + 1 < 2 ^ 32
  pub flags : Each (λ (o : Operation). HasFlagsBelow (2 ^ 32) o.phase) members.ops

-- the replicas after a receipt
abbrev pub replicas_after : List ReplicaView → QMail → Option ReplicaView → List ReplicaView
replicas_after replicas mail None = replicas
replicas_after replicas mail (Some found) = slice_set replicas mail.replica (received found mail.body)

abbrev pub got_back : QMail → Option ReplicaView → Option QBody
got_back mail None = None
got_back mail (Some found) = reply_of found mail.body

-- what an operation makes of a reply
abbrev pub heard_of : QMail → Operation → Heard
heard_of mail o = hears mail.op o.admin mail.replica o.phase mail.body

abbrev pub act_of : Heard → Act
act_of heard = record { happened = heard.happened; sent = heard.sent }

-- the operations after a reply, and the act
abbrev pub ops_after : List Operation → QMail → Option Operation → List Operation
ops_after ops mail None = ops
ops_after ops mail (Some o) = slice_set ops mail.op (in_phase o (heard_of mail o))

abbrev pub act_after : QMail → Option Operation → Act
act_after mail None = record { happened = None; sent = [] }
act_after mail (Some o) = act_of (heard_of mail o)

-- the replicas after a crash, a crash in a receipt, and a boot
abbrev pub replicas_down : List ReplicaView → ℕ → Option ReplicaView → List ReplicaView
replicas_down replicas replica None = replicas
replicas_down replicas replica (Some found) = slice_set replicas replica (record found { up = None })

abbrev pub replicas_cut : List ReplicaView → ℕ → QMail → Cut → Option ReplicaView → List ReplicaView
replicas_cut replicas replica mail cut None = replicas
replicas_cut replicas replica mail cut (Some found) =
    slice_set replicas replica
    (record { up = None; log = log_with found.log (cut_record cut (forced_up found.up mail)) })

abbrev pub replicas_up : List ReplicaView → ℕ → ℕ → Option ReplicaView → List ReplicaView
replicas_up replicas replica admins None = replicas
replicas_up replicas replica admins (Some found) = slice_set replicas replica (booted admins found)

-- the version that is published next is a number of 32 bits
abbrev pub HasNextVersion : Members → QStep → Type 0
HasNextVersion members (step.Publish admin) = (last_of members.last admin).0 + 1 < 2 ^ 32
HasNextVersion members _ = Unit {0}

-- ---- what is noted

-- which mails are undelivered still
abbrev pub flags_after : QStep → List Bool → List Bool
flags_after (step.Deliver mail) flags = slice_set flags mail false
flags_after (step.Lose mail) flags = slice_set flags mail false
flags_after (step.Crash replica (Some cut)) flags = slice_set flags cut.mail false
flags_after _ flags = flags

-- these mails were sent too, and are undelivered
pub record PostsAll (mails : List QMail) (flags : List Bool) (sent mails_now : List QMail) (flags_now : List Bool) : Type 0 where
  pub mails_are : mails_now ≡ mails ++ sent
  pub flags_are : flags_now ≡ flags ++ replicate (length sent) true

-- after a step that did this
abbrev pub noted : Ledger → QStep → Act → Ledger
noted ledger taken act =
    record {
      mails = ledger.mails ++ act.sent;
      pending = flags_after taken ledger.pending ++ replicate (length act.sent) true;
      facts = with_fact ledger.facts (length ledger.steps) act.happened;
      steps = ledger.steps ++ taken ∷ [];
    }

-- the machine that both show
abbrev pub machine_of : Members → Ledger → Machine
machine_of members ledger =
    record {
      state = record {
        replicas = members.replicas;
        ops = members.ops;
        last = members.last;
        mails = ledger.mails;
        facts = ledger.facts;
        steps = ledger.steps;
      };
      undelivered = marked 0 ledger.pending;
    }

-- both parts go on as the machine does
pub record Advances (members : Members) (ledger : Ledger) (taken : QStep) (members_now : Members) (ledger_now : Ledger) : Type 0 where
  pub members_are : members_now
      ≡ record {
        replicas = (move_of (beside members ledger.mails) taken).replicas;
        ops = (move_of (beside members ledger.mails) taken).ops;
        last = (move_of (beside members ledger.mails) taken).last;
      }
  pub ledger_is : ledger_now
      ≡ noted ledger taken
      (record {
        happened = (move_of (beside members ledger.mails) taken).happened;
        sent = (move_of (beside members ledger.mails) taken).sent;
      })
