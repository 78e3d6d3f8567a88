-- One master over every list of steps: what logs, operations, mails and facts have of each other.
use Rattle.std.proofs.Common.{◌≡◌, ℕ, ◌+◌, ◌<◌, ◌≤◌, List, length, slice_get, Bool, true, false, Option, Some, None, is_some, unwrap_or}
use Rattle.tp_types.specs.Each.{Each, EachAt}
use Rattle.tp_quorum.proofs.Counting.{Most}
use Rattle.tp_quorum.proofs.Facts.{most_ended}
use Rattle.tp_quorum.proofs.Told.{told_at}
use Rattle.tp_quorum.specs.Machine.{State}
use Rattle.tp_quorum.specs.OneMaster.{Beginning, OneMaster, before_start, beginning_of, count_of, has_ended, is_beginning, publications}
use Rattle.tp_quorum.specs.Operations.{most_answered}
use Rattle.tp_quorum.specs.QuorumView.{end_of}
use Rattle.tp_quorum.specs.Replica.{ReplicaView, first_version, told_in, told_of_all}
use Rattle.tp_quorum.specs.Words.{AdminId, Operation, Phase, QBody, QFact, QMail, QWhat, Version}
use Rattle.tp_quorum.specs.Words.body
use Rattle.tp_quorum.specs.Words.phase
use Rattle.tp_quorum.specs.Words.what

-- ---- replicas

-- the last version of a publisher, by its administrator's number
abbrev pub last_at : List Version → ℕ → ℕ
last_at versions admin = (unwrap_or (slice_get versions admin) first_version).0

-- while it is up it knows what its log tells, and its log tells no version that was not published
pub record ReplicaRests (last : List Version) (replica : ReplicaView) : Type 0 where
  pub knows : (known : List Version) → replica.up ≡ Some known → known ≡ told_of_all (length last) replica.log
  pub few : (admin : ℕ) → told_in admin replica.log ≤ last_at last admin

-- ---- mails

-- the operation stores, or has stored, this version
abbrev pub Stores : Phase → Version → Type 0
Stores (phase.Fetching greatest answered) version = ⊥
Stores (phase.Storing own answered) version = own ≡ version
Stores (phase.Ended own) version = own ≡ version

-- a replica's log tells the version that the operation stores
pub record IsStored (now : Phase) (told : ℕ) : Type 0 where
  pub version : Version
  pub stores : Stores now version
  pub is_told : version.0 ≤ told

abbrev pub BodyRests : State → ℕ → Operation → QBody → Type 0
BodyRests w r o (body.Fetch admin) = o.admin ≡ admin
BodyRests w r o (body.Has version) = version.0 ≤ last_at w.last o.admin.0
BodyRests w r o (body.Store admin version) = (o.admin ≡ admin) × Stores o.phase version
BodyRests w r o body.Stored = IsStored o.phase (told_at w.replicas r o.admin.0)

-- its operation has begun, its replica is there, and what it says rests on these
pub record MailRests (w : State) (mail : QMail) : Type 0 where
  pub replica : mail.replica < length w.replicas
  pub op : Operation
  pub is_op : slice_get w.ops mail.op ≡ Some op
  pub said : BodyRests w mail.replica op mail.body

-- ---- operations

-- the greatest version with which an operation of the administrator had ended when this one began
abbrev pub floor : State → ℕ → ℕ → ℕ
floor w op admin = most_ended w.ops admin (before_start op w.facts)

abbrev pub IsAtLeast : ℕ → QBody → Type 0
IsAtLeast least (body.Has version) = least ≤ version.0
IsAtLeast least _ = Unit {0}

-- what a replica answered to the operation's fetch is no less than this
abbrev pub SaysAtLeast : ℕ → ℕ → ℕ → QMail → Type 0
SaysAtLeast op r least mail = mail.op ≡ op → mail.replica ≡ r → IsAtLeast least mail.body

-- a replica tells at least this, and never answered less to the operation
pub record IsGood (w : State) (op admin least r : ℕ) : Type 0 where
  pub tells : least ≤ told_at w.replicas r admin
  pub said : Each (SaysAtLeast op r least) w.mails

-- some answer of the replica to the operation's fetch is at most this
pub record HasAnswered (mails : List QMail) (op r most : ℕ) : Type 0 where
  pub number : ℕ
  pub version : Version
  pub sent : slice_get mails number ≡ Some (record { op = op; replica = r; body = body.Has version })
  pub few : version.0 ≤ most

pub record FetchRests (w : State) (op admin : ℕ) (reader : Option ℕ) (greatest : Version) (answered : List Bool) : Type 0 where
  pub reading : is_some reader ≡ true
  pub few : greatest.0 ≤ last_at w.last admin
  pub count : length answered ≡ length w.replicas
  pub heard : (r : ℕ) → slice_get answered r ≡ Some true → HasAnswered w.mails op r greatest.0
  pub waits : most_answered answered ≡ false
  pub running : has_ended op w.facts ≡ false
  pub good : Most (length w.replicas) (IsGood w op admin (floor w op admin))

pub record StoreRests (w : State) (op admin : ℕ) (reader : Option ℕ) (version : Version) (answered : List Bool) : Type 0 where
  pub few : version.0 ≤ last_at w.last admin
  pub least : is_some reader ≡ true → floor w op admin ≤ version.0
  pub count : length answered ≡ length w.replicas
  pub heard : (r : ℕ) → slice_get answered r ≡ Some true → version.0 ≤ told_at w.replicas r admin
  pub waits : most_answered answered ≡ false
  pub running : has_ended op w.facts ≡ false

pub record EndRests (w : State) (op admin : ℕ) (version : Version) : Type 0 where
  pub few : version.0 ≤ last_at w.last admin
  pub has_end : end_of op w.facts ≡ Some version

abbrev pub PhaseRests : State → ℕ → ℕ → Option ℕ → Phase → Type 0
PhaseRests w op admin reader (phase.Fetching greatest answered) =
    FetchRests w op admin reader greatest answered
PhaseRests w op admin reader (phase.Storing version answered) =
    StoreRests w op admin reader version answered
PhaseRests w op admin reader (phase.Ended version) = EndRests w op admin version

abbrev pub version_in : Phase → Version
version_in (phase.Fetching greatest answered) = greatest
version_in (phase.Storing version answered) = version
version_in (phase.Ended version) = version

-- the version with which it began: a publication's own, and none of a reading
abbrev pub version_begun : Option ℕ → Phase → Option Version
version_begun None now = Some (version_in now)
version_begun (Some reader) now = None

abbrev pub beginning_as : Operation → Beginning
beginning_as o = record { admin = o.admin; reader = o.reader; version = version_begun o.reader o.phase }

pub record OpRests (w : State) (op : ℕ) (o : Operation) : Type 0 where
  pub admin : o.admin.0 < length w.last
  pub begun : beginning_of op w.facts ≡ Some (beginning_as o)
  pub now : PhaseRests w op o.admin.0 o.reader o.phase

-- ---- facts

-- the operation that began is there
pub record BeganThere (ops : List Operation) (op : ℕ) (admin : AdminId) (reader : Option ℕ) : Type 0 where
  pub o : Operation
  pub is_op : slice_get ops op ≡ Some o
  pub admin_is : o.admin ≡ admin
  pub reader_is : o.reader ≡ reader

abbrev pub WhatRests : List Operation → QWhat → Type 0
WhatRests ops (what.Began op admin reader version) = BeganThere ops op admin reader
WhatRests ops (what.Ended op version) = op < length ops

abbrev pub FactRests : List Operation → QFact → Type 0
FactRests ops fact = WhatRests ops fact.what

-- ---- the invariant

-- all that one master rests on: most replicas tell the greatest version with which an operation of an administrator ended
pub record Rests (admins : ℕ) (w : State) : Type 0 where
  pub some : 1 ≤ length w.replicas
  pub admin_count : length w.last ≡ admins
  pub replicas : EachAt (λ (n : ℕ) (replica : ReplicaView). ReplicaRests w.last replica) w.replicas
  pub published : (admin : AdminId) → last_at w.last admin.0 ≡ publications admin w.facts + 1
  pub op_count : length w.ops ≡ count_of is_beginning w.facts
  pub ops : EachAt (OpRests w) w.ops
  pub mails : Each (MailRests w) w.mails
  pub facts : Each (FactRests w.ops) w.facts
  pub most : (admin : ℕ) → Most (length w.replicas) (λ (r : ℕ). most_ended w.ops admin w.facts ≤ told_at w.replicas r admin)
  pub past : Each (λ (fact : QFact). fact.place < length w.steps) w.facts
  pub one_master : OneMaster w.facts
