-- A replica: what its log tells, what it does on receipt of a request, and what a crash and a boot leave of it.
use Rattle.std.specs.Prelude.{ℕ, ◌==◌, max, List, [], ◌∷◌, map, slice_get, slice_set, Bool, Option, Some, None, nat_lt, option_and_then, unwrap_or, if◌then◌else◌}
use Rattle.std.specs.List.{range_with_len}
use Rattle.tp_actor_log.specs.Records.{cut_record, log_with}
use Rattle.tp_quorum.specs.Words.{AdminId, Cut, QBody, QMail, Record, Version}
use Rattle.tp_quorum.specs.Words.body
use Rattle.tp_quorum.specs.Words.log

-- the versions that it knows, one for each administrator, or None while it is down; and the records of its log
pub record ReplicaView : Type 0 where
  pub up : Option (List Version)
  pub log : List Record

-- each administrator begins with this version
abbrev pub first_version : Version
first_version = record { 0 = 1 }

-- ---- what a log tells

-- the version that a record tells of an administrator, by its number
abbrev pub told_by : ℕ → Record → ℕ
told_by admin (log.Told told) = if told.admin.0 == admin then told.version.0 else 1
told_by admin _ = 1

-- the greatest version that a log tells of an administrator, or the first
abbrev pub told_in : ℕ → List Record → ℕ
told_in admin [] = 1
told_in admin (earliest ∷ later) = max (told_by admin earliest) (told_in admin later)

abbrev pub told_version : List Record → ℕ → Version
told_version records admin = record { 0 = told_in admin records }

-- of so many administrators
abbrev pub told_of_all : ℕ → List Record → List Version
told_of_all admins records = map (told_version records) (range_with_len 0 admins)

-- ---- requests

abbrev pub known_at : List Version → AdminId → Version
known_at known admin = unwrap_or (slice_get known admin.0) first_version

-- a version is new to who knows a lesser one
abbrev pub is_newer : List Version → AdminId → Version → Bool
is_newer known admin version = nat_lt (known_at known admin).0 version.0

-- the record that is forced on a mail
abbrev pub forces : List Version → QBody → Option Record
forces known (body.Store admin version) =
    if is_newer known admin version then Some (log.Told (record { admin = admin; version = version }))
    else None
forces known _ = None

-- what is known after it
abbrev pub learns : List Version → QBody → List Version
learns known (body.Store admin version) =
    if is_newer known admin version then slice_set known admin.0 version else known
learns known _ = known

-- what is replied, after the record is on the log
abbrev pub replies : List Version → QBody → Option QBody
replies known (body.Fetch admin) = Some (body.Has (known_at known admin))
replies known (body.Store admin version) = Some body.Stored
replies known _ = None

abbrev pub received_up : ReplicaView → QBody → Option (List Version) → ReplicaView
received_up replica said None = replica
received_up replica said (Some known) =
    record { up = Some (learns known said); log = log_with replica.log (forces known said) }

-- the replica after a receipt; while it is down the mail is gone
abbrev pub received : ReplicaView → QBody → ReplicaView
received replica said = received_up replica said replica.up

abbrev pub reply_up : QBody → Option (List Version) → Option QBody
reply_up said None = None
reply_up said (Some known) = replies known said

abbrev pub reply_of : ReplicaView → QBody → Option QBody
reply_of replica said = reply_up said replica.up

-- ---- crashes and boots

-- the record that a replica forces on a mail, while it is up
abbrev pub forced_up : Option (List Version) → QMail → Option Record
forced_up None mail = None
forced_up (Some known) mail = forces known mail.body

-- what is left of a receipt in which a replica crashes
abbrev pub left_by : List QMail → ReplicaView → Option Cut → Option Record
left_by mails replica None = None
left_by mails replica (Some cut) =
    cut_record cut (option_and_then (forced_up replica.up) (slice_get mails cut.mail))

-- it is down, with its log, which has what is left of the receipt
abbrev pub crashed : List QMail → ReplicaView → Option Cut → ReplicaView
crashed mails replica cut =
    record { up = None; log = log_with replica.log (left_by mails replica cut) }

-- it knows what its log tells
abbrev pub booted : ℕ → ReplicaView → ReplicaView
booted admins replica =
    record { up = Some (told_of_all admins replica.log); log = replica.log }

-- what is known after one more record
abbrev pub with_record : List Version → Record → List Version
with_record known (log.Told told) = learns known (body.Store told.admin told.version)
with_record known _ = known
