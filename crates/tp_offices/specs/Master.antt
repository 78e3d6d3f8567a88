-- The master's row, and what publishes and pushes versions.
use Rattle.std.specs.Prelude.{◌+◌, Bool, List, [], ◌∷◌, length, map, min, nat_lt, slice_get, slice_set, unwrap_or}
use Rattle.tp_model.specs.Words.{Admin, AdminId, Body, Mail, ProbeRequest, Scenario, ServerId, Version}
use Rattle.tp_model.specs.Limits.{count_limit}
use Rattle.tp_model.specs.Words.actor
use Rattle.tp_model.specs.Words.body
use Rattle.tp_types.specs.Effect.{Effect, sends, ignores}
use Rattle.tp_offices.specs.declared.master.Master.{Master}

abbrev pub opening_in : Admin → Version
opening_in admin = admin.opening

-- the last version in an administrator's library: versions count from 1, in 32 bits, and a library has at most 64
abbrev pub last_of : Admin → Version
last_of admin = record { 0 = min (length admin.library) count_limit }

-- the master as it stands before the first step: the opening version of each administrator, and the last in its library
abbrev pub opening : Scenario → Master
opening sc = record { newest = map opening_in sc.admins; last = map last_of sc.admins }

-- ---- publications

-- of a list by administrator, the version of one; 0 where it has no place
abbrev pub version_for : List Version → AdminId → Version
version_for versions admin = unwrap_or (slice_get versions admin.0) (record { 0 = 0 })

-- the library has a version after the newest
abbrev pub has_more : Master → AdminId → Bool
has_more master admin =
    nat_lt (version_for master.newest admin).0 (version_for master.last admin).0

-- the version after the newest
abbrev pub next_of : Master → AdminId → Version
next_of master admin = record { 0 = (version_for master.newest admin).0 + 1 }

-- the master once that version is the newest
abbrev pub after_publication : AdminId → Master → Master
after_publication admin master =
    record master { newest = slice_set master.newest admin.0 (next_of master admin) }

-- the newest version of an administrator is pushed to a server. The master's state stays
abbrev pub pushes : Master → AdminId → ServerId → Effect Master
pushes master admin server =
    sends master
    (record {
      from = actor.Master;
      to = actor.Server server;
      body = body.Push (record { admin = admin; version = version_for master.newest admin });
    } ∷ [])

-- ---- receipts

-- a Probe is answered with the newest versions
abbrev pub tells : Master → ProbeRequest → Effect Master
tells master probe =
    sends master
    (record {
      from = actor.Master;
      to = actor.Coordinator probe.txn;
      body = body.Newest (record { txn = probe.txn; turn = probe.turn; newest = master.newest });
    } ∷ [])

abbrev pub on_body : Master → Body → Effect Master
on_body master (body.Probe probe) = tells master probe
on_body master _ = ignores master

-- what the master does on receipt of a mail
abbrev pub master_row : Master → Mail → Effect Master
master_row master mail = on_body master mail.letter.body
