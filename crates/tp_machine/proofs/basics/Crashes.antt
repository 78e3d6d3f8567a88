-- Crashes and boots, where who is up changes last: what the code does in several calls is the machine's move.
use Rattle.std.proofs.Common.{◌≡◌, inr, ◌++◌, ◌∙◌, List, [], ◌∷◌, drop, length, Option, Some, None, slice_get, slice_set, refl, subst, sym, ap}
use Rattle.std.specs.Option.{option_map_or}
use Rattle.std.proofs.Math.Seq.{drop-length}
use Rattle.std.proofs.lemmas.List.{append-nil, drop_at}
use Rattle.std.proofs.lemmas.Option.{slice_get_within}
use Rattle.std.specs.List.{flat_map}
use Rattle.std.specs.Option.{option_and_then}
use Rattle.tp_model.specs.Words.actor
use Rattle.tp_model.specs.Words.what
use Rattle.tp_model.specs.Words.{Actor, Cut, Mail, Record, Scenario, ServerId, TxnId, What}
use Rattle.tp_coord.specs.State.{Coordinator}
use Rattle.tp_server.specs.State.{Server}
use Rattle.tp_server.proofs.Tables.{set_twice}
use Rattle.tp_types.proofs.EachLemmas.{set_here}
use Rattle.tp_machine.specs.declared.actors.Actors.{Actors}
use Rattle.tp_machine.specs.declared.part.Act.{Act}
use Rattle.tp_machine.specs.Logs.{log_by}
use Rattle.tp_machine.specs.mirrors.Acts.{HasEitherLogs, Moves, SameLogs, down_part, with_coordinator_down, with_down, with_server_down}
use Rattle.tp_machine.specs.Acts.{Acts, Boots}
use Rattle.tp_machine.specs.Parts.{Part}
use Rattle.tp_machine.proofs.basics.Parts.{put_alike, put_same}
use Rattle.tp_machine.specs.Machine.{PartMove, boot_of_coordinator, boot_of_server, boots, coordinator_boots, coordinator_crashes, coordinator_fact, coordinator_forces, crash_of_coordinator, crash_of_server, crashes, goes_down, server_boots, server_crashes, server_fact, server_forces}
use Rattle.tp_actor_log.specs.Records.{cut_record, log_with}

-- ---- a crash in no receipt

-- a log that gained nothing tells nothing
nothing_told : {S : Type 0} (fact : Record → List What) (own : List What) (part : Part S) → own ≡ (goes_down fact own part None).happened
nothing_told fact own part = sym (ap (λ (gained : List Record). own ++ flat_map fact gained) (drop-length part.log) ∙ append-nil own)

-- the crash alone happened
abbrev IsCrash : Actor → Act → Type 0
IsCrash who act = act ≡ record { happened = what.Crashed who ∷ []; letters = [] }

happened_so : (who : Actor) (act : Act) → IsCrash who act → act.happened ≡ what.Crashed who ∷ []
happened_so who act e = ap (λ (a : Act). a.happened) e

nothing_sent : (who : Actor) (act : Act) → IsCrash who act → act.letters ≡ []
nothing_sent who act e = ap (λ (a : Act). a.letters) e

server_goes : (sc : Scenario) (actors : Actors) (mails : List Mail) (at : ServerId) (act : Act) (found : Option (Part Server)) → IsCrash (actor.Server at) act
    → Moves (crash_of_server sc actors mails at None found) (with_server_down actors at found) act
server_goes sc actors mails at act None e =
    record { actors_are = refl; happened_is = happened_so (actor.Server at) act e; letters_are = nothing_sent (actor.Server at) act e }
server_goes sc actors mails at act (Some part) e =
    record {
      actors_are = refl;
      happened_is = happened_so (actor.Server at) act e ∙ nothing_told (server_fact at) (what.Crashed (actor.Server at) ∷ []) part;
      letters_are = nothing_sent (actor.Server at) act e;
    }

coordinator_goes : (sc : Scenario) (actors : Actors) (mails : List Mail) (txn : TxnId) (act : Act) (found : Option (Part Coordinator)) → IsCrash (actor.Coordinator txn) act
    → Moves (crash_of_coordinator sc actors mails txn None found) (with_coordinator_down actors txn found) act
coordinator_goes sc actors mails txn act None e =
    record { actors_are = refl; happened_is = happened_so (actor.Coordinator txn) act e; letters_are = nothing_sent (actor.Coordinator txn) act e }
coordinator_goes sc actors mails txn act (Some part) e =
    record {
      actors_are = refl;
      happened_is = happened_so (actor.Coordinator txn) act e ∙ nothing_told coordinator_fact (what.Crashed (actor.Coordinator txn) ∷ []) part;
      letters_are = nothing_sent (actor.Coordinator txn) act e;
    }

pub crash_moves : (sc : Scenario) (actors : Actors) (mails : List Mail) (who : Actor) (act : Act) → IsCrash who act → Moves (crashes sc actors mails who None) (with_down actors who) act
crash_moves sc actors mails (actor.Server at) act e = server_goes sc actors mails at act (slice_get actors.servers at.0) e
crash_moves sc actors mails (actor.Coordinator txn) act e = coordinator_goes sc actors mails txn act (slice_get actors.coordinators txn.0) e
crash_moves sc actors mails actor.Master act e = record { actors_are = refl; happened_is = happened_so actor.Master act e; letters_are = nothing_sent actor.Master act e }
crash_moves sc actors mails actor.Authority act e = record { actors_are = refl; happened_is = happened_so actor.Authority act e; letters_are = nothing_sent actor.Authority act e }

-- what a log gained tells what its record tells
pub told_of : (fact : Record → List What) (kept : List Record) (left : Option Record) → flat_map fact (drop (length kept) (log_with kept left)) ≡ option_map_or fact left []
told_of fact kept None = ap (flat_map fact) (drop-length kept)
told_of fact kept (Some r) = ap (flat_map fact) (drop_at kept (r ∷ []) (length kept) refl) ∙ append-nil (fact r)

-- an act after which an actor goes down with what its log gained
pub cut_acts : {S : Type 0} (fact : Record → List What) (own : List What) (part torn : Part S) (left : Option Record) (act : Act) → torn.log ≡ log_with part.log left
    → act.happened ≡ own ++ option_map_or fact left [] → act.letters ≡ [] → Acts (goes_down fact own part left) (down_part torn) act
cut_acts {S} fact own part torn left act log happened letters = record {
  part_is = ap (λ (kept : List Record). up_with None kept) log;
  happened_is = happened ∙ ap (λ (told : List What). own ++ told) (sym (told_of fact part.log left));
  letters_are = letters;
}
  where
    up_with : Option S → List Record → Part S
    up_with up kept = record { up = up; log = kept }

-- ---- a crash in a receipt

server_cuts_at : (sc : Scenario) (actors : Actors) (mails : List Mail) (at : ServerId) (cut : Cut) (old new : Part Server) (act : Act) → Acts (server_crashes sc mails at (Some cut) old) (down_part new) act
    → Moves (crash_of_server sc actors mails at (Some cut) (Some old)) (with_server_down (record actors { servers = slice_set actors.servers at.0 new }) at (Some new)) act
server_cuts_at sc actors mails at cut old new act h =
    record {
      actors_are = ap (λ (servers : List (Part Server)). record actors { servers = servers })
          (set_twice actors.servers at.0 new (down_part new) ∙ ap (slice_set actors.servers at.0) h.part_is);
      happened_is = h.happened_is;
      letters_are = h.letters_are;
    }

-- what was done to a server's part before it goes down is the machine's crash in the receipt of this mail
pub server_cuts : (sc : Scenario) (actors : Actors) (mails : List Mail) (at : ServerId) (cut : Cut) (mail : Mail) (old new : Part Server) (act : Act)
    → slice_get actors.servers at.0 ≡ Some old → slice_get mails cut.mail ≡ Some mail
    → Acts (goes_down (server_fact at) (what.Crashed (actor.Server at) ∷ []) old (cut_record cut (server_forces sc old.up mail))) (down_part new) act
    → Moves (crashes sc actors mails (actor.Server at) (Some cut)) (with_down (record actors { servers = slice_set actors.servers at.0 new }) (actor.Server at)) act
server_cuts sc actors mails at cut mail old new act found asked h =
    let left : Option Mail → PartMove Server = λ (m : Option Mail). goes_down (server_fact at) (what.Crashed (actor.Server at) ∷ []) old (cut_record cut (option_and_then (server_forces sc old.up) m)) in
    let here : Acts (server_crashes sc mails at (Some cut) old) (down_part new) act = subst (λ (m : Option Mail). Acts (left m) (down_part new) act) (sym asked) h in
    let written : slice_get (slice_set actors.servers at.0 new) at.0 ≡ Some new = set_here actors.servers at.0 new (slice_get_within actors.servers at.0 old found) in
    subst (λ (was : Option (Part Server)). Moves (crash_of_server sc actors mails at (Some cut) was) (with_down (record actors { servers = slice_set actors.servers at.0 new }) (actor.Server at)) act) (sym found)
    (subst (λ (now : Option (Part Server)). Moves (crash_of_server sc actors mails at (Some cut) (Some old)) (with_server_down (record actors { servers = slice_set actors.servers at.0 new }) at now) act) (sym written)
    (server_cuts_at sc actors mails at cut old new act here))

coordinator_cuts_at : (sc : Scenario) (actors : Actors) (mails : List Mail) (txn : TxnId) (cut : Cut) (old new : Part Coordinator) (act : Act) → Acts (coordinator_crashes sc mails txn (Some cut) old) (down_part new) act
    → Moves (crash_of_coordinator sc actors mails txn (Some cut) (Some old)) (with_coordinator_down (record actors { coordinators = slice_set actors.coordinators txn.0 new }) txn (Some new)) act
coordinator_cuts_at sc actors mails txn cut old new act h =
    record {
      actors_are = ap (λ (coordinators : List (Part Coordinator)). record actors { coordinators = coordinators })
          (set_twice actors.coordinators txn.0 new (down_part new) ∙ ap (slice_set actors.coordinators txn.0) h.part_is);
      happened_is = h.happened_is;
      letters_are = h.letters_are;
    }

-- the same of a coordinator
pub coordinator_cuts : (sc : Scenario) (actors : Actors) (mails : List Mail) (txn : TxnId) (cut : Cut) (mail : Mail) (old new : Part Coordinator) (act : Act)
    → slice_get actors.coordinators txn.0 ≡ Some old → slice_get mails cut.mail ≡ Some mail
    → Acts (goes_down coordinator_fact (what.Crashed (actor.Coordinator txn) ∷ []) old (cut_record cut (coordinator_forces sc old.up mail))) (down_part new) act
    → Moves (crashes sc actors mails (actor.Coordinator txn) (Some cut)) (with_down (record actors { coordinators = slice_set actors.coordinators txn.0 new }) (actor.Coordinator txn)) act
coordinator_cuts sc actors mails txn cut mail old new act found asked h =
    let left : Option Mail → PartMove Coordinator = λ (m : Option Mail). goes_down coordinator_fact (what.Crashed (actor.Coordinator txn) ∷ []) old (cut_record cut (option_and_then (coordinator_forces sc old.up) m)) in
    let here : Acts (coordinator_crashes sc mails txn (Some cut) old) (down_part new) act = subst (λ (m : Option Mail). Acts (left m) (down_part new) act) (sym asked) h in
    let written : slice_get (slice_set actors.coordinators txn.0 new) txn.0 ≡ Some new = set_here actors.coordinators txn.0 new (slice_get_within actors.coordinators txn.0 old found) in
    subst (λ (was : Option (Part Coordinator)). Moves (crash_of_coordinator sc actors mails txn (Some cut) was) (with_down (record actors { coordinators = slice_set actors.coordinators txn.0 new }) (actor.Coordinator txn)) act) (sym found)
    (subst (λ (now : Option (Part Coordinator)). Moves (crash_of_coordinator sc actors mails txn (Some cut) (Some old)) (with_coordinator_down (record actors { coordinators = slice_set actors.coordinators txn.0 new }) txn now) act) (sym written)
    (coordinator_cuts_at sc actors mails txn cut old new act here))

-- an actor that is not there crashes in a receipt
pub nobody_cuts : (sc : Scenario) (actors : Actors) (mails : List Mail) (at : ServerId) (cut : Cut) (act : Act) → slice_get actors.servers at.0 ≡ None → IsCrash (actor.Server at) act
    → Moves (crashes sc actors mails (actor.Server at) (Some cut)) (with_down actors (actor.Server at)) act
nobody_cuts sc actors mails at cut act none e =
    subst (λ (was : Option (Part Server)). Moves (crash_of_server sc actors mails at (Some cut) was) (with_server_down actors at was) act) (sym none)
    (record { actors_are = refl; happened_is = happened_so (actor.Server at) act e; letters_are = nothing_sent (actor.Server at) act e })

pub nobody_cuts_either : (sc : Scenario) (actors : Actors) (mails : List Mail) (txn : TxnId) (cut : Cut) (act : Act) → slice_get actors.coordinators txn.0 ≡ None → IsCrash (actor.Coordinator txn) act
    → Moves (crashes sc actors mails (actor.Coordinator txn) (Some cut)) (with_down actors (actor.Coordinator txn)) act
nobody_cuts_either sc actors mails txn cut act none e =
    subst (λ (was : Option (Part Coordinator)). Moves (crash_of_coordinator sc actors mails txn (Some cut) was) (with_coordinator_down actors txn was) act) (sym none)
    (record { actors_are = refl; happened_is = happened_so (actor.Coordinator txn) act e; letters_are = nothing_sent (actor.Coordinator txn) act e })

-- ---- a boot

-- a server whose part was made anew, and that came up, has booted
pub server_boot_moves : (sc : Scenario) (actors : Actors) (at : ServerId) (old new : Part Server) (state : Server) (act : Act) → slice_get actors.servers at.0 ≡ Some old → Boots (server_boots sc at old) new state act
    → Moves (boots sc actors (actor.Server at)) (record actors { servers = slice_set actors.servers at.0 (record new { up = Some state }) }) act
server_boot_moves sc actors at old new state act found h =
    subst (λ (was : Option (Part Server)). Moves (boot_of_server sc actors at was) (record actors { servers = slice_set actors.servers at.0 (record new { up = Some state }) }) act) (sym found)
    (record {
      actors_are = ap (λ (part : Part Server). record actors { servers = slice_set actors.servers at.0 part }) h.part_is;
      happened_is = h.happened_is;
      letters_are = h.letters_are;
    })

pub coordinator_boot_moves : (sc : Scenario) (actors : Actors) (txn : TxnId) (old new : Part Coordinator) (state : Coordinator) (act : Act) → slice_get actors.coordinators txn.0 ≡ Some old
    → Boots (coordinator_boots sc txn old) new state act
    → Moves (boots sc actors (actor.Coordinator txn)) (record actors { coordinators = slice_set actors.coordinators txn.0 (record new { up = Some state }) }) act
coordinator_boot_moves sc actors txn old new state act found h =
    subst (λ (was : Option (Part Coordinator)). Moves (boot_of_coordinator sc actors txn was) (record actors { coordinators = slice_set actors.coordinators txn.0 (record new { up = Some state }) }) act) (sym found)
    (record {
      actors_are = ap (λ (part : Part Coordinator). record actors { coordinators = slice_set actors.coordinators txn.0 part }) h.part_is;
      happened_is = h.happened_is;
      letters_are = h.letters_are;
    })

-- ---- what stays where memory is refused

-- an actor that goes down leaves all logs
server_logs : (actors : Actors) (at : ServerId) (found : Option (Part Server)) → slice_get actors.servers at.0 ≡ found → SameLogs (with_server_down actors at found) actors
server_logs actors at None e = record { servers = refl; coordinators = refl }
server_logs actors at (Some part) e = record { servers = sym (put_same log_by actors.servers at.0 part (down_part part) e refl); coordinators = refl }

coordinator_logs : (actors : Actors) (txn : TxnId) (found : Option (Part Coordinator)) → slice_get actors.coordinators txn.0 ≡ found → SameLogs (with_coordinator_down actors txn found) actors
coordinator_logs actors txn None e = record { servers = refl; coordinators = refl }
coordinator_logs actors txn (Some part) e = record { servers = refl; coordinators = sym (put_same log_by actors.coordinators txn.0 part (down_part part) e refl) }

pub down_logs : (actors : Actors) (who : Actor) → SameLogs (with_down actors who) actors
down_logs actors (actor.Server at) = server_logs actors at (slice_get actors.servers at.0) refl
down_logs actors (actor.Coordinator txn) = coordinator_logs actors txn (slice_get actors.coordinators txn.0) refl
down_logs actors actor.Master = record { servers = refl; coordinators = refl }
down_logs actors actor.Authority = record { servers = refl; coordinators = refl }

-- where an actor was cut, and then memory was refused, the logs are those after the step
pub cut_logs : (old now next : Actors) (who : Actor) → with_down now who ≡ next → HasEitherLogs old next now
cut_logs old now next who e = inr (subst (λ (a : Actors). SameLogs a now) e (down_logs now who))

-- nobody boots where there is nobody
abbrev nobody_is : Act
nobody_is = record { happened = []; letters = [] }

pub nobody_boots_server : (sc : Scenario) (actors : Actors) (at : ServerId) → slice_get actors.servers at.0 ≡ None → Moves (boot_of_server sc actors at (slice_get actors.servers at.0)) actors (record { happened = []; letters = [] })
nobody_boots_server sc actors at none =
    subst (λ (o : Option (Part Server)). Moves (boot_of_server sc actors at o) actors nobody_is) (sym none) (record { actors_are = refl; happened_is = refl; letters_are = refl })

pub nobody_boots_coordinator : (sc : Scenario) (actors : Actors) (txn : TxnId) → slice_get actors.coordinators txn.0 ≡ None
    → Moves (boot_of_coordinator sc actors txn (slice_get actors.coordinators txn.0)) actors (record { happened = []; letters = [] })
nobody_boots_coordinator sc actors txn none =
    subst (λ (o : Option (Part Coordinator)). Moves (boot_of_coordinator sc actors txn o) actors nobody_is) (sym none) (record { actors_are = refl; happened_is = refl; letters_are = refl })

-- where an actor has forced its boot, and then memory was refused, the logs are those after the step
pub server_boot_logs : (sc : Scenario) (actors : Actors) (at : ServerId) (old new : Part Server) (state : Server) (act : Act) → slice_get actors.servers at.0 ≡ Some old → Boots (server_boots sc at old) new state act
    → SameLogs (boot_of_server sc actors at (slice_get actors.servers at.0)).actors (record actors { servers = slice_set actors.servers at.0 new })
server_boot_logs sc actors at old new state act found h =
    subst (λ (o : Option (Part Server)). SameLogs (boot_of_server sc actors at o).actors (record actors { servers = slice_set actors.servers at.0 new })) (sym found)
    (record { servers = put_alike log_by actors.servers at.0 new (server_boots sc at old).part (ap log_by h.part_is); coordinators = refl })

pub coordinator_boot_logs : (sc : Scenario) (actors : Actors) (txn : TxnId) (old new : Part Coordinator) (state : Coordinator) (act : Act) → slice_get actors.coordinators txn.0 ≡ Some old
    → Boots (coordinator_boots sc txn old) new state act
    → SameLogs (boot_of_coordinator sc actors txn (slice_get actors.coordinators txn.0)).actors (record actors { coordinators = slice_set actors.coordinators txn.0 new })
coordinator_boot_logs sc actors txn old new state act found h =
    subst (λ (o : Option (Part Coordinator)). SameLogs (boot_of_coordinator sc actors txn o).actors (record actors { coordinators = slice_set actors.coordinators txn.0 new })) (sym found)
    (record { servers = refl; coordinators = put_alike log_by actors.coordinators txn.0 new (coordinator_boots sc txn old).part (ap log_by h.part_is) })
