-- What a report may tell, so that it can be read back: all that it names exists, and each number is of its type.
use Rattle.std.specs.Prelude.{ℕ, ◌^◌, ◌&&◌, ◌==◌, nat_lt, not, List, [], ◌∷◌, length, Bool, true, false, Option, None, Some, ℤ, pos, negsuc}
use Rattle.std.specs.List.{list_all, list_any}
use Rattle.std.specs.Option.{option_map_or}
use Rattle.tp_model.specs.Words.{Action, Actor, Cause, CommitRecord, CredId, Credential, Decision, Deed, Denied, Died, Ending, Fact, Instance, Met, Newer, OutOfRange, Scenario, Verdict, What}
use Rattle.tp_model.specs.Ids.{same_name}
use Rattle.tp_model.specs.Valid.{is_admin, is_cred, is_item, is_server, is_txn}
use Rattle.tp_types.specs.declared.fact.What.TheVariants.{Submitted, Published, Revoked, Ticked, Crashed, Lost, Decided, Settled}
use Rattle.tp_types.specs.declared.records.Cause.TheVariants.{Denied as IsDenied, No, Died as HasDied, Newer as IsNewer, Rounds, Restarted, Halted}
use Rattle.tp_types.specs.declared.records.Decision.TheVariants.{Commit as Commits, Abort as Aborts}
use Rattle.tp_types.specs.declared.scenario.Actor.TheVariants.{Server, Coordinator, Master, Authority}
use Rattle.std.specs.Prelude.{codes}

-- ---- numbers of their types

abbrev pub is_u32 : ℕ → Bool
is_u32 n = nat_lt n (2 ^ 32)

abbrev pub is_u64 : ℕ → Bool
is_u64 n = nat_lt n (2 ^ 64)

abbrev pub is_i128 : ℤ → Bool
is_i128 (pos n) = nat_lt n (2 ^ 127)
is_i128 (negsuc n) = nat_lt n (2 ^ 127)

-- ---- what a fact may be

abbrev pub is_printable_met : Scenario → Met → Bool
is_printable_met sc met =
    is_admin sc met.admin && is_u32 met.used.0 && (is_u32 met.newest.0 && is_u64 met.place)

abbrev pub are_printable_mets : Scenario → List Met → Bool
are_printable_mets sc [] = false
are_printable_mets sc (first ∷ others) =
    is_printable_met sc first && list_all (is_printable_met sc) others

-- rounds that were spent met something
abbrev pub is_printable_cause : Scenario → Cause → Bool
is_printable_cause sc (IsDenied denied) =
    is_u32 denied.query && is_server sc denied.server
    && (is_admin sc denied.admin && is_u32 denied.version.0 && is_u64 denied.place)
is_printable_cause sc (No outside) =
    is_u32 outside.query && is_server sc outside.server && is_i128 outside.value
is_printable_cause sc (HasDied died) =
    is_u32 died.query && is_server sc died.server && (is_txn sc died.other && is_u64 died.place)
is_printable_cause sc (IsNewer newer) =
    is_admin sc newer.admin && is_u32 newer.used.0 && is_u32 newer.found.0
is_printable_cause sc (Rounds mets) = are_printable_mets sc mets
is_printable_cause sc (Restarted server) = is_server sc server
is_printable_cause sc Halted = true

-- a proof has a rule
abbrev pub is_printable_proof : Scenario → Verdict → Bool
is_printable_proof sc proof =
    is_u32 proof.query && is_server sc proof.server && is_admin sc proof.admin
    && (is_u32 proof.version.0 && is_u64 proof.place && option_map_or is_u32 proof.rule false)
    && list_all (is_cred sc) proof.uses

abbrev pub is_printable_instance : Scenario → Instance → Bool
is_printable_instance sc made =
    option_map_or is_u64 made.reading true && list_all (is_printable_proof sc) made.proofs

abbrev pub is_printable_deed : Scenario → Deed → Bool
is_printable_deed sc deed = is_u32 deed.query && is_item sc deed.item && is_i128 deed.value

abbrev pub is_printable_commit : Scenario → CommitRecord → Bool
is_printable_commit sc held =
    is_u32 held.rounds && list_all (is_printable_instance sc) held.instances
    && list_all (is_printable_deed sc) held.deeds

abbrev pub is_printable_decision : Scenario → Decision → Bool
is_printable_decision sc (Commits held) = is_printable_commit sc held
is_printable_decision sc (Aborts cause) = is_printable_cause sc cause

-- servers and coordinators crash
abbrev pub is_printable_crash : Scenario → Actor → Bool
is_printable_crash sc (Server id) = is_server sc id
is_printable_crash sc (Coordinator id) = is_txn sc id
is_printable_crash sc Master = false
is_printable_crash sc Authority = false

abbrev pub is_printable_what : Scenario → What → Bool
is_printable_what sc (Submitted txn) = is_txn sc txn
is_printable_what sc (Published admin version) = is_admin sc admin && is_u32 version.0
is_printable_what sc (Revoked cred) = is_cred sc cred
is_printable_what sc (Ticked by) = is_u64 by
is_printable_what sc (Crashed actor) = is_printable_crash sc actor
is_printable_what sc (Lost mail) = is_u64 mail
is_printable_what sc (Decided txn decision) = is_txn sc txn && is_printable_decision sc decision
is_printable_what sc (Settled server txn outcome) = is_server sc server && is_txn sc txn

abbrev pub is_printable_fact : Scenario → Fact → Bool
is_printable_fact sc fact = is_u64 fact.place && is_printable_what sc fact.what

-- an ending has a value for each item
abbrev pub is_printable_ending : Scenario → Ending → Bool
is_printable_ending sc ending =
    is_u64 ending.steps && is_u64 ending.mails
    && (list_all is_i128 ending.values && length ending.values == length sc.items)

abbrev pub is_printable : Scenario → List Fact → Ending → Bool
is_printable sc facts ending =
    list_all (is_printable_fact sc) facts && is_printable_ending sc ending

-- ---- names

-- a credential has the name that stands where a proof uses none
abbrev pub is_called_none : Credential → Bool
is_called_none cred = same_name cred.name (codes "none")

abbrev pub has_cred_none : Scenario → Bool
has_cred_none sc = list_any is_called_none sc.creds
