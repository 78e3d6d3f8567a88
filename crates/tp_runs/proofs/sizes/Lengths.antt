-- A sound record that says few things is spelled in few bytes, so that none on an actor's log is too long for a log.
use Rattle.std.proofs.Common.{List, None, Option, Some, [], ap, arith, length, refl, ℕ, ℤ, ◌*◌, ◌++◌, ◌+◌, ◌∙◌, ◌∷◌, ◌≡◌, ◌≤◌}
use Rattle.std.specs.List.{flat_map}
use Rattle.std.specs.Int.{cast_unsigned, w128}
use Rattle.std.proofs.lemmas.List.{length-append}
use Rattle.std.proofs.lemmas.List.Concat.{flat_map-cons}
use Rattle.byteorder.specs.Numbers.{length-bytes_high_first}
use Rattle.tp_model.specs.Words.action
use Rattle.tp_model.specs.Words.cause
use Rattle.tp_model.specs.Words.decision
use Rattle.tp_model.specs.Words.log
use Rattle.tp_model.specs.Words.no
use Rattle.tp_model.specs.Words.outcome
use Rattle.tp_model.specs.Words.{Action, Admin, Cause, CommitRecord, CredId, Decided, Decision, Deed, Denied, Died, Instance, Met, Newer, No, OutOfRange, Outcome, Prepared, Record, Scenario, ServerId, Settled, Told, TxnId, Verdict, Version}
use Rattle.tp_coord.specs.State.{Coordinator}
use Rattle.tp_machine.specs.Machine.{State}
use Rattle.tp_machine.specs.Parts.{Part}
use Rattle.tp_record.specs.Spelling as spell
use Rattle.tp_record.specs.Spelling.{content, list, long, option, short, value}
use Rattle.tp_runs.proofs.basics.Uses.{creds_few}
use Rattle.tp_runs.proofs.ids.Valid.{IsValid}
use Rattle.tp_machine.specs.Fits.{FitLogs}
use Rattle.tp_actor_log.specs.Records.{FitsLog}
use Rattle.tp_runs.proofs.sizes.Counts.{IsSmallAtCoordinator, IsSmallAtServer, IsSmallCause, IsSmallCommit, IsSmallDecision, IsSmallInstance, IsSmallVote}
use Rattle.tp_runs.proofs.sizes.World.{Sizes}
use Rattle.tp_runs.specs.Sound.{AreVersionsOf, IsSound, IsSoundCommit, IsSoundCoordinatorRecord, IsSoundDecision, IsSoundInstance, IsSoundPrepared, IsSoundProof, IsSoundServerRecord, IsSoundVerdict}
use Rattle.tp_server.specs.State.{Server}
use Rattle.tp_types.proofs.EachLemmas.{each_as, each_both, each_of_all, each_placed}
use Rattle.tp_types.specs.Each.{Each}

-- ---- numbers

short_length : (n : ℕ) → length (short n) ≡ 4
unfolding short
short_length n = length-bytes_high_first 4 n

long_length : (n : ℕ) → length (long n) ≡ 8
unfolding long
long_length n = length-bytes_high_first 8 n

value_length : (z : ℤ) → length (value z) ≡ 16
unfolding value
value_length z = length-bytes_high_first 16 (cast_unsigned w128 z)

-- ---- options and lists

option_most : {A : Type 0} (bytes : A → List ℕ) (most : ℕ) (found : Option A) → ((x : A) → length (bytes x) ≤ most) → length (option bytes found) ≤ 1 + most
option_most bytes most None h = omega arith
option_most bytes most (Some x) h = omega (arith, h x)

-- members of at most so many bytes
members_most : {A : Type 0} (bytes : A → List ℕ) (most : ℕ) (xs : List A) → Each (λ (x : A). length (bytes x) ≤ most) xs → length (flat_map bytes xs) ≤ length xs * most
members_most bytes most [] h = omega arith
members_most bytes most (x ∷ xs) h =
    let whole : length (flat_map bytes (x ∷ xs)) ≡ length (bytes x) + length (flat_map bytes xs) = ap length (flat_map-cons bytes x xs) ∙ length-append (bytes x) (flat_map bytes xs) in
    omega (arith, whole, h.0, members_most bytes most xs h.1)

list_most : {A : Type 0} (bytes : A → List ℕ) (most : ℕ) (xs : List A) → Each (λ (x : A). length (bytes x) ≤ most) xs → length (list bytes xs) ≤ 4 + length xs * most
list_most bytes most xs h =
    omega (arith, length-append (short (length xs)) (flat_map bytes xs), short_length (length xs), members_most bytes most xs h)

-- ---- the parts of records

action_length : (kind : Action) → length (spell.action kind) ≡ 1
action_length action.Read = refl
action_length action.Write = refl

outcome_length : (ended : Outcome) → length (spell.outcome ended) ≡ 1
outcome_length outcome.Commit = refl
outcome_length outcome.Abort = refl

deed_most : (deed : Deed) → length (spell.deed deed) ≤ 25
deed_most deed =
    let inner = length-append (spell.action deed.action) (value deed.value) in
    let middle = length-append (short deed.item.0) (spell.action deed.action ++ value deed.value) in
    let whole = length-append (short deed.query) (short deed.item.0 ++ (spell.action deed.action ++ value deed.value)) in
    omega (arith, whole, middle, inner, short_length deed.query, short_length deed.item.0, action_length deed.action, value_length deed.value)

cred_most : (cred : CredId) → length (spell.credential cred) ≤ 4
cred_most cred = omega (arith, short_length cred.0)

version_most : (version : Version) → length (spell.version version) ≤ 4
version_most version = omega (arith, short_length version.0)

-- a verdict that uses at most 256 credentials
verdict_most : (verdict : Verdict) → length verdict.uses ≤ 256 → length (spell.verdict verdict) ≤ 1057
verdict_most verdict few =
    let rule = option short verdict.rule in
    let uses = list spell.credential verdict.uses in
    let last = length-append rule uses in
    let fifth = length-append (long verdict.place) (rule ++ uses) in
    let fourth = length-append (spell.version verdict.version) (long verdict.place ++ (rule ++ uses)) in
    let third = length-append (short verdict.admin.0) (spell.version verdict.version ++ (long verdict.place ++ (rule ++ uses))) in
    let second = length-append (short verdict.server.0) (short verdict.admin.0 ++ (spell.version verdict.version ++ (long verdict.place ++ (rule ++ uses)))) in
    let whole = length-append (short verdict.query) (short verdict.server.0 ++ (short verdict.admin.0 ++ (spell.version verdict.version ++ (long verdict.place ++ (rule ++ uses))))) in
    let ruled : length rule ≤ 1 + 4 = option_most short 4 verdict.rule (λ n. omega (arith, short_length n)) in
    let used : length uses ≤ 4 + length verdict.uses * 4 = list_most spell.credential 4 verdict.uses (each_of_all (λ (cred : CredId). length (spell.credential cred) ≤ 4) cred_most verdict.uses) in
    omega (arith, whole, second, third, fourth, fifth, last, ruled, used, few, short_length verdict.query, short_length verdict.server.0, short_length verdict.admin.0, short_length verdict.version.0, long_length verdict.place)

abbrev VerdictFits : Verdict → Type 0
VerdictFits verdict = length (spell.verdict verdict) ≤ 1057

-- a sound one does
sound_most : (sc : Scenario) (txn : TxnId) (verdict : Verdict) → IsValid sc → IsSoundVerdict sc txn verdict → VerdictFits verdict
sound_most sc txn verdict valid h =
    let few : length verdict.uses ≤ length sc.creds = creds_few sc verdict.uses h.uses h.once in
    verdict_most verdict (omega (arith, few, valid.few_creds))

verdicts_most : (verdicts : List Verdict) → length verdicts ≤ 16 → Each VerdictFits verdicts → length (list spell.verdict verdicts) ≤ 16916
verdicts_most verdicts few h = omega (arith, few, list_most spell.verdict 1057 verdicts h)

abbrev InstanceFits : Instance → Type 0
InstanceFits instance = length (spell.instance instance) ≤ 16925

instance_most : (sc : Scenario) (txn : TxnId) (instance : Instance) → IsValid sc → IsSoundInstance sc txn instance → IsSmallInstance instance → InstanceFits instance
instance_most sc txn instance valid h few =
    let proofs : length (list spell.verdict instance.proofs) ≤ 16916 = verdicts_most instance.proofs few.few (each_as (IsSoundProof sc txn) VerdictFits (λ verdict proof. sound_most sc txn verdict valid proof.sound) instance.proofs h) in
    let read : length (option long instance.reading) ≤ 1 + 8 = option_most long 8 instance.reading (λ n. omega (arith, long_length n)) in
    omega (arith, length-append (option long instance.reading) (list spell.verdict instance.proofs), proofs, read)

deeds_most : (deeds : List Deed) → length deeds ≤ 16 → length (list spell.deed deeds) ≤ 404
deeds_most deeds few = omega (arith, few, list_most spell.deed 25 deeds (each_of_all (λ (deed : Deed). length (spell.deed deed) ≤ 25) deed_most deeds))

-- ---- why a transaction aborted

met_most : (met : Met) → length (spell.met_bytes met) ≤ 20
met_most met =
    let last = length-append (spell.version met.newest) (long met.place) in
    let second = length-append (spell.version met.used) (spell.version met.newest ++ long met.place) in
    let whole = length-append (short met.admin.0) (spell.version met.used ++ (spell.version met.newest ++ long met.place)) in
    omega (arith, whole, second, last, short_length met.admin.0, short_length met.used.0, short_length met.newest.0, long_length met.place)

denied_most : (denied : Denied) → length (spell.denied_bytes denied) ≤ 24
denied_most d =
    let last = length-append (spell.version d.version) (long d.place) in
    let third = length-append (short d.admin.0) (spell.version d.version ++ long d.place) in
    let second = length-append (short d.server.0) (short d.admin.0 ++ (spell.version d.version ++ long d.place)) in
    let whole = length-append (short d.query) (short d.server.0 ++ (short d.admin.0 ++ (spell.version d.version ++ long d.place))) in
    omega (arith, whole, second, third, last, short_length d.query, short_length d.server.0, short_length d.admin.0, short_length d.version.0, long_length d.place)

out_of_range_most : (left : OutOfRange) → length (spell.out_of_range_bytes left) ≤ 24
out_of_range_most o =
    let last = length-append (short o.server.0) (value o.value) in
    let whole = length-append (short o.query) (short o.server.0 ++ value o.value) in
    omega (arith, whole, last, short_length o.query, short_length o.server.0, value_length o.value)

died_most : (died : Died) → length (spell.died_bytes died) ≤ 20
died_most d =
    let last = length-append (short d.other.0) (long d.place) in
    let second = length-append (short d.server.0) (short d.other.0 ++ long d.place) in
    let whole = length-append (short d.query) (short d.server.0 ++ (short d.other.0 ++ long d.place)) in
    omega (arith, whole, second, last, short_length d.query, short_length d.server.0, short_length d.other.0, long_length d.place)

newer_most : (newer : Newer) → length (spell.newer_bytes newer) ≤ 12
newer_most n =
    let last = length-append (spell.version n.used) (spell.version n.found) in
    let whole = length-append (short n.admin.0) (spell.version n.used ++ spell.version n.found) in
    omega (arith, whole, last, short_length n.admin.0, short_length n.used.0, short_length n.found.0)

cause_most : (why : Cause) → IsSmallCause why → length (spell.cause why) ≤ 325
cause_most (cause.Denied denied) few = omega (arith, denied_most denied)
cause_most (cause.No left) few = omega (arith, out_of_range_most left)
cause_most (cause.Died died) few = omega (arith, died_most died)
cause_most (cause.Newer newer) few = omega (arith, newer_most newer)
cause_most (cause.Rounds mets) few = omega (arith, few, list_most spell.met_bytes 20 mets (each_of_all (λ (met : Met). length (spell.met_bytes met) ≤ 20) met_most mets))
cause_most (cause.Restarted at) few = omega (arith, short_length at.0)
cause_most cause.Halted few = omega arith

-- ---- records

commit_most : (sc : Scenario) (txn : TxnId) (committed : CommitRecord) → IsValid sc → IsSoundCommit sc txn committed → IsSmallCommit committed → length (spell.commit committed) ≤ 288137
commit_most sc txn c valid h few =
    let instances : length (list spell.instance c.instances) ≤ 4 + length c.instances * 16925 = list_most spell.instance 16925 c.instances
    (each_both (IsSoundInstance sc txn) IsSmallInstance InstanceFits (λ instance sound small. instance_most sc txn instance valid sound small) c.instances h.instances few.proofs) in
    let last = length-append (list spell.instance c.instances) (list spell.deed c.deeds) in
    let whole = length-append (short c.rounds) (list spell.instance c.instances ++ list spell.deed c.deeds) in
    omega (arith, whole, last, short_length c.rounds, instances, few.instances, deeds_most c.deeds few.deeds)

decision_most : (sc : Scenario) (txn : TxnId) (decided : Decision) → IsValid sc → IsSoundDecision sc txn decided → IsSmallDecision decided → length (spell.decision decided) ≤ 288138
decision_most sc txn (decision.Commit committed) valid h few = omega (arith, commit_most sc txn committed valid h few)
decision_most sc txn (decision.Abort why) valid h few = omega (arith, cause_most why few)

decided_most : (sc : Scenario) (txn : TxnId) (decided : Decided) → IsValid sc → IsSoundDecision sc txn decided.decision → IsSmallDecision decided.decision → length (spell.decided_bytes decided) ≤ 288142
decided_most sc txn d valid h few =
    omega (arith, length-append (short d.txn.0) (spell.decision d.decision), short_length d.txn.0, decision_most sc txn d.decision valid h few)

told_most : (told : Told) → length (spell.told_bytes told) ≤ 8
told_most told = omega (arith, length-append (short told.admin.0) (spell.version told.version), short_length told.admin.0, short_length told.version.0)

no_most : (why : No) → length (spell.no why) ≤ 21
no_most (no.Range number left) = omega (arith, length-append (short number) (value left), short_length number, value_length left)
no_most no.Restarted = omega arith

settled_most : (settled : Settled) → length (spell.settled_bytes settled) ≤ 27
settled_most s =
    let last = length-append (spell.outcome s.outcome) (option spell.no s.why) in
    let whole = length-append (short s.txn.0) (spell.outcome s.outcome ++ option spell.no s.why) in
    omega (arith, whole, last, short_length s.txn.0, outcome_length s.outcome, option_most spell.no 21 s.why no_most)

-- a version of each administrator
versions_count : (admins : List Admin) (versions : List Version) → AreVersionsOf admins versions → length versions ≡ length admins
versions_count [] [] h = refl
versions_count [] (version ∷ versions) h = absurd h
versions_count (admin ∷ admins) [] h = absurd h
versions_count (admin ∷ admins) (version ∷ versions) h = omega (arith, versions_count admins versions h.1)

prepared_most : (sc : Scenario) (at : ServerId) (prepared : Prepared) → IsValid sc → IsSoundPrepared sc at prepared → IsSmallVote prepared → length (spell.prepared_bytes prepared) ≤ 17412
prepared_most sc at p valid h few =
    let deeds = list spell.deed p.deeds in
    let verdicts = list spell.verdict p.verdicts in
    let told = list spell.version p.told in
    let sixth = length-append verdicts told in
    let fifth = length-append deeds (verdicts ++ told) in
    let fourth = length-append (short p.turn) (deeds ++ (verdicts ++ told)) in
    let third = length-append (long p.epoch) (short p.turn ++ (deeds ++ (verdicts ++ told))) in
    let second = length-append (long p.age) (long p.epoch ++ (short p.turn ++ (deeds ++ (verdicts ++ told)))) in
    let whole = length-append (short p.txn.0) (long p.age ++ (long p.epoch ++ (short p.turn ++ (deeds ++ (verdicts ++ told))))) in
    let judged : length verdicts ≤ 16916 = verdicts_most p.verdicts few.verdicts (each_as (IsSoundVerdict sc p.txn) VerdictFits (λ verdict sound. sound_most sc p.txn verdict valid sound) p.verdicts h.verdicts) in
    let known : length told ≤ 4 + length p.told * 4 = list_most spell.version 4 p.told (each_of_all (λ (version : Version). length (spell.version version) ≤ 4) version_most p.told) in
    omega (arith, whole, second, third, fourth, fifth, sixth, judged, known, versions_count sc.admins p.told h.told, valid.few_admins, deeds_most p.deeds few.deeds, short_length p.txn.0, short_length p.turn, long_length p.age, long_length p.epoch)

-- what the content is at most, behind its length
spelled_most : (kept : Record) (most : ℕ) → length (content kept) ≤ most → length (spell.spelling kept) ≤ 4 + most
spelled_most kept most h = omega (arith, length-append (short (length (content kept))) (content kept), short_length (length (content kept)), h)

server_content : (sc : Scenario) (at : ServerId) (kept : Record) → IsValid sc → IsSoundServerRecord sc at kept → IsSmallAtServer kept → length (content kept) ≤ 288143
server_content sc at log.Boot valid h few = omega arith
server_content sc at (log.Told told) valid h few = omega (arith, told_most told)
server_content sc at (log.Prepared prepared) valid h few = omega (arith, prepared_most sc at prepared valid h few)
server_content sc at (log.Settled settled) valid h few = omega (arith, settled_most settled)
server_content sc at (log.Decided decided) valid h few = absurd few

coordinator_content : (sc : Scenario) (txn : TxnId) (kept : Record) → IsValid sc → IsSoundCoordinatorRecord sc txn kept → IsSmallAtCoordinator kept → length (content kept) ≤ 288143
coordinator_content sc txn log.Boot valid h few = omega arith
coordinator_content sc txn (log.Told told) valid h few = omega (arith, told_most told)
coordinator_content sc txn (log.Prepared prepared) valid h few = absurd few
coordinator_content sc txn (log.Settled settled) valid h few = omega (arith, settled_most settled)
coordinator_content sc txn (log.Decided decided) valid h few = omega (arith, decided_most sc txn decided valid h.rests_on few)

-- each record of a server's log fits
pub server_fits : (sc : Scenario) (at : ServerId) (kept : Record) → IsValid sc → IsSoundServerRecord sc at kept → IsSmallAtServer kept → FitsLog kept
server_fits sc at kept valid h few = omega (arith, spelled_most kept 288143 (server_content sc at kept valid h few))

-- and each of a coordinator's
pub coordinator_fits : (sc : Scenario) (txn : TxnId) (kept : Record) → IsValid sc → IsSoundCoordinatorRecord sc txn kept → IsSmallAtCoordinator kept → FitsLog kept
coordinator_fits sc txn kept valid h few = omega (arith, spelled_most kept 288143 (coordinator_content sc txn kept valid h few))

-- ---- the world

-- no record on an actor's log is too long
pub all_fit : (sc : Scenario) (w : State) → IsValid sc → IsSound sc w → Sizes w → FitLogs w.actors
all_fit sc w valid sound h =
    record {
      servers = each_placed (λ (part : Part Server). Each FitsLog part.log) w.actors.servers
          (λ n part e. each_both (IsSoundServerRecord sc (record { 0 = n })) IsSmallAtServer FitsLog (λ kept k small. server_fits sc (record { 0 = n }) kept valid k small) part.log
          (sound.actors_are.servers n part e).records (h.servers n part e));
      coordinators = each_placed (λ (part : Part Coordinator). Each FitsLog part.log) w.actors.coordinators
          (λ n part e. each_both (IsSoundCoordinatorRecord sc (record { 0 = n })) IsSmallAtCoordinator FitsLog (λ kept k small. coordinator_fits sc (record { 0 = n }) kept valid k small) part.log
          (sound.actors_are.coordinators n part e).records (h.coordinators n part e));
    }
