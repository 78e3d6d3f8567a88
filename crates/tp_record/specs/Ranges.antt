-- The numbers that a record can hold: those of its fields' types.
use Rattle.std.specs.Prelude.{ℕ, ◌^◌, ◌<◌, ⊤, List, Option, IfSome, ℤ, FitsSigned}
use Rattle.std.specs.List.{AllByRecursion}
use Rattle.std.specs.Int.{w128}
use Rattle.tp_types.specs.declared.ids.CredId.{CredId}
use Rattle.tp_types.specs.declared.ids.Version.{Version}
use Rattle.tp_types.specs.declared.policy.Action.{Action}
use Rattle.tp_types.specs.declared.records.Cause.{Cause}
use Rattle.tp_types.specs.declared.records.Cause.TheVariants as causes
use Rattle.tp_types.specs.declared.records.CommitRecord.{CommitRecord}
use Rattle.tp_types.specs.declared.records.Decided.{Decided}
use Rattle.tp_types.specs.declared.records.Decision.{Decision}
use Rattle.tp_types.specs.declared.records.Decision.TheVariants as decisions
use Rattle.tp_types.specs.declared.records.Deed.{Deed}
use Rattle.tp_types.specs.declared.records.Denied.{Denied}
use Rattle.tp_types.specs.declared.records.Died.{Died}
use Rattle.tp_types.specs.declared.records.Instance.{Instance}
use Rattle.tp_types.specs.declared.records.Met.{Met}
use Rattle.tp_types.specs.declared.records.Newer.{Newer}
use Rattle.tp_types.specs.declared.records.No.{No}
use Rattle.tp_types.specs.declared.records.No.TheVariants as noes
use Rattle.tp_types.specs.declared.records.OutOfRange.{OutOfRange}
use Rattle.tp_types.specs.declared.records.Outcome.{Outcome}
use Rattle.tp_types.specs.declared.records.Prepared.{Prepared}
use Rattle.tp_types.specs.declared.records.Record.{Record}
use Rattle.tp_types.specs.declared.records.Record.TheVariants as kinds
use Rattle.tp_types.specs.declared.records.Settled.{Settled}
use Rattle.tp_types.specs.declared.records.Told.{Told}
use Rattle.tp_types.specs.declared.records.Verdict.{Verdict}

abbrev pub IsShort : ℕ → Type 0
IsShort n = n < 2 ^ 32

abbrev pub IsLong : ℕ → Type 0
IsLong n = n < 2 ^ 64

abbrev pub IsValue : ℤ → Type 0
IsValue z = FitsSigned w128 z

abbrev pub InOption : {X : Type 0} → (X → Type 0) → Option X → Type 0
InOption P o = IfSome o P

abbrev pub InList : {X : Type 0} → (X → Type 0) → List X → Type 0
InList P xs = AllByRecursion P xs

abbrev pub IsAction : Action → Type 0
IsAction a = ⊤

abbrev pub IsOutcome : Outcome → Type 0
IsOutcome o = ⊤

abbrev pub IsCredential : CredId → Type 0
IsCredential c = IsShort c.0

abbrev pub IsVersion : Version → Type 0
IsVersion v = IsShort v.0

abbrev pub IsDeed : Deed → Type 0
IsDeed d = IsShort d.query × (IsShort d.item.0 × (IsAction d.action × IsValue d.value))

abbrev pub IsVerdict : Verdict → Type 0
IsVerdict v =
    IsShort v.query
    × (IsShort v.server.0
    × (IsShort v.admin.0
    × (IsVersion v.version
    × (IsLong v.place × (InOption IsShort v.rule × InList IsCredential v.uses)))))

abbrev pub IsInstance : Instance → Type 0
IsInstance i = InOption IsLong i.reading × InList IsVerdict i.proofs

abbrev pub IsNo : No → Type 0
IsNo (noes.Range query z) = IsShort query × IsValue z
IsNo noes.Restarted = ⊤

abbrev pub IsMet : Met → Type 0
IsMet m = IsShort m.admin.0 × (IsVersion m.used × (IsVersion m.newest × IsLong m.place))

abbrev pub IsDenied : Denied → Type 0
IsDenied d =
    IsShort d.query
    × (IsShort d.server.0 × (IsShort d.admin.0 × (IsVersion d.version × IsLong d.place)))

abbrev pub IsOutOfRange : OutOfRange → Type 0
IsOutOfRange o = IsShort o.query × (IsShort o.server.0 × IsValue o.value)

abbrev pub IsDied : Died → Type 0
IsDied d = IsShort d.query × (IsShort d.server.0 × (IsShort d.other.0 × IsLong d.place))

abbrev pub IsNewer : Newer → Type 0
IsNewer n = IsShort n.admin.0 × (IsVersion n.used × IsVersion n.found)

abbrev pub IsCause : Cause → Type 0
IsCause (causes.Denied d) = IsDenied d
IsCause (causes.No o) = IsOutOfRange o
IsCause (causes.Died d) = IsDied d
IsCause (causes.Newer n) = IsNewer n
IsCause (causes.Rounds ms) = InList IsMet ms
IsCause (causes.Restarted server) = IsShort server.0
IsCause causes.Halted = ⊤

abbrev pub IsCommit : CommitRecord → Type 0
IsCommit c = IsShort c.rounds × (InList IsInstance c.instances × InList IsDeed c.deeds)

abbrev pub IsDecision : Decision → Type 0
IsDecision (decisions.Commit c) = IsCommit c
IsDecision (decisions.Abort c) = IsCause c

abbrev pub IsTold : Told → Type 0
IsTold t = IsShort t.admin.0 × IsVersion t.version

abbrev pub IsPrepared : Prepared → Type 0
IsPrepared p =
    IsShort p.txn.0
    × (IsLong p.age
    × (IsLong p.epoch
    × (IsShort p.turn
    × (InList IsDeed p.deeds × (InList IsVerdict p.verdicts × InList IsVersion p.told)))))

abbrev pub IsSettled : Settled → Type 0
IsSettled s = IsShort s.txn.0 × (IsOutcome s.outcome × InOption IsNo s.why)

abbrev pub IsDecided : Decided → Type 0
IsDecided d = IsShort d.txn.0 × IsDecision d.decision

abbrev pub IsInRange : Record → Type 0
IsInRange kinds.Boot = ⊤
IsInRange (kinds.Told t) = IsTold t
IsInRange (kinds.Prepared p) = IsPrepared p
IsInRange (kinds.Settled s) = IsSettled s
IsInRange (kinds.Decided d) = IsDecided d
