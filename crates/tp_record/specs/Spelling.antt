-- The one spelling of each record. Numbers are big-endian.
use Rattle.std.specs.Prelude.{ℕ, List, [], ◌∷◌, ◌++◌, length, Option, Some, None, ℤ}
use Rattle.std.specs.List.{flat_map}
use Rattle.std.specs.Int.{w128, cast_unsigned}
use Rattle.byteorder.specs.Endian.{big_bytes}
use Rattle.tp_types.specs.declared.ids.CredId.{CredId}
use Rattle.tp_types.specs.declared.ids.Version.{Version}
use Rattle.tp_types.specs.declared.policy.Action.{Action}
use Rattle.tp_types.specs.declared.policy.Action.TheVariants as actions
use Rattle.tp_types.specs.declared.records.Cause.{Cause}
use Rattle.tp_types.specs.declared.records.Cause.TheVariants as causes
use Rattle.tp_types.specs.declared.records.CommitRecord.{CommitRecord}
use Rattle.tp_types.specs.declared.records.Decided.{Decided}
use Rattle.tp_types.specs.declared.records.Decision.{Decision}
use Rattle.tp_types.specs.declared.records.Decision.TheVariants as decisions
use Rattle.tp_types.specs.declared.records.Deed.{Deed}
use Rattle.tp_types.specs.declared.records.Denied.{Denied}
use Rattle.tp_types.specs.declared.records.Died.{Died}
use Rattle.tp_types.specs.declared.records.Instance.{Instance}
use Rattle.tp_types.specs.declared.records.Met.{Met}
use Rattle.tp_types.specs.declared.records.Newer.{Newer}
use Rattle.tp_types.specs.declared.records.No.{No}
use Rattle.tp_types.specs.declared.records.No.TheVariants as noes
use Rattle.tp_types.specs.declared.records.OutOfRange.{OutOfRange}
use Rattle.tp_types.specs.declared.records.Outcome.{Outcome}
use Rattle.tp_types.specs.declared.records.Outcome.TheVariants as outcomes
use Rattle.tp_types.specs.declared.records.Prepared.{Prepared}
use Rattle.tp_types.specs.declared.records.Record.{Record}
use Rattle.tp_types.specs.declared.records.Record.TheVariants as kinds
use Rattle.tp_types.specs.declared.records.Settled.{Settled}
use Rattle.tp_types.specs.declared.records.Told.{Told}
use Rattle.tp_types.specs.declared.records.Verdict.{Verdict}

-- ---- numbers, options and lists

-- ids, versions, queries, rules, turns, rounds and counts
unfoldable pub short : ℕ → List ℕ
short n = big_bytes 4 n

-- places, ages and epochs
unfoldable pub long : ℕ → List ℕ
long n = big_bytes 8 n

-- an item's value, in two's complement
unfoldable pub value : ℤ → List ℕ
value z = big_bytes 16 (cast_unsigned w128 z)

abbrev pub option : {X : Type 0} → (X → List ℕ) → Option X → List ℕ
option spell None = 0 ∷ []
option spell (Some x) = 1 ∷ spell x

-- how many members, and the members
abbrev pub list : {X : Type 0} → (X → List ℕ) → List X → List ℕ
list spell xs = short (length xs) ++ flat_map spell xs

-- ---- the parts of records

abbrev pub action : Action → List ℕ
action actions.Read = 0 ∷ []
action actions.Write = 1 ∷ []

abbrev pub outcome : Outcome → List ℕ
outcome outcomes.Commit = 0 ∷ []
outcome outcomes.Abort = 1 ∷ []

abbrev pub credential : CredId → List ℕ
credential c = short c.0

abbrev pub version : Version → List ℕ
version v = short v.0

abbrev pub deed : Deed → List ℕ
deed d = short d.query ++ (short d.item.0 ++ (action d.action ++ value d.value))

abbrev pub verdict : Verdict → List ℕ
verdict v =
    short v.query
    ++ (short v.server.0
    ++ (short v.admin.0
    ++ (version v.version ++ (long v.place ++ (option short v.rule ++ list credential v.uses)))))

abbrev pub instance : Instance → List ℕ
instance i = option long i.reading ++ list verdict i.proofs

abbrev pub no : No → List ℕ
no (noes.Range query z) = 0 ∷ short query ++ value z
no noes.Restarted = 1 ∷ []

abbrev pub met_bytes : Met → List ℕ
met_bytes m = short m.admin.0 ++ (version m.used ++ (version m.newest ++ long m.place))

-- ---- why a transaction aborted

abbrev pub denied_bytes : Denied → List ℕ
denied_bytes d =
    short d.query ++ (short d.server.0 ++ (short d.admin.0 ++ (version d.version ++ long d.place)))

abbrev pub out_of_range_bytes : OutOfRange → List ℕ
out_of_range_bytes o = short o.query ++ (short o.server.0 ++ value o.value)

abbrev pub died_bytes : Died → List ℕ
died_bytes d = short d.query ++ (short d.server.0 ++ (short d.other.0 ++ long d.place))

abbrev pub newer_bytes : Newer → List ℕ
newer_bytes n = short n.admin.0 ++ (version n.used ++ version n.found)

abbrev pub cause : Cause → List ℕ
cause (causes.Denied d) = 1 ∷ denied_bytes d
cause (causes.No o) = 2 ∷ out_of_range_bytes o
cause (causes.Died d) = 3 ∷ died_bytes d
cause (causes.Newer n) = 4 ∷ newer_bytes n
cause (causes.Rounds ms) = 5 ∷ list met_bytes ms
cause (causes.Restarted server) = 6 ∷ short server.0
cause causes.Halted = 7 ∷ []

-- ---- records

abbrev pub commit : CommitRecord → List ℕ
commit c = short c.rounds ++ (list instance c.instances ++ list deed c.deeds)

abbrev pub decision : Decision → List ℕ
decision (decisions.Commit c) = 0 ∷ commit c
decision (decisions.Abort c) = 1 ∷ cause c

abbrev pub told_bytes : Told → List ℕ
told_bytes t = short t.admin.0 ++ version t.version

abbrev pub prepared_bytes : Prepared → List ℕ
prepared_bytes p =
    short p.txn.0
    ++ (long p.age
    ++ (long p.epoch
    ++ (short p.turn ++ (list deed p.deeds ++ (list verdict p.verdicts ++ list version p.told)))))

abbrev pub settled_bytes : Settled → List ℕ
settled_bytes s = short s.txn.0 ++ (outcome s.outcome ++ option no s.why)

abbrev pub decided_bytes : Decided → List ℕ
decided_bytes d = short d.txn.0 ++ decision d.decision

-- the kind, and what a record of the kind says
abbrev pub content : Record → List ℕ
content kinds.Boot = 1 ∷ []
content (kinds.Told t) = 2 ∷ told_bytes t
content (kinds.Prepared p) = 3 ∷ prepared_bytes p
content (kinds.Settled s) = 4 ∷ settled_bytes s
content (kinds.Decided d) = 5 ∷ decided_bytes d

-- a body: how many bytes the content has, and the content
abbrev pub spelling : Record → List ℕ
spelling r = short (length (content r)) ++ content r
