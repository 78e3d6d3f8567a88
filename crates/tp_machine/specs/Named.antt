-- What a step names exists.
use Rattle.std.specs.Prelude.{length, ◌<◌}
use Rattle.tp_model.specs.Words.actor
use Rattle.tp_model.specs.Words.step
use Rattle.tp_model.specs.Words.{Actor, AdminId, CredId, Scenario, ServerId, Step, TxnId}

-- the scenario has this administrator
abbrev pub IsAdmin : Scenario → AdminId → Type 0
IsAdmin sc admin = admin.0 < length sc.admins

-- the scenario has this server
abbrev pub IsServer : Scenario → ServerId → Type 0
IsServer sc at = at.0 < length sc.servers

-- the scenario has this transaction
abbrev pub IsTxn : Scenario → TxnId → Type 0
IsTxn sc txn = txn.0 < length sc.txns

-- the scenario has this credential
abbrev pub IsCred : Scenario → CredId → Type 0
IsCred sc cred = cred.0 < length sc.creds

-- the actor exists and may crash, as offices never do
abbrev pub IsCrasher : Scenario → Actor → Type 0
IsCrasher sc (actor.Server at) = IsServer sc at
IsCrasher sc (actor.Coordinator txn) = IsTxn sc txn
IsCrasher sc _ = ⊥

-- the actor exists, as offices always do
abbrev pub IsActor : Scenario → Actor → Type 0
IsActor sc (actor.Server at) = IsServer sc at
IsActor sc (actor.Coordinator txn) = IsTxn sc txn
IsActor sc _ = Unit {0}

-- what a step names exists
abbrev pub IsStepOf : Scenario → Step → Type 0
IsStepOf sc (step.Submit txn) = IsTxn sc txn
IsStepOf sc (step.Publish admin) = IsAdmin sc admin
IsStepOf sc (step.Push admin server) = IsAdmin sc admin × IsServer sc server
IsStepOf sc (step.Revoke cred) = IsCred sc cred
IsStepOf sc (step.Crash who cut) = IsCrasher sc who
IsStepOf sc (step.Boot who) = IsCrasher sc who
IsStepOf sc (step.Timer txn) = IsTxn sc txn
IsStepOf sc _ = Unit {0}
