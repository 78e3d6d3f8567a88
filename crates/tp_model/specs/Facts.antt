-- What a list of facts tells of a transaction. Facts stand in the order in which they came, and several may have one place.
use Rattle.std.specs.Prelude.{ℕ, ◌&&◌, nat_lt, List, [], ◌∷◌, filter, Bool, true, false, Option, Some, None, if◌then◌else◌}
use Rattle.std.specs.List.{list_any}
use Rattle.std.specs.Option.{option_or}
use Rattle.tp_model.specs.Words.{CommitRecord, Decision, Fact, Outcome, ServerId, TxnId, What}
use Rattle.tp_model.specs.Words.decision
use Rattle.tp_model.specs.Words.outcome
use Rattle.tp_model.specs.Words.what
use Rattle.tp_model.specs.Ids.{same_server, same_txn}

-- ---- places

-- the fact has a smaller place
abbrev pub is_earlier : ℕ → Fact → Bool
is_earlier place fact = nat_lt fact.place place

-- the facts before a place are those of smaller places
abbrev pub before : ℕ → List Fact → List Fact
before place facts = filter (is_earlier place) facts

-- ---- what a fact is

abbrev pub is_submission_what : TxnId → What → Bool
is_submission_what txn (what.Submitted other) = same_txn other txn
is_submission_what txn _ = false

-- the fact is a submission of the transaction
abbrev pub is_submission : TxnId → Fact → Bool
is_submission txn fact = is_submission_what txn fact.what

abbrev pub is_decision_what : TxnId → What → Bool
is_decision_what txn (what.Decided other decided) = same_txn other txn
is_decision_what txn _ = false

-- the fact is a decision of the transaction
abbrev pub is_decision : TxnId → Fact → Bool
is_decision txn fact = is_decision_what txn fact.what

abbrev pub is_settlement_what : ServerId → TxnId → What → Bool
is_settlement_what at txn (what.Settled server other ended) =
    same_server server at && same_txn other txn
is_settlement_what at txn _ = false

-- the fact is a settlement of the transaction at the server
abbrev pub is_settlement : ServerId → TxnId → Fact → Bool
is_settlement at txn fact = is_settlement_what at txn fact.what

-- ---- commits and aborts

abbrev pub record_of : Decision → Option CommitRecord
record_of (decision.Commit committed) = Some committed
record_of (decision.Abort why) = None

-- how a decision ends its transaction
abbrev pub outcome_of : Decision → Outcome
outcome_of (decision.Commit committed) = outcome.Commit
outcome_of (decision.Abort why) = outcome.Abort

abbrev pub same_outcome : Outcome → Outcome → Bool
same_outcome outcome.Commit outcome.Commit = true
same_outcome outcome.Abort outcome.Abort = true
same_outcome _ _ = false

abbrev pub is_decided_what : TxnId → Outcome → What → Bool
is_decided_what txn ended (what.Decided other decided) =
    same_txn other txn && same_outcome (outcome_of decided) ended
is_decided_what txn ended _ = false

-- the fact decides the transaction with this outcome
abbrev pub is_decided_as : TxnId → Outcome → Fact → Bool
is_decided_as txn ended fact = is_decided_what txn ended fact.what

abbrev pub is_settled_what : ServerId → TxnId → Outcome → What → Bool
is_settled_what at txn ended (what.Settled server other given) =
    same_server server at && same_txn other txn && same_outcome given ended
is_settled_what at txn ended _ = false

-- the fact settles the transaction at the server with this outcome
abbrev pub is_settled_as : ServerId → TxnId → Outcome → Fact → Bool
is_settled_as at txn ended fact = is_settled_what at txn ended fact.what

-- ---- a transaction's history

-- the transaction was submitted before the place
abbrev pub was_submitted : TxnId → ℕ → List Fact → Bool
was_submitted txn place facts = list_any (is_submission txn) (before place facts)

-- the record of a commit of the transaction
abbrev pub commit_in_what : TxnId → What → Option CommitRecord
commit_in_what txn (what.Decided other decided) =
    if same_txn other txn then record_of decided else None
commit_in_what txn _ = None

-- the record of the transaction's first commit
abbrev pub commit_of : TxnId → List Fact → Option CommitRecord
commit_of txn [] = None
commit_of txn (fact ∷ facts) = option_or (commit_in_what txn fact.what) (commit_of txn facts)
