-- Trusted commits: the rule that each commit of a history keeps.
use Rattle.std.specs.Prelude.{ℕ, ◌&&◌, nat_le, nat_lt, List, slice_get, Bool, true, false, Option, Some, None}
use Rattle.std.specs.List.{list_all}
use Rattle.std.specs.Option.{option_map_or}
use Rattle.tp_model.specs.Words.{CommitRecord, Fact, Instance, Scenario, Transaction, TxnId, Verdict, What}
use Rattle.tp_model.specs.Words.decision
use Rattle.tp_model.specs.Words.what
use Rattle.tp_model.specs.Authorisation.{is_true_verdict}
use Rattle.tp_model.specs.Demand.{meets_demand}
use Rattle.tp_model.specs.Facts.{was_submitted}
use Rattle.tp_model.specs.Versions.{newest}

-- the place lies between the submission of the transaction and the decision, both left out
abbrev pub is_within : TxnId → ℕ → List Fact → ℕ → Bool
is_within txn decided facts place = was_submitted txn place facts && nat_lt place decided

-- the proof evaluates true, was made between submission and decision, and its version was published by the decision
abbrev pub is_trusted_proof : Scenario → TxnId → Transaction → ℕ → List Fact → Verdict → Bool
is_trusted_proof sc txn declared decided facts proof =
    is_true_verdict sc facts declared proof && is_within txn decided facts proof.place
    && nat_le proof.version.0 (newest sc proof.admin decided facts)

abbrev pub is_timely_reading : TxnId → ℕ → List Fact → Option ℕ → Bool
is_timely_reading txn decided facts None = true
is_timely_reading txn decided facts (Some place) = is_within txn decided facts place

-- each proof is trusted, and the reading, if there is one, came between submission and decision
abbrev pub is_trusted_instance : Scenario → TxnId → Transaction → ℕ → List Fact → Instance → Bool
is_trusted_instance sc txn declared decided facts instance =
    list_all (is_trusted_proof sc txn declared decided facts) instance.proofs
    && is_timely_reading txn decided facts instance.reading

-- the commit is what its scheme demands, and each of its instances is trusted
abbrev pub is_trusted_commit : Scenario → TxnId → ℕ → List Fact → CommitRecord → Transaction → Bool
is_trusted_commit sc txn decided facts committed declared =
    meets_demand sc facts declared committed
    && list_all (is_trusted_instance sc txn declared decided facts) committed.instances

abbrev pub keeps_trust_what : Scenario → List Fact → ℕ → What → Bool
keeps_trust_what sc facts place (what.Decided txn (decision.Commit committed)) =
    option_map_or (is_trusted_commit sc txn place facts committed) (slice_get sc.txns txn.0) false
keeps_trust_what sc facts place _ = true

-- the rule of a fact beside all facts: a commit is trusted
abbrev pub keeps_trust : Scenario → List Fact → Fact → Bool
keeps_trust sc facts fact = keeps_trust_what sc facts fact.place fact.what

-- every commit is trusted
abbrev pub is_trusted : Scenario → List Fact → Bool
is_trusted sc facts = list_all (keeps_trust sc facts) facts
