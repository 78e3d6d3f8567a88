-- What a coordinator is while it is up.
use Rattle.std.specs.Prelude.{ℕ, List, Option}
use Rattle.tp_model.specs.Words.{Deed, Instance, ServerId, TxnId, Verdict}
use Rattle.tp_coord.specs.declared.coordinator.Phase.{Phase}

pub record Coordinator : Type 0 where
  pub txn : TxnId
  -- the servers of the transaction's queries, in order of number
  pub servers : List ServerId
  -- the place of the submission, once it is known
  pub age : Option ℕ
  -- the number of requests so far, repeats not counted
  pub turn : ℕ
  -- the epoch of each server of the scenario, as its last reply told it
  pub epochs : List (Option ℕ)
  pub deeds : List Deed
  -- the proofs so far, where each query is proved as it runs
  pub gathered : List Verdict
  -- the instances that agreed so far
  pub instances : List Instance
  -- what is awaited
  pub phase : Phase
