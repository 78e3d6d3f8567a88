-- Trust: what a server keeps of a transaction, as the letters that it is or would be: answers, a query that waits, and votes.
use Rattle.std.proofs.Common.{IfSome, List, None, Option, Some, subst, ℕ, ◌≡◌}
use Rattle.std.proofs.lemmas.Option.{cond_some}
use Rattle.tp_types.proofs.EachLemmas.{each_as}
use Rattle.tp_types.specs.Each.{Each, EachPlaced}
use Rattle.tp_model.specs.Ids.{same_txn}
use Rattle.tp_model.specs.Words.{Body, DoneReply, Fact, Prepared, QueryRequest, Record, Scenario, TxnId}
use Rattle.tp_model.specs.Words.body
use Rattle.tp_model.specs.Words.log
use Rattle.tp_model.specs.Words.vote
use Rattle.tp_actor_log.specs.Records.{log_with}
use Rattle.tp_machine.specs.Parts.{Part}
use Rattle.tp_recover.specs.Log.{preparation_in, prepared_in}
use Rattle.tp_server.specs.State.{Server}
use Rattle.tp_server.specs.declared.server.Ballot.{Ballot}
use Rattle.tp_server.specs.declared.server.Entry.{Entry}
use Rattle.tp_runs.proofs.basics.Logs.{appended, prepared_either}
use Rattle.tp_runs.proofs.trust.Fit.{BodyFits, Later, body_stays, maybe_stays}

-- ---- T of all that is kept

-- the vote of an entry's ballot, and of what is prepared
abbrev pub vote_cast : TxnId → Ballot → Body
vote_cast txn cast = body.Vote (record { txn = txn; turn = cast.turn; vote = vote.Yes cast.verdicts })

abbrev pub vote_of : Prepared → Body
vote_of p = body.Vote (record { txn = p.txn; turn = p.turn; vote = vote.Yes p.verdicts })

-- T of each answer that an entry keeps, of the query that waits, and of its vote
pub record IsKept (T : Body → Type 0) (txn : TxnId) (entry : Entry) : Type 0 where
  pub answers : Each (λ (done : DoneReply). T (body.Done done)) entry.answers
  pub waiting : IfSome entry.waiting (λ (q : QueryRequest). T (body.Query q))
  pub ballot : IfSome entry.ballot (λ (cast : Ballot). T (vote_cast txn cast))

abbrev pub AreKept : (Body → Type 0) → Server → Type 0
AreKept T s = EachPlaced (λ (n : ℕ) (entry : Entry). IsKept T (record { 0 = n }) entry) s.entries

abbrev pub RecordKept : (Body → Type 0) → Record → Type 0
RecordKept T (log.Prepared p) = T (vote_of p)
RecordKept T _ = Unit {0}

-- and of each vote of what is prepared on the log
pub record PartKept (T : Body → Type 0) (part : Part Server) : Type 0 where
  pub state : IfSome part.up (AreKept T)
  pub prepared : (txn : TxnId) (p : Prepared) → prepared_in txn part.log ≡ Some p → T (vote_of p)

-- ---- laws

pub entry_as : (T U : Body → Type 0) (txn : TxnId) (entry : Entry) → ((said : Body) → T said → U said) → IsKept T txn entry → IsKept U txn entry
entry_as T U txn entry step h =
    record {
      answers = each_as (λ (done : DoneReply). T (body.Done done)) (λ (done : DoneReply). U (body.Done done)) (λ done t. step (body.Done done) t) entry.answers h.answers;
      waiting = maybe_stays (λ (q : QueryRequest). T (body.Query q)) (λ (q : QueryRequest). U (body.Query q)) entry.waiting (λ q t. step (body.Query q) t) h.waiting;
      ballot = maybe_stays (λ (cast : Ballot). T (vote_cast txn cast)) (λ (cast : Ballot). U (vote_cast txn cast)) entry.ballot (λ cast t. step (vote_cast txn cast) t) h.ballot;
    }

pub server_as : (T U : Body → Type 0) (up : Option Server) → ((said : Body) → T said → U said) → IfSome up (AreKept T) → IfSome up (AreKept U)
server_as T U up step h = maybe_stays (AreKept T) (AreKept U) up (λ s k n entry e. entry_as T U (record { 0 = n }) entry step (k n entry e)) h

pub part_as : (T U : Body → Type 0) (part : Part Server) → ((said : Body) → T said → U said) → PartKept T part → PartKept U part
part_as T U part step h = record { state = server_as T U part.up step h.state; prepared = λ txn p e. step (vote_of p) (h.prepared txn p e) }

forced_kept : (T : Body → Type 0) (txn : TxnId) (append : Option Record) → IfSome append (RecordKept T) → (p : Prepared) → appended (preparation_in txn) append ≡ Some p → T (vote_of p)
forced_kept T txn (Some (log.Prepared q)) h p e = subst (λ (r : Prepared). T (vote_of r)) (cond_some (same_txn q.txn txn) q p e).1 h
forced_kept T txn (Some log.Boot) h p e = absurd (cc)
forced_kept T txn (Some (log.Told t)) h p e = absurd (cc)
forced_kept T txn (Some (log.Settled s)) h p e = absurd (cc)
forced_kept T txn (Some (log.Decided d)) h p e = absurd (cc)
forced_kept T txn None h p e = absurd (cc)

-- a part that was up or down, and is up or down after it forced a record or none
pub part_keeps : (T : Body → Type 0) (part : Part Server) (now : Option Server) (append : Option Record) → PartKept T part → IfSome now (AreKept T) → IfSome append (RecordKept T)
    → PartKept T (record { up = now; log = log_with part.log append })
part_keeps T part now append h n f =
    record {
      state = n;
      prepared = λ txn. prepared_either txn part.log append (λ (p : Prepared). T (vote_of p)) (h.prepared txn) (forced_kept T txn append f);
    }

-- ---- T, and that it fits

-- it fits wherever it is sent
pub record IsTrusted (sc : Scenario) (facts : List Fact) (place : ℕ) (T : Body → Type 0) (said : Body) : Type 0 where
  pub fits : (sent : ℕ) → BodyFits sc facts place sent said
  pub timely : T said

pub trusted_stays : (sc : Scenario) (old new : List Fact) (low high : ℕ) (T U : Body → Type 0) (said : Body) → Later old new low high → ((b : Body) → T b → U b) → IsTrusted sc old low T said → IsTrusted sc new high U said
trusted_stays sc old new low high T U said l step h = record { fits = λ sent. body_stays sc old new low high sent said l (h.fits sent); timely = step said h.timely }
