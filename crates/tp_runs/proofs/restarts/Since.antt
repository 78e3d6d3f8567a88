-- What is said of epochs and restarts: S says which epochs of a server were begun after which transactions were
-- submitted, and R of which transactions a server is shown to have crashed since.
use Rattle.std.proofs.Common.{IfSome, None, Option, Some, true, ℕ, ◌≡◌}
use Rattle.tp_types.proofs.EachLemmas.{each_as}
use Rattle.tp_types.specs.Each.{Each, EachPlaced}
use Rattle.tp_model.specs.Words.{Actor, Body, Cause, Decision, DoneReply, Letter, Prepared, QueryRequest, Record, ServerId, Settled, TxnId, VerdictsReply, VoteReply, What}
use Rattle.tp_model.specs.Words.actor
use Rattle.tp_model.specs.Words.body
use Rattle.tp_model.specs.Words.cause
use Rattle.tp_model.specs.Words.decision
use Rattle.tp_model.specs.Words.log
use Rattle.tp_model.specs.Words.no
use Rattle.tp_model.specs.Words.vote
use Rattle.tp_model.specs.Words.what
use Rattle.tp_coord.specs.State.{Coordinator}
use Rattle.tp_machine.specs.Parts.{Part}
use Rattle.tp_recover.specs.Log.{prepared_in, settled_in}
use Rattle.tp_server.specs.State.{Server}
use Rattle.tp_server.specs.declared.server.Entry.{Entry}
use Rattle.tp_runs.proofs.basics.Ids.{server_number, txn_number}
use Rattle.tp_runs.proofs.epochs.Server.{has_restarted}

-- ---- mails

-- an answer tells an epoch of after the submission, and where it says that the server restarted, a crash since is shown
pub record DoneSince (S : TxnId → ServerId → ℕ → Type 0) (R : TxnId → ServerId → Type 0) (at : ServerId) (done : DoneReply) : Type 0 where
  pub epoch : S done.txn at done.epoch
  pub shown : has_restarted done.answer ≡ true → R done.txn at

-- the epoch that a request names, if it names one
abbrev pub QuerySince : (TxnId → ServerId → ℕ → Type 0) → Actor → QueryRequest → Type 0
QuerySince S (actor.Server at) q = IfSome q.epoch (S q.txn at)
QuerySince S _ q = Unit {0}

abbrev pub NamedSince : (TxnId → ServerId → ℕ → Type 0) → Actor → TxnId → ℕ → Type 0
NamedSince S (actor.Server at) txn epoch = S txn at epoch
NamedSince S _ txn epoch = Unit {0}

abbrev pub AnsweredSince : (TxnId → ServerId → ℕ → Type 0) → (TxnId → ServerId → Type 0) → Actor → DoneReply → Type 0
AnsweredSince S R (actor.Server at) done = DoneSince S R at done
AnsweredSince S R _ done = Unit {0}

-- a vote NO for a restart has a crash of its server since the submission
abbrev pub VotedSince : (TxnId → ServerId → Type 0) → Actor → VoteReply → Type 0
VotedSince R (actor.Server at) reply = reply.vote ≡ vote.No no.Restarted → R reply.txn at
VotedSince R _ reply = Unit {0}

-- and so has an answer that what was to be evaluated is lost
abbrev pub ShownSince : (TxnId → ServerId → Type 0) → Actor → VerdictsReply → Type 0
ShownSince R (actor.Server at) reply = reply.verdicts ≡ None → R reply.txn at
ShownSince R _ reply = Unit {0}

abbrev pub BodySince : (TxnId → ServerId → ℕ → Type 0) → (TxnId → ServerId → Type 0) → Actor → Actor → Body → Type 0
BodySince S R from to (body.Query q) = QuerySince S to q
BodySince S R from to (body.Validate v) = NamedSince S to v.txn v.epoch
BodySince S R from to (body.Prepare p) = NamedSince S to p.txn p.epoch
BodySince S R from to (body.Done done) = AnsweredSince S R from done
BodySince S R from to (body.Verdicts reply) = ShownSince R from reply
BodySince S R from to (body.Vote reply) = VotedSince R from reply
BodySince S R from to _ = Unit {0}

abbrev pub LetterSince : (TxnId → ServerId → ℕ → Type 0) → (TxnId → ServerId → Type 0) → Letter → Type 0
LetterSince S R letter = BodySince S R letter.from letter.to letter.body

-- ---- a server

-- an entry was made after its transaction's submission, and so were the answers that it keeps
pub record EntrySince (S : TxnId → ServerId → ℕ → Type 0) (R : TxnId → ServerId → Type 0) (at : ServerId) (n : ℕ) (entry : Entry) : Type 0 where
  pub epoch : S (txn_number n) at entry.epoch
  pub answers : Each (DoneSince S R at) entry.answers

abbrev pub EntriesSince : (TxnId → ServerId → ℕ → Type 0) → (TxnId → ServerId → Type 0) → ServerId → Server → Type 0
EntriesSince S R at s = EachPlaced (EntrySince S R at) s.entries

-- what is prepared was made after the submission
abbrev pub PreparedSince : (TxnId → ServerId → ℕ → Type 0) → ServerId → TxnId → Prepared → Type 0
PreparedSince S at txn p = S txn at p.epoch

-- what is settled for a restart has a crash since
abbrev pub SettledSince : (TxnId → ServerId → Type 0) → ServerId → TxnId → Settled → Type 0
SettledSince R at txn s = s.why ≡ Some no.Restarted → R txn at

abbrev pub RecordSince : (TxnId → ServerId → ℕ → Type 0) → (TxnId → ServerId → Type 0) → ServerId → Record → Type 0
RecordSince S R at (log.Prepared p) = PreparedSince S at p.txn p
RecordSince S R at (log.Settled s) = SettledSince R at s.txn s
RecordSince S R at _ = Unit {0}

-- a server, up or down
pub record PartSince (S : TxnId → ServerId → ℕ → Type 0) (R : TxnId → ServerId → Type 0) (at : ServerId) (part : Part Server) : Type 0 where
  pub state : IfSome part.up (EntriesSince S R at)
  pub prepared : (txn : TxnId) (p : Prepared) → prepared_in txn part.log ≡ Some p → PreparedSince S at txn p
  pub settled : (txn : TxnId) (s : Settled) → settled_in txn part.log ≡ Some s → SettledSince R at txn s

-- ---- a coordinator

-- the epochs that the transaction's coordinator keeps
abbrev pub KeptSince : (TxnId → ServerId → ℕ → Type 0) → TxnId → Coordinator → Type 0
KeptSince S txn c = EachPlaced (λ (n : ℕ) (epoch : ℕ). S txn (server_number n) epoch) c.epochs

-- ---- decisions

-- an abort for a restart has a crash of its server since the submission, and one for a halt a crash of its coordinator: R and H say so
abbrev pub CauseSince : (TxnId → ServerId → Type 0) → (TxnId → Type 0) → TxnId → Cause → Type 0
CauseSince R H txn (cause.Restarted at) = R txn at
CauseSince R H txn cause.Halted = H txn
CauseSince R H txn _ = Unit {0}

abbrev pub DecisionSince : (TxnId → ServerId → Type 0) → (TxnId → Type 0) → TxnId → Decision → Type 0
DecisionSince R H txn (decision.Abort why) = CauseSince R H txn why
DecisionSince R H txn _ = Unit {0}

-- what a coordinator forces
abbrev pub DecidesSince : (TxnId → ServerId → Type 0) → (TxnId → Type 0) → Record → Type 0
DecidesSince R H (log.Decided d) = DecisionSince R H d.txn d.decision
DecidesSince R H _ = Unit {0}

-- and what a fact tells
abbrev pub WhatSince : (TxnId → ServerId → Type 0) → (TxnId → Type 0) → What → Type 0
WhatSince R H (what.Decided txn decided) = DecisionSince R H txn decided
WhatSince R H _ = Unit {0}

-- ---- it stays where more is of after a submission, and more is shown

abbrev pub MoreSince : (TxnId → ServerId → ℕ → Type 0) → (TxnId → ServerId → ℕ → Type 0) → Type 0
MoreSince S T = (txn : TxnId) (at : ServerId) (epoch : ℕ) → S txn at epoch → T txn at epoch

abbrev pub MoreShown : (TxnId → ServerId → Type 0) → (TxnId → ServerId → Type 0) → Type 0
MoreShown R Q = (txn : TxnId) (at : ServerId) → R txn at → Q txn at

done_widens : (S T : TxnId → ServerId → ℕ → Type 0) (R Q : TxnId → ServerId → Type 0) (at : ServerId) (done : DoneReply) → MoreSince S T → MoreShown R Q → DoneSince S R at done → DoneSince T Q at done
done_widens S T R Q at done more shown h = record { epoch = more done.txn at done.epoch h.epoch; shown = λ restarted. shown done.txn at (h.shown restarted) }

named_widens : (S T : TxnId → ServerId → ℕ → Type 0) (txn : TxnId) (at : ServerId) (named : Option ℕ) → MoreSince S T → IfSome named (S txn at) → IfSome named (T txn at)
named_widens S T txn at None more h = tt
named_widens S T txn at (Some epoch) more h = more txn at epoch h

query_widens : (S T : TxnId → ServerId → ℕ → Type 0) (to : Actor) (q : QueryRequest) → MoreSince S T → QuerySince S to q → QuerySince T to q
query_widens S T (actor.Server at) q more h = named_widens S T q.txn at q.epoch more h
query_widens S T _ q more h = tt

request_widens : (S T : TxnId → ServerId → ℕ → Type 0) (to : Actor) (txn : TxnId) (epoch : ℕ) → MoreSince S T → NamedSince S to txn epoch → NamedSince T to txn epoch
request_widens S T (actor.Server at) txn epoch more h = more txn at epoch h
request_widens S T _ txn epoch more h = tt

answer_widens : (S T : TxnId → ServerId → ℕ → Type 0) (R Q : TxnId → ServerId → Type 0) (from : Actor) (done : DoneReply) → MoreSince S T → MoreShown R Q → AnsweredSince S R from done → AnsweredSince T Q from done
answer_widens S T R Q (actor.Server at) done more shown h = done_widens S T R Q at done more shown h
answer_widens S T R Q _ done more shown h = tt

vote_widens : (R Q : TxnId → ServerId → Type 0) (from : Actor) (reply : VoteReply) → MoreShown R Q → VotedSince R from reply → VotedSince Q from reply
vote_widens R Q (actor.Server at) reply shown h = λ restarted. shown reply.txn at (h restarted)
vote_widens R Q _ reply shown h = tt

shown_widens : (R Q : TxnId → ServerId → Type 0) (from : Actor) (reply : VerdictsReply) → MoreShown R Q → ShownSince R from reply → ShownSince Q from reply
shown_widens R Q (actor.Server at) reply shown h = λ lost. shown reply.txn at (h lost)
shown_widens R Q _ reply shown h = tt

pub body_widens : (S T : TxnId → ServerId → ℕ → Type 0) (R Q : TxnId → ServerId → Type 0) (from to : Actor) (said : Body) → MoreSince S T → MoreShown R Q → BodySince S R from to said → BodySince T Q from to said
body_widens S T R Q from to (body.Query q) more shown h = query_widens S T to q more h
body_widens S T R Q from to (body.Validate v) more shown h = request_widens S T to v.txn v.epoch more h
body_widens S T R Q from to (body.Prepare p) more shown h = request_widens S T to p.txn p.epoch more h
body_widens S T R Q from to (body.Done done) more shown h = answer_widens S T R Q from done more shown h
body_widens S T R Q from to (body.Verdicts reply) more shown h = shown_widens R Q from reply shown h
body_widens S T R Q from to (body.Vote reply) more shown h = vote_widens R Q from reply shown h
body_widens S T R Q from to _ more shown h = tt

cause_widens : (R Q : TxnId → ServerId → Type 0) (H K : TxnId → Type 0) (txn : TxnId) (why : Cause) → MoreShown R Q → ((t : TxnId) → H t → K t) → CauseSince R H txn why → CauseSince Q K txn why
cause_widens R Q H K txn (cause.Restarted at) shown halted h = shown txn at h
cause_widens R Q H K txn cause.Halted shown halted h = halted txn h
cause_widens R Q H K txn _ shown halted h = tt

pub what_widens : (R Q : TxnId → ServerId → Type 0) (H K : TxnId → Type 0) (w : What) → MoreShown R Q → ((t : TxnId) → H t → K t) → WhatSince R H w → WhatSince Q K w
what_widens R Q H K (what.Decided txn (decision.Abort why)) shown halted h = cause_widens R Q H K txn why shown halted h
what_widens R Q H K (what.Decided txn (decision.Commit committed)) shown halted h = tt
what_widens R Q H K _ shown halted h = tt

entries_widen : (S T : TxnId → ServerId → ℕ → Type 0) (R Q : TxnId → ServerId → Type 0) (at : ServerId) (up : Option Server) → MoreSince S T → MoreShown R Q → IfSome up (EntriesSince S R at) → IfSome up (EntriesSince T Q at)
entries_widen S T R Q at None more shown h = tt
entries_widen S T R Q at (Some s) more shown h = λ n entry found.
    let was : EntrySince S R at n entry = h n entry found in
    record { epoch = more (txn_number n) at entry.epoch was.epoch; answers = each_as (DoneSince S R at) (DoneSince T Q at) (λ done d. done_widens S T R Q at done more shown d) entry.answers was.answers }

pub part_widens : (S T : TxnId → ServerId → ℕ → Type 0) (R Q : TxnId → ServerId → Type 0) (at : ServerId) (part : Part Server) → MoreSince S T → MoreShown R Q → PartSince S R at part → PartSince T Q at part
part_widens S T R Q at part more shown h =
    record {
      state = entries_widen S T R Q at part.up more shown h.state;
      prepared = λ txn p e. more txn at p.epoch (h.prepared txn p e);
      settled = λ txn s e restarted. shown txn at (h.settled txn s e restarted);
    }

pub kept_widens : (S T : TxnId → ServerId → ℕ → Type 0) (txn : TxnId) (up : Option Coordinator) → MoreSince S T → IfSome up (KeptSince S txn) → IfSome up (KeptSince T txn)
kept_widens S T txn None more h = tt
kept_widens S T txn (Some c) more h = λ n epoch found. more txn (server_number n) epoch (h n epoch found)
