-- What is asked of the values of a world: that of query number i is within 10^15 * 5^i. An item's value is within 10^15, a read gives
-- an item's value or a query's before it, and a write's sum has at most five terms, each of them a constant or what was read before it. With
-- at most 16 queries all values are far from the ends of an i128, and no step of a sum is cut there.
use Rattle.std.specs.Prelude.{IfSome, List, Some, neg_ℤ, pos, slice_get, true, ℕ, ℤ, ◌*◌, ◌^◌, ◌≡◌, ◌≤ℤ◌}
use Rattle.tp_model.specs.Queries.{query_at}
use Rattle.tp_model.specs.SerialRun.{are_in_range, sum_in}
use Rattle.tp_model.specs.Words.answer
use Rattle.tp_model.specs.Words.body
use Rattle.tp_model.specs.Words.cause
use Rattle.tp_model.specs.Words.decision
use Rattle.tp_model.specs.Words.log
use Rattle.tp_model.specs.Words.no
use Rattle.tp_model.specs.Words.query
use Rattle.tp_model.specs.Words.vote
use Rattle.tp_model.specs.Words.what
use Rattle.tp_model.specs.Words.{Answer, Body, Cause, Decision, Deed, DoneReply, Fact, ItemId, Mail, No, Prepared, QueryRequest, Record, Scenario, Settled, Term, Transaction, TxnId, Vote, What}
use Rattle.tp_machine.specs.Machine.{State}
use Rattle.tp_machine.specs.Parts.{Part}
use Rattle.tp_recover.specs.Log.{values_in}
use Rattle.tp_types.specs.Each.{Each, EachAt, EachPlaced}
use Rattle.tp_coord.specs.Sums.{clamped_sum, registers_after}
use Rattle.tp_coord.specs.State.{Coordinator}
use Rattle.tp_server.specs.declared.server.Entry.{Entry}
use Rattle.tp_server.specs.State.{Server}
use Rattle.tp_store.specs.Rule.{writes_of}
use Rattle.tp_store.specs.declared.writes.TentativeWrite.{TentativeWrite}

-- ---- bounds

-- the value is at most so far from 0
pub record IsAtMost (bound : ℕ) (value : ℤ) : Type 0 where
  pub low : neg_ℤ (pos bound) ≤ℤ value
  pub high : value ≤ℤ pos bound

-- how far from 0 the value of a query may be, by the query's number
abbrev pub bound_of : ℕ → ℕ
bound_of number = 10 ^ 15 * 5 ^ number

-- the value of a query of this number is within its bound
abbrev pub IsBounded : ℕ → ℤ → Type 0
IsBounded number value = IsAtMost (bound_of number) value

-- ---- what holds values

-- what was read or written
abbrev pub IsBoundedDeed : Deed → Type 0
IsBoundedDeed deed = IsBounded deed.query deed.value

abbrev pub AreBoundedDeeds : List Deed → Type 0
AreBoundedDeeds deeds = Each IsBoundedDeed deeds

-- what a query asks to be written
abbrev pub IsBoundedQuery : QueryRequest → Type 0
IsBoundedQuery q = IfSome q.value (IsBounded q.query)

-- what a query has read or written, if it ran
abbrev pub IsBoundedAnswer : ℕ → Answer → Type 0
IsBoundedAnswer number (answer.Ran value verdict) = IsBounded number value
IsBoundedAnswer number _ = Unit {0}

abbrev pub IsBoundedDone : DoneReply → Type 0
IsBoundedDone done = IsBoundedAnswer done.query done.answer

-- the value that a server refuses
abbrev pub IsBoundedNo : No → Type 0
IsBoundedNo (no.Range number value) = IsBounded number value
IsBoundedNo _ = Unit {0}

abbrev pub IsBoundedVote : Vote → Type 0
IsBoundedVote (vote.No why) = IsBoundedNo why
IsBoundedVote _ = Unit {0}

-- what a mail says; other mails than these three have no value
abbrev pub IsBoundedBody : Body → Type 0
IsBoundedBody (body.Query q) = IsBoundedQuery q
IsBoundedBody (body.Done done) = IsBoundedDone done
IsBoundedBody (body.Vote reply) = IsBoundedVote reply.vote
IsBoundedBody _ = Unit {0}

abbrev pub IsBoundedMail : Mail → Type 0
IsBoundedMail mail = IsBoundedBody mail.letter.body

-- the value that a transaction was aborted for
abbrev pub IsBoundedCause : Cause → Type 0
IsBoundedCause (cause.No left) = IsBounded left.query left.value
IsBoundedCause _ = Unit {0}

abbrev pub IsBoundedDecision : Decision → Type 0
IsBoundedDecision (decision.Commit committed) = AreBoundedDeeds committed.deeds
IsBoundedDecision (decision.Abort why) = IsBoundedCause why

abbrev pub IsBoundedPrepared : Prepared → Type 0
IsBoundedPrepared prepared = AreBoundedDeeds prepared.deeds

abbrev pub IsBoundedSettled : Settled → Type 0
IsBoundedSettled settled = IfSome settled.why IsBoundedNo

-- a record of a log
abbrev pub IsBoundedRecord : Record → Type 0
IsBoundedRecord (log.Prepared prepared) = IsBoundedPrepared prepared
IsBoundedRecord (log.Settled settled) = IsBoundedSettled settled
IsBoundedRecord (log.Decided decided) = IsBoundedDecision decided.decision
IsBoundedRecord _ = Unit {0}

-- what happened
abbrev pub IsBoundedWhat : What → Type 0
IsBoundedWhat (what.Decided txn decided) = IsBoundedDecision decided
IsBoundedWhat _ = Unit {0}

abbrev pub IsBoundedFact : Fact → Type 0
IsBoundedFact fact = IsBoundedWhat fact.what

-- ---- actors

-- the deeds of an entry, its answers, and what a query that waits asks for
pub record IsBoundedEntry (entry : Entry) : Type 0 where
  pub answers : Each IsBoundedDone entry.answers
  pub waiting : IfSome entry.waiting IsBoundedQuery
  pub deeds : AreBoundedDeeds entry.deeds

abbrev pub IsBoundedWrite : TentativeWrite → Type 0
IsBoundedWrite write = IsBounded write.query write.value

-- a server: its items have values of their ranges, which are within 10^15; and what it keeps of each transaction is bounded
pub record IsBoundedServer (sc : Scenario) (s : Server) : Type 0 where
  pub in_range : are_in_range sc.items s.store.values ≡ true
  pub values : Each (IsAtMost (10 ^ 15)) s.store.values
  pub writes : (txn : TxnId) → Each IsBoundedWrite (writes_of s.store txn)
  pub settled : EachPlaced (λ (n : ℕ) (done : Settled). IsBoundedSettled done) s.settled
  pub entries : EachPlaced (λ (n : ℕ) (entry : Entry). IsBoundedEntry entry) s.entries

-- a server, if it is up, and its log, which leaves each item a value in its range
pub record IsBoundedServerPart (sc : Scenario) (part : Part Server) : Type 0 where
  pub state : IfSome part.up (IsBoundedServer sc)
  pub records : Each IsBoundedRecord part.log
  pub in_range : are_in_range sc.items (values_in sc part.log) ≡ true

-- the sums that a transaction's queries ask for after these deeds are exact: no step of them is cut at an end of an i128
abbrev pub AreExact : Transaction → List Deed → Type 0
AreExact declared deeds =
    (number : ℕ) (item : ItemId) (expr : List Term)
    → query_at declared number ≡ Some (query.Write item expr)
    → clamped_sum (registers_after declared deeds) expr
    ≡ sum_in (registers_after declared deeds) expr

-- a coordinator: its deeds are bounded, and so the sums that it asks for are exact
pub record IsBoundedCoordinator (sc : Scenario) (c : Coordinator) : Type 0 where
  pub deeds : AreBoundedDeeds c.deeds
  pub sums : (declared : Transaction) → slice_get sc.txns c.txn.0 ≡ Some declared
      → AreExact declared c.deeds

-- a coordinator that is up, and its log
pub record IsBoundedCoordinatorPart (sc : Scenario) (part : Part Coordinator) : Type 0 where
  pub state : IfSome part.up (IsBoundedCoordinator sc)
  pub records : Each IsBoundedRecord part.log

-- ---- the world

-- each value of each actor, each mail ever sent and each fact is bounded
pub record AreBounded (sc : Scenario) (w : State) : Type 0 where
  pub servers : EachAt
      (λ (n : ℕ) (part : Part Server). IsBoundedServerPart sc part) w.actors.servers
  pub coordinators : EachAt
      (λ (n : ℕ) (part : Part Coordinator). IsBoundedCoordinatorPart sc part)
      w.actors.coordinators
  pub mails_are : Each IsBoundedMail w.mails
  pub facts_are : Each IsBoundedFact w.facts
