-- What a coordinator awaits, and when it is served: of each actor that it awaits a request is on its way to it, or the
-- reply from it, or its query waits at the server.
use Rattle.std.specs.List.{list_any}
use Rattle.std.specs.Option.{option_flatten}
use Rattle.std.proofs.Common.{Bool, List, None, Option, Some, [], false, slice_get, true, ℕ, ◌&&◌, ◌==◌, ◌≡◌, ◌⊎◌}
use Rattle.tp_model.specs.Words.actor
use Rattle.tp_model.specs.Words.body
use Rattle.tp_model.specs.Words.{Actor, Body, Letter, Mail, Outcome, PrepareRequest, QueryRequest, Scenario, ServerId, TxnId, ValidateRequest}
use Rattle.tp_coord.specs.Row.{home_of, is_among}
use Rattle.tp_coord.specs.State.{Coordinator}
use Rattle.tp_coord.specs.declared.coordinator.Phase.{Phase}
use Rattle.tp_coord.specs.declared.coordinator.Phase.TheVariants as phase
use Rattle.tp_coord.specs.declared.coordinator.Span.TheVariants as span
use Rattle.tp_machine.specs.Machine.{Machine}
use Rattle.tp_machine.specs.Parts.{Part}
use Rattle.tp_round.specs.Judge.{is_awaited, is_missing}
use Rattle.tp_runs.proofs.served.Lists.{AnyOf}
use Rattle.tp_runs.proofs.walks.Steps.{IsCoordinatorUp}
use Rattle.tp_server.specs.State.{Server}
use Rattle.tp_server.specs.declared.server.Entry.{Entry}

-- ---- who is awaited

abbrev pub is_home : Option ServerId → ServerId → Bool
is_home None at = false
is_home (Some home) at = home.0 == at.0

-- the actor's reply is awaited
abbrev pub is_awaiting : Scenario → Coordinator → Phase → Actor → Bool
is_awaiting sc c (phase.Stapling number) actor.Authority = true
is_awaiting sc c (phase.Asking over round) actor.Authority = true
is_awaiting sc c (phase.Querying number staple) (actor.Server at) = is_home (home_of sc c number) at
is_awaiting sc c (phase.Probing number) actor.Master = true
is_awaiting sc c (phase.Reading over round) actor.Master = true
is_awaiting sc c phase.VoteProbing actor.Master = true
is_awaiting sc c (phase.Checking over round staple) (actor.Server at) = is_awaited round.targets at
is_awaiting sc c (phase.Voting awaited) (actor.Server at) = is_among awaited at
is_awaiting sc c (phase.Ending ended awaited) (actor.Server at) = is_among awaited at
is_awaiting sc c _ _ = false

-- ---- requests and replies

pub record AsksQuery (txn : TxnId) (turn number : ℕ) (said : Body) : Type 0 where
  pub q : QueryRequest
  pub said_is : said ≡ body.Query q
  pub txn_is : q.txn ≡ txn
  pub turn_is : q.turn ≡ turn
  pub query_is : q.query ≡ number

pub record AsksVerdicts (txn : TxnId) (turn : ℕ) (said : Body) : Type 0 where
  pub v : ValidateRequest
  pub said_is : said ≡ body.Validate v
  pub txn_is : v.txn ≡ txn
  pub turn_is : v.turn ≡ turn

pub record AsksVote (txn : TxnId) (turn : ℕ) (said : Body) : Type 0 where
  pub p : PrepareRequest
  pub said_is : said ≡ body.Prepare p
  pub txn_is : p.txn ≡ txn
  pub turn_is : p.turn ≡ turn

-- what a phase awaits: an answer of the authority or of the master, that to a query, verdicts, votes, or
-- acknowledgements of an outcome
pub data Kind : Type 0 where
  OfNothing : Kind
  OfTell : Kind
  OfNewest : Kind
  OfDone : (number : ℕ) → Kind
  OfVerdicts : Kind
  OfVote : Kind
  OfAck : (ended : Outcome) → Kind

abbrev pub kind_of : Phase → Kind
kind_of phase.Idle = OfNothing
kind_of (phase.Stapling number) = OfTell
kind_of (phase.Asking over round) = OfTell
kind_of (phase.Querying number staple) = OfDone number
kind_of (phase.Probing number) = OfNewest
kind_of (phase.Reading over round) = OfNewest
kind_of phase.VoteProbing = OfNewest
kind_of (phase.Checking (span.Validate number) round staple) = OfVerdicts
kind_of (phase.Checking span.Commit round staple) = OfVote
kind_of (phase.Voting awaited) = OfVote
kind_of (phase.Ending ended awaited) = OfAck ended

-- the request that brings it, of this transaction and turn
abbrev pub IsRequest : TxnId → ℕ → Kind → Body → Type 0
IsRequest txn turn OfNothing said = ⊥
IsRequest txn turn OfTell said = said ≡ body.Ask (record { txn = txn; turn = turn })
IsRequest txn turn OfNewest said = said ≡ body.Probe (record { txn = txn; turn = turn })
IsRequest txn turn (OfDone number) said = AsksQuery txn turn number said
IsRequest txn turn OfVerdicts said = AsksVerdicts txn turn said
IsRequest txn turn OfVote said = AsksVote txn turn said
IsRequest txn turn (OfAck ended) said = said ≡ body.Decide (record { txn = txn; outcome = ended })

abbrev pub is_told : Kind → Bool
is_told OfTell = true
is_told _ = false

abbrev pub is_read : Kind → Bool
is_read OfNewest = true
is_read _ = false

abbrev pub is_answered : Kind → ℕ → Bool
is_answered (OfDone number) asked = asked == number
is_answered _ asked = false

abbrev pub is_shown : Kind → Bool
is_shown OfVerdicts = true
is_shown _ = false

abbrev pub is_voted_on : Kind → Bool
is_voted_on OfVote = true
is_voted_on _ = false

abbrev pub is_ended : Kind → Bool
is_ended (OfAck ended) = true
is_ended _ = false

-- the reply, of this turn
abbrev pub is_reply : ℕ → Kind → Body → Bool
is_reply turn kind (body.Tell tell) = (tell.turn == turn) && is_told kind
is_reply turn kind (body.Newest reply) = (reply.turn == turn) && is_read kind
is_reply turn kind (body.Done done) = (done.turn == turn) && is_answered kind done.query
is_reply turn kind (body.Verdicts reply) = (reply.turn == turn) && is_shown kind
is_reply turn kind (body.Vote reply) = (reply.turn == turn) && is_voted_on kind
is_reply turn kind (body.Ack ack) = is_ended kind
is_reply turn kind _ = false

-- the letter asks the actor for what is awaited of it
pub record IsAskedOf (c : Coordinator) (who : Actor) (letter : Letter) : Type 0 where
  pub goes_to : letter.to ≡ who
  pub says : IsRequest c.txn c.turn (kind_of c.phase) letter.body

-- the letter is the actor's reply
pub record IsRepliedBy (c : Coordinator) (who : Actor) (letter : Letter) : Type 0 where
  pub goes_to : letter.to ≡ actor.Coordinator c.txn
  pub from_is : letter.from ≡ who
  pub says : is_reply c.turn (kind_of c.phase) letter.body ≡ true

-- ---- a query that waits

pub record WaitsIn (txn : TxnId) (turn number : ℕ) (entries : List (Option Entry)) : Type 0 where
  pub entry : Entry
  pub q : QueryRequest
  pub found : option_flatten (slice_get entries txn.0) ≡ Some entry
  pub waiting_is : entry.waiting ≡ Some q
  pub turn_is : q.turn ≡ turn
  pub query_is : q.query ≡ number

pub record WaitsThere (servers : List (Part Server)) (txn : TxnId) (turn number : ℕ) (at : ServerId) : Type 0 where
  pub part : Part Server
  pub s : Server
  pub found : slice_get servers at.0 ≡ Some part
  pub up : part.up ≡ Some s
  pub waits : WaitsIn txn turn number s.entries

-- the query of the phase waits at the server
abbrev pub IsWaiting : List (Part Server) → TxnId → ℕ → Kind → Actor → Type 0
IsWaiting servers txn turn (OfDone number) (actor.Server at) = WaitsThere servers txn turn number at
IsWaiting servers txn turn _ _ = ⊥

-- ---- served

-- a mail of this number was sent, and P holds of its letter
pub record IsMail (mails : List Mail) (P : Letter → Type 0) (number : ℕ) : Type 0 where
  pub mail : Mail
  pub sent : slice_get mails number ≡ Some mail
  pub says : P mail.letter

-- P holds of an undelivered mail
abbrev pub OnItsWay : Machine → (Letter → Type 0) → Type 0
OnItsWay m P = AnyOf (IsMail m.state.mails P) m.undelivered

abbrev pub IsServedBy : Machine → Coordinator → Actor → Type 0
IsServedBy m c who = OnItsWay m (IsAskedOf c who) ⊎ (OnItsWay m (IsRepliedBy c who) ⊎ IsWaiting m.state.actors.servers c.txn c.turn (kind_of c.phase) who)

-- each actor that is awaited was asked, replies, or has the query waiting
abbrev pub IsServed : Scenario → Machine → Coordinator → Type 0
IsServed sc m c = (who : Actor) → is_awaiting sc c c.phase who ≡ true → IsServedBy m c who

-- so it is of a transaction whose coordinator is up
abbrev pub IsServedAt : Scenario → Machine → TxnId → Type 0
IsServedAt sc m txn = (part : Part Coordinator) (c : Coordinator) → IsCoordinatorUp m.state txn part c → IsServed sc m c

-- ---- somebody is awaited

-- in a round some server has not replied, until all have and the master is read; and in a vote some has not voted
abbrev pub AwaitsSome : Phase → Type 0
AwaitsSome (phase.Asking over round) = list_any is_missing round.targets ≡ true
AwaitsSome (phase.Checking over round staple) = list_any is_missing round.targets ≡ true
AwaitsSome (phase.Reading over round) = list_any is_missing round.targets ≡ false
AwaitsSome (phase.Voting []) = ⊥
AwaitsSome _ = Unit {0}
