-- What is asked of each actor, mail, record and fact of a world: that all they name exists, that a deed does to an item what its query
-- says, and that a write is asked with a value. What bounds the values stands in Bounded.
use Rattle.std.specs.Prelude.{IfSome, List, Option, Some, [], is_some, length, option_and_then, option_map, slice_get, true, ℕ, ◌∷◌, ◌≡◌, ◌≤◌}
use Rattle.std.specs.List.{IsDistinct}
use Rattle.tp_model.specs.Authorisation.{action_of}
use Rattle.tp_model.specs.Ids.{same_cred}
use Rattle.tp_model.specs.Queries.{item_of, query_at}
use Rattle.tp_model.specs.Words.actor
use Rattle.tp_model.specs.Words.answer
use Rattle.tp_model.specs.Words.body
use Rattle.tp_model.specs.Words.cause
use Rattle.tp_model.specs.Words.decision
use Rattle.tp_model.specs.Words.log
use Rattle.tp_model.specs.Words.no
use Rattle.tp_model.specs.Words.vote
use Rattle.tp_model.specs.Words.what
use Rattle.tp_model.specs.Words.{Actor, Admin, AdminId, Answer, Body, Cause, CommitRecord, CredId, Decided, Decision, Deed, Denied, Died, DoneReply, Fact, Instance, Item, ItemId, Letter, Mail, Met, Newer, NewestReply, No, OutOfRange, PrepareRequest, Prepared, PushNotice, Query, QueryRequest, Record, Scenario, ServerId, Settled, Staple, TellReply, Transaction, TxnId, ValidateRequest, Verdict, VerdictsReply, Version, Vote, VoteReply, What}
use Rattle.tp_types.specs.Each.{Each, EachAt, EachPlaced}
use Rattle.tp_machine.specs.Machine.{State}
use Rattle.tp_machine.specs.Named.{IsActor, IsCrasher, IsCred, IsServer, IsTxn}
use Rattle.tp_machine.specs.Parts.{Part}
use Rattle.tp_coord.specs.State.{Coordinator}
use Rattle.tp_scheme.specs.Moves.{proves_each}
use Rattle.tp_machine.specs.declared.actors.Actors.{Actors}
use Rattle.tp_coord.specs.declared.coordinator.Phase.TheVariants as phase
use Rattle.tp_coord.specs.declared.coordinator.Phase.{Phase}
use Rattle.tp_coord.specs.declared.coordinator.Span.TheVariants as span
use Rattle.tp_coord.specs.declared.coordinator.Span.{Span}
use Rattle.tp_model.specs.Levels.{is_global_at}
use Rattle.tp_round.specs.declared.round.Round.{Round}
use Rattle.tp_round.specs.declared.round.Target.{Target}
use Rattle.tp_round.specs.declared.round.Wanted.{Wanted}
use Rattle.tp_server.specs.declared.server.Ballot.{Ballot}
use Rattle.tp_server.specs.declared.server.Entry.{Entry}
use Rattle.tp_server.specs.State.{Server}
use Rattle.tp_server.specs.Values.{HasValue}
use Rattle.tp_offices.specs.declared.authority.Authority.{Authority}
use Rattle.tp_offices.specs.declared.master.Master.{Master}
use Rattle.tp_lock.specs.Table.{Table}
use Rattle.tp_lock.specs.declared.entry.LockEntry.{LockEntry}
use Rattle.tp_store.specs.Rule.{writes_of}
use Rattle.tp_store.specs.declared.writes.TentativeWrite.{TentativeWrite}

-- ---- ids

-- the actor is a server
abbrev pub IsServerActor : Actor → Type 0
IsServerActor (actor.Server at) = Unit {0}
IsServerActor _ = ⊥

-- ---- versions and values

-- the administrator's library has this version
abbrev pub IsVersionOf : Admin → Version → Type 0
IsVersionOf admin version = (1 ≤ version.0) × (version.0 ≤ length admin.library)

-- the scenario has this administrator, and its library this version
pub record IsVersion (sc : Scenario) (admin : AdminId) (version : Version) : Type 0 where
  pub declared : Admin
  pub declared_is : slice_get sc.admins admin.0 ≡ Some declared
  pub in_library : IsVersionOf declared version

-- a version of each of these administrators, in their order
abbrev pub AreVersionsOf : List Admin → List Version → Type 0
AreVersionsOf [] [] = Unit {0}
AreVersionsOf (admin ∷ admins) (version ∷ versions) =
    IsVersionOf admin version × AreVersionsOf admins versions
AreVersionsOf _ _ = ⊥

-- a version of each administrator of the scenario
abbrev pub AreVersions : Scenario → List Version → Type 0
AreVersions sc versions = AreVersionsOf sc.admins versions

-- ---- queries

-- a transaction's query by its number; None where there is no such query
abbrev pub query_in : Scenario → TxnId → ℕ → Option Query
query_in sc txn number =
    option_and_then (λ (declared : Transaction). query_at declared number) (slice_get sc.txns txn.0)

-- the transaction has a query of this number
pub record IsQuery (sc : Scenario) (txn : TxnId) (number : ℕ) : Type 0 where
  pub asked : Query
  pub asked_is : query_in sc txn number ≡ Some asked

-- the scenario has this item, and it is this server's
pub record IsItemOf (sc : Scenario) (at : ServerId) (item : ItemId) : Type 0 where
  pub declared : Item
  pub declared_is : slice_get sc.items item.0 ≡ Some declared
  pub server_is : declared.server ≡ at

-- the transaction has a query of this number, on an item of this server
pub record IsQueryOf (sc : Scenario) (txn : TxnId) (number : ℕ) (at : ServerId) : Type 0 where
  pub asked : Query
  pub asked_is : query_in sc txn number ≡ Some asked
  pub kept : IsItemOf sc at (item_of asked)

-- the transaction has a query of this number, on an item of this server and of this administrator
pub record IsQueryAt (sc : Scenario) (txn : TxnId) (number : ℕ) (at : ServerId) (admin : AdminId)
    : Type 0 where
  pub asked : Query
  pub asked_is : query_in sc txn number ≡ Some asked
  pub kept : IsItemOf sc at (item_of asked)
  pub admin_is : kept.declared.admin ≡ admin

-- the transaction proves each query as it runs
abbrev pub ProvesEach : Scenario → TxnId → Type 0
ProvesEach sc txn =
    option_map (λ (declared : Transaction). proves_each declared.scheme) (slice_get sc.txns txn.0)
    ≡ Some true

-- ---- proofs

-- the credentials exist
abbrev pub AreCreds : Scenario → List CredId → Type 0
AreCreds sc creds = Each (IsCred sc) creds

-- the revoked credentials exist
abbrev pub IsSoundStaple : Scenario → Staple → Type 0
IsSoundStaple sc staple = AreCreds sc staple.revoked

-- the verdict names a query of the transaction, with its server and its administrator; its version and credentials
-- exist, and it uses no credential twice
pub record IsSoundVerdict (sc : Scenario) (txn : TxnId) (verdict : Verdict) : Type 0 where
  pub query : IsQueryAt sc txn verdict.query verdict.server verdict.admin
  pub version : IsVersion sc verdict.admin verdict.version
  pub uses : AreCreds sc verdict.uses
  pub once : IsDistinct same_cred verdict.uses

-- each verdict is sound
abbrev pub AreSoundVerdicts : Scenario → TxnId → List Verdict → Type 0
AreSoundVerdicts sc txn verdicts = Each (IsSoundVerdict sc txn) verdicts

-- the verdict is sound and true
pub record IsSoundProof (sc : Scenario) (txn : TxnId) (verdict : Verdict) : Type 0 where
  pub sound : IsSoundVerdict sc txn verdict
  pub has_rule : is_some verdict.rule ≡ true

-- each proof is sound and true
abbrev pub IsSoundInstance : Scenario → TxnId → Instance → Type 0
IsSoundInstance sc txn instance = Each (IsSoundProof sc txn) instance.proofs

-- both versions exist
pub record IsSoundMet (sc : Scenario) (met : Met) : Type 0 where
  pub used : IsVersion sc met.admin met.used
  pub newest : IsVersion sc met.admin met.newest

-- both versions exist
pub record IsSoundNewer (sc : Scenario) (newer : Newer) : Type 0 where
  pub used : IsVersion sc newer.admin newer.used
  pub found : IsVersion sc newer.admin newer.found

-- ---- deeds

-- the deed is of a query of the transaction, on that query's item and with its action
pub record IsSoundDeed (sc : Scenario) (txn : TxnId) (deed : Deed) : Type 0 where
  pub asked : Query
  pub asked_is : query_in sc txn deed.query ≡ Some asked
  pub item_is : deed.item ≡ item_of asked
  pub action_is : deed.action ≡ action_of asked

-- a sound deed on an item of this server
pub record IsSoundDeedAt (sc : Scenario) (at : ServerId) (txn : TxnId) (deed : Deed) : Type 0 where
  pub sound : IsSoundDeed sc txn deed
  pub kept : IsItemOf sc at deed.item

-- ---- mails

-- a request goes to the server of the query's item; a write has a value; where each query is proved it has a staple
pub record IsSoundQuery (sc : Scenario) (to : Actor) (q : QueryRequest) : Type 0 where
  pub txn : IsTxn sc q.txn
  pub asked : Query
  pub asked_is : query_in sc q.txn q.query ≡ Some asked
  pub at : ServerId
  pub goes_to : to ≡ actor.Server at
  pub kept : IsItemOf sc at (item_of asked)
  pub has_value : HasValue asked q.value
  pub stapled : ProvesEach sc q.txn → is_some q.staple ≡ true
  pub staple : IfSome q.staple (IsSoundStaple sc)
  pub pin : IfSome q.pin (IsVersion sc kept.declared.admin)

-- an answer that the query ran has a verdict
abbrev pub HasVerdict : Answer → Type 0
HasVerdict (answer.Ran value verdict) = is_some verdict ≡ true
HasVerdict _ = Unit {0}

-- what the answer names exists: its verdict, which is true where the query ran, its versions, or its transaction
abbrev pub IsSoundAnswer : Scenario → TxnId → Answer → Type 0
IsSoundAnswer sc txn (answer.Ran value verdict) = IfSome verdict (IsSoundProof sc txn)
IsSoundAnswer sc txn (answer.Denied verdict) = IsSoundVerdict sc txn verdict
IsSoundAnswer sc txn (answer.Newer newer) = IsSoundNewer sc newer
IsSoundAnswer sc txn (answer.Died other) = IsTxn sc other
IsSoundAnswer sc txn _ = Unit {0}

-- a reply to a query of the transaction goes to its coordinator; where each query is proved, one that ran has a verdict
pub record IsSoundDone (sc : Scenario) (to : Actor) (done : DoneReply) : Type 0 where
  pub txn : IsTxn sc done.txn
  pub goes_to : to ≡ actor.Coordinator done.txn
  pub query : IsQuery sc done.txn done.query
  pub answer_is_sound : IsSoundAnswer sc done.txn done.answer
  pub proved : ProvesEach sc done.txn → HasVerdict done.answer

-- a request of an existing transaction goes to the authority, or to the master
pub record IsSoundAsk (sc : Scenario) (office to : Actor) (asked : TxnId) : Type 0 where
  pub txn : IsTxn sc asked
  pub goes_to : to ≡ office

-- the authority's answer goes to the coordinator of its transaction, and the revoked credentials exist
pub record IsSoundTell (sc : Scenario) (to : Actor) (tell : TellReply) : Type 0 where
  pub txn : IsTxn sc tell.txn
  pub goes_to : to ≡ actor.Coordinator tell.txn
  pub revoked : AreCreds sc tell.revoked

-- the wanted versions exist
abbrev pub AreWanted : Scenario → List (AdminId × Version) → Type 0
AreWanted sc want = Each (λ (wanted : AdminId × Version). IsVersion sc wanted.0 wanted.1) want

-- a request to evaluate goes to a server; its credentials and versions exist
pub record IsSoundValidate (sc : Scenario) (to : Actor) (v : ValidateRequest) : Type 0 where
  pub txn : IsTxn sc v.txn
  pub goes_to : IsServerActor to
  pub staple : IsSoundStaple sc v.staple
  pub want : AreWanted sc v.want

-- a server's verdicts go to the coordinator of their transaction, and are sound
pub record IsSoundVerdicts (sc : Scenario) (to : Actor) (reply : VerdictsReply) : Type 0 where
  pub txn : IsTxn sc reply.txn
  pub goes_to : to ≡ actor.Coordinator reply.txn
  pub verdicts : IfSome reply.verdicts (AreSoundVerdicts sc reply.txn)

-- a request to vote goes to a server; its credentials and versions exist
pub record IsSoundPrepare (sc : Scenario) (to : Actor) (p : PrepareRequest) : Type 0 where
  pub txn : IsTxn sc p.txn
  pub goes_to : IsServerActor to
  pub staple : IfSome p.staple (IsSoundStaple sc)
  pub want : AreWanted sc p.want

-- a query that left its range is one of the transaction
abbrev pub IsSoundNo : Scenario → TxnId → No → Type 0
IsSoundNo sc txn (no.Range number value) = IsQuery sc txn number
IsSoundNo sc txn _ = Unit {0}

-- a vote's verdicts, or its reason, are sound
abbrev pub IsSoundBallot : Scenario → TxnId → Vote → Type 0
IsSoundBallot sc txn (vote.Yes verdicts) = AreSoundVerdicts sc txn verdicts
IsSoundBallot sc txn (vote.No why) = IsSoundNo sc txn why

-- a vote goes to the coordinator of its transaction, and is sound
pub record IsSoundVote (sc : Scenario) (to : Actor) (reply : VoteReply) : Type 0 where
  pub txn : IsTxn sc reply.txn
  pub goes_to : to ≡ actor.Coordinator reply.txn
  pub ballot : IsSoundBallot sc reply.txn reply.vote

-- the master's answer goes to the coordinator of its transaction, and has one version of each administrator
pub record IsSoundNewest (sc : Scenario) (to : Actor) (reply : NewestReply) : Type 0 where
  pub txn : IsTxn sc reply.txn
  pub goes_to : to ≡ actor.Coordinator reply.txn
  pub newest : AreVersions sc reply.newest

-- what is said of an existing transaction goes to a server
pub record IsSoundOrder (sc : Scenario) (to : Actor) (said : TxnId) : Type 0 where
  pub txn : IsTxn sc said
  pub goes_to : IsServerActor to

-- what is said of an existing transaction goes to its coordinator
pub record IsSoundReport (sc : Scenario) (to : Actor) (said : TxnId) : Type 0 where
  pub txn : IsTxn sc said
  pub goes_to : to ≡ actor.Coordinator said

-- a pushed version goes to a server, and exists
pub record IsSoundPush (sc : Scenario) (to : Actor) (push : PushNotice) : Type 0 where
  pub goes_to : IsServerActor to
  pub version : IsVersion sc push.admin push.version

-- what is asked of what a mail to an actor says
abbrev pub IsSoundBody : Scenario → Actor → Body → Type 0
IsSoundBody sc to (body.Query q) = IsSoundQuery sc to q
IsSoundBody sc to (body.Done done) = IsSoundDone sc to done
IsSoundBody sc to (body.Ask ask) = IsSoundAsk sc actor.Authority to ask.txn
IsSoundBody sc to (body.Tell tell) = IsSoundTell sc to tell
IsSoundBody sc to (body.Validate v) = IsSoundValidate sc to v
IsSoundBody sc to (body.Verdicts reply) = IsSoundVerdicts sc to reply
IsSoundBody sc to (body.Prepare p) = IsSoundPrepare sc to p
IsSoundBody sc to (body.Vote reply) = IsSoundVote sc to reply
IsSoundBody sc to (body.Probe probe) = IsSoundAsk sc actor.Master to probe.txn
IsSoundBody sc to (body.Newest reply) = IsSoundNewest sc to reply
IsSoundBody sc to (body.Decide d) = IsSoundOrder sc to d.txn
IsSoundBody sc to (body.Ack ack) = IsSoundReport sc to ack.txn
IsSoundBody sc to (body.Inquire inquiry) = IsSoundReport sc to inquiry.txn
IsSoundBody sc to (body.Push push) = IsSoundPush sc to push

-- a value that a server refuses is of a query of the transaction on an item of the server
abbrev pub IsReasonOf : Scenario → ServerId → TxnId → No → Type 0
IsReasonOf sc at txn (no.Range number value) = IsQueryOf sc txn number at
IsReasonOf sc at txn _ = Unit {0}

abbrev pub IsRefusalOf : Scenario → ServerId → TxnId → Vote → Type 0
IsRefusalOf sc at txn (vote.No why) = IsReasonOf sc at txn why
IsRefusalOf sc at txn _ = Unit {0}

abbrev pub IsSoundRefusal : Scenario → Actor → Body → Type 0
IsSoundRefusal sc (actor.Server at) (body.Vote reply) = IsRefusalOf sc at reply.txn reply.vote
IsSoundRefusal sc _ _ = Unit {0}

-- the letter's actors exist, and what it says is sound
pub record IsSoundLetter (sc : Scenario) (letter : Letter) : Type 0 where
  pub from_is_actor : IsActor sc letter.from
  pub to_is_actor : IsActor sc letter.to
  pub says : IsSoundBody sc letter.to letter.body
  pub refuses : IsSoundRefusal sc letter.from letter.body

-- the mail's letter is sound
abbrev pub IsSoundMail : Scenario → Mail → Type 0
IsSoundMail sc mail = IsSoundLetter sc mail.letter

-- ---- records

-- the transaction exists, and its deeds are on items of this server; verdicts, and one version told of each administrator
pub record IsSoundPrepared (sc : Scenario) (at : ServerId) (p : Prepared) : Type 0 where
  pub txn : IsTxn sc p.txn
  pub deeds : Each (IsSoundDeedAt sc at p.txn) p.deeds
  pub verdicts : AreSoundVerdicts sc p.txn p.verdicts
  pub told : AreVersions sc p.told

-- the transaction exists, and the reason for a NO is sound
pub record IsSoundSettled (sc : Scenario) (at : ServerId) (settled : Settled) : Type 0 where
  pub txn : IsTxn sc settled.txn
  pub why : IfSome settled.why (IsReasonOf sc at settled.txn)

-- what is asked of a record of a server's log
abbrev pub IsSoundServerRecord : Scenario → ServerId → Record → Type 0
IsSoundServerRecord sc at (log.Told told) = IsVersion sc told.admin told.version
IsSoundServerRecord sc at (log.Prepared p) = IsSoundPrepared sc at p
IsSoundServerRecord sc at (log.Settled settled) = IsSoundSettled sc at settled
IsSoundServerRecord sc at _ = Unit {0}

-- each proof and each deed is sound
pub record IsSoundCommit (sc : Scenario) (txn : TxnId) (c : CommitRecord) : Type 0 where
  pub instances : Each (IsSoundInstance sc txn) c.instances
  pub deeds : Each (IsSoundDeed sc txn) c.deeds

-- the query is of the transaction, with its server and its administrator, and the version exists
pub record IsSoundDenied (sc : Scenario) (txn : TxnId) (denied : Denied) : Type 0 where
  pub query : IsQueryAt sc txn denied.query denied.server denied.admin
  pub version : IsVersion sc denied.admin denied.version

-- the query is of the transaction, with its server
pub record IsSoundOutOfRange (sc : Scenario) (txn : TxnId) (left : OutOfRange) : Type 0 where
  pub query : IsQueryOf sc txn left.query left.server

-- the query is of the transaction, with its server, and the other transaction exists
pub record IsSoundDied (sc : Scenario) (txn : TxnId) (died : Died) : Type 0 where
  pub query : IsQueryOf sc txn died.query died.server
  pub other : IsTxn sc died.other

-- a list of newer versions that were met has a member, and each is sound
pub record IsSoundRounds (sc : Scenario) (mets : List Met) : Type 0 where
  pub has_member : 1 ≤ length mets
  pub each : Each (IsSoundMet sc) mets

-- what a cause names exists
abbrev pub IsSoundCause : Scenario → TxnId → Cause → Type 0
IsSoundCause sc txn (cause.Denied denied) = IsSoundDenied sc txn denied
IsSoundCause sc txn (cause.No left) = IsSoundOutOfRange sc txn left
IsSoundCause sc txn (cause.Died died) = IsSoundDied sc txn died
IsSoundCause sc txn (cause.Newer newer) = IsSoundNewer sc newer
IsSoundCause sc txn (cause.Rounds mets) = IsSoundRounds sc mets
IsSoundCause sc txn (cause.Restarted at) = IsServer sc at
IsSoundCause sc txn _ = Unit {0}

-- what a decision rests on is sound
abbrev pub IsSoundDecision : Scenario → TxnId → Decision → Type 0
IsSoundDecision sc txn (decision.Commit c) = IsSoundCommit sc txn c
IsSoundDecision sc txn (decision.Abort why) = IsSoundCause sc txn why

-- a decision of this transaction, which is sound
pub record IsSoundDecided (sc : Scenario) (txn : TxnId) (d : Decided) : Type 0 where
  pub txn_is : d.txn ≡ txn
  pub rests_on : IsSoundDecision sc txn d.decision

-- what is asked of a record of a coordinator's log
abbrev pub IsSoundCoordinatorRecord : Scenario → TxnId → Record → Type 0
IsSoundCoordinatorRecord sc txn (log.Decided d) = IsSoundDecided sc txn d
IsSoundCoordinatorRecord sc txn _ = Unit {0}

-- ---- facts

-- what is asked of what happened
abbrev pub IsSoundWhat : Scenario → What → Type 0
IsSoundWhat sc (what.Submitted txn) = IsTxn sc txn
IsSoundWhat sc (what.Published admin version) = IsVersion sc admin version
IsSoundWhat sc (what.Revoked cred) = IsCred sc cred
IsSoundWhat sc (what.Crashed who) = IsCrasher sc who
IsSoundWhat sc (what.Decided txn decided) = IsTxn sc txn × IsSoundDecision sc txn decided
IsSoundWhat sc (what.Settled at txn outcome) = IsServer sc at × IsTxn sc txn
IsSoundWhat sc _ = Unit {0}

-- what happened is sound
abbrev pub IsSoundFact : Scenario → Fact → Type 0
IsSoundFact sc fact = IsSoundWhat sc fact.what

-- ---- actors

-- a query that waits is of the transaction
pub record IsSoundWait (sc : Scenario) (at : ServerId) (txn : TxnId) (q : QueryRequest) : Type 0 where
  pub own : q.txn ≡ txn
  pub sound : IsSoundQuery sc (actor.Server at) q

-- what an entry keeps of a transaction is sound
pub record IsSoundEntry (sc : Scenario) (at : ServerId) (txn : TxnId) (entry : Entry) : Type 0 where
  pub answers : Each (IsSoundDone sc (actor.Coordinator txn)) entry.answers
  pub waiting : IfSome entry.waiting (IsSoundWait sc at txn)
  pub deeds : Each (IsSoundDeedAt sc at txn) entry.deeds
  pub ballot : IfSome entry.ballot (λ (cast : Ballot). AreSoundVerdicts sc txn cast.verdicts)

-- what was settled of this transaction
pub record IsSettledOf (sc : Scenario) (at : ServerId) (txn : TxnId) (settled : Settled) : Type 0 where
  pub own : settled.txn ≡ txn
  pub sound : IsSoundSettled sc at settled

-- a write that is kept of a transaction is of one of its queries there, and of an item of the server
pub record IsWriteOf (sc : Scenario) (at : ServerId) (txn : TxnId) (write : TentativeWrite) : Type 0 where
  pub query : IsQueryOf sc txn write.query at
  pub item : IsItemOf sc at write.item

-- each lock is of a transaction that exists
abbrev pub HaveOwners : Scenario → Table → Type 0
HaveOwners sc locks = EachAt
    (λ (item : ℕ) (entries : List LockEntry).
    Each (λ (lock : LockEntry). IsTxn sc lock.owner) entries)
    locks.lists

-- a server's state: it exists, and what it knows and keeps of each transaction is sound
pub record IsSoundServer (sc : Scenario) (s : Server) : Type 0 where
  pub exists : IsServer sc s.server
  pub known : AreVersions sc s.store.known
  pub writes : (txn : TxnId) → Each (IsWriteOf sc s.server txn) (writes_of s.store txn)
  pub settled : EachPlaced
      (λ (n : ℕ) (done : Settled). IsSettledOf sc s.server (record { 0 = n }) done) s.settled
  pub entries : EachPlaced
      (λ (n : ℕ) (entry : Entry). IsSoundEntry sc s.server (record { 0 = n }) entry) s.entries
  pub locks : HaveOwners sc s.locks

-- the server has this number, and is sound
pub record IsSoundServerUp (sc : Scenario) (at : ServerId) (s : Server) : Type 0 where
  pub server_is : s.server ≡ at
  pub sound : IsSoundServer sc s

-- a server with its log: its state is sound where it is up, and each record is
pub record IsSoundServerPart (sc : Scenario) (at : ServerId) (part : Part Server) : Type 0 where
  pub exists : IsServer sc at
  pub state : IfSome part.up (IsSoundServerUp sc at)
  pub records : Each (IsSoundServerRecord sc at) part.log

-- the server of a round exists, and the verdicts that it replied are sound
pub record IsSoundTarget (sc : Scenario) (txn : TxnId) (target : Target) : Type 0 where
  pub server : IsServer sc target.server
  pub reply : IfSome target.reply (AreSoundVerdicts sc txn)

-- the named server exists, and the versions that are wanted of it
pub record IsSoundWanted (sc : Scenario) (named : Wanted) : Type 0 where
  pub server : IsServer sc named.server
  pub want : AreWanted sc named.want

-- a round reads the master where an administrator's level is global; what it aims at, names and met is sound, and so is
-- each of its servers
pub record IsSoundRound (sc : Scenario) (txn : TxnId) (round : Round) : Type 0 where
  pub levels : (admin : AdminId) → is_global_at round.levels admin ≡ true → round.reads ≡ true
  pub targets : Each (IsSoundTarget sc txn) round.targets
  pub aim : AreWanted sc round.aim
  pub named : Each (IsSoundWanted sc) round.named
  pub mets : Each (IsSoundMet sc) round.mets

-- a round over the queries so far goes to one of the transaction's
abbrev pub IsSoundSpan : Scenario → TxnId → Span → Type 0
IsSoundSpan sc txn (span.Validate number) = IsQuery sc txn number
IsSoundSpan sc txn span.Commit = Unit {0}

-- what a coordinator awaits is sound; where each query is proved, one was asked with a staple
abbrev pub IsSoundPhase : Scenario → TxnId → Phase → Type 0
IsSoundPhase sc txn (phase.Stapling number) = IsQuery sc txn number
IsSoundPhase sc txn (phase.Querying number staple) =
    IsQuery sc txn number × IfSome staple (IsSoundStaple sc)
    × (ProvesEach sc txn → is_some staple ≡ true)
IsSoundPhase sc txn (phase.Probing number) = IsQuery sc txn number
IsSoundPhase sc txn (phase.Asking over round) = IsSoundSpan sc txn over × IsSoundRound sc txn round
IsSoundPhase sc txn (phase.Checking over round staple) =
    IsSoundSpan sc txn over × IsSoundRound sc txn round × IsSoundStaple sc staple
IsSoundPhase sc txn (phase.Reading over round) = IsSoundSpan sc txn over × IsSoundRound sc txn round
IsSoundPhase sc txn (phase.Voting awaited) = Each (IsServer sc) awaited
IsSoundPhase sc txn (phase.Ending outcome awaited) = Each (IsServer sc) awaited
IsSoundPhase sc txn _ = Unit {0}

-- a coordinator's state: it exists, and what it keeps and awaits is sound
pub record IsSoundCoordinator (sc : Scenario) (c : Coordinator) : Type 0 where
  pub exists : IsTxn sc c.txn
  pub servers : Each (IsServer sc) c.servers
  pub deeds : Each (IsSoundDeed sc c.txn) c.deeds
  pub gathered : Each (IsSoundProof sc c.txn) c.gathered
  pub instances : Each (IsSoundInstance sc c.txn) c.instances
  pub awaits : IsSoundPhase sc c.txn c.phase

-- the coordinator is this transaction's, and is sound
pub record IsSoundCoordinatorUp (sc : Scenario) (txn : TxnId) (c : Coordinator) : Type 0 where
  pub txn_is : c.txn ≡ txn
  pub sound : IsSoundCoordinator sc c

-- a coordinator with its log: its state is sound where it is up, and each record is
pub record IsSoundCoordinatorPart (sc : Scenario) (txn : TxnId) (part : Part Coordinator)
    : Type 0 where
  pub exists : IsTxn sc txn
  pub state : IfSome part.up (IsSoundCoordinatorUp sc txn)
  pub records : Each (IsSoundCoordinatorRecord sc txn) part.log

-- the credentials that the authority revoked exist
abbrev pub IsSoundAuthority : Scenario → Authority → Type 0
IsSoundAuthority sc authority =
    Each (λ (place : Option CredId). IfSome place (IsCred sc)) authority.revoked

-- the newest version that the master knows of each administrator exists, and the last one
pub record IsSoundMaster (sc : Scenario) (master : Master) : Type 0 where
  pub newest : AreVersions sc master.newest
  pub last : AreVersions sc master.last

-- ---- the world

-- each actor is sound for its own number
pub record AreSoundActors (sc : Scenario) (actors : Actors) : Type 0 where
  pub servers : EachAt
      (λ (n : ℕ) (part : Part Server). IsSoundServerPart sc (record { 0 = n }) part) actors.servers
  pub coordinators : EachAt
      (λ (n : ℕ) (part : Part Coordinator). IsSoundCoordinatorPart sc (record { 0 = n }) part)
      actors.coordinators
  pub authority : IsSoundAuthority sc actors.authority
  pub master : IsSoundMaster sc actors.master

-- each actor, each mail ever sent and each fact is sound
pub record IsSound (sc : Scenario) (w : State) : Type 0 where
  pub actors_are : AreSoundActors sc w.actors
  pub mails_are : Each (IsSoundMail sc) w.mails
  pub facts_are : Each (IsSoundFact sc) w.facts
