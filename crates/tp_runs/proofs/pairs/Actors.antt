-- A transaction at a server as actors have it: what stands on the server's log and in its entry, and what its coordinator knows.
use Rattle.std.proofs.Common.{Bool, List, None, Option, Some, false, if◌then◌else◌, is_some, option_and_then, slice_get, ℕ, ◌≡◌}
use Rattle.std.specs.Option.{option_flatten, option_map_or}
use Rattle.tp_model.specs.Words.actor
use Rattle.tp_model.specs.Words.body
use Rattle.tp_model.specs.Words.{Actor, Body, DoneReply, Letter, PrepareRequest, QueryRequest, Record, Scenario, Transaction, TxnId, ValidateRequest, VerdictsReply, VoteReply}
use Rattle.tp_runs.proofs.basics.Phases.{is_undecided, stand_of}
use Rattle.tp_runs.proofs.pairs.Fits.{DoneFits, Fits, PrepareFits, QueryFits, ValidateFits, VerdictsFits, VoteFits}
use Rattle.tp_runs.proofs.pairs.Follows.{Follows, Next, done_follows, prepare_follows, query_follows, validate_follows, verdicts_follow}
use Rattle.tp_runs.proofs.pairs.Pair.{Asker, Pair}
use Rattle.tp_runs.proofs.pairs.Site.{Site}
use Rattle.tp_machine.specs.Logs.{epoch_by, prepared_by, settled_by}
use Rattle.tp_machine.specs.Parts.{Part}
use Rattle.tp_coord.specs.State.{Coordinator}
use Rattle.tp_machine.specs.declared.actors.Actors.{Actors}
use Rattle.tp_server.specs.declared.server.Entry.{Entry}
use Rattle.tp_server.specs.Row.{entry_at}
use Rattle.tp_server.specs.State.{Server}

-- ---- the coordinator

abbrev pub asker_of : ℕ → Coordinator → Asker
asker_of at c = record {
  stand = stand_of c.phase;
  turn = c.turn;
  epoch = option_flatten (slice_get c.epochs at);
  deeds = c.deeds;
}

-- a coordinator that has not decided
abbrev pub asker_up : ℕ → Coordinator → Option Asker
asker_up at c = if is_undecided c.phase then Some (asker_of at c) else None

-- nor is down
abbrev pub asker_in : ℕ → Option Coordinator → Option Asker
asker_in at up = option_and_then (asker_up at) up

abbrev pub asker_by : ℕ → Part Coordinator → Option Asker
asker_by at part = asker_in at part.up

abbrev pub asker_at : List (Part Coordinator) → ℕ → ℕ → Option Asker
asker_at coordinators txn at = option_and_then (asker_by at) (slice_get coordinators txn)

-- ---- the server

abbrev pub is_part_up : Part Server → Bool
is_part_up part = is_some part.up

abbrev pub entry_up : TxnId → Server → Option Entry
entry_up txn s = entry_at s txn

abbrev pub entry_by : TxnId → Part Server → Option Entry
entry_by txn part = option_and_then (entry_up txn) part.up

-- a server that is not there holds nothing
abbrev pub pair_by : TxnId → Option Asker → Option (Part Server) → Pair
pair_by txn asker part = record {
  epoch = option_map_or epoch_by part 0;
  up = option_map_or is_part_up part false;
  settled = is_some (option_and_then (settled_by txn) part);
  voted = false;
  entry = option_and_then (entry_by txn) part;
  prepared = option_and_then (prepared_by txn) part;
  asker = asker;
}

-- that of a server which is up or down, with its log
abbrev pub pair_of : TxnId → Option Asker → Option Server → List Record → Pair
pair_of txn asker up kept = pair_by txn asker (Some (record { up = up; log = kept }))

-- that of a server which is up
abbrev pub pair_up : TxnId → Option Asker → Server → List Record → Pair
pair_up txn asker s kept = pair_of txn asker (Some s) kept

-- a transaction at a server, by its number
abbrev pub pair_at : Actors → TxnId → ℕ → Pair
pair_at actors txn at = pair_by txn (asker_at actors.coordinators txn.0 at) (slice_get actors.servers at)

-- ---- all transactions

abbrev pub site_of : Scenario → ℕ → Transaction → Site
site_of sc at declared = record { scenario = sc; txn = declared; at = at }

-- each transaction of the scenario fits at the server
abbrev pub AllFit : Scenario → ℕ → (TxnId → Pair) → Type 0
AllFit sc at P = (txn : TxnId) (declared : Transaction) → slice_get sc.txns txn.0 ≡ Some declared → Fits (site_of sc at declared) (P txn)

-- and is there after an act
abbrev pub AllNext : Scenario → ℕ → (TxnId → Pair) → (TxnId → Pair) → Type 0
AllNext sc at P Q = (txn : TxnId) (declared : Transaction) → slice_get sc.txns txn.0 ≡ Some declared → Next (site_of sc at declared) (P txn) (Q txn)

-- ---- mails

abbrev pub QueryAt : Scenario → (TxnId → ℕ → Pair) → Actor → QueryRequest → Type 0
QueryAt sc P (actor.Server at) q = (declared : Transaction) → slice_get sc.txns q.txn.0 ≡ Some declared → QueryFits (site_of sc at.0 declared) (P q.txn at.0) q
QueryAt sc P _ q = Unit {0}

abbrev pub PrepareAt : Scenario → (TxnId → ℕ → Pair) → Actor → PrepareRequest → Type 0
PrepareAt sc P (actor.Server at) r = (declared : Transaction) → slice_get sc.txns r.txn.0 ≡ Some declared → PrepareFits (site_of sc at.0 declared) (P r.txn at.0) r
PrepareAt sc P _ r = Unit {0}

abbrev pub ValidateAt : Scenario → (TxnId → ℕ → Pair) → Actor → ValidateRequest → Type 0
ValidateAt sc P (actor.Server at) v = (declared : Transaction) → slice_get sc.txns v.txn.0 ≡ Some declared → ValidateFits (site_of sc at.0 declared) (P v.txn at.0) v
ValidateAt sc P _ v = Unit {0}

abbrev pub DoneFrom : Scenario → (TxnId → ℕ → Pair) → Actor → DoneReply → Type 0
DoneFrom sc P (actor.Server at) done = (declared : Transaction) → slice_get sc.txns done.txn.0 ≡ Some declared → DoneFits (site_of sc at.0 declared) (P done.txn at.0) done
DoneFrom sc P _ done = Unit {0}

abbrev pub VerdictsFrom : Scenario → (TxnId → ℕ → Pair) → Actor → VerdictsReply → Type 0
VerdictsFrom sc P (actor.Server at) reply = (declared : Transaction) → slice_get sc.txns reply.txn.0 ≡ Some declared → VerdictsFits (site_of sc at.0 declared) (P reply.txn at.0) reply
VerdictsFrom sc P _ reply = Unit {0}

-- a vote YES has a verdict on each query at its server or none, whatever the pair
abbrev pub VoteFrom : Scenario → Actor → VoteReply → Type 0
VoteFrom sc (actor.Server at) reply = (declared : Transaction) → slice_get sc.txns reply.txn.0 ≡ Some declared → VoteFits (site_of sc at.0 declared) reply.vote
VoteFrom sc _ reply = Unit {0}

-- what a mail says of its transaction at the server
abbrev pub BodyPairs : Scenario → (TxnId → ℕ → Pair) → Actor → Actor → Body → Type 0
BodyPairs sc P from to (body.Query q) = QueryAt sc P to q
BodyPairs sc P from to (body.Prepare r) = PrepareAt sc P to r
BodyPairs sc P from to (body.Validate v) = ValidateAt sc P to v
BodyPairs sc P from to (body.Done done) = DoneFrom sc P from done
BodyPairs sc P from to (body.Verdicts reply) = VerdictsFrom sc P from reply
BodyPairs sc P from to (body.Vote reply) = VoteFrom sc from reply
BodyPairs sc P from to _ = Unit {0}

abbrev pub LetterPairs : Scenario → (TxnId → ℕ → Pair) → Letter → Type 0
LetterPairs sc P letter = BodyPairs sc P letter.from letter.to letter.body

-- each transaction of the scenario, at each server, follows
abbrev pub AllFollow : Scenario → (TxnId → ℕ → Pair) → (TxnId → ℕ → Pair) → Type 0
AllFollow sc P Q = (txn : TxnId) (at : ℕ) (declared : Transaction) → slice_get sc.txns txn.0 ≡ Some declared → Follows (P txn at) (Q txn at)

query_stays : (sc : Scenario) (P Q : TxnId → ℕ → Pair) (to : Actor) (q : QueryRequest) → AllFollow sc P Q → QueryAt sc P to q → QueryAt sc Q to q
query_stays sc P Q (actor.Server at) q f h = λ declared e. query_follows (site_of sc at.0 declared) (P q.txn at.0) (Q q.txn at.0) q (f q.txn at.0 declared e) (h declared e)
query_stays sc P Q _ q f h = tt

prepare_stays : (sc : Scenario) (P Q : TxnId → ℕ → Pair) (to : Actor) (r : PrepareRequest) → AllFollow sc P Q → PrepareAt sc P to r → PrepareAt sc Q to r
prepare_stays sc P Q (actor.Server at) r f h = λ declared e. prepare_follows (site_of sc at.0 declared) (P r.txn at.0) (Q r.txn at.0) r (f r.txn at.0 declared e) (h declared e)
prepare_stays sc P Q _ r f h = tt

done_stays_in_pairs : (sc : Scenario) (P Q : TxnId → ℕ → Pair) (from : Actor) (done : DoneReply) → AllFollow sc P Q → DoneFrom sc P from done → DoneFrom sc Q from done
done_stays_in_pairs sc P Q (actor.Server at) done f h = λ declared e. done_follows (site_of sc at.0 declared) (P done.txn at.0) (Q done.txn at.0) done (f done.txn at.0 declared e) (h declared e)
done_stays_in_pairs sc P Q _ done f h = tt

validate_stays : (sc : Scenario) (P Q : TxnId → ℕ → Pair) (to : Actor) (v : ValidateRequest) → AllFollow sc P Q → ValidateAt sc P to v → ValidateAt sc Q to v
validate_stays sc P Q (actor.Server at) v f h = λ declared e. validate_follows (site_of sc at.0 declared) (P v.txn at.0) (Q v.txn at.0) v (f v.txn at.0 declared e) (h declared e)
validate_stays sc P Q _ v f h = tt

verdicts_stay : (sc : Scenario) (P Q : TxnId → ℕ → Pair) (from : Actor) (reply : VerdictsReply) → AllFollow sc P Q → VerdictsFrom sc P from reply → VerdictsFrom sc Q from reply
verdicts_stay sc P Q (actor.Server at) reply f h = λ declared e. verdicts_follow (site_of sc at.0 declared) (P reply.txn at.0) (Q reply.txn at.0) reply (f reply.txn at.0 declared e) (h declared e)
verdicts_stay sc P Q _ reply f h = tt

-- what a mail says stays true
pub body_stays : (sc : Scenario) (P Q : TxnId → ℕ → Pair) (from to : Actor) (said : Body) → AllFollow sc P Q → BodyPairs sc P from to said → BodyPairs sc Q from to said
body_stays sc P Q from to (body.Query q) f h = query_stays sc P Q to q f h
body_stays sc P Q from to (body.Prepare r) f h = prepare_stays sc P Q to r f h
body_stays sc P Q from to (body.Validate v) f h = validate_stays sc P Q to v f h
body_stays sc P Q from to (body.Verdicts reply) f h = verdicts_stay sc P Q from reply f h
body_stays sc P Q from to (body.Done done) f h = done_stays_in_pairs sc P Q from done f h
body_stays sc P Q from to (body.Vote reply) f h = h
body_stays sc P Q from to _ f h = tt
