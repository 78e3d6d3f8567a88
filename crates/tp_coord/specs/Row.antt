-- A coordinator's rows: what it does when its transaction is submitted, on receipt of a mail, and at its timer. A reply is used
-- only in the phase that awaits it, with the present turn, and once from each server; otherwise nothing happens.
use Rattle.std.specs.List.{find, list_any}
use Rattle.std.specs.Option.{option_flatten, option_map_or}
use Rattle.std.specs.Prelude.{Bool, List, None, Option, Some, [], false, filter, if◌then◌else◌, is_some, map, not, length, min, option_and_then, option_map, replicate, slice_get, slice_set, take, true, unwrap_or, ℕ, ℤ, ◌&&◌, ◌++◌, ◌==◌, ◌∷◌}
use Rattle.tp_types.specs.Effect.{Effect, ignores, logs, sends}
use Rattle.tp_types.specs.declared.records.Outcome.TheVariants.{Abort, Commit}
use Rattle.tp_model.specs.Queries.{is_at_server, item_of, query_at}
use Rattle.tp_model.specs.Ids.{same_server}
use Rattle.tp_model.specs.Words.actor
use Rattle.tp_model.specs.Words.answer
use Rattle.tp_model.specs.Words.body
use Rattle.tp_model.specs.Words.cause
use Rattle.tp_model.specs.Words.decision
use Rattle.tp_model.specs.Words.level
use Rattle.tp_model.specs.Words.log
use Rattle.tp_model.specs.Words.no
use Rattle.tp_model.specs.Words.scheme
use Rattle.tp_model.specs.Words.vote
use Rattle.tp_model.specs.Words.{Actor, AdminId, Answer, Body, Cause, CommitRecord, Decision, Denied, Died, DoneReply, Instance, Item, ItemId, Letter, Level, Mail, NewestReply, No, OutOfRange, Outcome, PrepareRequest, Query, QueryRequest, Reading, Scenario, Scheme, ServerId, Staple, TellReply, Transaction, TxnId, ValidateRequest, Verdict, VerdictsReply, Version, Vote, VoteReply}
use Rattle.tp_model.specs.Levels.{is_global, reads_master}
use Rattle.tp_model.specs.Limits.{admins_limit, count_limit, next_count, view_rounds}
use Rattle.tp_model.specs.Deeds.{deed_of}
use Rattle.tp_model.specs.Demand.{most_rounds}
use Rattle.tp_coord.specs.Sums.{asked_value}
use Rattle.tp_coord.specs.State.{Coordinator}
use Rattle.tp_coord.specs.declared.coordinator.Phase.TheVariants as phase
use Rattle.tp_coord.specs.declared.coordinator.Phase.{Phase}
use Rattle.tp_coord.specs.declared.coordinator.Span.TheVariants as span
use Rattle.tp_coord.specs.declared.coordinator.Span.{Span}
use Rattle.tp_scheme.specs.Gathered.{older, pin_of}
use Rattle.tp_scheme.specs.Moves.{next_move}
use Rattle.tp_scheme.specs.declared.moves.Move.TheVariants as move
use Rattle.tp_scheme.specs.declared.moves.Point.TheVariants as point
use Rattle.tp_scheme.specs.declared.moves.Move.{Move}
use Rattle.tp_scheme.specs.declared.moves.Point.{Point}
use Rattle.tp_round.specs.Judge.{after_judgement, after_reply, awaited_in, first_round, is_awaited, is_missing, judge}
use Rattle.tp_round.specs.Replies.{by_query, proofs_in}
use Rattle.tp_round.specs.declared.round.Judged.TheVariants as judged
use Rattle.tp_round.specs.declared.round.Judged.{Judged}
use Rattle.tp_round.specs.declared.round.Round.{Round}
use Rattle.tp_round.specs.declared.round.Wanted.{Wanted}

-- the turn of the next request; at the greatest number it stays
abbrev pub next_turn : Coordinator → ℕ
next_turn c = next_count c.turn

-- a letter to a server
abbrev pub request : Coordinator → ServerId → Body → Letter
request c server said = record {
  from = actor.Coordinator c.txn;
  to = actor.Server server;
  body = said;
}

abbrev pub requests : Coordinator → Body → List ServerId → List Letter
requests c said servers = map (λ (server : ServerId). request c server said) servers

-- a query of the transaction by its number
abbrev pub own_query : Scenario → Coordinator → ℕ → Option Query
own_query sc c number =
    option_and_then (λ (txn : Transaction). query_at txn number) (slice_get sc.txns c.txn.0)

-- the server of an item
abbrev pub server_at : Scenario → ItemId → Option ServerId
server_at sc item = option_map (λ (i : Item). i.server) (slice_get sc.items item.0)

-- the server of a query
abbrev pub server_of : Scenario → Query → Option ServerId
server_of sc query = server_at sc (item_of query)

-- ---- the table of moves

-- the number of a transaction's queries, as far as 32 bits count
abbrev pub query_count : Transaction → ℕ
query_count txn = min (length txn.queries) count_limit

-- what a transaction does at a point
abbrev pub move_of : Scenario → Point → Transaction → Move
move_of sc at txn = next_move txn.scheme (reads_master sc txn) (query_count txn) at

-- what the coordinator's transaction does at a point; one that does not exist does nothing
abbrev pub move_at : Scenario → Coordinator → Point → Move
move_at sc c at = option_map_or (move_of sc at) (slice_get sc.txns c.txn.0) move.Following

-- the number after a query's; at the greatest number it stays
abbrev pub next_number : ℕ → ℕ
next_number number = next_count number

-- the number of the query that a point is of; a point after the votes is of none
abbrev pub number_at : Point → ℕ
number_at (point.Begun number) = number
number_at (point.Stapled number) = number
number_at (point.Ran number) = number
number_at (point.Read number) = number
number_at (point.Validated number) = number
number_at point.Voted = 0
number_at point.VoteRead = 0

-- the number of the query after it
abbrev pub next_at : Point → ℕ
next_at at = next_number (number_at at)

-- where the transaction goes on after a query, the next one begins
abbrev pub followed : Scenario → Coordinator → ℕ → Move → Move
followed sc c number move.Following = move_at sc c (point.Begun (next_number number))
followed sc c number next = next

-- what is done at a point that the transaction has passed
abbrev pub move_after : Scenario → Coordinator → Point → Move
move_after sc c at = followed sc c (number_at at) (move_at sc c at)

-- ---- decisions

-- these servers are told the outcome
abbrev pub decide_letters : Coordinator → Outcome → List ServerId → List Letter
decide_letters c outcome servers =
    requests c (body.Decide (record { txn = c.txn; outcome = outcome })) servers

-- the decision is forced before it is sent to all of the transaction's servers
abbrev pub decides : Coordinator → Outcome → Decision → Effect Coordinator
decides c outcome decided =
    logs (record c { phase = phase.Ending outcome c.servers })
    (log.Decided (record { txn = c.txn; decision = decided }))
    (decide_letters c outcome c.servers)

-- the transaction aborts
abbrev pub aborts : Coordinator → Cause → Effect Coordinator
aborts c why = decides c Abort (decision.Abort why)

abbrev pub commit_record : Coordinator → ℕ → CommitRecord
commit_record c rounds = record { rounds = rounds; instances = c.instances; deeds = c.deeds }

-- the transaction commits, after so many rounds, on the instances that it has closed
abbrev pub commits : Coordinator → ℕ → Effect Coordinator
commits c rounds = decides c Commit (decision.Commit (commit_record c rounds))

-- ---- queries

-- the epoch that a server has told the transaction, if it has told one
abbrev pub epoch_told : Coordinator → ServerId → Option ℕ
epoch_told c server = option_flatten (slice_get c.epochs server.0)

-- the value that a query is asked with: a write's sum over what was read
abbrev pub value_of : Scenario → Coordinator → ℕ → Option ℤ
value_of sc c number =
    option_and_then (λ (txn : Transaction). asked_value txn c.deeds number)
    (slice_get sc.txns c.txn.0)

-- the administrator of a query's item
abbrev pub admin_of : Scenario → Query → Option AdminId
admin_of sc query = option_map (λ (i : Item). i.admin) (slice_get sc.items (item_of query).0)

-- the version that a query is to be proved by, if a gathered proof of its administrator has pinned one
abbrev pub pin_for : Scenario → Coordinator → ℕ → Option Version
pin_for sc c number =
    option_and_then (pin_of c.gathered) (option_and_then (admin_of sc) (own_query sc c number))

-- the request of a turn for a query, with the value that it is asked with, and the staple and the pin if it is proved as it runs
abbrev pub query_with : Coordinator → ℕ → ServerId → ℕ → Option ℤ → Option Staple → Option Version
    → QueryRequest
query_with c turn server number value staple pin = record {
  txn = c.txn;
  turn = turn;
  query = number;
  age = c.age;
  epoch = epoch_told c server;
  value = value;
  staple = staple;
  pin = pin;
}

abbrev pub query_request : Scenario → Coordinator → ℕ → ServerId → ℕ → Option Staple → QueryRequest
query_request sc c turn server number staple =
    query_with c turn server number (value_of sc c number) staple (pin_for sc c number)

-- a query is sent to the server of its item
abbrev pub sends_query : Scenario → Coordinator → ℕ → Option Staple → ServerId → Effect Coordinator
sends_query sc c number staple server =
    sends (record c { turn = next_turn c; phase = phase.Querying number staple })
    (request c server (body.Query (query_request sc c (next_turn c) server number staple)) ∷ [])

-- the server of the transaction's query of this number
abbrev pub home_of : Scenario → Coordinator → ℕ → Option ServerId
home_of sc c number = option_and_then (server_of sc) (own_query sc c number)

-- a query is sent where it has a server
abbrev pub sends_next : Scenario → Coordinator → ℕ → Option Staple → Option ServerId
    → Effect Coordinator
sends_next sc c number staple None = ignores c
sends_next sc c number staple (Some server) = sends_query sc c number staple server

-- ---- the authority and the master

-- the request of a turn to the authority
abbrev pub ask_letter : Coordinator → ℕ → Letter
ask_letter c turn = record {
  from = actor.Coordinator c.txn;
  to = actor.Authority;
  body = body.Ask (record { txn = c.txn; turn = turn });
}

-- the authority is asked, for what the phase awaits
abbrev pub asks_in : Coordinator → Phase → Effect Coordinator
asks_in c awaiting =
    sends (record c { turn = next_turn c; phase = awaiting }) (ask_letter c (next_turn c) ∷ [])

-- the request of a turn to the master
abbrev pub probe_letter : Coordinator → ℕ → Letter
probe_letter c turn = record {
  from = actor.Coordinator c.txn;
  to = actor.Master;
  body = body.Probe (record { txn = c.txn; turn = turn });
}

-- the master is asked for the newest versions
abbrev pub probes : Coordinator → Phase → Effect Coordinator
probes c awaiting =
    sends (record c { turn = next_turn c; phase = awaiting }) (probe_letter c (next_turn c) ∷ [])

-- what awaits its answer: after a query, or after the votes
abbrev pub probing_at : Point → Phase
probing_at point.Voted = phase.VoteProbing
probing_at at = phase.Probing (number_at at)

-- ---- rounds and votes

-- before each round of validation the authority is asked
abbrev pub asks : Coordinator → Span → Round → Effect Coordinator
asks c over round = asks_in c (phase.Asking over round)

-- the level that a transaction is run at: global where it reads the master
abbrev pub level_read : Scenario → Transaction → Level
level_read sc txn = if reads_master sc txn then level.Global else level.View

abbrev pub level_at : Scenario → Coordinator → Level
level_at sc c = option_map_or (level_read sc) (slice_get sc.txns c.txn.0) level.View

abbrev pub limit_at : Scenario → Coordinator → ℕ
limit_at sc c = option_map_or (most_rounds sc) (slice_get sc.txns c.txn.0) view_rounds

-- a first round of these servers
abbrev pub round_of : Scenario → Coordinator → List ServerId → Round
round_of sc c servers =
    first_round servers (limit_at sc c) (replicate admins_limit (level_at sc c))
    (is_global (level_at sc c))

-- the first round at commit, of all of the transaction's servers
abbrev pub commit_round : Scenario → Coordinator → Round
commit_round sc c = round_of sc c c.servers

-- one of these queries is at the server
abbrev pub has_query : Scenario → List Query → ServerId → Bool
has_query sc queries server = list_any (is_at_server sc server.0) queries

-- of the transaction's servers, those of its queries up to this one
abbrev pub servers_upto : Scenario → Coordinator → ℕ → List ServerId
servers_upto sc c number =
    option_map_or (λ (txn : Transaction). filter (has_query sc (take number txn.queries)) c.servers)
    (slice_get sc.txns c.txn.0) []

-- the first round over the queries up to this one
abbrev pub validation_round : Scenario → Coordinator → ℕ → Round
validation_round sc c number = round_of sc c (servers_upto sc c number)

-- the epoch that a server told; 0, which is no epoch, where it told none
abbrev pub epoch_of : Coordinator → ServerId → ℕ
epoch_of c server = unwrap_or (epoch_told c server) 0

-- the request of a turn to prepare
abbrev pub prepare_with : Coordinator → ℕ → Option Staple → List (AdminId × Version) → ServerId
    → PrepareRequest
prepare_with c turn staple want server = record {
  txn = c.txn;
  turn = turn;
  epoch = epoch_of c server;
  staple = staple;
  want = want;
}

-- that to prepare without an evaluation
abbrev pub vote_letter : Coordinator → ℕ → ServerId → Letter
vote_letter c turn server = request c server (body.Prepare (prepare_with c turn None [] server))

abbrev pub vote_letters : Coordinator → ℕ → List ServerId → List Letter
vote_letters c turn servers = map (vote_letter c turn) servers

-- each query was proved as it ran: all of the transaction's servers are asked to prepare without an evaluation
abbrev pub asks_votes : Coordinator → Effect Coordinator
asks_votes c =
    sends (record c { turn = next_turn c; phase = phase.Voting c.servers })
    (vote_letters c (next_turn c) c.servers)

-- ---- what follows at a point

-- what the transaction does at a point, after so many rounds where all have voted
abbrev pub makes : Scenario → Coordinator → Point → ℕ → Move → Effect Coordinator
makes sc c at rounds move.SendQuery = sends_next sc c (next_at at) None (home_of sc c (next_at at))
makes sc c at rounds move.Ask = asks_in c (phase.Stapling (next_at at))
makes sc c at rounds move.Probe = probes c (probing_at at)
makes sc c at rounds move.Validate =
    asks c (span.Validate (number_at at)) (validation_round sc c (number_at at))
makes sc c at rounds move.CommitRounds = asks c span.Commit (commit_round sc c)
makes sc c at rounds move.Votes = asks_votes c
makes sc c at rounds move.Decide = commits c rounds
makes sc c at rounds move.Following = ignores c

-- something is done by the move: it leads no further, and a query that is to be sent has a server
abbrev pub is_made : Scenario → Coordinator → Point → Move → Bool
is_made sc c at move.Following = false
is_made sc c at move.SendQuery = is_some (home_of sc c (next_at at))
is_made sc c at _ = true

abbrev pub if_made : Scenario → Coordinator → Point → Move → Option Move
if_made sc c at next = if is_made sc c at next then Some next else None

-- what is done at a point that the transaction has passed, if anything is
abbrev pub move_made : Scenario → Coordinator → Point → Option Move
move_made sc c at = if_made sc c at (move_after sc c at)

abbrev pub goes_by : Scenario → Coordinator → Coordinator → Point → ℕ → Option Move → Effect Coordinator
goes_by sc c now at rounds None = ignores c
goes_by sc c now at rounds (Some next) = makes sc now at rounds next

-- the transaction has passed a point, after so many rounds: c is what the coordinator stays as where nothing is done, and now what it is
-- with what it has gained
abbrev pub goes_on : Scenario → Coordinator → Coordinator → Point → ℕ → Effect Coordinator
goes_on sc c now at rounds = goes_by sc c now at rounds (move_made sc c at)

-- ---- Submit

-- the first query is sent, or the authority is asked before it, and the place where that is sent is the age
abbrev pub begins : Scenario → Coordinator → Move → Effect Coordinator
begins sc c move.SendQuery = sends_next sc c 1 None (home_of sc c 1)
begins sc c move.Ask = asks_in c (phase.Stapling 1)
begins sc c _ = ignores c

-- what the submission of the transaction does
abbrev pub submit_row : Scenario → Coordinator → Effect Coordinator
submit_row sc c = begins sc c (move_at sc c (point.Begun 1))

-- a coordinator that knows the place of its submission
abbrev pub coordinator_with_age : Coordinator → ℕ → Coordinator
coordinator_with_age c place = record c { age = Some place }

-- ---- Done

abbrev pub is_from : Actor → ServerId → Bool
is_from (actor.Server server) asked = server.0 == asked.0
is_from _ asked = false

-- one instance more
abbrev pub instances_with : Coordinator → Option ℕ → List Verdict → List Instance
instances_with c reading proofs = c.instances ++ record { reading = reading; proofs = proofs } ∷ []

-- a coordinator that has closed an instance of these proofs, with the place of the master's reading after them if there
-- was one
abbrev pub closes : Coordinator → Option ℕ → List Verdict → Coordinator
closes c reading proofs = record c { instances = instances_with c reading proofs }

-- the scheme of the coordinator's transaction
abbrev pub scheme_at : Scenario → Coordinator → Scheme
scheme_at sc c =
    option_map_or (λ (txn : Transaction). txn.scheme) (slice_get sc.txns c.txn.0) scheme.Deferred

-- the proofs so far with that of a query that was proved as it ran
abbrev pub with_gathered : List Verdict → Option Verdict → List Verdict
with_gathered gathered None = gathered
with_gathered gathered (Some verdict) = gathered ++ verdict ∷ []

-- the instances with the proof of such a query, which is one of its own
abbrev pub with_own : List Instance → Option Verdict → List Instance
with_own instances None = instances
with_own instances (Some verdict) = instances ++ record { reading = None; proofs = verdict ∷ [] } ∷ []

-- where the master is not read, the instances with one of all proofs so far, the last of which is that of such a query
abbrev pub with_all : Bool → List Instance → List Verdict → Option Verdict → List Instance
with_all reads instances gathered None = instances
with_all true instances gathered (Some verdict) = instances
with_all false instances gathered (Some verdict) =
    instances ++ record { reading = None; proofs = gathered ++ verdict ∷ [] } ∷ []

-- incremental alone gathers
abbrev pub gathered_by : Scheme → List Verdict → Option Verdict → List Verdict
gathered_by scheme.Incremental gathered proof = with_gathered gathered proof
gathered_by _ gathered proof = gathered

-- what it has gathered is an instance at once where the master is not read, and else once it was; under the other schemes a query that
-- was proved as it ran has an instance of its own
abbrev pub closed_by : Scheme → Bool → List Instance → List Verdict → Option Verdict → List Instance
closed_by scheme.Incremental reads instances gathered proof =
    with_all reads instances gathered proof
closed_by _ reads instances gathered proof = with_own instances proof

-- a coordinator with the proof of such a query
abbrev pub with_proof : Scenario → Coordinator → Option Verdict → Coordinator
with_proof sc c proof =
    record c {
      gathered = gathered_by (scheme_at sc c) c.gathered proof;
      instances = closed_by (scheme_at sc c) (is_global (level_at sc c)) c.instances c.gathered proof;
    }

-- a coordinator with the deed of a query that ran, and the epoch of its server
abbrev pub with_deed : Coordinator → ServerId → DoneReply → Query → ℤ → Coordinator
with_deed c server done query value =
    record c {
      epochs = slice_set c.epochs server.0 (Some done.epoch);
      deeds = c.deeds ++ deed_of done.query query value ∷ [];
    }

-- an older transaction stood in the way of a query, as its server said at the place where it answered
abbrev pub died_for : ServerId → DoneReply → TxnId → ℕ → Died
died_for server done other sent =
    record { query = done.query; server = server; other = other; place = sent }

-- the reply that is awaited: where it was sent, the server that was asked, and the query that it answers
pub record QueryReply : Type 0 where
  pub sent : ℕ
  pub server : ServerId
  pub done : DoneReply
  pub query : Query

-- what a false verdict denies
abbrev pub denied_by : Verdict → Denied
denied_by verdict =
    record {
      query = verdict.query;
      server = verdict.server;
      admin = verdict.admin;
      version = verdict.version;
      place = verdict.place;
    }

-- by the answer: what ran is kept, and the transaction goes on; where its proof is false, the server knows a newer version than the
-- pinned one, an older transaction stood in the way, or what was done at the server was lost, it aborts
abbrev pub on_answer : Scenario → Coordinator → QueryReply → Answer → Effect Coordinator
on_answer sc c reply (answer.Ran value verdict) =
    goes_on sc c (with_proof sc (with_deed c reply.server reply.done reply.query value) verdict)
    (point.Ran reply.done.query) 0
on_answer sc c reply (answer.Denied verdict) = aborts c (cause.Denied (denied_by verdict))
on_answer sc c reply (answer.Newer newer) = aborts c (cause.Newer newer)
on_answer sc c reply (answer.Died other) =
    aborts c (cause.Died (died_for reply.server reply.done other reply.sent))
on_answer sc c reply answer.Restarted = aborts c (cause.Restarted reply.server)

-- the reply to a query, from the server that was asked
abbrev pub on_done_from : Scenario → Coordinator → ℕ → Actor → DoneReply → Query → Option ServerId
    → Effect Coordinator
on_done_from sc c sent from done query None = ignores c
on_done_from sc c sent from done query (Some server) =
    if is_from from server
    then on_answer sc c (record { sent = sent; server = server; done = done; query = query }) done.answer
    else ignores c

abbrev pub on_done_of_query : Scenario → Coordinator → ℕ → Actor → DoneReply → Option Query
    → Effect Coordinator
on_done_of_query sc c sent from done None = ignores c
on_done_of_query sc c sent from done (Some query) =
    on_done_from sc c sent from done query (server_of sc query)

-- the query that is awaited, in the present turn
abbrev pub awaits_query : Coordinator → Phase → DoneReply → Bool
awaits_query c (phase.Querying number staple) done = (done.turn == c.turn) && (done.query == number)
awaits_query c _ done = false

abbrev pub on_done : Scenario → Coordinator → Phase → ℕ → Actor → DoneReply → Effect Coordinator
on_done sc c awaited sent from done =
    if awaits_query c awaited done
    then on_done_of_query sc c sent from done (own_query sc c done.query)
    else ignores c

-- ---- Tell

-- what the last update wants of a server; nothing where it named the server not
abbrev pub want_for : Round → ServerId → List (AdminId × Version)
want_for round server =
    option_map_or (λ (named : Wanted). named.want)
    (find (λ (named : Wanted). same_server named.server server) round.named) []

abbrev pub prepare_request : Coordinator → ℕ → Round → Staple → ServerId → PrepareRequest
prepare_request c turn round staple server =
    prepare_with c turn (Some staple) (want_for round server) server

abbrev pub prepare_letter : Coordinator → ℕ → Round → Staple → ServerId → Letter
prepare_letter c turn round staple server =
    request c server (body.Prepare (prepare_request c turn round staple server))

abbrev pub validate_request : Coordinator → ℕ → Round → Staple → ServerId → ValidateRequest
validate_request c turn round staple server = record {
  txn = c.txn;
  turn = turn;
  epoch = epoch_of c server;
  staple = staple;
  want = want_for round server;
}

abbrev pub validate_letter : Coordinator → ℕ → Round → Staple → ServerId → Letter
validate_letter c turn round staple server =
    request c server (body.Validate (validate_request c turn round staple server))

-- the request to a server of a round: to evaluate the queries so far, or to prepare at commit
abbrev pub round_letter : Coordinator → Span → ℕ → Round → Staple → ServerId → Letter
round_letter c (span.Validate number) turn round staple server = validate_letter c turn round staple server
round_letter c span.Commit turn round staple server = prepare_letter c turn round staple server

abbrev pub staple_of : TellReply → ℕ → Staple
staple_of tell sent = record { place = sent; clock = tell.clock; revoked = tell.revoked }

-- each of them is asked, in a turn, with the staple, at the versions that are wanted of it
abbrev pub round_letters : Coordinator → Span → ℕ → Round → Staple → List Letter
round_letters c over turn round staple =
    map (round_letter c over turn round staple) (awaited_in round)

abbrev pub checks : Coordinator → Span → Round → Staple → Effect Coordinator
checks c over round staple =
    sends (record c { turn = next_turn c; phase = phase.Checking over round staple })
    (round_letters c over (next_turn c) round staple)

-- the authority was asked before a query, or before a round
abbrev pub on_staple : Scenario → Coordinator → Phase → Staple → Effect Coordinator
on_staple sc c (phase.Stapling number) staple =
    sends_next sc c number (Some staple) (home_of sc c number)
on_staple sc c (phase.Asking over round) staple = checks c over round staple
on_staple sc c _ staple = ignores c

abbrev pub on_tell : Scenario → Coordinator → Phase → ℕ → TellReply → Effect Coordinator
on_tell sc c awaited sent tell =
    if tell.turn == c.turn then on_staple sc c awaited (staple_of tell sent) else ignores c

-- ---- a reply in a round

-- what a round awaits: replies, with the staple that they are asked with, or a reading of the master
abbrev pub phase_of : Span → Round → Option Staple → Phase
phase_of over round (Some staple) = phase.Checking over round staple
phase_of over round None = phase.Reading over round

-- a coordinator that awaits it
abbrev pub awaiting : Coordinator → Span → Round → Option Staple → Coordinator
awaiting c over round staple = record c { phase = phase_of over round staple }

-- the round goes on to await what it awaits
abbrev pub stays : Coordinator → Span → Round → Option Staple → Effect Coordinator
stays c over round staple = sends (awaiting c over round staple) []

abbrev pub place_of : Reading → ℕ
place_of reading = reading.place

-- the point that a round leads to
abbrev pub point_of : Span → Point
point_of (span.Validate number) = point.Validated number
point_of span.Commit = point.Voted

-- all have replied, and all proofs are true, of one version each: they are an instance, and the transaction goes on
abbrev pub on_all_true : Scenario → Coordinator → Span → Round → Option Reading → Effect Coordinator
on_all_true sc c over round reading =
    goes_on sc c (closes c (option_map place_of reading) (by_query (proofs_in round.targets)))
    (point_of over) round.number

-- by what is judged of the replies: a missing one is awaited, servers that are out of date are asked again as long as rounds are left, a
-- false proof denies, and where all is true the transaction goes on
abbrev pub on_judged : Scenario → Coordinator → Span → Round → Option Staple → Option Reading → Judged
    → Effect Coordinator
on_judged sc c over round staple reading judged.Waiting = stays c over round staple
on_judged sc c over round staple reading (judged.Spent mets) = aborts c (cause.Rounds mets)
on_judged sc c over round staple reading (judged.Update named) = asks c over (after_judgement round reading)
on_judged sc c over round staple reading (judged.False verdict) = aborts c (cause.Denied (denied_by verdict))
on_judged sc c over round staple reading judged.AllTrue =
    on_all_true sc (awaiting c over round staple) over round reading

-- a round with one more reply: others are awaited; or all have replied, and the master is read first where the round
-- reads it, or the round is judged
abbrev pub on_reply : Scenario → Coordinator → Span → Round → Staple → Effect Coordinator
on_reply sc c over round staple =
    if list_any is_missing round.targets then stays c over round (Some staple)
    else if round.reads then probes c (phase.Reading over round)
    else on_judged sc c over round (Some staple) None (judge round None)

-- ---- Vote

-- what a server's vote NO refuses
abbrev pub refused_by : ServerId → ℕ → ℤ → OutOfRange
refused_by server number value = record { query = number; server = server; value = value }

-- a NO ends the transaction at once
abbrev pub on_no : Coordinator → ServerId → No → Effect Coordinator
on_no c server (no.Range number value) = aborts c (cause.No (refused_by server number value))
on_no c server no.Restarted = aborts c (cause.Restarted server)

abbrev pub on_vote_of : Scenario → Coordinator → Span → Round → Staple → ServerId → Vote → Effect Coordinator
on_vote_of sc c over round staple server (vote.Yes verdicts) =
    on_reply sc c over (after_reply round server verdicts) staple
on_vote_of sc c over round staple server (vote.No why) = on_no c server why

abbrev pub without : List ServerId → ServerId → List ServerId
without awaited server = filter (λ (other : ServerId). not (other.0 == server.0)) awaited

-- a coordinator that awaits the votes of these servers
abbrev pub voting : Coordinator → List ServerId → Coordinator
voting c awaited = record c { phase = phase.Voting awaited }

-- one more server has voted YES: these are awaited; or all have voted, and the transaction goes on, after no rounds
abbrev pub on_votes_left : Scenario → Coordinator → List ServerId → Effect Coordinator
on_votes_left sc c [] = goes_on sc (voting c []) (voting c []) point.Voted 0
on_votes_left sc c (server ∷ others) = sends (voting c (server ∷ others)) []

-- a vote that was asked for without an evaluation
abbrev pub on_plain_vote : Scenario → Coordinator → List ServerId → ServerId → Vote → Effect Coordinator
on_plain_vote sc c awaited server (vote.Yes verdicts) = on_votes_left sc c (without awaited server)
on_plain_vote sc c awaited server (vote.No why) = on_no c server why

abbrev pub is_among : List ServerId → ServerId → Bool
is_among awaited server = list_any (λ (other : ServerId). other.0 == server.0) awaited

-- the vote of this server is awaited, in a round at commit or without one
abbrev pub awaits_vote : Phase → ServerId → Bool
awaits_vote (phase.Checking span.Commit round staple) server = is_awaited round.targets server
awaits_vote (phase.Voting awaited) server = is_among awaited server
awaits_vote _ server = false

abbrev pub vote_at : Scenario → Coordinator → Phase → ServerId → Vote → Effect Coordinator
vote_at sc c (phase.Checking span.Commit round staple) server said =
    on_vote_of sc c span.Commit round staple server said
vote_at sc c (phase.Voting awaited) server said = on_plain_vote sc c awaited server said
vote_at sc c _ server said = ignores c

abbrev pub on_vote : Scenario → Coordinator → Phase → Actor → VoteReply → Effect Coordinator
on_vote sc c awaited (actor.Server server) reply =
    if (reply.turn == c.turn) && awaits_vote awaited server then vote_at sc c awaited server reply.vote
    else ignores c
on_vote sc c awaited _ reply = ignores c

-- ---- Verdicts

-- a server evaluated the queries so far, or what was done at it was lost
abbrev pub on_verdicts_of : Scenario → Coordinator → Span → Round → Staple → ServerId
    → Option (List Verdict) → Effect Coordinator
on_verdicts_of sc c over round staple server None = aborts c (cause.Restarted server)
on_verdicts_of sc c over round staple server (Some verdicts) =
    on_reply sc c over (after_reply round server verdicts) staple

-- the verdicts of this server are awaited, in a round over the queries so far
abbrev pub awaits_verdicts : Phase → ServerId → Bool
awaits_verdicts (phase.Checking (span.Validate number) round staple) server =
    is_awaited round.targets server
awaits_verdicts _ server = false

abbrev pub verdicts_at : Scenario → Coordinator → Phase → ServerId → Option (List Verdict)
    → Effect Coordinator
verdicts_at sc c (phase.Checking (span.Validate number) round staple) server said =
    on_verdicts_of sc c (span.Validate number) round staple server said
verdicts_at sc c _ server said = ignores c

abbrev pub on_verdicts : Scenario → Coordinator → Phase → Actor → VerdictsReply → Effect Coordinator
on_verdicts sc c awaited (actor.Server server) reply =
    if (reply.turn == c.turn) && awaits_verdicts awaited server
    then verdicts_at sc c awaited server reply.verdicts
    else ignores c
on_verdicts sc c awaited _ reply = ignores c

-- ---- Newest

-- what the master told, at the place where it was sent
abbrev pub reading_of : NewestReply → ℕ → Reading
reading_of reply sent = record { place = sent; newest = reply.newest }

-- what the reading says of the proofs so far, each of which is of an administrator under global consistency
abbrev pub older_than : Coordinator → Reading → Option Cause
older_than c reading = older (replicate admins_limit level.Global) c.gathered reading

-- where one is older than the newest version the transaction aborts; else all of them are an instance, and it goes on
abbrev pub on_older : Scenario → Coordinator → Point → Reading → Option Cause → Effect Coordinator
on_older sc c at reading (Some why) = aborts c why
on_older sc c at reading None =
    goes_on sc c (closes c (Some (place_of reading)) c.gathered) at 0

abbrev pub on_proofs_read : Scenario → Coordinator → Point → Reading → Effect Coordinator
on_proofs_read sc c at reading = on_older sc c at reading (older_than c reading)

-- the master was asked once all of a round had replied
abbrev pub on_round_read : Scenario → Coordinator → Phase → Reading → Effect Coordinator
on_round_read sc c (phase.Reading over round) reading =
    on_judged sc c over round None (Some reading) (judge round (Some reading))
on_round_read sc c _ reading = ignores c

-- or after a query, or after the votes
abbrev pub on_reading : Scenario → Coordinator → Phase → Reading → Effect Coordinator
on_reading sc c (phase.Probing number) reading = on_proofs_read sc c (point.Read number) reading
on_reading sc c phase.VoteProbing reading = on_proofs_read sc c point.VoteRead reading
on_reading sc c awaited reading = on_round_read sc c awaited reading

abbrev pub on_newest : Scenario → Coordinator → Phase → ℕ → NewestReply → Effect Coordinator
on_newest sc c awaited sent reply =
    if reply.turn == c.turn then on_reading sc c awaited (reading_of reply sent) else ignores c

-- ---- Ack

abbrev pub ack_from : Coordinator → Outcome → List ServerId → Actor → Effect Coordinator
ack_from c outcome awaited (actor.Server server) = sends (record c { phase = phase.Ending outcome (without awaited server) }) []
ack_from c outcome awaited _ = ignores c

abbrev pub on_ack : Coordinator → Phase → Actor → Effect Coordinator
on_ack c (phase.Ending outcome awaited) from = ack_from c outcome awaited from
on_ack c _ from = ignores c

-- ---- Inquire

-- a server is told the outcome again
abbrev pub tells : Coordinator → Outcome → Actor → Effect Coordinator
tells c outcome (actor.Server server) = sends c (decide_letters c outcome (server ∷ []))
tells c outcome _ = ignores c

-- a server that asks how the transaction was decided is told once it was
abbrev pub on_inquire : Coordinator → Phase → Actor → Effect Coordinator
on_inquire c (phase.Ending outcome awaited) from = tells c outcome from
on_inquire c _ from = ignores c

-- ---- all mails

abbrev pub on_body : Scenario → Coordinator → ℕ → Actor → Body → Effect Coordinator
on_body sc c sent from (body.Done done) = on_done sc c c.phase sent from done
on_body sc c sent from (body.Tell tell) = on_tell sc c c.phase sent tell
on_body sc c sent from (body.Verdicts reply) = on_verdicts sc c c.phase from reply
on_body sc c sent from (body.Vote reply) = on_vote sc c c.phase from reply
on_body sc c sent from (body.Newest reply) = on_newest sc c c.phase sent reply
on_body sc c sent from (body.Ack ack) = on_ack c c.phase from
on_body sc c sent from (body.Inquire inquiry) = on_inquire c c.phase from
on_body sc c sent from _ = ignores c

abbrev pub coordinator_row : Scenario → Coordinator → Mail → Effect Coordinator
coordinator_row sc c mail = on_body sc c mail.sent mail.letter.from mail.letter.body

-- ---- timers

-- a query is asked again where it has a server
abbrev pub query_again : Scenario → Coordinator → ℕ → Option Staple → Option ServerId → List Letter
query_again sc c number staple None = []
query_again sc c number staple (Some server) =
    request c server (body.Query (query_request sc c c.turn server number staple)) ∷ []

-- the request that is outstanding, in its own turn, to each from whom a reply is awaited
abbrev pub repeats : Scenario → Coordinator → Phase → List Letter
repeats sc c phase.Idle = []
repeats sc c (phase.Stapling number) = ask_letter c c.turn ∷ []
repeats sc c (phase.Querying number staple) = query_again sc c number staple (home_of sc c number)
repeats sc c (phase.Probing number) = probe_letter c c.turn ∷ []
repeats sc c (phase.Asking over round) = ask_letter c c.turn ∷ []
repeats sc c (phase.Checking over round staple) = round_letters c over c.turn round staple
repeats sc c (phase.Reading over round) = probe_letter c c.turn ∷ []
repeats sc c (phase.Voting awaited) = vote_letters c c.turn awaited
repeats sc c phase.VoteProbing = probe_letter c c.turn ∷ []
repeats sc c (phase.Ending outcome awaited) = decide_letters c outcome awaited

-- a timer sends the outstanding request again, and changes nothing
abbrev pub timer_row : Scenario → Coordinator → Effect Coordinator
timer_row sc c = sends c (repeats sc c c.phase)

-- ---- submitted and armed

-- the transaction was submitted: its coordinator is idle until then, and never after. Its age says less, as one that booted knows none
abbrev pub is_begun : Phase → Bool
is_begun phase.Idle = false
is_begun _ = true

-- all servers have acknowledged the end
abbrev pub is_done : Phase → Bool
is_done (phase.Ending outcome []) = true
is_done _ = false

-- the transaction is submitted, and some server has not acknowledged its end
abbrev pub is_armed : Coordinator → Bool
is_armed c = is_begun c.phase && not (is_done c.phase)
