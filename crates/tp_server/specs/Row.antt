-- A server's row: what it does on receipt of a mail. The first case that fits is done.
use Rattle.std.specs.List.{find}
use Rattle.std.specs.Option.{option_flatten, option_map_or}
use Rattle.std.specs.Prelude.{Bool, List, None, Option, Some, [], false, if◌then◌else◌, is_none, is_some, nat_lt, not, option_and_then, option_map, slice_get, slice_set, unwrap_or, ℕ, ℤ, ◌++◌, ◌==◌, ◌∷◌}
use Rattle.tp_types.specs.Effect.{Effect, ignores, logs, sends}
use Rattle.tp_types.specs.Table.{is_unset}
use Rattle.tp_types.specs.declared.records.Outcome.TheVariants.{Abort, Commit}
use Rattle.tp_types.specs.declared.scenario.Query.TheVariants.{Read, Write}
use Rattle.tp_lock.specs.Rule.{after_release, after_request, answer_at, without_grant}
use Rattle.tp_lock.specs.declared.entry.Asked.{Asked}
use Rattle.tp_lock.specs.declared.entry.Asked.TheVariants.{Dies, Granted, Waits}
use Rattle.tp_lock.specs.declared.entry.Grant.{Grant}
use Rattle.tp_model.specs.Queries.{item_of, query_at}
use Rattle.tp_model.specs.Words.actor
use Rattle.tp_model.specs.Words.answer
use Rattle.tp_model.specs.Words.body
use Rattle.tp_model.specs.Words.log
use Rattle.tp_model.specs.Words.no
use Rattle.tp_model.specs.Words.vote
use Rattle.tp_model.specs.Words.{AdminId, Answer, Body, DecideRequest, Deed, DoneReply, ItemId, Letter, Mail, Newer, No, Outcome, PrepareRequest, Prepared, PushNotice, Query, QueryRequest, Scenario, Settled, Staple, Told, Transaction, TxnId, ValidateRequest, Verdict, Version}
use Rattle.tp_model.specs.Authorisation.{action_of}
use Rattle.tp_model.specs.Deeds.{deed_of}
use Rattle.tp_server.specs.declared.server.Ballot.{Ballot}
use Rattle.tp_server.specs.declared.server.Entry.{Entry}
use Rattle.tp_server.specs.Begun.{begun}
use Rattle.tp_server.specs.State.{Server}
use Rattle.tp_server.specs.Verdicts.{admin_of, verdict_on, verdicts_on, version_known, with_pin, with_wants}
use Rattle.tp_store.specs.Contents.{Contents}
use Rattle.tp_store.specs.Rule.{after_apply, after_forget, after_write, first_outside_in, read_in, with_version}
use Rattle.tp_store.specs.declared.writes.TentativeWrite.{TentativeWrite}

-- a transaction of the scenario that the server has not settled
abbrev pub is_open : Server → TxnId → Bool
is_open s txn = is_unset (slice_get s.settled txn.0)

-- the entry of a transaction
abbrev pub entry_at : Server → TxnId → Option Entry
entry_at s txn = option_flatten (slice_get s.entries txn.0)

abbrev pub with_entry : Server → TxnId → Option Entry → Server
with_entry s txn entry = record s { entries = slice_set s.entries txn.0 entry }

-- a letter to the coordinator of a transaction
abbrev pub reply : Server → TxnId → Body → Letter
reply s txn said = record { from = actor.Server s.server; to = actor.Coordinator txn; body = said }

-- ---- Query

-- the query that a request asks for
abbrev pub asked_query : Scenario → QueryRequest → Option Query
asked_query sc q =
    option_and_then (λ (txn : Transaction). query_at txn q.query) (slice_get sc.txns q.txn.0)

-- the place of the transaction's submission, as a request tells it
abbrev pub age_of : QueryRequest → ℕ → ℕ
age_of q sent = unwrap_or q.age sent

-- the entry of a transaction that has done nothing here yet
abbrev pub new_entry : Server → ℕ → Entry
new_entry s age = begun age s.epoch

-- ---- a query runs

-- the value of a query that runs: what is read, its own writes among it, or what is asked to be written
abbrev pub value_of_run : Server → QueryRequest → Query → Option ℤ
value_of_run s q (Read item into) = Some (read_in s.store q.txn item)
value_of_run s q (Write item expr) = q.value

abbrev pub tentative_write : QueryRequest → ItemId → ℤ → TentativeWrite
tentative_write q item value = record { query = q.query; item = item; value = value }

-- a write is kept until its transaction is settled
abbrev pub kept_by : Contents → QueryRequest → Query → ℤ → Contents
kept_by store q (Read item into) value = store
kept_by store q (Write item expr) value = after_write store q.txn (tentative_write q item value)

-- the reply to a query with an answer
abbrev pub reply_of : QueryRequest → ℕ → Answer → DoneReply
reply_of q epoch given =
    record {
      txn = q.txn;
      turn = q.turn;
      query = q.query;
      epoch = epoch;
      answer = given;
    }

abbrev pub reply_letter : Server → QueryRequest → Entry → Answer → Letter
reply_letter s q entry given = reply s q.txn (body.Done (reply_of q entry.epoch given))

-- the entry with an answer to a query
abbrev pub with_answer : QueryRequest → Entry → Answer → Entry
with_answer q entry given =
    record entry { answers = entry.answers ++ reply_of q entry.epoch given ∷ [] }

-- the answer to a query that ran, with its proof if it was asked with a staple
abbrev pub ran_as : Deed → Option Verdict → Answer
ran_as deed verdict = answer.Ran deed.value verdict

-- the entry once its query ran
abbrev pub entry_after : QueryRequest → Entry → Deed → Option Verdict → Entry
entry_after q entry deed verdict =
    record (with_answer q entry (ran_as deed verdict)) { deeds = entry.deeds ++ deed ∷ [] }

-- the server once a query ran: what was done is kept
abbrev pub after_run : Server → QueryRequest → Query → Entry → Deed → Option Verdict → Server
after_run s q query entry deed verdict = record s {
  store = kept_by s.store q query deed.value;
  entries = slice_set s.entries q.txn.0 (Some (entry_after q entry deed verdict));
}

-- what was done is kept and answered
abbrev pub completes : Server → QueryRequest → Query → Entry → Deed → Option Verdict → Effect Server
completes s q query entry deed verdict =
    sends (after_run s q query entry deed verdict)
    (reply_letter s q entry (ran_as deed verdict) ∷ [])

-- an answer that ends the transaction is kept and given; the entry stays with its locks
abbrev pub answers_with : Server → QueryRequest → Entry → Answer → Effect Server
answers_with s q entry given =
    sends (with_entry s q.txn (Some (with_answer q entry given)))
    (reply_letter s q entry given ∷ [])

-- the verdict on what a query does, where it was asked with a staple: by the version that the server knows
abbrev pub verdict_at : Scenario → Server → QueryRequest → Deed → Option Verdict
verdict_at sc s q deed =
    option_and_then
    (λ (staple : Staple). option_map (λ (txn : Transaction). verdict_on sc s txn staple [] deed)
    (slice_get sc.txns q.txn.0))
    q.staple

-- where its proof is false a query does nothing
abbrev pub runs_by : Server → QueryRequest → Query → Entry → Deed → Option Verdict → Effect Server
runs_by s q query entry deed None = completes s q query entry deed None
runs_by s q query entry deed (Some verdict) =
    if is_none verdict.rule then answers_with s q entry (answer.Denied verdict)
    else completes s q query entry deed (Some verdict)

-- the version that the server knows of an administrator, if it is newer than the pinned one
abbrev pub newer_than : Server → AdminId → Version → Option Newer
newer_than s admin pin =
    if nat_lt pin.0 (version_known s admin).0
    then Some (record { admin = admin; used = pin; found = version_known s admin })
    else None

abbrev pub newer_known : Server → AdminId → Option Version → Option Newer
newer_known s admin pin = option_and_then (newer_than s admin) pin

-- the server that runs a query has learnt the version that is pinned for it, if one is
abbrev pub pinned : Scenario → Server → QueryRequest → Deed → Server
pinned sc s q deed = with_pin s (admin_of sc deed.item) q.pin

-- where the server knows a newer version than the pinned one, a query does nothing
abbrev pub runs_at : Scenario → Server → QueryRequest → Query → Entry → Deed → Option Newer
    → Effect Server
runs_at sc s q query entry deed (Some newer) = answers_with s q entry (answer.Newer newer)
runs_at sc s q query entry deed None =
    runs_by (pinned sc s q deed) q query entry deed (verdict_at sc (pinned sc s q deed) q deed)

-- a query that has its lock
abbrev pub runs : Scenario → Server → QueryRequest → Query → Entry → Deed → Effect Server
runs sc s q query entry deed =
    runs_at sc s q query entry deed (newer_known s (admin_of sc deed.item) q.pin)

-- ---- a query asks for its lock

-- the query is kept until its lock is granted
abbrev pub waits : Server → QueryRequest → Entry → Effect Server
waits s q entry = sends (with_entry s q.txn (Some (record entry { waiting = Some q }))) []

-- with its lock a query runs, and without it the query waits, or its transaction is to die, as an older one stands in
-- the way
abbrev pub by_lock : Scenario → Server → QueryRequest → Query → Entry → ℤ → Asked → Effect Server
by_lock sc s q query entry value Granted =
    runs sc s q query entry (deed_of q.query query value)
by_lock sc s q query entry value Waits = waits s q entry
by_lock sc s q query entry value (Dies other) = answers_with s q entry (answer.Died other)

-- the server once a query has asked for its lock, to read or to write its item at the age of its transaction
abbrev pub after_asking : Server → QueryRequest → Query → Entry → Server
after_asking s q query entry = record s {
  locks = after_request q.txn entry.age (item_of query) (action_of query) s.locks;
}

abbrev pub lock_answer : Server → QueryRequest → Query → Entry → Asked
lock_answer s q query entry =
    answer_at q.txn entry.age (item_of query) (action_of query) s.locks

-- a query has a value; a write without one is asked by nobody
abbrev pub asks_with : Scenario → Server → QueryRequest → Query → Entry → Option ℤ → Effect Server
asks_with sc s q query entry None = ignores s
asks_with sc s q query entry (Some value) =
    by_lock sc (after_asking s q query entry) q query entry value (lock_answer s q query entry)

-- there is such a query; one that is not there is asked by nobody
abbrev pub asks_query : Scenario → Server → QueryRequest → Entry → Option Query → Effect Server
asks_query sc s q entry None = ignores s
asks_query sc s q entry (Some query) = asks_with sc s q query entry (value_of_run s q query)

-- a query asks for its lock
abbrev pub asks : Scenario → Server → QueryRequest → Entry → Effect Server
asks sc s q entry = asks_query sc s q entry (asked_query sc q)

-- ---- which query may ask

-- the request names an epoch, and the entry was made in another
abbrev pub names_another_epoch : QueryRequest → Entry → Bool
names_another_epoch q entry =
    option_map_or (λ (epoch : ℕ). not (epoch == entry.epoch)) q.epoch false

-- the answer to a query goes to its coordinator
abbrev pub answers : Server → TxnId → DoneReply → Effect Server
answers s txn given = sends s (reply s txn (body.Done given) ∷ [])

-- what the transaction did here was lost in an earlier epoch
abbrev pub restarts : Server → QueryRequest → Effect Server
restarts s q = answers s q.txn (reply_of q s.epoch answer.Restarted)

-- the answer that a query was given
abbrev pub answer_to : Entry → ℕ → Option DoneReply
answer_to entry number = find (λ (given : DoneReply). given.query == number) entry.answers

-- an answered query is given the same answer again, one that comes while another waits is ignored, and a further one asks for its lock
abbrev pub on_unlost_query : Scenario → Server → QueryRequest → Entry → Option DoneReply
    → Effect Server
on_unlost_query sc s q entry (Some given) = answers s q.txn given
on_unlost_query sc s q entry None =
    if is_some entry.waiting then ignores s else asks sc s q entry

-- a query of a transaction that has an entry
abbrev pub on_query_again : Scenario → Server → QueryRequest → Entry → Effect Server
on_query_again sc s q entry =
    if is_some entry.ballot then ignores s
    else if names_another_epoch q entry then restarts s q
    else on_unlost_query sc s q entry (answer_to entry q.query)

-- a query of a transaction that is not settled. With an epoch that no entry has it is told that the server restarted
abbrev pub on_open_query : Scenario → Server → ℕ → QueryRequest → Option Entry → Effect Server
on_open_query sc s sent q None =
    if is_some q.epoch then restarts s q else asks sc s q (new_entry s (age_of q sent))
on_open_query sc s sent q (Some entry) = on_query_again sc s q entry

abbrev pub on_query : Scenario → Server → ℕ → QueryRequest → Effect Server
on_query sc s sent q =
    if is_open s q.txn then on_open_query sc s sent q (entry_at s q.txn) else ignores s

-- ---- Prepare

abbrev pub prepared_record : Server → PrepareRequest → Entry → List Verdict → Prepared
prepared_record s p entry verdicts =
    record {
      txn = p.txn;
      age = entry.age;
      epoch = entry.epoch;
      turn = p.turn;
      deeds = entry.deeds;
      verdicts = verdicts;
      told = s.store.known;
    }

abbrev pub ballot_of : Prepared → Ballot
ballot_of forced = record { turn = forced.turn; verdicts = forced.verdicts }

-- the vote YES of a ballot
abbrev pub yes_letter : Server → TxnId → Ballot → Letter
yes_letter s txn cast =
    reply s txn (body.Vote (record { txn = txn; turn = cast.turn; vote = vote.Yes cast.verdicts }))

-- the vote YES, which is forced before it is sent
abbrev pub casts : Server → Prepared → Entry → Effect Server
casts s forced entry =
    logs (with_entry s forced.txn (Some (record entry { ballot = Some (ballot_of forced) })))
    (log.Prepared forced)
    (yes_letter s forced.txn (ballot_of forced) ∷ [])

-- the vote YES with these verdicts
abbrev pub votes : Server → PrepareRequest → List Verdict → Entry → Effect Server
votes s p verdicts entry = casts s (prepared_record s p entry verdicts) entry

-- the vote on what a transaction did here: each deed is evaluated with the staple
abbrev pub votes_on : Scenario → Server → PrepareRequest → Entry → Staple → Transaction
    → Effect Server
votes_on sc s p entry staple txn =
    votes s p (verdicts_on sc s txn staple p.want entry.deeds) entry

-- the wanted versions are learnt before a transaction of the scenario is voted on
abbrev pub votes_with : Scenario → Server → PrepareRequest → Entry → Staple → Option Transaction
    → Effect Server
votes_with sc s p entry staple None = ignores s
votes_with sc s p entry staple (Some txn) = votes_on sc (with_wants s p.want) p entry staple txn

-- with a staple each deed is evaluated and voted on; without one there are no verdicts, as each deed was proved as it ran
abbrev pub evaluates : Scenario → Server → PrepareRequest → Entry → Option Staple → Effect Server
evaluates sc s p entry (Some staple) =
    votes_with sc s p entry staple (slice_get sc.txns p.txn.0)
evaluates sc s p entry None = votes (with_wants s p.want) p [] entry

-- ---- the end of a transaction

-- the store once a transaction has ended: a commit's writes are applied, and an abort's are dropped
abbrev pub ended_store : Contents → TxnId → Outcome → Contents
ended_store store txn Commit = after_apply store txn
ended_store store txn Abort = after_forget store txn

-- the outcome is forced before the letter is sent; the entry ends, and its locks are released
abbrev pub closes : Server → Settled → Letter → Effect Server
closes s settled letter =
    logs (record s {
      store = ended_store s.store settled.txn settled.outcome;
      settled = slice_set s.settled settled.txn.0 (Some settled);
      entries = slice_set s.entries settled.txn.0 None;
      locks = after_release settled.txn s.locks;
    })
    (log.Settled settled)
    (letter ∷ [])

-- what waits at the entry of an owner, and the server without it
abbrev pub waiting_at : Server → TxnId → Option QueryRequest
waiting_at s owner = option_and_then (λ (entry : Entry). entry.waiting) (entry_at s owner)

abbrev pub without_waiting : Server → TxnId → Server
without_waiting s owner =
    with_entry s owner
    (option_map (λ (entry : Entry). record entry { waiting = None }) (entry_at s owner))

-- a query that waited runs at its entry
abbrev pub resumes_with : Scenario → Server → QueryRequest → Query → Entry → Option ℤ → Effect Server
resumes_with sc s q query entry None = ignores s
resumes_with sc s q query entry (Some value) =
    runs sc s q query entry (deed_of q.query query value)

abbrev pub resumes_query : Scenario → Server → QueryRequest → Entry → Option Query → Effect Server
resumes_query sc s q entry None = ignores s
resumes_query sc s q entry (Some query) = resumes_with sc s q query entry (value_of_run s q query)

abbrev pub resumes_at : Scenario → Server → QueryRequest → Option Entry → Effect Server
resumes_at sc s q None = ignores s
resumes_at sc s q (Some entry) = resumes_query sc s q entry (asked_query sc q)

abbrev pub resumes_waiting : Scenario → Server → Option QueryRequest → Effect Server
resumes_waiting sc s None = ignores s
resumes_waiting sc s (Some q) = resumes_at sc s q (entry_at s q.txn)

-- an owner that was granted a lock goes on
abbrev pub resumes : Scenario → Server → TxnId → Effect Server
resumes sc s owner = resumes_waiting sc (without_waiting s owner) (waiting_at s owner)

-- a further effect on the state of a first; its letters come behind
abbrev pub followed_by : Effect Server → Effect Server → Effect Server
followed_by first further = record {
  state = further.state;
  reaction = record first.reaction {
    letters = first.reaction.letters ++ further.reaction.letters;
  };
}

-- the first grant is taken
abbrev pub taken_from : Server → Server
taken_from s = record s { locks = without_grant s.locks }

abbrev pub after_grant : Scenario → Effect Server → Grant → Effect Server
after_grant sc effect grant =
    followed_by effect (resumes sc (taken_from effect.state) grant.owner)

-- each grant is taken in its order
abbrev pub after_grants : Scenario → List Grant → Effect Server → Effect Server
after_grants sc [] effect = effect
after_grants sc (grant ∷ grants) effect = after_grants sc grants (after_grant sc effect grant)

-- what waited for the locks of the transaction goes on once it has ended
abbrev pub ends : Scenario → Server → Settled → Letter → Effect Server
ends sc s settled letter =
    after_grants sc (after_release settled.txn s.locks).grants (closes s settled letter)

-- ---- a vote NO

abbrev pub no_letter : Server → PrepareRequest → No → Letter
no_letter s p why =
    reply s p.txn (body.Vote (record { txn = p.txn; turn = p.turn; vote = vote.No why }))

abbrev pub refused_as : PrepareRequest → No → Settled
refused_as p why = record { txn = p.txn; outcome = Abort; why = Some why }

-- the server aborts the transaction by itself, and votes NO
abbrev pub refuses : Scenario → Server → PrepareRequest → No → Effect Server
refuses sc s p why = ends sc s (refused_as p why) (no_letter s p why)

-- ---- the vote

-- the vote where no write is outside its range. Where one is, the first such write by query is the reason of a vote NO
abbrev pub votes_in_range : Scenario → Server → PrepareRequest → Entry → Option (ℕ × ℤ)
    → Effect Server
votes_in_range sc s p entry None = evaluates sc s p entry p.staple
votes_in_range sc s p entry (Some outside) = refuses sc s p (no.Range outside.0 outside.1)

-- the vote on what is prepared: in the turn of its ballot the same vote is given again, in an earlier turn none, and in a later one anew
abbrev pub on_prepared : Scenario → Server → PrepareRequest → Entry → Ballot → Effect Server
on_prepared sc s p entry cast =
    if cast.turn == p.turn then sends s (yes_letter s p.txn cast ∷ [])
    else if nat_lt p.turn cast.turn then ignores s
    else evaluates sc s p entry p.staple

abbrev pub votes_at : Scenario → Server → PrepareRequest → Entry → Option Ballot → Effect Server
votes_at sc s p entry (Some cast) = on_prepared sc s p entry cast
votes_at sc s p entry None = votes_in_range sc s p entry (first_outside_in s.store p.txn)

-- a request to prepare a transaction that is not settled. Where no entry is of the epoch that it names, what was done here in that epoch
-- was lost, and the transaction is refused
abbrev pub asked_to_vote : Scenario → Server → PrepareRequest → Option Entry → Effect Server
asked_to_vote sc s p None = refuses sc s p no.Restarted
asked_to_vote sc s p (Some entry) =
    if not (entry.epoch == p.epoch) then refuses sc s p no.Restarted
    else votes_at sc s p entry entry.ballot

-- a vote NO is given again with its reason
abbrev pub on_refused : Server → PrepareRequest → Option No → Effect Server
on_refused s p None = ignores s
on_refused s p (Some why) = sends s (no_letter s p why ∷ [])

-- of one that was settled by a vote NO the same vote is given again
abbrev pub on_settled_prepare : Server → PrepareRequest → Option Settled → Effect Server
on_settled_prepare s p None = ignores s
on_settled_prepare s p (Some settled) = on_refused s p settled.why

abbrev pub on_prepare : Scenario → Server → PrepareRequest → Effect Server
on_prepare sc s p =
    if is_open s p.txn then asked_to_vote sc s p (entry_at s p.txn)
    else on_settled_prepare s p (option_flatten (slice_get s.settled p.txn.0))

-- ---- Decide

abbrev pub settled_as : DecideRequest → Settled
settled_as d = record { txn = d.txn; outcome = d.outcome; why = None }

-- the end of a transaction is acknowledged
abbrev pub ack_letter : Server → TxnId → Letter
ack_letter s txn = reply s txn (body.Ack (record { txn = txn }))

-- the outcome that is ordered is forced, and acknowledged
abbrev pub settles : Scenario → Server → DecideRequest → Effect Server
settles sc s d = ends sc s (settled_as d) (ack_letter s d.txn)

-- of one that is settled the Ack is given again
abbrev pub on_settled_decide : Server → DecideRequest → Option Settled → Effect Server
on_settled_decide s d (Some settled) = sends s (ack_letter s d.txn ∷ [])
on_settled_decide s d None = ignores s

abbrev pub on_decide : Scenario → Server → DecideRequest → Effect Server
on_decide sc s d =
    if is_open s d.txn then settles sc s d
    else on_settled_decide s d (option_flatten (slice_get s.settled d.txn.0))

-- ---- Validate

-- the verdicts on the queries so far; none where what was done here was lost
abbrev pub verdicts_letter : Server → ValidateRequest → Option (List Verdict) → Letter
verdicts_letter s v verdicts =
    reply s v.txn (body.Verdicts (record { txn = v.txn; turn = v.turn; verdicts = verdicts }))

abbrev pub shows : Server → ValidateRequest → Option (List Verdict) → Effect Server
shows s v verdicts = sends s (verdicts_letter s v verdicts ∷ [])

-- each deed is evaluated with the staple
abbrev pub shows_on : Scenario → Server → ValidateRequest → Entry → Transaction → Effect Server
shows_on sc s v entry txn = shows s v (Some (verdicts_on sc s txn v.staple v.want entry.deeds))

-- the wanted versions are learnt before what a transaction of the scenario did here is evaluated
abbrev pub shows_with : Scenario → Server → ValidateRequest → Entry → Option Transaction → Effect Server
shows_with sc s v entry None = ignores s
shows_with sc s v entry (Some txn) = shows_on sc (with_wants s v.want) v entry txn

-- a request to evaluate what a transaction did that is not settled. What is prepared is evaluated no more; where no entry is of the epoch
-- that it names, what was done here in that epoch was lost
abbrev pub asked_to_show : Scenario → Server → ValidateRequest → Option Entry → Effect Server
asked_to_show sc s v None = shows s v None
asked_to_show sc s v (Some entry) =
    if is_some entry.ballot then ignores s
    else if not (entry.epoch == v.epoch) then shows s v None
    else shows_with sc s v entry (slice_get sc.txns v.txn.0)

abbrev pub on_validate : Scenario → Server → ValidateRequest → Effect Server
on_validate sc s v =
    if is_open s v.txn then asked_to_show sc s v (entry_at s v.txn) else ignores s

-- ---- Push

abbrev pub told_of : PushNotice → Told
told_of push = record { admin = push.admin; version = push.version }

-- the version that is pushed is known from now on, and forced
abbrev pub learns : Server → PushNotice → Effect Server
learns s push =
    logs (record s { store = with_version s.store push.admin push.version })
    (log.Told (told_of push))
    []

-- a version that is not newer than the one known changes nothing
abbrev pub on_push : Server → PushNotice → Effect Server
on_push s push =
    if nat_lt (version_known s push.admin).0 push.version.0 then learns s push else ignores s

-- ---- all mails

abbrev pub on_body : Scenario → Server → ℕ → Body → Effect Server
on_body sc s sent (body.Query q) = on_query sc s sent q
on_body sc s sent (body.Prepare p) = on_prepare sc s p
on_body sc s sent (body.Decide d) = on_decide sc s d
on_body sc s sent (body.Validate v) = on_validate sc s v
on_body sc s sent (body.Push push) = on_push s push
on_body sc s sent _ = ignores s

abbrev pub server_row : Scenario → Server → Mail → Effect Server
server_row sc s mail = on_body sc s mail.sent mail.letter.body
