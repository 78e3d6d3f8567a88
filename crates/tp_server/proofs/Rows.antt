-- A server's row is walked once: what is shown of each of its outcomes holds of the row. A new outcome is a field here, and of each theorem's cases.
use Rattle.std.specs.Option.{option_flatten, option_map_or}
use Rattle.std.proofs.Common.{IfSome, List, None, Option, Some, [], ap, append-nil, drop, false, inl, inr, is_none, is_some, arith, length, nat_lt, not, option_and_then, option_map, refl, slice_get, slice_set, subst, sym, true, ℕ, ℤ, ◌++◌, ◌<◌, ◌==◌, ◌∙◌, ◌∷◌, ◌≡◌, ◌≤◌, ◌⊎◌}
use Rattle.std.proofs.lemmas.Bool.{eqb-false, not-false, not-true}
use Rattle.std.proofs.lemmas.Bool.Decides.{nat_tests}
use Rattle.std.proofs.lemmas.Option.{same_Some}
use Rattle.tp_types.specs.Effect.{Effect, ignores, sends}
use Rattle.tp_lock.specs.Rule.{after_release, first_grant, without_grant}
use Rattle.tp_lock.specs.Table.{Table}
use Rattle.tp_lock.specs.declared.entry.Asked.TheVariants as asked
use Rattle.tp_lock.specs.declared.entry.Asked.{Asked}
use Rattle.tp_lock.specs.declared.entry.Grant.{Grant}
use Rattle.tp_model.specs.Queries.{item_of}
use Rattle.tp_model.specs.Words.answer
use Rattle.tp_model.specs.Words.body
use Rattle.tp_model.specs.Words.no
use Rattle.tp_model.specs.Words.query
use Rattle.tp_model.specs.Words.{Body, DecideRequest, Deed, AdminId, Answer, DoneReply, Item, Letter, Mail, Newer, No, PrepareRequest, PushNotice, Query, QueryRequest, Record, Scenario, ServerId, Settled, Staple, Transaction, TxnId, ValidateRequest, Verdict, Version}
use Rattle.tp_types.proofs.EachLemmas.{by_cond, placed_emptied, placed_set, some_value}
use Rattle.tp_server.proofs.Tables.{placed_same, set_twice, written_over}
use Rattle.tp_model.specs.Deeds.{deed_of}
use Rattle.tp_types.specs.Each.{Each, EachPlaced}
use Rattle.tp_server.specs.Values.{HasValue}
use Rattle.tp_server.specs.declared.server.Ballot.{Ballot}
use Rattle.tp_server.specs.declared.server.Entry.{Entry}
use Rattle.tp_server.specs.Row.{ack_letter, after_asking, after_grant, after_grants, after_run, age_of, answer_to, answers, answers_with, asked_query, asked_to_show, asked_to_vote, asks, asks_query, asks_with, by_lock, closes, completes, ends, entry_after, entry_at, evaluates, followed_by, is_open, kept_by, learns, lock_answer, names_another_epoch, new_entry, newer_known, no_letter, on_body, on_open_query, on_refused, on_settled_decide, on_settled_prepare, on_unlost_query, on_validate, pinned, ran_as, refused_as, refuses, reply_letter, restarts, resumes_at, resumes_query, resumes_waiting, resumes_with, runs, runs_at, runs_by, server_row, settled_as, shows, shows_on, shows_with, taken_from, value_of_run, verdict_at, votes, votes_at, votes_in_range, votes_on, votes_with, waiting_at, waits, with_answer, with_entry, yes_letter}
use Rattle.tp_server.specs.State.{Server}
use Rattle.tp_server.specs.Verdicts.{admin_of, verdicts_on, version_known, with_pin, with_wants}
use Rattle.tp_store.specs.Contents.{Contents}
use Rattle.tp_store.specs.Rule.{first_outside_in, read_in}

-- ---- outcomes

-- the first query of a transaction, whose entry is made
pub record IsFirstHere (s : Server) (sent : ℕ) (q : QueryRequest) (entry : Entry) : Type 0 where
  pub no_entry : entry_at s q.txn ≡ None
  pub unnamed : is_some q.epoch ≡ false
  pub entry_is : entry ≡ new_entry s (age_of q sent)

-- a further query, which was not answered
pub record IsFurther (s : Server) (q : QueryRequest) (entry : Entry) : Type 0 where
  pub found : entry_at s q.txn ≡ Some entry
  pub unvoted : is_some entry.ballot ≡ false
  pub same_epoch : names_another_epoch q entry ≡ false
  pub unanswered : answer_to entry q.query ≡ None
  pub idle : is_some entry.waiting ≡ false

-- a query that asks for its lock when it comes
pub record IsAsking (sc : Scenario) (s : Server) (mail : Mail) (q : QueryRequest) (query : Query) (entry : Entry) (value : ℤ) : Type 0 where
  pub said_is : mail.letter.body ≡ body.Query q
  pub unsettled : is_open s q.txn ≡ true
  pub place : IsFirstHere s mail.sent q entry ⊎ IsFurther s q entry
  pub asked_is : asked_query sc q ≡ Some query
  pub value_is : value_of_run s q query ≡ Some value

-- a query has its lock, and is to run: the server knows no newer version than the pinned one, which it has learnt; and the query was asked
-- without a staple, or its proof is this and true
pub record IsRunning (sc : Scenario) (s : Server) (q : QueryRequest) (deed : Deed) (proof : Option Verdict) : Type 0 where
  pub none_newer : newer_known s (admin_of sc deed.item) q.pin ≡ None
  pub proof_is : verdict_at sc (pinned sc s q deed) q deed ≡ proof
  pub holds : IfSome proof (λ (verdict : Verdict). is_none verdict.rule ≡ false)

-- its proof is this and false
pub record IsDenied (sc : Scenario) (s : Server) (q : QueryRequest) (deed : Deed) (verdict : Verdict) : Type 0 where
  pub none_newer : newer_known s (admin_of sc deed.item) q.pin ≡ None
  pub proof_is : verdict_at sc (pinned sc s q deed) q deed ≡ Some verdict
  pub fails : is_none verdict.rule ≡ true

-- the first vote on an entry, which wrote no value outside its item's range
pub record IsFirstVote (s : Server) (p : PrepareRequest) (entry : Entry) : Type 0 where
  pub unvoted : entry.ballot ≡ None
  pub in_range : first_outside_in s.store p.txn ≡ None

-- a further vote, in a later turn
pub record IsLaterVote (p : PrepareRequest) (entry : Entry) : Type 0 where
  pub cast : Ballot
  pub ballot_is : entry.ballot ≡ Some cast
  pub later : cast.turn < p.turn

-- the verdicts of a vote: with a staple those on what a transaction of the scenario did here, and none without one
pub data IsEvaluated (sc : Scenario) (s : Server) (p : PrepareRequest) (entry : Entry) : List Verdict → Type 0 where
  Stapled : (staple : Staple) (txn : Transaction) → p.staple ≡ Some staple → slice_get sc.txns p.txn.0 ≡ Some txn → IsEvaluated sc s p entry (verdicts_on sc (with_wants s p.want) txn staple p.want entry.deeds)
  Unstapled : p.staple ≡ None → IsEvaluated sc s p entry []

-- a request to prepare an entry that may be voted on
pub record IsVote (sc : Scenario) (s : Server) (mail : Mail) (p : PrepareRequest) (entry : Entry) (verdicts : List Verdict) : Type 0 where
  pub said_is : mail.letter.body ≡ body.Prepare p
  pub unsettled : is_open s p.txn ≡ true
  pub found : entry_at s p.txn ≡ Some entry
  pub same_epoch : (entry.epoch == p.epoch) ≡ true
  pub place : IsFirstVote s p entry ⊎ IsLaterVote p entry
  pub evaluated : IsEvaluated sc s p entry verdicts

-- a request to evaluate what a transaction of the scenario did here, on which nothing was voted
pub record IsValidation (sc : Scenario) (s : Server) (mail : Mail) (v : ValidateRequest) (entry : Entry) (txn : Transaction) : Type 0 where
  pub said_is : mail.letter.body ≡ body.Validate v
  pub unsettled : is_open s v.txn ≡ true
  pub found : entry_at s v.txn ≡ Some entry
  pub unvoted : is_some entry.ballot ≡ false
  pub same_epoch : (entry.epoch == v.epoch) ≡ true
  pub declared : slice_get sc.txns v.txn.0 ≡ Some txn

-- such a request that names an epoch which no entry of the transaction has
pub record IsLostValidation (s : Server) (mail : Mail) (v : ValidateRequest) : Type 0 where
  pub said_is : mail.letter.body ≡ body.Validate v
  pub unsettled : is_open s v.txn ≡ true
  pub elsewhere : (entry : Entry) → entry_at s v.txn ≡ Some entry → entry.epoch ≡ v.epoch → ⊥

-- a request to prepare that was voted on
pub record IsVoteAgain (s : Server) (mail : Mail) (p : PrepareRequest) (entry : Entry) (cast : Ballot) : Type 0 where
  pub said_is : mail.letter.body ≡ body.Prepare p
  pub unsettled : is_open s p.txn ≡ true
  pub found : entry_at s p.txn ≡ Some entry
  pub same_epoch : (entry.epoch == p.epoch) ≡ true
  pub ballot_is : entry.ballot ≡ Some cast
  pub same_turn : (cast.turn == p.turn) ≡ true

-- a request to prepare an entry that wrote a value outside its item's range
pub record IsRefusal (s : Server) (mail : Mail) (p : PrepareRequest) (entry : Entry) (number : ℕ) (value : ℤ) : Type 0 where
  pub said_is : mail.letter.body ≡ body.Prepare p
  pub unsettled : is_open s p.txn ≡ true
  pub found : entry_at s p.txn ≡ Some entry
  pub same_epoch : (entry.epoch == p.epoch) ≡ true
  pub unvoted : entry.ballot ≡ None
  pub outside : first_outside_in s.store p.txn ≡ Some (number, value)

-- a request to prepare a transaction that is not settled, which names an epoch that no entry of it has
pub record IsLostVote (s : Server) (mail : Mail) (p : PrepareRequest) : Type 0 where
  pub said_is : mail.letter.body ≡ body.Prepare p
  pub unsettled : is_open s p.txn ≡ true
  pub elsewhere : (entry : Entry) → entry_at s p.txn ≡ Some entry → entry.epoch ≡ p.epoch → ⊥

-- a request to prepare a transaction that was settled by a vote NO
pub record IsLateRequest (s : Server) (mail : Mail) (p : PrepareRequest) (settled : Settled) (why : No) : Type 0 where
  pub said_is : mail.letter.body ≡ body.Prepare p
  pub found : option_flatten (slice_get s.settled p.txn.0) ≡ Some settled
  pub why_is : settled.why ≡ Some why

-- an order to end a transaction that is not settled
pub record IsOrder (s : Server) (mail : Mail) (d : DecideRequest) : Type 0 where
  pub said_is : mail.letter.body ≡ body.Decide d
  pub unsettled : is_open s d.txn ≡ true

-- a query of a transaction that is not settled, which names an epoch that no entry of it has
pub record IsLost (s : Server) (mail : Mail) (q : QueryRequest) : Type 0 where
  pub said_is : mail.letter.body ≡ body.Query q
  pub unsettled : is_open s q.txn ≡ true
  pub named : is_some q.epoch ≡ true
  pub elsewhere : (entry : Entry) → entry_at s q.txn ≡ Some entry → names_another_epoch q entry ≡ true

-- a query that the entry has answered
pub record IsAnswered (s : Server) (mail : Mail) (q : QueryRequest) (entry : Entry) (given : DoneReply) : Type 0 where
  pub said_is : mail.letter.body ≡ body.Query q
  pub found : entry_at s q.txn ≡ Some entry
  pub given_is : answer_to entry q.query ≡ Some given

-- an order to end a transaction that is settled
pub record IsLateOrder (s : Server) (mail : Mail) (d : DecideRequest) (settled : Settled) : Type 0 where
  pub said_is : mail.letter.body ≡ body.Decide d
  pub found : option_flatten (slice_get s.settled d.txn.0) ≡ Some settled

-- a version that is newer than the one known is pushed
pub record IsNews (s : Server) (mail : Mail) (push : PushNotice) : Type 0 where
  pub said_is : mail.letter.body ≡ body.Push push
  pub newer : nat_lt (version_known s push.admin).0 push.version.0 ≡ true

-- a query that waits at an entry, on which nothing was voted: it is of the entry's transaction, and comes after the queries that have run;
-- there is such a query, on an item of the server, and a write has its value
pub record IsRightWait (sc : Scenario) (at : ServerId) (n : ℕ) (entry : Entry) (q : QueryRequest) : Type 0 where
  pub own : q.txn.0 ≡ n
  pub exists : q.txn.0 < length sc.txns
  pub unvoted : entry.ballot ≡ None
  pub upto : Each (λ (deed : Deed). deed.query ≤ q.query) entry.deeds
  pub query : Query
  pub asked_is : asked_query sc q ≡ Some query
  pub on_item : (item_of query).0 < length sc.items
  pub item : Item
  pub item_is : slice_get sc.items (item_of query).0 ≡ Some item
  pub here : item.server ≡ at
  pub has_value : HasValue query q.value

abbrev pub WaitsRightly : Scenario → ServerId → ℕ → Entry → Type 0
WaitsRightly sc at n entry = IfSome entry.waiting (IsRightWait sc at n entry)

-- so does each query that waits at the server
abbrev pub AreRightWaits : Scenario → Server → Type 0
AreRightWaits sc s = EachPlaced (WaitsRightly sc s.server) s.entries

-- the entry without what waits at it
abbrev pub unwaiting : Entry → Entry
unwaiting entry = record entry { waiting = None }

-- a query that waited, and whose lock is the first of the grants that nobody has taken
pub record IsResumed (sc : Scenario) (at : ServerId) (s : Server) (grant : Grant) (q : QueryRequest) (query : Query) (entry : Entry) (value : ℤ) : Type 0 where
  pub server_is : s.server ≡ at
  pub granted : first_grant s.locks ≡ Some grant
  pub owner_is : grant.owner ≡ q.txn
  pub found : entry_at s q.txn ≡ Some entry
  pub waiting_is : entry.waiting ≡ Some q
  pub exists : q.txn.0 < length sc.txns
  pub unvoted : entry.ballot ≡ None
  pub upto : Each (λ (deed : Deed). deed.query ≤ q.query) entry.deeds
  pub on_item : (item_of query).0 < length sc.items
  pub item : Item
  pub item_is : slice_get sc.items (item_of query).0 ≡ Some item
  pub here : item.server ≡ at
  pub asked_is : asked_query sc q ≡ Some query
  pub value_is : value_of_run s q query ≡ Some value

-- what the query that waited does
abbrev pub resuming : Server → QueryRequest → Query → Entry → ℤ → Option Verdict → Effect Server
resuming s q query entry value proof = completes s q query (unwaiting entry) (deed_of q.query query value) proof

-- where it is given an answer that ends its transaction
abbrev pub refusing : Server → QueryRequest → Entry → Answer → Effect Server
refusing s q entry given = answers_with s q (unwaiting entry) given

-- an effect whose server has learnt this version as well, if it is given
abbrev pub with_learnt : Effect Server → AdminId → Option Version → Effect Server
with_learnt effect admin pin = record effect { state = with_pin effect.state admin pin }

-- an effect with other locks
abbrev pub with_locks : Effect Server → Table → Effect Server
with_locks effect locks = record effect { state = record effect.state { locks = locks } }

-- what is to be shown of the outcomes of a receipt: P of the effect, with the locks as they are
pub record LockCases (sc : Scenario) (s : Server) (mail : Mail) (P : Effect Server → Type 0) : Type 0 where
  pub ignored : P (ignores s)
  pub ran : (q : QueryRequest) (query : Query) (entry : Entry) (value : ℤ) (proof : Option Verdict) → IsAsking sc s mail q query entry value → lock_answer s q query entry ≡ asked.Granted
      → IsRunning sc s q (deed_of q.query query value) proof → P (completes (pinned sc (after_asking s q query entry) q (deed_of q.query query value)) q query entry (deed_of q.query query value) proof)
  pub denied : (q : QueryRequest) (query : Query) (entry : Entry) (value : ℤ) (verdict : Verdict) → IsAsking sc s mail q query entry value → lock_answer s q query entry ≡ asked.Granted
      → IsDenied sc s q (deed_of q.query query value) verdict → P (answers_with (pinned sc (after_asking s q query entry) q (deed_of q.query query value)) q entry (answer.Denied verdict))
  pub outdated : (q : QueryRequest) (query : Query) (entry : Entry) (value : ℤ) (newer : Newer) → IsAsking sc s mail q query entry value → lock_answer s q query entry ≡ asked.Granted
      → newer_known s (admin_of sc (item_of query)) q.pin ≡ Some newer → P (answers_with (after_asking s q query entry) q entry (answer.Newer newer))
  pub waited : (q : QueryRequest) (query : Query) (entry : Entry) (value : ℤ) → IsAsking sc s mail q query entry value → lock_answer s q query entry ≡ asked.Waits → P (waits (after_asking s q query entry) q entry)
  pub died : (q : QueryRequest) (query : Query) (entry : Entry) (value : ℤ) (other : TxnId) → IsAsking sc s mail q query entry value → lock_answer s q query entry ≡ asked.Dies other
      → P (answers_with (after_asking s q query entry) q entry (answer.Died other))
  pub restarted : (q : QueryRequest) → IsLost s mail q → P (restarts s q)
  pub answered : (q : QueryRequest) (entry : Entry) (given : DoneReply) → IsAnswered s mail q entry given → P (answers s q.txn given)
  pub voted : (p : PrepareRequest) (entry : Entry) (verdicts : List Verdict) → IsVote sc s mail p entry verdicts → P (votes (with_wants s p.want) p verdicts entry)
  pub shown : (v : ValidateRequest) (entry : Entry) (txn : Transaction) → IsValidation sc s mail v entry txn → P (shows_on sc (with_wants s v.want) v entry txn)
  pub lost_verdicts : (v : ValidateRequest) → IsLostValidation s mail v → P (shows s v None)
  pub voted_again : (p : PrepareRequest) (entry : Entry) (cast : Ballot) → IsVoteAgain s mail p entry cast → P (sends s (yes_letter s p.txn cast ∷ []))
  pub refused : (p : PrepareRequest) (entry : Entry) (number : ℕ) (value : ℤ) → IsRefusal s mail p entry number value → P (closes s (refused_as p (no.Range number value)) (no_letter s p (no.Range number value)))
  pub lost : (p : PrepareRequest) → IsLostVote s mail p → P (closes s (refused_as p no.Restarted) (no_letter s p no.Restarted))
  pub refused_again : (p : PrepareRequest) (settled : Settled) (why : No) → IsLateRequest s mail p settled why → P (sends s (no_letter s p why ∷ []))
  pub settled : (d : DecideRequest) → IsOrder s mail d → P (closes s (settled_as d) (ack_letter s d.txn))
  pub acknowledged : (d : DecideRequest) (settled : Settled) → IsLateOrder s mail d settled → P (sends s (ack_letter s d.txn ∷ []))
  pub pushed : (push : PushNotice) → IsNews s mail push → P (learns s push)
  -- a grant is taken, and nothing waited for it
  pub passed : (effect : Effect Server) (grant : Grant) → first_grant effect.state.locks ≡ Some grant → waiting_at effect.state grant.owner ≡ None → P effect → P (with_locks effect (without_grant effect.state.locks))
  -- a grant is taken, and what waited for it runs
  pub resumed : (effect : Effect Server) (grant : Grant) (q : QueryRequest) (query : Query) (entry : Entry) (value : ℤ) (proof : Option Verdict) → IsResumed sc s.server effect.state grant q query entry value
      → IsRunning sc effect.state q (deed_of q.query query value) proof → P effect
      → P (with_locks (followed_by effect (resuming (pinned sc effect.state q (deed_of q.query query value)) q query entry value proof)) (without_grant effect.state.locks))
  -- a grant is taken, and the proof of what waited for it is false
  pub resumed_denied : (effect : Effect Server) (grant : Grant) (q : QueryRequest) (query : Query) (entry : Entry) (value : ℤ) (verdict : Verdict) → IsResumed sc s.server effect.state grant q query entry value
      → IsDenied sc effect.state q (deed_of q.query query value) verdict → P effect
      → P (with_locks (followed_by effect (refusing (pinned sc effect.state q (deed_of q.query query value)) q entry (answer.Denied verdict))) (without_grant effect.state.locks))
  -- a grant is taken, and the server knows a newer version than what waited for it pins
  pub resumed_outdated : (effect : Effect Server) (grant : Grant) (q : QueryRequest) (query : Query) (entry : Entry) (value : ℤ) (newer : Newer) → IsResumed sc s.server effect.state grant q query entry value
      → newer_known effect.state (admin_of sc (item_of query)) q.pin ≡ Some newer → P effect → P (with_locks (followed_by effect (refusing effect.state q entry (answer.Newer newer))) (without_grant effect.state.locks))

-- what is to be shown of the outcomes of a receipt where P says nothing of locks, nor of a version that is learnt as a query pins it
pub record ServerCases (sc : Scenario) (s : Server) (mail : Mail) (P : Effect Server → Type 0) : Type 0 where
  pub relocked : (effect : Effect Server) (locks : Table) → P effect → P (with_locks effect locks)
  pub relearnt : (effect : Effect Server) (admin : AdminId) (pin : Option Version) → P effect → P (with_learnt effect admin pin)
  pub ignored : P (ignores s)
  pub ran : (q : QueryRequest) (query : Query) (entry : Entry) (value : ℤ) (proof : Option Verdict) → IsAsking sc s mail q query entry value → IsRunning sc s q (deed_of q.query query value) proof
      → P (completes s q query entry (deed_of q.query query value) proof)
  pub denied : (q : QueryRequest) (query : Query) (entry : Entry) (value : ℤ) (verdict : Verdict) → IsAsking sc s mail q query entry value → IsDenied sc s q (deed_of q.query query value) verdict
      → P (answers_with s q entry (answer.Denied verdict))
  pub outdated : (q : QueryRequest) (query : Query) (entry : Entry) (value : ℤ) (newer : Newer) → IsAsking sc s mail q query entry value → newer_known s (admin_of sc (item_of query)) q.pin ≡ Some newer
      → P (answers_with s q entry (answer.Newer newer))
  pub waited : (q : QueryRequest) (query : Query) (entry : Entry) (value : ℤ) → IsAsking sc s mail q query entry value → P (waits s q entry)
  pub died : (q : QueryRequest) (query : Query) (entry : Entry) (value : ℤ) (other : TxnId) → IsAsking sc s mail q query entry value → lock_answer s q query entry ≡ asked.Dies other → P (answers_with s q entry (answer.Died other))
  pub restarted : (q : QueryRequest) → IsLost s mail q → P (restarts s q)
  pub answered : (q : QueryRequest) (entry : Entry) (given : DoneReply) → IsAnswered s mail q entry given → P (answers s q.txn given)
  pub voted : (p : PrepareRequest) (entry : Entry) (verdicts : List Verdict) → IsVote sc s mail p entry verdicts → P (votes (with_wants s p.want) p verdicts entry)
  pub shown : (v : ValidateRequest) (entry : Entry) (txn : Transaction) → IsValidation sc s mail v entry txn → P (shows_on sc (with_wants s v.want) v entry txn)
  pub lost_verdicts : (v : ValidateRequest) → IsLostValidation s mail v → P (shows s v None)
  pub voted_again : (p : PrepareRequest) (entry : Entry) (cast : Ballot) → IsVoteAgain s mail p entry cast → P (sends s (yes_letter s p.txn cast ∷ []))
  pub refused : (p : PrepareRequest) (entry : Entry) (number : ℕ) (value : ℤ) → IsRefusal s mail p entry number value → P (closes s (refused_as p (no.Range number value)) (no_letter s p (no.Range number value)))
  pub lost : (p : PrepareRequest) → IsLostVote s mail p → P (closes s (refused_as p no.Restarted) (no_letter s p no.Restarted))
  pub refused_again : (p : PrepareRequest) (settled : Settled) (why : No) → IsLateRequest s mail p settled why → P (sends s (no_letter s p why ∷ []))
  pub settled : (d : DecideRequest) → IsOrder s mail d → P (closes s (settled_as d) (ack_letter s d.txn))
  pub acknowledged : (d : DecideRequest) (settled : Settled) → IsLateOrder s mail d settled → P (sends s (ack_letter s d.txn ∷ []))
  pub pushed : (push : PushNotice) → IsNews s mail push → P (learns s push)
  -- what waited runs, after what was done before
  pub resumed : (effect : Effect Server) (grant : Grant) (q : QueryRequest) (query : Query) (entry : Entry) (value : ℤ) (proof : Option Verdict) → IsResumed sc s.server effect.state grant q query entry value
      → IsRunning sc effect.state q (deed_of q.query query value) proof → P effect → P (followed_by effect (resuming effect.state q query entry value proof))
  -- the proof of what waited is false
  pub resumed_denied : (effect : Effect Server) (grant : Grant) (q : QueryRequest) (query : Query) (entry : Entry) (value : ℤ) (verdict : Verdict) → IsResumed sc s.server effect.state grant q query entry value
      → IsDenied sc effect.state q (deed_of q.query query value) verdict → P effect → P (followed_by effect (refusing effect.state q entry (answer.Denied verdict)))
  -- the server knows a newer version than what waited pins
  pub resumed_outdated : (effect : Effect Server) (grant : Grant) (q : QueryRequest) (query : Query) (entry : Entry) (value : ℤ) (newer : Newer) → IsResumed sc s.server effect.state grant q query entry value
      → newer_known effect.state (admin_of sc (item_of query)) q.pin ≡ Some newer → P effect → P (followed_by effect (refusing effect.state q entry (answer.Newer newer)))

-- a query that ran at a server which has learnt a version is one that ran, at a server that then learns it
run_learnt : (P : Effect Server → Type 0) (s : Server) (admin : AdminId) (pin : Option Version) (q : QueryRequest) (query : Query) (entry : Entry) (deed : Deed) (proof : Option Verdict) (letters : List Letter) (append : Option Record)
    → P (with_learnt (record { state = after_run s q query entry deed proof; reaction = record { append = append; letters = letters } }) admin pin)
    → P (record { state = after_run (with_pin s admin pin) q query entry deed proof; reaction = record { append = append; letters = letters } })
run_learnt P s admin None q (query.Read item into) entry deed proof letters append h = h
run_learnt P s admin None q (query.Write item expr) entry deed proof letters append h = h
run_learnt P s admin (Some version) q (query.Read item into) entry deed proof letters append h = h
run_learnt P s admin (Some version) q (query.Write item expr) entry deed proof letters append h = h

-- where P says nothing of locks
lock_cases : (sc : Scenario) (s : Server) (mail : Mail) (P : Effect Server → Type 0) → ServerCases sc s mail P → LockCases sc s mail P
lock_cases sc s mail P cases =
    record {
      ignored = cases.ignored;
      ran = λ q query entry value proof k granted running.
          let deed = deed_of q.query query value in
          let asked_here = after_asking s q query entry in
          run_learnt P asked_here (admin_of sc deed.item) q.pin q query entry deed proof (reply_letter s q entry (ran_as deed proof) ∷ []) None
          (cases.relearnt (completes asked_here q query entry deed proof) (admin_of sc deed.item) q.pin (cases.relocked (completes s q query entry deed proof) asked_here.locks (cases.ran q query entry value proof k running)));
      denied = λ q query entry value verdict k granted false_one.
          let deed = deed_of q.query query value in
          cases.relearnt (answers_with (after_asking s q query entry) q entry (answer.Denied verdict)) (admin_of sc deed.item) q.pin
          (cases.relocked (answers_with s q entry (answer.Denied verdict)) (after_asking s q query entry).locks (cases.denied q query entry value verdict k false_one));
      outdated = λ q query entry value newer k granted known. cases.relocked (answers_with s q entry (answer.Newer newer)) (after_asking s q query entry).locks (cases.outdated q query entry value newer k known);
      waited = λ q query entry value k waiting. cases.relocked (waits s q entry) (after_asking s q query entry).locks (cases.waited q query entry value k);
      died = λ q query entry value other k dying. cases.relocked (answers_with s q entry (answer.Died other)) (after_asking s q query entry).locks (cases.died q query entry value other k dying);
      restarted = cases.restarted;
      answered = cases.answered;
      voted = cases.voted;
      shown = cases.shown;
      lost_verdicts = cases.lost_verdicts;
      voted_again = cases.voted_again;
      refused = cases.refused;
      lost = cases.lost;
      refused_again = cases.refused_again;
      settled = cases.settled;
      acknowledged = cases.acknowledged;
      pushed = cases.pushed;
      passed = λ effect grant first nobody h. cases.relocked effect (without_grant effect.state.locks) h;
      resumed = λ effect grant q query entry value proof k running h.
          let deed = deed_of q.query query value in
          let ran : P (with_learnt (followed_by effect (resuming effect.state q query entry value proof)) (admin_of sc deed.item) q.pin) =
          cases.relearnt (followed_by effect (resuming effect.state q query entry value proof)) (admin_of sc deed.item) q.pin (cases.resumed effect grant q query entry value proof k running h) in
          let now : P (followed_by effect (resuming (pinned sc effect.state q deed) q query entry value proof)) =
          run_learnt P effect.state (admin_of sc deed.item) q.pin q query (unwaiting entry) deed proof (followed_by effect (resuming effect.state q query entry value proof)).reaction.letters effect.reaction.append ran in
          cases.relocked (followed_by effect (resuming (pinned sc effect.state q deed) q query entry value proof)) (without_grant effect.state.locks) now;
      resumed_denied = λ effect grant q query entry value verdict k false_one h.
          let deed = deed_of q.query query value in
          cases.relocked (followed_by effect (refusing (pinned sc effect.state q deed) q entry (answer.Denied verdict))) (without_grant effect.state.locks)
          (cases.relearnt (followed_by effect (refusing effect.state q entry (answer.Denied verdict))) (admin_of sc deed.item) q.pin (cases.resumed_denied effect grant q query entry value verdict k false_one h));
      resumed_outdated = λ effect grant q query entry value newer k known h.
          cases.relocked (followed_by effect (refusing effect.state q entry (answer.Newer newer))) (without_grant effect.state.locks) (cases.resumed_outdated effect grant q query entry value newer k known h);
    }

-- ---- grants

-- what is kept as grants are taken: P, whose server it is, that queries wait rightly, and which grants are left
record Taking (sc : Scenario) (at : ServerId) (P : Effect Server → Type 0) (grants : List Grant) (effect : Effect Server) : Type 0 where
  holds : P effect
  server_is : effect.state.server ≡ at
  waits : AreRightWaits sc effect.state
  left : effect.state.locks.grants ≡ grants

-- the effect with these entries and letters, after a grant was taken
abbrev taken_with : Effect Server → List (Option Entry) → List Letter → Effect Server
taken_with effect entries letters = record {
  state = record effect.state { entries = entries; locks = without_grant effect.state.locks };
  reaction = record effect.reaction { letters = letters };
}

-- a grant for which nothing waits
passes_by : (sc : Scenario) (s : Server) (mail : Mail) (P : Effect Server → Type 0) → LockCases sc s mail P → (effect : Effect Server) (grant : Grant) (grants : List Grant) (entry : Option Entry)
    → Taking sc s.server P (grant ∷ grants) effect → waiting_at effect.state grant.owner ≡ None → entry_at effect.state grant.owner ≡ entry
    → Taking sc s.server P grants (taken_with effect (slice_set effect.state.entries grant.owner.0 entry) (effect.reaction.letters ++ []))
passes_by sc s mail P cases effect grant grants entry h nobody found =
    let taken : Taking sc s.server P grants (taken_with effect effect.state.entries effect.reaction.letters) =
    record { holds = cases.passed effect grant (ap (λ (gs : List Grant). slice_get gs 0) h.left) nobody h.holds; server_is = h.server_is; waits = h.waits; left = ap (drop 1) h.left } in
    let lettered = subst (λ (letters : List Letter). Taking sc s.server P grants (taken_with effect effect.state.entries letters)) (sym (append-nil effect.reaction.letters)) taken in
    subst (λ (entries : List (Option Entry)). Taking sc s.server P grants (taken_with effect entries (effect.reaction.letters ++ []))) (sym (placed_same effect.state.entries grant.owner.0 entry found)) lettered

-- a write that waits has a value
value_there : (s : Server) (q : QueryRequest) (query : Query) → HasValue query q.value → (value : ℤ) × (value_of_run s q query ≡ Some value)
value_there s q (query.Read item into) h = (read_in s.store q.txn item, refl)
value_there s q (query.Write item expr) h = some_value q.value h

-- the server once a query was taken from its entry
abbrev resumable : Server → QueryRequest → Entry → Server
resumable s q entry = with_entry (taken_from s) q.txn (Some (unwaiting entry))

-- the effect after a query that waited: its entry becomes this, first and at once
noted_twice : (sc : Scenario) (at : ServerId) (P : Effect Server → Type 0) (grants : List Grant) (effect : Effect Server) (q : QueryRequest) (entry new : Entry) (store : Contents) (letter : Letter)
    → Taking sc at P grants (record {
      state = record effect.state { store = store; entries = slice_set effect.state.entries q.txn.0 (Some new); locks = without_grant effect.state.locks };
      reaction = record effect.reaction { letters = effect.reaction.letters ++ letter ∷ [] };
    })
    → Taking sc at P grants (record {
      state = record (resumable effect.state q entry) { store = store; entries = slice_set (resumable effect.state q entry).entries q.txn.0 (Some new) };
      reaction = record effect.reaction { letters = effect.reaction.letters ++ letter ∷ [] };
    })
noted_twice sc at P grants effect q entry new store letter h =
    subst (λ (entries : List (Option Entry)). Taking sc at P grants (record {
      state = record effect.state { store = store; entries = entries; locks = without_grant effect.state.locks };
      reaction = record effect.reaction { letters = effect.reaction.letters ++ letter ∷ [] };
    })) (sym (set_twice effect.state.entries q.txn.0 (Some (unwaiting entry)) (Some new))) h

-- what waited runs
resumed_by : (sc : Scenario) (s : Server) (mail : Mail) (P : Effect Server → Type 0) → LockCases sc s mail P → (effect : Effect Server) (grant : Grant) (grants : List Grant) (q : QueryRequest) (query : Query) (entry : Entry) (value : ℤ)
    (proof : Option Verdict) → Taking sc s.server P (grant ∷ grants) effect → IsResumed sc s.server effect.state grant q query entry value → IsRunning sc effect.state q (deed_of q.query query value) proof
    → Taking sc s.server P grants (followed_by effect (completes (pinned sc (resumable effect.state q entry) q (deed_of q.query query value)) q query (unwaiting entry) (deed_of q.query query value) proof))
resumed_by sc s mail P cases effect grant grants q query entry value proof h k running =
    let deed = deed_of q.query query value in
    let new = entry_after q (unwaiting entry) deed proof in
    noted_twice sc s.server P grants effect q entry new (kept_by (pinned sc effect.state q deed).store q query deed.value) (reply_letter effect.state q (unwaiting entry) (ran_as deed proof))
    (record { holds = cases.resumed effect grant q query entry value proof k running h.holds; server_is = h.server_is; waits = placed_set (WaitsRightly sc effect.state.server) effect.state.entries q.txn.0 new h.waits tt; left = ap (drop 1) h.left })

-- its proof is false
denied_by : (sc : Scenario) (s : Server) (mail : Mail) (P : Effect Server → Type 0) → LockCases sc s mail P → (effect : Effect Server) (grant : Grant) (grants : List Grant) (q : QueryRequest) (query : Query) (entry : Entry) (value : ℤ)
    (verdict : Verdict) → Taking sc s.server P (grant ∷ grants) effect → IsResumed sc s.server effect.state grant q query entry value → IsDenied sc effect.state q (deed_of q.query query value) verdict
    → Taking sc s.server P grants (followed_by effect (answers_with (pinned sc (resumable effect.state q entry) q (deed_of q.query query value)) q (unwaiting entry) (answer.Denied verdict)))
denied_by sc s mail P cases effect grant grants q query entry value verdict h k false_one =
    let deed = deed_of q.query query value in
    let new = with_answer q (unwaiting entry) (answer.Denied verdict) in
    noted_twice sc s.server P grants effect q entry new (pinned sc effect.state q deed).store (reply_letter effect.state q (unwaiting entry) (answer.Denied verdict))
    (record { holds = cases.resumed_denied effect grant q query entry value verdict k false_one h.holds; server_is = h.server_is; waits = placed_set (WaitsRightly sc effect.state.server) effect.state.entries q.txn.0 new h.waits tt; left = ap (drop 1) h.left })

-- or its server knows a newer version than it pins
outdated_by : (sc : Scenario) (s : Server) (mail : Mail) (P : Effect Server → Type 0) → LockCases sc s mail P → (effect : Effect Server) (grant : Grant) (grants : List Grant) (q : QueryRequest) (query : Query) (entry : Entry) (value : ℤ)
    (newer : Newer) → Taking sc s.server P (grant ∷ grants) effect → IsResumed sc s.server effect.state grant q query entry value → newer_known effect.state (admin_of sc (item_of query)) q.pin ≡ Some newer
    → Taking sc s.server P grants (followed_by effect (answers_with (resumable effect.state q entry) q (unwaiting entry) (answer.Newer newer)))
outdated_by sc s mail P cases effect grant grants q query entry value newer h k known =
    let new = with_answer q (unwaiting entry) (answer.Newer newer) in
    noted_twice sc s.server P grants effect q entry new effect.state.store (reply_letter effect.state q (unwaiting entry) (answer.Newer newer))
    (record { holds = cases.resumed_outdated effect grant q query entry value newer k known h.holds; server_is = h.server_is; waits = placed_set (WaitsRightly sc effect.state.server) effect.state.entries q.txn.0 new h.waits tt; left = ap (drop 1) h.left })

-- by the proof of what waited, if it has one
proved_by : (sc : Scenario) (s : Server) (mail : Mail) (P : Effect Server → Type 0) → LockCases sc s mail P → (effect : Effect Server) (grant : Grant) (grants : List Grant) (q : QueryRequest) (query : Query) (entry : Entry) (value : ℤ)
    (proof : Option Verdict) → Taking sc s.server P (grant ∷ grants) effect → IsResumed sc s.server effect.state grant q query entry value → newer_known effect.state (admin_of sc (item_of query)) q.pin ≡ None
    → verdict_at sc (pinned sc effect.state q (deed_of q.query query value)) q (deed_of q.query query value) ≡ proof
    → Taking sc s.server P grants (followed_by effect (runs_by (pinned sc (resumable effect.state q entry) q (deed_of q.query query value)) q query (unwaiting entry) (deed_of q.query query value) proof))
proved_by sc s mail P cases effect grant grants q query entry value None h k n v = resumed_by sc s mail P cases effect grant grants q query entry value None h k (record { none_newer = n; proof_is = v; holds = tt })
proved_by sc s mail P cases effect grant grants q query entry value (Some verdict) h k n v =
    by_cond (λ (further : Effect Server). Taking sc s.server P grants (followed_by effect further)) (is_none verdict.rule)
    (λ fails. denied_by sc s mail P cases effect grant grants q query entry value verdict h k (record { none_newer = n; proof_is = v; fails = fails }))
    (λ holds. resumed_by sc s mail P cases effect grant grants q query entry value (Some verdict) h k (record { none_newer = n; proof_is = v; holds = holds }))

-- by what its server knows, where it pins a version
known_by : (sc : Scenario) (s : Server) (mail : Mail) (P : Effect Server → Type 0) → LockCases sc s mail P → (effect : Effect Server) (grant : Grant) (grants : List Grant) (q : QueryRequest) (query : Query) (entry : Entry) (value : ℤ)
    (newer : Option Newer) → Taking sc s.server P (grant ∷ grants) effect → IsResumed sc s.server effect.state grant q query entry value → newer_known effect.state (admin_of sc (item_of query)) q.pin ≡ newer
    → Taking sc s.server P grants (followed_by effect (runs_at sc (resumable effect.state q entry) q query (unwaiting entry) (deed_of q.query query value) newer))
known_by sc s mail P cases effect grant grants q query entry value (Some newer) h k known = outdated_by sc s mail P cases effect grant grants q query entry value newer h k known
known_by sc s mail P cases effect grant grants q query entry value None h k known =
    proved_by sc s mail P cases effect grant grants q query entry value (verdict_at sc (pinned sc effect.state q (deed_of q.query query value)) q (deed_of q.query query value)) h k known refl

-- a grant for which a query waits
granted_by : (sc : Scenario) (s : Server) (mail : Mail) (P : Effect Server → Type 0) → LockCases sc s mail P → (effect : Effect Server) (grant : Grant) (grants : List Grant) (q : QueryRequest) (entry : Entry)
    → Taking sc s.server P (grant ∷ grants) effect → grant.owner ≡ q.txn → entry_at effect.state q.txn ≡ Some entry → entry.waiting ≡ Some q
    → Taking sc s.server P grants (followed_by effect (resumes_waiting sc (resumable effect.state q entry) (Some q)))
granted_by sc s mail P cases effect grant grants q entry h owner found waiting =
    let right : IsRightWait sc effect.state.server q.txn.0 entry q = subst (λ (w : Option QueryRequest). IfSome w (IsRightWait sc effect.state.server q.txn.0 entry)) waiting (h.waits q.txn.0 entry found) in
    let now = resumable effect.state q entry in
    let valued = value_there effect.state q right.query right.has_value in
    let first : first_grant effect.state.locks ≡ Some grant = ap (λ (gs : List Grant). slice_get gs 0) h.left in
    let twice : Taking sc s.server P grants (followed_by effect (runs sc now q right.query (unwaiting entry) (deed_of q.query right.query valued.0))) =
    known_by sc s mail P cases effect grant grants q right.query entry valued.0 (newer_known effect.state (admin_of sc (item_of right.query)) q.pin) h
    (record { server_is = h.server_is; granted = first; owner_is = owner; found = found; waiting_is = waiting; exists = right.exists; unvoted = right.unvoted; upto = right.upto; on_item = right.on_item; item = right.item; item_is = right.item_is; here = right.here ∙ h.server_is; asked_is = right.asked_is; value_is = valued.1 }) refl in
    let valued_so : Taking sc s.server P grants (followed_by effect (resumes_with sc now q right.query (unwaiting entry) (value_of_run now q right.query))) =
    subst (λ (v : Option ℤ). Taking sc s.server P grants (followed_by effect (resumes_with sc now q right.query (unwaiting entry) v))) (sym valued.1) twice in
    let asked_so : Taking sc s.server P grants (followed_by effect (resumes_query sc now q (unwaiting entry) (asked_query sc q))) =
    subst (λ (x : Option Query). Taking sc s.server P grants (followed_by effect (resumes_query sc now q (unwaiting entry) x))) (sym right.asked_is) valued_so in
    subst (λ (x : Option Entry). Taking sc s.server P grants (followed_by effect (resumes_at sc now q x))) (sym (written_over effect.state.entries q.txn.0 entry (Some (unwaiting entry)) found)) asked_so

-- a grant by what stands at its owner's entry
grant_by_entry : (sc : Scenario) (s : Server) (mail : Mail) (P : Effect Server → Type 0) → LockCases sc s mail P → (effect : Effect Server) (grant : Grant) (grants : List Grant) (found : Option Entry) (waiting : Option QueryRequest)
    → Taking sc s.server P (grant ∷ grants) effect → entry_at effect.state grant.owner ≡ found → option_and_then (λ (entry : Entry). entry.waiting) found ≡ waiting
    → Taking sc s.server P grants (followed_by effect (resumes_waiting sc (with_entry (taken_from effect.state) grant.owner (option_map unwaiting found)) waiting))
grant_by_entry sc s mail P cases effect grant grants None None h e w = passes_by sc s mail P cases effect grant grants None h (ap (option_and_then (λ (entry : Entry). entry.waiting)) e) e
grant_by_entry sc s mail P cases effect grant grants None (Some q) h e w = absurd (cc)
grant_by_entry sc s mail P cases effect grant grants (Some entry) None h e w =
    let same : Some (unwaiting entry) ≡ Some entry = ap (λ (x : Option QueryRequest). Some (record entry { waiting = x })) (sym w) in
    passes_by sc s mail P cases effect grant grants (Some (unwaiting entry)) h (ap (option_and_then (λ (found : Entry). found.waiting)) e ∙ w) (e ∙ sym same)
grant_by_entry sc s mail P cases effect grant grants (Some entry) (Some q) h e w =
    let right : IsRightWait sc effect.state.server grant.owner.0 entry q = subst (λ (x : Option QueryRequest). IfSome x (IsRightWait sc effect.state.server grant.owner.0 entry)) w (h.waits grant.owner.0 entry e) in
    let owner : grant.owner ≡ q.txn = ap (λ (n : ℕ). record { 0 = n }) (sym right.own) in
    subst (λ (t : TxnId). Taking sc s.server P grants (followed_by effect (resumes_waiting sc (with_entry (taken_from effect.state) t (Some (unwaiting entry))) (Some q)))) (sym owner)
    (granted_by sc s mail P cases effect grant grants q entry h owner (subst (λ (t : TxnId). entry_at effect.state t ≡ Some entry) owner e) w)

-- all grants, in their order
all_by : (sc : Scenario) (s : Server) (mail : Mail) (P : Effect Server → Type 0) → LockCases sc s mail P → (grants : List Grant) (effect : Effect Server) → Taking sc s.server P grants effect → P (after_grants sc grants effect)
all_by sc s mail P cases [] effect h = h.holds
all_by sc s mail P cases (grant ∷ grants) effect h =
    all_by sc s mail P cases grants (after_grant sc effect grant)
    (grant_by_entry sc s mail P cases effect grant grants (entry_at effect.state grant.owner) (waiting_at effect.state grant.owner) h refl refl)

-- the end of a transaction, and what goes on after it
ends_by : (sc : Scenario) (s : Server) (mail : Mail) (P : Effect Server → Type 0) → AreRightWaits sc s → LockCases sc s mail P → (order : Settled) (letter : Letter) → P (closes s order letter) → P (ends sc s order letter)
ends_by sc s mail P waits cases order letter h =
    all_by sc s mail P cases (after_release order.txn s.locks).grants (closes s order letter)
    (record { holds = h; server_is = refl; waits = placed_emptied (WaitsRightly sc s.server) s.entries order.txn.0 waits; left = refl })

-- ---- Query

-- by the proof of a query that has its lock, if it has one
ran_by : (sc : Scenario) (s : Server) (mail : Mail) (P : Effect Server → Type 0) → LockCases sc s mail P → (q : QueryRequest) (query : Query) (entry : Entry) (value : ℤ) (proof : Option Verdict) → IsAsking sc s mail q query entry value
    → lock_answer s q query entry ≡ asked.Granted → newer_known s (admin_of sc (item_of query)) q.pin ≡ None → verdict_at sc (pinned sc s q (deed_of q.query query value)) q (deed_of q.query query value) ≡ proof
    → P (runs_by (pinned sc (after_asking s q query entry) q (deed_of q.query query value)) q query entry (deed_of q.query query value) proof)
ran_by sc s mail P cases q query entry value None k e n v = cases.ran q query entry value None k e (record { none_newer = n; proof_is = v; holds = tt })
ran_by sc s mail P cases q query entry value (Some verdict) k e n v =
    by_cond P (is_none verdict.rule) (λ fails. cases.denied q query entry value verdict k e (record { none_newer = n; proof_is = v; fails = fails }))
    (λ holds. cases.ran q query entry value (Some verdict) k e (record { none_newer = n; proof_is = v; holds = holds }))

-- by what its server knows, where it pins a version
granted_now : (sc : Scenario) (s : Server) (mail : Mail) (P : Effect Server → Type 0) → LockCases sc s mail P → (q : QueryRequest) (query : Query) (entry : Entry) (value : ℤ) (newer : Option Newer) → IsAsking sc s mail q query entry value
    → lock_answer s q query entry ≡ asked.Granted → newer_known s (admin_of sc (item_of query)) q.pin ≡ newer → P (runs_at sc (after_asking s q query entry) q query entry (deed_of q.query query value) newer)
granted_now sc s mail P cases q query entry value (Some newer) k e known = cases.outdated q query entry value newer k e known
granted_now sc s mail P cases q query entry value None k e known = ran_by sc s mail P cases q query entry value (verdict_at sc (pinned sc s q (deed_of q.query query value)) q (deed_of q.query query value)) k e known refl

answered_by_lock : (sc : Scenario) (s : Server) (mail : Mail) (P : Effect Server → Type 0) → LockCases sc s mail P → (q : QueryRequest) (query : Query) (entry : Entry) (value : ℤ) (given : Asked) → IsAsking sc s mail q query entry value
    → lock_answer s q query entry ≡ given → P (by_lock sc (after_asking s q query entry) q query entry value given)
answered_by_lock sc s mail P cases q query entry value asked.Granted k e = granted_now sc s mail P cases q query entry value (newer_known s (admin_of sc (item_of query)) q.pin) k e refl
answered_by_lock sc s mail P cases q query entry value asked.Waits k e = cases.waited q query entry value k e
answered_by_lock sc s mail P cases q query entry value (asked.Dies other) k e = cases.died q query entry value other k e

valued_by : (sc : Scenario) (s : Server) (mail : Mail) (P : Effect Server → Type 0) → LockCases sc s mail P → (q : QueryRequest) (query : Query) (entry : Entry) (value : Option ℤ) → mail.letter.body ≡ body.Query q
    → is_open s q.txn ≡ true → IsFirstHere s mail.sent q entry ⊎ IsFurther s q entry → asked_query sc q ≡ Some query → value_of_run s q query ≡ value
    → P (asks_with sc s q query entry value)
valued_by sc s mail P cases q query entry None e unsettled place asked v = cases.ignored
valued_by sc s mail P cases q query entry (Some value) e unsettled place asked v =
    answered_by_lock sc s mail P cases q query entry value (lock_answer s q query entry) (record { said_is = e; unsettled = unsettled; place = place; asked_is = asked; value_is = v }) refl

queried_by : (sc : Scenario) (s : Server) (mail : Mail) (P : Effect Server → Type 0) → LockCases sc s mail P → (q : QueryRequest) (entry : Entry) (query : Option Query) → mail.letter.body ≡ body.Query q
    → is_open s q.txn ≡ true → IsFirstHere s mail.sent q entry ⊎ IsFurther s q entry → asked_query sc q ≡ query → P (asks_query sc s q entry query)
queried_by sc s mail P cases q entry None e unsettled place asked = cases.ignored
queried_by sc s mail P cases q entry (Some query) e unsettled place asked = valued_by sc s mail P cases q query entry (value_of_run s q query) e unsettled place asked refl

asks_by : (sc : Scenario) (s : Server) (mail : Mail) (P : Effect Server → Type 0) → LockCases sc s mail P → (q : QueryRequest) (entry : Entry) → mail.letter.body ≡ body.Query q
    → is_open s q.txn ≡ true → IsFirstHere s mail.sent q entry ⊎ IsFurther s q entry → P (asks sc s q entry)
asks_by sc s mail P cases q entry e unsettled place = queried_by sc s mail P cases q entry (asked_query sc q) e unsettled place refl

unlost_by : (sc : Scenario) (s : Server) (mail : Mail) (P : Effect Server → Type 0) → LockCases sc s mail P → (q : QueryRequest) (entry : Entry) (given : Option DoneReply) → mail.letter.body ≡ body.Query q
    → is_open s q.txn ≡ true → entry_at s q.txn ≡ Some entry → is_some entry.ballot ≡ false → names_another_epoch q entry ≡ false → answer_to entry q.query ≡ given → P (on_unlost_query sc s q entry given)
unlost_by sc s mail P cases q entry (Some given) e unsettled found unvoted same given_is = cases.answered q entry given (record { said_is = e; found = found; given_is = given_is })
unlost_by sc s mail P cases q entry None e unsettled found unvoted same given_is =
    by_cond P (is_some entry.waiting) (λ waits. cases.ignored)
    (λ idle. asks_by sc s mail P cases q entry e unsettled (inr (record { found = found; unvoted = unvoted; same_epoch = same; unanswered = given_is; idle = idle })))

another_named : (epoch : Option ℕ) (entry : Entry) → option_map_or (λ (named : ℕ). not (named == entry.epoch)) epoch false ≡ true → is_some epoch ≡ true
another_named (Some epoch) entry e = refl
another_named None entry e = absurd (cc)

on_open_query_by : (sc : Scenario) (s : Server) (mail : Mail) (P : Effect Server → Type 0) → LockCases sc s mail P → (q : QueryRequest) (entry : Option Entry) → mail.letter.body ≡ body.Query q
    → is_open s q.txn ≡ true → entry_at s q.txn ≡ entry → P (on_open_query sc s mail.sent q entry)
on_open_query_by sc s mail P cases q None e unsettled found =
    by_cond P (is_some q.epoch) (λ named. cases.restarted q (record { said_is = e; unsettled = unsettled; named = named; elsewhere = λ entry there. absurd (cc) }))
    (λ unnamed. asks_by sc s mail P cases q (new_entry s (age_of q mail.sent)) e unsettled (inl (record { no_entry = found; unnamed = unnamed; entry_is = refl })))
on_open_query_by sc s mail P cases q (Some entry) e unsettled found =
    by_cond P (is_some entry.ballot) (λ voted. cases.ignored)
    (λ unvoted. by_cond P (names_another_epoch q entry)
    (λ another. cases.restarted q (record {
      said_is = e;
      unsettled = unsettled;
      named = another_named q.epoch entry another;
      elsewhere = λ other there. subst (λ (x : Entry). names_another_epoch q x ≡ true) (same_Some entry other (sym found ∙ there)) another;
    }))
    (λ same. unlost_by sc s mail P cases q entry (answer_to entry q.query) e unsettled found unvoted same refl))

-- ---- Prepare

votes_by : (sc : Scenario) (s : Server) (mail : Mail) (P : Effect Server → Type 0) → LockCases sc s mail P → (p : PrepareRequest) (entry : Entry) (staple : Staple) (txn : Option Transaction) → slice_get sc.txns p.txn.0 ≡ txn → p.staple ≡ Some staple
    → ((verdicts : List Verdict) → IsEvaluated sc s p entry verdicts → IsVote sc s mail p entry verdicts) → P (votes_with sc s p entry staple txn)
votes_by sc s mail P cases p entry staple None there given vote_is = cases.ignored
votes_by sc s mail P cases p entry staple (Some declared) there given vote_is =
    cases.voted p entry (verdicts_on sc (with_wants s p.want) declared staple p.want entry.deeds) (vote_is (verdicts_on sc (with_wants s p.want) declared staple p.want entry.deeds) (Stapled staple declared given there))

evaluates_by : (sc : Scenario) (s : Server) (mail : Mail) (P : Effect Server → Type 0) → LockCases sc s mail P → (p : PrepareRequest) (entry : Entry) (staple : Option Staple) → p.staple ≡ staple
    → ((verdicts : List Verdict) → IsEvaluated sc s p entry verdicts → IsVote sc s mail p entry verdicts) → P (evaluates sc s p entry staple)
evaluates_by sc s mail P cases p entry None given vote_is = cases.voted p entry [] (vote_is [] (Unstapled given))
evaluates_by sc s mail P cases p entry (Some staple) given vote_is = votes_by sc s mail P cases p entry staple (slice_get sc.txns p.txn.0) refl given vote_is

-- what is evaluated is voted on
evaluated_by : (sc : Scenario) (s : Server) (mail : Mail) (P : Effect Server → Type 0) → LockCases sc s mail P → (p : PrepareRequest) (entry : Entry) → mail.letter.body ≡ body.Prepare p
    → is_open s p.txn ≡ true → entry_at s p.txn ≡ Some entry → (entry.epoch == p.epoch) ≡ true → IsFirstVote s p entry ⊎ IsLaterVote p entry → P (evaluates sc s p entry p.staple)
evaluated_by sc s mail P cases p entry e unsettled found same place =
    evaluates_by sc s mail P cases p entry p.staple refl (λ verdicts evaluated. record { said_is = e; unsettled = unsettled; found = found; same_epoch = same; place = place; evaluated = evaluated })

in_range_by : (sc : Scenario) (s : Server) (mail : Mail) (P : Effect Server → Type 0) → AreRightWaits sc s → LockCases sc s mail P → (p : PrepareRequest) (entry : Entry) (outside : Option (ℕ × ℤ)) → mail.letter.body ≡ body.Prepare p
    → is_open s p.txn ≡ true → entry_at s p.txn ≡ Some entry → (entry.epoch == p.epoch) ≡ true → entry.ballot ≡ None → first_outside_in s.store p.txn ≡ outside → P (votes_in_range sc s p entry outside)
in_range_by sc s mail P waits cases p entry None e unsettled found same unvoted in_range =
    evaluated_by sc s mail P cases p entry e unsettled found same (inl (record { unvoted = unvoted; in_range = in_range }))
in_range_by sc s mail P waits cases p entry (Some outside) e unsettled found same unvoted first =
    ends_by sc s mail P waits cases (refused_as p (no.Range outside.0 outside.1)) (no_letter s p (no.Range outside.0 outside.1))
    (cases.refused p entry outside.0 outside.1 (record { said_is = e; unsettled = unsettled; found = found; same_epoch = same; unvoted = unvoted; outside = first }))

later_turn : (p : PrepareRequest) (cast : Ballot) → (cast.turn == p.turn) ≡ false → nat_lt p.turn cast.turn ≡ false → cast.turn < p.turn
later_turn p cast other not_earlier = grind (arith, nat_tests)

votes_at_by : (sc : Scenario) (s : Server) (mail : Mail) (P : Effect Server → Type 0) → AreRightWaits sc s → LockCases sc s mail P → (p : PrepareRequest) (entry : Entry) (ballot : Option Ballot) → mail.letter.body ≡ body.Prepare p
    → is_open s p.txn ≡ true → entry_at s p.txn ≡ Some entry → (entry.epoch == p.epoch) ≡ true → entry.ballot ≡ ballot → P (votes_at sc s p entry ballot)
votes_at_by sc s mail P waits cases p entry None e unsettled found same unvoted = in_range_by sc s mail P waits cases p entry (first_outside_in s.store p.txn) e unsettled found same unvoted refl
votes_at_by sc s mail P waits cases p entry (Some cast) e unsettled found same ballot_is =
    by_cond P (cast.turn == p.turn)
    (λ again. cases.voted_again p entry cast (record { said_is = e; unsettled = unsettled; found = found; same_epoch = same; ballot_is = ballot_is; same_turn = again }))
    (λ other. by_cond P (nat_lt p.turn cast.turn) (λ earlier. cases.ignored)
    (λ not_earlier. evaluated_by sc s mail P cases p entry e unsettled found same (inr (record { cast = cast; ballot_is = ballot_is; later = later_turn p cast other not_earlier }))))

-- what was done in the epoch that is named was lost
lost_by : (sc : Scenario) (s : Server) (mail : Mail) (P : Effect Server → Type 0) → AreRightWaits sc s → LockCases sc s mail P → (p : PrepareRequest) → IsLostVote s mail p → P (refuses sc s p no.Restarted)
lost_by sc s mail P waits cases p k = ends_by sc s mail P waits cases (refused_as p no.Restarted) (no_letter s p no.Restarted) (cases.lost p k)

asked_to_vote_by : (sc : Scenario) (s : Server) (mail : Mail) (P : Effect Server → Type 0) → AreRightWaits sc s → LockCases sc s mail P → (p : PrepareRequest) (entry : Option Entry) → mail.letter.body ≡ body.Prepare p
    → is_open s p.txn ≡ true → entry_at s p.txn ≡ entry → P (asked_to_vote sc s p entry)
asked_to_vote_by sc s mail P waits cases p None e unsettled found = lost_by sc s mail P waits cases p (record { said_is = e; unsettled = unsettled; elsewhere = λ entry there same. cc })
asked_to_vote_by sc s mail P waits cases p (Some entry) e unsettled found =
    by_cond P (not (entry.epoch == p.epoch))
    (λ another. lost_by sc s mail P waits cases p
    (record {
      said_is = e;
      unsettled = unsettled;
      elsewhere = λ other there same. eqb-false entry.epoch p.epoch (not-true (entry.epoch == p.epoch) another) (ap (λ (x : Entry). x.epoch) (same_Some entry other (sym found ∙ there)) ∙ same);
    }))
    (λ same. votes_at_by sc s mail P waits cases p entry entry.ballot e unsettled found (not-false (entry.epoch == p.epoch) same) refl)

refused_by : (sc : Scenario) (s : Server) (mail : Mail) (P : Effect Server → Type 0) → LockCases sc s mail P → (p : PrepareRequest) (settled : Settled) (why : Option No) → mail.letter.body ≡ body.Prepare p
    → option_flatten (slice_get s.settled p.txn.0) ≡ Some settled → settled.why ≡ why → P (on_refused s p why)
refused_by sc s mail P cases p settled None e found why_is = cases.ignored
refused_by sc s mail P cases p settled (Some why) e found why_is = cases.refused_again p settled why (record { said_is = e; found = found; why_is = why_is })

late_request_by : (sc : Scenario) (s : Server) (mail : Mail) (P : Effect Server → Type 0) → LockCases sc s mail P → (p : PrepareRequest) (settled : Option Settled) → mail.letter.body ≡ body.Prepare p
    → option_flatten (slice_get s.settled p.txn.0) ≡ settled → P (on_settled_prepare s p settled)
late_request_by sc s mail P cases p None e found = cases.ignored
late_request_by sc s mail P cases p (Some settled) e found = refused_by sc s mail P cases p settled settled.why e found refl

-- ---- Validate

shown_by : (sc : Scenario) (s : Server) (mail : Mail) (P : Effect Server → Type 0) → LockCases sc s mail P → (v : ValidateRequest) (entry : Entry) (txn : Option Transaction) → slice_get sc.txns v.txn.0 ≡ txn
    → ((declared : Transaction) → slice_get sc.txns v.txn.0 ≡ Some declared → IsValidation sc s mail v entry declared) → P (shows_with sc s v entry txn)
shown_by sc s mail P cases v entry None e shown_is = cases.ignored
shown_by sc s mail P cases v entry (Some declared) e shown_is = cases.shown v entry declared (shown_is declared e)

asked_to_show_by : (sc : Scenario) (s : Server) (mail : Mail) (P : Effect Server → Type 0) → LockCases sc s mail P → (v : ValidateRequest) (entry : Option Entry) → mail.letter.body ≡ body.Validate v
    → is_open s v.txn ≡ true → entry_at s v.txn ≡ entry → P (asked_to_show sc s v entry)
asked_to_show_by sc s mail P cases v None e unsettled found = cases.lost_verdicts v (record { said_is = e; unsettled = unsettled; elsewhere = λ entry there same. cc })
asked_to_show_by sc s mail P cases v (Some entry) e unsettled found =
    by_cond P (is_some entry.ballot) (λ voted. cases.ignored)
    (λ unvoted. by_cond P (not (entry.epoch == v.epoch))
    (λ another. cases.lost_verdicts v
    (record {
      said_is = e;
      unsettled = unsettled;
      elsewhere = λ other there same. eqb-false entry.epoch v.epoch (not-true (entry.epoch == v.epoch) another) (ap (λ (x : Entry). x.epoch) (same_Some entry other (sym found ∙ there)) ∙ same);
    }))
    (λ same. shown_by sc s mail P cases v entry (slice_get sc.txns v.txn.0) refl
    (λ declared there. record { said_is = e; unsettled = unsettled; found = found; unvoted = unvoted; same_epoch = not-false (entry.epoch == v.epoch) same; declared = there })))

-- ---- Decide

late_by : (sc : Scenario) (s : Server) (mail : Mail) (P : Effect Server → Type 0) → LockCases sc s mail P → (d : DecideRequest) (settled : Option Settled) → mail.letter.body ≡ body.Decide d
    → option_flatten (slice_get s.settled d.txn.0) ≡ settled → P (on_settled_decide s d settled)
late_by sc s mail P cases d (Some settled) e found = cases.acknowledged d settled (record { said_is = e; found = found })
late_by sc s mail P cases d None e found = cases.ignored

-- ---- all mails

said_by : (sc : Scenario) (s : Server) (mail : Mail) (P : Effect Server → Type 0) → AreRightWaits sc s → LockCases sc s mail P → (said : Body) → mail.letter.body ≡ said → P (on_body sc s mail.sent said)
said_by sc s mail P waits cases (body.Query q) e =
    by_cond P (is_open s q.txn) (λ unsettled. on_open_query_by sc s mail P cases q (entry_at s q.txn) e unsettled refl) (λ settled. cases.ignored)
said_by sc s mail P waits cases (body.Prepare p) e =
    by_cond P (is_open s p.txn) (λ unsettled. asked_to_vote_by sc s mail P waits cases p (entry_at s p.txn) e unsettled refl)
    (λ settled. late_request_by sc s mail P cases p (option_flatten (slice_get s.settled p.txn.0)) e refl)
said_by sc s mail P waits cases (body.Validate v) e =
    by_cond P (is_open s v.txn) (λ unsettled. asked_to_show_by sc s mail P cases v (entry_at s v.txn) e unsettled refl) (λ settled. cases.ignored)
said_by sc s mail P waits cases (body.Decide d) e =
    by_cond P (is_open s d.txn) (λ unsettled. ends_by sc s mail P waits cases (settled_as d) (ack_letter s d.txn) (cases.settled d (record { said_is = e; unsettled = unsettled }))) (λ settled. late_by sc s mail P cases d (option_flatten (slice_get s.settled d.txn.0)) e refl)
said_by sc s mail P waits cases (body.Push push) e = by_cond P (nat_lt (version_known s push.admin).0 push.version.0) (λ newer. cases.pushed push (record { said_is = e; newer = newer })) (λ known. cases.ignored)
said_by sc s mail P waits cases _ e = cases.ignored

-- what is shown of each outcome holds of the row
pub server_by_locks : (sc : Scenario) (s : Server) (mail : Mail) (P : Effect Server → Type 0) → AreRightWaits sc s → LockCases sc s mail P → P (server_row sc s mail)
server_by_locks sc s mail P waits cases = said_by sc s mail P waits cases mail.letter.body refl

-- also where nothing is said of locks
pub server_by : (sc : Scenario) (s : Server) (mail : Mail) (P : Effect Server → Type 0) → AreRightWaits sc s → ServerCases sc s mail P → P (server_row sc s mail)
server_by sc s mail P waits cases = server_by_locks sc s mail P waits (lock_cases sc s mail P cases)
