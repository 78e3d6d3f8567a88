-- Locks at a server, grants: what a receipt grants is taken before it ends, so that none is left.
use Rattle.std.proofs.Common.{List, None, Option, Some, [], ap, drop, is_none, is_some, nat_lt, not, refl, slice_get, ℕ, ℤ, ◌==◌, ◌∙◌, ◌∷◌, ◌≡◌}
use Rattle.std.specs.Option.{option_flatten}
use Rattle.tp_types.proofs.EachLemmas.{by_cond}
use Rattle.tp_types.specs.Effect.{Effect}
use Rattle.tp_model.specs.Deeds.{deed_of}
use Rattle.tp_model.specs.Words.{Body, DecideRequest, Deed, DoneReply, Letter, Mail, Newer, No, PrepareRequest, Query, QueryRequest, Scenario, Settled, Staple, Transaction, ValidateRequest, Verdict}
use Rattle.tp_model.specs.Words.body
use Rattle.tp_model.specs.Words.no
use Rattle.tp_lock.specs.Rule.{after_release}
use Rattle.tp_lock.specs.Table.{Table}
use Rattle.tp_lock.specs.declared.entry.Asked.{Asked}
use Rattle.tp_lock.specs.declared.entry.Asked.TheVariants as asked
use Rattle.tp_lock.specs.declared.entry.Grant.{Grant}
use Rattle.tp_server.specs.Row.{ack_letter, after_asking, after_grant, after_grants, age_of, answer_to, asked_query, asked_to_show, asked_to_vote, asks, asks_query, asks_with, by_lock, closes, ends, entry_at, evaluates, is_open, lock_answer, names_another_epoch, new_entry, newer_known, no_letter, on_body, on_open_query, on_refused, on_settled_decide, on_settled_prepare, on_unlost_query, pinned, refused_as, resumes_at, resumes_query, resumes_waiting, resumes_with, runs_at, runs_by, server_row, settled_as, shows_with, taken_from, value_of_run, verdict_at, votes_at, votes_in_range, votes_with, waiting_at, without_waiting}
use Rattle.tp_server.specs.State.{Server}
use Rattle.tp_server.specs.Verdicts.{admin_of, version_known}
use Rattle.tp_server.specs.declared.server.Ballot.{Ballot}
use Rattle.tp_server.specs.declared.server.Entry.{Entry}
use Rattle.tp_store.specs.Rule.{first_outside_in}

-- no grant is left
abbrev pub HasTaken : Effect Server → Type 0
HasTaken effect = effect.state.locks.grants ≡ []

-- ---- grants are taken

-- a query that has its lock leaves the locks
runs_keeps : (s : Server) (q : QueryRequest) (query : Query) (entry : Entry) (deed : Deed) (proof : Option Verdict) → (runs_by s q query entry deed proof).state.locks ≡ s.locks
runs_keeps s q query entry deed None = refl
runs_keeps s q query entry deed (Some verdict) = by_cond (λ (effect : Effect Server). effect.state.locks ≡ s.locks) (is_none verdict.rule) (λ fails. refl) (λ holds. refl)

-- so does one whose server knows a newer version than the pinned one
at_newer_keeps : (sc : Scenario) (s : Server) (q : QueryRequest) (query : Query) (entry : Entry) (deed : Deed) (found : Option Newer) → (runs_at sc s q query entry deed found).state.locks ≡ s.locks
at_newer_keeps sc s q query entry deed (Some newer) = refl
at_newer_keeps sc s q query entry deed None = runs_keeps (pinned sc s q deed) q query entry deed (verdict_at sc (pinned sc s q deed) q deed)

-- so does what goes on
with_keeps : (sc : Scenario) (s : Server) (q : QueryRequest) (query : Query) (entry : Entry) (value : Option ℤ) → (resumes_with sc s q query entry value).state.locks ≡ s.locks
with_keeps sc s q query entry None = refl
with_keeps sc s q query entry (Some value) = let deed = deed_of q.query query value in at_newer_keeps sc s q query entry deed (newer_known s (admin_of sc deed.item) q.pin)

query_keeps : (sc : Scenario) (s : Server) (q : QueryRequest) (entry : Entry) (query : Option Query) → (resumes_query sc s q entry query).state.locks ≡ s.locks
query_keeps sc s q entry None = refl
query_keeps sc s q entry (Some query) = with_keeps sc s q query entry (value_of_run s q query)

at_keeps : (sc : Scenario) (s : Server) (q : QueryRequest) (entry : Option Entry) → (resumes_at sc s q entry).state.locks ≡ s.locks
at_keeps sc s q None = refl
at_keeps sc s q (Some entry) = query_keeps sc s q entry (asked_query sc q)

waiting_keeps : (sc : Scenario) (s : Server) (waiting : Option QueryRequest) → (resumes_waiting sc s waiting).state.locks ≡ s.locks
waiting_keeps sc s None = refl
waiting_keeps sc s (Some q) = at_keeps sc s q (entry_at s q.txn)

-- each grant is taken in its turn
all_taken : (sc : Scenario) (grants : List Grant) (effect : Effect Server) → effect.state.locks.grants ≡ grants → HasTaken (after_grants sc grants effect)
all_taken sc [] effect e = e
all_taken sc (grant ∷ grants) effect e =
    let left = taken_from effect.state in
    all_taken sc grants (after_grant sc effect grant)
    (ap (λ (locks : Table). locks.grants) (waiting_keeps sc (without_waiting left grant.owner) (waiting_at left grant.owner)) ∙ ap (drop 1) e)

ends_taken : (sc : Scenario) (s : Server) (order : Settled) (letter : Letter) → HasTaken (ends sc s order letter)
ends_taken sc s order letter = all_taken sc (after_release order.txn s.locks).grants (closes s order letter) refl

-- ---- Query

lock_taken : (sc : Scenario) (s : Server) (q : QueryRequest) (query : Query) (entry : Entry) (value : ℤ) (given : Asked) → s.locks.grants ≡ [] → HasTaken (by_lock sc (after_asking s q query entry) q query entry value given)
lock_taken sc s q query entry value asked.Granted e =
    let now = after_asking s q query entry in
    let deed = deed_of q.query query value in
    ap (λ (locks : Table). locks.grants) (at_newer_keeps sc now q query entry deed (newer_known now (admin_of sc deed.item) q.pin)) ∙ e
lock_taken sc s q query entry value asked.Waits e = e
lock_taken sc s q query entry value (asked.Dies other) e = e

value_taken : (sc : Scenario) (s : Server) (q : QueryRequest) (query : Query) (entry : Entry) (value : Option ℤ) → s.locks.grants ≡ [] → HasTaken (asks_with sc s q query entry value)
value_taken sc s q query entry None e = e
value_taken sc s q query entry (Some value) e = lock_taken sc s q query entry value (lock_answer s q query entry) e

query_taken : (sc : Scenario) (s : Server) (q : QueryRequest) (entry : Entry) (query : Option Query) → s.locks.grants ≡ [] → HasTaken (asks_query sc s q entry query)
query_taken sc s q entry None e = e
query_taken sc s q entry (Some query) e = value_taken sc s q query entry (value_of_run s q query) e

asks_taken : (sc : Scenario) (s : Server) (q : QueryRequest) (entry : Entry) → s.locks.grants ≡ [] → HasTaken (asks sc s q entry)
asks_taken sc s q entry e = query_taken sc s q entry (asked_query sc q) e

unlost_taken : (sc : Scenario) (s : Server) (q : QueryRequest) (entry : Entry) (given : Option DoneReply) → s.locks.grants ≡ [] → HasTaken (on_unlost_query sc s q entry given)
unlost_taken sc s q entry (Some given) e = e
unlost_taken sc s q entry None e = by_cond HasTaken (is_some entry.waiting) (λ waits. e) (λ idle. asks_taken sc s q entry e)

open_taken : (sc : Scenario) (s : Server) (sent : ℕ) (q : QueryRequest) (entry : Option Entry) → s.locks.grants ≡ [] → HasTaken (on_open_query sc s sent q entry)
open_taken sc s sent q None e = by_cond HasTaken (is_some q.epoch) (λ named. e) (λ unnamed. asks_taken sc s q (new_entry s (age_of q sent)) e)
open_taken sc s sent q (Some entry) e =
    by_cond HasTaken (is_some entry.ballot) (λ voted. e)
    (λ unvoted. by_cond HasTaken (names_another_epoch q entry) (λ another. e) (λ same. unlost_taken sc s q entry (answer_to entry q.query) e))

-- ---- Prepare

votes_taken : (sc : Scenario) (s : Server) (p : PrepareRequest) (entry : Entry) (staple : Staple) (txn : Option Transaction) → s.locks.grants ≡ [] → HasTaken (votes_with sc s p entry staple txn)
votes_taken sc s p entry staple None e = e
votes_taken sc s p entry staple (Some txn) e = e

evaluates_taken : (sc : Scenario) (s : Server) (p : PrepareRequest) (entry : Entry) (staple : Option Staple) → s.locks.grants ≡ [] → HasTaken (evaluates sc s p entry staple)
evaluates_taken sc s p entry None e = e
evaluates_taken sc s p entry (Some staple) e = votes_taken sc s p entry staple (slice_get sc.txns p.txn.0) e

in_range_taken : (sc : Scenario) (s : Server) (p : PrepareRequest) (entry : Entry) (outside : Option (ℕ × ℤ)) → s.locks.grants ≡ [] → HasTaken (votes_in_range sc s p entry outside)
in_range_taken sc s p entry None e = evaluates_taken sc s p entry p.staple e
in_range_taken sc s p entry (Some outside) e = ends_taken sc s (refused_as p (no.Range outside.0 outside.1)) (no_letter s p (no.Range outside.0 outside.1))

votes_at_taken : (sc : Scenario) (s : Server) (p : PrepareRequest) (entry : Entry) (ballot : Option Ballot) → s.locks.grants ≡ [] → HasTaken (votes_at sc s p entry ballot)
votes_at_taken sc s p entry None e = in_range_taken sc s p entry (first_outside_in s.store p.txn) e
votes_at_taken sc s p entry (Some cast) e =
    by_cond HasTaken (cast.turn == p.turn) (λ again. e) (λ other. by_cond HasTaken (nat_lt p.turn cast.turn) (λ earlier. e) (λ later. evaluates_taken sc s p entry p.staple e))

to_vote_taken : (sc : Scenario) (s : Server) (p : PrepareRequest) (entry : Option Entry) → s.locks.grants ≡ [] → HasTaken (asked_to_vote sc s p entry)
to_vote_taken sc s p None e = ends_taken sc s (refused_as p no.Restarted) (no_letter s p no.Restarted)
to_vote_taken sc s p (Some entry) e =
    by_cond HasTaken (not (entry.epoch == p.epoch)) (λ another. ends_taken sc s (refused_as p no.Restarted) (no_letter s p no.Restarted)) (λ same. votes_at_taken sc s p entry entry.ballot e)

refused_taken : (s : Server) (p : PrepareRequest) (why : Option No) → s.locks.grants ≡ [] → HasTaken (on_refused s p why)
refused_taken s p None e = e
refused_taken s p (Some why) e = e

late_request_taken : (s : Server) (p : PrepareRequest) (settled : Option Settled) → s.locks.grants ≡ [] → HasTaken (on_settled_prepare s p settled)
late_request_taken s p None e = e
late_request_taken s p (Some settled) e = refused_taken s p settled.why e

-- ---- Decide

late_order_taken : (s : Server) (d : DecideRequest) (settled : Option Settled) → s.locks.grants ≡ [] → HasTaken (on_settled_decide s d settled)
late_order_taken s d None e = e
late_order_taken s d (Some settled) e = e

-- ---- Validate

shows_taken : (sc : Scenario) (s : Server) (v : ValidateRequest) (entry : Entry) (txn : Option Transaction) → s.locks.grants ≡ [] → HasTaken (shows_with sc s v entry txn)
shows_taken sc s v entry None e = e
shows_taken sc s v entry (Some txn) e = e

to_show_taken : (sc : Scenario) (s : Server) (v : ValidateRequest) (entry : Option Entry) → s.locks.grants ≡ [] → HasTaken (asked_to_show sc s v entry)
to_show_taken sc s v None e = e
to_show_taken sc s v (Some entry) e =
    by_cond HasTaken (is_some entry.ballot) (λ voted. e) (λ unvoted. by_cond HasTaken (not (entry.epoch == v.epoch)) (λ another. e) (λ same. shows_taken sc s v entry (slice_get sc.txns v.txn.0) e))

-- ---- all mails

said_taken : (sc : Scenario) (s : Server) (sent : ℕ) (said : Body) → s.locks.grants ≡ [] → HasTaken (on_body sc s sent said)
said_taken sc s sent (body.Query q) e = by_cond HasTaken (is_open s q.txn) (λ unsettled. open_taken sc s sent q (entry_at s q.txn) e) (λ settled. e)
said_taken sc s sent (body.Prepare p) e =
    by_cond HasTaken (is_open s p.txn) (λ unsettled. to_vote_taken sc s p (entry_at s p.txn) e) (λ settled. late_request_taken s p (option_flatten (slice_get s.settled p.txn.0)) e)
said_taken sc s sent (body.Decide d) e =
    by_cond HasTaken (is_open s d.txn) (λ unsettled. ends_taken sc s (settled_as d) (ack_letter s d.txn)) (λ settled. late_order_taken s d (option_flatten (slice_get s.settled d.txn.0)) e)
said_taken sc s sent (body.Validate v) e = by_cond HasTaken (is_open s v.txn) (λ unsettled. to_show_taken sc s v (entry_at s v.txn) e) (λ settled. e)
said_taken sc s sent (body.Push push) e = by_cond HasTaken (nat_lt (version_known s push.admin).0 push.version.0) (λ newer. e) (λ known. e)
said_taken sc s sent _ e = e

-- every row of a server: where none is left before it, none is left after it
pub server_row_taken : (sc : Scenario) (s : Server) (mail : Mail) → s.locks.grants ≡ [] → HasTaken (server_row sc s mail)
server_row_taken sc s mail e = said_taken sc s mail.sent mail.letter.body e
