-- What a grant does: whoever waited for it goes on, and the locks stay as they are.
use Rattle.std.proofs.Common.{List, None, Option, Some, [], ap, drop, is_none, refl, slice_get, sym, ℤ, ◌∙◌, ◌∷◌, ◌≡◌}
use Rattle.std.proofs.lemmas.Option.{same_Some}
use Rattle.tp_types.specs.Effect.{Effect, logs}
use Rattle.tp_types.proofs.EachLemmas.{by_cond}
use Rattle.tp_lock.specs.Rule.{first_grant}
use Rattle.tp_lock.specs.declared.entry.Grant.{Grant}
use Rattle.tp_model.specs.Deeds.{deed_of}
use Rattle.tp_model.specs.Words.{Deed, Letter, Newer, Query, QueryRequest, Record, Scenario, TxnId, Verdict}
use Rattle.tp_server.specs.Row.{after_grant, after_grants, asked_query, entry_at, newer_known, pinned, resumes, resumes_at, resumes_query, resumes_waiting, resumes_with, runs_at, runs_by, taken_from, value_of_run, verdict_at, waiting_at, without_waiting}
use Rattle.tp_server.specs.State.{Server}
use Rattle.tp_server.specs.Verdicts.{admin_of}
use Rattle.tp_server.specs.declared.server.Entry.{Entry}
use Rattle.tp_server.specs.mirrors.Entries.{Continues}

-- ---- locks

abbrev SameLocks : Server → Effect Server → Type 0
SameLocks s effect = effect.state.locks ≡ s.locks

runs_by_locks : (s : Server) (q : QueryRequest) (query : Query) (entry : Entry) (deed : Deed) (proof : Option Verdict) → SameLocks s (runs_by s q query entry deed proof)
runs_by_locks s q query entry deed None = refl
runs_by_locks s q query entry deed (Some verdict) = by_cond (SameLocks s) (is_none verdict.rule) (λ fails. refl) (λ holds. refl)

runs_at_locks : (sc : Scenario) (s : Server) (q : QueryRequest) (query : Query) (entry : Entry) (deed : Deed) (newer : Option Newer) → SameLocks s (runs_at sc s q query entry deed newer)
runs_at_locks sc s q query entry deed (Some newer) = refl
runs_at_locks sc s q query entry deed None = runs_by_locks (pinned sc s q deed) q query entry deed (verdict_at sc (pinned sc s q deed) q deed)

resumes_with_locks : (sc : Scenario) (s : Server) (q : QueryRequest) (query : Query) (entry : Entry) (value : Option ℤ) → SameLocks s (resumes_with sc s q query entry value)
resumes_with_locks sc s q query entry None = refl
resumes_with_locks sc s q query entry (Some value) =
    runs_at_locks sc s q query entry (deed_of q.query query value) (newer_known s (admin_of sc (deed_of q.query query value).item) q.pin)

resumes_query_locks : (sc : Scenario) (s : Server) (q : QueryRequest) (entry : Entry) (query : Option Query) → SameLocks s (resumes_query sc s q entry query)
resumes_query_locks sc s q entry None = refl
resumes_query_locks sc s q entry (Some query) = resumes_with_locks sc s q query entry (value_of_run s q query)

resumes_at_locks : (sc : Scenario) (s : Server) (q : QueryRequest) (entry : Option Entry) → SameLocks s (resumes_at sc s q entry)
resumes_at_locks sc s q None = refl
resumes_at_locks sc s q (Some entry) = resumes_query_locks sc s q entry (asked_query sc q)

resumes_waiting_locks : (sc : Scenario) (s : Server) (waiting : Option QueryRequest) → SameLocks s (resumes_waiting sc s waiting)
resumes_waiting_locks sc s None = refl
resumes_waiting_locks sc s (Some q) = resumes_at_locks sc s q (entry_at s q.txn)

resumes_locks : (sc : Scenario) (s : Server) (owner : TxnId) → SameLocks s (resumes sc s owner)
resumes_locks sc s owner = resumes_waiting_locks sc (without_waiting s owner) (waiting_at s owner)

-- ---- one grant

headed : (grants : List Grant) (grant : Grant) → slice_get grants 0 ≡ Some grant → grants ≡ grant ∷ drop 1 grants
headed [] grant e = absurd (cc)
headed (first ∷ rest) grant e = ap (λ (g : Grant). g ∷ rest) (same_Some first grant e)

granted_so : (sc : Scenario) (s now : Server) (grant : Grant) (forced : Record) (letters sent : List Letter) → Continues (resumes sc (taken_from s) grant.owner) now letters sent
    → logs now forced sent ≡ after_grant sc (logs s forced letters) grant
granted_so sc s now grant forced letters sent k =
    ap (λ (state : Server). logs state forced sent) k.state_is ∙ ap (λ (said : List Letter). logs (resumes sc (taken_from s) grant.owner).state forced said) k.letters_are

-- once a grant was taken, and what waited for it has gone on, the grants that are left lead to where all of them led
pub one_granted : (sc : Scenario) (s now : Server) (grant : Grant) (forced : Record) (letters sent : List Letter) → Continues (resumes sc (taken_from s) grant.owner) now letters sent → first_grant s.locks ≡ Some grant
    → after_grants sc now.locks.grants (logs now forced sent) ≡ after_grants sc s.locks.grants (logs s forced letters)
one_granted sc s now grant forced letters sent k first =
    let left : now.locks.grants ≡ drop 1 s.locks.grants = ap (λ (x : Server). x.locks.grants) k.state_is ∙ ap (λ locks. locks.grants) (resumes_locks sc (taken_from s) grant.owner) in
    ap (λ (grants : List Grant). after_grants sc grants (logs now forced sent)) left
    ∙ ap (after_grants sc (drop 1 s.locks.grants)) (granted_so sc s now grant forced letters sent k)
    ∙ ap (λ (grants : List Grant). after_grants sc grants (logs s forced letters)) (sym (headed s.locks.grants grant first))
