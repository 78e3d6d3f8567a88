-- What of a server's store a row keeps.
use Rattle.std.proofs.Common.{Bool, List, [], false, if◌then◌else◌, nat_le, refl, replicate, slice_get, slice_set, subst, suc, sym, true, unwrap_or, zero, ℕ, ℤ, ◌∷◌, ◌≡◌}
use Rattle.tp_model.specs.Queries.{item_of}
use Rattle.tp_model.specs.Words.outcome
use Rattle.tp_model.specs.Words.query
use Rattle.tp_model.specs.Words.{AdminId, Outcome, Query, QueryRequest, TxnId, Version}
use Rattle.tp_types.specs.Each.{Each}
use Rattle.tp_server.specs.Row.{ended_store, kept_by}
use Rattle.tp_server.specs.Verdicts.{with_versions}
use Rattle.tp_store.specs.Contents.{Contents}
use Rattle.tp_store.specs.Rule.{with_version, with_writes, writes_of}
use Rattle.tp_store.specs.Writes.{is_on, values_after, with_write}
use Rattle.tp_store.specs.declared.writes.TentativeWrite.{TentativeWrite}

-- a query that runs keeps bounds, values and known versions
pub kept_bounds : (store : Contents) (q : QueryRequest) (query : Query) (value : ℤ) → (kept_by store q query value).bounds ≡ store.bounds
kept_bounds store q (query.Read item into) value = refl
kept_bounds store q (query.Write item expr) value = refl

pub kept_values : (store : Contents) (q : QueryRequest) (query : Query) (value : ℤ) → (kept_by store q query value).values ≡ store.values
kept_values store q (query.Read item into) value = refl
kept_values store q (query.Write item expr) value = refl

pub kept_known : (store : Contents) (q : QueryRequest) (query : Query) (value : ℤ) → (kept_by store q query value).known ≡ store.known
kept_known store q (query.Read item into) value = refl
kept_known store q (query.Write item expr) value = refl

-- the end of a transaction keeps bounds and known versions
pub ended_bounds : (store : Contents) (txn : TxnId) (ended : Outcome) → (ended_store store txn ended).bounds ≡ store.bounds
ended_bounds store txn outcome.Commit = refl
ended_bounds store txn outcome.Abort = refl

pub ended_known : (store : Contents) (txn : TxnId) (ended : Outcome) → (ended_store store txn ended).known ≡ store.known
ended_known store txn outcome.Commit = refl
ended_known store txn outcome.Abort = refl

-- versions that are learnt change what is known alone
pub learnt_is : (store : Contents) (want : List (AdminId × Version)) → with_versions store want ≡ record store { known = (with_versions store want).known }
learnt_is store [] = refl
learnt_is store (wanted ∷ want) = learnt_is (with_version store wanted.0 wanted.1) want

-- ---- what each of the writes that are kept is

-- every write that is kept of a transaction is so
abbrev pub EachWrite : (TxnId → TentativeWrite → Type 0) → Contents → Type 0
EachWrite P store = (txn : TxnId) → Each (P txn) (writes_of store txn)

listed : (P : ℕ → TentativeWrite → Type 0) (table : List (List TentativeWrite)) (n m : ℕ) (writes : List TentativeWrite) → ((k : ℕ) → Each (P k) (unwrap_or (slice_get table k) [])) → Each (P n) writes
    → Each (P m) (unwrap_or (slice_get (slice_set table n writes) m) [])
listed P [] n m writes h new = tt
listed P (first ∷ table) zero zero writes h new = new
listed P (first ∷ table) zero (suc m) writes h new = h (suc m)
listed P (first ∷ table) (suc n) zero writes h new = h zero
listed P (first ∷ table) (suc n) (suc m) writes h new = listed (λ k. P (suc k)) table n m writes (λ k. h (suc k)) new

pub writes_set_in_basics : (P : TxnId → TentativeWrite → Type 0) (store : Contents) (txn : TxnId) (writes : List TentativeWrite) → EachWrite P store → Each (P txn) writes → EachWrite P (with_writes store txn writes)
writes_set_in_basics P store txn writes h new other = listed (λ k write. P (record { 0 = k }) write) store.tentative txn.0 other.0 writes (λ k. h (record { 0 = k })) new

placed : (P : TentativeWrite → Type 0) (kept : TentativeWrite) (writes : List TentativeWrite) (write : TentativeWrite) (same latest : Bool) → Each P (kept ∷ writes) → P write → Each P (with_write writes write)
    → Each P (if same then (if latest then write else kept) ∷ writes else kept ∷ with_write writes write)
placed P kept writes write true true h new rest = (new, h.1)
placed P kept writes write true false h new rest = h
placed P kept writes write false latest h new rest = (h.0, rest)

pub one_more_in_basics : (P : TentativeWrite → Type 0) (writes : List TentativeWrite) (write : TentativeWrite) → Each P writes → P write → Each P (with_write writes write)
one_more_in_basics P [] write h new = (new, tt)
one_more_in_basics P (kept ∷ writes) write h new = placed P kept writes write (is_on write.item kept) (nat_le kept.query write.query) h new (one_more_in_basics P writes write h.1 new)

-- so it is with the write of a query that runs
pub kept_each : (P : TxnId → TentativeWrite → Type 0) (store : Contents) (q : QueryRequest) (query : Query) (value : ℤ) → EachWrite P store
    → P q.txn (record { query = q.query; item = item_of query; value = value }) → EachWrite P (kept_by store q query value)
kept_each P store q (query.Read item into) value h new = h
kept_each P store q (query.Write item expr) value h new =
    writes_set_in_basics P store q.txn (with_write (writes_of store q.txn) (record { query = q.query; item = item; value = value })) h
    (one_more_in_basics (P q.txn) (writes_of store q.txn) (record { query = q.query; item = item; value = value }) (h q.txn) new)

-- and when a transaction ends
pub ended_each : (P : TxnId → TentativeWrite → Type 0) (store : Contents) (txn : TxnId) (ended : Outcome) → EachWrite P store → EachWrite P (ended_store store txn ended)
ended_each P store txn outcome.Commit h = writes_set_in_basics P (record store { values = values_after store.values (writes_of store txn) }) txn [] h tt
ended_each P store txn outcome.Abort h = writes_set_in_basics P store txn [] h tt

-- and when versions are learnt
pub learnt_each : (P : TxnId → TentativeWrite → Type 0) (store : Contents) (want : List (AdminId × Version)) → EachWrite P store → EachWrite P (with_versions store want)
learnt_each P store [] h = h
learnt_each P store (wanted ∷ want) h = learnt_each P (with_version store wanted.0 wanted.1) want h

none_written : (P : TentativeWrite → Type 0) (count n : ℕ) → Each P (unwrap_or (slice_get (replicate {A = List TentativeWrite} count []) n) [])
none_written P zero n = tt
none_written P (suc count) zero = tt
none_written P (suc count) (suc n) = none_written P count n

pub opened_each : (P : TxnId → TentativeWrite → Type 0) (store : Contents) (count : ℕ) → store.tentative ≡ replicate count [] → EachWrite P store
opened_each P store count e txn = subst (λ (table : List (List TentativeWrite)). Each (P txn) (unwrap_or (slice_get table txn.0) [])) (sym e) (none_written (P txn) count txn.0)
