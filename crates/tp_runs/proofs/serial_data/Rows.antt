-- Serial data, the server's rows: what an entry has read are the server's values, and a settled commit applies what its entry has done.
use Rattle.std.proofs.Common.{Bool, IfSome, List, None, Option, Some, [], ap, arith, false, is_some, length, map, refl, slice_get, slice_set, subst, sym, true, unwrap_or, ℕ, ℤ, ⊎_elim, if◌then◌else◌, ◌++◌, ◌<◌, ◌∙◌, ◌∷◌, ◌≡◌, ◌⊎◌}
use Rattle.std.proofs.lemmas.Bool.{eqb-true}
use Rattle.std.proofs.lemmas.List.{length-set}
use Rattle.std.proofs.lemmas.Option.{same_Some}
use Rattle.std.specs.Option.{option_flatten, option_map_or}
use Rattle.tp_types.proofs.EachLemmas.{missing, placed_emptied_others, placed_set, set_here}
use Rattle.tp_types.specs.Each.{EachPlaced}
use Rattle.tp_types.specs.Effect.{Effect, sends}
use Rattle.tp_model.specs.Deeds.{deed_of}
use Rattle.tp_model.specs.Ids.{same_txn}
use Rattle.tp_model.specs.Queries.{item_of}
use Rattle.tp_model.specs.SerialRun.{with_deeds}
use Rattle.tp_model.specs.Words.{AdminId, Answer, Body, Deed, Letter, Mail, Outcome, PrepareRequest, Prepared, PushNotice, Query, QueryRequest, Record, Scenario, ServerId, Settled, TxnId, Verdict, Version}
use Rattle.tp_model.specs.Words.answer
use Rattle.tp_model.specs.Words.body
use Rattle.tp_model.specs.Words.log
use Rattle.tp_model.specs.Words.outcome
use Rattle.tp_model.specs.Words.query
use Rattle.tp_lock.specs.declared.entry.Grant.{Grant}
use Rattle.tp_recover.specs.Log.{values_by}
use Rattle.tp_server.proofs.Rows.{AreRightWaits, IsAsking, IsFirstHere, IsFirstVote, IsFurther, IsLaterVote, IsResumed, IsVote, ServerCases, refusing, resuming, server_by, unwaiting}
use Rattle.tp_server.proofs.Tables.{written_over}
use Rattle.tp_server.specs.Row.{ack_letter, answer_to, asked_query, closes, completes, ended_store, entry_after, entry_at, followed_by, is_open, kept_by, learns, no_letter, refused_as, reply, reply_of, server_row, settled_as, tentative_write, value_of_run, verdicts_letter, votes, with_answer, with_entry, yes_letter}
use Rattle.tp_server.specs.State.{Server}
use Rattle.tp_server.specs.Verdicts.{with_versions, with_wants}
use Rattle.tp_server.specs.declared.server.Ballot.{Ballot}
use Rattle.tp_server.specs.declared.server.Entry.{Entry}
use Rattle.tp_store.specs.Contents.{Contents}
use Rattle.tp_store.specs.Rule.{bounds_of, read_in, writes_of}
use Rattle.tp_store.specs.Writes.{with_write}
use Rattle.tp_store.specs.declared.writes.TentativeWrite.{TentativeWrite}
use Rattle.tp_runs.proofs.basics.Folds.{set_elsewhere}
use Rattle.tp_runs.proofs.basics.Ids.{same_txn_is}
use Rattle.tp_runs.proofs.basics.Logs.{Prepares}
use Rattle.tp_runs.proofs.basics.Stores.{ended_bounds, kept_bounds, kept_values, learnt_is}
use Rattle.tp_runs.proofs.deeds.Lengths.{all_length}
use Rattle.tp_runs.proofs.deeds.Ranges.{AreTested}
use Rattle.tp_runs.proofs.deeds.Reads.{AreClear, IsReadFrom, ReadsFrom, reads_clear, reads_more}
use Rattle.tp_runs.proofs.deeds.Stores.{HasPlace}
use Rattle.tp_runs.proofs.deeds.Tentative.{AreLast, AreUpTo, inside_tested, none_last, own_read, read_last, write_last}
use Rattle.tp_server.specs.Booted.{write_of}

-- ---- what is kept

-- the reads of each entry are those of the values
abbrev pub AllRead : List ℤ → List (Option Entry) → Type 0
AllRead values entries = EachPlaced (λ (n : ℕ) (entry : Entry). ReadsFrom values entry.deeds) entries

abbrev pub entry_deeds : Entry → List Deed
entry_deeds entry = entry.deeds

-- what a transaction has done at the server
abbrev pub deeds_in : Option Entry → List Deed
deeds_in entry = option_map_or entry_deeds entry []

-- the values after a record: a settled commit applies what its transaction has done
abbrev pub values_with : Server → Option Record → List ℤ
values_with s (Some (log.Settled r)) = values_by s.store.values r.outcome (deeds_in (entry_at s r.txn))
values_with s _ = s.store.values

-- a server has a place for each item and each transaction, the items' ranges, and of each transaction the last writes; what its entries have
-- read are its values
pub record ServerReads (sc : Scenario) (s : Server) : Type 0 where
  pub reads : AllRead s.store.values s.entries
  pub items_are : length s.store.values ≡ length sc.items
  pub bounds_are : s.store.bounds ≡ map bounds_of sc.items
  pub places : length s.store.tentative ≡ length sc.txns
  pub entry_places : length s.entries ≡ length sc.txns
  pub last : (txn : TxnId) → AreLast (writes_of s.store txn) (deeds_in (entry_at s txn))

-- what is forced as a vote YES was tested against the ranges of items
abbrev pub RecordTested : Scenario → Record → Type 0
RecordTested sc kept = Prepares (λ (txn : TxnId) (p : Prepared). AreTested sc p.deeds) kept

-- a vote YES is of a transaction that was asked to prepare and is not settled, on what its entry has done; M says what was asked
pub record IsVoteHere (M : TxnId → Type 0) (s : Server) (p : Prepared) : Type 0 where
  pub asked : M p.txn
  pub unsettled : is_open s p.txn ≡ true
  pub entry : Entry
  pub found : entry_at s p.txn ≡ Some entry
  pub deeds_are : p.deeds ≡ entry.deeds

abbrev pub RecordHere : (TxnId → Type 0) → Server → Record → Type 0
RecordHere M s (log.Prepared p) = IsVoteHere M s p
RecordHere M s _ = Unit {0}

-- an act of a server
pub record ServerKeeps (sc : Scenario) (M : TxnId → Type 0) (s : Server) (effect : Effect Server) : Type 0 where
  pub reads : ServerReads sc effect.state
  pub forces : IfSome effect.reaction.append (RecordTested sc)
  pub votes : IfSome effect.reaction.append (RecordHere M s)
  pub values : effect.state.store.values ≡ values_with s effect.reaction.append

-- what one transaction has done is clear of what others have
abbrev pub IsClearOfOthers : Server → TxnId → Type 0
IsClearOfOthers s txn = (n : ℕ) (other : Entry) → option_flatten (slice_get s.entries n) ≡ Some other → (n ≡ txn.0 → ⊥) → AreClear (deeds_in (entry_at s txn)) other.deeds

-- a query comes after those that have run
pub record QueryRises (sc : Scenario) (s : Server) (q : QueryRequest) : Type 0 where
  pub exists : q.txn.0 < length sc.txns
  pub on_item : (query : Query) → asked_query sc q ≡ Some query → (item_of query).0 < length sc.items
  pub rises : (entry : Entry) → entry_at s q.txn ≡ Some entry → is_some entry.ballot ≡ false → answer_to entry q.query ≡ None → AreUpTo q.query entry.deeds

-- an order to end is of a transaction that is clear of the others
pub record OrderClear (sc : Scenario) (s : Server) (txn : TxnId) : Type 0 where
  pub exists : txn.0 < length sc.txns
  pub clear : IsClearOfOthers s txn

-- a request to prepare was made, and may end its transaction; what was voted on was tested against the ranges of items
pub record PrepareClear (sc : Scenario) (M : TxnId → Type 0) (s : Server) (txn : TxnId) : Type 0 where
  pub made : M txn
  pub tested : (entry : Entry) (cast : Ballot) → entry_at s txn ≡ Some entry → entry.ballot ≡ Some cast → AreTested sc entry.deeds
  pub ends : OrderClear sc s txn

-- what is known of a mail to the server; M says which requests were made
abbrev pub RequestClear : Scenario → (TxnId → Type 0) → Server → Body → Type 0
RequestClear sc M s (body.Query q) = QueryRises sc s q
RequestClear sc M s (body.Decide d) = OrderClear sc s d.txn
RequestClear sc M s (body.Prepare p) = PrepareClear sc M s p.txn
RequestClear sc M s _ = Unit {0}

-- ---- rows

-- an act that keeps all entries and forces nothing
stays_keep : (sc : Scenario) (M : TxnId → Type 0) (s : Server) (letters : List Letter) → ServerReads sc s → ServerKeeps sc M s (sends s letters)
stays_keep sc M s letters h = record { reads = h; forces = tt; votes = tt; values = refl }

-- ---- tables

entry_set : (s : Server) (txn other : TxnId) (entry : Option Entry) (b : Bool) → same_txn txn other ≡ b → txn.0 < length s.entries → option_flatten (slice_get (slice_set s.entries txn.0 entry) other.0) ≡ (if b then entry else entry_at s other)
entry_set s txn other entry true e within =
    let is : txn.0 ≡ other.0 = eqb-true txn.0 other.0 e in
    ap (λ (n : ℕ). option_flatten (slice_get (slice_set s.entries txn.0 entry) n)) (sym is) ∙ ap option_flatten (set_here s.entries txn.0 entry within)
entry_set s txn other entry false e within = ap option_flatten (set_elsewhere s.entries txn.0 other.0 entry e)

writes_set_in_serial_data : (store : Contents) (txn other : TxnId) (writes : List TentativeWrite) (b : Bool) → same_txn txn other ≡ b → txn.0 < length store.tentative
    → unwrap_or (slice_get (slice_set store.tentative txn.0 writes) other.0) [] ≡ (if b then writes else writes_of store other)
writes_set_in_serial_data store txn other writes true e within =
    let is : txn.0 ≡ other.0 = eqb-true txn.0 other.0 e in
    ap (λ (n : ℕ). unwrap_or (slice_get (slice_set store.tentative txn.0 writes) n) []) (sym is) ∙ ap (λ (x : Option (List TentativeWrite)). unwrap_or x []) (set_here store.tentative txn.0 writes within)
writes_set_in_serial_data store txn other writes false e within = ap (λ (x : Option (List TentativeWrite)). unwrap_or x []) (set_elsewhere store.tentative txn.0 other.0 writes e)

-- one transaction's writes and entry change
last_set : (s : Server) (txn other : TxnId) (writes : List TentativeWrite) (entry : Option Entry) (b : Bool) → same_txn txn other ≡ b → txn.0 < length s.store.tentative → txn.0 < length s.entries
    → AreLast writes (deeds_in entry) → AreLast (writes_of s.store other) (deeds_in (entry_at s other))
    → AreLast (unwrap_or (slice_get (slice_set s.store.tentative txn.0 writes) other.0) []) (deeds_in (option_flatten (slice_get (slice_set s.entries txn.0 entry) other.0)))
last_set s txn other writes entry true e kept within new old =
    subst (λ (found : Option Entry). AreLast (unwrap_or (slice_get (slice_set s.store.tentative txn.0 writes) other.0) []) (deeds_in found)) (sym (entry_set s txn other entry true e within))
    (subst (λ (ws : List TentativeWrite). AreLast ws (deeds_in entry)) (sym (writes_set_in_serial_data s.store txn other writes true e kept)) new)
last_set s txn other writes entry false e kept within new old =
    subst (λ (found : Option Entry). AreLast (unwrap_or (slice_get (slice_set s.store.tentative txn.0 writes) other.0) []) (deeds_in found)) (sym (entry_set s txn other entry false e within))
    (subst (λ (ws : List TentativeWrite). AreLast ws (deeds_in (entry_at s other))) (sym (writes_set_in_serial_data s.store txn other writes false e kept)) old)

-- ---- Query

-- what an entry at which a query runs has done so far
pub record IsRunAt (sc : Scenario) (s : Server) (q : QueryRequest) (entry : Entry) : Type 0 where
  pub reads : ReadsFrom s.store.values entry.deeds
  pub last : AreLast (writes_of s.store q.txn) entry.deeds
  pub upto : AreUpTo q.query entry.deeds

pub run_at : (sc : Scenario) (s : Server) (mail : Mail) (q : QueryRequest) (query : Query) (entry : Entry) (value : ℤ) → ServerReads sc s → QueryRises sc s q → IsAsking sc s mail q query entry value → IsRunAt sc s q entry
run_at sc s mail q query entry value h m k =
    ⊎_elim
    (λ (first : IsFirstHere s mail.sent q entry).
    let none : entry.deeds ≡ [] = ap (λ (e : Entry). e.deeds) first.entry_is in
    record {
      reads = subst (ReadsFrom s.store.values) (sym none) tt;
      last = subst (AreLast (writes_of s.store q.txn)) (ap deeds_in first.no_entry ∙ sym none) (h.last q.txn);
      upto = subst (AreUpTo q.query) (sym none) tt;
    })
    (λ (further : IsFurther s q entry).
    record {
      reads = h.reads q.txn.0 entry further.found;
      last = subst (λ (found : Option Entry). AreLast (writes_of s.store q.txn) (deeds_in found)) further.found (h.last q.txn);
      upto = m.rises entry further.found further.unvoted further.unanswered;
    }) k.place

-- a read has the value that its item has by then
run_reads : (sc : Scenario) (s : Server) (q : QueryRequest) (query : Query) (entry : Entry) (value : ℤ) → ServerReads sc s → IsRunAt sc s q entry → (item_of query).0 < length sc.items → value_of_run s q query ≡ Some value
    → IsReadFrom (with_deeds s.store.values entry.deeds) (deed_of q.query query value)
run_reads sc s q (query.Write item expr) entry value h k on is = tt
run_reads sc s q (query.Read item into) entry value h k on is =
    let items = h.items_are in
    let has : HasPlace s.store.values item.0 = some_place s.store.values item.0 (omega (arith, on, items)) in
    sym (same_Some (read_in s.store q.txn item) value is) ∙ own_read s.store q.txn item entry.deeds has k.last
  where
    some_place : (values : List ℤ) (n : ℕ) → n < length values → HasPlace values n
    some_place values n within = found (slice_get values n) refl
      where
        found : (v : Option ℤ) → slice_get values n ≡ v → is_some (slice_get values n) ≡ true
        found None e = absurd (missing values n within e)
        found (Some v) e = ap is_some e

-- what the store keeps of it
run_last : (sc : Scenario) (s : Server) (q : QueryRequest) (query : Query) (entry : Entry) (value : ℤ) (proof : Option Verdict) (other : TxnId) → ServerReads sc s → q.txn.0 < length sc.txns → IsRunAt sc s q entry
    → AreLast (writes_of (kept_by s.store q query value) other)
    (deeds_in (option_flatten (slice_get (slice_set s.entries q.txn.0 (Some (entry_after q entry (deed_of q.query query value) proof))) other.0)))
run_last sc s q (query.Write item expr) entry value proof other h exists k =
    let deed = deed_of q.query (query.Write item expr) value in
    let places = h.places in
    let entry_places = h.entry_places in
    last_set s q.txn other (with_write (writes_of s.store q.txn) (write_of deed)) (Some (entry_after q entry deed proof)) (same_txn q.txn other) refl (omega (arith, exists, places)) (omega (arith, exists, entry_places))
    (write_last (writes_of s.store q.txn) entry.deeds deed refl k.upto k.last) (h.last other)
run_last sc s q (query.Read item into) entry value proof other h exists k =
    let deed = deed_of q.query (query.Read item into) value in
    let entry_places = h.entry_places in
    by_txn deed (same_txn q.txn other) refl (omega (arith, exists, entry_places)) (read_last (writes_of s.store q.txn) entry.deeds deed refl k.last)
  where
    by_txn : (deed : Deed) (b : Bool) → same_txn q.txn other ≡ b → q.txn.0 < length s.entries → AreLast (writes_of s.store q.txn) (entry.deeds ++ deed ∷ [])
        → AreLast (writes_of s.store other) (deeds_in (option_flatten (slice_get (slice_set s.entries q.txn.0 (Some (entry_after q entry deed proof))) other.0)))
    by_txn deed true e within new =
        subst (λ (found : Option Entry). AreLast (writes_of s.store other) (deeds_in found)) (sym (entry_set s q.txn other (Some (entry_after q entry deed proof)) true e within))
        (subst (λ (t : TxnId). AreLast (writes_of s.store t) (entry.deeds ++ deed ∷ [])) (same_txn_is q.txn other e) new)
    by_txn deed false e within new =
        subst (λ (found : Option Entry). AreLast (writes_of s.store other) (deeds_in found)) (sym (entry_set s q.txn other (Some (entry_after q entry deed proof)) false e within)) (h.last other)

tentative_places : (store : Contents) (q : QueryRequest) (query : Query) (value : ℤ) → length (kept_by store q query value).tentative ≡ length store.tentative
tentative_places store q (query.Read item into) value = refl
tentative_places store q (query.Write item expr) value = length-set store.tentative q.txn.0 (with_write (writes_of store q.txn) (tentative_write q item value))

runs_keep : (sc : Scenario) (M : TxnId → Type 0) (s : Server) (q : QueryRequest) (query : Query) (entry : Entry) (value : ℤ) (proof : Option Verdict) → ServerReads sc s → q.txn.0 < length sc.txns → (item_of query).0 < length sc.items → IsRunAt sc s q entry
    → value_of_run s q query ≡ Some value → ServerKeeps sc M s (completes s q query entry (deed_of q.query query value) proof)
runs_keep sc M s q query entry value proof h exists on_item at is =
    let deed = deed_of q.query query value in
    let new = entry_after q entry deed proof in
    let same : (kept_by s.store q query value).values ≡ s.store.values = kept_values s.store q query value in
    let reads : AllRead s.store.values (slice_set s.entries q.txn.0 (Some new)) =
    placed_set (λ (n : ℕ) (found : Entry). ReadsFrom s.store.values found.deeds) s.entries q.txn.0 new h.reads
    (reads_more s.store.values entry.deeds deed at.reads (run_reads sc s q query entry value h at on_item is)) in
    record {
      reads = record {
        reads = subst (λ (values : List ℤ). AllRead values (slice_set s.entries q.txn.0 (Some new))) (sym same) reads;
        items_are = ap length same ∙ h.items_are;
        bounds_are = kept_bounds s.store q query value ∙ h.bounds_are;
        places = tentative_places s.store q query value ∙ h.places;
        entry_places = length-set s.entries q.txn.0 (Some new) ∙ h.entry_places;
        last = λ other. run_last sc s q query entry value proof other h exists at;
      };
      forces = tt;
      votes = tt;
      values = same;
    }

-- ---- an entry that does no more

-- the entry at which a query waits, or is given an answer that ends its transaction, has done what it had
entry_keeps : (sc : Scenario) (M : TxnId → Type 0) (s : Server) (q : QueryRequest) (entry now : Entry) (letters : List Letter) → ServerReads sc s → q.txn.0 < length sc.txns → IsRunAt sc s q entry → now.deeds ≡ entry.deeds
    → ServerKeeps sc M s (sends (with_entry s q.txn (Some now)) letters)
entry_keeps sc M s q entry now letters h exists at same =
    let entry_places = h.entry_places in
    record {
      reads = record {
        reads = placed_set (λ (n : ℕ) (found : Entry). ReadsFrom s.store.values found.deeds) s.entries q.txn.0 now h.reads (subst (ReadsFrom s.store.values) (sym same) at.reads);
        items_are = h.items_are;
        bounds_are = h.bounds_are;
        places = h.places;
        entry_places = length-set s.entries q.txn.0 (Some now) ∙ h.entry_places;
        last = λ other. by_txn other (same_txn q.txn other) refl (omega (arith, exists, entry_places));
      };
      forces = tt;
      votes = tt;
      values = refl;
    }
  where
    by_txn : (other : TxnId) (b : Bool) → same_txn q.txn other ≡ b → q.txn.0 < length s.entries → AreLast (writes_of s.store other) (deeds_in (option_flatten (slice_get (slice_set s.entries q.txn.0 (Some now)) other.0)))
    by_txn other true e within =
        subst (λ (found : Option Entry). AreLast (writes_of s.store other) (deeds_in found)) (sym (entry_set s q.txn other (Some now) true e within))
        (subst (AreLast (writes_of s.store other)) (sym same) (subst (λ (t : TxnId). AreLast (writes_of s.store t) entry.deeds) (same_txn_is q.txn other e) at.last))
    by_txn other false e within = subst (λ (found : Option Entry). AreLast (writes_of s.store other) (deeds_in found)) (sym (entry_set s q.txn other (Some now) false e within)) (h.last other)

-- a query that waited runs where it comes after those that have run
pub resumed_at : (sc : Scenario) (at : ServerId) (s : Server) (grant : Grant) (q : QueryRequest) (query : Query) (entry : Entry) (value : ℤ) → ServerReads sc s → IsResumed sc at s grant q query entry value → IsRunAt sc s q (unwaiting entry)
resumed_at sc at s grant q query entry value h k =
    record {
      reads = h.reads q.txn.0 entry k.found;
      last = subst (λ (found : Option Entry). AreLast (writes_of s.store q.txn) (deeds_in found)) k.found (h.last q.txn);
      upto = k.upto;
    }

-- what waited runs, after what was done before
pub resumes_keep : (sc : Scenario) (M : TxnId → Type 0) (s : Server) (effect : Effect Server) (grant : Grant) (q : QueryRequest) (query : Query) (entry : Entry) (value : ℤ) (proof : Option Verdict) → IsResumed sc s.server effect.state grant q query entry value
    → ServerKeeps sc M s effect → ServerKeeps sc M s (followed_by effect (resuming effect.state q query entry value proof))
resumes_keep sc M s effect grant q query entry value proof k h =
    let ran = runs_keep sc M effect.state q query (unwaiting entry) value proof h.reads k.exists k.on_item (resumed_at sc s.server effect.state grant q query entry value h.reads k) k.value_is in
    record { reads = ran.reads; forces = h.forces; votes = h.votes; values = ran.values ∙ h.values }

-- or it is given an answer that ends its transaction, and its entry does no more
pub refuses_keep : (sc : Scenario) (M : TxnId → Type 0) (s : Server) (effect : Effect Server) (grant : Grant) (q : QueryRequest) (query : Query) (entry : Entry) (value : ℤ) (said : Answer) → IsResumed sc s.server effect.state grant q query entry value
    → ServerKeeps sc M s effect → ServerKeeps sc M s (followed_by effect (refusing effect.state q entry said))
refuses_keep sc M s effect grant q query entry value said k h =
    let now = with_answer q (unwaiting entry) said in
    let kept = entry_keeps sc M effect.state q (unwaiting entry) now [] h.reads k.exists (resumed_at sc s.server effect.state grant q query entry value h.reads k) refl in
    record { reads = kept.reads; forces = h.forces; votes = h.votes; values = h.values }

-- ---- Prepare

-- versions that are learnt are none of what is read
learnt_reads : (sc : Scenario) (s : Server) (want : List (AdminId × Version)) → ServerReads sc s → ServerReads sc (with_wants s want)
learnt_reads sc s want h =
    let known = (with_versions s.store want).known in
    subst (λ (store : Contents). ServerReads sc (record s { store = store })) (sym (learnt_is s.store want)) (now_known known)
  where
    now_known : (known : List Version) → ServerReads sc (record s { store = record s.store { known = known } })
    now_known known = record { reads = h.reads; items_are = h.items_are; bounds_are = h.bounds_are; places = h.places; entry_places = h.entry_places; last = h.last }

-- what was voted on was tested before, and what is voted on first is in range
vote_tested : (sc : Scenario) (M : TxnId → Type 0) (s : Server) (p : PrepareRequest) (entry : Entry) → ServerReads sc s → PrepareClear sc M s p.txn → entry_at s p.txn ≡ Some entry
    → IsFirstVote s p entry ⊎ IsLaterVote p entry → AreTested sc entry.deeds
vote_tested sc M s p entry h clear found place =
    ⊎_elim
    (λ (first : IsFirstVote s p entry).
    inside_tested sc s.store p.txn entry.deeds h.bounds_are (subst (λ (x : Option Entry). AreLast (writes_of s.store p.txn) (deeds_in x)) found (h.last p.txn)) first.in_range)
    (λ (further : IsLaterVote p entry). clear.tested entry further.cast found further.ballot_is) place

votes_keep : (sc : Scenario) (M : TxnId → Type 0) (s : Server) (mail : Mail) (p : PrepareRequest) (entry : Entry) (verdicts : List Verdict) → ServerReads sc s → PrepareClear sc M s p.txn
    → IsVote sc s mail p entry verdicts → ServerKeeps sc M s (votes (with_wants s p.want) p verdicts entry)
votes_keep sc M s mail p entry verdicts h clear k =
    let now = with_wants s p.want in
    let after : ServerReads sc now = learnt_reads sc s p.want h in
    let here : AreLast (writes_of now.store p.txn) entry.deeds = subst (λ (found : Option Entry). AreLast (writes_of now.store p.txn) (deeds_in found)) k.found (after.last p.txn) in
    let voted : Entry = record entry { ballot = Some (record { turn = p.turn; verdicts = verdicts }) } in
    record {
      reads = record {
        reads = placed_set (λ (n : ℕ) (found : Entry). ReadsFrom now.store.values found.deeds) s.entries p.txn.0 voted after.reads (after.reads p.txn.0 entry k.found);
        items_are = after.items_are;
        bounds_are = after.bounds_are;
        places = after.places;
        entry_places = length-set s.entries p.txn.0 (Some voted) ∙ h.entry_places;
        last = λ other. voted_last now p.txn other entry voted (same_txn p.txn other) refl k.found here (after.last other);
      };
      forces = vote_tested sc M s p entry h clear k.found k.place;
      votes = record { asked = clear.made; unsettled = k.unsettled; entry = entry; found = k.found; deeds_are = refl };
      values = ap (λ (store : Contents). store.values) (learnt_is s.store p.want);
    }
  where
    voted_last : (s : Server) (txn other : TxnId) (entry voted : Entry) (b : Bool) → same_txn txn other ≡ b → entry_at s txn ≡ Some entry → AreLast (writes_of s.store txn) voted.deeds
        → AreLast (writes_of s.store other) (deeds_in (entry_at s other)) → AreLast (writes_of s.store other) (deeds_in (option_flatten (slice_get (slice_set s.entries txn.0 (Some voted)) other.0)))
    voted_last s txn other entry voted true e found new old =
        let is : txn.0 ≡ other.0 = eqb-true txn.0 other.0 e in
        subst (λ (x : Option Entry). AreLast (writes_of s.store other) (deeds_in x))
        (sym (ap (λ (n : ℕ). option_flatten (slice_get (slice_set s.entries txn.0 (Some voted)) n)) (sym is) ∙ written_over s.entries txn.0 entry (Some voted) found))
        (subst (λ (t : TxnId). AreLast (writes_of s.store t) voted.deeds) (same_txn_is txn other e) new)
    voted_last s txn other entry voted false e found new old =
        subst (λ (x : Option Entry). AreLast (writes_of s.store other) (deeds_in x)) (sym (ap option_flatten (set_elsewhere s.entries txn.0 other.0 (Some voted) e))) old

-- ---- Decide

-- what a transaction's end leaves of the values
ended_values : (store : Contents) (txn : TxnId) (ended : Outcome) (deeds : List Deed) → AreLast (writes_of store txn) deeds → (ended_store store txn ended).values ≡ values_by store.values ended deeds
ended_values store txn outcome.Commit deeds h = h.applied store.values
ended_values store txn outcome.Abort deeds h = refl

ended_tentative : (store : Contents) (txn : TxnId) (ended : Outcome) → (ended_store store txn ended).tentative ≡ slice_set store.tentative txn.0 []
ended_tentative store txn outcome.Commit = refl
ended_tentative store txn outcome.Abort = refl

pub values_length : (count : ℕ) (ended : Outcome) (values : List ℤ) (deeds : List Deed) → length values ≡ count → length (values_by values ended deeds) ≡ count
values_length count outcome.Commit values deeds e = all_length count deeds values e
values_length count outcome.Abort values deeds e = e

-- the reads of others stay true
others_read : (ended : Outcome) (values : List ℤ) (deeds others : List Deed) → AreClear deeds others → ReadsFrom values others → ReadsFrom (values_by values ended deeds) others
others_read outcome.Commit values deeds others clear h = reads_clear values others deeds clear h
others_read outcome.Abort values deeds others clear h = h

ends_keep : (sc : Scenario) (M : TxnId → Type 0) (s : Server) (d : Settled) (letter : Letter) → ServerReads sc s → OrderClear sc s d.txn → ServerKeeps sc M s (closes s d letter)
ends_keep sc M s d letter h m =
    let deeds = deeds_in (entry_at s d.txn) in
    let after = ended_store s.store d.txn d.outcome in
    let values : after.values ≡ values_by s.store.values d.outcome deeds = ended_values s.store d.txn d.outcome deeds (h.last d.txn) in
    let table : after.tentative ≡ slice_set s.store.tentative d.txn.0 [] = ended_tentative s.store d.txn d.outcome in
    let others : AllRead (values_by s.store.values d.outcome deeds) (slice_set s.entries d.txn.0 None) =
    placed_emptied_others (λ (n : ℕ) (entry : Entry). ReadsFrom (values_by s.store.values d.outcome deeds) entry.deeds) s.entries d.txn.0
    (λ n other found apart. others_read d.outcome s.store.values deeds other.deeds (m.clear n other found apart) (h.reads n other found)) in
    let exists = m.exists in
    let places = h.places in
    let entry_places = h.entry_places in
    record {
      reads = record {
        reads = subst (λ (left : List ℤ). AllRead left (slice_set s.entries d.txn.0 None)) (sym values) others;
        items_are = ap length values ∙ values_length (length sc.items) d.outcome s.store.values deeds h.items_are;
        bounds_are = ended_bounds s.store d.txn d.outcome ∙ h.bounds_are;
        places = ap length table ∙ (length-set s.store.tentative d.txn.0 [] ∙ h.places);
        entry_places = length-set s.entries d.txn.0 None ∙ h.entry_places;
        last = λ other.
            subst (λ (lists : List (List TentativeWrite)). AreLast (unwrap_or (slice_get lists other.0) []) (deeds_in (option_flatten (slice_get (slice_set s.entries d.txn.0 None) other.0)))) (sym table)
            (last_set s d.txn other [] None (same_txn d.txn other) refl (omega (arith, exists, places)) (omega (arith, exists, entry_places)) none_last (h.last other));
      };
      forces = tt;
      votes = tt;
      values = values;
    }

-- ---- Push

learns_keep : (sc : Scenario) (M : TxnId → Type 0) (s : Server) (push : PushNotice) → ServerReads sc s → ServerKeeps sc M s (learns s push)
learns_keep sc M s push h =
    record {
      reads = record { reads = h.reads; items_are = h.items_are; bounds_are = h.bounds_are; places = h.places; entry_places = h.entry_places; last = h.last };
      forces = tt;
      votes = tt;
      values = refl;
    }

-- ---- all mails

-- each outcome of a receipt
pub keeps_cases : (sc : Scenario) (M : TxnId → Type 0) (s : Server) (mail : Mail) → ServerReads sc s → RequestClear sc M s mail.letter.body → ServerCases sc s mail (ServerKeeps sc M s)
keeps_cases sc M s mail h clear =
    record {
      relocked = λ effect locks k.
          record {
            reads = record { reads = k.reads.reads; items_are = k.reads.items_are; bounds_are = k.reads.bounds_are; places = k.reads.places; entry_places = k.reads.entry_places; last = k.reads.last };
            forces = k.forces;
            votes = k.votes;
            values = k.values;
          };
      relearnt = λ effect admin pin k.
          record {
            reads = record { reads = k.reads.reads; items_are = k.reads.items_are; bounds_are = k.reads.bounds_are; places = k.reads.places; entry_places = k.reads.entry_places; last = k.reads.last };
            forces = k.forces;
            votes = k.votes;
            values = k.values;
          };
      ignored = stays_keep sc M s [] h;
      ran = λ q query entry value proof k r.
          let m = subst (RequestClear sc M s) k.said_is clear in
          runs_keep sc M s q query entry value proof h m.exists (m.on_item query k.asked_is) (run_at sc s mail q query entry value h m k) k.value_is;
      denied = λ q query entry value verdict k d.
          let m = subst (RequestClear sc M s) k.said_is clear in
          entry_keeps sc M s q entry _ _ h m.exists (run_at sc s mail q query entry value h m k) refl;
      outdated = λ q query entry value newer k e.
          let m = subst (RequestClear sc M s) k.said_is clear in
          entry_keeps sc M s q entry _ _ h m.exists (run_at sc s mail q query entry value h m k) refl;
      waited = λ q query entry value k.
          let m = subst (RequestClear sc M s) k.said_is clear in
          entry_keeps sc M s q entry (record entry { waiting = Some q }) [] h m.exists (run_at sc s mail q query entry value h m k) refl;
      died = λ q query entry value other k dying.
          let m = subst (RequestClear sc M s) k.said_is clear in
          entry_keeps sc M s q entry _ _ h m.exists (run_at sc s mail q query entry value h m k) refl;
      restarted = λ q k. stays_keep sc M s (reply s q.txn (body.Done (reply_of q s.epoch answer.Restarted)) ∷ []) h;
      answered = λ q entry given k. stays_keep sc M s (reply s q.txn (body.Done given) ∷ []) h;
      voted = λ p entry verdicts k. votes_keep sc M s mail p entry verdicts h (subst (RequestClear sc M s) k.said_is clear) k;
      shown = λ v entry txn k. record { reads = learnt_reads sc s v.want h; forces = tt; votes = tt; values = ap (λ (store : Contents). store.values) (learnt_is s.store v.want) };
      lost_verdicts = λ v k. stays_keep sc M s (verdicts_letter s v None ∷ []) h;
      voted_again = λ p entry cast k. stays_keep sc M s (yes_letter s p.txn cast ∷ []) h;
      refused = λ p entry number value k. ends_keep sc M s (refused_as p _) (no_letter s p _) h (subst (RequestClear sc M s) k.said_is clear).ends;
      lost = λ p k. ends_keep sc M s (refused_as p _) (no_letter s p _) h (subst (RequestClear sc M s) k.said_is clear).ends;
      refused_again = λ p settled why k. stays_keep sc M s (no_letter s p why ∷ []) h;
      settled = λ d k. ends_keep sc M s (settled_as d) (ack_letter s d.txn) h (subst (RequestClear sc M s) k.said_is clear);
      acknowledged = λ d settled k. stays_keep sc M s (ack_letter s d.txn ∷ []) h;
      pushed = λ push k. learns_keep sc M s push h;
      resumed = λ effect grant q query entry value proof k r now. resumes_keep sc M s effect grant q query entry value proof k now;
      resumed_denied = λ effect grant q query entry value verdict k d now. refuses_keep sc M s effect grant q query entry value (answer.Denied verdict) k now;
      resumed_outdated = λ effect grant q query entry value newer k e now. refuses_keep sc M s effect grant q query entry value (answer.Newer newer) k now;
    }

-- every row of a server on receipt of a mail
pub server_row_keeps : (sc : Scenario) (M : TxnId → Type 0) (s : Server) (mail : Mail) → AreRightWaits sc s → ServerReads sc s → RequestClear sc M s mail.letter.body → ServerKeeps sc M s (server_row sc s mail)
server_row_keeps sc M s mail waits h clear = server_by sc s mail (ServerKeeps sc M s) waits (keeps_cases sc M s mail h clear)
