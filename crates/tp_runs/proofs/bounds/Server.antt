-- Bounds, the server's rows: what a query reads or writes is within its bound, and so is all that is kept, forced and said of it.
use Rattle.std.proofs.Common.{IfSome, List, MatchOption, None, Option, Some, [], ap, arith, false, refl, subst, suc, sym, zero, ℕ, ℤ, ⊎_elim, ◌==◌, ◌^◌, ◌∙◌, ◌∷◌, ◌≡◌, ◌≤◌}
use Rattle.std.proofs.lemmas.Int.{ints}
use Rattle.std.proofs.lemmas.Option.{same_Some}
use Rattle.std.specs.List.{find, list_any}
use Rattle.std.specs.Option.{option_map_or}
use Rattle.tp_types.proofs.EachLemmas.{each_append, each_found, each_get, each_more, placed_emptied, placed_set}
use Rattle.tp_types.specs.Each.{Each, EachPlaced}
use Rattle.tp_types.specs.Effect.{Effect, sends}
use Rattle.tp_model.specs.Deeds.{deed_of}
use Rattle.tp_model.specs.SerialRun.{number_at}
use Rattle.tp_model.specs.Words.{Answer, DecideRequest, DoneReply, ItemId, Letter, Mail, Query, QueryRequest, Scenario, Settled, TxnId, Verdict}
use Rattle.tp_model.specs.Words.answer
use Rattle.tp_model.specs.Words.query
use Rattle.tp_lock.specs.declared.entry.Grant.{Grant}
use Rattle.tp_recover.specs.Log.{values_by}
use Rattle.tp_server.proofs.Rows.{AreRightWaits, IsAsking, IsFirstHere, IsFurther, IsOrder, IsResumed, refusing, resuming, server_by, unwaiting}
use Rattle.tp_server.specs.Row.{answers_with, closes, completes, entry_after, entry_at, followed_by, ran_as, reply_of, server_row, value_of_run, with_answer, with_entry}
use Rattle.tp_server.specs.State.{Server}
use Rattle.tp_server.specs.declared.server.Entry.{Entry}
use Rattle.tp_store.proofs.OutsideLemmas.{first_is_least}
use Rattle.tp_store.specs.Contents.{Contents}
use Rattle.tp_store.specs.Laws.{IsLeastOutside}
use Rattle.tp_store.specs.Rule.{first_outside_in, read_in, value_in, value_of, writes_of}
use Rattle.tp_store.specs.Writes.{is_on, is_outside}
use Rattle.tp_store.specs.declared.writes.TentativeWrite.{TentativeWrite}
use Rattle.tp_runs.proofs.basics.Found.{of_some}
use Rattle.tp_runs.proofs.basics.Stores.{EachWrite, ended_each, kept_each, learnt_each}
use Rattle.tp_runs.proofs.bounds.Numbers.{bounded_item, bounded_later}
use Rattle.tp_runs.proofs.deeds.Tentative.{last_upto}
use Rattle.tp_runs.proofs.serial_data.Rows.{IsRunAt, RequestClear, ServerKeeps, ServerReads, deeds_in, keeps_cases, refuses_keep, resumed_at, resumes_keep, run_at, values_with}
use Rattle.tp_runs.specs.Bounded.{IsAtMost, IsBounded, IsBoundedAnswer, IsBoundedBody, IsBoundedDeed, IsBoundedDone, IsBoundedEntry, IsBoundedNo, IsBoundedQuery, IsBoundedRecord, IsBoundedSettled, IsBoundedWrite}

-- ---- what is said

abbrev pub IsBoundedLetter : Letter → Type 0
IsBoundedLetter letter = IsBoundedBody letter.body

abbrev pub AreBoundedWrites : Contents → Type 0
AreBoundedWrites store = EachWrite (λ (txn : TxnId) (write : TentativeWrite). IsBoundedWrite write) store

abbrev pub AreBoundedEntries : List (Option Entry) → Type 0
AreBoundedEntries entries = EachPlaced (λ (n : ℕ) (entry : Entry). IsBoundedEntry entry) entries

abbrev pub AreBoundedEnds : List (Option Settled) → Type 0
AreBoundedEnds settled = EachPlaced (λ (n : ℕ) (done : Settled). IsBoundedSettled done) settled

-- what a server keeps of transactions
pub record ServerKept (s : Server) : Type 0 where
  pub writes : AreBoundedWrites s.store
  pub settled : AreBoundedEnds s.settled
  pub entries : AreBoundedEntries s.entries

-- an act of a server
pub record ServerBounds (effect : Effect Server) : Type 0 where
  pub kept : ServerKept effect.state
  pub forces : IfSome effect.reaction.append IsBoundedRecord
  pub letters : Each IsBoundedLetter effect.reaction.letters

-- what is known of a server before its act: its items' values are within their bound, too
pub record ServerBefore (s : Server) : Type 0 where
  pub values : Each (IsAtMost (10 ^ 15)) s.store.values
  pub kept : ServerKept s

stays_bounded : (s : Server) (letters : List Letter) → ServerBefore s → Each IsBoundedLetter letters → ServerBounds (sends s letters)
stays_bounded s letters h k = record { kept = h.kept; forces = tt; letters = k }

-- ---- a query runs

number_most : (values : List ℤ) (place : ℕ) → Each (IsAtMost (10 ^ 15)) values → IsAtMost (10 ^ 15) (number_at values place)
number_most [] place h = record { low = omega (arith, ints); high = omega (arith, ints) }
number_most (value ∷ values) zero h = h.0
number_most (value ∷ values) (suc place) h = number_most values place h.1

read_bounded : (s : Server) (q : QueryRequest) (item : ItemId) (found : Option TentativeWrite) → ServerBefore s → find (is_on item) (writes_of s.store q.txn) ≡ found
    → ((write : TentativeWrite) → find (is_on item) (writes_of s.store q.txn) ≡ Some write → write.query ≤ q.query) → IsBounded q.query (option_map_or value_of found (value_in s.store item))
read_bounded s q item None h e upto = bounded_item q.query (value_in s.store item) (number_most s.store.values item.0 h.values)
read_bounded s q item (Some write) h e upto =
    bounded_later write.query q.query write.value (upto write e) (each_found IsBoundedWrite (is_on item) (writes_of s.store q.txn) write (h.kept.writes q.txn) e)

-- what a query that runs reads or writes
run_bounded : (sc : Scenario) (s : Server) (q : QueryRequest) (query : Query) (entry : Entry) (value : ℤ) → ServerBefore s → IsBoundedQuery q → IsRunAt sc s q entry → value_of_run s q query ≡ Some value → IsBounded q.query value
run_bounded sc s q (query.Read item into) entry value h asked at is =
    subst (IsBounded q.query) (same_Some (read_in s.store q.txn item) value is)
    (read_bounded s q item (find (is_on item) (writes_of s.store q.txn)) h refl (λ write e. last_upto item entry.deeds q.query write at.upto (sym (at.last.last item) ∙ e)))
run_bounded sc s q (query.Write item expr) entry value h asked at is = of_some (IsBounded q.query) q.value value is asked

-- the entry at which it runs
entry_bounded : (sc : Scenario) (s : Server) (mail : Mail) (q : QueryRequest) (query : Query) (entry : Entry) (value : ℤ) → ServerBefore s → IsAsking sc s mail q query entry value → IsBoundedEntry entry
entry_bounded sc s mail q query entry value h k =
    ⊎_elim (λ (first : IsFirstHere s mail.sent q entry). subst IsBoundedEntry (sym first.entry_is) (record { answers = tt; waiting = tt; deeds = tt }))
    (λ (further : IsFurther s q entry). h.kept.entries q.txn.0 entry further.found) k.place

runs_bounded : (sc : Scenario) (s : Server) (q : QueryRequest) (query : Query) (entry : Entry) (value : ℤ) (proof : Option Verdict) → ServerBefore s → IsBoundedQuery q → IsRunAt sc s q entry → value_of_run s q query ≡ Some value
    → IsBoundedEntry entry → ServerBounds (completes s q query entry (deed_of q.query query value) proof)
runs_bounded sc s q query entry value proof h asked at is old =
    let deed = deed_of q.query query value in
    let new : IsBounded q.query value = run_bounded sc s q query entry value h asked at is in
    record {
      kept = record {
        writes = kept_each (λ (txn : TxnId) (write : TentativeWrite). IsBoundedWrite write) s.store q query value h.kept.writes new;
        settled = h.kept.settled;
        entries = placed_set (λ (n : ℕ) (found : Entry). IsBoundedEntry found) s.entries q.txn.0 (entry_after q entry deed proof) h.kept.entries
            (record {
              answers = each_more IsBoundedDone entry.answers (reply_of q entry.epoch (ran_as deed proof)) old.answers new;
              waiting = old.waiting;
              deeds = each_more IsBoundedDeed entry.deeds deed old.deeds new;
            });
      };
      forces = tt;
      letters = (new, tt);
    }

-- a query waits at its entry, or is answered there
entry_bounds : (s : Server) (txn : TxnId) (entry : Entry) (letters : List Letter) → ServerBefore s → IsBoundedEntry entry → Each IsBoundedLetter letters → ServerBounds (sends (with_entry s txn (Some entry)) letters)
entry_bounds s txn entry letters h new said =
    record {
      kept = record { writes = h.kept.writes; settled = h.kept.settled; entries = placed_set (λ (n : ℕ) (found : Entry). IsBoundedEntry found) s.entries txn.0 entry h.kept.entries new };
      forces = tt;
      letters = said;
    }

-- a query that is answered without a value
answers_bounded : (s : Server) (q : QueryRequest) (entry : Entry) (said : Answer) → ServerBefore s → IsBoundedEntry entry → IsBoundedAnswer q.query said → ServerBounds (answers_with s q entry said)
answers_bounded s q entry said h old new =
    entry_bounds s q.txn (with_answer q entry said) _ h
    (record { answers = each_more IsBoundedDone entry.answers (reply_of q entry.epoch said) old.answers new; waiting = old.waiting; deeds = old.deeds }) (new, tt)

-- ---- the end of a transaction

ends_bounded : (s : Server) (done : Settled) (letter : Letter) → ServerBefore s → IsBoundedSettled done → IsBoundedLetter letter → ServerBounds (closes s done letter)
ends_bounded s done letter h why said =
    record {
      kept = record {
        writes = ended_each (λ (txn : TxnId) (write : TentativeWrite). IsBoundedWrite write) s.store done.txn done.outcome h.kept.writes;
        settled = placed_set (λ (n : ℕ) (found : Settled). IsBoundedSettled found) s.settled done.txn.0 done h.kept.settled why;
        entries = placed_emptied (λ (n : ℕ) (entry : Entry). IsBoundedEntry entry) s.entries done.txn.0 h.kept.entries;
      };
      forces = why;
      letters = (said, tt);
    }

-- the value that is refused is that of a write
refused_bounded : (s : Server) (txn : TxnId) (number : ℕ) (value : ℤ) → ServerBefore s → first_outside_in s.store txn ≡ Some (number, value) → IsBounded number value
refused_bounded s txn number value h e = found (first_outside_in s.store txn) e (first_is_least s.store txn)
  where
    found : (first : Option (ℕ × ℤ)) → first ≡ Some (number, value) → MatchOption first (list_any (is_outside s.store.bounds) (writes_of s.store txn) ≡ false) (IsLeastOutside s.store txn) → IsBounded number value
    found None f m = absurd (cc)
    found (Some first) f m =
        let same : first ≡ (number, value) = same_Some first (number, value) f in
        let number_is : m.write.query ≡ number = sym m.query ∙ ap (λ (x : ℕ × ℤ). x.0) same in
        let value_is : m.write.value ≡ value = sym m.value ∙ ap (λ (x : ℕ × ℤ). x.1) same in
        subst (λ (n : ℕ). IsBounded n value) number_is
        (subst (IsBounded m.write.query) value_is (each_get IsBoundedWrite (writes_of s.store txn) m.at m.write (h.kept.writes txn) m.kept))

-- ---- all mails

-- what an order to end leaves of the values is within the bound
abbrev pub OrdersBounded : Server → Mail → Type 0
OrdersBounded s mail = (d : DecideRequest) → IsOrder s mail d → Each (IsAtMost (10 ^ 15)) (values_by s.store.values d.outcome (deeds_in (entry_at s d.txn)))

-- an act beside what it keeps of values; M says which requests were made
record BoundsBeside (sc : Scenario) (M : TxnId → Type 0) (s : Server) (effect : Effect Server) : Type 0 where
  keeps : ServerKeeps sc M s effect
  values : Each (IsAtMost (10 ^ 15)) effect.state.store.values
  row : ServerBounds effect

beside : (sc : Scenario) (M : TxnId → Type 0) (s : Server) (effect : Effect Server) → ServerKeeps sc M s effect → Each (IsAtMost (10 ^ 15)) (values_with s effect.reaction.append) → ServerBounds effect → BoundsBeside sc M s effect
beside sc M s effect keeps values row = record { keeps = keeps; values = subst (Each (IsAtMost (10 ^ 15))) (sym keeps.values) values; row = row }

-- what waited runs, after what was done before
resumes_bounded : (sc : Scenario) (M : TxnId → Type 0) (s : Server) (effect : Effect Server) (grant : Grant) (q : QueryRequest) (query : Query) (entry : Entry) (value : ℤ) (proof : Option Verdict) → IsResumed sc s.server effect.state grant q query entry value
    → BoundsBeside sc M s effect → BoundsBeside sc M s (followed_by effect (resuming effect.state q query entry value proof))
resumes_bounded sc M s effect grant q query entry value proof k h =
    let keeps = resumes_keep sc M s effect grant q query entry value proof k h.keeps in
    let old : IsBoundedEntry entry = h.row.kept.entries q.txn.0 entry k.found in
    let asked : IsBoundedQuery q = subst (λ (w : Option QueryRequest). IfSome w IsBoundedQuery) k.waiting_is old.waiting in
    let ran = runs_bounded sc effect.state q query (unwaiting entry) value proof (record { values = h.values; kept = h.row.kept }) asked (resumed_at sc s.server effect.state grant q query entry value h.keeps.reads k) k.value_is
    (record { answers = old.answers; waiting = tt; deeds = old.deeds }) in
    record {
      keeps = keeps;
      values = subst (Each (IsAtMost (10 ^ 15))) (h.keeps.values ∙ sym keeps.values) h.values;
      row = record { kept = ran.kept; forces = h.row.forces; letters = each_append IsBoundedLetter effect.reaction.letters _ h.row.letters ran.letters };
    }

-- or it is given an answer without a value, which ends its transaction
refuses_bounded : (sc : Scenario) (M : TxnId → Type 0) (s : Server) (effect : Effect Server) (grant : Grant) (q : QueryRequest) (query : Query) (entry : Entry) (value : ℤ) (said : Answer) → IsResumed sc s.server effect.state grant q query entry value
    → IsBoundedAnswer q.query said → BoundsBeside sc M s effect → BoundsBeside sc M s (followed_by effect (refusing effect.state q entry said))
refuses_bounded sc M s effect grant q query entry value said k none h =
    let keeps = refuses_keep sc M s effect grant q query entry value said k h.keeps in
    let old : IsBoundedEntry entry = h.row.kept.entries q.txn.0 entry k.found in
    let row = answers_bounded effect.state q (unwaiting entry) said (record { values = h.values; kept = h.row.kept }) (record { answers = old.answers; waiting = tt; deeds = old.deeds }) none in
    record { keeps = keeps; values = h.values; row = record { kept = row.kept; forces = h.row.forces; letters = each_append IsBoundedLetter effect.reaction.letters _ h.row.letters row.letters } }

-- every row of a server on receipt of a mail
pub server_row_bounds : (sc : Scenario) (M : TxnId → Type 0) (s : Server) (mail : Mail) → AreRightWaits sc s → ServerBefore s → IsBoundedBody mail.letter.body → ServerReads sc s → RequestClear sc M s mail.letter.body → OrdersBounded s mail
    → ServerBounds (server_row sc s mail)
server_row_bounds sc M s mail waits h said reads clear orders =
    let keeps = keeps_cases sc M s mail reads clear in
    (server_by sc s mail (BoundsBeside sc M s) waits
    (record {
      relocked = λ effect locks k.
          record {
            keeps = keeps.relocked effect locks k.keeps;
            values = k.values;
            row = record { kept = record { writes = k.row.kept.writes; settled = k.row.kept.settled; entries = k.row.kept.entries }; forces = k.row.forces; letters = k.row.letters };
          };
      relearnt = λ effect admin pin k.
          record {
            keeps = keeps.relearnt effect admin pin k.keeps;
            values = k.values;
            row = record { kept = record { writes = k.row.kept.writes; settled = k.row.kept.settled; entries = k.row.kept.entries }; forces = k.row.forces; letters = k.row.letters };
          };
      ignored = beside sc M s _ keeps.ignored h.values (stays_bounded s [] h tt);
      ran = λ q query entry value proof k r.
          beside sc M s _ (keeps.ran q query entry value proof k r) h.values
          (runs_bounded sc s q query entry value proof h (subst IsBoundedBody k.said_is said) (run_at sc s mail q query entry value reads (subst (RequestClear sc M s) k.said_is clear) k) k.value_is (entry_bounded sc s mail q query entry value h k));
      denied = λ q query entry value verdict k d.
          beside sc M s _ (keeps.denied q query entry value verdict k d) h.values (answers_bounded s q entry (answer.Denied verdict) h (entry_bounded sc s mail q query entry value h k) tt);
      outdated = λ q query entry value newer k e.
          beside sc M s _ (keeps.outdated q query entry value newer k e) h.values (answers_bounded s q entry (answer.Newer newer) h (entry_bounded sc s mail q query entry value h k) tt);
      waited = λ q query entry value k.
          let old = entry_bounded sc s mail q query entry value h k in
          beside sc M s _ (keeps.waited q query entry value k) h.values
          (entry_bounds s q.txn (record entry { waiting = Some q }) [] h (record { answers = old.answers; waiting = subst IsBoundedBody k.said_is said; deeds = old.deeds }) tt);
      died = λ q query entry value other k dying.
          beside sc M s _ (keeps.died q query entry value other k dying) h.values (answers_bounded s q entry (answer.Died other) h (entry_bounded sc s mail q query entry value h k) tt);
      restarted = λ q k. beside sc M s _ (keeps.restarted q k) h.values (stays_bounded s _ h (tt, tt));
      answered = λ q entry given k.
          beside sc M s _ (keeps.answered q entry given k) h.values
          (stays_bounded s _ h (each_found IsBoundedDone (λ (other : DoneReply). other.query == q.query) entry.answers given (h.kept.entries q.txn.0 entry k.found).answers k.given_is, tt));
      voted = λ p entry verdicts k.
          let old : IsBoundedEntry entry = h.kept.entries p.txn.0 entry k.found in
          beside sc M s _ (keeps.voted p entry verdicts k) h.values
          (record {
            kept = record {
              writes = learnt_each (λ (txn : TxnId) (write : TentativeWrite). IsBoundedWrite write) s.store p.want h.kept.writes;
              settled = h.kept.settled;
              entries = placed_set (λ (n : ℕ) (found : Entry). IsBoundedEntry found) s.entries p.txn.0 _ h.kept.entries (record { answers = old.answers; waiting = old.waiting; deeds = old.deeds });
            };
            forces = old.deeds;
            letters = (tt, tt);
          });
      shown = λ v entry txn k.
          beside sc M s _ (keeps.shown v entry txn k) h.values
          (record {
            kept = record { writes = learnt_each (λ (txn : TxnId) (write : TentativeWrite). IsBoundedWrite write) s.store v.want h.kept.writes; settled = h.kept.settled; entries = h.kept.entries };
            forces = tt;
            letters = (tt, tt);
          });
      lost_verdicts = λ v k. beside sc M s _ (keeps.lost_verdicts v k) h.values (stays_bounded s _ h (tt, tt));
      voted_again = λ p entry cast k. beside sc M s _ (keeps.voted_again p entry cast k) h.values (stays_bounded s _ h (tt, tt));
      refused = λ p entry number value k.
          let why : IsBounded number value = refused_bounded s p.txn number value h k.outside in
          beside sc M s _ (keeps.refused p entry number value k) h.values (ends_bounded s _ _ h why why);
      lost = λ p k. beside sc M s _ (keeps.lost p k) h.values (ends_bounded s _ _ h tt tt);
      refused_again = λ p settled why k.
          beside sc M s _ (keeps.refused_again p settled why k) h.values (stays_bounded s _ h (of_some IsBoundedNo settled.why why k.why_is (h.kept.settled p.txn.0 settled k.found), tt));
      settled = λ d k. beside sc M s _ (keeps.settled d k) (orders d k) (ends_bounded s _ _ h tt tt);
      acknowledged = λ d settled k. beside sc M s _ (keeps.acknowledged d settled k) h.values (stays_bounded s _ h (tt, tt));
      pushed = λ push k.
          beside sc M s _ (keeps.pushed push k) h.values (record { kept = record { writes = h.kept.writes; settled = h.kept.settled; entries = h.kept.entries }; forces = tt; letters = tt });
      resumed = λ effect grant q query entry value proof k r now. resumes_bounded sc M s effect grant q query entry value proof k now;
      resumed_denied = λ effect grant q query entry value verdict k d now. refuses_bounded sc M s effect grant q query entry value (answer.Denied verdict) k tt now;
      resumed_outdated = λ effect grant q query entry value newer k e now. refuses_bounded sc M s effect grant q query entry value (answer.Newer newer) k tt now;
    })).row
