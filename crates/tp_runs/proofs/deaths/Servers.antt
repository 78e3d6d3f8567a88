-- Deaths for an older transaction, the server's rows: the owner of each lock has an entry of its age, and an answer Died names one in the way.
use Rattle.std.proofs.Common.{Bool, List, None, Option, Some, [], ap, arith, false, length, refl, slice_get, slice_set, subst, sym, true, ℕ, ℤ, ⊎_elim, ◌<◌, ◌==◌, ◌∙◌, ◌≡◌}
use Rattle.std.proofs.lemmas.Bool.{eqb-true}
use Rattle.std.proofs.lemmas.List.{length-set}
use Rattle.std.proofs.lemmas.Option.{same_Some}
use Rattle.tp_types.proofs.ListLemmas.{number_itself}
use Rattle.tp_types.specs.Effect.{Effect, sends}
use Rattle.std.specs.Option.{option_flatten}
use Rattle.tp_lock.specs.Rule.{is_of_other, without_grant}
use Rattle.tp_lock.specs.declared.entry.Asked.TheVariants as asked
use Rattle.tp_lock.specs.declared.entry.Asked.{Asked}
use Rattle.tp_lock.specs.declared.entry.Grant.{Grant}
use Rattle.tp_lock.specs.declared.entry.LockEntry.{LockEntry}
use Rattle.tp_model.specs.Authorisation.{action_of}
use Rattle.tp_model.specs.Deeds.{deed_of}
use Rattle.tp_model.specs.Queries.{item_of}
use Rattle.tp_model.specs.Words.answer
use Rattle.tp_model.specs.Words.body
use Rattle.tp_model.specs.Words.{Answer, DoneReply, Fact, Letter, Mail, Query, QueryRequest, Scenario, ServerId, Settled, TxnId, Verdict}
use Rattle.tp_runs.proofs.basics.Facts.{ArePast}
use Rattle.tp_types.proofs.EachLemmas.{each_found, each_more, placed_emptied, placed_set, set_here}
use Rattle.tp_runs.proofs.basics.Locks.{EachLock, all_added, locks_as, released_locks, requested_locks}
use Rattle.tp_runs.proofs.deaths.Fit.{Death, DoneDies, LetterDies, LockFits, done_sent}
use Rattle.tp_server.proofs.Tables.{placed_within}
use Rattle.tp_runs.proofs.basics.Folds.{set_elsewhere}
use Rattle.tp_server.proofs.Rows.{AreRightWaits, IsAsking, IsFirstHere, IsFurther, IsResumed, refusing, resuming, server_by_locks, unwaiting, with_locks}
use Rattle.tp_types.specs.Each.{Each, EachPlaced}
use Rattle.tp_server.specs.declared.server.Entry.{Entry}
use Rattle.tp_server.specs.Row.{ack_letter, after_asking, answers_with, ballot_of, closes, entry_after, entry_at, followed_by, lock_answer, no_letter, pinned, prepared_record, refused_as, reply_letter, reply_of, server_row, settled_as, with_answer}
use Rattle.tp_server.specs.State.{Server}
use Rattle.tp_server.specs.Verdicts.{with_wants}
use Rattle.tp_store.specs.Contents.{Contents}

-- ---- what is kept

abbrev pub AnswersDie : Scenario → List Fact → ServerId → Entry → Type 0
AnswersDie sc facts at entry = Each (DoneDies sc facts at) entry.answers

-- a server that is up
pub record ServerDies (sc : Scenario) (facts : List Fact) (at : ServerId) (s : Server) : Type 0 where
  pub locks : EachLock (LockFits sc s.entries) s.locks
  pub kept : EachPlaced (λ (n : ℕ) (entry : Entry). AnswersDie sc facts at entry) s.entries

-- an act of a server in a step at this place
pub record RowDies (sc : Scenario) (facts : List Fact) (place : ℕ) (s : Server) (effect : Effect Server) : Type 0 where
  pub state : ServerDies sc facts s.server effect.state
  pub places : length effect.state.entries ≡ length s.entries
  pub letters : Each (LetterDies sc facts place) effect.reaction.letters

-- ---- locks as entries change

-- the entry of one transaction changes, and keeps its age
moved_in_deaths : (sc : Scenario) (entries : List (Option Entry)) (n : ℕ) (new : Entry) → n < length entries → ((old : Entry) → option_flatten (slice_get entries n) ≡ Some old → new.age ≡ old.age) → (item : ℕ) (lock : LockEntry) → LockFits sc entries item lock
    → LockFits sc (slice_set entries n (Some new)) item lock
moved_in_deaths sc entries n new within kept item lock h = by_owner (n == lock.owner.0) refl
  where
    by_owner : (b : Bool) → (n == lock.owner.0) ≡ b → LockFits sc (slice_set entries n (Some new)) item lock
    by_owner true e =
        let is : n ≡ lock.owner.0 = eqb-true n lock.owner.0 e in
        let there : option_flatten (slice_get (slice_set entries n (Some new)) n) ≡ Some new = ap option_flatten (set_here entries n (Some new) within) in
        record {
          entry = new;
          found = subst (λ (m : ℕ). option_flatten (slice_get (slice_set entries n (Some new)) m) ≡ Some new) is there;
          age_is = kept h.entry (subst (λ (m : ℕ). option_flatten (slice_get entries m) ≡ Some h.entry) (sym is) h.found) ∙ h.age_is;
          asked = h.asked;
        }
    by_owner false e = record { entry = h.entry; found = ap option_flatten (set_elsewhere entries n lock.owner.0 (Some new) e) ∙ h.found; age_is = h.age_is; asked = h.asked }

-- the entry of one transaction ends, and the locks of others stay
left_others : (sc : Scenario) (entries : List (Option Entry)) (owner : TxnId) (item : ℕ) (lock : LockEntry) → is_of_other owner lock ≡ true → LockFits sc entries item lock → LockFits sc (slice_set entries owner.0 None) item lock
left_others sc entries owner item lock apart h = record { entry = h.entry; found = ap option_flatten (set_elsewhere entries owner.0 lock.owner.0 None (other (owner.0 == lock.owner.0) refl)) ∙ h.found; age_is = h.age_is; asked = h.asked }
  where
    other : (b : Bool) → (owner.0 == lock.owner.0) ≡ b → (owner.0 == lock.owner.0) ≡ false
    other false e = e
    other true e =
        let same : owner.0 ≡ lock.owner.0 = eqb-true owner.0 lock.owner.0 e in
        let its : (lock.owner.0 == owner.0) ≡ true = ap (λ (m : ℕ). m == owner.0) (sym same) ∙ number_itself owner.0 in
        absurd (cc)

-- ---- a query asks

-- an entry that is there keeps its age as a query asks
age_kept : (sc : Scenario) (s : Server) (mail : Mail) (q : QueryRequest) (query : Query) (entry : Entry) (value : ℤ) → IsAsking sc s mail q query entry value → (old : Entry) → entry_at s q.txn ≡ Some old → entry.age ≡ old.age
age_kept sc s mail q query entry value k old found =
    ⊎_elim (λ (first : IsFirstHere s mail.sent q entry). let none = first.no_entry in absurd (cc)) (λ (further : IsFurther s q entry). ap (λ (e : Entry). e.age) (same_Some entry old (sym further.found ∙ found))) k.place

-- its answers so far
answers_kept : (sc : Scenario) (facts : List Fact) (at : ServerId) (s : Server) (mail : Mail) (q : QueryRequest) (query : Query) (entry : Entry) (value : ℤ) → IsAsking sc s mail q query entry value
    → EachPlaced (λ (n : ℕ) (found : Entry). AnswersDie sc facts at found) s.entries → AnswersDie sc facts at entry
answers_kept sc facts at s mail q query entry value k h =
    ⊎_elim (λ (first : IsFirstHere s mail.sent q entry). subst (AnswersDie sc facts at) (sym first.entry_is) tt) (λ (further : IsFurther s q entry). h q.txn.0 entry further.found) k.place

-- the locks once it asked, with its entry as it is then
asked_locks : (sc : Scenario) (s : Server) (mail : Mail) (q : QueryRequest) (query : Query) (entry new : Entry) (value : ℤ) (given : Asked) → lock_answer s q query entry ≡ given → IsAsking sc s mail q query entry value → q.txn.0 < length s.entries → new.age ≡ entry.age
    → EachLock (LockFits sc s.entries) s.locks → EachLock (LockFits sc (slice_set s.entries q.txn.0 (Some new))) (after_asking s q query entry).locks
asked_locks sc s mail q query entry new value given e k within same h =
    let entries = slice_set s.entries q.txn.0 (Some new) in
    requested_locks (LockFits sc entries) q.txn entry.age (item_of query) (action_of query) s.locks given e
    (locks_as (LockFits sc s.entries) (LockFits sc entries) s.locks (moved_in_deaths sc s.entries q.txn.0 new within (λ old found. same ∙ age_kept sc s mail q query entry value k old found)) h)
    (all_added (LockFits sc entries (item_of query).0) q.txn entry.age (action_of query)
    (λ held. record {
      entry = new;
      found = ap option_flatten (set_here s.entries q.txn.0 (Some new) within);
      age_is = same;
      asked = record { number = q.query; query = query; asked_is = k.asked_is; item_is = refl; mode_is = refl };
    }) given)

-- ---- rows

-- an act that changes neither entries nor locks
still_dies : (sc : Scenario) (facts : List Fact) (place : ℕ) (s : Server) (letters : List Letter) → ServerDies sc facts s.server s → Each (LetterDies sc facts place) letters → RowDies sc facts place s (sends s letters)
still_dies sc facts place s letters h said = record { state = h; places = refl; letters = said }

-- the end of a transaction
closes_dies : (sc : Scenario) (facts : List Fact) (place : ℕ) (s : Server) (order : Settled) (letter : Letter) → ServerDies sc facts s.server s → LetterDies sc facts place letter → RowDies sc facts place s (closes s order letter)
closes_dies sc facts place s order letter h said =
    record {
      state = record {
        locks = released_locks (LockFits sc s.entries) (LockFits sc (slice_set s.entries order.txn.0 None)) order.txn s.locks
            (λ item lock held k. record { entry = k.entry; found = k.found; age_is = k.age_is; asked = k.asked }) (left_others sc s.entries order.txn) h.locks;
        kept = placed_emptied (λ (n : ℕ) (entry : Entry). AnswersDie sc facts s.server entry) s.entries order.txn.0 h.kept;
      };
      places = length-set s.entries order.txn.0 None;
      letters = (said, tt);
    }

-- a query that asks has this answer, which ends its transaction; the server may have learnt a version
answers_dies : (sc : Scenario) (facts : List Fact) (place : ℕ) (s : Server) (mail : Mail) (q : QueryRequest) (query : Query) (entry : Entry) (value : ℤ) (by : Asked) (store : Contents) (given : Answer) → ArePast place facts → lock_answer s q query entry ≡ by
    → IsAsking sc s mail q query entry value → q.txn.0 < length s.entries → ServerDies sc facts s.server s → DoneDies sc facts s.server (reply_of q entry.epoch given) → RowDies sc facts place s (answers_with (record (after_asking s q query entry) { store = store }) q entry given)
answers_dies sc facts place s mail q query entry value by store given past e k within h said =
    let new = with_answer q entry given in
    record {
      state = record {
        locks = asked_locks sc s mail q query entry new value by e k within refl h.locks;
        kept = placed_set (λ (n : ℕ) (found : Entry). AnswersDie sc facts s.server found) s.entries q.txn.0 new h.kept
            (each_more (DoneDies sc facts s.server) entry.answers _ (answers_kept sc facts s.server s mail q query entry value k h.kept) said);
      };
      places = length-set s.entries q.txn.0 (Some new);
      letters = (done_sent sc facts place s.server (reply_of q entry.epoch given) past said, tt);
    }

-- the state once what waited has an answer, after what was done before: its entry keeps its age, and the answer is kept
resumed_state : (sc : Scenario) (facts : List Fact) (place : ℕ) (s : Server) (effect : Effect Server) (grant : Grant) (q : QueryRequest) (query : Query) (entry new : Entry) (value : ℤ) (store : Contents) → IsResumed sc s.server effect.state grant q query entry value
    → length s.entries ≡ length sc.txns → RowDies sc facts place s effect → new.age ≡ entry.age → AnswersDie sc facts s.server new
    → ServerDies sc facts s.server (record effect.state { store = store; entries = slice_set effect.state.entries q.txn.0 (Some new); locks = without_grant effect.state.locks })
resumed_state sc facts place s effect grant q query entry new value store k places h same said =
    let was = effect.state in
    let exists = k.exists in
    let within : q.txn.0 < length was.entries = let same_places = h.places in omega (arith, exists, same_places, places) in
    record {
      locks = locks_as (LockFits sc was.entries) (LockFits sc (slice_set was.entries q.txn.0 (Some new))) was.locks
          (moved_in_deaths sc was.entries q.txn.0 new within (λ old found. same ∙ ap (λ (e : Entry). e.age) (same_Some entry old (sym k.found ∙ found)))) h.state.locks;
      kept = placed_set (λ (n : ℕ) (found : Entry). AnswersDie sc facts s.server found) was.entries q.txn.0 new h.state.kept said;
    }

-- the answers so far of what waited
resumed_kept : (sc : Scenario) (facts : List Fact) (place : ℕ) (s : Server) (effect : Effect Server) (grant : Grant) (q : QueryRequest) (query : Query) (entry : Entry) (value : ℤ) → IsResumed sc s.server effect.state grant q query entry value
    → RowDies sc facts place s effect → Each (DoneDies sc facts s.server) entry.answers
resumed_kept sc facts place s effect grant q query entry value k h = h.state.kept q.txn.0 entry k.found

-- what waited runs, after what was done before
resumes_dies : (sc : Scenario) (facts : List Fact) (place : ℕ) (s : Server) (effect : Effect Server) (grant : Grant) (q : QueryRequest) (query : Query) (entry : Entry) (value : ℤ) (proof : Option Verdict) → IsResumed sc s.server effect.state grant q query entry value
    → length s.entries ≡ length sc.txns → RowDies sc facts place s effect → RowDies sc facts place s (with_locks (followed_by effect (resuming (pinned sc effect.state q (deed_of q.query query value)) q query entry value proof)) (without_grant effect.state.locks))
resumes_dies sc facts place s effect grant q query entry value proof k places h =
    let new = entry_after q (unwaiting entry) (deed_of q.query query value) proof in
    record {
      state = resumed_state sc facts place s effect grant q query entry new value _ k places h refl (each_more (DoneDies sc facts s.server) entry.answers _ (resumed_kept sc facts place s effect grant q query entry value k h) tt);
      places = length-set effect.state.entries q.txn.0 (Some new) ∙ h.places;
      letters = each_more (LetterDies sc facts place) effect.reaction.letters _ h.letters tt;
    }

-- what waited has an answer that ends its transaction; the server may have learnt a version
resumed_refused_dies : (sc : Scenario) (facts : List Fact) (place : ℕ) (s : Server) (effect : Effect Server) (grant : Grant) (q : QueryRequest) (query : Query) (entry : Entry) (value : ℤ) (store : Contents) (given : Answer) → IsResumed sc s.server effect.state grant q query entry value
    → length s.entries ≡ length sc.txns → RowDies sc facts place s effect → DoneDies sc facts s.server (reply_of q entry.epoch given) → LetterDies sc facts place (reply_letter effect.state q (unwaiting entry) given)
    → RowDies sc facts place s (with_locks (followed_by effect (refusing (record effect.state { store = store }) q entry given)) (without_grant effect.state.locks))
resumed_refused_dies sc facts place s effect grant q query entry value store given k places h said sent =
    let new = with_answer q (unwaiting entry) given in
    record {
      state = resumed_state sc facts place s effect grant q query entry new value store k places h refl (each_more (DoneDies sc facts s.server) entry.answers _ (resumed_kept sc facts place s effect grant q query entry value k h) said);
      places = length-set effect.state.entries q.txn.0 (Some new) ∙ h.places;
      letters = each_more (LetterDies sc facts place) effect.reaction.letters _ h.letters sent;
    }

-- what is known of a query that asks: it is of a transaction of the scenario, and where an older one stands in the way its transaction is to die
pub record AskerKnown (sc : Scenario) (facts : List Fact) (s : Server) (mail : Mail) : Type 0 where
  pub places : length s.entries ≡ length sc.txns
  pub exists : (q : QueryRequest) → mail.letter.body ≡ body.Query q → q.txn.0 < length sc.txns
  pub dying : (q : QueryRequest) (query : Query) (entry : Entry) (value : ℤ) (other : TxnId) → IsAsking sc s mail q query entry value → lock_answer s q query entry ≡ asked.Dies other → Death sc facts s.server q.txn other q.query

-- every row of a server on receipt of a mail
pub server_row_dies : (sc : Scenario) (facts : List Fact) (place : ℕ) (s : Server) (mail : Mail) → ArePast place facts → AreRightWaits sc s → AskerKnown sc facts s mail → ServerDies sc facts s.server s → RowDies sc facts place s (server_row sc s mail)
server_row_dies sc facts place s mail past rightly known h =
    server_by_locks sc s mail (RowDies sc facts place s) rightly
    (record {
      ignored = still_dies sc facts place s [] h tt;
      ran = λ q query entry value proof k granted r.
          let new = entry_after q entry (deed_of q.query query value) proof in
          let within = within_for q k.said_is in
          record {
            state = record {
              locks = asked_locks sc s mail q query entry new value asked.Granted granted k within refl h.locks;
              kept = placed_set (λ (n : ℕ) (found : Entry). AnswersDie sc facts s.server found) s.entries q.txn.0 new h.kept
                  (each_more (DoneDies sc facts s.server) entry.answers _ (answers_kept sc facts s.server s mail q query entry value k h.kept) tt);
            };
            places = length-set s.entries q.txn.0 (Some new);
            letters = (tt, tt);
          };
      denied = λ q query entry value verdict k granted d. answers_dies sc facts place s mail q query entry value asked.Granted (pinned sc (after_asking s q query entry) q (deed_of q.query query value)).store (answer.Denied verdict) past granted k (within_for q k.said_is) h tt;
      outdated = λ q query entry value newer k granted found. answers_dies sc facts place s mail q query entry value asked.Granted s.store (answer.Newer newer) past granted k (within_for q k.said_is) h tt;
      waited = λ q query entry value k waiting.
          let new : Entry = record entry { waiting = Some q } in
          record {
            state = record {
              locks = asked_locks sc s mail q query entry new value asked.Waits waiting k (within_for q k.said_is) refl h.locks;
              kept = placed_set (λ (n : ℕ) (found : Entry). AnswersDie sc facts s.server found) s.entries q.txn.0 new h.kept (answers_kept sc facts s.server s mail q query entry value k h.kept);
            };
            places = length-set s.entries q.txn.0 (Some new);
            letters = tt;
          };
      died = λ q query entry value other k dying.
          answers_dies sc facts place s mail q query entry value (asked.Dies other) s.store (answer.Died other) past dying k (within_for q k.said_is) h (known.dying q query entry value other k dying);
      restarted = λ q k. still_dies sc facts place s _ h (tt, tt);
      answered = λ q entry given k.
          still_dies sc facts place s _ h
          (done_sent sc facts place s.server given past (each_found (DoneDies sc facts s.server) (λ (d : DoneReply). d.query == q.query) entry.answers given (h.kept q.txn.0 entry k.found) k.given_is), tt);
      voted = λ p entry verdicts k.
          let voted : Entry = record entry { ballot = Some (ballot_of (prepared_record (with_wants s p.want) p entry verdicts)) } in
          let within = placed_within s.entries p.txn.0 entry k.found in
          record {
            state = record {
              locks = locks_as (LockFits sc s.entries) (LockFits sc (slice_set s.entries p.txn.0 (Some voted))) s.locks
                  (moved_in_deaths sc s.entries p.txn.0 voted within (λ old found. ap (λ (e : Entry). e.age) (same_Some entry old (sym k.found ∙ found)))) h.locks;
              kept = placed_set (λ (n : ℕ) (found : Entry). AnswersDie sc facts s.server found) s.entries p.txn.0 voted h.kept (h.kept p.txn.0 entry k.found);
            };
            places = length-set s.entries p.txn.0 (Some voted);
            letters = (tt, tt);
          };
      shown = λ v entry txn k. record { state = record { locks = h.locks; kept = h.kept }; places = refl; letters = (tt, tt) };
      lost_verdicts = λ v k. still_dies sc facts place s _ h (tt, tt);
      voted_again = λ p entry cast k. still_dies sc facts place s _ h (tt, tt);
      refused = λ p entry number value k. closes_dies sc facts place s (refused_as p _) (no_letter s p _) h tt;
      lost = λ p k. closes_dies sc facts place s (refused_as p _) (no_letter s p _) h tt;
      refused_again = λ p settled why k. still_dies sc facts place s _ h (tt, tt);
      settled = λ d k. closes_dies sc facts place s (settled_as d) (ack_letter s d.txn) h tt;
      acknowledged = λ d settled k. still_dies sc facts place s _ h (tt, tt);
      pushed = λ push k. record { state = record { locks = h.locks; kept = h.kept }; places = refl; letters = tt };
      passed = λ effect grant first nobody k. record { state = record { locks = k.state.locks; kept = k.state.kept }; places = k.places; letters = k.letters };
      resumed = λ effect grant q query entry value proof k r now. resumes_dies sc facts place s effect grant q query entry value proof k known.places now;
      resumed_denied = λ effect grant q query entry value verdict k d now.
          resumed_refused_dies sc facts place s effect grant q query entry value (pinned sc effect.state q (deed_of q.query query value)).store (answer.Denied verdict) k known.places now tt tt;
      resumed_outdated = λ effect grant q query entry value newer k found now.
          resumed_refused_dies sc facts place s effect grant q query entry value effect.state.store (answer.Newer newer) k known.places now tt tt;
    })
  where
    within_for : (q : QueryRequest) → mail.letter.body ≡ body.Query q → q.txn.0 < length s.entries
    within_for q e = let exists = known.exists q e in let places = known.places in omega (arith, exists, places)
