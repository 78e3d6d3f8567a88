-- Served, a server's row: a query that waits goes on to wait, or is answered, or its transaction is settled; and an
-- awaited request is answered, or its query waits.
use Rattle.std.specs.Option.{option_flatten}
use Rattle.std.proofs.Common.{Bool, List, None, Option, Some, [], ap, arith, false, if◌then◌else◌, inl, inr, is_none, is_some, length, nat_lt, not, refl, slice_get, slice_set, subst, suc, sym, true, zero, ℕ, ℤ, ⊎_elim, ◌&&◌, ◌++◌, ◌<◌, ◌==◌, ◌∙◌, ◌∷◌, ◌≡◌, ◌≤◌, ◌⊎◌}
use Rattle.std.proofs.lemmas.Bool.{eqb-true}
use Rattle.std.proofs.lemmas.Bool.Decides.{nat_tests}
use Rattle.std.proofs.lemmas.Option.{same_Some, slice_get_within}
use Rattle.tp_types.proofs.EachLemmas.{by_cond, found_passes, set_here, some_value}
use Rattle.tp_types.proofs.ListLemmas.{number_itself}
use Rattle.tp_types.specs.Effect.{Effect, sends}
use Rattle.tp_types.specs.Table.{is_unset}
use Rattle.tp_lock.specs.Rule.{after_release}
use Rattle.tp_lock.specs.declared.entry.Asked.{Asked}
use Rattle.tp_lock.specs.declared.entry.Asked.TheVariants.{Dies, Granted, Waits}
use Rattle.tp_lock.specs.declared.entry.Grant.{Grant}
use Rattle.tp_model.specs.Deeds.{deed_of}
use Rattle.tp_model.specs.Words.actor
use Rattle.tp_model.specs.Words.answer
use Rattle.tp_model.specs.Words.body
use Rattle.tp_model.specs.Words.no
use Rattle.tp_model.specs.Words.query
use Rattle.tp_model.specs.Words.{Answer, DecideRequest, Deed, DoneReply, Letter, Mail, Newer, No, PrepareRequest, Query, QueryRequest, Scenario, ServerId, Settled, Staple, Transaction, TxnId, ValidateRequest, Verdict}
use Rattle.tp_runs.proofs.basics.Folds.{set_elsewhere}
use Rattle.tp_runs.proofs.basics.Ids.{txn_number}
use Rattle.tp_runs.proofs.served.Awaited.{Kind, OfAck, OfDone, OfVerdicts, OfVote, WaitsIn, is_reply}
use Rattle.tp_runs.proofs.served.Lists.{AnyOf, any_left, any_right}
use Rattle.tp_server.proofs.Rows.{AreRightWaits, IsAsking, IsFirstHere, IsFurther, IsResumed, refusing, resuming, server_by, unwaiting}
use Rattle.tp_server.specs.Row as server
use Rattle.tp_server.specs.State.{Server}
use Rattle.tp_server.specs.Values.{HasValue}
use Rattle.tp_server.specs.Verdicts.{admin_of, verdicts_on, with_wants}
use Rattle.tp_store.specs.Rule.{first_outside_in, read_in}
use Rattle.tp_server.specs.declared.server.Ballot.{Ballot}
use Rattle.tp_server.specs.declared.server.Entry.{Entry}

-- ---- a reply

-- the letter is a server's reply to a request of this kind, of the transaction and the turn
pub record Replies (at : ServerId) (txn : TxnId) (turn : ℕ) (kind : Kind) (letter : Letter) : Type 0 where
  pub goes_to : letter.to ≡ actor.Coordinator txn
  pub from_is : letter.from ≡ actor.Server at
  pub says : is_reply turn kind letter.body ≡ true

both_true : (a b : Bool) → a ≡ true → b ≡ true → (a && b) ≡ true
both_true true true e f = refl
both_true false b e f = absurd (cc)
both_true true false e f = absurd (cc)

same_numbers : (one other : ℕ) → one ≡ other → (one == other) ≡ true
same_numbers one other e = subst (λ (n : ℕ). (one == n) ≡ true) e (number_itself one)

-- the answer to a query is a reply to it
answer_replies : (s : Server) (q : QueryRequest) (txn : TxnId) (done : DoneReply) (turn number : ℕ) → txn ≡ q.txn → done.turn ≡ turn → done.query ≡ number → Replies s.server txn turn (OfDone number) (server.reply s q.txn (body.Done done))
answer_replies s q txn done turn number same turns numbers =
    record {
      goes_to = ap (λ (t : TxnId). actor.Coordinator t) (sym same);
      from_is = refl;
      says = both_true (done.turn == turn) (done.query == number) (same_numbers done.turn turn turns) (same_numbers done.query number numbers);
    }

-- ---- what waits

-- what waits at an entry of another transaction waits on
elsewhere_waits : (entries : List (Option Entry)) (n : ℕ) (new : Option Entry) (txn : TxnId) (turn number : ℕ) → (n == txn.0) ≡ false → WaitsIn txn turn number entries → WaitsIn txn turn number (slice_set entries n new)
elsewhere_waits entries n new txn turn number apart h =
    record { entry = h.entry; q = h.q; found = ap option_flatten (set_elsewhere entries n txn.0 new apart) ∙ h.found; waiting_is = h.waiting_is; turn_is = h.turn_is; query_is = h.query_is }

-- it goes on to wait, or is answered, or the transaction is settled
abbrev pub Still : ServerId → TxnId → ℕ → ℕ → Effect Server → Type 0
Still at txn turn number effect =
    WaitsIn txn turn number effect.state.entries ⊎ (AnyOf (Replies at txn turn (OfDone number)) effect.reaction.letters ⊎ (is_unset (slice_get effect.state.settled txn.0) ≡ false))

abbrev pub StillAll : Server → Effect Server → Type 0
StillAll s effect = (txn : TxnId) (turn number : ℕ) → WaitsIn txn turn number s.entries → Still s.server txn turn number effect

placed_within : {A : Type 0} (table : List (Option A)) (n : ℕ) (x : A) → option_flatten (slice_get table n) ≡ Some x → n < length table
placed_within {A = A} table n x e = by_found (slice_get table n) refl e
  where
    by_found : (found : Option (Option A)) → slice_get table n ≡ found → option_flatten found ≡ Some x → n < length table
    by_found None f g = absurd (cc)
    by_found (Some there) f g = slice_get_within table n there f

none_waits : (waiting : Option QueryRequest) (q : QueryRequest) → is_some waiting ≡ false → waiting ≡ Some q → ⊥
none_waits None q e f = cc
none_waits (Some r) q e f = cc

-- no query waits where a further one asks
asking_waits : (sc : Scenario) (s : Server) (mail : Mail) (q : QueryRequest) (query : Query) (entry : Entry) (value : ℤ) (new : Option Entry) (txn : TxnId) (turn number : ℕ) → IsAsking sc s mail q query entry value
    → WaitsIn txn turn number s.entries → WaitsIn txn turn number (slice_set s.entries q.txn.0 new)
asking_waits sc s mail q query entry value new txn turn number k h = by_same (q.txn.0 == txn.0) refl
  where
    found_here : (q.txn.0 == txn.0) ≡ true → server.entry_at s q.txn ≡ Some h.entry
    found_here same = subst (λ (n : ℕ). option_flatten (slice_get s.entries n) ≡ Some h.entry) (sym (eqb-true q.txn.0 txn.0 same)) h.found

    first : (q.txn.0 == txn.0) ≡ true → IsFirstHere s mail.sent q entry → ⊥
    first same k = let found = found_here same in let none = k.no_entry in cc

    further : (q.txn.0 == txn.0) ≡ true → IsFurther s q entry → ⊥
    further same k = none_waits entry.waiting h.q k.idle (ap (λ (x : Entry). x.waiting) (same_Some entry h.entry (sym k.found ∙ found_here same)) ∙ h.waiting_is)

    by_same : (b : Bool) → (q.txn.0 == txn.0) ≡ b → WaitsIn txn turn number (slice_set s.entries q.txn.0 new)
    by_same true same = absurd (⊎_elim (first same) (further same) k.place)
    by_same false apart = elsewhere_waits s.entries q.txn.0 new txn turn number apart h

-- a vote leaves what waits
voted_waits : (s : Server) (txn : TxnId) (turn number : ℕ) (voted : TxnId) (entry new : Entry) → server.entry_at s voted ≡ Some entry → new.waiting ≡ entry.waiting → WaitsIn txn turn number s.entries
    → WaitsIn txn turn number (slice_set s.entries voted.0 (Some new))
voted_waits s txn turn number voted entry new found same_waiting h = by_same (voted.0 == txn.0) refl
  where
    by_same : (b : Bool) → (voted.0 == txn.0) ≡ b → WaitsIn txn turn number (slice_set s.entries voted.0 (Some new))
    by_same true same =
        let number_is : voted.0 ≡ txn.0 = eqb-true voted.0 txn.0 same in
        let was : server.entry_at s voted ≡ Some h.entry = subst (λ (n : ℕ). option_flatten (slice_get s.entries n) ≡ Some h.entry) (sym number_is) h.found in
        let now : option_flatten (slice_get (slice_set s.entries voted.0 (Some new)) voted.0) ≡ Some new = ap option_flatten (set_here s.entries voted.0 (Some new) (placed_within s.entries voted.0 entry found)) in
        record {
          entry = new;
          q = h.q;
          found = subst (λ (n : ℕ). option_flatten (slice_get (slice_set s.entries voted.0 (Some new)) n) ≡ Some new) number_is now;
          waiting_is = same_waiting ∙ (ap (λ (x : Entry). x.waiting) (same_Some entry h.entry (sym found ∙ was)) ∙ h.waiting_is);
          turn_is = h.turn_is;
          query_is = h.query_is;
        }
    by_same false apart = elsewhere_waits s.entries voted.0 (Some new) txn turn number apart h

settled_set : (settled : List (Option Settled)) (n : ℕ) (done : Settled) → is_unset (slice_get (slice_set settled n (Some done)) n) ≡ false
settled_set [] n done = refl
settled_set (first ∷ settled) zero done = refl
settled_set (first ∷ settled) (suc n) done = settled_set settled n done

-- the end of a transaction leaves what waits of others
closed_waits : (s : Server) (done : Settled) (letter : Letter) → StillAll s (server.closes s done letter)
closed_waits s done letter txn turn number h = by_same (done.txn.0 == txn.0) refl
  where
    by_same : (b : Bool) → (done.txn.0 == txn.0) ≡ b → Still s.server txn turn number (server.closes s done letter)
    by_same true same = inr (inr (subst (λ (n : ℕ). is_unset (slice_get (slice_set s.settled done.txn.0 (Some done)) n) ≡ false) (eqb-true done.txn.0 txn.0 same) (settled_set s.settled done.txn.0 done)))
    by_same false apart = inl (elsewhere_waits s.entries done.txn.0 None txn turn number apart h)

-- a query that waited is answered, and others wait on
resumed_waits : (sc : Scenario) (s : Server) (effect next : Effect Server) (grant : Grant) (q : QueryRequest) (query : Query) (entry : Entry) (value : ℤ) (new : Option Entry) (given : Answer) → IsResumed sc s.server effect.state grant q query entry value
    → next.state.entries ≡ slice_set effect.state.entries q.txn.0 new → next.state.settled ≡ effect.state.settled → next.reaction.letters ≡ effect.reaction.letters ++ server.reply_letter effect.state q (unwaiting entry) given ∷ []
    → StillAll s effect → StillAll s next
resumed_waits sc s effect next grant q query entry value new given k entries settled letters all txn turn number h =
    ⊎_elim waits (λ (other : AnyOf (Replies s.server txn turn (OfDone number)) effect.reaction.letters ⊎ (is_unset (slice_get effect.state.settled txn.0) ≡ false)).
    inr (⊎_elim
    (λ (said : AnyOf (Replies s.server txn turn (OfDone number)) effect.reaction.letters). inl (subst (AnyOf (Replies s.server txn turn (OfDone number))) (sym letters)
    (any_left (Replies s.server txn turn (OfDone number)) effect.reaction.letters (server.reply_letter effect.state q (unwaiting entry) given ∷ []) said)))
    (λ (closed : is_unset (slice_get effect.state.settled txn.0) ≡ false). inr (subst (λ (table : List (Option Settled)). is_unset (slice_get table txn.0) ≡ false) (sym settled) closed)) other))
    (all txn turn number h)
  where
    answered : (q.txn.0 == txn.0) ≡ true → WaitsIn txn turn number effect.state.entries → Replies s.server txn turn (OfDone number) (server.reply_letter effect.state q (unwaiting entry) given)
    answered same w =
        let number_is : q.txn.0 ≡ txn.0 = eqb-true q.txn.0 txn.0 same in
        let was : server.entry_at effect.state q.txn ≡ Some w.entry = subst (λ (n : ℕ). option_flatten (slice_get effect.state.entries n) ≡ Some w.entry) (sym number_is) w.found in
        let asked : q ≡ w.q = same_Some q w.q (sym k.waiting_is ∙ (ap (λ (x : Entry). x.waiting) (same_Some entry w.entry (sym k.found ∙ was)) ∙ w.waiting_is)) in
        let same_txn_one : txn ≡ q.txn = ap txn_number (sym number_is) in
        subst (λ (at : ServerId). Replies at txn turn (OfDone number) (server.reply_letter effect.state q (unwaiting entry) given)) k.server_is
        (answer_replies effect.state q txn (server.reply_of q (unwaiting entry).epoch given) turn number same_txn_one (ap (λ (r : QueryRequest). r.turn) asked ∙ w.turn_is) (ap (λ (r : QueryRequest). r.query) asked ∙ w.query_is))

    waits : WaitsIn txn turn number effect.state.entries → Still s.server txn turn number next
    waits w = by_same (q.txn.0 == txn.0) refl
      where
        by_same : (b : Bool) → (q.txn.0 == txn.0) ≡ b → Still s.server txn turn number next
        by_same true same =
            inr (inl (subst (AnyOf (Replies s.server txn turn (OfDone number))) (sym letters)
            (any_right (Replies s.server txn turn (OfDone number)) effect.reaction.letters (server.reply_letter effect.state q (unwaiting entry) given ∷ []) (inl (answered same w)))))
        by_same false apart = inl (subst (WaitsIn txn turn number) (sym entries) (elsewhere_waits effect.state.entries q.txn.0 new txn turn number apart w))

-- each row of a server
pub server_row_waits : (sc : Scenario) (s : Server) (mail : Mail) → AreRightWaits sc s → StillAll s (server.server_row sc s mail)
server_row_waits sc s mail waits =
    server_by sc s mail (StillAll s) waits
    (record {
      relocked = λ effect locks k. k;
      relearnt = λ effect admin pin k. k;
      ignored = λ txn turn number h. inl h;
      ran = λ q query entry value proof k r txn turn number h. inl (asking_waits sc s mail q query entry value (Some (server.entry_after q entry (deed_of q.query query value) proof)) txn turn number k h);
      denied = λ q query entry value verdict k d txn turn number h. inl (asking_waits sc s mail q query entry value (Some (server.with_answer q entry (answer.Denied verdict))) txn turn number k h);
      outdated = λ q query entry value newer k found txn turn number h. inl (asking_waits sc s mail q query entry value (Some (server.with_answer q entry (answer.Newer newer))) txn turn number k h);
      waited = λ q query entry value k txn turn number h. inl (asking_waits sc s mail q query entry value (Some (record entry { waiting = Some q })) txn turn number k h);
      died = λ q query entry value other k dying txn turn number h. inl (asking_waits sc s mail q query entry value (Some (server.with_answer q entry (answer.Died other))) txn turn number k h);
      restarted = λ q k txn turn number h. inl h;
      answered = λ q entry given k txn turn number h. inl h;
      voted = λ p entry verdicts k txn turn number h.
          inl (voted_waits s txn turn number p.txn entry (record entry { ballot = Some (server.ballot_of (server.prepared_record (with_wants s p.want) p entry verdicts)) }) k.found refl h);
      shown = λ v entry declared k txn turn number h. inl h;
      lost_verdicts = λ v k txn turn number h. inl h;
      voted_again = λ p entry cast k txn turn number h. inl h;
      refused = λ p entry out value k. closed_waits s (server.refused_as p (no.Range out value)) (server.no_letter s p (no.Range out value));
      lost = λ p k. closed_waits s (server.refused_as p no.Restarted) (server.no_letter s p no.Restarted);
      refused_again = λ p settled why k txn turn number h. inl h;
      settled = λ d k. closed_waits s (server.settled_as d) (server.ack_letter s d.txn);
      acknowledged = λ d settled k txn turn number h. inl h;
      pushed = λ push k txn turn number h. inl h;
      resumed = λ effect grant q query entry value proof k r now.
          resumed_waits sc s effect (server.followed_by effect (resuming effect.state q query entry value proof)) grant q query entry value (Some (server.entry_after q (unwaiting entry) (deed_of q.query query value) proof)) (server.ran_as (deed_of q.query query value) proof) k refl refl refl now;
      resumed_denied = λ effect grant q query entry value verdict k d now.
          resumed_waits sc s effect (server.followed_by effect (refusing effect.state q entry (answer.Denied verdict))) grant q query entry value (Some (server.with_answer q (unwaiting entry) (answer.Denied verdict))) (answer.Denied verdict) k refl refl refl now;
      resumed_outdated = λ effect grant q query entry value newer k found now.
          resumed_waits sc s effect (server.followed_by effect (refusing effect.state q entry (answer.Newer newer))) grant q query entry value (Some (server.with_answer q (unwaiting entry) (answer.Newer newer))) (answer.Newer newer) k refl refl refl now;
    })

-- ---- requests

-- a query of a transaction that is open here: it may run, or was answered or waits in its turn
pub record MayRun (sc : Scenario) (s : Server) (q : QueryRequest) : Type 0 where
  pub unsettled : server.is_open s q.txn ≡ true
  pub unvoted : (entry : Entry) → server.entry_at s q.txn ≡ Some entry → is_some entry.ballot ≡ false
  pub given : (entry : Entry) (done : DoneReply) → server.entry_at s q.txn ≡ Some entry → server.answer_to entry q.query ≡ Some done → done.turn ≡ q.turn
  pub waits : (entry : Entry) (other : QueryRequest) → server.entry_at s q.txn ≡ Some entry → server.names_another_epoch q entry ≡ false → entry.waiting ≡ Some other → (other.turn ≡ q.turn) × (other.query ≡ q.query)
  pub asked : Query
  pub asked_is : server.asked_query sc q ≡ Some asked
  pub has_value : HasValue asked q.value
  pub within : q.txn.0 < length s.entries

-- the query is answered, or waits
abbrev pub IsHandled : ServerId → QueryRequest → Effect Server → Type 0
IsHandled at q effect = AnyOf (Replies at q.txn q.turn (OfDone q.query)) effect.reaction.letters ⊎ WaitsIn q.txn q.turn q.query effect.state.entries

own_answer : (s : Server) (q : QueryRequest) (entry : Entry) (given : Answer) → Replies s.server q.txn q.turn (OfDone q.query) (server.reply_letter s q entry given)
own_answer s q entry given = answer_replies s q q.txn (server.reply_of q entry.epoch given) q.turn q.query refl refl refl

run_by_replies : (s : Server) (q : QueryRequest) (asked : Query) (entry : Entry) (deed : Deed) (proof : Option Verdict) → AnyOf (Replies s.server q.txn q.turn (OfDone q.query)) (server.runs_by s q asked entry deed proof).reaction.letters
run_by_replies s q asked entry deed None = inl (own_answer s q entry (server.ran_as deed None))
run_by_replies s q asked entry deed (Some verdict) =
    by_cond (λ (effect : Effect Server). AnyOf (Replies s.server q.txn q.turn (OfDone q.query)) effect.reaction.letters) (is_none verdict.rule)
    (λ fails. inl (own_answer s q entry (answer.Denied verdict))) (λ holds. inl (own_answer s q entry (server.ran_as deed (Some verdict))))

run_at_replies : (sc : Scenario) (s : Server) (q : QueryRequest) (asked : Query) (entry : Entry) (deed : Deed) (newer : Option Newer) → AnyOf (Replies s.server q.txn q.turn (OfDone q.query)) (server.runs_at sc s q asked entry deed newer).reaction.letters
run_at_replies sc s q asked entry deed (Some newer) = inl (own_answer s q entry (answer.Newer newer))
run_at_replies sc s q asked entry deed None = run_by_replies (server.pinned sc s q deed) q asked entry deed (server.verdict_at sc (server.pinned sc s q deed) q deed)

lock_handles : (sc : Scenario) (s : Server) (q : QueryRequest) (asked : Query) (entry : Entry) (value : ℤ) (said : Asked) → q.txn.0 < length s.entries → IsHandled s.server q (server.by_lock sc (server.after_asking s q asked entry) q asked entry value said)
lock_handles sc s q asked entry value Granted within =
    let deed = deed_of q.query asked value in
    let now = server.after_asking s q asked entry in
    inl (run_at_replies sc now q asked entry deed (server.newer_known now (admin_of sc deed.item) q.pin))
lock_handles sc s q asked entry value Waits within =
    inr (record {
      entry = record entry { waiting = Some q };
      q = q;
      found = ap option_flatten (set_here s.entries q.txn.0 (Some (record entry { waiting = Some q })) within);
      waiting_is = refl;
      turn_is = refl;
      query_is = refl;
    })
lock_handles sc s q asked entry value (Dies other) within = inl (inl (own_answer (server.after_asking s q asked entry) q entry (answer.Died other)))

run_value : (s : Server) (q : QueryRequest) (asked : Query) → HasValue asked q.value → (value : ℤ) × (server.value_of_run s q asked ≡ Some value)
run_value s q (query.Read item into) h = (read_in s.store q.txn item, refl)
run_value s q (query.Write item expr) h = some_value q.value h

asks_handles : (sc : Scenario) (s : Server) (q : QueryRequest) (entry : Entry) → MayRun sc s q → IsHandled s.server q (server.asks sc s q entry)
asks_handles sc s q entry k =
    let value = run_value s q k.asked k.has_value in
    subst (λ (asked : Option Query). IsHandled s.server q (server.asks_query sc s q entry asked)) (sym k.asked_is)
    (subst (λ (v : Option ℤ). IsHandled s.server q (server.asks_with sc s q k.asked entry v)) (sym value.1)
    (lock_handles sc s q k.asked entry value.0 (server.lock_answer s q k.asked entry) k.within))

restart_replies : (s : Server) (q : QueryRequest) → IsHandled s.server q (server.restarts s q)
restart_replies s q = inl (inl (answer_replies s q q.txn (server.reply_of q s.epoch answer.Restarted) q.turn q.query refl refl refl))

unlost_handles : (sc : Scenario) (s : Server) (q : QueryRequest) (entry : Entry) (given : Option DoneReply) → MayRun sc s q → server.entry_at s q.txn ≡ Some entry → server.names_another_epoch q entry ≡ false → server.answer_to entry q.query ≡ given
    → IsHandled s.server q (server.on_unlost_query sc s q entry given)
unlost_handles sc s q entry (Some done) k found same e =
    let number : done.query ≡ q.query = eqb-true done.query q.query (found_passes (λ (d : DoneReply). d.query == q.query) entry.answers done e) in
    inl (inl (answer_replies s q q.txn done q.turn q.query refl (k.given entry done found e) number))
unlost_handles sc s q entry None k found same e = by_waiting entry.waiting refl
  where
    by_waiting : (waiting : Option QueryRequest) → entry.waiting ≡ waiting → IsHandled s.server q (if is_some waiting then sends s [] else server.asks sc s q entry)
    by_waiting (Some other) w =
        let now = k.waits entry other found same w in
        inr (record { entry = entry; q = other; found = found; waiting_is = w; turn_is = now.0; query_is = now.1 })
    by_waiting None w = asks_handles sc s q entry k

again_handles : (sc : Scenario) (s : Server) (q : QueryRequest) (entry : Entry) → MayRun sc s q → server.entry_at s q.txn ≡ Some entry → IsHandled s.server q (server.on_query_again sc s q entry)
again_handles sc s q entry k found =
    by_cond (IsHandled s.server q) (is_some entry.ballot) (λ voted. let none = k.unvoted entry found in absurd (cc))
    (λ unvoted. by_cond (IsHandled s.server q) (server.names_another_epoch q entry) (λ another. restart_replies s q)
    (λ same. unlost_handles sc s q entry (server.answer_to entry q.query) k found same refl))

open_handles : (sc : Scenario) (s : Server) (sent : ℕ) (q : QueryRequest) (entry : Option Entry) → MayRun sc s q → server.entry_at s q.txn ≡ entry → IsHandled s.server q (server.on_open_query sc s sent q entry)
open_handles sc s sent q None k found =
    by_cond (IsHandled s.server q) (is_some q.epoch) (λ named. restart_replies s q) (λ unnamed. asks_handles sc s q (server.new_entry s (server.age_of q sent)) k)
open_handles sc s sent q (Some entry) k found = again_handles sc s q entry k found

-- a query that may run is answered, or waits
pub query_handled : (sc : Scenario) (s : Server) (sent : ℕ) (q : QueryRequest) → MayRun sc s q → IsHandled s.server q (server.on_query sc s sent q)
query_handled sc s sent q k =
    subst (λ (b : Bool). IsHandled s.server q (if b then server.on_open_query sc s sent q (server.entry_at s q.txn) else sends s [])) (sym k.unsettled)
    (open_handles sc s sent q (server.entry_at s q.txn) k refl)

-- ---- Validate

pub record MayShow (sc : Scenario) (s : Server) (v : ValidateRequest) : Type 0 where
  pub unsettled : server.is_open s v.txn ≡ true
  pub unvoted : (entry : Entry) → server.entry_at s v.txn ≡ Some entry → is_some entry.ballot ≡ false
  pub declared : Transaction
  pub declared_is : slice_get sc.txns v.txn.0 ≡ Some declared

abbrev pub IsShown : ServerId → ValidateRequest → Effect Server → Type 0
IsShown at v effect = AnyOf (Replies at v.txn v.turn OfVerdicts) effect.reaction.letters

shows_replies : (s : Server) (v : ValidateRequest) (verdicts : Option (List Verdict)) → IsShown s.server v (server.shows s v verdicts)
shows_replies s v verdicts = inl (record { goes_to = refl; from_is = refl; says = both_true (v.turn == v.turn) true (number_itself v.turn) refl })

asked_to_show_replies : (sc : Scenario) (s : Server) (v : ValidateRequest) (entry : Option Entry) → MayShow sc s v → server.entry_at s v.txn ≡ entry → IsShown s.server v (server.asked_to_show sc s v entry)
asked_to_show_replies sc s v None k found = shows_replies s v None
asked_to_show_replies sc s v (Some entry) k found =
    by_cond (IsShown s.server v) (is_some entry.ballot) (λ voted. let none = k.unvoted entry found in absurd (cc))
    (λ unvoted. by_cond (IsShown s.server v) (not (entry.epoch == v.epoch)) (λ another. shows_replies s v None)
    (λ same. subst (λ (txn : Option Transaction). IsShown s.server v (server.shows_with sc s v entry txn)) (sym k.declared_is)
    (shows_replies (with_wants s v.want) v (Some (verdicts_on sc (with_wants s v.want) k.declared v.staple v.want entry.deeds)))))

pub validate_shown : (sc : Scenario) (s : Server) (v : ValidateRequest) → MayShow sc s v → IsShown s.server v (server.on_validate sc s v)
validate_shown sc s v k =
    subst (λ (b : Bool). IsShown s.server v (if b then server.asked_to_show sc s v (server.entry_at s v.txn) else sends s [])) (sym k.unsettled)
    (asked_to_show_replies sc s v (server.entry_at s v.txn) k refl)

-- ---- the end of a transaction

-- what was said before grants are taken is said after them
grants_keep : (sc : Scenario) (P : Letter → Type 0) (grants : List Grant) (effect : Effect Server) → AnyOf P effect.reaction.letters → AnyOf P (server.after_grants sc grants effect).reaction.letters
grants_keep sc P [] effect h = h
grants_keep sc P (grant ∷ grants) effect h =
    grants_keep sc P grants (server.after_grant sc effect grant) (any_left P effect.reaction.letters (server.resumes sc (server.taken_from effect.state) grant.owner).reaction.letters h)

-- the letter of the end is the first
ends_say : (sc : Scenario) (s : Server) (done : Settled) (letter : Letter) (P : Letter → Type 0) → P letter → AnyOf P (server.ends sc s done letter).reaction.letters
ends_say sc s done letter P h = grants_keep sc P (after_release done.txn s.locks).grants (server.closes s done letter) (inl h)

-- ---- Prepare

pub record MayVote (sc : Scenario) (s : Server) (p : PrepareRequest) : Type 0 where
  pub refused : server.is_open s p.txn ≡ false → (settled : Settled) × ((option_flatten (slice_get s.settled p.txn.0) ≡ Some settled) × (is_some settled.why ≡ true))
  pub later : (entry : Entry) (cast : Ballot) → server.entry_at s p.txn ≡ Some entry → entry.ballot ≡ Some cast → cast.turn ≤ p.turn
  pub declared : Transaction
  pub declared_is : slice_get sc.txns p.txn.0 ≡ Some declared

abbrev pub IsVoted : ServerId → PrepareRequest → Effect Server → Type 0
IsVoted at p effect = AnyOf (Replies at p.txn p.turn OfVote) effect.reaction.letters

no_replies : (s : Server) (p : PrepareRequest) (why : No) → Replies s.server p.txn p.turn OfVote (server.no_letter s p why)
no_replies s p why = record { goes_to = refl; from_is = refl; says = both_true (p.turn == p.turn) true (number_itself p.turn) refl }

yes_replies : (s : Server) (p : PrepareRequest) (cast : Ballot) → cast.turn ≡ p.turn → Replies s.server p.txn p.turn OfVote (server.yes_letter s p.txn cast)
yes_replies s p cast same = record { goes_to = refl; from_is = refl; says = both_true (cast.turn == p.turn) true (same_numbers cast.turn p.turn same) refl }

refuses_replies : (sc : Scenario) (s : Server) (p : PrepareRequest) (why : No) → IsVoted s.server p (server.refuses sc s p why)
refuses_replies sc s p why = ends_say sc s (server.refused_as p why) (server.no_letter s p why) (Replies s.server p.txn p.turn OfVote) (no_replies s p why)

votes_reply : (s : Server) (p : PrepareRequest) (verdicts : List Verdict) (entry : Entry) → IsVoted s.server p (server.votes s p verdicts entry)
votes_reply s p verdicts entry = inl (yes_replies s p (server.ballot_of (server.prepared_record s p entry verdicts)) refl)

evaluates_replies : (sc : Scenario) (s : Server) (p : PrepareRequest) (entry : Entry) (staple : Option Staple) → MayVote sc s p → IsVoted s.server p (server.evaluates sc s p entry staple)
evaluates_replies sc s p entry None k = votes_reply (with_wants s p.want) p [] entry
evaluates_replies sc s p entry (Some staple) k =
    subst (λ (txn : Option Transaction). IsVoted s.server p (server.votes_with sc s p entry staple txn)) (sym k.declared_is)
    (votes_reply (with_wants s p.want) p (verdicts_on sc (with_wants s p.want) k.declared staple p.want entry.deeds) entry)

not_later : (one other : ℕ) → one ≤ other → nat_lt other one ≡ true → ⊥
not_later one other le lt = grind (arith, nat_tests)

voted_replies : (sc : Scenario) (s : Server) (p : PrepareRequest) (entry : Entry) (ballot : Option Ballot) → MayVote sc s p → server.entry_at s p.txn ≡ Some entry → entry.ballot ≡ ballot → IsVoted s.server p (server.votes_at sc s p entry ballot)
voted_replies sc s p entry None k found e = in_range (first_outside_in s.store p.txn)
  where
    in_range : (outside : Option (ℕ × ℤ)) → IsVoted s.server p (server.votes_in_range sc s p entry outside)
    in_range None = evaluates_replies sc s p entry p.staple k
    in_range (Some outside) = refuses_replies sc s p (no.Range outside.0 outside.1)
voted_replies sc s p entry (Some cast) k found e =
    by_cond (IsVoted s.server p) (cast.turn == p.turn) (λ same. inl (yes_replies s p cast (eqb-true cast.turn p.turn same)))
    (λ other. by_cond (IsVoted s.server p) (nat_lt p.turn cast.turn) (λ earlier. absurd (not_later cast.turn p.turn (k.later entry cast found e) earlier))
    (λ later. evaluates_replies sc s p entry p.staple k))

asked_to_vote_replies : (sc : Scenario) (s : Server) (p : PrepareRequest) (entry : Option Entry) → MayVote sc s p → server.entry_at s p.txn ≡ entry → IsVoted s.server p (server.asked_to_vote sc s p entry)
asked_to_vote_replies sc s p None k found = refuses_replies sc s p no.Restarted
asked_to_vote_replies sc s p (Some entry) k found =
    by_cond (IsVoted s.server p) (not (entry.epoch == p.epoch)) (λ another. refuses_replies sc s p no.Restarted) (λ same. voted_replies sc s p entry entry.ballot k found refl)

late_replies : (sc : Scenario) (s : Server) (p : PrepareRequest) (settled : Settled) → option_flatten (slice_get s.settled p.txn.0) ≡ Some settled → is_some settled.why ≡ true
    → IsVoted s.server p (server.on_settled_prepare s p (option_flatten (slice_get s.settled p.txn.0)))
late_replies sc s p settled found some =
    subst (λ (done : Option Settled). IsVoted s.server p (server.on_settled_prepare s p done)) (sym found) (by_why settled.why some)
  where
    by_why : (why : Option No) → is_some why ≡ true → IsVoted s.server p (server.on_refused s p why)
    by_why None e = absurd (cc)
    by_why (Some why) e = inl (no_replies s p why)

pub prepare_voted : (sc : Scenario) (s : Server) (p : PrepareRequest) → MayVote sc s p → IsVoted s.server p (server.on_prepare sc s p)
prepare_voted sc s p k =
    by_cond (IsVoted s.server p) (server.is_open s p.txn) (λ unsettled. asked_to_vote_replies sc s p (server.entry_at s p.txn) k refl)
    (λ closed. let was = k.refused closed in late_replies sc s p was.0 was.1.0 was.1.1)

-- ---- Decide

pub record MayEnd (s : Server) (d : DecideRequest) : Type 0 where
  pub settled : server.is_open s d.txn ≡ false → is_some (option_flatten (slice_get s.settled d.txn.0)) ≡ true

abbrev pub IsAcked : ServerId → DecideRequest → Effect Server → Type 0
IsAcked at d effect = AnyOf (Replies at d.txn 0 (OfAck d.outcome)) effect.reaction.letters

ack_replies : (s : Server) (d : DecideRequest) → Replies s.server d.txn 0 (OfAck d.outcome) (server.ack_letter s d.txn)
ack_replies s d = record { goes_to = refl; from_is = refl; says = refl }

pub decide_acked : (sc : Scenario) (s : Server) (d : DecideRequest) → MayEnd s d → IsAcked s.server d (server.on_decide sc s d)
decide_acked sc s d k =
    by_cond (IsAcked s.server d) (server.is_open s d.txn)
    (λ unsettled. ends_say sc s (server.settled_as d) (server.ack_letter s d.txn) (Replies s.server d.txn 0 (OfAck d.outcome)) (ack_replies s d))
    (λ closed. late (option_flatten (slice_get s.settled d.txn.0)) (k.settled closed))
  where
    late : (settled : Option Settled) → is_some settled ≡ true → IsAcked s.server d (server.on_settled_decide s d settled)
    late None e = absurd (cc)
    late (Some settled) e = inl (ack_replies s d)
