-- Restarts, a server's rows: an entry is made in the present epoch, and all else repeats an epoch that is there; a
-- restart is told where work was lost.
use Rattle.std.proofs.Common.{IfSome, List, Some, [], false, refl, subst, sym, ℕ, ℤ, ⊎_elim, ◌++◌, ◌==◌, ◌∷◌, ◌≡◌}
use Rattle.tp_types.proofs.EachLemmas.{each_found, each_more, placed_emptied, placed_set}
use Rattle.tp_types.specs.Each.{Each}
use Rattle.tp_types.specs.Effect.{Effect, sends}
use Rattle.tp_model.specs.Deeds.{deed_of}
use Rattle.tp_model.specs.Words.{Answer, DoneReply, Letter, Mail, No, PrepareRequest, Query, QueryRequest, Scenario, ServerId, Settled, TxnId, ValidateRequest}
use Rattle.tp_model.specs.Words.answer
use Rattle.tp_model.specs.Words.body
use Rattle.tp_model.specs.Words.no
use Rattle.tp_model.specs.Words.vote
use Rattle.tp_lock.specs.declared.entry.Grant.{Grant}
use Rattle.tp_server.proofs.Rows.{AreRightWaits, IsAsking, IsFirstHere, IsFurther, IsLateRequest, IsLost, IsLostValidation, IsLostVote, IsResumed, refusing, server_by, unwaiting}
use Rattle.tp_server.specs.Row as server
use Rattle.tp_server.specs.State.{Server}
use Rattle.tp_server.specs.Verdicts.{with_wants}
use Rattle.tp_server.specs.declared.server.Entry.{Entry}
use Rattle.tp_runs.proofs.epochs.Server.{has_restarted}
use Rattle.tp_runs.proofs.restarts.Counted.{boots_by}
use Rattle.tp_runs.proofs.restarts.Since.{DoneSince, EntriesSince, EntrySince, LetterSince, RecordSince}

-- an act of a server
pub record RowSince (S : TxnId → ServerId → ℕ → Type 0) (R : TxnId → ServerId → Type 0) (at : ServerId) (effect : Effect Server) : Type 0 where
  pub entries : EntriesSince S R at effect.state
  pub forces : IfSome effect.reaction.append (RecordSince S R at)
  pub no_boot : boots_by effect.reaction.append ≡ 0
  pub letters : Each (LetterSince S R) effect.reaction.letters

-- what is known of a mail: the present epoch is of after the submission of a transaction that asks, and where its work
-- was lost, or the transaction was settled for a restart, the server has crashed since
pub record IsKnownMail (S : TxnId → ServerId → ℕ → Type 0) (R : TxnId → ServerId → Type 0) (s : Server) (mail : Mail) : Type 0 where
  pub present : (q : QueryRequest) → mail.letter.body ≡ body.Query q → S q.txn s.server s.epoch
  pub lost : (q : QueryRequest) → IsLost s mail q → R q.txn s.server
  pub lost_vote : (p : PrepareRequest) → IsLostVote s mail p → R p.txn s.server
  pub lost_show : (v : ValidateRequest) → IsLostValidation s mail v → R v.txn s.server
  pub refused : (p : PrepareRequest) (settled : Settled) → IsLateRequest s mail p settled no.Restarted → R p.txn s.server

-- an entry at which a query asks
asked_since : (S : TxnId → ServerId → ℕ → Type 0) (R : TxnId → ServerId → Type 0) (sc : Scenario) (s : Server) (mail : Mail) (q : QueryRequest) (query : Query) (entry : Entry) (value : ℤ) → EntriesSince S R s.server s
    → IsKnownMail S R s mail → IsAsking sc s mail q query entry value → EntrySince S R s.server q.txn.0 entry
asked_since S R sc s mail q query entry value h known k =
    ⊎_elim (λ (first : IsFirstHere s mail.sent q entry). subst (EntrySince S R s.server q.txn.0) (sym first.entry_is) (record { epoch = known.present q k.said_is; answers = tt }))
    (λ (further : IsFurther s q entry). h q.txn.0 entry further.found) k.place

still_since : (S : TxnId → ServerId → ℕ → Type 0) (R : TxnId → ServerId → Type 0) (s : Server) (letters : List Letter) → EntriesSince S R s.server s → Each (LetterSince S R) letters → RowSince S R s.server (sends s letters)
still_since S R s letters h said = record { entries = h; forces = tt; no_boot = refl; letters = said }

-- the entry of a transaction changes, and a letter may be sent
entry_since : (S : TxnId → ServerId → ℕ → Type 0) (R : TxnId → ServerId → Type 0) (s : Server) (q : QueryRequest) (entry : Entry) (letters : List Letter) → EntriesSince S R s.server s → EntrySince S R s.server q.txn.0 entry
    → Each (LetterSince S R) letters → RowSince S R s.server (sends (server.with_entry s q.txn (Some entry)) letters)
entry_since S R s q entry letters h new said =
    record { entries = placed_set (EntrySince S R s.server) s.entries q.txn.0 entry h new; forces = tt; no_boot = refl; letters = said }

-- a query is answered: its entry keeps the answer, which tells the entry's epoch
given_since : (S : TxnId → ServerId → ℕ → Type 0) (R : TxnId → ServerId → Type 0) (at : ServerId) (q : QueryRequest) (entry : Entry) (said : Answer) → has_restarted said ≡ false → EntrySince S R at q.txn.0 entry
    → DoneSince S R at (server.reply_of q entry.epoch said)
given_since S R at q entry said stays was = record { epoch = was.epoch; shown = λ e. absurd (cc) }

answered_since : (S : TxnId → ServerId → ℕ → Type 0) (R : TxnId → ServerId → Type 0) (at : ServerId) (q : QueryRequest) (entry : Entry) (said : Answer) → has_restarted said ≡ false → EntrySince S R at q.txn.0 entry
    → EntrySince S R at q.txn.0 (server.with_answer q entry said)
answered_since S R at q entry said stays was =
    record { epoch = was.epoch; answers = each_more (DoneSince S R at) entry.answers (server.reply_of q entry.epoch said) was.answers (given_since S R at q entry said stays was) }

answers_since : (S : TxnId → ServerId → ℕ → Type 0) (R : TxnId → ServerId → Type 0) (s : Server) (q : QueryRequest) (entry : Entry) (said : Answer) → has_restarted said ≡ false → EntriesSince S R s.server s → EntrySince S R s.server q.txn.0 entry
    → RowSince S R s.server (server.answers_with s q entry said)
answers_since S R s q entry said stays h was = entry_since S R s q _ _ h (answered_since S R s.server q entry said stays was) (given_since S R s.server q entry said stays was, tt)

-- what waited is answered, after what was done before: its entry is so then, and so are the letters
record ResumedSince (S : TxnId → ServerId → ℕ → Type 0) (R : TxnId → ServerId → Type 0) (at : ServerId) (effect : Effect Server) (q : QueryRequest) (entry : Entry) (said : Answer) : Type 0 where
  answered : EntrySince S R at q.txn.0 (server.with_answer q (unwaiting entry) said)
  letters : Each (LetterSince S R) (effect.reaction.letters ++ server.reply_letter effect.state q (unwaiting entry) said ∷ [])

resumed_since : (S : TxnId → ServerId → ℕ → Type 0) (R : TxnId → ServerId → Type 0) (sc : Scenario) (at : ServerId) (effect : Effect Server) (grant : Grant) (q : QueryRequest) (query : Query) (entry : Entry) (value : ℤ) (said : Answer)
    → has_restarted said ≡ false → IsResumed sc at effect.state grant q query entry value → RowSince S R at effect → ResumedSince S R at effect q entry said
resumed_since S R sc at effect grant q query entry value said stays k now =
    let was : EntrySince S R at q.txn.0 entry = now.entries q.txn.0 entry k.found in
    let idle : EntrySince S R at q.txn.0 (unwaiting entry) = record { epoch = was.epoch; answers = was.answers } in
    record {
      answered = answered_since S R at q (unwaiting entry) said stays idle;
      letters = each_more (LetterSince S R) effect.reaction.letters _ now.letters
          (subst (λ (from : ServerId). DoneSince S R from (server.reply_of q entry.epoch said)) (sym k.server_is) (given_since S R at q (unwaiting entry) said stays idle));
    }

-- the end of a transaction
closes_since : (S : TxnId → ServerId → ℕ → Type 0) (R : TxnId → ServerId → Type 0) (s : Server) (order : Settled) (letter : Letter) → EntriesSince S R s.server s → (order.why ≡ Some no.Restarted → R order.txn s.server)
    → LetterSince S R letter → RowSince S R s.server (server.closes s order letter)
closes_since S R s order letter h shown said =
    record { entries = placed_emptied (EntrySince S R s.server) s.entries order.txn.0 h; forces = shown; no_boot = refl; letters = (said, tt) }

-- every row of a server on receipt of a mail
pub server_row_since : (S : TxnId → ServerId → ℕ → Type 0) (R : TxnId → ServerId → Type 0) (sc : Scenario) (s : Server) (mail : Mail) → AreRightWaits sc s → EntriesSince S R s.server s → IsKnownMail S R s mail
    → RowSince S R s.server (server.server_row sc s mail)
server_row_since S R sc s mail waits h known =
    server_by sc s mail (RowSince S R s.server) waits
    (record {
      relocked = λ effect locks k. record { entries = k.entries; forces = k.forces; no_boot = k.no_boot; letters = k.letters };
      relearnt = λ effect admin pin k. record { entries = k.entries; forces = k.forces; no_boot = k.no_boot; letters = k.letters };
      ignored = still_since S R s [] h tt;
      ran = λ q query entry value proof k r.
          let was : EntrySince S R s.server q.txn.0 entry = asked_since S R sc s mail q query entry value h known k in
          let said = server.ran_as (deed_of q.query query value) proof in
          let now : EntrySince S R s.server q.txn.0 (server.with_answer q entry said) = answered_since S R s.server q entry said refl was in
          record {
            entries = placed_set (EntrySince S R s.server) s.entries q.txn.0 _ h (record { epoch = now.epoch; answers = now.answers });
            forces = tt;
            no_boot = refl;
            letters = (given_since S R s.server q entry said refl was, tt);
          };
      denied = λ q query entry value verdict k d. answers_since S R s q entry (answer.Denied verdict) refl h (asked_since S R sc s mail q query entry value h known k);
      outdated = λ q query entry value newer k e. answers_since S R s q entry (answer.Newer newer) refl h (asked_since S R sc s mail q query entry value h known k);
      waited = λ q query entry value k.
          let was : EntrySince S R s.server q.txn.0 entry = asked_since S R sc s mail q query entry value h known k in
          entry_since S R s q (record entry { waiting = Some q }) [] h (record { epoch = was.epoch; answers = was.answers }) tt;
      died = λ q query entry value other k dying. answers_since S R s q entry (answer.Died other) refl h (asked_since S R sc s mail q query entry value h known k);
      restarted = λ q k. still_since S R s _ h (record { epoch = known.present q k.said_is; shown = λ e. known.lost q k }, tt);
      answered = λ q entry given k.
          still_since S R s _ h (each_found (DoneSince S R s.server) (λ (d : DoneReply). d.query == q.query) entry.answers given (h q.txn.0 entry k.found).answers k.given_is, tt);
      voted = λ p entry verdicts k.
          let was : EntrySince S R s.server p.txn.0 entry = h p.txn.0 entry k.found in
          record {
            entries = placed_set (EntrySince S R s.server) s.entries p.txn.0 _ h (record { epoch = was.epoch; answers = was.answers });
            forces = was.epoch;
            no_boot = refl;
            letters = (λ e. absurd (cc), tt);
          };
      shown = λ v entry txn k. still_since S R (with_wants s v.want) _ h (λ e. absurd (cc), tt);
      lost_verdicts = λ v k. still_since S R s _ h (λ e. known.lost_show v k, tt);
      voted_again = λ p entry cast k. still_since S R s _ h (λ e. absurd (cc), tt);
      refused = λ p entry number value k. closes_since S R s (server.refused_as p _) (server.no_letter s p _) h (λ e. absurd (cc)) (λ e. absurd (cc));
      lost = λ p k. closes_since S R s (server.refused_as p _) (server.no_letter s p _) h (λ e. known.lost_vote p k) (λ e. known.lost_vote p k);
      refused_again = λ p settled why k. still_since S R s _ h (λ e. known.refused p settled (subst (IsLateRequest s mail p settled) (same_why why e) k), tt);
      settled = λ d k. closes_since S R s (server.settled_as d) (server.ack_letter s d.txn) h (λ e. absurd (cc)) tt;
      acknowledged = λ d settled k. still_since S R s _ h (tt, tt);
      pushed = λ push k. record { entries = h; forces = tt; no_boot = refl; letters = tt };
      resumed = λ effect grant q query entry value proof k r now.
          let said = server.ran_as (deed_of q.query query value) proof in
          let after = resumed_since S R sc s.server effect grant q query entry value said refl k now in
          record { entries = placed_set (EntrySince S R s.server) effect.state.entries q.txn.0 _ now.entries (record { epoch = after.answered.epoch; answers = after.answered.answers }); forces = now.forces; no_boot = now.no_boot; letters = after.letters };
      resumed_denied = λ effect grant q query entry value verdict k d now. refused_since effect grant q query entry value (answer.Denied verdict) refl k now;
      resumed_outdated = λ effect grant q query entry value newer k e now. refused_since effect grant q query entry value (answer.Newer newer) refl k now;
    })
  where
    -- what waited is given an answer that ends its transaction
    refused_since : (effect : Effect Server) (grant : Grant) (q : QueryRequest) (query : Query) (entry : Entry) (value : ℤ) (said : Answer) → has_restarted said ≡ false → IsResumed sc s.server effect.state grant q query entry value
        → RowSince S R s.server effect → RowSince S R s.server (server.followed_by effect (refusing effect.state q entry said))
    refused_since effect grant q query entry value said stays k now =
        let after = resumed_since S R sc s.server effect grant q query entry value said stays k now in
        record { entries = placed_set (EntrySince S R s.server) effect.state.entries q.txn.0 _ now.entries after.answered; forces = now.forces; no_boot = now.no_boot; letters = after.letters }

    same_why : (why : No) → vote.No why ≡ vote.No no.Restarted → why ≡ no.Restarted
    same_why why e = cc
