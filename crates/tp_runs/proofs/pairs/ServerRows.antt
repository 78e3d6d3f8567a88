-- Deeds and epochs, the server's rows: each is an event at its own transaction, and nothing at the others.
use Rattle.std.specs.Option.{option_flatten, option_map_or, option_or}
use Rattle.std.proofs.Common.{Bool, IfSome, List, None, Option, Some, [], ap, arith, false, find, if◌then◌else◌, inl, inr, is_some, length, not, option_and_then, refl, slice_get, slice_set, subst, sym, true, ℕ, ℤ, ⊎_elim, ◌++◌, ◌<◌, ◌==◌, ◌∙◌, ◌∷◌, ◌≡◌, ◌⊎◌}
use Rattle.std.proofs.lemmas.Bool.{eqb-true, not-false}
use Rattle.std.proofs.lemmas.List.{length-set}
use Rattle.std.proofs.lemmas.Option.{same_Some}
use Rattle.tp_types.proofs.ListLemmas.{number_itself}
use Rattle.tp_types.specs.Effect.{Effect, ignores, sends}
use Rattle.tp_lock.specs.declared.entry.Grant.{Grant}
use Rattle.tp_model.specs.Ids.{same_txn}
use Rattle.tp_model.specs.Queries.{query_at}
use Rattle.tp_model.specs.Words.actor
use Rattle.tp_model.specs.Words.answer
use Rattle.tp_model.specs.Words.body
use Rattle.tp_model.specs.Words.log
use Rattle.tp_model.specs.Words.query
use Rattle.tp_model.specs.Words.{Answer, Body, DecideRequest, Deed, DoneReply, Letter, Mail, No, PrepareRequest, Prepared, PushNotice, Query, QueryRequest, Record, Scenario, ServerId, Settled, Transaction, TxnId, ValidateRequest, Verdict}
use Rattle.tp_runs.proofs.agreement.Server.{ServerAgrees, open_unsettled, prepared_now}
use Rattle.tp_runs.proofs.basics.Ids.{same_txn_from, same_txn_is}
use Rattle.tp_types.proofs.EachLemmas.{each_as, each_found, each_more, none_if_not_some, set_here}
use Rattle.tp_runs.proofs.basics.Logs.{appended, prepared_still, settled_still, settled_with}
use Rattle.tp_recover.proofs.LogLemmas.{first_none}
use Rattle.tp_server.proofs.Tables.{placed_within}
use Rattle.tp_runs.proofs.basics.Verdicts.{numbers_kept}
use Rattle.tp_recover.proofs.LogLemmas.{boots_push}
use Rattle.tp_runs.proofs.pairs.Actors.{AllFit, AllNext, pair_of, pair_up, site_of}
use Rattle.tp_runs.proofs.pairs.Ends as end
use Rattle.tp_runs.proofs.pairs.Ends.{ordered}
use Rattle.tp_runs.proofs.pairs.Entries.{begun, changed, denies, keeps, makes, with_entry}
use Rattle.tp_runs.proofs.pairs.Fits.{AnswerFits, AnsweredFits, AreNoneOrAll, DoneFits, EntryFits, Fits, Live, PrepareFits, QueryFits, QueryLive, ValidateFits, VerdictsFits, VoteFits, Waits}
use Rattle.tp_runs.proofs.pairs.Follows.{Next, done_follows, next_both, next_same, query_follows, verdicts_follow}
use Rattle.tp_runs.proofs.basics.Found.{answer_in, of_some, some_as}
use Rattle.tp_runs.proofs.pairs.Letters.{loses, proves}
use Rattle.tp_runs.proofs.pairs.Pair.{Asker, Pair}
use Rattle.tp_runs.proofs.pairs.Ran.{IsAnswer, ran, runs}
use Rattle.tp_runs.proofs.pairs.Site.{Site}
use Rattle.tp_runs.proofs.pairs.Votes as vote
use Rattle.tp_runs.proofs.pairs.Votes.{AreNoneOrOn, IsVoteOn, forces, with_ballot}
use Rattle.tp_runs.proofs.basics.Folds.{set_elsewhere}
use Rattle.tp_runs.proofs.deeds.Runs.{deed_asked, deed_at}
use Rattle.tp_server.proofs.Rows.{AreRightWaits, IsAsking, IsEvaluated, IsFirstHere, IsFurther, IsResumed, Stapled, Unstapled, resuming, server_by, unwaiting}
use Rattle.tp_recover.specs.Log.{epoch_in, preparation_in, prepared_in, settled_in, settlement_in, voted_in, while_unsettled}
use Rattle.tp_actor_log.specs.Records.{log_with}
use Rattle.tp_model.specs.Deeds.{deed_of}
use Rattle.tp_types.specs.Each.{Each}
use Rattle.tp_runs.specs.Sound.{IsSoundBody, IsSoundDone, IsSoundQuery, IsSoundServer}
use Rattle.tp_coord.specs.Sums.{clamped_sum, registers_after, sum_asked}
use Rattle.tp_server.specs.declared.server.Ballot.{Ballot}
use Rattle.tp_server.specs.declared.server.Entry.{Entry}
use Rattle.tp_server.specs.Row as server
use Rattle.tp_server.specs.Row.{ack_letter, age_of, answer_to, answers, answers_with, asked_query, ballot_of, casts, closes, completes, entry_after, entry_at, followed_by, learns, no_letter, prepared_record, ran_as, refused_as, reply_letter, reply_of, restarts, server_row, settled_as, shows, shows_on, told_of, value_of_run, waits, with_answer, yes_letter}
use Rattle.tp_server.specs.State.{Server}
use Rattle.tp_server.specs.Verdicts.{with_wants, verdicts_on}

-- ---- an act

-- what a server says of its transactions; it requests nothing
abbrev pub ReplyPairs : Scenario → ServerId → (TxnId → Pair) → Body → Type 0
ReplyPairs sc at Q (body.Done done) = (declared : Transaction) → slice_get sc.txns done.txn.0 ≡ Some declared → DoneFits (site_of sc at.0 declared) (Q done.txn) done
ReplyPairs sc at Q (body.Vote reply) = (declared : Transaction) → slice_get sc.txns reply.txn.0 ≡ Some declared → VoteFits (site_of sc at.0 declared) reply.vote
ReplyPairs sc at Q (body.Verdicts reply) = (declared : Transaction) → slice_get sc.txns reply.txn.0 ≡ Some declared → VerdictsFits (site_of sc at.0 declared) (Q reply.txn) reply
ReplyPairs sc at Q (body.Query q) = ⊥
ReplyPairs sc at Q (body.Prepare r) = ⊥
ReplyPairs sc at Q (body.Validate v) = ⊥
ReplyPairs sc at Q _ = Unit {0}

pub record IsReply (sc : Scenario) (at : ServerId) (Q : TxnId → Pair) (letter : Letter) : Type 0 where
  pub from_is : letter.from ≡ actor.Server at
  pub says : ReplyPairs sc at Q letter.body

-- an act of a server that was up or down (was), and is up or down after it (now): each transaction goes on by events, and replies
-- say so. A says what the coordinators know
pub record ServerActsPairs (sc : Scenario) (at : ServerId) (A : TxnId → Option Asker) (was : Option Server) (kept : List Record) (now : Option Server) (append : Option Record) (letters : List Letter) : Type 0 where
  pub next : AllNext sc at.0 (λ txn. pair_of txn (A txn) was kept) (λ txn. pair_of txn (A txn) now (log_with kept append))
  pub places : IfSome now (λ (s : Server). length s.entries ≡ length sc.txns)
  pub replies : Each (IsReply sc at (λ txn. pair_of txn (A txn) now (log_with kept append))) letters

-- that of a row, of a server that is up before and after it
abbrev pub RowPairs : Scenario → (TxnId → Option Asker) → Server → List Record → Effect Server → Type 0
RowPairs sc A s kept effect = ServerActsPairs sc s.server A (Some s) kept (Some effect.state) effect.reaction.append effect.reaction.letters

-- a server before its row
pub record ServerPaired (sc : Scenario) (A : TxnId → Option Asker) (s : Server) (kept : List Record) : Type 0 where
  pub fits : AllFit sc s.server.0 (λ txn. pair_up txn (A txn) s kept)
  pub agrees : ServerAgrees s kept
  pub epoch_is : s.epoch ≡ epoch_in kept
  pub places : length s.entries ≡ length sc.txns

-- what a mail to a server says of its transaction there; an order to end comes after the decision
abbrev pub RequestPairs : Scenario → ServerId → (TxnId → Option Asker) → (TxnId → Pair) → Body → Type 0
RequestPairs sc at A P (body.Query q) = (declared : Transaction) → slice_get sc.txns q.txn.0 ≡ Some declared → QueryFits (site_of sc at.0 declared) (P q.txn) q
RequestPairs sc at A P (body.Prepare r) = (declared : Transaction) → slice_get sc.txns r.txn.0 ≡ Some declared → PrepareFits (site_of sc at.0 declared) (P r.txn) r
RequestPairs sc at A P (body.Validate v) = (declared : Transaction) → slice_get sc.txns v.txn.0 ≡ Some declared → ValidateFits (site_of sc at.0 declared) (P v.txn) v
RequestPairs sc at A P (body.Decide d) = A d.txn ≡ None
RequestPairs sc at A P _ = Unit {0}

-- an order to end comes from a coordinator that has decided
abbrev pub OrderDecided : (TxnId → Option Asker) → Body → Type 0
OrderDecided A (body.Decide order) = A order.txn ≡ None
OrderDecided A _ = Unit {0}

-- ---- transactions that are not concerned

-- a record is of this transaction, and no boot
abbrev pub IsOwnRecord : TxnId → Record → Type 0
IsOwnRecord owner (log.Prepared p) = p.txn ≡ owner
IsOwnRecord owner (log.Settled s) = s.txn ≡ owner
IsOwnRecord owner log.Boot = ⊥
IsOwnRecord owner _ = Unit {0}

settled_apart : (txn owner : TxnId) (append : Option Record) → same_txn owner txn ≡ false → IfSome append (IsOwnRecord owner) → appended (settlement_in txn) append ≡ None
settled_apart txn owner None apart own = refl
settled_apart txn owner (Some (log.Settled s)) apart own = ap (λ (b : Bool). if b then Some s else None) (ap (λ (t : TxnId). same_txn t txn) own ∙ apart)
settled_apart txn owner (Some (log.Prepared p)) apart own = refl
settled_apart txn owner (Some (log.Told t)) apart own = refl
settled_apart txn owner (Some (log.Decided d)) apart own = refl
settled_apart txn owner (Some log.Boot) apart own = refl

prepared_apart : (txn owner : TxnId) (append : Option Record) → same_txn owner txn ≡ false → IfSome append (IsOwnRecord owner) → appended (preparation_in txn) append ≡ None
prepared_apart txn owner None apart own = refl
prepared_apart txn owner (Some (log.Prepared p)) apart own = ap (λ (b : Bool). if b then Some p else None) (ap (λ (t : TxnId). same_txn t txn) own ∙ apart)
prepared_apart txn owner (Some (log.Settled s)) apart own = refl
prepared_apart txn owner (Some (log.Told t)) apart own = refl
prepared_apart txn owner (Some (log.Decided d)) apart own = refl
prepared_apart txn owner (Some log.Boot) apart own = refl

pub same_epoch_in : (owner : TxnId) (kept : List Record) (append : Option Record) → IfSome append (IsOwnRecord owner) → epoch_in (log_with kept append) ≡ epoch_in kept
same_epoch_in owner kept None own = refl
same_epoch_in owner kept (Some log.Boot) own = absurd own
same_epoch_in owner kept (Some (log.Told t)) own = omega (arith, boots_push kept (log.Told t))
same_epoch_in owner kept (Some (log.Prepared p)) own = omega (arith, boots_push kept (log.Prepared p))
same_epoch_in owner kept (Some (log.Settled s)) own = omega (arith, boots_push kept (log.Settled s))
same_epoch_in owner kept (Some (log.Decided d)) own = omega (arith, boots_push kept (log.Decided d))

-- the pair of a server that is up, by what is looked up
abbrev pub made_pair : Option Asker → ℕ → Option Settled → Option Entry → Option Prepared → Pair
made_pair asker epoch settled entry prepared = record {
  epoch = epoch;
  up = true;
  settled = is_some settled;
  voted = false;
  entry = entry;
  prepared = prepared;
  asker = asker;
}

pub same_made : (a : Option Asker) (e f : ℕ) (s t : Option Settled) (n m : Option Entry) (p q : Option Prepared) → e ≡ f → s ≡ t → n ≡ m → p ≡ q → made_pair a e s n p ≡ made_pair a f t m q
same_made a e f s t n m p q ef st nm pq =
    ap (λ (x : ℕ). made_pair a x s n p) ef
    ∙ (ap (λ (x : Option Settled). made_pair a f x n p) st ∙ (ap (λ (x : Option Entry). made_pair a f t x p) nm ∙ ap (λ (x : Option Prepared). made_pair a f t m x) pq))

-- the entry of one transaction changes, and what is forced is of it alone
pub record IsOwnAct (owner : TxnId) (s now : Server) (append : Option Record) : Type 0 where
  pub entry : Option Entry
  pub entries : now.entries ≡ slice_set s.entries owner.0 entry
  pub own : IfSome append (IsOwnRecord owner)

-- the pair stays where the entry does, and what is forced is of another transaction, or of none
still_pair : (a : Option Asker) (txn : TxnId) (s now : Server) (kept : List Record) (append : Option Record) → entry_at now txn ≡ entry_at s txn → epoch_in (log_with kept append) ≡ epoch_in kept
    → appended (settlement_in txn) append ≡ None → appended (preparation_in txn) append ≡ None → pair_up txn a now (log_with kept append) ≡ pair_up txn a s kept
still_pair a txn s now kept append entry epoch none unvoted =
    same_made a (epoch_in (log_with kept append)) (epoch_in kept) (settled_in txn (log_with kept append)) (settled_in txn kept) (entry_at now txn) (entry_at s txn) (prepared_in txn (log_with kept append)) (prepared_in txn kept)
    epoch (settled_still txn kept append none) entry (prepared_still txn kept append none unvoted)

-- the pair of another transaction stays
pub other_pair : (a : Option Asker) (owner txn : TxnId) (s now : Server) (kept : List Record) (append : Option Record) → same_txn owner txn ≡ false → IsOwnAct owner s now append
    → pair_up txn a now (log_with kept append) ≡ pair_up txn a s kept
other_pair a owner txn s now kept append apart act =
    still_pair a txn s now kept append (ap (λ (table : List (Option Entry)). option_flatten (slice_get table txn.0)) act.entries ∙ ap option_flatten (set_elsewhere s.entries owner.0 txn.0 act.entry apart))
    (same_epoch_in owner kept append act.own) (settled_apart txn owner append apart act.own) (prepared_apart txn owner append apart act.own)

next_by : (sc : Scenario) (at : ℕ) (P Q : TxnId → Pair) (owner txn : TxnId) (declared : Transaction) (b : Bool) → same_txn owner txn ≡ b → Fits (site_of sc at declared) (P txn)
    → (b ≡ true → Next (site_of sc at declared) (P txn) (Q txn)) → (b ≡ false → Q txn ≡ P txn) → Next (site_of sc at declared) (P txn) (Q txn)
next_by sc at P Q owner txn declared true e fits own other = own refl
next_by sc at P Q owner txn declared false e fits own other = subst (Next (site_of sc at declared) (P txn)) (sym (other refl)) (next_same (site_of sc at declared) (P txn) fits)

-- all go on where one does, and the others stay
pub own_next : (sc : Scenario) (at : ℕ) (P Q : TxnId → Pair) (owner : TxnId) → AllFit sc at P
    → ((declared : Transaction) → slice_get sc.txns owner.0 ≡ Some declared → Next (site_of sc at declared) (P owner) (Q owner))
    → ((txn : TxnId) → same_txn owner txn ≡ false → Q txn ≡ P txn) → AllNext sc at P Q
own_next sc at P Q owner fits own other txn declared found =
    next_by sc at P Q owner txn declared (same_txn owner txn) refl (fits txn declared found)
    (λ same. let is : owner ≡ txn = same_txn_is owner txn same in
    subst (λ (t : TxnId). Next (site_of sc at declared) (P t) (Q t)) is (own declared (ap (λ (t : TxnId). slice_get sc.txns t.0) is ∙ found)))
    (λ apart. other txn apart)

-- ---- rows that change nothing

still_next : (sc : Scenario) (A : TxnId → Option Asker) (s : Server) (kept : List Record) → ServerPaired sc A s kept → AllNext sc s.server.0 (λ txn. pair_up txn (A txn) s kept) (λ txn. pair_up txn (A txn) s kept)
still_next sc A s kept h txn declared found = next_same (site_of sc s.server.0 declared) (pair_up txn (A txn) s kept) (h.fits txn declared found)

ignores_pairs : (sc : Scenario) (A : TxnId → Option Asker) (s : Server) (kept : List Record) → ServerPaired sc A s kept → RowPairs sc A s kept (ignores s)
ignores_pairs sc A s kept h = record { next = still_next sc A s kept h; places = h.places; replies = tt }

-- the answer says that its query ran
abbrev has_run : Answer → Bool
has_run (answer.Ran value proof) = true
has_run _ = false

-- an answer that a query does not run is of the request's turn and query
answers_query : (s : Site) (p : Pair) (q : QueryRequest) (done : DoneReply) → done.turn ≡ q.turn → done.query ≡ q.query → QueryFits s p q → AnsweredFits s p done
answers_query s p q done turn number h =
    record {
      before = h.before;
      number_is = number ∙ h.number_is;
      is_here = h.is_here;
      live = some_as (QueryLive s q h.before) (Live done.turn h.before) p.asker (λ a is live. subst (λ (t : ℕ). Live t h.before a) (sym turn) live.live) h.live;
    }

-- such an answer fits
unrun_fits : (s : Site) (p : Pair) (done : DoneReply) (given : Answer) → has_run given ≡ false → AnsweredFits s p done → AnswerFits s p done given
unrun_fits s p done (answer.Ran value proof) unrun h = absurd (cc)
unrun_fits s p done _ unrun h = h

answers_unrun : (s : Site) (p : Pair) (q : QueryRequest) (epoch : ℕ) (given : Answer) → has_run given ≡ false → QueryFits s p q → DoneFits s p (reply_of q epoch given)
answers_unrun s p q epoch given unrun h = unrun_fits s p (reply_of q epoch given) given unrun (answers_query s p q (reply_of q epoch given) refl refl h)

restarts_pairs : (sc : Scenario) (A : TxnId → Option Asker) (s : Server) (kept : List Record) (q : QueryRequest) → ServerPaired sc A s kept → RequestPairs sc s.server A (λ txn. pair_up txn (A txn) s kept) (body.Query q)
    → RowPairs sc A s kept (restarts s q)
restarts_pairs sc A s kept q h asked =
    record {
      next = still_next sc A s kept h;
      places = h.places;
      replies = (record { from_is = refl; says = λ declared found. answers_unrun (site_of sc s.server.0 declared) (pair_up q.txn (A q.txn) s kept) q s.epoch answer.Restarted refl (asked declared found) }, tt);
    }

acknowledges_pairs : (sc : Scenario) (A : TxnId → Option Asker) (s : Server) (kept : List Record) (d : DecideRequest) → ServerPaired sc A s kept → RowPairs sc A s kept (sends s (ack_letter s d.txn ∷ []))
acknowledges_pairs sc A s kept d h = record { next = still_next sc A s kept h; places = h.places; replies = (record { from_is = refl; says = tt }, tt) }

-- an answer that is given again is kept
answers_pairs : (sc : Scenario) (A : TxnId → Option Asker) (s : Server) (kept : List Record) (q : QueryRequest) (entry : Entry) (given : DoneReply) → ServerPaired sc A s kept → entry_at s q.txn ≡ Some entry
    → given.txn ≡ q.txn → answer_to entry q.query ≡ Some given → RowPairs sc A s kept (answers s q.txn given)
answers_pairs sc A s kept q entry given h there own found =
    record {
      next = still_next sc A s kept h;
      places = h.places;
      replies = (
        record {
          from_is = refl;
          says = λ declared e.
              let p = pair_up q.txn (A q.txn) s kept in
              let site = site_of sc s.server.0 declared in
              let fits : Fits site p = h.fits q.txn declared (ap (λ (t : TxnId). slice_get sc.txns t.0) (sym own) ∙ e) in
              let kept_are : Each (DoneFits site p) entry.answers = (of_some (EntryFits site p) p.entry entry there fits.entry).answers in
              subst (λ (t : TxnId). DoneFits site (pair_up t (A t) s kept) given) (sym own) (each_found (DoneFits site p) (λ (d : DoneReply). d.query == q.query) entry.answers given kept_are found);
        },
        tt,
      );
    }

-- ---- a query runs

-- a query runs at an entry as soon as it comes
pub runs_at_once : (s : Site) (p : Pair) (entry : Entry) (q : QueryRequest) (done : DoneReply) (value : ℤ) → p.up ≡ true → p.entry ≡ Some entry → Fits s p → QueryFits s p q
    → IfSome q.epoch (λ (e : ℕ). e ≡ entry.epoch) → answer_in q.query entry.answers ≡ None → entry.ballot ≡ None → IsAnswer s entry q done value
    → Next s p (with_entry p (ran entry (deed_at s.txn q.query value) done))
runs_at_once s p entry q done value up is h asked epoch fresh unvoted answered =
    let waiting = changed entry (Some q) entry.answers in
    let kept : Next s p (with_entry p waiting) = keeps s p entry q is h asked epoch fresh unvoted in
    let gives : IsAnswer s waiting q done value = record {
      turn = answered.turn;
      number = answered.number;
      epoch = answered.epoch;
      verdict = answered.verdict;
      answer = answered.answer;
      asked = answered.asked;
    } in
    next_both s p (with_entry p waiting) (with_entry p (ran entry (deed_at s.txn q.query value) done)) kept (runs s (with_entry p waiting) waiting q done value up refl refl kept.fits gives)

-- the value of a query that runs is the one that it is asked with, where it is asked with one
value_asked : (s : Server) (q : QueryRequest) (run : Query) (value : ℤ) (declared : Transaction) (deeds : List Deed) (found : Option Query) → query_at declared q.query ≡ found → found ≡ Some run
    → value_of_run s q run ≡ Some value → q.value ≡ option_and_then (sum_asked (registers_after declared deeds)) found → IfSome (option_and_then (sum_asked (registers_after declared deeds)) found) (λ (asked : ℤ). value ≡ asked)
value_asked s q run value declared deeds None e is gives asked = absurd (cc)
value_asked s q run value declared deeds (Some (query.Read item into)) e is gives asked = tt
value_asked s q run value declared deeds (Some (query.Write item expr)) e is gives asked =
    let same : query.Write item expr ≡ run = same_Some (query.Write item expr) run is in
    let write : q.value ≡ Some value = subst (λ (found : Query). value_of_run s q found ≡ Some value) (sym same) gives in
    same_Some value (clamped_sum (registers_after declared deeds) expr) (sym write ∙ asked)

-- what is known of a query that runs, beside its entry
record IsRunOf (sc : Scenario) (s : Server) (q : QueryRequest) (query : Query) (value : ℤ) : Type 0 where
  pub exists : q.txn.0 < length sc.txns
  pub asked_is : asked_query sc q ≡ Some query
  pub value_is : value_of_run s q query ≡ Some value

-- the reply to a query that ran, with its proof if it has one
abbrev ran_reply : QueryRequest → Entry → Deed → Option Verdict → DoneReply
ran_reply q entry deed proof = reply_of q entry.epoch (ran_as deed proof)

answer_is : (sc : Scenario) (s : Server) (p : Site) (q : QueryRequest) (query : Query) (value : ℤ) (proof : Option Verdict) (entry : Entry) → IsRunOf sc s q query value → query_at p.txn q.query ≡ Some query
    → IsAnswer p entry q (ran_reply q entry (deed_of q.query query value) proof) value
answer_is sc s p q query value proof entry k found =
    record {
      turn = refl;
      number = refl;
      epoch = refl;
      verdict = proof;
      answer = refl;
      asked = λ deeds asked. value_asked s q query value p.txn deeds (query_at p.txn q.query) refl found k.value_is asked;
    }

pub same_answer : (number : ℕ) (answers : List DoneReply) → answer_in number answers ≡ find (λ (given : DoneReply). given.query == number) answers
same_answer number [] = refl
same_answer number (first ∷ answers) = ap (λ (rest : Option DoneReply). if first.query == number then Some first else rest) (same_answer number answers)

same_epochs : (q : QueryRequest) (epoch : Option ℕ) (entry : Entry) → option_map_or (λ (e : ℕ). not (e == entry.epoch)) epoch false ≡ false → IfSome epoch (λ (e : ℕ). e ≡ entry.epoch)
same_epochs q None entry e = tt
same_epochs q (Some named) entry e = eqb-true named entry.epoch (not-false (named == entry.epoch) e)

-- a query runs at an entry that is there
runs_further : (sc : Scenario) (A : TxnId → Option Asker) (s : Server) (kept : List Record) (q : QueryRequest) (query : Query) (entry : Entry) (value : ℤ) (proof : Option Verdict) (declared : Transaction) → ServerPaired sc A s kept
    → IsRunOf sc s q query value → slice_get sc.txns q.txn.0 ≡ Some declared → query_at declared q.query ≡ Some query → QueryFits (site_of sc s.server.0 declared) (pair_up q.txn (A q.txn) s kept) q → IsFurther s q entry
    → Next (site_of sc s.server.0 declared) (pair_up q.txn (A q.txn) s kept)
    (with_entry (pair_up q.txn (A q.txn) s kept) (ran entry (deed_at declared q.query value) (ran_reply q entry (deed_of q.query query value) proof)))
runs_further sc A s kept q query entry value proof declared h k exists found asked further =
    let site = site_of sc s.server.0 declared in
    let p = pair_up q.txn (A q.txn) s kept in
    runs_at_once site p entry q (ran_reply q entry (deed_of q.query query value) proof) value refl further.found (h.fits q.txn declared exists) asked (same_epochs q q.epoch entry further.same_epoch)
    (same_answer q.query entry.answers ∙ further.unanswered) (none_if_not_some entry.ballot further.unvoted) (answer_is sc s site q query value proof entry k found)

-- or at the one that is made for it
runs_first : (sc : Scenario) (A : TxnId → Option Asker) (s : Server) (kept : List Record) (sent : ℕ) (q : QueryRequest) (query : Query) (entry : Entry) (value : ℤ) (proof : Option Verdict) (declared : Transaction) → ServerPaired sc A s kept
    → settled_in q.txn kept ≡ None → IsRunOf sc s q query value → slice_get sc.txns q.txn.0 ≡ Some declared → query_at declared q.query ≡ Some query
    → QueryFits (site_of sc s.server.0 declared) (pair_up q.txn (A q.txn) s kept) q → IsFirstHere s sent q entry
    → Next (site_of sc s.server.0 declared) (pair_up q.txn (A q.txn) s kept)
    (with_entry (pair_up q.txn (A q.txn) s kept) (ran entry (deed_at declared q.query value) (ran_reply q entry (deed_of q.query query value) proof)))
runs_first sc A s kept sent q query entry value proof declared h fresh k exists found asked first =
    let site = site_of sc s.server.0 declared in
    let p = pair_up q.txn (A q.txn) s kept in
    let age = age_of q sent in
    let unsettled : p.settled ≡ false = ap is_some fresh in
    let made : Next site p (with_entry p (begun age p.epoch)) = makes site p age refl unsettled first.no_entry (h.fits q.txn declared exists) in
    let p1 = with_entry p (begun age p.epoch) in
    let named : IfSome q.epoch (λ (e : ℕ). e ≡ p.epoch) = subst (λ (o : Option ℕ). IfSome o (λ (e : ℕ). e ≡ p.epoch)) (sym (none_if_not_some q.epoch first.unnamed)) tt in
    let done = ran_reply q (begun age p.epoch) (deed_of q.query query value) proof in
    let ran_now : Next site p1 (with_entry p1 (ran (begun age p.epoch) (deed_at declared q.query value) done)) =
    runs_at_once site p1 (begun age p.epoch) q done value refl refl made.fits (query_follows site p p1 q made.follows asked) named refl refl (answer_is sc s site q query value proof (begun age p.epoch) k found) in
    let entry_is : begun age p.epoch ≡ entry = ap (begun age) (sym h.epoch_is) ∙ sym first.entry_is in
    subst (λ (e : Entry). Next site p (with_entry p (ran e (deed_at declared q.query value) (ran_reply q e (deed_of q.query query value) proof)))) entry_is
    (next_both site p p1 (with_entry p1 (ran (begun age p.epoch) (deed_at declared q.query value) done)) made ran_now)

-- nothing waits at the entry
idle_entry : (s : Server) (sent : ℕ) (q : QueryRequest) (entry : Entry) → IsFirstHere s sent q entry ⊎ IsFurther s q entry → entry.waiting ≡ None
idle_entry s sent q entry place =
    ⊎_elim (λ (first : IsFirstHere s sent q entry). ap (λ (e : Entry). e.waiting) first.entry_is) (λ (further : IsFurther s q entry). none_if_not_some entry.waiting further.idle) place

ran_is : (q : QueryRequest) (entry : Entry) (deed : Deed) (proof : Option Verdict) → entry.waiting ≡ None → ran entry deed (ran_reply q entry deed proof) ≡ entry_after q entry deed proof
ran_is q entry deed proof idle =
    ap (λ (waiting : Option QueryRequest).
    record {
      age = entry.age;
      epoch = entry.epoch;
      answers = entry.answers ++ ran_reply q entry deed proof ∷ [];
      waiting = waiting;
      deeds = entry.deeds ++ deed ∷ [];
      ballot = entry.ballot;
    }) (sym idle)

last_of : {B : Type 0} (P : B → Type 0) (xs : List B) (x : B) → Each P (xs ++ x ∷ []) → P x
last_of P [] x h = h.0
last_of P (first ∷ xs) x h = last_of P xs x h.1

-- ---- an entry changes

-- the entry of one transaction changes, and nothing is forced
entry_pairs : (sc : Scenario) (A : TxnId → Option Asker) (s : Server) (kept : List Record) (txn : TxnId) (new : Entry) (letters : List Letter) → ServerPaired sc A s kept → txn.0 < length sc.txns
    → ((declared : Transaction) → slice_get sc.txns txn.0 ≡ Some declared → Next (site_of sc s.server.0 declared) (pair_up txn (A txn) s kept) (with_entry (pair_up txn (A txn) s kept) new))
    → Each (IsReply sc s.server (λ other. pair_up other (A other) (server.with_entry s txn (Some new)) kept)) letters → RowPairs sc A s kept (sends (server.with_entry s txn (Some new)) letters)
entry_pairs sc A s kept txn new letters h exists event replies =
    let now = server.with_entry s txn (Some new) in
    let P : TxnId → Pair = λ other. pair_up other (A other) s kept in
    let Q : TxnId → Pair = λ other. pair_up other (A other) now kept in
    let there : entry_at now txn ≡ Some new = ap option_flatten (set_here s.entries txn.0 (Some new) (omega (arith, exists, h.places))) in
    let whole : with_entry (P txn) new ≡ Q txn = ap (λ (n : Option Entry). made_pair (A txn) (epoch_in kept) (settled_in txn kept) n (prepared_in txn kept)) (sym there) in
    record {
      next = own_next sc s.server.0 P Q txn h.fits (λ declared found. subst (Next (site_of sc s.server.0 declared) (P txn)) whole (event declared found))
          (λ other apart. other_pair (A other) txn other s now kept None apart (record { entry = Some new; entries = refl; own = tt }));
      places = length-set s.entries txn.0 (Some new) ∙ h.places;
      replies = replies;
    }

-- what a request says of the pair with its new entry, it says after the act
entry_asked : (sc : Scenario) (A : TxnId → Option Asker) (s : Server) (kept : List Record) (txn : TxnId) (new : Entry) → ServerPaired sc A s kept → txn.0 < length sc.txns → (declared : Transaction) (q : QueryRequest)
    → QueryFits (site_of sc s.server.0 declared) (with_entry (pair_up txn (A txn) s kept) new) q → QueryFits (site_of sc s.server.0 declared) (pair_up txn (A txn) (server.with_entry s txn (Some new)) kept) q
entry_asked sc A s kept txn new h exists declared q asked =
    let there : entry_at (server.with_entry s txn (Some new)) txn ≡ Some new = ap option_flatten (set_here s.entries txn.0 (Some new) (omega (arith, exists, h.places))) in
    subst (λ (n : Option Entry). QueryFits (site_of sc s.server.0 declared) (made_pair (A txn) (epoch_in kept) (settled_in txn kept) n (prepared_in txn kept)) q) (sym there) asked

-- the pair once a query has its entry: the one that is there, or the one that is made
record IsEntered (site : Site) (p : Pair) (q : QueryRequest) (entry : Entry) : Type 0 where
  next : Next site p (with_entry p entry)
  fits : QueryFits site (with_entry p entry) q
  epoch : IfSome q.epoch (λ (e : ℕ). e ≡ entry.epoch)
  fresh : answer_in q.query entry.answers ≡ None
  unvoted : entry.ballot ≡ None

entered : (sc : Scenario) (A : TxnId → Option Asker) (s : Server) (kept : List Record) (sent : ℕ) (q : QueryRequest) (entry : Entry) (declared : Transaction) → ServerPaired sc A s kept → settled_in q.txn kept ≡ None
    → slice_get sc.txns q.txn.0 ≡ Some declared → QueryFits (site_of sc s.server.0 declared) (pair_up q.txn (A q.txn) s kept) q → IsFirstHere s sent q entry ⊎ IsFurther s q entry
    → IsEntered (site_of sc s.server.0 declared) (pair_up q.txn (A q.txn) s kept) q entry
entered sc A s kept sent q entry declared h fresh exists asked place =
    let site = site_of sc s.server.0 declared in
    let p = pair_up q.txn (A q.txn) s kept in
    ⊎_elim (λ (first : IsFirstHere s sent q entry).
    let age = age_of q sent in
    let unsettled : p.settled ≡ false = ap is_some fresh in
    let made : Next site p (with_entry p (begun age p.epoch)) = makes site p age refl unsettled first.no_entry (h.fits q.txn declared exists) in
    let named : IfSome q.epoch (λ (e : ℕ). e ≡ p.epoch) = subst (λ (o : Option ℕ). IfSome o (λ (e : ℕ). e ≡ p.epoch)) (sym (none_if_not_some q.epoch first.unnamed)) tt in
    let entry_is : begun age p.epoch ≡ entry = ap (begun age) (sym h.epoch_is) ∙ sym first.entry_is in
    subst (IsEntered site p q) entry_is (record { next = made; fits = query_follows site p (with_entry p (begun age p.epoch)) q made.follows asked; epoch = named; fresh = refl; unvoted = refl }))
    (λ (further : IsFurther s q entry).
    let same : p ≡ with_entry p entry = ap (λ (n : Option Entry). made_pair (A q.txn) (epoch_in kept) (settled_in q.txn kept) n (prepared_in q.txn kept)) further.found in
    record {
      next = subst (Next site p) same (next_same site p (h.fits q.txn declared exists));
      fits = subst (λ (x : Pair). QueryFits site x q) same asked;
      epoch = same_epochs q q.epoch entry further.same_epoch;
      fresh = same_answer q.query entry.answers ∙ further.unanswered;
      unvoted = none_if_not_some entry.ballot further.unvoted;
    }) place

-- a query that waits
waits_pairs : (sc : Scenario) (A : TxnId → Option Asker) (s : Server) (kept : List Record) (sent : ℕ) (q : QueryRequest) (entry : Entry) → ServerPaired sc A s kept → settled_in q.txn kept ≡ None → q.txn.0 < length sc.txns
    → IsFirstHere s sent q entry ⊎ IsFurther s q entry → ((declared : Transaction) → slice_get sc.txns q.txn.0 ≡ Some declared → QueryFits (site_of sc s.server.0 declared) (pair_up q.txn (A q.txn) s kept) q)
    → RowPairs sc A s kept (waits s q entry)
waits_pairs sc A s kept sent q entry h fresh exists place asked =
    entry_pairs sc A s kept q.txn (record entry { waiting = Some q }) [] h exists
    (λ declared found.
    let site = site_of sc s.server.0 declared in
    let p = pair_up q.txn (A q.txn) s kept in
    let e = entered sc A s kept sent q entry declared h fresh found (asked declared found) place in
    next_both site p (with_entry p entry) (with_entry p (changed entry (Some q) entry.answers)) e.next (keeps site (with_entry p entry) entry q refl e.next.fits e.fits e.epoch e.fresh e.unvoted)) tt

-- a query that does not run, and is answered
denies_pairs : (sc : Scenario) (A : TxnId → Option Asker) (s : Server) (kept : List Record) (sent : ℕ) (q : QueryRequest) (entry : Entry) (given : Answer) → ServerPaired sc A s kept → settled_in q.txn kept ≡ None
    → q.txn.0 < length sc.txns → IsFirstHere s sent q entry ⊎ IsFurther s q entry → has_run given ≡ false
    → ((declared : Transaction) → slice_get sc.txns q.txn.0 ≡ Some declared → QueryFits (site_of sc s.server.0 declared) (pair_up q.txn (A q.txn) s kept) q) → RowPairs sc A s kept (answers_with s q entry given)
denies_pairs sc A s kept sent q entry given h fresh exists place unrun asked =
    let reply = reply_of q entry.epoch given in
    let new = with_answer q entry given in
    let idle : changed entry None new.answers ≡ new = ap (λ (waiting : Option QueryRequest). changed entry waiting new.answers) (sym (idle_entry s sent q entry place)) in
    let p = pair_up q.txn (A q.txn) s kept in
    let event : (declared : Transaction) → slice_get sc.txns q.txn.0 ≡ Some declared → Next (site_of sc s.server.0 declared) p (with_entry p new) = λ declared found.
    let site = site_of sc s.server.0 declared in
    let e = entered sc A s kept sent q entry declared h fresh found (asked declared found) place in
    subst (λ (x : Entry). Next site p (with_entry p x)) idle
    (next_both site p (with_entry p entry) (with_entry p (changed entry None new.answers)) e.next
    (denies site (with_entry p entry) entry reply refl e.next.fits (answers_unrun site (with_entry p entry) q entry.epoch given unrun e.fits)))
    in
    entry_pairs sc A s kept q.txn new _ h exists event (
      record {
        from_is = refl;
        says = λ declared found.
            let site = site_of sc s.server.0 declared in
            let now = pair_up q.txn (A q.txn) (server.with_entry s q.txn (Some new)) kept in
            answers_unrun site now q entry.epoch given unrun (entry_asked sc A s kept q.txn new h exists declared q (query_follows site p (with_entry p new) q (event declared found).follows (asked declared found)));
      },
      tt,
    )

-- a query that runs
runs_pairs : (sc : Scenario) (A : TxnId → Option Asker) (s : Server) (kept : List Record) (sent : ℕ) (q : QueryRequest) (query : Query) (entry : Entry) (value : ℤ) (proof : Option Verdict) → ServerPaired sc A s kept → settled_in q.txn kept ≡ None
    → IsRunOf sc s q query value → IsFirstHere s sent q entry ⊎ IsFurther s q entry
    → ((declared : Transaction) → slice_get sc.txns q.txn.0 ≡ Some declared → QueryFits (site_of sc s.server.0 declared) (pair_up q.txn (A q.txn) s kept) q)
    → RowPairs sc A s kept (completes s q query entry (deed_of q.query query value) proof)
runs_pairs sc A s kept sent q query entry value proof h fresh k place asked =
    let P : TxnId → Pair = λ txn. pair_up txn (A txn) s kept in
    let deed = deed_of q.query query value in
    let new = entry_after q entry deed proof in
    let now = (completes s q query entry deed proof).state in
    let Q : TxnId → Pair = λ txn. pair_up txn (A txn) now kept in
    let exists = k.exists in
    let places = h.places in
    let there : entry_at now q.txn ≡ Some new = ap option_flatten (set_here s.entries q.txn.0 (Some new) (omega (arith, exists, places))) in
    let event : (declared : Transaction) → slice_get sc.txns q.txn.0 ≡ Some declared → Next (site_of sc s.server.0 declared) (P q.txn) (Q q.txn) = λ declared found.
    let site = site_of sc s.server.0 declared in
    let p = P q.txn in
    let query_is : query_at declared q.query ≡ Some query = sym (ap (λ (x : Option Transaction). option_and_then (λ (d : Transaction). query_at d q.query) x) found) ∙ k.asked_is in
    let done = ran_reply q entry deed proof in
    let run : Next site p (with_entry p (ran entry (deed_at declared q.query value) done)) =
    ⊎_elim (λ (first : IsFirstHere s sent q entry). runs_first sc A s kept sent q query entry value proof declared h fresh k found query_is (asked declared found) first)
    (λ (further : IsFurther s q entry). runs_further sc A s kept q query entry value proof declared h k found query_is (asked declared found) further) place in
    let own : deed_at declared q.query value ≡ deed = ap (λ (x : Option Query). deed_asked q.query x value) query_is in
    let whole : with_entry p (ran entry (deed_at declared q.query value) done) ≡ Q q.txn =
    ap (λ (n : Option Entry). made_pair (A q.txn) (epoch_in kept) (settled_in q.txn kept) n (prepared_in q.txn kept))
    (ap (λ (d : Deed). Some (ran entry d done)) own ∙ (ap Some (ran_is q entry deed proof (idle_entry s sent q entry place)) ∙ sym there)) in
    subst (Next site p) whole run
    in
    record {
      next = own_next sc s.server.0 P Q q.txn h.fits event (λ txn apart. other_pair (A txn) q.txn txn s now kept None apart (record { entry = Some new; entries = refl; own = tt }));
      places = length-set s.entries q.txn.0 (Some new) ∙ h.places;
      replies = (
        record {
          from_is = refl;
          says = λ declared found.
              let site = site_of sc s.server.0 declared in
              let fits : EntryFits site (Q q.txn) new = of_some (EntryFits site (Q q.txn)) (Q q.txn).entry new there (event declared found).fits.entry in
              last_of (DoneFits site (Q q.txn)) entry.answers (ran_reply q entry deed proof) fits.answers;
        },
        tt,
      );
    }

-- ---- a query that waited runs

-- what is said of transactions is so as they go on
reply_stays : (sc : Scenario) (at : ServerId) (P Q : TxnId → Pair) → AllNext sc at.0 P Q → (said : Body) → ReplyPairs sc at P said → ReplyPairs sc at Q said
reply_stays sc at P Q next (body.Done done) h = λ declared found. done_follows (site_of sc at.0 declared) (P done.txn) (Q done.txn) done (next done.txn declared found).follows (h declared found)
reply_stays sc at P Q next (body.Vote reply) h = h
reply_stays sc at P Q next (body.Verdicts reply) h = λ declared found. verdicts_follow (site_of sc at.0 declared) (P reply.txn) (Q reply.txn) reply (next reply.txn declared found).follows (h declared found)
reply_stays sc at P Q next (body.Query q) h = absurd h
reply_stays sc at P Q next (body.Prepare r) h = absurd h
reply_stays sc at P Q next (body.Validate v) h = absurd h
reply_stays sc at P Q next _ h = tt

pub all_both : (sc : Scenario) (at : ℕ) (P Q R : TxnId → Pair) → AllNext sc at P Q → AllNext sc at Q R → AllNext sc at P R
all_both sc at P Q R first second txn declared found = next_both (site_of sc at declared) (P txn) (Q txn) (R txn) (first txn declared found) (second txn declared found)

-- what waited goes on, after what was done before: its entry becomes this, with this answer as its last
goes_on_pairs : (sc : Scenario) (A : TxnId → Option Asker) (s : Server) (kept : List Record) (effect : Effect Server) (now : Server) (q : QueryRequest) (entry new : Entry) (given : Answer)
    → effect.state.server ≡ s.server → entry_at effect.state q.txn ≡ Some entry → now.entries ≡ slice_set effect.state.entries q.txn.0 (Some new) → new.answers ≡ entry.answers ++ reply_of q entry.epoch given ∷ []
    → ((declared : Transaction) → slice_get sc.txns q.txn.0 ≡ Some declared → Fits (site_of sc s.server.0 declared) (pair_up q.txn (A q.txn) effect.state (log_with kept effect.reaction.append))
    → Next (site_of sc s.server.0 declared) (pair_up q.txn (A q.txn) effect.state (log_with kept effect.reaction.append)) (with_entry (pair_up q.txn (A q.txn) effect.state (log_with kept effect.reaction.append)) new))
    → RowPairs sc A s kept effect → RowPairs sc A s kept (followed_by effect (sends now (reply_letter effect.state q entry given ∷ [])))
goes_on_pairs sc A s kept effect now q entry new given server_is found_at entries answers_are event_by h =
    let log = log_with kept effect.reaction.append in
    let was = effect.state in
    let P : TxnId → Pair = λ txn. pair_up txn (A txn) was log in
    let Q : TxnId → Pair = λ txn. pair_up txn (A txn) now log in
    let within : q.txn.0 < length was.entries = placed_within was.entries q.txn.0 entry found_at in
    let there : entry_at now q.txn ≡ Some new = ap (λ (table : List (Option Entry)). option_flatten (slice_get table q.txn.0)) entries ∙ ap option_flatten (set_here was.entries q.txn.0 (Some new) within) in
    let whole : with_entry (P q.txn) new ≡ Q q.txn = ap (λ (n : Option Entry). made_pair (A q.txn) (epoch_in log) (settled_in q.txn log) n (prepared_in q.txn log)) (sym there) in
    let event : (declared : Transaction) → slice_get sc.txns q.txn.0 ≡ Some declared → Next (site_of sc s.server.0 declared) (P q.txn) (Q q.txn) = λ declared found.
    subst (Next (site_of sc s.server.0 declared) (P q.txn)) whole (event_by declared found (h.next q.txn declared found).fits) in
    let step : AllNext sc s.server.0 P Q = own_next sc s.server.0 P Q q.txn (λ txn declared found. (h.next txn declared found).fits) event
    (λ txn apart. other_pair (A txn) q.txn txn was now log None apart (record { entry = Some new; entries = entries; own = tt })) in
    let answer : IsReply sc s.server Q (reply_letter was q entry given) = record {
      from_is = ap (λ (at : ServerId). actor.Server at) server_is;
      says = λ declared found.
          let site = site_of sc s.server.0 declared in
          let fits : EntryFits site (Q q.txn) new = of_some (EntryFits site (Q q.txn)) (Q q.txn).entry new there (event declared found).fits.entry in
          last_of (DoneFits site (Q q.txn)) entry.answers (reply_of q entry.epoch given) (subst (Each (DoneFits site (Q q.txn))) answers_are fits.answers);
    } in
    record {
      next = all_both sc s.server.0 (λ txn. pair_up txn (A txn) s kept) P Q h.next step;
      places = ap length entries ∙ (length-set was.entries q.txn.0 (Some new) ∙ h.places);
      replies = each_more (IsReply sc s.server Q) effect.reaction.letters _
          (each_as (IsReply sc s.server P) (IsReply sc s.server Q) (λ letter reply. record { from_is = reply.from_is; says = reply_stays sc s.server P Q step letter.body reply.says }) effect.reaction.letters h.replies) answer;
    }

-- what waited runs
resumes_pairs : (sc : Scenario) (A : TxnId → Option Asker) (s : Server) (kept : List Record) (effect : Effect Server) (grant : Grant) (q : QueryRequest) (query : Query) (entry : Entry) (value : ℤ) (proof : Option Verdict)
    → IsResumed sc s.server effect.state grant q query entry value → RowPairs sc A s kept effect → RowPairs sc A s kept (followed_by effect (resuming effect.state q query entry value proof))
resumes_pairs sc A s kept effect grant q query entry value proof k h =
    let deed = deed_of q.query query value in
    let new = entry_after q (unwaiting entry) deed proof in
    goes_on_pairs sc A s kept effect (resuming effect.state q query entry value proof).state q entry new (ran_as deed proof) k.server_is k.found refl refl
    (λ declared found fits.
    let site = site_of sc s.server.0 declared in
    let p = pair_up q.txn (A q.txn) effect.state (log_with kept effect.reaction.append) in
    let query_is : query_at declared q.query ≡ Some query = sym (ap (λ (x : Option Transaction). option_and_then (λ (d : Transaction). query_at d q.query) x) found) ∙ k.asked_is in
    let answered : IsAnswer site entry q (ran_reply q entry deed proof) value = answer_is sc effect.state site q query value proof entry
    (record { exists = k.exists; asked_is = k.asked_is; value_is = k.value_is }) query_is in
    let own : deed_at declared q.query value ≡ deed = ap (λ (x : Option Query). deed_asked q.query x value) query_is in
    subst (λ (d : Deed). Next site p (with_entry p (ran entry d (ran_reply q entry deed proof)))) own
    (runs site p entry q (ran_reply q entry deed proof) value refl k.found k.waiting_is fits answered)) h

-- or it does not run
resumes_unrun : (sc : Scenario) (A : TxnId → Option Asker) (s : Server) (kept : List Record) (effect : Effect Server) (grant : Grant) (q : QueryRequest) (query : Query) (entry : Entry) (value : ℤ) (given : Answer)
    → IsResumed sc s.server effect.state grant q query entry value → has_run given ≡ false → RowPairs sc A s kept effect → RowPairs sc A s kept (followed_by effect (answers_with effect.state q (unwaiting entry) given))
resumes_unrun sc A s kept effect grant q query entry value given k unrun h =
    goes_on_pairs sc A s kept effect (answers_with effect.state q (unwaiting entry) given).state q entry (with_answer q (unwaiting entry) given) given k.server_is k.found refl refl
    (λ declared found fits.
    let site = site_of sc s.server.0 declared in
    let p = pair_up q.txn (A q.txn) effect.state (log_with kept effect.reaction.append) in
    let waits : Waits site p entry q = of_some (Waits site p entry) entry.waiting q k.waiting_is (of_some (EntryFits site p) p.entry entry k.found fits.entry).waiting in
    denies site p entry (reply_of q entry.epoch given) k.found fits (answers_unrun site p q entry.epoch given unrun waits.fits)) h

-- ---- Prepare

votes_pairs : (sc : Scenario) (A : TxnId → Option Asker) (s : Server) (kept : List Record) (r : PrepareRequest) (entry : Entry) (forced : Prepared) → ServerPaired sc A s kept → settled_in r.txn kept ≡ None
    → entry_at s r.txn ≡ Some entry → entry.epoch ≡ r.epoch → r.txn.0 < length sc.txns → forced.txn ≡ r.txn → IsVoteOn entry forced
    → ((declared : Transaction) → slice_get sc.txns r.txn.0 ≡ Some declared → PrepareFits (site_of sc s.server.0 declared) (pair_up r.txn (A r.txn) s kept) r)
    → RowPairs sc A s kept (casts (with_wants s r.want) forced entry)
votes_pairs sc A s kept r entry forced h fresh there same exists own on asked =
    let P : TxnId → Pair = λ txn. pair_up txn (A txn) s kept in
    let effect = casts (with_wants s r.want) forced entry in
    let now = effect.state in
    let append = effect.reaction.append in
    let new = with_ballot entry (ballot_of forced) in
    let Q : TxnId → Pair = λ txn. pair_up txn (A txn) now (log_with kept append) in
    let is : same_txn forced.txn r.txn ≡ true = ap (λ (t : TxnId). same_txn t r.txn) own ∙ number_itself r.txn.0 in
    let entries : now.entries ≡ slice_set s.entries r.txn.0 (Some new) = ap (λ (t : TxnId). slice_set s.entries t.0 (Some new)) own in
    let found_new : entry_at now r.txn ≡ Some new = ap (λ (table : List (Option Entry)). option_flatten (slice_get table r.txn.0)) entries ∙ ap option_flatten (set_here s.entries r.txn.0 (Some new) (omega (arith, exists, h.places))) in
    let act : IsOwnAct r.txn s now append = record { entry = Some new; entries = entries; own = own } in
    let event : (declared : Transaction) → slice_get sc.txns r.txn.0 ≡ Some declared → Next (site_of sc s.server.0 declared) (P r.txn) (Q r.txn) = λ declared found.
    let site = site_of sc s.server.0 declared in
    let p = P r.txn in
    let n : Next site p (vote.forced p entry forced) = forces site p entry r forced refl there (h.fits r.txn declared found) (asked declared found) same on in
    let still : settled_in r.txn (log_with kept append) ≡ settled_in r.txn kept = settled_with r.txn kept append ∙ first_none (settled_in r.txn kept) in
    let whole : vote.forced p entry forced ≡ Q r.txn =
    same_made (A r.txn) (epoch_in kept) (epoch_in (log_with kept append)) (settled_in r.txn kept) (settled_in r.txn (log_with kept append)) (Some new) (entry_at now r.txn) (Some forced) (prepared_in r.txn (log_with kept append))
    (sym (same_epoch_in r.txn kept append own)) (sym still) (sym found_new) (sym (prepared_now r.txn kept forced own fresh)) in
    subst (Next site p) whole n
    in
    record {
      next = own_next sc s.server.0 P Q r.txn h.fits event (λ txn apart. other_pair (A txn) r.txn txn s now kept append apart act);
      places = ap length entries ∙ (length-set s.entries r.txn.0 (Some new) ∙ h.places);
      replies = (
        record {
          from_is = refl;
          says = λ declared found.
              (event declared (ap (λ (t : TxnId). slice_get sc.txns t.0) (sym own) ∙ found)).fits.server.verdicts forced (prepared_now r.txn kept forced own fresh);
        },
        tt,
      );
    }

-- a vote that is given again
votes_again_pairs : (sc : Scenario) (A : TxnId → Option Asker) (s : Server) (kept : List Record) (r : PrepareRequest) (entry : Entry) (cast : Ballot) → ServerPaired sc A s kept → entry_at s r.txn ≡ Some entry
    → entry.ballot ≡ Some cast → RowPairs sc A s kept (sends s (yes_letter s r.txn cast ∷ []))
votes_again_pairs sc A s kept r entry cast h there ballot_is =
    record {
      next = still_next sc A s kept h;
      places = h.places;
      replies = (
        record {
          from_is = refl;
          says = λ declared found.
              let p = pair_up r.txn (A r.txn) s kept in
              let site = site_of sc s.server.0 declared in
              let kept_is : EntryFits site p entry = of_some (EntryFits site p) p.entry entry there (h.fits r.txn declared found).entry in
              of_some (λ (b : Ballot). AreNoneOrAll site b.verdicts) entry.ballot cast ballot_is kept_is.ballot;
        },
        tt,
      );
    }

-- verdicts are on what the entry has, or there are none
evaluated_on : (sc : Scenario) (s : Server) (p : PrepareRequest) (entry : Entry) (verdicts : List Verdict) → IsEvaluated sc s p entry verdicts → AreNoneOrOn entry.deeds verdicts
evaluated_on sc s p entry _ (Stapled staple txn given there) = inr (numbers_kept sc (with_wants s p.want) txn staple p.want entry.deeds)
evaluated_on sc s p entry _ (Unstapled given) = inl refl

-- ---- Validate

-- what the entry has is evaluated, and the verdicts are sent
shows_pairs : (sc : Scenario) (A : TxnId → Option Asker) (s : Server) (kept : List Record) (v : ValidateRequest) (entry : Entry) (txn : Transaction) → ServerPaired sc A s kept → entry_at s v.txn ≡ Some entry → entry.epoch ≡ v.epoch
    → RequestPairs sc s.server A (λ other. pair_up other (A other) s kept) (body.Validate v) → RowPairs sc A s kept (shows_on sc (with_wants s v.want) v entry txn)
shows_pairs sc A s kept v entry txn h there same asked =
    record {
      next = still_next sc A s kept h;
      places = h.places;
      replies = (
        record {
          from_is = refl;
          says = λ declared found.
              let verdicts = verdicts_on sc (with_wants s v.want) txn v.staple v.want entry.deeds in
              proves (site_of sc s.server.0 declared) (pair_up v.txn (A v.txn) s kept) entry v (record { txn = v.txn; turn = v.turn; verdicts = Some verdicts }) verdicts refl there (h.fits v.txn declared found) (asked declared found) same
              refl refl (numbers_kept sc (with_wants s v.want) txn v.staple v.want entry.deeds);
        },
        tt,
      );
    }

-- what was done in the epoch that is named is lost
loses_pairs : (sc : Scenario) (A : TxnId → Option Asker) (s : Server) (kept : List Record) (v : ValidateRequest) → ServerPaired sc A s kept → RequestPairs sc s.server A (λ other. pair_up other (A other) s kept) (body.Validate v)
    → RowPairs sc A s kept (shows s v None)
loses_pairs sc A s kept v h asked =
    record {
      next = still_next sc A s kept h;
      places = h.places;
      replies = (record { from_is = refl; says = λ declared found. loses (site_of sc s.server.0 declared) (pair_up v.txn (A v.txn) s kept) v (record { txn = v.txn; turn = v.turn; verdicts = None }) (asked declared found) refl refl }, tt);
    }

-- ---- Decide

settled_now_in_pairs : (txn : TxnId) (kept : List Record) (s : Settled) → s.txn ≡ txn → settled_in txn kept ≡ None → settled_in txn (log_with kept (Some (log.Settled s))) ≡ Some s
settled_now_in_pairs txn kept s own fresh =
    let new : settlement_in txn (log.Settled s) ≡ Some s = ap (λ (b : Bool). if b then Some s else None) (ap (λ (t : TxnId). same_txn t txn) own ∙ number_itself txn.0) in
    settled_with txn kept (Some (log.Settled s)) ∙ (ap (λ (x : Option Settled). option_or x (settlement_in txn (log.Settled s))) fresh ∙ new)

-- the transaction is settled at the server
ends_next : (sc : Scenario) (A : TxnId → Option Asker) (s : Server) (kept : List Record) (order : Settled) (letter : Letter) → ServerPaired sc A s kept → settled_in order.txn kept ≡ None → order.txn.0 < length sc.txns
    → ((declared : Transaction) → slice_get sc.txns order.txn.0 ≡ Some declared → Next (site_of sc s.server.0 declared) (pair_up order.txn (A order.txn) s kept) (end.settled (pair_up order.txn (A order.txn) s kept)))
    → AllNext sc s.server.0 (λ txn. pair_up txn (A txn) s kept) (λ txn. pair_up txn (A txn) (closes s order letter).state (log_with kept (Some (log.Settled order))))
ends_next sc A s kept order letter h fresh exists may =
    let P : TxnId → Pair = λ txn. pair_up txn (A txn) s kept in
    let now = (closes s order letter).state in
    let append = Some (log.Settled order) in
    let Q : TxnId → Pair = λ txn. pair_up txn (A txn) now (log_with kept append) in
    let act : IsOwnAct order.txn s now append = record { entry = None; entries = refl; own = refl } in
    let none_there : entry_at now order.txn ≡ None = ap option_flatten (set_here s.entries order.txn.0 None (omega (arith, exists, h.places))) in
    let ended : settled_in order.txn (log_with kept append) ≡ Some order = settled_now_in_pairs order.txn kept order refl fresh in
    let nothing : prepared_in order.txn (log_with kept append) ≡ None = ap (λ (x : Option Settled). while_unsettled x (voted_in order.txn (log_with kept append))) ended in
    let event : (declared : Transaction) → slice_get sc.txns order.txn.0 ≡ Some declared → Next (site_of sc s.server.0 declared) (P order.txn) (Q order.txn) = λ declared found.
    let site = site_of sc s.server.0 declared in
    let whole : end.settled (P order.txn) ≡ Q order.txn =
    same_made (A order.txn) (epoch_in kept) (epoch_in (log_with kept append)) (Some order) (settled_in order.txn (log_with kept append)) None (entry_at now order.txn) None (prepared_in order.txn (log_with kept append))
    (sym (same_epoch_in order.txn kept append refl)) (sym ended) (sym none_there) (sym nothing) in
    subst (Next site (P order.txn)) whole (may declared found)
    in
    own_next sc s.server.0 P Q order.txn h.fits event (λ txn apart. other_pair (A txn) order.txn txn s now kept append apart act)

settles_pairs : (sc : Scenario) (A : TxnId → Option Asker) (s : Server) (kept : List Record) (d : DecideRequest) → ServerPaired sc A s kept → settled_in d.txn kept ≡ None → d.txn.0 < length sc.txns → A d.txn ≡ None
    → RowPairs sc A s kept (closes s (settled_as d) (ack_letter s d.txn))
settles_pairs sc A s kept d h fresh exists decided =
    record {
      next = ends_next sc A s kept (settled_as d) (ack_letter s d.txn) h fresh exists
          (λ declared found. ordered (site_of sc s.server.0 declared) (pair_up d.txn (A d.txn) s kept) refl decided (h.fits d.txn declared found));
      places = length-set s.entries d.txn.0 None ∙ h.places;
      replies = (record { from_is = refl; says = tt }, tt);
    }

-- the server refuses where no entry of the epoch that is named was voted on
refuses_pairs : (sc : Scenario) (A : TxnId → Option Asker) (s : Server) (kept : List Record) (p : PrepareRequest) (why : No) → ServerPaired sc A s kept → settled_in p.txn kept ≡ None → p.txn.0 < length sc.txns
    → ((entry : Entry) → entry_at s p.txn ≡ Some entry → entry.epoch ≡ p.epoch → entry.ballot ≡ None) → RequestPairs sc s.server A (λ txn. pair_up txn (A txn) s kept) (body.Prepare p) → RowPairs sc A s kept (closes s (refused_as p why) (no_letter s p why))
refuses_pairs sc A s kept p why h fresh exists unvoted asked =
    record {
      next = ends_next sc A s kept (refused_as p why) (no_letter s p why) h fresh exists
          (λ declared there. end.refuses (site_of sc s.server.0 declared) (pair_up p.txn (A p.txn) s kept) p refl (h.fits p.txn declared there) (asked declared there) unvoted);
      places = length-set s.entries p.txn.0 None ∙ h.places;
      replies = (record { from_is = refl; says = λ declared there. tt }, tt);
    }

-- a vote NO again
refused_again_pairs : (sc : Scenario) (A : TxnId → Option Asker) (s : Server) (kept : List Record) (p : PrepareRequest) (why : No) → ServerPaired sc A s kept → RowPairs sc A s kept (sends s (no_letter s p why ∷ []))
refused_again_pairs sc A s kept p why h = let still = ignores_pairs sc A s kept h in record { next = still.next; places = still.places; replies = (record { from_is = refl; says = λ declared found. tt }, tt) }

-- ---- Push

learns_pairs : (sc : Scenario) (A : TxnId → Option Asker) (s : Server) (kept : List Record) (push : PushNotice) → ServerPaired sc A s kept → RowPairs sc A s kept (learns s push)
learns_pairs sc A s kept push h =
    let forced = log.Told (told_of push) in
    record {
      next = λ txn declared found.
          let p = pair_up txn (A txn) s kept in
          subst (Next (site_of sc s.server.0 declared) p) (sym (still_pair (A txn) txn s (learns s push).state kept (Some forced) refl (omega (arith, boots_push kept forced)) refl refl))
          (next_same (site_of sc s.server.0 declared) p (h.fits txn declared found));
      places = h.places;
      replies = tt;
    }

-- ---- all mails

-- every row of a server on receipt of a mail
pub server_row_pairs : (sc : Scenario) (A : TxnId → Option Asker) (s : Server) (kept : List Record) (mail : Mail) → AreRightWaits sc s → ServerPaired sc A s kept → IsSoundServer sc s → IsSoundBody sc (actor.Server s.server) mail.letter.body
    → RequestPairs sc s.server A (λ txn. pair_up txn (A txn) s kept) mail.letter.body → RowPairs sc A s kept (server_row sc s mail)
server_row_pairs sc A s kept mail rightly h sound m asked =
    let to = actor.Server s.server in
    let P : TxnId → Pair = λ txn. pair_up txn (A txn) s kept in
    server_by sc s mail (RowPairs sc A s kept) rightly
    (record {
      relocked = λ effect locks k. record { next = k.next; places = k.places; replies = k.replies };
      relearnt = λ effect admin pin k. record { next = k.next; places = k.places; replies = k.replies };
      ignored = ignores_pairs sc A s kept h;
      ran = λ q query entry value proof k r.
          let request : IsSoundQuery sc to q = subst (IsSoundBody sc to) k.said_is m in
          runs_pairs sc A s kept mail.sent q query entry value proof h (open_unsettled s kept q.txn h.agrees k.unsettled) (record { exists = request.txn; asked_is = k.asked_is; value_is = k.value_is }) k.place
          (subst (RequestPairs sc s.server A P) k.said_is asked);
      waited = λ q query entry value k.
          let request : IsSoundQuery sc to q = subst (IsSoundBody sc to) k.said_is m in
          waits_pairs sc A s kept mail.sent q entry h (open_unsettled s kept q.txn h.agrees k.unsettled) request.txn k.place (subst (RequestPairs sc s.server A P) k.said_is asked);
      denied = λ q query entry value verdict k d. unrun q query entry value (answer.Denied verdict) refl k;
      outdated = λ q query entry value newer k known. unrun q query entry value (answer.Newer newer) refl k;
      died = λ q query entry value other k dying. unrun q query entry value (answer.Died other) refl k;
      restarted = λ q k. restarts_pairs sc A s kept q h (subst (RequestPairs sc s.server A P) k.said_is asked);
      answered = λ q entry given k.
          answers_pairs sc A s kept q entry given h k.found
          (same_txn_from q.txn given.txn (each_found (λ (d : DoneReply). IsSoundDone sc (actor.Coordinator q.txn) d) (λ (d : DoneReply). d.query == q.query) entry.answers given (sound.entries q.txn.0 entry k.found).answers k.given_is).goes_to) k.given_is;
      voted = λ p entry verdicts k.
          votes_pairs sc A s kept p entry (prepared_record (with_wants s p.want) p entry verdicts) h (open_unsettled s kept p.txn h.agrees k.unsettled) k.found (eqb-true entry.epoch p.epoch k.same_epoch)
          (subst (IsSoundBody sc to) k.said_is m).txn refl (record { epoch = refl; deeds = refl; verdicts = evaluated_on sc s p entry verdicts k.evaluated }) (subst (RequestPairs sc s.server A P) k.said_is asked);
      shown = λ v entry txn k. shows_pairs sc A s kept v entry txn h k.found (eqb-true entry.epoch v.epoch k.same_epoch) (subst (RequestPairs sc s.server A P) k.said_is asked);
      lost_verdicts = λ v k. loses_pairs sc A s kept v h (subst (RequestPairs sc s.server A P) k.said_is asked);
      voted_again = λ p entry cast k. votes_again_pairs sc A s kept p entry cast h k.found k.ballot_is;
      refused = λ p entry number value k.
          refuses_pairs sc A s kept p _ h (open_unsettled s kept p.txn h.agrees k.unsettled) (subst (IsSoundBody sc to) k.said_is m).txn
          (λ other is epoch. subst (λ (e : Entry). e.ballot ≡ None) (same_Some entry other (sym k.found ∙ is)) k.unvoted) (subst (RequestPairs sc s.server A P) k.said_is asked);
      lost = λ p k.
          refuses_pairs sc A s kept p _ h (open_unsettled s kept p.txn h.agrees k.unsettled) (subst (IsSoundBody sc to) k.said_is m).txn (λ entry is epoch. absurd (k.elsewhere entry is epoch))
          (subst (RequestPairs sc s.server A P) k.said_is asked);
      refused_again = λ p settled why k. refused_again_pairs sc A s kept p why h;
      settled = λ d k.
          settles_pairs sc A s kept d h (open_unsettled s kept d.txn h.agrees k.unsettled) (subst (IsSoundBody sc to) k.said_is m).txn (subst (RequestPairs sc s.server A P) k.said_is asked);
      acknowledged = λ d settled k. acknowledges_pairs sc A s kept d h;
      pushed = λ push k. learns_pairs sc A s kept push h;
      resumed = λ effect grant q query entry value proof k r now. resumes_pairs sc A s kept effect grant q query entry value proof k now;
      resumed_denied = λ effect grant q query entry value verdict k d now. resumes_unrun sc A s kept effect grant q query entry value (answer.Denied verdict) k refl now;
      resumed_outdated = λ effect grant q query entry value newer k known now. resumes_unrun sc A s kept effect grant q query entry value (answer.Newer newer) k refl now;
    })
  where
    -- a query that asked, and does not run
    unrun : (q : QueryRequest) (query : Query) (entry : Entry) (value : ℤ) (given : Answer) → has_run given ≡ false → IsAsking sc s mail q query entry value → RowPairs sc A s kept (answers_with s q entry given)
    unrun q query entry value given not_run k =
        let request : IsSoundQuery sc (actor.Server s.server) q = subst (IsSoundBody sc (actor.Server s.server)) k.said_is m in
        denies_pairs sc A s kept mail.sent q entry given h (open_unsettled s kept q.txn h.agrees k.unsettled) request.txn k.place not_run
        (subst (RequestPairs sc s.server A (λ txn. pair_up txn (A txn) s kept)) k.said_is asked)
