-- Agreement, the server's rows: a transaction is settled once, as it was decided; and what is replied rests on the log.
-- ---- what is kept
-- the transaction of an entry is not settled on this log
use Rattle.std.specs.Prelude.{if◌then◌else◌}
use Rattle.std.proofs.Common.{Bool, IfSome, List, None, Option, Some, [], ap, arith, false, is_some, option_and_then, option_map, refl, slice_get, slice_set, subst, suc, sym, true, zero, ℕ, ℤ, ⊎_elim, ◌<◌, ◌==◌, ◌∙◌, ◌∷◌, ◌≡◌, ◌⊎◌}
use Rattle.std.proofs.lemmas.Bool.{eqb-true}
use Rattle.std.proofs.lemmas.Option.{same_Some}
use Rattle.tp_types.proofs.ListLemmas.{number_itself}
use Rattle.tp_types.specs.Effect.{Effect, ignores, sends}
use Rattle.std.specs.Option.{option_flatten, option_or}
use Rattle.tp_types.specs.Table.{is_unset}
use Rattle.tp_lock.specs.declared.entry.Grant.{Grant}
use Rattle.tp_model.specs.Ids.{same_txn}
use Rattle.tp_model.specs.Words.actor
use Rattle.tp_model.specs.Words.answer
use Rattle.tp_model.specs.Words.body
use Rattle.tp_model.specs.Words.log
use Rattle.tp_model.specs.Words.no
use Rattle.tp_model.specs.Words.outcome
use Rattle.tp_model.specs.Words.vote
use Rattle.tp_model.specs.Words.{Answer, Body, DecideRequest, Deed, DoneReply, Letter, Mail, No, Outcome, PrepareRequest, Prepared, PushNotice, Query, QueryRequest, Record, Scenario, ServerId, Settled, TxnId, Verdict, Vote}
use Rattle.tp_runs.proofs.agreement.Logs.{LogPrepared}
use Rattle.tp_runs.proofs.basics.Ids.{same_txn_is}
use Rattle.tp_types.proofs.EachLemmas.{each_append, none_if_not_some, placed_emptied, placed_set}
use Rattle.tp_runs.proofs.basics.Logs.{get_set, prepared_still, prepared_with, settled_still, settled_with}
use Rattle.tp_recover.proofs.LogLemmas.{first_none}
use Rattle.tp_server.proofs.Tables.{written_over}
use Rattle.tp_runs.proofs.basics.Folds.{set_elsewhere}
use Rattle.tp_server.proofs.Rows.{AreRightWaits, IsAsking, IsFirstHere, IsFirstVote, IsFurther, IsLaterVote, IsLostVote, IsResumed, resuming, server_by, unwaiting}
use Rattle.tp_recover.specs.Log.{prepared_in, settled_in, voted_in, while_unsettled}
use Rattle.tp_actor_log.specs.Records.{log_with}
use Rattle.tp_model.specs.Deeds.{deed_of}
use Rattle.tp_types.specs.Each.{Each, EachPlaced}
use Rattle.tp_server.specs.declared.server.Ballot.{Ballot}
use Rattle.tp_server.specs.declared.server.Entry.{Entry}
use Rattle.tp_server.specs.Row.{ack_letter, answers, answers_with, ballot_of, closes, completes, entry_after, entry_at, followed_by, is_open, learns, no_letter, prepared_record, refused_as, reply_of, server_row, settled_as, votes, with_answer, with_entry, yes_letter}
use Rattle.tp_server.specs.State.{Server}
use Rattle.tp_server.specs.Verdicts.{with_wants}

abbrev pub IsUnsettled : List Record → ℕ → Entry → Type 0
IsUnsettled kept n entry = settled_in (record { 0 = n }) kept ≡ None

-- a vote YES as an entry and a log both have it
pub record CastVote : Type 0 where
  pub age : ℕ
  pub epoch : ℕ
  pub turn : ℕ
  pub deeds : List Deed
  pub verdicts : List Verdict

abbrev pub vote_of : Prepared → CastVote
vote_of p = record { age = p.age; epoch = p.epoch; turn = p.turn; deeds = p.deeds; verdicts = p.verdicts }

abbrev pub vote_by : Entry → Ballot → CastVote
vote_by entry cast = record { age = entry.age; epoch = entry.epoch; turn = cast.turn; deeds = entry.deeds; verdicts = cast.verdicts }

-- the vote of an entry, once it has one
abbrev pub cast_in : Entry → Option CastVote
cast_in entry = option_map (vote_by entry) entry.ballot

-- the server has settled what its log says, and that alone; it has entries of transactions that it has not settled alone; and the entries
-- with a vote are what is prepared on its log
pub record ServerAgrees (s : Server) (kept : List Record) : Type 0 where
  pub settled : (txn : TxnId) → option_flatten (slice_get s.settled txn.0) ≡ settled_in txn kept
  pub unsettled : EachPlaced (IsUnsettled kept) s.entries
  pub prepared : (txn : TxnId) → option_map vote_of (prepared_in txn kept) ≡ option_and_then cast_in (entry_at s txn)

-- a settlement is the first, and follows a request (M says of which there was one). Without a reason it is what was decided (V says what
-- is); with one it is the server's own abort of what it has not prepared
pub record SettlementRests (V : TxnId → Outcome → Type 0) (M : TxnId → Type 0) (kept : List Record) (forced : Settled) : Type 0 where
  pub fresh : settled_in forced.txn kept ≡ None
  pub asked : M forced.txn
  pub ordered : forced.why ≡ None → V forced.txn forced.outcome
  pub refused : is_some forced.why ≡ true → (forced.outcome ≡ outcome.Abort) × (prepared_in forced.txn kept ≡ None)

-- a vote YES follows a request, and is of a greater turn than the last vote YES of the same transaction
pub record PreparedRests (M : TxnId → Type 0) (kept : List Record) (forced : Prepared) : Type 0 where
  pub asked : M forced.txn
  pub later : (last : Prepared) → voted_in forced.txn kept ≡ Some last → last.turn < forced.turn

-- what a record of a server rests on
abbrev pub RecordRests : (TxnId → Outcome → Type 0) → (TxnId → Type 0) → List Record → Record → Type 0
RecordRests V M kept (log.Settled forced) = SettlementRests V M kept forced
RecordRests V M kept (log.Prepared p) = PreparedRests M kept p
RecordRests V M kept _ = Unit {0}

-- a vote as the log has it, after it was forced
abbrev pub VoteKept : List Record → TxnId → Vote → Type 0
VoteKept kept txn (vote.Yes verdicts) = LogPrepared txn kept
VoteKept kept txn (vote.No why) = settled_in txn kept ≡ Some (record { txn = txn; outcome = outcome.Abort; why = Some why })

-- what a server says rests on its log; and servers request nothing and order no end
abbrev pub ReplyKept : List Record → Body → Type 0
ReplyKept kept (body.Query q) = ⊥
ReplyKept kept (body.Validate v) = ⊥
ReplyKept kept (body.Prepare p) = ⊥
ReplyKept kept (body.Decide order) = ⊥
ReplyKept kept (body.Vote reply) = VoteKept kept reply.txn reply.vote
ReplyKept kept (body.Ack ack) = is_some (settled_in ack.txn kept) ≡ true
ReplyKept kept (body.Inquire inquiry) = LogPrepared inquiry.txn kept
ReplyKept kept _ = Unit {0}

-- a letter is the server's own
pub record LetterKept (at : ServerId) (kept : List Record) (letter : Letter) : Type 0 where
  pub from_is : letter.from ≡ actor.Server at
  pub says : ReplyKept kept letter.body

-- what a mail to a server rests on: a request was made, and an order to end was decided
abbrev pub RequestRests : (TxnId → Outcome → Type 0) → (TxnId → Type 0) → Body → Type 0
RequestRests V M (body.Query q) = M q.txn
RequestRests V M (body.Validate v) = M v.txn
RequestRests V M (body.Prepare p) = M p.txn
RequestRests V M (body.Decide order) = V order.txn order.outcome × M order.txn
RequestRests V M _ = Unit {0}

-- an act of a server: it agrees with its log after it, what it forces rests on a decision or a request, and what it sends on the log
pub record ServerLawful (V : TxnId → Outcome → Type 0) (M : TxnId → Type 0) (s : Server) (kept : List Record) (effect : Effect Server) : Type 0 where
  pub agrees : ServerAgrees effect.state (log_with kept effect.reaction.append)
  pub rests : IfSome effect.reaction.append (RecordRests V M kept)
  pub replies : Each (LetterKept s.server (log_with kept effect.reaction.append)) effect.reaction.letters

-- ---- rows

ignores_lawful_in_server : (V : TxnId → Outcome → Type 0) (M : TxnId → Type 0) (s : Server) (kept : List Record) → ServerAgrees s kept → ServerLawful V M s kept (ignores s)
ignores_lawful_in_server V M s kept h = record { agrees = h; rests = tt; replies = tt }

-- what an empty place of a table says
pub unset_is : {A : Type 0} (found : Option (Option A)) → is_unset found ≡ true → found ≡ Some None
unset_is None e = absurd (cc)
unset_is (Some None) e = refl
unset_is (Some (Some x)) e = absurd (cc)

-- a transaction that is open was not settled on the log
pub open_unsettled : (s : Server) (kept : List Record) (txn : TxnId) → ServerAgrees s kept → is_open s txn ≡ true → settled_in txn kept ≡ None
open_unsettled s kept txn h unsettled = sym (h.settled txn) ∙ ap option_flatten (unset_is (slice_get s.settled txn.0) unsettled)

-- ---- tables

-- what stands at a place after it was written: what was written, or nothing where the table has no such place
pub written_there : {A : Type 0} (P : Option A → Type 0) (table : List (Option A)) (n : ℕ) (v : Option A) → P v → P None → P (option_flatten (slice_get (slice_set table n v) n))
written_there P [] n v h none = none
written_there P (x ∷ table) zero v h none = h
written_there P (x ∷ table) (suc n) v h none = written_there P table n v h none

-- ---- what is prepared

none_cast : (entry : Option Entry) (old : Option Prepared) → entry ≡ None → option_map vote_of old ≡ option_and_then cast_in entry → old ≡ None
none_cast entry None e h = refl
none_cast entry (Some p) e h = let none : option_and_then cast_in entry ≡ None = ap (option_and_then cast_in) e in absurd (cc)

-- without an entry nothing is prepared
pub unprepared : (s : Server) (kept : List Record) (txn : TxnId) → ServerAgrees s kept → entry_at s txn ≡ None → prepared_in txn kept ≡ None
unprepared s kept txn h e = none_cast (entry_at s txn) (prepared_in txn kept) e (h.prepared txn)

some_cast : (entry : Option Entry) (old : Option Prepared) → is_some old ≡ true → option_map vote_of old ≡ option_and_then cast_in entry → is_some entry ≡ true
some_cast entry None e h = absurd (cc)
some_cast None (Some p) e h = absurd (cc)
some_cast (Some found) (Some p) e h = refl

-- what is prepared has an entry
pub prepared_entry : (s : Server) (kept : List Record) (txn : TxnId) → ServerAgrees s kept → LogPrepared txn kept → is_some (entry_at s txn) ≡ true
prepared_entry s kept txn h e = some_cast (entry_at s txn) (prepared_in txn kept) e (h.prepared txn)

-- the entry of one transaction changes, and what is prepared of others stays
entry_elsewhere : (s : Server) (one other : TxnId) (entry : Option Entry) → same_txn one other ≡ false → option_flatten (slice_get (slice_set s.entries one.0 entry) other.0) ≡ entry_at s other
entry_elsewhere s one other entry apart = ap option_flatten (set_elsewhere s.entries one.0 other.0 entry apart)

-- ---- Query

-- the entry of a transaction that was not voted on changes, and is not voted on after it
run_cast : (s : Server) (kept : List Record) (txn other : TxnId) (entry : Entry) → ServerAgrees s kept → option_and_then cast_in (entry_at s txn) ≡ None → entry.ballot ≡ None → (b : Bool) → same_txn txn other ≡ b
    → option_map vote_of (prepared_in other kept) ≡ option_and_then cast_in (option_flatten (slice_get (slice_set s.entries txn.0 (Some entry)) other.0))
run_cast s kept txn other entry h e unvoted true same =
    let here : other ≡ txn = sym (same_txn_is txn other same) in
    let none : option_map vote_of (prepared_in txn kept) ≡ None = h.prepared txn ∙ e in
    let now : option_map vote_of (prepared_in txn kept) ≡ option_and_then cast_in (option_flatten (slice_get (slice_set s.entries txn.0 (Some entry)) txn.0)) =
    written_there (λ (found : Option Entry). option_map vote_of (prepared_in txn kept) ≡ option_and_then cast_in found) s.entries txn.0 (Some entry)
    (none ∙ sym (ap (option_map (vote_by entry)) unvoted)) none in
    subst (λ (t : TxnId). option_map vote_of (prepared_in t kept) ≡ option_and_then cast_in (option_flatten (slice_get (slice_set s.entries txn.0 (Some entry)) t.0))) (sym here) now
run_cast s kept txn other entry h e unvoted false apart = h.prepared other ∙ sym (ap (option_and_then cast_in) (entry_elsewhere s txn other (Some entry) apart))

-- an entry at which a query runs was not voted on
pub record IsUnvotedRun (s : Server) (q : QueryRequest) (entry : Entry) : Type 0 where
  pub entry_unvoted : entry.ballot ≡ None
  pub unvoted : option_and_then cast_in (entry_at s q.txn) ≡ None

pub unvoted_run : (sc : Scenario) (s : Server) (mail : Mail) (q : QueryRequest) (query : Query) (entry : Entry) (value : ℤ) → IsAsking sc s mail q query entry value → IsUnvotedRun s q entry
unvoted_run sc s mail q query entry value k =
    ⊎_elim
    (λ (first : IsFirstHere s mail.sent q entry).
    record { entry_unvoted = ap (λ (e : Entry). e.ballot) first.entry_is; unvoted = ap (option_and_then cast_in) first.no_entry })
    (λ (further : IsFurther s q entry).
    let none : entry.ballot ≡ None = none_if_not_some entry.ballot further.unvoted in
    record { entry_unvoted = none; unvoted = ap (option_and_then cast_in) further.found ∙ ap (option_map (vote_by entry)) none }) k.place

runs_lawful : (V : TxnId → Outcome → Type 0) (M : TxnId → Type 0) (s : Server) (kept : List Record) (q : QueryRequest) (query : Query) (entry : Entry) (deed : Deed) (proof : Option Verdict) → ServerAgrees s kept
    → settled_in q.txn kept ≡ None → IsUnvotedRun s q entry → ServerLawful V M s kept (completes s q query entry deed proof)
runs_lawful V M s kept q query entry deed proof h new u =
    record {
      agrees = record {
        settled = h.settled;
        unsettled = placed_set (IsUnsettled kept) s.entries q.txn.0 (entry_after q entry deed proof) h.unsettled new;
        prepared = λ txn. run_cast s kept q.txn txn (entry_after q entry deed proof) h u.unvoted u.entry_unvoted (same_txn q.txn txn) refl;
      };
      rests = tt;
      replies = (record { from_is = refl; says = tt }, tt);
    }

-- the entry of a transaction that was not voted on changes, and nothing is settled or voted on
entry_lawful : (V : TxnId → Outcome → Type 0) (M : TxnId → Type 0) (s : Server) (kept : List Record) (txn : TxnId) (entry : Entry) (letters : List Letter) → ServerAgrees s kept → settled_in txn kept ≡ None
    → option_and_then cast_in (entry_at s txn) ≡ None → entry.ballot ≡ None → Each (LetterKept s.server kept) letters → ServerLawful V M s kept (sends (with_entry s txn (Some entry)) letters)
entry_lawful V M s kept txn entry letters h new unvoted none replies =
    record {
      agrees = record {
        settled = h.settled;
        unsettled = placed_set (IsUnsettled kept) s.entries txn.0 entry h.unsettled new;
        prepared = λ other. run_cast s kept txn other entry h unvoted none (same_txn txn other) refl;
      };
      rests = tt;
      replies = replies;
    }

-- what a query that does not run is answered is kept and given
denies_lawful : (V : TxnId → Outcome → Type 0) (M : TxnId → Type 0) (s : Server) (kept : List Record) (q : QueryRequest) (entry : Entry) (given : Answer) → ServerAgrees s kept → settled_in q.txn kept ≡ None → IsUnvotedRun s q entry
    → ServerLawful V M s kept (answers_with s q entry given)
denies_lawful V M s kept q entry given h new u = entry_lawful V M s kept q.txn (with_answer q entry given) _ h new u.unvoted u.entry_unvoted (record { from_is = refl; says = tt }, tt)

-- what waited goes on, after what was done before
goes_on_lawful : (V : TxnId → Outcome → Type 0) (M : TxnId → Type 0) (s : Server) (kept : List Record) (effect : Effect Server) (now : Server) (letters : List Letter) → effect.state.server ≡ s.server → ServerLawful V M s kept effect
    → ServerLawful V M effect.state (log_with kept effect.reaction.append) (sends now letters) → ServerLawful V M s kept (followed_by effect (sends now letters))
goes_on_lawful V M s kept effect now letters server_is h further =
    let log = log_with kept effect.reaction.append in
    record {
      agrees = record { settled = further.agrees.settled; unsettled = further.agrees.unsettled; prepared = further.agrees.prepared };
      rests = h.rests;
      replies = each_append (LetterKept s.server log) effect.reaction.letters letters h.replies (subst (λ (at : ServerId). Each (LetterKept at log) letters) server_is further.replies);
    }

-- the entry of what waited was not voted on
resumed_unvoted : (sc : Scenario) (at : ServerId) (was : Server) (grant : Grant) (q : QueryRequest) (query : Query) (entry : Entry) (value : ℤ) → IsResumed sc at was grant q query entry value → IsUnvotedRun was q (unwaiting entry)
resumed_unvoted sc at was grant q query entry value k = record { entry_unvoted = k.unvoted; unvoted = ap (option_and_then cast_in) k.found ∙ ap (option_map (vote_by entry)) k.unvoted }

-- it runs
resumes_lawful : (V : TxnId → Outcome → Type 0) (M : TxnId → Type 0) (sc : Scenario) (s : Server) (kept : List Record) (effect : Effect Server) (grant : Grant) (q : QueryRequest) (query : Query) (entry : Entry) (value : ℤ)
    (proof : Option Verdict) → IsResumed sc s.server effect.state grant q query entry value → ServerLawful V M s kept effect → ServerLawful V M s kept (followed_by effect (resuming effect.state q query entry value proof))
resumes_lawful V M sc s kept effect grant q query entry value proof k h =
    goes_on_lawful V M s kept effect (resuming effect.state q query entry value proof).state _ k.server_is h
    (runs_lawful V M effect.state (log_with kept effect.reaction.append) q query (unwaiting entry) (deed_of q.query query value) proof h.agrees (h.agrees.unsettled q.txn.0 entry k.found)
    (resumed_unvoted sc s.server effect.state grant q query entry value k))

-- or it does not run
resumes_unrun : (V : TxnId → Outcome → Type 0) (M : TxnId → Type 0) (sc : Scenario) (s : Server) (kept : List Record) (effect : Effect Server) (grant : Grant) (q : QueryRequest) (query : Query) (entry : Entry) (value : ℤ)
    (given : Answer) → IsResumed sc s.server effect.state grant q query entry value → ServerLawful V M s kept effect → ServerLawful V M s kept (followed_by effect (answers_with effect.state q (unwaiting entry) given))
resumes_unrun V M sc s kept effect grant q query entry value given k h =
    goes_on_lawful V M s kept effect (answers_with effect.state q (unwaiting entry) given).state _ k.server_is h
    (denies_lawful V M effect.state (log_with kept effect.reaction.append) q (unwaiting entry) given h.agrees (h.agrees.unsettled q.txn.0 entry k.found) (resumed_unvoted sc s.server effect.state grant q query entry value k))

-- ---- Prepare

-- what a log has prepared once a vote YES was forced
voted_so : (b : Bool) (forced : Prepared) (settled : Option Settled) (old : Option Prepared) → b ≡ true → settled ≡ None
    → while_unsettled (option_or settled None) (option_or (if b then Some forced else None) old) ≡ Some forced
voted_so true forced None old e new = refl
voted_so true forced (Some s) old e new = absurd (cc)
voted_so false forced settled old e new = absurd (cc)

voted_else : (b : Bool) (forced : Prepared) (settled : Option Settled) (old : Option Prepared) → b ≡ false
    → while_unsettled (option_or settled None) (option_or (if b then Some forced else None) old) ≡ while_unsettled settled old
voted_else true forced settled old e = absurd (cc)
voted_else false forced settled old e = ap (λ (s : Option Settled). while_unsettled s old) (first_none settled)

pub prepared_now : (txn : TxnId) (kept : List Record) (forced : Prepared) → forced.txn ≡ txn → settled_in txn kept ≡ None → prepared_in txn (log_with kept (Some (log.Prepared forced))) ≡ Some forced
prepared_now txn kept forced own new =
    prepared_with txn kept (Some (log.Prepared forced))
    ∙ voted_so (same_txn forced.txn txn) forced (settled_in txn kept) (voted_in txn kept) (ap (λ (t : TxnId). same_txn t txn) own ∙ number_itself txn.0) new

prepared_else : (other : TxnId) (kept : List Record) (forced : Prepared) → same_txn forced.txn other ≡ false → prepared_in other (log_with kept (Some (log.Prepared forced))) ≡ prepared_in other kept
prepared_else other kept forced apart =
    prepared_with other kept (Some (log.Prepared forced)) ∙ voted_else (same_txn forced.txn other) forced (settled_in other kept) (voted_in other kept) apart

votes_cast : (s : Server) (kept : List Record) (txn other : TxnId) (forced : Prepared) (entry now : Entry) → ServerAgrees s kept → settled_in txn kept ≡ None → forced.txn ≡ txn → entry_at s txn ≡ Some entry
    → cast_in now ≡ Some (vote_of forced) → (b : Bool) → same_txn txn other ≡ b
    → option_map vote_of (prepared_in other (log_with kept (Some (log.Prepared forced)))) ≡ option_and_then cast_in (option_flatten (slice_get (slice_set s.entries txn.0 (Some now)) other.0))
votes_cast s kept txn other forced entry now h new own e cast true same =
    let here : other ≡ txn = sym (same_txn_is txn other same) in
    let log_is : option_map vote_of (prepared_in txn (log_with kept (Some (log.Prepared forced)))) ≡ Some (vote_of forced) = ap (option_map vote_of) (prepared_now txn kept forced own new) in
    let table_is : option_and_then cast_in (option_flatten (slice_get (slice_set s.entries txn.0 (Some now)) txn.0)) ≡ Some (vote_of forced) =
    ap (option_and_then cast_in) (written_over s.entries txn.0 entry (Some now) e) ∙ cast in
    subst (λ (t : TxnId). option_map vote_of (prepared_in t (log_with kept (Some (log.Prepared forced)))) ≡ option_and_then cast_in (option_flatten (slice_get (slice_set s.entries txn.0 (Some now)) t.0)))
    (sym here) (log_is ∙ sym table_is)
votes_cast s kept txn other forced entry now h new own e cast false apart =
    ap (option_map vote_of) (prepared_else other kept forced (ap (λ (t : TxnId). same_txn t other) own ∙ apart))
    ∙ (h.prepared other ∙ sym (ap (option_and_then cast_in) (entry_elsewhere s txn other (Some now) apart)))

turn_rises : (p : PrepareRequest) (entry : Entry) (last : Prepared) (ballot : Option Ballot) → entry.ballot ≡ ballot → Some (vote_of last) ≡ option_map (vote_by entry) ballot → ((cast : Ballot) → ballot ≡ Some cast → cast.turn < p.turn)
    → last.turn < p.turn
turn_rises p entry last None e same later = absurd (cc)
turn_rises p entry last (Some cast) e same later =
    let turn : last.turn ≡ cast.turn = ap (λ (v : CastVote). v.turn) (same_Some (vote_of last) (vote_by entry cast) same) in
    omega (arith, turn, later cast refl)

-- a further vote YES is of a greater turn than the one that is prepared
vote_rises : (s : Server) (kept : List Record) (p : PrepareRequest) (entry : Entry) (last : Prepared) → ServerAgrees s kept → entry_at s p.txn ≡ Some entry → IsFirstVote s p entry ⊎ IsLaterVote p entry
    → prepared_in p.txn kept ≡ Some last → last.turn < p.turn
vote_rises s kept p entry last h found place prepared =
    turn_rises p entry last entry.ballot refl (sym (ap (option_map vote_of) prepared) ∙ (h.prepared p.txn ∙ ap (option_and_then cast_in) found)) (by_place place)
  where
    by_place : IsFirstVote s p entry ⊎ IsLaterVote p entry → (cast : Ballot) → entry.ballot ≡ Some cast → cast.turn < p.turn
    by_place place cast e =
        ⊎_elim (λ (first : IsFirstVote s p entry). let none = first.unvoted in absurd (cc))
        (λ (later : IsLaterVote p entry). subst (λ (b : Ballot). b.turn < p.turn) (same_Some later.cast cast (sym later.ballot_is ∙ e)) later.later) place

-- a vote YES settles nothing, and is prepared
votes_lawful : (V : TxnId → Outcome → Type 0) (M : TxnId → Type 0) (s : Server) (kept : List Record) (p : PrepareRequest) (verdicts : List Verdict) (entry : Entry) → ServerAgrees s kept
    → settled_in p.txn kept ≡ None → entry_at s p.txn ≡ Some entry → M p.txn → IsFirstVote s p entry ⊎ IsLaterVote p entry → ServerLawful V M s kept (votes (with_wants s p.want) p verdicts entry)
votes_lawful V M s kept p verdicts entry h new e asked place =
    let voting = prepared_record (with_wants s p.want) p entry verdicts in
    let forced = (votes (with_wants s p.want) p verdicts entry).reaction.append in
    let now : Entry = record entry { ballot = Some (ballot_of voting) } in
    let same : (txn : TxnId) → settled_in txn (log_with kept forced) ≡ settled_in txn kept = λ txn. settled_with txn kept forced ∙ first_none (settled_in txn kept) in
    record {
      agrees = record {
        settled = λ txn. h.settled txn ∙ sym (same txn);
        unsettled = placed_set (IsUnsettled (log_with kept forced)) s.entries p.txn.0 now
            (λ n found at_n. same (record { 0 = n }) ∙ h.unsettled n found at_n) (same p.txn ∙ new);
        prepared = λ txn. votes_cast s kept p.txn txn voting entry now h new refl e refl (same_txn p.txn txn) refl;
      };
      rests = record { asked = asked; later = λ last voted. vote_rises s kept p entry last h e place (ap (λ (ended : Option Settled). while_unsettled ended (voted_in p.txn kept)) new ∙ voted) };
      replies = (record { from_is = refl; says = ap is_some (prepared_now p.txn kept voting refl new) }, tt);
    }

cast_prepared : (entry : Entry) (cast : Ballot) (old : Option Prepared) → option_map vote_of old ≡ Some (vote_by entry cast) → is_some old ≡ true
cast_prepared entry cast None h = absurd (cc)
cast_prepared entry cast (Some p) h = refl

-- a vote YES that is given again is prepared
votes_again_lawful : (V : TxnId → Outcome → Type 0) (M : TxnId → Type 0) (s : Server) (kept : List Record) (p : PrepareRequest) (entry : Entry) (cast : Ballot) → ServerAgrees s kept → entry_at s p.txn ≡ Some entry
    → entry.ballot ≡ Some cast → ServerLawful V M s kept (sends s (yes_letter s p.txn cast ∷ []))
votes_again_lawful V M s kept p entry cast h found ballot_is =
    record {
      agrees = h;
      rests = tt;
      replies = (
        record {
          from_is = refl;
          says = cast_prepared entry cast (prepared_in p.txn kept) (h.prepared p.txn ∙ (ap (option_and_then cast_in) found ∙ ap (option_map (vote_by entry)) ballot_is));
        },
        tt,
      );
    }

-- ---- Decide

settled_here_in_agreement : (b : Bool) (order : Settled) (other : Option (Option Settled)) (old : Option Settled) → option_flatten other ≡ old → (b ≡ true → old ≡ None)
    → option_flatten (if b then Some (Some order) else other) ≡ option_or old (if b then Some order else None)
settled_here_in_agreement true order other old e fresh = sym (ap (λ (x : Option Settled). option_or x (Some order)) (fresh refl))
settled_here_in_agreement false order other old e fresh = e ∙ sym (first_none old)

emptied : {A : Type 0} (table : List (Option A)) (n : ℕ) → option_flatten (slice_get (slice_set table n None) n) ≡ None
emptied table n = written_there (λ found. found ≡ None) table n None refl refl

-- the entry of what is settled ends, and those of others stay
others_unsettled : (s : Server) (kept : List Record) (order : Settled) → ServerAgrees s kept → (b : Bool) (n : ℕ) (found : Entry) → (order.txn.0 == n) ≡ b
    → option_flatten (slice_get (slice_set s.entries order.txn.0 None) n) ≡ Some found → settled_in (record { 0 = n }) (log_with kept (Some (log.Settled order))) ≡ None
others_unsettled s kept order h true n found same e =
    let none : option_flatten (slice_get (slice_set s.entries order.txn.0 None) n) ≡ None =
    subst (λ (m : ℕ). option_flatten (slice_get (slice_set s.entries order.txn.0 None) m) ≡ None) (eqb-true order.txn.0 n same) (emptied s.entries order.txn.0) in
    absurd (cc)
others_unsettled s kept order h false n found apart e =
    let old : settled_in (record { 0 = n }) kept ≡ None = placed_emptied (IsUnsettled kept) s.entries order.txn.0 h.unsettled n found e in
    settled_with (record { 0 = n }) kept (Some (log.Settled order))
    ∙ (ap (λ (b : Bool). option_or (settled_in (record { 0 = n }) kept) (if b then Some order else None)) apart
    ∙ (first_none (settled_in (record { 0 = n }) kept) ∙ old))

ended_so : (b : Bool) (order : Settled) (settled : Option Settled) (voted : Option Prepared) → b ≡ true → while_unsettled (option_or settled (if b then Some order else None)) (option_or None voted) ≡ None
ended_so true order None voted e = refl
ended_so true order (Some s) voted e = refl
ended_so false order settled voted e = absurd (cc)

ended_else : (b : Bool) (order : Settled) (settled : Option Settled) (voted : Option Prepared) → b ≡ false
    → while_unsettled (option_or settled (if b then Some order else None)) (option_or None voted) ≡ while_unsettled settled voted
ended_else true order settled voted e = absurd (cc)
ended_else false order settled voted e = ap (λ (s : Option Settled). while_unsettled s voted) (first_none settled)

-- what is settled is prepared no more, and what is prepared of others stays
ends_cast : (s : Server) (kept : List Record) (order : Settled) (other : TxnId) → ServerAgrees s kept → (b : Bool) → same_txn order.txn other ≡ b
    → option_map vote_of (prepared_in other (log_with kept (Some (log.Settled order)))) ≡ option_and_then cast_in (option_flatten (slice_get (slice_set s.entries order.txn.0 None) other.0))
ends_cast s kept order other h true same =
    let none : option_flatten (slice_get (slice_set s.entries order.txn.0 None) other.0) ≡ None =
    subst (λ (m : ℕ). option_flatten (slice_get (slice_set s.entries order.txn.0 None) m) ≡ None) (eqb-true order.txn.0 other.0 same) (emptied s.entries order.txn.0) in
    ap (option_map vote_of) (prepared_with other kept (Some (log.Settled order)) ∙ ended_so (same_txn order.txn other) order (settled_in other kept) (voted_in other kept) same)
    ∙ sym (ap (option_and_then cast_in) none)
ends_cast s kept order other h false apart =
    ap (option_map vote_of) (prepared_with other kept (Some (log.Settled order)) ∙ ended_else (same_txn order.txn other) order (settled_in other kept) (voted_in other kept) apart)
    ∙ (h.prepared other ∙ sym (ap (option_and_then cast_in) (entry_elsewhere s order.txn other None apart)))

settled_now_in_agreement : (b : Bool) (order : Settled) (old : Option Settled) → b ≡ true → is_some (option_or old (if b then Some order else None)) ≡ true
settled_now_in_agreement true order None e = refl
settled_now_in_agreement true order (Some s) e = refl
settled_now_in_agreement false order old e = absurd (cc)

settled_first : (b : Bool) (order : Settled) (old : Option Settled) → b ≡ true → old ≡ None → option_or old (if b then Some order else None) ≡ Some order
settled_first true order None e fresh = refl
settled_first true order (Some s) e fresh = absurd (cc)
settled_first false order old e fresh = absurd (cc)

-- the transaction of an open place is settled, with a letter that rests on that
ends_lawful : (V : TxnId → Outcome → Type 0) (M : TxnId → Type 0) (s : Server) (kept : List Record) (order : Settled) (letter : Letter) → ServerAgrees s kept → is_open s order.txn ≡ true
    → SettlementRests V M kept order → letter.from ≡ actor.Server s.server
    → (settled_in order.txn (log_with kept (Some (log.Settled order))) ≡ Some order → ReplyKept (log_with kept (Some (log.Settled order))) letter.body) → ServerLawful V M s kept (closes s order letter)
ends_lawful V M s kept order letter h unsettled rests from says =
    let empty : slice_get s.settled order.txn.0 ≡ Some None = unset_is (slice_get s.settled order.txn.0) unsettled in
    let forced = (closes s order letter).reaction.append in
    record {
      agrees = record {
        settled = λ txn.
            ap option_flatten (get_set s.settled order.txn.0 txn.0 None (Some order) empty)
            ∙ (settled_here_in_agreement (order.txn.0 == txn.0) order (slice_get s.settled txn.0) (settled_in txn kept) (h.settled txn)
            (λ same. sym (h.settled txn) ∙ ap option_flatten (subst (λ (n : ℕ). slice_get s.settled n ≡ Some None) (eqb-true order.txn.0 txn.0 same) empty))
            ∙ sym (settled_with txn kept forced));
        unsettled = λ n found e. others_unsettled s kept order h (order.txn.0 == n) n found refl e;
        prepared = λ txn. ends_cast s kept order txn h (same_txn order.txn txn) refl;
      };
      rests = rests;
      replies = (
        record {
          from_is = from;
          says = says (settled_with order.txn kept forced ∙ settled_first (same_txn order.txn order.txn) order (settled_in order.txn kept) (number_itself order.txn.0) rests.fresh);
        },
        tt,
      );
    }

-- an order to end a transaction that is open is forced as it is
settles_lawful : (V : TxnId → Outcome → Type 0) (M : TxnId → Type 0) (s : Server) (kept : List Record) (d : DecideRequest) → ServerAgrees s kept → is_open s d.txn ≡ true → V d.txn d.outcome → M d.txn
    → ServerLawful V M s kept (closes s (settled_as d) (ack_letter s d.txn))
settles_lawful V M s kept d h unsettled decided asked =
    ends_lawful V M s kept (settled_as d) (ack_letter s d.txn) h unsettled
    (record { fresh = open_unsettled s kept d.txn h unsettled; asked = asked; ordered = λ none. decided; refused = λ some. absurd (cc) }) refl
    (λ settled. ap is_some settled)

none_voted : (entry : Option Entry) (found : Entry) (old : Option Prepared) → entry ≡ Some found → found.ballot ≡ None → option_map vote_of old ≡ option_and_then cast_in entry → old ≡ None
none_voted entry found None e unvoted h = refl
none_voted entry found (Some p) e unvoted h =
    let none : option_and_then cast_in entry ≡ None = ap (option_and_then cast_in) e ∙ ap (option_map (vote_by found)) unvoted in
    absurd (cc)

-- the server aborts what it has not prepared
refuses_unprepared : (V : TxnId → Outcome → Type 0) (M : TxnId → Type 0) (s : Server) (kept : List Record) (p : PrepareRequest) (why : No) → ServerAgrees s kept → is_open s p.txn ≡ true
    → prepared_in p.txn kept ≡ None → M p.txn → ServerLawful V M s kept (closes s (refused_as p why) (no_letter s p why))
refuses_unprepared V M s kept p why h unsettled unprepared asked =
    ends_lawful V M s kept (refused_as p why) (no_letter s p why) h unsettled
    (record { fresh = open_unsettled s kept p.txn h unsettled; asked = asked; ordered = λ none. absurd (cc); refused = λ some. (refl, unprepared) }) refl (λ settled. settled)

-- on which it has not voted
refuses_lawful : (V : TxnId → Outcome → Type 0) (M : TxnId → Type 0) (s : Server) (kept : List Record) (p : PrepareRequest) (entry : Entry) (why : No) → ServerAgrees s kept → is_open s p.txn ≡ true
    → entry_at s p.txn ≡ Some entry → entry.ballot ≡ None → M p.txn → ServerLawful V M s kept (closes s (refused_as p why) (no_letter s p why))
refuses_lawful V M s kept p entry why h unsettled found unvoted asked =
    refuses_unprepared V M s kept p why h unsettled (none_voted (entry_at s p.txn) entry (prepared_in p.txn kept) found unvoted (h.prepared p.txn)) asked

none_of_epoch : (entry : Option Entry) (epoch : ℕ) (old : Option Prepared) → ((found : Entry) → entry ≡ Some found → found.epoch ≡ epoch → ⊥) → ((v : Prepared) → old ≡ Some v → v.epoch ≡ epoch)
    → option_map vote_of old ≡ option_and_then cast_in entry → old ≡ None
none_of_epoch entry epoch None elsewhere named h = refl
none_of_epoch None epoch (Some v) elsewhere named h = absurd (cc)
none_of_epoch (Some found) epoch (Some v) elsewhere named h = absurd (elsewhere found refl (by_ballot found.ballot h ∙ named v refl))
  where
    by_ballot : (ballot : Option Ballot) → Some (vote_of v) ≡ option_map (vote_by found) ballot → found.epoch ≡ v.epoch
    by_ballot None e = absurd (cc)
    by_ballot (Some cast) e = sym (ap (λ (x : CastVote). x.epoch) (same_Some (vote_of v) (vote_by found cast) e))

-- a request to prepare names the epoch of what is prepared
abbrev pub NamesPrepared : List Record → Body → Type 0
NamesPrepared kept (body.Prepare p) = (v : Prepared) → prepared_in p.txn kept ≡ Some v → v.epoch ≡ p.epoch
NamesPrepared kept _ = Unit {0}

-- where no entry is of the epoch that is named, nothing is prepared: what is prepared is of that epoch, and has an entry
loses_lawful : (V : TxnId → Outcome → Type 0) (M : TxnId → Type 0) (s : Server) (kept : List Record) (mail : Mail) (p : PrepareRequest) → ServerAgrees s kept → IsLostVote s mail p → NamesPrepared kept (body.Prepare p) → M p.txn
    → ServerLawful V M s kept (closes s (refused_as p no.Restarted) (no_letter s p no.Restarted))
loses_lawful V M s kept mail p h k named asked =
    refuses_unprepared V M s kept p no.Restarted h k.unsettled (none_of_epoch (entry_at s p.txn) p.epoch (prepared_in p.txn kept) k.elsewhere named (h.prepared p.txn)) asked

-- an order to end what is settled is acknowledged again
acknowledges_lawful : (V : TxnId → Outcome → Type 0) (M : TxnId → Type 0) (s : Server) (kept : List Record) (d : DecideRequest) (settled : Settled) → ServerAgrees s kept
    → option_flatten (slice_get s.settled d.txn.0) ≡ Some settled → ServerLawful V M s kept (sends s (ack_letter s d.txn ∷ []))
acknowledges_lawful V M s kept d settled h found = record { agrees = h; rests = tt; replies = (record { from_is = refl; says = ap is_some (sym (h.settled d.txn) ∙ found) }, tt) }

-- an answer rests on nothing
answers_lawful : (V : TxnId → Outcome → Type 0) (M : TxnId → Type 0) (s : Server) (kept : List Record) (q : QueryRequest) (given : DoneReply) → ServerAgrees s kept → ServerLawful V M s kept (answers s q.txn given)
answers_lawful V M s kept q given h = record { agrees = h; rests = tt; replies = (record { from_is = refl; says = tt }, tt) }

-- what was settled with a reason is an abort of the server's own
abbrev pub RefusalsAbort : List Record → Type 0
RefusalsAbort kept = (txn : TxnId) (settled : Settled) → settled_in txn kept ≡ Some settled → is_some settled.why ≡ true → settled ≡ record { txn = txn; outcome = outcome.Abort; why = settled.why }

-- a vote NO is given again with its reason
refused_again_lawful : (V : TxnId → Outcome → Type 0) (M : TxnId → Type 0) (s : Server) (kept : List Record) (p : PrepareRequest) (settled : Settled) (why : No) → ServerAgrees s kept → RefusalsAbort kept
    → option_flatten (slice_get s.settled p.txn.0) ≡ Some settled → settled.why ≡ Some why → ServerLawful V M s kept (sends s (no_letter s p why ∷ []))
refused_again_lawful V M s kept p settled why h aborts found why_is =
    let logged : settled_in p.txn kept ≡ Some settled = sym (h.settled p.txn) ∙ found in
    let is : settled ≡ record { txn = p.txn; outcome = outcome.Abort; why = settled.why } = aborts p.txn settled logged (ap is_some why_is) in
    record {
      agrees = h;
      rests = tt;
      replies = (
        record { from_is = refl; says = logged ∙ (ap (λ (x : Settled). Some x) is ∙ ap (λ (w : Option No). Some (record { txn = p.txn; outcome = outcome.Abort; why = w })) why_is) },
        tt,
      );
    }

-- a version that is learnt settles and prepares nothing
learns_lawful : (V : TxnId → Outcome → Type 0) (M : TxnId → Type 0) (s : Server) (kept : List Record) (push : PushNotice) → ServerAgrees s kept → ServerLawful V M s kept (learns s push)
learns_lawful V M s kept push h =
    let forced = (learns s push).reaction.append in
    record {
      agrees = record {
        settled = λ txn. h.settled txn ∙ sym (settled_still txn kept forced refl);
        unsettled = λ n found e. settled_still (record { 0 = n }) kept forced refl ∙ h.unsettled n found e;
        prepared = λ txn. ap (option_map vote_of) (prepared_still txn kept forced refl refl) ∙ h.prepared txn;
      };
      rests = tt;
      replies = tt;
    }

-- every row of a server on receipt of a mail
pub server_row_lawful : (V : TxnId → Outcome → Type 0) (M : TxnId → Type 0) (sc : Scenario) (s : Server) (kept : List Record) (mail : Mail) → AreRightWaits sc s → ServerAgrees s kept → RefusalsAbort kept
    → RequestRests V M mail.letter.body → NamesPrepared kept mail.letter.body → ServerLawful V M s kept (server_row sc s mail)
server_row_lawful V M sc s kept mail waits h aborts m named =
    server_by sc s mail (ServerLawful V M s kept) waits
    (record {
      relocked = λ effect locks k. record { agrees = record { settled = k.agrees.settled; unsettled = k.agrees.unsettled; prepared = k.agrees.prepared }; rests = k.rests; replies = k.replies };
      relearnt = λ effect admin pin k. record { agrees = record { settled = k.agrees.settled; unsettled = k.agrees.unsettled; prepared = k.agrees.prepared }; rests = k.rests; replies = k.replies };
      ignored = ignores_lawful_in_server V M s kept h;
      ran = λ q query entry value proof k r.
          runs_lawful V M s kept q query entry (deed_of q.query query value) proof h (open_unsettled s kept q.txn h k.unsettled) (unvoted_run sc s mail q query entry value k);
      denied = λ q query entry value verdict k d. denies_lawful V M s kept q entry (answer.Denied verdict) h (open_unsettled s kept q.txn h k.unsettled) (unvoted_run sc s mail q query entry value k);
      outdated = λ q query entry value newer k known. denies_lawful V M s kept q entry (answer.Newer newer) h (open_unsettled s kept q.txn h k.unsettled) (unvoted_run sc s mail q query entry value k);
      waited = λ q query entry value k.
          let u = unvoted_run sc s mail q query entry value k in
          entry_lawful V M s kept q.txn (record entry { waiting = Some q }) [] h (open_unsettled s kept q.txn h k.unsettled) u.unvoted u.entry_unvoted tt;
      died = λ q query entry value other k dying. denies_lawful V M s kept q entry (answer.Died other) h (open_unsettled s kept q.txn h k.unsettled) (unvoted_run sc s mail q query entry value k);
      restarted = λ q k. answers_lawful V M s kept q (reply_of q s.epoch answer.Restarted) h;
      answered = λ q entry given k. answers_lawful V M s kept q given h;
      voted = λ p entry verdicts k. votes_lawful V M s kept p verdicts entry h (open_unsettled s kept p.txn h k.unsettled) k.found (subst (RequestRests V M) k.said_is m) k.place;
      shown = λ v entry txn k. record { agrees = record { settled = h.settled; unsettled = h.unsettled; prepared = h.prepared }; rests = tt; replies = (record { from_is = refl; says = tt }, tt) };
      lost_verdicts = λ v k. record { agrees = h; rests = tt; replies = (record { from_is = refl; says = tt }, tt) };
      voted_again = λ p entry cast k. votes_again_lawful V M s kept p entry cast h k.found k.ballot_is;
      refused = λ p entry number value k.
          refuses_lawful V M s kept p entry _ h k.unsettled k.found k.unvoted (subst (RequestRests V M) k.said_is m);
      lost = λ p k. loses_lawful V M s kept mail p h k (subst (NamesPrepared kept) k.said_is named) (subst (RequestRests V M) k.said_is m);
      refused_again = λ p settled why k. refused_again_lawful V M s kept p settled why h aborts k.found k.why_is;
      settled = λ d k. let rests = subst (RequestRests V M) k.said_is m in settles_lawful V M s kept d h k.unsettled rests.0 rests.1;
      acknowledged = λ d settled k. acknowledges_lawful V M s kept d settled h k.found;
      pushed = λ push k. learns_lawful V M s kept push h;
      resumed = λ effect grant q query entry value proof k r now. resumes_lawful V M sc s kept effect grant q query entry value proof k now;
      resumed_denied = λ effect grant q query entry value verdict k d now. resumes_unrun V M sc s kept effect grant q query entry value (answer.Denied verdict) k now;
      resumed_outdated = λ effect grant q query entry value newer k known now. resumes_unrun V M sc s kept effect grant q query entry value (answer.Newer newer) k now;
    })
