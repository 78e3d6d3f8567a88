-- Steps in which an operation begins: a publication, and a reading.
use Rattle.std.proofs.Common.{◌≡◌, ℕ, ◌+◌, ◌<◌, ◌≤◌, ◌==◌, ◌&&◌, List, [], ◌∷◌, ◌++◌, length, slice_get, slice_set, Bool, true, false, Option, Some, None, is_none, zero, suc, refl, sym, ap, subst, arith, ◌∙◌, inl, inr, if◌then◌else◌, unwrap_or}
use Rattle.std.proofs.lemmas.Bool.{cases_eq, eq-eqb, ne_eqb}
use Rattle.tp_types.proofs.EachLemmas.{each_append, each_as, each_get}
use Rattle.tp_types.specs.Each.{Each}
use Rattle.tp_quorum.proofs.Counting.{Most, most_all, most_as, none_most}
use Rattle.tp_quorum.proofs.Facts.{begun_now, counted, ended_at, most_ended, most_same, start_now}
use Rattle.tp_quorum.proofs.Going.{IsNoAnswer, own_of}
use Rattle.tp_quorum.proofs.Lists.{at_pushed, got_before, got_last, got_within, pushed_length, same_at, same_length, set_got, set_length, set_other, some_within}
use Rattle.tp_quorum.proofs.Replicas.{each_request}
use Rattle.tp_quorum.proofs.Stays.{Grows, MoveRests, admins_stay, ends_there, ended_with, goes_same, move_rests, op_stays, unbegun, unended}
use Rattle.tp_quorum.proofs.Told.{told_at, told_at_some}
use Rattle.tp_quorum.proofs.World.{BeganThere, BodyRests, FactRests, HasAnswered, IsGood, MailRests, OpRests, PhaseRests, ReplicaRests, Rests, SaysAtLeast, WhatRests, floor, last_at, version_begun}
use Rattle.tp_quorum.specs.Machine.{Move, State, first_where, is_by_publisher, next_version, publishes_at, reads, state_after}
use Rattle.tp_quorum.specs.OneMaster.{BeginsNext, BeginsSo, has_ended, is_publication}
use Rattle.tp_quorum.specs.Operations.{is_running_in, none_yet, to_all}
use Rattle.tp_quorum.specs.Replica.{ReplicaView, first_version}
use Rattle.tp_quorum.specs.Words.{AdminId, Operation, Phase, QBody, QFact, QMail, QStep, Version}
use Rattle.tp_quorum.specs.Words.body
use Rattle.tp_quorum.specs.Words.phase
use Rattle.tp_quorum.specs.Words.what

-- ---- what both share

-- an operation begins, with these last versions from then on
abbrev pub begin_move : State → Operation → List Version → List QMail → Move
begin_move w o last sent =
    record {
      replicas = w.replicas;
      ops = w.ops ++ o ∷ [];
      last = last;
      happened = Some (what.Began (length w.ops) o.admin o.reader (version_begun o.reader o.phase));
      sent = sent;
    }

begin_grows : (w : State) (o : Operation) (last : List Version) (sent : List QMail) → length last ≡ length w.last → ((admin : ℕ) → last_at w.last admin ≤ last_at last admin) → Each IsNoAnswer sent → Grows w (begin_move w o last sent)
begin_grows w o last sent count rises none = record {
  count = refl;
  admins = count;
  told = λ r admin. omega arith;
  last = rises;
  ops = λ op found e. goes_same found (slice_get (w.ops ++ o ∷ []) op) (got_before w.ops (o ∷ []) op found e);
  fair = λ op found e r. each_as IsNoAnswer (SaysAtLeast op r (told_at w.replicas r found.admin.0)) (λ mail no same here. no (told_at w.replicas r found.admin.0)) sent none;
}

replicas_rest : (w : State) (last : List Version) → length last ≡ length w.last → ((admin : ℕ) → last_at w.last admin ≤ last_at last admin) → (replica : ReplicaView) → ReplicaRests w.last replica → ReplicaRests last replica
replicas_rest w last count rises replica rests = record {
  knows = λ known e. rw count (rests.knows known e);
  few = λ admin. omega (arith, rests.few admin, rises admin);
}

begin_rests : (admins : ℕ) (w : State) (taken : QStep) (o : Operation) (last : List Version) (sent : List QMail) → Rests admins w → Grows w (begin_move w o last sent) → o.admin.0 < length w.last
    → ((admin : AdminId) → last_at last admin.0 ≡ last_at w.last admin.0 + counted (is_publication admin) (what.Began (length w.ops) o.admin o.reader (version_begun o.reader o.phase)))
    → PhaseRests (state_after w taken (begin_move w o last sent)) (length w.ops) o.admin.0 o.reader o.phase
    → Each (MailRests (state_after w taken (begin_move w o last sent))) sent
    → BeginsSo w.facts o.admin o.reader (version_begun o.reader o.phase)
    → Rests admins (state_after w taken (begin_move w o last sent))
begin_rests admins w taken o last sent h grows within published now mails so = move_rests admins w taken (begin_move w o last sent) h grows new
  where
    new : MoveRests w taken (begin_move w o last sent)
    new = record {
      replicas = λ n replica e. replicas_rest w last grows.admins grows.last replica (h.replicas n replica e);
      published = published;
      begun = pushed_length w.ops o;
      ops =
          at_pushed (OpRests (state_after w taken (begin_move w o last sent))) w.ops o
          (λ k found e. op_stays w taken (begin_move w o last sent) grows h.facts k found e refl (h.ops k found e))
          (record {
            admin = omega (arith, within, grows.admins);
            begun = begun_now (length w.ops) w.facts (record { place = length w.steps; what = what.Began (length w.ops) o.admin o.reader (version_begun o.reader o.phase) }) (unbegun w.ops (length w.ops) w.facts (omega arith) h.facts) (eq-eqb (length w.ops) (length w.ops) refl);
            now = now;
          });
      sent = mails;
      fact = record { o = o; is_op = got_last w.ops o; admin_is = refl; reader_is = refl };
      most = λ admin. most_all (length w.replicas) (λ (r : ℕ). 1 ≤ told_at w.replicas r admin) h.some (λ r. told_at_some w.replicas r admin);
      follows = record { numbered = h.op_count; so = so };
    }

-- none has answered yet
none_heard : (P : ℕ → Type 0) (replicas : ℕ) (r : ℕ) → slice_get (none_yet replicas) r ≡ Some true → P r
none_heard P replicas r e = absurd (let no : false ≡ true = same_at replicas r false true e in cc)

-- ---- publications

-- no operation passes the test
pub none_where : {A : Type 0} (test : A → Bool) (xs : List A) (number n : ℕ) (x : A) → first_where test number xs ≡ None → slice_get xs n ≡ Some x → test x ≡ false
none_where test [] number n x none e = absurd (cc)
none_where test (y ∷ xs) number n x none e = by (test y) refl (λ k later there. none_where test xs (number + 1) k x later there) none n e
  where
    by : (b : Bool) → test y ≡ b → ((k : ℕ) → first_where test (number + 1) xs ≡ None → slice_get xs k ≡ Some x → test x ≡ false) → (if b then Some number else first_where test (number + 1) xs) ≡ None
        → (m : ℕ) → slice_get (y ∷ xs) m ≡ Some x → test x ≡ false
    by true is later found m there = absurd (cc)
    by false is later found zero there = let same : y ≡ x = cc in subst (λ (z : _). test z ≡ false) same is
    by false is later found (suc m) there = later m found there

-- a publication that does not run has ended
publication_ended : (w : State) (op admin : ℕ) (reader : Option ℕ) (now : Phase) → PhaseRests w op admin reader now → reader ≡ None → (is_running_in now && is_none reader && admin == admin) ≡ false → has_ended op w.facts ≡ true
publication_ended w op admin reader now rests none idle = by now rests (sym runs ∙ idle)
  where
    runs : (is_running_in now && is_none reader && admin == admin) ≡ (is_running_in now && true && true)
    runs =
        let first : is_none reader ≡ true = ap (λ (r : Option ℕ). is_none r) none in
        let second : (admin == admin) ≡ true = eq-eqb admin admin refl in
        cc

    by : (later : Phase) → PhaseRests w op admin reader later → (is_running_in later && true && true) ≡ false → has_ended op w.facts ≡ true
    by (phase.Fetching greatest answered) r e = absurd (cc)
    by (phase.Storing version answered) r e = absurd (cc)
    by (phase.Ended version) r e = ended_at op w.facts version r.has_end

begins_next : (admins : ℕ) (w : State) (admin : AdminId) → Rests admins w → first_where (is_by_publisher admin) 0 w.ops ≡ None → BeginsNext w.facts admin (next_version w.last admin)
begins_next admins w admin h none = record { next = omega (arith, h.published admin); alone = alone }
  where
    alone : (n op : ℕ) (fact : QFact) (own : Option Version) → slice_get w.facts n ≡ Some fact → fact.what ≡ what.Began op admin None own → has_ended op w.facts ≡ true
    alone n op fact own there is =
        let rests : BeganThere w.ops op admin None = subst (WhatRests w.ops) is (each_get (FactRests w.ops) w.facts n fact h.facts there) in
        let idle : is_by_publisher admin rests.o ≡ false = none_where (is_by_publisher admin) w.ops 0 op rests.o none rests.is_op in
        let same : is_by_publisher rests.o.admin rests.o ≡ false = subst (λ (a : AdminId). is_by_publisher a rests.o ≡ false) (sym rests.admin_is) idle in
        publication_ended w op rests.o.admin.0 rests.o.reader rests.o.phase (h.ops op rests.o rests.is_op).now rests.reader_is same

last_published : (last : List Version) (admin : AdminId) (version : Version) (op : ℕ) → admin.0 < length last → version.0 ≡ last_at last admin.0 + 1 → (a : AdminId)
    → last_at (slice_set last admin.0 version) a.0 ≡ last_at last a.0 + counted (is_publication a) (what.Began op admin None (Some version))
last_published last admin version op within next a =
    elim (cases_eq a.0 admin.0) [
      | inl same ↦
          let there = some_within last admin.0 within in
          let now : last_at (slice_set last admin.0 version) admin.0 ≡ version.0 = ap (λ (v : Option Version). (unwrap_or v first_version).0) (set_got last admin.0 there.0 version there.1) in
          let here : last_at (slice_set last admin.0 version) a.0 ≡ version.0 = ap (λ (k : ℕ). last_at (slice_set last admin.0 version) k) same ∙ now in
          let before : last_at last a.0 ≡ last_at last admin.0 = ap (λ (k : ℕ). last_at last k) same in
          let one : counted (is_publication a) (what.Began op admin None (Some version)) ≡ 1 = ap (λ (b : Bool). if b then 1 else 0) (eq-eqb admin.0 a.0 (sym same)) in
          omega (arith, here, before, one, next)
      | inr other ↦
          let same : last_at (slice_set last admin.0 version) a.0 ≡ last_at last a.0 = ap (λ (v : Option Version). (unwrap_or v first_version).0) (set_other last admin.0 a.0 version other) in
          let none : counted (is_publication a) (what.Began op admin None (Some version)) ≡ 0 = ap (λ (b : Bool). if b then 1 else 0) (ne_eqb admin.0 a.0 (λ e. other (sym e))) in
          omega (arith, same, none)
    ]

last_rises : (last : List Version) (admin : AdminId) (version : Version) → admin.0 < length last → version.0 ≡ last_at last admin.0 + 1 → (a : ℕ) → last_at last a ≤ last_at (slice_set last admin.0 version) a
last_rises last admin version within next a = omega (arith, last_published last admin version 0 within next (record { 0 = a }))

requests_rest : (w next : State) (o : Operation) (asked : QBody) → length next.replicas ≡ length w.replicas → slice_get next.ops (length w.ops) ≡ Some o → ((r : ℕ) → BodyRests next r o asked) → Each (MailRests next) (to_all (length w.ops) asked (length w.replicas))
requests_rest w next o asked count is_op said =
    each_request (MailRests next) (length w.ops) asked (length w.replicas) (λ r within. record { replica = omega (arith, within, count); op = o; is_op = is_op; said = said r }) (none_yet (length w.replicas)) 0
    (omega (arith, same_length (length w.replicas) false))

pub publish_rests : (admins : ℕ) (w : State) (admin : AdminId) → Rests admins w → admin.0 < admins → first_where (is_by_publisher admin) 0 w.ops ≡ None → (taken : QStep)
    → Rests admins (state_after w taken (publishes_at w admin (next_version w.last admin)))
publish_rests admins w admin h exists none taken =
    let version : Version = next_version w.last admin in
    let o : Operation = own_of admin None (phase.Storing version (none_yet (length w.replicas))) in
    let last : List Version = slice_set w.last admin.0 version in
    let sent : List QMail = to_all (length w.ops) (body.Store admin version) (length w.replicas) in
    let within : admin.0 < length w.last = omega (arith, exists, h.admin_count) in
    let next : State = state_after w taken (begin_move w o last sent) in
    let no_answers : Each IsNoAnswer sent = each_request IsNoAnswer (length w.ops) (body.Store admin version) (length w.replicas) (λ r less least. tt) (none_yet (length w.replicas)) 0 (omega (arith, same_length (length w.replicas) false)) in
    let grows : Grows w (begin_move w o last sent) = begin_grows w o last sent (set_length w.last admin.0 version) (last_rises w.last admin version within refl) no_answers in
    let there = some_within w.last admin.0 within in
    let own_last : last_at last admin.0 ≡ version.0 = ap (λ (v : Option Version). (unwrap_or v first_version).0) (set_got w.last admin.0 there.0 version there.1) in
    begin_rests admins w taken o last sent h grows within (last_published w.last admin version (length w.ops) within refl)
    (record {
      few = omega (arith, own_last);
      least = λ reading. absurd (let no : false ≡ true = reading in cc);
      count = same_length (length w.replicas) false;
      heard = λ r e. none_heard (λ (k : ℕ). version.0 ≤ told_at w.replicas k admin.0) (length w.replicas) r e;
      waits = none_most (length w.replicas);
      running = ended_with (length w.ops) w.facts (length w.steps) (Some (what.Began (length w.ops) admin None (Some version))) refl ∙ unended w.ops (length w.ops) w.facts (omega arith) h.facts;
    })
    (requests_rest w next o (body.Store admin version) refl (got_last w.ops o) (λ r. (refl, refl)))
    (begins_next admins w admin h none)

-- ---- readings

-- no mail of an operation that was not there
not_yet : (w : State) (op least r : ℕ) → length w.ops ≤ op → (mail : QMail) → MailRests w mail → SaysAtLeast op r least mail
not_yet w op least r past mail rests same here = absurd (omega (arith, same, past, got_within w.ops mail.op rests.op rests.is_op))

pub read_rests : (admins : ℕ) (w : State) (reader : ℕ) (admin : AdminId) → Rests admins w → admin.0 < admins → (taken : QStep) → Rests admins (state_after w taken (reads w reader admin))
read_rests admins w reader admin h exists taken =
    let o : Operation = own_of admin (Some reader) (phase.Fetching first_version (none_yet (length w.replicas))) in
    let sent : List QMail = to_all (length w.ops) (body.Fetch admin) (length w.replicas) in
    let within : admin.0 < length w.last = omega (arith, exists, h.admin_count) in
    let next : State = state_after w taken (begin_move w o w.last sent) in
    let no_answers : Each IsNoAnswer sent = each_request IsNoAnswer (length w.ops) (body.Fetch admin) (length w.replicas) (λ r less least. tt) (none_yet (length w.replicas)) 0 (omega (arith, same_length (length w.replicas) false)) in
    let grows : Grows w (begin_move w o w.last sent) = begin_grows w o w.last sent refl (λ a. omega arith) no_answers in
    let began : QFact = record { place = length w.steps; what = what.Began (length w.ops) admin (Some reader) None } in
    let start : floor next (length w.ops) admin.0 ≡ most_ended w.ops admin.0 w.facts =
    ap (most_ended (w.ops ++ o ∷ []) admin.0) (start_now (length w.ops) w.facts began (unbegun w.ops (length w.ops) w.facts (omega arith) h.facts) (eq-eqb (length w.ops) (length w.ops) refl))
    ∙ most_same w.ops (w.ops ++ o ∷ []) admin.0 (admins_stay w (begin_move w o w.last sent) grows) w.facts (ends_there w.ops w.facts h.facts) in
    let good : Most (length w.replicas) (IsGood next (length w.ops) admin.0 (floor next (length w.ops) admin.0)) =
    most_as (length w.replicas) (λ (r : ℕ). most_ended w.ops admin.0 w.facts ≤ told_at w.replicas r admin.0) (IsGood next (length w.ops) admin.0 (floor next (length w.ops) admin.0))
    (λ r tells. record {
      tells = omega (arith, start, tells);
      said =
          each_append (SaysAtLeast (length w.ops) r (floor next (length w.ops) admin.0)) w.mails sent
          (each_as (MailRests w) (SaysAtLeast (length w.ops) r (floor next (length w.ops) admin.0)) (not_yet w (length w.ops) (floor next (length w.ops) admin.0) r (omega arith)) w.mails h.mails)
          (each_as IsNoAnswer (SaysAtLeast (length w.ops) r (floor next (length w.ops) admin.0)) (λ mail no same here. no (floor next (length w.ops) admin.0)) sent no_answers);
    }) (h.most admin.0) in
    begin_rests admins w taken o w.last sent h grows within (λ a. omega arith)
    (record {
      reading = refl;
      few = omega (arith, h.published admin);
      count = same_length (length w.replicas) false;
      heard = λ r e. none_heard (λ (k : ℕ). HasAnswered next.mails (length w.ops) k 1) (length w.replicas) r e;
      waits = none_most (length w.replicas);
      running = ended_with (length w.ops) w.facts (length w.steps) (Some (what.Began (length w.ops) admin (Some reader) None)) refl ∙ unended w.ops (length w.ops) w.facts (omega arith) h.facts;
      good = good;
    })
    (requests_rest w next o (body.Fetch admin) refl (got_last w.ops o) (λ r. refl)) tt
