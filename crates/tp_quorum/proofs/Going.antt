-- Steps in which an operation takes an answer: it waits on, stores what it fetched, or ends.
use Rattle.std.proofs.Common.{◌≡◌, ℕ, ◌<◌, ◌≤◌, ◌==◌, List, [], ◌∷◌, ◌++◌, length, slice_get, slice_set, Bool, true, false, Option, Some, None, is_some, refl, sym, ap, subst, arith, ◌∙◌, inl, inr, if◌then◌else◌}
use Rattle.std.proofs.lemmas.Bool.{cases_eq, eqb-true, eq-eqb, ne_eqb}
use Rattle.tp_types.proofs.EachLemmas.{each_as, each_get}
use Rattle.tp_types.specs.Each.{Each}
use Rattle.tp_quorum.proofs.Counting.{Most, majorities_share, most_all, most_flags, none_most}
use Rattle.tp_quorum.proofs.Facts.{begun_stays, end_now, ended_by, got_start, is_of, is_of_found, most_of, most_some}
use Rattle.tp_quorum.proofs.Lists.{at_changed, changed, got_before, got_within, same_at, same_length, set_got, set_length, set_other, some_within}
use Rattle.tp_quorum.proofs.Replicas.{each_request, idle_rests}
use Rattle.tp_quorum.proofs.Stays.{Grows, Goes, MoveRests, PhaseGoes, goes_same, move_rests, op_stays, phase_stays}
use Rattle.tp_quorum.proofs.Told.{told_at, told_at_some}
use Rattle.tp_quorum.proofs.World.{BodyRests, FactRests, FetchRests, HasAnswered, IsAtLeast, IsGood, MailRests, OpRests, PhaseRests, Rests, SaysAtLeast, StoreRests, Stores, WhatRests, beginning_as, floor, last_at, version_begun}
use Rattle.tp_quorum.specs.Machine.{State, in_phase, operation_goes, operation_takes_at, state_after}
use Rattle.tp_quorum.specs.OneMaster.{Beginning, EndsSo, before_start, beginning_of}
use Rattle.tp_quorum.specs.Operations.{fetched, greater_of, hears, is_awaited, most_answered, none_yet, stored, to_all, waits}
use Rattle.tp_quorum.specs.Replica.{ReplicaView}
use Rattle.tp_quorum.specs.Words.{AdminId, Heard, Operation, Phase, QBody, QFact, QMail, QStep, Version}
use Rattle.tp_quorum.specs.Words.body
use Rattle.tp_quorum.specs.Words.phase
use Rattle.tp_quorum.specs.Words.what

-- ---- an operation goes on

-- no answer to a fetch
abbrev pub IsNoAnswer : QMail → Type 0
IsNoAnswer mail = (least : ℕ) → IsAtLeast least mail.body

abbrev pub own_of : AdminId → Option ℕ → Phase → Operation
own_of admin reader now = record { admin = admin; reader = reader; phase = now }

goes_at : (w : State) (op : ℕ) (o : Operation) (heard : Heard) → slice_get w.ops op ≡ Some o → PhaseGoes o.phase heard.next → (k : ℕ) (found : Operation) → slice_get w.ops k ≡ Some found
    → Goes found (slice_get (slice_set w.ops op (in_phase o heard)) k)
goes_at w op o heard is_op goes k found e =
    elim (cases_eq k op) [
      | inl same ↦
          let there : slice_get w.ops op ≡ Some found = subst (λ (n : ℕ). slice_get w.ops n ≡ Some found) same e in
          let both : Some o ≡ Some found = sym is_op ∙ there in
          let own : o ≡ found = cc in
          let here : Goes o (slice_get (slice_set w.ops op (in_phase o heard)) op) = record { next = in_phase o heard; is_next = set_got w.ops op o (in_phase o heard) is_op; admin = refl; reader = refl; now = goes } in
          subst (λ (n : ℕ). Goes found (slice_get (slice_set w.ops op (in_phase o heard)) n)) (sym same) (subst (λ (p : Operation). Goes p (slice_get (slice_set w.ops op (in_phase o heard)) op)) own here)
      | inr other ↦ goes_same found (slice_get (slice_set w.ops op (in_phase o heard)) k) (set_other w.ops op k (in_phase o heard) other ∙ e)
    ]

pub going_grows : (w : State) (op : ℕ) (o : Operation) (heard : Heard) → slice_get w.ops op ≡ Some o → PhaseGoes o.phase heard.next → Each IsNoAnswer heard.sent → Grows w (operation_goes w op o heard)
going_grows w op o heard is_op goes none = record {
  count = refl;
  admins = refl;
  told = λ r admin. omega arith;
  last = λ admin. omega arith;
  ops = goes_at w op o heard is_op goes;
  fair = λ k found e r. each_as IsNoAnswer (SaysAtLeast k r (told_at w.replicas r found.admin.0)) (λ mail no same here. no (told_at w.replicas r found.admin.0)) heard.sent none;
}

-- it goes on and nothing happens
going_rests : (admins : ℕ) (w : State) (taken : QStep) (op : ℕ) (o : Operation) (now : Phase) (sent : List QMail) → Rests admins w → slice_get w.ops op ≡ Some o
    → Grows w (operation_goes w op o (record { next = now; happened = None; sent = sent })) → version_begun o.reader now ≡ version_begun o.reader o.phase
    → PhaseRests (state_after w taken (operation_goes w op o (record { next = now; happened = None; sent = sent }))) op o.admin.0 o.reader now
    → Each (MailRests (state_after w taken (operation_goes w op o (record { next = now; happened = None; sent = sent })))) sent
    → Rests admins (state_after w taken (operation_goes w op o (record { next = now; happened = None; sent = sent })))
going_rests admins w taken op o now sent h is_op grows version rests mails = move_rests admins w taken (operation_goes w op o (record { next = now; happened = None; sent = sent })) h grows new
  where
    own : OpRests w op o
    own = h.ops op o is_op

    begins : beginning_as o ≡ record { admin = o.admin; reader = o.reader; version = version_begun o.reader now }
    begins = λ i. record { admin = o.admin; reader = o.reader; version = sym version i }

    new : MoveRests w taken (operation_goes w op o (record { next = now; happened = None; sent = sent }))
    new = record {
      replicas = h.replicas;
      published = λ admin. omega arith;
      begun = omega (arith, set_length w.ops op (in_phase o (record { next = now; happened = None; sent = sent })));
      ops =
          at_changed (OpRests (state_after w taken (operation_goes w op o (record { next = now; happened = None; sent = sent })))) w.ops op (in_phase o (record { next = now; happened = None; sent = sent }))
          (λ k found apart e. op_stays w taken (operation_goes w op o (record { next = now; happened = None; sent = sent })) grows h.facts k found e refl (h.ops k found e))
          (record { admin = own.admin; begun = own.begun ∙ ap (λ (b : Beginning). Some b) begins; now = rests });
      sent = mails;
      fact = tt;
      most = λ admin. most_all (length w.replicas) (λ (r : ℕ). 1 ≤ told_at w.replicas r admin) h.some (λ r. told_at_some w.replicas r admin);
      follows = tt;
    }

-- it waits on as it was
pub waits_rests : (admins : ℕ) (w : State) (taken : QStep) (op : ℕ) (o : Operation) → Rests admins w → slice_get w.ops op ≡ Some o → Rests admins (state_after w taken (operation_goes w op o (waits o.phase)))
waits_rests admins w taken op o h is_op =
    let grows = going_grows w op o (waits o.phase) is_op (phase_stays o.phase) tt in
    going_rests admins w taken op o o.phase [] h is_op grows refl (op_stays w taken (operation_goes w op o (waits o.phase)) grows h.facts op o is_op refl (h.ops op o is_op)).now tt

-- ---- answers to a fetch

-- its answers, with one more
heard_more : (mails : List QMail) (op number : ℕ) (greatest version : Version) (answered : List Bool) (replica : ℕ) → slice_get mails number ≡ Some (record { op = op; replica = replica; body = body.Has version })
    → ((r : ℕ) → slice_get answered r ≡ Some true → HasAnswered mails op r greatest.0) → (r : ℕ) → slice_get (slice_set answered replica true) r ≡ Some true → HasAnswered mails op r (greater_of greatest version).0
heard_more mails op number greatest version answered replica sent heard r e =
    elim (changed answered replica r true true e) [
      | inl here ↦
          subst (λ (k : ℕ). HasAnswered mails op k (greater_of greatest version).0) (sym here.0)
          (record { number = number; version = version; sent = sent; few = omega arith })
      | inr other ↦
          let old = heard r other.1 in
          record { number = old.number; version = old.version; sent = old.sent; few = omega (arith, old.few) }
    ]

-- an answer of a replica that tells at least this, and never answered less
answer_good : (w : State) (op admin least most r : ℕ) → HasAnswered w.mails op r most → IsGood w op admin least r → least ≤ most
answer_good w op admin least most r answer good =
    let says : least ≤ answer.version.0 = each_get (SaysAtLeast op r least) w.mails answer.number (record { op = op; replica = r; body = body.Has answer.version }) good.said answer.sent refl refl in
    omega (arith, says, answer.few)

-- most replicas have answered, and most tell at least the floor: some replica does both
fetched_least : (w : State) (op admin : ℕ) (most : ℕ) → Most (length w.replicas) (λ (r : ℕ). HasAnswered w.mails op r most) → Most (length w.replicas) (IsGood w op admin (floor w op admin)) → floor w op admin ≤ most
fetched_least w op admin most heard good =
    let shared = majorities_share (length w.replicas) (λ (r : ℕ). HasAnswered w.mails op r most) (IsGood w op admin (floor w op admin)) heard good in
    answer_good w op admin (floor w op admin) most shared.0 shared.1 shared.2

fetched_rests : (admins : ℕ) (w : State) (taken : QStep) (op number : ℕ) (admin : AdminId) (reader : Option ℕ) (greatest version : Version) (answered : List Bool) (replica : ℕ) → Rests admins w
    → slice_get w.ops op ≡ Some (own_of admin reader (phase.Fetching greatest answered))
    → slice_get w.mails number ≡ Some (record { op = op; replica = replica; body = body.Has version }) → version.0 ≤ last_at w.last admin.0
    → Rests admins (state_after w taken (operation_goes w op (own_of admin reader (phase.Fetching greatest answered)) (fetched op admin (greater_of greatest version) (slice_set answered replica true))))
fetched_rests admins w taken op number admin reader greatest version answered replica h is_op sent few = by (most_answered (slice_set answered replica true)) refl
  where
    old : FetchRests w op admin.0 reader greatest answered
    old = (h.ops op (own_of admin reader (phase.Fetching greatest answered)) is_op).now

    no_answers : Each IsNoAnswer (to_all op (body.Store admin (greater_of greatest version)) (length (slice_set answered replica true)))
    no_answers =
        each_request IsNoAnswer op (body.Store admin (greater_of greatest version)) (length (slice_set answered replica true)) (λ r within least. tt) (none_yet (length (slice_set answered replica true))) 0
        (omega (arith, same_length (length (slice_set answered replica true)) false))

    version_same : (next : Phase) (b : Option ℕ) → is_some b ≡ true → version_begun b next ≡ version_begun b (phase.Fetching greatest answered)
    version_same next None e = absurd (cc)
    version_same next (Some r) e = refl

    waiting : most_answered (slice_set answered replica true) ≡ false
        → Rests admins (state_after w taken (operation_goes w op (own_of admin reader (phase.Fetching greatest answered)) (waits (phase.Fetching (greater_of greatest version) (slice_set answered replica true)))))
    waiting none =
        let heard : Heard = waits (phase.Fetching (greater_of greatest version) (slice_set answered replica true)) in
        let grows : Grows w (operation_goes w op (own_of admin reader (phase.Fetching greatest answered)) heard) =
        going_grows w op (own_of admin reader (phase.Fetching greatest answered)) heard is_op tt tt in
        let still : FetchRests (state_after w taken (operation_goes w op (own_of admin reader (phase.Fetching greatest answered)) heard)) op admin.0 reader greatest answered =
        (op_stays w taken (operation_goes w op (own_of admin reader (phase.Fetching greatest answered)) heard) grows h.facts op (own_of admin reader (phase.Fetching greatest answered)) is_op refl
        (h.ops op (own_of admin reader (phase.Fetching greatest answered)) is_op)).now in
        going_rests admins w taken op (own_of admin reader (phase.Fetching greatest answered)) heard.next [] h is_op grows (version_same heard.next reader old.reading)
        (record {
          reading = still.reading;
          few = omega (arith, still.few, few);
          count = set_length answered replica true ∙ still.count;
          heard = heard_more (w.mails ++ []) op number greatest version answered replica (got_before w.mails [] number (record { op = op; replica = replica; body = body.Has version }) sent) still.heard;
          waits = none;
          running = still.running;
          good = still.good;
        }) tt

    storing : most_answered (slice_set answered replica true) ≡ true
        → Rests admins (state_after w taken (operation_goes w op (own_of admin reader (phase.Fetching greatest answered)) (record {
          next = phase.Storing (greater_of greatest version) (none_yet (length (slice_set answered replica true)));
          happened = None;
          sent = to_all op (body.Store admin (greater_of greatest version)) (length (slice_set answered replica true));
        })))
    storing many =
        let heard : Heard = record { next = phase.Storing (greater_of greatest version) (none_yet (length (slice_set answered replica true))); happened = None; sent = to_all op (body.Store admin (greater_of greatest version)) (length (slice_set answered replica true)) } in
        let grows : Grows w (operation_goes w op (own_of admin reader (phase.Fetching greatest answered)) heard) =
        going_grows w op (own_of admin reader (phase.Fetching greatest answered)) heard is_op tt no_answers in
        let still : FetchRests (state_after w taken (operation_goes w op (own_of admin reader (phase.Fetching greatest answered)) heard)) op admin.0 reader greatest answered =
        (op_stays w taken (operation_goes w op (own_of admin reader (phase.Fetching greatest answered)) heard) grows h.facts op (own_of admin reader (phase.Fetching greatest answered)) is_op refl
        (h.ops op (own_of admin reader (phase.Fetching greatest answered)) is_op)).now in
        let next : State = state_after w taken (operation_goes w op (own_of admin reader (phase.Fetching greatest answered)) heard) in
        let count : length (slice_set answered replica true) ≡ length w.replicas = set_length answered replica true ∙ old.count in
        let answers : Most (length w.replicas) (λ (r : ℕ). HasAnswered next.mails op r (greater_of greatest version).0) =
        most_flags (length w.replicas) (slice_set answered replica true) (λ (r : ℕ). HasAnswered next.mails op r (greater_of greatest version).0) count many
        (heard_more next.mails op number greatest version answered replica (got_before w.mails heard.sent number (record { op = op; replica = replica; body = body.Has version }) sent) still.heard) in
        going_rests admins w taken op (own_of admin reader (phase.Fetching greatest answered)) heard.next heard.sent h is_op grows (version_same heard.next reader old.reading)
        (record {
          few = omega (arith, still.few, few);
          least = λ reading. fetched_least next op admin.0 (greater_of greatest version).0 answers still.good;
          count = same_length (length (slice_set answered replica true)) false ∙ count;
          heard = λ r e. absurd (let no : false ≡ true = same_at (length (slice_set answered replica true)) r false true e in cc);
          waits = none_most (length (slice_set answered replica true));
          running = still.running;
        })
        (each_request (MailRests next) op (body.Store admin (greater_of greatest version)) (length (slice_set answered replica true))
        (λ r within. record {
          replica = omega (arith, within, count);
          op = own_of admin reader heard.next;
          is_op = set_got w.ops op (own_of admin reader (phase.Fetching greatest answered)) (own_of admin reader heard.next) is_op;
          said = (refl, refl);
        }) (none_yet (length (slice_set answered replica true))) 0 (omega (arith, same_length (length (slice_set answered replica true)) false)))

    by : (b : Bool) → most_answered (slice_set answered replica true) ≡ b
        → Rests admins (state_after w taken (operation_goes w op (own_of admin reader (phase.Fetching greatest answered))
        (if b
        then record {
          next = phase.Storing (greater_of greatest version) (none_yet (length (slice_set answered replica true)));
          happened = None;
          sent = to_all op (body.Store admin (greater_of greatest version)) (length (slice_set answered replica true));
        }
        else waits (phase.Fetching (greater_of greatest version) (slice_set answered replica true)))))
    by true e = storing e
    by false e = waiting e

-- ---- answers to a store

stored_more : (replicas : List ReplicaView) (admin : ℕ) (version : Version) (answered : List Bool) (replica : ℕ) → version.0 ≤ told_at replicas replica admin
    → ((r : ℕ) → slice_get answered r ≡ Some true → version.0 ≤ told_at replicas r admin) → (r : ℕ) → slice_get (slice_set answered replica true) r ≡ Some true → version.0 ≤ told_at replicas r admin
stored_more replicas admin version answered replica told heard r e =
    elim (changed answered replica r true true e) [
      | inl here ↦ subst (λ (k : ℕ). version.0 ≤ told_at replicas k admin) (sym here.0) told
      | inr other ↦ heard r other.1
    ]

-- who ended before it began, among the operations of its administrator, ended with at most the floor
newest_below : (admins : ℕ) (w : State) → Rests admins w → (op : ℕ) (admin : AdminId) (n other : ℕ) (fact : QFact) (found : Version) (begun : Beginning) → slice_get (before_start op w.facts) n ≡ Some fact → fact.what ≡ what.Ended other found
    → beginning_of other w.facts ≡ Some begun → begun.admin ≡ admin → found.0 ≤ floor w op admin.0
newest_below admins w h op admin n other fact found begun there is is_begun own =
    most_of w.ops admin.0 (before_start op w.facts) n other fact found there is same_admin
  where
    rests : WhatRests w.ops fact.what
    rests = each_get (FactRests w.ops) w.facts n fact h.facts (got_start op w.facts n fact there)

    within : other < length w.ops
    within = subst (WhatRests w.ops) is rests

    its : (o : Operation) × (slice_get w.ops other ≡ Some o)
    its = some_within w.ops other within

    both : Some (beginning_as its.0) ≡ Some begun
    both = sym (h.ops other its.0 its.1).begun ∙ is_begun

    admin_is : its.0.admin ≡ admin
    admin_is = let same : beginning_as its.0 ≡ begun = cc both in ap (λ (b : Beginning). b.admin) same ∙ own

    same_admin : is_of w.ops admin.0 other ≡ true
    same_admin = ap (is_of_found admin.0) its.1 ∙ eq-eqb its.0.admin.0 admin.0 (ap (λ (a : AdminId). a.0) admin_is)

ends_so : (admins : ℕ) (w : State) → Rests admins w → (op : ℕ) (admin : AdminId) (reader : Option ℕ) (version : Version) (answered : List Bool) → StoreRests w op admin.0 reader version answered
    → EndsSo w.facts op admin (version_begun reader (phase.Storing version answered)) version
ends_so admins w h op admin None version answered rests = refl
ends_so admins w h op admin (Some reader) version answered rests = record {
  some = omega (arith, most_some w.ops admin.0 (before_start op w.facts), rests.least refl);
  newest = λ n other fact found begun there is is_begun own. omega (arith, newest_below admins w h op admin n other fact found begun there is is_begun own, rests.least refl);
  published = omega (arith, rests.few, h.published admin);
}

ended_told : (w : State) (ops : List Operation) (op admin own r : ℕ) (version : Version) → (is_of ops admin op ≡ true → own ≡ admin) → version.0 ≤ told_at w.replicas r own → ended_by ops admin (what.Ended op version) ≤ told_at w.replicas r admin
ended_told w ops op admin own r version same told = by (is_of ops admin op) refl
  where
    by : (b : Bool) → is_of ops admin op ≡ b → (if b then version.0 else 1) ≤ told_at w.replicas r admin
    by true e = subst (λ (a : ℕ). version.0 ≤ told_at w.replicas r a) (same e) told
    by false e = told_at_some w.replicas r admin

stored_rests : (admins : ℕ) (w : State) (taken : QStep) (op : ℕ) (admin : AdminId) (reader : Option ℕ) (version : Version) (answered : List Bool) (replica : ℕ) → Rests admins w
    → slice_get w.ops op ≡ Some (own_of admin reader (phase.Storing version answered)) → version.0 ≤ told_at w.replicas replica admin.0
    → Rests admins (state_after w taken (operation_goes w op (own_of admin reader (phase.Storing version answered)) (stored op version (slice_set answered replica true))))
stored_rests admins w taken op admin reader version answered replica h is_op told = by (most_answered (slice_set answered replica true)) refl
  where
    own : OpRests w op (own_of admin reader (phase.Storing version answered))
    own = h.ops op (own_of admin reader (phase.Storing version answered)) is_op

    old : StoreRests w op admin.0 reader version answered
    old = own.now

    version_same : (next : Phase) → Stores next version → version_begun reader next ≡ version_begun reader (phase.Storing version answered)
    version_same next stores = by_reader reader next stores
      where
        by_reader : (b : Option ℕ) (later : Phase) → Stores later version → version_begun b later ≡ version_begun b (phase.Storing version answered)
        by_reader None (phase.Fetching greatest flags) e = absurd e
        by_reader None (phase.Storing same flags) e = ap (λ (v : Version). Some v) e
        by_reader None (phase.Ended same) e = ap (λ (v : Version). Some v) e
        by_reader (Some r) later e = refl

    heard_told : (r : ℕ) → slice_get (slice_set answered replica true) r ≡ Some true → version.0 ≤ told_at w.replicas r admin.0
    heard_told = stored_more w.replicas admin.0 version answered replica told old.heard

    waiting : most_answered (slice_set answered replica true) ≡ false
        → Rests admins (state_after w taken (operation_goes w op (own_of admin reader (phase.Storing version answered)) (waits (phase.Storing version (slice_set answered replica true)))))
    waiting none =
        let heard : Heard = waits (phase.Storing version (slice_set answered replica true)) in
        let grows : Grows w (operation_goes w op (own_of admin reader (phase.Storing version answered)) heard) = going_grows w op (own_of admin reader (phase.Storing version answered)) heard is_op refl tt in
        let still : StoreRests (state_after w taken (operation_goes w op (own_of admin reader (phase.Storing version answered)) heard)) op admin.0 reader version answered =
        (op_stays w taken (operation_goes w op (own_of admin reader (phase.Storing version answered)) heard) grows h.facts op (own_of admin reader (phase.Storing version answered)) is_op refl own).now in
        going_rests admins w taken op (own_of admin reader (phase.Storing version answered)) heard.next [] h is_op grows (version_same heard.next refl)
        (record {
          few = still.few;
          least = still.least;
          count = set_length answered replica true ∙ still.count;
          heard = heard_told;
          waits = none;
          running = still.running;
        }) tt

    ending : most_answered (slice_set answered replica true) ≡ true
        → Rests admins (state_after w taken (operation_goes w op (own_of admin reader (phase.Storing version answered)) (record { next = phase.Ended version; happened = Some (what.Ended op version); sent = [] })))
    ending many =
        let heard : Heard = record { next = phase.Ended version; happened = Some (what.Ended op version); sent = [] } in
        let ended : Operation = own_of admin reader (phase.Ended version) in
        let grows : Grows w (operation_goes w op (own_of admin reader (phase.Storing version answered)) heard) = going_grows w op (own_of admin reader (phase.Storing version answered)) heard is_op refl tt in
        let within : op < length w.ops = got_within w.ops op (own_of admin reader (phase.Storing version answered)) is_op in
        let count : length (slice_set answered replica true) ≡ length w.replicas = set_length answered replica true ∙ old.count in
        let now_there : slice_get (slice_set w.ops op ended) op ≡ Some ended = set_got w.ops op (own_of admin reader (phase.Storing version answered)) ended is_op in
        move_rests admins w taken (operation_goes w op (own_of admin reader (phase.Storing version answered)) heard) h grows (record {
          replicas = h.replicas;
          published = λ a. omega arith;
          begun = omega (arith, set_length w.ops op ended);
          ops =
              at_changed (OpRests (state_after w taken (operation_goes w op (own_of admin reader (phase.Storing version answered)) heard))) w.ops op ended
              (λ k found apart e. op_stays w taken (operation_goes w op (own_of admin reader (phase.Storing version answered)) heard) grows h.facts k found e (ne_eqb op k (λ same. apart (sym same))) (h.ops k found e))
              (record {
                admin = own.admin;
                begun = still_begun;
                now = record { few = old.few; has_end = end_now op w.facts (record { place = length w.steps; what = what.Ended op version }) old.running (eq-eqb op op refl) };
              });
          sent = tt;
          fact = omega (arith, within, set_length w.ops op ended);
          most = λ a.
              most_flags (length w.replicas) (slice_set answered replica true) (λ (r : ℕ). ended_by (slice_set w.ops op ended) a (what.Ended op version) ≤ told_at w.replicas r a) count many
              (λ r e. ended_told w (slice_set w.ops op ended) op a admin.0 r version
              (λ same. eqb-true admin.0 a (sym (ap (is_of_found a) now_there) ∙ same)) (heard_told r e));
          follows = record {
            begun = beginning_as (own_of admin reader (phase.Storing version answered));
            is_begun = own.begun;
            running = old.running;
            so = ends_so admins w h op admin reader version answered old;
          };
        })
      where
        still_begun : beginning_of op (w.facts ++ record { place = length w.steps; what = what.Ended op version } ∷ []) ≡ Some (beginning_as (own_of admin reader (phase.Ended version)))
        still_begun =
            let begins : beginning_as (own_of admin reader (phase.Storing version answered)) ≡ beginning_as (own_of admin reader (phase.Ended version)) =
            λ i. record { admin = admin; reader = reader; version = sym (version_same (phase.Ended version) refl) i } in
            begun_stays op w.facts (record { place = length w.steps; what = what.Ended op version }) (beginning_as (own_of admin reader (phase.Storing version answered))) own.begun ∙ ap (λ (b : Beginning). Some b) begins

    by : (b : Bool) → most_answered (slice_set answered replica true) ≡ b
        → Rests admins (state_after w taken (operation_goes w op (own_of admin reader (phase.Storing version answered))
        (if b then record { next = phase.Ended version; happened = Some (what.Ended op version); sent = [] } else waits (phase.Storing version (slice_set answered replica true)))))
    by true e = ending e
    by false e = waiting e

-- ---- any mail

-- of the mail of an operation
own_mail : (w : State) (mail : QMail) (rests : MailRests w mail) (o : Operation) → slice_get w.ops mail.op ≡ Some o → BodyRests w mail.replica o mail.body
own_mail w mail rests o is_op =
    let both : Some rests.op ≡ Some o = sym rests.is_op ∙ is_op in
    let same : rests.op ≡ o = cc in
    subst (λ (p : Operation). BodyRests w mail.replica p mail.body) same rests.said

hears_rests : (admins : ℕ) (w : State) (taken : QStep) (op number : ℕ) (admin : AdminId) (reader : Option ℕ) (replica : ℕ) → Rests admins w → (now : Phase) → slice_get w.ops op ≡ Some (own_of admin reader now) → (said : QBody)
    → slice_get w.mails number ≡ Some (record { op = op; replica = replica; body = said }) → BodyRests w replica (own_of admin reader now) said
    → Rests admins (state_after w taken (operation_goes w op (own_of admin reader now) (hears op admin replica now said)))
hears_rests admins w taken op number admin reader replica h (phase.Fetching greatest answered) is_op (body.Has version) sent rests = by (is_awaited answered replica)
  where
    by : (b : Bool) → Rests admins (state_after w taken (operation_goes w op (own_of admin reader (phase.Fetching greatest answered))
        (if b then fetched op admin (greater_of greatest version) (slice_set answered replica true) else waits (phase.Fetching greatest answered))))
    by true = fetched_rests admins w taken op number admin reader greatest version answered replica h is_op sent rests
    by false = waits_rests admins w taken op (own_of admin reader (phase.Fetching greatest answered)) h is_op
hears_rests admins w taken op number admin reader replica h (phase.Storing version answered) is_op body.Stored sent rests = by (is_awaited answered replica)
  where
    told : version.0 ≤ told_at w.replicas replica admin.0
    told = subst (λ (v : Version). v.0 ≤ told_at w.replicas replica admin.0) (sym rests.stores) rests.is_told

    by : (b : Bool) → Rests admins (state_after w taken (operation_goes w op (own_of admin reader (phase.Storing version answered))
        (if b then stored op version (slice_set answered replica true) else waits (phase.Storing version answered))))
    by true = stored_rests admins w taken op admin reader version answered replica h is_op told
    by false = waits_rests admins w taken op (own_of admin reader (phase.Storing version answered)) h is_op
hears_rests admins w taken op number admin reader replica h now is_op said sent rests = waits_rests admins w taken op (own_of admin reader now) h is_op

pub operation_takes_rests : (admins : ℕ) (w : State) (taken : QStep) (number : ℕ) (mail : QMail) → Rests admins w → slice_get w.mails number ≡ Some mail → (found : Option Operation) → slice_get w.ops mail.op ≡ found
    → Rests admins (state_after w taken (operation_takes_at w mail found))
operation_takes_rests admins w taken number mail h sent None e = idle_rests admins w taken h
operation_takes_rests admins w taken number mail h sent (Some o) e =
    hears_rests admins w taken mail.op number o.admin o.reader mail.replica h o.phase e mail.body sent (own_mail w mail (each_get (MailRests w) w.mails number mail h.mails sent) o e)
