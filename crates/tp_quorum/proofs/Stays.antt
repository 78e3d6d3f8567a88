-- What a step keeps: mails, operations and facts that rested on the state before it rest on the state after it. A step owes
-- only what it changes.
use Rattle.std.proofs.Common.{◌≡◌, ℕ, ◌+◌, ◌<◌, ◌≤◌, ◌==◌, ◌||◌, max, List, [], ◌∷◌, ◌++◌, length, slice_get, Bool, true, false, Option, Some, None, refl, sym, ap, subst, arith, ◌∙◌, inl, inr}
use Rattle.std.proofs.lemmas.Bool.{cases_lt, ne_eqb}
use Rattle.tp_types.proofs.EachLemmas.{each_append, each_as, each_more}
use Rattle.tp_types.specs.Each.{Each, EachAt}
use Rattle.tp_quorum.proofs.Counting.{Most, most_as}
use Rattle.tp_quorum.proofs.Facts.{AdminsStay, EndIsThere, IsUnbegun, begun_stays, count_grown, counted, each_start, end_stays, ended_by, ended_grown, is_of_found, most_ended, most_grown, most_same, most_some, one_master_pushed, start_stays}
use Rattle.tp_quorum.proofs.Lists.{got_before, got_within, pushed_length, some_within}
use Rattle.tp_quorum.proofs.Told.{told_at}
use Rattle.tp_quorum.proofs.World.{BodyRests, FactRests, HasAnswered, IsGood, MailRests, OpRests, PhaseRests, ReplicaRests, Rests, SaysAtLeast, Stores, WhatRests, IsAtLeast, beginning_as, floor, last_at}
use Rattle.tp_quorum.specs.Machine.{Move, State, state_after, with_fact}
use Rattle.tp_quorum.specs.OneMaster.{Beginning, Follows, OneMaster, before_start, beginning_of, begins, count_of, ends, has_ended, is_beginning, is_publication}
use Rattle.tp_quorum.specs.QuorumView.{end_of}
use Rattle.tp_quorum.specs.Replica.{ReplicaView}
use Rattle.tp_quorum.specs.Words.{AdminId, Operation, Phase, QBody, QFact, QMail, QStep, QWhat, Version}
use Rattle.tp_quorum.specs.Words.body
use Rattle.tp_quorum.specs.Words.phase
use Rattle.tp_quorum.specs.Words.what

-- ---- how a step goes on from a state

-- an operation that stores or has ended keeps its version
abbrev pub PhaseGoes : Phase → Phase → Type 0
PhaseGoes (phase.Fetching greatest answered) next = Unit {0}
PhaseGoes (phase.Storing version answered) next = Stores next version
PhaseGoes (phase.Ended version) next = Stores next version

-- the operation is there still
pub record Goes (o : Operation) (found : Option Operation) : Type 0 where
  pub next : Operation
  pub is_next : found ≡ Some next
  pub admin : next.admin ≡ o.admin
  pub reader : next.reader ≡ o.reader
  pub now : PhaseGoes o.phase next.phase

-- logs and last versions only rise, operations go on, and a new answer says no less than its replica's log tells
pub record Grows (w : State) (move : Move) : Type 0 where
  pub count : length move.replicas ≡ length w.replicas
  pub admins : length move.last ≡ length w.last
  pub told : (r admin : ℕ) → told_at w.replicas r admin ≤ told_at move.replicas r admin
  pub last : (admin : ℕ) → last_at w.last admin ≤ last_at move.last admin
  pub ops : (op : ℕ) (o : Operation) → slice_get w.ops op ≡ Some o → Goes o (slice_get move.ops op)
  pub fair : (op : ℕ) (o : Operation) → slice_get w.ops op ≡ Some o → (r : ℕ) → Each (SaysAtLeast op r (told_at w.replicas r o.admin.0)) move.sent

pub phase_stays : (now : Phase) → PhaseGoes now now
phase_stays (phase.Fetching greatest answered) = tt
phase_stays (phase.Storing version answered) = refl
phase_stays (phase.Ended version) = refl

pub goes_same : (o : Operation) (found : Option Operation) → found ≡ Some o → Goes o found
goes_same o found e = record { next = o; is_next = e; admin = refl; reader = refl; now = phase_stays o.phase }

-- ---- mails

stores_goes : (now next : Phase) (version : Version) → PhaseGoes now next → Stores now version → Stores next version
stores_goes (phase.Fetching greatest answered) next version goes stores = absurd stores
stores_goes (phase.Storing own answered) next version goes stores = subst (Stores next) stores goes
stores_goes (phase.Ended own) next version goes stores = subst (Stores next) stores goes

body_stays : (w : State) (taken : QStep) (move : Move) → Grows w move → (r : ℕ) (o next : Operation) → next.admin ≡ o.admin → PhaseGoes o.phase next.phase → (said : QBody)
    → BodyRests w r o said → BodyRests (state_after w taken move) r next said
body_stays w taken move grows r o next admin goes (body.Fetch asked) rests = admin ∙ rests
body_stays w taken move grows r o next admin goes (body.Has version) rests =
    let same : last_at move.last next.admin.0 ≡ last_at move.last o.admin.0 = ap (λ (a : AdminId). last_at move.last a.0) admin in
    omega (arith, same, rests, grows.last o.admin.0)
body_stays w taken move grows r o next admin goes (body.Store asked version) rests = (admin ∙ rests.0, stores_goes o.phase next.phase version goes rests.1)
body_stays w taken move grows r o next admin goes body.Stored rests =
    let same : told_at move.replicas r next.admin.0 ≡ told_at move.replicas r o.admin.0 = ap (λ (a : AdminId). told_at move.replicas r a.0) admin in
    record {
      version = rests.version;
      stores = stores_goes o.phase next.phase rests.version goes rests.stores;
      is_told = omega (arith, same, rests.is_told, grows.told r o.admin.0);
    }

pub mail_stays : (w : State) (taken : QStep) (move : Move) → Grows w move → (mail : QMail) → MailRests w mail → MailRests (state_after w taken move) mail
mail_stays w taken move grows mail rests =
    let goes = grows.ops mail.op rests.op rests.is_op in
    record {
      replica = omega (arith, rests.replica, grows.count);
      op = goes.next;
      is_op = goes.is_next;
      said = body_stays w taken move grows mail.replica rests.op goes.next goes.admin goes.now mail.body rests.said;
    }

-- ---- facts

-- what happened, if something did
abbrev pub OfHappened : (QWhat → Type 0) → Option QWhat → Type 0
OfHappened P None = Unit {0}
OfHappened P (Some said) = P said

abbrev pub counted_in : (QWhat → Bool) → Option QWhat → ℕ
counted_in test None = 0
counted_in test (Some said) = counted test said

abbrev pub ended_in : List Operation → ℕ → Option QWhat → ℕ
ended_in ops admin None = 1
ended_in ops admin (Some said) = ended_by ops admin said

abbrev pub ends_in : ℕ → Option QWhat → Bool
ends_in op None = false
ends_in op (Some said) = ends op said

count_with : (test : QWhat → Bool) (facts : List QFact) (place : ℕ) (happened : Option QWhat) → count_of test (with_fact facts place happened) ≡ count_of test facts + counted_in test happened
count_with test facts place None = omega arith
count_with test facts place (Some said) = count_grown test facts (record { place = place; what = said })

begun_with : (op : ℕ) (facts : List QFact) (place : ℕ) (happened : Option QWhat) (begun : Beginning) → beginning_of op facts ≡ Some begun → beginning_of op (with_fact facts place happened) ≡ Some begun
begun_with op facts place None begun e = e
begun_with op facts place (Some said) begun e = begun_stays op facts (record { place = place; what = said }) begun e

start_with : (op : ℕ) (facts : List QFact) (place : ℕ) (happened : Option QWhat) (begun : Beginning) → beginning_of op facts ≡ Some begun → before_start op (with_fact facts place happened) ≡ before_start op facts
start_with op facts place None begun e = refl
start_with op facts place (Some said) begun e = start_stays op facts (record { place = place; what = said }) begun e

false_or : (b c : Bool) → c ≡ false → (b || c) ≡ b
false_or true c e = refl
false_or false c e = e

-- an operation that does not end now has ended if it had
pub ended_with : (op : ℕ) (facts : List QFact) (place : ℕ) (happened : Option QWhat) → ends_in op happened ≡ false → has_ended op (with_fact facts place happened) ≡ has_ended op facts
ended_with op facts place None other = refl
ended_with op facts place (Some said) other = ended_grown op facts (record { place = place; what = said }) ∙ false_or (has_ended op facts) (ends op said) other

end_with : (op : ℕ) (facts : List QFact) (place : ℕ) (happened : Option QWhat) (version : Version) → end_of op facts ≡ Some version → end_of op (with_fact facts place happened) ≡ Some version
end_with op facts place None version e = e
end_with op facts place (Some said) version e = end_stays op facts (record { place = place; what = said }) version e

most_with : (ops : List Operation) (admin : ℕ) (facts : List QFact) (place : ℕ) (happened : Option QWhat) → most_ended ops admin (with_fact facts place happened) ≡ max (most_ended ops admin facts) (ended_in ops admin happened)
most_with ops admin facts place None = omega (arith, most_some ops admin facts)
most_with ops admin facts place (Some said) = most_grown ops admin facts (record { place = place; what = said })

each_with : (P : QFact → Type 0) (facts : List QFact) (place : ℕ) (happened : Option QWhat) → Each P facts → OfHappened (λ (said : QWhat). P (record { place = place; what = said })) happened → Each P (with_fact facts place happened)
each_with P facts place None each new = each
each_with P facts place (Some said) each new = each_more P facts (record { place = place; what = said }) each new

end_there : (ops : List Operation) (said : QWhat) → WhatRests ops said → EndIsThere ops said
end_there ops (what.Began op admin reader version) rests = tt
end_there ops (what.Ended op version) rests = rests

pub ends_there : (ops : List Operation) (facts : List QFact) → Each (FactRests ops) facts → Each (λ (fact : QFact). EndIsThere ops fact.what) facts
ends_there ops facts each = each_as (FactRests ops) (λ (fact : QFact). EndIsThere ops fact.what) (λ fact. end_there ops fact.what) facts each

apart_begins : (ops : List Operation) (op : ℕ) → length ops ≤ op → (said : QWhat) → WhatRests ops said → begins op said ≡ false
apart_begins ops op past (what.Began other admin reader version) rests = ne_eqb other op (λ e. omega (arith, e, past, got_within ops other rests.o rests.is_op))
apart_begins ops op past (what.Ended other version) rests = refl

-- an operation that is not there has not begun
pub unbegun : (ops : List Operation) (op : ℕ) (facts : List QFact) → length ops ≤ op → Each (FactRests ops) facts → IsUnbegun op facts
unbegun ops op facts past each = each_as (FactRests ops) (λ (fact : QFact). begins op fact.what ≡ false) (λ fact. apart_begins ops op past fact.what) facts each

apart_ends : (ops : List Operation) (op : ℕ) → length ops ≤ op → (said : QWhat) → WhatRests ops said → ends op said ≡ false
apart_ends ops op past (what.Began other admin reader version) rests = refl
apart_ends ops op past (what.Ended other version) rests = ne_eqb other op (λ e. omega (arith, e, past, rests))

-- nor ended
pub unended : (ops : List Operation) (op : ℕ) (facts : List QFact) → length ops ≤ op → Each (FactRests ops) facts → has_ended op facts ≡ false
unended ops op [] past each = refl
unended ops op (fact ∷ facts) past each =
    ap (λ (b : Bool). b || has_ended op facts) (apart_ends ops op past fact.what each.0) ∙ unended ops op facts past each.1

what_stays : (w : State) (move : Move) → Grows w move → (said : QWhat) → WhatRests w.ops said → WhatRests move.ops said
what_stays w move grows (what.Began op admin reader version) rests =
    let goes = grows.ops op rests.o rests.is_op in
    record { o = goes.next; is_op = goes.is_next; admin_is = goes.admin ∙ rests.admin_is; reader_is = goes.reader ∙ rests.reader_is }
what_stays w move grows (what.Ended op version) rests =
    let there = some_within w.ops op rests in
    let goes = grows.ops op there.0 there.1 in
    got_within move.ops op goes.next goes.is_next

pub admins_stay : (w : State) (move : Move) → Grows w move → AdminsStay w.ops move.ops
admins_stay w move grows admin op within =
    let there = some_within w.ops op within in
    let goes = grows.ops op there.0 there.1 in
    ap (is_of_found admin) goes.is_next ∙ ap (λ (a : AdminId). a.0 == admin) goes.admin ∙ sym (ap (is_of_found admin) there.1)

pub floor_stays : (w : State) (taken : QStep) (move : Move) → Grows w move → Each (FactRests w.ops) w.facts → (op admin : ℕ) (begun : Beginning) → beginning_of op w.facts ≡ Some begun
    → floor (state_after w taken move) op admin ≡ floor w op admin
floor_stays w taken move grows facts op admin begun e =
    ap (most_ended move.ops admin) (start_with op w.facts (length w.steps) move.happened begun e)
    ∙ most_same w.ops move.ops admin (admins_stay w move grows) (before_start op w.facts)
    (each_start (λ (fact : QFact). EndIsThere w.ops fact.what) op w.facts (ends_there w.ops w.facts facts))

-- ---- operations

least_more : (least told : ℕ) (said : QBody) → least ≤ told → IsAtLeast told said → IsAtLeast least said
least_more least told (body.Fetch admin) less says = tt
least_more least told (body.Has version) less says = omega (arith, less, says)
least_more least told (body.Store admin version) less says = tt
least_more least told body.Stored less says = tt

good_stays : (w : State) (taken : QStep) (move : Move) → Grows w move → (op : ℕ) (o : Operation) → slice_get w.ops op ≡ Some o → (least r : ℕ)
    → IsGood w op o.admin.0 least r → IsGood (state_after w taken move) op o.admin.0 least r
good_stays w taken move grows op o is_op least r good = record {
  tells = omega (arith, good.tells, grows.told r o.admin.0);
  said =
      each_append (SaysAtLeast op r least) w.mails move.sent good.said
      (each_as (SaysAtLeast op r (told_at w.replicas r o.admin.0)) (SaysAtLeast op r least)
      (λ mail says same here. least_more least (told_at w.replicas r o.admin.0) mail.body good.tells (says same here)) move.sent (grows.fair op o is_op r));
}

pub answered_stays : (mails sent : List QMail) (op r most : ℕ) → HasAnswered mails op r most → HasAnswered (mails ++ sent) op r most
answered_stays mails sent op r most h = record {
  number = h.number;
  version = h.version;
  sent = got_before mails sent h.number (record { op = op; replica = r; body = body.Has h.version }) h.sent;
  few = h.few;
}

phase_rests_still : (w : State) (taken : QStep) (move : Move) → Grows w move → Each (FactRests w.ops) w.facts → (op : ℕ) (o : Operation) → slice_get w.ops op ≡ Some o
    → beginning_of op w.facts ≡ Some (beginning_as o) → ends_in op move.happened ≡ false → (now : Phase) → PhaseRests w op o.admin.0 o.reader now → PhaseRests (state_after w taken move) op o.admin.0 o.reader now
phase_rests_still w taken move grows facts op o is_op begun other (phase.Fetching greatest answered) rests =
    let same = floor_stays w taken move grows facts op o.admin.0 (beginning_as o) begun in
    record {
      reading = rests.reading;
      few = omega (arith, rests.few, grows.last o.admin.0);
      count = rests.count ∙ sym grows.count;
      heard = λ r e. answered_stays w.mails move.sent op r greatest.0 (rests.heard r e);
      waits = rests.waits;
      running = ended_with op w.facts (length w.steps) move.happened other ∙ rests.running;
      good =
          subst (λ (n : ℕ). Most n (IsGood (state_after w taken move) op o.admin.0 (floor (state_after w taken move) op o.admin.0))) (sym grows.count)
          (subst (λ (least : ℕ). Most (length w.replicas) (IsGood (state_after w taken move) op o.admin.0 least)) (sym same)
          (most_as (length w.replicas) (IsGood w op o.admin.0 (floor w op o.admin.0)) (IsGood (state_after w taken move) op o.admin.0 (floor w op o.admin.0))
          (good_stays w taken move grows op o is_op (floor w op o.admin.0)) rests.good));
    }
phase_rests_still w taken move grows facts op o is_op begun other (phase.Storing version answered) rests =
    let same = floor_stays w taken move grows facts op o.admin.0 (beginning_as o) begun in
    record {
      few = omega (arith, rests.few, grows.last o.admin.0);
      least = λ reading. omega (arith, same, rests.least reading);
      count = rests.count ∙ sym grows.count;
      heard = λ r e. omega (arith, rests.heard r e, grows.told r o.admin.0);
      waits = rests.waits;
      running = ended_with op w.facts (length w.steps) move.happened other ∙ rests.running;
    }
phase_rests_still w taken move grows facts op o is_op begun other (phase.Ended version) rests = record {
  few = omega (arith, rests.few, grows.last o.admin.0);
  has_end = end_with op w.facts (length w.steps) move.happened version rests.has_end;
}

-- an operation that neither changes nor ends now rests on the state after the step too
pub op_stays : (w : State) (taken : QStep) (move : Move) → Grows w move → Each (FactRests w.ops) w.facts → (op : ℕ) (o : Operation) → slice_get w.ops op ≡ Some o
    → ends_in op move.happened ≡ false → OpRests w op o → OpRests (state_after w taken move) op o
op_stays w taken move grows facts op o is_op other rests = record {
  admin = omega (arith, rests.admin, grows.admins);
  begun = begun_with op w.facts (length w.steps) move.happened (beginning_as o) rests.begun;
  now = phase_rests_still w taken move grows facts op o is_op rests.begun other o.phase rests.now;
}

-- ---- the whole

-- what a step owes beside that
pub record MoveRests (w : State) (taken : QStep) (move : Move) : Type 0 where
  pub replicas : EachAt (λ (n : ℕ) (replica : ReplicaView). ReplicaRests move.last replica) move.replicas
  pub published : (admin : AdminId) → last_at move.last admin.0 ≡ last_at w.last admin.0 + counted_in (is_publication admin) move.happened
  pub begun : length move.ops ≡ length w.ops + counted_in is_beginning move.happened
  pub ops : EachAt (OpRests (state_after w taken move)) move.ops
  pub sent : Each (MailRests (state_after w taken move)) move.sent
  pub fact : OfHappened (WhatRests move.ops) move.happened
  pub most : (admin : ℕ) → Most (length w.replicas) (λ (r : ℕ). ended_in move.ops admin move.happened ≤ told_at move.replicas r admin)
  pub follows : OfHappened (Follows w.facts) move.happened

most_next : (w : State) (taken : QStep) (move : Move) → Grows w move → Each (FactRests w.ops) w.facts → (admin : ℕ) → Most (length w.replicas) (λ (r : ℕ). most_ended w.ops admin w.facts ≤ told_at w.replicas r admin)
    → Most (length w.replicas) (λ (r : ℕ). ended_in move.ops admin move.happened ≤ told_at move.replicas r admin)
    → Most (length w.replicas) (λ (r : ℕ). most_ended move.ops admin (with_fact w.facts (length w.steps) move.happened) ≤ told_at move.replicas r admin)
most_next w taken move grows facts admin old new =
    let same = most_same w.ops move.ops admin (admins_stay w move grows) w.facts (ends_there w.ops w.facts facts) in
    let whole = most_with move.ops admin w.facts (length w.steps) move.happened in
    elim (cases_lt (most_ended w.ops admin w.facts) (ended_in move.ops admin move.happened)) [
      | inl greater ↦
          most_as (length w.replicas) (λ (r : ℕ). ended_in move.ops admin move.happened ≤ told_at move.replicas r admin)
          (λ (r : ℕ). most_ended move.ops admin (with_fact w.facts (length w.steps) move.happened) ≤ told_at move.replicas r admin)
          (λ r tells. omega (arith, greater, same, whole, tells)) new
      | inr less ↦
          most_as (length w.replicas) (λ (r : ℕ). most_ended w.ops admin w.facts ≤ told_at w.replicas r admin)
          (λ (r : ℕ). most_ended move.ops admin (with_fact w.facts (length w.steps) move.happened) ≤ told_at move.replicas r admin)
          (λ r tells. omega (arith, less, same, whole, tells, grows.told r admin)) old
    ]

past_next : (w : State) (taken : QStep) → (fact : QFact) → fact.place < length w.steps → fact.place < length (w.steps ++ taken ∷ [])
past_next w taken fact before = omega (arith, before, pushed_length w.steps taken)

past_with : (w : State) (taken : QStep) (happened : Option QWhat) → OfHappened (λ (said : QWhat). length w.steps < length (w.steps ++ taken ∷ [])) happened
past_with w taken None = tt
past_with w taken (Some said) = omega (arith, pushed_length w.steps taken)

one_master_with : (facts : List QFact) (place : ℕ) (happened : Option QWhat) → OneMaster facts → Each (λ (earlier : QFact). earlier.place < place) facts → OfHappened (Follows facts) happened → OneMaster (with_fact facts place happened)
one_master_with facts place None master past may = master
one_master_with facts place (Some said) master past may = one_master_pushed facts (record { place = place; what = said }) master past may

pub move_rests : (admins : ℕ) (w : State) (taken : QStep) (move : Move) → Rests admins w → Grows w move → MoveRests w taken move → Rests admins (state_after w taken move)
move_rests admins w taken move h grows new = record {
  some = omega (arith, h.some, grows.count);
  admin_count = grows.admins ∙ h.admin_count;
  replicas = new.replicas;
  published = λ admin. omega (arith, h.published admin, new.published admin, count_with (is_publication admin) w.facts (length w.steps) move.happened);
  op_count = omega (arith, h.op_count, new.begun, count_with is_beginning w.facts (length w.steps) move.happened);
  ops = new.ops;
  mails =
      each_append (MailRests (state_after w taken move)) w.mails move.sent
      (each_as (MailRests w) (MailRests (state_after w taken move)) (mail_stays w taken move grows) w.mails h.mails) new.sent;
  facts =
      each_with (FactRests move.ops) w.facts (length w.steps) move.happened
      (each_as (FactRests w.ops) (FactRests move.ops) (λ fact. what_stays w move grows fact.what) w.facts h.facts) new.fact;
  most = λ admin.
      subst (λ (n : ℕ). Most n (λ (r : ℕ). most_ended move.ops admin (with_fact w.facts (length w.steps) move.happened) ≤ told_at move.replicas r admin)) (sym grows.count)
      (most_next w taken move grows h.facts admin (h.most admin) (new.most admin));
  past =
      each_with (λ (fact : QFact). fact.place < length (w.steps ++ taken ∷ [])) w.facts (length w.steps) move.happened
      (each_as (λ (fact : QFact). fact.place < length w.steps) (λ (fact : QFact). fact.place < length (w.steps ++ taken ∷ [])) (past_next w taken) w.facts h.past)
      (past_with w taken move.happened);
  one_master = one_master_with w.facts (length w.steps) move.happened h.one_master h.past new.follows;
}
