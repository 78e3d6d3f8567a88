-- Deaths for an older transaction: what is known of an answer Died, and of a decision by it, by the facts so far.
use Rattle.std.specs.List.{find, list_any}
use Rattle.std.specs.Option.{option_flatten, option_map_or}
use Rattle.std.proofs.Common.{Bool, List, None, Option, Some, [], ap, false, nat_lt, not, option_map, refl, slice_get, sym, true, ℕ, ◌&&◌, ◌++◌, ◌<◌, ◌∙◌, ◌∷◌, ◌≡◌, ◌≤◌, arith}
use Rattle.std.proofs.lemmas.Bool.{and_from, and_parts, lt-ltb, ltb-true}
use Rattle.tp_model.specs.Words.{Action, Actor, Answer, Body, Died, DoneReply, Fact, Letter, Query, Scenario, ServerId, Transaction, TxnId, What}
use Rattle.tp_model.specs.Words.actor
use Rattle.tp_model.specs.Words.answer
use Rattle.tp_model.specs.Words.body
use Rattle.tp_model.specs.Words.cause
use Rattle.tp_model.specs.Words.decision
use Rattle.tp_model.specs.Words.what
use Rattle.tp_lock.specs.declared.entry.LockEntry.{LockEntry}
use Rattle.tp_model.specs.Authorisation.{action_of}
use Rattle.tp_model.specs.Causes.{before_submission, has_contested_query, is_older_conflict, place_of, was_settled_before, was_submitted_before}
use Rattle.tp_model.specs.Facts.{before, is_settlement, is_submission, was_submitted}
use Rattle.tp_model.specs.Trust.{is_within}
use Rattle.tp_model.specs.Queries.{item_of}
use Rattle.tp_runs.proofs.basics.Facts.{ArePast, Grows, before_past}
use Rattle.tp_types.proofs.EachLemmas.{all_four, each_found}
use Rattle.tp_runs.proofs.deaths.Told.{find_first}
use Rattle.tp_runs.specs.Sound.{query_in}
use Rattle.tp_server.specs.declared.server.Entry.{Entry}

-- ---- locks

-- the transaction asks for the item in this mode
pub record IsAskedFor (sc : Scenario) (txn : TxnId) (item : ℕ) (mode : Action) : Type 0 where
  pub number : ℕ
  pub query : Query
  pub asked_is : query_in sc txn number ≡ Some query
  pub item_is : (item_of query).0 ≡ item
  pub mode_is : action_of query ≡ mode

-- a lock: its owner has an entry of that age, and a query of that item and mode
pub record LockFits (sc : Scenario) (entries : List (Option Entry)) (item : ℕ) (lock : LockEntry) : Type 0 where
  pub entry : Entry
  pub found : option_flatten (slice_get entries lock.owner.0) ≡ Some entry
  pub age_is : entry.age ≡ lock.age
  pub asked : IsAskedFor sc lock.owner item lock.mode

-- ---- answers

-- a transaction is to die at a server for another: its query is contested, and the other is older and was not settled there before
pub record Death (sc : Scenario) (facts : List Fact) (at : ServerId) (txn other : TxnId) (number : ℕ) : Type 0 where
  pub contested : (declared : Transaction) → slice_get sc.txns txn.0 ≡ Some declared → (place : ℕ) → has_contested_query sc declared (record { query = number; server = at; other = other; place = place }) ≡ true
  pub older : was_submitted_before other txn facts ≡ true
  pub unsettled : was_settled_before at other txn facts ≡ false

abbrev pub AnswerDies : Scenario → List Fact → ServerId → DoneReply → Answer → Type 0
AnswerDies sc facts at done (answer.Died other) = Death sc facts at done.txn other done.query
AnswerDies sc facts at done _ = Unit {0}

-- an answer that a server keeps
abbrev pub DoneDies : Scenario → List Fact → ServerId → DoneReply → Type 0
DoneDies sc facts at done = AnswerDies sc facts at done done.answer

abbrev pub AnswerSent : Scenario → List Fact → ServerId → ℕ → DoneReply → Answer → Type 0
AnswerSent sc facts at sent done (answer.Died other) = Death sc facts at done.txn other done.query × (was_submitted done.txn sent facts ≡ true)
AnswerSent sc facts at sent done _ = Unit {0}

abbrev pub DoneSent : Scenario → List Fact → ℕ → Actor → DoneReply → Type 0
DoneSent sc facts sent (actor.Server at) done = AnswerSent sc facts at sent done done.answer
DoneSent sc facts sent _ done = Unit {0}

-- a mail that was sent at a place: the answer of a server was sent after the submission
abbrev pub BodyDies : Scenario → List Fact → ℕ → Actor → Body → Type 0
BodyDies sc facts sent from (body.Done done) = DoneSent sc facts sent from done
BodyDies sc facts sent from _ = Unit {0}

abbrev pub LetterDies : Scenario → List Fact → ℕ → Letter → Type 0
LetterDies sc facts sent letter = BodyDies sc facts sent letter.from letter.body

-- ---- facts

-- what happened at a place: an abort by a death is shown
abbrev pub WhatDies : Scenario → List Fact → ℕ → What → Type 0
WhatDies sc facts place (what.Decided txn (decision.Abort (cause.Died died))) = (declared : Transaction) → slice_get sc.txns txn.0 ≡ Some declared → is_older_conflict sc txn place facts died declared ≡ true
WhatDies sc facts place _ = Unit {0}

abbrev pub FactDies : Scenario → List Fact → Fact → Type 0
FactDies sc facts fact = WhatDies sc facts fact.place fact.what

-- ---- it stays as facts are added

-- facts grow from a place on
pub record Adds (old new : List Fact) (place : ℕ) : Type 0 where
  pub more : List Fact
  pub new_is : new ≡ old ++ more
  pub past : ArePast place old
  pub grows : Grows old new place

found_past : (test : Fact → Bool) (place : ℕ) (facts : List Fact) (fact : Fact) → ArePast place facts → find test facts ≡ Some fact → fact.place < place
found_past test place facts fact past e = each_found (λ (f : Fact). f.place < place) test facts fact past e

-- the facts before the submission of a transaction that was submitted
before_stays : (txn : TxnId) (old new : List Fact) (place : ℕ) (first : Option Fact) → find (is_submission txn) old ≡ first → Adds old new place → (first ≡ None → ⊥) → before_submission txn new ≡ before_submission txn old
before_stays txn old new place None e a some = absurd (some refl)
before_stays txn old new place (Some fact) e a some =
    let past : fact.place < place = found_past (is_submission txn) place old fact a.past e in
    let now : find (is_submission txn) new ≡ Some fact = ap (find (is_submission txn)) a.new_is ∙ find_first (is_submission txn) old a.more fact e in
    let was_at : before_submission txn old ≡ before fact.place old = ap (λ (found : Option Fact). option_map_or (λ (p : ℕ). before p old) (option_map place_of found) []) e in
    let is_at : before_submission txn new ≡ before fact.place new = ap (λ (found : Option Fact). option_map_or (λ (p : ℕ). before p new) (option_map place_of found) []) now in
    is_at ∙ (a.grows.same fact.place (omega (arith, past)) ∙ sym was_at)

-- where something stands before it the transaction was submitted
not_none : (txn : TxnId) (facts : List Fact) (test : Fact → Bool) (first : Option Fact) → find (is_submission txn) facts ≡ first → list_any test (before_submission txn facts) ≡ true → first ≡ None → ⊥
not_none txn facts test None e any none =
    let nothing : before_submission txn facts ≡ [] = ap (λ (found : Option Fact). option_map_or (λ (p : ℕ). before p facts) (option_map place_of found) []) e in
    let empty : list_any test (before_submission txn facts) ≡ false = ap (list_any test) nothing in
    cc
not_none txn facts test (Some fact) e any none = cc

pub death_stays : (sc : Scenario) (old new : List Fact) (place : ℕ) (at : ServerId) (txn other : TxnId) (number : ℕ) → Adds old new place → Death sc old at txn other number → Death sc new at txn other number
death_stays sc old new place at txn other number a h =
    let same : before_submission txn new ≡ before_submission txn old = before_stays txn old new place (find (is_submission txn) old) refl a (not_none txn old (is_submission other) (find (is_submission txn) old) refl h.older) in
    record { contested = h.contested; older = ap (list_any (is_submission other)) same ∙ h.older; unsettled = ap (list_any (is_settlement at other)) same ∙ h.unsettled }

answer_stays_in_deaths : (sc : Scenario) (old new : List Fact) (place : ℕ) (at : ServerId) (done : DoneReply) (given : Answer) → Adds old new place → AnswerDies sc old at done given → AnswerDies sc new at done given
answer_stays_in_deaths sc old new place at done (answer.Died other) a h = death_stays sc old new place at done.txn other done.query a h
answer_stays_in_deaths sc old new place at done _ a h = tt

pub done_stays : (sc : Scenario) (old new : List Fact) (place : ℕ) (at : ServerId) (done : DoneReply) → Adds old new place → DoneDies sc old at done → DoneDies sc new at done
done_stays sc old new place at done a h = answer_stays_in_deaths sc old new place at done done.answer a h

submitted_stays_in_deaths : (txn : TxnId) (old new : List Fact) (place sent : ℕ) → Grows old new place → sent ≤ place → was_submitted txn sent old ≡ true → was_submitted txn sent new ≡ true
submitted_stays_in_deaths txn old new place sent g le h = ap (list_any (is_submission txn)) (g.same sent le) ∙ h

sent_stays : (sc : Scenario) (old new : List Fact) (place sent : ℕ) (at : ServerId) (done : DoneReply) (given : Answer) → Adds old new place → sent ≤ place → AnswerSent sc old at sent done given → AnswerSent sc new at sent done given
sent_stays sc old new place sent at done (answer.Died other) a le h = (death_stays sc old new place at done.txn other done.query a h.0, submitted_stays_in_deaths done.txn old new place sent a.grows le h.1)
sent_stays sc old new place sent at done _ a le h = tt

from_stays : (sc : Scenario) (old new : List Fact) (place sent : ℕ) (from : Actor) (done : DoneReply) → Adds old new place → sent ≤ place → DoneSent sc old sent from done → DoneSent sc new sent from done
from_stays sc old new place sent (actor.Server at) done a le h = sent_stays sc old new place sent at done done.answer a le h
from_stays sc old new place sent _ done a le h = tt

pub body_dies_still : (sc : Scenario) (old new : List Fact) (place sent : ℕ) (from : Actor) (said : Body) → Adds old new place → sent ≤ place → BodyDies sc old sent from said → BodyDies sc new sent from said
body_dies_still sc old new place sent from (body.Done done) a le h = from_stays sc old new place sent from done a le h
body_dies_still sc old new place sent from _ a le h = tt

-- an abort is shown by what its answer told
pub death_shown : (sc : Scenario) (facts : List Fact) (place : ℕ) (at : ServerId) (txn other : TxnId) (number sent : ℕ) (declared : Transaction) → Death sc facts at txn other number → was_submitted txn sent facts ≡ true → sent < place
    → slice_get sc.txns txn.0 ≡ Some declared → is_older_conflict sc txn place facts (record { query = number; server = at; other = other; place = sent }) declared ≡ true
death_shown sc facts place at txn other number sent declared h submitted less there =
    all_four _ _ _ _ (h.contested declared there sent) (and_from _ _ submitted (lt-ltb sent place less)) h.older h.unsettled

four_parts : (a b c d : Bool) → (a && b && c && not d) ≡ true → (a ≡ true) × (b ≡ true) × (c ≡ true) × (d ≡ false)
four_parts true true true false e = (refl, refl, refl, refl)
four_parts true true true true e = absurd (cc)
four_parts true true false d e = absurd (cc)
four_parts true false c d e = absurd (cc)
four_parts false b c d e = absurd (cc)

-- a fact stays shown as later facts come
older_stays : (sc : Scenario) (old new : List Fact) (low place : ℕ) (txn : TxnId) (died : Died) (declared : Transaction) → Adds old new low → place ≤ low → is_older_conflict sc txn place old died declared ≡ true
    → is_older_conflict sc txn place new died declared ≡ true
older_stays sc old new low place txn died declared a le h =
    let contested = has_contested_query sc declared died in
    let parts = four_parts contested (is_within txn place old died.place) (was_submitted_before died.other txn old) (was_settled_before died.server died.other txn old) h in
    let within = and_parts (was_submitted txn died.place old) (nat_lt died.place place) parts.1 in
    let less : died.place < place = ltb-true died.place place within.1 in
    let same : before_submission txn new ≡ before_submission txn old =
    before_stays txn old new low (find (is_submission txn) old) refl a (not_none txn old (is_submission died.other) (find (is_submission txn) old) refl parts.2) in
    all_four contested (is_within txn place new died.place) (was_submitted_before died.other txn new) (was_settled_before died.server died.other txn new) parts.0
    (and_from (was_submitted txn died.place new) (nat_lt died.place place) (submitted_stays_in_deaths txn old new low died.place a.grows (omega (arith, less, le)) within.0) within.1)
    (ap (list_any (is_submission died.other)) same ∙ parts.2) (ap (list_any (is_settlement died.server died.other)) same ∙ parts.3)

pub what_dies_still : (sc : Scenario) (old new : List Fact) (low place : ℕ) (w : What) → Adds old new low → place ≤ low → WhatDies sc old place w → WhatDies sc new place w
what_dies_still sc old new low place (what.Decided txn (decision.Abort (cause.Died died))) a le h = λ declared there. older_stays sc old new low place txn died declared a le (h declared there)
what_dies_still sc old new low place _ a le h = tt

-- ---- what is sent now

any_first : {A : Type 0} (test : A → Bool) (y : A) (xs : List A) (x : A) (b : Bool) → test y ≡ b → (find test xs ≡ Some x → list_any test xs ≡ true) → find test (y ∷ xs) ≡ Some x → list_any test (y ∷ xs) ≡ true
any_first test y xs x true here later e = grind arith
any_first test y xs x false other later e =
    let found : find test xs ≡ Some x = grind arith in
    let more = later found in
    grind arith

any_found : {A : Type 0} (test : A → Bool) (xs : List A) (x : A) → find test xs ≡ Some x → list_any test xs ≡ true
any_found test [] x e = absurd (cc)
any_found test (y ∷ xs) x e = any_first test y xs x (test y) refl (λ later. any_found test xs x later) e

begun_by_in_deaths : (txn : TxnId) (place : ℕ) (facts : List Fact) (first : Option Fact) → find (is_submission txn) facts ≡ first → ArePast place facts → (first ≡ None → ⊥) → was_submitted txn place facts ≡ true
begun_by_in_deaths txn place facts None e past some = absurd (some refl)
begun_by_in_deaths txn place facts (Some fact) e past some = ap (list_any (is_submission txn)) (before_past place facts past) ∙ any_found (is_submission txn) facts fact e

-- an answer that is sent now is sent after the submission
sent_now : (sc : Scenario) (facts : List Fact) (place : ℕ) (at : ServerId) (done : DoneReply) (given : Answer) → ArePast place facts → AnswerDies sc facts at done given → AnswerSent sc facts at place done given
sent_now sc facts place at done (answer.Died other) past h =
    (h, begun_by_in_deaths done.txn place facts (find (is_submission done.txn) facts) refl past (not_none done.txn facts (is_submission other) (find (is_submission done.txn) facts) refl h.older))
sent_now sc facts place at done _ past h = tt

pub done_sent : (sc : Scenario) (facts : List Fact) (place : ℕ) (at : ServerId) (done : DoneReply) → ArePast place facts → DoneDies sc facts at done → AnswerSent sc facts at place done done.answer
done_sent sc facts place at done past h = sent_now sc facts place at done done.answer past h
