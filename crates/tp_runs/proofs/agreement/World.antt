-- Agreement over every list of steps: what logs, mails and facts say of the end of a transaction agrees.
use Rattle.std.specs.List.{filter_map, list_any}
use Rattle.std.proofs.Common.{IfSome, List, None, Option, Some, [], ap, arith, length, refl, slice_get, subst, suc, sym, true, zero, ℕ, ◌++◌, ◌+◌, ◌<◌, ◌∙◌, ◌∷◌, ◌≡◌}
use Rattle.std.proofs.lemmas.List.{length-append, length_push}
use Rattle.std.proofs.lemmas.List.Elements.{filter_map-append}
use Rattle.tp_model.specs.Words.{Actor, Body, Decision, Fact, Letter, Mail, Outcome, PrepareRequest, Prepared, Record, Scenario, ServerId, Settled, Step, TxnId, Vote, What}
use Rattle.tp_model.specs.Words.actor
use Rattle.tp_model.specs.Words.body
use Rattle.tp_model.specs.Words.outcome
use Rattle.tp_model.specs.Words.vote
use Rattle.tp_model.specs.Words.what
use Rattle.tp_model.specs.Agreement.{has_item_at}
use Rattle.tp_model.specs.Facts.{before, is_decided_as, is_submission}
use Rattle.tp_recover.specs.Log.{decided_in, prepared_in, settled_in}
use Rattle.tp_machine.specs.Logs.{decided_at, prepared_at, settled_at}
use Rattle.tp_machine.specs.Machine.{Move, State, facts_of, mails_of, state_after}
use Rattle.tp_types.specs.Each.{Each, EachAt}
use Rattle.tp_coord.specs.Opened.{servers_at}
use Rattle.tp_machine.specs.declared.actors.Actors.{Actors}
use Rattle.tp_coord.specs.State.{Coordinator}
use Rattle.tp_machine.specs.Parts.{Part}
use Rattle.tp_server.specs.State.{Server}
use Rattle.tp_runs.proofs.agreement.Coordinator.{CoordinatorAgrees, DecisionRests, PhaseRests}
use Rattle.tp_runs.proofs.agreement.Known.{KnowsTold}
use Rattle.tp_runs.proofs.agreement.Logs.{DecidedAs, HasVoted, IsAsked, IsPrepared, IsServed, IsSettled, LogsStay, decided_stays, settled_outcome, settled_stays, submitted_count, undecided_before}
use Rattle.tp_runs.proofs.agreement.Server.{ServerAgrees}
use Rattle.tp_runs.proofs.basics.Facts.{ArePast, Grows, before_past, decided_what, decisions, each_new_mail, grows_with_facts, new_facts_past, past_as, said, said_with_facts, settled_what, settlements, submissions, submitted_what}
use Rattle.tp_runs.proofs.basics.Logs.{listed}
use Rattle.tp_types.proofs.EachLemmas.{each_append}

-- ---- the invariant

-- a decision rests on what servers have prepared or settled
abbrev pub DecidedServed : Scenario → List (Part Server) → TxnId → List Record → Type 0
DecidedServed sc servers txn kept = IfSome (decided_in kept) (DecisionRests (IsServed servers txn) (servers_at sc txn))

-- what the state of a coordinator of this transaction agrees with
pub record CoordinatorUpAgrees (sc : Scenario) (servers : List (Part Server)) (txn : TxnId) (kept : List Record) (c : Coordinator) : Type 0 where
  pub agrees : CoordinatorAgrees sc c kept
  pub replied : PhaseRests (IsPrepared servers txn) (IsSettled servers txn) c.phase (servers_at sc c.txn)

-- a coordinator that is up agrees with its log, and with the servers' as far as these have replied; and what it has decided as a commit
-- is prepared or settled at each server
pub record CoordinatorPartAgrees (sc : Scenario) (servers : List (Part Server)) (txn : TxnId) (part : Part Coordinator) : Type 0 where
  pub state : IfSome part.up (CoordinatorUpAgrees sc servers txn part.log)
  pub served : DecidedServed sc servers txn part.log

-- what is settled on a server's log is of a transaction with an item there; without a reason of the server's own it is what was decided;
-- a commit has no such reason, and an abort is of what was not decided as a commit
pub record SettledRests (sc : Scenario) (coordinators : List (Part Coordinator)) (at : ServerId) (txn : TxnId) (settled : Settled) : Type 0 where
  pub item : has_item_at sc at txn ≡ true
  pub ordered : settled.why ≡ None → DecidedAs coordinators txn settled.outcome
  pub commit : settled.outcome ≡ outcome.Commit → (settled.why ≡ None) × DecidedAs coordinators txn outcome.Commit
  pub abort : settled.outcome ≡ outcome.Abort → DecidedAs coordinators txn outcome.Commit → ⊥

-- a server that is up agrees with its log, and knows no less than it tells; and whether it is up or down, its log agrees with the
-- coordinators', and what is prepared on it is of a transaction that was submitted and has an item there
pub record ServerPartAgrees (sc : Scenario) (coordinators : List (Part Coordinator)) (at : ServerId) (part : Part Server) : Type 0 where
  pub state : IfSome part.up (λ (s : Server). ServerAgrees s part.log)
  pub knows : IfSome part.up (KnowsTold sc at part.log)
  pub settled : (txn : TxnId) (settled : Settled) → settled_in txn part.log ≡ Some settled → SettledRests sc coordinators at txn settled
  pub prepared : (txn : TxnId) (p : Prepared) → prepared_in txn part.log ≡ Some p → IsAsked sc coordinators at txn

-- the actor is a server with an item of a transaction that was submitted: to such a one requests go
abbrev pub RequestMade : Scenario → List (Part Coordinator) → Actor → TxnId → Type 0
RequestMade sc coordinators (actor.Server at) txn = IsAsked sc coordinators at txn
RequestMade sc coordinators _ txn = ⊥

-- a server that voted YES has voted on its log, and while nothing is decided it is prepared
pub record YesKept (actors : Actors) (at : ServerId) (txn : TxnId) : Type 0 where
  pub voted : HasVoted actors.servers txn at
  pub prepared : decided_at actors.coordinators txn.0 ≡ None → IsPrepared actors.servers txn at

-- a vote is on its server's log
abbrev pub VoteRests : Actors → ServerId → TxnId → Vote → Type 0
VoteRests actors at txn (vote.Yes verdicts) = YesKept actors at txn
VoteRests actors at txn (vote.No why) = settled_at actors.servers at.0 txn ≡ Some (record { txn = txn; outcome = outcome.Abort; why = Some why })

-- a server's vote is on its log
abbrev pub VoteFrom : Actors → Actor → TxnId → Vote → Type 0
VoteFrom actors (actor.Server at) txn said_is = VoteRests actors at txn said_is
VoteFrom actors _ txn said_is = Unit {0}

-- a server that acknowledges has settled
abbrev pub AckFrom : Actors → Actor → TxnId → Type 0
AckFrom actors (actor.Server at) txn = IsSettled actors.servers txn at
AckFrom actors _ txn = Unit {0}

-- what is requested was submitted, an order to end was decided, a reply rests on a log, and who asks for a decision was asked before
abbrev pub BodyRests : Scenario → Actors → Actor → Actor → Body → Type 0
BodyRests sc actors from to (body.Query q) = RequestMade sc actors.coordinators to q.txn
BodyRests sc actors from to (body.Validate v) = RequestMade sc actors.coordinators to v.txn
BodyRests sc actors from to (body.Prepare p) = RequestMade sc actors.coordinators to p.txn
BodyRests sc actors from to (body.Decide order) = DecidedAs actors.coordinators order.txn order.outcome × RequestMade sc actors.coordinators to order.txn
BodyRests sc actors from to (body.Vote reply) = VoteFrom actors from reply.txn reply.vote
BodyRests sc actors from to (body.Ack ack) = AckFrom actors from ack.txn
BodyRests sc actors from to (body.Inquire inquiry) = RequestMade sc actors.coordinators from inquiry.txn
BodyRests sc actors from to _ = Unit {0}

abbrev pub LetterRests : Scenario → Actors → Letter → Type 0
LetterRests sc actors letter = BodyRests sc actors letter.from letter.to letter.body

abbrev pub MailRests : Scenario → Actors → Mail → Type 0
MailRests sc actors mail = LetterRests sc actors mail.letter

-- a commit follows its decision
abbrev pub Follows : List Fact → TxnId → Outcome → Type 0
Follows earlier txn outcome.Commit = list_any (is_decided_as txn outcome.Commit) earlier ≡ true
Follows earlier txn outcome.Abort = Unit {0}

-- a settlement comes after the submission, at a server with an item of the transaction, and after its decision
pub record SettlementFollows (sc : Scenario) (earlier : List Fact) (at : ServerId) (txn : TxnId) (ended : Outcome) : Type 0 where
  pub submitted : list_any (is_submission txn) earlier ≡ true
  pub item : has_item_at sc at txn ≡ true
  pub follows : Follows earlier txn ended

-- what a fact takes from the facts before it
abbrev pub WhatFollows : Scenario → List Fact → What → Type 0
WhatFollows sc earlier (what.Decided txn decided) = list_any (is_submission txn) earlier ≡ true
WhatFollows sc earlier (what.Settled at txn ended) = SettlementFollows sc earlier at txn ended
WhatFollows sc earlier _ = Unit {0}

abbrev pub FactFollows : Scenario → List Fact → Fact → Type 0
FactFollows sc facts fact = WhatFollows sc (before fact.place facts) fact.what

-- each mail has the number of its place, the first this one
abbrev pub AreNumbered : ℕ → List Mail → Type 0
AreNumbered number [] = Unit {0}
AreNumbered number (mail ∷ mails) = (mail.number ≡ number) × AreNumbered (number + 1) mails

abbrev pub CoordinatorsAgree : Scenario → List (Part Server) → List (Part Coordinator) → Type 0
CoordinatorsAgree sc servers coordinators = EachAt (λ (n : ℕ) (part : Part Coordinator). CoordinatorPartAgrees sc servers (record { 0 = n }) part) coordinators

abbrev pub ServersAgree : Scenario → List (Part Coordinator) → List (Part Server) → Type 0
ServersAgree sc coordinators servers = EachAt (λ (n : ℕ) (part : Part Server). ServerPartAgrees sc coordinators (record { 0 = n }) part) servers

-- all that agreement rests on: actors agree with their logs, logs and mails with one another, and facts tell exactly of the logs
pub record Agrees (sc : Scenario) (w : State) : Type 0 where
  pub past : ArePast (length w.steps) w.facts
  pub coordinator_count : length w.actors.coordinators ≡ length sc.txns
  pub server_count : length w.actors.servers ≡ length sc.servers
  pub coordinators : CoordinatorsAgree sc w.actors.servers w.actors.coordinators
  pub servers : ServersAgree sc w.actors.coordinators w.actors.servers
  pub mails : Each (MailRests sc w.actors) w.mails
  pub numbered : AreNumbered 0 w.mails
  pub facts : Each (FactFollows sc w.facts) w.facts
  pub submitted : (txn : TxnId) → length (submissions txn (said w.facts)) ≡ submitted_count (slice_get w.actors.coordinators txn.0)
  pub decided : (txn : TxnId) → decisions txn (said w.facts) ≡ listed (decided_at w.actors.coordinators txn.0)
  pub settled : (at : ServerId) (txn : TxnId) → settlements at txn (said w.facts) ≡ listed (settled_outcome w.actors.servers at txn)

-- ---- what epochs give

-- a request to prepare names the epoch of what is prepared at the server that it goes to
abbrev pub PreparesNamed : State → Type 0
PreparesNamed w = (n : ℕ) (mail : Mail) (at : ServerId) (p : PrepareRequest) (v : Prepared) → slice_get w.mails n ≡ Some mail → mail.letter.to ≡ actor.Server at → mail.letter.body ≡ body.Prepare p
    → prepared_at w.actors.servers at.0 p.txn ≡ Some v → v.epoch ≡ p.epoch

-- ---- a move

-- a step leaves actors that agree, letters that rest on logs, and facts that tell of what the logs gained; and it undoes nothing
pub record MoveAgrees (sc : Scenario) (w : State) (move : Move) : Type 0 where
  pub coordinator_count : length move.actors.coordinators ≡ length w.actors.coordinators
  pub server_count : length move.actors.servers ≡ length w.actors.servers
  pub coordinators : CoordinatorsAgree sc move.actors.servers move.actors.coordinators
  pub servers : ServersAgree sc move.actors.coordinators move.actors.servers
  pub letters : Each (LetterRests sc move.actors) move.letters
  pub stays : LogsStay w.actors move.actors
  pub happened : Each (WhatFollows sc w.facts) move.happened
  pub submitted : (txn : TxnId) → submitted_count (slice_get w.actors.coordinators txn.0) + length (submissions txn move.happened)
      ≡ submitted_count (slice_get move.actors.coordinators txn.0)
  pub decided : (txn : TxnId) → listed (decided_at w.actors.coordinators txn.0) ++ decisions txn move.happened ≡ listed (decided_at move.actors.coordinators txn.0)
  pub settled : (at : ServerId) (txn : TxnId) → listed (settled_outcome w.actors.servers at txn) ++ settlements at txn move.happened
      ≡ listed (settled_outcome move.actors.servers at txn)

-- ---- growth

request_stays : (sc : Scenario) (old new : Actors) (to : Actor) (txn : TxnId) → LogsStay old new → RequestMade sc old.coordinators to txn → RequestMade sc new.coordinators to txn
request_stays sc old new (actor.Server at) txn stays h = record { item = h.item; submitted = stays.submitted txn h.submitted }
request_stays sc old new (actor.Coordinator other) txn stays h = h
request_stays sc old new actor.Master txn stays h = h
request_stays sc old new actor.Authority txn stays h = h

vote_stays_in_agreement : (old new : Actors) (at : ServerId) (txn : TxnId) (said_is : Vote) → LogsStay old new → VoteRests old at txn said_is → VoteRests new at txn said_is
vote_stays_in_agreement old new at txn (vote.Yes verdicts) stays h =
    record { voted = stays.voted txn at h.voted; prepared = λ undecided. stays.prepared txn at undecided (h.prepared (undecided_before old new txn.0 stays undecided)) }
vote_stays_in_agreement old new at txn (vote.No why) stays h = stays.settled txn at (record { txn = txn; outcome = outcome.Abort; why = Some why }) h

vote_from_stays : (old new : Actors) (from : Actor) (txn : TxnId) (said_is : Vote) → LogsStay old new → VoteFrom old from txn said_is → VoteFrom new from txn said_is
vote_from_stays old new (actor.Server at) txn said_is stays h = vote_stays_in_agreement old new at txn said_is stays h
vote_from_stays old new _ txn said_is stays h = tt

ack_from_stays : (old new : Actors) (from : Actor) (txn : TxnId) → LogsStay old new → AckFrom old from txn → AckFrom new from txn
ack_from_stays old new (actor.Server at) txn stays h = settled_stays old new txn at stays h
ack_from_stays old new _ txn stays h = tt

pub body_stays : (sc : Scenario) (old new : Actors) (from to : Actor) (said_is : Body) → LogsStay old new → BodyRests sc old from to said_is → BodyRests sc new from to said_is
body_stays sc old new from to (body.Query q) stays h = request_stays sc old new to q.txn stays h
body_stays sc old new from to (body.Validate v) stays h = request_stays sc old new to v.txn stays h
body_stays sc old new from to (body.Prepare p) stays h = request_stays sc old new to p.txn stays h
body_stays sc old new from to (body.Decide order) stays h = (decided_stays old new order.txn order.outcome stays h.0, request_stays sc old new to order.txn stays h.1)
body_stays sc old new from to (body.Vote reply) stays h = vote_from_stays old new from reply.txn reply.vote stays h
body_stays sc old new from to (body.Ack ack) stays h = ack_from_stays old new from ack.txn stays h
body_stays sc old new from to (body.Inquire inquiry) stays h = request_stays sc old new from inquiry.txn stays h
body_stays sc old new from to _ stays h = tt

mails_stay : (sc : Scenario) (old new : Actors) (mails : List Mail) → LogsStay old new → Each (MailRests sc old) mails → Each (MailRests sc new) mails
mails_stay sc old new [] stays h = tt
mails_stay sc old new (mail ∷ mails) stays h = (body_stays sc old new mail.letter.from mail.letter.to mail.letter.body stays h.0, mails_stay sc old new mails stays h.1)

facts_stay_in_agreement : (sc : Scenario) (old new : List Fact) (place : ℕ) (facts : List Fact) → Grows old new place → ArePast place facts → Each (FactFollows sc old) facts → Each (FactFollows sc new) facts
facts_stay_in_agreement sc old new place [] g past h = tt
facts_stay_in_agreement sc old new place (fact ∷ facts) g past h = (
  subst (λ (earlier : List Fact). WhatFollows sc earlier fact.what) (sym (g.same fact.place (omega (arith, past.0)))) h.0,
  facts_stay_in_agreement sc old new place facts g past.1 h.1,
)

new_facts_follow : (sc : Scenario) (earlier facts : List Fact) (place : ℕ) (happened : List What) → before place facts ≡ earlier → Each (WhatFollows sc earlier) happened
    → Each (FactFollows sc facts) (facts_of place happened)
new_facts_follow sc earlier facts place [] e h = tt
new_facts_follow sc earlier facts place (w ∷ happened) e h =
    (subst (λ (xs : List Fact). WhatFollows sc xs w) (sym e) h.0, new_facts_follow sc earlier facts place happened e h.1)

-- what is found of facts with those of a step
pub found_with_facts : {B : Type 0} (h : What → Option B) (facts : List Fact) (place : ℕ) (happened : List What)
    → filter_map h (said (facts ++ facts_of place happened)) ≡ filter_map h (said facts) ++ filter_map h happened
found_with_facts h facts place happened = ap (filter_map h) (said_with_facts facts place happened) ∙ filter_map-append h (said facts) happened

-- ---- a step

new_mails_numbered : (place number : ℕ) (letters : List Letter) → AreNumbered number (mails_of place number letters)
new_mails_numbered place number [] = tt
new_mails_numbered place number (letter ∷ letters) = (refl, new_mails_numbered place (number + 1) letters)

more_numbered : (number place : ℕ) (mails : List Mail) (letters : List Letter) → AreNumbered number mails → AreNumbered number (mails ++ mails_of place (number + length mails) letters)
more_numbered number place [] letters h =
    subst (λ (next : ℕ). AreNumbered number (mails_of place next letters)) (omega arith) (new_mails_numbered place number letters)
more_numbered number place (mail ∷ mails) letters h =
    (h.0, subst (λ (next : ℕ). AreNumbered (number + 1) (mails ++ mails_of place next letters)) (omega arith) (more_numbered (number + 1) place mails letters h.1))

-- the mail that is looked up by a number has it
pub number_is_place : (number : ℕ) (mails : List Mail) (n : ℕ) (mail : Mail) → AreNumbered number mails → slice_get mails n ≡ Some mail → mail.number ≡ number + n
number_is_place number [] n mail h e = absurd (cc)
number_is_place number (first ∷ mails) zero mail h e = let same : first ≡ mail = grind arith in omega (arith, h.0, ap (λ (m : Mail). m.number) same)
number_is_place number (first ∷ mails) (suc n) mail h e = let later = number_is_place (number + 1) mails n mail h.1 e in omega (arith, later)

-- a step whose move agrees leaves a world that agrees
pub state_after_agrees : (sc : Scenario) (w : State) (taken : Step) (move : Move) → Agrees sc w → MoveAgrees sc w move → Agrees sc (state_after w taken move)
state_after_agrees sc w taken move h t =
    let place = length w.steps in
    let next : length (w.steps ++ taken ∷ []) ≡ place + 1 = length_push w.steps taken in
    let now = w.facts ++ facts_of place move.happened in
    let g : Grows w.facts now place = grows_with_facts w.facts place move.happened in
    let all : before place now ≡ w.facts = g.same place (omega arith) ∙ before_past place w.facts h.past in
    record {
      past = subst (λ (p : ℕ). ArePast p now) (sym next)
          (each_append (λ (fact : Fact). fact.place < place + 1) w.facts (facts_of place move.happened) (past_as place (place + 1) (omega arith) w.facts h.past) (new_facts_past place move.happened));
      coordinator_count = t.coordinator_count ∙ h.coordinator_count;
      server_count = t.server_count ∙ h.server_count;
      coordinators = t.coordinators;
      servers = t.servers;
      mails = each_append (MailRests sc move.actors) w.mails (mails_of place (length w.mails) move.letters)
          (mails_stay sc w.actors move.actors w.mails t.stays h.mails)
          (each_new_mail (λ sent. LetterRests sc move.actors) place (length w.mails) move.letters t.letters);
      numbered = subst (λ (next : ℕ). AreNumbered 0 (w.mails ++ mails_of place next move.letters)) (omega arith) (more_numbered 0 place w.mails move.letters h.numbered);
      facts = each_append (FactFollows sc now) w.facts (facts_of place move.happened)
          (facts_stay_in_agreement sc w.facts now place w.facts g h.past h.facts)
          (new_facts_follow sc w.facts now place move.happened all t.happened);
      submitted = λ txn. ap length (found_with_facts (submitted_what txn) w.facts place move.happened)
          ∙ (length-append (submissions txn (said w.facts)) (submissions txn move.happened)
          ∙ (ap (λ (n : ℕ). n + length (submissions txn move.happened)) (h.submitted txn) ∙ t.submitted txn));
      decided = λ txn. found_with_facts (decided_what txn) w.facts place move.happened
          ∙ (ap (λ (ds : List Decision). ds ++ decisions txn move.happened) (h.decided txn) ∙ t.decided txn);
      settled = λ at txn. found_with_facts (settled_what at txn) w.facts place move.happened
          ∙ (ap (λ (os : List Outcome). os ++ settlements at txn move.happened) (h.settled at txn) ∙ t.settled at txn);
    }
