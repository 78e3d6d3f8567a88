-- Agreement, actor by actor: what an act of a coordinator leaves agrees.
use Rattle.std.specs.List.{cons_option, list_any}
use Rattle.std.specs.Option.{option_map_or, option_or}
use Rattle.std.proofs.Common.{Bool, IfSome, List, None, Option, Some, [], ap, arith, drop, false, flat_map, if◌then◌else◌, inl, is_some, length, option_and_then, option_map, refl, slice_get, slice_set, subst, sym, true, ℕ, ◌++◌, ◌+◌, ◌==◌, ◌∙◌, ◌∷◌, ◌≡◌, ◌≤◌}
use Rattle.std.proofs.lemmas.Bool.{eqb-true}
use Rattle.std.proofs.lemmas.List.{append-nil, length-set}
use Rattle.std.proofs.lemmas.Option.{same_Some}
use Rattle.std.proofs.lemmas.List.Elements.{filter_map-append}
use Rattle.tp_types.proofs.ListLemmas.{number_itself}
use Rattle.tp_types.specs.Effect.{Effect}
use Rattle.tp_model.specs.Words.{Actor, Body, Decision, Fact, Letter, Outcome, Record, Scenario, ServerId, Settled, TxnId, What}
use Rattle.tp_model.specs.Words.actor
use Rattle.tp_model.specs.Words.body
use Rattle.tp_model.specs.Words.decision
use Rattle.tp_model.specs.Words.log
use Rattle.tp_model.specs.Words.outcome
use Rattle.tp_model.specs.Words.what
use Rattle.tp_model.specs.Agreement.{has_item_at}
use Rattle.tp_model.specs.Facts.{is_submission, outcome_of}
use Rattle.tp_model.specs.Ids.{same_txn}
use Rattle.tp_recover.specs.Log.{decided_in, decision_in, settled_in}
use Rattle.tp_machine.specs.Logs.{decided_at, decided_by, prepared_by}
use Rattle.tp_machine.specs.Machine.{State, acts, coordinator_fact, coordinator_move}
use Rattle.tp_actor_log.specs.Records.{log_with}
use Rattle.tp_types.specs.Each.{Each}
use Rattle.tp_coord.specs.Opened.{servers_at}
use Rattle.tp_coord.specs.Row.{is_begun}
use Rattle.tp_machine.specs.declared.actors.Actors.{Actors}
use Rattle.tp_coord.specs.State.{Coordinator}
use Rattle.tp_machine.specs.Parts.{Part}
use Rattle.tp_server.specs.State.{Server}
use Rattle.tp_runs.proofs.agreement.ServerActs.{begun_count, none_more, server_exists, submitted_told}
use Rattle.tp_runs.proofs.agreement.Coordinator.{BodyAgrees, CoordinatorAgrees, CoordinatorLawful, DecisionRests, IsFirst, LetterAgrees, PhaseRests, RequestAgrees, SubmissionLawful, decided_begun}
use Rattle.tp_runs.proofs.agreement.Logs.{DecidedAs, IsPrepared, IsServed, IsSettled, LogPrepared, LogsStay, WasSubmitted, decided_stays, once, prepared_open, settled_outcome, submitted_count, submitted_up}
use Rattle.tp_runs.proofs.agreement.World.{Agrees, BodyRests, CoordinatorPartAgrees, CoordinatorUpAgrees, LetterRests, MoveAgrees, RequestMade, SettledRests, WhatFollows}
use Rattle.tp_runs.proofs.basics.Servers.{among_servers}
use Rattle.tp_runs.proofs.basics.Facts.{decided_what, decisions, settled_what, settlements, submissions, submitted_what}
use Rattle.tp_runs.proofs.basics.Ids.{same_txn_is}
use Rattle.tp_runs.proofs.basics.Logs.{IsFresh, appended, decided_with, first_stays, gained, get_set, later_some, listed, listed_first, look_set}
use Rattle.tp_types.proofs.EachLemmas.{at_set, each_as}

-- ---- what a record tells

abbrev pub coordinator_facts : Option Record → List What
coordinator_facts append = option_map_or coordinator_fact append []

facts_submissions : (append : Option Record) (txn : TxnId) → submissions txn (coordinator_facts append) ≡ []
facts_submissions None txn = refl
facts_submissions (Some (log.Decided d)) txn = refl
facts_submissions (Some _) txn = refl

facts_settlements : (append : Option Record) (at : ServerId) (txn : TxnId) → settlements at txn (coordinator_facts append) ≡ []
facts_settlements None at txn = refl
facts_settlements (Some (log.Decided d)) at txn = refl
facts_settlements (Some _) at txn = refl

one_listed : {A : Type 0} (b : Bool) (x : A) → b ≡ true → cons_option (if b then Some x else None) [] ≡ x ∷ []
one_listed true x e = refl
one_listed false x e = absurd (cc)

none_listed : {A : Type 0} (b : Bool) (x : A) → b ≡ false → cons_option (if b then Some x else None) [] ≡ []
none_listed true x e = absurd (cc)
none_listed false x e = refl

decisions_here : (sc : Scenario) (P : ServerId → Type 0) (txn other : TxnId) (kept : List Record) (append : Option Record) → same_txn txn other ≡ true → IfSome append (IsFirst sc P txn kept) → decisions other (coordinator_facts append) ≡ listed (appended decision_in append)
decisions_here sc P txn other kept None e h = refl
decisions_here sc P txn other kept (Some (log.Decided d)) e h = one_listed (same_txn d.txn other) d.decision (ap (λ (t : TxnId). same_txn t other) h.own ∙ e)
decisions_here sc P txn other kept (Some _) e h = refl

decisions_elsewhere : (sc : Scenario) (P : ServerId → Type 0) (txn other : TxnId) (kept : List Record) (append : Option Record) → same_txn txn other ≡ false → IfSome append (IsFirst sc P txn kept) → decisions other (coordinator_facts append) ≡ []
decisions_elsewhere sc P txn other kept None e h = refl
decisions_elsewhere sc P txn other kept (Some (log.Decided d)) e h = none_listed (same_txn d.txn other) d.decision (ap (λ (t : TxnId). same_txn t other) h.own ∙ e)
decisions_elsewhere sc P txn other kept (Some _) e h = refl

fresh_decided : (sc : Scenario) (P : ServerId → Type 0) (txn : TxnId) (kept : List Record) (append : Option Record) → IfSome append (IsFirst sc P txn kept) → IsFresh (appended decision_in append) (decided_in kept)
fresh_decided sc P txn kept None h = tt
fresh_decided sc P txn kept (Some (log.Decided d)) h = h.undecided
fresh_decided sc P txn kept (Some _) h = tt

-- a decision comes after the submission
pub facts_follow_in_coordinator_acts : (sc : Scenario) (P : ServerId → Type 0) (facts : List Fact) (txn : TxnId) (kept : List Record) (append : Option Record) → IfSome append (IsFirst sc P txn kept) → (is_some (appended decision_in append) ≡ true → list_any (is_submission txn) facts ≡ true)
    → Each (WhatFollows sc facts) (coordinator_facts append)
facts_follow_in_coordinator_acts sc P facts txn kept None h submitted = tt
facts_follow_in_coordinator_acts sc P facts txn kept (Some (log.Decided d)) h submitted = (subst (λ (t : TxnId). list_any (is_submission t) facts ≡ true) (sym h.own) (submitted refl), tt)
facts_follow_in_coordinator_acts sc P facts txn kept (Some _) h submitted = tt

-- ---- a coordinator acts

-- an act of a transaction's coordinator, which was up or down before it (`was`) and is after it (`now`): its state, what it forced if anything,
-- what the step says by itself, and letters
pub record CoordinatorActs (sc : Scenario) (w : State) (txn : TxnId) (kept : List Record) (was now : Option Coordinator) (own : List What) (append : Option Record) (letters : List Letter) : Type 0 where
  pub state : IfSome now (CoordinatorUpAgrees sc w.actors.servers txn (log_with kept append))
  pub fresh : IfSome append (IsFirst sc (IsPrepared w.actors.servers txn) txn kept)
  pub letters_agree : Each (LetterAgrees sc txn (submitted_up now == 1) (decided_in (log_with kept append))) letters
  pub follows : Each (WhatFollows sc w.facts) (own ++ coordinator_facts append)
  pub counts : (other : TxnId) → same_txn txn other ≡ true → submitted_up was + length (submissions other own) ≡ submitted_up now
  pub apart : (other : TxnId) → same_txn txn other ≡ false → submissions other own ≡ []
  pub undecided : (other : TxnId) → decisions other own ≡ []
  pub unsettled : (at : ServerId) (other : TxnId) → settlements at other own ≡ []

at_itself : (coordinators : List (Part Coordinator)) (txn other : TxnId) (part next : Part Coordinator) → slice_get coordinators txn.0 ≡ Some part → same_txn txn other ≡ true
    → decided_at (slice_set coordinators txn.0 next) other.0 ≡ decided_in next.log
at_itself coordinators txn other part next found e =
    look_set decided_by coordinators txn.0 other.0 part next found ∙ ap (λ (b : Bool). if b then decided_by next else decided_at coordinators other.0) e

elsewhere_in_agreement : (coordinators : List (Part Coordinator)) (txn other : TxnId) (part next : Part Coordinator) → slice_get coordinators txn.0 ≡ Some part → same_txn txn other ≡ false
    → decided_at (slice_set coordinators txn.0 next) other.0 ≡ decided_at coordinators other.0
elsewhere_in_agreement coordinators txn other part next found e =
    look_set decided_by coordinators txn.0 other.0 part next found ∙ ap (λ (b : Bool). if b then decided_by next else decided_at coordinators other.0) e

was_at : (coordinators : List (Part Coordinator)) (txn other : TxnId) (part : Part Coordinator) → slice_get coordinators txn.0 ≡ Some part → same_txn txn other ≡ true
    → slice_get coordinators other.0 ≡ Some part
was_at coordinators txn other part found e = subst (λ (n : ℕ). slice_get coordinators n ≡ Some part) (eqb-true txn.0 other.0 e) found

-- ---- what it does not undo

-- what was decided stays, as the log only grows
stays_by : (coordinators : List (Part Coordinator)) (txn other : TxnId) (part next : Part Coordinator) (append : Option Record) (d : Decision) (b : Bool) → same_txn txn other ≡ b
    → slice_get coordinators txn.0 ≡ Some part → next.log ≡ log_with part.log append → decided_at coordinators other.0 ≡ Some d → decided_at (slice_set coordinators txn.0 next) other.0 ≡ Some d
stays_by coordinators txn other part next append d true same found grown e =
    at_itself coordinators txn other part next found same
    ∙ (ap decided_in grown ∙ (decided_with part.log append
    ∙ first_stays (decided_in part.log) (appended decision_in append) d (sym (ap (option_and_then decided_by) (was_at coordinators txn other part found same)) ∙ e)))
stays_by coordinators txn other part next append d false apart found grown e = elsewhere_in_agreement coordinators txn other part next found apart ∙ e

most_once : (was now : ℕ) (n : ℕ) → was + n ≡ now → now ≤ 1 → was ≡ 1 → now ≡ 1
most_once was now n e most one = omega (arith, e, most, one)

once_most : (b : Bool) → once b ≤ 1
once_most true = omega arith
once_most false = omega arith

pub up_most : (up : Option Coordinator) → submitted_up up ≤ 1
up_most None = omega arith
up_most (Some c) = once_most (is_begun c.phase)

coordinator_logs_stay : (w : State) (txn : TxnId) (part next : Part Coordinator) (append : Option Record) (own : List What) → slice_get w.actors.coordinators txn.0 ≡ Some part
    → next.log ≡ log_with part.log append → ((other : TxnId) → same_txn txn other ≡ true → submitted_up part.up + length (submissions other own) ≡ submitted_up next.up)
    → LogsStay w.actors (record w.actors { coordinators = slice_set w.actors.coordinators txn.0 next })
coordinator_logs_stay w txn part next append own found grown counts =
    let old = w.actors.coordinators in
    record {
      decided = λ n d e. stays_by old txn (record { 0 = n }) part next append d (txn.0 == n) refl found grown e;
      submitted = λ other e. counted other (same_txn txn other) refl e;
      settled = λ t at s e. e;
      voted = λ t at e. e;
      prepared = λ t at none e. e;
      served = λ t at commit e. e;
    }
  where
    counted : (other : TxnId) (b : Bool) → same_txn txn other ≡ b → submitted_count (slice_get w.actors.coordinators other.0) ≡ 1
        → submitted_count (slice_get (slice_set w.actors.coordinators txn.0 next) other.0) ≡ 1
    counted other true same e =
        let was : submitted_up part.up ≡ 1 = sym (ap submitted_count (was_at w.actors.coordinators txn other part found same)) ∙ e in
        let is : submitted_up next.up ≡ 1 = most_once (submitted_up part.up) (submitted_up next.up) (length (submissions other own)) (counts other same) (up_most next.up) was in
        ap submitted_count (get_set w.actors.coordinators txn.0 other.0 part next found ∙ ap (λ (x : Bool). if x then Some next else slice_get w.actors.coordinators other.0) same) ∙ is
    counted other false apart e =
        ap submitted_count (get_set w.actors.coordinators txn.0 other.0 part next found ∙ ap (λ (x : Bool). if x then Some next else slice_get w.actors.coordinators other.0) apart) ∙ e

-- ---- facts

decided_move : (sc : Scenario) (P : ServerId → Type 0) (coordinators : List (Part Coordinator)) (txn other : TxnId) (part next : Part Coordinator) (append : Option Record) (own : List What) (b : Bool)
    → same_txn txn other ≡ b → slice_get coordinators txn.0 ≡ Some part → next.log ≡ log_with part.log append → IfSome append (IsFirst sc P txn part.log) → decisions other own ≡ []
    → listed (decided_at coordinators other.0) ++ decisions other (own ++ coordinator_facts append) ≡ listed (decided_at (slice_set coordinators txn.0 next) other.0)
decided_move sc P coordinators txn other part next append own b same found grown h o =
    ap (λ (xs : List Decision). listed (decided_at coordinators other.0) ++ xs) (filter_map-append (decided_what other) own (coordinator_facts append) ∙ ap (λ (xs : List Decision). xs ++ decisions other (coordinator_facts append)) o)
    ∙ told b same
  where
    told : (c : Bool) → same_txn txn other ≡ c → listed (decided_at coordinators other.0) ++ decisions other (coordinator_facts append) ≡ listed (decided_at (slice_set coordinators txn.0 next) other.0)
    told true e =
        ap (λ (x : Option Decision). listed x ++ decisions other (coordinator_facts append)) (ap (option_and_then decided_by) (was_at coordinators txn other part found e))
        ∙ (ap (λ (xs : List Decision). listed (decided_in part.log) ++ xs) (decisions_here sc P txn other part.log append e h)
        ∙ (listed_first (decided_in part.log) (appended decision_in append) (fresh_decided sc P txn part.log append h)
        ∙ ap listed (sym (at_itself coordinators txn other part next found e ∙ (ap decided_in grown ∙ decided_with part.log append)))))
    told false e =
        ap (λ (xs : List Decision). listed (decided_at coordinators other.0) ++ xs) (decisions_elsewhere sc P txn other part.log append e h)
        ∙ (append-nil _ ∙ ap listed (sym (elsewhere_in_agreement coordinators txn other part next found e)))

submitted_move : (coordinators : List (Part Coordinator)) (txn other : TxnId) (part next : Part Coordinator) (append : Option Record) (own : List What) (b : Bool)
    → same_txn txn other ≡ b → slice_get coordinators txn.0 ≡ Some part
    → (same_txn txn other ≡ true → submitted_up part.up + length (submissions other own) ≡ submitted_up next.up) → (same_txn txn other ≡ false → submissions other own ≡ [])
    → submitted_count (slice_get coordinators other.0) + length (submissions other (own ++ coordinator_facts append)) ≡ submitted_count (slice_get (slice_set coordinators txn.0 next) other.0)
submitted_move coordinators txn other part next append own b same found here apart =
    ap (λ (xs : List TxnId). submitted_count (slice_get coordinators other.0) + length xs)
    (filter_map-append (submitted_what other) own (coordinator_facts append) ∙ (ap (λ (xs : List TxnId). submissions other own ++ xs) (facts_submissions append other) ∙ append-nil (submissions other own)))
    ∙ counted b same
  where
    counted : (d : Bool) → same_txn txn other ≡ d → submitted_count (slice_get coordinators other.0) + length (submissions other own) ≡ submitted_count (slice_get (slice_set coordinators txn.0 next) other.0)
    counted true e =
        ap (λ (x : Option (Part Coordinator)). submitted_count x + length (submissions other own)) (was_at coordinators txn other part found e)
        ∙ (here e
        ∙ sym (ap submitted_count (get_set coordinators txn.0 other.0 part next found ∙ ap (λ (x : Bool). if x then Some next else slice_get coordinators other.0) e)))
    counted false e =
        ap (λ (xs : List TxnId). submitted_count (slice_get coordinators other.0) + length xs) (apart e)
        ∙ (none_more _ ∙ sym (ap submitted_count (get_set coordinators txn.0 other.0 part next found ∙ ap (λ (x : Bool). if x then Some next else slice_get coordinators other.0) e)))

-- ---- letters

request_rests_in_coordinator_acts : (sc : Scenario) (coordinators : List (Part Coordinator)) (txn asked : TxnId) (begun : Bool) (to : Actor) → (begun ≡ true → WasSubmitted coordinators txn) → RequestAgrees sc txn begun to asked
    → RequestMade sc coordinators to asked
request_rests_in_coordinator_acts sc coordinators txn asked begun (actor.Server at) submitted h = record { item = h.item; submitted = subst (WasSubmitted coordinators) (sym h.same_txn) (submitted h.submitted) }
request_rests_in_coordinator_acts sc coordinators txn asked begun (actor.Coordinator other) submitted h = h.item
request_rests_in_coordinator_acts sc coordinators txn asked begun actor.Master submitted h = h.item
request_rests_in_coordinator_acts sc coordinators txn asked begun actor.Authority submitted h = h.item

letter_rests : (sc : Scenario) (actors : Actors) (txn : TxnId) (begun : Bool) (decided : Option Decision) (from to : Actor) (said_is : Body) → decided_at actors.coordinators txn.0 ≡ decided
    → (begun ≡ true → WasSubmitted actors.coordinators txn) → BodyAgrees sc txn begun decided to said_is → BodyRests sc actors from to said_is
letter_rests sc actors txn begun decided from to (body.Query q) e submitted h = request_rests_in_coordinator_acts sc actors.coordinators txn q.txn begun to submitted h
letter_rests sc actors txn begun decided from to (body.Validate v) e submitted h = request_rests_in_coordinator_acts sc actors.coordinators txn v.txn begun to submitted h
letter_rests sc actors txn begun decided from to (body.Prepare p) e submitted h = request_rests_in_coordinator_acts sc actors.coordinators txn p.txn begun to submitted h
letter_rests sc actors txn begun decided from to (body.Decide order) e submitted h =
    (subst (λ (t : TxnId). DecidedAs actors.coordinators t order.outcome) (sym h.asked.same_txn) (ap (option_map outcome_of) e ∙ h.decided_is), request_rests_in_coordinator_acts sc actors.coordinators txn order.txn begun to submitted h.asked)
letter_rests sc actors txn begun decided from to (body.Vote reply) e submitted h = absurd h
letter_rests sc actors txn begun decided from to (body.Ack ack) e submitted h = absurd h
letter_rests sc actors txn begun decided from to (body.Inquire inquiry) e submitted h = absurd h
letter_rests sc actors txn begun decided from to _ e submitted h = tt

letters_rest_in_coordinator_acts : (sc : Scenario) (actors : Actors) (txn : TxnId) (begun : Bool) (decided : Option Decision) (letters : List Letter) → decided_at actors.coordinators txn.0 ≡ decided
    → (begun ≡ true → WasSubmitted actors.coordinators txn) → Each (LetterAgrees sc txn begun decided) letters → Each (LetterRests sc actors) letters
letters_rest_in_coordinator_acts sc actors txn begun decided [] e submitted h = tt
letters_rest_in_coordinator_acts sc actors txn begun decided (letter ∷ letters) e submitted h =
    (letter_rests sc actors txn begun decided letter.from letter.to letter.body e submitted h.0, letters_rest_in_coordinator_acts sc actors txn begun decided letters e submitted h.1)

-- ---- what is settled rests on what was decided still

-- a server that has settled an abort is not among those that have all prepared
not_all_prepared : (sc : Scenario) (w : State) (txn : TxnId) (kept : List Record) (append : Option Record) (n : ℕ) (part : Part Server) (s : Settled) (d : Decision) → Agrees sc w → slice_get w.actors.servers n ≡ Some part
    → settled_in txn part.log ≡ Some s → has_item_at sc (record { 0 = n }) txn ≡ true → IfSome append (IsFirst sc (IsPrepared w.actors.servers txn) txn kept) → appended decision_in append ≡ Some d
    → outcome_of d ≡ outcome.Commit → ⊥
not_all_prepared sc w txn kept None n part s d h e settled item f decides ended = cc
not_all_prepared sc w txn kept (Some (log.Decided k)) n part s d h e settled item f decides ended =
    let same : k.decision ≡ d = same_Some k.decision d decides in
    let all : Each (IsPrepared w.actors.servers txn) (servers_at sc txn) = of_commit k.decision (ap outcome_of same ∙ ended) f.prepared in
    let here : IsPrepared w.actors.servers txn (record { 0 = n }) =
    among_servers (IsPrepared w.actors.servers txn) sc (record { 0 = n }) txn (server_exists sc w (record { 0 = n }) part h e) item all in
    let prepared : LogPrepared txn part.log = subst (λ (x : Option (Part Server)). is_some (option_and_then (prepared_by txn) x) ≡ true) e here in
    let none = prepared_open txn part.log prepared in
    cc
  where
    of_commit : (decided : Decision) → outcome_of decided ≡ outcome.Commit → DecisionRests (IsPrepared w.actors.servers txn) (servers_at sc txn) decided → Each (IsPrepared w.actors.servers txn) (servers_at sc txn)
    of_commit (decision.Commit committed) g r = r
    of_commit (decision.Abort why) g r = absurd (cc)
not_all_prepared sc w txn kept (Some log.Boot) n part s d h e settled item f decides ended = cc
not_all_prepared sc w txn kept (Some (log.Told t)) n part s d h e settled item f decides ended = cc
not_all_prepared sc w txn kept (Some (log.Prepared p)) n part s d h e settled item f decides ended = cc
not_all_prepared sc w txn kept (Some (log.Settled t)) n part s d h e settled item f decides ended = cc

some_outcome : (found : Option Decision) (ended : Outcome) → option_map outcome_of found ≡ Some ended → (d : Decision) × (found ≡ Some d) × (outcome_of d ≡ ended)
some_outcome None ended e = absurd (cc)
some_outcome (Some d) ended e = (d, refl, same_Some (outcome_of d) ended e)

-- what a server has settled as an abort is not decided as a commit by the act
abort_stays : (sc : Scenario) (w : State) (txn other : TxnId) (part next : Part Coordinator) (append : Option Record) (n : ℕ) (p : Part Server) (s : Settled) → Agrees sc w
    → slice_get w.actors.coordinators txn.0 ≡ Some part → next.log ≡ log_with part.log append → IfSome append (IsFirst sc (IsPrepared w.actors.servers txn) txn part.log)
    → slice_get w.actors.servers n ≡ Some p → settled_in other p.log ≡ Some s → SettledRests sc w.actors.coordinators (record { 0 = n }) other s → s.outcome ≡ outcome.Abort
    → DecidedAs (slice_set w.actors.coordinators txn.0 next) other outcome.Commit → ⊥
abort_stays sc w txn other part next append n p s h found grown f e settled r abort d = by_txn (same_txn txn other) refl
  where
    decided : (old : Option Decision) → same_txn txn other ≡ true → decided_in part.log ≡ old → option_map outcome_of (option_or old (appended decision_in append)) ≡ Some outcome.Commit → ⊥
    decided (Some d) same was now =
        let before : DecidedAs w.actors.coordinators other outcome.Commit =
        ap (option_map outcome_of) (ap (option_and_then decided_by) (was_at w.actors.coordinators txn other part found same) ∙ was) ∙ now in
        r.abort abort before
    decided None same was now =
        let new = some_outcome (appended decision_in append) outcome.Commit now in
        let own : other ≡ txn = sym (same_txn_is txn other same) in
        not_all_prepared sc w txn part.log append n p s new.0 h e (subst (λ (t : TxnId). settled_in t p.log ≡ Some s) own settled)
        (subst (λ (t : TxnId). has_item_at sc (record { 0 = n }) t ≡ true) own r.item) f new.1 new.2

    by_txn : (b : Bool) → same_txn txn other ≡ b → ⊥
    by_txn true same =
        decided (decided_in part.log) same refl
        (ap (option_map outcome_of) (sym (at_itself w.actors.coordinators txn other part next found same ∙ (ap decided_in grown ∙ decided_with part.log append))) ∙ d)
    by_txn false apart = r.abort abort (ap (option_map outcome_of) (sym (elsewhere_in_agreement w.actors.coordinators txn other part next found apart)) ∙ d)

-- ---- the move

prepared_serves : (servers : List (Part Server)) (txn : TxnId) (at : ServerId) → IsPrepared servers txn at → IsServed servers txn at
prepared_serves servers txn at p = inl p

-- what the coordinator has decided is served
decided_served : (sc : Scenario) (servers : List (Part Server)) (txn : TxnId) (kept : List Record) (append : Option Record) (old : Option Decision) → decided_in kept ≡ old
    → IfSome old (DecisionRests (IsServed servers txn) (servers_at sc txn)) → IfSome append (IsFirst sc (IsPrepared servers txn) txn kept)
    → IfSome (option_or old (appended decision_in append)) (DecisionRests (IsServed servers txn) (servers_at sc txn))
decided_served sc servers txn kept append (Some d) e h f = h
decided_served sc servers txn kept None None e h f = tt
decided_served sc servers txn kept (Some (log.Decided d)) None e h f = served d.decision f.prepared
  where
    served : (decided : Decision) → DecisionRests (IsPrepared servers txn) (servers_at sc txn) decided → DecisionRests (IsServed servers txn) (servers_at sc txn) decided
    served (decision.Commit committed) r = each_as (IsPrepared servers txn) (IsServed servers txn) (λ at p. prepared_serves servers txn at p) (servers_at sc txn) r
    served (decision.Abort why) r = tt
decided_served sc servers txn kept (Some _) None e h f = tt

begun_one : (up : Option Coordinator) → (submitted_up up == 1) ≡ true → submitted_up up ≡ 1
begun_one up e = eqb-true (submitted_up up) 1 e

-- the move of a coordinator that acts lawfully, whether it is up before and after it or down
pub coordinator_acts_agrees : (sc : Scenario) (w : State) (txn : TxnId) (part : Part Coordinator) (now : Option Coordinator) (own : List What) (append : Option Record) (letters : List Letter) → Agrees sc w
    → slice_get w.actors.coordinators txn.0 ≡ Some part → CoordinatorActs sc w txn part.log part.up now own append letters
    → MoveAgrees sc w (coordinator_move w.actors txn (acts coordinator_fact own part.log now (log_with part.log append) letters))
coordinator_acts_agrees sc w txn part now own append letters h found l =
    let next : Part Coordinator = record { up = now; log = log_with part.log append } in
    let old = w.actors.coordinators in
    let new = slice_set old txn.0 next in
    let actors = record w.actors { coordinators = new } in
    let P = IsPrepared w.actors.servers txn in
    let stays : LogsStay w.actors actors = coordinator_logs_stay w txn part next append own found refl l.counts in
    let tells : own ++ flat_map coordinator_fact (drop (length part.log) (log_with part.log append)) ≡ own ++ coordinator_facts append = ap (λ (xs : List What). own ++ xs) (gained coordinator_fact part.log append) in
    let here : slice_get new txn.0 ≡ Some next = get_set old txn.0 txn.0 part next found ∙ ap (λ (b : Bool). if b then Some next else slice_get old txn.0) (number_itself txn.0) in
    record {
      coordinator_count = length-set old txn.0 next;
      server_count = refl;
      coordinators = at_set (λ (n : ℕ) (p : Part Coordinator). CoordinatorPartAgrees sc w.actors.servers (record { 0 = n }) p) old txn.0 next h.coordinators
          (record {
            state = l.state;
            served = subst (λ (d : Option Decision). IfSome d (DecisionRests (IsServed w.actors.servers txn) (servers_at sc txn))) (sym (decided_with part.log append))
                (decided_served sc w.actors.servers txn part.log append (decided_in part.log) refl (h.coordinators txn.0 part found).served l.fresh);
          });
      servers = λ n p e.
          let was = h.servers n p e in
          record {
            state = was.state;
            knows = was.knows;
            prepared = λ t p f. let asked = was.prepared t p f in record { item = asked.item; submitted = stays.submitted t asked.submitted };
            settled = λ t s f.
                let rests = was.settled t s f in
                record {
                  item = rests.item;
                  ordered = λ none. decided_stays w.actors actors t s.outcome stays (rests.ordered none);
                  commit = λ commit. let before = rests.commit commit in (before.0, decided_stays w.actors actors t outcome.Commit stays before.1);
                  abort = λ abort d. abort_stays sc w txn t part next append n p s h found refl l.fresh e f rests abort d;
                };
          };
      letters = letters_rest_in_coordinator_acts sc actors txn (submitted_up now == 1) (decided_in (log_with part.log append)) letters (ap (option_and_then decided_by) here)
          (λ begun. ap submitted_count here ∙ begun_one now begun) l.letters_agree;
      stays = stays;
      happened = subst (Each (WhatFollows sc w.facts)) (sym tells) l.follows;
      submitted = λ other. ap (λ (xs : List What). submitted_count (slice_get old other.0) + length (submissions other xs)) tells
          ∙ submitted_move old txn other part next append own (same_txn txn other) refl found (l.counts other) (l.apart other);
      decided = λ other. ap (λ (xs : List What). listed (decided_at old other.0) ++ decisions other xs) tells
          ∙ decided_move sc P old txn other part next append own (same_txn txn other) refl found refl l.fresh (l.undecided other);
      settled = λ at other. ap (λ (xs : List What). listed (settled_outcome w.actors.servers at other) ++ settlements at other xs) tells
          ∙ (ap (λ (xs : List Outcome). listed (settled_outcome w.actors.servers at other) ++ xs)
          (filter_map-append (settled_what at other) own (coordinator_facts append) ∙ (ap (λ (xs : List Outcome). settlements at other own ++ xs) (facts_settlements append at other) ∙ (append-nil (settlements at other own) ∙ l.unsettled at other)))
          ∙ append-nil _);
    }

-- ---- receipts and submissions

some_decided : (kept : List Record) (append : Option Record) → is_some (appended decision_in append) ≡ true → is_some (decided_in (log_with kept append)) ≡ true
some_decided kept append e = ap is_some (decided_with kept append) ∙ later_some (decided_in kept) (appended decision_in append) e

begun_test : (b : Bool) → (once b == 1) ≡ b
begun_test true = refl
begun_test false = refl

-- a receipt: the step says nothing by itself
pub receipt_acts : (sc : Scenario) (w : State) (txn : TxnId) (part : Part Coordinator) (c : Coordinator) (effect : Effect Coordinator) → Agrees sc w
    → slice_get w.actors.coordinators txn.0 ≡ Some part → part.up ≡ Some c → c.txn ≡ txn
    → CoordinatorLawful sc (IsPrepared w.actors.servers txn) (IsSettled w.actors.servers txn) c part.log effect
    → CoordinatorActs sc w txn part.log part.up (Some effect.state) [] effect.reaction.append effect.reaction.letters
receipt_acts sc w txn part c effect h found up same l =
    let P = IsPrepared w.actors.servers txn in
    let S = IsSettled w.actors.servers txn in
    let fresh : IfSome effect.reaction.append (IsFirst sc P txn part.log) = subst (λ (t : TxnId). IfSome effect.reaction.append (IsFirst sc P t part.log)) same l.fresh in
    let now = log_with part.log effect.reaction.append in
    record {
      state = record { agrees = l.agrees; replied = subst (λ (t : TxnId). PhaseRests P S effect.state.phase (servers_at sc t)) (sym l.same_txn) l.replied };
      fresh = fresh;
      letters_agree = subst (λ (begun : Bool). Each (LetterAgrees sc txn begun (decided_in now)) effect.reaction.letters) (sym (begun_test (is_begun effect.state.phase)))
          (subst (λ (t : TxnId). Each (LetterAgrees sc t (is_begun effect.state.phase) (decided_in now)) effect.reaction.letters) same l.letters);
      follows = facts_follow_in_coordinator_acts sc P w.facts txn part.log effect.reaction.append fresh
          (λ decides. submitted_told txn w.facts
          (h.submitted txn ∙ (ap submitted_count found ∙ (ap submitted_up up ∙ begun_count (is_begun c.phase)
          (sym l.same_begun ∙ decided_begun effect.state.phase (decided_in now) l.agrees.decided (some_decided part.log effect.reaction.append decides))))));
      counts = λ other e. none_more (submitted_up part.up) ∙ (ap submitted_up up ∙ ap once (sym l.same_begun));
      apart = λ other e. refl;
      undecided = λ other. refl;
      unsettled = λ at other. refl;
    }

zero_more : (n : ℕ) → 0 + n ≡ n
zero_more n = omega arith

-- a submission of a transaction that was not submitted
pub submission_acts : (sc : Scenario) (w : State) (txn : TxnId) (part : Part Coordinator) (c : Coordinator) (effect : Effect Coordinator) → part.up ≡ Some c → c.txn ≡ txn → is_begun c.phase ≡ false
    → SubmissionLawful sc (IsPrepared w.actors.servers txn) (IsSettled w.actors.servers txn) c part.log effect
    → CoordinatorActs sc w txn part.log part.up (Some effect.state) (what.Submitted txn ∷ []) effect.reaction.append effect.reaction.letters
submission_acts sc w txn part c effect up same unborn l =
    let P = IsPrepared w.actors.servers txn in
    let S = IsSettled w.actors.servers txn in
    let kept : log_with part.log effect.reaction.append ≡ part.log = ap (log_with part.log) l.forces in
    record {
      state = record {
        agrees = subst (CoordinatorAgrees sc effect.state) (sym kept) l.agrees;
        replied = subst (λ (t : TxnId). PhaseRests P S effect.state.phase (servers_at sc t)) (sym l.same_txn) l.replied;
      };
      fresh = subst (λ (append : Option Record). IfSome append (IsFirst sc P txn part.log)) (sym l.forces) tt;
      letters_agree = subst (λ (begun : Bool). Each (LetterAgrees sc txn begun (decided_in (log_with part.log effect.reaction.append))) effect.reaction.letters) (sym (begun_test (is_begun effect.state.phase)))
          (subst (λ (log_is : List Record). Each (LetterAgrees sc txn (is_begun effect.state.phase) (decided_in log_is)) effect.reaction.letters) (sym kept)
          (subst (λ (t : TxnId). Each (LetterAgrees sc t (is_begun effect.state.phase) (decided_in part.log)) effect.reaction.letters) same l.letters));
      follows = subst (λ (append : Option Record). Each (WhatFollows sc w.facts) (what.Submitted txn ∷ coordinator_facts append)) (sym l.forces) (tt, tt);
      counts = λ other e. ap (λ (u : Option Coordinator). submitted_up u + length (submissions other (what.Submitted txn ∷ []))) up
          ∙ (ap (λ (b : Bool). once b + length (submissions other (what.Submitted txn ∷ []))) unborn
          ∙ (zero_more _ ∙ (ap length (one_listed (same_txn txn other) txn e) ∙ sym (ap once l.begun))));
      apart = λ other e. none_listed (same_txn txn other) txn e;
      undecided = λ other. refl;
      unsettled = λ at other. refl;
    }

-- ---- timers

-- letters of a coordinator that is up and was submitted, where nothing else changes
pub letters_rest_again : (sc : Scenario) (w : State) (txn : TxnId) (part : Part Coordinator) (c : Coordinator) (letters : List Letter) → slice_get w.actors.coordinators txn.0 ≡ Some part → part.up ≡ Some c → c.txn ≡ txn
    → is_begun c.phase ≡ true → Each (LetterAgrees sc c.txn true (decided_in part.log)) letters → Each (LetterRests sc w.actors) letters
letters_rest_again sc w txn part c letters found up same begun agree =
    letters_rest_in_coordinator_acts sc w.actors txn true (decided_in part.log) letters (ap (option_and_then decided_by) found)
    (λ submitted. ap submitted_count found ∙ (ap submitted_up up ∙ ap once begun))
    (subst (λ (t : TxnId). Each (LetterAgrees sc t true (decided_in part.log)) letters) same agree)
