-- Trust over every list of steps: what is kept of a world, and what a step has to leave.
use Rattle.std.specs.List.{cons_option, count_by, filter_map, sum_by}
use Rattle.std.proofs.Common.{Bool, IfSome, List, None, Option, Some, [], ap, arith, cond, false, length, option_and_then, refl, slice_get, subst, sym, ℕ, ◌++◌, ◌+◌, ◌<◌, ◌∙◌, ◌∷◌, ◌≡◌, ◌≤◌}
use Rattle.std.proofs.lemmas.List.Sums.{sum_by-append, sum_by-cons}
use Rattle.tp_model.specs.Words.cause
use Rattle.tp_model.specs.Credentials.{clock_at, is_among, revoked_at, revoked_by, revoked_what, tick_of, tick_of_what}
use Rattle.tp_model.specs.Facts.{is_submission}
use Rattle.tp_model.specs.Versions.{is_publication, is_publication_what, newest, opening_version}
use Rattle.tp_model.specs.Words.{AdminId, Body, Cause, CredId, Decision, Fact, Instance, Letter, Mail, Scenario, ServerId, Step, TxnId, Verdict, What}
use Rattle.std.proofs.lemmas.Bool.{or_left}
use Rattle.std.proofs.lemmas.List.{append-nil, length_push}
use Rattle.std.proofs.lemmas.List.Folds.{list_any-append}
use Rattle.std.proofs.lemmas.List.Elements.{filter_map-append}
use Rattle.tp_model.specs.Words.decision
use Rattle.tp_model.specs.Words.what
use Rattle.tp_machine.specs.Machine.{Move, State, facts_of, mails_of, state_after}
use Rattle.tp_machine.specs.Parts.{Part}
use Rattle.tp_types.specs.Each.{Each, EachAt}
use Rattle.tp_machine.specs.Named.{IsAdmin}
use Rattle.tp_coord.specs.State.{Coordinator}
use Rattle.tp_machine.specs.declared.actors.Actors.{Actors}
use Rattle.tp_offices.specs.Master.{version_for}
use Rattle.tp_offices.specs.declared.authority.Authority.{Authority}
use Rattle.tp_offices.specs.declared.master.Master.{Master}
use Rattle.tp_server.specs.State.{Server}
use Rattle.tp_recover.specs.Log.{known_in}
use Rattle.tp_runs.proofs.trust.Causes.{newer_stays, rounds_stay}
use Rattle.tp_runs.proofs.trust.Instances.{commit_stays, so_far_stays}
use Rattle.tp_runs.proofs.agreement.Known.{first_known}
use Rattle.tp_runs.proofs.agreement.World.{Agrees}
use Rattle.tp_runs.proofs.basics.Facts.{ArePast, before_past, count_append, each_new_fact, each_new_mail, facts_after, grows_with_facts, past_after}
use Rattle.tp_types.proofs.EachLemmas.{each_append, each_as}
use Rattle.tp_runs.proofs.trust.Coordinator.{CauseFits, CoordinatorFits, DecisionFits}
use Rattle.tp_runs.proofs.trust.Fit.{AuthorityFits, BodyFits, Later, MailFits, ServerFits, body_stays, maybe_stays, newest_rises, right_stays, server_stays}
use Rattle.tp_runs.proofs.trust.Phases.{phase_stays}
use Rattle.tp_runs.proofs.trust.Kept.{IsTrusted, PartKept, part_as, trusted_stays}
use Rattle.tp_runs.proofs.basics.Turns.{AreEarlier, IsAbove, IsEarlierInstance, Stamp, TurnFits, stamp_of}

-- ---- the invariant

-- a server that is up fits; all that it keeps, and has prepared on its log, fits too, and T of it; and whether it is up or down, its
-- log tells of no version above the newest, nor is one known at first
pub record ServerPartFits (sc : Scenario) (facts : List Fact) (place : ℕ) (T : Body → Type 0) (at : ServerId) (part : Part Server) : Type 0 where
  pub state : IfSome part.up (ServerFits sc facts place)
  pub kept : PartKept (IsTrusted sc facts place T) part
  pub told : (admin : AdminId) → IsAdmin sc admin → known_in (first_known sc at admin) admin part.log ≤ newest sc admin place facts

abbrev pub CoordinatorPartFits : Scenario → List Fact → ℕ → Part Coordinator → Type 0
CoordinatorPartFits sc facts place part = IfSome part.up (CoordinatorFits sc facts place)

abbrev pub up_of : Part Coordinator → Option Coordinator
up_of part = part.up

-- the coordinator of a transaction, by its number, where it is up
abbrev pub up_at : List (Part Coordinator) → ℕ → Option Coordinator
up_at coordinators txn = option_and_then up_of (slice_get coordinators txn)

-- what a mail says where its turn is the present one of its transaction's coordinator; one that is down promises nothing
abbrev pub StampFits : Scenario → List (Part Coordinator) → ℕ → Body → Stamp → Type 0
StampFits sc coordinators sent said stamped = IfSome (up_at coordinators stamped.txn.0) (TurnFits sc sent stamped.turn said)

abbrev pub BodyTimely : Scenario → List (Part Coordinator) → ℕ → Body → Type 0
BodyTimely sc coordinators sent said = IfSome (stamp_of said) (StampFits sc coordinators sent said)

abbrev pub MailTimely : Scenario → List (Part Coordinator) → Mail → Type 0
MailTimely sc coordinators mail = BodyTimely sc coordinators mail.sent mail.letter.body

-- the same of what may yet be sent, at any place
abbrev pub Timely : Scenario → List (Part Coordinator) → Body → Type 0
Timely sc coordinators said = (sent : ℕ) → BodyTimely sc coordinators sent said

-- the newest version that the master knows of each administrator is that of the facts
pub record MasterFits (sc : Scenario) (facts : List Fact) (place : ℕ) (held : Master) : Type 0 where
  pub newest_is : (admin : AdminId) → IsAdmin sc admin → (version_for held.newest admin).0 ≡ newest sc admin place facts
  pub places : length held.newest ≡ length sc.admins

-- what a fact of a place shows by the facts before it
abbrev pub WhatFits : Scenario → List Fact → ℕ → What → Type 0
WhatFits sc facts place (what.Decided txn decided) = DecisionFits sc facts place txn decided
WhatFits sc facts place _ = Unit {0}

abbrev pub FactFits : Scenario → List Fact → Fact → Type 0
FactFits sc facts fact = WhatFits sc facts fact.place fact.what

-- all that trust rests on: each actor, all that servers keep, each mail ever sent and each fact fits the facts so far
pub record TrustsAt (sc : Scenario) (facts : List Fact) (place : ℕ) (actors : Actors) (mails : List Mail) : Type 0 where
  pub authority : AuthorityFits sc facts place actors.authority
  pub master : MasterFits sc facts place actors.master
  pub servers : EachAt (λ (n : ℕ) (part : Part Server). ServerPartFits sc facts place (Timely sc actors.coordinators) (record { 0 = n }) part) actors.servers
  pub coordinators : EachAt (λ (n : ℕ) (part : Part Coordinator). CoordinatorPartFits sc facts place part) actors.coordinators
  pub mails_fit : Each (MailFits sc facts place) mails
  pub mails_timely : Each (MailTimely sc actors.coordinators) mails
  pub facts_fit : Each (FactFits sc facts) facts

abbrev pub Trusts : Scenario → State → Type 0
Trusts sc w = TrustsAt sc w.facts (length w.steps) w.actors w.mails

-- ---- a move

-- a step leaves actors, letters and facts that fit the facts after it
pub record MoveTrusts (sc : Scenario) (w : State) (move : Move) : Type 0 where
  pub authority : AuthorityFits sc (facts_after w move.happened) (length w.steps + 1) move.actors.authority
  pub master : MasterFits sc (facts_after w move.happened) (length w.steps + 1) move.actors.master
  pub servers : EachAt (λ (n : ℕ) (part : Part Server). ServerPartFits sc (facts_after w move.happened) (length w.steps + 1) (Timely sc move.actors.coordinators) (record { 0 = n }) part) move.actors.servers
  pub coordinators : EachAt (λ (n : ℕ) (part : Part Coordinator). CoordinatorPartFits sc (facts_after w move.happened) (length w.steps + 1) part) move.actors.coordinators
  pub letters : Each (λ (letter : Letter). BodyFits sc (facts_after w move.happened) (length w.steps + 1) (length w.steps) letter.body) move.letters
  pub old_timely : Each (MailTimely sc move.actors.coordinators) w.mails
  pub new_timely : Each (λ (letter : Letter). BodyTimely sc move.actors.coordinators (length w.steps) letter.body) move.letters
  pub facts : Each (WhatFits sc (facts_after w move.happened) (length w.steps)) move.happened

-- ---- growth

-- the facts after a move are later ones
pub later_with_facts : (w : State) (happened : List What) (high : ℕ) → length w.steps ≤ high → Later w.facts (facts_after w happened) (length w.steps) high
later_with_facts w happened high le =
    record {
      grows = grows_with_facts w.facts (length w.steps) happened;
      le = le;
      more = λ txn e. list_any-append (is_submission txn) w.facts (facts_of (length w.steps) happened) ∙ or_left _ _ e;
    }

pub server_part_stays : (sc : Scenario) (old new : List Fact) (low high : ℕ) (T U : Body → Type 0) (at : ServerId) (part : Part Server) → Later old new low high → ((said : Body) → T said → U said)
    → ServerPartFits sc old low T at part → ServerPartFits sc new high U at part
server_part_stays sc old new low high T U at part l step h =
    record {
      state = maybe_stays (ServerFits sc old low) (ServerFits sc new high) part.up (λ s k. server_stays sc old new low high s l k) h.state;
      kept = part_as (IsTrusted sc old low T) (IsTrusted sc new high U) part (λ said k. trusted_stays sc old new low high T U said l step k) h.kept;
      told = λ admin exists. omega (arith, h.told admin exists, newest_rises sc admin old new low high l);
    }

-- what was made before a place was made before a later one
above_stays : (low high : ℕ) (instances : List Instance) (gathered : List Verdict) → low ≤ high → IsAbove low instances gathered → IsAbove high instances gathered
above_stays low high instances gathered le h =
    let earlier : (verdicts : List Verdict) → AreEarlier low verdicts → AreEarlier high verdicts =
    λ verdicts k. each_as (λ (verdict : Verdict). verdict.place < low) (λ (verdict : Verdict). verdict.place < high) (λ verdict less. omega (arith, less, le)) verdicts k in
    record {
      closed = each_as (IsEarlierInstance low) (IsEarlierInstance high)
          (λ closed k. record { proofs = earlier closed.proofs k.proofs; reading = maybe_stays (λ (read : ℕ). read < low) (λ (read : ℕ). read < high) closed.reading (λ read less. omega (arith, less, le)) k.reading })
          instances h.closed;
      gathered_before = earlier gathered h.gathered_before;
    }

pub coordinator_stays : (sc : Scenario) (old new : List Fact) (low high : ℕ) (c : Coordinator) → Later old new low high → CoordinatorFits sc old low c → CoordinatorFits sc new high c
coordinator_stays sc old new low high c l h =
    record {
      awaits = phase_stays sc old new low high c.txn c.phase l h.awaits;
      suits = h.suits;
      so_far = λ undecided declared found. so_far_stays sc old new low high c.txn declared _ _ c.instances c.gathered l (h.so_far undecided declared found);
      above = λ undecided. above_stays low high c.instances c.gathered l.le (h.above undecided);
      made_after = h.made_after;
      turn = h.turn;
    }

pub coordinator_up_stays : (sc : Scenario) (old new : List Fact) (low high : ℕ) (up : Option Coordinator) → Later old new low high → IfSome up (CoordinatorFits sc old low) → IfSome up (CoordinatorFits sc new high)
coordinator_up_stays sc old new low high None l h = tt
coordinator_up_stays sc old new low high (Some c) l h = coordinator_stays sc old new low high c l h

cause_stays : (sc : Scenario) (old new : List Fact) (low high : ℕ) (txn : TxnId) (why : Cause) → Later old new low high → CauseFits sc old low txn why → CauseFits sc new high txn why
cause_stays sc old new low high txn (cause.Denied denied) l h =
    record {
      verdict = h.verdict;
      denied_is = h.denied_is;
      right = right_stays sc old new low high txn h.verdict l h.right;
      ruleless = h.ruleless;
      bound = λ declared found at_newest.
          let past = (h.right declared found).past in
          let same : newest sc h.verdict.admin h.verdict.place new ≡ newest sc h.verdict.admin h.verdict.place old =
          ap (λ (earlier : List Fact). (opening_version sc h.verdict.admin).0 + count_by (is_publication h.verdict.admin) earlier) (l.grows.same h.verdict.place (omega (arith, past))) in
          let bound = h.bound declared found at_newest in
          omega (arith, same, bound);
    }
cause_stays sc old new low high txn (cause.Newer newer) l h = λ declared found. newer_stays sc old new low high newer declared l (h declared found)
cause_stays sc old new low high txn (cause.Rounds mets) l h = λ declared found. rounds_stay sc txn old new low high mets declared l (h declared found)
cause_stays sc old new low high txn _ l h = tt

pub decision_stays : (sc : Scenario) (old new : List Fact) (low high : ℕ) (txn : TxnId) (decided : Decision) → Later old new low high → DecisionFits sc old low txn decided → DecisionFits sc new high txn decided
decision_stays sc old new low high txn (decision.Commit committed) l h = λ declared found. commit_stays sc old new low high txn declared committed l (h declared found)
decision_stays sc old new low high txn (decision.Abort why) l h = cause_stays sc old new low high txn why l h

-- what holds up to a place holds up to an earlier one
earlier_too : (old new : List Fact) (low high first : ℕ) → first ≤ low → Later old new low high → Later old new first first
earlier_too old new low high first le l = record { grows = record { same = λ k small. l.grows.same k (omega (arith, small, le)) }; le = omega arith; more = l.more }

what_stays_in_trust : (sc : Scenario) (old new : List Fact) (low high place : ℕ) (w : What) → place ≤ low → Later old new low high → WhatFits sc old place w → WhatFits sc new place w
what_stays_in_trust sc old new low high place (what.Decided txn decided) le l h = decision_stays sc old new place place txn decided (earlier_too old new low high place le l) h
what_stays_in_trust sc old new low high place _ le l h = tt

facts_stay_in_trust : (sc : Scenario) (old new : List Fact) (low high : ℕ) (facts : List Fact) → Later old new low high → ArePast low facts → Each (FactFits sc old) facts → Each (FactFits sc new) facts
facts_stay_in_trust sc old new low high [] l past h = tt
facts_stay_in_trust sc old new low high (fact ∷ facts) l past h =
    (what_stays_in_trust sc old new low high fact.place fact.what (omega (arith, past.0)) l h.0, facts_stay_in_trust sc old new low high facts l past.1 h.1)

-- ---- the offices' facts

-- the clock, the revocations and the newest versions stay
abbrev pub IsStill : What → Type 0
IsStill (what.Published admin version) = ⊥
IsStill (what.Ticked by) = ⊥
IsStill (what.Revoked cred) = ⊥
IsStill _ = Unit {0}

no_ticks : (place : ℕ) (happened : List What) → Each IsStill happened → sum_by tick_of (facts_of place happened) ≡ 0
no_ticks place [] h = refl
no_ticks place (w ∷ happened) h =
    let whole : sum_by tick_of (facts_of place (w ∷ happened)) ≡ tick_of (record { place = place; what = w }) + sum_by tick_of (facts_of place happened) = sum_by-cons tick_of (record { place = place; what = w }) (facts_of place happened) in
    let later : sum_by tick_of (facts_of place happened) ≡ 0 = no_ticks place happened h.1 in
    let here : tick_of (record { place = place; what = w }) ≡ 0 = still w h.0 in
    omega (arith, whole, later, here)
  where
    still : (v : What) → IsStill v → tick_of_what v ≡ 0
    still (what.Ticked by) n = absurd n
    still _ n = refl

no_revocation : (place : ℕ) (happened : List What) → Each IsStill happened → filter_map revoked_by (facts_of place happened) ≡ []
no_revocation place [] h = refl
no_revocation place (w ∷ happened) h =
    ap (λ (found : Option CredId). cons_option found (filter_map revoked_by (facts_of place happened))) (still w h.0) ∙ no_revocation place happened h.1
  where
    still : (v : What) → IsStill v → revoked_what v ≡ None
    still (what.Revoked other) n = absurd n
    still _ n = refl

no_publication : (admin : AdminId) (place : ℕ) (happened : List What) → Each IsStill happened → count_by (is_publication admin) (facts_of place happened) ≡ 0
no_publication admin place [] h = refl
no_publication admin place (w ∷ happened) h =
    let count : Fact → ℕ = λ fact. cond (is_publication admin fact) 1 0 in
    let whole : sum_by count (facts_of place (w ∷ happened)) ≡ count (record { place = place; what = w }) + sum_by count (facts_of place happened) = sum_by-cons count (record { place = place; what = w }) (facts_of place happened) in
    let later : sum_by count (facts_of place happened) ≡ 0 = no_publication admin place happened h.1 in
    let here : count (record { place = place; what = w }) ≡ 0 = ap (λ (b : Bool). cond b 1 0) (still w h.0) in
    omega (arith, whole, later, here)
  where
    still : (v : What) → IsStill v → is_publication_what admin v ≡ false
    still (what.Published other version) n = absurd n
    still _ n = refl

-- the clock after a turn
pub clock_after : (sc : Scenario) (w : State) (happened : List What) → ArePast (length w.steps) w.facts
    → clock_at sc (length w.steps + 1) (facts_after w happened) ≡ clock_at sc (length w.steps) w.facts + sum_by tick_of (facts_of (length w.steps) happened)
clock_after sc w happened past =
    let place = length w.steps in
    let now = facts_after w happened in
    let was : clock_at sc place w.facts ≡ sc.clock + sum_by tick_of w.facts = ap (λ (facts : List Fact). sc.clock + sum_by tick_of facts) (before_past place w.facts past) in
    let all : clock_at sc (place + 1) now ≡ sc.clock + sum_by tick_of now = ap (λ (facts : List Fact). sc.clock + sum_by tick_of facts) (before_past (place + 1) now (past_after w happened past)) in
    let sum_now : sum_by tick_of now ≡ sum_by tick_of w.facts + sum_by tick_of (facts_of place happened) = sum_by-append tick_of w.facts (facts_of place happened) in
    omega (arith, was, all, sum_now)

-- the revocations after a turn
pub revoked_after : (w : State) (happened : List What) → ArePast (length w.steps) w.facts
    → revoked_at (length w.steps + 1) (facts_after w happened) ≡ revoked_at (length w.steps) w.facts ++ filter_map revoked_by (facts_of (length w.steps) happened)
revoked_after w happened past =
    let place = length w.steps in
    ap (filter_map revoked_by) (before_past (place + 1) (facts_after w happened) (past_after w happened past))
    ∙ (filter_map-append revoked_by w.facts (facts_of place happened)
    ∙ ap (λ (facts : List Fact). filter_map revoked_by facts ++ filter_map revoked_by (facts_of place happened)) (sym (before_past place w.facts past)))

-- the newest version after a turn
pub newest_after : (sc : Scenario) (w : State) (happened : List What) (admin : AdminId) → ArePast (length w.steps) w.facts
    → newest sc admin (length w.steps + 1) (facts_after w happened) ≡ newest sc admin (length w.steps) w.facts + count_by (is_publication admin) (facts_of (length w.steps) happened)
newest_after sc w happened admin past =
    let place = length w.steps in
    let now = facts_after w happened in
    let opening = (opening_version sc admin).0 in
    let was : newest sc admin place w.facts ≡ opening + count_by (is_publication admin) w.facts = ap (λ (facts : List Fact). opening + count_by (is_publication admin) facts) (before_past place w.facts past) in
    let all : newest sc admin (place + 1) now ≡ opening + count_by (is_publication admin) now =
    ap (λ (facts : List Fact). opening + count_by (is_publication admin) facts) (before_past (place + 1) now (past_after w happened past)) in
    let sum_now : count_by (is_publication admin) now ≡ count_by (is_publication admin) w.facts + count_by (is_publication admin) (facts_of place happened) = count_append (is_publication admin) w.facts (facts_of place happened) in
    omega (arith, was, all, sum_now)

-- a master that stays fits the facts after a move in which nothing is published
pub master_kept : (sc : Scenario) (w : State) (happened : List What) (held : Master) → ArePast (length w.steps) w.facts
    → ((admin : AdminId) → count_by (is_publication admin) (facts_of (length w.steps) happened) ≡ 0) → MasterFits sc w.facts (length w.steps) held → MasterFits sc (facts_after w happened) (length w.steps + 1) held
master_kept sc w happened held past none h =
    record {
      newest_is = λ admin exists. omega (arith, h.newest_is admin exists, newest_after sc w happened admin past, none admin);
      places = h.places;
    }

pub master_stays : (sc : Scenario) (w : State) (happened : List What) (held : Master) → ArePast (length w.steps) w.facts → Each IsStill happened → MasterFits sc w.facts (length w.steps) held
    → MasterFits sc (facts_after w happened) (length w.steps + 1) held
master_stays sc w happened held past still h = master_kept sc w happened held past (λ admin. no_publication admin (length w.steps) happened still) h

-- an authority that stays fits the facts after a move in which no time passes and nothing is revoked
pub authority_kept : (sc : Scenario) (w : State) (happened : List What) (authority : Authority) → ArePast (length w.steps) w.facts → sum_by tick_of (facts_of (length w.steps) happened) ≡ 0
    → filter_map revoked_by (facts_of (length w.steps) happened) ≡ [] → AuthorityFits sc w.facts (length w.steps) authority → AuthorityFits sc (facts_after w happened) (length w.steps + 1) authority
authority_kept sc w happened authority past none none_revoked h =
    let place = length w.steps in
    let clock = clock_after sc w happened past in
    let was = h.clock_is in
    let same : revoked_at (place + 1) (facts_after w happened) ≡ revoked_at place w.facts =
    revoked_after w happened past ∙ (ap (λ (more : List CredId). revoked_at place w.facts ++ more) none_revoked ∙ append-nil (revoked_at place w.facts)) in
    record {
      clock_is = omega (arith, was, clock, none);
      revoked_is = λ cred. h.revoked_is cred ∙ ap (λ (revoked : List CredId). is_among revoked cred) (sym same);
      placed = h.placed;
      places = h.places;
    }

pub authority_stays : (sc : Scenario) (w : State) (happened : List What) (authority : Authority) → ArePast (length w.steps) w.facts → Each IsStill happened → AuthorityFits sc w.facts (length w.steps) authority
    → AuthorityFits sc (facts_after w happened) (length w.steps + 1) authority
authority_stays sc w happened authority past still h =
    authority_kept sc w happened authority past (no_ticks (length w.steps) happened still) (no_revocation (length w.steps) happened still) h

-- ---- a step

-- a step whose move fits leaves a world that fits
pub state_after_trusts : (sc : Scenario) (w : State) (taken : Step) (move : Move) → Agrees sc w → Trusts sc w → MoveTrusts sc w move → Trusts sc (state_after w taken move)
state_after_trusts sc w taken move a h t =
    let place = length w.steps in
    let now = facts_after w move.happened in
    let l = later_with_facts w move.happened (place + 1) (omega arith) in
    let mails = w.mails ++ mails_of place (length w.mails) move.letters in
    let made : TrustsAt sc now (place + 1) move.actors mails = record {
      authority = t.authority;
      master = t.master;
      servers = t.servers;
      coordinators = t.coordinators;
      mails_fit = each_append (MailFits sc now (place + 1)) w.mails (mails_of place (length w.mails) move.letters)
          (each_as (MailFits sc w.facts place) (MailFits sc now (place + 1)) (λ mail m. body_stays sc w.facts now place (place + 1) mail.sent mail.letter.body l m) w.mails h.mails_fit)
          (each_new_mail (λ (sent : ℕ) (letter : Letter). BodyFits sc now (place + 1) sent letter.body) place (length w.mails) move.letters t.letters);
      mails_timely = each_append (MailTimely sc move.actors.coordinators) w.mails (mails_of place (length w.mails) move.letters) t.old_timely
          (each_new_mail (λ (sent : ℕ) (letter : Letter). BodyTimely sc move.actors.coordinators sent letter.body) place (length w.mails) move.letters t.new_timely);
      facts_fit = each_append (FactFits sc now) w.facts (facts_of place move.happened) (facts_stay_in_trust sc w.facts now place (place + 1) w.facts l a.past h.facts_fit)
          (each_new_fact (WhatFits sc now) place move.happened t.facts);
    } in
    subst (λ (p : ℕ). TrustsAt sc now p move.actors mails) (sym (length_push w.steps taken)) made
