-- Trust, actor by actor: what an act leaves fits, whether the actor was up or down before it, and is up or down after it.
use Rattle.std.specs.List.{filter_map, list_any, sum_by}
use Rattle.std.proofs.Common.{Bool, IfSome, List, None, Option, Some, [], ap, arith, drop, false, flat_map, if◌then◌else◌, length, option_and_then, refl, slice_get, slice_set, subst, sym, true, ℕ, ◌++◌, ◌+◌, ◌∙◌, ◌≡◌, ◌≤◌}
use Rattle.std.proofs.lemmas.Bool.{eqb-true}
use Rattle.tp_types.proofs.ListLemmas.{number_itself}
use Rattle.tp_model.specs.Credentials.{is_among, revoked_by, tick_of}
use Rattle.tp_model.specs.Facts.{before, is_submission}
use Rattle.tp_model.specs.Ids.{same_txn}
use Rattle.tp_model.specs.Versions.{newest}
use Rattle.tp_model.specs.Words.{AdminId, AskRequest, Body, Fact, Letter, Record, Scenario, ServerId, TxnId, What}
use Rattle.tp_model.specs.Words.body
use Rattle.tp_model.specs.Words.log
use Rattle.tp_machine.specs.Machine.{State, acts, coordinator_fact, coordinator_move, server_fact, server_move}
use Rattle.tp_actor_log.specs.Records.{log_with}
use Rattle.tp_machine.specs.Parts.{Part}
use Rattle.tp_types.specs.Each.{Each}
use Rattle.tp_machine.specs.Named.{IsAdmin}
use Rattle.tp_coord.specs.State.{Coordinator}
use Rattle.tp_coord.specs.declared.coordinator.Phase.TheVariants as phase
use Rattle.tp_coord.specs.declared.coordinator.Phase.{Phase}
use Rattle.tp_offices.specs.Authority as office
use Rattle.tp_server.specs.State.{Server}
use Rattle.tp_runs.proofs.agreement.ServerActs.{server_facts}
use Rattle.tp_runs.proofs.agreement.CoordinatorActs.{coordinator_facts}
use Rattle.tp_runs.proofs.agreement.Known.{first_known}
use Rattle.tp_runs.proofs.agreement.World.{Agrees}
use Rattle.tp_runs.proofs.basics.Facts.{ArePast, before_past, facts_after}
use Rattle.tp_runs.proofs.basics.Logs.{gained, known_with, look_set, told_by}
use Rattle.tp_types.proofs.EachLemmas.{at_set, each_append, each_as}
use Rattle.tp_runs.proofs.trust.Coordinator.{CoordinatorFits, CoordinatorTrusts, IsOfTurn, LetterOfTurn, RecordDecides}
use Rattle.tp_runs.proofs.trust.Fit.{AuthorityFits, BodyFits, IsSubmitted, Later, ServerFits, StapleFits, body_stays, maybe_stays, newest_rises, server_stays}
use Rattle.tp_runs.proofs.trust.Kept.{IsTrusted, part_as, part_keeps, trusted_stays}
use Rattle.tp_runs.proofs.trust.Server.{ServerTrusts}
use Rattle.tp_runs.proofs.basics.Turns.{Answers, IsAbove, IsClosed, Stamp, TellNow, TurnFits, stamp_of}
use Rattle.tp_runs.proofs.trust.World.{BodyTimely, CoordinatorPartFits, IsStill, MailTimely, MoveTrusts, ServerPartFits, StampFits, Timely, Trusts, WhatFits, authority_stays, coordinator_up_stays, decision_stays, later_with_facts, master_stays, server_part_stays, up_at, up_of}

-- ---- what a step says by itself

-- it leaves the clock, the revocations and the newest versions, and shows what it must
pub record SaysFit (sc : Scenario) (place : ℕ) (own : List What) : Type 0 where
  pub still : Each IsStill own
  pub fit : (facts : List Fact) → Each (WhatFits sc facts place) own

-- ---- no actor acts

-- a move in which the servers and the coordinators stay
pub unmoved_trusts : (sc : Scenario) (w : State) (happened : List What) (letters : List Letter) → ArePast (length w.steps) w.facts → Trusts sc w → SaysFit sc (length w.steps) happened
    → Each (λ (letter : Letter). BodyFits sc (facts_after w happened) (length w.steps + 1) (length w.steps) letter.body) letters
    → Each (λ (letter : Letter). BodyTimely sc w.actors.coordinators (length w.steps) letter.body) letters
    → MoveTrusts sc w (record { actors = w.actors; happened = happened; letters = letters })
unmoved_trusts sc w happened letters past h own fit timely =
    let place = length w.steps in
    let T = Timely sc w.actors.coordinators in
    let l = later_with_facts w happened (place + 1) (omega arith) in
    record {
      authority = authority_stays sc w happened w.actors.authority past own.still h.authority;
      master = master_stays sc w happened w.actors.master past own.still h.master;
      servers = λ n part e. server_part_stays sc w.facts (facts_after w happened) place (place + 1) T T (record { 0 = n }) part l (λ said t. t) (h.servers n part e);
      coordinators = λ n part e. coordinator_up_stays sc w.facts (facts_after w happened) place (place + 1) part.up l (h.coordinators n part e);
      letters = fit;
      old_timely = h.mails_timely;
      new_timely = timely;
      facts = own.fit (facts_after w happened);
    }

-- ---- a server acts

server_facts_still : (at : ServerId) (append : Option Record) → Each IsStill (server_facts at append)
server_facts_still at None = tt
server_facts_still at (Some (log.Settled s)) = (tt, tt)
server_facts_still at (Some _) = tt

server_facts_fit : (sc : Scenario) (facts : List Fact) (place : ℕ) (at : ServerId) (append : Option Record) → Each (WhatFits sc facts place) (server_facts at append)
server_facts_fit sc facts place at None = tt
server_facts_fit sc facts place at (Some (log.Settled s)) = (tt, tt)
server_facts_fit sc facts place at (Some _) = tt

-- the coordinator of the transaction is up
abbrev pub IsUpAs : List (Part Coordinator) → TxnId → Coordinator → Type 0
IsUpAs coordinators txn c = up_at coordinators txn.0 ≡ Some c

-- a reply is timely where its request is, at any place
reply_up : (sc : Scenario) (coordinators : List (Part Coordinator)) (sent place : ℕ) (request reply : Body) (stamped : Stamp) (a : Answers sc (IsUpAs coordinators) request reply stamped) (up : Option Coordinator)
    → up_at coordinators stamped.txn.0 ≡ up → IfSome up (TurnFits sc sent a.asked.turn request) → IfSome up (TurnFits sc place stamped.turn reply)
reply_up sc coordinators sent place request reply stamped a None there h = tt
reply_up sc coordinators sent place request reply stamped a (Some c) there h = a.timely c sent place there h

-- so what is timely is closed under answers
pub timely_closed : (sc : Scenario) (coordinators : List (Part Coordinator)) → IsClosed sc (IsUpAs coordinators) (Timely sc coordinators)
timely_closed sc coordinators request reply stamped a t place =
    let asked : StampFits sc coordinators 0 request a.asked = subst (λ (found : Option Stamp). IfSome found (StampFits sc coordinators 0 request)) a.asked_is (t 0) in
    let answered : StampFits sc coordinators place reply stamped = reply_up sc coordinators 0 place request reply stamped a (up_at coordinators stamped.txn.0) refl
    (subst (λ (txn : TxnId). IfSome (up_at coordinators txn.0) (TurnFits sc 0 a.asked.turn request)) a.same_txn asked) in
    subst (λ (found : Option Stamp). IfSome found (StampFits sc coordinators place reply)) (sym a.reply_is) answered

stamped_timely : (sc : Scenario) (coordinators : List (Part Coordinator)) (place : ℕ) (said : Body) (found : Option Stamp) → stamp_of said ≡ found → IfSome found (λ (stamped : Stamp). Timely sc coordinators said)
    → IfSome found (StampFits sc coordinators place said)
stamped_timely sc coordinators place said None e h = tt
stamped_timely sc coordinators place said (Some stamped) e h = subst (λ (found : Option Stamp). IfSome found (StampFits sc coordinators place said)) e (h place)

replies_timely : (sc : Scenario) (coordinators : List (Part Coordinator)) (place : ℕ) (letters : List Letter)
    → Each (λ (letter : Letter). IfSome (stamp_of letter.body) (λ (stamped : Stamp). Timely sc coordinators letter.body)) letters → Each (λ (letter : Letter). BodyTimely sc coordinators place letter.body) letters
replies_timely sc coordinators place letters h =
    each_as (λ (letter : Letter). IfSome (stamp_of letter.body) (λ (stamped : Stamp). Timely sc coordinators letter.body)) (λ (letter : Letter). BodyTimely sc coordinators place letter.body)
    (λ letter k. stamped_timely sc coordinators place letter.body (stamp_of letter.body) refl k) letters h

letters_stay : (sc : Scenario) (old new : List Fact) (low high sent : ℕ) (letters : List Letter) → Later old new low high → Each (λ (letter : Letter). BodyFits sc old low sent letter.body) letters
    → Each (λ (letter : Letter). BodyFits sc new high sent letter.body) letters
letters_stay sc old new low high sent letters l h =
    each_as (λ (letter : Letter). BodyFits sc old low sent letter.body) (λ (letter : Letter). BodyFits sc new high sent letter.body) (λ letter f. body_stays sc old new low high sent letter.body l f) letters h

-- what is forced tells of no version above the newest
abbrev pub ForcesPublished : Scenario → List Fact → ℕ → Option Record → Type 0
ForcesPublished sc facts place append = (admin : AdminId) → IsAdmin sc admin → told_by admin append ≤ newest sc admin place facts

-- the move of a server whose act fits
pub server_acts_trusts : (sc : Scenario) (w : State) (at : ServerId) (part : Part Server) (own : List What) (now : Option Server) (append : Option Record) (letters : List Letter) → ArePast (length w.steps) w.facts
    → Trusts sc w → slice_get w.actors.servers at.0 ≡ Some part → SaysFit sc (length w.steps) own → ForcesPublished sc w.facts (length w.steps) append
    → ServerTrusts sc w.facts (length w.steps) (Timely sc w.actors.coordinators) now append letters
    → MoveTrusts sc w (server_move w.actors at (acts (server_fact at) own part.log now (log_with part.log append) letters))
server_acts_trusts sc w at part own now append letters past h found says new t =
    let place = length w.steps in
    let T = Timely sc w.actors.coordinators in
    let kept = log_with part.log append in
    let happened = own ++ flat_map (server_fact at) (drop (length part.log) kept) in
    let tells : happened ≡ own ++ server_facts at append = ap (λ (xs : List What). own ++ xs) (gained (server_fact at) part.log append) in
    let after = facts_after w happened in
    let l = later_with_facts w happened (place + 1) (omega arith) in
    let next : Part Server = record { up = now; log = kept } in
    let here = h.servers at.0 part found in
    let still : Each IsStill happened = subst (Each IsStill) (sym tells) (each_append IsStill own (server_facts at append) says.still (server_facts_still at append)) in
    record {
      authority = authority_stays sc w happened w.actors.authority past still h.authority;
      master = master_stays sc w happened w.actors.master past still h.master;
      servers = at_set (λ (n : ℕ) (p : Part Server). ServerPartFits sc after (place + 1) T (record { 0 = n }) p) w.actors.servers at.0 next
          (λ n p e. server_part_stays sc w.facts after place (place + 1) T T (record { 0 = n }) p l (λ said k. k) (h.servers n p e))
          (record {
            state = maybe_stays (ServerFits sc w.facts place) (ServerFits sc after (place + 1)) now (λ s k. server_stays sc w.facts after place (place + 1) s l k) t.fits;
            kept = part_as (IsTrusted sc w.facts place T) (IsTrusted sc after (place + 1) T) next (λ said k. trusted_stays sc w.facts after place (place + 1) T T said l (λ other u. u) k)
                (part_keeps (IsTrusted sc w.facts place T) part now append here.kept t.keeps t.forces);
            told = λ admin exists.
                omega (arith, known_with (first_known sc at admin) admin part.log append, here.told admin exists, new admin exists, newest_rises sc admin w.facts after place (place + 1) l);
          });
      coordinators = λ n p e. coordinator_up_stays sc w.facts after place (place + 1) p.up l (h.coordinators n p e);
      letters = letters_stay sc w.facts after place (place + 1) place letters l t.says;
      old_timely = h.mails_timely;
      new_timely = replies_timely sc w.actors.coordinators place letters t.timely;
      facts = subst (Each (WhatFits sc after place)) (sym tells) (each_append (WhatFits sc after place) own (server_facts at append) (says.fit after) (server_facts_fit sc after place at append));
    }

-- ---- a coordinator acts

coordinator_facts_still : (append : Option Record) → Each IsStill (coordinator_facts append)
coordinator_facts_still None = tt
coordinator_facts_still (Some (log.Decided d)) = (tt, tt)
coordinator_facts_still (Some _) = tt

coordinator_facts_fit : (sc : Scenario) (old new : List Fact) (place : ℕ) (append : Option Record) → Later old new place place → IfSome append (RecordDecides sc old place) → Each (WhatFits sc new place) (coordinator_facts append)
coordinator_facts_fit sc old new place None l h = tt
coordinator_facts_fit sc old new place (Some (log.Decided d)) l h = (decision_stays sc old new place place d.txn d.decision l h, tt)
coordinator_facts_fit sc old new place (Some _) l h = tt

-- a mail of another transaction stays timely, and one of this one by what the act keeps
stamp_stays : (sc : Scenario) (coordinators : List (Part Coordinator)) (txn : TxnId) (part next : Part Coordinator) (sent : ℕ) (said : Body) (stamped : Stamp) (b : Bool) → same_txn txn stamped.txn ≡ b
    → slice_get coordinators txn.0 ≡ Some part → (IfSome part.up (TurnFits sc sent stamped.turn said) → IfSome next.up (TurnFits sc sent stamped.turn said))
    → StampFits sc coordinators sent said stamped → StampFits sc (slice_set coordinators txn.0 next) sent said stamped
stamp_stays sc coordinators txn part next sent said stamped true same found old h =
    let was : up_at coordinators stamped.txn.0 ≡ part.up = ap (option_and_then up_of) (subst (λ (n : ℕ). slice_get coordinators n ≡ Some part) (eqb-true txn.0 stamped.txn.0 same) found) in
    let now : up_at (slice_set coordinators txn.0 next) stamped.txn.0 ≡ next.up =
    look_set up_of coordinators txn.0 stamped.txn.0 part next found ∙ ap (λ (d : Bool). if d then up_of next else up_at coordinators stamped.txn.0) same in
    subst (λ (u : Option Coordinator). IfSome u (TurnFits sc sent stamped.turn said)) (sym now) (old (subst (λ (u : Option Coordinator). IfSome u (TurnFits sc sent stamped.turn said)) was h))
stamp_stays sc coordinators txn part next sent said stamped false apart found old h =
    let now : up_at (slice_set coordinators txn.0 next) stamped.txn.0 ≡ up_at coordinators stamped.txn.0 =
    look_set up_of coordinators txn.0 stamped.txn.0 part next found ∙ ap (λ (d : Bool). if d then up_of next else up_at coordinators stamped.txn.0) apart in
    subst (λ (u : Option Coordinator). IfSome u (TurnFits sc sent stamped.turn said)) (sym now) h

-- what the act keeps of mails: it was so of the coordinator before, and is of the one after
abbrev KeepsTurns : Scenario → Option Coordinator → Option Coordinator → Type 0
KeepsTurns sc was now = (sent turn : ℕ) (said : Body) → IfSome was (TurnFits sc sent turn said) → IfSome now (TurnFits sc sent turn said)

body_still : (sc : Scenario) (coordinators : List (Part Coordinator)) (txn : TxnId) (part next : Part Coordinator) (sent : ℕ) (said : Body) → slice_get coordinators txn.0 ≡ Some part → KeepsTurns sc part.up next.up
    → BodyTimely sc coordinators sent said → BodyTimely sc (slice_set coordinators txn.0 next) sent said
body_still sc coordinators txn part next sent said found old h =
    maybe_stays (StampFits sc coordinators sent said) (StampFits sc (slice_set coordinators txn.0 next) sent said) (stamp_of said)
    (λ stamped k. stamp_stays sc coordinators txn part next sent said stamped (same_txn txn stamped.txn) refl found (old sent stamped.turn said) k) h

itself_up : (coordinators : List (Part Coordinator)) (txn : TxnId) (part next : Part Coordinator) → slice_get coordinators txn.0 ≡ Some part → up_at (slice_set coordinators txn.0 next) txn.0 ≡ next.up
itself_up coordinators txn part next found =
    look_set up_of coordinators txn.0 txn.0 part next found ∙ ap (λ (d : Bool). if d then up_of next else up_at coordinators txn.0) (number_itself txn.0)

sent_timely : (sc : Scenario) (coordinators : List (Part Coordinator)) (txn : TxnId) (now : Option Coordinator) (sent : ℕ) (said : Body) → up_at coordinators txn.0 ≡ now
    → IfSome (stamp_of said) (IsOfTurn sc txn now sent said) → BodyTimely sc coordinators sent said
sent_timely sc coordinators txn now sent said e h =
    maybe_stays (IsOfTurn sc txn now sent said) (StampFits sc coordinators sent said) (stamp_of said)
    (λ stamped k. subst (λ (t : TxnId). IfSome (up_at coordinators t.0) (TurnFits sc sent stamped.turn said)) (sym k.own)
    (subst (λ (u : Option Coordinator). IfSome u (TurnFits sc sent stamped.turn said)) (sym e) k.timely)) h

-- what a coordinator that stays sends in its turn is timely
pub own_timely : (sc : Scenario) (coordinators : List (Part Coordinator)) (txn : TxnId) (part : Part Coordinator) (c : Coordinator) (sent : ℕ) (letters : List Letter) → slice_get coordinators txn.0 ≡ Some part → part.up ≡ Some c
    → Each (LetterOfTurn sc txn (Some c) sent) letters → Each (λ (letter : Letter). BodyTimely sc coordinators sent letter.body) letters
own_timely sc coordinators txn part c sent letters found up h =
    each_as (LetterOfTurn sc txn (Some c) sent) (λ (letter : Letter). BodyTimely sc coordinators sent letter.body)
    (λ letter k. sent_timely sc coordinators txn (Some c) sent letter.body (ap (option_and_then up_of) found ∙ up) k) letters h

-- the act of a coordinator, with what the step says by itself; what it rests on is said of the facts after it
pub record ActTrusts (sc : Scenario) (w : State) (txn : TxnId) (was now : Option Coordinator) (own : List What) (append : Option Record) (sent : List Letter) : Type 0 where
  pub says : SaysFit sc (length w.steps) own
  pub fits : (facts : List Fact) → facts ≡ facts_after w (own ++ coordinator_facts append) → IfSome now (CoordinatorFits sc facts (length w.steps + 1))
  pub decides : IfSome append (RecordDecides sc w.facts (length w.steps))
  pub letters : (facts : List Fact) → facts ≡ facts_after w (own ++ coordinator_facts append) → Each (λ (letter : Letter). BodyFits sc facts (length w.steps + 1) (length w.steps) letter.body) sent
  pub timely : Each (LetterOfTurn sc txn now (length w.steps)) sent
  pub old : KeepsTurns sc was now

-- the move of a coordinator whose act fits
pub coordinator_acts_trusts : (sc : Scenario) (w : State) (txn : TxnId) (part : Part Coordinator) (own : List What) (now : Option Coordinator) (append : Option Record) (letters : List Letter)
    → ArePast (length w.steps) w.facts → Trusts sc w → slice_get w.actors.coordinators txn.0 ≡ Some part → ActTrusts sc w txn part.up now own append letters
    → MoveTrusts sc w (coordinator_move w.actors txn (acts coordinator_fact own part.log now (log_with part.log append) letters))
coordinator_acts_trusts sc w txn part own now append letters past h found t =
    let place = length w.steps in
    let happened = own ++ flat_map coordinator_fact (drop (length part.log) (log_with part.log append)) in
    let tells : happened ≡ own ++ coordinator_facts append = ap (λ (xs : List What). own ++ xs) (gained coordinator_fact part.log append) in
    let after = facts_after w happened in
    let after_is : after ≡ facts_after w (own ++ coordinator_facts append) = ap (facts_after w) tells in
    let l = later_with_facts w happened (place + 1) (omega arith) in
    let next : Part Coordinator = record { up = now; log = log_with part.log append } in
    let coordinators = slice_set w.actors.coordinators txn.0 next in
    let quiet : Each IsStill happened = subst (Each IsStill) (sym tells) (each_append IsStill own (coordinator_facts append) t.says.still (coordinator_facts_still append)) in
    let still : (sent : ℕ) (said : Body) → BodyTimely sc w.actors.coordinators sent said → BodyTimely sc coordinators sent said =
    λ sent said k. body_still sc w.actors.coordinators txn part next sent said found t.old k in
    record {
      authority = authority_stays sc w happened w.actors.authority past quiet h.authority;
      master = master_stays sc w happened w.actors.master past quiet h.master;
      servers = λ n p e. server_part_stays sc w.facts after place (place + 1) (Timely sc w.actors.coordinators) (Timely sc coordinators) (record { 0 = n }) p l (λ said k sent. still sent said (k sent)) (h.servers n p e);
      coordinators = at_set (λ (n : ℕ) (p : Part Coordinator). CoordinatorPartFits sc after (place + 1) p) w.actors.coordinators txn.0 next
          (λ n p e. coordinator_up_stays sc w.facts after place (place + 1) p.up l (h.coordinators n p e)) (t.fits after after_is);
      letters = t.letters after after_is;
      old_timely = each_as (MailTimely sc w.actors.coordinators) (MailTimely sc coordinators) (λ mail k. still mail.sent mail.letter.body k) w.mails h.mails_timely;
      new_timely = each_as (LetterOfTurn sc txn now place) (λ (letter : Letter). BodyTimely sc coordinators place letter.body)
          (λ letter k. sent_timely sc coordinators txn now place letter.body (itself_up w.actors.coordinators txn part next found) k) letters t.timely;
      facts = subst (Each (WhatFits sc after place)) (sym tells)
          (each_append (WhatFits sc after place) own (coordinator_facts append) (t.says.fit after) (coordinator_facts_fit sc w.facts after place append (later_with_facts w happened place (omega arith)) t.decides));
    }

-- an act that rests on the facts before it alone
pub act_trusts : (sc : Scenario) (w : State) (txn : TxnId) (was now : Option Coordinator) (own : List What) (append : Option Record) (letters : List Letter) → SaysFit sc (length w.steps) own
    → CoordinatorTrusts sc w.facts (length w.steps) txn was now append letters → ActTrusts sc w txn was now own append letters
act_trusts sc w txn was now own append letters says t =
    let place = length w.steps in
    let later : (facts : List Fact) → facts ≡ facts_after w (own ++ coordinator_facts append) → Later w.facts facts place (place + 1) =
    λ facts e. subst (λ (fs : List Fact). Later w.facts fs place (place + 1)) (sym e) (later_with_facts w (own ++ coordinator_facts append) (place + 1) (omega arith)) in
    record {
      says = says;
      fits = λ facts e. coordinator_up_stays sc w.facts facts place (place + 1) now (later facts e) t.fits;
      decides = t.decides;
      letters = λ facts e. letters_stay sc w.facts facts place (place + 1) place letters (later facts e) (t.says place);
      timely = t.timely place;
      old = t.old;
    }

-- ---- the authority

-- the authority's answer is right at its place
tell_fits : (sc : Scenario) (w : State) (ask : AskRequest) (happened : List What) → Agrees sc w → AuthorityFits sc w.facts (length w.steps) w.actors.authority → IsSubmitted w.facts ask.txn
    → StapleFits sc (facts_after w happened) (length w.steps + 1) ask.txn (record { place = length w.steps; clock = w.actors.authority.clock; revoked = office.revocations w.actors.authority.revoked })
tell_fits sc w ask happened a h submitted =
    let place = length w.steps in
    let l = later_with_facts w happened (place + 1) (omega arith) in
    let same : before place (facts_after w happened) ≡ before place w.facts = l.grows.same place (omega arith) in
    record {
      clock_is = h.clock_is ∙ ap (λ (earlier : List Fact). sc.clock + sum_by tick_of earlier) (sym same);
      revoked_is = λ cred. h.revoked_is cred ∙ ap (λ (earlier : List Fact). is_among (filter_map revoked_by earlier) cred) (sym same);
      begun = ap (list_any (is_submission ask.txn)) (same ∙ before_past place w.facts a.past) ∙ submitted;
      past = omega arith;
    }

-- what the authority sends fits
pub tells_fit : (sc : Scenario) (w : State) (said : Body) (sent : ℕ) → Agrees sc w → AuthorityFits sc w.facts (length w.steps) w.actors.authority → BodyFits sc w.facts (length w.steps) sent said
    → Each (λ (letter : Letter). BodyFits sc (facts_after w []) (length w.steps + 1) (length w.steps) letter.body) (office.on_body w.actors.authority said).reaction.letters
tells_fit sc w (body.Ask ask) sent a h m = (tell_fits sc w ask [] a h m, tt)
tells_fit sc w _ sent a h m = tt

tell_now : (c : Coordinator) (awaited : Phase) (place : ℕ) → IsAbove place c.instances c.gathered → TellNow c awaited place
tell_now c (phase.Stapling number) place h = h
tell_now c (phase.Asking over round) place h = h
tell_now c _ place h = tt

pub both_up_in_trust : (P Q R : Coordinator → Type 0) (up : Option Coordinator) → ((c : Coordinator) → P c → Q c → R c) → IfSome up P → IfSome up Q → IfSome up R
both_up_in_trust P Q R None step p q = tt
both_up_in_trust P Q R (Some c) step p q = step c p q

-- what is known of the coordinator of a transaction where it is up
up_fits : (sc : Scenario) (w : State) (n : ℕ) (found : Option (Part Coordinator)) → Trusts sc w → slice_get w.actors.coordinators n ≡ found → IfSome (option_and_then up_of found) (CoordinatorFits sc w.facts (length w.steps))
up_fits sc w n None h e = tt
up_fits sc w n (Some part) h e = h.coordinators n part e

-- and is timely where its request is: all that its coordinator has closed is of the past
pub tells_timely : (sc : Scenario) (w : State) (said : Body) (sent : ℕ) → Trusts sc w → BodyTimely sc w.actors.coordinators sent said
    → Each (λ (letter : Letter). BodyTimely sc w.actors.coordinators (length w.steps) letter.body) (office.on_body w.actors.authority said).reaction.letters
tells_timely sc w (body.Ask ask) sent h m =
    let place = length w.steps in
    let tell = body.Tell (record { txn = ask.txn; turn = ask.turn; clock = w.actors.authority.clock; revoked = office.revocations w.actors.authority.revoked }) in (
      both_up_in_trust (CoordinatorFits sc w.facts place) (TurnFits sc sent ask.turn (body.Ask ask)) (TurnFits sc place ask.turn tell) (up_at w.actors.coordinators ask.txn.0)
          (λ c fits k unsure. record { past = (k unsure).past; now = λ same. tell_now c c.phase place (fits.above unsure) })
          (up_fits sc w ask.txn.0 (slice_get w.actors.coordinators ask.txn.0) h refl) m,
      tt,
    )
tells_timely sc w _ sent h m = tt
