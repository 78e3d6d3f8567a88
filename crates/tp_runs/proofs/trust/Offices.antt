-- The offices: the clock moves, credentials are revoked, and the master publishes, pushes and answers.
use Rattle.std.proofs.Math.Bool.{or-false, or_comm}
use Rattle.std.proofs.lemmas.List.{append-nil, length-map, length-set}
use Rattle.std.proofs.lemmas.List.Folds.{list_any-append}
use Rattle.std.proofs.Common.{Bool, IfSome, List, None, Option, Some, [], true, false, ap, arith, cond, get_or, if◌then◌else◌, length, option_and_then, refl, replicate, slice_get, slice_set, subst, suc, sym, unwrap_or, zero, ℕ, ◌+◌, ◌<◌, ◌==◌, ◌||◌, ◌∙◌, ◌∷◌, ◌≡◌, ◌≤◌}
use Rattle.std.specs.List.{count_by, list_any, sum_by}
use Rattle.std.proofs.lemmas.List.Sums.{sum_by-cons}
use Rattle.std.proofs.lemmas.Bool.{eqb-true}
use Rattle.std.proofs.lemmas.Option.{slice_get-get_or, slice_get-map, slice_get_within}
use Rattle.tp_model.specs.Credentials.{is_among, revoked_at, tick_of}
use Rattle.tp_model.specs.Facts.{before, is_submission}
use Rattle.tp_model.specs.Ids.{same_cred}
use Rattle.tp_model.specs.Versions.{is_publication, newest, opening_version}
use Rattle.tp_model.specs.Words.{AdminId, Body, CredId, Fact, Letter, NewestReply, Scenario, ServerId, Transaction, TxnId, Verdict, Version, What}
use Rattle.tp_model.specs.Words.body
use Rattle.tp_model.specs.Words.what
use Rattle.std.specs.Option.{option_flatten}
use Rattle.tp_offices.specs.Authority as office
use Rattle.tp_offices.specs.Master as master
use Rattle.tp_offices.specs.Master.{version_for}
use Rattle.tp_offices.specs.declared.authority.Authority.{Authority}
use Rattle.tp_offices.specs.declared.master.Master.{Master}
use Rattle.tp_machine.specs.Machine.{State, facts_of, publishes, revokes, ticks as moves}
use Rattle.tp_types.specs.Each.{Each}
use Rattle.tp_machine.specs.Named.{IsAdmin, IsCred}
use Rattle.tp_runs.proofs.basics.Facts.{ArePast, before_past, facts_after}
use Rattle.tp_types.proofs.EachLemmas.{each_as, each_both, missing, placed_set}
use Rattle.tp_runs.proofs.basics.Logs.{get_set}
use Rattle.tp_runs.proofs.trust.Causes.{mets_past}
use Rattle.tp_runs.proofs.trust.Fit.{AuthorityFits, BodyFits, Right, newest_rises}
use Rattle.tp_runs.proofs.trust.Phases.{PhaseFits}
use Rattle.tp_runs.proofs.trust.Rounds.{RoundFits, proofs_right}
use Rattle.tp_coord.specs.declared.coordinator.Span.{Span}
use Rattle.tp_runs.proofs.trust.Acts.{both_up_in_trust}
use Rattle.tp_runs.proofs.trust.Coordinator.{CoordinatorFits}
use Rattle.tp_runs.proofs.ids.Coordinator.{replies_sound}
use Rattle.tp_runs.proofs.basics.Phases.{is_undecided}
use Rattle.tp_runs.proofs.basics.Turns.{AreUpTo, IsReadAfter, IsReadIn, NewestNow, TurnFits}
use Rattle.tp_runs.specs.Sound.{IsSound, IsSoundCoordinator, IsSoundCoordinatorUp, IsSoundPhase, IsSoundProof, IsSoundRound, IsSoundVerdict}
use Rattle.tp_round.specs.Replies.{proofs_in}
use Rattle.tp_round.specs.declared.round.Round.{Round}
use Rattle.tp_coord.specs.State.{Coordinator}
use Rattle.tp_coord.specs.declared.coordinator.Phase.TheVariants as phase
use Rattle.tp_coord.specs.declared.coordinator.Phase.{Phase}
use Rattle.tp_machine.specs.Parts.{Part}
use Rattle.tp_runs.proofs.trust.World.{BodyTimely, MasterFits, MoveTrusts, Timely, Trusts, WhatFits, authority_kept, clock_after, coordinator_up_stays, later_with_facts, master_kept, newest_after, revoked_after, server_part_stays, up_at, up_of}

-- ---- one credential more

-- a place that is set gives its credential beside the others
revoked_more : (places : List (Option CredId)) (first n : ℕ) (cred other : CredId) → ((m : ℕ) (found : CredId) → option_flatten (slice_get places m) ≡ Some found → found.0 ≡ first + m) → n < length places
    → cred.0 ≡ first + n → is_among (office.revocations (slice_set places n (Some cred))) other ≡ (is_among (office.revocations places) other || same_cred other cred)
revoked_more [] first n cred other placed within own = absurd (omega (arith, within))
revoked_more (None ∷ places) first zero cred other placed within own =
    or_comm (same_cred other cred) (is_among (office.revocations places) other)
revoked_more (Some old ∷ places) first zero cred other placed within own =
    let was : old.0 ≡ first + 0 = placed 0 old refl in
    let number : old.0 ≡ cred.0 = omega (arith, was, own) in
    again (same_cred other old) (same_cred other cred) (is_among (office.revocations places) other) (ap (λ (m : ℕ). other.0 == m) number)
  where
    again : (a b c : Bool) → a ≡ b → (b || c) ≡ ((a || c) || b)
    again a b c e = grind arith
revoked_more (None ∷ places) first (suc n) cred other placed within own =
    revoked_more places (first + 1) n cred other (λ m found e. let p = placed (suc m) found e in omega (arith, p)) (omega (arith, within)) (omega (arith, own))
revoked_more (Some old ∷ places) first (suc n) cred other placed within own =
    further (same_cred other old) _ (is_among (office.revocations places) other) (same_cred other cred)
    (revoked_more places (first + 1) n cred other (λ m found e. let p = placed (suc m) found e in omega (arith, p)) (omega (arith, within)) (omega (arith, own)))
  where
    further : (a now was c : Bool) → now ≡ (was || c) → (a || now) ≡ ((a || was) || c)
    further a now was c e = grind arith

-- before the first step nothing is revoked
pub none_revoked : (count : ℕ) (cred : CredId) → is_among (office.revocations (replicate count None)) cred ≡ false
none_revoked zero cred = refl
none_revoked (suc count) cred = none_revoked count cred

-- ---- the authority after it was told

ticked_fits : (sc : Scenario) (w : State) (by : ℕ) (authority : Authority) → ArePast (length w.steps) w.facts → AuthorityFits sc w.facts (length w.steps) authority
    → AuthorityFits sc (facts_after w (what.Ticked by ∷ [])) (length w.steps + 1) (office.after_tick by authority)
ticked_fits sc w by authority past h =
    let place = length w.steps in
    let happened = what.Ticked by ∷ [] in
    let clock = clock_after sc w happened past in
    let one : sum_by tick_of (record { place = place; what = what.Ticked by } ∷ []) ≡ by + 0 = sum_by-cons tick_of (record { place = place; what = what.Ticked by }) [] in
    let was = h.clock_is in
    record {
      clock_is = omega (arith, was, clock, one);
      revoked_is = λ cred. h.revoked_is cred ∙ ap (λ (revoked : List CredId). is_among revoked cred) (sym (revoked_after w happened past ∙ append-nil (revoked_at place w.facts)));
      placed = h.placed;
      places = h.places;
    }

revoked_fits : (sc : Scenario) (w : State) (cred : CredId) (authority : Authority) → IsCred sc cred → ArePast (length w.steps) w.facts → AuthorityFits sc w.facts (length w.steps) authority
    → AuthorityFits sc (facts_after w (what.Revoked cred ∷ [])) (length w.steps + 1) (office.after_revocation cred authority)
revoked_fits sc w cred authority exists past h =
    let place = length w.steps in
    let happened = what.Revoked cred ∷ [] in
    let clock = clock_after sc w happened past in
    let none : sum_by tick_of (record { place = place; what = what.Revoked cred } ∷ []) ≡ 0 + 0 = sum_by-cons tick_of (record { place = place; what = what.Revoked cred }) [] in
    let was = h.clock_is in
    let count = h.places in
    record {
      clock_is = omega (arith, was, clock, none);
      revoked_is = λ other.
          revoked_more authority.revoked 0 cred.0 cred other (λ m found e. let p = h.placed m found e in omega (arith, p)) (omega (arith, exists, count)) (omega arith)
          ∙ (ap (λ (b : Bool). b || same_cred other cred) (h.revoked_is other)
          ∙ sym (ap (λ (revoked : List CredId). is_among revoked other) (revoked_after w happened past)
          ∙ (list_any-append (same_cred other) (revoked_at place w.facts) (cred ∷ []) ∙ ap (λ (b : Bool). is_among (revoked_at place w.facts) other || b) (or-false (same_cred other cred)))));
      placed = placed_set (λ (n : ℕ) (found : CredId). found.0 ≡ n) authority.revoked cred.0 cred h.placed refl;
      places = length-set authority.revoked cred.0 (Some cred) ∙ count;
    }

-- ---- the master after a publication

-- a publication raises the newest version of its administrator by one, and no other
raised_by_one : (versions : List Version) (n m before : ℕ) (b : Bool) → (n == m) ≡ b → (unwrap_or (slice_get versions m) (record { 0 = 0 })).0 ≡ before
    → (unwrap_or (if b then Some (record { 0 = (unwrap_or (slice_get versions n) (record { 0 = 0 })).0 + 1 }) else slice_get versions m) (record { 0 = 0 })).0 ≡ before + (cond b 1 0 + 0)
raised_by_one versions n m before true e was =
    let same : (unwrap_or (slice_get versions n) (record { 0 = 0 })).0 ≡ (unwrap_or (slice_get versions m) (record { 0 = 0 })).0 = ap (λ (k : ℕ). (unwrap_or (slice_get versions k) (record { 0 = 0 })).0) (eqb-true n m e) in
    omega (arith, same, was)
raised_by_one versions n m before false e was = omega (arith, was)

published_fits : (sc : Scenario) (w : State) (admin : AdminId) (held : Master) → IsAdmin sc admin → ArePast (length w.steps) w.facts → MasterFits sc w.facts (length w.steps) held
    → MasterFits sc (facts_after w (what.Published admin (master.next_of held admin) ∷ [])) (length w.steps + 1) (master.after_publication admin held)
published_fits sc w admin held exists past h =
    let place = length w.steps in
    let next = master.next_of held admin in
    let happened = what.Published admin next ∷ [] in
    record {
      newest_is = λ other within.
          let same = admin.0 == other.0 in
          let before = newest sc other place w.facts in
          let one : count_by (is_publication other) (facts_of place happened) ≡ cond same 1 0 + 0 =
          sum_by-cons (λ (fact : Fact). cond (is_publication other fact) 1 0) (record { place = place; what = what.Published admin next }) [] in
          let there : slice_get held.newest admin.0 ≡ Some (get_or held.newest admin.0 next) = slice_get-get_or held.newest admin.0 next (omega (arith, exists, h.places)) in
          ap (λ (found : Option Version). (unwrap_or found (record { 0 = 0 })).0) (get_set held.newest admin.0 other.0 (get_or held.newest admin.0 next) next there)
          ∙ (raised_by_one held.newest admin.0 other.0 before same refl (h.newest_is other within)
          ∙ sym (newest_after sc w happened other past ∙ ap (λ (more : ℕ). before + more) one));
      places = length-set held.newest admin.0 next ∙ h.places;
    }

-- ---- the move

-- the offices alone act
offices_trust : (sc : Scenario) (w : State) (authority : Authority) (held : Master) (happened : List What) → Trusts sc w → AuthorityFits sc (facts_after w happened) (length w.steps + 1) authority
    → MasterFits sc (facts_after w happened) (length w.steps + 1) held → ((facts : List Fact) → Each (WhatFits sc facts (length w.steps)) happened)
    → MoveTrusts sc w (record { actors = record w.actors { authority = authority; master = held }; happened = happened; letters = [] })
offices_trust sc w authority held happened h fits master_fits facts =
    let place = length w.steps in
    let T = Timely sc w.actors.coordinators in
    let l = later_with_facts w happened (place + 1) (omega arith) in
    record {
      authority = fits;
      master = master_fits;
      servers = λ n part e. server_part_stays sc w.facts (facts_after w happened) place (place + 1) T T (record { 0 = n }) part l (λ said t. t) (h.servers n part e);
      coordinators = λ n part e. coordinator_up_stays sc w.facts (facts_after w happened) place (place + 1) part.up l (h.coordinators n part e);
      letters = tt;
      old_timely = h.mails_timely;
      new_timely = tt;
      facts = facts (facts_after w happened);
    }

pub ticked_trusts : (sc : Scenario) (w : State) (by : ℕ) → ArePast (length w.steps) w.facts → Trusts sc w → MoveTrusts sc w (moves w.actors by)
ticked_trusts sc w by past h =
    let happened = what.Ticked by ∷ [] in
    offices_trust sc w (office.after_tick by w.actors.authority) w.actors.master happened h (ticked_fits sc w by w.actors.authority past h.authority)
    (master_kept sc w happened w.actors.master past (λ admin. sum_by-cons (λ (fact : Fact). cond (is_publication admin fact) 1 0) (record { place = length w.steps; what = what.Ticked by }) []) h.master) (λ facts. (tt, tt))

pub revoked_trusts : (sc : Scenario) (w : State) (cred : CredId) → IsCred sc cred → ArePast (length w.steps) w.facts → Trusts sc w → MoveTrusts sc w (revokes w.actors cred)
revoked_trusts sc w cred exists past h =
    let happened = what.Revoked cred ∷ [] in
    offices_trust sc w (office.after_revocation cred w.actors.authority) w.actors.master happened h (revoked_fits sc w cred w.actors.authority exists past h.authority)
    (master_kept sc w happened w.actors.master past (λ admin. sum_by-cons (λ (fact : Fact). cond (is_publication admin fact) 1 0) (record { place = length w.steps; what = what.Revoked cred }) []) h.master) (λ facts. (tt, tt))

pub published_trusts : (sc : Scenario) (w : State) (admin : AdminId) → IsAdmin sc admin → ArePast (length w.steps) w.facts → Trusts sc w → MoveTrusts sc w (publishes w.actors admin)
published_trusts sc w admin exists past h =
    let happened = what.Published admin (master.next_of w.actors.master admin) ∷ [] in
    offices_trust sc w w.actors.authority (master.after_publication admin w.actors.master) happened h (authority_kept sc w happened w.actors.authority past
    (sum_by-cons tick_of (record { place = length w.steps; what = what.Published admin (master.next_of w.actors.master admin) }) []) refl h.authority)
    (published_fits sc w admin w.actors.master exists past h.master) (λ facts. (tt, tt))

-- ---- what the master sends

-- what the master answers is the newest versions at its place, after the submission
pub newest_fits : (sc : Scenario) (w : State) (said : Body) (sent : ℕ) → ArePast (length w.steps) w.facts → MasterFits sc w.facts (length w.steps) w.actors.master → BodyFits sc w.facts (length w.steps) sent said
    → Each (λ (letter : Letter). BodyFits sc (facts_after w []) (length w.steps + 1) (length w.steps) letter.body) (master.on_body w.actors.master said).reaction.letters
newest_fits sc w (body.Probe probe) sent past h m =
    let place = length w.steps in
    let l = later_with_facts w [] (place + 1) (omega arith) in
    let same : before place (facts_after w []) ≡ before place w.facts = l.grows.same place (omega arith) in (
      record {
        newest_is = λ admin exists. h.newest_is admin exists ∙ ap (λ (earlier : List Fact). (opening_version sc admin).0 + count_by (is_publication admin) earlier) (sym same);
        begun = ap (list_any (is_submission probe.txn)) (same ∙ before_past place w.facts past) ∙ m;
        past = omega arith;
      },
      tt,
    )
newest_fits sc w _ sent past h m = tt

-- a right verdict has no version above the one that the master knows
no_newer : (sc : Scenario) (facts : List Fact) (place : ℕ) (txn : TxnId) (held : Master) (verdict : Verdict) (declared : Transaction) → MasterFits sc facts place held → slice_get sc.txns txn.0 ≡ Some declared
    → IsSoundVerdict sc txn verdict → Right sc facts place txn verdict → verdict.version.0 ≤ (version_for held.newest verdict.admin).0
no_newer sc facts place txn held verdict declared h found sound right =
    let within : verdict.admin.0 < length sc.admins = slice_get_within sc.admins verdict.admin.0 sound.version.declared sound.version.declared_is in
    omega (arith, h.newest_is verdict.admin within, (right declared found).published)

are_up_to : (sc : Scenario) (facts : List Fact) (place : ℕ) (txn : TxnId) (held : Master) (verdicts : List Verdict) (declared : Transaction) → MasterFits sc facts place held → slice_get sc.txns txn.0 ≡ Some declared
    → Each (IsSoundVerdict sc txn) verdicts → Each (Right sc facts place txn) verdicts → AreUpTo held.newest verdicts
are_up_to sc facts place txn held verdicts declared h found sound right =
    each_both (IsSoundVerdict sc txn) (Right sc facts place txn) (λ (verdict : Verdict). verdict.version.0 ≤ (version_for held.newest verdict.admin).0)
    (λ verdict s r. no_newer sc facts place txn held verdict declared h found s r) verdicts sound right

-- what the master knows is no less than what a coordinator has gathered
read_after : (sc : Scenario) (facts : List Fact) (place : ℕ) (held : Master) (c : Coordinator) (declared : Transaction) → MasterFits sc facts place held → slice_get sc.txns c.txn.0 ≡ Some declared
    → IsSoundCoordinator sc c → CoordinatorFits sc facts place c → is_undecided c.phase ≡ true → IsReadAfter place held.newest c.instances c.gathered
read_after sc facts place held c declared h found sound fits unsure =
    record {
      above = fits.above unsure;
      up_to = are_up_to sc facts place c.txn held c.gathered declared h found
          (each_as (IsSoundProof sc c.txn) (IsSoundVerdict sc c.txn) (λ proof p. p.sound) c.gathered sound.gathered) (fits.so_far unsure declared found).right;
    }

-- nor than the replies of a round, and all that rounds met is of the past
read_in : (sc : Scenario) (facts : List Fact) (place : ℕ) (txn : TxnId) (over : Span) (held : Master) (round : Round) (declared : Transaction) → MasterFits sc facts place held → slice_get sc.txns txn.0 ≡ Some declared
    → IsSoundRound sc txn round → RoundFits sc facts place txn over round → IsReadIn place held.newest round
read_in sc facts place txn over held round declared h found sound fits =
    let right : Each (Right sc facts place txn) (proofs_in round.targets) = proofs_right sc facts place txn over round fits in
    record {
      replies = each_as (Right sc facts place txn) (λ (verdict : Verdict). verdict.place < place) (λ verdict r. (r declared found).past) (proofs_in round.targets) right;
      up_to = are_up_to sc facts place txn held (proofs_in round.targets) declared h found (replies_sound sc txn round.targets sound.targets) right;
      mets = mets_past sc txn place facts declared round.mets (fits.mets declared found).shown;
    }

newest_now : (sc : Scenario) (facts : List Fact) (place : ℕ) (held : Master) (c : Coordinator) (awaited : Phase) (reply : NewestReply) (declared : Transaction) → reply.newest ≡ held.newest → MasterFits sc facts place held
    → slice_get sc.txns c.txn.0 ≡ Some declared → IsReadAfter place held.newest c.instances c.gathered → IsSoundPhase sc c.txn awaited → PhaseFits sc facts place c.txn awaited → NewestNow c awaited place reply
newest_now sc facts place held c (phase.Probing number) reply declared told h found after sound fits = subst (λ (newest : List Version). IsReadAfter place newest c.instances c.gathered) (sym told) after
newest_now sc facts place held c (phase.Reading over round) reply declared told h found after sound fits =
    subst (λ (newest : List Version). IsReadAfter place newest c.instances c.gathered × IsReadIn place newest round) (sym told)
    (after, read_in sc facts place c.txn over held round declared h found sound.1 fits.1)
newest_now sc facts place held c phase.VoteProbing reply declared told h found after sound fits = subst (λ (newest : List Version). IsReadAfter place newest c.instances c.gathered) (sym told) after
newest_now sc facts place held c _ reply declared told h found after sound fits = tt

-- so what the master tells holds now
told_now : (sc : Scenario) (facts : List Fact) (place : ℕ) (held : Master) (c : Coordinator) (reply : NewestReply) → reply.newest ≡ held.newest → MasterFits sc facts place held → IsSoundCoordinator sc c
    → CoordinatorFits sc facts place c → is_undecided c.phase ≡ true → NewestNow c c.phase place reply
told_now sc facts place held c reply told h sound fits unsure = by_txn (slice_get sc.txns c.txn.0) refl
  where
    by_txn : (declared : Option Transaction) → slice_get sc.txns c.txn.0 ≡ declared → NewestNow c c.phase place reply
    by_txn None e = absurd (missing sc.txns c.txn.0 sound.exists e)
    by_txn (Some declared) e = newest_now sc facts place held c c.phase reply declared told h e (read_after sc facts place held c declared h e sound fits unsure) sound.awaits fits.awaits

-- what is known of a coordinator that is up
pub record IsKnown (sc : Scenario) (facts : List Fact) (place : ℕ) (c : Coordinator) : Type 0 where
  pub sound : IsSoundCoordinator sc c
  pub fits : CoordinatorFits sc facts place c

up_known : (sc : Scenario) (w : State) (n : ℕ) (found : Option (Part Coordinator)) → IsSound sc w → Trusts sc w → slice_get w.actors.coordinators n ≡ found
    → IfSome (option_and_then up_of found) (IsKnown sc w.facts (length w.steps))
up_known sc w n None sound h e = tt
up_known sc w n (Some part) sound h e =
    both_up_in_trust (IsSoundCoordinatorUp sc (record { 0 = n })) (CoordinatorFits sc w.facts (length w.steps)) (IsKnown sc w.facts (length w.steps)) part.up
    (λ c s f. record { sound = s.sound; fits = f }) (sound.actors_are.coordinators n part e).state (h.coordinators n part e)

-- the master's answer is of the turn of its request, and what it says holds now where that turn is the present one
pub newest_timely : (sc : Scenario) (w : State) (said : Body) (sent : ℕ) → IsSound sc w → Trusts sc w → BodyTimely sc w.actors.coordinators sent said
    → Each (λ (letter : Letter). BodyTimely sc w.actors.coordinators (length w.steps) letter.body) (master.on_body w.actors.master said).reaction.letters
newest_timely sc w (body.Probe probe) sent sound h m =
    let place = length w.steps in
    let reply : NewestReply = record { txn = probe.txn; turn = probe.turn; newest = w.actors.master.newest } in (
      both_up_in_trust (IsKnown sc w.facts place) (TurnFits sc sent probe.turn (body.Probe probe)) (TurnFits sc place probe.turn (body.Newest reply)) (up_at w.actors.coordinators probe.txn.0)
          (λ c known k unsure. record { past = (k unsure).past; now = λ same. told_now sc w.facts place w.actors.master c reply refl h.master known.sound known.fits unsure })
          (up_known sc w probe.txn.0 (slice_get w.actors.coordinators probe.txn.0) sound h refl) m,
      tt,
    )
newest_timely sc w _ sent sound h m = tt

-- a version that is pushed is the newest
pub pushed_fits : (sc : Scenario) (w : State) (admin : AdminId) (server : ServerId) → IsAdmin sc admin → Trusts sc w
    → Each (λ (letter : Letter). BodyFits sc (facts_after w []) (length w.steps + 1) (length w.steps) letter.body) (master.pushes w.actors.master admin server).reaction.letters
pushed_fits sc w admin server exists h =
    let rises = newest_rises sc admin w.facts (facts_after w []) (length w.steps) (length w.steps + 1) (later_with_facts w [] (length w.steps + 1) (omega arith)) in
    (omega (arith, h.master.newest_is admin exists, rises), tt)

-- ---- before the first step

-- the master knows the versions with which the administrators begin
pub opening_fits : (sc : Scenario) → MasterFits sc [] 0 (master.opening sc)
opening_fits sc =
    record {
      newest_is = λ admin exists.
          let begun : (master.version_for (master.opening sc).newest admin).0 ≡ (opening_version sc admin).0 = ap (λ (found : Option Version). (unwrap_or found (record { 0 = 0 })).0) (slice_get-map master.opening_in sc.admins admin.0) in
          omega (arith, begun);
      places = length-map sc.admins master.opening_in;
    }
