-- Trust, the coordinator's rounds, over the queries so far or at commit: requests go with the staple, replies are kept, the master is read
-- after them, and a round that is judged goes on, aborts, or asks the servers that are out of date again.
use Rattle.std.proofs.Common.{IfSome, List, None, Option, Some, [], ap, arith, false, is_some, length, map, option_map, refl, slice_get, subst, sym, true, ℕ, ⊎_elim, ◌++◌, ◌+◌, ◌-◌, ◌<◌, ◌∙◌, ◌∷◌, ◌≡◌, ◌≤◌}
use Rattle.std.proofs.lemmas.Bool.{and_parts, eqb-true}
use Rattle.std.specs.List.{range_with_len}
use Rattle.tp_types.proofs.EachLemmas.{each_append, each_as, each_flat_map, missing}
use Rattle.tp_types.specs.Each.{Each}
use Rattle.tp_model.specs.Causes.{denies_at_newest}
use Rattle.tp_model.specs.Demand.{is_incremental}
use Rattle.tp_model.specs.Levels.{is_global, level_of, reads_master}
use Rattle.tp_model.specs.Words.{Actor, Body, Cause, Fact, Instance, Letter, Mail, Met, NewestReply, Reading, Scenario, Scheme, ServerId, Staple, Transaction, TxnId, Verdict, VerdictsReply, Vote, VoteReply}
use Rattle.tp_model.specs.Words.actor
use Rattle.tp_model.specs.Words.body
use Rattle.tp_model.specs.Words.cause
use Rattle.tp_model.specs.Words.outcome
use Rattle.tp_model.specs.Words.scheme
use Rattle.tp_model.specs.Words.vote
use Rattle.tp_coord.proofs.Rows.{ByReading, ByReplies, ByVerdicts, ByVote, IsJudged, IsReading, IsReply, IsShown, IsYes, gains_instances}
use Rattle.tp_coord.specs.Opened.{servers_at}
use Rattle.tp_coord.specs.Row.{asks, awaits_vote, checks, closes, commit_record, commits, denied_by, instances_with, next_turn, place_of, prepare_request, probes, reading_of, round_letter, stays, validate_request, want_for}
use Rattle.tp_coord.specs.State.{Coordinator}
use Rattle.tp_coord.specs.declared.coordinator.Phase.{Phase}
use Rattle.tp_coord.specs.declared.coordinator.Phase.TheVariants as phase
use Rattle.tp_coord.specs.declared.coordinator.Span.{Span}
use Rattle.tp_coord.specs.declared.coordinator.Span.TheVariants as span
use Rattle.tp_machine.specs.Named.{IsTxn}
use Rattle.tp_round.specs.Judge.{after_judgement, after_reply, judge}
use Rattle.tp_round.specs.Replies.{by_query, proofs_in, verdicts_in}
use Rattle.tp_round.specs.declared.round.Judged.TheVariants as judged
use Rattle.tp_round.specs.declared.round.Round.{Round}
use Rattle.tp_round.specs.declared.round.Target.{Target}
use Rattle.tp_round.specs.declared.round.Wanted.{Wanted}
use Rattle.tp_scheme.specs.declared.moves.Point.TheVariants as point
use Rattle.tp_runs.proofs.basics.Homes.{HaveHomes, next_is}
use Rattle.tp_runs.proofs.basics.Ids.{same_txn_from}
use Rattle.tp_runs.proofs.basics.Passed.{reply_checking}
use Rattle.tp_runs.proofs.basics.Phases.{ceiling_in, is_undecided, until_asked, until_round, until_validation}
use Rattle.tp_runs.proofs.basics.Rounds.{each_by_query, missing_in}
use Rattle.tp_runs.proofs.basics.Turns.{AreEarlier, AreFew, IsAbove, IsEarlierInstance, IsOfPast, IsTimely, NewestNow, Now, PrepareNow, ValidateNow, VerdictsNow, VoteNow, WantNow, end_move, further_move, low_round, low_validation, number_within, query_count, raised, turn_rises}
use Rattle.tp_runs.proofs.ids.Valid.{IsValid}
use Rattle.tp_runs.proofs.pairs.Actors.{BodyPairs, VerdictsFrom, VoteFrom, asker_of, asker_up, site_of}
use Rattle.tp_runs.proofs.pairs.CoordinatorRows.{PhaseNumbered, undecided_asker}
use Rattle.tp_runs.proofs.pairs.Fits.{AreUpto, VerdictsLive}
use Rattle.tp_runs.proofs.pairs.Fits as PairVote
use Rattle.tp_runs.proofs.pairs.Pair.{Asker, Pair}
use Rattle.tp_runs.proofs.pairs.Site.{upto}
use Rattle.tp_runs.proofs.trust.Coordinator.{AreSoFar, CauseFits, CoordinatorFits, IsHeard, LetterOfTurn, PresentMail, RowTrusts, declared_there, moved_on, orders_fit, orders_timely, phase_fits, turn_low}
use Rattle.tp_runs.proofs.trust.Fit.{BodyFits, IsSubmitted, NewestFits, Right, StapleFits, VoteFits, maybe_stays}
use Rattle.tp_runs.proofs.trust.Fronts.{take_length}
use Rattle.tp_runs.proofs.trust.Instances.{AreAbove, IsNext, IsSoFar, IsTimelyReading, closed_before_last, closed_in, closing_commit, gathered_in, next_closed, so_far_on, validated_next}
use Rattle.tp_runs.proofs.trust.Phases.{IsMadeAfter, IsRepliedAfter, PhaseFits, Suits, SuitsSpan}
use Rattle.tp_runs.proofs.trust.Points.{AfterValidation, closed_later, gathered_past}
use Rattle.tp_runs.proofs.trust.Queries.{PassedStands, counted_is, none_new, query_declared}
use Rattle.tp_runs.proofs.trust.RoundAims.{round_updated, updated_keeps}
use Rattle.tp_runs.proofs.trust.RoundMets.{JudgedFits, round_spent}
use Rattle.tp_runs.proofs.trust.RoundProofs.{round_closes}
use Rattle.tp_runs.proofs.trust.RoundReadings.{reading_fits, round_agrees, round_denies_newest}
use Rattle.tp_runs.proofs.trust.Rounds.{AimedReply, AreNumbersAt, RoundFits, few_rounds, replied_each, round_denies, round_replied, round_wants, want_published}
use Rattle.tp_runs.specs.Sound.{IsQuery, IsSoundBody, IsSoundNewest, IsSoundPhase, IsSoundSpan}

-- ---- what is known of a coordinator

-- what the other theorems say of a coordinator before its row: its servers are its transaction's, what it awaits exists, each pair has it as
-- the one that asks, and its deeds are those of the queries before its phase
pub record IsKnown (sc : Scenario) (P : TxnId → ℕ → Pair) (c : Coordinator) : Type 0 where
  pub servers : c.servers ≡ servers_at sc c.txn
  pub sound : IsSoundPhase sc c.txn c.phase
  pub asker_is : (at : ℕ) → (P c.txn at).asker ≡ asker_up at c
  pub numbered : PhaseNumbered c.phase c.deeds

-- ---- how many requests there are

-- the queries that a round is over exist
query_low : (sc : Scenario) (txn : TxnId) (number : ℕ) → IsQuery sc txn number → (1 ≤ number) × (number ≤ query_count sc txn)
query_low sc txn number h = number_within sc txn number h.asked h.asked_is

asked_few_in : (sc : Scenario) (txn : TxnId) (over : Span) (number asked turn : ℕ) → AreFew sc → IsSoundSpan sc txn over → number ≤ 17 → asked ≤ 3 → turn ≤ until_asked (query_count sc txn) over number asked → turn ≤ 1000
asked_few_in sc txn (span.Validate query) number asked turn few k most of_three low =
    low_validation (query_count sc txn) query number asked turn (few txn) (let last = (query_low sc txn query k).1 in omega (arith, last)) most of_three low
asked_few_in sc txn span.Commit number asked turn few k most of_three low = low_round (query_count sc txn) number asked turn (few txn) most of_three low

-- one request more in a round
asked_more : (count : ℕ) (over : Span) (number asked turn : ℕ) → turn ≤ until_asked count over number asked → turn + 1 ≤ until_asked count over number (asked + 1)
asked_more count (span.Validate query) number asked turn low = omega (arith, low)
asked_more count span.Commit number asked turn low = omega (arith, low)

asked_least : (count : ℕ) (over : Span) (number asked more turn : ℕ) → asked ≤ more → turn ≤ until_asked count over number asked → turn ≤ until_asked count over number more
asked_least count (span.Validate query) number asked more turn le low = omega (arith, le, low)
asked_least count span.Commit number asked more turn le low = omega (arith, le, low)

-- or the first of the next round
asked_further : (count : ℕ) (over : Span) (number turn : ℕ) → 1 ≤ number → turn ≤ until_asked count over number 3 → turn + 1 ≤ until_asked count over (number + 1) 1
asked_further count (span.Validate query) number turn first low = omega (arith, first, low)
asked_further count span.Commit number turn first low = further_move count number turn first low

-- or it ends
asked_end : (sc : Scenario) (txn : TxnId) (over : Span) (number asked turn : ℕ) → IsSoundSpan sc txn over → number ≤ 17 → asked ≤ 3 → turn ≤ until_asked (query_count sc txn) over number asked → turn ≤ until_round (query_count sc txn) 17 3
asked_end sc txn (span.Validate query) number asked turn k most of_three low = let within = query_low sc txn query k in let first = within.0 in let last = within.1 in omega (arith, first, last, most, of_three, low)
asked_end sc txn span.Commit number asked turn k most of_three low = end_move (query_count sc txn) number asked turn most of_three low

-- a scheme that evaluates at commit, or the queries so far, is not incremental
pub evaluates_over : (chosen : Scheme) (over : Span) → SuitsSpan chosen over → is_incremental chosen ≡ false
evaluates_over chosen (span.Validate number) suits = ap is_incremental suits
evaluates_over chosen span.Commit suits = suits

-- ---- Tell

-- a request to a server fits, as what is wanted of it is published
letter_fits : (sc : Scenario) (facts : List Fact) (place sent : ℕ) (c : Coordinator) (over : Span) (turn : ℕ) (round : Round) (staple : Staple) (at : ServerId) → StapleFits sc facts place c.txn staple → RoundFits sc facts place c.txn over round
    → BodyFits sc facts place sent (round_letter c over turn round staple at).body
letter_fits sc facts place sent c (span.Validate number) turn round staple at h r = (h, want_published sc facts place c.txn (span.Validate number) round at r)
letter_fits sc facts place sent c span.Commit turn round staple at h r = (h, want_published sc facts place c.txn span.Commit round at r)

pub round_letters_fit : (sc : Scenario) (facts : List Fact) (place sent : ℕ) (c : Coordinator) (over : Span) (turn : ℕ) (round : Round) (staple : Staple) (servers : List ServerId) → StapleFits sc facts place c.txn staple
    → RoundFits sc facts place c.txn over round → Each (λ (letter : Letter). BodyFits sc facts place sent letter.body) (map (round_letter c over turn round staple) servers)
round_letters_fit sc facts place sent c over turn round staple [] h r = tt
round_letters_fit sc facts place sent c over turn round staple (at ∷ servers) h r =
    (letter_fits sc facts place sent c over turn round staple at h r, round_letters_fit sc facts place sent c over turn round staple servers h r)

-- and is of the turn of the coordinator that checks by it
letter_timely : (sc : Scenario) (c next : Coordinator) (over : Span) (round : Round) (staple : Staple) (sent : ℕ) (at : ServerId) → next.phase ≡ phase.Checking over round staple → WantNow round (want_for round at)
    → LetterOfTurn sc c.txn (Some next) sent (round_letter c over next.turn round staple at)
letter_timely sc c next (span.Validate number) round staple sent at e want =
    record { own = refl; timely = λ unsure. record { past = omega arith; now = λ same. subst (λ (awaited : Phase). ValidateNow awaited (validate_request c next.turn round staple at)) (sym e) (refl, want) } }
letter_timely sc c next span.Commit round staple sent at e want =
    record { own = refl; timely = λ unsure. record { past = omega arith; now = λ same. subst (λ (awaited : Phase). PrepareNow awaited (prepare_request c next.turn round staple at)) (sym e) (refl, want) } }

pub round_letters_timely : (sc : Scenario) (c next : Coordinator) (over : Span) (round : Round) (staple : Staple) (sent : ℕ) (servers : List ServerId) → next.phase ≡ phase.Checking over round staple
    → Each (λ (at : ServerId). WantNow round (want_for round at)) servers → Each (LetterOfTurn sc c.txn (Some next) sent) (map (round_letter c over next.turn round staple) servers)
round_letters_timely sc c next over round staple sent [] e h = tt
round_letters_timely sc c next over round staple sent (at ∷ servers) e h = (letter_timely sc c next over round staple sent at e h.0, round_letters_timely sc c next over round staple sent servers e h.1)

-- servers are asked, with the authority's answer, which came after all that is closed
pub checks_trusts : (sc : Scenario) (facts : List Fact) (place : ℕ) (c : Coordinator) (over : Span) (round : Round) (staple : Staple) → AreFew sc → IsSoundSpan sc c.txn over → CoordinatorFits sc facts place c → c.phase ≡ phase.Asking over round
    → StapleFits sc facts place c.txn staple → IsAbove staple.place c.instances c.gathered → RowTrusts sc facts place c (checks c over round staple)
checks_trusts sc facts place c over round staple few exists h e s made =
    let count = query_count sc c.txn in
    let f = phase_fits sc facts place c (phase.Asking over round) h e in
    let low : c.turn ≤ until_asked count over round.number 1 = turn_low sc facts place c (phase.Asking over round) h e in
    let rises : next_turn c ≡ c.turn + 1 = turn_rises c (asked_few_in sc c.txn over round.number 1 c.turn few exists (few_rounds sc facts place c.txn over round f.1) (omega arith) low) in
    let undecided : is_undecided c.phase ≡ true = ap is_undecided e in
    let next = record c { turn = next_turn c; phase = phase.Checking over round staple } in
    record {
      fits = record {
        awaits = (f.0, f.1, s);
        suits = λ declared found. subst (Suits declared.scheme (reads_master sc declared)) e (h.suits declared found);
        so_far = λ unsure. moved_on sc facts place c.txn (phase.Asking over round) next.phase c.instances c.gathered (λ queries. refl) (λ queries. refl) (subst (λ (p : Phase). AreSoFar sc facts place c.txn p c.instances c.gathered) e (h.so_far undecided));
        above = λ unsure. h.above undecided;
        made_after = (made, subst (IsMadeAfter c.instances c.gathered) e h.made_after);
        turn = subst (λ (n : ℕ). n ≤ until_asked count over round.number 2) (sym rises) (asked_more count over round.number 1 c.turn low);
      };
      decides = tt;
      says = λ sent. round_letters_fit sc facts place sent c over (next_turn c) round staple (missing_in round.targets) s f.1;
      timely = λ sent. round_letters_timely sc c next over round staple sent (missing_in round.targets) refl (round_wants sc facts place c.txn over round f.1);
      old = λ sent turn said t. raised sc c next sent turn said undecided rises t;
    }

-- ---- Vote and Verdicts

-- a reply that is kept leaves what mails say of the request
now_kept : (sc : Scenario) (c : Coordinator) (over : Span) (round : Round) (staple : Staple) (server : ServerId) (verdicts : List Verdict) (sent : ℕ) (said : Body) → c.phase ≡ phase.Checking over round staple → Now sc c sent said
    → Now sc (record c { phase = phase.Checking over (after_reply round server verdicts) staple }) sent said
now_kept sc c over round staple server verdicts sent (body.Query q) e h = tt
now_kept sc c over round staple server verdicts sent (body.Done done) e h = tt
now_kept sc c over round staple server verdicts sent (body.Tell tell) e h = tt
now_kept sc c over round staple server verdicts sent (body.Newest reply) e h = tt
now_kept sc c over round staple server verdicts sent (body.Validate v) e h = subst (λ (awaited : Phase). ValidateNow awaited v) e h
now_kept sc c over round staple server verdicts sent (body.Verdicts reply) e h =
    maybe_stays (VerdictsNow c.phase) (VerdictsNow (phase.Checking over (after_reply round server verdicts) staple)) reply.verdicts (λ others k. subst (λ (awaited : Phase). VerdictsNow awaited others) e k) h
now_kept sc c over round staple server verdicts sent (body.Prepare p) e h = subst (λ (awaited : Phase). PrepareNow awaited p) e h
now_kept sc c over round staple server verdicts sent (body.Vote reply) e h = vote_kept reply.vote (subst (λ (awaited : Phase). VoteNow awaited reply.vote) e h)
  where
    vote_kept : (said : Vote) → VoteNow (phase.Checking over round staple) said → VoteNow (phase.Checking over (after_reply round server verdicts) staple) said
    vote_kept (vote.Yes others) k = k
    vote_kept (vote.No why) k = k
now_kept sc c over round staple server verdicts sent _ e h = tt

-- the verdicts of an awaited reply, as facts, the pair of its server and the present turn show them
pub record ReplyTrusted (sc : Scenario) (facts : List Fact) (place : ℕ) (c : Coordinator) (over : Span) (round : Round) (staple : Staple) (server : ServerId) (verdicts : List Verdict) : Type 0 where
  pub right : Each (Right sc facts place c.txn) verdicts
  pub numbers : AreNumbersAt sc c.txn over server verdicts
  pub aimed : AimedReply round verdicts
  pub placed : Each (λ (verdict : Verdict). verdict.place ≡ staple.place) verdicts

yes_trusted : (sc : Scenario) (facts : List Fact) (place : ℕ) (P : TxnId → ℕ → Pair) (c : Coordinator) (mail : Mail) (reply : VoteReply) (round : Round) (staple : Staple) (server : ServerId) (verdicts : List Verdict)
    → IsHeard sc facts place c mail → BodyPairs sc P mail.letter.from (actor.Coordinator c.txn) mail.letter.body → IsYes c mail reply round staple server verdicts → ReplyTrusted sc facts place c span.Commit round staple server verdicts
yes_trusted sc facts place P c mail reply round staple server verdicts m n y =
    let same : c.txn ≡ reply.txn = sym (same_txn_from c.txn reply.txn (subst (IsSoundBody sc (actor.Coordinator c.txn)) y.said_is m.sound).goes_to) in
    let fits : VoteFits sc facts place reply.txn reply.vote = subst (BodyFits sc facts place mail.sent) y.said_is m.fits in
    let right : VoteFits sc facts place c.txn (vote.Yes verdicts) = subst (VoteFits sc facts place c.txn) y.vote_is (subst (λ (x : TxnId). VoteFits sc facts place x reply.vote) (sym same) fits) in
    let from : VoteFrom sc (actor.Server server) reply =
    subst (λ (who : Actor). VoteFrom sc who reply) y.from_is (subst (BodyPairs sc P mail.letter.from (actor.Coordinator c.txn)) y.said_is n) in
    let timely : IsTimely sc c mail.sent reply.turn (body.Vote reply) = subst (PresentMail sc c mail.sent) y.said_is m.present (sym same) in
    let now : VoteNow c.phase reply.vote = (timely (ap is_undecided y.checking)).now (eqb-true reply.turn c.turn y.present) in
    let checked : VoteNow (phase.Checking span.Commit round staple) (vote.Yes verdicts) = subst (λ (awaited : Phase). VoteNow awaited (vote.Yes verdicts)) y.checking (subst (VoteNow c.phase) y.vote_is now) in
    let numbers : AreNumbersAt sc c.txn span.Commit server verdicts = λ declared e.
    let pair : PairVote.AreNoneOrAll (site_of sc server.0 declared) verdicts =
    subst (PairVote.VoteFits (site_of sc server.0 declared)) y.vote_is (from declared (ap (λ (x : TxnId). slice_get sc.txns x.0) (sym same) ∙ e)) in
    ⊎_elim (λ (none : verdicts ≡ []). absurd (checked.2 none)) (λ (all : PairVote.AreOnAll (site_of sc server.0 declared) verdicts). all) pair in
    record { right = right; numbers = numbers; aimed = checked.1; placed = checked.0 }

-- of a round over the queries so far there are verdicts on each of them at the server, as the pair says
shown_numbers : (sc : Scenario) (P : TxnId → ℕ → Pair) (c : Coordinator) (mail : Mail) (reply : VerdictsReply) (number : ℕ) (round : Round) (staple : Staple) (server : ServerId) (verdicts : List Verdict) → IsKnown sc P c → c.txn ≡ reply.txn
    → IsSoundSpan sc c.txn (span.Validate number) → VerdictsFrom sc P (actor.Server server) reply → IsShown c mail reply number round staple server (Some verdicts) → AreNumbersAt sc c.txn (span.Validate number) server verdicts
shown_numbers sc P c mail reply number round staple server verdicts known same exists from y declared found =
    let site = site_of sc server.0 declared in
    let asker : (P c.txn server.0).asker ≡ Some (asker_of server.0 c) = known.asker_is server.0 ∙ undecided_asker server.0 c (ap is_undecided y.checking) in
    let fits : IfSome (P c.txn server.0).asker (VerdictsLive site reply) =
    subst (λ (txn : TxnId). IfSome (P txn server.0).asker (VerdictsLive site reply)) (sym same) (from declared (ap (λ (txn : TxnId). slice_get sc.txns txn.0) (sym same) ∙ found)) in
    let live : VerdictsLive site reply (asker_of server.0 c) = subst (λ (a : Option Asker). IfSome a (VerdictsLive site reply)) asker fits in
    let upto_now : IfSome reply.verdicts (AreUpto site (length c.deeds)) = live.now (eqb-true reply.turn c.turn y.present) in
    let so_many : AreUpto site (length c.deeds) verdicts = subst (λ (said : Option (List Verdict)). IfSome said (AreUpto site (length c.deeds))) y.verdicts_are upto_now in
    let number_is : number ≡ length c.deeds = subst (λ (p : Phase). PhaseNumbered p c.deeds) y.checking known.numbered in
    let within : number ≤ length declared.queries = subst (λ (n : ℕ). number ≤ n) (counted_is sc c.txn declared found) (query_low sc c.txn number exists).1 in
    so_many ∙ ap (upto site) (sym number_is ∙ sym (take_length declared.queries number within))

shown_trusted : (sc : Scenario) (facts : List Fact) (place : ℕ) (P : TxnId → ℕ → Pair) (c : Coordinator) (mail : Mail) (reply : VerdictsReply) (number : ℕ) (round : Round) (staple : Staple) (server : ServerId) (verdicts : List Verdict) → IsKnown sc P c
    → IsHeard sc facts place c mail → BodyPairs sc P mail.letter.from (actor.Coordinator c.txn) mail.letter.body → IsShown c mail reply number round staple server (Some verdicts)
    → ReplyTrusted sc facts place c (span.Validate number) round staple server verdicts
shown_trusted sc facts place P c mail reply number round staple server verdicts known m n y =
    let same : c.txn ≡ reply.txn = sym (same_txn_from c.txn reply.txn (subst (IsSoundBody sc (actor.Coordinator c.txn)) y.said_is m.sound).goes_to) in
    let fits : IfSome reply.verdicts (Each (Right sc facts place reply.txn)) = subst (BodyFits sc facts place mail.sent) y.said_is m.fits in
    let own : IfSome reply.verdicts (Each (Right sc facts place c.txn)) = subst (λ (txn : TxnId). IfSome reply.verdicts (Each (Right sc facts place txn))) (sym same) fits in
    let from : VerdictsFrom sc P (actor.Server server) reply =
    subst (λ (who : Actor). VerdictsFrom sc P who reply) y.from_is (subst (BodyPairs sc P mail.letter.from (actor.Coordinator c.txn)) y.said_is n) in
    let timely : IsTimely sc c mail.sent reply.turn (body.Verdicts reply) = subst (PresentMail sc c mail.sent) y.said_is m.present (sym same) in
    let now : IfSome reply.verdicts (VerdictsNow c.phase) = (timely (ap is_undecided y.checking)).now (eqb-true reply.turn c.turn y.present) in
    let checked : VerdictsNow (phase.Checking (span.Validate number) round staple) verdicts =
    subst (λ (awaited : Phase). VerdictsNow awaited verdicts) y.checking (subst (λ (said : Option (List Verdict)). IfSome said (VerdictsNow c.phase)) y.verdicts_are now) in
    let exists = (subst (IsSoundPhase sc c.txn) y.checking known.sound).0 in
    record {
      right = subst (λ (said : Option (List Verdict)). IfSome said (Each (Right sc facts place c.txn))) y.verdicts_are own;
      numbers = shown_numbers sc P c mail reply number round staple server verdicts known same exists from y;
      aimed = checked.1;
      placed = checked.0;
    }

pub reply_trusted : (sc : Scenario) (facts : List Fact) (place : ℕ) (P : TxnId → ℕ → Pair) (c : Coordinator) (mail : Mail) (over : Span) (round : Round) (staple : Staple) (server : ServerId) (verdicts : List Verdict) → IsKnown sc P c
    → IsHeard sc facts place c mail → BodyPairs sc P mail.letter.from (actor.Coordinator c.txn) mail.letter.body → IsReply c mail over round staple server verdicts → ReplyTrusted sc facts place c over round staple server verdicts
reply_trusted sc facts place P c mail _ _ _ _ _ known m n (ByVote reply round staple server verdicts y) = yes_trusted sc facts place P c mail reply round staple server verdicts m n y
reply_trusted sc facts place P c mail _ _ _ _ _ known m n (ByVerdicts reply number round staple server verdicts y) = shown_trusted sc facts place P c mail reply number round staple server verdicts known m n y

-- a coordinator whose round has one more reply
pub record RepliedTrusted (sc : Scenario) (facts : List Fact) (place : ℕ) (c : Coordinator) (over : Span) (round : Round) (staple : Staple) : Type 0 where
  pub submitted : IsSubmitted facts c.txn
  pub fits : RoundFits sc facts place c.txn over round
  pub stapled : StapleFits sc facts place c.txn staple
  pub undecided : is_undecided c.phase ≡ true
  pub so_far : AreSoFar sc facts place c.txn (phase.Asking over round) c.instances c.gathered
  pub above : IsAbove place c.instances c.gathered
  pub made_after : IsAbove staple.place c.instances c.gathered
  pub replied_after : IsRepliedAfter c.instances c.gathered round
  pub suits : (declared : Transaction) → slice_get sc.txns c.txn.0 ≡ Some declared → SuitsSpan declared.scheme over
  pub exists : IsSoundSpan sc c.txn over
  pub low : c.turn ≤ until_asked (query_count sc c.txn) over round.number 2

pub replied_trusted : (sc : Scenario) (facts : List Fact) (place : ℕ) (c : Coordinator) (over : Span) (round : Round) (staple : Staple) (server : ServerId) (verdicts : List Verdict) → IsSoundPhase sc c.txn c.phase → CoordinatorFits sc facts place c
    → c.phase ≡ phase.Checking over round staple → ReplyTrusted sc facts place c over round staple server verdicts → RepliedTrusted sc facts place c over (after_reply round server verdicts) staple
replied_trusted sc facts place c over round staple server verdicts sound h e v =
    let f = phase_fits sc facts place c (phase.Checking over round staple) h e in
    let undecided : is_undecided c.phase ≡ true = ap is_undecided e in
    let now = after_reply round server verdicts in
    let made : IsMadeAfter c.instances c.gathered (phase.Checking over round staple) = subst (IsMadeAfter c.instances c.gathered) e h.made_after in
    record {
      submitted = f.0;
      fits = round_replied sc facts place c.txn over round server verdicts f.1 v.right v.numbers v.aimed;
      stapled = f.2;
      undecided = undecided;
      so_far = moved_on sc facts place c.txn (phase.Checking over round staple) (phase.Asking over now) c.instances c.gathered (λ queries. refl) (λ queries. refl)
          (subst (λ (p : Phase). AreSoFar sc facts place c.txn p c.instances c.gathered) e (h.so_far undecided));
      above = h.above undecided;
      made_after = made.0;
      replied_after = replied_each (λ (target : Target). AreAbove c.instances c.gathered (verdicts_in target)) round.targets server verdicts
          (each_as (λ (verdict : Verdict). verdict.place ≡ staple.place) (λ (verdict : Verdict). IsAbove verdict.place c.instances c.gathered) (λ verdict at. subst (λ (n : ℕ). IsAbove n c.instances c.gathered) (sym at) made.0) verdicts v.placed) made.1;
      suits = λ declared found. subst (Suits declared.scheme (reads_master sc declared)) e (h.suits declared found);
      exists = (subst (IsSoundPhase sc c.txn) e sound).0;
      low = turn_low sc facts place c (phase.Checking over round staple) h e;
    }

-- a reply is missing still
pub counted_trusts : (sc : Scenario) (facts : List Fact) (place : ℕ) (c : Coordinator) (over : Span) (round : Round) (staple : Staple) (server : ServerId) (verdicts : List Verdict) → c.phase ≡ phase.Checking over round staple
    → RepliedTrusted sc facts place c over (after_reply round server verdicts) staple → RowTrusts sc facts place c (stays c over (after_reply round server verdicts) (Some staple))
counted_trusts sc facts place c over round staple server verdicts e h =
    let now = after_reply round server verdicts in
    record {
      fits = record {
        awaits = (h.submitted, h.fits, h.stapled);
        suits = h.suits;
        so_far = λ unsure. moved_on sc facts place c.txn (phase.Asking over now) (phase.Checking over now staple) c.instances c.gathered (λ queries. refl) (λ queries. refl) h.so_far;
        above = λ unsure. h.above;
        made_after = (h.made_after, h.replied_after);
        turn = h.low;
      };
      decides = tt;
      says = λ sent. tt;
      timely = λ sent. tt;
      old = λ sent turn said t unsure. let was : IsOfPast sc c sent turn said = t h.undecided in
          record { past = was.past; now = λ same. now_kept sc c over round staple server verdicts sent said e (was.now same) };
    }

-- all have replied, and the master is asked
pub probed_trusts : (sc : Scenario) (facts : List Fact) (place : ℕ) (c : Coordinator) (over : Span) (round : Round) (staple : Staple) → AreFew sc → RepliedTrusted sc facts place c over round staple → round.reads ≡ true
    → RowTrusts sc facts place c (probes c (phase.Reading over round))
probed_trusts sc facts place c over round staple few h reads =
    let count = query_count sc c.txn in
    let awaited = phase.Reading over round in
    let low = h.low in
    let rises : next_turn c ≡ c.turn + 1 = turn_rises c (asked_few_in sc c.txn over round.number 2 c.turn few h.exists (few_rounds sc facts place c.txn over round h.fits) (omega arith) low) in
    record {
      fits = record {
        awaits = (h.submitted, h.fits, reads);
        suits = h.suits;
        so_far = λ unsure. moved_on sc facts place c.txn (phase.Asking over round) awaited c.instances c.gathered (λ queries. refl) (λ queries. refl) h.so_far;
        above = λ unsure. h.above;
        made_after = h.replied_after;
        turn = subst (λ (n : ℕ). n ≤ until_asked count over round.number 3) (sym rises) (asked_more count over round.number 2 c.turn low);
      };
      decides = tt;
      says = λ sent. (h.submitted, tt);
      timely = λ sent. (record { own = refl; timely = λ unsure. record { past = omega arith; now = λ same. tt } }, tt);
      old = λ sent turn said t. raised sc c (probes c awaited).state sent turn said h.undecided rises t;
    }

-- ---- a round that is judged

-- a coordinator whose round is judged, by the last reply or at a reading of the master after them
pub record RoundTrusted (sc : Scenario) (facts : List Fact) (place : ℕ) (c : Coordinator) (over : Span) (round : Round) (reading : Option Reading) : Type 0 where
  pub submitted : IsSubmitted facts c.txn
  pub fits : RoundFits sc facts place c.txn over round
  pub read : JudgedFits sc facts place c.txn round reading
  pub earlier : IfSome reading (λ (one : Reading). AreEarlier one.place (proofs_in round.targets))
  pub reads : is_some reading ≡ round.reads
  pub undecided : is_undecided c.phase ≡ true
  pub so_far : AreSoFar sc facts place c.txn (phase.Asking over round) c.instances c.gathered
  pub above : IsAbove place c.instances c.gathered
  pub replied_after : IsRepliedAfter c.instances c.gathered round
  pub suits : (declared : Transaction) → slice_get sc.txns c.txn.0 ≡ Some declared → SuitsSpan declared.scheme over
  pub exists : IsSoundSpan sc c.txn over
  pub low : c.turn ≤ until_asked (query_count sc c.txn) over round.number 3

-- at an awaited reading
pub reading_trusted : (sc : Scenario) (facts : List Fact) (place : ℕ) (c : Coordinator) (mail : Mail) (reply : NewestReply) (over : Span) (round : Round) → IsValid sc → IsSoundPhase sc c.txn c.phase → CoordinatorFits sc facts place c → IsHeard sc facts place c mail
    → IsReading c mail reply over round → RoundTrusted sc facts place c over round (Some (reading_of reply mail.sent))
reading_trusted sc facts place c mail reply over round valid sound_phase h m k =
    let sound : IsSoundNewest sc (actor.Coordinator c.txn) reply = subst (IsSoundBody sc (actor.Coordinator c.txn)) k.said_is m.sound in
    let same : c.txn ≡ reply.txn = sym (same_txn_from c.txn reply.txn sound.goes_to) in
    let there = declared_there sc c.txn (subst (IsTxn sc) (sym same) sound.txn) in
    let fits : NewestFits sc facts place mail.sent reply = subst (BodyFits sc facts place mail.sent) k.said_is m.fits in
    let timely : IsTimely sc c mail.sent reply.turn (body.Newest reply) = subst (PresentMail sc c mail.sent) k.said_is m.present (sym same) in
    let undecided : is_undecided c.phase ≡ true = ap is_undecided k.reading in
    let now : NewestNow c c.phase mail.sent reply = (timely undecided).now (eqb-true reply.turn c.turn k.present) in
    let read : NewestNow c (phase.Reading over round) mail.sent reply = subst (λ (awaited : Phase). NewestNow c awaited mail.sent reply) k.reading now in
    let f = phase_fits sc facts place c (phase.Reading over round) h k.reading in
    record {
      submitted = f.0;
      fits = f.1;
      read = reading_fits sc facts place c.txn over round reply mail.sent there.0 valid there.1 (sym same) sound.newest fits read.1 f.1;
      earlier = read.1.replies;
      reads = sym f.2;
      undecided = undecided;
      so_far = moved_on sc facts place c.txn (phase.Reading over round) (phase.Asking over round) c.instances c.gathered (λ queries. refl) (λ queries. refl)
          (subst (λ (p : Phase). AreSoFar sc facts place c.txn p c.instances c.gathered) k.reading (h.so_far undecided));
      above = h.above undecided;
      replied_after = subst (IsMadeAfter c.instances c.gathered) k.reading h.made_after;
      suits = λ declared found. subst (Suits declared.scheme (reads_master sc declared)) k.reading (h.suits declared found);
      exists = (subst (IsSoundPhase sc c.txn) k.reading sound_phase).0;
      low = turn_low sc facts place c (phase.Reading over round) h k.reading;
    }

pub judged_trusted : (sc : Scenario) (facts : List Fact) (place : ℕ) (P : TxnId → ℕ → Pair) (c : Coordinator) (mail : Mail) (over : Span) (round : Round) (staple : Option Staple) (reading : Option Reading) → IsValid sc → IsKnown sc P c
    → CoordinatorFits sc facts place c → IsHeard sc facts place c mail → BodyPairs sc P mail.letter.from (actor.Coordinator c.txn) mail.letter.body → IsJudged c mail over round staple reading → RoundTrusted sc facts place c over round reading
judged_trusted sc facts place P c mail _ _ _ _ valid known h m n (ByReplies over before staple server verdicts y missing unread) =
    let r : RepliedTrusted sc facts place c over (after_reply before server verdicts) staple =
    replied_trusted sc facts place c over before staple server verdicts known.sound h (reply_checking c mail over before staple server verdicts y) (reply_trusted sc facts place P c mail over before staple server verdicts known m n y) in
    record {
      submitted = r.submitted;
      fits = r.fits;
      read = tt;
      earlier = tt;
      reads = sym unread;
      undecided = r.undecided;
      so_far = r.so_far;
      above = r.above;
      replied_after = r.replied_after;
      suits = r.suits;
      exists = r.exists;
      low = asked_least (query_count sc c.txn) over before.number 2 3 c.turn (omega arith) r.low;
    }
judged_trusted sc facts place P c mail _ _ _ _ valid known h m n (ByReading reply over round k) = reading_trusted sc facts place c mail reply over round valid known.sound h m k

-- a reading was of the past, and came after the submission
timely_reading : (sc : Scenario) (facts : List Fact) (place : ℕ) (txn : TxnId) (round : Round) (reading : Option Reading) → JudgedFits sc facts place txn round reading → IfSome (option_map place_of reading) (IsTimelyReading facts place txn)
timely_reading sc facts place txn round None r = tt
timely_reading sc facts place txn round (Some reading) r = record { begun = r.begun; past = r.past }

last_closed : (chosen : Scheme) (queries : ℕ) (round : Round) → closed_in chosen queries (phase.Asking span.Commit round) ≡ closed_before_last chosen queries
last_closed scheme.Deferred queries round = refl
last_closed scheme.Punctual queries round = refl
last_closed scheme.Incremental queries round = refl
last_closed scheme.Continuous queries round = refl

-- all proofs of a round were made after all that is closed
proofs_above : (sc : Scenario) (facts : List Fact) (place : ℕ) (c : Coordinator) (over : Span) (round : Round) (reading : Option Reading) → RoundTrusted sc facts place c over round reading → AreAbove c.instances c.gathered (by_query (proofs_in round.targets))
proofs_above sc facts place c over round reading h =
    each_by_query (λ (verdict : Verdict). IsAbove verdict.place c.instances c.gathered) (proofs_in round.targets)
    (each_flat_map (λ (target : Target). AreAbove c.instances c.gathered (verdicts_in target)) (λ (verdict : Verdict). IsAbove verdict.place c.instances c.gathered) verdicts_in (λ target above. above) round.targets h.replied_after)

-- a round at commit in which all is true closes the last instance
pub committed_trusts : (sc : Scenario) (facts : List Fact) (place : ℕ) (c : Coordinator) (round : Round) (reading : Option Reading) → HaveHomes sc → IsValid sc → RoundTrusted sc facts place c span.Commit round reading
    → judge round reading ≡ judged.AllTrue → RowTrusts sc facts place c (commits (closes c (option_map place_of reading) (by_query (proofs_in round.targets))) round.number)
committed_trusts sc facts place c round reading homes valid h e =
    let proofs = by_query (proofs_in round.targets) in
    let last : Instance = record { reading = option_map place_of reading; proofs = proofs } in
    let closing = round_closes sc facts place c.txn span.Commit round reading homes valid h.fits e in
    let ended = commits (closes c (option_map place_of reading) proofs) round.number in
    record {
      fits = record {
        awaits = tt;
        suits = λ declared found. tt;
        so_far = λ unsure. absurd (cc);
        above = λ unsure. absurd (cc);
        made_after = tt;
        turn = end_move (query_count sc c.txn) round.number 3 c.turn (few_rounds sc facts place c.txn span.Commit round h.fits) (omega arith) h.low;
      };
      decides = λ declared found.
          closing_commit sc facts place c.txn declared _ c.instances c.gathered last (commit_record (closes c (option_map place_of reading) proofs) round.number) (h.suits declared found)
          (so_far_on sc facts place c.txn declared _ _ _ _ c.instances c.gathered (last_closed declared.scheme (length declared.queries) round) refl (h.so_far declared found)) refl (closing.number declared found) (closing.numbers declared found)
          (round_agrees sc facts place c.txn span.Commit round reading declared valid found h.fits h.read h.earlier h.reads e) (proofs_above sc facts place c span.Commit round reading h)
          (record { right = closing.right; have_rules = closing.have_rules; timely = timely_reading sc facts place c.txn round reading h.read });
      says = λ sent. orders_fit sc facts place sent c outcome.Commit c.servers;
      timely = λ sent. orders_timely sc c (Some ended.state) sent outcome.Commit c.servers;
      old = λ sent turn said t unsure. absurd (cc);
    }

-- a round over the queries so far in which all is true closes the instance of the last of them
pub validated_stands : (sc : Scenario) (facts : List Fact) (place : ℕ) (c : Coordinator) (number : ℕ) (round : Round) (reading : Option Reading) → AreFew sc → HaveHomes sc → IsValid sc → RoundTrusted sc facts place c (span.Validate number) round reading
    → judge round reading ≡ judged.AllTrue
    → PassedStands sc facts place c (gains_instances c (instances_with c (option_map place_of reading) (by_query (proofs_in round.targets)))) (point.Validated number) number
validated_stands sc facts place c number round reading few homes valid h e =
    let over = span.Validate number in
    let proofs = by_query (proofs_in round.targets) in
    let next : Instance = record { reading = option_map place_of reading; proofs = proofs } in
    let there = query_declared sc c.txn number h.exists.asked h.exists.asked_is in
    let declared = there.0 in
    let queries = length declared.queries in
    let within = query_low sc c.txn number h.exists in
    let most : number ≤ queries = subst (λ (n : ℕ). number ≤ n) (counted_is sc c.txn declared there.1) within.1 in
    let first = within.0 in
    let rounds = few_rounds sc facts place c.txn over round h.fits in
    let low : c.turn ≤ until_validation number round.number 3 = h.low in
    let continuous : declared.scheme ≡ scheme.Continuous = h.suits declared there.1 in
    let before : closed_in declared.scheme queries (phase.Asking over round) ≡ number - 1 = ap (λ (s : Scheme). closed_in s queries (phase.Asking over round)) continuous in
    let none : gathered_in declared.scheme queries (phase.Asking over round) ≡ 0 = ap (λ (s : Scheme). gathered_in s queries (phase.Asking over round)) continuous in
    let was : IsSoFar sc facts place c.txn declared (number - 1) 0 c.instances c.gathered = so_far_on sc facts place c.txn declared _ _ _ _ c.instances c.gathered before none (h.so_far declared there.1) in
    let closing = round_closes sc facts place c.txn over round reading homes valid h.fits e in
    let count = was.count in
    let agrees = round_agrees sc facts place c.txn over round reading declared valid there.1 h.fits h.read h.earlier h.reads e in
    let closes_next : IsNext sc facts declared c.instances next =
    validated_next sc facts declared number c.instances c.gathered next continuous (omega (arith, count, first)) most (closing.numbers declared there.1 ∙ ap (range_with_len 1) (take_length declared.queries number most)) agrees
    (proofs_above sc facts place c over round reading h) in
    let all : number - 1 + 1 ≡ number = omega (arith, first) in
    let kept : IsSoFar sc facts place c.txn declared number 0 (c.instances ++ next ∷ []) c.gathered =
    so_far_on sc facts place c.txn declared _ _ _ _ (c.instances ++ next ∷ []) c.gathered all refl
    (next_closed sc facts place c.txn declared (number - 1) 0 c.instances c.gathered next closes_next
    (record { right = closing.right; have_rules = closing.have_rules; timely = timely_reading sc facts place c.txn round reading h.read })
    (λ incremental. let same : scheme.Continuous ≡ scheme.Incremental = sym continuous ∙ incremental in absurd (cc)) was) in
    record {
      past = AfterValidation number;
      submitted = h.submitted;
      declared = declared;
      found = there.1;
      asked = h.exists.asked;
      asked_is = h.exists.asked_is;
      first = first;
      last = within.1;
      further = next_is sc c number h.exists.asked homes h.exists.asked_is;
      low = omega (arith, low, rounds);
      rises = turn_rises c (asked_few_in sc c.txn over round.number 3 c.turn few h.exists rounds (omega arith) low);
      undecided = h.undecided;
      so_far = so_far_on sc facts place c.txn declared _ _ _ _ (c.instances ++ next ∷ []) c.gathered (sym (ap (λ (s : Scheme). closed_later s number) continuous)) (sym (ap (λ (s : Scheme). gathered_past s number) continuous)) kept;
      above = record {
        closed = each_append (IsEarlierInstance place) c.instances (next ∷ []) h.above.closed
            (record { proofs = each_as (Right sc facts place c.txn) (λ (verdict : Verdict). verdict.place < place) (λ verdict right. (right declared there.1).past) proofs closing.right; reading = read_before reading h.read }, tt);
        gathered_before = h.above.gathered_before;
      };
      new_after = none_new sc facts place c.txn declared number (c.instances ++ next ∷ []) c.gathered kept;
    }
  where
    read_before : (read : Option Reading) → JudgedFits sc facts place c.txn round read → IfSome (option_map place_of read) (λ (at : ℕ). at < place)
    read_before None fits = tt
    read_before (Some read) fits = fits.past

-- servers that are out of date are asked again
pub updated_trusts : (sc : Scenario) (facts : List Fact) (place : ℕ) (c : Coordinator) (over : Span) (round : Round) (reading : Option Reading) (named : List Wanted) → AreFew sc → IsValid sc → RoundTrusted sc facts place c over round reading
    → judge round reading ≡ judged.Update named → RowTrusts sc facts place c (asks c over (after_judgement round reading))
updated_trusts sc facts place c over round reading named few valid h e =
    let count = query_count sc c.txn in
    let next = after_judgement round reading in
    let updated = round_updated sc facts place c.txn over round reading named valid h.fits h.read e in
    let rises : next_turn c ≡ c.turn + 1 = turn_rises c (asked_few_in sc c.txn over round.number 3 c.turn few h.exists (few_rounds sc facts place c.txn over round h.fits) (omega arith) h.low) in
    record {
      fits = record {
        awaits = (h.submitted, updated.fits);
        suits = h.suits;
        so_far = λ unsure. moved_on sc facts place c.txn (phase.Asking over round) (phase.Asking over next) c.instances c.gathered (λ queries. refl) (λ queries. refl) h.so_far;
        above = λ unsure. h.above;
        made_after = updated_keeps (λ (target : Target). AreAbove c.instances c.gathered (verdicts_in target)) round reading named e (λ server. tt) h.replied_after;
        turn = subst (λ (n : ℕ). next_turn c ≤ until_asked count over n 1) (sym updated.number) (subst (λ (n : ℕ). n ≤ until_asked count over (round.number + 1) 1) (sym rises) (asked_further count over round.number c.turn updated.begun h.low));
      };
      decides = tt;
      says = λ sent. (h.submitted, tt);
      timely = λ sent. (record { own = refl; timely = λ unsure. record { past = omega arith; now = λ same. tt } }, tt);
      old = λ sent turn said t. raised sc c (asks c over next).state sent turn said h.undecided rises t;
    }

-- ---- aborts

-- what holds of a transaction that aborts for a cause
pub record EndStands (sc : Scenario) (facts : List Fact) (place : ℕ) (c : Coordinator) (why : Cause) : Type 0 where
  pub turn : c.turn ≤ until_round (query_count sc c.txn) 17 3
  pub fits : CauseFits sc facts place c.txn why

-- a vote NO ends the transaction, or what a server did is lost
voted_low : (sc : Scenario) (facts : List Fact) (place : ℕ) (c : Coordinator) (awaited : Phase) (server : ServerId) → PhaseFits sc facts place c.txn awaited → c.turn ≤ ceiling_in (query_count sc c.txn) awaited → awaits_vote awaited server ≡ true
    → c.turn ≤ until_round (query_count sc c.txn) 17 3
voted_low sc facts place c (phase.Checking span.Commit round staple) server f low e = end_move (query_count sc c.txn) round.number 2 c.turn (few_rounds sc facts place c.txn span.Commit round f.1) (omega arith) low
voted_low sc facts place c (phase.Voting awaited) server f low e = end_move (query_count sc c.txn) 1 1 c.turn (omega arith) (omega arith) low
voted_low sc facts place c (phase.Checking (span.Validate number) round staple) server f low e = absurd (cc)
voted_low sc facts place c phase.Idle server f low e = absurd (cc)
voted_low sc facts place c (phase.Stapling number) server f low e = absurd (cc)
voted_low sc facts place c (phase.Querying number staple) server f low e = absurd (cc)
voted_low sc facts place c (phase.Probing number) server f low e = absurd (cc)
voted_low sc facts place c (phase.Asking over round) server f low e = absurd (cc)
voted_low sc facts place c (phase.Reading over round) server f low e = absurd (cc)
voted_low sc facts place c phase.VoteProbing server f low e = absurd (cc)
voted_low sc facts place c (phase.Ending ended awaited) server f low e = absurd (cc)

pub refused_stands : (sc : Scenario) (facts : List Fact) (place : ℕ) (c : Coordinator) (server : ServerId) (why : Cause) → CoordinatorFits sc facts place c → awaits_vote c.phase server ≡ true → CauseFits sc facts place c.txn why
    → EndStands sc facts place c why
refused_stands sc facts place c server why h e fits = record { turn = voted_low sc facts place c c.phase server h.awaits h.turn e; fits = fits }

pub lost_stands : (sc : Scenario) (facts : List Fact) (place : ℕ) (c : Coordinator) (number : ℕ) (round : Round) (staple : Staple) (why : Cause) → IsSoundPhase sc c.txn c.phase → CoordinatorFits sc facts place c
    → c.phase ≡ phase.Checking (span.Validate number) round staple → CauseFits sc facts place c.txn why → EndStands sc facts place c why
lost_stands sc facts place c number round staple why sound h e fits =
    let over = span.Validate number in
    let f = phase_fits sc facts place c (phase.Checking over round staple) h e in
    record {
      turn = asked_end sc c.txn over round.number 2 c.turn (subst (IsSoundPhase sc c.txn) e sound).0 (few_rounds sc facts place c.txn over round f.1) (omega arith) (turn_low sc facts place c (phase.Checking over round staple) h e);
      fits = fits;
    }

judged_end : (sc : Scenario) (facts : List Fact) (place : ℕ) (c : Coordinator) (over : Span) (round : Round) (reading : Option Reading) → RoundTrusted sc facts place c over round reading → c.turn ≤ until_round (query_count sc c.txn) 17 3
judged_end sc facts place c over round reading h = asked_end sc c.txn over round.number 3 c.turn h.exists (few_rounds sc facts place c.txn over round h.fits) (omega arith) h.low

-- a round in which a proof is false denies
pub denied_stands : (sc : Scenario) (facts : List Fact) (place : ℕ) (c : Coordinator) (over : Span) (round : Round) (reading : Option Reading) (verdict : Verdict) → IsValid sc → RoundTrusted sc facts place c over round reading
    → judge round reading ≡ judged.False verdict → EndStands sc facts place c (cause.Denied (denied_by verdict))
denied_stands sc facts place c over round reading verdict valid h e =
    let denies = round_denies sc facts place c.txn over round reading verdict h.fits e in
    record {
      turn = judged_end sc facts place c over round reading h;
      fits = record {
        verdict = verdict;
        denied_is = refl;
        right = denies.right;
        ruleless = denies.ruleless;
        bound = λ declared found at_newest.
            round_denies_newest sc facts place c.txn over round reading verdict declared valid found h.fits h.read h.earlier h.reads e
            (and_parts (is_global (level_of declared verdict.admin)) (denies_at_newest declared.scheme) at_newest).0;
      };
    }

-- rounds that are spent, each of which met a newer version
pub spent_stands : (sc : Scenario) (facts : List Fact) (place : ℕ) (c : Coordinator) (over : Span) (round : Round) (reading : Option Reading) (mets : List Met) → IsValid sc → RoundTrusted sc facts place c over round reading
    → judge round reading ≡ judged.Spent mets → EndStands sc facts place c (cause.Rounds mets)
spent_stands sc facts place c over round reading mets valid h e =
    record {
      turn = judged_end sc facts place c over round reading h;
      fits = λ declared found. round_spent sc facts place c.txn over round reading mets declared valid found (evaluates_over declared.scheme over (h.suits declared found)) h.fits h.read e;
    }
