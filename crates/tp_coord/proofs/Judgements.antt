-- What follows from what is judged of a round does not hang on the phase that the coordinator was in, nor does what it does where
-- something is done.
use Rattle.std.specs.List.{list_any}
use Rattle.std.proofs.Common.{Bool, List, None, Option, Some, ap, false, if◌then◌else◌, is_some, option_map, refl, subst, sym, true, ℕ, ◌∙◌, ◌≡◌}
use Rattle.std.proofs.lemmas.Option.{same_Some}
use Rattle.tp_types.specs.Effect.{Effect}
use Rattle.tp_model.specs.Words.vote
use Rattle.tp_model.specs.Words.{Reading, Scenario, ServerId, Staple, Verdict}
use Rattle.tp_coord.specs.Row.{awaiting, closes, goes_by, goes_on, home_of, is_made, makes, move_after, move_made, next_at, on_all_true, on_judged, on_reply, on_round_read, place_of, point_of, probes, sends_next, stays, verdicts_at, vote_at}
use Rattle.tp_coord.specs.State.{Coordinator}
use Rattle.tp_coord.specs.declared.coordinator.Phase.TheVariants as phase
use Rattle.tp_coord.specs.declared.coordinator.Phase.{Phase}
use Rattle.tp_coord.specs.declared.coordinator.Span.TheVariants as span
use Rattle.tp_coord.specs.declared.coordinator.Span.{Span}
use Rattle.tp_coord.specs.mirrors.InPlace.{agrees_in, follows, on_counted, proofs_at, span_in}
use Rattle.tp_round.specs.Judge.{after, after_judgement, after_reply, aim_in, is_missing, judge, met_in}
use Rattle.tp_round.specs.Replies.{by_query, proofs_in}
use Rattle.tp_round.specs.declared.round.Judged.TheVariants as judged
use Rattle.tp_round.specs.declared.round.Judged.{Judged}
use Rattle.tp_round.specs.declared.round.Round.{Round}
use Rattle.tp_scheme.specs.declared.moves.Move.TheVariants as move
use Rattle.tp_scheme.specs.declared.moves.Move.{Move}
use Rattle.tp_scheme.specs.declared.moves.Point.{Point}

-- ---- what is done

sends_same : (sc : Scenario) (c : Coordinator) (was : Phase) (number : ℕ) (home : Option ServerId) → is_some home ≡ true
    → sends_next sc (record c { phase = was }) number None home ≡ sends_next sc c number None home
sends_same sc c was number None e = cc
sends_same sc c was number (Some server) e = refl

-- where a move is made, the phase is left
pub makes_same : (sc : Scenario) (c : Coordinator) (was : Phase) (at : Point) (rounds : ℕ) (next : Move) → is_made sc c at next ≡ true
    → makes sc (record c { phase = was }) at rounds next ≡ makes sc c at rounds next
makes_same sc c was at rounds move.SendQuery e = sends_same sc c was (next_at at) (home_of sc c (next_at at)) e
makes_same sc c was at rounds move.Ask e = refl
makes_same sc c was at rounds move.Probe e = refl
makes_same sc c was at rounds move.Validate e = refl
makes_same sc c was at rounds move.CommitRounds e = refl
makes_same sc c was at rounds move.Votes e = refl
makes_same sc c was at rounds move.Decide e = refl
makes_same sc c was at rounds move.Following e = cc

-- ---- what is judged

judged_same : (sc : Scenario) (c : Coordinator) (was : Phase) (over : Span) (round : Round) (staple : Option Staple) (reading : Option Reading) (answer : Judged)
    → on_judged sc (record c { phase = was }) over round staple reading answer ≡ on_judged sc c over round staple reading answer
judged_same sc c was over round staple reading judged.Waiting = refl
judged_same sc c was over round staple reading judged.AllTrue = refl
judged_same sc c was over round staple reading (judged.False verdict) = refl
judged_same sc c was over round staple reading (judged.Spent mets) = refl
judged_same sc c was over round staple reading (judged.Update named) = refl

-- the round that is judged in place is the one that was, but for an update, which has begun the next one
judged_by : (sc : Scenario) (c : Coordinator) (over : Span) (round : Round) (staple : Option Staple) (reading : Option Reading) (answer : Judged)
    → after_judgement round reading ≡ after round (aim_in round reading) (met_in round reading) answer
    → follows sc (awaiting c over (after_judgement round reading) staple) reading answer ≡ on_judged sc c over round staple reading answer
judged_by sc c over round staple reading judged.Waiting e = ap (λ (r : Round). stays c over r staple) e
judged_by sc c over round (Some staple) reading judged.AllTrue e = ap (λ (r : Round). on_all_true sc (awaiting c over r (Some staple)) over r reading) e
judged_by sc c over round None reading judged.AllTrue e = ap (λ (r : Round). on_all_true sc (awaiting c over r None) over r reading) e
judged_by sc c over round staple reading (judged.False verdict) e = refl
judged_by sc c over round staple reading (judged.Spent mets) e = refl
judged_by sc c over round (Some staple) reading (judged.Update named) e = refl
judged_by sc c over round None reading (judged.Update named) e = refl

pub judged_there : (sc : Scenario) (c : Coordinator) (over : Span) (round : Round) (staple : Option Staple) (reading : Option Reading)
    → follows sc (awaiting c over (after_judgement round reading) staple) reading (judge round reading) ≡ on_judged sc c over round staple reading (judge round reading)
judged_there sc c over round staple reading = judged_by sc c over round staple reading (judge round reading) refl

-- what follows from a reply does not hang on the phase
pub reply_same : (sc : Scenario) (c : Coordinator) (was : Phase) (over : Span) (round : Round) (staple : Staple)
    → on_reply sc (record c { phase = was }) over round staple ≡ on_reply sc c over round staple
reply_same sc c was over round staple =
    ap (λ (effect : Effect Coordinator). if list_any is_missing round.targets then stays c over round (Some staple) else if round.reads then probes c (phase.Reading over round) else effect)
    (judged_same sc c was over round (Some staple) None (judge round None))

-- ---- what a coordinator does in place is its row

-- verdicts on the queries so far, which came into the round
pub shown_there : (sc : Scenario) (c : Coordinator) (over : Span) (number : ℕ) (round next : Round) (staple : Staple) (server : ServerId) (verdicts : List Verdict)
    → c.phase ≡ phase.Checking over round staple → over ≡ span.Validate number → next ≡ after_reply round server verdicts
    → on_counted sc (record c { phase = phase.Checking over next staple }) (phase.Checking over next staple) ≡ verdicts_at sc c c.phase server (Some verdicts)
shown_there sc c over number round next staple server verdicts checking validates counted =
    reply_same sc c (phase.Checking over next staple) over next staple
    ∙ ap (λ (r : Round). on_reply sc c over r staple) counted
    ∙ subst (λ (o : Span). on_reply sc c o (after_reply round server verdicts) staple ≡ verdicts_at sc c (phase.Checking o round staple) server (Some verdicts)) (sym validates) refl
    ∙ sym (ap (λ (p : Phase). verdicts_at sc c p server (Some verdicts)) checking)

-- a vote YES, which came into the round
pub yes_there : (sc : Scenario) (c : Coordinator) (over : Span) (round next : Round) (staple : Staple) (server : ServerId) (verdicts : List Verdict)
    → c.phase ≡ phase.Checking over round staple → over ≡ span.Commit → next ≡ after_reply round server verdicts
    → on_counted sc (record c { phase = phase.Checking over next staple }) (phase.Checking over next staple) ≡ vote_at sc c c.phase server (vote.Yes verdicts)
yes_there sc c over round next staple server verdicts checking commits counted =
    reply_same sc c (phase.Checking over next staple) over next staple
    ∙ ap (λ (r : Round). on_reply sc c over r staple) counted
    ∙ subst (λ (o : Span). on_reply sc c o (after_reply round server verdicts) staple ≡ vote_at sc c (phase.Checking o round staple) server (vote.Yes verdicts)) (sym commits) refl
    ∙ sym (ap (λ (p : Phase). vote_at sc c p server (vote.Yes verdicts)) checking)

-- the reading of the master, by which the round was judged
pub read_there : (sc : Scenario) (c : Coordinator) (over : Span) (round next : Round) (reading : Reading) (answer : Judged)
    → c.phase ≡ phase.Reading over round → next ≡ after_judgement round (Some reading) → answer ≡ judge round (Some reading)
    → follows sc (record c { phase = phase.Reading over next }) (Some reading) answer ≡ on_round_read sc c c.phase reading
read_there sc c over round next reading answer awaited is_next is_answer =
    ap (λ (r : Round). follows sc (awaiting c over r None) (Some reading) answer) is_next
    ∙ ap (λ (j : Judged). follows sc (awaiting c over (after_judgement round (Some reading)) None) (Some reading) j) is_answer
    ∙ judged_there sc c over round None (Some reading)
    ∙ sym (ap (λ (p : Phase). on_round_read sc c p reading) awaited)

-- ---- all proofs are true

made_by : (sc : Scenario) (c : Coordinator) (at : Point) (found next : Move) (b : Bool) → is_made sc c at found ≡ b → (if b then Some found else None) ≡ Some next
    → is_made sc c at next ≡ true
made_by sc c at found next true made e = subst (λ (m : Move). is_made sc c at m ≡ true) (same_Some found next e) made
made_by sc c at found next false made e = cc

closed_same : (sc : Scenario) (c : Coordinator) (reading : Option ℕ) (proofs : List Verdict) (at : Point) (next : Move) → is_made sc c at next ≡ true
    → is_made sc (closes c reading proofs) at next ≡ true
closed_same sc c reading proofs at move.SendQuery e = e
closed_same sc c reading proofs at move.Ask e = refl
closed_same sc c reading proofs at move.Probe e = refl
closed_same sc c reading proofs at move.Validate e = refl
closed_same sc c reading proofs at move.CommitRounds e = refl
closed_same sc c reading proofs at move.Votes e = refl
closed_same sc c reading proofs at move.Decide e = refl
closed_same sc c reading proofs at move.Following e = cc

goes_there : (sc : Scenario) (c now : Coordinator) (over was_over : Span) (rounds number : ℕ) (next : Move)
    → ◌≡◌ {A = Option (Span × ℕ)} (Some (was_over, number)) (Some (over, rounds)) → move_made sc c (point_of over) ≡ Some next
    → makes sc now (point_of over) rounds next ≡ goes_on sc c now (point_of was_over) number
goes_there sc c now over was_over rounds number next e made =
    let was : Span × ℕ = (was_over, number) in
    let is : Span × ℕ = (over, rounds) in
    ap (λ (m : Option Move). goes_by sc c now (point_of over) rounds m) (sym made)
    ∙ ap (λ (s : Span × ℕ). goes_on sc c now (point_of s.0) s.1) (sym (same_Some was is e))

agreed_by : (sc : Scenario) (c : Coordinator) (reading : Option Reading) (over : Span) (rounds : ℕ) (next : Move) (awaited : Phase)
    → span_in awaited ≡ Some (over, rounds) → move_made sc c (point_of over) ≡ Some next
    → makes sc (closes c (option_map place_of reading) (proofs_at awaited)) (point_of over) rounds next ≡ agrees_in sc c awaited reading
agreed_by sc c reading over rounds next (phase.Checking was round staple) e made =
    goes_there sc c (closes c (option_map place_of reading) (by_query (proofs_in round.targets))) over was rounds round.number next e made
agreed_by sc c reading over rounds next (phase.Reading was round) e made =
    goes_there sc c (closes c (option_map place_of reading) (by_query (proofs_in round.targets))) over was rounds round.number next e made
agreed_by sc c reading over rounds next _ e made = cc

-- the proofs were taken out of the round, and are an instance
pub agreed_there : (sc : Scenario) (c : Coordinator) (reading : Option Reading) (over : Span) (rounds : ℕ) (next : Move) (was : Phase)
    → span_in c.phase ≡ Some (over, rounds) → move_made sc c (point_of over) ≡ Some next
    → makes sc (record (closes c (option_map place_of reading) (proofs_at c.phase)) { phase = was }) (point_of over) rounds next ≡ agrees_in sc c c.phase reading
agreed_there sc c reading over rounds next was e made =
    let at = point_of over in
    let place = option_map place_of reading in
    let proofs = proofs_at c.phase in
    let is_done = closed_same sc c place proofs at next (made_by sc c at (move_after sc c at) next (is_made sc c at (move_after sc c at)) refl made) in
    makes_same sc (closes c place proofs) was at rounds next is_done ∙ agreed_by sc c reading over rounds next c.phase e made
