-- Served, a coordinator's row: a mail makes it ask anew, or leaves one fewer to await, or it is none that was awaited,
-- and the coordinator stays as it is.
use Rattle.std.specs.List.{list_any}
use Rattle.std.proofs.Common.{Bool, List, None, Option, Some, [], ap, false, if◌then◌else◌, inl, inr, is_some, map, option_and_then, option_map, refl, subst, sym, true, ℕ, ◌&&◌, ◌==◌, ◌||◌, ◌∙◌, ◌∷◌, ◌≡◌, ◌⊎◌}
use Rattle.std.proofs.lemmas.Bool.{or_right}
use Rattle.std.proofs.lemmas.Option.{same_Some}
use Rattle.tp_types.proofs.EachLemmas.{by_cond}
use Rattle.tp_types.proofs.ListLemmas.{number_itself}
use Rattle.tp_types.specs.Each.{Each}
use Rattle.tp_types.specs.Effect.{Effect, ignores}
use Rattle.tp_model.specs.Words.actor
use Rattle.tp_model.specs.Words.answer
use Rattle.tp_model.specs.Words.body
use Rattle.tp_model.specs.Words.cause
use Rattle.tp_model.specs.Words.outcome
use Rattle.tp_model.specs.Words.{Actor, Answer, Body, Cause, DoneReply, Mail, NewestReply, Query, Reading, Scenario, ServerId, Staple, TellReply, Verdict}
use Rattle.tp_coord.proofs.Rows.{Gained, gains_deed, gains_instances, with_gained}
use Rattle.tp_coord.specs.Row as coord
use Rattle.tp_coord.specs.State.{Coordinator}
use Rattle.tp_coord.specs.declared.coordinator.Phase.{Phase}
use Rattle.tp_coord.specs.declared.coordinator.Phase.TheVariants as phase
use Rattle.tp_coord.specs.declared.coordinator.Span.{Span}
use Rattle.tp_coord.specs.declared.coordinator.Span.TheVariants as span
use Rattle.tp_round.specs.Judge.{after_judgement, aim_in, awaits, final_answer, is_missing, is_outdated, is_spent, is_waiting, judge, met_in, mets_in, new_target, server_of_target, update_answer, wants_of}
use Rattle.tp_round.specs.Replies.{by_query, least_false, proofs_in}
use Rattle.tp_round.specs.declared.round.Judged.{Judged}
use Rattle.tp_round.specs.declared.round.Judged.TheVariants as judged
use Rattle.tp_round.specs.declared.round.Round.{Round}
use Rattle.tp_round.specs.declared.round.Target.{Target}
use Rattle.tp_round.specs.declared.round.Wanted.{Wanted}
use Rattle.tp_scheme.specs.declared.moves.Move.{Move}
use Rattle.tp_scheme.specs.declared.moves.Move.TheVariants as move
use Rattle.tp_scheme.specs.declared.moves.Point.{Point}
use Rattle.tp_scheme.specs.declared.moves.Point.TheVariants as point
use Rattle.tp_runs.proofs.basics.Homes.{is_past, is_ran, validated_ran}
use Rattle.tp_runs.proofs.basics.Ids.{same_server_is}
use Rattle.tp_runs.proofs.basics.Phases.{awaits_is}
use Rattle.tp_runs.proofs.basics.Rounds.{updated_is}
use Rattle.tp_runs.proofs.served.Awaited.{AwaitsSome, is_awaiting, is_home, is_reply, is_told, is_read, kind_of}
use Rattle.tp_runs.proofs.served.Moves.{Fresh, IsAtHome, asks_fresh, checks_fresh, home_there, orders_fresh, past_made, probes_fresh, query_fresh, staple_fresh, votes_fresh}
use Rattle.tp_runs.specs.Sound.{IsSoundPhase}

-- ---- outcomes

-- the sender is awaited no more, and others are as they were
pub record Fewer (sc : Scenario) (c : Coordinator) (mail : Mail) (effect : Effect Coordinator) : Type 0 where
  pub txn_is : effect.state.txn ≡ c.txn
  pub turn_is : effect.state.turn ≡ c.turn
  pub kind_is : kind_of effect.state.phase ≡ kind_of c.phase
  pub awaited : (who : Actor) → is_awaiting sc effect.state effect.state.phase who ≡ true → is_awaiting sc c c.phase who ≡ true
  pub other : (who : Actor) → is_awaiting sc effect.state effect.state.phase who ≡ true → mail.letter.from ≡ who → ⊥

-- the mail is no awaited reply, and the coordinator stays as it is
pub record Silent (sc : Scenario) (c : Coordinator) (mail : Mail) (effect : Effect Coordinator) : Type 0 where
  pub same : effect.state ≡ c
  pub unawaited : (who : Actor) → is_awaiting sc c c.phase who ≡ true → mail.letter.from ≡ who → is_reply c.turn (kind_of c.phase) mail.letter.body ≡ true → ⊥

pub record Handles (sc : Scenario) (c : Coordinator) (mail : Mail) (effect : Effect Coordinator) : Type 0 where
  pub kind : Fresh sc c.txn effect ⊎ (Fewer sc c mail effect ⊎ Silent sc c mail effect)
  pub some : AwaitsSome effect.state.phase

-- ---- what a row rests on

-- no two of these servers are one
abbrev pub AreApart : List ServerId → Type 0
AreApart [] = Unit {0}
AreApart (at ∷ servers) = Each (λ (other : ServerId). (other.0 == at.0) ≡ false) servers × AreApart servers

abbrev pub ServersApart : Phase → Type 0
ServersApart (phase.Checking over round staple) = AreApart (map server_of_target round.targets)
ServersApart _ = Unit {0}

pub record IsSteady (sc : Scenario) (c : Coordinator) : Type 0 where
  pub home : IsAtHome sc c
  pub sound : IsSoundPhase sc c.txn c.phase
  pub awaits : AwaitsSome c.phase
  pub apart : ServersApart c.phase

-- ---- somebody is awaited

new_missing : (servers : List ServerId) → (servers ≡ [] → ⊥) → list_any is_missing (map new_target servers) ≡ true
new_missing [] some = absurd (some refl)
new_missing (at ∷ servers) some = refl

voting_some : (servers : List ServerId) → (servers ≡ [] → ⊥) → AwaitsSome (phase.Voting servers)
voting_some [] some = some refl
voting_some (at ∷ servers) some = tt

probing_some : (at : Point) → AwaitsSome (coord.probing_at at)
probing_some (point.Begun number) = tt
probing_some (point.Stapled number) = tt
probing_some (point.Ran number) = tt
probing_some (point.Read number) = tt
probing_some (point.Validated number) = tt
probing_some point.Voted = tt
probing_some point.VoteRead = tt

-- a target that is out of date is awaited again
renewed_missing : (outdated : Target → Bool) (targets : List Target) → list_any outdated targets ≡ true → list_any is_missing (map (λ (one : Target). if outdated one then new_target one.server else one) targets) ≡ true
renewed_missing outdated [] e = absurd (cc)
renewed_missing outdated (one ∷ targets) e = first (outdated one) e (λ f. renewed_missing outdated targets f)
  where
    first : (b : Bool) → (b || list_any outdated targets) ≡ true → (list_any outdated targets ≡ true → list_any is_missing (map (λ (other : Target). if outdated other then new_target other.server else other) targets) ≡ true)
        → (is_missing (if b then new_target one.server else one) || list_any is_missing (map (λ (other : Target). if outdated other then new_target other.server else other) targets)) ≡ true
    first true some later = refl
    first false some later = or_right (is_missing one) _ (later some)

-- an update is of a round of which some server is out of date
updated_outdated : (round : Round) (reading : Option Reading) (named : List Wanted) → judge round reading ≡ judged.Update named → list_any (is_outdated (aim_in round reading)) round.targets ≡ true
updated_outdated round reading named e = by_waiting (is_waiting round reading) (list_any (is_outdated (aim_in round reading)) round.targets) refl e
  where
    final_not : (found : Option Verdict) → final_answer found ≡ judged.Update named → ⊥
    final_not None f = cc
    final_not (Some verdict) f = cc

    by_waiting : (w o : Bool) → list_any (is_outdated (aim_in round reading)) round.targets ≡ o
        → (if w then judged.Waiting else if o then update_answer round (aim_in round reading) (met_in round reading) else final_answer (least_false (proofs_in round.targets))) ≡ judged.Update named → o ≡ true
    by_waiting true o is f = absurd (cc)
    by_waiting false true is f = refl
    by_waiting false false is f = absurd (final_not (least_false (proofs_in round.targets)) f)

pub updated_some : (round : Round) (reading : Option Reading) (named : List Wanted) → judge round reading ≡ judged.Update named → list_any is_missing (after_judgement round reading).targets ≡ true
updated_some round reading named e =
    ap (λ (r : Round). list_any is_missing r.targets) (updated_is round reading named e)
    ∙ renewed_missing (is_outdated (aim_in round reading)) round.targets (updated_outdated round reading named e)

-- ---- ends

pub ended_outcome : (sc : Scenario) (c : Coordinator) (mail : Mail) (why : Cause) → Handles sc c mail (coord.aborts c why)
ended_outcome sc c mail why = record { kind = inl (orders_fresh sc c c outcome.Abort (coord.aborts c why) refl refl refl); some = tt }

-- ---- the transaction goes on

-- a point that is passed, of a query that there is where one ran
pub record IsPoint (sc : Scenario) (c : Coordinator) (at : Point) : Type 0 where
  pub past : is_past at ≡ true
  pub ran : is_ran at ≡ true → (asked : Query) × (coord.own_query sc c (coord.number_at at) ≡ Some asked)

made_outcome : (sc : Scenario) (c : Coordinator) (mail : Mail) (at : Point) (now : Gained) (stood : Phase) (rounds : ℕ) (next : Move) → IsAtHome sc c → IsPoint sc c at → coord.move_after sc c at ≡ next → coord.is_made sc c at next ≡ true
    → Handles sc c mail (coord.makes sc (record (with_gained c now) { phase = stood }) at rounds next)
made_outcome sc c mail at now stood rounds move.SendQuery k p m made = sent (coord.home_of sc c (coord.next_at at)) refl made
  where
    sent : (home : Option ServerId) → coord.home_of sc c (coord.next_at at) ≡ home → is_some home ≡ true
        → Handles sc c mail (coord.sends_next sc (record (with_gained c now) { phase = stood }) (coord.next_at at) None home)
    sent None e some = absurd (cc)
    sent (Some home) e some = record { kind = inl (query_fresh sc (record (with_gained c now) { phase = stood }) (coord.next_at at) None home e); some = tt }
made_outcome sc c mail at now stood rounds move.Ask k p m made = record { kind = inl (staple_fresh sc (record (with_gained c now) { phase = stood }) (coord.next_at at)); some = tt }
made_outcome sc c mail at now stood rounds move.Probe k p m made = record { kind = inl (probes_fresh sc (record (with_gained c now) { phase = stood }) at); some = probing_some at }
made_outcome sc c mail at now stood rounds move.Validate k p m made =
    let ran = p.ran (validated_ran sc c at m) in
    record {
      kind = inl (asks_fresh sc (record (with_gained c now) { phase = stood }) (span.Validate (coord.number_at at)) (coord.validation_round sc (record (with_gained c now) { phase = stood }) (coord.number_at at)));
      some = new_missing (coord.servers_upto sc c (coord.number_at at)) (k.upto (coord.number_at at) ran.0 ran.1);
    }
made_outcome sc c mail at now stood rounds move.CommitRounds k p m made =
    record {
      kind = inl (asks_fresh sc (record (with_gained c now) { phase = stood }) span.Commit (coord.commit_round sc (record (with_gained c now) { phase = stood })));
      some = new_missing c.servers k.some;
    }
made_outcome sc c mail at now stood rounds move.Votes k p m made = record { kind = inl (votes_fresh sc (record (with_gained c now) { phase = stood })); some = voting_some c.servers k.some }
made_outcome sc c mail at now stood rounds move.Decide k p m made =
    let next : Coordinator = record (with_gained c now) { phase = stood } in
    record { kind = inl (orders_fresh sc c next outcome.Commit (coord.commits next rounds) refl refl refl); some = tt }
made_outcome sc c mail at now stood rounds move.Following k p m made = absurd (cc)

-- what is made at a point is what comes after it
pub goes_outcome : (sc : Scenario) (c was : Coordinator) (mail : Mail) (at : Point) (now : Gained) (stood : Phase) (rounds : ℕ) → IsAtHome sc c → IsPoint sc c at → coord.move_made sc was at ≡ coord.move_made sc c at
    → Handles sc c mail (coord.goes_on sc was (record (with_gained c now) { phase = stood }) at rounds)
goes_outcome sc c was mail at now stood rounds k p same =
    let made = past_made sc c at k p.past in
    let is : coord.move_made sc c at ≡ Some (coord.move_after sc c at) = ap (λ (b : Bool). if b then Some (coord.move_after sc c at) else None) made in
    subst (λ (next : Option Move). Handles sc c mail (coord.goes_by sc was (record (with_gained c now) { phase = stood }) at rounds next)) (sym (same ∙ is))
    (made_outcome sc c mail at now stood rounds (coord.move_after sc c at) k p refl made)

-- ---- a mail that is not awaited

and_none : (b : Bool) → (b && false) ≡ false
and_none true = refl
and_none false = refl

-- a mail that says no awaited reply, whatever is sent on it
pub silent_at : (sc : Scenario) (c : Coordinator) (mail : Mail) (effect : Effect Coordinator) (said : Body) → mail.letter.body ≡ said → is_reply c.turn (kind_of c.phase) said ≡ false → effect.state ≡ c → AwaitsSome c.phase
    → Handles sc c mail effect
silent_at sc c mail effect said e none same some =
    record {
      kind = inr (inr (record {
        same = same;
        unawaited = λ who awaits from reply.
            let both : true ≡ false = sym reply ∙ (ap (is_reply c.turn (kind_of c.phase)) e ∙ none) in
            cc;
      }));
      some = subst (λ (k : Coordinator). AwaitsSome k.phase) (sym same) some;
    }

pub silent : (sc : Scenario) (c : Coordinator) (mail : Mail) (said : Body) → mail.letter.body ≡ said → is_reply c.turn (kind_of c.phase) said ≡ false → AwaitsSome c.phase → Handles sc c mail (ignores c)
silent sc c mail said e none some = silent_at sc c mail (ignores c) said e none refl some

-- ---- Done

answer_outcome : (sc : Scenario) (c : Coordinator) (mail : Mail) (done : DoneReply) (server : ServerId) (asked : Query) (given : Answer) → IsAtHome sc c → coord.own_query sc c done.query ≡ Some asked
    → Handles sc c mail (coord.on_answer sc c (record { sent = mail.sent; server = server; done = done; query = asked }) given)
answer_outcome sc c mail done server asked (answer.Ran value proof) k e =
    goes_outcome sc c c mail (point.Ran done.query) (gains_deed sc c server done asked value proof) c.phase 0 k (record { past = refl; ran = λ there. (asked, e) }) refl
answer_outcome sc c mail done server asked (answer.Denied verdict) k e = ended_outcome sc c mail (cause.Denied (coord.denied_by verdict))
answer_outcome sc c mail done server asked (answer.Newer newer) k e = ended_outcome sc c mail (cause.Newer newer)
answer_outcome sc c mail done server asked (answer.Died other) k e = ended_outcome sc c mail (cause.Died (coord.died_for server done other mail.sent))
answer_outcome sc c mail done server asked answer.Restarted k e = ended_outcome sc c mail (cause.Restarted server)

-- the home of the query that is awaited is who is asked
home_from : (sc : Scenario) (c : Coordinator) (number : ℕ) (staple : Option Staple) (home : ServerId) (who : Actor) → coord.home_of sc c number ≡ Some home → is_awaiting sc c (phase.Querying number staple) who ≡ true → coord.is_from who home ≡ true
home_from sc c number staple home (actor.Server at) e awaits =
    let same : home ≡ at = same_home (coord.home_of sc c number) e awaits in
    subst (λ (s : ServerId). (at.0 == s.0) ≡ true) (sym same) (number_itself at.0)
  where
    same_home : (found : Option ServerId) → found ≡ Some home → is_home found at ≡ true → home ≡ at
    same_home (Some one) f h = sym (same_Some one home f) ∙ same_server_is one at h
    same_home None f h = absurd (cc)
home_from sc c number staple home (actor.Coordinator txn) e awaits = absurd (cc)
home_from sc c number staple home actor.Master e awaits = absurd (cc)
home_from sc c number staple home actor.Authority e awaits = absurd (cc)

from_home : (sc : Scenario) (c : Coordinator) (mail : Mail) (done : DoneReply) (staple : Option Staple) (asked : Query) (home : ServerId) → IsSteady sc c → c.phase ≡ phase.Querying done.query staple
    → coord.own_query sc c done.query ≡ Some asked → coord.home_of sc c done.query ≡ Some home → Handles sc c mail (coord.on_done_from sc c mail.sent mail.letter.from done asked (Some home))
from_home sc c mail done staple asked home k querying asked_is home_is =
    by_cond (Handles sc c mail) (coord.is_from mail.letter.from home) (λ from. answer_outcome sc c mail done home asked done.answer k.home asked_is)
    (λ other. record {
      kind = inr (inr (record {
        same = refl;
        unawaited = λ who awaits from reply.
            let there = home_from sc c done.query staple home who home_is (subst (λ (p : Phase). is_awaiting sc c p who ≡ true) querying awaits) in
            let both : true ≡ false = sym there ∙ (ap (λ (a : Actor). coord.is_from a home) (sym from) ∙ other) in
            cc;
      }));
      some = k.awaits;
    })

asked_outcome : (sc : Scenario) (c : Coordinator) (mail : Mail) (done : DoneReply) (staple : Option Staple) → IsSteady sc c → c.phase ≡ phase.Querying done.query staple
    → Handles sc c mail (coord.on_done_of_query sc c mail.sent mail.letter.from done (coord.own_query sc c done.query))
asked_outcome sc c mail done staple k querying =
    let query = (subst (IsSoundPhase sc c.txn) querying k.sound).0 in
    let asked = query.asked in
    let home = home_there sc c done.query asked k.home.homes query.asked_is in
    let server : coord.server_of sc asked ≡ Some home.0 = sym (ap (λ (q : Option Query). option_and_then (coord.server_of sc) q) query.asked_is) ∙ home.1 in
    subst (λ (q : Option Query). Handles sc c mail (coord.on_done_of_query sc c mail.sent mail.letter.from done q)) (sym query.asked_is)
    (subst (λ (s : Option ServerId). Handles sc c mail (coord.on_done_from sc c mail.sent mail.letter.from done asked s)) (sym server)
    (from_home sc c mail done staple asked home.0 k querying query.asked_is home.1))

same_asked : (c : Coordinator) (awaited : Phase) (done : DoneReply) → is_reply c.turn (kind_of awaited) (body.Done done) ≡ coord.awaits_query c awaited done
same_asked c (phase.Querying number staple) done = refl
same_asked c phase.Idle done = and_none (done.turn == c.turn)
same_asked c (phase.Stapling number) done = and_none (done.turn == c.turn)
same_asked c (phase.Probing number) done = and_none (done.turn == c.turn)
same_asked c (phase.Asking over round) done = and_none (done.turn == c.turn)
same_asked c (phase.Checking (span.Validate number) round staple) done = and_none (done.turn == c.turn)
same_asked c (phase.Checking span.Commit round staple) done = and_none (done.turn == c.turn)
same_asked c (phase.Reading over round) done = and_none (done.turn == c.turn)
same_asked c (phase.Voting awaited) done = and_none (done.turn == c.turn)
same_asked c phase.VoteProbing done = and_none (done.turn == c.turn)
same_asked c (phase.Ending ended awaited) done = and_none (done.turn == c.turn)

pub done_outcome : (sc : Scenario) (c : Coordinator) (mail : Mail) (done : DoneReply) → IsSteady sc c → mail.letter.body ≡ body.Done done → Handles sc c mail (coord.on_done sc c c.phase mail.sent mail.letter.from done)
done_outcome sc c mail done k e =
    by_cond (Handles sc c mail) (coord.awaits_query c c.phase done)
    (λ awaited. let querying = awaits_is c c.phase done awaited in asked_outcome sc c mail done querying.0 k querying.1)
    (λ other. silent sc c mail (body.Done done) e (same_asked c c.phase done ∙ other) k.awaits)

-- ---- Tell

-- where what is said is of the turn, but the phase awaits another reply
pub other_kind : (b k : Bool) → k ≡ false → (b && k) ≡ false
other_kind b k e = ap (λ (x : Bool). b && x) e ∙ and_none b

pub other_turn : (b k : Bool) → b ≡ false → (b && k) ≡ false
other_turn b k e = ap (λ (x : Bool). x && k) e

told_outcome : (sc : Scenario) (c : Coordinator) (mail : Mail) (tell : TellReply) (awaited : Phase) → IsSteady sc c → mail.letter.body ≡ body.Tell tell → c.phase ≡ awaited
    → Handles sc c mail (coord.on_staple sc c awaited (coord.staple_of tell mail.sent))
told_outcome sc c mail tell (phase.Stapling number) k said e =
    let query = subst (IsSoundPhase sc c.txn) e k.sound in
    let home = home_there sc c number query.asked k.home.homes query.asked_is in
    subst (λ (s : Option ServerId). Handles sc c mail (coord.sends_next sc c number (Some (coord.staple_of tell mail.sent)) s)) (sym home.1)
    (record { kind = inl (query_fresh sc c number (Some (coord.staple_of tell mail.sent)) home.0 home.1); some = tt })
told_outcome sc c mail tell (phase.Asking over round) k said e =
    record { kind = inl (checks_fresh sc c over round (coord.staple_of tell mail.sent)); some = subst AwaitsSome e k.awaits }
told_outcome sc c mail tell phase.Idle k said e = silent sc c mail (body.Tell tell) said (other_kind (tell.turn == c.turn) (is_told (kind_of c.phase)) (ap (λ (p : Phase). is_told (kind_of p)) e)) k.awaits
told_outcome sc c mail tell (phase.Querying number staple) k said e = silent sc c mail (body.Tell tell) said (other_kind (tell.turn == c.turn) (is_told (kind_of c.phase)) (ap (λ (p : Phase). is_told (kind_of p)) e)) k.awaits
told_outcome sc c mail tell (phase.Probing number) k said e = silent sc c mail (body.Tell tell) said (other_kind (tell.turn == c.turn) (is_told (kind_of c.phase)) (ap (λ (p : Phase). is_told (kind_of p)) e)) k.awaits
told_outcome sc c mail tell (phase.Checking (span.Validate number) round staple) k said e = silent sc c mail (body.Tell tell) said (other_kind (tell.turn == c.turn) (is_told (kind_of c.phase)) (ap (λ (p : Phase). is_told (kind_of p)) e)) k.awaits
told_outcome sc c mail tell (phase.Checking span.Commit round staple) k said e = silent sc c mail (body.Tell tell) said (other_kind (tell.turn == c.turn) (is_told (kind_of c.phase)) (ap (λ (p : Phase). is_told (kind_of p)) e)) k.awaits
told_outcome sc c mail tell (phase.Reading over round) k said e = silent sc c mail (body.Tell tell) said (other_kind (tell.turn == c.turn) (is_told (kind_of c.phase)) (ap (λ (p : Phase). is_told (kind_of p)) e)) k.awaits
told_outcome sc c mail tell (phase.Voting awaited) k said e = silent sc c mail (body.Tell tell) said (other_kind (tell.turn == c.turn) (is_told (kind_of c.phase)) (ap (λ (p : Phase). is_told (kind_of p)) e)) k.awaits
told_outcome sc c mail tell phase.VoteProbing k said e = silent sc c mail (body.Tell tell) said (other_kind (tell.turn == c.turn) (is_told (kind_of c.phase)) (ap (λ (p : Phase). is_told (kind_of p)) e)) k.awaits
told_outcome sc c mail tell (phase.Ending ended awaited) k said e = silent sc c mail (body.Tell tell) said (other_kind (tell.turn == c.turn) (is_told (kind_of c.phase)) (ap (λ (p : Phase). is_told (kind_of p)) e)) k.awaits

pub tell_outcome : (sc : Scenario) (c : Coordinator) (mail : Mail) (tell : TellReply) → IsSteady sc c → mail.letter.body ≡ body.Tell tell → Handles sc c mail (coord.on_tell sc c c.phase mail.sent tell)
tell_outcome sc c mail tell k e =
    by_cond (Handles sc c mail) (tell.turn == c.turn) (λ present. told_outcome sc c mail tell c.phase k e refl)
    (λ other. silent sc c mail (body.Tell tell) e (other_turn (tell.turn == c.turn) (is_told (kind_of c.phase)) other) k.awaits)

-- ---- a round is judged

waits_not : (round : Round) (reading : Option Reading) → judge round reading ≡ judged.Waiting → is_waiting round reading ≡ false → ⊥
waits_not round reading e f = by_outdated (list_any (is_outdated (aim_in round reading)) round.targets) (sym (ap (λ (w : Bool). if w then judged.Waiting else judged_by (list_any (is_outdated (aim_in round reading)) round.targets)) f) ∙ e)
  where
    judged_by : Bool → Judged
    judged_by o = if o then update_answer round (aim_in round reading) (met_in round reading) else final_answer (least_false (proofs_in round.targets))

    final_not : (found : Option Verdict) → final_answer found ≡ judged.Waiting → ⊥
    final_not None g = cc
    final_not (Some verdict) g = cc

    spent_not : (b : Bool) → (if b then judged.Spent (mets_in round (met_in round reading)) else judged.Update (wants_of (aim_in round reading) round.targets)) ≡ judged.Waiting → ⊥
    spent_not true g = cc
    spent_not false g = cc

    by_outdated : (o : Bool) → judged_by o ≡ judged.Waiting → ⊥
    by_outdated true g = spent_not (is_spent round (met_in round reading)) g
    by_outdated false g = final_not (least_false (proofs_in round.targets)) g

round_point : (sc : Scenario) (c : Coordinator) (over : Span) → IsPoint sc c (coord.point_of over)
round_point sc c (span.Validate number) = record { past = refl; ran = λ e. absurd (cc) }
round_point sc c span.Commit = record { past = refl; ran = λ e. absurd (cc) }

pub judged_outcome : (sc : Scenario) (c : Coordinator) (mail : Mail) (over : Span) (round : Round) (staple : Option Staple) (reading : Option Reading) (said : Judged) → IsAtHome sc c → judge round reading ≡ said → is_waiting round reading ≡ false
    → Handles sc c mail (coord.on_judged sc c over round staple reading said)
judged_outcome sc c mail over round staple reading judged.Waiting k e f = absurd (waits_not round reading e f)
judged_outcome sc c mail over round staple reading (judged.Spent mets) k e f = ended_outcome sc c mail (cause.Rounds mets)
judged_outcome sc c mail over round staple reading (judged.False verdict) k e f = ended_outcome sc c mail (cause.Denied (coord.denied_by verdict))
judged_outcome sc c mail over round staple reading (judged.Update named) k e f = record { kind = inl (asks_fresh sc c over (after_judgement round reading)); some = updated_some round reading named e }
judged_outcome sc c mail over round staple reading judged.AllTrue k e f =
    goes_outcome sc c (coord.awaiting c over round staple) mail (coord.point_of over) (gains_instances c (coord.instances_with c (option_map coord.place_of reading) (by_query (proofs_in round.targets)))) (coord.phase_of over round staple) round.number
    k (round_point sc c over) refl

-- ---- Newest

read_outcome : (sc : Scenario) (c : Coordinator) (mail : Mail) (reading : Reading) (at : Point) (found : Option Cause) → IsAtHome sc c → IsPoint sc c at → Handles sc c mail (coord.on_older sc c at reading found)
read_outcome sc c mail reading at (Some why) k p = ended_outcome sc c mail why
read_outcome sc c mail reading at None k p = goes_outcome sc c c mail at (gains_instances c (coord.instances_with c (Some reading.place) c.gathered)) c.phase 0 k p refl

newest_by : (sc : Scenario) (c : Coordinator) (mail : Mail) (reply : NewestReply) (awaited : Phase) → IsSteady sc c → mail.letter.body ≡ body.Newest reply → c.phase ≡ awaited
    → Handles sc c mail (coord.on_reading sc c awaited (coord.reading_of reply mail.sent))
newest_by sc c mail reply (phase.Probing number) k said e =
    read_outcome sc c mail (coord.reading_of reply mail.sent) (point.Read number) (coord.older_than c (coord.reading_of reply mail.sent)) k.home (record { past = refl; ran = λ f. absurd (cc) })
newest_by sc c mail reply phase.VoteProbing k said e =
    read_outcome sc c mail (coord.reading_of reply mail.sent) point.VoteRead (coord.older_than c (coord.reading_of reply mail.sent)) k.home (record { past = refl; ran = λ f. absurd (cc) })
newest_by sc c mail reply (phase.Reading over round) k said e =
    let found = coord.reading_of reply mail.sent in
    let whole : list_any is_missing round.targets ≡ false = subst AwaitsSome e k.awaits in
    judged_outcome sc c mail over round None (Some found) (judge round (Some found)) k.home refl (ap (λ (b : Bool). b || (round.reads && false)) whole ∙ and_none round.reads)
newest_by sc c mail reply phase.Idle k said e = silent sc c mail (body.Newest reply) said (other_kind (reply.turn == c.turn) (is_read (kind_of c.phase)) (ap (λ (p : Phase). is_read (kind_of p)) e)) k.awaits
newest_by sc c mail reply (phase.Stapling number) k said e = silent sc c mail (body.Newest reply) said (other_kind (reply.turn == c.turn) (is_read (kind_of c.phase)) (ap (λ (p : Phase). is_read (kind_of p)) e)) k.awaits
newest_by sc c mail reply (phase.Querying number staple) k said e = silent sc c mail (body.Newest reply) said (other_kind (reply.turn == c.turn) (is_read (kind_of c.phase)) (ap (λ (p : Phase). is_read (kind_of p)) e)) k.awaits
newest_by sc c mail reply (phase.Asking over round) k said e = silent sc c mail (body.Newest reply) said (other_kind (reply.turn == c.turn) (is_read (kind_of c.phase)) (ap (λ (p : Phase). is_read (kind_of p)) e)) k.awaits
newest_by sc c mail reply (phase.Checking (span.Validate number) round staple) k said e = silent sc c mail (body.Newest reply) said (other_kind (reply.turn == c.turn) (is_read (kind_of c.phase)) (ap (λ (p : Phase). is_read (kind_of p)) e)) k.awaits
newest_by sc c mail reply (phase.Checking span.Commit round staple) k said e = silent sc c mail (body.Newest reply) said (other_kind (reply.turn == c.turn) (is_read (kind_of c.phase)) (ap (λ (p : Phase). is_read (kind_of p)) e)) k.awaits
newest_by sc c mail reply (phase.Voting awaited) k said e = silent sc c mail (body.Newest reply) said (other_kind (reply.turn == c.turn) (is_read (kind_of c.phase)) (ap (λ (p : Phase). is_read (kind_of p)) e)) k.awaits
newest_by sc c mail reply (phase.Ending ended awaited) k said e = silent sc c mail (body.Newest reply) said (other_kind (reply.turn == c.turn) (is_read (kind_of c.phase)) (ap (λ (p : Phase). is_read (kind_of p)) e)) k.awaits

pub newest_outcome : (sc : Scenario) (c : Coordinator) (mail : Mail) (reply : NewestReply) → IsSteady sc c → mail.letter.body ≡ body.Newest reply → Handles sc c mail (coord.on_newest sc c c.phase mail.sent reply)
newest_outcome sc c mail reply k e =
    by_cond (Handles sc c mail) (reply.turn == c.turn) (λ present. newest_by sc c mail reply c.phase k e refl)
    (λ other. silent sc c mail (body.Newest reply) e (other_turn (reply.turn == c.turn) (is_read (kind_of c.phase)) other) k.awaits)
