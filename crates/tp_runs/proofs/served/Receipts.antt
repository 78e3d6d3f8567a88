-- Served, a coordinator's row on votes, verdicts, acknowledgements and questions; the whole row; and its timer.
use Rattle.std.specs.List.{list_any}
use Rattle.std.proofs.Common.{Bool, List, None, Option, Some, [], ap, cond, false, if◌then◌else◌, inl, inr, is_none, map, not, refl, subst, sym, true, ℕ, ◌&&◌, ◌==◌, ◌||◌, ◌∙◌, ◌∷◌, ◌≡◌}
use Rattle.std.proofs.lemmas.Bool.{and_parts, or_right}
use Rattle.tp_types.proofs.EachLemmas.{by_cond}
use Rattle.tp_types.proofs.ListLemmas.{number_itself}
use Rattle.tp_types.specs.Each.{Each}
use Rattle.tp_types.specs.Effect.{ignores, sends}
use Rattle.tp_model.specs.Ids.{same_server}
use Rattle.tp_model.specs.Words.actor
use Rattle.tp_model.specs.Words.body
use Rattle.tp_model.specs.Words.cause
use Rattle.tp_model.specs.Words.no
use Rattle.tp_model.specs.Words.vote
use Rattle.tp_model.specs.Words.{AckReply, Actor, Body, Mail, No, Outcome, Scenario, ServerId, Staple, Verdict, VerdictsReply, Vote, VoteReply}
use Rattle.tp_coord.proofs.Rows.{gains_instances}
use Rattle.tp_coord.specs.Row as coord
use Rattle.tp_coord.specs.State.{Coordinator}
use Rattle.tp_coord.specs.declared.coordinator.Phase.{Phase}
use Rattle.tp_coord.specs.declared.coordinator.Phase.TheVariants as phase
use Rattle.tp_coord.specs.declared.coordinator.Span.{Span}
use Rattle.tp_coord.specs.declared.coordinator.Span.TheVariants as span
use Rattle.tp_round.specs.Judge.{after_reply, awaits, is_awaited, is_missing, judge, server_of_target, with_reply}
use Rattle.tp_round.specs.declared.round.Round.{Round}
use Rattle.tp_round.specs.declared.round.Target.{Target}
use Rattle.tp_scheme.specs.declared.moves.Point.TheVariants as point
use Rattle.tp_runs.proofs.basics.Ids.{same_server_is}
use Rattle.tp_runs.proofs.served.Awaited.{IsAskedOf, IsRequest, is_awaiting, is_ended, is_home, is_reply, is_shown, is_voted_on, kind_of}
use Rattle.tp_runs.proofs.served.CoordinatorRows.{AreApart, Fewer, Handles, IsSteady, ServersApart, done_outcome, ended_outcome, goes_outcome, judged_outcome, newest_outcome, silent, silent_at, tell_outcome}
use Rattle.tp_runs.proofs.served.Lists.{AnyOf, any_mapped}
use Rattle.tp_runs.proofs.served.Moves.{reading_fresh, round_asked}

-- ---- a reply in a round

same_actor_server : (one other : ServerId) → actor.Server one ≡ actor.Server other → one ≡ other
same_actor_server one other e = ap server_named e
  where
    server_named : Actor → ServerId
    server_named (actor.Server at) = at
    server_named _ = one

-- who is awaited after a reply was awaited before it
replied_by : (target : Target) (targets more : List Target) (server at : ServerId) (verdicts : List Verdict) (b : Bool) → (is_awaited more at ≡ true → is_awaited targets at ≡ true)
    → is_awaited (if b then record { server = server; reply = Some verdicts } ∷ targets else target ∷ more) at ≡ true → (awaits at target || is_awaited targets at) ≡ true
replied_by target targets more server at verdicts true later e = by_first (server.0 == at.0) e
  where
    by_first : (s : Bool) → ((s && false) || is_awaited targets at) ≡ true → (awaits at target || is_awaited targets at) ≡ true
    by_first true f = or_right (awaits at target) (is_awaited targets at) f
    by_first false f = or_right (awaits at target) (is_awaited targets at) f
replied_by target targets more server at verdicts false later e = by_first (awaits at target) e
  where
    by_first : (b : Bool) → (b || is_awaited more at) ≡ true → (b || is_awaited targets at) ≡ true
    by_first true f = refl
    by_first false f = later f

replied_awaited : (targets : List Target) (server at : ServerId) (verdicts : List Verdict) → is_awaited (with_reply targets server verdicts) at ≡ true → is_awaited targets at ≡ true
replied_awaited [] server at verdicts e = absurd (cc)
replied_awaited (target ∷ targets) server at verdicts e =
    replied_by target targets (with_reply targets server verdicts) server at verdicts (awaits server target) (λ f. replied_awaited targets server at verdicts f) e

-- a server that is none of these is not awaited
none_awaited : (targets : List Target) (server : ServerId) → Each (λ (other : ServerId). (other.0 == server.0) ≡ false) (map server_of_target targets) → is_awaited targets server ≡ false
none_awaited [] server h = refl
none_awaited (target ∷ targets) server h = ap (λ (b : Bool). (b && is_none target.reply) || is_awaited targets server) h.0 ∙ none_awaited targets server h.1

-- the server that replied is awaited no more
replied_gone : (target : Target) (targets more : List Target) (server : ServerId) (verdicts : List Verdict) (s m : Bool) → same_server target.server server ≡ s → is_none target.reply ≡ m
    → Each (λ (other : ServerId). (other.0 == target.server.0) ≡ false) (map server_of_target targets) → (is_awaited targets server ≡ true → is_awaited more server ≡ false)
    → ((s && m) || is_awaited targets server) ≡ true → is_awaited (if s && m then record { server = server; reply = Some verdicts } ∷ targets else target ∷ more) server ≡ false
replied_gone target targets more server verdicts true true s m apart later e =
    let same : target.server ≡ server = same_server_is target.server server s in
    let none : is_awaited targets server ≡ false = none_awaited targets server (subst (λ (at : ServerId). Each (λ (other : ServerId). (other.0 == at.0) ≡ false) (map server_of_target targets)) same apart) in
    by_self (server.0 == server.0) none
  where
    by_self : (b : Bool) → is_awaited targets server ≡ false → ((b && false) || is_awaited targets server) ≡ false
    by_self true f = f
    by_self false f = f
replied_gone target targets more server verdicts true false s m apart later e =
    ap (λ (b : Bool). (same_server target.server server && b) || is_awaited more server) m ∙ (ap (λ (b : Bool). (b && false) || is_awaited more server) s ∙ later e)
replied_gone target targets more server verdicts false m s is apart later e = ap (λ (b : Bool). (b && is_none target.reply) || is_awaited more server) s ∙ later e

replied_apart : (targets : List Target) (server : ServerId) (verdicts : List Verdict) → AreApart (map server_of_target targets) → is_awaited targets server ≡ true → is_awaited (with_reply targets server verdicts) server ≡ false
replied_apart [] server verdicts apart e = absurd (cc)
replied_apart (target ∷ targets) server verdicts apart e =
    replied_gone target targets (with_reply targets server verdicts) server verdicts (same_server target.server server) (is_none target.reply) refl refl apart.0 (λ f. replied_apart targets server verdicts apart.1 f) e

round_kind : (over : Span) (round next : Round) (staple : Staple) → kind_of (phase.Checking over next staple) ≡ kind_of (phase.Checking over round staple)
round_kind (span.Validate number) round next staple = refl
round_kind span.Commit round next staple = refl

-- others are awaited
counted_fewer : (sc : Scenario) (c : Coordinator) (mail : Mail) (over : Span) (round : Round) (staple : Staple) (server : ServerId) (verdicts : List Verdict) → IsSteady sc c → c.phase ≡ phase.Checking over round staple
    → mail.letter.from ≡ actor.Server server → is_awaited round.targets server ≡ true → Fewer sc c mail (coord.stays c over (after_reply round server verdicts) (Some staple))
counted_fewer sc c mail over round staple server verdicts k checking from awaited =
    record {
      txn_is = refl;
      turn_is = refl;
      kind_is = round_kind over round (after_reply round server verdicts) staple ∙ sym (ap kind_of checking);
      awaited = λ who e. subst (λ (p : Phase). is_awaiting sc c p who ≡ true) (sym checking) (by_actor who e);
      other = λ who e is. gone who e (sym from ∙ is);
    }
  where
    by_actor : (who : Actor) → is_awaiting sc (coord.stays c over (after_reply round server verdicts) (Some staple)).state (phase.Checking over (after_reply round server verdicts) staple) who ≡ true
        → is_awaiting sc c (phase.Checking over round staple) who ≡ true
    by_actor (actor.Server at) e = replied_awaited round.targets server at verdicts e
    by_actor (actor.Coordinator txn) e = absurd (cc)
    by_actor actor.Master e = absurd (cc)
    by_actor actor.Authority e = absurd (cc)

    gone : (who : Actor) → is_awaiting sc (coord.stays c over (after_reply round server verdicts) (Some staple)).state (phase.Checking over (after_reply round server verdicts) staple) who ≡ true → actor.Server server ≡ who → ⊥
    gone (actor.Server at) e is =
        let same : server ≡ at = same_actor_server server at is in
        let still : is_awaited (with_reply round.targets server verdicts) server ≡ true = subst (λ (s : ServerId). is_awaited (with_reply round.targets server verdicts) s ≡ true) (sym same) e in
        let none = replied_apart round.targets server verdicts (subst ServersApart checking k.apart) awaited in
        cc
    gone (actor.Coordinator txn) e is = cc
    gone actor.Master e is = cc
    gone actor.Authority e is = cc

reply_outcome : (sc : Scenario) (c : Coordinator) (mail : Mail) (over : Span) (round : Round) (staple : Staple) (server : ServerId) (verdicts : List Verdict) → IsSteady sc c → c.phase ≡ phase.Checking over round staple
    → mail.letter.from ≡ actor.Server server → is_awaited round.targets server ≡ true → Handles sc c mail (coord.on_reply sc c over (after_reply round server verdicts) staple)
reply_outcome sc c mail over round staple server verdicts k checking from awaited =
    let now = after_reply round server verdicts in
    by_cond (Handles sc c mail) (list_any is_missing now.targets)
    (λ missing. record { kind = inr (inl (counted_fewer sc c mail over round staple server verdicts k checking from awaited)); some = missing })
    (λ whole. by_cond (Handles sc c mail) now.reads (λ reads. record { kind = inl (reading_fresh sc c over now); some = whole })
    (λ unread. judged_outcome sc c mail over now (Some staple) None (judge now None) k.home refl (ap (λ (b : Bool). b || (now.reads && true)) whole ∙ ap (λ (b : Bool). b && true) unread)))

-- ---- Vote

no_outcome : (sc : Scenario) (c : Coordinator) (mail : Mail) (server : ServerId) (why : No) → Handles sc c mail (coord.on_no c server why)
no_outcome sc c mail server (no.Range number value) = ended_outcome sc c mail (cause.No (coord.refused_by server number value))
no_outcome sc c mail server no.Restarted = ended_outcome sc c mail (cause.Restarted server)

vote_of_outcome : (sc : Scenario) (c : Coordinator) (mail : Mail) (round : Round) (staple : Staple) (server : ServerId) (said : Vote) → IsSteady sc c → c.phase ≡ phase.Checking span.Commit round staple
    → mail.letter.from ≡ actor.Server server → is_awaited round.targets server ≡ true → Handles sc c mail (coord.on_vote_of sc c span.Commit round staple server said)
vote_of_outcome sc c mail round staple server (vote.Yes verdicts) k checking from awaited = reply_outcome sc c mail span.Commit round staple server verdicts k checking from awaited
vote_of_outcome sc c mail round staple server (vote.No why) k checking from awaited = no_outcome sc c mail server why

-- of these servers but one
left_among : (servers : List ServerId) (server at : ServerId) → coord.is_among (coord.without servers server) at ≡ true → (coord.is_among servers at ≡ true) × (server ≡ at → ⊥)
left_among [] server at e = absurd (cc)
left_among (first ∷ servers) server at e = by_first (first.0 == server.0) refl (λ f. left_among servers server at f) e
  where
    by_here : (h : Bool) → (first.0 == at.0) ≡ h → (first.0 == server.0) ≡ false → (coord.is_among (coord.without servers server) at ≡ true → (coord.is_among servers at ≡ true) × (server ≡ at → ⊥))
        → (h || coord.is_among (coord.without servers server) at) ≡ true → ((h || coord.is_among servers at) ≡ true) × (server ≡ at → ⊥)
    by_here true here apart later g = (
      refl,
      λ is.
          let one : first ≡ at = same_server_is first at here in
          let both : (first.0 == server.0) ≡ true = subst (λ (s : ServerId). (first.0 == s.0) ≡ true) (one ∙ sym is) (number_itself first.0) in
          cc,
    )
    by_here false elsewhere apart later g = later g

    by_first : (b : Bool) → (first.0 == server.0) ≡ b → (coord.is_among (coord.without servers server) at ≡ true → (coord.is_among servers at ≡ true) × (server ≡ at → ⊥))
        → coord.is_among (cond (not b) (first ∷ coord.without servers server) (coord.without servers server)) at ≡ true → (((first.0 == at.0) || coord.is_among servers at) ≡ true) × (server ≡ at → ⊥)
    by_first true same later f = let rest = later f in (or_right (first.0 == at.0) (coord.is_among servers at) rest.0, rest.1)
    by_first false apart later f = by_here (first.0 == at.0) refl apart later f

voted_fewer : (sc : Scenario) (c : Coordinator) (mail : Mail) (awaited left : List ServerId) (server : ServerId) → c.phase ≡ phase.Voting awaited → mail.letter.from ≡ actor.Server server → coord.without awaited server ≡ left
    → Fewer sc c mail (sends (coord.voting c left) [])
voted_fewer sc c mail awaited left server voting from is =
    record {
      txn_is = refl;
      turn_is = refl;
      kind_is = sym (ap kind_of voting);
      awaited = λ who e. subst (λ (p : Phase). is_awaiting sc c p who ≡ true) (sym voting) (by_actor who e);
      other = λ who e at. gone who e (sym from ∙ at);
    }
  where
    by_actor : (who : Actor) → is_awaiting sc (coord.voting c left) (phase.Voting left) who ≡ true → is_awaiting sc c (phase.Voting awaited) who ≡ true
    by_actor (actor.Server at) e = (left_among awaited server at (subst (λ (servers : List ServerId). coord.is_among servers at ≡ true) (sym is) e)).0
    by_actor (actor.Coordinator txn) e = absurd (cc)
    by_actor actor.Master e = absurd (cc)
    by_actor actor.Authority e = absurd (cc)

    gone : (who : Actor) → is_awaiting sc (coord.voting c left) (phase.Voting left) who ≡ true → actor.Server server ≡ who → ⊥
    gone (actor.Server at) e same = (left_among awaited server at (subst (λ (servers : List ServerId). coord.is_among servers at ≡ true) (sym is) e)).1 (same_actor_server server at same)
    gone (actor.Coordinator txn) e same = cc
    gone actor.Master e same = cc
    gone actor.Authority e same = cc

left_outcome : (sc : Scenario) (c : Coordinator) (mail : Mail) (awaited left : List ServerId) (server : ServerId) → IsSteady sc c → c.phase ≡ phase.Voting awaited → mail.letter.from ≡ actor.Server server → coord.without awaited server ≡ left
    → Handles sc c mail (coord.on_votes_left sc c left)
left_outcome sc c mail awaited [] server k voting from is =
    goes_outcome sc c (coord.voting c []) mail point.Voted (gains_instances c c.instances) (phase.Voting []) 0 k.home (record { past = refl; ran = λ e. absurd (cc) }) refl
left_outcome sc c mail awaited (other ∷ left) server k voting from is =
    record { kind = inr (inl (voted_fewer sc c mail awaited (other ∷ left) server voting from is)); some = tt }

plain_outcome : (sc : Scenario) (c : Coordinator) (mail : Mail) (awaited : List ServerId) (server : ServerId) (said : Vote) → IsSteady sc c → c.phase ≡ phase.Voting awaited → mail.letter.from ≡ actor.Server server
    → Handles sc c mail (coord.on_plain_vote sc c awaited server said)
plain_outcome sc c mail awaited server (vote.Yes verdicts) k voting from = left_outcome sc c mail awaited (coord.without awaited server) server k voting from refl
plain_outcome sc c mail awaited server (vote.No why) k voting from = no_outcome sc c mail server why

vote_by_phase : (sc : Scenario) (c : Coordinator) (mail : Mail) (reply : VoteReply) (awaited : Phase) (server : ServerId) → IsSteady sc c → c.phase ≡ awaited → mail.letter.from ≡ actor.Server server → coord.awaits_vote awaited server ≡ true
    → Handles sc c mail (coord.vote_at sc c awaited server reply.vote)
vote_by_phase sc c mail reply (phase.Checking span.Commit round staple) server k e from awaits = vote_of_outcome sc c mail round staple server reply.vote k e from awaits
vote_by_phase sc c mail reply (phase.Voting awaited) server k e from awaits = plain_outcome sc c mail awaited server reply.vote k e from
vote_by_phase sc c mail reply (phase.Checking (span.Validate number) round staple) server k e from awaits = absurd (cc)
vote_by_phase sc c mail reply phase.Idle server k e from awaits = absurd (cc)
vote_by_phase sc c mail reply (phase.Stapling number) server k e from awaits = absurd (cc)
vote_by_phase sc c mail reply (phase.Querying number staple) server k e from awaits = absurd (cc)
vote_by_phase sc c mail reply (phase.Probing number) server k e from awaits = absurd (cc)
vote_by_phase sc c mail reply (phase.Asking over round) server k e from awaits = absurd (cc)
vote_by_phase sc c mail reply (phase.Reading over round) server k e from awaits = absurd (cc)
vote_by_phase sc c mail reply phase.VoteProbing server k e from awaits = absurd (cc)
vote_by_phase sc c mail reply (phase.Ending ended awaited) server k e from awaits = absurd (cc)

-- a server whose vote is awaited
record IsVoter (awaited : Phase) (who : Actor) : Type 0 where
  server : ServerId
  who_is : who ≡ actor.Server server
  awaits : coord.awaits_vote awaited server ≡ true

voter_of : (sc : Scenario) (c : Coordinator) (awaited : Phase) (who : Actor) → is_voted_on (kind_of awaited) ≡ true → is_awaiting sc c awaited who ≡ true → IsVoter awaited who
voter_of sc c (phase.Checking span.Commit round staple) (actor.Server at) kind e = record { server = at; who_is = refl; awaits = e }
voter_of sc c (phase.Voting awaited) (actor.Server at) kind e = record { server = at; who_is = refl; awaits = e }
voter_of sc c (phase.Checking span.Commit round staple) (actor.Coordinator txn) kind e = absurd (cc)
voter_of sc c (phase.Checking span.Commit round staple) actor.Master kind e = absurd (cc)
voter_of sc c (phase.Checking span.Commit round staple) actor.Authority kind e = absurd (cc)
voter_of sc c (phase.Voting awaited) (actor.Coordinator txn) kind e = absurd (cc)
voter_of sc c (phase.Voting awaited) actor.Master kind e = absurd (cc)
voter_of sc c (phase.Voting awaited) actor.Authority kind e = absurd (cc)
voter_of sc c (phase.Checking (span.Validate number) round staple) who kind e = absurd (cc)
voter_of sc c phase.Idle who kind e = absurd (cc)
voter_of sc c (phase.Stapling number) who kind e = absurd (cc)
voter_of sc c (phase.Querying number staple) who kind e = absurd (cc)
voter_of sc c (phase.Probing number) who kind e = absurd (cc)
voter_of sc c (phase.Asking over round) who kind e = absurd (cc)
voter_of sc c (phase.Reading over round) who kind e = absurd (cc)
voter_of sc c phase.VoteProbing who kind e = absurd (cc)
voter_of sc c (phase.Ending ended awaited) who kind e = absurd (cc)

not_awaited : (sc : Scenario) (c : Coordinator) (mail : Mail) (said : Body) → IsSteady sc c → mail.letter.body ≡ said
    → ((who : Actor) → is_awaiting sc c c.phase who ≡ true → mail.letter.from ≡ who → is_reply c.turn (kind_of c.phase) said ≡ true → ⊥) → Handles sc c mail (ignores c)
not_awaited sc c mail said k e none =
    record {
      kind = inr (inr (record { same = refl; unawaited = λ who awaits from reply. none who awaits from (sym (ap (is_reply c.turn (kind_of c.phase)) e) ∙ reply) }));
      some = k.awaits;
    }

vote_outcome : (sc : Scenario) (c : Coordinator) (mail : Mail) (reply : VoteReply) (from : Actor) → IsSteady sc c → mail.letter.body ≡ body.Vote reply → mail.letter.from ≡ from → Handles sc c mail (coord.on_vote sc c c.phase from reply)
vote_outcome sc c mail reply (actor.Server server) k e from =
    by_cond (Handles sc c mail) ((reply.turn == c.turn) && coord.awaits_vote c.phase server)
    (λ now. vote_by_phase sc c mail reply c.phase server k refl from (and_parts (reply.turn == c.turn) (coord.awaits_vote c.phase server) now).1)
    (λ other. not_awaited sc c mail (body.Vote reply) k e (λ who awaits is taken.
    let parts = and_parts (reply.turn == c.turn) (is_voted_on (kind_of c.phase)) taken in
    let voter = voter_of sc c c.phase who parts.1 awaits in
    let same : server ≡ voter.server = same_actor_server server voter.server (sym from ∙ (is ∙ voter.who_is)) in
    let votes : coord.awaits_vote c.phase server ≡ true = subst (λ (s : ServerId). coord.awaits_vote c.phase s ≡ true) (sym same) voter.awaits in
    let both : ((reply.turn == c.turn) && coord.awaits_vote c.phase server) ≡ true = ap (λ (b : Bool). b && coord.awaits_vote c.phase server) parts.0 ∙ votes in
    cc))
vote_outcome sc c mail reply (actor.Coordinator txn) k e from =
    not_awaited sc c mail (body.Vote reply) k e (λ who awaits is taken.
    let voter = voter_of sc c c.phase who (and_parts (reply.turn == c.turn) (is_voted_on (kind_of c.phase)) taken).1 awaits in
    let same : actor.Coordinator txn ≡ actor.Server voter.server = sym from ∙ (is ∙ voter.who_is) in
    cc)
vote_outcome sc c mail reply actor.Master k e from =
    not_awaited sc c mail (body.Vote reply) k e (λ who awaits is taken.
    let voter = voter_of sc c c.phase who (and_parts (reply.turn == c.turn) (is_voted_on (kind_of c.phase)) taken).1 awaits in
    let same : actor.Master ≡ actor.Server voter.server = sym from ∙ (is ∙ voter.who_is) in
    cc)
vote_outcome sc c mail reply actor.Authority k e from =
    not_awaited sc c mail (body.Vote reply) k e (λ who awaits is taken.
    let voter = voter_of sc c c.phase who (and_parts (reply.turn == c.turn) (is_voted_on (kind_of c.phase)) taken).1 awaits in
    let same : actor.Authority ≡ actor.Server voter.server = sym from ∙ (is ∙ voter.who_is) in
    cc)

-- ---- Verdicts

verdicts_of_outcome : (sc : Scenario) (c : Coordinator) (mail : Mail) (number : ℕ) (round : Round) (staple : Staple) (server : ServerId) (said : Option (List Verdict)) → IsSteady sc c
    → c.phase ≡ phase.Checking (span.Validate number) round staple → mail.letter.from ≡ actor.Server server → is_awaited round.targets server ≡ true
    → Handles sc c mail (coord.on_verdicts_of sc c (span.Validate number) round staple server said)
verdicts_of_outcome sc c mail number round staple server None k checking from awaited = ended_outcome sc c mail (cause.Restarted server)
verdicts_of_outcome sc c mail number round staple server (Some verdicts) k checking from awaited = reply_outcome sc c mail (span.Validate number) round staple server verdicts k checking from awaited

verdicts_by_phase : (sc : Scenario) (c : Coordinator) (mail : Mail) (reply : VerdictsReply) (awaited : Phase) (server : ServerId) → IsSteady sc c → c.phase ≡ awaited → mail.letter.from ≡ actor.Server server
    → coord.awaits_verdicts awaited server ≡ true → Handles sc c mail (coord.verdicts_at sc c awaited server reply.verdicts)
verdicts_by_phase sc c mail reply (phase.Checking (span.Validate number) round staple) server k e from awaits = verdicts_of_outcome sc c mail number round staple server reply.verdicts k e from awaits
verdicts_by_phase sc c mail reply (phase.Checking span.Commit round staple) server k e from awaits = absurd (cc)
verdicts_by_phase sc c mail reply phase.Idle server k e from awaits = absurd (cc)
verdicts_by_phase sc c mail reply (phase.Stapling number) server k e from awaits = absurd (cc)
verdicts_by_phase sc c mail reply (phase.Querying number staple) server k e from awaits = absurd (cc)
verdicts_by_phase sc c mail reply (phase.Probing number) server k e from awaits = absurd (cc)
verdicts_by_phase sc c mail reply (phase.Asking over round) server k e from awaits = absurd (cc)
verdicts_by_phase sc c mail reply (phase.Reading over round) server k e from awaits = absurd (cc)
verdicts_by_phase sc c mail reply (phase.Voting awaited) server k e from awaits = absurd (cc)
verdicts_by_phase sc c mail reply phase.VoteProbing server k e from awaits = absurd (cc)
verdicts_by_phase sc c mail reply (phase.Ending ended awaited) server k e from awaits = absurd (cc)

-- a server whose verdicts are awaited
record IsShower (awaited : Phase) (who : Actor) : Type 0 where
  server : ServerId
  who_is : who ≡ actor.Server server
  awaits : coord.awaits_verdicts awaited server ≡ true

shower_of : (sc : Scenario) (c : Coordinator) (awaited : Phase) (who : Actor) → is_shown (kind_of awaited) ≡ true → is_awaiting sc c awaited who ≡ true → IsShower awaited who
shower_of sc c (phase.Checking (span.Validate number) round staple) (actor.Server at) kind e = record { server = at; who_is = refl; awaits = e }
shower_of sc c (phase.Checking (span.Validate number) round staple) (actor.Coordinator txn) kind e = absurd (cc)
shower_of sc c (phase.Checking (span.Validate number) round staple) actor.Master kind e = absurd (cc)
shower_of sc c (phase.Checking (span.Validate number) round staple) actor.Authority kind e = absurd (cc)
shower_of sc c (phase.Checking span.Commit round staple) who kind e = absurd (cc)
shower_of sc c phase.Idle who kind e = absurd (cc)
shower_of sc c (phase.Stapling number) who kind e = absurd (cc)
shower_of sc c (phase.Querying number staple) who kind e = absurd (cc)
shower_of sc c (phase.Probing number) who kind e = absurd (cc)
shower_of sc c (phase.Asking over round) who kind e = absurd (cc)
shower_of sc c (phase.Reading over round) who kind e = absurd (cc)
shower_of sc c (phase.Voting awaited) who kind e = absurd (cc)
shower_of sc c phase.VoteProbing who kind e = absurd (cc)
shower_of sc c (phase.Ending ended awaited) who kind e = absurd (cc)

verdicts_outcome : (sc : Scenario) (c : Coordinator) (mail : Mail) (reply : VerdictsReply) (from : Actor) → IsSteady sc c → mail.letter.body ≡ body.Verdicts reply → mail.letter.from ≡ from → Handles sc c mail (coord.on_verdicts sc c c.phase from reply)
verdicts_outcome sc c mail reply (actor.Server server) k e from =
    by_cond (Handles sc c mail) ((reply.turn == c.turn) && coord.awaits_verdicts c.phase server)
    (λ now. verdicts_by_phase sc c mail reply c.phase server k refl from (and_parts (reply.turn == c.turn) (coord.awaits_verdicts c.phase server) now).1)
    (λ other. not_awaited sc c mail (body.Verdicts reply) k e (λ who awaits is taken.
    let parts = and_parts (reply.turn == c.turn) (is_shown (kind_of c.phase)) taken in
    let shower = shower_of sc c c.phase who parts.1 awaits in
    let same : server ≡ shower.server = same_actor_server server shower.server (sym from ∙ (is ∙ shower.who_is)) in
    let shows : coord.awaits_verdicts c.phase server ≡ true = subst (λ (s : ServerId). coord.awaits_verdicts c.phase s ≡ true) (sym same) shower.awaits in
    let both : ((reply.turn == c.turn) && coord.awaits_verdicts c.phase server) ≡ true = ap (λ (b : Bool). b && coord.awaits_verdicts c.phase server) parts.0 ∙ shows in
    cc))
verdicts_outcome sc c mail reply (actor.Coordinator txn) k e from =
    not_awaited sc c mail (body.Verdicts reply) k e (λ who awaits is taken.
    let shower = shower_of sc c c.phase who (and_parts (reply.turn == c.turn) (is_shown (kind_of c.phase)) taken).1 awaits in
    let same : actor.Coordinator txn ≡ actor.Server shower.server = sym from ∙ (is ∙ shower.who_is) in
    cc)
verdicts_outcome sc c mail reply actor.Master k e from =
    not_awaited sc c mail (body.Verdicts reply) k e (λ who awaits is taken.
    let shower = shower_of sc c c.phase who (and_parts (reply.turn == c.turn) (is_shown (kind_of c.phase)) taken).1 awaits in
    let same : actor.Master ≡ actor.Server shower.server = sym from ∙ (is ∙ shower.who_is) in
    cc)
verdicts_outcome sc c mail reply actor.Authority k e from =
    not_awaited sc c mail (body.Verdicts reply) k e (λ who awaits is taken.
    let shower = shower_of sc c c.phase who (and_parts (reply.turn == c.turn) (is_shown (kind_of c.phase)) taken).1 awaits in
    let same : actor.Authority ≡ actor.Server shower.server = sym from ∙ (is ∙ shower.who_is) in
    cc)

-- ---- Ack

acked_fewer : (sc : Scenario) (c : Coordinator) (mail : Mail) (ended : Outcome) (awaited : List ServerId) (server : ServerId) → c.phase ≡ phase.Ending ended awaited → mail.letter.from ≡ actor.Server server
    → Fewer sc c mail (sends (record c { phase = phase.Ending ended (coord.without awaited server) }) [])
acked_fewer sc c mail ended awaited server ending from =
    record {
      txn_is = refl;
      turn_is = refl;
      kind_is = sym (ap kind_of ending);
      awaited = λ who e. subst (λ (p : Phase). is_awaiting sc c p who ≡ true) (sym ending) (by_actor who e);
      other = λ who e at. gone who e (sym from ∙ at);
    }
  where
    by_actor : (who : Actor) → is_awaiting sc (record c { phase = phase.Ending ended (coord.without awaited server) }) (phase.Ending ended (coord.without awaited server)) who ≡ true → is_awaiting sc c (phase.Ending ended awaited) who ≡ true
    by_actor (actor.Server at) e = (left_among awaited server at e).0
    by_actor (actor.Coordinator txn) e = absurd (cc)
    by_actor actor.Master e = absurd (cc)
    by_actor actor.Authority e = absurd (cc)

    gone : (who : Actor) → is_awaiting sc (record c { phase = phase.Ending ended (coord.without awaited server) }) (phase.Ending ended (coord.without awaited server)) who ≡ true → actor.Server server ≡ who → ⊥
    gone (actor.Server at) e same = (left_among awaited server at e).1 (same_actor_server server at same)
    gone (actor.Coordinator txn) e same = cc
    gone actor.Master e same = cc
    gone actor.Authority e same = cc

-- whose end is awaited is a server
ender_of : (sc : Scenario) (c : Coordinator) (ended : Outcome) (awaited : List ServerId) (who : Actor) → is_awaiting sc c (phase.Ending ended awaited) who ≡ true → (server : ServerId) × (who ≡ actor.Server server)
ender_of sc c ended awaited (actor.Server at) e = (at, refl)
ender_of sc c ended awaited (actor.Coordinator txn) e = absurd (cc)
ender_of sc c ended awaited actor.Master e = absurd (cc)
ender_of sc c ended awaited actor.Authority e = absurd (cc)

ack_from_outcome : (sc : Scenario) (c : Coordinator) (mail : Mail) (ack : AckReply) (ended : Outcome) (awaited : List ServerId) (from : Actor) → IsSteady sc c → mail.letter.body ≡ body.Ack ack → mail.letter.from ≡ from
    → c.phase ≡ phase.Ending ended awaited → Handles sc c mail (coord.ack_from c ended awaited from)
ack_from_outcome sc c mail ack ended awaited (actor.Server server) k e from ending =
    record { kind = inr (inl (acked_fewer sc c mail ended awaited server ending from)); some = tt }
ack_from_outcome sc c mail ack ended awaited (actor.Coordinator txn) k e from ending =
    not_awaited sc c mail (body.Ack ack) k e (λ who awaits is taken.
    let ender = ender_of sc c ended awaited who (subst (λ (p : Phase). is_awaiting sc c p who ≡ true) ending awaits) in
    let same : actor.Coordinator txn ≡ actor.Server ender.0 = sym from ∙ (is ∙ ender.1) in
    cc)
ack_from_outcome sc c mail ack ended awaited actor.Master k e from ending =
    not_awaited sc c mail (body.Ack ack) k e (λ who awaits is taken.
    let ender = ender_of sc c ended awaited who (subst (λ (p : Phase). is_awaiting sc c p who ≡ true) ending awaits) in
    let same : actor.Master ≡ actor.Server ender.0 = sym from ∙ (is ∙ ender.1) in
    cc)
ack_from_outcome sc c mail ack ended awaited actor.Authority k e from ending =
    not_awaited sc c mail (body.Ack ack) k e (λ who awaits is taken.
    let ender = ender_of sc c ended awaited who (subst (λ (p : Phase). is_awaiting sc c p who ≡ true) ending awaits) in
    let same : actor.Authority ≡ actor.Server ender.0 = sym from ∙ (is ∙ ender.1) in
    cc)

ack_outcome : (sc : Scenario) (c : Coordinator) (mail : Mail) (ack : AckReply) (awaited : Phase) → IsSteady sc c → mail.letter.body ≡ body.Ack ack → c.phase ≡ awaited → Handles sc c mail (coord.on_ack c awaited mail.letter.from)
ack_outcome sc c mail ack (phase.Ending ended awaited) k e ending = ack_from_outcome sc c mail ack ended awaited mail.letter.from k e refl ending
ack_outcome sc c mail ack phase.Idle k e p = silent sc c mail (body.Ack ack) e (ap (λ (q : Phase). is_ended (kind_of q)) p) k.awaits
ack_outcome sc c mail ack (phase.Stapling number) k e p = silent sc c mail (body.Ack ack) e (ap (λ (q : Phase). is_ended (kind_of q)) p) k.awaits
ack_outcome sc c mail ack (phase.Querying number staple) k e p = silent sc c mail (body.Ack ack) e (ap (λ (q : Phase). is_ended (kind_of q)) p) k.awaits
ack_outcome sc c mail ack (phase.Probing number) k e p = silent sc c mail (body.Ack ack) e (ap (λ (q : Phase). is_ended (kind_of q)) p) k.awaits
ack_outcome sc c mail ack (phase.Asking over round) k e p = silent sc c mail (body.Ack ack) e (ap (λ (q : Phase). is_ended (kind_of q)) p) k.awaits
ack_outcome sc c mail ack (phase.Checking (span.Validate number) round staple) k e p = silent sc c mail (body.Ack ack) e (ap (λ (q : Phase). is_ended (kind_of q)) p) k.awaits
ack_outcome sc c mail ack (phase.Checking span.Commit round staple) k e p = silent sc c mail (body.Ack ack) e (ap (λ (q : Phase). is_ended (kind_of q)) p) k.awaits
ack_outcome sc c mail ack (phase.Reading over round) k e p = silent sc c mail (body.Ack ack) e (ap (λ (q : Phase). is_ended (kind_of q)) p) k.awaits
ack_outcome sc c mail ack (phase.Voting awaited) k e p = silent sc c mail (body.Ack ack) e (ap (λ (q : Phase). is_ended (kind_of q)) p) k.awaits
ack_outcome sc c mail ack phase.VoteProbing k e p = silent sc c mail (body.Ack ack) e (ap (λ (q : Phase). is_ended (kind_of q)) p) k.awaits

-- ---- Inquire

-- a question changes nothing
tells_same : (c : Coordinator) (ended : Outcome) (from : Actor) → (coord.tells c ended from).state ≡ c
tells_same c ended (actor.Server server) = refl
tells_same c ended (actor.Coordinator txn) = refl
tells_same c ended actor.Master = refl
tells_same c ended actor.Authority = refl

inquired_same : (c : Coordinator) (awaited : Phase) (from : Actor) → (coord.on_inquire c awaited from).state ≡ c
inquired_same c (phase.Ending ended awaited) from = tells_same c ended from
inquired_same c phase.Idle from = refl
inquired_same c (phase.Stapling number) from = refl
inquired_same c (phase.Querying number staple) from = refl
inquired_same c (phase.Probing number) from = refl
inquired_same c (phase.Asking over round) from = refl
inquired_same c (phase.Checking over round staple) from = refl
inquired_same c (phase.Reading over round) from = refl
inquired_same c (phase.Voting awaited) from = refl
inquired_same c phase.VoteProbing from = refl

-- ---- the row

row_by : (sc : Scenario) (c : Coordinator) (mail : Mail) (said : Body) → IsSteady sc c → mail.letter.body ≡ said → Handles sc c mail (coord.on_body sc c mail.sent mail.letter.from said)
row_by sc c mail (body.Done done) k e = done_outcome sc c mail done k e
row_by sc c mail (body.Tell tell) k e = tell_outcome sc c mail tell k e
row_by sc c mail (body.Verdicts reply) k e = verdicts_outcome sc c mail reply mail.letter.from k e refl
row_by sc c mail (body.Vote reply) k e = vote_outcome sc c mail reply mail.letter.from k e refl
row_by sc c mail (body.Newest reply) k e = newest_outcome sc c mail reply k e
row_by sc c mail (body.Ack ack) k e = ack_outcome sc c mail ack c.phase k e refl
row_by sc c mail (body.Inquire inquiry) k e =
    silent_at sc c mail (coord.on_inquire c c.phase mail.letter.from) (body.Inquire inquiry) e refl (inquired_same c c.phase mail.letter.from) k.awaits
row_by sc c mail (body.Query q) k e = silent sc c mail (body.Query q) e refl k.awaits
row_by sc c mail (body.Ask ask) k e = silent sc c mail (body.Ask ask) e refl k.awaits
row_by sc c mail (body.Validate v) k e = silent sc c mail (body.Validate v) e refl k.awaits
row_by sc c mail (body.Prepare p) k e = silent sc c mail (body.Prepare p) e refl k.awaits
row_by sc c mail (body.Probe probe) k e = silent sc c mail (body.Probe probe) e refl k.awaits
row_by sc c mail (body.Decide order) k e = silent sc c mail (body.Decide order) e refl k.awaits
row_by sc c mail (body.Push push) k e = silent sc c mail (body.Push push) e refl k.awaits

-- a mail makes a coordinator ask anew, or one fewer is awaited, or nothing was awaited of it
pub coordinator_row_handles : (sc : Scenario) (c : Coordinator) (mail : Mail) → IsSteady sc c → Handles sc c mail (coord.coordinator_row sc c mail)
coordinator_row_handles sc c mail k = row_by sc c mail mail.letter.body k refl

-- ---- the timer

-- each that is awaited is asked again
pub repeats_ask : (sc : Scenario) (c : Coordinator) (awaited : Phase) (who : Actor) → IsSteady sc c → c.phase ≡ awaited → is_awaiting sc c awaited who ≡ true → AnyOf (IsAskedOf c who) (coord.repeats sc c awaited)
repeats_ask sc c (phase.Stapling number) actor.Authority k e awaits = inl (record { goes_to = refl; says = subst (λ (p : Phase). IsRequest c.txn c.turn (kind_of p) (body.Ask (record { txn = c.txn; turn = c.turn }))) (sym e) refl })
repeats_ask sc c (phase.Asking over round) actor.Authority k e awaits = inl (record { goes_to = refl; says = subst (λ (p : Phase). IsRequest c.txn c.turn (kind_of p) (body.Ask (record { txn = c.txn; turn = c.turn }))) (sym e) refl })
repeats_ask sc c (phase.Probing number) actor.Master k e awaits = inl (record { goes_to = refl; says = subst (λ (p : Phase). IsRequest c.txn c.turn (kind_of p) (body.Probe (record { txn = c.txn; turn = c.turn }))) (sym e) refl })
repeats_ask sc c (phase.Reading over round) actor.Master k e awaits = inl (record { goes_to = refl; says = subst (λ (p : Phase). IsRequest c.txn c.turn (kind_of p) (body.Probe (record { txn = c.txn; turn = c.turn }))) (sym e) refl })
repeats_ask sc c phase.VoteProbing actor.Master k e awaits = inl (record { goes_to = refl; says = subst (λ (p : Phase). IsRequest c.txn c.turn (kind_of p) (body.Probe (record { txn = c.txn; turn = c.turn }))) (sym e) refl })
repeats_ask sc c (phase.Querying number staple) (actor.Server at) k e awaits = asked_again (coord.home_of sc c number) awaits
  where
    asked_again : (home : Option ServerId) → is_home home at ≡ true → AnyOf (IsAskedOf c (actor.Server at)) (coord.query_again sc c number staple home)
    asked_again None h = absurd (cc)
    asked_again (Some home) h =
        inl (record {
          goes_to = ap (λ (s : ServerId). actor.Server s) (same_server_is home at h);
          says = subst (λ (p : Phase). IsRequest c.txn c.turn (kind_of p) (body.Query (coord.query_request sc c c.turn home number staple))) (sym e)
              (record { q = coord.query_request sc c c.turn home number staple; said_is = refl; txn_is = refl; turn_is = refl; query_is = refl });
        })
repeats_ask sc c (phase.Checking over round staple) (actor.Server at) k e awaits = round_asked c c over round staple at refl e awaits
repeats_ask sc c (phase.Voting awaited) (actor.Server at) k e awaits =
    any_mapped (IsAskedOf c (actor.Server at)) (coord.vote_letter c c.turn) (λ (other : ServerId). other.0 == at.0)
    (λ other same. record {
      goes_to = ap (λ (s : ServerId). actor.Server s) (same_server_is other at same);
      says = subst (λ (p : Phase). IsRequest c.txn c.turn (kind_of p) (coord.vote_letter c c.turn other).body) (sym e)
          (record { p = coord.prepare_with c c.turn None [] other; said_is = refl; txn_is = refl; turn_is = refl });
    }) awaited awaits
repeats_ask sc c (phase.Ending ended awaited) (actor.Server at) k e awaits =
    any_mapped (IsAskedOf c (actor.Server at)) (λ (server : ServerId). coord.request c server (body.Decide (record { txn = c.txn; outcome = ended }))) (λ (other : ServerId). other.0 == at.0)
    (λ other same. record {
      goes_to = ap (λ (s : ServerId). actor.Server s) (same_server_is other at same);
      says = subst (λ (p : Phase). IsRequest c.txn c.turn (kind_of p) (body.Decide (record { txn = c.txn; outcome = ended }))) (sym e) refl;
    }) awaited awaits
repeats_ask sc c phase.Idle who k e awaits = absurd (cc)
repeats_ask sc c (phase.Stapling number) (actor.Server at) k e awaits = absurd (cc)
repeats_ask sc c (phase.Stapling number) (actor.Coordinator txn) k e awaits = absurd (cc)
repeats_ask sc c (phase.Stapling number) actor.Master k e awaits = absurd (cc)
repeats_ask sc c (phase.Asking over round) (actor.Server at) k e awaits = absurd (cc)
repeats_ask sc c (phase.Asking over round) (actor.Coordinator txn) k e awaits = absurd (cc)
repeats_ask sc c (phase.Asking over round) actor.Master k e awaits = absurd (cc)
repeats_ask sc c (phase.Probing number) (actor.Server at) k e awaits = absurd (cc)
repeats_ask sc c (phase.Probing number) (actor.Coordinator txn) k e awaits = absurd (cc)
repeats_ask sc c (phase.Probing number) actor.Authority k e awaits = absurd (cc)
repeats_ask sc c (phase.Reading over round) (actor.Server at) k e awaits = absurd (cc)
repeats_ask sc c (phase.Reading over round) (actor.Coordinator txn) k e awaits = absurd (cc)
repeats_ask sc c (phase.Reading over round) actor.Authority k e awaits = absurd (cc)
repeats_ask sc c phase.VoteProbing (actor.Server at) k e awaits = absurd (cc)
repeats_ask sc c phase.VoteProbing (actor.Coordinator txn) k e awaits = absurd (cc)
repeats_ask sc c phase.VoteProbing actor.Authority k e awaits = absurd (cc)
repeats_ask sc c (phase.Querying number staple) (actor.Coordinator txn) k e awaits = absurd (cc)
repeats_ask sc c (phase.Querying number staple) actor.Master k e awaits = absurd (cc)
repeats_ask sc c (phase.Querying number staple) actor.Authority k e awaits = absurd (cc)
repeats_ask sc c (phase.Checking over round staple) (actor.Coordinator txn) k e awaits = absurd (cc)
repeats_ask sc c (phase.Checking over round staple) actor.Master k e awaits = absurd (cc)
repeats_ask sc c (phase.Checking over round staple) actor.Authority k e awaits = absurd (cc)
repeats_ask sc c (phase.Voting awaited) (actor.Coordinator txn) k e awaits = absurd (cc)
repeats_ask sc c (phase.Voting awaited) actor.Master k e awaits = absurd (cc)
repeats_ask sc c (phase.Voting awaited) actor.Authority k e awaits = absurd (cc)
repeats_ask sc c (phase.Ending ended awaited) (actor.Coordinator txn) k e awaits = absurd (cc)
repeats_ask sc c (phase.Ending ended awaited) actor.Master k e awaits = absurd (cc)
repeats_ask sc c (phase.Ending ended awaited) actor.Authority k e awaits = absurd (cc)
