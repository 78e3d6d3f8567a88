-- Weights, a coordinator's rows: a mail makes all lighter, or the coordinator makes a request or decides, of which it
-- may make one less after it.
use Rattle.std.proofs.Common.{List, None, [], ap, arith, false, filter, length, refl, subst, true, ℕ, inl, inr, ◌*◌, ◌+◌, ◌<◌, ◌∙◌, ◌∷◌, ◌≡◌, ◌≤◌, ◌⊎◌}
use Rattle.std.proofs.lemmas.List.{length-map}
use Rattle.tp_types.specs.Effect.{Effect}
use Rattle.tp_model.specs.Words.body
use Rattle.tp_model.specs.Words.outcome
use Rattle.tp_model.specs.Words.{Letter, Mail, Outcome, Scenario, ServerId, Staple}
use Rattle.tp_coord.proofs.Rows.{coordinator_by, submit_by, timer_by, with_gained}
use Rattle.tp_coord.specs.Row as coord
use Rattle.tp_coord.specs.State.{Coordinator}
use Rattle.tp_coord.specs.declared.coordinator.Phase.{Phase}
use Rattle.tp_coord.specs.declared.coordinator.Span.{Span}
use Rattle.tp_coord.specs.declared.coordinator.Span.TheVariants as span
use Rattle.tp_machine.specs.Machine.{with_age}
use Rattle.tp_round.specs.Judge.{is_missing, server_of_target}
use Rattle.tp_round.specs.declared.round.Round.{Round}
use Rattle.tp_runs.proofs.basics.Passed.{ended_running, judged_undecided, passed_undecided, reply_checking}
use Rattle.tp_runs.proofs.basics.Phases.{is_undecided, running_undecided}
use Rattle.tp_runs.proofs.basics.Rounds.{missing_in}
use Rattle.tp_runs.proofs.basics.Servers.{fewer_left}
use Rattle.tp_runs.proofs.mails.Actors.{AwaitsFew, spoken_of}
use Rattle.tp_runs.proofs.weights.Weights.{as_many, left_to_ask, mapped_weigh, most_requests, none_left, one_less, weigh_together, weight_of, weighs_some}

-- nothing more is to come than the mail was worth; or one request less is left, and few mails are sent
pub record Rests (queries : ℕ) (c : Coordinator) (mail : Mail) (effect : Effect Coordinator) : Type 0 where
  pub lighter : weigh_together effect.reaction.letters + 1 ≤ weight_of mail.letter.body
  pub no_more : left_to_ask queries effect.state ≤ left_to_ask queries c

pub record Asks (queries servers : ℕ) (c : Coordinator) (effect : Effect Coordinator) : Type 0 where
  pub few : weigh_together effect.reaction.letters ≤ 2 * servers
  pub fewer : left_to_ask queries effect.state + 1 ≤ left_to_ask queries c

abbrev pub Lightens : ℕ → ℕ → Coordinator → Mail → Effect Coordinator → Type 0
Lightens queries servers c mail effect = Rests queries c mail effect ⊎ Asks queries servers c effect

-- a coordinator of which few are awaited, of a transaction of few servers, that may make a request still
pub record MayAsk (queries servers : ℕ) (c : Coordinator) : Type 0 where
  pub some : 1 ≤ servers
  pub own : length c.servers ≤ servers
  pub awaits : AwaitsFew servers c
  pub room : is_undecided c.phase ≡ true → c.turn < most_requests queries
  pub rises : is_undecided c.phase ≡ true → coord.next_turn c ≡ c.turn + 1

-- ---- letters

orders_weigh : (c : Coordinator) (ended : Outcome) (servers : List ServerId) → weigh_together (coord.decide_letters c ended servers) ≡ 2 * length servers
orders_weigh c ended servers = mapped_weigh (λ (at : ServerId). coord.request c at (body.Decide (record { txn = c.txn; outcome = ended }))) 2 servers (λ at. refl)

round_letter_weighs : (c : Coordinator) (over : Span) (turn : ℕ) (round : Round) (staple : Staple) (at : ServerId) → weight_of (coord.round_letter c over turn round staple at).body ≡ 2
round_letter_weighs c (span.Validate number) turn round staple at = refl
round_letter_weighs c span.Commit turn round staple at = refl

round_weighs : (c : Coordinator) (over : Span) (turn : ℕ) (round : Round) (staple : Staple) → weigh_together (coord.round_letters c over turn round staple) ≡ 2 * length (missing_in round.targets)
round_weighs c over turn round staple = mapped_weigh (coord.round_letter c over turn round staple) 2 (missing_in round.targets) (λ at. round_letter_weighs c over turn round staple at)

votes_weigh : (c : Coordinator) (turn : ℕ) (servers : List ServerId) → weigh_together (coord.vote_letters c turn servers) ≡ 2 * length servers
votes_weigh c turn servers = mapped_weigh (coord.vote_letter c turn) 2 servers (λ at. refl)

-- a round awaits some of its servers
missing_few : (servers : ℕ) (c : Coordinator) (present : Phase) (round : Round) → AwaitsFew servers c → c.phase ≡ present → spoken_of present ≡ length round.targets → length (missing_in round.targets) ≤ servers
missing_few servers c present round h e spoken =
    let few : spoken_of present ≤ servers = subst (λ (p : Phase). spoken_of p ≤ servers) e h in
    omega (arith, few, spoken, length-map (filter is_missing round.targets) server_of_target, fewer_left is_missing round.targets)

-- ---- the row

-- a request to one actor, in the next turn
one_request : (queries servers : ℕ) (c next : Coordinator) (letter : Letter) → MayAsk queries servers c → is_undecided c.phase ≡ true → next.turn ≡ coord.next_turn c → weight_of letter.body ≡ 2
    → Asks queries servers c (record { state = next; reaction = record { append = None; letters = letter ∷ [] } })
one_request queries servers c next letter may undecided turns two =
    let own : weigh_together (letter ∷ []) ≡ weight_of letter.body + 0 = refl in
    record { few = omega (arith, own, two, may.some); fewer = one_less queries c next undecided (may.room undecided) (turns ∙ may.rises undecided) }

-- a decision
one_decision : (queries servers : ℕ) (c : Coordinator) (ended : Outcome) (effect : Effect Coordinator) → MayAsk queries servers c → is_undecided c.phase ≡ true → is_undecided effect.state.phase ≡ false
    → effect.reaction.letters ≡ coord.decide_letters c ended c.servers → Asks queries servers c effect
one_decision queries servers c ended effect may undecided ends letters =
    record {
      few = omega (arith, ap weigh_together letters, orders_weigh c ended c.servers, may.own);
      fewer = none_left queries c effect.state undecided (may.room undecided) ends;
    }

-- a mail that is counted, after which the turn is the same
counts : (queries : ℕ) (c next : Coordinator) (mail : Mail) → is_undecided c.phase ≡ true → next.turn ≡ c.turn → Rests queries c mail (record { state = next; reaction = record { append = None; letters = [] } })
counts queries c next mail undecided same = record { lighter = omega (arith, weighs_some mail.letter.body); no_more = as_many queries c next undecided same }

pub coordinator_row_lightens : (queries servers : ℕ) (sc : Scenario) (c : Coordinator) (mail : Mail) → MayAsk queries servers c → Lightens queries servers c mail (coord.coordinator_row sc c mail)
coordinator_row_lightens queries servers sc c mail may =
    coordinator_by sc c mail (Lightens queries servers c mail)
    (record {
      ignored = inl (record { lighter = omega (arith, weighs_some mail.letter.body); no_more = omega arith });
      stapled = λ tell query home k at. inr (one_request queries servers c _ _ may (ap is_undecided k.stapling) refl refl);
      sends_query = λ at now rounds next passed moves home. inr (one_request queries servers c _ _ may (passed_undecided sc c mail at now rounds passed) refl refl);
      asks_staple = λ at now rounds passed moves. inr (one_request queries servers c _ _ may (passed_undecided sc c mail at now rounds passed) refl refl);
      probes_proofs = λ at now rounds passed moves. inr (one_request queries servers c _ _ may (passed_undecided sc c mail at now rounds passed) refl refl);
      validates = λ at now rounds passed moves. inr (one_request queries servers c _ _ may (passed_undecided sc c mail at now rounds passed) refl refl);
      commit_rounds = λ at now rounds passed moves. inr (one_request queries servers c _ _ may (passed_undecided sc c mail at now rounds passed) refl refl);
      asks_votes = λ at now rounds passed moves.
          let undecided = passed_undecided sc c mail at now rounds passed in
          inr (record {
            few = omega (arith, votes_weigh (with_gained c now) (coord.next_turn c) c.servers, may.own);
            fewer = one_less queries c (coord.asks_votes (with_gained c now)).state undecided (may.room undecided) (may.rises undecided);
          });
      decides = λ at now rounds passed moves. inr (one_decision queries servers c outcome.Commit _ may (passed_undecided sc c mail at now rounds passed) refl refl);
      aborted = λ why ended. inr (one_decision queries servers c outcome.Abort _ may (running_undecided c.phase (ended_running sc c mail why ended)) refl refl);
      told = λ tell over round k.
          let undecided : is_undecided c.phase ≡ true = ap is_undecided k.asking in
          inr (record {
            few = omega (arith, round_weighs c over (coord.next_turn c) round (coord.staple_of tell mail.sent), missing_few servers c _ round may.awaits k.asking refl);
            fewer = one_less queries c (coord.checks c over round (coord.staple_of tell mail.sent)).state undecided (may.room undecided) (may.rises undecided);
          });
      counted = λ over round staple server verdicts y. inl (counts queries c _ mail (ap is_undecided (reply_checking c mail over round staple server verdicts y)) refl);
      probed = λ over round staple server verdicts y whole reads. inr (one_request queries servers c _ _ may (ap is_undecided (reply_checking c mail over round staple server verdicts y)) refl refl);
      updated = λ over round staple reading named j e. inr (one_request queries servers c _ _ may (judged_undecided c mail over round staple reading j) refl refl);
      voted = λ reply awaited server verdicts k. inl (counts queries c _ mail (ap is_undecided k.voting) refl);
      acknowledged = λ ack ended awaited server a. inl (record { lighter = omega (arith, weighs_some mail.letter.body); no_more = omega arith });
      inquired = λ inquiry ended awaited server k. let three = ap weight_of k.said_is in inl (record { lighter = omega (arith, three); no_more = omega arith });
    })

-- ---- submission and timer

-- a submission makes a request, or none
pub submit_row_lightens : (queries servers place : ℕ) (sc : Scenario) (c : Coordinator) → MayAsk queries servers c → is_undecided c.phase ≡ true → coord.is_begun (coord.submit_row sc c).state.phase ≡ true → coord.is_begun c.phase ≡ false
    → Asks queries servers c (with_age (coord.submit_row sc c) place)
submit_row_lightens queries servers place sc c may undecided begun new =
    submit_by sc c (λ (effect : Effect Coordinator). coord.is_begun effect.state.phase ≡ true → Asks queries servers c (with_age effect place))
    (record {
      ignored = λ e. absurd (cc);
      sent = λ server begins home e. one_request queries servers c _ _ may undecided refl refl;
      asked = λ begins e. one_request queries servers c _ _ may undecided refl refl;
    }) begun

-- a timer sends few mails
pub timer_lightens : (servers : ℕ) (sc : Scenario) (c : Coordinator) → 1 ≤ servers → AwaitsFew servers c → weigh_together (coord.repeats sc c c.phase) ≤ 2 * servers
timer_lightens servers sc c one h =
    timer_by sc c (λ (letters : List Letter). weigh_together letters ≤ 2 * servers)
    (record {
      silent = omega arith;
      stapled = λ number stapling. omega (arith, one);
      queried = λ number staple server querying home. omega (arith, one);
      asked = λ over round asking. omega (arith, one);
      prepared = λ over round staple checking. omega (arith, round_weighs c over c.turn round staple, missing_few servers c _ round h checking refl);
      probed = λ at probing. omega (arith, one);
      read = λ over round reading. omega (arith, one);
      voted = λ awaited voting.
          let few : length awaited ≤ servers = subst (λ (p : Phase). spoken_of p ≤ servers) voting h in
          omega (arith, few, votes_weigh c c.turn awaited);
      ordered = λ ended awaited ending.
          let few : length awaited ≤ servers = subst (λ (p : Phase). spoken_of p ≤ servers) ending h in
          omega (arith, few, orders_weigh c ended awaited);
    })
