-- Restarts, a coordinator's rows: it keeps the epochs that answers tell, and names what it keeps.
use Rattle.std.proofs.Common.{IfSome, List, None, Option, Some, [], ap, map, refl, slice_set, subst, true, ℕ, ◌∷◌, ◌≡◌}
use Rattle.tp_types.proofs.EachLemmas.{placed_set}
use Rattle.tp_types.specs.Each.{Each, EachPlaced}
use Rattle.tp_types.specs.Effect.{Effect}
use Rattle.tp_model.specs.Words.{Actor, Cause, DoneReply, Mail, Outcome, Scenario, ServerId, Staple, TxnId}
use Rattle.tp_model.specs.Words.body
use Rattle.tp_model.specs.Words.outcome
use Rattle.tp_coord.proofs.Rows.{AllTrue, AllVoted, Gained, IsEnded, IsPassed, ProofsRead, QueryRan, coordinator_by, submit_by, timer_by, with_gained}
use Rattle.tp_coord.specs.Row as coord
use Rattle.tp_coord.specs.State.{Coordinator}
use Rattle.tp_coord.specs.declared.coordinator.Span.{Span}
use Rattle.tp_coord.specs.declared.coordinator.Span.TheVariants as span
use Rattle.tp_machine.specs.Machine.{with_age}
use Rattle.tp_round.specs.declared.round.Round.{Round}
use Rattle.tp_scheme.specs.declared.moves.Point.{Point}
use Rattle.tp_runs.proofs.basics.Ids.{server_number}
use Rattle.tp_runs.proofs.basics.Phases.{is_undecided}
use Rattle.tp_runs.proofs.basics.Rounds.{EachServer, each_missing, missing_in}
use Rattle.tp_runs.proofs.epochs.Coordinator.{some_is}
use Rattle.tp_runs.proofs.epochs.Kept.{KeepsEpoch, PhaseKept, from_server, kept_epoch}
use Rattle.tp_runs.proofs.restarts.Since.{AnsweredSince, BodySince, CauseSince, DecidesSince, DoneSince, KeptSince, LetterSince}

-- an act of a coordinator; L says where work is shown to be lost, and H which coordinators have halted
pub record ActSince (S : TxnId → ServerId → ℕ → Type 0) (R L : TxnId → ServerId → Type 0) (H : TxnId → Type 0) (txn : TxnId) (effect : Effect Coordinator) : Type 0 where
  pub kept : KeptSince S txn effect.state
  pub letters : Each (LetterSince S R) effect.reaction.letters
  pub forces : IfSome effect.reaction.append (DecidesSince L H)

-- ---- letters

-- an epoch that is kept, if one is
told_since : (S : TxnId → ServerId → ℕ → Type 0) (c : Coordinator) (at : ServerId) (told : Option ℕ) → coord.epoch_told c at ≡ told → KeptSince S c.txn c → IfSome told (S c.txn at)
told_since S c at None e h = tt
told_since S c at (Some epoch) e h = h at.0 epoch e

round_since : (S : TxnId → ServerId → ℕ → Type 0) (R : TxnId → ServerId → Type 0) (c : Coordinator) (over : Span) (turn : ℕ) (round : Round) (staple : Staple) (at : ServerId) → KeptSince S c.txn c → KeepsEpoch c at
    → LetterSince S R (coord.round_letter c over turn round staple at)
round_since S R c (span.Validate number) turn round staple at h kept = h at.0 (coord.epoch_of c at) (some_is (kept_epoch c at) kept)
round_since S R c span.Commit turn round staple at h kept = h at.0 (coord.epoch_of c at) (some_is (kept_epoch c at) kept)

rounds_since : (S : TxnId → ServerId → ℕ → Type 0) (R : TxnId → ServerId → Type 0) (c : Coordinator) (over : Span) (turn : ℕ) (round : Round) (staple : Staple) (servers : List ServerId) → KeptSince S c.txn c → Each (KeepsEpoch c) servers
    → Each (LetterSince S R) (map (coord.round_letter c over turn round staple) servers)
rounds_since S R c over turn round staple [] h kept = tt
rounds_since S R c over turn round staple (at ∷ servers) h kept = (round_since S R c over turn round staple at h kept.0, rounds_since S R c over turn round staple servers h kept.1)

votes_since : (S : TxnId → ServerId → ℕ → Type 0) (R : TxnId → ServerId → Type 0) (c : Coordinator) (turn : ℕ) (servers : List ServerId) → KeptSince S c.txn c → Each (KeepsEpoch c) servers → Each (LetterSince S R) (coord.vote_letters c turn servers)
votes_since S R c turn [] h kept = tt
votes_since S R c turn (at ∷ servers) h kept = (h at.0 (coord.epoch_of c at) (some_is (kept_epoch c at) kept.0), votes_since S R c turn servers h kept.1)

pub orders_since : (S : TxnId → ServerId → ℕ → Type 0) (R : TxnId → ServerId → Type 0) (c : Coordinator) (ended : Outcome) (servers : List ServerId)
    → Each (LetterSince S R) (coord.requests c (body.Decide (record { txn = c.txn; outcome = ended })) servers)
orders_since S R c ended [] = tt
orders_since S R c ended (at ∷ servers) = (tt, orders_since S R c ended servers)

-- ---- rows

-- the epoch that an answer tells
heard_since : (S : TxnId → ServerId → ℕ → Type 0) (R : TxnId → ServerId → Type 0) (c : Coordinator) (from : Actor) (at : ServerId) (done : DoneReply) → coord.is_from from at ≡ true → done.txn ≡ c.txn → AnsweredSince S R from done
    → S c.txn at done.epoch
heard_since S R c from at done from_is own h =
    let given : DoneSince S R at done = subst (λ (a : Actor). AnsweredSince S R a done) (from_server from at from_is) h in
    subst (λ (t : TxnId). S t at done.epoch) own given.epoch

-- after an act before the decision the epochs of those that are awaited are kept
abbrev pub KeepsRound : Effect Coordinator → Type 0
KeepsRound effect = is_undecided effect.state.phase ≡ true → PhaseKept (KeepsEpoch effect.state) effect.state.phase

-- every row of a coordinator on receipt of a mail, of which other crashes may be known; the cause of an abort is shown
pub coordinator_row_since : (S : TxnId → ServerId → ℕ → Type 0) (R Q L : TxnId → ServerId → Type 0) (H : TxnId → Type 0) (sc : Scenario) (c : Coordinator) (mail : Mail) → KeptSince S c.txn c
    → (is_undecided c.phase ≡ true → PhaseKept (KeepsEpoch c) c.phase) → BodySince S R mail.letter.from mail.letter.to mail.letter.body → ((done : DoneReply) → mail.letter.body ≡ body.Done done → done.txn ≡ c.txn)
    → ((why : Cause) → IsEnded sc c mail why → CauseSince L H c.txn why) → KeepsRound (coord.coordinator_row sc c mail) → ActSince S Q L H c.txn (coord.coordinator_row sc c mail)
coordinator_row_since S R Q L H sc c mail h round heard own shown =
    coordinator_by sc c mail (λ (effect : Effect Coordinator). KeepsRound effect → ActSince S Q L H c.txn effect)
    (record {
      ignored = λ after. record { kept = h; letters = tt; forces = tt };
      stapled = λ tell query home k there after. record { kept = h; letters = (told_since S c home (coord.epoch_told c home) refl h, tt); forces = tt };
      sends_query = λ at now rounds next passed moves home after.
          let kept = passed_since at now rounds passed in
          record { kept = kept; letters = (told_since S (with_gained c now) next (coord.epoch_told (with_gained c now) next) refl kept, tt); forces = tt };
      asks_staple = λ at now rounds passed moves after. record { kept = passed_since at now rounds passed; letters = (tt, tt); forces = tt };
      probes_proofs = λ at now rounds passed moves after. record { kept = passed_since at now rounds passed; letters = (tt, tt); forces = tt };
      validates = λ at now rounds passed moves after. record { kept = passed_since at now rounds passed; letters = (tt, tt); forces = tt };
      commit_rounds = λ at now rounds passed moves after. record { kept = passed_since at now rounds passed; letters = (tt, tt); forces = tt };
      asks_votes = λ at now rounds passed moves after.
          let kept = passed_since at now rounds passed in
          record { kept = kept; letters = votes_since S Q (with_gained c now) (coord.next_turn c) c.servers kept (after refl); forces = tt };
      told = λ tell over asking k after.
          let targets : EachServer (KeepsEpoch c) asking.targets = subst (PhaseKept (KeepsEpoch c)) k.asking (round (ap is_undecided k.asking)) in
          record { kept = h; letters = rounds_since S Q c over (coord.next_turn c) asking (coord.staple_of tell mail.sent) (missing_in asking.targets) h (each_missing (KeepsEpoch c) asking.targets targets); forces = tt };
      counted = λ over asking staple server verdicts y after. record { kept = h; letters = tt; forces = tt };
      probed = λ over asking staple server verdicts y replied reads after. record { kept = h; letters = (tt, tt); forces = tt };
      decides = λ at now rounds passed moves after. record { kept = passed_since at now rounds passed; letters = orders_since S Q (with_gained c now) outcome.Commit c.servers; forces = tt };
      aborted = λ why ended after. record { kept = h; letters = orders_since S Q c outcome.Abort c.servers; forces = shown why ended };
      updated = λ over asking staple reading named j e after. record { kept = h; letters = (tt, tt); forces = tt };
      voted = λ reply awaited server verdicts y after. record { kept = h; letters = tt; forces = tt };
      acknowledged = λ ack ended awaited server k after. record { kept = h; letters = tt; forces = tt };
      inquired = λ inquiry ended awaited server k after. record { kept = h; letters = orders_since S Q c ended (server ∷ []); forces = tt };
    })
  where
    heard_here : (done : DoneReply) (server : ServerId) → mail.letter.body ≡ body.Done done → coord.is_from mail.letter.from server ≡ true → S c.txn server done.epoch
    heard_here done server said_is from_is =
        heard_since S R c mail.letter.from server done from_is (own done said_is) (subst (BodySince S R mail.letter.from mail.letter.to) said_is heard)

    with_epoch : (done : DoneReply) (server : ServerId) → S c.txn server done.epoch → EachPlaced (λ (n : ℕ) (epoch : ℕ). S c.txn (server_number n) epoch) (slice_set c.epochs server.0 (Some done.epoch))
    with_epoch done server e = placed_set (λ (n : ℕ) (epoch : ℕ). S c.txn (server_number n) epoch) c.epochs server.0 done.epoch h e

    passed_since : (at : Point) (now : Gained) (rounds : ℕ) → IsPassed sc c mail at now rounds → KeptSince S c.txn (with_gained c now)
    passed_since _ _ _ (QueryRan done server asked value proof k) = with_epoch done server (heard_here done server k.said_is k.from_is)
    passed_since _ _ _ (ProofsRead reply at k none) = h
    passed_since _ _ _ (AllTrue over round staple reading k) = h
    passed_since _ _ _ (AllVoted reply awaited server verdicts k none) = h

-- the submission of a transaction
pub submit_row_since : (S : TxnId → ServerId → ℕ → Type 0) (R L : TxnId → ServerId → Type 0) (H : TxnId → Type 0) (sc : Scenario) (c : Coordinator) (place : ℕ) → KeptSince S c.txn c
    → ActSince S R L H c.txn (with_age (coord.submit_row sc c) place)
submit_row_since S R L H sc c place h =
    submit_by sc c (λ (effect : Effect Coordinator). ActSince S R L H c.txn (with_age effect place))
    (record {
      ignored = record { kept = h; letters = tt; forces = tt };
      sent = λ server moves home. record { kept = h; letters = (told_since S c server (coord.epoch_told c server) refl h, tt); forces = tt };
      asked = λ moves. record { kept = h; letters = (tt, tt); forces = tt };
    })

-- a request that is sent again
pub repeats_since : (S : TxnId → ServerId → ℕ → Type 0) (R : TxnId → ServerId → Type 0) (sc : Scenario) (c : Coordinator) → KeptSince S c.txn c → (is_undecided c.phase ≡ true → PhaseKept (KeepsEpoch c) c.phase)
    → Each (LetterSince S R) (coord.repeats sc c c.phase)
repeats_since S R sc c h round =
    timer_by sc c (Each (LetterSince S R))
    (record {
      silent = tt;
      stapled = λ number stapling. (tt, tt);
      queried = λ number staple server querying home. (told_since S c server (coord.epoch_told c server) refl h, tt);
      probed = λ at probing. (tt, tt);
      asked = λ over asking e. (tt, tt);
      prepared = λ over asking staple checking.
          let targets : EachServer (KeepsEpoch c) asking.targets = subst (PhaseKept (KeepsEpoch c)) checking (round (ap is_undecided checking)) in
          rounds_since S R c over c.turn asking staple (missing_in asking.targets) h (each_missing (KeepsEpoch c) asking.targets targets);
      voted = λ awaited votes. votes_since S R c c.turn awaited h (subst (PhaseKept (KeepsEpoch c)) votes (round (ap is_undecided votes)));
      read = λ over asking reading. (tt, tt);
      ordered = λ ended awaited ending. orders_since S R c ended awaited;
    })
