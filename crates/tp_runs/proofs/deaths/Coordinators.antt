-- Deaths for an older transaction, the coordinator's rows: an abort by one is shown by the answer that it came of.
use Rattle.std.proofs.Common.{IfSome, List, Option, Some, [], arith, map, subst, sym, true, ℕ, ◌<◌, ◌∷◌, ◌≡◌}
use Rattle.tp_types.specs.Effect.{Effect}
use Rattle.tp_model.specs.Facts.{was_submitted}
use Rattle.tp_model.specs.Words.actor
use Rattle.tp_model.specs.Words.answer
use Rattle.tp_model.specs.Words.body
use Rattle.tp_model.specs.Words.log
use Rattle.tp_model.specs.Words.outcome
use Rattle.tp_model.specs.Words.what
use Rattle.tp_model.specs.Words.decision
use Rattle.tp_model.specs.Words.{Actor, Answer, Cause, DoneReply, Fact, Letter, Mail, Outcome, Reading, Record, Scenario, ServerId, Staple, TxnId}
use Rattle.tp_coord.specs.Row.{coordinator_row, next_turn, older_than, reading_of, repeats, requests, round_letter, round_letters, staple_of, submit_row, vote_letter}
use Rattle.tp_round.specs.Judge.{awaited_in}
use Rattle.tp_coord.specs.State.{Coordinator}
use Rattle.tp_coord.specs.declared.coordinator.Span.TheVariants as span
use Rattle.tp_coord.specs.declared.coordinator.Span.{Span}
use Rattle.tp_round.specs.declared.round.Round.{Round}
use Rattle.tp_runs.proofs.basics.Passed.{read_newer}
use Rattle.tp_runs.proofs.epochs.Kept.{from_server}
use Rattle.tp_runs.proofs.deaths.Fit.{Adds, AnswerSent, BodyDies, Death, LetterDies, WhatDies, body_dies_still, death_shown}
use Rattle.tp_coord.proofs.Rows.{ByDenial, ByLoss, ByLostVerdicts, ByNewer, ByNewest, ByOlder, ByProof, ByRefusal, ByRestart, ByRounds, IsEnded, coordinator_by, submit_by, timer_by, with_gained}
use Rattle.tp_machine.specs.Machine.{with_age}
use Rattle.tp_types.specs.Each.{Each}

-- what a coordinator forces, with the facts after it
abbrev pub RecordDies : Scenario → List Fact → ℕ → Record → Type 0
RecordDies sc facts place (log.Decided d) = WhatDies sc facts place (what.Decided d.txn d.decision)
RecordDies sc facts place _ = Unit {0}

-- an act of a coordinator in a step at this place, whatever it leaves of its state; it answers no query
pub record CoordinatorActsDie (sc : Scenario) (old : List Fact) (place : ℕ) (append : Option Record) (letters : List Letter) : Type 0 where
  pub forces : (facts : List Fact) → Adds old facts place → IfSome append (RecordDies sc facts place)
  pub sends : Each (LetterDies sc old place) letters

-- that of a row
abbrev pub ActDies : Scenario → List Fact → ℕ → Effect Coordinator → Type 0
ActDies sc old place effect = CoordinatorActsDie sc old place effect.reaction.append effect.reaction.letters

pub orders_none : (sc : Scenario) (facts : List Fact) (place : ℕ) (c : Coordinator) (ended : Outcome) (servers : List ServerId)
    → Each (LetterDies sc facts place) (requests c (body.Decide (record { txn = c.txn; outcome = ended })) servers)
orders_none sc facts place c ended [] = tt
orders_none sc facts place c ended (at ∷ servers) = (tt, orders_none sc facts place c ended servers)

all_none : (sc : Scenario) (facts : List Fact) (place : ℕ) (f : ServerId → Letter) → ((at : ServerId) → LetterDies sc facts place (f at)) → (servers : List ServerId) → Each (LetterDies sc facts place) (map f servers)
all_none sc facts place f h [] = tt
all_none sc facts place f h (at ∷ servers) = (h at, all_none sc facts place f h servers)

-- a request of a round answers no query
round_letter_none : (sc : Scenario) (facts : List Fact) (place : ℕ) (c : Coordinator) (over : Span) (turn : ℕ) (round : Round) (staple : Staple) (at : ServerId) → LetterDies sc facts place (round_letter c over turn round staple at)
round_letter_none sc facts place c (span.Validate number) turn round staple at = tt
round_letter_none sc facts place c span.Commit turn round staple at = tt

round_letters_none : (sc : Scenario) (facts : List Fact) (place : ℕ) (c : Coordinator) (over : Span) (turn : ℕ) (round : Round) (staple : Staple) → Each (LetterDies sc facts place) (round_letters c over turn round staple)
round_letters_none sc facts place c over turn round staple = all_none sc facts place (round_letter c over turn round staple) (round_letter_none sc facts place c over turn round staple) (awaited_in round)

-- the answer names a death, and was sent after the submission
told_death : (sc : Scenario) (facts : List Fact) (at : ServerId) (sent : ℕ) (done : DoneReply) (other : TxnId) (given : Answer) → given ≡ answer.Died other → AnswerSent sc facts at sent done given
    → Death sc facts at done.txn other done.query × (was_submitted done.txn sent facts ≡ true)
told_death sc facts at sent done other given e h = subst (AnswerSent sc facts at sent done) e h

-- every row of a coordinator on receipt of a mail
pub coordinator_row_dies : (sc : Scenario) (old : List Fact) (place : ℕ) (c : Coordinator) (mail : Mail) → mail.sent < place → BodyDies sc old mail.sent mail.letter.from mail.letter.body
    → ((done : DoneReply) → mail.letter.body ≡ body.Done done → done.txn ≡ c.txn) → ActDies sc old place (coordinator_row sc c mail)
coordinator_row_dies sc old place c mail less h own =
    coordinator_by sc c mail (ActDies sc old place)
    (record {
      ignored = record { forces = λ facts a. tt; sends = tt };
      stapled = λ tell query home k at. record { forces = λ facts a. tt; sends = (tt, tt) };
      sends_query = λ at now rounds next passed moves home. record { forces = λ facts a. tt; sends = (tt, tt) };
      asks_staple = λ at now rounds passed moves. record { forces = λ facts a. tt; sends = (tt, tt) };
      probes_proofs = λ at now rounds passed moves. record { forces = λ facts a. tt; sends = (tt, tt) };
      validates = λ at now rounds passed moves. record { forces = λ facts a. tt; sends = (tt, tt) };
      commit_rounds = λ at now rounds passed moves. record { forces = λ facts a. tt; sends = (tt, tt) };
      asks_votes = λ at now rounds passed moves. record { forces = λ facts a. tt; sends = all_none sc old place (vote_letter (with_gained c now) (next_turn c)) (λ server. tt) c.servers };
      decides = λ at now rounds passed moves. record { forces = λ facts a. tt; sends = orders_none sc old place c outcome.Commit c.servers };
      aborted = λ why ended. record { forces = cause_dies why ended; sends = orders_none sc old place c outcome.Abort c.servers };
      told = λ tell over round k. record { forces = λ facts a. tt; sends = round_letters_none sc old place c over (next_turn c) round (staple_of tell mail.sent) };
      counted = λ over round staple server verdicts y. record { forces = λ facts a. tt; sends = tt };
      probed = λ over round staple server verdicts y whole reads. record { forces = λ facts a. tt; sends = (tt, tt) };
      updated = λ over round staple reading named j e. record { forces = λ facts a. tt; sends = (tt, tt) };
      voted = λ reply awaited server verdicts k. record { forces = λ facts a. tt; sends = tt };
      acknowledged = λ ack ended awaited server k. record { forces = λ facts a. tt; sends = tt };
      inquired = λ inquiry ended awaited server k. record { forces = λ facts a. tt; sends = orders_none sc old place c ended (server ∷ []) };
    })
  where
    -- what a reading finds is a newer version
    newest_dies : (reading : Reading) (why : Cause) → older_than c reading ≡ Some why → (facts : List Fact) → WhatDies sc facts place (what.Decided c.txn (decision.Abort why))
    newest_dies reading why found facts = subst (λ (other : Cause). WhatDies sc facts place (what.Decided c.txn (decision.Abort other))) (sym (read_newer c reading why found).1) tt

    cause_dies : (why : Cause) → IsEnded sc c mail why → (facts : List Fact) → Adds old facts place → WhatDies sc facts place (what.Decided c.txn (decision.Abort why))
    cause_dies _ (ByOlder done server asked other k) facts a = λ declared there.
        let still = body_dies_still sc old facts place mail.sent mail.letter.from mail.letter.body a (omega (arith, less)) h in
        let said : BodyDies sc facts mail.sent (actor.Server server) (body.Done done) =
        subst (λ (from : Actor). BodyDies sc facts mail.sent from (body.Done done)) (from_server mail.letter.from server k.from_is) (subst (BodyDies sc facts mail.sent mail.letter.from) k.said_is still) in
        let told = told_death sc facts server mail.sent done other done.answer k.answer_is said in
        let same : done.txn ≡ c.txn = own done k.said_is in
        death_shown sc facts place server c.txn other done.query mail.sent declared (subst (λ (t : TxnId). Death sc facts server t other done.query) same told.0)
        (subst (λ (t : TxnId). was_submitted t mail.sent facts ≡ true) same told.1) less there
    cause_dies _ (ByDenial done server asked verdict k) facts a = tt
    cause_dies _ (ByNewer done server asked newer k) facts a = tt
    cause_dies _ (ByNewest reply at why k found) facts a = newest_dies (reading_of reply mail.sent) why found facts
    cause_dies _ (ByProof over round staple reading verdict j e) facts a = tt
    cause_dies _ (ByRounds reply over round mets k e) facts a = tt
    cause_dies _ (ByRefusal reply server number value k) facts a = tt
    cause_dies _ (ByRestart done server asked k) facts a = tt
    cause_dies _ (ByLoss reply server k) facts a = tt
    cause_dies _ (ByLostVerdicts reply number round staple server k) facts a = tt

-- the submission of a transaction
pub submit_row_dies : (sc : Scenario) (old : List Fact) (place : ℕ) (c : Coordinator) → ActDies sc old place (with_age (submit_row sc c) place)
submit_row_dies sc old place c =
    submit_by sc c (λ (effect : Effect Coordinator). ActDies sc old place (with_age effect place))
    (record {
      ignored = record { forces = λ facts a. tt; sends = tt };
      sent = λ server begins home. record { forces = λ facts a. tt; sends = (tt, tt) };
      asked = λ begins. record { forces = λ facts a. tt; sends = (tt, tt) };
    })

-- a request that is sent again answers no query
pub repeats_none : (sc : Scenario) (facts : List Fact) (place : ℕ) (c : Coordinator) → Each (LetterDies sc facts place) (repeats sc c c.phase)
repeats_none sc facts place c =
    timer_by sc c (Each (LetterDies sc facts place))
    (record {
      silent = tt;
      stapled = λ number stapling. (tt, tt);
      queried = λ number staple server querying home. (tt, tt);
      asked = λ over round asking. (tt, tt);
      prepared = λ over round staple checking. round_letters_none sc facts place c over c.turn round staple;
      probed = λ at probing. (tt, tt);
      read = λ over round reading. (tt, tt);
      voted = λ awaited voting. all_none sc facts place (vote_letter c c.turn) (λ at. tt) awaited;
      ordered = λ ended awaited ending. orders_none sc facts place c ended awaited;
    })
