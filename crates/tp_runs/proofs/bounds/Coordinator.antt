-- Bounds, the coordinator's rows: its deeds are of queries before the one that is awaited, so that the sum it asks for next is bounded.
use Rattle.std.proofs.Common.{IfSome, List, None, Option, Some, [], arith, false, inl, inr, map, option_and_then, refl, slice_get, subst, sym, true, ℕ, ℤ, ◌+◌, ◌<◌, ◌∷◌, ◌≡◌, ◌≤◌, ◌⊎◌}
use Rattle.std.specs.Option.{option_map_or}
use Rattle.tp_types.proofs.EachLemmas.{each_as, each_get, each_more}
use Rattle.tp_types.specs.Each.{Each}
use Rattle.tp_types.specs.Effect.{Effect, ignores}
use Rattle.tp_model.specs.Deeds.{deed_of}
use Rattle.tp_model.specs.Levels.{reads_master}
use Rattle.tp_model.specs.Valid.{is_valid_txn}
use Rattle.tp_model.specs.Words.{Cause, Deed, DoneReply, Mail, Outcome, Query, Reading, Scenario, ServerId, Staple, Transaction, Verdict}
use Rattle.tp_model.specs.Words.body
use Rattle.tp_model.specs.Words.decision
use Rattle.tp_model.specs.Words.log
use Rattle.tp_model.specs.Words.outcome
use Rattle.tp_coord.proofs.Rows.{AfterQuery, AfterVotes, AllTrue, AllVoted, ByDenial, ByLoss, ByLostVerdicts, ByNewer, ByNewest, ByOlder, ByProof, ByReading, ByRefusal, ByReplies, ByRestart, ByRounds, Gained, IsEnded, IsJudged, IsPassed, IsProbing, IsRanAnswer, ProofsRead, QueryRan, coordinator_by, gains_deed, submit_by, timer_by, with_gained}
use Rattle.tp_coord.specs.Row as coord
use Rattle.tp_round.specs.Judge.{awaited_in}
use Rattle.tp_coord.specs.Row.{is_begun, move_at, move_of, next_at, next_number, number_at, point_of}
use Rattle.tp_coord.specs.State.{Coordinator}
use Rattle.tp_coord.specs.Sums.{asked_value}
use Rattle.tp_coord.specs.declared.coordinator.Phase.{Phase}
use Rattle.tp_coord.specs.declared.coordinator.Phase.TheVariants as phase
use Rattle.tp_coord.specs.declared.coordinator.Span.{Span}
use Rattle.tp_coord.specs.declared.coordinator.Span.TheVariants as span
use Rattle.tp_machine.specs.Machine.{with_age}
use Rattle.tp_round.specs.declared.round.Round.{Round}
use Rattle.tp_scheme.proofs.MoveLemmas.{asks_before_proved, sends_unproved}
use Rattle.tp_scheme.specs.declared.moves.Move.TheVariants as move
use Rattle.tp_scheme.specs.declared.moves.Point.{Point}
use Rattle.tp_scheme.specs.declared.moves.Point.TheVariants as point
use Rattle.tp_runs.proofs.agreement.Coordinator.{idle_is}
use Rattle.tp_runs.proofs.basics.Homes.{HaveHomes, begins_of_query, begun_after, is_of_query, is_probed, is_ran, next_is, probed_there, validated_ran}
use Rattle.tp_runs.proofs.basics.Passed.{passed_past, read_newer, reply_checking}
use Rattle.tp_runs.proofs.basics.Phases.{awaits_is}
use Rattle.tp_runs.proofs.bounds.Numbers.{AreBefore, asked_bounded}
use Rattle.tp_runs.proofs.bounds.Server.{IsBoundedLetter}
use Rattle.tp_runs.proofs.ids.Valid.{IsValid}
use Rattle.tp_runs.specs.Bounded.{AreBoundedDeeds, IsBounded, IsBoundedAnswer, IsBoundedBody, IsBoundedDeed, IsBoundedRecord, IsBoundedVote}

-- ---- what is kept

-- the deeds are of the queries up to the one that a round goes to
abbrev pub SpanLow : Span → List Deed → Type 0
SpanLow (span.Validate number) deeds = AreBefore (number + 1) deeds
SpanLow span.Commit deeds = Unit {0}

-- the deeds are of queries before the one that is awaited, or up to the one that ran last; before the submission there are none
abbrev pub PhaseLow : Phase → List Deed → Type 0
PhaseLow phase.Idle deeds = AreBefore 1 deeds
PhaseLow (phase.Stapling number) deeds = AreBefore number deeds
PhaseLow (phase.Querying number staple) deeds = AreBefore number deeds
PhaseLow (phase.Probing number) deeds = AreBefore (number + 1) deeds
PhaseLow (phase.Asking over round) deeds = SpanLow over deeds
PhaseLow (phase.Checking over round staple) deeds = SpanLow over deeds
PhaseLow (phase.Reading over round) deeds = SpanLow over deeds
PhaseLow _ deeds = Unit {0}

-- a coordinator that is up
pub record CoordinatorLow (c : Coordinator) : Type 0 where
  pub deeds : AreBoundedDeeds c.deeds
  pub low : PhaseLow c.phase c.deeds

-- an act of a coordinator
pub record CoordinatorBounds (effect : Effect Coordinator) : Type 0 where
  pub state : CoordinatorLow effect.state
  pub forces : IfSome effect.reaction.append IsBoundedRecord
  pub letters : Each IsBoundedLetter effect.reaction.letters

still_bounded : (c : Coordinator) → CoordinatorLow c → CoordinatorBounds (ignores c)
still_bounded c h = record { state = h; forces = tt; letters = tt }

-- ---- what is asked

some_bounded : (number : ℕ) (found : Option ℤ) → ((value : ℤ) → found ≡ Some value → IsBounded number value) → IfSome found (IsBounded number)
some_bounded number None h = tt
some_bounded number (Some value) h = h value refl

-- what a query is asked with
value_bounded : (sc : Scenario) (c : Coordinator) (number : ℕ) → IsValid sc → HaveHomes sc → AreBoundedDeeds c.deeds → AreBefore number c.deeds → IfSome (coord.value_of sc c number) (IsBounded number)
value_bounded sc c number valid homes h low = found (slice_get sc.txns c.txn.0) refl
  where
    found : (declared : Option Transaction) → slice_get sc.txns c.txn.0 ≡ declared → IfSome (option_and_then (λ (txn : Transaction). asked_value txn c.deeds number) declared) (IsBounded number)
    found None e = tt
    found (Some declared) e =
        some_bounded number (asked_value declared c.deeds number)
        (λ value is. asked_bounded sc declared number c.deeds value (each_get (λ (txn : Transaction). is_valid_txn sc txn ≡ true) sc.txns c.txn.0 declared valid.txns e) (homes.few c.txn.0 declared e) low h is)

asks_bounded : (sc : Scenario) (c : Coordinator) (number : ℕ) (staple : Option Staple) (server : ServerId) → IsValid sc → HaveHomes sc → AreBoundedDeeds c.deeds → AreBefore number c.deeds → CoordinatorBounds (coord.sends_query sc c number staple server)
asks_bounded sc c number staple server valid homes h low =
    record { state = record { deeds = h; low = low }; forces = tt; letters = (value_bounded sc c number valid homes h low, tt) }

-- ---- Done

-- the deeds with that of a query that ran
deeds_more : (sc : Scenario) (c : Coordinator) (mail : Mail) (done : DoneReply) (server : ServerId) (asked : Query) (value : ℤ) (proof : Option Verdict) → CoordinatorLow c → IsBoundedBody mail.letter.body
    → IsRanAnswer sc c mail done server asked value proof → AreBoundedDeeds (coord.with_deed c server done asked value).deeds
deeds_more sc c mail done server asked value proof h said k =
    each_more IsBoundedDeed c.deeds (deed_of done.query asked value) h.deeds (subst (IsBoundedAnswer done.query) k.answer_is (subst IsBoundedBody k.said_is said))

-- are of queries before the next one
deeds_before : (sc : Scenario) (c : Coordinator) (mail : Mail) (done : DoneReply) (server : ServerId) (asked : Query) (value : ℤ) (proof : Option Verdict) → HaveHomes sc → CoordinatorLow c
    → IsRanAnswer sc c mail done server asked value proof → AreBefore (next_number done.query) (coord.with_deed c server done asked value).deeds
deeds_before sc c mail done server asked value proof homes h k =
    let next = next_is sc c done.query asked homes k.asked_is in
    let low : AreBefore done.query c.deeds = subst (λ (p : Phase). PhaseLow p c.deeds) (awaits_is c c.phase done k.awaited).1 h.low in
    each_more (λ (deed : Deed). deed.query < next_number done.query) c.deeds (deed_of done.query asked value)
    (each_as (λ (deed : Deed). deed.query < done.query) (λ (deed : Deed). deed.query < next_number done.query) (λ deed less. omega (arith, less, next)) c.deeds low) (omega (arith, next))

-- a query ran at such a point
ran_of_query : (at : Point) → is_ran at ≡ true → is_of_query at ≡ true
ran_of_query (point.Ran number) e = refl
ran_of_query (point.Begun number) e = absurd (cc)
ran_of_query (point.Stapled number) e = absurd (cc)
ran_of_query (point.Read number) e = refl
ran_of_query (point.Validated number) e = refl
ran_of_query point.Voted e = absurd (cc)
ran_of_query point.VoteRead e = absurd (cc)

-- what holds of the deeds at a point of a query
record RanBounded (query : ℕ) (now : Gained) : Type 0 where
  deeds : AreBoundedDeeds now.deeds
  earlier : AreBefore (next_number query) now.deeds

-- where a query begins, its number is the next one
begins_next : (sc : Scenario) (c : Coordinator) (number : ℕ) → HaveHomes sc → (move_at sc c (point.Begun (next_number number)) ≡ move.SendQuery) ⊎ (move_at sc c (point.Begun (next_number number)) ≡ move.Ask) → next_number number ≡ number + 1
begins_next sc c number homes e = by_txn (slice_get sc.txns c.txn.0) refl e
  where
    within : (declared : Transaction) → (move_of sc (point.Begun (next_number number)) declared ≡ move.SendQuery) ⊎ (move_of sc (point.Begun (next_number number)) declared ≡ move.Ask) → next_number number ≤ coord.query_count declared
    within declared (inl sends) = (sends_unproved declared.scheme (reads_master sc declared) (coord.query_count declared) (next_number number) sends).1
    within declared (inr asks) =
        let law = asks_before_proved declared.scheme (reads_master sc declared) (coord.query_count declared) (point.Begun (next_number number)) asks in
        let same : law.1.0 ≡ next_number number = cc in
        let low = law.1.2 in
        omega (arith, same, low)

    by_txn : (found : Option Transaction) → slice_get sc.txns c.txn.0 ≡ found
        → (option_map_or (move_of sc (point.Begun (next_number number))) found move.Following ≡ move.SendQuery) ⊎ (option_map_or (move_of sc (point.Begun (next_number number))) found move.Following ≡ move.Ask) → next_number number ≡ number + 1
    by_txn None f (inl g) = absurd (cc)
    by_txn None f (inr g) = absurd (cc)
    by_txn (Some declared) f g = let few = homes.few c.txn.0 declared f in let low = within declared g in omega (arith, few, low)

-- where a round is judged, the deeds are of the queries that it goes to
judged_low : (c : Coordinator) (mail : Mail) (over : Span) (round : Round) (staple : Option Staple) (reading : Option Reading) → CoordinatorLow c → IsJudged c mail over round staple reading → SpanLow over c.deeds
judged_low c mail _ _ _ _ h (ByReplies over round staple server verdicts y whole unread) = subst (λ (p : Phase). PhaseLow p c.deeds) (reply_checking c mail over round staple server verdicts y) h.low
judged_low c mail _ _ _ _ h (ByReading reply over round k) = subst (λ (p : Phase). PhaseLow p c.deeds) k.reading h.low

-- ---- letters without a value

round_says_none : (c : Coordinator) (over : Span) (turn : ℕ) (round : Round) (staple : Staple) (at : ServerId) → IsBoundedLetter (coord.round_letter c over turn round staple at)
round_says_none c (span.Validate number) turn round staple at = tt
round_says_none c span.Commit turn round staple at = tt

rounds_say_none : (c : Coordinator) (over : Span) (turn : ℕ) (round : Round) (staple : Staple) (servers : List ServerId) → Each IsBoundedLetter (map (coord.round_letter c over turn round staple) servers)
rounds_say_none c over turn round staple [] = tt
rounds_say_none c over turn round staple (at ∷ servers) = (round_says_none c over turn round staple at, rounds_say_none c over turn round staple servers)

votes_say_none : (c : Coordinator) (turn : ℕ) (servers : List ServerId) → Each IsBoundedLetter (coord.vote_letters c turn servers)
votes_say_none c turn [] = tt
votes_say_none c turn (at ∷ servers) = (tt, votes_say_none c turn servers)

pub orders_say_none : (c : Coordinator) (ended : Outcome) (servers : List ServerId) → Each IsBoundedLetter (map (λ (at : ServerId). coord.request c at (body.Decide (record { txn = c.txn; outcome = ended }))) servers)
orders_say_none c ended [] = tt
orders_say_none c ended (at ∷ servers) = (tt, orders_say_none c ended servers)

-- ---- all mails

-- every row of a coordinator on receipt of a mail
pub coordinator_row_bounds : (sc : Scenario) (c : Coordinator) (mail : Mail) → IsValid sc → HaveHomes sc → CoordinatorLow c → IsBoundedBody mail.letter.body → CoordinatorBounds (coord.coordinator_row sc c mail)
coordinator_row_bounds sc c mail valid homes h said =
    coordinator_by sc c mail CoordinatorBounds
    (record {
      ignored = still_bounded c h;
      stapled = λ tell query home k there. asks_bounded sc c query (Some (coord.staple_of tell mail.sent)) home valid homes h.deeds (subst (λ (p : Phase). PhaseLow p c.deeds) k.stapling h.low);
      sends_query = λ at now rounds next passed moves home.
          let begins = begun_after sc c at move.SendQuery (passed_past sc c mail at now rounds passed) refl moves in
          let b = passed_bounded at now rounds passed (begins_of_query sc c at move.SendQuery (passed_past sc c mail at now rounds passed) refl moves) (begins_next sc c (number_at at) homes (inl begins)) in
          asks_bounded sc (with_gained c now) (next_at at) None next valid homes b.deeds b.earlier;
      asks_staple = λ at now rounds passed moves.
          let begins = begun_after sc c at move.Ask (passed_past sc c mail at now rounds passed) refl moves in
          let b = passed_bounded at now rounds passed (begins_of_query sc c at move.Ask (passed_past sc c mail at now rounds passed) refl moves) (begins_next sc c (number_at at) homes (inr begins)) in
          record { state = record { deeds = b.deeds; low = b.earlier }; forces = tt; letters = (tt, tt) };
      probes_proofs = λ at now rounds passed moves. record { state = record { deeds = deeds_bounded at now rounds passed; low = probed_low at now rounds passed (probed_there sc c at moves) }; forces = tt; letters = (tt, tt) };
      validates = λ at now rounds passed moves.
          record { state = record { deeds = deeds_bounded at now rounds passed; low = ran_low at now rounds passed (validated_ran sc c at moves) }; forces = tt; letters = (tt, tt) };
      commit_rounds = λ at now rounds passed moves. record { state = record { deeds = deeds_bounded at now rounds passed; low = tt }; forces = tt; letters = (tt, tt) };
      asks_votes = λ at now rounds passed moves. record { state = record { deeds = deeds_bounded at now rounds passed; low = tt }; forces = tt; letters = votes_say_none (with_gained c now) (coord.next_turn c) c.servers };
      told = λ tell over round k.
          record { state = record { deeds = h.deeds; low = subst (λ (p : Phase). PhaseLow p c.deeds) k.asking h.low }; forces = tt; letters = rounds_say_none c over (coord.next_turn c) round (coord.staple_of tell mail.sent) (awaited_in round) };
      counted = λ over round staple server verdicts y. record { state = record { deeds = h.deeds; low = subst (λ (p : Phase). PhaseLow p c.deeds) (reply_checking c mail over round staple server verdicts y) h.low }; forces = tt; letters = tt };
      probed = λ over round staple server verdicts y replied reads.
          record { state = record { deeds = h.deeds; low = subst (λ (p : Phase). PhaseLow p c.deeds) (reply_checking c mail over round staple server verdicts y) h.low }; forces = tt; letters = (tt, tt) };
      decides = λ at now rounds passed moves. let deeds = deeds_bounded at now rounds passed in record { state = record { deeds = deeds; low = tt }; forces = deeds; letters = orders_say_none (with_gained c now) outcome.Commit c.servers };
      aborted = λ why ended. record { state = record { deeds = h.deeds; low = tt }; forces = cause_bounded why ended; letters = orders_say_none c outcome.Abort c.servers };
      updated = λ over round staple reading named j e. record { state = record { deeds = h.deeds; low = judged_low c mail over round staple reading h j }; forces = tt; letters = (tt, tt) };
      voted = λ reply awaited server verdicts y. record { state = record { deeds = h.deeds; low = tt }; forces = tt; letters = tt };
      acknowledged = λ ack ended awaited server a. record { state = record { deeds = h.deeds; low = tt }; forces = tt; letters = tt };
      inquired = λ inquiry ended awaited server k. record { state = h; forces = tt; letters = orders_say_none c ended (server ∷ []) };
    })
  where
    deeds_bounded : (at : Point) (now : Gained) (rounds : ℕ) → IsPassed sc c mail at now rounds → AreBoundedDeeds now.deeds
    deeds_bounded _ _ _ (QueryRan done server asked value proof k) = deeds_more sc c mail done server asked value proof h said k
    deeds_bounded _ _ _ (ProofsRead reply at k none) = h.deeds
    deeds_bounded _ _ _ (AllTrue over round staple reading k) = h.deeds
    deeds_bounded _ _ _ (AllVoted reply awaited server verdicts k none) = h.deeds

    probing_low : (awaited : Phase) (at : Point) → IsProbing awaited at → is_of_query at ≡ true → PhaseLow awaited c.deeds → AreBefore (number_at at + 1) c.deeds
    probing_low _ _ (AfterQuery number) e low = low
    probing_low _ _ AfterVotes e low = absurd (cc)

    spanning_low : (over : Span) → is_of_query (point_of over) ≡ true → SpanLow over c.deeds → AreBefore (number_at (point_of over) + 1) c.deeds
    spanning_low (span.Validate number) e low = low
    spanning_low span.Commit e low = absurd (cc)

    query_low : (at : Point) (now : Gained) (rounds : ℕ) → IsPassed sc c mail at now rounds → is_of_query at ≡ true → AreBefore (number_at at + 1) now.deeds
    query_low _ _ _ (QueryRan done server asked value proof k) e =
        subst (λ (n : ℕ). AreBefore n (coord.with_deed c server done asked value).deeds) (next_is sc c done.query asked homes k.asked_is) (deeds_before sc c mail done server asked value proof homes h k)
    query_low _ _ _ (ProofsRead reply at k none) e = probing_low c.phase at k.probing e h.low
    query_low _ _ _ (AllTrue over round staple reading k) e = spanning_low over e (judged_low c mail over round staple reading h k.is_judged)
    query_low _ _ _ (AllVoted reply awaited server verdicts k none) e = absurd (cc)

    ran_low : (at : Point) (now : Gained) (rounds : ℕ) → IsPassed sc c mail at now rounds → is_ran at ≡ true → AreBefore (number_at at + 1) now.deeds
    ran_low at now rounds passed ran = query_low at now rounds passed (ran_of_query at ran)

    reads_elsewhere : (awaited : Phase) (at : Point) → IsProbing awaited at → is_probed at ≡ true → ⊥
    reads_elsewhere _ _ (AfterQuery number) e = cc
    reads_elsewhere _ _ AfterVotes e = cc

    probed_low : (at : Point) (now : Gained) (rounds : ℕ) → IsPassed sc c mail at now rounds → is_probed at ≡ true → PhaseLow (coord.probing_at at) now.deeds
    probed_low _ _ _ (QueryRan done server asked value proof k) e = query_low (point.Ran done.query) (gains_deed sc c server done asked value proof) 0 (QueryRan done server asked value proof k) refl
    probed_low _ _ _ (ProofsRead reply at k none) e = absurd (reads_elsewhere c.phase at k.probing e)
    probed_low _ _ _ (AllTrue (span.Validate number) round staple reading k) e = absurd (cc)
    probed_low _ _ _ (AllTrue span.Commit round staple reading k) e = tt
    probed_low _ _ _ (AllVoted reply awaited server verdicts k none) e = tt

    passed_bounded : (at : Point) (now : Gained) (rounds : ℕ) → IsPassed sc c mail at now rounds → is_of_query at ≡ true → next_number (number_at at) ≡ number_at at + 1 → RanBounded (number_at at) now
    passed_bounded at now rounds passed of_query next =
        record { deeds = deeds_bounded at now rounds passed; earlier = subst (λ (n : ℕ). AreBefore n now.deeds) (sym next) (query_low at now rounds passed of_query) }

    cause_bounded : (why : Cause) → IsEnded sc c mail why → IsBoundedRecord (log.Decided (record { txn = c.txn; decision = decision.Abort why }))
    cause_bounded _ (ByOlder done server asked other k) = tt
    cause_bounded _ (ByDenial done server asked verdict k) = tt
    cause_bounded _ (ByNewer done server asked newer k) = tt
    cause_bounded _ (ByNewest reply at why k older) =
        let found = read_newer c (coord.reading_of reply mail.sent) why older in
        subst (λ (one : Cause). IsBoundedRecord (log.Decided (record { txn = c.txn; decision = decision.Abort one }))) (sym found.1) tt
    cause_bounded _ (ByProof over round staple reading verdict j e) = tt
    cause_bounded _ (ByRounds reply over round mets k e) = tt
    cause_bounded _ (ByRefusal reply server number value k) = subst IsBoundedVote k.vote_is (subst IsBoundedBody k.said_is said)
    cause_bounded _ (ByRestart done server asked k) = tt
    cause_bounded _ (ByLoss reply server k) = tt
    cause_bounded _ (ByLostVerdicts reply number round staple server k) = tt

-- the submission of a transaction
pub submit_row_bounds : (sc : Scenario) (c : Coordinator) (place : ℕ) → IsValid sc → HaveHomes sc → CoordinatorLow c → is_begun c.phase ≡ false → CoordinatorBounds (with_age (coord.submit_row sc c) place)
submit_row_bounds sc c place valid homes h new =
    let low : AreBefore 1 c.deeds = subst (λ (p : Phase). PhaseLow p c.deeds) (idle_is c.phase new) h.low in
    submit_by sc c (λ (effect : Effect Coordinator). CoordinatorBounds (with_age effect place))
    (record {
      ignored = record { state = record { deeds = h.deeds; low = h.low }; forces = tt; letters = tt };
      sent = λ server moves home. record { state = record { deeds = h.deeds; low = low }; forces = tt; letters = (value_bounded sc c 1 valid homes h.deeds low, tt) };
      asked = λ moves. record { state = record { deeds = h.deeds; low = low }; forces = tt; letters = (tt, tt) };
    })

-- a request that is sent again
pub repeats_bounded : (sc : Scenario) (c : Coordinator) → IsValid sc → HaveHomes sc → CoordinatorLow c → Each IsBoundedLetter (coord.repeats sc c c.phase)
repeats_bounded sc c valid homes h =
    timer_by sc c (Each IsBoundedLetter)
    (record {
      silent = tt;
      stapled = λ number stapling. (tt, tt);
      queried = λ number staple server querying home. (value_bounded sc c number valid homes h.deeds (subst (λ (p : Phase). PhaseLow p c.deeds) querying h.low), tt);
      asked = λ over round asking. (tt, tt);
      probed = λ at probing. (tt, tt);
      prepared = λ over round staple checking. rounds_say_none c over c.turn round staple (awaited_in round);
      voted = λ awaited votes. votes_say_none c c.turn awaited;
      read = λ over round reading. (tt, tt);
      ordered = λ ended awaited ending. orders_say_none c ended awaited;
    })
