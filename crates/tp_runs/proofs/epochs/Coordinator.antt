-- Epochs, the coordinator's other rows: they name what is kept, and keep it.
use Rattle.std.specs.List.{list_any}
use Rattle.std.specs.Option.{option_map_or}
use Rattle.std.proofs.Common.{List, None, Option, Some, [], ap, arith, false, is_some, not, option_map, refl, slice_get, subst, suc, sym, take, true, unwrap_or, zero, ℕ, ◌+◌, ◌-◌, ◌==◌, ◌∙◌, ◌∷◌, ◌≡◌}
use Rattle.tp_types.specs.Effect.{Effect, ignores, sends}
use Rattle.tp_types.proofs.EachLemmas.{each_as, each_filter, each_map}
use Rattle.tp_model.specs.Agreement.{has_item}
use Rattle.tp_model.specs.Queries.{is_at_server}
use Rattle.tp_model.specs.Words.body
use Rattle.tp_model.specs.Words.outcome
use Rattle.tp_model.specs.Words.{Actor, Body, Instance, Letter, Mail, Outcome, Reading, Scenario, ServerId, Staple, Transaction, TxnId, Verdict}
use Rattle.tp_runs.proofs.agreement.Coordinator.{idle_is}
use Rattle.tp_runs.proofs.basics.Homes.{HaveHomes, asked_there, begins_of_query, begun_after, decided_voted, home_is, is_beginning, is_ending, is_of_query, is_probed, is_ran, is_voted, probed_there, validated_ran}
use Rattle.tp_runs.proofs.basics.Passed.{passed_past, passed_undecided, reply_checking}
use Rattle.tp_runs.proofs.basics.Phases.{all_ran, has_run_at, is_undecided, late_has_run, only_spanned, queries_of, spanned}
use Rattle.tp_runs.proofs.basics.Servers.{has_item_over, servers_over, servers_over_have, servers_upto_are}
use Rattle.tp_runs.proofs.epochs.Asked.{Asking, NamesKept, asked_then}
use Rattle.tp_runs.proofs.epochs.Kept.{CoordinatorEpochs, CoordinatorKeeps, DeedKept, IsDoneMail, KeepsAsked, KeepsEpoch, PhaseKept, RowKeeps, again_keeps, deed_keeps, each_server, ignores_keeps, is_answer, kept_epoch, next_there, none_after, plain_keeps, query_again_keeps, query_keeps, requests_keep}
use Rattle.tp_runs.proofs.epochs.Server.{IsPlainLetter, LetterFirst, LetterTold}
use Rattle.tp_scheme.specs.declared.moves.Move.TheVariants as move
use Rattle.tp_scheme.specs.declared.moves.Point.TheVariants as point
use Rattle.tp_scheme.specs.declared.moves.Move.{Move}
use Rattle.tp_scheme.specs.declared.moves.Point.{Point}
use Rattle.tp_coord.proofs.Rows.{AfterQuery, AfterVotes, AllTrue, AllVoted, ByReading, ByReplies, Gained, IsJudged, IsPassed, IsProbing, ProofsRead, QueryRan, coordinator_by, gains_deed, gains_instances, submit_by, timer_by, with_gained}
use Rattle.tp_machine.specs.Machine.{with_age}
use Rattle.tp_types.specs.Each.{Each}
use Rattle.tp_coord.specs.Opened.{servers_at}
use Rattle.tp_coord.specs.Row as coord
use Rattle.tp_coord.specs.State.{Coordinator}
use Rattle.tp_coord.specs.declared.coordinator.Phase.TheVariants as phase
use Rattle.tp_coord.specs.declared.coordinator.Phase.{Phase}
use Rattle.tp_coord.specs.declared.coordinator.Span.TheVariants as span
use Rattle.tp_coord.specs.declared.coordinator.Span.{Span}
use Rattle.tp_runs.proofs.basics.Rounds.{EachServer, each_missing, each_renewed, each_replied, each_started, missing_in, updated_is}
use Rattle.tp_round.specs.Judge.{after_judgement, after_reply, aim_in, judge}
use Rattle.tp_round.specs.Replies.{by_query, proofs_in}
use Rattle.tp_round.specs.declared.round.Judged.TheVariants as judged
use Rattle.tp_round.specs.declared.round.Round.{Round}
use Rattle.tp_round.specs.declared.round.Wanted.{Wanted}

-- ---- Tell

pub some_is : (kept : Option ℕ) → is_some kept ≡ true → kept ≡ Some (unwrap_or kept 0)
some_is None e = absurd (cc)
some_is (Some n) e = refl

-- a request in a round, of a server of which an epoch is kept, names that
round_named : (c : Coordinator) (over : Span) (turn : ℕ) (round : Round) (staple : Staple) (at : ServerId) → KeepsEpoch c at → NamesKept c.txn (kept_epoch c) (coord.round_letter c over turn round staple at)
round_named c (span.Validate number) turn round staple at kept = (refl, some_is (kept_epoch c at) kept)
round_named c span.Commit turn round staple at kept = (refl, some_is (kept_epoch c at) kept)

round_first : (sc : Scenario) (c : Coordinator) (over : Span) (turn : ℕ) (round : Round) (staple : Staple) (at : ServerId) → LetterFirst sc (coord.round_letter c over turn round staple at)
round_first sc c (span.Validate number) turn round staple at = tt
round_first sc c span.Commit turn round staple at = tt

round_told : (sc : Scenario) (A : Asking) (E : ℕ → ℕ) (c : Coordinator) (over : Span) (turn : ℕ) (round : Round) (staple : Staple) (at : ServerId) → LetterTold sc A E (coord.round_letter c over turn round staple at)
round_told sc A E c (span.Validate number) turn round staple at = tt
round_told sc A E c span.Commit turn round staple at = tt

-- requests to servers of which an epoch is kept: what each names, and nothing else of epochs
record NamesEpochs (sc : Scenario) (E : ℕ → ℕ) (A : Asking) (c : Coordinator) (letters : List Letter) : Type 0 where
  names : Each (NamesKept c.txn (kept_epoch c)) letters
  first : Each (LetterFirst sc) letters
  told : Each (LetterTold sc (asked_then A letters) E) letters

round_names_epochs : (sc : Scenario) (E : ℕ → ℕ) (A : Asking) (c : Coordinator) (over : Span) (turn : ℕ) (round : Round) (staple : Staple) → EachServer (KeepsEpoch c) round.targets
    → NamesEpochs sc E A c (coord.round_letters c over turn round staple)
round_names_epochs sc E A c over turn round staple kept =
    let letter = coord.round_letter c over turn round staple in
    let servers = missing_in round.targets in
    let each : Each (KeepsEpoch c) servers = each_missing (KeepsEpoch c) round.targets kept in
    record {
      names = each_map (KeepsEpoch c) (NamesKept c.txn (kept_epoch c)) letter (λ at k. round_named c over turn round staple at k) servers each;
      first = each_map (KeepsEpoch c) (LetterFirst sc) letter (λ at k. round_first sc c over turn round staple at) servers each;
      told = each_map (KeepsEpoch c) (LetterTold sc (asked_then A (coord.round_letters c over turn round staple)) E) letter (λ at k. round_told sc (asked_then A (coord.round_letters c over turn round staple)) E c over turn round staple at) servers each;
    }

-- requests to prepare without an evaluation
votes_name_epochs : (sc : Scenario) (E : ℕ → ℕ) (A : Asking) (c : Coordinator) (turn : ℕ) (servers : List ServerId) → Each (KeepsEpoch c) servers → NamesEpochs sc E A c (coord.vote_letters c turn servers)
votes_name_epochs sc E A c turn servers kept =
    let letter = coord.vote_letter c turn in
    record {
      names = each_map (KeepsEpoch c) (NamesKept c.txn (kept_epoch c)) letter (λ at k. (refl, some_is (kept_epoch c at) k)) servers kept;
      first = each_map (KeepsEpoch c) (LetterFirst sc) letter (λ at k. tt) servers kept;
      told = each_map (KeepsEpoch c) (LetterTold sc (asked_then A (coord.vote_letters c turn servers)) E) letter (λ at k. tt) servers kept;
    }

-- each awaited server of a round is asked
checks_keeps : (sc : Scenario) (E : ℕ → ℕ) (A : Asking) (c : Coordinator) (over : Span) (round : Round) (staple : Staple) → CoordinatorKeeps sc E (A c.txn) c → c.phase ≡ phase.Asking over round
    → RowKeeps sc E A c (coord.checks c over round staple)
checks_keeps sc E A c over round staple h e =
    let k : KeepsAsked sc (A c.txn) c = h.undecided (ap is_undecided e) in
    let kept : EachServer (KeepsEpoch c) round.targets = subst (PhaseKept (KeepsEpoch c)) e k.round in
    let n = round_names_epochs sc E A c over (coord.next_turn c) round staple kept in
    requests_keep sc E A c (coord.next_turn c) (phase.Checking over round staple) (coord.round_letters c over (coord.next_turn c) round staple) h.places h.past k.asked (λ at. k.ran at ∙ ap (λ (p : Phase). has_run_at sc c.txn p at) e) kept
    n.names n.first n.told

-- ---- Vote

pub orders_plain : (c : Coordinator) (ended : Outcome) (servers : List ServerId) → Each IsPlainLetter (coord.requests c (body.Decide (record { txn = c.txn; outcome = ended })) servers)
orders_plain c ended [] = tt
orders_plain c ended (at ∷ servers) = (tt, orders_plain c ended servers)

-- an epoch is kept of each server of a round with a reply more
replied_kept : (sc : Scenario) (E : ℕ → ℕ) (A : Asking) (c : Coordinator) (over : Span) (round : Round) (staple : Staple) (at : ServerId) (verdicts : List Verdict) → CoordinatorKeeps sc E (A c.txn) c
    → c.phase ≡ phase.Checking over round staple → EachServer (KeepsEpoch c) (after_reply round at verdicts).targets
replied_kept sc E A c over round staple at verdicts h e = each_replied (KeepsEpoch c) round.targets at verdicts (subst (PhaseKept (KeepsEpoch c)) e (h.undecided (ap is_undecided e)).round)

-- a coordinator that moves to a phase before which as much has run, and keeps the epochs that this speaks of
moves_keeps : (sc : Scenario) (E : ℕ → ℕ) (A : Asking) (c : Coordinator) (turn : ℕ) (next : Phase) (letters : List Letter) → CoordinatorKeeps sc E (A c.txn) c → is_undecided c.phase ≡ true
    → ((s : ServerId) → has_run_at sc c.txn c.phase s ≡ has_run_at sc c.txn next s) → PhaseKept (KeepsEpoch c) next → Each IsPlainLetter letters
    → CoordinatorEpochs sc E A c.txn (Some (record c { turn = turn; phase = next })) letters
moves_keeps sc E A c turn next letters h undecided ran round plain =
    let k : KeepsAsked sc (A c.txn) c = h.undecided undecided in
    plain_keeps sc E A c.txn (Some (record c { turn = turn; phase = next })) letters
    (record { places = h.places; past = h.past; undecided = λ unsure. record { asked = k.asked; ran = λ s. k.ran s ∙ ran s; round = round } }) plain

counted_keeps : (sc : Scenario) (E : ℕ → ℕ) (A : Asking) (c : Coordinator) (over : Span) (round : Round) (staple : Staple) (at : ServerId) (verdicts : List Verdict) → CoordinatorKeeps sc E (A c.txn) c
    → c.phase ≡ phase.Checking over round staple → RowKeeps sc E A c (coord.stays c over (after_reply round at verdicts) (Some staple))
counted_keeps sc E A c over round staple at verdicts h e =
    moves_keeps sc E A c c.turn (phase.Checking over (after_reply round at verdicts) staple) [] h (ap is_undecided e) (λ s. ap (λ (p : Phase). has_run_at sc c.txn p s) e)
    (replied_kept sc E A c over round staple at verdicts h e) tt

-- the master is read once all have replied
probes_keeps : (sc : Scenario) (E : ℕ → ℕ) (A : Asking) (c : Coordinator) (over : Span) (round : Round) (staple : Staple) (at : ServerId) (verdicts : List Verdict) → CoordinatorKeeps sc E (A c.txn) c
    → c.phase ≡ phase.Checking over round staple → RowKeeps sc E A c (coord.probes c (phase.Reading over (after_reply round at verdicts)))
probes_keeps sc E A c over round staple at verdicts h e =
    moves_keeps sc E A c (coord.next_turn c) (phase.Reading over (after_reply round at verdicts)) (coord.probe_letter c (coord.next_turn c) ∷ []) h (ap is_undecided e) (λ s. ap (λ (p : Phase). has_run_at sc c.txn p s) e)
    (replied_kept sc E A c over round staple at verdicts h e) (tt, tt)

-- a vote that was asked for without an evaluation
voted_keeps : (sc : Scenario) (E : ℕ → ℕ) (A : Asking) (c : Coordinator) (awaited : List ServerId) (at : ServerId) → CoordinatorKeeps sc E (A c.txn) c → c.phase ≡ phase.Voting awaited
    → RowKeeps sc E A c (sends (coord.voting c (coord.without awaited at)) [])
voted_keeps sc E A c awaited at h e =
    let undecided : is_undecided c.phase ≡ true = ap is_undecided e in
    let kept : Each (KeepsEpoch c) awaited = subst (PhaseKept (KeepsEpoch c)) e (h.undecided undecided).round in
    moves_keeps sc E A c c.turn (phase.Voting (coord.without awaited at)) [] h undecided (λ s. ap (λ (p : Phase). has_run_at sc c.txn p s) e)
    (each_filter (KeepsEpoch c) (λ (other : ServerId). not (other.0 == at.0)) awaited kept) tt

-- a coordinator that judges a round keeps an epoch of each of its servers
record IsJudging (sc : Scenario) (c : Coordinator) (over : Span) (round : Round) : Type 0 where
  pub undecided : is_undecided c.phase ≡ true
  pub ran : (s : ServerId) → has_run_at sc c.txn c.phase s ≡ list_any (is_at_server sc s.0) (spanned over (queries_of sc c.txn))
  pub kept : EachServer (KeepsEpoch c) round.targets

judging : (sc : Scenario) (E : ℕ → ℕ) (A : Asking) (c : Coordinator) (mail : Mail) (over : Span) (round : Round) (staple : Option Staple) (reading : Option Reading) → CoordinatorKeeps sc E (A c.txn) c
    → IsJudged c mail over round staple reading → IsJudging sc c over round
judging sc E A c mail _ _ _ _ h (ByReplies over round staple at verdicts y whole unread) =
    let e = reply_checking c mail over round staple at verdicts y in
    record { undecided = ap is_undecided e; ran = λ s. ap (λ (p : Phase). has_run_at sc c.txn p s) e; kept = replied_kept sc E A c over round staple at verdicts h e }
judging sc E A c mail _ _ _ _ h (ByReading reply over round k) =
    let undecided : is_undecided c.phase ≡ true = ap is_undecided k.reading in
    record { undecided = undecided; ran = λ s. ap (λ (p : Phase). has_run_at sc c.txn p s) k.reading; kept = subst (PhaseKept (KeepsEpoch c)) k.reading (h.undecided undecided).round }

-- the authority is asked before a further round
updated_keeps : (sc : Scenario) (E : ℕ → ℕ) (A : Asking) (c : Coordinator) (over : Span) (round : Round) (reading : Option Reading) (named : List Wanted) → CoordinatorKeeps sc E (A c.txn) c → IsJudging sc c over round
    → judge round reading ≡ judged.Update named → RowKeeps sc E A c (coord.asks c over (after_judgement round reading))
updated_keeps sc E A c over round reading named h k judgement =
    let next = after_judgement round reading in
    let renewed : EachServer (KeepsEpoch c) next.targets =
    subst (λ (r : Round). EachServer (KeepsEpoch c) r.targets) (sym (updated_is round reading named judgement)) (each_renewed (KeepsEpoch c) (aim_in round reading) round.targets k.kept) in
    moves_keeps sc E A c (coord.next_turn c) (phase.Asking over next) (coord.ask_letter c (coord.next_turn c) ∷ []) h k.undecided k.ran renewed (tt, tt)

-- ---- Tell, before a query

-- the query is asked with the staple
stapled_keeps : (sc : Scenario) (E : ℕ → ℕ) (A : Asking) (c : Coordinator) (number : ℕ) (staple : Staple) (at : ServerId) → CoordinatorKeeps sc E (A c.txn) c → c.phase ≡ phase.Stapling number
    → RowKeeps sc E A c (coord.sends_query sc c number (Some staple) at)
stapled_keeps sc E A c number staple at h e =
    let k : KeepsAsked sc (A c.txn) c = h.undecided (ap is_undecided e) in
    query_keeps sc E A c number (Some staple) at h.places h.past k.asked (λ s. k.ran s ∙ ap (λ (p : Phase). has_run_at sc c.txn p s) e)

-- ---- all mails

-- what a mail tells a coordinator of epochs
abbrev pub IsMail : Scenario → (ℕ → ℕ) → Asking → Coordinator → Actor → Body → Type 0
IsMail sc E A c from (body.Done done) = IsDoneMail sc E A c from done
IsMail sc E A c from _ = Unit {0}

-- ---- points that are passed

-- where a query ran the point is one after a query
pub ran_of_query : (at : Point) → is_ran at ≡ true → is_of_query at ≡ true
ran_of_query (point.Ran number) e = refl
ran_of_query (point.Begun number) e = absurd (cc)
ran_of_query (point.Stapled number) e = absurd (cc)
ran_of_query (point.Read number) e = absurd (cc)
ran_of_query (point.Validated number) e = absurd (cc)
ran_of_query point.Voted e = absurd (cc)
ran_of_query point.VoteRead e = absurd (cc)

-- where no query has run since, what is kept stands
still_kept : (sc : Scenario) (E : ℕ → ℕ) (A : Asking) (c : Coordinator) (instances : List Instance) (number : ℕ) → CoordinatorKeeps sc E (A c.txn) c → is_undecided c.phase ≡ true
    → ((s : ServerId) → has_run_at sc c.txn c.phase s ≡ list_any (is_at_server sc s.0) (take number (queries_of sc c.txn))) → DeedKept sc E A c number (with_gained c (gains_instances c instances))
still_kept sc E A c instances number h undecided ran =
    let k : KeepsAsked sc (A c.txn) c = h.undecided undecided in
    record { places = h.places; past = h.past; asked = k.asked; ran = λ s. k.ran s ∙ ran s }

probing_ran : (sc : Scenario) (txn : TxnId) (awaited : Phase) (at : Point) → IsProbing awaited at → is_of_query at ≡ true → (s : ServerId) → has_run_at sc txn awaited s ≡ list_any (is_at_server sc s.0) (take (coord.number_at at) (queries_of sc txn))
probing_ran sc txn _ _ (AfterQuery number) e s = refl
probing_ran sc txn _ _ AfterVotes e s = absurd (cc)

over_ran : (sc : Scenario) (txn : TxnId) (over : Span) → is_of_query (coord.point_of over) ≡ true → (s : ServerId)
    → list_any (is_at_server sc s.0) (spanned over (queries_of sc txn)) ≡ list_any (is_at_server sc s.0) (take (coord.number_at (coord.point_of over)) (queries_of sc txn))
over_ran sc txn (span.Validate number) e s = refl
over_ran sc txn span.Commit e s = absurd (cc)

-- after a query an epoch is kept of each server at which one of the queries so far ran
passed_keeps : (sc : Scenario) (E : ℕ → ℕ) (A : Asking) (c : Coordinator) (mail : Mail) (at : Point) (now : Gained) (rounds : ℕ) → CoordinatorKeeps sc E (A c.txn) c → IsMail sc E A c mail.letter.from mail.letter.body
    → IsPassed sc c mail at now rounds → is_of_query at ≡ true → DeedKept sc E A c (coord.number_at at) (with_gained c now)
passed_keeps sc E A c mail _ _ _ h m (QueryRan done at asked value proof k) e =
    let kept = deed_keeps sc E A c done asked at value h (is_answer sc E A c mail done at asked value proof (subst (IsMail sc E A c mail.letter.from) k.said_is m) k) in
    record { places = kept.places; past = kept.past; asked = kept.asked; ran = kept.ran }
passed_keeps sc E A c mail _ _ _ h m (ProofsRead reply at k none) e =
    still_kept sc E A c _ (coord.number_at at) h (passed_undecided sc c mail _ _ _ (ProofsRead reply at k none)) (probing_ran sc c.txn c.phase at k.probing e)
passed_keeps sc E A c mail _ _ _ h m (AllTrue over round staple reading k) e =
    let j = judging sc E A c mail over round staple reading h k.is_judged in
    still_kept sc E A c _ (coord.number_at (coord.point_of over)) h j.undecided (λ s. j.ran s ∙ over_ran sc c.txn over e s)
passed_keeps sc E A c mail _ _ _ h m (AllVoted reply awaited server verdicts k left) e = absurd (cc)

-- a coordinator goes on to a phase before which these queries ran, and keeps the epochs that this speaks of
goes_keeps : (sc : Scenario) (E : ℕ → ℕ) (A : Asking) (c now : Coordinator) (number turn : ℕ) (next : Phase) (letters : List Letter) → now.txn ≡ c.txn → DeedKept sc E A c number now
    → ((s : ServerId) → list_any (is_at_server sc s.0) (take number (queries_of sc c.txn)) ≡ has_run_at sc c.txn next s) → PhaseKept (KeepsEpoch now) next → Each IsPlainLetter letters
    → CoordinatorEpochs sc E A c.txn (Some (record now { turn = turn; phase = next })) letters
goes_keeps sc E A c now number turn next letters own k ran round plain =
    plain_keeps sc E A c.txn (Some (record now { turn = turn; phase = next })) letters
    (record {
      places = k.places;
      past = k.past;
      undecided = λ unsure. record { asked = k.asked; ran = λ s. k.ran s ∙ (ran s ∙ ap (λ (txn : TxnId). has_run_at sc txn next s) (sym own)); round = round };
    }) plain

-- so many queries ran before the next one
before_next : (sc : Scenario) (c : Coordinator) (number : ℕ) → HaveHomes sc → is_some (coord.own_query sc c (coord.next_number number)) ≡ true → (s : ServerId)
    → list_any (is_at_server sc s.0) (take number (queries_of sc c.txn)) ≡ list_any (is_at_server sc s.0) (take (coord.next_number number - 1) (queries_of sc c.txn))
before_next sc c number homes there s =
    let next : coord.next_number number ≡ number + 1 = next_there sc c number homes there in
    let before : number ≡ coord.next_number number - 1 = omega (arith, next) in
    ap (λ (n : ℕ). list_any (is_at_server sc s.0) (take n (queries_of sc c.txn))) before

-- once all have run, an epoch is kept of each server
all_kept : (sc : Scenario) (E : ℕ → ℕ) (A : Asking) (c now : Coordinator) (number : ℕ) → c.servers ≡ servers_at sc c.txn → take number (queries_of sc c.txn) ≡ queries_of sc c.txn → DeedKept sc E A c number now → Each (KeepsEpoch now) c.servers
all_kept sc E A c now number servers all k =
    each_server sc c (KeepsEpoch now) servers (λ at item. k.ran at ∙ (ap (list_any (is_at_server sc at.0)) all ∙ (late_has_run sc c.txn phase.VoteProbing at refl ∙ item)))

-- of each server of the queries up to one, where these have run
upto_kept : (sc : Scenario) (E : ℕ → ℕ) (A : Asking) (c now : Coordinator) (number : ℕ) → c.servers ≡ servers_at sc c.txn → DeedKept sc E A c number now → Each (KeepsEpoch now) (coord.servers_upto sc c number)
upto_kept sc E A c now number servers k =
    subst (Each (KeepsEpoch now)) (sym (servers_upto_are sc c number servers))
    (each_as (λ (at : ServerId). has_item_over sc c.txn (span.Validate number) at ≡ true) (KeepsEpoch now) (λ at item. k.ran at ∙ (sym (among at (slice_get sc.txns c.txn.0)) ∙ item))
    (servers_over sc c.txn (span.Validate number)) (servers_over_have sc c.txn (span.Validate number)))
  where
    none_among : (at : ServerId) (n : ℕ) → false ≡ list_any (is_at_server sc at.0) (take n [])
    none_among at zero = refl
    none_among at (suc n) = refl

    among : (at : ServerId) (found : Option Transaction) → option_map_or (λ (declared : Transaction). has_item sc at (only_spanned (span.Validate number) declared)) found false
        ≡ list_any (is_at_server sc at.0) (take number (option_map_or (λ (declared : Transaction). declared.queries) found []))
    among at None = none_among at number
    among at (Some declared) = refl

-- each query was proved as it ran: all servers are asked to prepare without an evaluation
votes_keeps : (sc : Scenario) (E : ℕ → ℕ) (A : Asking) (c : Coordinator) (now : Gained) (number : ℕ) → c.servers ≡ servers_at sc c.txn → take number (queries_of sc c.txn) ≡ queries_of sc c.txn → DeedKept sc E A c number (with_gained c now)
    → RowKeeps sc E A c (coord.asks_votes (with_gained c now))
votes_keeps sc E A c now number servers all k =
    let kept : Each (KeepsEpoch (with_gained c now)) c.servers = all_kept sc E A c (with_gained c now) number servers all k in
    let n = votes_name_epochs sc E A (with_gained c now) (coord.next_turn c) c.servers kept in
    requests_keep sc E A (with_gained c now) (coord.next_turn c) (phase.Voting c.servers) (coord.vote_letters (with_gained c now) (coord.next_turn c) c.servers) k.places k.past k.asked
    (λ s. k.ran s ∙ ap (list_any (is_at_server sc s.0)) all) kept n.names n.first n.told

-- the master is asked for the proofs so far, after the votes
voted_probes : (sc : Scenario) (E : ℕ → ℕ) (A : Asking) (c : Coordinator) (instances : List Instance) → CoordinatorKeeps sc E (A c.txn) c → is_undecided c.phase ≡ true
    → ((s : ServerId) → has_run_at sc c.txn c.phase s ≡ has_run_at sc c.txn phase.VoteProbing s) → RowKeeps sc E A c (coord.probes (with_gained c (gains_instances c instances)) phase.VoteProbing)
voted_probes sc E A c instances h undecided ran =
    let k : KeepsAsked sc (A c.txn) c = h.undecided undecided in
    plain_keeps sc E A c.txn (Some (coord.probes (with_gained c (gains_instances c instances)) phase.VoteProbing).state) (coord.probe_letter c (coord.next_turn c) ∷ [])
    (record { places = h.places; past = h.past; undecided = λ unsure. record { asked = k.asked; ran = λ s. k.ran s ∙ ran s; round = tt } }) (tt, tt)

-- or after a query
proofs_keep : (sc : Scenario) (E : ℕ → ℕ) (A : Asking) (c : Coordinator) (mail : Mail) (at : Point) (now : Gained) (rounds : ℕ) → CoordinatorKeeps sc E (A c.txn) c → IsMail sc E A c mail.letter.from mail.letter.body
    → IsPassed sc c mail at now rounds → is_probed at ≡ true → RowKeeps sc E A c (coord.probes (with_gained c now) (coord.probing_at at))
proofs_keep sc E A c mail _ _ _ h m (QueryRan done at asked value proof k) e =
    goes_keeps sc E A c (with_gained c (gains_deed sc c at done asked value proof)) done.query (coord.next_turn c) (phase.Probing done.query) (coord.probe_letter c (coord.next_turn c) ∷ []) refl
    (passed_keeps sc E A c mail _ _ _ h m (QueryRan done at asked value proof k) refl) (λ s. refl) tt (tt, tt)
proofs_keep sc E A c mail _ _ _ h m (ProofsRead reply at k none) e = absurd (read_unprobed c.phase at k.probing e)
  where
    read_unprobed : (awaited : Phase) (one : Point) → IsProbing awaited one → is_probed one ≡ true → ⊥
    read_unprobed _ _ (AfterQuery number) f = cc
    read_unprobed _ _ AfterVotes f = cc
proofs_keep sc E A c mail _ _ _ h m (AllTrue over round staple reading k) e = by_span over e (judging sc E A c mail over round staple reading h k.is_judged)
  where
    by_span : (one : Span) → is_probed (coord.point_of one) ≡ true → IsJudging sc c one round
        → RowKeeps sc E A c (coord.probes (with_gained c (gains_instances c (coord.instances_with c (option_map coord.place_of reading) (by_query (proofs_in round.targets))))) (coord.probing_at (coord.point_of one)))
    by_span (span.Validate number) f j = absurd (cc)
    by_span span.Commit f j = voted_probes sc E A c (coord.instances_with c (option_map coord.place_of reading) (by_query (proofs_in round.targets))) h j.undecided j.ran
proofs_keep sc E A c mail _ _ _ h m (AllVoted reply awaited server verdicts k left) e =
    voted_probes sc E A c c.instances h (ap is_undecided k.voting) (λ s. ap (λ (p : Phase). has_run_at sc c.txn p s) k.voting)

-- every row of a coordinator on receipt of a mail
pub coordinator_row_keeps : (sc : Scenario) (E : ℕ → ℕ) (A : Asking) (c : Coordinator) (mail : Mail) → HaveHomes sc → CoordinatorKeeps sc E (A c.txn) c → c.servers ≡ servers_at sc c.txn
    → IsMail sc E A c mail.letter.from mail.letter.body → RowKeeps sc E A c (coord.coordinator_row sc c mail)
coordinator_row_keeps sc E A c mail homes h servers m =
    coordinator_by sc c mail (RowKeeps sc E A c)
    (record {
      ignored = ignores_keeps sc E A c h;
      stapled = λ tell query home k there. stapled_keeps sc E A c query (coord.staple_of tell mail.sent) home h k.stapling;
      sends_query = λ at now rounds next passed moved home.
          let k = kept at now rounds move.SendQuery passed refl moved in
          let asked = home_is sc c (coord.next_at at) next home in
          query_keeps sc E A (with_gained c now) (coord.next_at at) None next k.places k.past k.asked (λ s. k.ran s ∙ before_next sc c (coord.number_at at) homes (ap is_some asked.asked_is) s);
      asks_staple = λ at now rounds passed moved.
          let past = passed_past sc c mail at now rounds passed in
          let there = asked_there sc c (coord.next_at at) (omega arith) (begun_after sc c at move.Ask past refl moved) in
          goes_keeps sc E A c (with_gained c now) (coord.number_at at) (coord.next_turn c) (phase.Stapling (coord.next_at at)) (coord.ask_letter c (coord.next_turn c) ∷ []) refl (kept at now rounds move.Ask passed refl moved)
          (λ s. before_next sc c (coord.number_at at) homes there s) tt (tt, tt);
      probes_proofs = λ at now rounds passed moved. proofs_keep sc E A c mail at now rounds h m passed (probed_there sc c at moved);
      validates = λ at now rounds passed moved.
          let k = passed_keeps sc E A c mail at now rounds h m passed (ran_of_query at (validated_ran sc c at moved)) in
          let round = coord.validation_round sc c (coord.number_at at) in
          goes_keeps sc E A c (with_gained c now) (coord.number_at at) (coord.next_turn c) (phase.Asking (span.Validate (coord.number_at at)) round) (coord.ask_letter c (coord.next_turn c) ∷ []) refl k (λ s. refl)
          (each_started (KeepsEpoch (with_gained c now)) (coord.servers_upto sc c (coord.number_at at)) (upto_kept sc E A c (with_gained c now) (coord.number_at at) servers k)) (tt, tt);
      commit_rounds = λ at now rounds passed moved.
          let k = kept at now rounds move.CommitRounds passed refl moved in
          let all = all_of at now rounds move.CommitRounds passed refl refl moved in
          goes_keeps sc E A c (with_gained c now) (coord.number_at at) (coord.next_turn c) (phase.Asking span.Commit (coord.commit_round sc c)) (coord.ask_letter c (coord.next_turn c) ∷ []) refl k
          (λ s. ap (list_any (is_at_server sc s.0)) all) (each_started (KeepsEpoch (with_gained c now)) c.servers (all_kept sc E A c (with_gained c now) (coord.number_at at) servers all k)) (tt, tt);
      asks_votes = λ at now rounds passed moved. votes_keeps sc E A c now (coord.number_at at) servers (all_of at now rounds move.Votes passed refl refl moved) (kept at now rounds move.Votes passed refl moved);
      told = λ tell over round k. checks_keeps sc E A c over round (coord.staple_of tell mail.sent) h k.asking;
      counted = λ over round staple at verdicts y. counted_keeps sc E A c over round staple at verdicts h (reply_checking c mail over round staple at verdicts y);
      probed = λ over round staple at verdicts y replied reads. probes_keeps sc E A c over round staple at verdicts h (reply_checking c mail over round staple at verdicts y);
      voted = λ reply awaited at verdicts y. voted_keeps sc E A c awaited at h y.voting;
      decides = λ at now rounds passed moved.
          plain_keeps sc E A c.txn (Some (coord.commits (with_gained c now) rounds).state) (coord.decide_letters c outcome.Commit c.servers)
          (decided_kept at now rounds passed (decided_voted sc c at moved)) (orders_plain c outcome.Commit c.servers);
      aborted = λ why ended.
          plain_keeps sc E A c.txn (Some (coord.aborts c why).state) (coord.decide_letters c outcome.Abort c.servers)
          (record { places = h.places; past = h.past; undecided = λ unsure. absurd (cc) }) (orders_plain c outcome.Abort c.servers);
      updated = λ over round staple reading named j e. updated_keeps sc E A c over round reading named h (judging sc E A c mail over round staple reading h j) e;
      acknowledged = λ ack ended awaited at k.
          plain_keeps sc E A c.txn (Some (record c { phase = phase.Ending ended (coord.without awaited at) })) []
          (record { places = h.places; past = h.past; undecided = λ unsure. absurd (cc) }) tt;
      inquired = λ inquiry ended awaited at k. plain_keeps sc E A c.txn (Some c) (coord.decide_letters c ended (at ∷ [])) h (orders_plain c ended (at ∷ []));
    })
  where
    -- what is kept where a query begins, or all are done with
    kept : (at : Point) (now : Gained) (rounds : ℕ) (wanted : Move) → IsPassed sc c mail at now rounds → is_beginning wanted ≡ true → coord.move_after sc c at ≡ wanted → DeedKept sc E A c (coord.number_at at) (with_gained c now)
    kept at now rounds wanted passed begins moved = passed_keeps sc E A c mail at now rounds h m passed (begins_of_query sc c at wanted (passed_past sc c mail at now rounds passed) begins moved)

    -- where all are done with, those up to the point's are all
    all_of : (at : Point) (now : Gained) (rounds : ℕ) (wanted : Move) → IsPassed sc c mail at now rounds → is_beginning wanted ≡ true → is_ending wanted ≡ true → coord.move_after sc c at ≡ wanted
        → take (coord.number_at at) (queries_of sc c.txn) ≡ queries_of sc c.txn
    all_of at now rounds wanted passed begins ends moved = all_ran sc c.txn (coord.number_at at) (none_after sc c at wanted homes (passed_past sc c mail at now rounds passed) begins ends moved)

    -- a decision asks for nothing more
    decided_kept : (at : Point) (now : Gained) (rounds : ℕ) → IsPassed sc c mail at now rounds → is_voted at ≡ true → CoordinatorKeeps sc E (A c.txn) (coord.commits (with_gained c now) rounds).state
    decided_kept _ _ _ (QueryRan done at asked value proof k) e = absurd (cc)
    decided_kept _ _ _ (ProofsRead reply at k none) e = record { places = h.places; past = h.past; undecided = λ unsure. absurd (cc) }
    decided_kept _ _ _ (AllTrue over round staple reading k) e = record { places = h.places; past = h.past; undecided = λ unsure. absurd (cc) }
    decided_kept _ _ _ (AllVoted reply awaited server verdicts k left) e = record { places = h.places; past = h.past; undecided = λ unsure. absurd (cc) }

-- ---- Submit

-- what is kept of epochs does not hang on the age
aged_keeps : (sc : Scenario) (E : ℕ → ℕ) (A : Asking) (c : Coordinator) (effect : Effect Coordinator) (age : ℕ) → RowKeeps sc E A c effect → RowKeeps sc E A c (with_age effect age)
aged_keeps sc E A c effect age h =
    record {
      keeps = record { places = h.keeps.places; past = h.keeps.past; undecided = λ unsure. let k = h.keeps.undecided unsure in record { asked = k.asked; ran = k.ran; round = k.round } };
      own = h.own;
      sent = h.sent;
    }

sent_keeps : (sc : Scenario) (E : ℕ → ℕ) (A : Asking) (c : Coordinator) (at : ServerId) → CoordinatorKeeps sc E (A c.txn) c → c.phase ≡ phase.Idle → RowKeeps sc E A c (coord.sends_query sc c 1 None at)
sent_keeps sc E A c at h e =
    let k : KeepsAsked sc (A c.txn) c = h.undecided (ap is_undecided e) in
    query_keeps sc E A c 1 None at h.places h.past k.asked (λ s. k.ran s ∙ ap (λ (p : Phase). has_run_at sc c.txn p s) e)

-- the authority is asked before the first query
first_staple_keeps : (sc : Scenario) (E : ℕ → ℕ) (A : Asking) (c : Coordinator) → CoordinatorKeeps sc E (A c.txn) c → c.phase ≡ phase.Idle → RowKeeps sc E A c (coord.asks_in c (phase.Stapling 1))
first_staple_keeps sc E A c h e =
    moves_keeps sc E A c (coord.next_turn c) (phase.Stapling 1) (coord.ask_letter c (coord.next_turn c) ∷ []) h (ap is_undecided e) (λ s. ap (λ (p : Phase). has_run_at sc c.txn p s) e) tt (tt, tt)

-- the submission of a transaction
pub submit_row_keeps : (sc : Scenario) (E : ℕ → ℕ) (A : Asking) (c : Coordinator) (age : ℕ) → CoordinatorKeeps sc E (A c.txn) c → coord.is_begun c.phase ≡ false → RowKeeps sc E A c (with_age (coord.submit_row sc c) age)
submit_row_keeps sc E A c age h b =
    submit_by sc c (λ (effect : Effect Coordinator). RowKeeps sc E A c (with_age effect age))
    (record {
      ignored = aged_keeps sc E A c (ignores c) age (ignores_keeps sc E A c h);
      sent = λ at moves home. aged_keeps sc E A c (coord.sends_query sc c 1 None at) age (sent_keeps sc E A c at h (idle_is c.phase b));
      asked = λ moves. aged_keeps sc E A c (coord.asks_in c (phase.Stapling 1)) age (first_staple_keeps sc E A c h (idle_is c.phase b));
    })

-- ---- timers

-- requests that name what is kept are sent again
requests_again : (sc : Scenario) (E : ℕ → ℕ) (A : Asking) (c : Coordinator) (letters : List Letter) → CoordinatorKeeps sc E (A c.txn) c → is_undecided c.phase ≡ true → NamesEpochs sc E A c letters → CoordinatorEpochs sc E A c.txn (Some c) letters
requests_again sc E A c letters h undecided n = again_keeps sc E A c letters h undecided n.names n.first n.told

-- the awaited servers of a round are asked again
checks_again_keeps : (sc : Scenario) (E : ℕ → ℕ) (A : Asking) (c : Coordinator) (over : Span) (round : Round) (staple : Staple) → CoordinatorKeeps sc E (A c.txn) c → c.phase ≡ phase.Checking over round staple
    → CoordinatorEpochs sc E A c.txn (Some c) (coord.round_letters c over c.turn round staple)
checks_again_keeps sc E A c over round staple h e =
    let undecided : is_undecided c.phase ≡ true = ap is_undecided e in
    requests_again sc E A c (coord.round_letters c over c.turn round staple) h undecided (round_names_epochs sc E A c over c.turn round staple (subst (PhaseKept (KeepsEpoch c)) e (h.undecided undecided).round))

-- and those whose votes are awaited
votes_again_keeps : (sc : Scenario) (E : ℕ → ℕ) (A : Asking) (c : Coordinator) (awaited : List ServerId) → CoordinatorKeeps sc E (A c.txn) c → c.phase ≡ phase.Voting awaited
    → CoordinatorEpochs sc E A c.txn (Some c) (coord.vote_letters c c.turn awaited)
votes_again_keeps sc E A c awaited h e =
    let undecided : is_undecided c.phase ≡ true = ap is_undecided e in
    requests_again sc E A c (coord.vote_letters c c.turn awaited) h undecided (votes_name_epochs sc E A c c.turn awaited (subst (PhaseKept (KeepsEpoch c)) e (h.undecided undecided).round))

-- what a timer sends again
pub timer_keeps : (sc : Scenario) (E : ℕ → ℕ) (A : Asking) (c : Coordinator) → CoordinatorKeeps sc E (A c.txn) c → CoordinatorEpochs sc E A c.txn (Some c) (coord.repeats sc c c.phase)
timer_keeps sc E A c h =
    timer_by sc c (CoordinatorEpochs sc E A c.txn (Some c))
    (record {
      silent = ignores_keeps sc E A c h;
      stapled = λ number stapling. plain_keeps sc E A c.txn (Some c) (coord.ask_letter c c.turn ∷ []) h (tt, tt);
      queried = λ number staple at querying home. query_again_keeps sc E A c number staple at h querying;
      asked = λ over round asking. plain_keeps sc E A c.txn (Some c) (coord.ask_letter c c.turn ∷ []) h (tt, tt);
      read = λ over round reading. plain_keeps sc E A c.txn (Some c) (coord.probe_letter c c.turn ∷ []) h (tt, tt);
      probed = λ at probing. plain_keeps sc E A c.txn (Some c) (coord.probe_letter c c.turn ∷ []) h (tt, tt);
      prepared = λ over round staple checking. checks_again_keeps sc E A c over round staple h checking;
      voted = λ awaited voting. votes_again_keeps sc E A c awaited h voting;
      ordered = λ ended awaited ending. plain_keeps sc E A c.txn (Some c) (coord.decide_letters c ended awaited) h (orders_plain c ended awaited);
    })
