-- Trust, the coordinator's queries: each is sent as its scheme asks, and what a query that ran adds is what the scheme demands so far.
use Rattle.std.proofs.Common.{Bool, IfSome, List, None, Option, Some, [], ap, arith, drop, false, find, is_none, is_some, length, map, option_and_then, option_map, refl, replicate, slice_get, subst, suc, sym, true, zero, ℕ, ℤ, ⊎_elim, if◌then◌else◌, ◌++◌, ◌+◌, ◌-◌, ◌<◌, ◌==◌, ◌∙◌, ◌∷◌, ◌≡◌, ◌≤◌}
use Rattle.std.proofs.lemmas.Bool.{and_from, and_parts, cases_lt, eqb-true}
use Rattle.std.proofs.lemmas.List.FromFn.{length-range_with_len}
use Rattle.std.proofs.lemmas.Option.{same_Some}
use Rattle.std.specs.Option.{option_map_or}
use Rattle.tp_types.proofs.EachLemmas.{each_append, each_found, found_passes, missing}
use Rattle.tp_types.specs.Each.{Each}
use Rattle.tp_model.specs.Demand.{agrees_at, are_instances, first_of, is_incremental, is_instance, is_over, many_of, most_rounds, reads_later}
use Rattle.tp_model.specs.Levels.{is_global, reads_master}
use Rattle.tp_model.specs.Limits.{admins_limit, view_rounds}
use Rattle.tp_model.specs.Queries.{query_at}
use Rattle.tp_model.specs.Versions.{is_consistent, is_one_version, meets_readings, newest}
use Rattle.tp_model.specs.Words.{AdminId, Answer, DoneReply, Fact, Instance, Mail, Query, Scenario, Scheme, ServerId, Staple, Transaction, TxnId, Verdict, Version}
use Rattle.tp_model.specs.Words.actor
use Rattle.tp_model.specs.Words.answer
use Rattle.tp_model.specs.Words.body
use Rattle.tp_model.specs.Words.level
use Rattle.tp_model.specs.Words.scheme
use Rattle.tp_coord.proofs.Rows.{Gained, IsAwaitedAnswer, IsRanAnswer, gains_deed, with_gained}
use Rattle.tp_coord.specs.Opened.{servers_at}
use Rattle.tp_coord.specs.Row.{asks, asks_in, awaits_query, closed_by, commit_round, gathered_by, home_of, level_at, level_read, move_at, move_of, next_number, next_turn, own_query, probes, query_request, round_of, scheme_at, sends_query, servers_upto, validation_round, with_all, with_own}
use Rattle.tp_coord.specs.Row as row
use Rattle.tp_coord.specs.State.{Coordinator}
use Rattle.tp_coord.specs.declared.coordinator.Phase.{Phase}
use Rattle.tp_coord.specs.declared.coordinator.Phase.TheVariants as phase
use Rattle.tp_coord.specs.declared.coordinator.Span.{Span}
use Rattle.tp_coord.specs.declared.coordinator.Span.TheVariants as span
use Rattle.tp_round.proofs.AdminLemmas.{same_ids}
use Rattle.tp_round.specs.Judge.{first_round, new_target}
use Rattle.tp_round.specs.Replies.{verdicts_in}
use Rattle.tp_round.specs.declared.round.Target.{Target}
use Rattle.tp_scheme.specs.Gathered.{is_of, pin_of, version_of}
use Rattle.tp_scheme.specs.Moves.{proves_each}
use Rattle.tp_scheme.specs.Moves as table
use Rattle.tp_scheme.specs.declared.moves.Move.TheVariants as move
use Rattle.tp_scheme.specs.declared.moves.Point.{Point}
use Rattle.tp_scheme.specs.declared.moves.Point.TheVariants as point
use Rattle.tp_runs.proofs.basics.Homes.{HaveHomes, home_is, next_is, proved, unproved}
use Rattle.tp_runs.proofs.basics.Ids.{same_txn_from}
use Rattle.tp_runs.proofs.basics.Phases.{awaits_is, before_query, is_undecided, until_round}
use Rattle.tp_runs.proofs.basics.Servers.{all_servers, servers_over}
use Rattle.tp_runs.proofs.basics.Turns.{AnswerNow, AreFew, DoneNow, IsAbove, IsAnswered, IsEarlierInstance, IsTimely, RanNow, admin_asked, low_query, number_within, query_count, raised, turn_rises}
use Rattle.tp_runs.proofs.ids.Valid.{IsValid}
use Rattle.tp_runs.proofs.trust.Coordinator.{AreSoFar, CoordinatorFits, IsHeard, PresentMail, RowTrusts, moved_on, phase_fits, turn_low}
use Rattle.tp_runs.proofs.trust.Fit.{AnswerFits, BodyFits, IsPublished, IsSubmitted, QueryFits, Right, StapleFits}
use Rattle.tp_runs.proofs.trust.Fronts.{AreNewAfter, AreReadBefore, front_closed, gathered_more}
use Rattle.tp_runs.proofs.trust.Gathering.{ArePinned, length_numbers, pinned_agree}
use Rattle.tp_runs.proofs.trust.Instances.{AreAbove, IsSoFar, IsSoFarIn, closed_as, closed_in, gathered_in, none_gathered, own_closed, own_instance, so_far_on}
use Rattle.tp_runs.proofs.trust.Phases.{IsMadeAfter, Suits}
use Rattle.tp_runs.proofs.trust.Points.{AfterRun, IsPast, IsProbed, asked_few, asked_past, closed_past, closed_probing, closed_ran, closed_validating, gathered_before_next, gathered_past, gathered_probing, gathered_validating, past_as}
use Rattle.tp_runs.proofs.trust.RoundLevels.{read_level, round_begins}
use Rattle.tp_runs.proofs.trust.Rounds.{RoundFits}
use Rattle.tp_runs.specs.Sound.{IsSoundBody, query_in}

-- ---- pins

-- a version that gathered proofs pin was published, as each is right
pinned_low : (sc : Scenario) (facts : List Fact) (place : ℕ) (txn : TxnId) (declared : Transaction) (gathered : List Verdict) (admin : AdminId) (pin : Version) → slice_get sc.txns txn.0 ≡ Some declared → Each (Right sc facts place txn) gathered
    → pin_of gathered admin ≡ Some pin → IsPublished sc facts place (admin, pin)
pinned_low sc facts place txn declared gathered admin pin found right e = by_proof (find (is_of admin) gathered) refl e
  where
    by_proof : (first : Option Verdict) → find (is_of admin) gathered ≡ first → option_map version_of first ≡ Some pin → IsPublished sc facts place (admin, pin)
    by_proof None f g = absurd (cc)
    by_proof (Some proof) f g =
        let low : proof.version.0 ≤ newest sc proof.admin place facts = (each_found (Right sc facts place txn) (is_of admin) gathered proof right f declared found).published in
        let same : proof.admin ≡ admin = same_ids proof.admin admin (found_passes (is_of admin) gathered proof f) in
        let version : proof.version ≡ pin = same_Some proof.version pin g in
        subst (λ (a : AdminId). pin.0 ≤ newest sc a place facts) same (subst (λ (v : Version). v.0 ≤ newest sc proof.admin place facts) version low)

pin_fits : (sc : Scenario) (facts : List Fact) (place : ℕ) (txn : TxnId) (declared : Transaction) (gathered : List Verdict) (admin : Option AdminId) → slice_get sc.txns txn.0 ≡ Some declared → Each (Right sc facts place txn) gathered
    → IfSome (option_and_then (pin_of gathered) admin) (λ (pin : Version). IfSome admin (λ (one : AdminId). IsPublished sc facts place (one, pin)))
pin_fits sc facts place txn declared gathered None found right = tt
pin_fits sc facts place txn declared gathered (Some admin) found right = by_pin (pin_of gathered admin) refl
  where
    by_pin : (pin : Option Version) → pin_of gathered admin ≡ pin → IfSome pin (λ (one : Version). IsPublished sc facts place (admin, one))
    by_pin None e = tt
    by_pin (Some pin) e = pinned_low sc facts place txn declared gathered admin pin found right e

-- so a query's staple and its pin fit
pub query_fits : (sc : Scenario) (facts : List Fact) (place : ℕ) (c : Coordinator) (declared : Transaction) (turn number : ℕ) (server : ServerId) (staple : Option Staple) → slice_get sc.txns c.txn.0 ≡ Some declared → Each (Right sc facts place c.txn) c.gathered
    → IfSome staple (StapleFits sc facts place c.txn) → QueryFits sc facts place (query_request sc c turn server number staple)
query_fits sc facts place c declared turn number server staple found right fits =
    record { stapled = fits; pinned = pin_fits sc facts place c.txn declared c.gathered (admin_asked sc c.txn number) found right }

-- ---- an awaited answer

-- an awaited answer of the present turn: the query that it is to, what it says, and what stood when that was asked
pub record IsAnswerTrusted (sc : Scenario) (facts : List Fact) (place : ℕ) (c : Coordinator) (done : DoneReply) (given : Answer) : Type 0 where
  pub own : c.txn ≡ done.txn
  pub staple : Option Staple
  pub querying : c.phase ≡ phase.Querying done.query staple
  pub declared : Transaction
  pub found : slice_get sc.txns c.txn.0 ≡ Some declared
  pub first : 1 ≤ done.query
  pub last : done.query ≤ length declared.queries
  pub says : AnswerFits sc facts place c.txn given
  pub now : AnswerNow sc c.gathered done.txn done.query staple given
  pub proves : is_some staple ≡ proves_each declared.scheme
  pub made_after : IfSome staple (λ (one : Staple). IsAbove one.place c.instances c.gathered)

-- the transaction of a query
pub query_declared : (sc : Scenario) (txn : TxnId) (number : ℕ) (asked : Query) → query_in sc txn number ≡ Some asked → (declared : Transaction) × (slice_get sc.txns txn.0 ≡ Some declared)
query_declared sc txn number asked e = found (slice_get sc.txns txn.0) refl e
  where
    found : (declared : Option Transaction) → slice_get sc.txns txn.0 ≡ declared → option_and_then (λ (t : Transaction). query_at t number) declared ≡ Some asked → (declared : Transaction) × (slice_get sc.txns txn.0 ≡ Some declared)
    found None f g = absurd (cc)
    found (Some declared) f g = (declared, f)

-- how many queries it has
pub counted_is : (sc : Scenario) (txn : TxnId) (declared : Transaction) → slice_get sc.txns txn.0 ≡ Some declared → query_count sc txn ≡ length declared.queries
counted_is sc txn declared found = ap (λ (d : Option Transaction). option_map_or (λ (t : Transaction). length t.queries) d 0) found

pub answer_trusted : (sc : Scenario) (facts : List Fact) (place : ℕ) (c : Coordinator) (mail : Mail) (done : DoneReply) (server : ServerId) (asked : Query) (given : Answer) → CoordinatorFits sc facts place c → IsHeard sc facts place c mail
    → IsAwaitedAnswer sc c mail done server asked given → IsAnswerTrusted sc facts place c done given
answer_trusted sc facts place c mail done server asked given h m k =
    let same : c.txn ≡ done.txn = sym (same_txn_from c.txn done.txn (subst (IsSoundBody sc (actor.Coordinator c.txn)) k.said_is m.sound).goes_to) in
    let querying = awaits_is c c.phase done k.awaited in
    let turn : done.turn ≡ c.turn = eqb-true done.turn c.turn (and_parts (done.turn == c.turn) (done.query == done.query) (subst (λ (awaited : Phase). awaits_query c awaited done ≡ true) querying.1 k.awaited)).0 in
    let fits : AnswerFits sc facts place done.txn done.answer = subst (BodyFits sc facts place mail.sent) k.said_is m.fits in
    let timely : IsTimely sc c mail.sent done.turn (body.Done done) = subst (PresentMail sc c mail.sent) k.said_is m.present (sym same) in
    let now : DoneNow sc c c.phase done = (timely (ap is_undecided querying.1)).now turn in
    let answered : IsAnswered sc c.gathered done.query querying.0 done = subst (λ (awaited : Phase). DoneNow sc c awaited done) querying.1 now in
    let there = query_declared sc c.txn done.query asked k.asked_is in
    let number = number_within sc c.txn done.query asked k.asked_is in
    record {
      own = same;
      staple = querying.0;
      querying = querying.1;
      declared = there.0;
      found = there.1;
      first = number.0;
      last = subst (λ (n : ℕ). done.query ≤ n) (counted_is sc c.txn there.0 there.1) number.1;
      says = subst (AnswerFits sc facts place c.txn) k.answer_is (subst (λ (txn : TxnId). AnswerFits sc facts place txn done.answer) (sym same) fits);
      now = subst (AnswerNow sc c.gathered done.txn done.query querying.0) k.answer_is answered.answer_is;
      proves = subst (Suits there.0.scheme (reads_master sc there.0)) querying.1 (h.suits there.0 there.1);
      made_after = subst (IsMadeAfter c.instances c.gathered) querying.1 h.made_after;
    }

-- ---- a query that ran

-- what holds where the transaction has passed a point of a query, with what it gained
pub record PassedStands (sc : Scenario) (facts : List Fact) (place : ℕ) (c : Coordinator) (now : Gained) (at : Point) (number : ℕ) : Type 0 where
  pub past : IsPast at number
  pub submitted : IsSubmitted facts c.txn
  pub declared : Transaction
  pub found : slice_get sc.txns c.txn.0 ≡ Some declared
  pub asked : Query
  pub asked_is : query_in sc c.txn number ≡ Some asked
  pub first : 1 ≤ number
  pub last : number ≤ query_count sc c.txn
  pub further : next_number number ≡ number + 1
  pub low : c.turn ≤ before_query number + asked_past at
  pub rises : next_turn c ≡ c.turn + 1
  pub undecided : is_undecided c.phase ≡ true
  pub so_far : IsSoFar sc facts place c.txn declared (closed_past declared.scheme (reads_master sc declared) at) (gathered_past declared.scheme number) now.instances now.gathered
  pub above : IsAbove place now.instances now.gathered
  pub new_after : AreNewAfter now.instances now.gathered

-- what a query that ran leaves, with its proof if it has one
record ProofKept (sc : Scenario) (facts : List Fact) (place : ℕ) (txn : TxnId) (declared : Transaction) (closed gathers : ℕ) (instances : List Instance) (gathered : List Verdict) : Type 0 where
  so_far : IsSoFar sc facts place txn declared closed gathers instances gathered
  above : IsAbove place instances gathered
  new_after : AreNewAfter instances gathered

pub nothing_new : (instances : List Instance) (gathered : List Verdict) → length gathered ≤ length instances → AreNewAfter instances gathered
nothing_new instances gathered low = by_drop (length instances) gathered low
  where
    by_drop : (many : ℕ) (proofs : List Verdict) → length proofs ≤ many → Each (λ (verdict : Verdict). Each (IsEarlierInstance verdict.place) instances) (drop many proofs)
    by_drop zero [] few = tt
    by_drop (suc many) [] few = tt
    by_drop zero (proof ∷ proofs) few = absurd (omega (arith, few))
    by_drop (suc many) (proof ∷ proofs) few = by_drop many proofs (omega (arith, few))

-- where nothing is gathered there is nothing new
pub none_new : (sc : Scenario) (facts : List Fact) (place : ℕ) (txn : TxnId) (declared : Transaction) (closed : ℕ) (instances : List Instance) (gathered : List Verdict) → IsSoFar sc facts place txn declared closed 0 instances gathered → AreNewAfter instances gathered
none_new sc facts place txn declared closed instances gathered h = let none : length gathered ≡ 0 = sym (length_numbers gathered) ∙ ap length h.numbers in nothing_new instances gathered (omega (arith, none))

drop_front : (proofs : List Verdict) (proof : Verdict) (many : ℕ) → length proofs ≡ many → drop many (proofs ++ proof ∷ []) ≡ proof ∷ []
drop_front [] proof zero e = refl
drop_front [] proof (suc many) e = absurd (omega (arith, e))
drop_front (first ∷ proofs) proof zero e = absurd (omega (arith, e))
drop_front (first ∷ proofs) proof (suc many) e = drop_front proofs proof many (omega (arith, e))

-- no proof is added where a query has none
unproved_kept : (sc : Scenario) (facts : List Fact) (place : ℕ) (c : Coordinator) (declared : Transaction) (number closed : ℕ) (staple : Option Staple) → closed_in declared.scheme (length declared.queries) (phase.Querying number staple) ≡ closed
    → gathered_in declared.scheme (length declared.queries) (phase.Querying number staple) ≡ 0 → IsAbove place c.instances c.gathered → IsSoFarIn sc facts place c.txn declared (phase.Querying number staple) c.instances c.gathered
    → ProofKept sc facts place c.txn declared closed 0 c.instances c.gathered
unproved_kept sc facts place c declared number closed staple as_many none above h =
    let kept = so_far_on sc facts place c.txn declared _ _ _ _ c.instances c.gathered as_many none h in
    record { so_far = kept; above = above; new_after = none_new sc facts place c.txn declared closed c.instances c.gathered kept }

-- a punctual transaction's proof is an instance of its own
own_kept : (sc : Scenario) (facts : List Fact) (place : ℕ) (c : Coordinator) (declared : Transaction) (number : ℕ) (staple : Staple) (verdict : Verdict) → declared.scheme ≡ scheme.Punctual → 1 ≤ number → number ≤ length declared.queries
    → slice_get sc.txns c.txn.0 ≡ Some declared → Right sc facts place c.txn verdict → RanNow c.gathered number (Some staple) (Some verdict) → IsAbove staple.place c.instances c.gathered → IsAbove place c.instances c.gathered
    → IsSoFarIn sc facts place c.txn declared (phase.Querying number (Some staple)) c.instances c.gathered → ProofKept sc facts place c.txn declared number 0 (with_own c.instances (Some verdict)) c.gathered
own_kept sc facts place c declared number staple verdict punctual low most found right now made above h =
    let queries = length declared.queries in
    let awaited = phase.Querying number (Some staple) in
    let before : closed_in declared.scheme queries awaited ≡ number - 1 = ap (λ (s : Scheme). closed_in s queries awaited) punctual in
    let none : gathered_in declared.scheme queries awaited ≡ 0 = ap (λ (s : Scheme). gathered_in s queries awaited) punctual in
    let this : number - 1 + 1 ≡ number = omega (arith, low) in
    let kept : IsSoFar sc facts place c.txn declared number 0 (c.instances ++ own_instance verdict ∷ []) c.gathered =
    so_far_on sc facts place c.txn declared _ _ _ _ (c.instances ++ own_instance verdict ∷ []) c.gathered this refl
    (own_closed sc facts place c.txn declared (number - 1) 0 c.instances c.gathered verdict punctual (omega (arith, low, most)) (now.on_query.query ∙ sym this) right now.has_rule
    (subst (λ (at : ℕ). IsAbove at c.instances c.gathered) (sym now.on_query.placed) made) (so_far_on sc facts place c.txn declared _ _ _ _ c.instances c.gathered before none h)) in
    record {
      so_far = kept;
      above = record {
        closed = each_append (IsEarlierInstance place) c.instances (own_instance verdict ∷ []) above.closed (record { proofs = ((right declared found).past, tt); reading = tt }, tt);
        gathered_before = above.gathered_before;
      };
      new_after = none_new sc facts place c.txn declared number (c.instances ++ own_instance verdict ∷ []) c.gathered kept;
    }

-- an incremental transaction's is gathered
record Gathers (sc : Scenario) (facts : List Fact) (place : ℕ) (c : Coordinator) (declared : Transaction) (number : ℕ) (gathered : List Verdict) : Type 0 where
  so_far : IsSoFar sc facts place c.txn declared (number - 1) number c.instances gathered
  above : IsAbove place c.instances gathered
  new_after : AreNewAfter c.instances gathered

gathers : (sc : Scenario) (facts : List Fact) (place : ℕ) (c : Coordinator) (declared : Transaction) (number : ℕ) (staple : Staple) (verdict : Verdict) → declared.scheme ≡ scheme.Incremental → 1 ≤ number → slice_get sc.txns c.txn.0 ≡ Some declared
    → Right sc facts place c.txn verdict → RanNow c.gathered number (Some staple) (Some verdict) → IsAbove staple.place c.instances c.gathered → IsAbove place c.instances c.gathered
    → IsSoFarIn sc facts place c.txn declared (phase.Querying number (Some staple)) c.instances c.gathered → Gathers sc facts place c declared number (c.gathered ++ verdict ∷ [])
gathers sc facts place c declared number staple verdict incremental low found right now made above h =
    let queries = length declared.queries in
    let awaited = phase.Querying number (Some staple) in
    let before : closed_in declared.scheme queries awaited ≡ number - 1 = ap (λ (s : Scheme). closed_in s queries awaited) incremental in
    let many : gathered_in declared.scheme queries awaited ≡ number - 1 = ap (λ (s : Scheme). gathered_in s queries awaited) incremental in
    let this : number - 1 + 1 ≡ number = omega (arith, low) in
    let kept = so_far_on sc facts place c.txn declared _ _ _ _ c.instances c.gathered before many h in
    let at : IsAbove verdict.place c.instances c.gathered = subst (λ (n : ℕ). IsAbove n c.instances c.gathered) (sym now.on_query.placed) made in
    let all : length c.gathered ≡ length c.instances = sym (length_numbers c.gathered) ∙ (ap length kept.numbers ∙ (length-range_with_len 1 (number - 1) ∙ sym kept.count)) in
    record {
      so_far = so_far_on sc facts place c.txn declared _ _ _ _ c.instances (c.gathered ++ verdict ∷ []) refl this
          (gathered_more sc facts place c.txn declared (number - 1) c.instances c.gathered verdict (now.on_query.query ∙ sym this) right now.has_rule at.gathered_before now.on_query.pinned kept);
      above = record { closed = above.closed; gathered_before = each_append (λ (proof : Verdict). proof.place < place) c.gathered (verdict ∷ []) above.gathered_before ((right declared found).past, tt) };
      new_after = subst (Each (λ (proof : Verdict). Each (IsEarlierInstance proof.place) c.instances)) (sym (drop_front c.gathered verdict (length c.instances) all)) (at.closed, tt);
    }

-- an instance without reading, where the master is not read
unread_agrees : (sc : Scenario) (facts : List Fact) (declared : Transaction) (gathered : List Verdict) → reads_master sc declared ≡ false → ArePinned gathered → is_consistent sc declared facts (record { reading = None; proofs = gathered }) ≡ true
unread_agrees sc facts declared gathered unread pins =
    and_from _ _ (pinned_agree gathered pins) (ap (λ (b : Bool). if b then meets_readings sc declared None facts gathered else true) unread)

unread_instances : (sc : Scenario) (facts : List Fact) (declared : Transaction) (number : ℕ) (instances : List Instance) → declared.scheme ≡ scheme.Incremental → reads_master sc declared ≡ false → are_instances sc facts declared number instances ≡ true
    → AreReadBefore instances None
unread_instances sc facts declared number [] incremental unread e = tt
unread_instances sc facts declared number (one ∷ instances) incremental unread e =
    let parts = and_parts (is_instance sc facts declared number one) (are_instances sc facts declared (number + 1) instances) e in
    let agrees = (and_parts (is_over (first_of declared.scheme (length declared.queries) number) (many_of declared.scheme (length declared.queries) number) one.proofs) _ parts.0).1 in
    let consistent : is_consistent sc declared facts one ≡ true = sym (ap (λ (s : Scheme). if agrees_at s (length declared.queries) number then is_consistent sc declared facts one else is_none one.reading) incremental) ∙ agrees in
    let none : is_none one.reading ≡ true = sym (ap (λ (b : Bool). if b then meets_readings sc declared one.reading facts one.proofs else is_none one.reading) unread) ∙ (and_parts (is_one_version one.proofs) _ consistent).1 in
    (never_later one.reading none, unread_instances sc facts declared (number + 1) instances incremental unread parts.1)
  where
    never_later : (reading : Option ℕ) → is_none reading ≡ true → reads_later reading None ≡ true
    never_later None e = refl
    never_later (Some read) e = absurd (cc)

-- by whether the master is read its instance waits for that, or is closed
all_kept : (sc : Scenario) (facts : List Fact) (place : ℕ) (c : Coordinator) (declared : Transaction) (number : ℕ) (verdict : Verdict) (reads : Bool) → declared.scheme ≡ scheme.Incremental → reads_master sc declared ≡ reads → 1 ≤ number
    → number ≤ length declared.queries → slice_get sc.txns c.txn.0 ≡ Some declared → Right sc facts place c.txn verdict → IsAbove place c.instances c.gathered → Gathers sc facts place c declared number (c.gathered ++ verdict ∷ [])
    → ProofKept sc facts place c.txn declared (closed_ran scheme.Incremental reads number) number (with_all reads c.instances c.gathered (Some verdict)) (c.gathered ++ verdict ∷ [])
all_kept sc facts place c declared number verdict true incremental reading low most found right above g = record { so_far = g.so_far; above = g.above; new_after = g.new_after }
all_kept sc facts place c declared number verdict false incremental unread low most found right above g =
    let gathered = c.gathered ++ verdict ∷ [] in
    let this : number - 1 + 1 ≡ number = omega (arith, low) in
    let back : number ≡ number - 1 + 1 = omega (arith, low) in
    let next : Instance = record { reading = None; proofs = gathered } in
    let kept : IsSoFar sc facts place c.txn declared number number (c.instances ++ next ∷ []) gathered =
    so_far_on sc facts place c.txn declared _ _ _ _ (c.instances ++ next ∷ []) gathered this this
    (front_closed sc facts place c.txn declared (number - 1) c.instances gathered None incremental (omega (arith, low, most)) (unread_agrees sc facts declared gathered unread g.so_far.pins) tt g.new_after
    (unread_instances sc facts declared 1 c.instances incremental unread g.so_far.demanded) (so_far_on sc facts place c.txn declared _ _ _ _ c.instances gathered refl back g.so_far)) in
    let many : length gathered ≡ length (c.instances ++ next ∷ []) = sym (length_numbers gathered) ∙ (ap length kept.numbers ∙ (length-range_with_len 1 number ∙ sym kept.count)) in
    record {
      so_far = kept;
      above = record { closed = each_append (IsEarlierInstance place) c.instances (next ∷ []) above.closed (record { proofs = g.above.gathered_before; reading = tt }, tt); gathered_before = g.above.gathered_before };
      new_after = nothing_new (c.instances ++ next ∷ []) gathered (omega (arith, many));
    }

-- a query ran: what its scheme makes of its proof
ran_kept : (sc : Scenario) (facts : List Fact) (place : ℕ) (c : Coordinator) (declared : Transaction) (number : ℕ) (staple : Option Staple) (proof : Option Verdict) (chosen : Scheme) → declared.scheme ≡ chosen
    → slice_get sc.txns c.txn.0 ≡ Some declared → 1 ≤ number → number ≤ length declared.queries → IfSome proof (Right sc facts place c.txn) → RanNow c.gathered number staple proof → is_some staple ≡ proves_each chosen
    → IfSome staple (λ (one : Staple). IsAbove one.place c.instances c.gathered) → IsAbove place c.instances c.gathered → IsSoFarIn sc facts place c.txn declared (phase.Querying number staple) c.instances c.gathered
    → ProofKept sc facts place c.txn declared (closed_ran chosen (reads_master sc declared) number) (gathered_past chosen number) (closed_by chosen (reads_master sc declared) c.instances c.gathered proof) (gathered_by chosen c.gathered proof)
ran_kept sc facts place c declared number None None scheme.Deferred is found low most right now proves made above h =
    unproved_kept sc facts place c declared number 0 None (ap (λ (s : Scheme). closed_in s (length declared.queries) (phase.Querying number None)) is) (ap (λ (s : Scheme). gathered_in s (length declared.queries) (phase.Querying number None)) is) above h
ran_kept sc facts place c declared number None None scheme.Continuous is found low most right now proves made above h =
    unproved_kept sc facts place c declared number (number - 1) None (ap (λ (s : Scheme). closed_in s (length declared.queries) (phase.Querying number None)) is) (ap (λ (s : Scheme). gathered_in s (length declared.queries) (phase.Querying number None)) is) above h
ran_kept sc facts place c declared number (Some staple) (Some verdict) scheme.Punctual is found low most right now proves made above h = own_kept sc facts place c declared number staple verdict is low most found right now made above h
ran_kept sc facts place c declared number (Some staple) (Some verdict) scheme.Incremental is found low most right now proves made above h =
    all_kept sc facts place c declared number verdict (reads_master sc declared) is refl low most found right above (gathers sc facts place c declared number staple verdict is low found right now made above h)
ran_kept sc facts place c declared number None (Some verdict) chosen is found low most right now proves made above h = let same = now.proved in absurd (cc)
ran_kept sc facts place c declared number (Some staple) None chosen is found low most right now proves made above h = let same = now.proved in absurd (cc)
ran_kept sc facts place c declared number None None scheme.Punctual is found low most right now proves made above h = absurd (cc)
ran_kept sc facts place c declared number None None scheme.Incremental is found low most right now proves made above h = absurd (cc)
ran_kept sc facts place c declared number (Some staple) (Some verdict) scheme.Deferred is found low most right now proves made above h = absurd (cc)
ran_kept sc facts place c declared number (Some staple) (Some verdict) scheme.Continuous is found low most right now proves made above h = absurd (cc)

-- the scheme of a coordinator's transaction, and whether it reads the master
scheme_is : (sc : Scenario) (c : Coordinator) (declared : Transaction) → slice_get sc.txns c.txn.0 ≡ Some declared → scheme_at sc c ≡ declared.scheme
scheme_is sc c declared found = ap (λ (d : Option Transaction). option_map_or (λ (txn : Transaction). txn.scheme) d scheme.Deferred) found

reads_is : (sc : Scenario) (c : Coordinator) (declared : Transaction) → slice_get sc.txns c.txn.0 ≡ Some declared → is_global (level_at sc c) ≡ reads_master sc declared
reads_is sc c declared found = ap (λ (d : Option Transaction). is_global (option_map_or (level_read sc) d level.View)) found ∙ read_level (reads_master sc declared)

pub ran_stands : (sc : Scenario) (facts : List Fact) (place : ℕ) (c : Coordinator) (mail : Mail) (done : DoneReply) (server : ServerId) (asked : Query) (value : ℤ) (proof : Option Verdict) → AreFew sc → HaveHomes sc → CoordinatorFits sc facts place c
    → IsHeard sc facts place c mail → IsRanAnswer sc c mail done server asked value proof → PassedStands sc facts place c (gains_deed sc c server done asked value proof) (point.Ran done.query) done.query
ran_stands sc facts place c mail done server asked value proof few homes h m k =
    let a : IsAnswerTrusted sc facts place c done (answer.Ran value proof) = answer_trusted sc facts place c mail done server asked (answer.Ran value proof) h m k in
    let number = number_within sc c.txn done.query asked k.asked_is in
    let low : c.turn ≤ before_query done.query + 2 = turn_low sc facts place c (phase.Querying done.query a.staple) h a.querying in
    let undecided : is_undecided c.phase ≡ true = ap is_undecided a.querying in
    let before : IsSoFarIn sc facts place c.txn a.declared (phase.Querying done.query a.staple) c.instances c.gathered =
    subst (λ (awaited : Phase). IsSoFarIn sc facts place c.txn a.declared awaited c.instances c.gathered) a.querying (h.so_far undecided a.declared a.found) in
    let reads = reads_master sc a.declared in
    let closed = closed_ran a.declared.scheme reads done.query in
    let gathers_so = gathered_past a.declared.scheme done.query in
    let kept : ProofKept sc facts place c.txn a.declared closed gathers_so (closed_by a.declared.scheme reads c.instances c.gathered proof) (gathered_by a.declared.scheme c.gathered proof) =
    ran_kept sc facts place c a.declared done.query a.staple proof a.declared.scheme refl a.found a.first a.last a.says a.now a.proves a.made_after (h.above undecided) before in
    let of_scheme : ProofKept sc facts place c.txn a.declared closed gathers_so (closed_by (scheme_at sc c) reads c.instances c.gathered proof) (gathered_by (scheme_at sc c) c.gathered proof) =
    subst (λ (s : Scheme). ProofKept sc facts place c.txn a.declared closed gathers_so (closed_by s reads c.instances c.gathered proof) (gathered_by s c.gathered proof)) (sym (scheme_is sc c a.declared a.found)) kept in
    let now : ProofKept sc facts place c.txn a.declared closed gathers_so (closed_by (scheme_at sc c) (is_global (level_at sc c)) c.instances c.gathered proof) (gathered_by (scheme_at sc c) c.gathered proof) =
    subst (λ (b : Bool). ProofKept sc facts place c.txn a.declared closed gathers_so (closed_by (scheme_at sc c) b c.instances c.gathered proof) (gathered_by (scheme_at sc c) c.gathered proof)) (sym (reads_is sc c a.declared a.found)) of_scheme in
    record {
      past = AfterRun done.query;
      submitted = (phase_fits sc facts place c (phase.Querying done.query a.staple) h a.querying).0;
      declared = a.declared;
      found = a.found;
      asked = asked;
      asked_is = k.asked_is;
      first = number.0;
      last = number.1;
      further = next_is sc c done.query asked homes k.asked_is;
      low = low;
      rises = turn_rises c (low_query (query_count sc c.txn) done.query 2 c.turn (few c.txn) (let last = number.1 in omega (arith, last)) (omega arith) low);
      undecided = undecided;
      so_far = now.so_far;
      above = now.above;
      new_after = now.new_after;
    }

-- ---- what follows

-- where a query begins after the point, or all are done with, as much is closed and gathered as before it
pub begun_so_far : (sc : Scenario) (facts : List Fact) (place : ℕ) (c : Coordinator) (now : Gained) (at : Point) (number : ℕ) → PassedStands sc facts place c now at number → move_at sc c at ≡ move.Following
    → AreSoFar sc facts place c.txn (phase.Stapling (number + 1)) now.instances now.gathered
begun_so_far sc facts place c now at number s moves declared found =
    let same : s.declared ≡ declared = same_Some s.declared declared (sym s.found ∙ found) in
    let queries = length s.declared.queries in
    let follows_on : table.next_move s.declared.scheme (reads_master sc s.declared) (row.query_count s.declared) at ≡ move.Following = sym (ap (λ (d : Option Transaction). option_map_or (move_of sc at) d move.Following) s.found) ∙ moves in
    subst (λ (t : Transaction). IsSoFarIn sc facts place c.txn t (phase.Stapling (number + 1)) now.instances now.gathered) same
    (so_far_on sc facts place c.txn s.declared _ _ _ _ now.instances now.gathered
    (past_as s.declared.scheme (reads_master sc s.declared) (row.query_count s.declared) queries number at s.past follows_on) (gathered_before_next s.declared.scheme queries number) s.so_far)

-- the turn of a request that follows is new, and within its bound
pub next_low : (count number asked turn : ℕ) → 1 ≤ number → number ≤ count → asked ≤ 53 → turn ≤ before_query number + asked → turn + 1 ≤ until_round count 1 1
next_low count number asked turn first last few low = omega (arith, first, last, few, low)

staple_low : (number asked turn : ℕ) → 1 ≤ number → asked ≤ 53 → turn ≤ before_query number + asked → turn + 1 ≤ before_query (number + 1) + 1
staple_low number asked turn first few low = omega (arith, first, few, low)

query_low : (number asked turn : ℕ) → 1 ≤ number → asked ≤ 53 → turn ≤ before_query number + asked → turn + 1 ≤ before_query (number + 1) + 2
query_low number asked turn first few low = omega (arith, first, few, low)

-- a further query is sent at once
pub sends_trusts : (sc : Scenario) (facts : List Fact) (place : ℕ) (c : Coordinator) (now : Gained) (at : Point) (number : ℕ) (next : ServerId) → PassedStands sc facts place c now at number → move_at sc c at ≡ move.Following
    → move_at sc c (point.Begun (next_number number)) ≡ move.SendQuery → RowTrusts sc facts place c (sends_query sc (with_gained c now) (next_number number) None next)
sends_trusts sc facts place c now at number next s follows_on moves =
    let awaited = phase.Querying (next_number number) None in
    let so_far : AreSoFar sc facts place c.txn awaited now.instances now.gathered =
    moved_on sc facts place c.txn (phase.Stapling (number + 1)) awaited now.instances now.gathered (λ queries. ap (λ (n : ℕ). n - 1) (sym s.further)) (λ queries. ap (λ (n : ℕ). n - 1) (sym s.further)) (begun_so_far sc facts place c now at number s follows_on) in
    let low : c.turn + 1 ≤ before_query (number + 1) + 2 = query_low number (asked_past at) c.turn s.first (asked_few at) s.low in
    record {
      fits = record {
        awaits = (s.submitted, tt);
        suits = λ declared found. sym (unproved sc c declared (next_number number) found moves);
        so_far = λ unsure. so_far;
        above = λ unsure. s.above;
        made_after = tt;
        turn = subst (λ (n : ℕ). n ≤ before_query (next_number number) + 2) (sym s.rises) (subst (λ (n : ℕ). c.turn + 1 ≤ before_query n + 2) (sym s.further) low);
      };
      decides = tt;
      says = λ sent. (query_fits sc facts place (with_gained c now) s.declared (next_turn c) (next_number number) next None s.found s.so_far.right tt, tt);
      timely = λ sent. (record { own = refl; timely = λ unsure. record { past = omega arith; now = λ same. record { query = refl; staple_is = refl; pin_is = refl } } }, tt);
      old = λ sent turn said t. raised sc c (sends_query sc (with_gained c now) (next_number number) None next).state sent turn said s.undecided s.rises t;
    }

-- or the authority is asked before it
pub asks_trusts : (sc : Scenario) (facts : List Fact) (place : ℕ) (c : Coordinator) (now : Gained) (at : Point) (number : ℕ) → PassedStands sc facts place c now at number → move_at sc c at ≡ move.Following
    → move_at sc c (point.Begun (next_number number)) ≡ move.Ask → RowTrusts sc facts place c (asks_in (with_gained c now) (phase.Stapling (next_number number)))
asks_trusts sc facts place c now at number s follows_on moves =
    let awaited = phase.Stapling (next_number number) in
    let low : c.turn + 1 ≤ before_query (number + 1) + 1 = staple_low number (asked_past at) c.turn s.first (asked_few at) s.low in
    record {
      fits = record {
        awaits = s.submitted;
        suits = λ declared found. proved sc c declared (next_number number) found moves;
        so_far = λ unsure. subst (λ (n : ℕ). AreSoFar sc facts place c.txn (phase.Stapling n) now.instances now.gathered) (sym s.further) (begun_so_far sc facts place c now at number s follows_on);
        above = λ unsure. s.above;
        made_after = tt;
        turn = subst (λ (n : ℕ). n ≤ before_query (next_number number) + 1) (sym s.rises) (subst (λ (n : ℕ). c.turn + 1 ≤ before_query n + 1) (sym s.further) low);
      };
      decides = tt;
      says = λ sent. (s.submitted, tt);
      timely = λ sent. (record { own = refl; timely = λ unsure. record { past = omega arith; now = λ same. tt } }, tt);
      old = λ sent turn said t. raised sc c (asks_in (with_gained c now) awaited).state sent turn said s.undecided s.rises t;
    }

-- the authority's answer, which came after all that is closed, goes with the query
pub stapled_trusts : (sc : Scenario) (facts : List Fact) (place : ℕ) (c : Coordinator) (number : ℕ) (staple : Staple) (home : ServerId) → AreFew sc → CoordinatorFits sc facts place c → c.phase ≡ phase.Stapling number
    → home_of sc c number ≡ Some home → StapleFits sc facts place c.txn staple → IsAbove staple.place c.instances c.gathered → RowTrusts sc facts place c (sends_query sc c number (Some staple) home)
stapled_trusts sc facts place c number staple home few h e at fits made =
    let awaited = phase.Querying number (Some staple) in
    let there = home_is sc c number home at in
    let within = number_within sc c.txn number there.asked there.asked_is in
    let declared = query_declared sc c.txn number there.asked there.asked_is in
    let low : c.turn ≤ before_query number + 1 = turn_low sc facts place c (phase.Stapling number) h e in
    let rises : next_turn c ≡ c.turn + 1 = turn_rises c (low_query (query_count sc c.txn) number 1 c.turn (few c.txn) (let last = within.1 in omega (arith, last)) (omega arith) low) in
    let undecided : is_undecided c.phase ≡ true = ap is_undecided e in
    let so_far : AreSoFar sc facts place c.txn awaited c.instances c.gathered =
    moved_on sc facts place c.txn (phase.Stapling number) awaited c.instances c.gathered (λ queries. refl) (λ queries. refl)
    (subst (λ (p : Phase). AreSoFar sc facts place c.txn p c.instances c.gathered) e (h.so_far undecided)) in
    record {
      fits = record {
        awaits = (phase_fits sc facts place c (phase.Stapling number) h e, fits);
        suits = λ other found. sym (subst (Suits other.scheme (reads_master sc other)) e (h.suits other found));
        so_far = λ unsure. so_far;
        above = λ unsure. h.above undecided;
        made_after = made;
        turn = omega (arith, rises, low);
      };
      decides = tt;
      says = λ sent. (query_fits sc facts place c declared.0 (next_turn c) number home (Some staple) declared.1 (so_far declared.0 declared.1).right fits, tt);
      timely = λ sent. (record { own = refl; timely = λ unsure. record { past = omega arith; now = λ same. record { query = refl; staple_is = refl; pin_is = refl } } }, tt);
      old = λ sent turn said t. raised sc c (sends_query sc c number (Some staple) home).state sent turn said undecided rises t;
    }

-- ---- the first round

-- a first round fits
round_of_fits : (sc : Scenario) (facts : List Fact) (place : ℕ) (c : Coordinator) (over : Span) (declared : Transaction) (servers : List ServerId) → HaveHomes sc → IsValid sc → slice_get sc.txns c.txn.0 ≡ Some declared → servers_over sc c.txn over ≡ servers
    → RoundFits sc facts place c.txn over (round_of sc c servers)
round_of_fits sc facts place c over declared servers homes valid found own =
    subst (λ (d : Option Transaction). RoundFits sc facts place c.txn over (first_round servers (option_map_or (most_rounds sc) d view_rounds) (replicate admins_limit (option_map_or (level_read sc) d level.View)) (is_global (option_map_or (level_read sc) d level.View)))) (sym found)
    (subst (λ (these : List ServerId). RoundFits sc facts place c.txn over (first_round these (most_rounds sc declared) (replicate admins_limit (level_read sc declared)) (is_global (level_read sc declared)))) own
    (round_begins sc facts place c.txn over declared homes valid found))

new_kept : (instances : List Instance) (gathered : List Verdict) (servers : List ServerId) → Each (λ (target : Target). AreAbove instances gathered (verdicts_in target)) (map new_target servers)
new_kept instances gathered [] = tt
new_kept instances gathered (server ∷ servers) = (tt, new_kept instances gathered servers)

-- where no query is left, the last one ran
pub all_asked : (sc : Scenario) (c : Coordinator) (declared : Transaction) (number : ℕ) → slice_get sc.txns c.txn.0 ≡ Some declared → own_query sc c (number + 1) ≡ None → length declared.queries ≤ number
all_asked sc c declared number found none =
    let absent : query_at declared (number + 1) ≡ None = sym (ap (λ (d : Option Transaction). option_and_then (λ (t : Transaction). query_at t (number + 1)) d) found) ∙ none in
    let next : number + 1 ≡ suc number = omega arith in
    ⊎_elim (λ (less : number < length declared.queries). absurd (missing declared.queries number less (sym (ap (query_at declared) next) ∙ absent))) (λ (all : length declared.queries ≤ number). all) (cases_lt number (length declared.queries))

-- after all queries the authority is asked before the first round
pub brings_trusts : (sc : Scenario) (facts : List Fact) (place : ℕ) (c : Coordinator) (now : Gained) (at : Point) (number : ℕ) → HaveHomes sc → IsValid sc → c.servers ≡ servers_at sc c.txn → PassedStands sc facts place c now at number
    → move_at sc c at ≡ move.Following → own_query sc c (number + 1) ≡ None → ((declared : Transaction) → slice_get sc.txns c.txn.0 ≡ Some declared → is_incremental declared.scheme ≡ false)
    → RowTrusts sc facts place c (asks (with_gained c now) span.Commit (commit_round sc c))
brings_trusts sc facts place c now at number homes valid own s follows_on none evaluates_it =
    let round = commit_round sc c in
    let awaited = phase.Asking span.Commit round in
    let all : length s.declared.queries ≤ number = all_asked sc c s.declared number s.found none in
    let most : number ≤ length s.declared.queries = subst (λ (n : ℕ). number ≤ n) (counted_is sc c.txn s.declared s.found) s.last in
    let closed : number + 1 - 1 ≡ length s.declared.queries = omega (arith, all, most) in
    let so_far = begun_so_far sc facts place c now at number s follows_on in
    let stays_closed : (declared : Transaction) → slice_get sc.txns c.txn.0 ≡ Some declared → number + 1 - 1 ≡ length declared.queries =
    λ declared found. closed ∙ ap (λ (t : Transaction). length t.queries) (same_Some s.declared declared (sym s.found ∙ found)) in
    record {
      fits = record {
        awaits = (s.submitted, round_of_fits sc facts place c span.Commit s.declared c.servers homes valid s.found (all_servers sc c.txn ∙ sym own));
        suits = evaluates_it;
        so_far = λ unsure declared found.
            let queries = length declared.queries in
            so_far_on sc facts place c.txn declared _ _ _ _ now.instances now.gathered (closed_as declared.scheme queries (phase.Stapling (number + 1)) awaited (stays_closed declared found))
            (none_gathered declared.scheme queries (phase.Stapling (number + 1)) (evaluates_it declared found) ∙ sym (none_gathered declared.scheme queries awaited (evaluates_it declared found))) (so_far declared found);
        above = λ unsure. s.above;
        made_after = new_kept now.instances now.gathered c.servers;
        turn = subst (λ (n : ℕ). n ≤ until_round (query_count sc c.txn) 1 1) (sym s.rises) (next_low (query_count sc c.txn) number (asked_past at) c.turn s.first s.last (asked_few at) s.low);
      };
      decides = tt;
      says = λ sent. (s.submitted, tt);
      timely = λ sent. (record { own = refl; timely = λ unsure. record { past = omega arith; now = λ same. tt } }, tt);
      old = λ sent turn said t. raised sc c (asks (with_gained c now) span.Commit round).state sent turn said s.undecided s.rises t;
    }

-- after a query of a continuous transaction before a round over the queries so far
pub validates_trusts : (sc : Scenario) (facts : List Fact) (place : ℕ) (c : Coordinator) (now : Gained) (number : ℕ) → HaveHomes sc → IsValid sc → servers_over sc c.txn (span.Validate number) ≡ servers_upto sc c number
    → PassedStands sc facts place c now (point.Ran number) number → ((declared : Transaction) → slice_get sc.txns c.txn.0 ≡ Some declared → declared.scheme ≡ scheme.Continuous)
    → RowTrusts sc facts place c (asks (with_gained c now) (span.Validate number) (validation_round sc c number))
validates_trusts sc facts place c now number homes valid own s continuous =
    let round = validation_round sc c number in
    let awaited = phase.Asking (span.Validate number) round in
    let low = s.low in
    let rises = s.rises in
    record {
      fits = record {
        awaits = (s.submitted, round_of_fits sc facts place c (span.Validate number) s.declared (servers_upto sc c number) homes valid s.found own);
        suits = continuous;
        so_far = λ unsure declared found.
            let same : s.declared ≡ declared = same_Some s.declared declared (sym s.found ∙ found) in
            let queries = length s.declared.queries in
            subst (λ (t : Transaction). IsSoFarIn sc facts place c.txn t awaited now.instances now.gathered) same
            (so_far_on sc facts place c.txn s.declared _ _ _ _ now.instances now.gathered (closed_validating s.declared.scheme queries number (reads_master sc s.declared) round (continuous s.declared s.found))
            (gathered_validating s.declared.scheme queries number (span.Validate number) round (continuous s.declared s.found)) s.so_far);
        above = λ unsure. s.above;
        made_after = new_kept now.instances now.gathered (servers_upto sc c number);
        turn = omega (arith, rises, low);
      };
      decides = tt;
      says = λ sent. (s.submitted, tt);
      timely = λ sent. (record { own = refl; timely = λ unsure. record { past = omega arith; now = λ same. tt } }, tt);
      old = λ sent turn said t. raised sc c (asks (with_gained c now) (span.Validate number) round).state sent turn said s.undecided s.rises t;
    }

-- ---- without a round

-- the master is asked for what an incremental transaction has gathered
pub probes_trusts : (sc : Scenario) (facts : List Fact) (place : ℕ) (c : Coordinator) (now : Gained) (number : ℕ) → PassedStands sc facts place c now (point.Ran number) number
    → ((declared : Transaction) → slice_get sc.txns c.txn.0 ≡ Some declared → IsProbed declared.scheme (reads_master sc declared)) → RowTrusts sc facts place c (probes (with_gained c now) (phase.Probing number))
probes_trusts sc facts place c now number s probed =
    let awaited = phase.Probing number in
    let low = s.low in
    let rises = s.rises in
    record {
      fits = record {
        awaits = s.submitted;
        suits = probed;
        so_far = λ unsure declared found.
            let same : s.declared ≡ declared = same_Some s.declared declared (sym s.found ∙ found) in
            let queries = length s.declared.queries in
            let is = probed s.declared s.found in
            subst (λ (t : Transaction). IsSoFarIn sc facts place c.txn t awaited now.instances now.gathered) same
            (so_far_on sc facts place c.txn s.declared _ _ _ _ now.instances now.gathered (closed_probing s.declared.scheme queries number (reads_master sc s.declared) is) (gathered_probing s.declared.scheme queries number is.incremental) s.so_far);
        above = λ unsure. s.above;
        made_after = s.new_after;
        turn = omega (arith, rises, low);
      };
      decides = tt;
      says = λ sent. (s.submitted, tt);
      timely = λ sent. (record { own = refl; timely = λ unsure. record { past = omega arith; now = λ same. tt } }, tt);
      old = λ sent turn said t. raised sc c (probes (with_gained c now) awaited).state sent turn said s.undecided s.rises t;
    }
