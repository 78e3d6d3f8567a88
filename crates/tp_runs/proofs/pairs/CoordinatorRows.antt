-- Deeds and epochs, the coordinator's rows: each is an event at every server, as the coordinator's transaction is seen there.
use Rattle.std.specs.List.{list_any}
use Rattle.std.specs.Option.{option_flatten, option_map_or}
use Rattle.std.proofs.Common.{Bool, IfSome, List, None, Option, Some, [], ap, arith, false, if◌then◌else◌, inl, is_some, length, map, option_and_then, option_map, refl, slice_get, slice_set, subst, suc, sym, true, zero, ℕ, ℤ, ◌++◌, ◌+◌, ◌<◌, ◌==◌, ◌||◌, ◌∙◌, ◌∷◌, ◌≡◌, ◌≤◌, ◌⊎◌}
use Rattle.std.proofs.lemmas.Bool.{and_parts, eq-eqb, eqb-true}
use Rattle.std.proofs.lemmas.List.{length_push}
use Rattle.std.proofs.lemmas.Option.{same_Some, slice_get_within}
use Rattle.tp_types.proofs.ListLemmas.{number_itself}
use Rattle.tp_types.specs.Effect.{Effect, ignores}
use Rattle.tp_model.specs.Agreement.{has_item}
use Rattle.tp_model.specs.Queries.{is_at_server, item_of, query_at}
use Rattle.tp_model.specs.Limits.{is_empty}
use Rattle.tp_model.specs.Words.actor
use Rattle.tp_model.specs.Words.body
use Rattle.tp_model.specs.Words.outcome
use Rattle.tp_model.specs.Words.{Actor, AdminId, Body, Deed, DoneReply, Instance, Item, Letter, Mail, Outcome, PrepareRequest, Query, QueryRequest, Reading, Scenario, ServerId, Staple, Transaction, TxnId, ValidateRequest, Verdict, Version}
use Rattle.tp_runs.proofs.agreement.Coordinator.{HaveItems, HoldsItem, idle_is, servers_at_have_items}
use Rattle.tp_runs.proofs.basics.Homes.{HaveHomes, IsHome, begins_of_query, home_is, is_beginning, is_ending, is_of_query, is_past, is_probed, is_voted, probed_there, validated_ran}
use Rattle.tp_runs.proofs.basics.Passed.{judged_stands, judged_undecided, passed_past, passed_undecided, query_stands, reply_checking}
use Rattle.tp_types.proofs.EachLemmas.{each_as, each_get, set_here}
use Rattle.tp_runs.proofs.basics.Phases.{Asks, Pauses, Prepares, Stand, awaits_is, is_undecided, sent_to_server, stand_of, stand_over}
use Rattle.tp_runs.proofs.epochs.Coordinator.{ran_of_query, some_is}
use Rattle.tp_runs.proofs.epochs.Kept.{KeepsEpoch, PhaseKept, from_server, kept_epoch, none_left}
use Rattle.tp_runs.proofs.ids.Valid.{IsValid, IsValidItem}
use Rattle.tp_runs.proofs.pairs.Actors.{asker_in, asker_of, asker_up, site_of}
use Rattle.tp_runs.proofs.pairs.Answered.{Taken, answered, elsewhere, next_deed, taken, takes}
use Rattle.tp_runs.proofs.pairs.Fits.{AnswerFits, AskerFits, DoneFits, Fits, Names, NamesIfAny, PrepareFits, QueryFits, RanFits, ValidateFits, VerdictsFits}
use Rattle.tp_runs.proofs.pairs.Follows.{Next, next_both, next_same}
use Rattle.tp_runs.proofs.pairs.Letters.{asks, late_epoch, prepares, validates}
use Rattle.tp_runs.proofs.basics.Found.{of_some}
use Rattle.tp_runs.proofs.pairs.Moves.{ends, moved, moves, with_asker}
use Rattle.tp_runs.proofs.pairs.Pair.{Asker, Pair}
use Rattle.tp_runs.proofs.pairs.Site.{Site, count, here, one_home}
use Rattle.tp_runs.proofs.basics.Folds.{set_elsewhere}
use Rattle.tp_runs.proofs.deeds.Runs.{deed_asked, deed_at}
use Rattle.tp_runs.proofs.basics.Turns.{turn_rises}
use Rattle.tp_scheme.specs.declared.moves.Move.TheVariants as move
use Rattle.tp_scheme.specs.declared.moves.Point.TheVariants as point
use Rattle.tp_scheme.specs.declared.moves.Move.{Move}
use Rattle.tp_scheme.specs.declared.moves.Point.{Point}
use Rattle.tp_coord.proofs.Rows.{AfterQuery, AfterVotes, AllTrue, AllVoted, ByReading, ByReplies, Gained, IsJudged, IsPassed, IsProbing, IsRanAnswer, ProofsRead, QueryRan, coordinator_by, gains_deed, gains_instances, submit_by, timer_by, with_gained}
use Rattle.tp_machine.specs.Machine.{with_age}
use Rattle.tp_model.specs.Deeds.{deed_of}
use Rattle.tp_types.specs.Each.{Each}
use Rattle.tp_coord.specs.Sums.{asked_value}
use Rattle.tp_coord.specs.Row as coord
use Rattle.tp_coord.specs.Opened.{servers_at}
use Rattle.tp_coord.specs.Row.{awaits_query, next_at, next_number, next_turn, number_at, own_query, server_of}
use Rattle.tp_coord.specs.State.{Coordinator}
use Rattle.tp_coord.specs.declared.coordinator.Phase.TheVariants as phase
use Rattle.tp_coord.specs.declared.coordinator.Phase.{Phase}
use Rattle.tp_coord.specs.declared.coordinator.Span.TheVariants as span
use Rattle.tp_coord.specs.declared.coordinator.Span.{Span}
use Rattle.tp_runs.proofs.basics.Rounds.{EachServer, each_missing, missing_in}
use Rattle.tp_round.specs.Judge.{after_judgement, after_reply}
use Rattle.tp_round.specs.declared.round.Round.{Round}

-- ---- an act

-- a round over the queries so far is over those that have a deed
abbrev pub SpanNumbered : Span → List Deed → Type 0
SpanNumbered (span.Validate number) deeds = number ≡ length deeds
SpanNumbered span.Commit deeds = Unit {0}

-- the query that is awaited is the next one, and the one that ran last has the last deed; before the submission there is no deed
abbrev pub PhaseNumbered : Phase → List Deed → Type 0
PhaseNumbered phase.Idle deeds = deeds ≡ []
PhaseNumbered (phase.Stapling number) deeds = number ≡ length deeds + 1
PhaseNumbered (phase.Querying number staple) deeds = number ≡ length deeds + 1
PhaseNumbered (phase.Probing number) deeds = number ≡ length deeds
PhaseNumbered (phase.Asking over round) deeds = SpanNumbered over deeds
PhaseNumbered (phase.Checking over round staple) deeds = SpanNumbered over deeds
PhaseNumbered (phase.Reading over round) deeds = SpanNumbered over deeds
PhaseNumbered _ deeds = Unit {0}

abbrev pub QueryTo : Scenario → Transaction → TxnId → (ℕ → Pair) → Actor → QueryRequest → Type 0
QueryTo sc declared txn Q (actor.Server at) q = (q.txn ≡ txn) × QueryFits (site_of sc at.0 declared) (Q at.0) q
QueryTo sc declared txn Q _ q = Unit {0}

abbrev pub PrepareTo : Scenario → Transaction → TxnId → (ℕ → Pair) → Actor → PrepareRequest → Type 0
PrepareTo sc declared txn Q (actor.Server at) r = (r.txn ≡ txn) × PrepareFits (site_of sc at.0 declared) (Q at.0) r
PrepareTo sc declared txn Q _ r = Unit {0}

abbrev pub ValidateTo : Scenario → Transaction → TxnId → (ℕ → Pair) → Actor → ValidateRequest → Type 0
ValidateTo sc declared txn Q (actor.Server at) v = (v.txn ≡ txn) × ValidateFits (site_of sc at.0 declared) (Q at.0) v
ValidateTo sc declared txn Q _ v = Unit {0}

-- what a coordinator requests of its transaction; it answers nothing
abbrev pub AskPairs : Scenario → Transaction → TxnId → (ℕ → Pair) → Actor → Body → Type 0
AskPairs sc declared txn Q to (body.Query q) = QueryTo sc declared txn Q to q
AskPairs sc declared txn Q to (body.Prepare r) = PrepareTo sc declared txn Q to r
AskPairs sc declared txn Q to (body.Validate v) = ValidateTo sc declared txn Q to v
AskPairs sc declared txn Q to (body.Done done) = ⊥
AskPairs sc declared txn Q to (body.Vote reply) = ⊥
AskPairs sc declared txn Q to (body.Verdicts reply) = ⊥
AskPairs sc declared txn Q to _ = Unit {0}

-- an act of a coordinator that is up or down after it: its transaction goes on by events at each server, and requests say so
pub record CoordinatorActsPairs (sc : Scenario) (declared : Transaction) (txn : TxnId) (P : ℕ → Pair) (now : Option Coordinator) (letters : List Letter) : Type 0 where
  pub next : (at : ℕ) → Next (site_of sc at declared) (P at) (with_asker (P at) (asker_in at now))
  pub numbered : IfSome now (λ (c : Coordinator). PhaseNumbered c.phase c.deeds)
  pub requests : Each (λ (letter : Letter). AskPairs sc declared txn (λ at. with_asker (P at) (asker_in at now)) letter.to letter.body) letters

-- that of a row, of a coordinator that is up before and after it
abbrev pub RowAsks : Scenario → Transaction → (ℕ → Pair) → Effect Coordinator → Type 0
RowAsks sc declared P effect = CoordinatorActsPairs sc declared effect.state.txn P (Some effect.state) effect.reaction.letters

-- what a round at commit wants of a server, if it wants anything, names all administrators there
abbrev pub NamesAt : Scenario → Transaction → Round → ServerId → Type 0
NamesAt sc declared round at = (is_empty (coord.want_for round at) ≡ true) ⊎ Names (site_of sc at.0 declared) (coord.want_for round at)

-- and what a round over the queries up to one wants of it, those of these queries
abbrev pub NamesOver : Scenario → Transaction → Span → Round → ServerId → Type 0
NamesOver sc declared (span.Validate number) round at = NamesIfAny (site_of sc at.0 declared) number (coord.want_for round at)
NamesOver sc declared span.Commit round at = NamesAt sc declared round at

-- a round before which the authority is asked, or whose replies are awaited
abbrev pub PhaseNames : Scenario → Transaction → Phase → Type 0
PhaseNames sc declared (phase.Asking over round) = Each (NamesOver sc declared over round) (missing_in round.targets)
PhaseNames sc declared (phase.Checking over round staple) = Each (NamesOver sc declared over round) (missing_in round.targets)
PhaseNames sc declared _ = Unit {0}

-- a coordinator before its row
pub record CoordinatorPaired (sc : Scenario) (declared : Transaction) (P : ℕ → Pair) (c : Coordinator) : Type 0 where
  pub declared_is : slice_get sc.txns c.txn.0 ≡ Some declared
  pub fits : (at : ℕ) → Fits (site_of sc at declared) (P at)
  pub asker_is : (at : ℕ) → (P at).asker ≡ asker_up at c
  pub numbered : PhaseNumbered c.phase c.deeds
  pub low : c.turn ≤ 1000
  pub places : length c.epochs ≡ length sc.servers
  pub servers : c.servers ≡ servers_at sc c.txn
  pub keeps : is_undecided c.phase ≡ true → PhaseKept (KeepsEpoch c) c.phase
  pub names : PhaseNames sc declared c.phase

-- ---- the asker

pub undecided_asker : (at : ℕ) (c : Coordinator) → is_undecided c.phase ≡ true → asker_up at c ≡ Some (asker_of at c)
undecided_asker at c e = ap (λ (b : Bool). if b then Some (asker_of at c) else None) e

asker_there : (sc : Scenario) (declared : Transaction) (P : ℕ → Pair) (c : Coordinator) (at : ℕ) → CoordinatorPaired sc declared P c → is_undecided c.phase ≡ true → (P at).asker ≡ Some (asker_of at c)
asker_there sc declared P c at h e = h.asker_is at ∙ undecided_asker at c e

-- a coordinator that is seen as before
still_asks : (sc : Scenario) (declared : Transaction) (P : ℕ → Pair) (c now : Coordinator) (at : ℕ) → CoordinatorPaired sc declared P c → asker_up at now ≡ asker_up at c
    → Next (site_of sc at declared) (P at) (with_asker (P at) (asker_up at now))
still_asks sc declared P c now at h same =
    subst (λ (o : Option Asker). Next (site_of sc at declared) (P at) (with_asker (P at) o)) (h.asker_is at ∙ sym same) (next_same (site_of sc at declared) (P at) (h.fits at))

-- so is one that awaits something else in the same turn, and stands as before
same_asker : (at : ℕ) (c : Coordinator) (next : Phase) → is_undecided c.phase ≡ true → is_undecided next ≡ true → stand_of next ≡ stand_of c.phase → asker_up at (record c { phase = next }) ≡ asker_up at c
same_asker at c next undecided still same =
    undecided_asker at (record c { phase = next }) still
    ∙ (ap (λ (s : Stand). Some (record { stand = s; turn = c.turn; epoch = option_flatten (slice_get c.epochs at); deeds = c.deeds })) same ∙ sym (undecided_asker at c undecided))

ignores_asks : (sc : Scenario) (declared : Transaction) (P : ℕ → Pair) (c : Coordinator) → CoordinatorPaired sc declared P c → RowAsks sc declared P (ignores c)
ignores_asks sc declared P c h = record { next = λ at. still_asks sc declared P c c at h refl; numbered = h.numbered; requests = tt }

-- ---- Submit

-- a query of a coordinator's transaction
query_declared : (sc : Scenario) (c : Coordinator) (declared : Transaction) (number : ℕ) (asked : Query) → slice_get sc.txns c.txn.0 ≡ Some declared → own_query sc c number ≡ Some asked → query_at declared number ≡ Some asked
query_declared sc c declared number asked e f = sym (ap (λ (found : Option Transaction). option_and_then (λ (d : Transaction). query_at d number) found) e) ∙ f

-- it is at its server
query_here_in_pairs : (sc : Scenario) (declared : Transaction) (number : ℕ) (asked : Query) (server : ServerId) → query_at declared number ≡ Some asked → server_of sc asked ≡ Some server → here (site_of sc server.0 declared) number ≡ true
query_here_in_pairs sc declared number asked server e f =
    ap (λ (found : Option Query). option_map_or (is_at_server sc server.0) found false) e ∙ (sent_to_server sc asked server server.0 f ∙ number_itself server.0)

-- a coordinator that asks in this turn, as the server of this number sees it
abbrev asking_of : ℕ → Coordinator → ℕ → Asker
asking_of at c turn = record { stand = Asks; turn = turn; epoch = option_flatten (slice_get c.epochs at); deeds = c.deeds }

-- a coordinator that asks its next query, the first time or again
query_requested : (sc : Scenario) (declared : Transaction) (p : Pair) (c : Coordinator) (turn number : ℕ) (staple : Option Staple) (server : ServerId) → slice_get sc.txns c.txn.0 ≡ Some declared → Fits (site_of sc server.0 declared) p
    → p.asker ≡ Some (asking_of server.0 c turn) → number ≡ length c.deeds + 1 → IsHome sc c number server → QueryFits (site_of sc server.0 declared) p (coord.query_request sc c turn server number staple)
query_requested sc declared p c turn number staple server declared_is fits is number_is home =
    let asked_is : query_at declared number ≡ Some home.asked = query_declared sc c declared number home.asked declared_is home.asked_is in
    asks (site_of sc server.0 declared) p (asking_of server.0 c turn) (coord.query_request sc c turn server number staple) is fits refl
    (subst (λ (n : ℕ). here (site_of sc server.0 declared) n ≡ true) number_is (query_here_in_pairs sc declared number home.asked server asked_is home.server_is))
    (record {
      turn = refl;
      number = number_is;
      epoch = refl;
      value = ap (option_and_then (λ (d : Transaction). asked_value d c.deeds number)) declared_is ∙ ap (λ (n : ℕ). asked_value declared c.deeds n) number_is;
    })

-- a coordinator that moves on by itself, in a further turn: it awaits no answer; it asks while queries are left, and prepares once all have run, for good
stands_on : (sc : Scenario) (declared : Transaction) (P : ℕ → Pair) (c next : Coordinator) (stand : Stand) → CoordinatorPaired sc declared P c → is_undecided c.phase ≡ true → (stand_of c.phase ≡ Asks → ⊥)
    → (stand_of c.phase ≡ Prepares → stand ≡ Prepares) → (stand ≡ Asks → length c.deeds < length declared.queries) → (stand ≡ Prepares → length c.deeds ≡ length declared.queries)
    → ((at : ℕ) → asker_up at next ≡ Some (record { stand = stand; turn = next_turn c; epoch = option_flatten (slice_get c.epochs at); deeds = c.deeds }))
    → (at : ℕ) → Next (site_of sc at declared) (P at) (with_asker (P at) (asker_up at next))
stands_on sc declared P c next stand h undecided answered stays left all is at =
    let rises : next_turn c ≡ c.turn + 1 = turn_rises c h.low in
    subst (λ (a : Option Asker). Next (site_of sc at declared) (P at) (with_asker (P at) a)) (sym (is at))
    (moves (site_of sc at declared) (P at) (asker_of at c) stand (next_turn c) (asker_there sc declared P c at h undecided) (h.fits at)
    (record { answered = answered; rises = omega (arith, rises); asks = left; all = all; stays = stays }))

-- a coordinator that is about to ask its next query: it awaits nothing of a server, and prepares nothing
record IsFree (c : Coordinator) (number : ℕ) : Type 0 where
  pub undecided : is_undecided c.phase ≡ true
  pub answered : stand_of c.phase ≡ Asks → ⊥
  pub unprepared : stand_of c.phase ≡ Prepares → ⊥
  pub number_is : number ≡ length c.deeds + 1

-- so it is before its submission
idle_free : (sc : Scenario) (declared : Transaction) (P : ℕ → Pair) (c : Coordinator) → CoordinatorPaired sc declared P c → c.phase ≡ phase.Idle → IsFree c 1
idle_free sc declared P c h idle =
    let short : length c.deeds ≡ 0 = ap length (subst (λ (p : Phase). PhaseNumbered p c.deeds) idle h.numbered) in
    record {
      undecided = ap is_undecided idle;
      answered = λ asks. let rests = ap stand_of idle in cc;
      unprepared = λ prepares. let rests = ap stand_of idle in cc;
      number_is = omega (arith, short);
    }

-- and while the authority is asked before a query
stapling_free : (sc : Scenario) (declared : Transaction) (P : ℕ → Pair) (c : Coordinator) (number : ℕ) → CoordinatorPaired sc declared P c → c.phase ≡ phase.Stapling number → IsFree c number
stapling_free sc declared P c number h stapling =
    record {
      undecided = ap is_undecided stapling;
      answered = λ asks. let pauses = ap stand_of stapling in cc;
      unprepared = λ prepares. let pauses = ap stand_of stapling in cc;
      number_is = subst (λ (p : Phase). PhaseNumbered p c.deeds) stapling h.numbered;
    }

-- it asks its next query
query_asks : (sc : Scenario) (declared : Transaction) (P : ℕ → Pair) (c : Coordinator) (number : ℕ) (staple : Option Staple) (server : ServerId) → CoordinatorPaired sc declared P c → IsFree c number → IsHome sc c number server
    → RowAsks sc declared P (coord.sends_query sc c number staple server)
query_asks sc declared P c number staple server h free home =
    let next = (coord.sends_query sc c number staple server).state in
    let place : number ≡ suc (length c.deeds) = let is = free.number_is in omega (arith, is) in
    let asked_is : query_at declared number ≡ Some home.asked = query_declared sc c declared number home.asked h.declared_is home.asked_is in
    let within : length c.deeds < length declared.queries = slice_get_within declared.queries (length c.deeds) home.asked (subst (λ (n : ℕ). query_at declared n ≡ Some home.asked) place asked_is) in
    let event : (at : ℕ) → Next (site_of sc at declared) (P at) (with_asker (P at) (asker_up at next)) =
    stands_on sc declared P c next Asks h free.undecided free.answered (λ e. absurd (free.unprepared e)) (λ e. within) (λ e. absurd (cc)) (λ at. refl) in
    record {
      next = event;
      numbered = free.number_is;
      requests = ((refl, query_requested sc declared (with_asker (P server.0) (asker_up server.0 next)) c (next_turn c) number staple server h.declared_is (event server.0).fits refl free.number_is home), tt);
    }

-- the authority is asked before the first query
first_staple_asks : (sc : Scenario) (declared : Transaction) (P : ℕ → Pair) (c : Coordinator) → CoordinatorPaired sc declared P c → c.phase ≡ phase.Idle → RowAsks sc declared P (coord.asks_in c (phase.Stapling 1))
first_staple_asks sc declared P c h idle =
    let free = idle_free sc declared P c h idle in
    record {
      next = stands_on sc declared P c (coord.asks_in c (phase.Stapling 1)).state Pauses h free.undecided free.answered (λ e. absurd (free.unprepared e)) (λ e. absurd (cc)) (λ e. absurd (cc)) (λ at. refl);
      numbered = free.number_is;
      requests = (tt, tt);
    }

-- the place of the submission is the age, which nothing here hangs on
aged_asks : (sc : Scenario) (declared : Transaction) (P : ℕ → Pair) (effect : Effect Coordinator) (age : ℕ) → RowAsks sc declared P effect → RowAsks sc declared P (with_age effect age)
aged_asks sc declared P effect age h = record { next = h.next; numbered = h.numbered; requests = h.requests }

pub submit_row_asks : (sc : Scenario) (declared : Transaction) (P : ℕ → Pair) (c : Coordinator) (age : ℕ) → CoordinatorPaired sc declared P c → coord.is_begun c.phase ≡ false
    → RowAsks sc declared P (with_age (coord.submit_row sc c) age)
submit_row_asks sc declared P c age h new =
    let idle : c.phase ≡ phase.Idle = idle_is c.phase new in
    aged_asks sc declared P (coord.submit_row sc c) age
    (submit_by sc c (RowAsks sc declared P)
    (record {
      ignored = ignores_asks sc declared P c h;
      sent = λ server moves home. query_asks sc declared P c 1 None server h (idle_free sc declared P c h idle) (home_is sc c 1 server home);
      asked = λ moves. first_staple_asks sc declared P c h idle;
    }))

-- ---- Done

-- the answer that is awaited
record IsAwaited (sc : Scenario) (declared : Transaction) (P : ℕ → Pair) (c : Coordinator) (done : DoneReply) (asked : Query) (server : ServerId) (value : ℤ) : Type 0 where
  pub staple : Option Staple
  pub awaits : c.phase ≡ phase.Querying done.query staple
  pub turn : done.turn ≡ c.turn
  pub asked_is : query_at declared done.query ≡ Some asked
  pub server_is : server_of sc asked ≡ Some server
  pub ran : RanFits (site_of sc server.0 declared) (P server.0) done value
  pub exists : server.0 < length sc.servers

-- what all servers see of the answer: the coordinator has one deed more, and goes on
moves_on : (s : Site) (p : Pair) (a : Asker) (b : Asker) (stand : Stand) (turn : ℕ) (value : ℤ) (epoch : Option ℕ) → b ≡ answered s a epoch value → a.turn < turn → (stand ≡ Asks → length a.deeds + 1 < count s)
    → (stand ≡ Prepares → length a.deeds + 1 ≡ count s) → Next s p (with_asker p (Some b)) → Next s p (with_asker p (Some (moved b stand turn)))
moves_on s p a b stand turn value epoch is past left all n =
    let longer : length b.deeds ≡ length a.deeds + 1 = ap (λ (x : Asker). length x.deeds) is ∙ length_push a.deeds (next_deed s a value) in
    let pauses : b.stand ≡ Pauses = ap (λ (x : Asker). x.stand) is in
    let same_turn : b.turn ≡ a.turn = ap (λ (x : Asker). x.turn) is in
    next_both s p (with_asker p (Some b)) (with_asker p (Some (moved b stand turn))) n
    (moves s (with_asker p (Some b)) b stand turn refl n.fits
    (record {
      answered = λ again. absurd (cc);
      rises = omega (arith, past, same_turn);
      asks = λ e. let less = left e in omega (arith, longer, less);
      all = λ e. let whole = all e in omega (arith, longer, whole);
      stays = λ e. absurd (cc);
    }))

-- a coordinator that has the deed of the answer, in its next phase
abbrev gone_on : Coordinator → ServerId → DoneReply → Query → ℤ → Phase → Coordinator
gone_on c server done asked value now = record (coord.with_deed c server done asked value) { turn = next_turn c; phase = now }

-- what the coordinator knows then, as the server of this number sees it
ran_asker : (sc : Scenario) (declared : Transaction) (P : ℕ → Pair) (c : Coordinator) (done : DoneReply) (asked : Query) (server : ServerId) (value : ℤ) (now : Phase) (at : ℕ) (epoch : Option ℕ)
    → CoordinatorPaired sc declared P c → IsAwaited sc declared P c done asked server value → option_flatten (slice_get (slice_set c.epochs server.0 (Some done.epoch)) at) ≡ epoch
    → asker_of at (gone_on c server done asked value now) ≡ moved (answered (site_of sc at declared) (asker_of at c) epoch value) (stand_of now) (next_turn c)
ran_asker sc declared P c done asked server value now at epoch h k e =
    let number : done.query ≡ length c.deeds + 1 = subst (λ (p : Phase). PhaseNumbered p c.deeds) k.awaits h.numbered in
    let deed : deed_of done.query asked value ≡ deed_at declared (length c.deeds + 1) value =
    ap (λ (found : Option Query). deed_asked done.query found value) (sym k.asked_is) ∙ ap (λ (n : ℕ). deed_at declared n value) number in
    ap (λ (x : Option ℕ). record { stand = stand_of now; turn = next_turn c; epoch = x; deeds = c.deeds ++ deed_of done.query asked value ∷ [] }) e
    ∙ ap (λ (x : Deed). record { stand = stand_of now; turn = next_turn c; epoch = epoch; deeds = c.deeds ++ x ∷ [] }) deed

-- the next phase: a query that is left is asked, or after all of them the servers are to prepare
record GoesOn (declared : Transaction) (c : Coordinator) (now : Phase) : Type 0 where
  pub asks : stand_of now ≡ Asks → length c.deeds + 1 < length declared.queries
  pub all : stand_of now ≡ Prepares → length c.deeds + 1 ≡ length declared.queries

-- at the server that was asked
ran_here : (sc : Scenario) (declared : Transaction) (P : ℕ → Pair) (c : Coordinator) (done : DoneReply) (asked : Query) (server : ServerId) (value : ℤ) (now : Phase) → CoordinatorPaired sc declared P c
    → IsAwaited sc declared P c done asked server value → GoesOn declared c now
    → Next (site_of sc server.0 declared) (P server.0) (with_asker (P server.0) (Some (asker_of server.0 (gone_on c server done asked value now))))
ran_here sc declared P c done asked server value now h k on =
    let s = site_of sc server.0 declared in
    let a = asker_of server.0 c in
    let is = asker_there sc declared P c server.0 h (ap is_undecided k.awaits) in
    let rises : next_turn c ≡ c.turn + 1 = turn_rises c h.low in
    let kept : option_flatten (slice_get (slice_set c.epochs server.0 (Some done.epoch)) server.0) ≡ Some done.epoch = ap option_flatten (set_here c.epochs server.0 (Some done.epoch) (let exists = k.exists in let places = h.places in omega (arith, places, exists))) in
    subst (λ (b : Asker). Next s (P server.0) (with_asker (P server.0) (Some b))) (sym (ran_asker sc declared P c done asked server value now server.0 (Some done.epoch) h k kept))
    (moves_on s (P server.0) a (answered s a (Some done.epoch) value) (stand_of now) (next_turn c) value (Some done.epoch) refl (omega (arith, rises)) on.asks on.all
    (takes s (P server.0) a done value is (h.fits server.0) (ap stand_of k.awaits) k.turn k.ran))

-- and at every other
ran_elsewhere : (sc : Scenario) (declared : Transaction) (P : ℕ → Pair) (c : Coordinator) (done : DoneReply) (asked : Query) (server : ServerId) (value : ℤ) (now : Phase) (at : ℕ) → (server.0 == at) ≡ false
    → CoordinatorPaired sc declared P c → IsAwaited sc declared P c done asked server value → GoesOn declared c now
    → Next (site_of sc at declared) (P at) (with_asker (P at) (Some (asker_of at (gone_on c server done asked value now))))
ran_elsewhere sc declared P c done asked server value now at apart h k on =
    let s0 = site_of sc server.0 declared in
    let t : Taken s0 (P server.0) (asker_of server.0 c) done value =
    taken s0 (P server.0) (asker_of server.0 c) done value (asker_there sc declared P c server.0 h (ap is_undecided k.awaits)) (ap stand_of k.awaits) k.turn k.ran in
    let s = site_of sc at declared in
    let a = asker_of at c in
    let is = asker_there sc declared P c at h (ap is_undecided k.awaits) in
    let rises : next_turn c ≡ c.turn + 1 = turn_rises c h.low in
    let not_here : here s (length c.deeds + 1) ≡ false = one_home sc declared server.0 at (length c.deeds + 1) (λ same. let one = eq-eqb server.0 at same in cc) t.is_here in
    let kept : option_flatten (slice_get (slice_set c.epochs server.0 (Some done.epoch)) at) ≡ a.epoch = ap option_flatten (set_elsewhere c.epochs server.0 at (Some done.epoch) apart) in
    subst (λ (b : Asker). Next s (P at) (with_asker (P at) (Some b))) (sym (ran_asker sc declared P c done asked server value now at a.epoch h k kept))
    (moves_on s (P at) a (answered s a a.epoch value) (stand_of now) (next_turn c) value a.epoch refl (omega (arith, rises)) on.asks on.all
    (elsewhere s (P at) a value is (h.fits at) (ap stand_of k.awaits) not_here t.asked))

ran_by : (sc : Scenario) (declared : Transaction) (P : ℕ → Pair) (c : Coordinator) (done : DoneReply) (asked : Query) (server : ServerId) (value : ℤ) (now : Phase) (at : ℕ) (b : Bool) → (server.0 == at) ≡ b
    → CoordinatorPaired sc declared P c → IsAwaited sc declared P c done asked server value → GoesOn declared c now
    → Next (site_of sc at declared) (P at) (with_asker (P at) (Some (asker_of at (gone_on c server done asked value now))))
ran_by sc declared P c done asked server value now at false e h k on = ran_elsewhere sc declared P c done asked server value now at e h k on
ran_by sc declared P c done asked server value now at true e h k on =
    subst (λ (n : ℕ). Next (site_of sc n declared) (P n) (with_asker (P n) (Some (asker_of n (gone_on c server done asked value now))))) (eqb-true server.0 at e)
    (ran_here sc declared P c done asked server value now h k on)

ran_at_in_pairs : (sc : Scenario) (declared : Transaction) (P : ℕ → Pair) (c : Coordinator) (done : DoneReply) (asked : Query) (server : ServerId) (value : ℤ) (now : Phase) → CoordinatorPaired sc declared P c
    → IsAwaited sc declared P c done asked server value → GoesOn declared c now → (at : ℕ)
    → Next (site_of sc at declared) (P at) (with_asker (P at) (Some (asker_of at (gone_on c server done asked value now))))
ran_at_in_pairs sc declared P c done asked server value now h k on at = ran_by sc declared P c done asked server value now at (server.0 == at) refl h k on

-- ---- Tell

-- a coordinator that requests something of servers in this turn, as each of them sees it then
record IsRequesting (sc : Scenario) (declared : Transaction) (Q : ℕ → Pair) (c next : Coordinator) (turn : ℕ) : Type 0 where
  pub own : c.txn ≡ next.txn
  pub epochs : c.epochs ≡ next.epochs
  pub turn_is : turn ≡ next.turn
  pub is : (at : ℕ) → (Q at).asker ≡ Some (asker_of at next)
  pub fits : (at : ℕ) → Fits (site_of sc at declared) (Q at)

-- the epoch that is kept of a server is named
epoch_named : (sc : Scenario) (declared : Transaction) (Q : ℕ → Pair) (c next : Coordinator) (turn : ℕ) (at : ServerId) → IsRequesting sc declared Q c next turn → KeepsEpoch c at → (asker_of at.0 next).epoch ≡ Some (coord.epoch_of c at)
epoch_named sc declared Q c next turn at k kept = ap (λ (epochs : List (Option ℕ)). option_flatten (slice_get epochs at.0)) (sym k.epochs) ∙ some_is (kept_epoch c at) kept

-- a request to prepare
prepare_fits_in_pairs : (sc : Scenario) (declared : Transaction) (Q : ℕ → Pair) (c next : Coordinator) (turn : ℕ) (staple : Option Staple) (want : List (AdminId × Version)) (at : ServerId) → IsRequesting sc declared Q c next turn
    → stand_of next.phase ≡ Prepares → KeepsEpoch c at → (is_empty want ≡ true) ⊎ Names (site_of sc at.0 declared) want → PrepareTo sc declared next.txn Q (actor.Server at) (coord.prepare_with c turn staple want at)
prepare_fits_in_pairs sc declared Q c next turn staple want at k stand kept names =
    (k.own, prepares (site_of sc at.0 declared) (Q at.0) (asker_of at.0 next) (coord.prepare_with c turn staple want at) (k.is at.0) (k.fits at.0) stand (epoch_named sc declared Q c next turn at k kept) names)

-- a request in a round, which wants what its queries name
round_letter_fits : (sc : Scenario) (declared : Transaction) (Q : ℕ → Pair) (c next : Coordinator) (over : Span) (turn : ℕ) (round : Round) (staple : Staple) (at : ServerId) → IsRequesting sc declared Q c next turn
    → stand_of next.phase ≡ stand_over over → SpanNumbered over next.deeds → KeepsEpoch c at → NamesOver sc declared over round at
    → AskPairs sc declared next.txn Q (coord.round_letter c over turn round staple at).to (coord.round_letter c over turn round staple at).body
round_letter_fits sc declared Q c next (span.Validate number) turn round staple at k stand numbered kept names = (
  k.own,
  validates (site_of sc at.0 declared) (Q at.0) (asker_of at.0 next) (coord.validate_request c turn round staple at) (k.is at.0) (k.fits at.0) stand k.turn_is (epoch_named sc declared Q c next turn at k kept)
      (subst (λ (last : ℕ). NamesIfAny (site_of sc at.0 declared) last (coord.want_for round at)) numbered names),
)
round_letter_fits sc declared Q c next span.Commit turn round staple at k stand numbered kept names =
    prepare_fits_in_pairs sc declared Q c next turn (Some staple) (coord.want_for round at) at k stand kept names

round_letters_fit : (sc : Scenario) (declared : Transaction) (Q : ℕ → Pair) (c next : Coordinator) (over : Span) (turn : ℕ) (round : Round) (staple : Staple) (servers : List ServerId) → IsRequesting sc declared Q c next turn
    → stand_of next.phase ≡ stand_over over → SpanNumbered over next.deeds → Each (KeepsEpoch c) servers → Each (NamesOver sc declared over round) servers
    → Each (λ (letter : Letter). AskPairs sc declared next.txn Q letter.to letter.body) (map (coord.round_letter c over turn round staple) servers)
round_letters_fit sc declared Q c next over turn round staple [] k stand numbered kept names = tt
round_letters_fit sc declared Q c next over turn round staple (at ∷ servers) k stand numbered kept names =
    (round_letter_fits sc declared Q c next over turn round staple at k stand numbered kept.0 names.0, round_letters_fit sc declared Q c next over turn round staple servers k stand numbered kept.1 names.1)

-- requests to prepare without an evaluation
vote_letters_fit : (sc : Scenario) (declared : Transaction) (Q : ℕ → Pair) (c next : Coordinator) (turn : ℕ) (servers : List ServerId) → IsRequesting sc declared Q c next turn → stand_of next.phase ≡ Prepares → Each (KeepsEpoch c) servers
    → Each (λ (letter : Letter). AskPairs sc declared next.txn Q letter.to letter.body) (coord.vote_letters c turn servers)
vote_letters_fit sc declared Q c next turn [] k stand kept = tt
vote_letters_fit sc declared Q c next turn (at ∷ servers) k stand kept =
    (prepare_fits_in_pairs sc declared Q c next turn None [] at k stand kept.0 (inl refl), vote_letters_fit sc declared Q c next turn servers k stand kept.1)

-- a round awaits no answer to a query
over_answered : (over : Span) → stand_over over ≡ Asks → ⊥
over_answered (span.Validate number) e = cc
over_answered span.Commit e = cc

-- a coordinator that stands as before, in a further turn
stands_still : (sc : Scenario) (declared : Transaction) (P : ℕ → Pair) (c next : Coordinator) (over : Span) → CoordinatorPaired sc declared P c → is_undecided c.phase ≡ true → stand_of c.phase ≡ stand_over over
    → ((at : ℕ) → asker_up at next ≡ Some (record { stand = stand_over over; turn = next_turn c; epoch = option_flatten (slice_get c.epochs at); deeds = c.deeds }))
    → (at : ℕ) → Next (site_of sc at declared) (P at) (with_asker (P at) (asker_up at next))
stands_still sc declared P c next over h undecided stands is at =
    let old : AskerFits (site_of sc at declared) (P at) (asker_of at c) = of_some (AskerFits (site_of sc at declared) (P at)) (P at).asker (asker_of at c) (asker_there sc declared P c at h undecided) (h.fits at).asker in
    stands_on sc declared P c next (stand_over over) h undecided (λ asks. over_answered over (sym stands ∙ asks)) (λ e. sym stands ∙ e) (λ e. absurd (over_answered over e)) (λ e. old.all (stands ∙ e)) is at

-- each awaited server of a round is asked
checks_asks : (sc : Scenario) (declared : Transaction) (P : ℕ → Pair) (c : Coordinator) (over : Span) (round : Round) (staple : Staple) → CoordinatorPaired sc declared P c → c.phase ≡ phase.Asking over round
    → RowAsks sc declared P (coord.checks c over round staple)
checks_asks sc declared P c over round staple h asking =
    let next = (coord.checks c over round staple).state in
    let undecided : is_undecided c.phase ≡ true = ap is_undecided asking in
    let kept : EachServer (KeepsEpoch c) round.targets = subst (PhaseKept (KeepsEpoch c)) asking (h.keeps undecided) in
    let numbered : SpanNumbered over c.deeds = subst (λ (p : Phase). PhaseNumbered p c.deeds) asking h.numbered in
    let event : (at : ℕ) → Next (site_of sc at declared) (P at) (with_asker (P at) (asker_up at next)) = stands_still sc declared P c next over h undecided (ap stand_of asking) (λ at. refl) in
    record {
      next = event;
      numbered = numbered;
      requests = round_letters_fit sc declared (λ at. with_asker (P at) (asker_up at next)) c next over (next_turn c) round staple (missing_in round.targets)
          (record { own = refl; epochs = refl; turn_is = refl; is = λ at. refl; fits = λ at. (event at).fits }) refl numbered (each_missing (KeepsEpoch c) round.targets kept) (subst (PhaseNames sc declared) asking h.names);
    }

-- where a round is judged its number is that of the deeds
judged_numbered : (c : Coordinator) (mail : Mail) (over : Span) (round : Round) (staple : Option Staple) (reading : Option Reading) → IsJudged c mail over round staple reading → PhaseNumbered c.phase c.deeds → SpanNumbered over c.deeds
judged_numbered c mail _ _ _ _ (ByReplies over round staple server verdicts y whole unread) n = subst (λ (p : Phase). PhaseNumbered p c.deeds) (reply_checking c mail over round staple server verdicts y) n
judged_numbered c mail _ _ _ _ (ByReading reply over round k) n = subst (λ (p : Phase). PhaseNumbered p c.deeds) k.reading n

-- the authority is asked before a further round
updated_asks : (sc : Scenario) (declared : Transaction) (P : ℕ → Pair) (c : Coordinator) (mail : Mail) (over : Span) (round next : Round) (staple : Option Staple) (reading : Option Reading) → CoordinatorPaired sc declared P c
    → IsJudged c mail over round staple reading → RowAsks sc declared P (coord.asks c over next)
updated_asks sc declared P c mail over round next staple reading h j =
    record {
      next = stands_still sc declared P c (coord.asks c over next).state over h (judged_undecided c mail over round staple reading j) (judged_stands c mail over round staple reading j) (λ at. refl);
      numbered = judged_numbered c mail over round staple reading j h.numbered;
      requests = (tt, tt);
    }

-- the master is read once all have replied
probes_asks : (sc : Scenario) (declared : Transaction) (P : ℕ → Pair) (c : Coordinator) (over : Span) (round replied : Round) (staple : Staple) → CoordinatorPaired sc declared P c → c.phase ≡ phase.Checking over round staple
    → RowAsks sc declared P (coord.probes c (phase.Reading over replied))
probes_asks sc declared P c over round replied staple h checking =
    record {
      next = stands_still sc declared P c (coord.probes c (phase.Reading over replied)).state over h (ap is_undecided checking) (ap stand_of checking) (λ at. refl);
      numbered = subst (λ (p : Phase). PhaseNumbered p c.deeds) checking h.numbered;
      requests = (tt, tt);
    }

-- a reply is counted
counts_asks : (sc : Scenario) (declared : Transaction) (P : ℕ → Pair) (c : Coordinator) (over : Span) (round replied : Round) (staple : Staple) → CoordinatorPaired sc declared P c → c.phase ≡ phase.Checking over round staple
    → RowAsks sc declared P (coord.stays c over replied (Some staple))
counts_asks sc declared P c over round replied staple h checking =
    record {
      next = λ at. still_asks sc declared P c (record c { phase = phase.Checking over replied staple }) at h (same_asker at c (phase.Checking over replied staple) (ap is_undecided checking) refl (sym (ap stand_of checking)));
      numbered = subst (λ (p : Phase). PhaseNumbered p c.deeds) checking h.numbered;
      requests = tt;
    }

-- ---- Vote, and the end

-- an order to end says nothing of deeds
pub orders_ask : (sc : Scenario) (declared : Transaction) (txn : TxnId) (Q : ℕ → Pair) (c : Coordinator) (ended : Outcome) (servers : List ServerId)
    → Each (λ (letter : Letter). AskPairs sc declared txn Q letter.to letter.body) (coord.decide_letters c ended servers)
orders_ask sc declared txn Q c ended [] = tt
orders_ask sc declared txn Q c ended (at ∷ servers) = (tt, orders_ask sc declared txn Q c ended servers)

-- a decision
ends_asks : (sc : Scenario) (declared : Transaction) (P : ℕ → Pair) (c next : Coordinator) (ended : Outcome) (servers : List ServerId) → CoordinatorPaired sc declared P c → is_undecided next.phase ≡ false
    → PhaseNumbered next.phase next.deeds → CoordinatorActsPairs sc declared next.txn P (Some next) (coord.decide_letters c ended servers)
ends_asks sc declared P c next ended servers h decided numbered =
    record {
      next = λ at. subst (λ (o : Option Asker). Next (site_of sc at declared) (P at) (with_asker (P at) o)) (sym (ap (λ (b : Bool). if b then Some (asker_of at next) else None) decided)) (ends (site_of sc at declared) (P at) (h.fits at));
      numbered = numbered;
      requests = orders_ask sc declared next.txn (λ at. with_asker (P at) (asker_up at next)) c ended servers;
    }

-- ---- all mails

-- what a mail to a coordinator says of its transaction
abbrev pub AnswerPairs : Scenario → Transaction → (ℕ → Pair) → Actor → Body → Type 0
AnswerPairs sc declared P (actor.Server at) (body.Done done) = DoneFits (site_of sc at.0 declared) (P at.0) done
AnswerPairs sc declared P (actor.Server at) (body.Verdicts reply) = VerdictsFits (site_of sc at.0 declared) (P at.0) reply
AnswerPairs sc declared P _ _ = Unit {0}

answer_awaited : (sc : Scenario) (declared : Transaction) (P : ℕ → Pair) (c : Coordinator) (mail : Mail) (done : DoneReply) (server : ServerId) (asked : Query) (value : ℤ) (proof : Option Verdict) → CoordinatorPaired sc declared P c
    → AnswerPairs sc declared P mail.letter.from mail.letter.body → server.0 < length sc.servers → IsRanAnswer sc c mail done server asked value proof → IsAwaited sc declared P c done asked server value
answer_awaited sc declared P c mail done server asked value proof h m exists k =
    let awaits = awaits_is c c.phase done k.awaited in
    let present : awaits_query c (phase.Querying done.query awaits.0) done ≡ true = subst (λ (p : Phase). awaits_query c p done ≡ true) awaits.1 k.awaited in
    let fits : DoneFits (site_of sc server.0 declared) (P server.0) done = subst (λ (from : Actor). AnswerPairs sc declared P from (body.Done done)) (from_server mail.letter.from server k.from_is) (subst (AnswerPairs sc declared P mail.letter.from) k.said_is m) in
    record {
      staple = awaits.0;
      awaits = awaits.1;
      turn = eqb-true done.turn c.turn (and_parts (done.turn == c.turn) (done.query == done.query) present).0;
      asked_is = query_declared sc c declared done.query asked h.declared_is k.asked_is;
      server_is = k.server_is;
      ran = subst (AnswerFits (site_of sc server.0 declared) (P server.0) done) k.answer_is fits;
      exists = exists;
    }

server_exists_in_pairs : (sc : Scenario) (asked : Query) (server : ServerId) → IsValid sc → server_of sc asked ≡ Some server → server.0 < length sc.servers
server_exists_in_pairs sc asked server valid e = found (slice_get sc.items (item_of asked).0) refl e
  where
    found : (item : Option Item) → slice_get sc.items (item_of asked).0 ≡ item → option_map (λ (i : Item). i.server) item ≡ Some server → server.0 < length sc.servers
    found None f g = absurd (cc)
    found (Some item) f g = subst (λ (at : ServerId). at.0 < length sc.servers) (same_Some item.server server g) (each_get (IsValidItem sc) sc.items (item_of asked).0 item valid.items f).server

-- ---- points that are passed

-- the next phase of a coordinator with these deeds: it asks while queries are left, and prepares once all have run, for good
record MayGoOn (declared : Transaction) (c : Coordinator) (deeds : List Deed) (next : Phase) : Type 0 where
  pub undecided : is_undecided next ≡ true
  pub asks : stand_of next ≡ Asks → length deeds < length declared.queries
  pub all : stand_of next ≡ Prepares → length deeds ≡ length declared.queries
  pub stays : stand_of c.phase ≡ Prepares → stand_of next ≡ Prepares

-- a coordinator that has gained this, in its next phase
abbrev passed_to : Coordinator → Gained → Phase → Coordinator
passed_to c now next = record (with_gained c now) { turn = next_turn c; phase = next }

-- what is known where a point is passed: the coordinator goes on at each server; after a query the point has the number of the last deed; and all
-- queries have run where all have voted
record IsOnward (sc : Scenario) (declared : Transaction) (P : ℕ → Pair) (c : Coordinator) (at : Point) (now : Gained) : Type 0 where
  pub goes : (next : Phase) → MayGoOn declared c now.deeds next → (n : ℕ) → Next (site_of sc n declared) (P n) (with_asker (P n) (asker_up n (passed_to c now next)))
  pub numbered : is_of_query at ≡ true → number_at at ≡ length now.deeds
  pub most : length now.deeds ≤ length declared.queries
  pub all : is_voted at ≡ true → length now.deeds ≡ length declared.queries

-- a query that there is has a number up to that of the last
number_within : (declared : Transaction) (number : ℕ) (asked : Query) → query_at declared number ≡ Some asked → number ≤ length declared.queries
number_within declared zero asked e = omega arith
number_within declared (suc before) asked e = let within = slice_get_within declared.queries before asked e in omega (arith, within)

-- where no query has run since, the coordinator awaited no answer of a server to one
waited_onward : (sc : Scenario) (declared : Transaction) (P : ℕ → Pair) (c : Coordinator) (at : Point) (instances : List Instance) → CoordinatorPaired sc declared P c → is_undecided c.phase ≡ true → (stand_of c.phase ≡ Asks → ⊥)
    → (is_of_query at ≡ true → number_at at ≡ length c.deeds) → (is_voted at ≡ true → stand_of c.phase ≡ Prepares) → IsOnward sc declared P c at (gains_instances c instances)
waited_onward sc declared P c at instances h undecided answered numbered voted =
    let old : AskerFits (site_of sc 0 declared) (P 0) (asker_of 0 c) = of_some (AskerFits (site_of sc 0 declared) (P 0)) (P 0).asker (asker_of 0 c) (asker_there sc declared P c 0 h undecided) (h.fits 0).asker in
    record {
      goes = λ next may n.
          stands_on sc declared P c (passed_to c (gains_instances c instances) next) (stand_of next) h undecided answered may.stays may.asks may.all
          (λ k. undecided_asker k (passed_to c (gains_instances c instances) next) may.undecided) n;
      numbered = numbered;
      most = old.most;
      all = λ e. old.all (voted e);
    }

probing_answered : (awaited : Phase) (at : Point) → IsProbing awaited at → stand_of awaited ≡ Asks → ⊥
probing_answered _ _ (AfterQuery number) e = cc
probing_answered _ _ AfterVotes e = cc

probing_numbered : (awaited : Phase) (at : Point) (deeds : List Deed) → IsProbing awaited at → PhaseNumbered awaited deeds → is_of_query at ≡ true → number_at at ≡ length deeds
probing_numbered _ _ deeds (AfterQuery number) n e = n
probing_numbered _ _ deeds AfterVotes n e = absurd (cc)

probing_voted : (awaited : Phase) (at : Point) → IsProbing awaited at → is_voted at ≡ true → stand_of awaited ≡ Prepares
probing_voted _ _ (AfterQuery number) e = absurd (cc)
probing_voted _ _ AfterVotes e = refl

over_numbered : (over : Span) (deeds : List Deed) → SpanNumbered over deeds → is_of_query (coord.point_of over) ≡ true → number_at (coord.point_of over) ≡ length deeds
over_numbered (span.Validate number) deeds n e = n
over_numbered span.Commit deeds n e = absurd (cc)

over_voted : (over : Span) → is_voted (coord.point_of over) ≡ true → stand_over over ≡ Prepares
over_voted (span.Validate number) e = absurd (cc)
over_voted span.Commit e = refl

passed_onward : (sc : Scenario) (declared : Transaction) (P : ℕ → Pair) (c : Coordinator) (mail : Mail) (at : Point) (now : Gained) (rounds : ℕ) → IsValid sc → CoordinatorPaired sc declared P c
    → AnswerPairs sc declared P mail.letter.from mail.letter.body → IsPassed sc c mail at now rounds → IsOnward sc declared P c at now
passed_onward sc declared P c mail _ _ _ valid h m (QueryRan done server asked value proof k) =
    let awaited : IsAwaited sc declared P c done asked server value = answer_awaited sc declared P c mail done server asked value proof h m (server_exists_in_pairs sc asked server valid k.server_is) k in
    let number : done.query ≡ length c.deeds + 1 = subst (λ (p : Phase). PhaseNumbered p c.deeds) awaited.awaits h.numbered in
    let longer : length (c.deeds ++ deed_of done.query asked value ∷ []) ≡ length c.deeds + 1 = length_push c.deeds (deed_of done.query asked value) in
    let within : done.query ≤ length declared.queries = number_within declared done.query asked awaited.asked_is in
    record {
      goes = λ next may n.
          subst (λ (o : Option Asker). Next (site_of sc n declared) (P n) (with_asker (P n) o)) (sym (undecided_asker n (passed_to c (gains_deed sc c server done asked value proof) next) may.undecided))
          (ran_at_in_pairs sc declared P c done asked server value next h awaited
          (record { asks = λ e. let left = may.asks e in omega (arith, longer, left); all = λ e. let whole = may.all e in omega (arith, longer, whole) }) n);
      numbered = λ e. omega (arith, number, longer);
      most = omega (arith, number, longer, within);
      all = λ e. absurd (cc);
    }
passed_onward sc declared P c mail _ _ _ valid h m (ProofsRead reply at k none) =
    waited_onward sc declared P c at _ h (passed_undecided sc c mail _ _ _ (ProofsRead reply at k none)) (probing_answered c.phase at k.probing) (probing_numbered c.phase at c.deeds k.probing h.numbered) (probing_voted c.phase at k.probing)
passed_onward sc declared P c mail _ _ _ valid h m (AllTrue over round staple reading k) =
    let stands = judged_stands c mail over round staple reading k.is_judged in
    waited_onward sc declared P c (coord.point_of over) _ h (judged_undecided c mail over round staple reading k.is_judged) (λ asks. over_answered over (sym stands ∙ asks))
    (over_numbered over c.deeds (judged_numbered c mail over round staple reading k.is_judged h.numbered)) (λ e. stands ∙ over_voted over e)
passed_onward sc declared P c mail _ _ _ valid h m (AllVoted reply awaited server verdicts k left) =
    let stands : stand_of c.phase ≡ Prepares = ap stand_of k.voting in
    waited_onward sc declared P c point.Voted _ h (ap is_undecided k.voting) (λ asks. cc) (λ e. absurd (cc)) (λ e. stands)

-- the next query has the number after those of the deeds
next_low : (number : ℕ) → number ≤ 16 → next_number number ≡ number + 1
next_low number low = omega (arith, low)

next_numbered : (sc : Scenario) (declared : Transaction) (P : ℕ → Pair) (c : Coordinator) (at : Point) (now : Gained) → HaveHomes sc → CoordinatorPaired sc declared P c → IsOnward sc declared P c at now → is_of_query at ≡ true
    → next_at at ≡ length now.deeds + 1
next_numbered sc declared P c at now homes h on of_query =
    let few : length declared.queries ≤ 16 = homes.few c.txn.0 declared h.declared_is in
    let number : number_at at ≡ length now.deeds = on.numbered of_query in
    let next : next_at at ≡ number_at at + 1 = next_low (number_at at) (let most = on.most in omega (arith, number, most, few)) in
    omega (arith, number, next)

-- where none is left, all have run
all_asked : (sc : Scenario) (declared : Transaction) (P : ℕ → Pair) (c : Coordinator) (at : Point) (now : Gained) (wanted : Move) → HaveHomes sc → CoordinatorPaired sc declared P c → IsOnward sc declared P c at now → is_past at ≡ true
    → is_of_query at ≡ true → is_beginning wanted ≡ true → is_ending wanted ≡ true → coord.move_after sc c at ≡ wanted → length now.deeds ≡ length declared.queries
all_asked sc declared P c at now wanted homes h on past of_query begins ends moved_so =
    let number : number_at at ≡ length now.deeds = on.numbered of_query in
    let none : length declared.queries ≤ number_at at = none_left sc c at wanted declared homes past begins ends h.declared_is moved_so in
    let most = on.most in
    omega (arith, number, none, most)

-- a further query is asked
next_asks : (sc : Scenario) (declared : Transaction) (P : ℕ → Pair) (c : Coordinator) (mail : Mail) (at : Point) (now : Gained) (rounds : ℕ) (next : ServerId) → HaveHomes sc → CoordinatorPaired sc declared P c
    → IsOnward sc declared P c at now → IsPassed sc c mail at now rounds → is_of_query at ≡ true → IsHome sc c (next_at at) next → RowAsks sc declared P (coord.sends_query sc (with_gained c now) (next_at at) None next)
next_asks sc declared P c mail at now rounds next homes h on passed of_query home =
    let numbered : next_at at ≡ length now.deeds + 1 = next_numbered sc declared P c at now homes h on of_query in
    let place : next_at at ≡ suc (length now.deeds) = omega (arith, numbered) in
    let asked_is : query_at declared (next_at at) ≡ Some home.asked = query_declared sc c declared (next_at at) home.asked h.declared_is home.asked_is in
    let within : length now.deeds < length declared.queries = slice_get_within declared.queries (length now.deeds) home.asked (subst (λ (n : ℕ). query_at declared n ≡ Some home.asked) place asked_is) in
    let event = on.goes (phase.Querying (next_at at) None) (record { undecided = refl; asks = λ e. within; all = λ e. absurd (cc); stays = λ e. absurd (query_stands sc c mail at now rounds passed of_query e) }) in
    record {
      next = event;
      numbered = numbered;
      requests = (
        (
          refl,
          query_requested sc declared (with_asker (P next.0) (asker_up next.0 (passed_to c now (phase.Querying (next_at at) None)))) (with_gained c now) (next_turn c) (next_at at) None next h.declared_is (event next.0).fits refl numbered
              (record { asked = home.asked; asked_is = home.asked_is; server_is = home.server_is }),
        ),
        tt,
      );
    }

-- the authority is asked before it
next_staple_asks : (sc : Scenario) (declared : Transaction) (P : ℕ → Pair) (c : Coordinator) (mail : Mail) (at : Point) (now : Gained) (rounds : ℕ) → HaveHomes sc → CoordinatorPaired sc declared P c
    → IsOnward sc declared P c at now → IsPassed sc c mail at now rounds → is_of_query at ≡ true → RowAsks sc declared P (coord.asks_in (with_gained c now) (phase.Stapling (next_at at)))
next_staple_asks sc declared P c mail at now rounds homes h on passed of_query =
    record {
      next = on.goes (phase.Stapling (next_at at)) (record { undecided = refl; asks = λ e. absurd (cc); all = λ e. absurd (cc); stays = λ e. absurd (query_stands sc c mail at now rounds passed of_query e) });
      numbered = next_numbered sc declared P c at now homes h on of_query;
      requests = (tt, tt);
    }

-- the queries so far are evaluated together
validates_asks : (sc : Scenario) (declared : Transaction) (P : ℕ → Pair) (c : Coordinator) (mail : Mail) (at : Point) (now : Gained) (rounds : ℕ) → CoordinatorPaired sc declared P c → IsOnward sc declared P c at now
    → IsPassed sc c mail at now rounds → is_of_query at ≡ true → RowAsks sc declared P (coord.asks (with_gained c now) (span.Validate (number_at at)) (coord.validation_round sc c (number_at at)))
validates_asks sc declared P c mail at now rounds h on passed of_query =
    record {
      next = on.goes (phase.Asking (span.Validate (number_at at)) (coord.validation_round sc c (number_at at)))
          (record { undecided = refl; asks = λ e. absurd (cc); all = λ e. absurd (cc); stays = λ e. absurd (query_stands sc c mail at now rounds passed of_query e) });
      numbered = on.numbered of_query;
      requests = (tt, tt);
    }

-- the master is asked for the proofs so far
proofs_asks : (sc : Scenario) (declared : Transaction) (P : ℕ → Pair) (c : Coordinator) (mail : Mail) (at : Point) (now : Gained) (rounds : ℕ) → CoordinatorPaired sc declared P c → IsOnward sc declared P c at now
    → IsPassed sc c mail at now rounds → is_probed at ≡ true → RowAsks sc declared P (coord.probes (with_gained c now) (coord.probing_at at))
proofs_asks sc declared P c mail (point.Ran number) now rounds h on passed e =
    record {
      next = on.goes (phase.Probing number) (record { undecided = refl; asks = λ f. absurd (cc); all = λ f. absurd (cc); stays = λ f. absurd (query_stands sc c mail (point.Ran number) now rounds passed refl f) });
      numbered = on.numbered refl;
      requests = (tt, tt);
    }
proofs_asks sc declared P c mail point.Voted now rounds h on passed e =
    record { next = on.goes phase.VoteProbing (record { undecided = refl; asks = λ f. absurd (cc); all = λ f. on.all refl; stays = λ f. refl }); numbered = tt; requests = (tt, tt) }
proofs_asks sc declared P c mail (point.Begun number) now rounds h on passed e = absurd (cc)
proofs_asks sc declared P c mail (point.Stapled number) now rounds h on passed e = absurd (cc)
proofs_asks sc declared P c mail (point.Read number) now rounds h on passed e = absurd (cc)
proofs_asks sc declared P c mail (point.Validated number) now rounds h on passed e = absurd (cc)
proofs_asks sc declared P c mail point.VoteRead now rounds h on passed e = absurd (cc)

-- all queries have run: the authority is asked before the rounds at commit
last_asks : (sc : Scenario) (declared : Transaction) (P : ℕ → Pair) (c : Coordinator) (at : Point) (now : Gained) → IsOnward sc declared P c at now → length now.deeds ≡ length declared.queries
    → RowAsks sc declared P (coord.asks (with_gained c now) span.Commit (coord.commit_round sc c))
last_asks sc declared P c at now on all =
    record { next = on.goes (phase.Asking span.Commit (coord.commit_round sc c)) (record { undecided = refl; asks = λ e. absurd (cc); all = λ e. all; stays = λ e. refl }); numbered = tt; requests = (tt, tt) }

-- a query among these that is at the server
here_among : (sc : Scenario) (at : ℕ) (queries : List Query) → list_any (is_at_server sc at) queries ≡ true → (place : ℕ) × (option_map_or (is_at_server sc at) (slice_get queries place) false ≡ true)
here_among sc at [] e = absurd (cc)
here_among sc at (query ∷ queries) e = by_first (is_at_server sc at query) refl (here_among sc at queries) e
  where
    by_first : (b : Bool) → is_at_server sc at query ≡ b → (list_any (is_at_server sc at) queries ≡ true → (place : ℕ) × (option_map_or (is_at_server sc at) (slice_get queries place) false ≡ true))
        → (b || list_any (is_at_server sc at) queries) ≡ true → (place : ℕ) × (option_map_or (is_at_server sc at) (slice_get (query ∷ queries) place) false ≡ true)
    by_first true first later some = (zero, first)
    by_first false first later some = let found = later some in (suc found.0, found.1)

-- a coordinator that prepares has kept the epoch of each server with an item of its transaction
item_kept : (sc : Scenario) (declared : Transaction) (Q : ℕ → Pair) (c next : Coordinator) (turn : ℕ) (at : ServerId) → slice_get sc.txns c.txn.0 ≡ Some declared → IsRequesting sc declared Q c next turn → stand_of next.phase ≡ Prepares
    → HoldsItem sc c.txn at → KeepsEpoch c at
item_kept sc declared Q c next turn at declared_is k stand item =
    let found = here_among sc at.0 declared.queries (sym (ap (λ (d : Option Transaction). option_map_or (has_item sc at) d false) declared_is) ∙ item) in
    let site = site_of sc at.0 declared in
    let fits : AskerFits site (Q at.0) (asker_of at.0 next) = of_some (AskerFits site (Q at.0)) (Q at.0).asker (asker_of at.0 next) (k.is at.0) (k.fits at.0).asker in
    let epoch = late_epoch site (Q at.0) (asker_of at.0 next) (suc found.0) fits stand found.1 in
    ap is_some (ap (λ (epochs : List (Option ℕ)). option_flatten (slice_get epochs at.0)) k.epochs ∙ epoch.1)

-- or each query was proved as it ran: all servers are asked to prepare without an evaluation
votes_asks : (sc : Scenario) (declared : Transaction) (P : ℕ → Pair) (c : Coordinator) (at : Point) (now : Gained) → CoordinatorPaired sc declared P c → IsOnward sc declared P c at now → length now.deeds ≡ length declared.queries
    → RowAsks sc declared P (coord.asks_votes (with_gained c now))
votes_asks sc declared P c at now h on all =
    let now_is = with_gained c now in
    let next = passed_to c now (phase.Voting c.servers) in
    let Q : ℕ → Pair = λ n. with_asker (P n) (asker_up n next) in
    let event = on.goes (phase.Voting c.servers) (record { undecided = refl; asks = λ e. absurd (cc); all = λ e. all; stays = λ e. refl }) in
    let requesting : IsRequesting sc declared Q now_is next (next_turn c) = record { own = refl; epochs = refl; turn_is = refl; is = λ n. refl; fits = λ n. (event n).fits } in
    let items : HaveItems sc c.txn c.servers = subst (HaveItems sc c.txn) (sym h.servers) (servers_at_have_items sc c.txn) in
    record {
      next = event;
      numbered = tt;
      requests = vote_letters_fit sc declared Q now_is next (next_turn c) c.servers requesting refl
          (each_as (HoldsItem sc c.txn) (KeepsEpoch now_is) (λ server item. item_kept sc declared Q now_is next (next_turn c) server h.declared_is requesting refl item) c.servers items);
    }

-- ---- every row

-- every row of a coordinator on receipt of a mail
pub coordinator_row_asks : (sc : Scenario) (declared : Transaction) (P : ℕ → Pair) (c : Coordinator) (mail : Mail) → IsValid sc → HaveHomes sc → CoordinatorPaired sc declared P c
    → AnswerPairs sc declared P mail.letter.from mail.letter.body → RowAsks sc declared P (coord.coordinator_row sc c mail)
coordinator_row_asks sc declared P c mail valid homes h m =
    coordinator_by sc c mail (RowAsks sc declared P)
    (record {
      ignored = ignores_asks sc declared P c h;
      stapled = λ tell query server k home.
          query_asks sc declared P c query (Some (coord.staple_of tell mail.sent)) server h (stapling_free sc declared P c query h k.stapling) (home_is sc c query server home);
      sends_query = λ at now rounds next passed moved_so home.
          next_asks sc declared P c mail at now rounds next homes h (onward at now rounds passed) passed (begins_of_query sc c at move.SendQuery (passed_past sc c mail at now rounds passed) refl moved_so) (home_is sc c (next_at at) next home);
      asks_staple = λ at now rounds passed moved_so.
          next_staple_asks sc declared P c mail at now rounds homes h (onward at now rounds passed) passed (begins_of_query sc c at move.Ask (passed_past sc c mail at now rounds passed) refl moved_so);
      probes_proofs = λ at now rounds passed moved_so. proofs_asks sc declared P c mail at now rounds h (onward at now rounds passed) passed (probed_there sc c at moved_so);
      validates = λ at now rounds passed moved_so.
          validates_asks sc declared P c mail at now rounds h (onward at now rounds passed) passed (ran_of_query at (validated_ran sc c at moved_so));
      commit_rounds = λ at now rounds passed moved_so. last_asks sc declared P c at now (onward at now rounds passed) (whole at now rounds move.CommitRounds passed refl refl moved_so);
      asks_votes = λ at now rounds passed moved_so. votes_asks sc declared P c at now h (onward at now rounds passed) (whole at now rounds move.Votes passed refl refl moved_so);
      told = λ tell over round k. checks_asks sc declared P c over round (coord.staple_of tell mail.sent) h k.asking;
      counted = λ over round staple server verdicts y. counts_asks sc declared P c over round (after_reply round server verdicts) staple h (reply_checking c mail over round staple server verdicts y);
      probed = λ over round staple server verdicts y replied reads. probes_asks sc declared P c over round (after_reply round server verdicts) staple h (reply_checking c mail over round staple server verdicts y);
      voted = λ reply awaited server verdicts y. record {
        next = λ at. still_asks sc declared P c (coord.voting c (coord.without awaited server)) at h (same_asker at c (phase.Voting (coord.without awaited server)) (ap is_undecided y.voting) refl (sym (ap stand_of y.voting)));
        numbered = tt;
        requests = tt;
      };
      decides = λ at now rounds passed moved_so. ends_asks sc declared P c (coord.commits (with_gained c now) rounds).state outcome.Commit c.servers h refl tt;
      aborted = λ why ended. ends_asks sc declared P c (coord.aborts c why).state outcome.Abort c.servers h refl tt;
      updated = λ over round staple reading named j e. updated_asks sc declared P c mail over round (after_judgement round reading) staple reading h j;
      acknowledged = λ ack ended awaited server a. record {
        next = λ at. still_asks sc declared P c (record c { phase = phase.Ending ended (coord.without awaited server) }) at h (sym (ap (λ (p : Phase). if is_undecided p then Some (asker_of at c) else None) a.ending));
        numbered = tt;
        requests = tt;
      };
      inquired = λ inquiry ended awaited server k. record {
        next = λ at. still_asks sc declared P c c at h refl;
        numbered = h.numbered;
        requests = orders_ask sc declared c.txn (λ at. with_asker (P at) (asker_up at c)) c ended (server ∷ []);
      };
    })
  where
    onward : (at : Point) (now : Gained) (rounds : ℕ) → IsPassed sc c mail at now rounds → IsOnward sc declared P c at now
    onward at now rounds passed = passed_onward sc declared P c mail at now rounds valid h m passed

    -- where no query is left, all have run
    whole : (at : Point) (now : Gained) (rounds : ℕ) (wanted : Move) → IsPassed sc c mail at now rounds → is_beginning wanted ≡ true → is_ending wanted ≡ true → coord.move_after sc c at ≡ wanted
        → length now.deeds ≡ length declared.queries
    whole at now rounds wanted passed begins_so ends_so moved_so =
        let past = passed_past sc c mail at now rounds passed in
        all_asked sc declared P c at now wanted homes h (onward at now rounds passed) past (begins_of_query sc c at wanted past begins_so moved_so) begins_so ends_so moved_so

-- ---- timers

-- a query that is sent again is the one that is asked, in its own turn
query_again_fits : (sc : Scenario) (declared : Transaction) (P : ℕ → Pair) (c : Coordinator) (number : ℕ) (staple : Option Staple) (server : ServerId) → CoordinatorPaired sc declared P c → c.phase ≡ phase.Querying number staple
    → coord.home_of sc c number ≡ Some server → QueryFits (site_of sc server.0 declared) (P server.0) (coord.query_request sc c c.turn server number staple)
query_again_fits sc declared P c number staple server h querying home =
    let is : (P server.0).asker ≡ Some (asking_of server.0 c c.turn) = asker_there sc declared P c server.0 h (ap is_undecided querying)
    ∙ ap (λ (s : Stand). Some (record { stand = s; turn = c.turn; epoch = option_flatten (slice_get c.epochs server.0); deeds = c.deeds })) (ap stand_of querying) in
    query_requested sc declared (P server.0) c c.turn number staple server h.declared_is (h.fits server.0) is (subst (λ (p : Phase). PhaseNumbered p c.deeds) querying h.numbered) (home_is sc c number server home)

-- a coordinator that requests again, as it is
asks_again : (sc : Scenario) (declared : Transaction) (P : ℕ → Pair) (c : Coordinator) → CoordinatorPaired sc declared P c → is_undecided c.phase ≡ true → IsRequesting sc declared P c c c.turn
asks_again sc declared P c h undecided = record { own = refl; epochs = refl; turn_is = refl; is = λ at. asker_there sc declared P c at h undecided; fits = h.fits }

-- the awaited servers of a round are asked again
checks_again_ask : (sc : Scenario) (declared : Transaction) (P : ℕ → Pair) (c : Coordinator) (over : Span) (round : Round) (staple : Staple) → CoordinatorPaired sc declared P c → c.phase ≡ phase.Checking over round staple
    → Each (λ (letter : Letter). AskPairs sc declared c.txn P letter.to letter.body) (coord.round_letters c over c.turn round staple)
checks_again_ask sc declared P c over round staple h checking =
    let undecided : is_undecided c.phase ≡ true = ap is_undecided checking in
    let kept : EachServer (KeepsEpoch c) round.targets = subst (PhaseKept (KeepsEpoch c)) checking (h.keeps undecided) in
    round_letters_fit sc declared P c c over c.turn round staple (missing_in round.targets) (asks_again sc declared P c h undecided) (ap stand_of checking) (subst (λ (p : Phase). PhaseNumbered p c.deeds) checking h.numbered)
    (each_missing (KeepsEpoch c) round.targets kept) (subst (PhaseNames sc declared) checking h.names)

-- and those whose votes are awaited
votes_again_ask : (sc : Scenario) (declared : Transaction) (P : ℕ → Pair) (c : Coordinator) (awaited : List ServerId) → CoordinatorPaired sc declared P c → c.phase ≡ phase.Voting awaited
    → Each (λ (letter : Letter). AskPairs sc declared c.txn P letter.to letter.body) (coord.vote_letters c c.turn awaited)
votes_again_ask sc declared P c awaited h voting =
    let undecided : is_undecided c.phase ≡ true = ap is_undecided voting in
    vote_letters_fit sc declared P c c c.turn awaited (asks_again sc declared P c h undecided) (ap stand_of voting) (subst (PhaseKept (KeepsEpoch c)) voting (h.keeps undecided))

-- what a timer sends again, at each server as it is
pub repeats_ask : (sc : Scenario) (declared : Transaction) (P : ℕ → Pair) (c : Coordinator) → CoordinatorPaired sc declared P c
    → Each (λ (letter : Letter). AskPairs sc declared c.txn P letter.to letter.body) (coord.repeats sc c c.phase)
repeats_ask sc declared P c h =
    timer_by sc c (λ (letters : List Letter). Each (λ (letter : Letter). AskPairs sc declared c.txn P letter.to letter.body) letters)
    (record {
      silent = tt;
      stapled = λ number stapling. (tt, tt);
      queried = λ number staple server querying home. ((refl, query_again_fits sc declared P c number staple server h querying home), tt);
      asked = λ over round asking. (tt, tt);
      read = λ over round reading. (tt, tt);
      probed = λ at probing. (tt, tt);
      prepared = λ over round staple checking. checks_again_ask sc declared P c over round staple h checking;
      voted = λ awaited voting. votes_again_ask sc declared P c awaited h voting;
      ordered = λ ended awaited ending. orders_ask sc declared c.txn P c ended awaited;
    })
