-- Agreement, the coordinator's rows: a decision is forced once, before it is sent, and what is sent is what was decided. Votes and
-- acknowledgements are counted by what servers have prepared and settled.
use Rattle.std.specs.List.{list_any}
use Rattle.std.specs.Option.{option_map_or, option_or}
use Rattle.std.proofs.Common.{Bool, IfSome, List, None, Option, Some, [], ap, cond, false, is_some, map, not, option_and_then, option_map, refl, slice_get, subst, suc, sym, true, zero, ℕ, ◌==◌, ◌||◌, ◌∙◌, ◌∷◌, ◌≡◌}
use Rattle.std.proofs.lemmas.Bool.{or_left, or_parts}
use Rattle.std.proofs.lemmas.Map.Keys.{any_passes_from_place}
use Rattle.std.proofs.lemmas.Option.{same_Some}
use Rattle.tp_types.proofs.ListLemmas.{number_itself}
use Rattle.tp_types.specs.Effect.{Effect, ignores, sends}
use Rattle.tp_model.specs.Agreement.{has_item, has_item_at}
use Rattle.tp_model.specs.Facts.{outcome_of}
use Rattle.tp_model.specs.Queries.{is_at_server, item_of, query_at}
use Rattle.tp_model.specs.Words.actor
use Rattle.tp_model.specs.Words.body
use Rattle.tp_model.specs.Words.decision
use Rattle.tp_model.specs.Words.log
use Rattle.tp_model.specs.Words.outcome
use Rattle.tp_model.specs.Words.vote
use Rattle.tp_model.specs.Words.{AckReply, Actor, Body, Cause, DecideRequest, Decision, InquireRequest, Item, Letter, Mail, Outcome, Query, Reading, Record, Scenario, ServerId, Staple, Transaction, TxnId, Verdict, Vote, VoteReply}
use Rattle.tp_runs.proofs.basics.Homes.{IsHome, decided_voted, home_is, is_probed, is_voted, probed_there}
use Rattle.tp_runs.proofs.basics.Ids.{same_server_is}
use Rattle.tp_types.proofs.EachLemmas.{each_as, each_filter, each_map}
use Rattle.tp_runs.proofs.basics.Passed.{ended_running, passed_running}
use Rattle.tp_runs.proofs.basics.Phases.{is_running}
use Rattle.tp_runs.proofs.basics.Rounds.{EachServer, all_in, each_missing, each_renewed, each_replied, each_started, is_in, missing_in, none_missing, replied_is, updated_is}
use Rattle.tp_runs.proofs.basics.Servers.{servers_over_have, servers_upto_each}
use Rattle.tp_runs.proofs.basics.Logs.{appended, decided_with}
use Rattle.tp_scheme.specs.declared.moves.Point.TheVariants as point
use Rattle.tp_scheme.specs.declared.moves.Point.{Point}
use Rattle.tp_coord.proofs.Rows.{AfterQuery, AfterVotes, AllTrue, AllVoted, ByReading, ByReplies, ByVerdicts, ByVote, Gained, IsAck, IsInquiry, IsJudged, IsPassed, IsPlainYes, IsProbing, IsReply, ProofsRead, QueryRan, coordinator_by, submit_by, timer_by, with_gained}
use Rattle.tp_recover.specs.Log.{decided_in, decision_in}
use Rattle.tp_machine.specs.Machine.{with_age}
use Rattle.tp_actor_log.specs.Records.{log_with}
use Rattle.tp_types.specs.Each.{Each}
use Rattle.tp_coord.specs.Opened.{servers_at}
use Rattle.tp_coord.specs.Row.{aborts, asks, asks_in, asks_votes, checks, commit_round, commits, coordinator_row, decide_letters, is_begun, next_at, next_turn, number_at, point_of, probes, probing_at, own_query, repeats, request, round_letter, round_letters, sends_query, server_of, servers_upto, staple_of, submit_row, validation_round, vote_letter, vote_letters, voting, without}
use Rattle.tp_coord.specs.State.{Coordinator}
use Rattle.tp_coord.specs.declared.coordinator.Phase.TheVariants as phase
use Rattle.tp_coord.specs.declared.coordinator.Phase.{Phase}
use Rattle.tp_coord.specs.declared.coordinator.Span.TheVariants as span
use Rattle.tp_coord.specs.declared.coordinator.Span.{Span}
use Rattle.tp_round.specs.Judge.{after_judgement, after_reply, aim_in, is_missing, judge, met_in, mets_in, new_target, next_round}
use Rattle.tp_round.specs.declared.round.Judged.TheVariants as judged
use Rattle.tp_round.specs.declared.round.Round.{Round}
use Rattle.tp_round.specs.declared.round.Wanted.{Wanted}

-- ---- what is kept

-- a coordinator that is ending has decided so on its log; another has not decided
abbrev pub PhaseAgrees : Phase → Option Decision → Type 0
PhaseAgrees (phase.Ending ended awaited) decided = option_map outcome_of decided ≡ Some ended
PhaseAgrees _ decided = decided ≡ None

-- the server has an item of the transaction
abbrev pub HoldsItem : Scenario → TxnId → ServerId → Type 0
HoldsItem sc txn at = has_item_at sc at txn ≡ true

-- each of these servers has an item of the transaction
abbrev pub HaveItems : Scenario → TxnId → List ServerId → Type 0
HaveItems sc txn servers = Each (HoldsItem sc txn) servers

-- each server that a phase speaks of has an item of the transaction
abbrev pub PhaseHasItems : Scenario → TxnId → Phase → Type 0
PhaseHasItems sc txn (phase.Asking over round) = EachServer (HoldsItem sc txn) round.targets
PhaseHasItems sc txn (phase.Checking over round staple) = EachServer (HoldsItem sc txn) round.targets
PhaseHasItems sc txn (phase.Reading over round) = EachServer (HoldsItem sc txn) round.targets
PhaseHasItems sc txn (phase.Voting awaited) = HaveItems sc txn awaited
PhaseHasItems sc txn (phase.Ending ended awaited) = HaveItems sc txn awaited
PhaseHasItems sc txn _ = Unit {0}

-- a coordinator agrees with its log, its servers are those of its transaction, and it asks no other
pub record CoordinatorAgrees (sc : Scenario) (c : Coordinator) (kept : List Record) : Type 0 where
  pub decided : PhaseAgrees c.phase (decided_in kept)
  pub servers : c.servers ≡ servers_at sc c.txn
  pub awaited : PhaseHasItems sc c.txn c.phase

-- each of a transaction's servers that is not awaited
abbrev pub AllBut : (ServerId → Type 0) → List ServerId → List ServerId → Type 0
AllBut P awaited servers = Each (λ (at : ServerId). is_in awaited at ≡ false → P at) servers

-- each server of a round at commit that has replied has prepared; P says who has. A round over the queries so far asks for no vote
abbrev pub SpanRests : (ServerId → Type 0) → Span → List ServerId → List ServerId → Type 0
SpanRests P (span.Validate number) awaited servers = Unit {0}
SpanRests P span.Commit awaited servers = AllBut P awaited servers

-- who has voted has prepared, and who has acknowledged has settled; P and S say who has
abbrev pub PhaseRests : (P S : ServerId → Type 0) → Phase → List ServerId → Type 0
PhaseRests P S (phase.Asking over round) servers = SpanRests P over (missing_in round.targets) servers
PhaseRests P S (phase.Checking over round staple) servers = SpanRests P over (missing_in round.targets) servers
PhaseRests P S (phase.Reading over round) servers = SpanRests P over [] servers
PhaseRests P S (phase.Voting awaited) servers = AllBut P awaited servers
PhaseRests P S phase.VoteProbing servers = AllBut P [] servers
PhaseRests P S (phase.Ending ended awaited) servers = AllBut S awaited servers
PhaseRests P S _ servers = Unit {0}

-- the actor is a server with an item of the transaction
abbrev pub HasItem : Scenario → Actor → TxnId → Type 0
HasItem sc (actor.Server at) txn = has_item_at sc at txn ≡ true
HasItem sc _ txn = ⊥

-- a request of a transaction that was submitted goes to a server with an item of it
pub record RequestAgrees (sc : Scenario) (txn : TxnId) (begun : Bool) (to : Actor) (asked : TxnId) : Type 0 where
  pub same_txn : asked ≡ txn
  pub item : HasItem sc to asked
  pub submitted : begun ≡ true

-- an order to end is such a request, and is the decision
pub record OrderAgrees (sc : Scenario) (txn : TxnId) (begun : Bool) (decided : Option Decision) (to : Actor) (order : DecideRequest) : Type 0 where
  pub asked : RequestAgrees sc txn begun to order.txn
  pub decided_is : option_map outcome_of decided ≡ Some order.outcome

-- what a letter of the transaction's coordinator says agrees with what it has decided; coordinators send no votes, acknowledge nothing, and
-- do not ask how it was decided
abbrev pub BodyAgrees : Scenario → TxnId → Bool → Option Decision → Actor → Body → Type 0
BodyAgrees sc txn begun decided to (body.Query q) = RequestAgrees sc txn begun to q.txn
BodyAgrees sc txn begun decided to (body.Validate v) = RequestAgrees sc txn begun to v.txn
BodyAgrees sc txn begun decided to (body.Prepare p) = RequestAgrees sc txn begun to p.txn
BodyAgrees sc txn begun decided to (body.Decide order) = OrderAgrees sc txn begun decided to order
BodyAgrees sc txn begun decided to (body.Vote reply) = ⊥
BodyAgrees sc txn begun decided to (body.Ack ack) = ⊥
BodyAgrees sc txn begun decided to (body.Inquire inquiry) = ⊥
BodyAgrees sc txn begun decided to _ = Unit {0}

abbrev pub LetterAgrees : Scenario → TxnId → Bool → Option Decision → Letter → Type 0
LetterAgrees sc txn begun decided letter = BodyAgrees sc txn begun decided letter.to letter.body

-- a decision on a coordinator's log is its own transaction's
abbrev pub IsOwn : TxnId → Record → Type 0
IsOwn txn (log.Decided d) = d.txn ≡ txn
IsOwn txn _ = Unit {0}

-- a commit is decided where each of these servers has prepared
abbrev pub DecisionRests : (ServerId → Type 0) → List ServerId → Decision → Type 0
DecisionRests P servers (decision.Commit committed) = Each P servers
DecisionRests P servers (decision.Abort why) = Unit {0}

abbrev pub RecordServed : (ServerId → Type 0) → List ServerId → Record → Type 0
RecordServed P servers (log.Decided d) = DecisionRests P servers d.decision
RecordServed P servers _ = Unit {0}

-- what is forced is the coordinator's own, comes where nothing was decided, and a commit where all servers have prepared
pub record IsFirst (sc : Scenario) (P : ServerId → Type 0) (txn : TxnId) (kept : List Record) (forced : Record) : Type 0 where
  pub undecided : decided_in kept ≡ None
  pub own : IsOwn txn forced
  pub prepared : RecordServed P (servers_at sc txn) forced

-- what a reply says of its sender: while nothing is decided, a vote YES comes from one that has prepared; who acknowledges has settled; and
-- who asks for the decision has an item of the transaction
abbrev pub YesRests : Type 0 → Vote → Type 0
YesRests prepared (vote.Yes verdicts) = prepared
YesRests prepared (vote.No why) = Unit {0}

abbrev pub ReplyRests : (P S I : ServerId → Type 0) → Option Decision → Actor → Body → Type 0
ReplyRests P S I decided (actor.Server at) (body.Vote reply) = YesRests (decided ≡ None → P at) reply.vote
ReplyRests P S I decided (actor.Server at) (body.Ack ack) = S at
ReplyRests P S I decided (actor.Server at) (body.Inquire inquiry) = I at
ReplyRests P S I decided _ _ = Unit {0}

-- an act of a coordinator: it agrees with its log after it, it forces nothing after a decision, and its letters agree
pub record CoordinatorLawful (sc : Scenario) (P S : ServerId → Type 0) (c : Coordinator) (kept : List Record) (effect : Effect Coordinator) : Type 0 where
  pub agrees : CoordinatorAgrees sc effect.state (log_with kept effect.reaction.append)
  pub replied : PhaseRests P S effect.state.phase (servers_at sc c.txn)
  pub same_begun : is_begun effect.state.phase ≡ is_begun c.phase
  pub same_txn : effect.state.txn ≡ c.txn
  pub fresh : IfSome effect.reaction.append (IsFirst sc P c.txn kept)
  pub letters : Each (LetterAgrees sc c.txn (is_begun effect.state.phase) (decided_in (log_with kept effect.reaction.append))) effect.reaction.letters

-- ---- phases

-- a coordinator whose transaction was not submitted is idle
pub idle_is : (awaited : Phase) → is_begun awaited ≡ false → awaited ≡ phase.Idle
idle_is phase.Idle e = refl
idle_is (phase.Stapling number) e = absurd (cc)
idle_is (phase.Querying number staple) e = absurd (cc)
idle_is (phase.Probing number) e = absurd (cc)
idle_is (phase.Asking over round) e = absurd (cc)
idle_is (phase.Checking over round staple) e = absurd (cc)
idle_is (phase.Reading over round) e = absurd (cc)
idle_is (phase.Voting awaited) e = absurd (cc)
idle_is phase.VoteProbing e = absurd (cc)
idle_is (phase.Ending ended servers) e = absurd (cc)

-- and has not decided
pub undecided_idle : (awaited : Phase) (decided : Option Decision) → is_begun awaited ≡ false → PhaseAgrees awaited decided → decided ≡ None
undecided_idle awaited decided e h = subst (λ (p : Phase). PhaseAgrees p decided) (idle_is awaited e) h

-- one that has decided was submitted
pub decided_begun : (awaited : Phase) (decided : Option Decision) → PhaseAgrees awaited decided → is_some decided ≡ true → is_begun awaited ≡ true
decided_begun phase.Idle decided h e = let not : is_some decided ≡ false = ap is_some h in absurd (cc)
decided_begun (phase.Stapling number) decided h e = refl
decided_begun (phase.Querying number staple) decided h e = refl
decided_begun (phase.Probing number) decided h e = refl
decided_begun (phase.Asking over round) decided h e = refl
decided_begun (phase.Checking over round staple) decided h e = refl
decided_begun (phase.Reading over round) decided h e = refl
decided_begun (phase.Voting awaited) decided h e = refl
decided_begun phase.VoteProbing decided h e = refl
decided_begun (phase.Ending ended servers) decided h e = refl

-- ---- servers

-- each of a transaction's servers has an item of it
pub servers_at_have_items : (sc : Scenario) (txn : TxnId) → HaveItems sc txn (servers_at sc txn)
servers_at_have_items sc txn = servers_over_have sc txn span.Commit

-- ---- the server of a query

asked_among : (declared : Transaction) (number : ℕ) (asked : Query) (test : Query → Bool) → query_at declared number ≡ Some asked → test asked ≡ true → list_any test declared.queries ≡ true
asked_among declared zero asked test e p = absurd (cc)
asked_among declared (suc before) asked test e p = any_passes_from_place test declared.queries before asked e p

item_there_in_agreement : (item : Option Item) (at : ServerId) → option_map (λ (i : Item). i.server) item ≡ Some at → option_map_or (λ (i : Item). i.server.0 == at.0) item false ≡ true
item_there_in_agreement None at e = absurd (cc)
item_there_in_agreement (Some item) at e = ap (λ (server : ServerId). server.0 == at.0) (same_Some item.server at e) ∙ number_itself at.0

-- the server of a query has an item of the transaction
pub asked_has_item : (sc : Scenario) (c : Coordinator) (number : ℕ) (asked : Query) (at : ServerId) → own_query sc c number ≡ Some asked → server_of sc asked ≡ Some at → has_item_at sc at c.txn ≡ true
asked_has_item sc c number asked at e there = found (slice_get sc.txns c.txn.0) e
  where
    found : (declared : Option Transaction) → option_and_then (λ (txn : Transaction). query_at txn number) declared ≡ Some asked → option_map_or (has_item sc at) declared false ≡ true
    found None f = absurd (cc)
    found (Some declared) f = asked_among declared number asked (is_at_server sc at.0) f (item_there_in_agreement (slice_get sc.items (item_of asked).0) at there)

-- ---- who is awaited

-- where all are awaited nothing is said
pub all_but_all : (P : ServerId → Type 0) (servers : List ServerId) → AllBut P servers servers
all_but_all P servers =
    each_as (λ (at : ServerId). is_in servers at ≡ true) (λ (at : ServerId). is_in servers at ≡ false → P at) (λ at e f. absurd (cc)) servers (all_in servers)

all_new : (started : List ServerId) → missing_in (map new_target started) ≡ started
all_new [] = refl
all_new (server ∷ others) = ap (λ (rest : List ServerId). server ∷ rest) (all_new others)

-- of servers that were asked anew nothing is said
all_but_new : (P : ServerId → Type 0) (servers : List ServerId) → AllBut P (missing_in (map new_target servers)) servers
all_but_new P servers = subst (λ (missing : List ServerId). AllBut P missing servers) (sym (all_new servers)) (all_but_all P servers)

removed : (first : ServerId) (awaited left : List ServerId) (server at : ServerId) (b c : Bool) → (first.0 == server.0) ≡ b → (first.0 == at.0) ≡ c
    → (is_in awaited at ≡ true → is_in left at ≡ false → at ≡ server) → (c || is_in awaited at) ≡ true → is_in (cond (not b) (first ∷ left) left) at ≡ false → at ≡ server
removed first awaited left server at true true g k later e f = sym (same_server_is first at k) ∙ same_server_is first server g
removed first awaited left server at true false g k later e f = later e f
removed first awaited left server at false true g k later e f = let awaits = or_left (first.0 == at.0) (is_in left at) k in absurd (cc)
removed first awaited left server at false false g k later e f = later e (or_parts (first.0 == at.0) (is_in left at) f).1

-- a server that is awaited no more is the one that replied
removed_is : (awaited : List ServerId) (server at : ServerId) → is_in awaited at ≡ true → is_in (without awaited server) at ≡ false → at ≡ server
removed_is [] server at e f = absurd (cc)
removed_is (first ∷ awaited) server at e f = removed first awaited (without awaited server) server at (first.0 == server.0) (first.0 == at.0) refl refl (removed_is awaited server at) e f

-- once a server has replied
all_but_one : (P : ServerId → Type 0) (awaited : List ServerId) (server : ServerId) (servers : List ServerId) → P server → AllBut P awaited servers → AllBut P (without awaited server) servers
all_but_one P awaited server servers p h =
    each_as (λ (at : ServerId). is_in awaited at ≡ false → P at) (λ (at : ServerId). is_in (without awaited server) at ≡ false → P at)
    (λ at old gone. replied_by at (is_in awaited at) refl old gone) servers h
  where
    replied_by : (at : ServerId) (b : Bool) → is_in awaited at ≡ b → (is_in awaited at ≡ false → P at) → is_in (without awaited server) at ≡ false → P at
    replied_by at true e old gone = subst P (sym (removed_is awaited server at e gone)) p
    replied_by at false e old gone = old e

-- once a server has replied in a round
all_but_reply : (P : ServerId → Type 0) (round : Round) (server : ServerId) (verdicts : List Verdict) (servers : List ServerId) → P server → AllBut P (missing_in round.targets) servers
    → AllBut P (missing_in (after_reply round server verdicts).targets) servers
all_but_reply P round server verdicts servers p h =
    each_as (λ (at : ServerId). is_in (missing_in round.targets) at ≡ false → P at) (λ (at : ServerId). is_in (missing_in (after_reply round server verdicts).targets) at ≡ false → P at)
    (λ at old gone. replied_by at (is_in (missing_in round.targets) at) refl old gone) servers h
  where
    replied_by : (at : ServerId) (b : Bool) → is_in (missing_in round.targets) at ≡ b → (is_in (missing_in round.targets) at ≡ false → P at) → is_in (missing_in (after_reply round server verdicts).targets) at ≡ false → P at
    replied_by at true e old gone = subst P (sym (replied_is round.targets server at verdicts e gone)) p
    replied_by at false e old gone = old e

-- none is awaited
none_awaited : (P : ServerId → Type 0) (servers : List ServerId) → AllBut P [] servers → Each P servers
none_awaited P servers h = each_as (λ (at : ServerId). is_in [] at ≡ false → P at) P (λ at replied. replied refl) servers h

-- what holds of each that is awaited holds of those that are left
left_have_items : (sc : Scenario) (txn : TxnId) (awaited : List ServerId) (server : ServerId) → HaveItems sc txn awaited → HaveItems sc txn (without awaited server)
left_have_items sc txn awaited server h = each_filter (λ (at : ServerId). has_item_at sc at txn ≡ true) (λ (other : ServerId). not (other.0 == server.0)) awaited h

-- ---- rows

-- what a coordinator keeps, in an undecided phase or another
pub record Keeps (sc : Scenario) (P S : ServerId → Type 0) (c : Coordinator) (kept : List Record) : Type 0 where
  pub agrees : CoordinatorAgrees sc c kept
  pub replied : PhaseRests P S c.phase (servers_at sc c.txn)

ignores_lawful_in_coordinator : (sc : Scenario) (P S : ServerId → Type 0) (c : Coordinator) (kept : List Record) → Keeps sc P S c kept → CoordinatorLawful sc P S c kept (ignores c)
ignores_lawful_in_coordinator sc P S c kept h = record { agrees = h.agrees; replied = h.replied; same_begun = refl; same_txn = refl; fresh = tt; letters = tt }

-- the authority is asked by a coordinator that has not decided, before a round of which this holds
asks_lawful : (sc : Scenario) (P S : ServerId → Type 0) (c : Coordinator) (kept : List Record) (over : Span) (round : Round) → decided_in kept ≡ None → is_begun c.phase ≡ true → c.servers ≡ servers_at sc c.txn
    → EachServer (HoldsItem sc c.txn) round.targets → SpanRests P over (missing_in round.targets) (servers_at sc c.txn) → CoordinatorLawful sc P S c kept (asks c over round)
asks_lawful sc P S c kept over round d b s items replied =
    record {
      agrees = record { decided = d; servers = s; awaited = items };
      replied = replied;
      same_begun = sym b;
      same_txn = refl;
      fresh = tt;
      letters = (tt, tt);
    }

-- before a query the authority is asked
staples_lawful : (sc : Scenario) (P S : ServerId → Type 0) (c : Coordinator) (kept : List Record) (number : ℕ) → decided_in kept ≡ None → is_begun c.phase ≡ true → c.servers ≡ servers_at sc c.txn
    → CoordinatorLawful sc P S c kept (asks_in c (phase.Stapling number))
staples_lawful sc P S c kept number d b s = record { agrees = record { decided = d; servers = s; awaited = tt }; replied = tt; same_begun = sym b; same_txn = refl; fresh = tt; letters = (tt, tt) }

-- a query is asked, which is sent to a server with an item of the transaction
sends_query_lawful : (sc : Scenario) (P S : ServerId → Type 0) (c : Coordinator) (kept : List Record) (number : ℕ) (staple : Option Staple) (at : ServerId) → decided_in kept ≡ None → is_begun c.phase ≡ true
    → c.servers ≡ servers_at sc c.txn → IsHome sc c number at → CoordinatorLawful sc P S c kept (sends_query sc c number staple at)
sends_query_lawful sc P S c kept number staple at d b s k =
    record {
      agrees = record { decided = d; servers = s; awaited = tt };
      replied = tt;
      same_begun = sym b;
      same_txn = refl;
      fresh = tt;
      letters = (record { same_txn = refl; item = asked_has_item sc c number k.asked at k.asked_is k.server_is; submitted = refl }, tt);
    }

-- a request in a round
round_letter_lawful : (sc : Scenario) (c : Coordinator) (begun : Bool) (decided : Option Decision) (over : Span) (turn : ℕ) (round : Round) (staple : Staple) (at : ServerId) → begun ≡ true → HoldsItem sc c.txn at
    → LetterAgrees sc c.txn begun decided (round_letter c over turn round staple at)
round_letter_lawful sc c begun decided (span.Validate number) turn round staple at b item = record { same_txn = refl; item = item; submitted = b }
round_letter_lawful sc c begun decided span.Commit turn round staple at b item = record { same_txn = refl; item = item; submitted = b }

round_letters_lawful : (sc : Scenario) (c : Coordinator) (begun : Bool) (decided : Option Decision) (over : Span) (turn : ℕ) (round : Round) (staple : Staple) → begun ≡ true → EachServer (HoldsItem sc c.txn) round.targets
    → Each (LetterAgrees sc c.txn begun decided) (round_letters c over turn round staple)
round_letters_lawful sc c begun decided over turn round staple b items =
    each_map (HoldsItem sc c.txn) (LetterAgrees sc c.txn begun decided) (round_letter c over turn round staple) (λ at item. round_letter_lawful sc c begun decided over turn round staple at b item) (missing_in round.targets)
    (each_missing (HoldsItem sc c.txn) round.targets items)

-- requests to prepare without an evaluation
vote_letters_lawful : (sc : Scenario) (c : Coordinator) (begun : Bool) (decided : Option Decision) (turn : ℕ) (servers : List ServerId) → begun ≡ true → HaveItems sc c.txn servers
    → Each (LetterAgrees sc c.txn begun decided) (vote_letters c turn servers)
vote_letters_lawful sc c begun decided turn servers b items =
    each_map (HoldsItem sc c.txn) (LetterAgrees sc c.txn begun decided) (vote_letter c turn) (λ at item. record { same_txn = refl; item = item; submitted = b }) servers items

-- each awaited server of a round is asked
checks_lawful : (sc : Scenario) (P S : ServerId → Type 0) (c : Coordinator) (kept : List Record) (over : Span) (round : Round) (staple : Staple) → Keeps sc P S c kept → c.phase ≡ phase.Asking over round
    → CoordinatorLawful sc P S c kept (checks c over round staple)
checks_lawful sc P S c kept over round staple h e =
    let items : EachServer (HoldsItem sc c.txn) round.targets = subst (PhaseHasItems sc c.txn) e h.agrees.awaited in
    record {
      agrees = record { decided = subst (λ (p : Phase). PhaseAgrees p (decided_in kept)) e h.agrees.decided; servers = h.agrees.servers; awaited = items };
      replied = subst (λ (p : Phase). PhaseRests P S p (servers_at sc c.txn)) e h.replied;
      same_begun = sym (ap is_begun e);
      same_txn = refl;
      fresh = tt;
      letters = round_letters_lawful sc c true (decided_in kept) over (next_turn c) round staple refl items;
    }

-- all servers are asked to prepare without an evaluation
asks_votes_lawful : (sc : Scenario) (P S : ServerId → Type 0) (c : Coordinator) (kept : List Record) → decided_in kept ≡ None → is_begun c.phase ≡ true → c.servers ≡ servers_at sc c.txn
    → CoordinatorLawful sc P S c kept (asks_votes c)
asks_votes_lawful sc P S c kept d b s =
    let items : HaveItems sc c.txn c.servers = subst (HaveItems sc c.txn) (sym s) (servers_at_have_items sc c.txn) in
    record {
      agrees = record { decided = d; servers = s; awaited = items };
      replied = subst (λ (servers : List ServerId). AllBut P servers (servers_at sc c.txn)) (sym s) (all_but_all P (servers_at sc c.txn));
      same_begun = sym b;
      same_txn = refl;
      fresh = tt;
      letters = vote_letters_lawful sc c true (decided_in kept) (next_turn c) c.servers refl items;
    }

-- the master is asked for the proofs so far: after a query, or after the votes, and then each server has prepared
proofs_lawful : (sc : Scenario) (P S : ServerId → Type 0) (c : Coordinator) (kept : List Record) (at : Point) → decided_in kept ≡ None → is_begun c.phase ≡ true → c.servers ≡ servers_at sc c.txn → is_probed at ≡ true
    → (is_voted at ≡ true → AllBut P [] (servers_at sc c.txn)) → CoordinatorLawful sc P S c kept (probes c (probing_at at))
proofs_lawful sc P S c kept (point.Ran number) d b s e rests = record { agrees = record { decided = d; servers = s; awaited = tt }; replied = tt; same_begun = sym b; same_txn = refl; fresh = tt; letters = (tt, tt) }
proofs_lawful sc P S c kept point.Voted d b s e rests = record { agrees = record { decided = d; servers = s; awaited = tt }; replied = rests refl; same_begun = sym b; same_txn = refl; fresh = tt; letters = (tt, tt) }
proofs_lawful sc P S c kept (point.Begun number) d b s e rests = absurd (cc)
proofs_lawful sc P S c kept (point.Stapled number) d b s e rests = absurd (cc)
proofs_lawful sc P S c kept (point.Read number) d b s e rests = absurd (cc)
proofs_lawful sc P S c kept (point.Validated number) d b s e rests = absurd (cc)
proofs_lawful sc P S c kept point.VoteRead d b s e rests = absurd (cc)

-- what a coordinator does with what it gained, the coordinator does
gained_lawful : (sc : Scenario) (P S : ServerId → Type 0) (c : Coordinator) (now : Gained) (kept : List Record) (effect : Effect Coordinator) → CoordinatorLawful sc P S (with_gained c now) kept effect → CoordinatorLawful sc P S c kept effect
gained_lawful sc P S c now kept effect on = record { agrees = on.agrees; replied = on.replied; same_begun = on.same_begun; same_txn = on.same_txn; fresh = on.fresh; letters = on.letters }

-- an order to each of these servers
pub orders_lawful : (sc : Scenario) (txn : TxnId) (begun : Bool) (decided : Option Decision) (ended : Outcome) (c : Coordinator) (servers : List ServerId) → c.txn ≡ txn → begun ≡ true
    → option_map outcome_of decided ≡ Some ended → HaveItems sc txn servers
    → Each (LetterAgrees sc txn begun decided) (map (λ (at : ServerId). request c at (body.Decide (record { txn = c.txn; outcome = ended }))) servers)
orders_lawful sc txn begun decided ended c [] same b d h = tt
orders_lawful sc txn begun decided ended c (at ∷ servers) same b d h = (
  record { asked = record { same_txn = same; item = subst (λ (t : TxnId). has_item_at sc at t ≡ true) (sym same) h.0; submitted = b }; decided_is = d },
  orders_lawful sc txn begun decided ended c servers same b d h.1,
)

-- a commit is forced where nothing was decided and all have prepared, and then sent
commits_lawful : (sc : Scenario) (P S : ServerId → Type 0) (c : Coordinator) (kept : List Record) (now : Gained) (rounds : ℕ) → Keeps sc P S c kept → decided_in kept ≡ None
    → is_begun c.phase ≡ true → Each P (servers_at sc c.txn) → CoordinatorLawful sc P S c kept (commits (with_gained c now) rounds)
commits_lawful sc P S c kept now rounds h d b prepared =
    let forced = (commits (with_gained c now) rounds).reaction.append in
    let ended : option_map outcome_of (decided_in (log_with kept forced)) ≡ Some outcome.Commit = ap (option_map outcome_of) (decided_with kept forced ∙ ap (λ z. option_or z (appended decision_in forced)) d) in
    let items : HaveItems sc c.txn c.servers = subst (HaveItems sc c.txn) (sym h.agrees.servers) (servers_at_have_items sc c.txn) in
    record {
      agrees = record { decided = ended; servers = h.agrees.servers; awaited = items };
      replied = subst (λ (servers : List ServerId). AllBut S servers (servers_at sc c.txn)) (sym h.agrees.servers) (all_but_all S (servers_at sc c.txn));
      same_begun = sym b;
      same_txn = refl;
      fresh = record { undecided = d; own = refl; prepared = prepared };
      letters = orders_lawful sc c.txn true (decided_in (log_with kept forced)) outcome.Commit c c.servers refl refl ended items;
    }

-- an abort is forced where nothing was decided, and then sent
aborts_lawful : (sc : Scenario) (P S : ServerId → Type 0) (c : Coordinator) (kept : List Record) (why : Cause) → Keeps sc P S c kept → decided_in kept ≡ None
    → is_begun c.phase ≡ true → CoordinatorLawful sc P S c kept (aborts c why)
aborts_lawful sc P S c kept why h d b =
    let forced = (aborts c why).reaction.append in
    let now : option_map outcome_of (decided_in (log_with kept forced)) ≡ Some outcome.Abort = ap (option_map outcome_of) (decided_with kept forced ∙ ap (λ z. option_or z (appended decision_in forced)) d) in
    let items : HaveItems sc c.txn c.servers = subst (HaveItems sc c.txn) (sym h.agrees.servers) (servers_at_have_items sc c.txn) in
    record {
      agrees = record { decided = now; servers = h.agrees.servers; awaited = items };
      replied = subst (λ (servers : List ServerId). AllBut S servers (servers_at sc c.txn)) (sym h.agrees.servers) (all_but_all S (servers_at sc c.txn));
      same_begun = sym b;
      same_txn = refl;
      fresh = record { undecided = d; own = refl; prepared = tt };
      letters = orders_lawful sc c.txn true (decided_in (log_with kept forced)) outcome.Abort c c.servers refl refl now items;
    }

-- what is known where a reply in a round is awaited and comes
record IsCounted (sc : Scenario) (P S : ServerId → Type 0) (c : Coordinator) (kept : List Record) (over : Span) (round : Round) : Type 0 where
  pub undecided : decided_in kept ≡ None
  pub begun : is_begun c.phase ≡ true
  pub items : EachServer (HoldsItem sc c.txn) round.targets
  pub prepared : SpanRests P over (missing_in round.targets) (servers_at sc c.txn)

-- who votes YES has prepared, while nothing is decided
yes_prepared : (sc : Scenario) (P S : ServerId → Type 0) (c : Coordinator) (kept : List Record) (mail : Mail) (reply : VoteReply) (server : ServerId) (verdicts : List Verdict)
    → ReplyRests P S (HoldsItem sc c.txn) (decided_in kept) mail.letter.from mail.letter.body → mail.letter.body ≡ body.Vote reply → mail.letter.from ≡ actor.Server server → reply.vote ≡ vote.Yes verdicts → decided_in kept ≡ None → P server
yes_prepared sc P S c kept mail reply server verdicts m said from voted =
    let rests : YesRests (decided_in kept ≡ None → P server) reply.vote =
    subst (λ (heard : Body). ReplyRests P S (HoldsItem sc c.txn) (decided_in kept) (actor.Server server) heard) said (subst (λ (sender : Actor). ReplyRests P S (HoldsItem sc c.txn) (decided_in kept) sender mail.letter.body) from m) in
    subst (YesRests (decided_in kept ≡ None → P server)) voted rests

reply_counted : (sc : Scenario) (P S : ServerId → Type 0) (c : Coordinator) (kept : List Record) (mail : Mail) (over : Span) (round : Round) (staple : Staple) (server : ServerId) (verdicts : List Verdict) → Keeps sc P S c kept
    → ReplyRests P S (HoldsItem sc c.txn) (decided_in kept) mail.letter.from mail.letter.body → IsReply c mail over round staple server verdicts → IsCounted sc P S c kept over (after_reply round server verdicts)
reply_counted sc P S c kept mail _ _ _ _ _ h m (ByVote reply round staple server verdicts y) =
    let undecided : decided_in kept ≡ None = subst (λ (p : Phase). PhaseAgrees p (decided_in kept)) y.checking h.agrees.decided in
    record {
      undecided = undecided;
      begun = ap is_begun y.checking;
      items = each_replied (HoldsItem sc c.txn) round.targets server verdicts (subst (PhaseHasItems sc c.txn) y.checking h.agrees.awaited);
      prepared = all_but_reply P round server verdicts (servers_at sc c.txn) (yes_prepared sc P S c kept mail reply server verdicts m y.said_is y.from_is y.vote_is undecided)
          (subst (λ (p : Phase). PhaseRests P S p (servers_at sc c.txn)) y.checking h.replied);
    }
reply_counted sc P S c kept mail _ _ _ _ _ h m (ByVerdicts reply number round staple server verdicts y) =
    record {
      undecided = subst (λ (p : Phase). PhaseAgrees p (decided_in kept)) y.checking h.agrees.decided;
      begun = ap is_begun y.checking;
      items = each_replied (HoldsItem sc c.txn) round.targets server verdicts (subst (PhaseHasItems sc c.txn) y.checking h.agrees.awaited);
      prepared = tt;
    }

-- where a reply of all has come each server has prepared, in a round at commit
whole_rests : (sc : Scenario) (P S : ServerId → Type 0) (c : Coordinator) (kept : List Record) (over : Span) (round : Round) → IsCounted sc P S c kept over round → list_any is_missing round.targets ≡ false → SpanRests P over [] (servers_at sc c.txn)
whole_rests sc P S c kept over round k whole = subst (λ (missing : List ServerId). SpanRests P over missing (servers_at sc c.txn)) (none_missing round.targets whole) k.prepared

-- so it has whoever is asked again
rests_again : (P : ServerId → Type 0) (over : Span) (missing servers : List ServerId) → SpanRests P over [] servers → SpanRests P over missing servers
rests_again P (span.Validate number) missing servers h = tt
rests_again P span.Commit missing servers h = each_as (λ (at : ServerId). is_in [] at ≡ false → P at) (λ (at : ServerId). is_in missing at ≡ false → P at) (λ at replied left. replied refl) servers h

-- the master is read once all have replied
probes_lawful : (sc : Scenario) (P S : ServerId → Type 0) (c : Coordinator) (kept : List Record) (over : Span) (round : Round) → c.servers ≡ servers_at sc c.txn → IsCounted sc P S c kept over round → list_any is_missing round.targets ≡ false
    → CoordinatorLawful sc P S c kept (probes c (phase.Reading over round))
probes_lawful sc P S c kept over round s k whole =
    record {
      agrees = record { decided = k.undecided; servers = s; awaited = k.items };
      replied = whole_rests sc P S c kept over round k whole;
      same_begun = sym k.begun;
      same_txn = refl;
      fresh = tt;
      letters = (tt, tt);
    }

-- what is known where a round is judged: at commit each server has prepared
record IsWhole (sc : Scenario) (P S : ServerId → Type 0) (c : Coordinator) (kept : List Record) (over : Span) (round : Round) : Type 0 where
  pub undecided : decided_in kept ≡ None
  pub begun : is_begun c.phase ≡ true
  pub items : EachServer (HoldsItem sc c.txn) round.targets
  pub prepared : SpanRests P over [] (servers_at sc c.txn)

judged_counted : (sc : Scenario) (P S : ServerId → Type 0) (c : Coordinator) (kept : List Record) (mail : Mail) (over : Span) (round : Round) (staple : Option Staple) (reading : Option Reading)
    → Keeps sc P S c kept → ReplyRests P S (HoldsItem sc c.txn) (decided_in kept) mail.letter.from mail.letter.body → IsJudged c mail over round staple reading → IsWhole sc P S c kept over round
judged_counted sc P S c kept mail _ _ _ _ h m (ByReplies over round staple server verdicts y whole unread) =
    let k = reply_counted sc P S c kept mail over round staple server verdicts h m y in
    record { undecided = k.undecided; begun = k.begun; items = k.items; prepared = whole_rests sc P S c kept over (after_reply round server verdicts) k whole }
judged_counted sc P S c kept mail _ _ _ _ h m (ByReading reply over round k) =
    record {
      undecided = subst (λ (p : Phase). PhaseAgrees p (decided_in kept)) k.reading h.agrees.decided;
      begun = ap is_begun k.reading;
      items = subst (PhaseHasItems sc c.txn) k.reading h.agrees.awaited;
      prepared = subst (λ (p : Phase). PhaseRests P S p (servers_at sc c.txn)) k.reading h.replied;
    }

-- the next round after an update
updated_lawful : (sc : Scenario) (P S : ServerId → Type 0) (c : Coordinator) (kept : List Record) (over : Span) (round : Round) (reading : Option Reading) (named : List Wanted) → IsWhole sc P S c kept over round → c.servers ≡ servers_at sc c.txn
    → judge round reading ≡ judged.Update named → CoordinatorLawful sc P S c kept (asks c over (after_judgement round reading))
updated_lawful sc P S c kept over round reading named k s e =
    let next = next_round round (aim_in round reading) named (mets_in round (met_in round reading)) in
    subst (λ (r : Round). CoordinatorLawful sc P S c kept (asks c over r)) (sym (updated_is round reading named e))
    (asks_lawful sc P S c kept over next k.undecided k.begun s (each_renewed (HoldsItem sc c.txn) (aim_in round reading) round.targets k.items)
    (rests_again P over (missing_in next.targets) (servers_at sc c.txn) k.prepared))

-- a vote YES without an evaluation: who is awaited no more has prepared
plain_rests : (sc : Scenario) (P S : ServerId → Type 0) (c : Coordinator) (kept : List Record) (mail : Mail) (reply : VoteReply) (awaited : List ServerId) (server : ServerId) (verdicts : List Verdict) → Keeps sc P S c kept
    → ReplyRests P S (HoldsItem sc c.txn) (decided_in kept) mail.letter.from mail.letter.body → IsPlainYes c mail reply awaited server verdicts → AllBut P (without awaited server) (servers_at sc c.txn)
plain_rests sc P S c kept mail reply awaited server verdicts h m y =
    let undecided : decided_in kept ≡ None = subst (λ (p : Phase). PhaseAgrees p (decided_in kept)) y.voting h.agrees.decided in
    all_but_one P awaited server (servers_at sc c.txn) (yes_prepared sc P S c kept mail reply server verdicts m y.said_is y.from_is y.vote_is undecided) (subst (λ (p : Phase). PhaseRests P S p (servers_at sc c.txn)) y.voting h.replied)

voted_lawful : (sc : Scenario) (P S : ServerId → Type 0) (c : Coordinator) (kept : List Record) (mail : Mail) (reply : VoteReply) (awaited : List ServerId) (server : ServerId) (verdicts : List Verdict) → Keeps sc P S c kept
    → ReplyRests P S (HoldsItem sc c.txn) (decided_in kept) mail.letter.from mail.letter.body → IsPlainYes c mail reply awaited server verdicts → CoordinatorLawful sc P S c kept (sends (voting c (without awaited server)) [])
voted_lawful sc P S c kept mail reply awaited server verdicts h m y =
    record {
      agrees = record {
        decided = subst (λ (p : Phase). PhaseAgrees p (decided_in kept)) y.voting h.agrees.decided;
        servers = h.agrees.servers;
        awaited = left_have_items sc c.txn awaited server (subst (PhaseHasItems sc c.txn) y.voting h.agrees.awaited);
      };
      replied = plain_rests sc P S c kept mail reply awaited server verdicts h m y;
      same_begun = sym (ap is_begun y.voting);
      same_txn = refl;
      fresh = tt;
      letters = tt;
    }

over_rests : (P : ServerId → Type 0) (over : Span) (servers : List ServerId) → is_voted (point_of over) ≡ true → SpanRests P over [] servers → AllBut P [] servers
over_rests P (span.Validate number) servers e h = absurd (cc)
over_rests P span.Commit servers e h = h

probing_rests : (P S : ServerId → Type 0) (awaited : Phase) (at : Point) (servers : List ServerId) → IsProbing awaited at → is_voted at ≡ true → PhaseRests P S awaited servers → AllBut P [] servers
probing_rests P S _ _ servers (AfterQuery number) e h = absurd (cc)
probing_rests P S _ _ servers AfterVotes e h = h

-- where all have voted, each server has prepared
voted_rests : (sc : Scenario) (P S : ServerId → Type 0) (c : Coordinator) (kept : List Record) (mail : Mail) (at : Point) (now : Gained) (rounds : ℕ) → Keeps sc P S c kept
    → ReplyRests P S (HoldsItem sc c.txn) (decided_in kept) mail.letter.from mail.letter.body → IsPassed sc c mail at now rounds → is_voted at ≡ true → AllBut P [] (servers_at sc c.txn)
voted_rests sc P S c kept mail _ _ _ h m (QueryRan done server asked value proof k) e = absurd (cc)
voted_rests sc P S c kept mail _ _ _ h m (ProofsRead reply at k none) e = probing_rests P S c.phase at (servers_at sc c.txn) k.probing e h.replied
voted_rests sc P S c kept mail _ _ _ h m (AllTrue over round staple reading k) e = over_rests P over (servers_at sc c.txn) e (judged_counted sc P S c kept mail over round staple reading h m k.is_judged).prepared
voted_rests sc P S c kept mail _ _ _ h m (AllVoted reply awaited server verdicts k left) e =
    subst (λ (missing : List ServerId). AllBut P missing (servers_at sc c.txn)) left (plain_rests sc P S c kept mail reply awaited server verdicts h m k)

acknowledged_lawful : (sc : Scenario) (P S : ServerId → Type 0) (c : Coordinator) (kept : List Record) (mail : Mail) (ack : AckReply) (ended : Outcome) (awaited : List ServerId) (server : ServerId)
    → Keeps sc P S c kept → ReplyRests P S (HoldsItem sc c.txn) (decided_in kept) mail.letter.from mail.letter.body → IsAck c mail ack ended awaited server
    → CoordinatorLawful sc P S c kept (sends (record c { phase = phase.Ending ended (without awaited server) }) [])
acknowledged_lawful sc P S c kept mail ack ended awaited server h m a =
    let settled : S server =
    subst (λ (said : Body). ReplyRests P S (HoldsItem sc c.txn) (decided_in kept) (actor.Server server) said) a.said_is (subst (λ (from : Actor). ReplyRests P S (HoldsItem sc c.txn) (decided_in kept) from mail.letter.body) a.from_is m) in
    record {
      agrees = record {
        decided = subst (λ (p : Phase). PhaseAgrees p (decided_in kept)) a.ending h.agrees.decided;
        servers = h.agrees.servers;
        awaited = left_have_items sc c.txn awaited server (subst (PhaseHasItems sc c.txn) a.ending h.agrees.awaited);
      };
      replied = all_but_one S awaited server (servers_at sc c.txn) settled (subst (λ (p : Phase). PhaseRests P S p (servers_at sc c.txn)) a.ending h.replied);
      same_begun = sym (ap is_begun a.ending);
      same_txn = refl;
      fresh = tt;
      letters = tt;
    }

-- a server that asks for the decision is told it, once there is one
inquired_lawful : (sc : Scenario) (P S : ServerId → Type 0) (c : Coordinator) (kept : List Record) (mail : Mail) (inquiry : InquireRequest) (ended : Outcome) (awaited : List ServerId) (server : ServerId)
    → Keeps sc P S c kept → ReplyRests P S (HoldsItem sc c.txn) (decided_in kept) mail.letter.from mail.letter.body → IsInquiry c mail inquiry ended awaited server
    → CoordinatorLawful sc P S c kept (sends c (decide_letters c ended (server ∷ [])))
inquired_lawful sc P S c kept mail inquiry ended awaited server h m k =
    let item : HoldsItem sc c.txn server =
    subst (λ (said : Body). ReplyRests P S (HoldsItem sc c.txn) (decided_in kept) (actor.Server server) said) k.said_is
    (subst (λ (from : Actor). ReplyRests P S (HoldsItem sc c.txn) (decided_in kept) from mail.letter.body) k.from_is m) in
    let decided : option_map outcome_of (decided_in kept) ≡ Some ended = subst (λ (p : Phase). PhaseAgrees p (decided_in kept)) k.ending h.agrees.decided in
    record {
      agrees = h.agrees;
      replied = h.replied;
      same_begun = refl;
      same_txn = refl;
      fresh = tt;
      letters = orders_lawful sc c.txn (is_begun c.phase) (decided_in kept) ended c (server ∷ []) refl (ap is_begun k.ending) decided (item, tt);
    }

-- while a transaction runs it is not decided
running_free : (awaited : Phase) (decided : Option Decision) → is_running awaited ≡ true → PhaseAgrees awaited decided → (decided ≡ None) × (is_begun awaited ≡ true)
running_free phase.Idle decided e h = absurd (cc)
running_free (phase.Querying number staple) decided e h = (h, refl)
running_free (phase.Stapling number) decided e h = (h, refl)
running_free (phase.Probing number) decided e h = (h, refl)
running_free (phase.Asking over round) decided e h = (h, refl)
running_free (phase.Checking over round staple) decided e h = (h, refl)
running_free (phase.Reading over round) decided e h = (h, refl)
running_free (phase.Voting awaited) decided e h = (h, refl)
running_free phase.VoteProbing decided e h = (h, refl)
running_free (phase.Ending ended awaited) decided e h = absurd (cc)

-- every row of a coordinator on receipt of a mail
pub coordinator_row_lawful : (sc : Scenario) (P S : ServerId → Type 0) (c : Coordinator) (kept : List Record) (mail : Mail) → Keeps sc P S c kept
    → ReplyRests P S (HoldsItem sc c.txn) (decided_in kept) mail.letter.from mail.letter.body → CoordinatorLawful sc P S c kept (coordinator_row sc c mail)
coordinator_row_lawful sc P S c kept mail h m =
    let s = h.agrees.servers in
    coordinator_by sc c mail (CoordinatorLawful sc P S c kept)
    (record {
      ignored = ignores_lawful_in_coordinator sc P S c kept h;
      stapled = λ tell query server k home.
          let undecided : decided_in kept ≡ None = subst (λ (p : Phase). PhaseAgrees p (decided_in kept)) k.stapling h.agrees.decided in
          sends_query_lawful sc P S c kept query (Some (staple_of tell mail.sent)) server undecided (ap is_begun k.stapling) s (home_is sc c query server home);
      sends_query = λ at now rounds next passed moves home.
          let free = undecided_at at now rounds passed in
          let further : IsHome sc c (next_at at) next = home_is sc c (next_at at) next home in
          gained_lawful sc P S c now kept _ (sends_query_lawful sc P S (with_gained c now) kept (next_at at) None next free.0 free.1 s
          (record { asked = further.asked; asked_is = further.asked_is; server_is = further.server_is }));
      asks_staple = λ at now rounds passed moves.
          let free = undecided_at at now rounds passed in
          gained_lawful sc P S c now kept _ (staples_lawful sc P S (with_gained c now) kept (next_at at) free.0 free.1 s);
      probes_proofs = λ at now rounds passed moves.
          let free = undecided_at at now rounds passed in
          gained_lawful sc P S c now kept _ (proofs_lawful sc P S (with_gained c now) kept at free.0 free.1 s (probed_there sc c at moves) (λ e. voted_rests sc P S c kept mail at now rounds h m passed e));
      validates = λ at now rounds passed moves.
          let free = undecided_at at now rounds passed in
          gained_lawful sc P S c now kept _ (asks_lawful sc P S (with_gained c now) kept (span.Validate (number_at at)) (validation_round sc c (number_at at)) free.0 free.1 s
          (each_started (HoldsItem sc c.txn) (servers_upto sc c (number_at at)) (servers_upto_each sc c (number_at at) (HoldsItem sc c.txn) own_items)) tt);
      commit_rounds = λ at now rounds passed moves.
          let free = undecided_at at now rounds passed in
          gained_lawful sc P S c now kept _ (asks_lawful sc P S (with_gained c now) kept span.Commit (commit_round sc c) free.0 free.1 s (each_started (HoldsItem sc c.txn) c.servers own_items)
          (subst (λ (servers : List ServerId). AllBut P (missing_in (map new_target servers)) (servers_at sc c.txn)) (sym s) (all_but_new P (servers_at sc c.txn))));
      asks_votes = λ at now rounds passed moves.
          let free = undecided_at at now rounds passed in
          gained_lawful sc P S c now kept _ (asks_votes_lawful sc P S (with_gained c now) kept free.0 free.1 s);
      told = λ tell over round k. checks_lawful sc P S c kept over round (staple_of tell mail.sent) h k.asking;
      counted = λ over round staple server verdicts y.
          let k = reply_counted sc P S c kept mail over round staple server verdicts h m y in
          record {
            agrees = record { decided = k.undecided; servers = s; awaited = k.items };
            replied = k.prepared;
            same_begun = sym k.begun;
            same_txn = refl;
            fresh = tt;
            letters = tt;
          };
      probed = λ over round staple server verdicts y whole reads.
          probes_lawful sc P S c kept over (after_reply round server verdicts) s (reply_counted sc P S c kept mail over round staple server verdicts h m y) whole;
      voted = λ reply awaited server verdicts y. voted_lawful sc P S c kept mail reply awaited server verdicts h m y;
      decides = λ at now rounds passed moves.
          let free = undecided_at at now rounds passed in
          commits_lawful sc P S c kept now rounds h free.0 free.1 (none_awaited P (servers_at sc c.txn) (voted_rests sc P S c kept mail at now rounds h m passed (decided_voted sc c at moves)));
      aborted = λ why ended.
          let free = running_free c.phase (decided_in kept) (ended_running sc c mail why ended) h.agrees.decided in
          aborts_lawful sc P S c kept why h free.0 free.1;
      updated = λ over round staple reading named j e. updated_lawful sc P S c kept over round reading named (judged_counted sc P S c kept mail over round staple reading h m j) s e;
      acknowledged = λ ack ended awaited server a. acknowledged_lawful sc P S c kept mail ack ended awaited server h m a;
      inquired = λ inquiry ended awaited server k. inquired_lawful sc P S c kept mail inquiry ended awaited server h m k;
    })
  where
    own_items : HaveItems sc c.txn c.servers
    own_items = subst (HaveItems sc c.txn) (sym h.agrees.servers) (servers_at_have_items sc c.txn)

    -- a point is passed before the decision
    undecided_at : (at : Point) (now : Gained) (rounds : ℕ) → IsPassed sc c mail at now rounds → (decided_in kept ≡ None) × (is_begun c.phase ≡ true)
    undecided_at at now rounds passed = running_free c.phase (decided_in kept) (passed_running sc c mail at now rounds passed) h.agrees.decided

-- ---- Submit

-- a submission
pub record SubmissionLawful (sc : Scenario) (P S : ServerId → Type 0) (c : Coordinator) (kept : List Record) (effect : Effect Coordinator) : Type 0 where
  pub agrees : CoordinatorAgrees sc effect.state kept
  pub replied : PhaseRests P S effect.state.phase (servers_at sc c.txn)
  pub begun : is_begun effect.state.phase ≡ true
  pub same_txn : effect.state.txn ≡ c.txn
  pub forces : effect.reaction.append ≡ None
  pub letters : Each (LetterAgrees sc c.txn (is_begun effect.state.phase) (decided_in kept)) effect.reaction.letters

-- a submission is of its own transaction, and forces nothing
pub record IsUnforced (c : Coordinator) (effect : Effect Coordinator) : Type 0 where
  pub same_txn : effect.state.txn ≡ c.txn
  pub forces : effect.reaction.append ≡ None

pub submission_unforced : (sc : Scenario) (c : Coordinator) (place : ℕ) → IsUnforced c (with_age (submit_row sc c) place)
submission_unforced sc c place =
    submit_by sc c (λ (effect : Effect Coordinator). IsUnforced c (with_age effect place))
    (record { ignored = record { same_txn = refl; forces = refl }; sent = λ server moves home. record { same_txn = refl; forces = refl }; asked = λ moves. record { same_txn = refl; forces = refl } })

-- the submission of a transaction that was not submitted before, and whose first row begins it
pub submit_row_lawful : (sc : Scenario) (P S : ServerId → Type 0) (c : Coordinator) (kept : List Record) (place : ℕ) → Keeps sc P S c kept → is_begun c.phase ≡ false
    → is_begun (submit_row sc c).state.phase ≡ true → SubmissionLawful sc P S c kept (with_age (submit_row sc c) place)
submit_row_lawful sc P S c kept place h e b =
    submit_by sc c (λ (effect : Effect Coordinator). is_begun effect.state.phase ≡ true → SubmissionLawful sc P S c kept (with_age effect place))
    (record {
      ignored = λ begun.
          record { agrees = record { decided = h.agrees.decided; servers = h.agrees.servers; awaited = h.agrees.awaited }; replied = h.replied; begun = begun; same_txn = refl; forces = refl; letters = tt };
      sent = λ server moves home begun.
          let k : IsHome sc c 1 server = home_is sc c 1 server home in
          record {
            agrees = record { decided = undecided_idle c.phase (decided_in kept) e h.agrees.decided; servers = h.agrees.servers; awaited = tt };
            replied = tt;
            begun = refl;
            same_txn = refl;
            forces = refl;
            letters = (record { same_txn = refl; item = asked_has_item sc c 1 k.asked server k.asked_is k.server_is; submitted = refl }, tt);
          };
      asked = λ moves begun.
          record {
            agrees = record { decided = undecided_idle c.phase (decided_in kept) e h.agrees.decided; servers = h.agrees.servers; awaited = tt };
            replied = tt;
            begun = refl;
            same_txn = refl;
            forces = refl;
            letters = (tt, tt);
          };
    }) b

-- ---- timers

-- a request that is sent again goes to a server with an item of the transaction, and an order to end says what was decided
pub repeats_lawful : (sc : Scenario) (P S : ServerId → Type 0) (c : Coordinator) (kept : List Record) → Keeps sc P S c kept → Each (LetterAgrees sc c.txn true (decided_in kept)) (repeats sc c c.phase)
repeats_lawful sc P S c kept h =
    timer_by sc c (Each (LetterAgrees sc c.txn true (decided_in kept)))
    (record {
      silent = tt;
      stapled = λ number stapling. (tt, tt);
      queried = λ number staple server querying home.
          let k : IsHome sc c number server = home_is sc c number server home in
          (record { same_txn = refl; item = asked_has_item sc c number k.asked server k.asked_is k.server_is; submitted = refl }, tt);
      asked = λ over round asking. (tt, tt);
      read = λ over round reading. (tt, tt);
      probed = λ at probing. (tt, tt);
      prepared = λ over round staple checking. round_letters_lawful sc c true (decided_in kept) over c.turn round staple refl (subst (PhaseHasItems sc c.txn) checking h.agrees.awaited);
      voted = λ awaited awaiting. vote_letters_lawful sc c true (decided_in kept) c.turn awaited refl (subst (PhaseHasItems sc c.txn) awaiting h.agrees.awaited);
      ordered = λ ended awaited ending.
          let decided : option_map outcome_of (decided_in kept) ≡ Some ended = subst (λ (p : Phase). PhaseAgrees p (decided_in kept)) ending h.agrees.decided in
          orders_lawful sc c.txn true (decided_in kept) ended c awaited refl refl decided (subst (PhaseHasItems sc c.txn) ending h.agrees.awaited);
    })
