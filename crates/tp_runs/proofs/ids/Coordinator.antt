-- The coordinator's rows keep its state sound, force a sound record, and send sound letters.
use Rattle.std.proofs.Common.{Bool, IfSome, List, None, Option, Some, [], ap, arith, false, filter, is_some, length, map, nat_lt, option_and_then, option_map, option_to_list, refl, replicate, slice_get, subst, sym, true, unwrap_or, ℕ, ℤ, ◌++◌, ◌<◌, ◌∙◌, ◌∷◌, ◌≡◌, ◌≤◌}
use Rattle.std.proofs.lemmas.Bool.{and_parts, ltb-true}
use Rattle.std.proofs.lemmas.List.{length-append}
use Rattle.std.proofs.lemmas.Option.{same_Some, slice_get_within}
use Rattle.std.specs.List.{find}
use Rattle.std.specs.Option.{option_map_or}
use Rattle.tp_types.proofs.EachLemmas.{by_cond, each_append, each_as, each_filter, each_flat_map, each_found, each_get, each_map, each_more, each_passing, found_passes, some_if_not_none, some_value}
use Rattle.tp_types.specs.Each.{Each}
use Rattle.tp_types.specs.Effect.{Effect, ignores, sends}
use Rattle.tp_model.specs.Deeds.{deed_of}
use Rattle.tp_model.specs.Ids.{same_server}
use Rattle.tp_model.specs.Levels.{is_global, is_global_at}
use Rattle.tp_model.specs.Limits.{admins_limit, count_limit}
use Rattle.tp_model.specs.Queries.{item_of, query_at}
use Rattle.tp_model.specs.Words.{Actor, AdminId, Answer, Body, Cause, DoneReply, Instance, Item, Mail, Met, Newer, NewestReply, Outcome, Query, Reading, Scenario, Scheme, ServerId, Staple, TellReply, Transaction, TxnId, Verdict, Version, VoteReply}
use Rattle.tp_model.specs.Words.actor
use Rattle.tp_model.specs.Words.answer
use Rattle.tp_model.specs.Words.body
use Rattle.tp_model.specs.Words.cause
use Rattle.tp_model.specs.Words.level
use Rattle.tp_model.specs.Words.no
use Rattle.tp_model.specs.Words.outcome
use Rattle.tp_model.specs.Words.query
use Rattle.tp_model.specs.Words.scheme
use Rattle.tp_coord.proofs.Rows.{AfterQuery, AfterVotes, AllTrue, AllVoted, ByDenial, ByLoss, ByLostVerdicts, ByNewer, ByNewest, ByOlder, ByProof, ByReading, ByRefusal, ByReplies, ByRestart, ByRounds, ByVerdicts, ByVote, Gained, IsAwaitedAnswer, IsEnded, IsJudged, IsNo, IsPassed, IsProbing, IsReply, ProofsRead, QueryRan, coordinator_by, gains_deed, gains_instances, submit_by, timer_by, with_gained}
use Rattle.tp_coord.specs.Row.{aborts, admin_of, ask_letter, asks_in, asks_votes, checks, closed_by, commit_round, commits, coordinator_row, coordinator_with_age, decide_letters, denied_by, died_for, gathered_by, instances_with, level_at, move_at, next_at, next_number, next_turn, number_at, own_query, pin_for, place_of, point_of, probe_letter, probes, probing_at, query_request, reading_of, refused_by, repeats, request, round_letter, round_letters, round_of, scheme_at, sends_query, servers_upto, staple_of, stays, submit_row, validation_round, value_of, vote_letter, vote_letters, with_all, with_gathered, with_own, without}
use Rattle.tp_coord.specs.State.{Coordinator}
use Rattle.tp_coord.specs.Sums.{asked_value, registers_after, sum_asked}
use Rattle.tp_coord.specs.declared.coordinator.Phase.{Phase}
use Rattle.tp_coord.specs.declared.coordinator.Phase.TheVariants as phase
use Rattle.tp_coord.specs.declared.coordinator.Span.{Span}
use Rattle.tp_coord.specs.declared.coordinator.Span.TheVariants as span
use Rattle.tp_machine.specs.Named.{IsActor, IsAdmin, IsServer}
use Rattle.tp_round.proofs.AdminLemmas.{same_ids}
use Rattle.tp_round.proofs.AgainLemmas.{updated}
use Rattle.tp_round.proofs.AgreedLemmas.{all_agree, false_is_least}
use Rattle.tp_round.proofs.MetLemmas.{spent_has_all_mets}
use Rattle.tp_round.specs.Judge.{after_judgement, after_reply, aim_in, awaits, is_below, is_outdated, is_proved_by, judge, met_at, met_in, new_target, newest_in, next_target, version_number, want_of, wants_of, with_reply}
use Rattle.tp_round.specs.Laws.{is_true}
use Rattle.tp_round.specs.Replies.{by_query, least, proofs_in, verdicts_in}
use Rattle.tp_round.specs.declared.round.Judged.TheVariants as judged
use Rattle.tp_round.specs.declared.round.Round.{Round}
use Rattle.tp_round.specs.declared.round.Target.{Target}
use Rattle.tp_round.specs.declared.round.Wanted.{Wanted}
use Rattle.tp_scheme.proofs.BelowLemmas.{finds_the_first_below}
use Rattle.tp_scheme.specs.Gathered.{is_of, older, pin_of}
use Rattle.tp_scheme.specs.declared.moves.Move.TheVariants as move
use Rattle.tp_scheme.specs.declared.moves.Point.{Point}
use Rattle.tp_scheme.specs.declared.moves.Point.TheVariants as point
use Rattle.tp_server.specs.Values.{HasValue}
use Rattle.tp_runs.proofs.basics.Aims.{IsOf, aim_has, least_from}
use Rattle.tp_runs.proofs.basics.Homes.{IsHome, asked_there, begun_after, home_is, is_of_query, is_probed, is_ran, probed_there, sent_unproved, validated_ran}
use Rattle.tp_runs.proofs.basics.Ids.{same_txn_from}
use Rattle.tp_runs.proofs.basics.Levels.{global_of_all}
use Rattle.tp_runs.proofs.basics.Passed.{passed_past, ran_there, reply_checking, reply_from}
use Rattle.tp_runs.proofs.basics.Rounds.{each_by_query, each_missing, missing_in, updated_is}
use Rattle.tp_runs.proofs.basics.Servers.{servers_upto_each}
use Rattle.tp_runs.proofs.ids.Server.{version_of}
use Rattle.tp_runs.proofs.ids.Valid.{IsValid, IsValidItem}
use Rattle.tp_runs.specs.Sound.{AreSoundVerdicts, AreVersions, AreWanted, IsItemOf, IsQuery, IsRefusalOf, IsSoundAnswer, IsSoundBallot, IsSoundBody, IsSoundCause, IsSoundCoordinator, IsSoundCoordinatorRecord, IsSoundDeed, IsSoundInstance, IsSoundLetter, IsSoundMet, IsSoundNewer, IsSoundPhase, IsSoundProof, IsSoundQuery, IsSoundRefusal, IsSoundRound, IsSoundSpan, IsSoundStaple, IsSoundTarget, IsSoundVerdict, IsSoundWanted, IsVersion, IsVersionOf, ProvesEach, query_in}

-- what a coordinator's act leaves is sound: its state, still of the same transaction, what it forces and what it sends
pub record IsSoundCoordinatorEffect (sc : Scenario) (c : Coordinator) (effect : Effect Coordinator) : Type 0 where
  pub same_txn : effect.state.txn ≡ c.txn
  pub state_is : IsSoundCoordinator sc effect.state
  pub forces : IfSome effect.reaction.append (IsSoundCoordinatorRecord sc c.txn)
  pub sends_only : Each (IsSoundLetter sc) effect.reaction.letters

ignores_sound_in_coordinator : (sc : Scenario) (c : Coordinator) → IsSoundCoordinator sc c → IsSoundCoordinatorEffect sc c (ignores c)
ignores_sound_in_coordinator sc c h = record { same_txn = refl; state_is = h; forces = tt; sends_only = tt }

-- a coordinator that awaits something else; its other numbers may change too
moved_in_ids : (sc : Scenario) (c : Coordinator) (next : Phase) (turn : ℕ) (epochs : List (Option ℕ)) → IsSoundCoordinator sc c → IsSoundPhase sc c.txn next
    → IsSoundCoordinator sc (record c { turn = turn; epochs = epochs; phase = next })
moved_in_ids sc c next turn epochs h n =
    record { exists = h.exists; servers = h.servers; deeds = h.deeds; gathered = h.gathered; instances = h.instances; awaits = n }

-- a letter to a server that exists
request_sound : (sc : Scenario) (c : Coordinator) (server : ServerId) (said : Body) → IsSoundCoordinator sc c → IsServer sc server → IsSoundBody sc (actor.Server server) said
    → IsSoundLetter sc (request c server said)
request_sound sc c server said h exists says = record { from_is_actor = h.exists; to_is_actor = exists; says = says; refuses = tt }

-- ---- Submit

-- a server that is found is an item's
record IsServerOf (sc : Scenario) (asked : Query) (server : ServerId) : Type 0 where
  pub exists : IsServer sc server
  pub kept : IsItemOf sc server (item_of asked)

server_found : (sc : Scenario) (asked : Query) (server : ServerId) (item : Option Item) → IsValid sc → slice_get sc.items (item_of asked).0 ≡ item
    → option_map (λ (i : Item). i.server) item ≡ Some server → IsServerOf sc asked server
server_found sc asked server (Some item) valid e f =
    let same : item.server ≡ server = same_Some item.server server f in
    let item_is : IsValidItem sc item = each_get (IsValidItem sc) sc.items (item_of asked).0 item valid.items e in
    record {
      exists = subst (IsServer sc) same item_is.server;
      kept = record { declared = item; declared_is = e; server_is = same };
    }
server_found sc asked server None valid e f = absurd (cc)

valued : (registers : List ℤ) (asked : Query) (found : Option Query) → found ≡ Some asked → HasValue asked (option_and_then (sum_asked registers) found)
valued registers asked None e = absurd (cc)
valued registers (query.Write item expr) (Some found) e = ap (λ (q : Query). is_some (sum_asked registers q)) (same_Some found (query.Write item expr) e)
valued registers (query.Read item into) (Some found) e = tt

-- a write is asked with a value
has_value : (sc : Scenario) (c : Coordinator) (number : ℕ) (asked : Query) → own_query sc c number ≡ Some asked → HasValue asked (value_of sc c number)
has_value sc c number asked e = found (slice_get sc.txns c.txn.0) e
  where
    found : (declared : Option Transaction) → option_and_then (λ (txn : Transaction). query_at txn number) declared ≡ Some asked → HasValue asked (option_and_then (λ (txn : Transaction). asked_value txn c.deeds number) declared)
    found None f = absurd (cc)
    found (Some declared) f = valued (registers_after declared c.deeds) asked (query_at declared number) f

-- the version that gathered proofs pin of an administrator, if they pin one, is one of it
pin_sound : (sc : Scenario) (txn : TxnId) (gathered : List Verdict) (admin : AdminId) → Each (IsSoundProof sc txn) gathered → IfSome (pin_of gathered admin) (IsVersion sc admin)
pin_sound sc txn gathered admin h = of_found (find (is_of admin) gathered) refl
  where
    of_found : (found : Option Verdict) → find (is_of admin) gathered ≡ found → IfSome (option_map (λ (proof : Verdict). proof.version) found) (IsVersion sc admin)
    of_found None e = tt
    of_found (Some proof) e =
        let sound : IsSoundProof sc txn proof = each_found (IsSoundProof sc txn) (is_of admin) gathered proof h e in
        subst (λ (a : AdminId). IsVersion sc a proof.version) (same_ids proof.admin admin (found_passes (is_of admin) gathered proof e)) sound.sound.version

-- the pin of a query is one of its item's administrator
query_pin : (sc : Scenario) (c : Coordinator) (number : ℕ) (asked : Query) (item : Item) → IsSoundCoordinator sc c → own_query sc c number ≡ Some asked → slice_get sc.items (item_of asked).0 ≡ Some item
    → IfSome (pin_for sc c number) (IsVersion sc item.admin)
query_pin sc c number asked item h asked_is item_is =
    let pin_is : pin_for sc c number ≡ pin_of c.gathered item.admin =
    ap (λ (query : Option Query). option_and_then (pin_of c.gathered) (option_and_then (admin_of sc) query)) asked_is
    ∙ ap (λ (found : Option Item). option_and_then (pin_of c.gathered) (option_map (λ (i : Item). i.admin) found)) item_is in
    subst (λ (pin : Option Version). IfSome pin (IsVersion sc item.admin)) (sym pin_is) (pin_sound sc c.txn c.gathered item.admin h.gathered)

-- a query is asked in a turn at the server of its item, with a staple where each is proved
query_sound : (sc : Scenario) (c : Coordinator) (turn number : ℕ) (staple : Option Staple) (server : ServerId) → IsValid sc → IsSoundCoordinator sc c → IsHome sc c number server
    → IfSome staple (IsSoundStaple sc) × (ProvesEach sc c.txn → is_some staple ≡ true) → IsSoundLetter sc (request c server (body.Query (query_request sc c turn server number staple)))
query_sound sc c turn number staple server valid h k t =
    let at : IsServerOf sc k.asked server = server_found sc k.asked server (slice_get sc.items (item_of k.asked).0) valid refl k.server_is in
    let asks_of : IsSoundQuery sc (actor.Server server) (query_request sc c turn server number staple) =
    record {
      txn = h.exists;
      asked = k.asked;
      asked_is = k.asked_is;
      at = server;
      goes_to = refl;
      kept = at.kept;
      has_value = has_value sc c number k.asked k.asked_is;
      stapled = t.1;
      staple = t.0;
      pin = query_pin sc c number k.asked at.kept.declared h k.asked_is at.kept.declared_is;
    } in
    request_sound sc c server _ h at.exists asks_of

sends_query_sound : (sc : Scenario) (c : Coordinator) (number : ℕ) (staple : Option Staple) (server : ServerId) → IsValid sc → IsSoundCoordinator sc c → IsHome sc c number server
    → IfSome staple (IsSoundStaple sc) × (ProvesEach sc c.txn → is_some staple ≡ true) → IsSoundCoordinatorEffect sc c (sends_query sc c number staple server)
sends_query_sound sc c number staple server valid h k t =
    record {
      same_txn = refl;
      state_is = moved_in_ids sc c (phase.Querying number staple) (next_turn c) c.epochs h (record { asked = k.asked; asked_is = k.asked_is }, t.0, t.1);
      forces = tt;
      sends_only = (query_sound sc c (next_turn c) number staple server valid h k t, tt);
    }

ask_sound : (sc : Scenario) (c : Coordinator) (turn : ℕ) → IsSoundCoordinator sc c → IsSoundLetter sc (ask_letter c turn)
ask_sound sc c turn h = record { from_is_actor = h.exists; to_is_actor = tt; says = record { txn = h.exists; goes_to = refl }; refuses = tt }

-- the authority is asked, for what is sound
asks_in_sound : (sc : Scenario) (c : Coordinator) (next : Phase) → IsSoundCoordinator sc c → IsSoundPhase sc c.txn next → IsSoundCoordinatorEffect sc c (asks_in c next)
asks_in_sound sc c next h n =
    record { same_txn = refl; state_is = moved_in_ids sc c next (next_turn c) c.epochs h n; forces = tt; sends_only = (ask_sound sc c (next_turn c) h, tt) }

-- where the authority is asked as a query begins, there is such a query
query_begins : (sc : Scenario) (c : Coordinator) (number : ℕ) → 1 ≤ number → move_at sc c (point.Begun number) ≡ move.Ask → IsQuery sc c.txn number
query_begins sc c number low e = let found = some_value (own_query sc c number) (asked_there sc c number low e) in record { asked = found.0; asked_is = found.1 }

pub submit_row_sound : (sc : Scenario) (c : Coordinator) → IsValid sc → IsSoundCoordinator sc c → IsSoundCoordinatorEffect sc c (submit_row sc c)
submit_row_sound sc c valid h =
    submit_by sc c (IsSoundCoordinatorEffect sc c)
    (record {
      ignored = ignores_sound_in_coordinator sc c h;
      sent = λ server begins home. sends_query_sound sc c 1 None server valid h (home_is sc c 1 server home) (tt, λ each. absurd (sent_unproved sc c 1 begins each));
      asked = λ begins. asks_in_sound sc c (phase.Stapling 1) h (query_begins sc c 1 (omega arith) begins);
    })

-- the place of the submission changes nothing of this
pub coordinator_with_age_sound : (sc : Scenario) (c : Coordinator) (place : ℕ) → IsSoundCoordinator sc c → IsSoundCoordinator sc (coordinator_with_age c place)
coordinator_with_age_sound sc c place h =
    record { exists = h.exists; servers = h.servers; deeds = h.deeds; gathered = h.gathered; instances = h.instances; awaits = h.awaits }

-- ---- Done

-- the first round, of servers that exist
first_sound : (sc : Scenario) (txn : TxnId) (servers : List ServerId) → Each (IsServer sc) servers → Each (IsSoundTarget sc txn) (map new_target servers)
first_sound sc txn servers h = each_map (IsServer sc) (IsSoundTarget sc txn) new_target (λ server exists. record { server = exists; reply = tt }) servers h

-- a first round, of servers that exist; the master is read where one of its levels is global
round_of_sound : (sc : Scenario) (c : Coordinator) (servers : List ServerId) → Each (IsServer sc) servers → IsSoundRound sc c.txn (round_of sc c servers)
round_of_sound sc c servers h = record { levels = λ admin e. global_of_all (level_at sc c) admin e; targets = first_sound sc c.txn servers h; aim = tt; named = tt; mets = tt }

commit_round_sound : (sc : Scenario) (c : Coordinator) → IsSoundCoordinator sc c → IsSoundRound sc c.txn (commit_round sc c)
commit_round_sound sc c h = round_of_sound sc c c.servers h.servers

validation_round_sound : (sc : Scenario) (c : Coordinator) (number : ℕ) → IsSoundCoordinator sc c → IsSoundRound sc c.txn (validation_round sc c number)
validation_round_sound sc c number h = round_of_sound sc c (servers_upto sc c number) (servers_upto_each sc c number (IsServer sc) h.servers)

-- instances with the proof of a query, if it has one
own_sound : (sc : Scenario) (txn : TxnId) (instances : List Instance) (proof : Option Verdict) → Each (IsSoundInstance sc txn) instances → IfSome proof (IsSoundProof sc txn) → Each (IsSoundInstance sc txn) (with_own instances proof)
own_sound sc txn instances None h p = h
own_sound sc txn instances (Some verdict) h p = each_more (IsSoundInstance sc txn) instances _ h (p, tt)

all_sound : (sc : Scenario) (txn : TxnId) (reads : Bool) (instances : List Instance) (gathered : List Verdict) (proof : Option Verdict) → Each (IsSoundInstance sc txn) instances → Each (IsSoundProof sc txn) gathered
    → IfSome proof (IsSoundProof sc txn) → Each (IsSoundInstance sc txn) (with_all reads instances gathered proof)
all_sound sc txn reads instances gathered None h g p = h
all_sound sc txn true instances gathered (Some verdict) h g p = h
all_sound sc txn false instances gathered (Some verdict) h g p = each_more (IsSoundInstance sc txn) instances _ h (each_more (IsSoundProof sc txn) gathered verdict g p)

-- or, as its scheme asks, with one of all that is gathered
closed_sound : (sc : Scenario) (txn : TxnId) (chosen : Scheme) (reads : Bool) (instances : List Instance) (gathered : List Verdict) (proof : Option Verdict) → Each (IsSoundInstance sc txn) instances → Each (IsSoundProof sc txn) gathered
    → IfSome proof (IsSoundProof sc txn) → Each (IsSoundInstance sc txn) (closed_by chosen reads instances gathered proof)
closed_sound sc txn scheme.Incremental reads instances gathered proof h g p = all_sound sc txn reads instances gathered proof h g p
closed_sound sc txn scheme.Deferred reads instances gathered proof h g p = own_sound sc txn instances proof h p
closed_sound sc txn scheme.Punctual reads instances gathered proof h g p = own_sound sc txn instances proof h p
closed_sound sc txn scheme.Continuous reads instances gathered proof h g p = own_sound sc txn instances proof h p

gathered_more : (sc : Scenario) (txn : TxnId) (gathered : List Verdict) (proof : Option Verdict) → Each (IsSoundProof sc txn) gathered → IfSome proof (IsSoundProof sc txn) → Each (IsSoundProof sc txn) (with_gathered gathered proof)
gathered_more sc txn gathered None g p = g
gathered_more sc txn gathered (Some verdict) g p = each_more (IsSoundProof sc txn) gathered verdict g p

-- what is gathered with the proof of a query
gathered_sound : (sc : Scenario) (txn : TxnId) (chosen : Scheme) (gathered : List Verdict) (proof : Option Verdict) → Each (IsSoundProof sc txn) gathered → IfSome proof (IsSoundProof sc txn)
    → Each (IsSoundProof sc txn) (gathered_by chosen gathered proof)
gathered_sound sc txn scheme.Incremental gathered proof g p = gathered_more sc txn gathered proof g p
gathered_sound sc txn scheme.Deferred gathered proof g p = g
gathered_sound sc txn scheme.Punctual gathered proof g p = g
gathered_sound sc txn scheme.Continuous gathered proof g p = g

gains_deed_sound : (sc : Scenario) (c : Coordinator) (server : ServerId) (done : DoneReply) (asked : Query) (value : ℤ) (proof : Option Verdict) → IsSoundCoordinator sc c → query_in sc c.txn done.query ≡ Some asked
    → IfSome proof (IsSoundProof sc c.txn) → IsSoundCoordinator sc (with_gained c (gains_deed sc c server done asked value proof))
gains_deed_sound sc c server done asked value proof h e p =
    record {
      exists = h.exists;
      servers = h.servers;
      deeds = each_more (IsSoundDeed sc c.txn) c.deeds (deed_of done.query asked value) h.deeds (record { asked = asked; asked_is = e; item_is = refl; action_is = refl });
      gathered = gathered_sound sc c.txn (scheme_at sc c) c.gathered proof h.gathered p;
      instances = closed_sound sc c.txn (scheme_at sc c) (is_global (level_at sc c)) c.instances c.gathered proof h.instances h.gathered p;
      awaits = h.awaits;
    }

-- with an instance more
gains_instance_sound : (sc : Scenario) (c : Coordinator) (reading : Option ℕ) (proofs : List Verdict) → IsSoundCoordinator sc c → Each (IsSoundProof sc c.txn) proofs
    → IsSoundCoordinator sc (with_gained c (gains_instances c (instances_with c reading proofs)))
gains_instance_sound sc c reading proofs h p =
    record {
      exists = h.exists;
      servers = h.servers;
      deeds = h.deeds;
      gathered = h.gathered;
      instances = each_more (IsSoundInstance sc c.txn) c.instances (record { reading = reading; proofs = proofs }) h.instances p;
      awaits = h.awaits;
    }

-- ---- Tell

-- what is wanted of a server exists
want_sound : (sc : Scenario) (round : Round) (server : ServerId) (found : Option Wanted) → find (λ (named : Wanted). same_server named.server server) round.named ≡ found → Each (IsSoundWanted sc) round.named
    → AreWanted sc (option_map_or (λ (named : Wanted). named.want) found [])
want_sound sc round server None e h = tt
want_sound sc round server (Some named) e h = (each_found (IsSoundWanted sc) (λ (one : Wanted). same_server one.server server) round.named named h e).want

-- a server is asked in a turn to evaluate the queries so far, or to prepare
round_letter_sound : (sc : Scenario) (c : Coordinator) (over : Span) (turn : ℕ) (round : Round) (staple : Staple) (server : ServerId) → IsSoundCoordinator sc c → IsSoundRound sc c.txn round → IsSoundStaple sc staple
    → IsServer sc server → IsSoundLetter sc (round_letter c over turn round staple server)
round_letter_sound sc c (span.Validate number) turn round staple server h r t exists =
    request_sound sc c server _ h exists
    (record { txn = h.exists; goes_to = tt; staple = t; want = want_sound sc round server (find (λ (named : Wanted). same_server named.server server) round.named) refl r.named })
round_letter_sound sc c span.Commit turn round staple server h r t exists =
    request_sound sc c server _ h exists
    (record { txn = h.exists; goes_to = tt; staple = t; want = want_sound sc round server (find (λ (named : Wanted). same_server named.server server) round.named) refl r.named })

-- so is each that is awaited
round_letters_sound : (sc : Scenario) (c : Coordinator) (over : Span) (turn : ℕ) (round : Round) (staple : Staple) → IsSoundCoordinator sc c → IsSoundRound sc c.txn round → IsSoundStaple sc staple
    → Each (IsSoundLetter sc) (round_letters c over turn round staple)
round_letters_sound sc c over turn round staple h r t =
    each_map (IsServer sc) (IsSoundLetter sc) (round_letter c over turn round staple) (λ server exists. round_letter_sound sc c over turn round staple server h r t exists)
    (missing_in round.targets) (each_missing (IsServer sc) round.targets (each_as (IsSoundTarget sc c.txn) (λ (target : Target). IsServer sc target.server) (λ target k. k.server) round.targets r.targets))

checks_sound : (sc : Scenario) (c : Coordinator) (over : Span) (round : Round) (staple : Staple) → IsSoundCoordinator sc c → IsSoundSpan sc c.txn over → IsSoundRound sc c.txn round → IsSoundStaple sc staple
    → IsSoundCoordinatorEffect sc c (checks c over round staple)
checks_sound sc c over round staple h o r t =
    record {
      same_txn = refl;
      state_is = moved_in_ids sc c (phase.Checking over round staple) (next_turn c) c.epochs h (o, r, t);
      forces = tt;
      sends_only = round_letters_sound sc c over (next_turn c) round staple h r t;
    }

-- each of these servers is asked in a turn to prepare without an evaluation
vote_letters_sound : (sc : Scenario) (c : Coordinator) (turn : ℕ) (servers : List ServerId) → IsSoundCoordinator sc c → Each (IsServer sc) servers → Each (IsSoundLetter sc) (vote_letters c turn servers)
vote_letters_sound sc c turn servers h exist =
    each_map (IsServer sc) (IsSoundLetter sc) (vote_letter c turn) (λ server exists. request_sound sc c server _ h exists (record { txn = h.exists; goes_to = tt; staple = tt; want = tt })) servers exist

asks_votes_sound : (sc : Scenario) (c : Coordinator) → IsSoundCoordinator sc c → IsSoundCoordinatorEffect sc c (asks_votes c)
asks_votes_sound sc c h =
    record {
      same_txn = refl;
      state_is = moved_in_ids sc c (phase.Voting c.servers) (next_turn c) c.epochs h h.servers;
      forces = tt;
      sends_only = vote_letters_sound sc c (next_turn c) c.servers h h.servers;
    }

-- ---- Vote

-- the verdicts of a round's replies
pub replies_sound : (sc : Scenario) (txn : TxnId) (targets : List Target) → Each (IsSoundTarget sc txn) targets → AreSoundVerdicts sc txn (proofs_in targets)
replies_sound sc txn targets h = each_flat_map (IsSoundTarget sc txn) (IsSoundVerdict sc txn) verdicts_in (λ target k. of_reply target.reply k.reply) targets h
  where
    of_reply : (reply : Option (List Verdict)) → IfSome reply (AreSoundVerdicts sc txn) → AreSoundVerdicts sc txn (unwrap_or reply [])
    of_reply None k = tt
    of_reply (Some verdicts) k = k

-- where all is true the verdicts are proofs
proofs_sound : (sc : Scenario) (txn : TxnId) (round : Round) (reading : Option Reading) → judge round reading ≡ judged.AllTrue → Each (IsSoundTarget sc txn) round.targets → Each (IsSoundProof sc txn) (by_query (proofs_in round.targets))
proofs_sound sc txn round reading e h =
    each_by_query (IsSoundProof sc txn) (proofs_in round.targets)
    (each_passing (IsSoundVerdict sc txn) (IsSoundProof sc txn) is_true (λ verdict sound passes. record { sound = sound; has_rule = some_if_not_none verdict.rule passes }) (proofs_in round.targets) (all_agree round reading e).all_true
    (replies_sound sc txn round.targets h))

-- each of these servers is told the outcome
pub orders_sound : (sc : Scenario) (c : Coordinator) (ended : Outcome) (servers : List ServerId) → IsSoundCoordinator sc c → Each (IsServer sc) servers → Each (IsSoundLetter sc) (decide_letters c ended servers)
orders_sound sc c ended servers h exist =
    each_map (IsServer sc) (IsSoundLetter sc) _ (λ server exists. request_sound sc c server _ h exists (record { txn = h.exists; goes_to = tt })) servers exist

commits_sound : (sc : Scenario) (c : Coordinator) (rounds : ℕ) → IsSoundCoordinator sc c → IsSoundCoordinatorEffect sc c (commits c rounds)
commits_sound sc c rounds h =
    record {
      same_txn = refl;
      state_is = record { exists = h.exists; servers = h.servers; deeds = h.deeds; gathered = h.gathered; instances = h.instances; awaits = h.servers };
      forces = record { txn_is = refl; rests_on = record { instances = h.instances; deeds = h.deeds } };
      sends_only = orders_sound sc c outcome.Commit c.servers h h.servers;
    }

aborts_sound : (sc : Scenario) (c : Coordinator) (why : Cause) → IsSoundCoordinator sc c → IsSoundCause sc c.txn why → IsSoundCoordinatorEffect sc c (aborts c why)
aborts_sound sc c why h caused =
    record {
      same_txn = refl;
      state_is = record { exists = h.exists; servers = h.servers; deeds = h.deeds; gathered = h.gathered; instances = h.instances; awaits = h.servers };
      forces = record { txn_is = refl; rests_on = caused };
      sends_only = orders_sound sc c outcome.Abort c.servers h h.servers;
    }

-- a false verdict that is sound denies what exists
denied_sound : (sc : Scenario) (txn : TxnId) (round : Round) (reading : Option Reading) (verdict : Verdict) → judge round reading ≡ judged.False verdict → Each (IsSoundTarget sc txn) round.targets
    → IsSoundCause sc txn (cause.Denied (denied_by verdict))
denied_sound sc txn round reading verdict e h =
    let least = false_is_least round reading verdict e in
    let sound : IsSoundVerdict sc txn verdict = each_get (IsSoundVerdict sc txn) (proofs_in round.targets) least.place verdict (replies_sound sc txn round.targets h) least.there in
    record { query = sound.query; version = sound.version }

without_sound : (sc : Scenario) (awaited : List ServerId) (server : ServerId) → Each (IsServer sc) awaited → Each (IsServer sc) (without awaited server)
without_sound sc awaited server h = each_filter (IsServer sc) _ awaited h

-- a round with a sound reply
replied_sound : (sc : Scenario) (txn : TxnId) (round : Round) (server : ServerId) (verdicts : List Verdict) → IsSoundRound sc txn round → IsServer sc server → AreSoundVerdicts sc txn verdicts
    → IsSoundRound sc txn (after_reply round server verdicts)
replied_sound sc txn round server verdicts r exists v = record { levels = r.levels; targets = with_sound round.targets r.targets; aim = r.aim; named = r.named; mets = r.mets }
  where
    with_sound : (targets : List Target) → Each (IsSoundTarget sc txn) targets → Each (IsSoundTarget sc txn) (with_reply targets server verdicts)
    with_sound [] h = tt
    with_sound (target ∷ targets) h =
        by_cond (Each (IsSoundTarget sc txn)) (awaits server target) (λ e. (record { server = exists; reply = v }, h.1)) (λ e. (h.0, with_sound targets h.1))

probe_sound : (sc : Scenario) (c : Coordinator) (turn : ℕ) → IsSoundCoordinator sc c → IsSoundLetter sc (probe_letter c turn)
probe_sound sc c turn h = record { from_is_actor = h.exists; to_is_actor = tt; says = record { txn = h.exists; goes_to = refl }; refuses = tt }

stays_sound : (sc : Scenario) (c : Coordinator) (over : Span) (round : Round) (staple : Staple) → IsSoundCoordinator sc c → IsSoundSpan sc c.txn over → IsSoundRound sc c.txn round → IsSoundStaple sc staple
    → IsSoundCoordinatorEffect sc c (stays c over round (Some staple))
stays_sound sc c over round staple h o r t =
    record { same_txn = refl; state_is = moved_in_ids sc c (phase.Checking over round staple) c.turn c.epochs h (o, r, t); forces = tt; sends_only = tt }

probes_sound : (sc : Scenario) (c : Coordinator) (next : Phase) → IsSoundCoordinator sc c → IsSoundPhase sc c.txn next → IsSoundCoordinatorEffect sc c (probes c next)
probes_sound sc c next h n =
    record { same_txn = refl; state_is = moved_in_ids sc c next (next_turn c) c.epochs h n; forces = tt; sends_only = (probe_sound sc c (next_turn c) h, tt) }

-- after a query the proofs so far are read, or after the votes
probing_sound : (sc : Scenario) (txn : TxnId) (at : Point) → is_probed at ≡ true → (is_ran at ≡ true → IsQuery sc txn (number_at at)) → IsSoundPhase sc txn (probing_at at)
probing_sound sc txn (point.Ran number) probed query = query refl
probing_sound sc txn point.Voted probed query = tt
probing_sound sc txn (point.Begun number) probed query = absurd (cc)
probing_sound sc txn (point.Stapled number) probed query = absurd (cc)
probing_sound sc txn (point.Read number) probed query = absurd (cc)
probing_sound sc txn (point.Validated number) probed query = absurd (cc)
probing_sound sc txn point.VoteRead probed query = absurd (cc)

-- ---- an update

-- a round that is judged: where an administrator's level is global, a version of it that exists was read
record IsSoundJudged (sc : Scenario) (txn : TxnId) (round : Round) (reading : Option Reading) : Type 0 where
  round_is : IsSoundRound sc txn round
  newest : (admin : AdminId) → IsAdmin sc admin → is_global_at round.levels admin ≡ true → IsVersion sc admin (record { 0 = newest_in reading admin })

read_is : (found : Option Version) → (unwrap_or found (record { 0 = 0 })).0 ≡ option_map_or version_number found 0
read_is None = refl
read_is (Some version) = refl

read_version : (sc : Scenario) (reading : Reading) (admin : AdminId) → AreVersions sc reading.newest → IsAdmin sc admin → IsVersion sc admin (record { 0 = newest_in (Some reading) admin })
read_version sc reading admin read within =
    let found = version_of sc.admins reading.newest admin.0 (record { 0 = 0 }) read within in
    record { declared = found.0; declared_is = found.1; in_library = subst (λ (n : ℕ). IsVersionOf found.0 (record { 0 = n })) (read_is (slice_get reading.newest admin.0)) found.2 }

-- what is aimed at exists, as the versions of proofs do, and what was read
aim_sound : (sc : Scenario) (txn : TxnId) (round : Round) (reading : Option Reading) → IsSoundJudged sc txn round reading → AreWanted sc (aim_in round reading)
aim_sound sc txn round reading j =
    let sound = replies_sound sc txn round.targets j.round_is.targets in
    each_as (IsOf (λ (admin : AdminId) (version : ℕ). IsVersion sc admin (record { 0 = version }))) (λ (wanted : AdminId × Version). IsVersion sc wanted.0 wanted.1) (λ wanted k. k) (aim_in round reading)
    (aim_has (λ (admin : AdminId) (version : ℕ). IsVersion sc admin (record { 0 = version })) round.levels reading (proofs_in round.targets)
    (each_as (IsSoundVerdict sc txn) _ (λ verdict k. j.newest verdict.admin (slice_get_within sc.admins verdict.admin.0 k.version.declared k.version.declared_is)) (proofs_in round.targets) sound)
    (each_as (IsSoundVerdict sc txn) _ (λ verdict k. k.version) (proofs_in round.targets) sound))

-- what is met exists: it is aimed at, and is above what was used
met_sound : (sc : Scenario) (txn : TxnId) (round : Round) (reading : Option Reading) → IsSoundJudged sc txn round reading → IfSome (met_in round reading) (IsSoundMet sc)
met_sound sc txn round None j = tt
met_sound sc txn round (Some reading) j = of_found (find (is_below round.levels proofs) (aim_in round (Some reading))) refl
  where
    proofs : List Verdict
    proofs = proofs_in round.targets

    of_found : (found : Option (AdminId × Version)) → find (is_below round.levels proofs) (aim_in round (Some reading)) ≡ found → IfSome (option_map (met_at reading proofs) found) (IsSoundMet sc)
    of_found None e = tt
    of_found (Some aimed) e =
        let newest : IsVersion sc aimed.0 aimed.1 = each_found (λ (wanted : AdminId × Version). IsVersion sc wanted.0 wanted.1) (is_below round.levels proofs) (aim_in round (Some reading)) aimed (aim_sound sc txn round (Some reading) j) e in
        let below : least aimed.0 proofs < aimed.1.0 =
        ltb-true (least aimed.0 proofs) aimed.1.0 (and_parts (is_global_at round.levels aimed.0) (nat_lt (least aimed.0 proofs) aimed.1.0) (found_passes (is_below round.levels proofs) (aim_in round (Some reading)) aimed e)).1 in
        let low : 1 ≤ least aimed.0 proofs =
        least_from aimed.0 proofs count_limit (omega arith) (each_as (IsSoundVerdict sc txn) (λ (verdict : Verdict). 1 ≤ verdict.version.0) (λ verdict k. k.version.in_library.0) proofs (replies_sound sc txn round.targets j.round_is.targets)) in
        let high : aimed.1.0 ≤ length newest.declared.library = newest.in_library.1 in
        record { used = record { declared = newest.declared; declared_is = newest.declared_is; in_library = (low, omega (arith, below, high)) }; newest = newest }

-- what is spent is what each round met
spent_sound : (sc : Scenario) (txn : TxnId) (round : Round) (reading : Option Reading) (mets : List Met) → judge round reading ≡ judged.Spent mets → IsSoundJudged sc txn round reading → IsSoundCause sc txn (cause.Rounds mets)
spent_sound sc txn round reading mets e j =
    let all = spent_has_all_mets round reading mets e in
    let met : IsSoundMet sc all.met = subst (λ (found : Option Met). IfSome found (IsSoundMet sc)) all.is_met (met_sound sc txn round reading j) in
    record {
      has_member = subst (λ (ms : List Met). 1 ≤ length ms) (sym all.all) (omega (arith, length-append round.mets (all.met ∷ [])));
      each = subst (Each (IsSoundMet sc)) (sym all.all) (each_more (IsSoundMet sc) round.mets all.met j.round_is.mets met);
    }

renewed_sound : (sc : Scenario) (txn : TxnId) (aim : List (AdminId × Version)) (target : Target) → IsSoundTarget sc txn target → IsSoundTarget sc txn (next_target aim target)
renewed_sound sc txn aim target h = by_cond (IsSoundTarget sc txn) (is_outdated aim target) (λ e. record { server = h.server; reply = tt }) (λ e. h)

-- the named servers are some of the round's
named_sound : (sc : Scenario) (txn : TxnId) (aim : List (AdminId × Version)) (targets : List Target) → AreWanted sc aim → Each (IsSoundTarget sc txn) targets → Each (IsSoundWanted sc) (wants_of aim targets)
named_sound sc txn aim targets a h =
    each_map (IsSoundTarget sc txn) (IsSoundWanted sc) (want_of aim)
    (λ target k. record { server = k.server; want = each_filter (λ (wanted : AdminId × Version). IsVersion sc wanted.0 wanted.1) (is_proved_by target) aim a })
    (filter (is_outdated aim) targets) (each_filter (IsSoundTarget sc txn) (is_outdated aim) targets h)

mets_sound : (sc : Scenario) (mets : List Met) (met : Option Met) → Each (IsSoundMet sc) mets → IfSome met (IsSoundMet sc) → Each (IsSoundMet sc) (mets ++ option_to_list met)
mets_sound sc mets None h m = each_append (IsSoundMet sc) mets [] h tt
mets_sound sc mets (Some met) h m = each_more (IsSoundMet sc) mets met h m

-- the next round after an update
next_sound : (sc : Scenario) (txn : TxnId) (round : Round) (reading : Option Reading) (named : List Wanted) → judge round reading ≡ judged.Update named → IsSoundJudged sc txn round reading
    → IsSoundRound sc txn (after_judgement round reading)
next_sound sc txn round reading named e j =
    let r = j.round_is in
    let aim = aim_in round reading in
    let aimed : AreWanted sc aim = aim_sound sc txn round reading j in
    subst (IsSoundRound sc txn) (sym (updated_is round reading named e))
    (record {
      levels = r.levels;
      targets = each_map (IsSoundTarget sc txn) (IsSoundTarget sc txn) (next_target aim) (λ target k. renewed_sound sc txn aim target k) round.targets r.targets;
      aim = aimed;
      named = subst (Each (IsSoundWanted sc)) (sym (updated round reading named e).is_named) (named_sound sc txn aim round.targets aimed r.targets);
      mets = mets_sound sc round.mets (met_in round reading) r.mets (met_sound sc txn round reading j);
    })

-- ---- Ack

acknowledged_sound : (sc : Scenario) (c : Coordinator) (ended : Outcome) (awaited : List ServerId) (server : ServerId) → IsSoundCoordinator sc c → Each (IsServer sc) awaited
    → IsSoundCoordinatorEffect sc c (sends (record c { phase = phase.Ending ended (without awaited server) }) [])
acknowledged_sound sc c ended awaited server h a =
    record {
      same_txn = refl;
      state_is = moved_in_ids sc c (phase.Ending ended (without awaited server)) c.turn c.epochs h (without_sound sc awaited server a);
      forces = tt;
      sends_only = tt;
    }

-- ---- all mails

-- the verdicts of an awaited reply
reply_sound : (sc : Scenario) (c : Coordinator) (mail : Mail) (over : Span) (round : Round) (staple : Staple) (server : ServerId) (verdicts : List Verdict)
    → IsSoundBody sc (actor.Coordinator c.txn) mail.letter.body → IsReply c mail over round staple server verdicts → AreSoundVerdicts sc c.txn verdicts
reply_sound sc c mail _ _ _ _ _ m (ByVote reply round staple server verdicts y) =
    let said = subst (IsSoundBody sc (actor.Coordinator c.txn)) y.said_is m in
    let ballot : IsSoundBallot sc c.txn reply.vote = subst (λ (txn : TxnId). IsSoundBallot sc txn reply.vote) (same_txn_from c.txn reply.txn said.goes_to) said.ballot in
    subst (IsSoundBallot sc c.txn) y.vote_is ballot
reply_sound sc c mail _ _ _ _ _ m (ByVerdicts reply number round staple server verdicts y) =
    let said = subst (IsSoundBody sc (actor.Coordinator c.txn)) y.said_is m in
    let shown : IfSome reply.verdicts (AreSoundVerdicts sc c.txn) = subst (λ (txn : TxnId). IfSome reply.verdicts (AreSoundVerdicts sc txn)) (same_txn_from c.txn reply.txn said.goes_to) said.verdicts in
    subst (λ (given : Option (List Verdict)). IfSome given (AreSoundVerdicts sc c.txn)) y.verdicts_are shown

-- the reason of an awaited vote NO
no_sound : (sc : Scenario) (c : Coordinator) (mail : Mail) (reply : VoteReply) (server : ServerId) (number : ℕ) (value : ℤ) → IsSoundRefusal sc mail.letter.from mail.letter.body
    → IsSoundBody sc (actor.Coordinator c.txn) mail.letter.body → IsNo c mail reply server (no.Range number value) → IsSoundCause sc c.txn (cause.No (refused_by server number value))
no_sound sc c mail reply server number value r m k =
    let said = subst (IsSoundBody sc (actor.Coordinator c.txn)) k.said_is m in
    let refusal : IsRefusalOf sc server reply.txn reply.vote = subst (λ (told : Body). IsSoundRefusal sc (actor.Server server) told) k.said_is (subst (λ (from : Actor). IsSoundRefusal sc from mail.letter.body) k.from_is r) in
    let own : IsRefusalOf sc server c.txn reply.vote = subst (λ (txn : TxnId). IsRefusalOf sc server txn reply.vote) (same_txn_from c.txn reply.txn said.goes_to) refusal in
    record { query = subst (IsRefusalOf sc server c.txn) k.vote_is own }

-- a newer version was found at the master than that of a gathered proof
older_sound : (sc : Scenario) (txn : TxnId) (gathered : List Verdict) (reading : Reading) (why : Cause) → Each (IsSoundProof sc txn) gathered → AreVersions sc reading.newest → older (replicate admins_limit level.Global) gathered reading ≡ Some why
    → IsSoundCause sc txn why
older_sound sc txn gathered reading why h read e =
    let found = finds_the_first_below (replicate admins_limit level.Global) gathered reading why e in
    let newer : Newer = found.0 in
    let below = found.2 in
    let proof : Verdict = below.proof in
    let sound : IsSoundProof sc txn proof = each_get (IsSoundProof sc txn) gathered below.place proof h below.kept in
    let used : IsVersion sc proof.admin proof.version = sound.sound.version in
    let newest = version_of sc.admins reading.newest proof.admin.0 (record { 0 = 0 }) read (slice_get_within sc.admins proof.admin.0 used.declared used.declared_is) in
    let there : IsVersion sc proof.admin (unwrap_or (slice_get reading.newest proof.admin.0) (record { 0 = 0 })) = record { declared = newest.0; declared_is = newest.1; in_library = newest.2 } in
    let both : IsSoundNewer sc newer =
    record {
      used = subst (λ (admin : AdminId). IsVersion sc admin newer.used) (sym below.admin) (subst (IsVersion sc proof.admin) (sym below.used) used);
      found = subst (λ (admin : AdminId). IsVersion sc admin newer.found) (sym below.admin) (subst (IsVersion sc proof.admin) (sym below.found) there);
    } in
    subst (IsSoundCause sc txn) (sym found.1) both

-- an awaited answer
given_sound : (sc : Scenario) (c : Coordinator) (mail : Mail) (done : DoneReply) (server : ServerId) (asked : Query) (given : Answer) → IsSoundBody sc (actor.Coordinator c.txn) mail.letter.body
    → IsAwaitedAnswer sc c mail done server asked given → IsSoundAnswer sc c.txn given
given_sound sc c mail done server asked given m k =
    let said = subst (IsSoundBody sc (actor.Coordinator c.txn)) k.said_is m in
    let own : IsSoundAnswer sc c.txn done.answer = subst (λ (txn : TxnId). IsSoundAnswer sc txn done.answer) (same_txn_from c.txn done.txn said.goes_to) said.answer_is_sound in
    subst (IsSoundAnswer sc c.txn) k.answer_is own

-- the reason of an awaited answer that an older transaction stood in the way
died_sound : (sc : Scenario) (c : Coordinator) (mail : Mail) (done : DoneReply) (server : ServerId) (asked : Query) (other : TxnId) → IsValid sc → IsSoundBody sc (actor.Coordinator c.txn) mail.letter.body
    → IsAwaitedAnswer sc c mail done server asked (answer.Died other) → IsSoundCause sc c.txn (cause.Died (died_for server done other mail.sent))
died_sound sc c mail done server asked other valid m k =
    let at : IsServerOf sc asked server = server_found sc asked server (slice_get sc.items (item_of asked).0) valid refl k.server_is in
    record { query = record { asked = asked; asked_is = k.asked_is; kept = at.kept }; other = given_sound sc c mail done server asked (answer.Died other) m k }

probing_query : (sc : Scenario) (txn : TxnId) (awaited : Phase) (at : Point) → IsProbing awaited at → is_of_query at ≡ true → IsSoundPhase sc txn awaited → IsQuery sc txn (number_at at)
probing_query sc txn _ _ (AfterQuery number) e h = h
probing_query sc txn _ _ AfterVotes e h = absurd (cc)

spanned_query : (sc : Scenario) (txn : TxnId) (over : Span) → is_of_query (point_of over) ≡ true → IsSoundSpan sc txn over → IsQuery sc txn (number_at (point_of over))
spanned_query sc txn (span.Validate number) e h = h
spanned_query sc txn span.Commit e h = absurd (cc)

-- what a round that is judged is over
pub judged_span : (sc : Scenario) (c : Coordinator) (mail : Mail) (over : Span) (round : Round) (staple : Option Staple) (reading : Option Reading) → IsSoundCoordinator sc c → IsJudged c mail over round staple reading → IsSoundSpan sc c.txn over
judged_span sc c mail _ _ _ _ h (ByReplies over round staple server verdicts y whole unread) = (subst (IsSoundPhase sc c.txn) (reply_checking c mail over round staple server verdicts y) h.awaits).0
judged_span sc c mail _ _ _ _ h (ByReading reply over round k) = (subst (IsSoundPhase sc c.txn) k.reading h.awaits).0

-- at a point after a query, there is such a query
pub passed_query : (sc : Scenario) (c : Coordinator) (mail : Mail) (at : Point) (now : Gained) (rounds : ℕ) → IsSoundCoordinator sc c → IsPassed sc c mail at now rounds → is_of_query at ≡ true → IsQuery sc c.txn (number_at at)
passed_query sc c mail _ _ _ h (QueryRan done server asked value proof k) e = record { asked = asked; asked_is = k.asked_is }
passed_query sc c mail _ _ _ h (ProofsRead reply at k none) e = probing_query sc c.txn c.phase at k.probing e h.awaits
passed_query sc c mail _ _ _ h (AllTrue over round staple reading k) e = spanned_query sc c.txn over e (judged_span sc c mail over round staple reading h k.is_judged)
passed_query sc c mail _ _ _ h (AllVoted reply awaited server verdicts k left) e = absurd (cc)

pub coordinator_row_sound : (sc : Scenario) (c : Coordinator) (mail : Mail) → IsValid sc → IsSoundCoordinator sc c → IsActor sc mail.letter.from
    → IsSoundRefusal sc mail.letter.from mail.letter.body → IsSoundBody sc (actor.Coordinator c.txn) mail.letter.body → IsSoundCoordinatorEffect sc c (coordinator_row sc c mail)
coordinator_row_sound sc c mail valid h a r m =
    coordinator_by sc c mail (IsSoundCoordinatorEffect sc c)
    (record {
      ignored = ignores_sound_in_coordinator sc c h;
      stapled = λ tell query home k home_of_it. sends_query_sound sc c query (Some (staple_of tell mail.sent)) home valid h (home_is sc c query home home_of_it) (staple_sound tell k.said_is, λ each. refl);
      sends_query = λ at now rounds next passed moves home.
          let further : IsHome sc c (next_at at) next = home_is sc c (next_at at) next home in
          let on = sends_query_sound sc (with_gained c now) (next_at at) None next valid (gained_sound at now rounds passed)
          (record { asked = further.asked; asked_is = further.asked_is; server_is = further.server_is })
          (tt, λ each. absurd (sent_unproved sc c (next_at at) (begun_after sc c at move.SendQuery (passed_past sc c mail at now rounds passed) refl moves) each)) in
          record { same_txn = refl; state_is = on.state_is; forces = tt; sends_only = on.sends_only };
      asks_staple = λ at now rounds passed moves.
          let on = asks_in_sound sc (with_gained c now) (phase.Stapling (next_at at)) (gained_sound at now rounds passed)
          (query_begins sc c (next_at at) (next_low (number_at at)) (begun_after sc c at move.Ask (passed_past sc c mail at now rounds passed) refl moves)) in
          record { same_txn = refl; state_is = on.state_is; forces = tt; sends_only = on.sends_only };
      probes_proofs = λ at now rounds passed moves.
          let on = probes_sound sc (with_gained c now) (probing_at at) (gained_sound at now rounds passed) (probing_sound sc c.txn at (probed_there sc c at moves) (ran_query at now rounds passed)) in
          record { same_txn = refl; state_is = on.state_is; forces = tt; sends_only = on.sends_only };
      validates = λ at now rounds passed moves.
          let on = asks_in_sound sc (with_gained c now) (phase.Asking (span.Validate (number_at at)) (validation_round sc c (number_at at))) (gained_sound at now rounds passed)
          (ran_query at now rounds passed (validated_ran sc c at moves), validation_round_sound sc c (number_at at) h) in
          record { same_txn = refl; state_is = on.state_is; forces = tt; sends_only = on.sends_only };
      commit_rounds = λ at now rounds passed moves.
          let on = asks_in_sound sc (with_gained c now) (phase.Asking span.Commit (commit_round sc c)) (gained_sound at now rounds passed) (tt, commit_round_sound sc c h) in
          record { same_txn = refl; state_is = on.state_is; forces = tt; sends_only = on.sends_only };
      asks_votes = λ at now rounds passed moves.
          let on = asks_votes_sound sc (with_gained c now) (gained_sound at now rounds passed) in
          record { same_txn = refl; state_is = on.state_is; forces = tt; sends_only = on.sends_only };
      decides = λ at now rounds passed moves.
          let on = commits_sound sc (with_gained c now) rounds (gained_sound at now rounds passed) in
          record { same_txn = refl; state_is = on.state_is; forces = on.forces; sends_only = on.sends_only };
      told = λ tell over round k. checks_sound sc c over round (staple_of tell mail.sent) h (awaits k.asking).0 (awaits k.asking).1 (staple_sound tell k.said_is);
      counted = λ over round staple server verdicts y.
          stays_sound sc c over (after_reply round server verdicts) staple h (over_sound over round staple server verdicts y) (replied over round staple server verdicts y) (awaits (reply_checking c mail over round staple server verdicts y)).2;
      probed = λ over round staple server verdicts y whole reads.
          probes_sound sc c (phase.Reading over (after_reply round server verdicts)) h (over_sound over round staple server verdicts y, replied over round staple server verdicts y);
      aborted = λ why ended. aborts_sound sc c why h (cause_sound why ended);
      updated = λ over round staple reading named j e.
          let judged_one = judged_sound over round staple reading j in
          asks_in_sound sc c (phase.Asking over (after_judgement round reading)) h (judged_one.0, next_sound sc c.txn round reading named e judged_one.1);
      voted = λ reply awaited server verdicts k.
          record { same_txn = refl; state_is = moved_in_ids sc c (phase.Voting (without awaited server)) c.turn c.epochs h (without_sound sc awaited server (awaits k.voting)); forces = tt; sends_only = tt };
      acknowledged = λ ack ended awaited server k. acknowledged_sound sc c ended awaited server h (awaits k.ending);
      inquired = λ inquiry ended awaited server k. record { same_txn = refl; state_is = h; forces = tt; sends_only = orders_sound sc c ended (server ∷ []) h (subst (IsActor sc) k.from_is a, tt) };
    })
  where
    awaits : {awaited : Phase} → c.phase ≡ awaited → IsSoundPhase sc c.txn awaited
    awaits e = subst (IsSoundPhase sc c.txn) e h.awaits

    next_low : (query : ℕ) → 1 ≤ next_number query
    next_low query = omega arith

    staple_sound : (tell : TellReply) → mail.letter.body ≡ body.Tell tell → IsSoundStaple sc (staple_of tell mail.sent)
    staple_sound tell e = (subst (IsSoundBody sc (actor.Coordinator c.txn)) e m).revoked

    over_sound : (over : Span) (round : Round) (staple : Staple) (server : ServerId) (verdicts : List Verdict) → IsReply c mail over round staple server verdicts → IsSoundSpan sc c.txn over
    over_sound over round staple server verdicts y = (awaits (reply_checking c mail over round staple server verdicts y)).0

    replied : (over : Span) (round : Round) (staple : Staple) (server : ServerId) (verdicts : List Verdict) → IsReply c mail over round staple server verdicts → IsSoundRound sc c.txn (after_reply round server verdicts)
    replied over round staple server verdicts y =
        replied_sound sc c.txn round server verdicts (awaits (reply_checking c mail over round staple server verdicts y)).1 (subst (IsActor sc) (reply_from c mail over round staple server verdicts y) a)
        (reply_sound sc c mail over round staple server verdicts m y)

    read_versions : (reply : NewestReply) → mail.letter.body ≡ body.Newest reply → AreVersions sc reply.newest
    read_versions reply e = (subst (IsSoundBody sc (actor.Coordinator c.txn)) e m).newest

    judged_sound : (over : Span) (round : Round) (staple : Option Staple) (reading : Option Reading) → IsJudged c mail over round staple reading → IsSoundSpan sc c.txn over × IsSoundJudged sc c.txn round reading
    judged_sound _ _ _ _ (ByReplies over round staple server verdicts y whole unread) =
        let now = replied over round staple server verdicts y in
        (over_sound over round staple server verdicts y, record { round_is = now; newest = λ admin within global. absurd (let reads = now.levels admin global in cc) })
    judged_sound _ _ _ _ (ByReading reply over round k) =
        let read : AreVersions sc reply.newest = read_versions reply k.said_is in
        ((awaits k.reading).0, record { round_is = (awaits k.reading).1; newest = λ admin within global. read_version sc (reading_of reply mail.sent) admin read within })

    gained_sound : (at : Point) (now : Gained) (rounds : ℕ) → IsPassed sc c mail at now rounds → IsSoundCoordinator sc (with_gained c now)
    gained_sound _ _ _ (QueryRan done server asked value proof k) = gains_deed_sound sc c server done asked value proof h k.asked_is (given_sound sc c mail done server asked (answer.Ran value proof) m k)
    gained_sound _ _ _ (ProofsRead reply at k none) = gains_instance_sound sc c (Some mail.sent) c.gathered h h.gathered
    gained_sound _ _ _ (AllTrue over round staple reading k) =
        gains_instance_sound sc c (option_map place_of reading) (by_query (proofs_in round.targets)) h (proofs_sound sc c.txn round reading k.all_true (judged_sound over round staple reading k.is_judged).1.round_is.targets)
    gained_sound _ _ _ (AllVoted reply awaited server verdicts k left) =
        record { exists = h.exists; servers = h.servers; deeds = h.deeds; gathered = h.gathered; instances = h.instances; awaits = h.awaits }

    -- where a query ran, there is such a query
    ran_query : (at : Point) (now : Gained) (rounds : ℕ) → IsPassed sc c mail at now rounds → is_ran at ≡ true → IsQuery sc c.txn (number_at at)
    ran_query at now rounds passed ran = let there = ran_there sc c mail at now rounds passed ran in record { asked = there.0; asked_is = there.1 }

    cause_sound : (why : Cause) → IsEnded sc c mail why → IsSoundCause sc c.txn why
    cause_sound _ (ByOlder done server asked other k) = died_sound sc c mail done server asked other valid m k
    cause_sound _ (ByDenial done server asked verdict k) = let sound : IsSoundVerdict sc c.txn verdict = given_sound sc c mail done server asked (answer.Denied verdict) m k in record { query = sound.query; version = sound.version }
    cause_sound _ (ByNewer done server asked newer k) = given_sound sc c mail done server asked (answer.Newer newer) m k
    cause_sound _ (ByNewest reply at why k found) = older_sound sc c.txn c.gathered (reading_of reply mail.sent) why h.gathered (read_versions reply k.said_is) found
    cause_sound _ (ByProof over round staple reading verdict j e) = denied_sound sc c.txn round reading verdict e (judged_sound over round staple reading j).1.round_is.targets
    cause_sound _ (ByRounds reply over round mets k e) = spent_sound sc c.txn round (Some (reading_of reply mail.sent)) mets e (judged_sound over round None (Some (reading_of reply mail.sent)) (ByReading reply over round k)).1
    cause_sound _ (ByRefusal reply server number value k) = no_sound sc c mail reply server number value r m k
    cause_sound _ (ByRestart done server asked k) = (server_found sc asked server (slice_get sc.items (item_of asked).0) valid refl k.server_is).exists
    cause_sound _ (ByLoss reply server k) = subst (IsActor sc) k.from_is a
    cause_sound _ (ByLostVerdicts reply number round staple server k) = subst (IsActor sc) k.from_is a

-- ---- timers

-- a request that is sent again
pub repeats_sound : (sc : Scenario) (c : Coordinator) → IsValid sc → IsSoundCoordinator sc c → Each (IsSoundLetter sc) (repeats sc c c.phase)
repeats_sound sc c valid h =
    timer_by sc c (Each (IsSoundLetter sc))
    (record {
      silent = tt;
      stapled = λ number stapling. (ask_sound sc c c.turn h, tt);
      queried = λ number staple server querying home. (query_sound sc c c.turn number staple server valid h (home_is sc c number server home) ((awaits querying).1, (awaits querying).2), tt);
      asked = λ over round asking. (ask_sound sc c c.turn h, tt);
      prepared = λ over round staple checking. round_letters_sound sc c over c.turn round staple h (awaits checking).1 (awaits checking).2;
      probed = λ at probing. (probe_sound sc c c.turn h, tt);
      read = λ over round reading. (probe_sound sc c c.turn h, tt);
      voted = λ awaited voting. vote_letters_sound sc c c.turn awaited h (awaits voting);
      ordered = λ ended awaited ending. orders_sound sc c ended awaited h (awaits ending);
    })
  where
    awaits : {awaited : Phase} → c.phase ≡ awaited → IsSoundPhase sc c.txn awaited
    awaits e = subst (IsSoundPhase sc c.txn) e h.awaits
