-- Agreement, step by step: it holds before the first step, each step keeps it, and so it holds after every list of steps.
use Rattle.std.proofs.Common.{Bool, IfSome, List, None, Option, Some, [], ap, arith, false, if◌then◌else◌, length, option_and_then, option_map, refl, slice_get, subst, sym, true, ℕ, ◌∙◌, ◌∷◌, ◌≡◌}
use Rattle.std.proofs.lemmas.List.FromFn.{length-map-range_with_len}
use Rattle.std.proofs.lemmas.Option.{same_Some}
use Rattle.std.specs.Option.{option_or}
use Rattle.tp_model.specs.Ids.{same_txn}
use Rattle.tp_model.specs.Words.actor
use Rattle.tp_model.specs.Words.body
use Rattle.tp_model.specs.Words.log
use Rattle.tp_model.specs.Words.outcome
use Rattle.tp_model.specs.Words.step
use Rattle.tp_model.specs.Words.vote
use Rattle.tp_model.specs.Words.what
use Rattle.tp_model.specs.Words.{Actor, AdminId, Body, CredId, Decision, Mail, No, Outcome, Record, Scenario, ServerId, Settled, Step, TxnId, Version, Vote, VoteReply, What}
use Rattle.tp_runs.proofs.ids.Valid.{IsValid}
use Rattle.tp_runs.proofs.agreement.Coordinator.{CoordinatorLawful, HoldsItem, Keeps, ReplyRests, SubmissionLawful, YesRests, coordinator_row_lawful, repeats_lawful, submit_row_lawful}
use Rattle.tp_runs.proofs.agreement.CoordinatorActs.{coordinator_acts_agrees, letters_rest_again, receipt_acts, submission_acts}
use Rattle.tp_runs.proofs.agreement.Known.{KnowsTold, learns_knows, opening_knows, row_learns}
use Rattle.tp_runs.proofs.agreement.Logs.{DecidedAs, IsAsked, IsPrepared, IsSettled, outcome_settled, submitted_count, submitted_up}
use Rattle.tp_runs.proofs.agreement.Server.{IsUnsettled, LetterKept, NamesPrepared, RefusalsAbort, RequestRests, ServerAgrees, ServerLawful, cast_in, server_row_lawful}
use Rattle.tp_runs.proofs.agreement.ServerActs.{SaysOnly, server_acts_agrees, unmoved_agrees}
use Rattle.tp_runs.proofs.agreement.World.{Agrees, BodyRests, CoordinatorUpAgrees, DecidedServed, LetterRests, MailRests, MoveAgrees, PreparesNamed, VoteRests, state_after_agrees}
use Rattle.tp_runs.proofs.basics.Homes.{first_row_begins}
use Rattle.tp_runs.proofs.basics.Ids.{same_txn_from, same_txn_is}
use Rattle.tp_types.proofs.EachLemmas.{at_made, each_get, placed_none, unset_at}
use Rattle.tp_runs.proofs.basics.Logs.{listed}
use Rattle.tp_runs.proofs.ids.Queries.{have_homes}
use Rattle.tp_runs.proofs.walks.Steps.{Cases, IsCoordinatorUp, IsServerUp, KeepsUp, SaysIdle, WaitRightly, WasSent, machine_after_by}
use Rattle.tp_recover.specs.Log.{decided_in, prepared_in, settled_in}
use Rattle.tp_machine.specs.Logs.{decided_at, decided_by, prepared_by, settled_at, settled_by}
use Rattle.tp_machine.specs.Machine.{Machine, State, acts_by, coordinator_fact, coordinator_move, idle_move, is_part_submitted, machine_after, opened_actors, opened_part, opening_state, refusal, server_fact, server_move, with_age}
use Rattle.tp_actor_log.specs.Records.{log_with}
use Rattle.tp_machine.specs.Parts.{Part}
use Rattle.tp_types.specs.Each.{Each, EachAt}
use Rattle.tp_runs.specs.Sound.{IsSound, IsSoundBody, IsSoundCoordinatorUp, IsSoundLetter, IsSoundMail, IsSoundServerUp}
use Rattle.tp_machine.specs.Named.{IsStepOf, IsTxn}
use Rattle.tp_coord.specs.Opened as coord
use Rattle.tp_coord.specs.Row.{coordinator_row, is_begun, repeats, submit_row}
use Rattle.tp_coord.specs.State.{Coordinator}
use Rattle.tp_machine.specs.declared.actors.Actors.{Actors}
use Rattle.tp_server.specs.Opened as server
use Rattle.tp_server.specs.Row.{server_row}
use Rattle.tp_server.specs.State.{Server}
use Rattle.tp_offices.specs.Authority as office
use Rattle.tp_offices.specs.Master as master
use Rattle.tp_offices.specs.declared.authority.Authority.{Authority}
use Rattle.tp_offices.specs.declared.master.Master.{Master}

-- ---- what a step says by itself

pub silent_says : (sc : Scenario) (w : State) → SaysOnly sc w.facts []
silent_says sc w = record { follows = tt; no_submission = λ txn. refl; no_decision = λ txn. refl; no_settlement = λ at txn. refl }

lost_says : (sc : Scenario) (w : State) (mail : ℕ) → SaysOnly sc w.facts (what.Lost mail ∷ [])
lost_says sc w mail = record { follows = (tt, tt); no_submission = λ txn. refl; no_decision = λ txn. refl; no_settlement = λ at txn. refl }

idle_agrees : (sc : Scenario) (w : State) → Agrees sc w → (taken : Step) (happened : List What) → SaysIdle taken happened → MoveAgrees sc w (idle_move w.actors happened)
idle_agrees sc w h (step.Deliver mail) happened e = subst (λ (hs : List What). MoveAgrees sc w (idle_move w.actors hs)) (sym e) (unmoved_agrees sc w [] [] h (silent_says sc w) tt)
idle_agrees sc w h (step.Lose mail) happened e = subst (λ (hs : List What). MoveAgrees sc w (idle_move w.actors hs)) (sym e) (unmoved_agrees sc w (what.Lost mail ∷ []) [] h (lost_says sc w mail) tt)
idle_agrees sc w h _ happened e = absurd e

-- the offices alone act
offices_agree : (sc : Scenario) (w : State) (authority : Authority) (held : Master) (happened : List What) → Agrees sc w → SaysOnly sc w.facts happened
    → MoveAgrees sc w (record { actors = record w.actors { authority = authority; master = held }; happened = happened; letters = [] })
offices_agree sc w authority held happened h o =
    let t = unmoved_agrees sc w happened [] h o tt in
    record {
      coordinator_count = t.coordinator_count;
      server_count = t.server_count;
      coordinators = t.coordinators;
      servers = t.servers;
      letters = tt;
      stays = record { submitted = t.stays.submitted; decided = t.stays.decided; settled = t.stays.settled; voted = t.stays.voted; prepared = t.stays.prepared; served = t.stays.served };
      happened = t.happened;
      submitted = t.submitted;
      decided = t.decided;
      settled = t.settled;
    }

ticked_says : (sc : Scenario) (w : State) (by : ℕ) → SaysOnly sc w.facts (what.Ticked by ∷ [])
ticked_says sc w by = record { follows = (tt, tt); no_submission = λ txn. refl; no_decision = λ txn. refl; no_settlement = λ at txn. refl }

revoked_says : (sc : Scenario) (w : State) (cred : CredId) → SaysOnly sc w.facts (what.Revoked cred ∷ [])
revoked_says sc w cred = record { follows = (tt, tt); no_submission = λ txn. refl; no_decision = λ txn. refl; no_settlement = λ at txn. refl }

published_says : (sc : Scenario) (w : State) (admin : AdminId) (version : Version) → SaysOnly sc w.facts (what.Published admin version ∷ [])
published_says sc w admin version = record { follows = (tt, tt); no_submission = λ txn. refl; no_decision = λ txn. refl; no_settlement = λ at txn. refl }

-- ---- what is known of actors that are up

-- what a mail to a server rests on
pub request_rests : (sc : Scenario) (w : State) (from : Actor) (at : ServerId) (said : Body) → BodyRests sc w.actors from (actor.Server at) said
    → RequestRests (DecidedAs w.actors.coordinators) (IsAsked sc w.actors.coordinators at) said
request_rests sc w from at (body.Query q) h = h
request_rests sc w from at (body.Validate v) h = h
request_rests sc w from at (body.Prepare p) h = h
request_rests sc w from at (body.Decide order) h = h
request_rests sc w from at _ h = tt

-- the state of a coordinator that is up is its transaction's
pub own_txn : (sc : Scenario) (w : State) (txn : TxnId) (part : Part Coordinator) (c : Coordinator) → IsSound sc w → slice_get w.actors.coordinators txn.0 ≡ Some part → part.up ≡ Some c → c.txn ≡ txn
own_txn sc w txn part c sound found up = (subst (λ (u : Option Coordinator). IfSome u (IsSoundCoordinatorUp sc txn)) up (sound.actors_are.coordinators txn.0 part found).state).txn_is

-- an actor that is up agrees with its log
pub server_agrees : (sc : Scenario) (w : State) (at : ServerId) (part : Part Server) (s : Server) → Agrees sc w → IsServerUp w at part s → ServerAgrees s part.log
server_agrees sc w at part s h up = subst (λ (u : Option Server). IfSome u (λ (t : Server). ServerAgrees t part.log)) up.up (h.servers at.0 part up.found).state

-- and knows no less than it tells
server_knows : (sc : Scenario) (w : State) (at : ServerId) (part : Part Server) (s : Server) → Agrees sc w → IsServerUp w at part s → KnowsTold sc at part.log s
server_knows sc w at part s h up = subst (λ (u : Option Server). IfSome u (KnowsTold sc at part.log)) up.up (h.servers at.0 part up.found).knows

pub coordinator_agrees : (sc : Scenario) (w : State) (txn : TxnId) (part : Part Coordinator) (c : Coordinator) → Agrees sc w → IsCoordinatorUp w txn part c
    → Keeps sc (IsPrepared w.actors.servers txn) (IsSettled w.actors.servers txn) c part.log
coordinator_agrees sc w txn part c h up =
    let here : CoordinatorUpAgrees sc w.actors.servers txn part.log c = subst (λ (u : Option Coordinator). IfSome u (CoordinatorUpAgrees sc w.actors.servers txn part.log)) up.up (h.coordinators txn.0 part up.found).state in
    record { agrees = here.agrees; replied = here.replied }

-- what a mail that was sent to an actor rests on
pub mail_rests : (sc : Scenario) (w : State) (n : ℕ) (mail : Mail) (to : Actor) → Agrees sc w → WasSent w n mail to → BodyRests sc w.actors mail.letter.from to mail.letter.body
mail_rests sc w n mail to h sent =
    subst (λ (t : Actor). BodyRests sc w.actors mail.letter.from t mail.letter.body) sent.goes_to (each_get (MailRests sc w.actors) w.mails n mail h.mails sent.sent)

yes_kept : (actors : Actors) (at : ServerId) (txn other : TxnId) (decided : Option Decision) (said : Vote) → other ≡ txn → decided_at actors.coordinators txn.0 ≡ decided → VoteRests actors at other said
    → YesRests (decided ≡ None → IsPrepared actors.servers txn at) said
yes_kept actors at txn other decided (vote.Yes verdicts) same here h =
    λ none. subst (λ (t : TxnId). IsPrepared actors.servers t at) same (h.prepared (ap (λ (t : TxnId). decided_at actors.coordinators t.0) same ∙ (here ∙ none)))
yes_kept actors at txn other decided (vote.No why) same here h = tt

-- what a reply to the coordinator of a transaction, or a question to it, says of its sender
reply_rests : (sc : Scenario) (w : State) (txn : TxnId) (part : Part Coordinator) (from : Actor) (said : Body) → slice_get w.actors.coordinators txn.0 ≡ Some part → IsSoundBody sc (actor.Coordinator txn) said
    → BodyRests sc w.actors from (actor.Coordinator txn) said → ReplyRests (IsPrepared w.actors.servers txn) (IsSettled w.actors.servers txn) (HoldsItem sc txn) (decided_in part.log) from said
reply_rests sc w txn part (actor.Server at) (body.Vote reply) found sound h =
    yes_kept w.actors at txn reply.txn (decided_in part.log) reply.vote (same_txn_from txn reply.txn sound.goes_to) (ap (option_and_then decided_by) found) h
reply_rests sc w txn part (actor.Server at) (body.Ack ack) found sound h = subst (λ (t : TxnId). IsSettled w.actors.servers t at) (same_txn_from txn ack.txn sound.goes_to) h
reply_rests sc w txn part (actor.Server at) (body.Inquire inquiry) found sound h = subst (λ (t : TxnId). HoldsItem sc t at) (same_txn_from txn inquiry.txn sound.goes_to) h.item
reply_rests sc w txn part _ _ found sound h = tt

-- a vote NO is on its server's log
pub no_settled : (sc : Scenario) (w : State) (from to : Actor) (said : Body) (reply : VoteReply) (server : ServerId) (why : No) → BodyRests sc w.actors from to said → said ≡ body.Vote reply → from ≡ actor.Server server
    → reply.vote ≡ vote.No why → settled_at w.actors.servers server.0 reply.txn ≡ Some (record { txn = reply.txn; outcome = outcome.Abort; why = Some why })
no_settled sc w from to said reply server why rests e f g =
    let here : BodyRests sc w.actors (actor.Server server) to (body.Vote reply) = subst (λ (b : Body). BodyRests sc w.actors (actor.Server server) to b) e (subst (λ (a : Actor). BodyRests sc w.actors a to said) f rests) in
    subst (VoteRests w.actors server reply.txn) g here

-- a server that has settled a transaction has an item of it
pub settled_item : (sc : Scenario) (w : State) (at : ServerId) (txn : TxnId) (settled : Settled) → Agrees sc w → settled_at w.actors.servers at.0 txn ≡ Some settled → HoldsItem sc txn at
settled_item sc w at txn settled h e = by_part (slice_get w.actors.servers at.0) refl e
  where
    by_part : (part : Option (Part Server)) → slice_get w.actors.servers at.0 ≡ part → option_and_then (settled_by txn) part ≡ Some settled → HoldsItem sc txn at
    by_part None found f = absurd (cc)
    by_part (Some part) found f = ((h.servers at.0 part found).settled txn settled f).item

-- what a mail that was sent says is sound
pub mail_sound : (sc : Scenario) (w : State) (n : ℕ) (mail : Mail) (to : Actor) → IsSound sc w → WasSent w n mail to → IsSoundBody sc to mail.letter.body
mail_sound sc w n mail to sound sent =
    let letter : IsSoundLetter sc mail.letter = each_get (IsSoundMail sc) w.mails n mail sound.mails_are sent.sent in
    subst (λ (t : Actor). IsSoundBody sc t mail.letter.body) sent.goes_to letter.says

-- the state of a server that is up is sound, and its own
server_sound : (sc : Scenario) (w : State) (at : ServerId) (part : Part Server) (s : Server) → IsSound sc w → slice_get w.actors.servers at.0 ≡ Some part → part.up ≡ Some s → IsSoundServerUp sc at s
server_sound sc w at part s sound found up = subst (λ (u : Option Server). IfSome u (IsSoundServerUp sc at)) up (sound.actors_are.servers at.0 part found).state

pub own_server : (sc : Scenario) (w : State) (at : ServerId) (part : Part Server) (s : Server) → IsSound sc w → slice_get w.actors.servers at.0 ≡ Some part → part.up ≡ Some s → s.server ≡ at
own_server sc w at part s sound found up = (server_sound sc w at part s sound found up).server_is

-- the authority's answers rest on nothing
tells_rest : (sc : Scenario) (actors : Actors) (authority : Authority) (said : Body) → Each (LetterRests sc actors) (office.on_body authority said).reaction.letters
tells_rest sc actors authority (body.Ask ask) = (tt, tt)
tells_rest sc actors authority _ = tt

newest_rests : (sc : Scenario) (actors : Actors) (held : Master) (said : Body) → Each (LetterRests sc actors) (master.on_body held said).reaction.letters
newest_rests sc actors held (body.Probe probe) = (tt, tt)
newest_rests sc actors held _ = tt

-- ---- submissions

pub begun_lawful : (sc : Scenario) (w : State) → IsValid sc → IsSound sc w → Agrees sc w → (txn : TxnId) (part : Part Coordinator) (c : Coordinator) → IsTxn sc txn → IsCoordinatorUp w txn part c
    → is_part_submitted (Some c) ≡ false → SubmissionLawful sc (IsPrepared w.actors.servers txn) (IsSettled w.actors.servers txn) c part.log (with_age (submit_row sc c) (length w.steps))
begun_lawful sc w valid sound h txn part c exists up new =
    submit_row_lawful sc (IsPrepared w.actors.servers txn) (IsSettled w.actors.servers txn) c part.log (length w.steps) (coordinator_agrees sc w txn part c h up) new
    (first_row_begins sc c (have_homes sc valid) (subst (IsTxn sc) (sym (own_txn sc w txn part c sound up.found up.up)) exists))

begun_agrees : (sc : Scenario) (w : State) → IsValid sc → IsSound sc w → Agrees sc w → (txn : TxnId) (part : Part Coordinator) (c : Coordinator) → IsTxn sc txn → IsCoordinatorUp w txn part c
    → is_part_submitted (Some c) ≡ false
    → MoveAgrees sc w (coordinator_move w.actors txn (acts_by coordinator_fact (what.Submitted txn ∷ []) part.log (with_age (submit_row sc c) (length w.steps))))
begun_agrees sc w valid sound h txn part c exists up new =
    let own : c.txn ≡ txn = own_txn sc w txn part c sound up.found up.up in
    let effect = with_age (submit_row sc c) (length w.steps) in
    coordinator_acts_agrees sc w txn part (Some effect.state) (what.Submitted txn ∷ []) effect.reaction.append effect.reaction.letters h up.found
    (submission_acts sc w txn part c effect up.up own new (begun_lawful sc w valid sound h txn part c exists up new))

-- ---- timers

timed_agrees : (sc : Scenario) (w : State) → IsSound sc w → Agrees sc w → (txn : TxnId) (part : Part Coordinator) (c : Coordinator) → IsCoordinatorUp w txn part c → is_begun c.phase ≡ true
    → MoveAgrees sc w (record { actors = w.actors; happened = []; letters = repeats sc c c.phase })
timed_agrees sc w sound h txn part c up begun =
    unmoved_agrees sc w [] (repeats sc c c.phase) h (silent_says sc w)
    (letters_rest_again sc w txn part c (repeats sc c c.phase) up.found up.up (own_txn sc w txn part c sound up.found up.up) begun
    (repeats_lawful sc (IsPrepared w.actors.servers txn) (IsSettled w.actors.servers txn) c part.log (coordinator_agrees sc w txn part c h up)))

-- ---- receipts

settled_own : (b : Bool) (one settled : Settled) (later : Option Settled) (txn : TxnId) → same_txn one.txn txn ≡ b → option_or (if b then Some one else None) later ≡ Some settled
    → (later ≡ Some settled → settled.txn ≡ txn) → settled.txn ≡ txn
settled_own true one settled later txn same e rest = let is : one ≡ settled = same_Some one settled e in ap (λ (x : Settled). x.txn) (sym is) ∙ same_txn_is one.txn txn same
settled_own false one settled later txn apart e rest = rest e

-- what was settled of a transaction says that transaction
settled_of : (txn : TxnId) (kept : List Record) (settled : Settled) → settled_in txn kept ≡ Some settled → settled.txn ≡ txn
settled_of txn [] settled e = absurd (cc)
settled_of txn (log.Settled one ∷ kept) settled e = settled_own (same_txn one.txn txn) one settled (settled_in txn kept) txn refl e (λ later. settled_of txn kept settled later)
settled_of txn (log.Boot ∷ kept) settled e = settled_of txn kept settled e
settled_of txn (log.Told told ∷ kept) settled e = settled_of txn kept settled e
settled_of txn (log.Prepared p ∷ kept) settled e = settled_of txn kept settled e
settled_of txn (log.Decided d ∷ kept) settled e = settled_of txn kept settled e

refusals_abort : (sc : Scenario) (w : State) (at : ServerId) (part : Part Server) → Agrees sc w → slice_get w.actors.servers at.0 ≡ Some part → RefusalsAbort part.log
refusals_abort sc w at part h found txn settled e some = by_outcome settled.outcome refl
  where
    by_outcome : (ended : Outcome) → settled.outcome ≡ ended → settled ≡ record { txn = txn; outcome = outcome.Abort; why = settled.why }
    by_outcome outcome.Commit is = let none = ((h.servers at.0 part found).settled txn settled e).commit is in let why = none.0 in absurd (cc)
    by_outcome outcome.Abort is =
        ap (λ (t : TxnId). record { txn = t; outcome = settled.outcome; why = settled.why }) (settled_of txn part.log settled e)
        ∙ ap (λ (o : Outcome). record { txn = txn; outcome = o; why = settled.why }) is

-- a request to prepare names the epoch of what is prepared on its server's log
names_prepared : (w : State) (n : ℕ) (mail : Mail) (at : ServerId) (part : Part Server) → PreparesNamed w → WasSent w n mail (actor.Server at) → slice_get w.actors.servers at.0 ≡ Some part → NamesPrepared part.log mail.letter.body
names_prepared w n mail at part named sent found = by_body mail.letter.body refl
  where
    by_body : (said : Body) → mail.letter.body ≡ said → NamesPrepared part.log said
    by_body (body.Prepare p) e = λ v prepared. named n mail at p v sent.sent sent.goes_to e (ap (option_and_then (prepared_by p.txn)) found ∙ prepared)
    by_body _ e = tt

-- a server's row on a mail that was sent
pub server_lawful : (sc : Scenario) (w : State) → WaitRightly sc w → PreparesNamed w → Agrees sc w → (n : ℕ) (mail : Mail) (at : ServerId) (part : Part Server) (s : Server) → WasSent w n mail (actor.Server at) → IsServerUp w at part s
    → ServerLawful (DecidedAs w.actors.coordinators) (IsAsked sc w.actors.coordinators at) s part.log (server_row sc s mail)
server_lawful sc w rightly named h n mail at part s sent up =
    server_row_lawful (DecidedAs w.actors.coordinators) (IsAsked sc w.actors.coordinators at) sc s part.log mail (rightly at part s up) (server_agrees sc w at part s h up) (refusals_abort sc w at part h up.found)
    (request_rests sc w mail.letter.from at mail.letter.body (mail_rests sc w n mail (actor.Server at) h sent)) (names_prepared w n mail at part named sent up.found)

-- a coordinator's row on a mail that was sent
pub coordinator_lawful : (sc : Scenario) (w : State) → IsSound sc w → Agrees sc w → (n : ℕ) (mail : Mail) (txn : TxnId) (part : Part Coordinator) (c : Coordinator) → WasSent w n mail (actor.Coordinator txn)
    → IsCoordinatorUp w txn part c → CoordinatorLawful sc (IsPrepared w.actors.servers txn) (IsSettled w.actors.servers txn) c part.log (coordinator_row sc c mail)
coordinator_lawful sc w sound h n mail txn part c sent up =
    coordinator_row_lawful sc (IsPrepared w.actors.servers txn) (IsSettled w.actors.servers txn) c part.log mail (coordinator_agrees sc w txn part c h up)
    (subst (λ (t : TxnId). ReplyRests (IsPrepared w.actors.servers txn) (IsSettled w.actors.servers txn) (HoldsItem sc t) (decided_in part.log) mail.letter.from mail.letter.body) (sym (own_txn sc w txn part c sound up.found up.up))
    (reply_rests sc w txn part mail.letter.from mail.letter.body up.found (mail_sound sc w n mail (actor.Coordinator txn) sound sent) (mail_rests sc w n mail (actor.Coordinator txn) h sent)))

receipt_by_server_in_agreement : (sc : Scenario) (w : State) → WaitRightly sc w → IsSound sc w → PreparesNamed w → Agrees sc w → (n : ℕ) (mail : Mail) (at : ServerId) (part : Part Server) (s : Server) → WasSent w n mail (actor.Server at) → IsServerUp w at part s
    → MoveAgrees sc w (server_move w.actors at (acts_by (server_fact at) [] part.log (server_row sc s mail)))
receipt_by_server_in_agreement sc w rightly sound named h n mail at part s sent up =
    let effect = server_row sc s mail in
    let l = server_lawful sc w rightly named h n mail at part s sent up in
    server_acts_agrees sc w at part (Some effect.state) [] effect.reaction.append effect.reaction.letters h up.found
    (record {
      state = l.agrees;
      knows = learns_knows sc at s part.log effect (server_sound sc w at part s sound up.found up.up).sound.known (server_knows sc w at part s h up) (row_learns sc s mail (rightly at part s up));
      rests = l.rests;
      own_says = silent_says sc w;
      replies = subst (λ (x : ServerId). Each (LetterKept x (log_with part.log effect.reaction.append)) effect.reaction.letters) (own_server sc w at part s sound up.found up.up) l.replies;
    })

receipt_by_coordinator_in_agreement : (sc : Scenario) (w : State) → IsSound sc w → Agrees sc w → (n : ℕ) (mail : Mail) (txn : TxnId) (part : Part Coordinator) (c : Coordinator) → WasSent w n mail (actor.Coordinator txn)
    → IsCoordinatorUp w txn part c → MoveAgrees sc w (coordinator_move w.actors txn (acts_by coordinator_fact [] part.log (coordinator_row sc c mail)))
receipt_by_coordinator_in_agreement sc w sound h n mail txn part c sent up =
    let effect = coordinator_row sc c mail in
    coordinator_acts_agrees sc w txn part (Some effect.state) [] effect.reaction.append effect.reaction.letters h up.found
    (receipt_acts sc w txn part c effect h up.found up.up (own_txn sc w txn part c sound up.found up.up) (coordinator_lawful sc w sound h n mail txn part c sent up))

-- ---- steps

agrees_cases : (sc : Scenario) (w : State) → IsValid sc → WaitRightly sc w → IsSound sc w → PreparesNamed w → Agrees sc w → Cases sc w (λ taken move. MoveAgrees sc w move)
agrees_cases sc w valid rightly sound named h =
    record {
      idle = idle_agrees sc w h;
      server_received = λ n mail at part s sent up. receipt_by_server_in_agreement sc w rightly sound named h n mail at part s sent up;
      coordinator_received = λ n mail txn part c sent up. receipt_by_coordinator_in_agreement sc w sound h n mail txn part c sent up;
      authority_told = λ n mail sent.
          unmoved_agrees sc w [] (office.authority_row w.actors.authority mail).reaction.letters h (silent_says sc w) (tells_rest sc w.actors w.actors.authority mail.letter.body);
      master_told = λ n mail sent.
          unmoved_agrees sc w [] (master.master_row w.actors.master mail).reaction.letters h (silent_says sc w) (newest_rests sc w.actors w.actors.master mail.letter.body);
      published = λ admin exists more.
          let next = master.next_of w.actors.master admin in
          offices_agree sc w w.actors.authority (master.after_publication admin w.actors.master) (what.Published admin next ∷ []) h (published_says sc w admin next);
      pushed = λ admin server exists there. unmoved_agrees sc w [] (master.pushes w.actors.master admin server).reaction.letters h (silent_says sc w) (tt, tt);
      ticked = λ by. offices_agree sc w (office.after_tick by w.actors.authority) w.actors.master (what.Ticked by ∷ []) h (ticked_says sc w by);
      revoked = λ cred exists. offices_agree sc w (office.after_revocation cred w.actors.authority) w.actors.master (what.Revoked cred ∷ []) h (revoked_says sc w cred);
      begun = λ txn part c exists up new. begun_agrees sc w valid sound h txn part c exists up new;
      timed = λ txn part c exists up begun. timed_agrees sc w sound h txn part c up begun;
    }

-- a step that is not refused keeps agreement
pub agrees_next : (sc : Scenario) (m : Machine) (taken : Step) → IsValid sc → IsStepOf sc taken → KeepsUp taken → refusal m.state taken ≡ None → WaitRightly sc m.state → IsSound sc m.state → PreparesNamed m.state → Agrees sc m.state → Agrees sc (machine_after sc m taken).state
agrees_next sc m taken valid exists stays allowed rightly sound named h =
    machine_after_by sc m (λ taken move. MoveAgrees sc m.state move) (Agrees sc) (agrees_cases sc m.state valid rightly sound named h) h.coordinator_count
    (λ taken move t. state_after_agrees sc m.state taken move h t) taken exists stays allowed

-- ---- before the first step

none_submitted : (found : Option (Part Coordinator)) → ((part : Part Coordinator) → found ≡ Some part → submitted_up part.up ≡ 0) → 0 ≡ submitted_count found
none_submitted None h = refl
none_submitted (Some part) h = sym (h part refl)

none_found : {A : Type 0} {B : Type 0} (look : A → Option B) (found : Option A) → ((x : A) → found ≡ Some x → look x ≡ None) → option_and_then look found ≡ None
none_found look None h = refl
none_found look (Some x) h = h x refl

none_settled_in_steps : (found : Option Settled) (s : Settled) → found ≡ None → found ≡ Some s → ⊥
none_settled_in_steps found s e f = cc

-- a coordinator before its submission, and a server that has done nothing
record IsIdlePart (sc : Scenario) (servers : List (Part Server)) (part : Part Coordinator) : Type 0 where
  pub state : (txn : TxnId) → IfSome part.up (CoordinatorUpAgrees sc servers txn part.log)
  pub empty : part.log ≡ []
  pub unsubmitted : submitted_up part.up ≡ 0

record IsOpenedPart (sc : Scenario) (at : ServerId) (part : Part Server) : Type 0 where
  pub agrees : IfSome part.up (λ (s : Server). ServerAgrees s part.log)
  pub knows : IfSome part.up (KnowsTold sc at part.log)
  pub empty : part.log ≡ []

-- the world before the first step agrees
pub agrees_opening : (sc : Scenario) → Agrees sc (opening_state sc)
agrees_opening sc =
    let coordinators = (opened_actors sc).coordinators in
    let servers = (opened_actors sc).servers in
    let idle : EachAt (λ (n : ℕ) (part : Part Coordinator). IsIdlePart sc servers part) coordinators =
    λ n part e. at_made (λ (k : ℕ) (found : Part Coordinator). IsIdlePart sc servers found) (λ (k : ℕ). opened_part (coord.idle sc (record { 0 = k }))) 0 (length sc.txns)
    (λ k within. record { state = λ txn. record { agrees = record { decided = refl; servers = refl; awaited = tt }; replied = tt }; empty = refl; unsubmitted = refl }) n part e in
    let open_ones : EachAt (λ (n : ℕ) (part : Part Server). IsOpenedPart sc (record { 0 = n }) part) servers =
    λ n part e. subst (λ (k : ℕ). IsOpenedPart sc (record { 0 = k }) part) (omega arith)
    (at_made (λ (k : ℕ) (found : Part Server). IsOpenedPart sc (record { 0 = k }) found) (λ (k : ℕ). opened_part (server.opening sc (record { 0 = k }))) 0 (length sc.servers)
    (λ k within. record {
      agrees = record {
        settled = λ txn. unset_at (length sc.txns) txn.0;
        unsettled = placed_none (IsUnsettled []) (length sc.txns);
        prepared = λ txn. sym (ap (option_and_then cast_in) (unset_at (length sc.txns) txn.0));
      };
      knows = opening_knows sc (record { 0 = k });
      empty = refl;
    }) n part e) in
    record {
      past = tt;
      coordinator_count = length-map-range_with_len (λ (n : ℕ). opened_part (coord.idle sc (record { 0 = n }))) 0 (length sc.txns);
      server_count = length-map-range_with_len (λ (n : ℕ). opened_part (server.opening sc (record { 0 = n }))) 0 (length sc.servers);
      coordinators = λ n part e. record {
        state = (idle n part e).state (record { 0 = n });
        served = subst (DecidedServed sc servers (record { 0 = n })) (sym (idle n part e).empty) tt;
      };
      servers = λ n part e. record {
        state = (open_ones n part e).agrees;
        knows = (open_ones n part e).knows;
        settled = λ txn s f. absurd (none_settled_in_steps (settled_in txn part.log) s (ap (settled_in txn) (open_ones n part e).empty) f);
        prepared = λ txn p f. let none : prepared_in txn part.log ≡ None = ap (prepared_in txn) (open_ones n part e).empty in absurd (cc);
      };
      mails = tt;
      numbered = tt;
      facts = tt;
      submitted = λ txn. none_submitted (slice_get coordinators txn.0) (λ part e. (idle txn.0 part e).unsubmitted);
      decided = λ txn. ap listed (sym (none_found decided_by (slice_get coordinators txn.0) (λ part e. ap decided_in (idle txn.0 part e).empty)));
      settled = λ at txn. ap (λ (found : Option Settled). listed (option_map outcome_settled found))
          (sym (none_found (settled_by txn) (slice_get servers at.0) (λ part e. ap (settled_in txn) (open_ones at.0 part e).empty)));
    }
