-- Refusals over every list of steps: a vote NO is shown where the server settles, a coordinator that brings the servers to vote does nothing
-- more until it decides, and it aborts for what is shown.
use Rattle.std.specs.List.{list_any}
use Rattle.std.proofs.Common.{Bool, IfSome, List, None, Option, Some, [], ap, arith, false, find, if◌then◌else◌, length, option_and_then, option_map, refl, slice_get, slice_set, subst, sym, true, ℕ, ℤ, ◌++◌, ◌+◌, ◌==◌, ◌∙◌, ◌∷◌, ◌≡◌}
use Rattle.std.proofs.lemmas.Bool.{and_parts, eqb-true}
use Rattle.std.proofs.lemmas.Option.{cond_some, none-some, same_Some}
use Rattle.tp_types.specs.Effect.{Effect}
use Rattle.tp_model.specs.Causes.{first_abort_of, is_abort, is_abort_what, place_of}
use Rattle.std.specs.Option.{option_or}
use Rattle.tp_model.specs.Facts.{before, is_settled_as, outcome_of, same_outcome}
use Rattle.tp_model.specs.Ids.{same_txn}
use Rattle.tp_model.specs.Words.actor
use Rattle.tp_model.specs.Words.body
use Rattle.tp_model.specs.Words.cause
use Rattle.tp_model.specs.Words.decision
use Rattle.tp_model.specs.Words.log
use Rattle.tp_model.specs.Words.no
use Rattle.tp_model.specs.Words.outcome
use Rattle.tp_model.specs.Words.step
use Rattle.tp_model.specs.Words.what
use Rattle.tp_model.specs.Words.{Actor, Cause, DecideRequest, Fact, Letter, Mail, Record, Scenario, ServerId, Settled, Staple, Step, Transaction, TxnId, Verdict, VoteReply, What}
use Rattle.tp_runs.proofs.ids.Valid.{IsValid}
use Rattle.tp_runs.proofs.agreement.Coordinator.{idle_is}
use Rattle.tp_runs.proofs.agreement.CoordinatorActs.{coordinator_facts}
use Rattle.tp_runs.proofs.agreement.ServerActs.{each_server_fact, server_facts}
use Rattle.tp_runs.proofs.agreement.Steps.{mail_rests, no_settled, own_txn}
use Rattle.tp_runs.proofs.agreement.World.{Agrees, BodyRests, MailRests}
use Rattle.tp_runs.proofs.basics.Facts.{ArePast, before_past, facts_after, grows_with_facts}
use Rattle.tp_runs.proofs.basics.Homes.{begins_of_query, is_beginning, is_of_query, is_probed, is_ran, probed_there, validated_ran}
use Rattle.tp_runs.proofs.basics.Ids.{same_txn_from, same_txn_is, server_number}
use Rattle.tp_types.proofs.EachLemmas.{at_made, each_append, each_as, each_get}
use Rattle.tp_runs.proofs.basics.Logs.{appended, gained, get_set, settled_with}
use Rattle.tp_runs.proofs.basics.Passed.{deeds_kept, judged_stands, judged_undecided, no_running, passed_past, passed_undecided, query_stands, read_newer, reply_checking}
use Rattle.tp_runs.proofs.basics.Phases.{Pauses, Prepares, Rests, is_undecided, running_undecided, stand_of, stand_over}
use Rattle.tp_runs.proofs.known.World.{Pairs}
use Rattle.tp_runs.proofs.refusals.Refusing.{asked_prepares, refusal_shown, run_at_abort}
use Rattle.tp_runs.proofs.refusals.Running.{Remembers, undecided_yet}
use Rattle.tp_runs.proofs.refusals.World.{AreAbortedRuns, IsAwaiting, IsRunBefore, KeepsDeeds, MoveRefuses, ReasonShown, Refusals, WhatRefused, keeps_same, old_run, old_shown, refused_stays, state_after_refusals}
use Rattle.tp_runs.proofs.serial_data.Settling.{IsQuiet}
use Rattle.tp_runs.proofs.serial_data.World.{Serial}
use Rattle.tp_round.specs.declared.round.Round.{Round}
use Rattle.tp_round.specs.Judge.{after_reply}
use Rattle.tp_scheme.specs.declared.moves.Move.TheVariants as move
use Rattle.tp_scheme.specs.declared.moves.Move.{Move}
use Rattle.tp_scheme.specs.declared.moves.Point.TheVariants as point
use Rattle.tp_scheme.specs.declared.moves.Point.{Point}
use Rattle.tp_coord.proofs.Rows.{ByDenial, ByLoss, ByLostVerdicts, ByNewer, ByNewest, ByOlder, ByProof, ByRefusal, ByRestart, ByRounds, Gained, IsEnded, IsPassed, IsReply, coordinator_by, submit_by, with_gained}
use Rattle.tp_server.proofs.Rows.{server_by}
use Rattle.tp_runs.proofs.walks.Steps.{Cases, IsCoordinatorUp, IsServerUp, KeepsUp, SaysIdle, WaitRightly, WasSent, machine_after_by}
use Rattle.tp_recover.specs.Log.{settled_in, settlement_in}
use Rattle.tp_machine.specs.Logs.{decided_at, decided_by, settled_at, settled_by}
use Rattle.tp_machine.specs.Machine.{Machine, State, acts, coordinator_fact, coordinator_move, facts_of, idle_move, machine_after, opened_part, opening_state, refusal, server_fact, server_move, with_age}
use Rattle.tp_actor_log.specs.Records.{log_with}
use Rattle.tp_machine.specs.Parts.{Part}
use Rattle.tp_types.specs.Each.{Each}
use Rattle.tp_runs.specs.Sound.{IsSound, IsSoundBody, IsSoundMail}
use Rattle.tp_machine.specs.Named.{IsStepOf}
use Rattle.tp_coord.specs.Row.{asks, asks_in, commit_round, coordinator_row, move_after, next_at, number_at, probes, probing_at, reading_of, refused_by, repeats, sends_query, staple_of, stays, submit_row, validation_round, asks_votes as votes_asked}
use Rattle.tp_coord.specs.State.{Coordinator}
use Rattle.tp_machine.specs.declared.actors.Actors.{Actors}
use Rattle.tp_coord.specs.declared.coordinator.Phase.TheVariants as phase
use Rattle.tp_coord.specs.declared.coordinator.Span.TheVariants as span
use Rattle.tp_coord.specs.declared.coordinator.Span.{Span}
use Rattle.tp_server.specs.Opened as server_opened
use Rattle.tp_server.specs.Row.{server_row}
use Rattle.tp_server.specs.State.{Server}
use Rattle.tp_offices.specs.Authority as office
use Rattle.tp_offices.specs.Master as master

-- ---- a coordinator's part

-- a coordinator that has not decided after an act had not before it; and while it brings the servers to vote it does nothing else
pub record LeavesOpen (old new : Coordinator) : Type 0 where
  undecided : is_undecided old.phase ≡ true
  keeps : KeepsDeeds old new

-- so it was up before the act
pub record WasOpen (was : Option Coordinator) (new : Coordinator) : Type 0 where
  old : Coordinator
  up : was ≡ Some old
  leaves : LeavesOpen old new

-- what an act leaves awaited was awaited before it
abbrev pub OpensNone : Option Coordinator → Option Coordinator → Type 0
OpensNone was now = (next : Coordinator) → now ≡ Some next → is_undecided next.phase ≡ true → WasOpen was next

-- the coordinator was awaited before an act, too
record WasAwaited (coordinators : List (Part Coordinator)) (txn : TxnId) (new : Coordinator) : Type 0 where
  before : IsAwaiting coordinators txn
  keeps : KeepsDeeds before.c new

-- a coordinator that has not decided after an act of some coordinator had not before it
awaited_before : (coordinators : List (Part Coordinator)) (txn other : TxnId) (part now : Part Coordinator) → slice_get coordinators txn.0 ≡ Some part → OpensNone part.up now.up
    → (h : IsAwaiting (slice_set coordinators txn.0 now) other) → WasAwaited coordinators other h.c
awaited_before coordinators txn other part now found opened h = by_txn (txn.0 == other.0) refl (sym (get_set coordinators txn.0 other.0 part now found) ∙ h.found)
  where
    by_txn : (b : Bool) → (txn.0 == other.0) ≡ b → (if b then Some now else slice_get coordinators other.0) ≡ Some h.part → WasAwaited coordinators other h.c
    by_txn true same e =
        let is : now ≡ h.part = same_Some now h.part e in
        let was : WasOpen part.up h.c = opened h.c (ap (λ (p : Part Coordinator). p.up) is ∙ h.up) h.undecided in
        record {
          before = record {
            part = part;
            c = was.old;
            found = subst (λ (n : ℕ). slice_get coordinators n ≡ Some part) (eqb-true txn.0 other.0 same) found;
            up = was.up;
            undecided = was.leaves.undecided;
          };
          keeps = was.leaves.keeps;
        }
    by_txn false apart e = record { before = record { part = h.part; c = h.c; found = e; up = h.up; undecided = h.undecided }; keeps = keeps_same h.c }

-- a row of a coordinator that is up
row_opens : (was : Option Coordinator) (c new : Coordinator) → was ≡ Some c → (is_undecided new.phase ≡ true → LeavesOpen c new) → OpensNone was (Some new)
row_opens was c new up leaves = λ next is undecided.
    let same : new ≡ next = same_Some new next is in
    record { old = c; up = up; leaves = subst (λ (s : Coordinator). is_undecided s.phase ≡ true → LeavesOpen c s) same leaves undecided }

-- a coordinator in a phase that is not one of bringing servers to vote
other_phase : (old new : Coordinator) → is_undecided old.phase ≡ true → (stand_of old.phase ≡ Prepares → ⊥) → LeavesOpen old new
other_phase old new undecided other = record { undecided = undecided; keeps = λ prepares. absurd (other prepares) }

-- one that awaits the authority before a query
stapling_open : (c new : Coordinator) (number : ℕ) → c.phase ≡ phase.Stapling number → LeavesOpen c new
stapling_open c new number is = other_phase c new (ap is_undecided is) (λ prepares. let stands : stand_of c.phase ≡ Pauses = ap stand_of is in cc)

-- a row that leaves the decision open
still_undecided : (sc : Scenario) (c : Coordinator) (mail : Mail) → is_undecided (coordinator_row sc c mail).state.phase ≡ true → LeavesOpen c (coordinator_row sc c mail).state
still_undecided sc c mail =
    coordinator_by sc c mail (λ (effect : Effect Coordinator). is_undecided effect.state.phase ≡ true → LeavesOpen c effect.state)
    (record {
      ignored = λ e. record { undecided = e; keeps = keeps_same c };
      stapled = λ tell query home k at e. stapling_open c (sends_query sc c query (Some (staple_of tell mail.sent)) home).state query k.stapling;
      sends_query = λ at now rounds next passed moves home e. begun_open (sends_query sc (with_gained c now) (next_at at) None next).state at now rounds move.SendQuery passed refl moves;
      asks_staple = λ at now rounds passed moves e. begun_open (asks_in (with_gained c now) (phase.Stapling (next_at at))).state at now rounds move.Ask passed refl moves;
      probes_proofs = λ at now rounds passed moves e. probing_open at now rounds passed (probed_there sc c at moves);
      validates = λ at now rounds passed moves e.
          passed_open (asks (with_gained c now) (span.Validate (number_at at)) (validation_round sc c (number_at at))).state at now rounds passed (ran_of_query at (validated_ran sc c at moves));
      commit_rounds = λ at now rounds passed moves e. begun_open (asks (with_gained c now) span.Commit (commit_round sc c)).state at now rounds move.CommitRounds passed refl moves;
      asks_votes = λ at now rounds passed moves e. begun_open (votes_asked (with_gained c now)).state at now rounds move.Votes passed refl moves;
      decides = λ at now rounds passed moves e. absurd (cc);
      aborted = λ why ended e. absurd (cc);
      told = λ tell over round k e. record { undecided = ap is_undecided k.asking; keeps = λ prepares. record { prepares = sym (ap stand_of k.asking) ∙ prepares; deeds = refl } };
      counted = λ over round staple server verdicts y e. reply_open over round staple server verdicts (stays c over (after_reply round server verdicts) (Some staple)).state y refl refl;
      probed = λ over round staple server verdicts y whole reads e. reply_open over round staple server verdicts (probes c (phase.Reading over (after_reply round server verdicts))).state y refl refl;
      updated = λ over round staple reading named j f e.
          record {
            undecided = judged_undecided c mail over round staple reading j;
            keeps = λ prepares. record { prepares = sym (judged_stands c mail over round staple reading j) ∙ prepares; deeds = refl };
          };
      voted = λ reply awaited server verdicts k e. record { undecided = ap is_undecided k.voting; keeps = λ prepares. record { prepares = refl; deeds = refl } };
      acknowledged = λ ack ended awaited server a e. absurd (cc);
      inquired = λ inquiry ended awaited server k e. record { undecided = e; keeps = keeps_same c };
    })
  where
    -- after a query the servers are not yet brought to vote
    passed_open : (new : Coordinator) (at : Point) (now : Gained) (rounds : ℕ) → IsPassed sc c mail at now rounds → is_of_query at ≡ true → LeavesOpen c new
    passed_open new at now rounds passed of_query = other_phase c new (passed_undecided sc c mail at now rounds passed) (query_stands sc c mail at now rounds passed of_query)

    -- where a query begins, or all are done with
    begun_open : (new : Coordinator) (at : Point) (now : Gained) (rounds : ℕ) (wanted : Move) → IsPassed sc c mail at now rounds → is_beginning wanted ≡ true → move_after sc c at ≡ wanted → LeavesOpen c new
    begun_open new at now rounds wanted passed begins moves = passed_open new at now rounds passed (begins_of_query sc c at wanted (passed_past sc c mail at now rounds passed) begins moves)

    ran_of_query : (at : Point) → is_ran at ≡ true → is_of_query at ≡ true
    ran_of_query (point.Ran number) e = refl
    ran_of_query (point.Begun number) e = absurd (cc)
    ran_of_query (point.Stapled number) e = absurd (cc)
    ran_of_query (point.Read number) e = absurd (cc)
    ran_of_query (point.Validated number) e = absurd (cc)
    ran_of_query point.Voted e = absurd (cc)
    ran_of_query point.VoteRead e = absurd (cc)

    -- the proofs so far are read after a query, or after the votes
    probing_open : (at : Point) (now : Gained) (rounds : ℕ) → IsPassed sc c mail at now rounds → is_probed at ≡ true → LeavesOpen c (probes (with_gained c now) (probing_at at)).state
    probing_open (point.Ran number) now rounds passed e = passed_open (probes (with_gained c now) (phase.Probing number)).state (point.Ran number) now rounds passed refl
    probing_open point.Voted now rounds passed e =
        record {
          undecided = passed_undecided sc c mail point.Voted now rounds passed;
          keeps = λ prepares. record { prepares = refl; deeds = deeds_kept sc c mail point.Voted now rounds passed refl };
        }
    probing_open (point.Begun number) now rounds passed e = absurd (cc)
    probing_open (point.Stapled number) now rounds passed e = absurd (cc)
    probing_open (point.Read number) now rounds passed e = absurd (cc)
    probing_open (point.Validated number) now rounds passed e = absurd (cc)
    probing_open point.VoteRead now rounds passed e = absurd (cc)

    -- with a reply the round stands as it did
    reply_open : (over : Span) (round : Round) (staple : Staple) (server : ServerId) (verdicts : List Verdict) (new : Coordinator) → IsReply c mail over round staple server verdicts → stand_of new.phase ≡ stand_over over → new.deeds ≡ c.deeds
        → LeavesOpen c new
    reply_open over round staple server verdicts new y stands same =
        let checking : c.phase ≡ phase.Checking over round staple = reply_checking c mail over round staple server verdicts y in
        record { undecided = ap is_undecided checking; keeps = λ prepares. record { prepares = stands ∙ (sym (ap stand_of checking) ∙ prepares); deeds = same } }

-- ---- a coordinator decides

abbrev pub DecisionShown : Scenario → State → List What → Record → Type 0
DecisionShown sc w happened (log.Decided d) = WhatRefused sc (facts_after w happened) (length w.steps) (what.Decided d.txn d.decision)
DecisionShown sc w happened _ = Unit {0}

told_shown : (sc : Scenario) (w : State) (happened : List What) (append : Option Record) → IfSome append (DecisionShown sc w happened) → Each (WhatRefused sc (facts_after w happened) (length w.steps)) (coordinator_facts append)
told_shown sc w happened None h = tt
told_shown sc w happened (Some (log.Decided d)) h = (h, tt)
told_shown sc w happened (Some log.Boot) h = tt
told_shown sc w happened (Some (log.Told told)) h = tt
told_shown sc w happened (Some (log.Prepared p)) h = tt
told_shown sc w happened (Some (log.Settled s)) h = tt

-- where what was settled is shown, so is the abort for it
abort_shown : (sc : Scenario) (w : State) (happened : List What) (txn : TxnId) (server : ServerId) (number : ℕ) (value : ℤ) → ArePast (length w.steps) w.facts
    → ReasonShown sc w.facts (length w.steps) server txn (no.Range number value) → WhatRefused sc (facts_after w happened) (length w.steps) (what.Decided txn (decision.Abort (cause.No (refused_by server number value))))
abort_shown sc w happened txn server number value past h = λ declared e.
    let place = length w.steps in
    let all : before place (facts_after w happened) ≡ w.facts = (grows_with_facts w.facts place happened).same place (omega arith) ∙ before_past place w.facts past in
    refused_stays sc w.facts w.facts (before place (facts_after w happened)) happened place place place txn (refused_by server number value) declared
    (λ old. ap (list_any (is_settled_as server txn outcome.Abort)) all ∙ old) (omega arith) (omega arith) (h declared e)

pub coordinator_row_shown : (sc : Scenario) (w : State) (txn : TxnId) (part : Part Coordinator) (c : Coordinator) (n : ℕ) (mail : Mail) → IsSound sc w → Agrees sc w → Refusals sc w → WasSent w n mail (actor.Coordinator txn)
    → IsCoordinatorUp w txn part c → IfSome (coordinator_row sc c mail).reaction.append (DecisionShown sc w (coordinator_facts (coordinator_row sc c mail).reaction.append))
coordinator_row_shown sc w txn part c n mail sound a h sent up =
    coordinator_by sc c mail (λ (effect : Effect Coordinator). IfSome effect.reaction.append (DecisionShown sc w (coordinator_facts effect.reaction.append)))
    (record {
      ignored = tt;
      stapled = λ tell query home k at. tt;
      sends_query = λ at now rounds next passed moves home. tt;
      asks_staple = λ at now rounds passed moves. tt;
      probes_proofs = λ at now rounds passed moves. tt;
      validates = λ at now rounds passed moves. tt;
      commit_rounds = λ at now rounds passed moves. tt;
      asks_votes = λ at now rounds passed moves. tt;
      decides = λ at now rounds passed moves. tt;
      aborted = λ why ended. shown why ended;
      told = λ tell over round k. tt;
      counted = λ over round staple server verdicts y. tt;
      probed = λ over round staple server verdicts y whole reads. tt;
      updated = λ over round staple reading named j f. tt;
      voted = λ reply awaited server verdicts k. tt;
      acknowledged = λ ack ended awaited server k. tt;
      inquired = λ inquiry ended awaited server k. tt;
    })
  where
    reply_txn : (reply : VoteReply) → mail.letter.body ≡ body.Vote reply → reply.txn ≡ txn
    reply_txn reply e =
        let says : IsSoundBody sc (actor.Coordinator txn) mail.letter.body =
        subst (λ (to : Actor). IsSoundBody sc to mail.letter.body) sent.goes_to (each_get (IsSoundMail sc) w.mails n mail sound.mails_are sent.sent).says in
        let said : IsSoundBody sc (actor.Coordinator txn) (body.Vote reply) = subst (IsSoundBody sc (actor.Coordinator txn)) e says in
        same_txn_from txn reply.txn said.goes_to

    shown : (why : Cause) → IsEnded sc c mail why
        → WhatRefused sc (facts_after w (what.Decided c.txn (decision.Abort why) ∷ [])) (length w.steps) (what.Decided c.txn (decision.Abort why))
    shown _ (ByOlder done server asked other k) = tt
    shown _ (ByDenial done server asked verdict k) = tt
    shown _ (ByNewer done server asked newer k) = tt
    shown _ (ByNewest reply at why k found) =
        subst (λ (other : Cause). WhatRefused sc (facts_after w (what.Decided c.txn (decision.Abort other) ∷ [])) (length w.steps) (what.Decided c.txn (decision.Abort other))) (sym (read_newer c (reading_of reply mail.sent) why found).1) tt
    shown _ (ByProof over round staple reading verdict j e) = tt
    shown _ (ByRounds reply over round mets k e) = tt
    shown _ (ByRestart done server asked k) = tt
    shown _ (ByLoss reply server k) = tt
    shown _ (ByLostVerdicts reply number round staple server k) = tt
    shown _ (ByRefusal reply server number value k) =
        let own : c.txn ≡ txn = own_txn sc w txn part c sound up.found up.up in
        let of_txn : reply.txn ≡ txn = reply_txn reply k.said_is in
        let settled = no_settled sc w mail.letter.from mail.letter.to mail.letter.body reply server (no.Range number value) (each_get (MailRests sc w.actors) w.mails n mail a.mails sent.sent) k.said_is k.from_is k.vote_is in
        let there : settled_at w.actors.servers server.0 txn ≡ Some (record { txn = txn; outcome = outcome.Abort; why = Some (no.Range number value) }) =
        subst (λ (t : TxnId). settled_at w.actors.servers server.0 t ≡ Some (record { txn = t; outcome = outcome.Abort; why = Some (no.Range number value) })) of_txn settled in
        let awaiting : IsAwaiting w.actors.coordinators txn = record { part = part; c = c; found = up.found; up = up.up; undecided = running_undecided c.phase (no_running c mail reply server (no.Range number value) k) } in
        subst (λ (t : TxnId). WhatRefused sc (facts_after w (what.Decided t (decision.Abort (cause.No (refused_by server number value))) ∷ [])) (length w.steps) (what.Decided t (decision.Abort (cause.No (refused_by server number value))))) (sym own)
        (abort_shown sc w (what.Decided txn (decision.Abort (cause.No (refused_by server number value))) ∷ []) txn server number value a.past
        (h.settled server txn (record { txn = txn; outcome = outcome.Abort; why = Some (no.Range number value) }) there awaiting))

-- ---- what a step says by itself

-- it aborts nothing at a server, and decides nothing
abbrev pub IsQuietOwn : List What → Type 0
IsQuietOwn own = Each IsQuiet own

quiet_is_no_abort : (txn : TxnId) (w : What) → IsQuiet w → is_abort_what txn w ≡ false
quiet_is_no_abort txn (what.Settled at other ended) h = absurd h
quiet_is_no_abort txn _ h = refl

-- the first abort is among what is said besides
pub quiet_abort : (txn : TxnId) (place : ℕ) (own more : List What) → IsQuietOwn own → first_abort_of txn (facts_of place (own ++ more)) ≡ first_abort_of txn (facts_of place more)
quiet_abort txn place [] more h = refl
quiet_abort txn place (w ∷ own) more h =
    ap (λ (b : Bool). option_map place_of (if b then Some (record { place = place; what = w }) else find (is_abort txn) (facts_of place (own ++ more)))) (quiet_is_no_abort txn w h.0) ∙ quiet_abort txn place own more h.1

quiet_shown : (sc : Scenario) (facts : List Fact) (place : ℕ) (w : What) → IsQuiet w → WhatRefused sc facts place w
quiet_shown sc facts place (what.Decided txn decided) h = absurd h
quiet_shown sc facts place _ h = tt

-- ---- a coordinator acts

-- what a coordinator forces tells of no abort at a server
none_told : (txn : TxnId) (place : ℕ) (append : Option Record) → first_abort_of txn (facts_of place (coordinator_facts append)) ≡ None
none_told txn place None = refl
none_told txn place (Some (log.Decided d)) = refl
none_told txn place (Some _) = refl

-- a coordinator that was up or down, and is up or down after it
pub coordinator_moves_in_steps : (sc : Scenario) (w : State) (txn : TxnId) (part : Part Coordinator) (now : Option Coordinator) (own : List What) (append : Option Record) (letters : List Letter) → Refusals sc w
    → slice_get w.actors.coordinators txn.0 ≡ Some part → OpensNone part.up now → IsQuietOwn own → IfSome append (DecisionShown sc w (own ++ coordinator_facts append))
    → MoveRefuses sc w (coordinator_move w.actors txn (acts coordinator_fact own part.log now (log_with part.log append) letters))
coordinator_moves_in_steps sc w txn part now own append letters h found opens quiet shown =
    let next : Part Coordinator = record { up = now; log = log_with part.log append } in
    let actors : Actors = record w.actors { coordinators = slice_set w.actors.coordinators txn.0 next } in
    let happened = own ++ coordinator_facts append in
    subst (λ (facts : List What). MoveRefuses sc w (record { actors = actors; happened = own ++ facts; letters = letters })) (sym (gained coordinator_fact part.log append))
    (record {
      settled = λ at other settled e awaiting. old_shown sc w happened at other settled h e (awaited_before w.actors.coordinators txn other part next found opens awaiting).before;
      aborted = λ other declared first awaiting exists e.
          let was : WasAwaited w.actors.coordinators other awaiting.c = awaited_before w.actors.coordinators txn other part next found opens awaiting in
          old_run sc w happened other declared first was.before awaiting.c h exists was.keeps
          (λ none_before later. let not_now = quiet_abort other (length w.steps) own (coordinator_facts append) quiet ∙ none_told other (length w.steps) append in absurd (cc)) e;
      happened = each_append (WhatRefused sc (facts_after w happened) (length w.steps)) own (coordinator_facts append)
          (each_as IsQuiet (WhatRefused sc (facts_after w happened) (length w.steps)) (quiet_shown sc (facts_after w happened) (length w.steps)) own quiet) (told_shown sc w happened append shown);
    })

-- ---- a server settles

-- a server settles the transaction of a coordinator that has not decided: that one brings the servers to vote, and the reason is shown
pub record IsSettlementShown (sc : Scenario) (w : State) (at : ServerId) (happened : List What) (s : Settled) (awaiting : IsAwaiting w.actors.coordinators s.txn) : Type 0 where
  pub prepares : (declared : Transaction) → slice_get sc.txns s.txn.0 ≡ Some declared → stand_of awaiting.c.phase ≡ Prepares
  pub why : IfSome s.why (ReasonShown sc (facts_after w happened) (length w.steps + 1) at s.txn)

abbrev pub SettlementShown : Scenario → State → ServerId → List What → Record → Type 0
SettlementShown sc w at happened (log.Settled s) = (awaiting : IsAwaiting w.actors.coordinators s.txn) → IsSettlementShown sc w at happened s awaiting
SettlementShown sc w at happened _ = Unit {0}

pub server_row_shown : (sc : Scenario) (w : State) (n : ℕ) (mail : Mail) (at : ServerId) (part : Part Server) (s : Server) → IsValid sc → WaitRightly sc w → IsSound sc w → Agrees sc w → Pairs sc w → Serial sc w → Remembers sc w
    → Refusals sc w → WasSent w n mail (actor.Server at) → IsServerUp w at part s → IfSome (server_row sc s mail).reaction.append (SettlementShown sc w at (server_facts at (server_row sc s mail).reaction.append))
server_row_shown sc w n mail at part s valid rightly sound a pairs serial known h sent up =
    server_by sc s mail (λ (effect : Effect Server). IfSome effect.reaction.append (SettlementShown sc w at (server_facts at effect.reaction.append))) (rightly at part s up)
    (record {
      relocked = λ effect locks k. k;
      relearnt = λ effect admin pin k. k;
      ignored = tt;
      ran = λ q query entry value proof k r. tt;
      denied = λ q query entry value verdict k d. tt;
      outdated = λ q query entry value newer k found. tt;
      waited = λ q query entry value k. tt;
      died = λ q query entry value other k dying. tt;
      restarted = λ q k. tt;
      answered = λ q entry given k. tt;
      voted = λ p entry verdicts k. tt;
      shown = λ v entry txn k. tt;
      lost_verdicts = λ v k. tt;
      voted_again = λ p entry cast k. tt;
      refused = λ p entry number value k awaiting.
          record {
            prepares = λ declared there. asked_prepares sc w n mail at p declared awaiting pairs sent k.said_is there;
            why = refusal_shown sc w n mail at part s p entry number value valid sound a pairs serial known h sent up k awaiting;
          };
      lost = λ p k awaiting. record { prepares = λ declared there. asked_prepares sc w n mail at p declared awaiting pairs sent k.said_is there; why = tt };
      refused_again = λ p settled why k. tt;
      settled = λ d k awaiting. record { prepares = λ declared there. absurd (not_ordered d k.said_is awaiting); why = tt };
      acknowledged = λ d settled k. tt;
      pushed = λ push k. tt;
      resumed = λ effect grant q query entry value proof k r now. now;
      resumed_denied = λ effect grant q query entry value verdict k d now. now;
      resumed_outdated = λ effect grant q query entry value newer k found now. now;
    })
  where
    -- what is ordered was decided
    not_ordered : (d : DecideRequest) → mail.letter.body ≡ body.Decide d → IsAwaiting w.actors.coordinators d.txn → ⊥
    not_ordered d said awaiting =
        let rests = subst (BodyRests sc w.actors mail.letter.from (actor.Server at)) said (mail_rests sc w n mail (actor.Server at) a sent) in
        let none : decided_at w.actors.coordinators d.txn.0 ≡ None = ap (option_and_then decided_by) awaiting.found ∙ undecided_yet sc w d.txn awaiting a in
        let no_outcome : option_map outcome_of (decided_at w.actors.coordinators d.txn.0) ≡ None = ap (option_map outcome_of) none in
        let ordered : option_map outcome_of (decided_at w.actors.coordinators d.txn.0) ≡ Some d.outcome = rests.0 in
        cc

-- the first abort of a transaction is this server's
new_run : (sc : Scenario) (w : State) (at : ServerId) (happened : List What) (append : Option Record) (txn : TxnId) (declared : Transaction) (first : ℕ) (awaiting : IsAwaiting w.actors.coordinators txn) → IsValid sc → Agrees sc w
    → Pairs sc w → Serial sc w → Remembers sc w → IfSome append (SettlementShown sc w at happened) → slice_get sc.txns txn.0 ≡ Some declared → first_abort_of txn w.facts ≡ None
    → first_abort_of txn (facts_of (length w.steps) (server_facts at append)) ≡ Some first → IsRunBefore sc (facts_after w happened) (length w.steps + 1) first txn declared awaiting.c
new_run sc w at happened (Some (log.Settled s)) txn declared first awaiting valid a pairs serial known shown exists none now = by_test (is_abort_what txn (what.Settled at s.txn s.outcome)) refl now
  where
    by_test : (b : Bool) → is_abort_what txn (what.Settled at s.txn s.outcome) ≡ b → option_map place_of (if b then Some (record { place = length w.steps; what = what.Settled at s.txn s.outcome }) else None) ≡ Some first
        → IsRunBefore sc (facts_after w happened) (length w.steps + 1) first txn declared awaiting.c
    by_test true is e =
        let own : s.txn ≡ txn = same_txn_is s.txn txn (and_parts (same_txn s.txn txn) (same_outcome s.outcome outcome.Abort) is).0 in
        let prepares : stand_of awaiting.c.phase ≡ Prepares =
        subst (λ (t : TxnId). (awaited : IsAwaiting w.actors.coordinators t) → slice_get sc.txns t.0 ≡ Some declared → stand_of awaited.c.phase ≡ Prepares) own
        (λ awaited there. (shown awaited).prepares declared there) awaiting exists in
        subst (λ (k : ℕ). IsRunBefore sc (facts_after w happened) (length w.steps + 1) k txn declared awaiting.c) (same_Some (length w.steps) first e)
        (run_at_abort sc w txn happened declared awaiting valid a pairs serial known exists prepares none)
    by_test false is e = absurd (cc)
new_run sc w at happened None txn declared first awaiting valid a pairs serial known shown exists none now = absurd (cc)
new_run sc w at happened (Some (log.Decided d)) txn declared first awaiting valid a pairs serial known shown exists none now = absurd (cc)
new_run sc w at happened (Some log.Boot) txn declared first awaiting valid a pairs serial known shown exists none now = absurd (cc)
new_run sc w at happened (Some (log.Told told)) txn declared first awaiting valid a pairs serial known shown exists none now = absurd (cc)
new_run sc w at happened (Some (log.Prepared p)) txn declared first awaiting valid a pairs serial known shown exists none now = absurd (cc)

-- what is settled after the act was settled before it, or by it
newly_settled : (sc : Scenario) (w : State) (at : ServerId) (txn : TxnId) (kept : List Record) (append : Option Record) (settled : Settled) (R : Type 0) → option_or (settled_in txn kept) (appended (settlement_in txn) append) ≡ Some settled
    → (settled_in txn kept ≡ Some settled → R) → ((s : Settled) → append ≡ Some (log.Settled s) → s.txn ≡ txn → s ≡ settled → R) → R
newly_settled sc w at txn kept append settled R e old new = by_old (settled_in txn kept) refl e
  where
    by_record : (record_is : Option Record) → append ≡ record_is → appended (settlement_in txn) record_is ≡ Some settled → R
    by_record None f g = absurd (cc)
    by_record (Some (log.Settled s)) f g =
        let parts = cond_some (same_txn s.txn txn) s settled g in
        new s f (same_txn_is s.txn txn parts.0) parts.1
    by_record (Some (log.Decided d)) f g = absurd (cc)
    by_record (Some log.Boot) f g = absurd (cc)
    by_record (Some (log.Told told)) f g = absurd (cc)
    by_record (Some (log.Prepared p)) f g = absurd (cc)

    by_old : (found : Option Settled) → settled_in txn kept ≡ found → option_or found (appended (settlement_in txn) append) ≡ Some settled → R
    by_old None f g = by_record append refl g
    by_old (Some was) f g = old (f ∙ g)

shown_of : (sc : Scenario) (w : State) (at : ServerId) (told : List What) (append : Option Record) (order : Settled) → append ≡ Some (log.Settled order) → IfSome append (SettlementShown sc w at told) → SettlementShown sc w at told (log.Settled order)
shown_of sc w at told append order e k = subst (λ (x : Option Record). IfSome x (SettlementShown sc w at told)) e k

-- a server that was up or down, and is up or down after it
pub server_moves_in_steps : (sc : Scenario) (w : State) (at : ServerId) (part : Part Server) (now : Option Server) (own : List What) (append : Option Record) (letters : List Letter) → IsValid sc → Agrees sc w → Pairs sc w → Serial sc w
    → Remembers sc w → Refusals sc w → slice_get w.actors.servers at.0 ≡ Some part → IsQuietOwn own → IfSome append (SettlementShown sc w at (own ++ server_facts at append))
    → MoveRefuses sc w (server_move w.actors at (acts (server_fact at) own part.log now (log_with part.log append) letters))
server_moves_in_steps sc w at part now own append letters valid a pairs serial known h found quiet shown =
    let next : Part Server = record { up = now; log = log_with part.log append } in
    let actors : Actors = record w.actors { servers = slice_set w.actors.servers at.0 next } in
    let happened = own ++ server_facts at append in
    subst (λ (told : List What). MoveRefuses sc w (record { actors = actors; happened = own ++ told; letters = letters })) (sym (gained (server_fact at) part.log append))
    (record {
      settled = λ other txn settled e awaiting.
          by_server other txn settled awaiting (at.0 == other.0) refl (sym (ap (option_and_then (settled_by txn)) (get_set w.actors.servers at.0 other.0 part next found)) ∙ e);
      aborted = λ txn declared first awaiting exists e.
          old_run sc w happened txn declared first awaiting awaiting.c h exists (keeps_same awaiting.c)
          (λ none later. new_run sc w at happened append txn declared first awaiting valid a pairs serial known shown exists none (sym (quiet_abort txn (length w.steps) own (server_facts at append) quiet) ∙ later)) e;
      happened = each_append (WhatRefused sc (facts_after w happened) (length w.steps)) own (server_facts at append)
          (each_as IsQuiet (WhatRefused sc (facts_after w happened) (length w.steps)) (quiet_shown sc (facts_after w happened) (length w.steps)) own quiet)
          (each_server_fact (WhatRefused sc (facts_after w happened) (length w.steps)) at (λ txn ended. tt) append);
    })
  where
    by_server : (other : ServerId) (txn : TxnId) (settled : Settled) → IsAwaiting w.actors.coordinators txn → (b : Bool) → (at.0 == other.0) ≡ b
        → option_and_then (settled_by txn) (if b then Some (record { up = now; log = log_with part.log append }) else slice_get w.actors.servers other.0) ≡ Some settled
        → IfSome settled.why (ReasonShown sc (facts_after w (own ++ server_facts at append)) (length w.steps + 1) other txn)
    by_server other txn settled awaiting false apart e = old_shown sc w (own ++ server_facts at append) other txn settled h e awaiting
    by_server other txn settled awaiting true same e =
        let happened = own ++ server_facts at append in
        let here : at ≡ other = ap server_number (eqb-true at.0 other.0 same) in
        newly_settled sc w at txn part.log append settled (IfSome settled.why (ReasonShown sc (facts_after w happened) (length w.steps + 1) other txn))
        (sym (settled_with txn part.log append) ∙ e)
        (λ old. old_shown sc w happened other txn settled h
        (ap (λ (k : ℕ). option_and_then (settled_by txn) (slice_get w.actors.servers k)) (sym (eqb-true at.0 other.0 same)) ∙ (ap (option_and_then (settled_by txn)) found ∙ old)) awaiting)
        (λ order is own_txn_is same_order.
        let new : SettlementShown sc w at happened (log.Settled order) = shown_of sc w at happened append order is shown in
        let shown_order = (new (subst (IsAwaiting w.actors.coordinators) (sym own_txn_is) awaiting)).why in
        subst (λ (x : Settled). IfSome x.why (ReasonShown sc (facts_after w happened) (length w.steps + 1) other txn)) same_order
        (subst (λ (t : TxnId). IfSome order.why (ReasonShown sc (facts_after w happened) (length w.steps + 1) other t)) own_txn_is
        (subst (λ (s : ServerId). IfSome order.why (ReasonShown sc (facts_after w happened) (length w.steps + 1) s order.txn)) here shown_order)))

-- ---- steps

still_refuses : (sc : Scenario) (w : State) (happened : List What) (actors : Actors) (letters : List Letter) → Refusals sc w → actors.servers ≡ w.actors.servers → actors.coordinators ≡ w.actors.coordinators
    → ((txn : TxnId) → first_abort_of txn (facts_of (length w.steps) happened) ≡ None) → Each (WhatRefused sc (facts_after w happened) (length w.steps)) happened
    → MoveRefuses sc w (record { actors = actors; happened = happened; letters = letters })
still_refuses sc w happened actors letters h servers coordinators none told =
    record {
      settled = λ at txn settled e awaiting.
          old_shown sc w happened at txn settled h (subst (λ (parts : List (Part Server)). settled_at parts at.0 txn ≡ Some settled) servers e) (subst (λ (parts : List (Part Coordinator)). IsAwaiting parts txn) coordinators awaiting);
      aborted = subst (λ (parts : List (Part Coordinator)). AreAbortedRuns sc parts (facts_after w happened) (length w.steps + 1)) (sym coordinators)
          (λ txn declared first awaiting exists e. old_run sc w happened txn declared first awaiting awaiting.c h exists (keeps_same awaiting.c) (λ none_before now. let not_now = none txn in absurd (cc)) e);
      happened = told;
    }

idle_refuses : (sc : Scenario) (w : State) (taken : Step) (happened : List What) → Refusals sc w → SaysIdle taken happened → MoveRefuses sc w (idle_move w.actors happened)
idle_refuses sc w (step.Deliver mail) happened h e = subst (λ (hs : List What). MoveRefuses sc w (idle_move w.actors hs)) (sym e) (still_refuses sc w [] w.actors [] h refl refl (λ txn. refl) tt)
idle_refuses sc w (step.Lose mail) happened h e = subst (λ (hs : List What). MoveRefuses sc w (idle_move w.actors hs)) (sym e) (still_refuses sc w (what.Lost mail ∷ []) w.actors [] h refl refl (λ txn. refl) (tt, tt))
idle_refuses sc w _ happened h e = absurd e

begins_shown : (sc : Scenario) (w : State) (happened : List What) (c : Coordinator) → IfSome (submit_row sc c).reaction.append (DecisionShown sc w happened)
begins_shown sc w happened c = submit_by sc c (λ (effect : Effect Coordinator). IfSome effect.reaction.append (DecisionShown sc w happened)) (record { ignored = tt; sent = λ server begins home. tt; asked = λ begins. tt })

refusals_cases : (sc : Scenario) (w : State) → IsValid sc → WaitRightly sc w → IsSound sc w → Agrees sc w → Pairs sc w → Serial sc w → Remembers sc w → Refusals sc w → Cases sc w (λ taken move. MoveRefuses sc w move)
refusals_cases sc w valid rightly sound a pairs serial known h =
    record {
      idle = λ taken happened e. idle_refuses sc w taken happened h e;
      server_received = λ n mail at part s sent up.
          let effect = server_row sc s mail in
          server_moves_in_steps sc w at part (Some effect.state) [] effect.reaction.append effect.reaction.letters valid a pairs serial known h up.found tt
          (server_row_shown sc w n mail at part s valid rightly sound a pairs serial known h sent up);
      coordinator_received = λ n mail txn part c sent up.
          let effect = coordinator_row sc c mail in
          coordinator_moves_in_steps sc w txn part (Some effect.state) [] effect.reaction.append effect.reaction.letters h up.found (row_opens part.up c effect.state up.up (still_undecided sc c mail)) tt
          (coordinator_row_shown sc w txn part c n mail sound a h sent up);
      authority_told = λ n mail sent. still_refuses sc w [] w.actors (office.authority_row w.actors.authority mail).reaction.letters h refl refl (λ txn. refl) tt;
      master_told = λ n mail sent. still_refuses sc w [] w.actors (master.master_row w.actors.master mail).reaction.letters h refl refl (λ txn. refl) tt;
      published = λ admin exists more.
          still_refuses sc w (what.Published admin (master.next_of w.actors.master admin) ∷ []) (record w.actors { master = master.after_publication admin w.actors.master }) [] h refl refl (λ txn. refl) (tt, tt);
      pushed = λ admin server exists there. still_refuses sc w [] w.actors (master.pushes w.actors.master admin server).reaction.letters h refl refl (λ txn. refl) tt;
      ticked = λ by. still_refuses sc w (what.Ticked by ∷ []) (record w.actors { authority = office.after_tick by w.actors.authority }) [] h refl refl (λ txn. refl) (tt, tt);
      revoked = λ cred exists. still_refuses sc w (what.Revoked cred ∷ []) (record w.actors { authority = office.after_revocation cred w.actors.authority }) [] h refl refl (λ txn. refl) (tt, tt);
      begun = λ txn part c exists up new.
          let effect = with_age (submit_row sc c) (length w.steps) in
          let idle : c.phase ≡ phase.Idle = idle_is c.phase new in
          let own = what.Submitted txn ∷ [] in
          coordinator_moves_in_steps sc w txn part (Some effect.state) own effect.reaction.append effect.reaction.letters h up.found
          (row_opens part.up c effect.state up.up
          (λ undecided. other_phase c effect.state (ap is_undecided idle) (λ prepares. let stands : stand_of c.phase ≡ Rests = ap stand_of idle in cc))) (tt, tt)
          (begins_shown sc w (own ++ coordinator_facts effect.reaction.append) c);
      timed = λ txn part c exists up begun. still_refuses sc w [] w.actors (repeats sc c c.phase) h refl refl (λ other. refl) tt;
    }

-- a step that is not refused keeps what is said of refusals
pub refusals_next : (sc : Scenario) (m : Machine) (taken : Step) → IsValid sc → IsStepOf sc taken → KeepsUp taken → refusal m.state taken ≡ None → WaitRightly sc m.state → IsSound sc m.state → Agrees sc m.state → Pairs sc m.state → Serial sc m.state
    → Remembers sc m.state → Refusals sc m.state → Refusals sc (machine_after sc m taken).state
refusals_next sc m taken valid exists stays allowed rightly sound a pairs serial known h =
    machine_after_by sc m (λ taken_is move. MoveRefuses sc m.state move) (Refusals sc) (refusals_cases sc m.state valid rightly sound a pairs serial known h) a.coordinator_count
    (λ taken_is move t. state_after_refusals sc m.state taken_is move a.past h t) taken exists stays allowed

-- before the first step nothing is settled
pub refusals_opening : (sc : Scenario) → Refusals sc (opening_state sc)
refusals_opening sc =
    record {
      settled = λ at txn settled e awaiting.
          let none = no_settlement sc at txn (slice_get (opening_state sc).actors.servers at.0) refl in
          absurd (none-some settled (sym none ∙ e));
      aborted = λ txn declared first awaiting exists e. absurd (cc);
      facts = tt;
    }
  where
    no_settlement : (sc : Scenario) (at : ServerId) (txn : TxnId) (part : Option (Part Server)) → slice_get (opening_state sc).actors.servers at.0 ≡ part → option_and_then (settled_by txn) part ≡ None
    no_settlement sc at txn None e = refl
    no_settlement sc at txn (Some part) e =
        ap (settled_in txn) (at_made (λ (k : ℕ) (found : Part Server). found.log ≡ []) (λ (k : ℕ). opened_part (server_opened.opening sc (record { 0 = k }))) 0 (length sc.servers) (λ k within. refl) at.0 part e)
