-- Trust, the coordinator's rows: on receipt of a mail, at the submission, and at a timer.
use Rattle.std.proofs.Common.{Bool, IfSome, List, None, Option, Some, [], ap, arith, false, nat_le, option_and_then, refl, slice_get, subst, sym, true, ℕ, if◌then◌else◌, ◌+◌, ◌==◌, ◌∙◌, ◌∷◌, ◌≡◌, ◌≤◌}
use Rattle.std.proofs.lemmas.Bool.{and_parts, both_ways, eqb-true}
use Rattle.std.proofs.lemmas.Option.{same_Some}
use Rattle.tp_types.specs.Each.{Each}
use Rattle.tp_types.specs.Effect.{Effect, ignores, sends}
use Rattle.tp_model.specs.Causes.{denies_at_newest, is_newer_shown}
use Rattle.tp_model.specs.Demand.{is_incremental}
use Rattle.tp_model.specs.Levels.{is_global, level_of, reads_master}
use Rattle.tp_model.specs.Queries.{query_at}
use Rattle.tp_model.specs.Words.{AdminId, Answer, Body, Cause, DoneReply, Fact, Letter, Mail, Newer, NewestReply, Outcome, Query, Reading, Scenario, Scheme, ServerId, Staple, TellReply, Transaction, TxnId, Verdict, Version}
use Rattle.tp_model.specs.Words.actor
use Rattle.tp_model.specs.Words.answer
use Rattle.tp_model.specs.Words.body
use Rattle.tp_model.specs.Words.cause
use Rattle.tp_model.specs.Words.outcome
use Rattle.tp_model.specs.Words.scheme
use Rattle.tp_coord.proofs.Rows.{AfterQuery, AfterVotes, AllTrue, AllVoted, ByDenial, ByLoss, ByLostVerdicts, ByNewer, ByNewest, ByOlder, ByProof, ByRefusal, ByRestart, ByRounds, Gained, IsAwaitedAnswer, IsEnded, IsJudged, IsPassed, IsProbing, IsProofsReading, IsReply, ProofsRead, QueryRan, coordinator_by, gains_deed, gains_instances, submit_by, timer_by, with_gained}
use Rattle.tp_coord.specs.Row.{aborts, asks, asks_in, commits, coordinator_row, coordinator_with_age, decide_letters, denied_by, died_for, followed, home_of, instances_with, is_begun, move_after, move_at, next_at, next_turn, number_at, older_than, pin_for, probes, probing_at, query_request, reading_of, refused_by, repeats, sends_query, staple_of, submit_row, validation_round, without}
use Rattle.tp_coord.specs.Row as row
use Rattle.tp_coord.specs.State.{Coordinator}
use Rattle.tp_coord.specs.declared.coordinator.Phase.{Phase}
use Rattle.tp_coord.specs.declared.coordinator.Phase.TheVariants as phase
use Rattle.tp_coord.specs.declared.coordinator.Span.{Span}
use Rattle.tp_coord.specs.declared.coordinator.Span.TheVariants as span
use Rattle.tp_machine.specs.Machine.{with_age}
use Rattle.tp_machine.specs.Named.{IsTxn}
use Rattle.tp_round.specs.Judge.{after_reply}
use Rattle.tp_round.specs.declared.round.Round.{Round}
use Rattle.tp_scheme.specs.Moves.{proves_each}
use Rattle.tp_scheme.specs.Moves as table
use Rattle.tp_scheme.specs.declared.moves.Move.{Move}
use Rattle.tp_scheme.specs.declared.moves.Move.TheVariants as move
use Rattle.tp_scheme.specs.declared.moves.Point.{Point}
use Rattle.tp_scheme.specs.declared.moves.Point.TheVariants as point
use Rattle.tp_runs.proofs.agreement.Coordinator.{idle_is}
use Rattle.tp_runs.proofs.basics.Homes.{HaveHomes, begun_after, home_is, is_beginning, is_past, last_is, move_is, moved_here, other_move, past_begins_none, proved, unproved}
use Rattle.tp_runs.proofs.basics.Ids.{same_txn_from}
use Rattle.tp_runs.proofs.basics.Passed.{passed_past, reply_checking}
use Rattle.tp_runs.proofs.basics.Phases.{awaits_is, ceiling_in, is_undecided, until_round}
use Rattle.tp_runs.proofs.basics.Rounds.{missing_in}
use Rattle.tp_runs.proofs.basics.Servers.{servers_upto_are}
use Rattle.tp_runs.proofs.basics.Turns.{AreFew, IsAbove, IsTimely, NewerNow, Now, QueryNow, TellNow, admin_asked, admin_of_query, died_move, first_move, number_within, query_count, raised, turn_rises}
use Rattle.tp_runs.proofs.ids.Valid.{IsValid}
use Rattle.tp_runs.proofs.pairs.Actors.{BodyPairs}
use Rattle.tp_runs.proofs.pairs.Pair.{Pair}
use Rattle.tp_runs.proofs.trust.RoundRows.{EndStands, IsKnown, RepliedTrusted, RoundTrusted, checks_trusts, committed_trusts, counted_trusts, denied_stands, judged_trusted, lost_stands, probed_trusts, reading_trusted, refused_stands, replied_trusted, reply_trusted, round_letters_fit, round_letters_timely, spent_stands, updated_trusts, validated_stands}
use Rattle.tp_runs.proofs.trust.Coordinator.{AreSoFar, CauseFits, CoordinatorFits, IsHeard, LetterOfTurn, PresentMail, RowTrusts, declared_there, ignores_trusts_in_coordinator, moved_on, orders_fit, orders_timely, phase_fits, turn_low}
use Rattle.tp_runs.proofs.trust.Fit.{BodyFits, IsPublished, IsSubmitted, QueryFits, StapleFits}
use Rattle.tp_runs.proofs.trust.Instances.{IsSoFarIn}
use Rattle.tp_runs.proofs.trust.NewerFound.{pinned_newer_shown}
use Rattle.tp_runs.proofs.trust.Phases.{PhaseFits}
use Rattle.tp_runs.proofs.trust.Points.{IsProbed}
use Rattle.tp_runs.proofs.trust.ProofReadings.{older_shown, read_stands, vote_read_commit}
use Rattle.tp_runs.proofs.trust.Queries.{IsAnswerTrusted, PassedStands, answer_trusted, asks_trusts, brings_trusts, probes_trusts, query_declared, query_fits, ran_stands, sends_trusts, stapled_trusts, validates_trusts}
use Rattle.tp_runs.proofs.trust.Rounds.{round_wants}
use Rattle.tp_runs.proofs.trust.Voting.{asks_votes_trusts, commits_trusts, vote_letters_fit, vote_letters_timely, vote_probes_trusts, voted_commit, voted_low, voted_trusts}
use Rattle.tp_runs.specs.Sound.{IsSoundBody, IsSoundPhase, query_in}

-- ---- ends

-- an abort
aborts_trusts : (sc : Scenario) (facts : List Fact) (place : ℕ) (c : Coordinator) (why : Cause) → EndStands sc facts place c why → RowTrusts sc facts place c (aborts c why)
aborts_trusts sc facts place c why s =
    record {
      fits = record { awaits = tt; suits = λ declared found. tt; so_far = λ unsure. absurd (cc); above = λ unsure. absurd (cc); made_after = tt; turn = s.turn };
      decides = s.fits;
      says = λ sent. orders_fit sc facts place sent c outcome.Abort c.servers;
      timely = λ sent. orders_timely sc c (Some (aborts c why).state) sent outcome.Abort c.servers;
      old = λ sent turn said t unsure. absurd (cc);
    }

-- the answer to a query ends the transaction
answered_stands : (sc : Scenario) (facts : List Fact) (place : ℕ) (c : Coordinator) (number : ℕ) (staple : Option Staple) (asked : Query) (why : Cause) → CoordinatorFits sc facts place c → c.phase ≡ phase.Querying number staple
    → query_in sc c.txn number ≡ Some asked → CauseFits sc facts place c.txn why → EndStands sc facts place c why
answered_stands sc facts place c number staple asked why h e q fits =
    let low : c.turn ≤ ceiling_in (query_count sc c.txn) (phase.Querying number staple) = turn_low sc facts place c (phase.Querying number staple) h e in
    let within = number_within sc c.txn number asked q in
    record { turn = died_move (query_count sc c.txn) number c.turn within.0 within.1 low; fits = fits }

-- a scheme that proves each query denies at whatever version its server knows
unbound_where : (chosen : Scheme) → proves_each chosen ≡ true → denies_at_newest chosen ≡ true → ⊥
unbound_where scheme.Deferred e d = cc
unbound_where scheme.Punctual e d = cc
unbound_where scheme.Incremental e d = cc
unbound_where scheme.Continuous e d = cc

-- a query whose proof is false denies
denied_query_stands : (sc : Scenario) (facts : List Fact) (place : ℕ) (c : Coordinator) (mail : Mail) (done : DoneReply) (server : ServerId) (asked : Query) (verdict : Verdict) → CoordinatorFits sc facts place c → IsHeard sc facts place c mail
    → IsAwaitedAnswer sc c mail done server asked (answer.Denied verdict) → EndStands sc facts place c (cause.Denied (denied_by verdict))
denied_query_stands sc facts place c mail done server asked verdict h m k =
    let a : IsAnswerTrusted sc facts place c done (answer.Denied verdict) = answer_trusted sc facts place c mail done server asked (answer.Denied verdict) h m k in
    let proves : proves_each a.declared.scheme ≡ true = sym a.proves ∙ a.now.stapled in
    answered_stands sc facts place c done.query a.staple asked (cause.Denied (denied_by verdict)) h a.querying k.asked_is
    (record {
      verdict = verdict;
      denied_is = refl;
      right = a.says;
      ruleless = a.now.ruleless;
      bound = λ declared found at_newest.
          let same : a.declared ≡ declared = same_Some a.declared declared (sym a.found ∙ found) in
          absurd (unbound_where declared.scheme (subst (λ (t : Transaction). proves_each t.scheme ≡ true) same proves) (and_parts (is_global (level_of declared verdict.admin)) (denies_at_newest declared.scheme) at_newest).1);
    })

-- an answer that says nothing of authorisation ends the transaction
other_stands : (sc : Scenario) (facts : List Fact) (place : ℕ) (c : Coordinator) (mail : Mail) (done : DoneReply) (server : ServerId) (asked : Query) (given : Answer) (why : Cause) → CoordinatorFits sc facts place c
    → IsAwaitedAnswer sc c mail done server asked given → CauseFits sc facts place c.txn why → EndStands sc facts place c why
other_stands sc facts place c mail done server asked given why h k fits =
    let querying = awaits_is c c.phase done k.awaited in
    answered_stands sc facts place c done.query querying.0 asked why h querying.1 k.asked_is fits

-- ---- Tell

-- the authority's awaited answer: its staple fits, and came after all that is closed
record IsTellTrusted (sc : Scenario) (facts : List Fact) (place : ℕ) (c : Coordinator) (staple : Staple) : Type 0 where
  fits : StapleFits sc facts place c.txn staple
  made_after : IsAbove staple.place c.instances c.gathered

tell_trusted : (sc : Scenario) (facts : List Fact) (place : ℕ) (c : Coordinator) (mail : Mail) (tell : TellReply) (awaited : Phase) → IsHeard sc facts place c mail → mail.letter.body ≡ body.Tell tell → (tell.turn == c.turn) ≡ true
    → c.phase ≡ awaited → is_undecided awaited ≡ true → (TellNow c awaited mail.sent → IsAbove mail.sent c.instances c.gathered) → IsTellTrusted sc facts place c (staple_of tell mail.sent)
tell_trusted sc facts place c mail tell awaited m said present e undecided says =
    let same : c.txn ≡ tell.txn = sym (same_txn_from c.txn tell.txn (subst (IsSoundBody sc (actor.Coordinator c.txn)) said m.sound).goes_to) in
    let fits : StapleFits sc facts place tell.txn (staple_of tell mail.sent) = subst (BodyFits sc facts place mail.sent) said m.fits in
    let timely : IsTimely sc c mail.sent tell.turn (body.Tell tell) = subst (PresentMail sc c mail.sent) said m.present (sym same) in
    let now : TellNow c c.phase mail.sent = (timely (ap is_undecided e ∙ undecided)).now (eqb-true tell.turn c.turn present) in
    record { fits = subst (λ (x : TxnId). StapleFits sc facts place x (staple_of tell mail.sent)) (sym same) fits; made_after = says (subst (λ (p : Phase). TellNow c p mail.sent) e now) }

-- ---- Ack

acknowledged_trusts : (sc : Scenario) (facts : List Fact) (place : ℕ) (c : Coordinator) (ended : Outcome) (awaited : List ServerId) (server : ServerId) → CoordinatorFits sc facts place c
    → c.phase ≡ phase.Ending ended awaited → RowTrusts sc facts place c (sends (record c { phase = phase.Ending ended (without awaited server) }) [])
acknowledged_trusts sc facts place c ended awaited server h e =
    record {
      fits = record { awaits = tt; suits = λ declared found. tt; so_far = λ unsure. absurd (cc); above = λ unsure. absurd (cc); made_after = tt; turn = turn_low sc facts place c (phase.Ending ended awaited) h e };
      decides = tt;
      says = λ sent. tt;
      timely = λ sent. tt;
      old = λ sent turn said t unsure. absurd (cc);
    }

-- ---- Inquire

-- a server is told the decision again
inquired_trusts : (sc : Scenario) (facts : List Fact) (place : ℕ) (c : Coordinator) (ended : Outcome) (server : ServerId) → CoordinatorFits sc facts place c → RowTrusts sc facts place c (sends c (decide_letters c ended (server ∷ [])))
inquired_trusts sc facts place c ended server h =
    record {
      fits = h;
      decides = tt;
      says = λ sent. orders_fit sc facts place sent c ended (server ∷ []);
      timely = λ sent. orders_timely sc c (Some c) sent ended (server ∷ []);
      old = λ sent turn said t. t;
    }

-- ---- ends by an answer, a reading or a reply

-- a server knows a newer version than the one that is pinned
newer_query_stands : (sc : Scenario) (facts : List Fact) (place : ℕ) (c : Coordinator) (mail : Mail) (done : DoneReply) (server : ServerId) (asked : Query) (newer : Newer) → CoordinatorFits sc facts place c → IsHeard sc facts place c mail
    → IsAwaitedAnswer sc c mail done server asked (answer.Newer newer) → EndStands sc facts place c (cause.Newer newer)
newer_query_stands sc facts place c mail done server asked newer h m k =
    let a : IsAnswerTrusted sc facts place c done (answer.Newer newer) = answer_trusted sc facts place c mail done server asked (answer.Newer newer) h m k in
    let so_far : IsSoFarIn sc facts place c.txn a.declared (phase.Querying done.query a.staple) c.instances c.gathered =
    subst (λ (awaited : Phase). IsSoFarIn sc facts place c.txn a.declared awaited c.instances c.gathered) a.querying (h.so_far (ap is_undecided a.querying) a.declared a.found) in
    answered_stands sc facts place c done.query a.staple asked (cause.Newer newer) h a.querying k.asked_is
    (λ declared found.
    subst (λ (d : Transaction). is_newer_shown sc place facts newer d ≡ true) (same_Some a.declared declared (sym a.found ∙ found))
    (pinned_newer_shown sc facts place c a.declared done.query a.staple newer a.found a.says (subst (λ (txn : TxnId). NewerNow sc c.gathered txn done.query newer) (sym a.own) a.now) a.first so_far))

-- a reading at which a proof is older
reading_end : (sc : Scenario) (facts : List Fact) (place : ℕ) (c : Coordinator) (awaited : Phase) (at : Point) → IsSoundPhase sc c.txn awaited → c.turn ≤ ceiling_in (query_count sc c.txn) awaited → IsProbing awaited at
    → c.turn ≤ until_round (query_count sc c.txn) 17 3
reading_end sc facts place c _ _ sound low (AfterQuery number) = let within = number_within sc c.txn number sound.asked sound.asked_is in let first = within.0 in let last = within.1 in omega (arith, first, last, low)
reading_end sc facts place c _ _ sound low AfterVotes = omega (arith, low)

newest_stands : (sc : Scenario) (facts : List Fact) (place : ℕ) (P : TxnId → ℕ → Pair) (c : Coordinator) (mail : Mail) (reply : NewestReply) (at : Point) (why : Cause) → IsValid sc → IsKnown sc P c → CoordinatorFits sc facts place c
    → IsHeard sc facts place c mail → IsProofsReading c mail reply at → older_than c (reading_of reply mail.sent) ≡ Some why → EndStands sc facts place c why
newest_stands sc facts place P c mail reply at why valid known h m k older =
    record { turn = reading_end sc facts place c c.phase at known.sound h.turn k.probing; fits = older_shown sc facts place c mail reply at why valid h m k older }

end_stands : (sc : Scenario) (facts : List Fact) (place : ℕ) (P : TxnId → ℕ → Pair) (c : Coordinator) (mail : Mail) (why : Cause) → IsValid sc → IsKnown sc P c → CoordinatorFits sc facts place c → IsHeard sc facts place c mail
    → BodyPairs sc P mail.letter.from (actor.Coordinator c.txn) mail.letter.body → IsEnded sc c mail why → EndStands sc facts place c why
end_stands sc facts place P c mail _ valid known h m n (ByOlder done server asked other k) = other_stands sc facts place c mail done server asked (answer.Died other) (cause.Died (died_for server done other mail.sent)) h k tt
end_stands sc facts place P c mail _ valid known h m n (ByRestart done server asked k) = other_stands sc facts place c mail done server asked answer.Restarted (cause.Restarted server) h k tt
end_stands sc facts place P c mail _ valid known h m n (ByDenial done server asked verdict k) = denied_query_stands sc facts place c mail done server asked verdict h m k
end_stands sc facts place P c mail _ valid known h m n (ByNewer done server asked newer k) = newer_query_stands sc facts place c mail done server asked newer h m k
end_stands sc facts place P c mail _ valid known h m n (ByNewest reply at why k older) = newest_stands sc facts place P c mail reply at why valid known h m k older
end_stands sc facts place P c mail _ valid known h m n (ByProof over round staple reading verdict j e) =
    denied_stands sc facts place c over round reading verdict valid (judged_trusted sc facts place P c mail over round staple reading valid known h m n j) e
end_stands sc facts place P c mail _ valid known h m n (ByRounds reply over round mets k e) =
    spent_stands sc facts place c over round (Some (reading_of reply mail.sent)) mets valid (reading_trusted sc facts place c mail reply over round valid known.sound h m k) e
end_stands sc facts place P c mail _ valid known h m n (ByRefusal reply server number value k) = refused_stands sc facts place c server (cause.No (refused_by server number value)) h k.awaited tt
end_stands sc facts place P c mail _ valid known h m n (ByLoss reply server k) = refused_stands sc facts place c server (cause.Restarted server) h k.awaited tt
end_stands sc facts place P c mail _ valid known h m n (ByLostVerdicts reply number round staple server k) = lost_stands sc facts place c number round staple (cause.Restarted server) known.sound h k.checking tt

-- ---- points that are passed

-- a query begins, or the end, only where the point itself leads on to it
leads_on : (sc : Scenario) (c : Coordinator) (at : Point) (wanted : Move) → is_past at ≡ true → is_beginning wanted ≡ true → move_after sc c at ≡ wanted → move_at sc c at ≡ move.Following
leads_on sc c at wanted past begins e = by_move (move_at sc c at) refl (past_begins_none sc at (slice_get sc.txns c.txn.0) past) e
  where
    by_move : (next : Move) → move_at sc c at ≡ next → is_beginning next ≡ false → followed sc c (number_at at) next ≡ wanted → move_at sc c at ≡ move.Following
    by_move move.Following f none g = f
    by_move move.Ask f none g = absurd (other_move move.Ask wanted none begins g)
    by_move move.SendQuery f none g = absurd (other_move move.SendQuery wanted none begins g)
    by_move move.Probe f none g = absurd (other_move move.Probe wanted none begins g)
    by_move move.Validate f none g = absurd (other_move move.Validate wanted none begins g)
    by_move move.CommitRounds f none g = absurd (other_move move.CommitRounds wanted none begins g)
    by_move move.Votes f none g = absurd (other_move move.Votes wanted none begins g)
    by_move move.Decide f none g = absurd (other_move move.Decide wanted none begins g)

-- after the votes nothing is led on to
votes_lead_nowhere : (sc : Scenario) (c : Coordinator) (declared : Transaction) → slice_get sc.txns c.txn.0 ≡ Some declared → move_at sc c point.Voted ≡ move.Following → ⊥
votes_lead_nowhere sc c declared found e = by_scheme declared.scheme (reads_master sc declared) (move_is sc c declared point.Voted move.Following found e)
  where
    by_scheme : (chosen : Scheme) (reads : Bool) → table.after_votes chosen reads ≡ move.Following → ⊥
    by_scheme scheme.Deferred reads f = cc
    by_scheme scheme.Punctual reads f = cc
    by_scheme scheme.Incremental true f = cc
    by_scheme scheme.Incremental false f = cc
    by_scheme scheme.Continuous reads f = cc

-- only incremental asks the master there
votes_probe : (sc : Scenario) (declared : Transaction) → table.after_votes declared.scheme (reads_master sc declared) ≡ move.Probe → IsProbed declared.scheme (reads_master sc declared)
votes_probe sc declared e = by_scheme declared.scheme (reads_master sc declared) e
  where
    by_scheme : (chosen : Scheme) (reads : Bool) → table.after_votes chosen reads ≡ move.Probe → IsProbed chosen reads
    by_scheme scheme.Deferred reads f = absurd (cc)
    by_scheme scheme.Punctual reads f = absurd (cc)
    by_scheme scheme.Incremental true f = record { incremental = refl; reads_it = refl }
    by_scheme scheme.Incremental false f = absurd (cc)
    by_scheme scheme.Continuous reads f = absurd (cc)

run_probes : (sc : Scenario) (declared : Transaction) → table.after_run declared.scheme (reads_master sc declared) ≡ move.Probe → IsProbed declared.scheme (reads_master sc declared)
run_probes sc declared e = by_scheme declared.scheme (reads_master sc declared) e
  where
    by_scheme : (chosen : Scheme) (reads : Bool) → table.after_run chosen reads ≡ move.Probe → IsProbed chosen reads
    by_scheme scheme.Deferred reads f = absurd (cc)
    by_scheme scheme.Punctual reads f = absurd (cc)
    by_scheme scheme.Incremental true f = record { incremental = refl; reads_it = refl }
    by_scheme scheme.Incremental false f = absurd (cc)
    by_scheme scheme.Continuous reads f = absurd (cc)

run_validates : (chosen : Scheme) (reads : Bool) → table.after_run chosen reads ≡ move.Validate → chosen ≡ scheme.Continuous
run_validates scheme.Deferred reads f = absurd (cc)
run_validates scheme.Punctual reads f = absurd (cc)
run_validates scheme.Incremental true f = absurd (cc)
run_validates scheme.Incremental false f = absurd (cc)
run_validates scheme.Continuous reads f = refl

run_decides_none : (chosen : Scheme) (reads : Bool) → table.after_run chosen reads ≡ move.Decide → ⊥
run_decides_none scheme.Deferred reads f = cc
run_decides_none scheme.Punctual reads f = cc
run_decides_none scheme.Incremental true f = cc
run_decides_none scheme.Incremental false f = cc
run_decides_none scheme.Continuous reads f = cc

votes_validate_none : (chosen : Scheme) (reads : Bool) → table.after_votes chosen reads ≡ move.Validate → ⊥
votes_validate_none scheme.Deferred reads f = cc
votes_validate_none scheme.Punctual reads f = cc
votes_validate_none scheme.Incremental true f = cc
votes_validate_none scheme.Incremental false f = cc
votes_validate_none scheme.Continuous reads f = cc

-- where all queries are done with, the rounds at commit or the votes begin by the scheme
ends_by_rounds : (chosen : Scheme) (b : Bool) → (if b then table.before_query chosen else table.after_queries chosen) ≡ move.CommitRounds → is_incremental chosen ≡ false
ends_by_rounds scheme.Deferred b e = refl
ends_by_rounds scheme.Punctual b e = refl
ends_by_rounds scheme.Continuous b e = refl
ends_by_rounds scheme.Incremental true e = absurd (cc)
ends_by_rounds scheme.Incremental false e = absurd (cc)

ends_by_votes : (chosen : Scheme) (b : Bool) → (if b then table.before_query chosen else table.after_queries chosen) ≡ move.Votes → chosen ≡ scheme.Incremental
ends_by_votes scheme.Deferred true e = absurd (cc)
ends_by_votes scheme.Deferred false e = absurd (cc)
ends_by_votes scheme.Punctual true e = absurd (cc)
ends_by_votes scheme.Punctual false e = absurd (cc)
ends_by_votes scheme.Continuous true e = absurd (cc)
ends_by_votes scheme.Continuous false e = absurd (cc)
ends_by_votes scheme.Incremental b e = refl

-- ---- all mails

-- every row of a coordinator on receipt of a mail
pub coordinator_row_trusts : (sc : Scenario) (facts : List Fact) (place : ℕ) (P : TxnId → ℕ → Pair) (c : Coordinator) (mail : Mail) → AreFew sc → HaveHomes sc → IsValid sc → IsTxn sc c.txn → IsKnown sc P c → CoordinatorFits sc facts place c
    → IsHeard sc facts place c mail → BodyPairs sc P mail.letter.from (actor.Coordinator c.txn) mail.letter.body → RowTrusts sc facts place c (coordinator_row sc c mail)
coordinator_row_trusts sc facts place P c mail few homes valid exists known h m n =
    coordinator_by sc c mail (RowTrusts sc facts place c)
    (record {
      ignored = ignores_trusts_in_coordinator sc facts place c h;
      stapled = λ tell query home k at.
          let t = tell_trusted sc facts place c mail tell (phase.Stapling query) m k.said_is k.present k.stapling refl (λ above. above) in
          stapled_trusts sc facts place c query (staple_of tell mail.sent) home few h k.stapling at t.fits t.made_after;
      sends_query = λ at now rounds next passed moves home.
          let past = passed_past sc c mail at now rounds passed in
          let on = leads_on sc c at move.SendQuery past refl moves in
          sends_trusts sc facts place c now at (number_at at) next (stands at now rounds passed on) on (begun_after sc c at move.SendQuery past refl moves);
      asks_staple = λ at now rounds passed moves.
          let past = passed_past sc c mail at now rounds passed in
          let on = leads_on sc c at move.Ask past refl moves in
          asks_trusts sc facts place c now at (number_at at) (stands at now rounds passed on) on (begun_after sc c at move.Ask past refl moves);
      probes_proofs = λ at now rounds passed moves. probed at now rounds passed (moved_here sc c at move.Probe refl moves);
      validates = λ at now rounds passed moves. validated at now rounds passed (moved_here sc c at move.Validate refl moves);
      commit_rounds = λ at now rounds passed moves.
          let past = passed_past sc c mail at now rounds passed in
          let on = leads_on sc c at move.CommitRounds past refl moves in
          let s = stands at now rounds passed on in
          let begun = begun_after sc c at move.CommitRounds past refl moves in
          brings_trusts sc facts place c now at (number_at at) homes valid known.servers s on (last_is sc c at s.asked move.CommitRounds homes past refl s.asked_is moves)
          (λ declared found. ends_by_rounds declared.scheme (nat_le (next_at at) (row.query_count declared)) (move_is sc c declared (point.Begun (next_at at)) move.CommitRounds found begun));
      asks_votes = λ at now rounds passed moves.
          let past = passed_past sc c mail at now rounds passed in
          let on = leads_on sc c at move.Votes past refl moves in
          let s = stands at now rounds passed on in
          let begun = begun_after sc c at move.Votes past refl moves in
          asks_votes_trusts sc facts place c now at (number_at at) s on (last_is sc c at s.asked move.Votes homes past refl s.asked_is moves)
          (λ declared found. ends_by_votes declared.scheme (nat_le (next_at at) (row.query_count declared)) (move_is sc c declared (point.Begun (next_at at)) move.Votes found begun));
      told = λ tell over round k.
          let t = tell_trusted sc facts place c mail tell (phase.Asking over round) m k.said_is k.present k.asking refl (λ above. above) in
          checks_trusts sc facts place c over round (staple_of tell mail.sent) few (subst (IsSoundPhase sc c.txn) k.asking known.sound).0 h k.asking t.fits t.made_after;
      counted = λ over round staple server verdicts y.
          counted_trusts sc facts place c over round staple server verdicts (reply_checking c mail over round staple server verdicts y) (replied over round staple server verdicts y);
      probed = λ over round staple server verdicts y missing reads. probed_trusts sc facts place c over (after_reply round server verdicts) staple few (replied over round staple server verdicts y) reads;
      decides = λ at now rounds passed moves. decided at now rounds passed (moved_here sc c at move.Decide refl moves);
      aborted = λ why ended. aborts_trusts sc facts place c why (end_stands sc facts place P c mail why valid known h m n ended);
      updated = λ over round staple reading named j e. updated_trusts sc facts place c over round reading named few valid (judged_trusted sc facts place P c mail over round staple reading valid known h m n j) e;
      voted = λ reply awaited server verdicts y. voted_trusts sc facts place c awaited (without awaited server) h y.voting;
      acknowledged = λ ack ended awaited server k. acknowledged_trusts sc facts place c ended awaited server h k.ending;
      inquired = λ inquiry ended awaited server k. inquired_trusts sc facts place c ended server h;
    })
  where
    there : (declared : Transaction) × (slice_get sc.txns c.txn.0 ≡ Some declared)
    there = declared_there sc c.txn exists

    replied : (over : Span) (round : Round) (staple : Staple) (server : ServerId) (verdicts : List Verdict) → IsReply c mail over round staple server verdicts → RepliedTrusted sc facts place c over (after_reply round server verdicts) staple
    replied over round staple server verdicts y =
        replied_trusted sc facts place c over round staple server verdicts known.sound h (reply_checking c mail over round staple server verdicts y) (reply_trusted sc facts place P c mail over round staple server verdicts known m n y)

    judged_now : (over : Span) (round : Round) (staple : Option Staple) (reading : Option Reading) → IsJudged c mail over round staple reading → RoundTrusted sc facts place c over round reading
    judged_now over round staple reading j = judged_trusted sc facts place P c mail over round staple reading valid known h m n j

    read_at : (reply : NewestReply) (awaited : Phase) (at : Point) → c.phase ≡ awaited → IsProbing awaited at → IsProofsReading c mail reply at → older_than c (reading_of reply mail.sent) ≡ None → move_at sc c at ≡ move.Following
        → PassedStands sc facts place c (gains_instances c (instances_with c (Some mail.sent) c.gathered)) at (number_at at)
    read_at reply _ _ e (AfterQuery number) k none on = read_stands sc facts place c mail reply number few homes valid (subst (IsSoundPhase sc c.txn) e known.sound) h m e k none
    read_at reply _ _ e AfterVotes k none on = let decides = move_is sc c there.0 point.VoteRead move.Following there.1 on in absurd (cc)

    stands : (at : Point) (now : Gained) (rounds : ℕ) → IsPassed sc c mail at now rounds → move_at sc c at ≡ move.Following → PassedStands sc facts place c now at (number_at at)
    stands _ _ _ (QueryRan done server asked value proof k) on = ran_stands sc facts place c mail done server asked value proof few homes h m k
    stands _ _ _ (ProofsRead reply at k none) on = read_at reply c.phase at refl k.probing k none on
    stands _ _ _ (AllTrue (span.Validate number) round staple reading k) on = validated_stands sc facts place c number round reading few homes valid (judged_now (span.Validate number) round staple reading k.is_judged) k.all_true
    stands _ _ _ (AllTrue span.Commit round staple reading k) on = absurd (votes_lead_nowhere sc c there.0 there.1 on)
    stands _ _ _ (AllVoted reply awaited server verdicts y none) on = absurd (votes_lead_nowhere sc c there.0 there.1 on)

    probing_elsewhere : (awaited : Phase) (at : Point) (wanted : Move) → IsProbing awaited at → move_at sc c at ≡ wanted → (wanted ≡ move.Following → ⊥) → (wanted ≡ move.Decide → ⊥) → ⊥
    probing_elsewhere _ _ wanted (AfterQuery number) e not_on not_decided = not_on (sym (move_is sc c there.0 (point.Read number) wanted there.1 e))
    probing_elsewhere _ _ wanted AfterVotes e not_on not_decided = not_decided (sym (move_is sc c there.0 point.VoteRead wanted there.1 e))

    probed : (at : Point) (now : Gained) (rounds : ℕ) → IsPassed sc c mail at now rounds → move_at sc c at ≡ move.Probe → RowTrusts sc facts place c (probes (with_gained c now) (probing_at at))
    probed _ _ _ (QueryRan done server asked value proof k) e =
        probes_trusts sc facts place c (gains_deed sc c server done asked value proof) done.query (ran_stands sc facts place c mail done server asked value proof few homes h m k)
        (λ declared found. run_probes sc declared (move_is sc c declared (point.Ran done.query) move.Probe found e))
    probed _ _ _ (ProofsRead reply at k none) e = absurd (probing_elsewhere c.phase at move.Probe k.probing e (λ f. cc) (λ f. cc))
    probed _ _ _ (AllTrue (span.Validate number) round staple reading k) e = let on = move_is sc c there.0 (point.Validated number) move.Probe there.1 e in absurd (cc)
    probed _ _ _ (AllTrue span.Commit round staple reading k) e =
        let by = votes_probe sc there.0 (move_is sc c there.0 point.Voted move.Probe there.1 e) in
        let suits : is_incremental there.0.scheme ≡ false = (judged_now span.Commit round staple reading k.is_judged).suits there.0 there.1 in
        absurd (both_ways (is_incremental there.0.scheme) suits (ap is_incremental by.incremental))
    probed _ _ _ (AllVoted reply awaited server verdicts y none) e =
        vote_probes_trusts sc facts place c awaited few h y.voting (λ declared found. votes_probe sc declared (move_is sc c declared point.Voted move.Probe found e))

    validated : (at : Point) (now : Gained) (rounds : ℕ) → IsPassed sc c mail at now rounds → move_at sc c at ≡ move.Validate
        → RowTrusts sc facts place c (asks (with_gained c now) (span.Validate (number_at at)) (validation_round sc c (number_at at)))
    validated _ _ _ (QueryRan done server asked value proof k) e =
        validates_trusts sc facts place c (gains_deed sc c server done asked value proof) done.query homes valid (sym (servers_upto_are sc c done.query known.servers))
        (ran_stands sc facts place c mail done server asked value proof few homes h m k)
        (λ declared found. run_validates declared.scheme (reads_master sc declared) (move_is sc c declared (point.Ran done.query) move.Validate found e))
    validated _ _ _ (ProofsRead reply at k none) e = absurd (probing_elsewhere c.phase at move.Validate k.probing e (λ f. cc) (λ f. cc))
    validated _ _ _ (AllTrue (span.Validate number) round staple reading k) e = let on = move_is sc c there.0 (point.Validated number) move.Validate there.1 e in absurd (cc)
    validated _ _ _ (AllTrue span.Commit round staple reading k) e = absurd (votes_validate_none there.0.scheme (reads_master sc there.0) (move_is sc c there.0 point.Voted move.Validate there.1 e))
    validated _ _ _ (AllVoted reply awaited server verdicts y none) e = absurd (votes_validate_none there.0.scheme (reads_master sc there.0) (move_is sc c there.0 point.Voted move.Validate there.1 e))

    decided_read : (reply : NewestReply) (awaited : Phase) (at : Point) → c.phase ≡ awaited → IsProbing awaited at → IsProofsReading c mail reply at → older_than c (reading_of reply mail.sent) ≡ None → move_at sc c at ≡ move.Decide
        → RowTrusts sc facts place c (commits (with_gained c (gains_instances c (instances_with c (Some mail.sent) c.gathered))) 0)
    decided_read reply _ _ e (AfterQuery number) k none moves = let on = move_is sc c there.0 (point.Read number) move.Decide there.1 moves in absurd (cc)
    decided_read reply _ _ e AfterVotes k none moves =
        commits_trusts sc facts place c (gains_instances c (instances_with c (Some mail.sent) c.gathered)) 0 (reading_end sc facts place c c.phase point.VoteRead known.sound h.turn k.probing)
        (vote_read_commit sc facts place c mail reply valid h m e k none)

    decided : (at : Point) (now : Gained) (rounds : ℕ) → IsPassed sc c mail at now rounds → move_at sc c at ≡ move.Decide → RowTrusts sc facts place c (commits (with_gained c now) rounds)
    decided _ _ _ (QueryRan done server asked value proof k) e = absurd (run_decides_none there.0.scheme (reads_master sc there.0) (move_is sc c there.0 (point.Ran done.query) move.Decide there.1 e))
    decided _ _ _ (ProofsRead reply at k none) e = decided_read reply c.phase at refl k.probing k none e
    decided _ _ _ (AllTrue (span.Validate number) round staple reading k) e = let on = move_is sc c there.0 (point.Validated number) move.Decide there.1 e in absurd (cc)
    decided _ _ _ (AllTrue span.Commit round staple reading k) e = committed_trusts sc facts place c round reading homes valid (judged_now span.Commit round staple reading k.is_judged) k.all_true
    decided _ _ _ (AllVoted reply awaited server verdicts y none) e =
        commits_trusts sc facts place c (gains_instances c c.instances) 0 (voted_low sc facts place c awaited h y.voting) (voted_commit sc facts place c awaited h y.voting e)

-- ---- Submit

unsent_trusts : (sc : Scenario) (facts : List Fact) (place age : ℕ) (c : Coordinator) → CoordinatorFits sc facts place c → RowTrusts sc facts place c (with_age (ignores c) age)
unsent_trusts sc facts place age c h =
    record {
      fits = record { awaits = h.awaits; suits = h.suits; so_far = h.so_far; above = h.above; made_after = h.made_after; turn = h.turn };
      decides = tt;
      says = λ sent. tt;
      timely = λ sent. tt;
      old = λ sent turn said t unsure. record { past = (t unsure).past; now = λ same. now_placed sent said ((t unsure).now same) };
    }
  where
    now_placed : (sent : ℕ) (said : Body) → Now sc c sent said → Now sc (coordinator_with_age c age) sent said
    now_placed sent (body.Query q) k = k
    now_placed sent (body.Done done) k = k
    now_placed sent (body.Tell tell) k = k
    now_placed sent (body.Validate v) k = k
    now_placed sent (body.Verdicts reply) k = k
    now_placed sent (body.Prepare p) k = k
    now_placed sent (body.Vote reply) k = k
    now_placed sent (body.Newest reply) k = k
    now_placed sent _ k = tt

-- no query has a pin before the first has run
first_fits : (sc : Scenario) (facts : List Fact) (place : ℕ) (c : Coordinator) (server : ServerId) → AreSoFar sc facts place c.txn (phase.Querying 1 None) c.instances c.gathered → QueryFits sc facts place (query_request sc c (next_turn c) server 1 None)
first_fits sc facts place c server so_far = by_txn (slice_get sc.txns c.txn.0) refl
  where
    pin_of_none : (pin : Option Version) → admin_asked sc c.txn 1 ≡ None → IfSome pin (λ (one : Version). IfSome (admin_asked sc c.txn 1) (λ (admin : AdminId). IsPublished sc facts place (admin, one)))
    pin_of_none None none = tt
    pin_of_none (Some pin) none = subst (λ (a : Option AdminId). IfSome a (λ (admin : AdminId). IsPublished sc facts place (admin, pin))) (sym none) tt

    by_txn : (found : Option Transaction) → slice_get sc.txns c.txn.0 ≡ found → QueryFits sc facts place (query_request sc c (next_turn c) server 1 None)
    by_txn (Some declared) e = query_fits sc facts place c declared (next_turn c) 1 server None e (so_far declared e).right tt
    by_txn None e = record { stapled = tt; pinned = pin_of_none (pin_for sc c 1) (ap (λ (d : Option Transaction). option_and_then (admin_of_query sc) (option_and_then (λ (t : Transaction). query_at t 1) d)) e) }

sent_trusts : (sc : Scenario) (facts : List Fact) (place age : ℕ) (c : Coordinator) (server : ServerId) → CoordinatorFits sc facts place c → c.phase ≡ phase.Idle → IsSubmitted facts c.txn
    → move_at sc c (point.Begun 1) ≡ move.SendQuery → RowTrusts sc facts place c (with_age (sends_query sc c 1 None server) age)
sent_trusts sc facts place age c server h e submitted moves =
    let low : c.turn ≤ 0 = turn_low sc facts place c phase.Idle h e in
    let rises : next_turn c ≡ c.turn + 1 = turn_rises c (omega (arith, low)) in
    let undecided : is_undecided c.phase ≡ true = ap is_undecided e in
    let awaited = phase.Querying 1 None in
    let so_far : AreSoFar sc facts place c.txn awaited c.instances c.gathered =
    moved_on sc facts place c.txn phase.Idle awaited c.instances c.gathered (λ queries. refl) (λ queries. refl) (subst (λ (p : Phase). AreSoFar sc facts place c.txn p c.instances c.gathered) e (h.so_far undecided)) in
    record {
      fits = record {
        awaits = (submitted, tt);
        suits = λ declared found. sym (unproved sc c declared 1 found moves);
        so_far = λ unsure. so_far;
        above = λ unsure. h.above undecided;
        made_after = tt;
        turn = omega (arith, rises, first_move c.turn low);
      };
      decides = tt;
      says = λ sent. (first_fits sc facts place c server so_far, tt);
      timely = λ sent. (record { own = refl; timely = λ unsure. record { past = omega arith; now = λ same. record { query = refl; staple_is = refl; pin_is = refl } } }, tt);
      old = λ sent turn said t. raised sc c (with_age (sends_query sc c 1 None server) age).state sent turn said undecided rises t;
    }

-- or the authority is asked first
asked_trusts : (sc : Scenario) (facts : List Fact) (place age : ℕ) (c : Coordinator) → CoordinatorFits sc facts place c → c.phase ≡ phase.Idle → IsSubmitted facts c.txn → move_at sc c (point.Begun 1) ≡ move.Ask
    → RowTrusts sc facts place c (with_age (asks_in c (phase.Stapling 1)) age)
asked_trusts sc facts place age c h e submitted moves =
    let low : c.turn ≤ 0 = turn_low sc facts place c phase.Idle h e in
    let rises : next_turn c ≡ c.turn + 1 = turn_rises c (omega (arith, low)) in
    let undecided : is_undecided c.phase ≡ true = ap is_undecided e in
    record {
      fits = record {
        awaits = submitted;
        suits = λ declared found. proved sc c declared 1 found moves;
        so_far = λ unsure.
            moved_on sc facts place c.txn phase.Idle (phase.Stapling 1) c.instances c.gathered (λ queries. refl) (λ queries. refl) (subst (λ (p : Phase). AreSoFar sc facts place c.txn p c.instances c.gathered) e (h.so_far undecided));
        above = λ unsure. h.above undecided;
        made_after = tt;
        turn = omega (arith, rises, low);
      };
      decides = tt;
      says = λ sent. (submitted, tt);
      timely = λ sent. (record { own = refl; timely = λ unsure. record { past = omega arith; now = λ same. tt } }, tt);
      old = λ sent turn said t. raised sc c (with_age (asks_in c (phase.Stapling 1)) age).state sent turn said undecided rises t;
    }

-- the submission of a transaction, among facts that tell of it
pub submit_row_trusts : (sc : Scenario) (facts : List Fact) (place age : ℕ) (c : Coordinator) → CoordinatorFits sc facts place c → is_begun c.phase ≡ false → IsSubmitted facts c.txn
    → RowTrusts sc facts place c (with_age (submit_row sc c) age)
submit_row_trusts sc facts place age c h b submitted =
    submit_by sc c (λ (effect : Effect Coordinator). RowTrusts sc facts place c (with_age effect age))
    (record {
      ignored = unsent_trusts sc facts place age c h;
      sent = λ server moves home. sent_trusts sc facts place age c server h (idle_is c.phase b) submitted moves;
      asked = λ moves. asked_trusts sc facts place age c h (idle_is c.phase b) submitted moves;
    })

-- ---- timers

-- a query that is sent again has its staple and its pin still
again_fits : (sc : Scenario) (facts : List Fact) (place : ℕ) (c : Coordinator) (number : ℕ) (staple : Option Staple) (server : ServerId) → CoordinatorFits sc facts place c → c.phase ≡ phase.Querying number staple → home_of sc c number ≡ Some server
    → QueryFits sc facts place (query_request sc c c.turn server number staple)
again_fits sc facts place c number staple server h querying home =
    let at = home_is sc c number server home in
    let there = query_declared sc c.txn number at.asked at.asked_is in
    query_fits sc facts place c there.0 c.turn number server staple there.1 (h.so_far (ap is_undecided querying) there.0 there.1).right (phase_fits sc facts place c (phase.Querying number staple) h querying).1

probing_submitted : (sc : Scenario) (facts : List Fact) (place : ℕ) (c : Coordinator) (awaited : Phase) (at : Point) → PhaseFits sc facts place c.txn awaited → IsProbing awaited at → IsSubmitted facts c.txn
probing_submitted sc facts place c _ _ fits (AfterQuery number) = fits
probing_submitted sc facts place c _ _ fits AfterVotes = fits

-- a request that is sent again fits, as it did before
pub repeats_fit : (sc : Scenario) (facts : List Fact) (place sent : ℕ) (c : Coordinator) → CoordinatorFits sc facts place c → Each (λ (letter : Letter). BodyFits sc facts place sent letter.body) (repeats sc c c.phase)
repeats_fit sc facts place sent c h =
    timer_by sc c (Each (λ (letter : Letter). BodyFits sc facts place sent letter.body))
    (record {
      silent = tt;
      stapled = λ number stapling. (phase_fits sc facts place c (phase.Stapling number) h stapling, tt);
      queried = λ number staple server querying home. (again_fits sc facts place c number staple server h querying home, tt);
      probed = λ at probing. (probing_submitted sc facts place c c.phase at h.awaits probing, tt);
      asked = λ over round asking. ((phase_fits sc facts place c (phase.Asking over round) h asking).0, tt);
      prepared = λ over round staple checking.
          let f = phase_fits sc facts place c (phase.Checking over round staple) h checking in
          round_letters_fit sc facts place sent c over c.turn round staple (missing_in round.targets) f.2 f.1;
      voted = λ awaited voting_for. vote_letters_fit sc facts place sent c c.turn awaited;
      read = λ over round reading. ((phase_fits sc facts place c (phase.Reading over round) h reading).0, tt);
      ordered = λ ended awaited ending. orders_fit sc facts place sent c ended awaited;
    })

-- a query that is asked again is that of the phase
query_again_now : (sc : Scenario) (c : Coordinator) (number : ℕ) (staple : Option Staple) (server : ServerId) → c.phase ≡ phase.Querying number staple → QueryNow sc c c.phase (query_request sc c c.turn server number staple)
query_again_now sc c number staple server querying =
    subst (λ (awaited : Phase). QueryNow sc c awaited (query_request sc c c.turn server number staple)) (sym querying) (record { query = refl; staple_is = refl; pin_is = refl })

-- what is sent again is of the coordinator's present turn
pub repeats_timely : (sc : Scenario) (facts : List Fact) (place sent : ℕ) (c : Coordinator) → CoordinatorFits sc facts place c → Each (LetterOfTurn sc c.txn (Some c) sent) (repeats sc c c.phase)
repeats_timely sc facts place sent c h =
    timer_by sc c (Each (LetterOfTurn sc c.txn (Some c) sent))
    (record {
      silent = tt;
      stapled = λ number stapling. (record { own = refl; timely = λ unsure. record { past = omega arith; now = λ same. tt } }, tt);
      queried = λ number staple server querying home.
          (record { own = refl; timely = λ unsure. record { past = omega arith; now = λ same. query_again_now sc c number staple server querying } }, tt);
      probed = λ at probing. (record { own = refl; timely = λ unsure. record { past = omega arith; now = λ same. tt } }, tt);
      asked = λ over round asking. (record { own = refl; timely = λ unsure. record { past = omega arith; now = λ same. tt } }, tt);
      prepared = λ over round staple checking.
          round_letters_timely sc c c over round staple sent (missing_in round.targets) checking
          (round_wants sc facts place c.txn over round (phase_fits sc facts place c (phase.Checking over round staple) h checking).1);
      read = λ over round reading. (record { own = refl; timely = λ unsure. record { past = omega arith; now = λ same. tt } }, tt);
      voted = λ awaited voting_for. vote_letters_timely sc c c awaited sent awaited voting_for;
      ordered = λ ended awaited ending. orders_timely sc c (Some c) sent ended awaited;
    })
