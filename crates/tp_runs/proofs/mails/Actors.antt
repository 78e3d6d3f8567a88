-- How many letters an act sends, the rows: a server sends one, and one for each query that waited and runs; and a coordinator one, or one to each of its servers or of those that it awaits.
use Rattle.std.proofs.Common.{List, None, Option, Some, [], ap, arith, false, filter, is_some, length, map, not, refl, slice_get, slice_set, subst, suc, zero, ℕ, ℤ, ⊎_elim, ◌+◌, ◌==◌, ◌∙◌, ◌∷◌, ◌≡◌, ◌≤◌}
use Rattle.std.proofs.lemmas.List.{length-map, length_push}
use Rattle.std.specs.Option.{option_flatten}
use Rattle.tp_types.proofs.EachLemmas.{by_cond}
use Rattle.tp_types.specs.Effect.{Effect}
use Rattle.tp_model.specs.Deeds.{deed_of}
use Rattle.tp_model.specs.Words.{Letter, Mail, Outcome, Query, QueryRequest, Reading, Scenario, ServerId, Staple, Verdict}
use Rattle.tp_model.specs.Words.answer
use Rattle.tp_model.specs.Words.body
use Rattle.tp_model.specs.Words.outcome
use Rattle.tp_coord.proofs.Rows.{ByReading, ByReplies, IsJudged, IsReply, coordinator_by, submit_by, timer_by, with_gained}
use Rattle.tp_coord.specs.Row as coord
use Rattle.tp_coord.specs.State.{Coordinator}
use Rattle.tp_coord.specs.declared.coordinator.Phase.{Phase}
use Rattle.tp_coord.specs.declared.coordinator.Phase.TheVariants as phase
use Rattle.tp_coord.specs.declared.coordinator.Span.{Span}
use Rattle.tp_machine.specs.Machine.{with_age}
use Rattle.tp_round.specs.Judge.{after_judgement, after_reply, aim_in, awaits, is_missing, judge, new_target, next_target, server_of_target, with_reply}
use Rattle.tp_round.specs.declared.round.Judged.TheVariants as judged
use Rattle.tp_round.specs.declared.round.Round.{Round}
use Rattle.tp_round.specs.declared.round.Target.{Target}
use Rattle.tp_round.specs.declared.round.Wanted.{Wanted}
use Rattle.tp_scheme.specs.declared.moves.Point.{Point}
use Rattle.tp_scheme.specs.declared.moves.Point.TheVariants as point
use Rattle.tp_server.proofs.Rows.{AreRightWaits, IsAsking, IsFirstHere, IsFurther, server_by, unwaiting}
use Rattle.tp_server.specs.Row as server
use Rattle.tp_server.specs.State.{Server}
use Rattle.tp_server.specs.Verdicts.{with_wants}
use Rattle.tp_server.specs.declared.server.Entry.{Entry}
use Rattle.tp_runs.proofs.basics.Passed.{reply_checking}
use Rattle.tp_runs.proofs.basics.Rounds.{missing_in, updated_is}
use Rattle.tp_runs.proofs.basics.Servers.{fewer_left, servers_upto_few}

-- ---- a server's rows

-- one for a query that waits
abbrev pub one_for : Option QueryRequest → ℕ
one_for None = 0
one_for (Some q) = 1

-- so for an entry
abbrev pub waits_at : Option Entry → ℕ
waits_at None = 0
waits_at (Some entry) = one_for entry.waiting

-- how many queries wait at the entries
abbrev pub waits_in : List (Option Entry) → ℕ
waits_in [] = 0
waits_in (entry ∷ entries) = waits_at entry + waits_in entries

-- one entry changes
waits_set : (entries : List (Option Entry)) (n : ℕ) (entry : Option Entry) → waits_in (slice_set entries n entry) + waits_at (option_flatten (slice_get entries n)) ≤ waits_in entries + waits_at entry
waits_set [] n entry = omega arith
waits_set (first ∷ entries) zero entry =
    let now : waits_in (slice_set (first ∷ entries) zero entry) ≡ waits_at entry + waits_in entries = refl in
    let was : waits_at (option_flatten (slice_get (first ∷ entries) zero)) ≡ waits_at first = refl in
    omega (arith, now, was)
waits_set (first ∷ entries) (suc n) entry =
    let now : waits_in (slice_set (first ∷ entries) (suc n) entry) ≡ waits_at first + waits_in (slice_set entries n entry) = refl in
    let was : waits_at (option_flatten (slice_get (first ∷ entries) (suc n))) ≡ waits_at (option_flatten (slice_get entries n)) = refl in
    omega (arith, now, was, waits_set entries n entry)

-- an act of a server: for each query that ran and had waited there is one that waits no longer
abbrev pub ServerSends : Server → Effect Server → Type 0
ServerSends s effect = length effect.reaction.letters + waits_in effect.state.entries ≤ 1 + waits_in s.entries

-- no query waits at an entry that a further one asks at
idle_there : (sc : Scenario) (s : Server) (mail : Mail) (q : QueryRequest) (query : Query) (entry : Entry) (value : ℤ) → IsAsking sc s mail q query entry value → waits_at (Some entry) ≡ 0
idle_there sc s mail q query entry value k =
    ⊎_elim (λ (first : IsFirstHere s mail.sent q entry). ap (λ (e : Entry). waits_at (Some e)) first.entry_is)
    (λ (further : IsFurther s q entry). none entry.waiting further.idle) k.place
  where
    none : (waiting : Option QueryRequest) → is_some waiting ≡ false → one_for waiting ≡ 0
    none None e = refl
    none (Some r) e = absurd (cc)

-- one query waits at an entry at which one waits
one_waits : (entry : Entry) (q : QueryRequest) → entry.waiting ≡ Some q → waits_at (Some entry) ≡ 1
one_waits entry q e = ap one_for e

-- a server answers with one letter, or not at all; and what waited with one
pub server_row_sends : (sc : Scenario) (s : Server) (mail : Mail) → AreRightWaits sc s → ServerSends s (server.server_row sc s mail)
server_row_sends sc s mail waits =
    server_by sc s mail (ServerSends s) waits
    (record {
      relocked = λ effect locks k. k;
      relearnt = λ effect admin pin k. k;
      ignored = omega arith;
      ran = λ q query entry value proof k r.
          omega (arith, idle_there sc s mail q query entry value k, waits_set s.entries q.txn.0 (Some (server.entry_after q entry (deed_of q.query query value) proof)));
      denied = λ q query entry value verdict k d.
          omega (arith, idle_there sc s mail q query entry value k, waits_set s.entries q.txn.0 (Some (server.with_answer q entry (answer.Denied verdict))));
      outdated = λ q query entry value newer k found.
          omega (arith, idle_there sc s mail q query entry value k, waits_set s.entries q.txn.0 (Some (server.with_answer q entry (answer.Newer newer))));
      waited = λ q query entry value k. omega (arith, waits_set s.entries q.txn.0 (Some (record entry { waiting = Some q })));
      died = λ q query entry value other k dying.
          omega (arith, idle_there sc s mail q query entry value k, waits_set s.entries q.txn.0 (Some (server.with_answer q entry (answer.Died other))));
      restarted = λ q k. omega arith;
      answered = λ q entry given k. omega arith;
      voted = λ p entry verdicts k.
          let same : waits_at (server.entry_at s p.txn) ≡ waits_at (Some entry) = ap waits_at k.found in
          omega (arith, same, waits_set s.entries p.txn.0 (Some (record entry { ballot = Some (server.ballot_of (server.prepared_record (with_wants s p.want) p entry verdicts)) })));
      shown = λ v entry txn k. omega arith;
      lost_verdicts = λ v k. omega arith;
      voted_again = λ p entry cast k. omega arith;
      refused = λ p entry number value k. omega (arith, waits_set s.entries p.txn.0 None);
      lost = λ p k. omega (arith, waits_set s.entries p.txn.0 None);
      refused_again = λ p settled why k. omega arith;
      settled = λ d k. omega (arith, waits_set s.entries d.txn.0 None);
      acknowledged = λ d settled k. omega arith;
      pushed = λ push k. omega arith;
      resumed = λ effect grant q query entry value proof k r now.
          let was : waits_at (server.entry_at effect.state q.txn) ≡ waits_at (Some entry) = ap waits_at k.found in
          omega (
            arith,
            now,
            was,
            one_waits entry q k.waiting_is,
            waits_set effect.state.entries q.txn.0 (Some (server.entry_after q (unwaiting entry) (deed_of q.query query value) proof)),
            length_push effect.reaction.letters (server.reply_letter effect.state q (unwaiting entry) (server.ran_as (deed_of q.query query value) proof)),
          );
      resumed_denied = λ effect grant q query entry value verdict k d now.
          let was : waits_at (server.entry_at effect.state q.txn) ≡ waits_at (Some entry) = ap waits_at k.found in
          omega (
            arith,
            now,
            was,
            one_waits entry q k.waiting_is,
            waits_set effect.state.entries q.txn.0 (Some (server.with_answer q (unwaiting entry) (answer.Denied verdict))),
            length_push effect.reaction.letters (server.reply_letter effect.state q (unwaiting entry) (answer.Denied verdict)),
          );
      resumed_outdated = λ effect grant q query entry value newer k found now.
          let was : waits_at (server.entry_at effect.state q.txn) ≡ waits_at (Some entry) = ap waits_at k.found in
          omega (
            arith,
            now,
            was,
            one_waits entry q k.waiting_is,
            waits_set effect.state.entries q.txn.0 (Some (server.with_answer q (unwaiting entry) (answer.Newer newer))),
            length_push effect.reaction.letters (server.reply_letter effect.state q (unwaiting entry) (answer.Newer newer)),
          );
    })

-- ---- a coordinator's rows

-- how many servers a phase speaks of
abbrev pub spoken_of : Phase → ℕ
spoken_of (phase.Asking over round) = length round.targets
spoken_of (phase.Checking over round staple) = length round.targets
spoken_of (phase.Reading over round) = length round.targets
spoken_of (phase.Voting awaited) = length awaited
spoken_of (phase.Ending ended awaited) = length awaited
spoken_of _ = 0

-- a coordinator that speaks of at most so many servers
abbrev pub AwaitsFew : ℕ → Coordinator → Type 0
AwaitsFew most c = spoken_of c.phase ≤ most

-- an act of a coordinator: it awaits few servers still, and sends few letters
pub record SendsFew (most : ℕ) (effect : Effect Coordinator) : Type 0 where
  pub awaits : AwaitsFew most effect.state
  pub letters : length effect.reaction.letters ≤ most

-- fewer are awaited than before
without_few : (most : ℕ) (awaited : List ServerId) (at : ServerId) → length awaited ≤ most → length (coord.without awaited at) ≤ most
without_few most awaited at h = omega (arith, h, fewer_left (λ (other : ServerId). not (other.0 == at.0)) awaited)

-- of what a phase speaks
awaits_in : (most : ℕ) (c : Coordinator) (present : Phase) → AwaitsFew most c → c.phase ≡ present → spoken_of present ≤ most
awaits_in most c present h e = subst (λ (p : Phase). spoken_of p ≤ most) e h

-- a reply leaves as many servers
replied_length : (targets : List Target) (server : ServerId) (verdicts : List Verdict) → length (with_reply targets server verdicts) ≡ length targets
replied_length [] server verdicts = refl
replied_length (target ∷ targets) server verdicts =
    let later = replied_length targets server verdicts in
    by_cond (λ (ts : List Target). length ts ≡ length (target ∷ targets)) (awaits server target) (λ e. refl) (λ e. omega (arith, later))

-- so does an update
updated_length : (round : Round) (reading : Option Reading) (named : List Wanted) → judge round reading ≡ judged.Update named → length (after_judgement round reading).targets ≡ length round.targets
updated_length round reading named e = ap (λ (r : Round). length r.targets) (updated_is round reading named e) ∙ length-map round.targets (next_target (aim_in round reading))

-- of a round that awaits a reply
reply_few : (most : ℕ) (c : Coordinator) (mail : Mail) (over : Span) (round : Round) (staple : Staple) (server : ServerId) (verdicts : List Verdict) → AwaitsFew most c → IsReply c mail over round staple server verdicts
    → length (after_reply round server verdicts).targets ≤ most
reply_few most c mail over round staple server verdicts h y = omega (arith, awaits_in most c _ h (reply_checking c mail over round staple server verdicts y), replied_length round.targets server verdicts)

-- a round that is judged has as many servers as the one that was awaited
judged_few : (most : ℕ) (c : Coordinator) (mail : Mail) (over : Span) (round : Round) (staple : Option Staple) (reading : Option Reading) → AwaitsFew most c → IsJudged c mail over round staple reading → length round.targets ≤ most
judged_few most c mail _ _ _ _ h (ByReplies over round staple server verdicts y whole unread) = reply_few most c mail over round staple server verdicts h y
judged_few most c mail _ _ _ _ h (ByReading reply over round k) = awaits_in most c _ h k.reading

-- what the proofs so far are read after speaks of no server
none_spoken : (at : Point) → spoken_of (coord.probing_at at) ≡ 0
none_spoken (point.Begun number) = refl
none_spoken (point.Stapled number) = refl
none_spoken (point.Ran number) = refl
none_spoken (point.Read number) = refl
none_spoken (point.Validated number) = refl
none_spoken point.Voted = refl
none_spoken point.VoteRead = refl

-- the awaited servers of a round are some of its servers
missing_few : (targets : List Target) → length (missing_in targets) ≤ length targets
missing_few targets = omega (arith, length-map (filter is_missing targets) server_of_target, fewer_left is_missing targets)

-- the requests of a round go to those that it awaits
round_letters_few : (c : Coordinator) (over : Span) (turn : ℕ) (round : Round) (staple : Staple) → length (coord.round_letters c over turn round staple) ≤ length round.targets
round_letters_few c over turn round staple = omega (arith, missing_few round.targets, length-map (missing_in round.targets) (coord.round_letter c over turn round staple))

-- a decision is sent to all of the transaction's servers
decides_few : (most : ℕ) (c : Coordinator) (servers : List ServerId) (ended : Outcome) → length servers ≤ most
    → length (map (λ (at : ServerId). coord.request c at (body.Decide (record { txn = c.txn; outcome = ended }))) servers) ≤ most
decides_few most c servers ended h =
    omega (arith, h, length-map servers (λ (at : ServerId). coord.request c at (body.Decide (record { txn = c.txn; outcome = ended }))))

-- every row of a coordinator on receipt of a mail
pub coordinator_row_sends : (most : ℕ) (sc : Scenario) (c : Coordinator) (mail : Mail) → 1 ≤ most → length c.servers ≤ most → AwaitsFew most c → SendsFew most (coord.coordinator_row sc c mail)
coordinator_row_sends most sc c mail one servers h =
    coordinator_by sc c mail (SendsFew most)
    (record {
      ignored = record { awaits = h; letters = omega arith };
      stapled = λ tell query home k at. record { awaits = omega arith; letters = one };
      sends_query = λ at now rounds next passed moves home. record { awaits = omega arith; letters = one };
      asks_staple = λ at now rounds passed moves. record { awaits = omega arith; letters = one };
      probes_proofs = λ at now rounds passed moves. record { awaits = omega (arith, none_spoken at); letters = one };
      validates = λ at now rounds passed moves.
          let number = coord.number_at at in
          record { awaits = omega (arith, servers, length-map (coord.servers_upto sc c number) new_target, servers_upto_few sc c number); letters = one };
      commit_rounds = λ at now rounds passed moves. record { awaits = omega (arith, servers, length-map c.servers new_target); letters = one };
      asks_votes = λ at now rounds passed moves. record { awaits = servers; letters = omega (arith, servers, length-map c.servers (coord.vote_letter (with_gained c now) (coord.next_turn c))) };
      decides = λ at now rounds passed moves. record { awaits = servers; letters = decides_few most c c.servers outcome.Commit servers };
      aborted = λ why ended. record { awaits = servers; letters = decides_few most c c.servers outcome.Abort servers };
      told = λ tell over round k.
          let few = awaits_in most c _ h k.asking in
          record { awaits = few; letters = omega (arith, few, round_letters_few c over (coord.next_turn c) round (coord.staple_of tell mail.sent)) };
      counted = λ over round staple server verdicts y. record { awaits = reply_few most c mail over round staple server verdicts h y; letters = omega arith };
      probed = λ over round staple server verdicts y whole reads. record { awaits = reply_few most c mail over round staple server verdicts h y; letters = one };
      updated = λ over round staple reading named j e.
          record { awaits = omega (arith, judged_few most c mail over round staple reading h j, updated_length round reading named e); letters = one };
      voted = λ reply awaited server verdicts k. record { awaits = without_few most awaited server (awaits_in most c _ h k.voting); letters = omega arith };
      acknowledged = λ ack ended awaited server a. record { awaits = without_few most awaited server (awaits_in most c _ h a.ending); letters = omega arith };
      inquired = λ inquiry ended awaited server k. record { awaits = h; letters = one };
    })

-- the submission of a transaction
pub submit_row_sends : (most place : ℕ) (sc : Scenario) (c : Coordinator) → 1 ≤ most → AwaitsFew most c → SendsFew most (with_age (coord.submit_row sc c) place)
submit_row_sends most place sc c one h =
    submit_by sc c (λ (effect : Effect Coordinator). SendsFew most (with_age effect place))
    (record {
      ignored = record { awaits = h; letters = omega arith };
      sent = λ server begins home. record { awaits = omega arith; letters = one };
      asked = λ begins. record { awaits = omega arith; letters = one };
    })

-- a request that is sent again goes to those that are awaited at most
pub repeats_sends : (most : ℕ) (sc : Scenario) (c : Coordinator) → 1 ≤ most → AwaitsFew most c → length (coord.repeats sc c c.phase) ≤ most
repeats_sends most sc c one h =
    timer_by sc c (λ (letters : List Letter). length letters ≤ most)
    (record {
      silent = omega arith;
      stapled = λ number stapling. one;
      queried = λ number staple server querying home. one;
      asked = λ over round asking. one;
      prepared = λ over round staple checking.
          let few = awaits_in most c _ h checking in
          omega (arith, few, round_letters_few c over c.turn round staple);
      probed = λ at probing. one;
      read = λ over round reading. one;
      voted = λ awaited voting. omega (arith, awaits_in most c _ h voting, length-map awaited (coord.vote_letter c c.turn));
      ordered = λ ended awaited ending. decides_few most c awaited ended (awaits_in most c _ h ending);
    })
