-- A coordinator's rows are walked once, in two: what a mail did, which is a point that the transaction has passed or its end, and which
-- request follows. What is shown of each holds of the rows: a theorem shows once what holds at a point, and once that a move keeps it.
-- A new move is a field here, and of each theorem's cases; a new point is a constructor.
use Rattle.std.specs.List.{list_any}
use Rattle.std.proofs.Common.{Bool, List, None, Option, Some, [], ◌∷◌, ap, false, if◌then◌else◌, is_some, map, option_map, refl, subst, sym, true, ℕ, ℤ, ◌&&◌, ◌==◌, ◌∙◌, ◌≡◌}
use Rattle.std.proofs.lemmas.Bool.{and_parts}
use Rattle.std.proofs.lemmas.Option.{same_Some}
use Rattle.tp_types.specs.Effect.{Effect, ignores, sends}
use Rattle.tp_model.specs.Words.actor
use Rattle.tp_model.specs.Words.answer
use Rattle.tp_model.specs.Words.body
use Rattle.tp_model.specs.Words.cause
use Rattle.tp_model.specs.Words.no
use Rattle.tp_model.specs.Words.vote
use Rattle.tp_model.specs.Words.{AckReply, Actor, Answer, Body, Cause, Deed, DoneReply, InquireRequest, Instance, Letter, Mail, Met, Newer, NewestReply, No, Outcome, Query, Reading, Scenario, ServerId, Staple, TellReply, TxnId, Verdict, VerdictsReply, Vote, VoteReply}
use Rattle.tp_types.proofs.EachLemmas.{by_cond}
use Rattle.tp_coord.specs.Row.{aborts, ack_from, ask_letter, asks, asks_in, asks_votes, awaiting, awaits_query, awaits_verdicts, awaits_vote, begins, checks, closes, commit_round, commits, coordinator_row, decide_letters, denied_by, died_for, goes_by, goes_on, home_of, if_made, instances_with, is_among, is_from, is_made, makes, move_after, move_at, move_made, next_at, next_number, number_at, older_than, on_ack, on_all_true, on_answer, on_body, on_done_from, on_done_of_query, on_inquire, on_judged, on_no, on_older, on_plain_vote, on_proofs_read, on_reading, on_reply, on_round_read, on_staple, on_verdicts, on_verdicts_of, on_vote, on_vote_of, on_votes_left, own_query, phase_of, place_of, point_of, probe_letter, probes, probing_at, query_again, query_request, reading_of, refused_by, repeats, request, round_letters, sends_next, sends_query, server_of, staple_of, stays, submit_row, tells, validation_round, verdicts_at, vote_at, vote_letters, voting, with_deed, with_proof, without}
use Rattle.tp_coord.specs.State.{Coordinator}
use Rattle.tp_coord.specs.declared.coordinator.Phase.TheVariants as phase
use Rattle.tp_coord.specs.declared.coordinator.Phase.{Phase}
use Rattle.tp_coord.specs.declared.coordinator.Span.TheVariants as span
use Rattle.tp_coord.specs.declared.coordinator.Span.{Span}
use Rattle.tp_scheme.specs.declared.moves.Move.TheVariants as move
use Rattle.tp_scheme.specs.declared.moves.Point.TheVariants as point
use Rattle.tp_scheme.specs.declared.moves.Move.{Move}
use Rattle.tp_scheme.specs.declared.moves.Point.{Point}
use Rattle.tp_round.proofs.SpentLemmas.{unread_unspent}
use Rattle.tp_round.specs.Judge.{after_judgement, after_reply, is_awaited, is_missing, judge}
use Rattle.tp_round.specs.Replies.{by_query, proofs_in}
use Rattle.tp_round.specs.declared.round.Judged.TheVariants as judged
use Rattle.tp_round.specs.declared.round.Judged.{Judged}
use Rattle.tp_round.specs.declared.round.Round.{Round}
use Rattle.tp_round.specs.declared.round.Wanted.{Wanted}

-- ---- outcomes of a receipt

-- the awaited answer to a query
pub record IsAwaitedAnswer (sc : Scenario) (c : Coordinator) (mail : Mail) (done : DoneReply) (server : ServerId) (asked : Query) (given : Answer) : Type 0 where
  pub said_is : mail.letter.body ≡ body.Done done
  pub from_is : is_from mail.letter.from server ≡ true
  pub awaited : awaits_query c c.phase done ≡ true
  pub asked_is : own_query sc c done.query ≡ Some asked
  pub server_is : server_of sc asked ≡ Some server
  pub answer_is : done.answer ≡ given

-- that to one which ran, with its proof if it has one
abbrev pub IsRanAnswer : Scenario → Coordinator → Mail → DoneReply → ServerId → Query → ℤ → Option Verdict → Type 0
IsRanAnswer sc c mail done server asked value proof = IsAwaitedAnswer sc c mail done server asked (answer.Ran value proof)

-- the awaited answer of the authority, before a query
pub record IsStapleOfQuery (c : Coordinator) (mail : Mail) (tell : TellReply) (query : ℕ) : Type 0 where
  pub said_is : mail.letter.body ≡ body.Tell tell
  pub present : (tell.turn == c.turn) ≡ true
  pub stapling : c.phase ≡ phase.Stapling query

-- the awaited answer of the authority, before a round
pub record IsStaple (c : Coordinator) (mail : Mail) (tell : TellReply) (over : Span) (round : Round) : Type 0 where
  pub said_is : mail.letter.body ≡ body.Tell tell
  pub present : (tell.turn == c.turn) ≡ true
  pub asking : c.phase ≡ phase.Asking over round

-- an awaited vote YES
pub record IsYes (c : Coordinator) (mail : Mail) (reply : VoteReply) (round : Round) (staple : Staple) (server : ServerId) (verdicts : List Verdict) : Type 0 where
  pub said_is : mail.letter.body ≡ body.Vote reply
  pub from_is : mail.letter.from ≡ actor.Server server
  pub present : (reply.turn == c.turn) ≡ true
  pub checking : c.phase ≡ phase.Checking span.Commit round staple
  pub awaited : is_awaited round.targets server ≡ true
  pub vote_is : reply.vote ≡ vote.Yes verdicts

-- awaited verdicts on the queries so far
pub record IsShown (c : Coordinator) (mail : Mail) (reply : VerdictsReply) (number : ℕ) (round : Round) (staple : Staple) (server : ServerId) (verdicts : Option (List Verdict)) : Type 0 where
  pub said_is : mail.letter.body ≡ body.Verdicts reply
  pub from_is : mail.letter.from ≡ actor.Server server
  pub present : (reply.turn == c.turn) ≡ true
  pub checking : c.phase ≡ phase.Checking (span.Validate number) round staple
  pub awaited : is_awaited round.targets server ≡ true
  pub verdicts_are : reply.verdicts ≡ verdicts

-- a server's awaited reply in a round: a vote YES at commit, and verdicts in a round over the queries so far
pub data IsReply (c : Coordinator) (mail : Mail) : Span → Round → Staple → ServerId → List Verdict → Type 0 where
  ByVote : (reply : VoteReply) (round : Round) (staple : Staple) (server : ServerId) (verdicts : List Verdict) → IsYes c mail reply round staple server verdicts → IsReply c mail span.Commit round staple server verdicts
  ByVerdicts : (reply : VerdictsReply) (number : ℕ) (round : Round) (staple : Staple) (server : ServerId) (verdicts : List Verdict) → IsShown c mail reply number round staple server (Some verdicts)
      → IsReply c mail (span.Validate number) round staple server verdicts

-- an awaited vote YES that was asked for without an evaluation
pub record IsPlainYes (c : Coordinator) (mail : Mail) (reply : VoteReply) (awaited : List ServerId) (server : ServerId) (verdicts : List Verdict) : Type 0 where
  pub said_is : mail.letter.body ≡ body.Vote reply
  pub from_is : mail.letter.from ≡ actor.Server server
  pub present : (reply.turn == c.turn) ≡ true
  pub voting : c.phase ≡ phase.Voting awaited
  pub awaited_here : is_among awaited server ≡ true
  pub vote_is : reply.vote ≡ vote.Yes verdicts

-- an awaited vote NO
pub record IsNo (c : Coordinator) (mail : Mail) (reply : VoteReply) (server : ServerId) (why : No) : Type 0 where
  pub said_is : mail.letter.body ≡ body.Vote reply
  pub from_is : mail.letter.from ≡ actor.Server server
  pub present : (reply.turn == c.turn) ≡ true
  pub awaited : awaits_vote c.phase server ≡ true
  pub vote_is : reply.vote ≡ vote.No why

-- the awaited reading of the master, after all replies of a round
pub record IsReading (c : Coordinator) (mail : Mail) (reply : NewestReply) (over : Span) (round : Round) : Type 0 where
  pub said_is : mail.letter.body ≡ body.Newest reply
  pub present : (reply.turn == c.turn) ≡ true
  pub reading : c.phase ≡ phase.Reading over round

-- where the proofs so far are read: after a query, or after the votes
pub data IsProbing : Phase → Point → Type 0 where
  AfterQuery : (number : ℕ) → IsProbing (phase.Probing number) (point.Read number)
  AfterVotes : IsProbing phase.VoteProbing point.VoteRead

-- the awaited reading of the master for the proofs so far
pub record IsProofsReading (c : Coordinator) (mail : Mail) (reply : NewestReply) (at : Point) : Type 0 where
  pub said_is : mail.letter.body ≡ body.Newest reply
  pub present : (reply.turn == c.turn) ≡ true
  pub probing : IsProbing c.phase at

-- a round that is judged, which awaits this: where it reads no master by the last reply, and else by the reading
pub data IsJudged (c : Coordinator) (mail : Mail) : Span → Round → Option Staple → Option Reading → Type 0 where
  ByReplies : (over : Span) (round : Round) (staple : Staple) (server : ServerId) (verdicts : List Verdict) → IsReply c mail over round staple server verdicts
      → list_any is_missing (after_reply round server verdicts).targets ≡ false → (after_reply round server verdicts).reads ≡ false → IsJudged c mail over (after_reply round server verdicts) (Some staple) None
  ByReading : (reply : NewestReply) (over : Span) (round : Round) → IsReading c mail reply over round → IsJudged c mail over round None (Some (reading_of reply mail.sent))

-- an acknowledgement of what was decided
pub record IsAck (c : Coordinator) (mail : Mail) (ack : AckReply) (ended : Outcome) (awaited : List ServerId) (server : ServerId) : Type 0 where
  pub said_is : mail.letter.body ≡ body.Ack ack
  pub from_is : mail.letter.from ≡ actor.Server server
  pub ending : c.phase ≡ phase.Ending ended awaited

-- a server asks how the transaction was decided, which was decided so
pub record IsInquiry (c : Coordinator) (mail : Mail) (inquiry : InquireRequest) (ended : Outcome) (awaited : List ServerId) (server : ServerId) : Type 0 where
  pub said_is : mail.letter.body ≡ body.Inquire inquiry
  pub from_is : mail.letter.from ≡ actor.Server server
  pub ending : c.phase ≡ phase.Ending ended awaited

-- ---- points that are passed, and ends

-- what a mail adds to a coordinator; all else of it is as it was
pub record Gained : Type 0 where
  pub epochs : List (Option ℕ)
  pub deeds : List Deed
  pub gathered : List Verdict
  pub instances : List Instance

abbrev pub with_gained : Coordinator → Gained → Coordinator
with_gained c now = record c { epochs = now.epochs; deeds = now.deeds; gathered = now.gathered; instances = now.instances }

-- a query that ran adds its deed, the epoch of its server, and its proof if it has one, gathered or in an instance as its scheme asks
abbrev pub gains_deed : Scenario → Coordinator → ServerId → DoneReply → Query → ℤ → Option Verdict → Gained
gains_deed sc c server done asked value proof = record {
  epochs = (with_deed c server done asked value).epochs;
  deeds = (with_deed c server done asked value).deeds;
  gathered = (with_proof sc c proof).gathered;
  instances = (with_proof sc c proof).instances;
}

-- proofs that agree add an instance
abbrev pub gains_instances : Coordinator → List Instance → Gained
gains_instances c instances = record { epochs = c.epochs; deeds = c.deeds; gathered = c.gathered; instances = instances }

-- a round that is judged, all of whose proofs are true
pub record IsAllTrue (c : Coordinator) (mail : Mail) (over : Span) (round : Round) (staple : Option Staple) (reading : Option Reading) : Type 0 where
  pub is_judged : IsJudged c mail over round staple reading
  pub all_true : judge round reading ≡ judged.AllTrue

-- by the mail the transaction has passed a point, and gained this, after so many rounds where all have voted
pub data IsPassed (sc : Scenario) (c : Coordinator) (mail : Mail) : Point → Gained → ℕ → Type 0 where
  QueryRan : (done : DoneReply) (server : ServerId) (asked : Query) (value : ℤ) (proof : Option Verdict) → IsRanAnswer sc c mail done server asked value proof
      → IsPassed sc c mail (point.Ran done.query) (gains_deed sc c server done asked value proof) 0
  ProofsRead : (reply : NewestReply) (at : Point) → IsProofsReading c mail reply at → older_than c (reading_of reply mail.sent) ≡ None
      → IsPassed sc c mail at (gains_instances c (instances_with c (Some mail.sent) c.gathered)) 0
  AllTrue : (over : Span) (round : Round) (staple : Option Staple) (reading : Option Reading) → IsAllTrue c mail over round staple reading
      → IsPassed sc c mail (point_of over) (gains_instances c (instances_with c (option_map place_of reading) (by_query (proofs_in round.targets)))) round.number
  AllVoted : (reply : VoteReply) (awaited : List ServerId) (server : ServerId) (verdicts : List Verdict) → IsPlainYes c mail reply awaited server verdicts → without awaited server ≡ []
      → IsPassed sc c mail point.Voted (gains_instances c c.instances) 0

-- by the mail the transaction aborts, for this cause
pub data IsEnded (sc : Scenario) (c : Coordinator) (mail : Mail) : Cause → Type 0 where
  ByOlder : (done : DoneReply) (server : ServerId) (asked : Query) (other : TxnId) → IsAwaitedAnswer sc c mail done server asked (answer.Died other) → IsEnded sc c mail (cause.Died (died_for server done other mail.sent))
  ByRestart : (done : DoneReply) (server : ServerId) (asked : Query) → IsAwaitedAnswer sc c mail done server asked answer.Restarted → IsEnded sc c mail (cause.Restarted server)
  ByDenial : (done : DoneReply) (server : ServerId) (asked : Query) (verdict : Verdict) → IsAwaitedAnswer sc c mail done server asked (answer.Denied verdict) → IsEnded sc c mail (cause.Denied (denied_by verdict))
  ByNewer : (done : DoneReply) (server : ServerId) (asked : Query) (newer : Newer) → IsAwaitedAnswer sc c mail done server asked (answer.Newer newer) → IsEnded sc c mail (cause.Newer newer)
  ByNewest : (reply : NewestReply) (at : Point) (why : Cause) → IsProofsReading c mail reply at → older_than c (reading_of reply mail.sent) ≡ Some why → IsEnded sc c mail why
  ByProof : (over : Span) (round : Round) (staple : Option Staple) (reading : Option Reading) (verdict : Verdict) → IsJudged c mail over round staple reading → judge round reading ≡ judged.False verdict
      → IsEnded sc c mail (cause.Denied (denied_by verdict))
  ByRounds : (reply : NewestReply) (over : Span) (round : Round) (mets : List Met) → IsReading c mail reply over round → judge round (Some (reading_of reply mail.sent)) ≡ judged.Spent mets → IsEnded sc c mail (cause.Rounds mets)
  ByRefusal : (reply : VoteReply) (server : ServerId) (number : ℕ) (value : ℤ) → IsNo c mail reply server (no.Range number value) → IsEnded sc c mail (cause.No (refused_by server number value))
  ByLoss : (reply : VoteReply) (server : ServerId) → IsNo c mail reply server no.Restarted → IsEnded sc c mail (cause.Restarted server)
  ByLostVerdicts : (reply : VerdictsReply) (number : ℕ) (round : Round) (staple : Staple) (server : ServerId) → IsShown c mail reply number round staple server None → IsEnded sc c mail (cause.Restarted server)

-- what is to be shown of the outcomes of a receipt: P of the effect
pub record CoordinatorCases (sc : Scenario) (c : Coordinator) (mail : Mail) (P : Effect Coordinator → Type 0) : Type 0 where
  pub ignored : P (ignores c)
  pub stapled : (tell : TellReply) (query : ℕ) (home : ServerId) → IsStapleOfQuery c mail tell query → home_of sc c query ≡ Some home → P (sends_query sc c query (Some (staple_of tell mail.sent)) home)
  pub sends_query : (at : Point) (now : Gained) (rounds : ℕ) (next : ServerId) → IsPassed sc c mail at now rounds → move_after sc c at ≡ move.SendQuery → home_of sc c (next_at at) ≡ Some next
      → P (sends_query sc (with_gained c now) (next_at at) None next)
  pub asks_staple : (at : Point) (now : Gained) (rounds : ℕ) → IsPassed sc c mail at now rounds → move_after sc c at ≡ move.Ask → P (asks_in (with_gained c now) (phase.Stapling (next_at at)))
  pub probes_proofs : (at : Point) (now : Gained) (rounds : ℕ) → IsPassed sc c mail at now rounds → move_after sc c at ≡ move.Probe → P (probes (with_gained c now) (probing_at at))
  pub validates : (at : Point) (now : Gained) (rounds : ℕ) → IsPassed sc c mail at now rounds → move_after sc c at ≡ move.Validate
      → P (asks (with_gained c now) (span.Validate (number_at at)) (validation_round sc c (number_at at)))
  pub commit_rounds : (at : Point) (now : Gained) (rounds : ℕ) → IsPassed sc c mail at now rounds → move_after sc c at ≡ move.CommitRounds → P (asks (with_gained c now) span.Commit (commit_round sc c))
  pub asks_votes : (at : Point) (now : Gained) (rounds : ℕ) → IsPassed sc c mail at now rounds → move_after sc c at ≡ move.Votes → P (asks_votes (with_gained c now))
  pub decides : (at : Point) (now : Gained) (rounds : ℕ) → IsPassed sc c mail at now rounds → move_after sc c at ≡ move.Decide → P (commits (with_gained c now) rounds)
  pub aborted : (why : Cause) → IsEnded sc c mail why → P (aborts c why)
  pub told : (tell : TellReply) (over : Span) (round : Round) → IsStaple c mail tell over round → P (checks c over round (staple_of tell mail.sent))
  pub counted : (over : Span) (round : Round) (staple : Staple) (server : ServerId) (verdicts : List Verdict) → IsReply c mail over round staple server verdicts
      → P (stays c over (after_reply round server verdicts) (Some staple))
  pub probed : (over : Span) (round : Round) (staple : Staple) (server : ServerId) (verdicts : List Verdict) → IsReply c mail over round staple server verdicts
      → list_any is_missing (after_reply round server verdicts).targets ≡ false → (after_reply round server verdicts).reads ≡ true → P (probes c (phase.Reading over (after_reply round server verdicts)))
  pub updated : (over : Span) (round : Round) (staple : Option Staple) (reading : Option Reading) (named : List Wanted) → IsJudged c mail over round staple reading
      → judge round reading ≡ judged.Update named → P (asks c over (after_judgement round reading))
  pub voted : (reply : VoteReply) (awaited : List ServerId) (server : ServerId) (verdicts : List Verdict) → IsPlainYes c mail reply awaited server verdicts → P (sends (voting c (without awaited server)) [])
  pub acknowledged : (ack : AckReply) (ended : Outcome) (awaited : List ServerId) (server : ServerId) → IsAck c mail ack ended awaited server
      → P (sends (record c { phase = phase.Ending ended (without awaited server) }) [])
  pub inquired : (inquiry : InquireRequest) (ended : Outcome) (awaited : List ServerId) (server : ServerId) → IsInquiry c mail inquiry ended awaited server → P (sends c (decide_letters c ended (server ∷ [])))

-- ---- a point that is passed

-- the transaction goes on, from what it gained, whatever phase it stands in; where it does not, it stays as was shown
pub passed_by : (sc : Scenario) (c : Coordinator) (mail : Mail) (P : Effect Coordinator → Type 0) → CoordinatorCases sc c mail P → (was : Coordinator) (stood : Phase) (at : Point) (now : Gained) (rounds : ℕ)
    → IsPassed sc c mail at now rounds → move_made sc was at ≡ move_made sc c at → P (ignores was) → P (goes_on sc was (record (with_gained c now) { phase = stood }) at rounds)
passed_by sc c mail P cases was stood at now rounds k same unmade =
    subst (λ (next : Option Move). P (goes_by sc was (record (with_gained c now) { phase = stood }) at rounds next)) (sym same)
    (by_cond (λ (next : Option Move). P (goes_by sc was (record (with_gained c now) { phase = stood }) at rounds next)) (is_made sc c at (move_after sc c at)) (λ made. made_by (move_after sc c at) refl made) (λ not_made. unmade))
  where
    made_by : (next : Move) → move_after sc c at ≡ next → is_made sc c at next ≡ true → P (makes sc (record (with_gained c now) { phase = stood }) at rounds next)
    made_by move.SendQuery m made = sent_by (home_of sc c (next_at at)) refl made m
      where
        sent_by : (next : Option ServerId) → home_of sc c (next_at at) ≡ next → is_some next ≡ true → move_after sc c at ≡ move.SendQuery → P (sends_next sc (record (with_gained c now) { phase = stood }) (next_at at) None next)
        sent_by None e some moves = absurd (cc)
        sent_by (Some next) e some moves = cases.sends_query at now rounds next k moves e
    made_by move.Ask m made = cases.asks_staple at now rounds k m
    made_by move.Probe m made = cases.probes_proofs at now rounds k m
    made_by move.Validate m made = cases.validates at now rounds k m
    made_by move.CommitRounds m made = cases.commit_rounds at now rounds k m
    made_by move.Votes m made = cases.asks_votes at now rounds k m
    made_by move.Decide m made = cases.decides at now rounds k m
    made_by move.Following m made = absurd (cc)

-- ---- Done

on_answer_by : (sc : Scenario) (c : Coordinator) (mail : Mail) (P : Effect Coordinator → Type 0) → CoordinatorCases sc c mail P → (done : DoneReply) (server : ServerId) (asked : Query) (given : Answer)
    → IsAwaitedAnswer sc c mail done server asked given → P (on_answer sc c (record { sent = mail.sent; server = server; done = done; query = asked }) given)
on_answer_by sc c mail P cases done server asked (answer.Ran value proof) k =
    passed_by sc c mail P cases c c.phase (point.Ran done.query) (gains_deed sc c server done asked value proof) 0 (QueryRan done server asked value proof k) refl cases.ignored
on_answer_by sc c mail P cases done server asked (answer.Denied verdict) k = cases.aborted (cause.Denied (denied_by verdict)) (ByDenial done server asked verdict k)
on_answer_by sc c mail P cases done server asked (answer.Newer newer) k = cases.aborted (cause.Newer newer) (ByNewer done server asked newer k)
on_answer_by sc c mail P cases done server asked (answer.Died other) k = cases.aborted (cause.Died (died_for server done other mail.sent)) (ByOlder done server asked other k)
on_answer_by sc c mail P cases done server asked answer.Restarted k = cases.aborted (cause.Restarted server) (ByRestart done server asked k)

on_done_from_by : (sc : Scenario) (c : Coordinator) (mail : Mail) (P : Effect Coordinator → Type 0) → CoordinatorCases sc c mail P → (done : DoneReply) (asked : Query) (server : Option ServerId)
    → mail.letter.body ≡ body.Done done → awaits_query c c.phase done ≡ true → own_query sc c done.query ≡ Some asked → server_of sc asked ≡ server
    → P (on_done_from sc c mail.sent mail.letter.from done asked server)
on_done_from_by sc c mail P cases done asked None e awaited asked_is server_is = cases.ignored
on_done_from_by sc c mail P cases done asked (Some server) e awaited asked_is server_is =
    by_cond P (is_from mail.letter.from server)
    (λ from. on_answer_by sc c mail P cases done server asked done.answer
    (record { said_is = e; from_is = from; awaited = awaited; asked_is = asked_is; server_is = server_is; answer_is = refl }))
    (λ other. cases.ignored)

asked_by : (sc : Scenario) (c : Coordinator) (mail : Mail) (P : Effect Coordinator → Type 0) → CoordinatorCases sc c mail P → (done : DoneReply) (asked : Option Query)
    → mail.letter.body ≡ body.Done done → awaits_query c c.phase done ≡ true → own_query sc c done.query ≡ asked → P (on_done_of_query sc c mail.sent mail.letter.from done asked)
asked_by sc c mail P cases done None e awaited asked_is = cases.ignored
asked_by sc c mail P cases done (Some asked) e awaited asked_is = on_done_from_by sc c mail P cases done asked (server_of sc asked) e awaited asked_is refl

-- ---- Tell

stapled_by : (sc : Scenario) (c : Coordinator) (mail : Mail) (P : Effect Coordinator → Type 0) → CoordinatorCases sc c mail P → (tell : TellReply) (query : ℕ) (home : Option ServerId) → IsStapleOfQuery c mail tell query
    → home_of sc c query ≡ home → P (sends_next sc c query (Some (staple_of tell mail.sent)) home)
stapled_by sc c mail P cases tell query None k e = cases.ignored
stapled_by sc c mail P cases tell query (Some home) k e = cases.stapled tell query home k e

on_staple_by : (sc : Scenario) (c : Coordinator) (mail : Mail) (P : Effect Coordinator → Type 0) → CoordinatorCases sc c mail P → (tell : TellReply) (awaited : Phase) → mail.letter.body ≡ body.Tell tell
    → (tell.turn == c.turn) ≡ true → c.phase ≡ awaited → P (on_staple sc c awaited (staple_of tell mail.sent))
on_staple_by sc c mail P cases tell (phase.Stapling query) e present stapling =
    stapled_by sc c mail P cases tell query (home_of sc c query) (record { said_is = e; present = present; stapling = stapling }) refl
on_staple_by sc c mail P cases tell (phase.Asking over round) e present asking =
    cases.told tell over round (record { said_is = e; present = present; asking = asking })
on_staple_by sc c mail P cases tell _ e present asking = cases.ignored

-- ---- a reply in a round

-- a round that goes on to await what it awaits
stays_by : (sc : Scenario) (c : Coordinator) (mail : Mail) (P : Effect Coordinator → Type 0) → CoordinatorCases sc c mail P → (over : Span) (round : Round) (staple : Option Staple) (reading : Option Reading)
    → IsJudged c mail over round staple reading → P (stays c over round staple)
stays_by sc c mail P cases _ _ _ _ (ByReplies over before given server verdicts y missing unread) = cases.counted over before given server verdicts y
stays_by sc c mail P cases _ _ _ _ (ByReading reply over read k) = subst (λ (awaits : Phase). P (sends (record c { phase = awaits }) [])) k.reading cases.ignored

-- as many rounds as may be have met a newer version: a round that reads no master meets none
spent_by : (sc : Scenario) (c : Coordinator) (mail : Mail) (P : Effect Coordinator → Type 0) → CoordinatorCases sc c mail P → (over : Span) (round : Round) (staple : Option Staple) (reading : Option Reading)
    (mets : List Met) → IsJudged c mail over round staple reading → judge round reading ≡ judged.Spent mets → P (aborts c (cause.Rounds mets))
spent_by sc c mail P cases _ _ _ _ mets (ByReplies over before given server verdicts y missing unread) e = absurd (unread_unspent (after_reply before server verdicts) mets e)
spent_by sc c mail P cases _ _ _ _ mets (ByReading reply over read k) e = cases.aborted (cause.Rounds mets) (ByRounds reply over read mets k e)

all_true_by : (sc : Scenario) (c : Coordinator) (mail : Mail) (P : Effect Coordinator → Type 0) → CoordinatorCases sc c mail P → (over : Span) (round : Round) (staple : Option Staple) (reading : Option Reading)
    → IsJudged c mail over round staple reading → judge round reading ≡ judged.AllTrue → P (on_all_true sc (awaiting c over round staple) over round reading)
all_true_by sc c mail P cases over round staple reading j e =
    passed_by sc c mail P cases (awaiting c over round staple) (phase_of over round staple) (point_of over) (gains_instances c (instances_with c (option_map place_of reading) (by_query (proofs_in round.targets)))) round.number
    (AllTrue over round staple reading (record { is_judged = j; all_true = e })) refl (stays_by sc c mail P cases over round staple reading j)

judged_by : (sc : Scenario) (c : Coordinator) (mail : Mail) (P : Effect Coordinator → Type 0) → CoordinatorCases sc c mail P → (over : Span) (round : Round) (staple : Option Staple) (reading : Option Reading)
    (answer_is : Judged) → IsJudged c mail over round staple reading → judge round reading ≡ answer_is → P (on_judged sc c over round staple reading answer_is)
judged_by sc c mail P cases over round staple reading judged.Waiting j e = stays_by sc c mail P cases over round staple reading j
judged_by sc c mail P cases over round staple reading judged.AllTrue j e = all_true_by sc c mail P cases over round staple reading j e
judged_by sc c mail P cases over round staple reading (judged.False verdict) j e = cases.aborted (cause.Denied (denied_by verdict)) (ByProof over round staple reading verdict j e)
judged_by sc c mail P cases over round staple reading (judged.Spent mets) j e = spent_by sc c mail P cases over round staple reading mets j e
judged_by sc c mail P cases over round staple reading (judged.Update named) j e = cases.updated over round staple reading named j e

-- a reply more: others are awaited, or the master is read, or the round is judged
on_reply_by : (sc : Scenario) (c : Coordinator) (mail : Mail) (P : Effect Coordinator → Type 0) → CoordinatorCases sc c mail P → (over : Span) (round : Round) (staple : Staple) (server : ServerId)
    (verdicts : List Verdict) → IsReply c mail over round staple server verdicts → P (on_reply sc c over (after_reply round server verdicts) staple)
on_reply_by sc c mail P cases over round staple server verdicts y =
    let now = after_reply round server verdicts in
    by_cond P (list_any is_missing now.targets) (λ missing. cases.counted over round staple server verdicts y)
    (λ replied. by_cond P now.reads (λ reads. cases.probed over round staple server verdicts y replied reads)
    (λ unread. judged_by sc c mail P cases over now (Some staple) None (judge now None) (ByReplies over round staple server verdicts y replied unread) refl))

-- ---- Vote

on_no_by : (sc : Scenario) (c : Coordinator) (mail : Mail) (P : Effect Coordinator → Type 0) → CoordinatorCases sc c mail P → (reply : VoteReply) (server : ServerId) (why : No) → IsNo c mail reply server why → P (on_no c server why)
on_no_by sc c mail P cases reply server (no.Range number value) n = cases.aborted (cause.No (refused_by server number value)) (ByRefusal reply server number value n)
on_no_by sc c mail P cases reply server no.Restarted n = cases.aborted (cause.Restarted server) (ByLoss reply server n)

on_vote_of_by : (sc : Scenario) (c : Coordinator) (mail : Mail) (P : Effect Coordinator → Type 0) → CoordinatorCases sc c mail P → (reply : VoteReply) (round : Round) (staple : Staple) (server : ServerId) (said : Vote)
    → ((verdicts : List Verdict) → said ≡ vote.Yes verdicts → IsYes c mail reply round staple server verdicts)
    → ((why : No) → said ≡ vote.No why → IsNo c mail reply server why) → P (on_vote_of sc c span.Commit round staple server said)
on_vote_of_by sc c mail P cases reply round staple server (vote.Yes verdicts) y n =
    on_reply_by sc c mail P cases span.Commit round staple server verdicts (ByVote reply round staple server verdicts (y verdicts refl))
on_vote_of_by sc c mail P cases reply round staple server (vote.No why) y n =
    on_no_by sc c mail P cases reply server why (n why refl)

-- one more server has voted without an evaluation
left_by : (sc : Scenario) (c : Coordinator) (mail : Mail) (P : Effect Coordinator → Type 0) → CoordinatorCases sc c mail P → (reply : VoteReply) (awaited : List ServerId) (server : ServerId) (verdicts : List Verdict) (left : List ServerId)
    → IsPlainYes c mail reply awaited server verdicts → without awaited server ≡ left → P (on_votes_left sc c left)
left_by sc c mail P cases reply awaited server verdicts [] y e =
    let stays_so : P (sends (voting c []) []) = subst (λ (left : List ServerId). P (sends (voting c left) [])) e (cases.voted reply awaited server verdicts y) in
    passed_by sc c mail P cases (voting c []) (phase.Voting []) point.Voted (gains_instances c c.instances) 0 (AllVoted reply awaited server verdicts y e) refl stays_so
left_by sc c mail P cases reply awaited server verdicts (other ∷ left) y e = subst (λ (those : List ServerId). P (sends (voting c those) [])) e (cases.voted reply awaited server verdicts y)

plain_by : (sc : Scenario) (c : Coordinator) (mail : Mail) (P : Effect Coordinator → Type 0) → CoordinatorCases sc c mail P → (reply : VoteReply) (awaited : List ServerId) (server : ServerId) (said : Vote)
    → ((verdicts : List Verdict) → said ≡ vote.Yes verdicts → IsPlainYes c mail reply awaited server verdicts)
    → ((why : No) → said ≡ vote.No why → IsNo c mail reply server why) → P (on_plain_vote sc c awaited server said)
plain_by sc c mail P cases reply awaited server (vote.Yes verdicts) y n = left_by sc c mail P cases reply awaited server verdicts (without awaited server) (y verdicts refl) refl
plain_by sc c mail P cases reply awaited server (vote.No why) y n = on_no_by sc c mail P cases reply server why (n why refl)

vote_by_phase : (sc : Scenario) (c : Coordinator) (mail : Mail) (P : Effect Coordinator → Type 0) → CoordinatorCases sc c mail P → (reply : VoteReply) (awaited : Phase) (server : ServerId)
    → mail.letter.body ≡ body.Vote reply → mail.letter.from ≡ actor.Server server → (reply.turn == c.turn) ≡ true → c.phase ≡ awaited → awaits_vote awaited server ≡ true
    → P (vote_at sc c awaited server reply.vote)
vote_by_phase sc c mail P cases reply (phase.Checking span.Commit round staple) server e from present checking is_awaited_here =
    on_vote_of_by sc c mail P cases reply round staple server reply.vote
    (λ verdicts yes_is. record { said_is = e; from_is = from; present = present; checking = checking; awaited = is_awaited_here; vote_is = yes_is })
    (λ why no_is. record { said_is = e; from_is = from; present = present; awaited = ap (λ (p : Phase). awaits_vote p server) checking ∙ is_awaited_here; vote_is = no_is })
vote_by_phase sc c mail P cases reply (phase.Voting awaited) server e from present votes is_awaited_here =
    plain_by sc c mail P cases reply awaited server reply.vote
    (λ verdicts yes_is. record { said_is = e; from_is = from; present = present; voting = votes; awaited_here = is_awaited_here; vote_is = yes_is })
    (λ why no_is. record { said_is = e; from_is = from; present = present; awaited = ap (λ (p : Phase). awaits_vote p server) votes ∙ is_awaited_here; vote_is = no_is })
vote_by_phase sc c mail P cases reply _ server e from present checking is_awaited_here = cases.ignored

vote_by_sender : (sc : Scenario) (c : Coordinator) (mail : Mail) (P : Effect Coordinator → Type 0) → CoordinatorCases sc c mail P → (reply : VoteReply) (from : Actor)
    → mail.letter.body ≡ body.Vote reply → mail.letter.from ≡ from → P (on_vote sc c c.phase from reply)
vote_by_sender sc c mail P cases reply (actor.Server server) e from =
    by_cond P ((reply.turn == c.turn) && awaits_vote c.phase server)
    (λ now. let parts = and_parts (reply.turn == c.turn) (awaits_vote c.phase server) now in vote_by_phase sc c mail P cases reply c.phase server e from parts.0 refl parts.1)
    (λ other. cases.ignored)
vote_by_sender sc c mail P cases reply _ e from = cases.ignored

-- ---- Verdicts

verdicts_of_by : (sc : Scenario) (c : Coordinator) (mail : Mail) (P : Effect Coordinator → Type 0) → CoordinatorCases sc c mail P → (reply : VerdictsReply) (number : ℕ) (round : Round) (staple : Staple) (server : ServerId)
    (said : Option (List Verdict)) → IsShown c mail reply number round staple server said → P (on_verdicts_of sc c (span.Validate number) round staple server said)
verdicts_of_by sc c mail P cases reply number round staple server None k = cases.aborted (cause.Restarted server) (ByLostVerdicts reply number round staple server k)
verdicts_of_by sc c mail P cases reply number round staple server (Some verdicts) k =
    on_reply_by sc c mail P cases (span.Validate number) round staple server verdicts (ByVerdicts reply number round staple server verdicts k)

verdicts_by_phase : (sc : Scenario) (c : Coordinator) (mail : Mail) (P : Effect Coordinator → Type 0) → CoordinatorCases sc c mail P → (reply : VerdictsReply) (awaited : Phase) (server : ServerId)
    → mail.letter.body ≡ body.Verdicts reply → mail.letter.from ≡ actor.Server server → (reply.turn == c.turn) ≡ true → c.phase ≡ awaited → awaits_verdicts awaited server ≡ true
    → P (verdicts_at sc c awaited server reply.verdicts)
verdicts_by_phase sc c mail P cases reply (phase.Checking (span.Validate number) round staple) server e from present checking is_awaited_here =
    verdicts_of_by sc c mail P cases reply number round staple server reply.verdicts
    (record { said_is = e; from_is = from; present = present; checking = checking; awaited = is_awaited_here; verdicts_are = refl })
verdicts_by_phase sc c mail P cases reply _ server e from present checking is_awaited_here = cases.ignored

verdicts_by_sender : (sc : Scenario) (c : Coordinator) (mail : Mail) (P : Effect Coordinator → Type 0) → CoordinatorCases sc c mail P → (reply : VerdictsReply) (from : Actor)
    → mail.letter.body ≡ body.Verdicts reply → mail.letter.from ≡ from → P (on_verdicts sc c c.phase from reply)
verdicts_by_sender sc c mail P cases reply (actor.Server server) e from =
    by_cond P ((reply.turn == c.turn) && awaits_verdicts c.phase server)
    (λ now. let parts = and_parts (reply.turn == c.turn) (awaits_verdicts c.phase server) now in verdicts_by_phase sc c mail P cases reply c.phase server e from parts.0 refl parts.1)
    (λ other. cases.ignored)
verdicts_by_sender sc c mail P cases reply _ e from = cases.ignored

-- ---- Newest

older_by : (sc : Scenario) (c : Coordinator) (mail : Mail) (P : Effect Coordinator → Type 0) → CoordinatorCases sc c mail P → (reply : NewestReply) (at : Point) (found : Option Cause) → IsProofsReading c mail reply at
    → older_than c (reading_of reply mail.sent) ≡ found → P (on_older sc c at (reading_of reply mail.sent) found)
older_by sc c mail P cases reply at (Some why) k e = cases.aborted why (ByNewest reply at why k e)
older_by sc c mail P cases reply at None k e =
    passed_by sc c mail P cases c c.phase at (gains_instances c (instances_with c (Some mail.sent) c.gathered)) 0 (ProofsRead reply at k e) refl cases.ignored

on_reading_by : (sc : Scenario) (c : Coordinator) (mail : Mail) (P : Effect Coordinator → Type 0) → CoordinatorCases sc c mail P → (reply : NewestReply) (awaited : Phase) → mail.letter.body ≡ body.Newest reply
    → (reply.turn == c.turn) ≡ true → c.phase ≡ awaited → P (on_reading sc c awaited (reading_of reply mail.sent))
on_reading_by sc c mail P cases reply (phase.Reading over round) e present reading =
    let found = reading_of reply mail.sent in
    judged_by sc c mail P cases over round None (Some found) (judge round (Some found)) (ByReading reply over round (record { said_is = e; present = present; reading = reading })) refl
on_reading_by sc c mail P cases reply (phase.Probing number) e present probing =
    older_by sc c mail P cases reply (point.Read number) (older_than c (reading_of reply mail.sent))
    (record { said_is = e; present = present; probing = subst (λ (p : Phase). IsProbing p (point.Read number)) (sym probing) (AfterQuery number) }) refl
on_reading_by sc c mail P cases reply phase.VoteProbing e present probing =
    older_by sc c mail P cases reply point.VoteRead (older_than c (reading_of reply mail.sent))
    (record { said_is = e; present = present; probing = subst (λ (p : Phase). IsProbing p point.VoteRead) (sym probing) AfterVotes }) refl
on_reading_by sc c mail P cases reply _ e present reading = cases.ignored

-- ---- Ack

ack_by_sender : (sc : Scenario) (c : Coordinator) (mail : Mail) (P : Effect Coordinator → Type 0) → CoordinatorCases sc c mail P → (ack : AckReply) (ended : Outcome) (awaited : List ServerId) (from : Actor)
    → mail.letter.body ≡ body.Ack ack → mail.letter.from ≡ from → c.phase ≡ phase.Ending ended awaited → P (ack_from c ended awaited from)
ack_by_sender sc c mail P cases ack ended awaited (actor.Server server) e from ending = cases.acknowledged ack ended awaited server (record { said_is = e; from_is = from; ending = ending })
ack_by_sender sc c mail P cases ack ended awaited _ e from ending = cases.ignored

ack_by_phase : (sc : Scenario) (c : Coordinator) (mail : Mail) (P : Effect Coordinator → Type 0) → CoordinatorCases sc c mail P → (ack : AckReply) (awaited : Phase)
    → mail.letter.body ≡ body.Ack ack → c.phase ≡ awaited → P (on_ack c awaited mail.letter.from)
ack_by_phase sc c mail P cases ack (phase.Ending ended awaited) e ending = ack_by_sender sc c mail P cases ack ended awaited mail.letter.from e refl ending
ack_by_phase sc c mail P cases ack _ e ending = cases.ignored

-- ---- Inquire

inquiry_by_sender : (sc : Scenario) (c : Coordinator) (mail : Mail) (P : Effect Coordinator → Type 0) → CoordinatorCases sc c mail P → (inquiry : InquireRequest) (ended : Outcome) (awaited : List ServerId) (from : Actor)
    → mail.letter.body ≡ body.Inquire inquiry → mail.letter.from ≡ from → c.phase ≡ phase.Ending ended awaited → P (tells c ended from)
inquiry_by_sender sc c mail P cases inquiry ended awaited (actor.Server server) e from ending = cases.inquired inquiry ended awaited server (record { said_is = e; from_is = from; ending = ending })
inquiry_by_sender sc c mail P cases inquiry ended awaited _ e from ending = cases.ignored

inquiry_by_phase : (sc : Scenario) (c : Coordinator) (mail : Mail) (P : Effect Coordinator → Type 0) → CoordinatorCases sc c mail P → (inquiry : InquireRequest) (awaited : Phase)
    → mail.letter.body ≡ body.Inquire inquiry → c.phase ≡ awaited → P (on_inquire c awaited mail.letter.from)
inquiry_by_phase sc c mail P cases inquiry (phase.Ending ended awaited) e ending = inquiry_by_sender sc c mail P cases inquiry ended awaited mail.letter.from e refl ending
inquiry_by_phase sc c mail P cases inquiry _ e ending = cases.ignored

-- ---- all mails

said_by : (sc : Scenario) (c : Coordinator) (mail : Mail) (P : Effect Coordinator → Type 0) → CoordinatorCases sc c mail P → (said : Body) → mail.letter.body ≡ said
    → P (on_body sc c mail.sent mail.letter.from said)
said_by sc c mail P cases (body.Done done) e = by_cond P (awaits_query c c.phase done) (λ awaited. asked_by sc c mail P cases done (own_query sc c done.query) e awaited refl) (λ other. cases.ignored)
said_by sc c mail P cases (body.Tell tell) e = by_cond P (tell.turn == c.turn) (λ present. on_staple_by sc c mail P cases tell c.phase e present refl) (λ other. cases.ignored)
said_by sc c mail P cases (body.Vote reply) e = vote_by_sender sc c mail P cases reply mail.letter.from e refl
said_by sc c mail P cases (body.Verdicts reply) e = verdicts_by_sender sc c mail P cases reply mail.letter.from e refl
said_by sc c mail P cases (body.Newest reply) e = by_cond P (reply.turn == c.turn) (λ present. on_reading_by sc c mail P cases reply c.phase e present refl) (λ other. cases.ignored)
said_by sc c mail P cases (body.Ack ack) e = ack_by_phase sc c mail P cases ack c.phase e refl
said_by sc c mail P cases (body.Inquire inquiry) e = inquiry_by_phase sc c mail P cases inquiry c.phase e refl
said_by sc c mail P cases _ e = cases.ignored

-- what is shown of each outcome holds of the row
pub coordinator_by : (sc : Scenario) (c : Coordinator) (mail : Mail) (P : Effect Coordinator → Type 0) → CoordinatorCases sc c mail P → P (coordinator_row sc c mail)
coordinator_by sc c mail P cases = said_by sc c mail P cases mail.letter.body refl

-- ---- submission

-- what is to be shown of the outcomes of a submission
pub record SubmitCases (sc : Scenario) (c : Coordinator) (P : Effect Coordinator → Type 0) : Type 0 where
  pub ignored : P (ignores c)
  pub sent : (server : ServerId) → move_at sc c (point.Begun 1) ≡ move.SendQuery → home_of sc c 1 ≡ Some server → P (sends_query sc c 1 None server)
  pub asked : move_at sc c (point.Begun 1) ≡ move.Ask → P (asks_in c (phase.Stapling 1))

first_by : (sc : Scenario) (c : Coordinator) (P : Effect Coordinator → Type 0) → SubmitCases sc c P → (server : Option ServerId) → move_at sc c (point.Begun 1) ≡ move.SendQuery → home_of sc c 1 ≡ server
    → P (sends_next sc c 1 None server)
first_by sc c P cases None m e = cases.ignored
first_by sc c P cases (Some server) m e = cases.sent server m e

begins_by : (sc : Scenario) (c : Coordinator) (P : Effect Coordinator → Type 0) → SubmitCases sc c P → (first : Move) → move_at sc c (point.Begun 1) ≡ first → P (begins sc c first)
begins_by sc c P cases move.SendQuery m = first_by sc c P cases (home_of sc c 1) m refl
begins_by sc c P cases move.Ask m = cases.asked m
begins_by sc c P cases _ m = cases.ignored

pub submit_by : (sc : Scenario) (c : Coordinator) (P : Effect Coordinator → Type 0) → SubmitCases sc c P → P (submit_row sc c)
submit_by sc c P cases = begins_by sc c P cases (move_at sc c (point.Begun 1)) refl

-- ---- timers

-- what is to be shown of the letters of a timer, by the request that is outstanding
pub record TimerCases (sc : Scenario) (c : Coordinator) (P : List Letter → Type 0) : Type 0 where
  pub silent : P []
  pub stapled : (number : ℕ) → c.phase ≡ phase.Stapling number → P (ask_letter c c.turn ∷ [])
  pub queried : (number : ℕ) (staple : Option Staple) (server : ServerId) → c.phase ≡ phase.Querying number staple → home_of sc c number ≡ Some server
      → P (request c server (body.Query (query_request sc c c.turn server number staple)) ∷ [])
  pub probed : (at : Point) → IsProbing c.phase at → P (probe_letter c c.turn ∷ [])
  pub asked : (over : Span) (round : Round) → c.phase ≡ phase.Asking over round → P (ask_letter c c.turn ∷ [])
  pub prepared : (over : Span) (round : Round) (staple : Staple) → c.phase ≡ phase.Checking over round staple → P (round_letters c over c.turn round staple)
  pub read : (over : Span) (round : Round) → c.phase ≡ phase.Reading over round → P (probe_letter c c.turn ∷ [])
  pub voted : (awaited : List ServerId) → c.phase ≡ phase.Voting awaited → P (vote_letters c c.turn awaited)
  pub ordered : (ended : Outcome) (awaited : List ServerId) → c.phase ≡ phase.Ending ended awaited → P (decide_letters c ended awaited)

again_by : (sc : Scenario) (c : Coordinator) (P : List Letter → Type 0) → TimerCases sc c P → (number : ℕ) (staple : Option Staple) (server : Option ServerId) → c.phase ≡ phase.Querying number staple
    → home_of sc c number ≡ server → P (query_again sc c number staple server)
again_by sc c P cases number staple None querying home = cases.silent
again_by sc c P cases number staple (Some server) querying home = cases.queried number staple server querying home

repeats_by : (sc : Scenario) (c : Coordinator) (P : List Letter → Type 0) → TimerCases sc c P → (awaited : Phase) → c.phase ≡ awaited → P (repeats sc c awaited)
repeats_by sc c P cases phase.Idle e = cases.silent
repeats_by sc c P cases (phase.Stapling number) e = cases.stapled number e
repeats_by sc c P cases (phase.Querying number staple) e = again_by sc c P cases number staple (home_of sc c number) e refl
repeats_by sc c P cases (phase.Probing number) e = cases.probed (point.Read number) (subst (λ (p : Phase). IsProbing p (point.Read number)) (sym e) (AfterQuery number))
repeats_by sc c P cases (phase.Asking over round) e = cases.asked over round e
repeats_by sc c P cases (phase.Checking over round staple) e = cases.prepared over round staple e
repeats_by sc c P cases (phase.Reading over round) e = cases.read over round e
repeats_by sc c P cases (phase.Voting awaited) e = cases.voted awaited e
repeats_by sc c P cases phase.VoteProbing e = cases.probed point.VoteRead (subst (λ (p : Phase). IsProbing p point.VoteRead) (sym e) AfterVotes)
repeats_by sc c P cases (phase.Ending ended awaited) e = cases.ordered ended awaited e

pub timer_by : (sc : Scenario) (c : Coordinator) (P : List Letter → Type 0) → TimerCases sc c P → P (repeats sc c c.phase)
timer_by sc c P cases = repeats_by sc c P cases c.phase refl
