-- What a coordinator was at, where a mail passes a point, ends the transaction, or is a reply in a round.
use Rattle.std.proofs.Common.{List, Option, Some, ap, false, refl, replicate, sym, true, ℕ, ◌∙◌, ◌≡◌}
use Rattle.tp_model.specs.Limits.{admins_limit}
use Rattle.tp_model.specs.Words.{Cause, Mail, Newer, No, Query, Reading, Scenario, ServerId, Staple, Verdict, VoteReply}
use Rattle.tp_model.specs.Words.actor
use Rattle.tp_model.specs.Words.cause
use Rattle.tp_model.specs.Words.level
use Rattle.tp_coord.proofs.Rows.{AfterQuery, AfterVotes, AllTrue, AllVoted, ByDenial, ByLoss, ByLostVerdicts, ByNewer, ByNewest, ByOlder, ByProof, ByReading, ByRefusal, ByReplies, ByRestart, ByRounds, ByVerdicts, ByVote, Gained, IsEnded, IsJudged, IsNo, IsPassed, IsProbing, IsReply, ProofsRead, QueryRan}
use Rattle.tp_coord.specs.Row.{awaits_vote, number_at, older_than, own_query, point_of}
use Rattle.tp_coord.specs.State.{Coordinator}
use Rattle.tp_coord.specs.declared.coordinator.Phase.{Phase}
use Rattle.tp_coord.specs.declared.coordinator.Phase.TheVariants as phase
use Rattle.tp_coord.specs.declared.coordinator.Span.{Span}
use Rattle.tp_coord.specs.declared.coordinator.Span.TheVariants as span
use Rattle.tp_round.specs.declared.round.Round.{Round}
use Rattle.tp_scheme.proofs.BelowLemmas.{finds_the_first_below}
use Rattle.tp_scheme.specs.declared.moves.Point.{Point}
use Rattle.tp_scheme.specs.declared.moves.Point.TheVariants as point
use Rattle.tp_runs.proofs.basics.Homes.{is_of_query, is_past, is_ran, is_voted}
use Rattle.tp_runs.proofs.basics.Phases.{Asks, Prepares, awaits_is, is_running, is_undecided, running_undecided, stand_of, stand_over}

-- ---- a reply in a round

-- a reply is awaited in the round, with the staple that it was asked with
pub reply_checking : (c : Coordinator) (mail : Mail) (over : Span) (round : Round) (staple : Staple) (server : ServerId) (verdicts : List Verdict) → IsReply c mail over round staple server verdicts → c.phase ≡ phase.Checking over round staple
reply_checking c mail _ _ _ _ _ (ByVote reply round staple server verdicts y) = y.checking
reply_checking c mail _ _ _ _ _ (ByVerdicts reply number round staple server verdicts y) = y.checking

-- it is of the server
pub reply_from : (c : Coordinator) (mail : Mail) (over : Span) (round : Round) (staple : Staple) (server : ServerId) (verdicts : List Verdict) → IsReply c mail over round staple server verdicts → mail.letter.from ≡ actor.Server server
reply_from c mail _ _ _ _ _ (ByVote reply round staple server verdicts y) = y.from_is
reply_from c mail _ _ _ _ _ (ByVerdicts reply number round staple server verdicts y) = y.from_is

-- ---- points that are passed

-- a round leads to a point that comes after queries
pub round_past : (over : Span) → is_past (point_of over) ≡ true
round_past (span.Validate number) = refl
round_past span.Commit = refl

probing_past : (awaited : Phase) (at : Point) → IsProbing awaited at → is_past at ≡ true
probing_past _ _ (AfterQuery number) = refl
probing_past _ _ AfterVotes = refl

-- a point that is passed comes after queries
pub passed_past : (sc : Scenario) (c : Coordinator) (mail : Mail) (at : Point) (now : Gained) (rounds : ℕ) → IsPassed sc c mail at now rounds → is_past at ≡ true
passed_past sc c mail _ _ _ (QueryRan done server asked value proof k) = refl
passed_past sc c mail _ _ _ (ProofsRead reply at k none) = probing_past c.phase at k.probing
passed_past sc c mail _ _ _ (AllTrue over round staple reading k) = round_past over
passed_past sc c mail _ _ _ (AllVoted reply awaited server verdicts k left) = refl

read_not_ran : (awaited : Phase) (at : Point) → IsProbing awaited at → is_ran at ≡ true → ⊥
read_not_ran _ _ (AfterQuery number) e = cc
read_not_ran _ _ AfterVotes e = cc

round_not_ran : (over : Span) → is_ran (point_of over) ≡ true → ⊥
round_not_ran (span.Validate number) e = cc
round_not_ran span.Commit e = cc

-- where a query ran, there is such a query
pub ran_there : (sc : Scenario) (c : Coordinator) (mail : Mail) (at : Point) (now : Gained) (rounds : ℕ) → IsPassed sc c mail at now rounds → is_ran at ≡ true → (asked : Query) × (own_query sc c (number_at at) ≡ Some asked)
ran_there sc c mail _ _ _ (QueryRan done server asked value proof k) e = (asked, k.asked_is)
ran_there sc c mail _ _ _ (ProofsRead reply at k none) e = absurd (read_not_ran c.phase at k.probing e)
ran_there sc c mail _ _ _ (AllTrue over round staple reading k) e = absurd (round_not_ran over e)
ran_there sc c mail _ _ _ (AllVoted reply awaited server verdicts k left) e = absurd (cc)

-- ---- what is gained, and where the coordinator stood

-- only a query that ran adds a deed
pub deeds_kept : (sc : Scenario) (c : Coordinator) (mail : Mail) (at : Point) (now : Gained) (rounds : ℕ) → IsPassed sc c mail at now rounds → is_ran at ≡ false → now.deeds ≡ c.deeds
deeds_kept sc c mail _ _ _ (QueryRan done server asked value proof k) e = absurd (cc)
deeds_kept sc c mail _ _ _ (ProofsRead reply at k none) e = refl
deeds_kept sc c mail _ _ _ (AllTrue over round staple reading k) e = refl
deeds_kept sc c mail _ _ _ (AllVoted reply awaited server verdicts k left) e = refl

probing_stands : (awaited : Phase) (at : Point) → IsProbing awaited at → is_of_query at ≡ true → stand_of awaited ≡ Prepares → ⊥
probing_stands _ _ (AfterQuery number) e prepares = cc
probing_stands _ _ AfterVotes e prepares = cc

validating_stands : (over : Span) → is_of_query (point_of over) ≡ true → stand_over over ≡ Prepares → ⊥
validating_stands (span.Validate number) e prepares = cc
validating_stands span.Commit e prepares = cc

-- where a round is judged, it stands as the round does
pub judged_stands : (c : Coordinator) (mail : Mail) (over : Span) (round : Round) (staple : Option Staple) (reading : Option Reading) → IsJudged c mail over round staple reading → stand_of c.phase ≡ stand_over over
judged_stands c mail _ _ _ _ (ByReplies over round staple server verdicts y whole unread) = ap stand_of (reply_checking c mail over round staple server verdicts y)
judged_stands c mail _ _ _ _ (ByReading reply over round k) = ap stand_of k.reading

-- at a point after a query it did not yet bring the servers to vote
pub query_stands : (sc : Scenario) (c : Coordinator) (mail : Mail) (at : Point) (now : Gained) (rounds : ℕ) → IsPassed sc c mail at now rounds → is_of_query at ≡ true → stand_of c.phase ≡ Prepares → ⊥
query_stands sc c mail _ _ _ (QueryRan done server asked value proof k) e prepares = let stands : stand_of c.phase ≡ Asks = ap stand_of (awaits_is c c.phase done k.awaited).1 in cc
query_stands sc c mail _ _ _ (ProofsRead reply at k none) e prepares = probing_stands c.phase at k.probing e prepares
query_stands sc c mail _ _ _ (AllTrue over round staple reading k) e prepares = validating_stands over e (sym (judged_stands c mail over round staple reading k.is_judged) ∙ prepares)
query_stands sc c mail _ _ _ (AllVoted reply awaited server verdicts k left) e prepares = cc

voting_stands : (awaited : Phase) (at : Point) → IsProbing awaited at → is_voted at ≡ true → stand_of awaited ≡ Prepares
voting_stands _ _ (AfterQuery number) e = absurd (cc)
voting_stands _ _ AfterVotes e = refl

spanning_stands : (over : Span) → is_voted (point_of over) ≡ true → stand_over over ≡ Prepares
spanning_stands (span.Validate number) e = absurd (cc)
spanning_stands span.Commit e = refl

-- at one after the votes it did
pub voted_stands : (sc : Scenario) (c : Coordinator) (mail : Mail) (at : Point) (now : Gained) (rounds : ℕ) → IsPassed sc c mail at now rounds → is_voted at ≡ true → stand_of c.phase ≡ Prepares
voted_stands sc c mail _ _ _ (QueryRan done server asked value proof k) e = absurd (cc)
voted_stands sc c mail _ _ _ (ProofsRead reply at k none) e = voting_stands c.phase at k.probing e
voted_stands sc c mail _ _ _ (AllTrue over round staple reading k) e = judged_stands c mail over round staple reading k.is_judged ∙ spanning_stands over e
voted_stands sc c mail _ _ _ (AllVoted reply awaited server verdicts k left) e = ap stand_of k.voting

-- no query ran there
pub voted_not_ran : (at : Point) → is_voted at ≡ true → is_ran at ≡ false
voted_not_ran (point.Ran number) e = absurd (cc)
voted_not_ran (point.Begun number) e = refl
voted_not_ran (point.Stapled number) e = refl
voted_not_ran (point.Read number) e = refl
voted_not_ran (point.Validated number) e = refl
voted_not_ran point.Voted e = refl
voted_not_ran point.VoteRead e = refl

-- ---- a newer version

-- what a reading finds of the proofs so far is a newer version
pub read_newer : (c : Coordinator) (reading : Reading) (why : Cause) → older_than c reading ≡ Some why → (newer : Newer) × (why ≡ cause.Newer newer)
read_newer c reading why e = let found = finds_the_first_below (replicate admins_limit level.Global) c.gathered reading why e in (found.0, found.1)

-- ---- the transaction runs

probing_running : (awaited : Phase) (at : Point) → IsProbing awaited at → is_running awaited ≡ true
probing_running _ _ (AfterQuery number) = refl
probing_running _ _ AfterVotes = refl

-- where a round is judged
pub judged_running : (c : Coordinator) (mail : Mail) (over : Span) (round : Round) (staple : Option Staple) (reading : Option Reading) → IsJudged c mail over round staple reading → is_running c.phase ≡ true
judged_running c mail _ _ _ _ (ByReplies over round staple server verdicts y whole unread) = ap is_running (reply_checking c mail over round staple server verdicts y)
judged_running c mail _ _ _ _ (ByReading reply over round k) = ap is_running k.reading

-- where a point is passed
pub passed_running : (sc : Scenario) (c : Coordinator) (mail : Mail) (at : Point) (now : Gained) (rounds : ℕ) → IsPassed sc c mail at now rounds → is_running c.phase ≡ true
passed_running sc c mail _ _ _ (QueryRan done server asked value proof k) = ap is_running (awaits_is c c.phase done k.awaited).1
passed_running sc c mail _ _ _ (ProofsRead reply at k none) = probing_running c.phase at k.probing
passed_running sc c mail _ _ _ (AllTrue over round staple reading k) = judged_running c mail over round staple reading k.is_judged
passed_running sc c mail _ _ _ (AllVoted reply awaited server verdicts k left) = ap is_running k.voting

voting_running : (awaited : Phase) (server : ServerId) → awaits_vote awaited server ≡ true → is_running awaited ≡ true
voting_running (phase.Checking span.Commit round staple) server e = refl
voting_running (phase.Voting awaited) server e = refl
voting_running (phase.Checking (span.Validate number) round staple) server e = refl
voting_running (phase.Stapling number) server e = refl
voting_running (phase.Querying number staple) server e = refl
voting_running (phase.Probing number) server e = refl
voting_running (phase.Asking over round) server e = refl
voting_running (phase.Reading over round) server e = refl
voting_running phase.VoteProbing server e = refl
voting_running phase.Idle server e = absurd (cc)
voting_running (phase.Ending ended awaited) server e = absurd (cc)

-- where a vote NO is awaited
pub no_running : (c : Coordinator) (mail : Mail) (reply : VoteReply) (server : ServerId) (why : No) → IsNo c mail reply server why → is_running c.phase ≡ true
no_running c mail reply server why k = voting_running c.phase server k.awaited

-- and where the transaction ends
pub ended_running : (sc : Scenario) (c : Coordinator) (mail : Mail) (why : Cause) → IsEnded sc c mail why → is_running c.phase ≡ true
ended_running sc c mail _ (ByOlder done server asked other k) = ap is_running (awaits_is c c.phase done k.awaited).1
ended_running sc c mail _ (ByRestart done server asked k) = ap is_running (awaits_is c c.phase done k.awaited).1
ended_running sc c mail _ (ByDenial done server asked verdict k) = ap is_running (awaits_is c c.phase done k.awaited).1
ended_running sc c mail _ (ByNewer done server asked newer k) = ap is_running (awaits_is c c.phase done k.awaited).1
ended_running sc c mail _ (ByNewest reply at why k found) = probing_running c.phase at k.probing
ended_running sc c mail _ (ByProof over round staple reading verdict j e) = judged_running c mail over round staple reading j
ended_running sc c mail _ (ByRounds reply over round mets k e) = ap is_running k.reading
ended_running sc c mail _ (ByRefusal reply server number value k) = no_running c mail reply server _ k
ended_running sc c mail _ (ByLoss reply server k) = no_running c mail reply server _ k
ended_running sc c mail _ (ByLostVerdicts reply number round staple server k) = ap is_running k.checking

-- so it is not decided, where a point is passed
pub passed_undecided : (sc : Scenario) (c : Coordinator) (mail : Mail) (at : Point) (now : Gained) (rounds : ℕ) → IsPassed sc c mail at now rounds → is_undecided c.phase ≡ true
passed_undecided sc c mail at now rounds passed = running_undecided c.phase (passed_running sc c mail at now rounds passed)

-- where a round is judged
pub judged_undecided : (c : Coordinator) (mail : Mail) (over : Span) (round : Round) (staple : Option Staple) (reading : Option Reading) → IsJudged c mail over round staple reading → is_undecided c.phase ≡ true
judged_undecided c mail over round staple reading j = running_undecided c.phase (judged_running c mail over round staple reading j)
