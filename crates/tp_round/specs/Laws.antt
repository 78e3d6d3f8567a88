-- What follows from the judgement of rounds.
use Rattle.std.specs.Prelude.{◌≡◌, ℕ, ◌+◌, ◌&&◌, ◌||◌, ◌<◌, ◌≤◌, ◌==◌, List, [], ◌∷◌, ◌++◌, filter, length, map, Bool, true, false, not, nat_le, nat_lt, slice_get, Option, Some, None, option_to_list, if◌then◌else◌}
use Rattle.std.specs.List.{list_all, list_any, range_with_len}
use Rattle.std.specs.Option.{is_none}
use Rattle.tp_model.specs.Words.{AdminId, Level, Met, Reading, ServerId, Verdict, Version}
use Rattle.tp_model.specs.Demand.{query_of}
use Rattle.tp_model.specs.Ids.{same_admin, same_server}
use Rattle.tp_model.specs.Limits.{count_limit}
use Rattle.tp_model.specs.Versions.{is_one_version}
use Rattle.tp_model.specs.WantedVersions.{wanted_of}
use Rattle.tp_round.specs.declared.round.Judged.{Judged}
use Rattle.tp_round.specs.declared.round.Judged.TheVariants.{Waiting, AllTrue, False, Spent, Update}
use Rattle.tp_round.specs.declared.round.Round.{Round}
use Rattle.tp_round.specs.declared.round.Target.{Target}
use Rattle.tp_round.specs.declared.round.Wanted.{Wanted}
use Rattle.tp_round.specs.Judge.{after_judgement, after_reply, first_round, is_aimed, is_awaited, is_waiting, judge, met_in, newest_in, target}
use Rattle.tp_model.specs.Levels.{is_global_at}
use Rattle.tp_round.specs.Replies.{by_query, is_at_query, is_of, proofs_in, verdicts_in}

-- ---- what an update names

-- the target of an administrator in a round that is judged with this reading
abbrev pub target_in : Round → Option Reading → AdminId → ℕ
target_in round reading admin = target round.levels reading (proofs_in round.targets) admin

-- a proof of the server has another version than its administrator's target
abbrev pub is_behind : Round → Option Reading → Target → Bool
is_behind round reading server =
    list_any
    (λ (verdict : Verdict). not (target_in round reading verdict.admin == verdict.version.0))
    (verdicts_in server)

-- the server is named, and of it the target of each administrator is wanted of which it has a proof, and of no other
pub record IsNamed (round : Round) (reading : Option Reading) (server : Target) (named : Wanted)
    : Type 0 where
  pub same : named.server ≡ server.server
  pub targets : (admin : AdminId) → wanted_of named.want admin
      ≡ (if list_any (is_of admin) (verdicts_in server) then Some (target_in round reading admin)
      else None)

-- these servers are named one by one, in their order, and no other
abbrev pub AreNamed : Round → Option Reading → List Target → List Wanted → Type 0
AreNamed round reading [] [] = Unit {0}
AreNamed round reading [] (one ∷ named) = ⊥
AreNamed round reading (server ∷ servers) [] = ⊥
AreNamed round reading (server ∷ servers) (one ∷ named) =
    IsNamed round reading server one × AreNamed round reading servers named

-- an update names exactly the servers of which a proof has another version than the target
abbrev pub UpdateNamesTheOutdated : Type 0
UpdateNamesTheOutdated =
    (round : Round) (reading : Option Reading) (named : List Wanted)
    → judge round reading ≡ Update named
    → AreNamed round reading (filter (is_behind round reading) round.targets) named

-- ---- what an agreed round shows

abbrev pub is_true : Verdict → Bool
is_true verdict = not (is_none verdict.rule)

-- every proof has its administrator's target, and is true; so the proofs by query have one version of each administrator
pub record AllAgree (round : Round) (reading : Option Reading) : Type 0 where
  pub current : list_any (is_behind round reading) round.targets ≡ false
  pub all_true : list_all is_true (proofs_in round.targets) ≡ true
  pub one_version : is_one_version (by_query (proofs_in round.targets)) ≡ true

-- where the answer is that all is true, it is
abbrev pub AgreesWhereAllTrue : Type 0
AgreesWhereAllTrue =
    (round : Round) (reading : Option Reading) → judge round reading ≡ AllTrue
    → AllAgree round reading

-- a false proof of a smaller query
abbrev pub is_sooner : Verdict → Verdict → Bool
is_sooner verdict other = is_none other.rule && nat_lt other.query verdict.query

-- every proof has its administrator's target, and the verdict is one of the proofs, is false, and no false one has a smaller query
pub record IsLeastFalse (round : Round) (reading : Option Reading) (verdict : Verdict)
    : Type 0 where
  pub current : list_any (is_behind round reading) round.targets ≡ false
  pub place : ℕ
  pub there : slice_get (proofs_in round.targets) place ≡ Some verdict
  pub untrue : is_none verdict.rule ≡ true
  pub least : list_any (is_sooner verdict) (proofs_in round.targets) ≡ false

-- where the answer is a false proof, it is the false proof of least query
abbrev pub FalseIsLeast : Type 0
FalseIsLeast =
    (round : Round) (reading : Option Reading) (verdict : Verdict)
    → judge round reading ≡ False verdict → IsLeastFalse round reading verdict

-- ---- that rounds are answered

-- only where a reply or the reading is missing is the answer to wait
abbrev pub WaitsForReplies : Type 0
WaitsForReplies =
    (round : Round) (reading : Option Reading) → judge round reading ≡ Waiting
    → is_waiting round reading ≡ true

-- where nothing is missing, every proof has its administrator's target and is true, the answer is that all is true
abbrev pub AllTrueWhereAgreed : Type 0
AllTrueWhereAgreed =
    (round : Round) (reading : Option Reading) → is_waiting round reading ≡ false
    → list_any (is_behind round reading) round.targets ≡ false
    → list_all is_true (proofs_in round.targets) ≡ true → judge round reading ≡ AllTrue

-- ---- without global consistency

abbrev pub is_of_global : List Level → Verdict → Bool
is_of_global levels verdict = is_global_at levels verdict.admin

-- where nothing is missing and some server is out of date, the answer is an update; under global consistency the rounds may be spent
abbrev pub UpdatesTheOutdated : Type 0
UpdatesTheOutdated =
    (round : Round) (reading : Option Reading) → is_waiting round reading ≡ false
    → list_any (is_behind round reading) round.targets ≡ true
    → list_any (is_of_global round.levels) (proofs_in round.targets) ≡ false
    → (named : List Wanted) × (judge round reading ≡ Update named)

-- where no proof is of an administrator under global consistency, the rounds are never spent
abbrev pub NeverSpentUnderView : Type 0
NeverSpentUnderView =
    (round : Round) (reading : Option Reading) (mets : List Met)
    → list_any (is_of_global round.levels) (proofs_in round.targets) ≡ false
    → judge round reading ≡ Spent mets → ⊥

-- what is done with a round
pub data Call : Type 0 where
  Replies : ServerId → List Verdict → Call
  Judges : Option Reading → Call

abbrev pub after_call : Call → Round → Round
after_call (Replies server verdicts) round = after_reply round server verdicts
after_call (Judges reading) round = after_judgement round reading

abbrev pub after_calls : List Call → Round → Round
after_calls [] round = round
after_calls (call ∷ calls) round = after_calls calls (after_call call round)

-- the last update named for the server the verdict's administrator, with the verdict's version
abbrev pub was_named : Round → ServerId → Verdict → Bool
was_named round server verdict =
    list_any
    (λ (one : Wanted). if same_server one.server server then is_aimed one.want verdict else false)
    round.named

-- a reply that is kept after an update has the versions that were named for its server, and is of no other administrator
abbrev pub is_as_named : Call → Round → Bool
is_as_named (Replies server verdicts) round =
    if round.number == 1 then true
    else if is_awaited round.targets server then list_all (was_named round server) verdicts
    else true
is_as_named (Judges reading) round = true

abbrev pub AreAsNamed : List Call → Round → Type 0
AreAsNamed [] round = Unit {0}
AreAsNamed (call ∷ calls) round =
    (is_as_named call round ≡ true) × AreAsNamed calls (after_call call round)

-- no verdict of the reply is of an administrator under global consistency
abbrev pub is_under_view : List Level → Call → Bool
is_under_view levels (Replies server verdicts) = not (list_any (is_of_global levels) verdicts)
is_under_view levels (Judges reading) = true

-- the round's number is at most 2, and it is updated only while it is 1
pub record HasTwoRounds (round : Round) : Type 0 where
  pub few : round.number ≤ 2
  pub first : (reading : Option Reading) (named : List Wanted) → judge round reading ≡ Update named
      → round.number ≡ 1

-- where no verdict is of an administrator under global consistency, and replies are as they were named, there are at most
-- two rounds
abbrev pub TwoRoundsUnderView : Type 0
TwoRoundsUnderView =
    (servers : List ServerId) (limit : ℕ) (levels : List Level) (reads : Bool) (calls : List Call)
    → list_all (is_under_view levels) calls ≡ true
    → AreAsNamed calls (first_round servers limit levels reads)
    → HasTwoRounds (after_calls calls (first_round servers limit levels reads))

-- ---- what rounds meet at the master

-- the proof is of an administrator under global consistency and below the newest version that was read
abbrev pub is_short : List Level → Reading → Verdict → Bool
is_short levels reading verdict =
    is_of_global levels verdict
    && nat_lt verdict.version.0 (newest_in (Some reading) verdict.admin)

-- so is this proof, and its administrator is before the other
abbrev pub is_short_before : List Level → Reading → AdminId → Verdict → Bool
is_short_before levels reading admin verdict =
    nat_lt verdict.admin.0 admin.0 && is_short levels reading verdict

-- a proof of the administrator with just this version
abbrev pub is_used : AdminId → Version → Verdict → Bool
is_used admin used verdict = is_of admin verdict && (verdict.version.0 == used.0)

-- a proof of the administrator with a smaller version
abbrev pub is_older : AdminId → Version → Verdict → Bool
is_older admin used verdict = is_of admin verdict && nat_lt verdict.version.0 used.0

-- it is of the first administrator under global consistency that has a proof below the newest version, and names the least
-- version among its proofs
pub record IsLeastMet (round : Round) (reading : Reading) (met : Met) : Type 0 where
  pub global : is_global_at round.levels met.admin ≡ true
  pub newest : met.newest.0 ≡ newest_in (Some reading) met.admin
  pub place : met.place ≡ reading.place
  pub below : met.used.0 < met.newest.0
  pub used : list_any (is_used met.admin met.used) (proofs_in round.targets) ≡ true
  pub least : list_any (is_older met.admin met.used) (proofs_in round.targets) ≡ false
  pub first : list_any (is_short_before round.levels reading met.admin) (proofs_in round.targets) ≡ false

-- what a round met at the master, where it met something; versions are of 32 bits
abbrev pub MeetsTheLeast : Type 0
MeetsTheLeast =
    (round : Round) (reading : Reading) (met : Met) → met_in round (Some reading) ≡ Some met
    → met.newest.0 ≤ count_limit → IsLeastMet round reading met

-- where it met nothing, no proof of an administrator under global consistency is below the newest version
abbrev pub MeetsWhatIsNewer : Type 0
MeetsWhatIsNewer =
    (round : Round) (reading : Reading) → met_in round (Some reading) ≡ None
    → list_any (is_short round.levels reading) (proofs_in round.targets) ≡ false

-- what is spent is what each earlier round met and what this one met, and these are as many as may be
pub record HasAllMets (round : Round) (reading : Option Reading) (mets : List Met) : Type 0 where
  pub met : Met
  pub is_met : met_in round reading ≡ Some met
  pub all : mets ≡ round.mets ++ met ∷ []
  pub count : length mets ≡ round.limit

-- the rounds are spent where this one is met, and as many were as may be
abbrev pub SpentHasAllMets : Type 0
SpentHasAllMets =
    (round : Round) (reading : Option Reading) (mets : List Met) → judge round reading ≡ Spent mets
    → HasAllMets round reading mets

-- an update keeps what earlier rounds met, and adds what this one met
abbrev pub UpdateKeepsMets : Type 0
UpdateKeepsMets =
    (round : Round) (reading : Option Reading) (named : List Wanted)
    → judge round reading ≡ Update named
    → (after_judgement round reading).mets ≡ round.mets ++ option_to_list (met_in round reading)

-- ---- rounds are counted by what they meet

-- the verdict is of an administrator under global consistency only where the master is read
abbrev pub is_read_for : Round → Verdict → Bool
is_read_for round verdict = round.reads || not (is_of_global round.levels verdict)

-- the master is read where a verdict of the reply is of an administrator under global consistency
abbrev pub reads_globals : Call → Round → Bool
reads_globals (Replies server verdicts) round = list_all (is_read_for round) verdicts
reads_globals (Judges reading) round = true

-- the proof is not above the newest version that was read, if its administrator is under global consistency
abbrev pub is_not_above : List Level → Option Reading → Verdict → Bool
is_not_above levels None verdict = true
is_not_above levels (Some reading) verdict =
    not (is_of_global levels verdict)
    || nat_le verdict.version.0 (newest_in (Some reading) verdict.admin)

-- the master was read after the proofs, so none of them is above what was read
abbrev pub is_read_after : Call → Round → Bool
is_read_after (Replies server verdicts) round = true
is_read_after (Judges reading) round =
    list_all (is_not_above round.levels reading) (proofs_in round.targets)

-- replies are as they were named, and the master is read where it is to be, and after the proofs
abbrev pub AreInOrder : List Call → Round → Type 0
AreInOrder [] round = Unit {0}
AreInOrder (call ∷ calls) round =
    (is_as_named call round ≡ true) × (reads_globals call round ≡ true)
    × (is_read_after call round ≡ true) × AreInOrder calls (after_call call round)

-- each round before the present one met something, but for the first at most; fewer than the limit did; and a round that
-- meets nothing is updated only if it is the first
pub record CountsMets (round : Round) : Type 0 where
  pub least : length round.mets < round.number
  pub most : round.number ≤ length round.mets + 2
  pub few : length round.mets < round.limit
  pub unmet : (reading : Option Reading) (named : List Wanted)
      → list_all (is_not_above round.levels reading) (proofs_in round.targets) ≡ true
      → judge round reading ≡ Update named → met_in round reading ≡ None → round.number ≡ 1

-- where replies are as they were named and the master is read after the proofs, rounds are counted by what they met
abbrev pub RoundsCountMets : Type 0
RoundsCountMets =
    (servers : List ServerId) (limit : ℕ) (levels : List Level) (reads : Bool)
    → 1 ≤ limit → limit ≤ 16
    → (calls : List Call) → AreInOrder calls (first_round servers limit levels reads)
    → CountsMets (after_calls calls (first_round servers limit levels reads))

-- ---- all under global consistency

-- every verdict of the reply is of an administrator under global consistency
abbrev pub is_under_global : List Level → Call → Bool
is_under_global levels (Replies server verdicts) = list_all (is_of_global levels) verdicts
is_under_global levels (Judges reading) = true

-- where every verdict is of such an administrator, each round before the present one met something: the number of the present
-- round is one more than the rounds that were met
abbrev pub MeetsInEachRound : Type 0
MeetsInEachRound =
    (servers : List ServerId) (limit : ℕ) (levels : List Level) (reads : Bool)
    → 1 ≤ limit → limit ≤ 16
    → (calls : List Call) → list_all (is_under_global levels) calls ≡ true
    → AreInOrder calls (first_round servers limit levels reads)
    → (after_calls calls (first_round servers limit levels reads)).number
    ≡ length (after_calls calls (first_round servers limit levels reads)).mets + 1

-- the rounds are spent exactly where nothing is missing, a server is out of date, and this is the last round that may be
pub record IsSpentAtLimit (round : Round) (reading : Option Reading) : Type 0 where
  pub spent : (mets : List Met) → judge round reading ≡ Spent mets
      → (is_waiting round reading ≡ false)
      × (list_any (is_behind round reading) round.targets ≡ true) × (round.number ≡ round.limit)
  pub last : is_waiting round reading ≡ false
      → list_any (is_behind round reading) round.targets ≡ true → round.number ≡ round.limit
      → (mets : List Met) × (judge round reading ≡ Spent mets)

-- so they are, where every verdict is of such an administrator, and the master is read after the proofs
abbrev pub SpentAtTheLimit : Type 0
SpentAtTheLimit =
    (servers : List ServerId) (limit : ℕ) (levels : List Level) (reads : Bool)
    → 1 ≤ limit → limit ≤ 16
    → (calls : List Call) → list_all (is_under_global levels) calls ≡ true
    → AreInOrder calls (first_round servers limit levels reads)
    → (reading : Option Reading)
    → is_read_after (Judges reading) (after_calls calls (first_round servers limit levels reads)) ≡ true
    → IsSpentAtLimit (after_calls calls (first_round servers limit levels reads)) reading

-- ---- judging again

abbrev pub is_update : Judged → Bool
is_update (Update named) = true
is_update _ = false

-- a round that is judged again with the same reading answers the same, where the first answer was no update
abbrev pub JudgesTheSameAgain : Type 0
JudgesTheSameAgain =
    (round : Round) (reading : Option Reading) → is_update (judge round reading) ≡ false
    → judge (after_judgement round reading) reading ≡ judge round reading

-- after an update replies are missing, whatever is read
abbrev pub WaitsAfterUpdate : Type 0
WaitsAfterUpdate =
    (round : Round) (reading again : Option Reading) (named : List Wanted)
    → judge round reading ≡ Update named
    → judge (after_judgement round reading) again ≡ Waiting

-- ---- proofs by query

-- of each query the proofs are there that were replied, in their order
abbrev pub KeepsEachQuery : Type 0
KeepsEachQuery = (proofs : List Verdict) (query : ℕ) → 1 ≤ query → query ≤ 16
    → filter (is_at_query query) (by_query proofs) ≡ filter (is_at_query query) proofs

-- there is one proof of each query up to the number, and none of another
abbrev pub HasOneForEach : ℕ → List Verdict → Type 0
HasOneForEach count proofs =
    (query : ℕ) → 1 ≤ query → query ≤ 16
    → length (filter (is_at_query query) proofs) ≡ (if nat_le query count then 1 else 0)

-- where there is one proof of each query up to a number, the proofs are of just these queries, in order
abbrev pub GoesByQuery : Type 0
GoesByQuery = (proofs : List Verdict) (count : ℕ) → count ≤ 16 → HasOneForEach count proofs
    → map query_of (by_query proofs) ≡ range_with_len 1 count
