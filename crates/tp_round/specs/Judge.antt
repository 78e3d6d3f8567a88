-- What a round is, and what is judged of its replies.
use Rattle.std.specs.Prelude.{ℕ, ◌==◌, ◌&&◌, ◌||◌, List, [], ◌∷◌, ◌++◌, length, map, filter, find, slice_get, Bool, false, not, nat_lt, Option, Some, None, option_map, option_to_list, if◌then◌else◌}
use Rattle.std.specs.List.{list_any}
use Rattle.std.specs.Option.{is_none, is_some, option_map_or}
use Rattle.tp_model.specs.Words.{AdminId, Level, Met, Reading, ServerId, Verdict, Version}
use Rattle.tp_model.specs.Limits.{next_count}
use Rattle.tp_model.specs.Ids.{same_admin, same_server}
use Rattle.tp_model.specs.Levels.{is_global_at}
use Rattle.tp_round.specs.declared.round.Judged.{Judged}
use Rattle.tp_round.specs.declared.round.Judged.TheVariants.{Waiting, AllTrue, False, Spent, Update}
use Rattle.tp_round.specs.declared.round.Round.{Round}
use Rattle.tp_round.specs.declared.round.Target.{Target}
use Rattle.tp_round.specs.declared.round.Wanted.{Wanted}
use Rattle.tp_round.specs.Replies.{admins_of, greatest, is_of, least, least_false, proofs_in, verdicts_in}

-- ---- the start, and a reply

abbrev pub new_target : ServerId → Target
new_target server = record { server = server; reply = None }

-- the first round, before any reply
abbrev pub first_round : List ServerId → ℕ → List Level → Bool → Round
first_round servers limit levels reads =
    record {
      levels = levels;
      reads = reads;
      limit = limit;
      number = 1;
      targets = map new_target servers;
      aim = [];
      named = [];
      mets = [];
    }

abbrev pub awaits : ServerId → Target → Bool
awaits server target = same_server target.server server && is_none target.reply

-- the server's reply is awaited
abbrev pub is_awaited : List Target → ServerId → Bool
is_awaited targets server = list_any (awaits server) targets

-- a reply that is awaited is kept; else nothing changes
abbrev pub with_reply : List Target → ServerId → List Verdict → List Target
with_reply [] server verdicts = []
with_reply (target ∷ targets) server verdicts =
    if awaits server target then record { server = server; reply = Some verdicts } ∷ targets
    else target ∷ with_reply targets server verdicts

abbrev pub after_reply : Round → ServerId → List Verdict → Round
after_reply round server verdicts =
    record round { targets = with_reply round.targets server verdicts }

-- ---- what the replies are judged by

abbrev pub is_missing : Target → Bool
is_missing target = is_none target.reply

abbrev pub server_of_target : Target → ServerId
server_of_target target = target.server

-- the servers of a round whose replies are awaited
abbrev pub awaited_in : Round → List ServerId
awaited_in round = map server_of_target (filter is_missing round.targets)

-- a reply is missing, or the master is read and was not read yet
abbrev pub is_waiting : Round → Option Reading → Bool
is_waiting round reading = list_any is_missing round.targets || (round.reads && is_none reading)

abbrev pub version_number : Version → ℕ
version_number version = version.0

-- the master's newest version of the administrator; 0, which is no version, where the reading has none
abbrev pub newest_in : Option Reading → AdminId → ℕ
newest_in None admin = 0
newest_in (Some reading) admin = option_map_or version_number (slice_get reading.newest admin.0) 0

-- the version that an administrator's proofs are to have: under view consistency the greatest among them, else the master's newest
abbrev pub target : List Level → Option Reading → List Verdict → AdminId → ℕ
target levels reading proofs admin =
    if is_global_at levels admin then newest_in reading admin else greatest admin proofs

abbrev pub aim_for : List Level → Option Reading → List Verdict → AdminId → AdminId × Version
aim_for levels reading proofs admin = (admin, record { 0 = target levels reading proofs admin })

-- the target of each administrator that has a proof, in order of number
abbrev pub aim_of : List Level → Option Reading → List Verdict → List (AdminId × Version)
aim_of levels reading proofs = map (aim_for levels reading proofs) (admins_of proofs)

abbrev pub is_version_of : Verdict → AdminId × Version → Bool
is_version_of verdict aimed = same_admin aimed.0 verdict.admin && (aimed.1.0 == verdict.version.0)

-- the proof has its administrator's target
abbrev pub is_aimed : List (AdminId × Version) → Verdict → Bool
is_aimed aim verdict = list_any (is_version_of verdict) aim

-- a proof of the server has another version than the target
abbrev pub is_outdated : List (AdminId × Version) → Target → Bool
is_outdated aim target =
    list_any (λ (verdict : Verdict). not (is_aimed aim verdict)) (verdicts_in target)

-- ---- the next round

abbrev pub is_proved_by : Target → AdminId × Version → Bool
is_proved_by target aimed = list_any (is_of aimed.0) (verdicts_in target)

-- what is wanted of a server: the target of each administrator of which it has a proof
abbrev pub want_of : List (AdminId × Version) → Target → Wanted
want_of aim target = record { server = target.server; want = filter (is_proved_by target) aim }

-- what is wanted of each server that is out of date
abbrev pub wants_of : List (AdminId × Version) → List Target → List Wanted
wants_of aim targets = map (want_of aim) (filter (is_outdated aim) targets)

-- the server is awaited again where it is out of date; else its reply stays
abbrev pub next_target : List (AdminId × Version) → Target → Target
next_target aim target = if is_outdated aim target then new_target target.server else target

-- ---- newer versions at the master

-- a proof of the administrator, whose level is global, is below its target
abbrev pub is_below : List Level → List Verdict → AdminId × Version → Bool
is_below levels proofs aimed =
    is_global_at levels aimed.0 && nat_lt (least aimed.0 proofs) aimed.1.0

abbrev pub met_at : Reading → List Verdict → AdminId × Version → Met
met_at reading proofs aimed =
    record {
      admin = aimed.0;
      used = record { 0 = least aimed.0 proofs };
      newest = aimed.1;
      place = reading.place;
    }

-- what the round met at the master: the least administrator that is below its target, with the least version used of it
abbrev pub met_by : List Level → Option Reading → List Verdict → List (AdminId × Version)
    → Option Met
met_by levels None proofs aim = None
met_by levels (Some reading) proofs aim =
    option_map (met_at reading proofs) (find (is_below levels proofs) aim)

-- ---- the judgement

abbrev pub aim_in : Round → Option Reading → List (AdminId × Version)
aim_in round reading = aim_of round.levels reading (proofs_in round.targets)

-- the rounds met so far, with this one where it is met
abbrev pub mets_in : Round → Option Met → List Met
mets_in round met = round.mets ++ option_to_list met

abbrev pub met_in : Round → Option Reading → Option Met
met_in round reading = met_by round.levels reading (proofs_in round.targets) (aim_in round reading)

-- this round is met, and is the last that may be
abbrev pub is_spent : Round → Option Met → Bool
is_spent round met = is_some met && (length (mets_in round met) == round.limit)

-- no server is out of date
abbrev pub final_answer : Option Verdict → Judged
final_answer None = AllTrue
final_answer (Some verdict) = False verdict

-- a server is out of date
abbrev pub update_answer : Round → List (AdminId × Version) → Option Met → Judged
update_answer round aim met =
    if is_spent round met then Spent (mets_in round met) else Update (wants_of aim round.targets)

abbrev pub judge : Round → Option Reading → Judged
judge round reading =
    if is_waiting round reading then Waiting
    else if list_any (is_outdated (aim_in round reading)) round.targets
    then update_answer round (aim_in round reading) (met_in round reading)
    else final_answer (least_false (proofs_in round.targets))

-- the number of the next round; the greatest stays
abbrev pub next_number : Round → ℕ
next_number round = next_count round.number

-- the next round: the replies of the servers that are out of date are awaited, and the others stay
abbrev pub next_round : Round → List (AdminId × Version) → List Wanted → List Met → Round
next_round round aim named mets =
    record round {
      number = next_number round;
      targets = map (next_target aim) round.targets;
      aim = aim;
      named = named;
      mets = mets;
    }

-- the round after an answer: an update begins the next round, and the other answers change nothing
abbrev pub after : Round → List (AdminId × Version) → Option Met → Judged → Round
after round aim met (Update named) = next_round round aim named (mets_in round met)
after round aim met _ = round

-- the round after it was judged
abbrev pub after_judgement : Round → Option Reading → Round
after_judgement round reading =
    after round (aim_in round reading) (met_in round reading) (judge round reading)
