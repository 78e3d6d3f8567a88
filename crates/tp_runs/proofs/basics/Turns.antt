-- Turns: a mail of an earlier turn says nothing of the present request, one of the present turn is an answer to it, and requests are few.
use Rattle.std.specs.List.{list_all, list_any}
use Rattle.std.specs.Option.{option_map_or}
use Rattle.std.proofs.Common.{Bool, IfSome, List, None, Option, Some, [], arith, false, is_none, is_some, length, not, option_and_then, option_map, slice_get, suc, true, zero, ℕ, ◌&&◌, ◌+◌, ◌<◌, ◌∷◌, ◌≡◌, ◌≤◌, ◌⊎◌}
use Rattle.std.proofs.lemmas.Bool.{and_parts}
use Rattle.std.proofs.lemmas.Option.{slice_get_within}
use Rattle.tp_model.proofs.RuleLemmas.{count_most}
use Rattle.tp_model.specs.Limits.{has_count, is_empty, is_from_to}
use Rattle.tp_model.specs.Queries.{item_of, query_at}
use Rattle.tp_model.specs.Valid.{IsValid, are_distinct, has_valid_creds, is_name_of_server, is_valid_query, is_valid_txn, same_txn_name}
use Rattle.tp_model.specs.Words.answer
use Rattle.tp_model.specs.Words.body
use Rattle.tp_model.specs.Words.vote
use Rattle.tp_model.specs.Words.{AdminId, Answer, Body, DoneReply, Instance, Item, Met, Newer, NewestReply, PrepareRequest, Query, QueryRequest, Scenario, Staple, Transaction, TxnId, ValidateRequest, Verdict, Version, Vote}
use Rattle.tp_offices.specs.Master.{version_for}
use Rattle.tp_round.specs.Judge.{is_aimed}
use Rattle.tp_round.specs.Replies.{proofs_in}
use Rattle.tp_round.specs.declared.round.Round.{Round}
use Rattle.tp_runs.proofs.basics.Aims.{is_within}
use Rattle.tp_runs.proofs.basics.Phases.{before_query, ceiling_in, is_undecided, until_round, until_validation}
use Rattle.tp_types.specs.Each.{Each}
use Rattle.tp_runs.specs.Sound.{query_in}
use Rattle.tp_scheme.specs.Gathered.{pin_of}
use Rattle.tp_coord.specs.Row.{next_turn}
use Rattle.tp_coord.specs.State.{Coordinator}
use Rattle.tp_coord.specs.declared.coordinator.Phase.TheVariants as phase
use Rattle.tp_coord.specs.declared.coordinator.Phase.{Phase}

-- ---- turns

-- whose request a mail is or answers, and which
pub record Stamp : Type 0 where
  pub txn : TxnId
  pub turn : ℕ

abbrev pub stamp_of : Body → Option Stamp
stamp_of (body.Query q) = Some (record { txn = q.txn; turn = q.turn })
stamp_of (body.Done done) = Some (record { txn = done.txn; turn = done.turn })
stamp_of (body.Ask ask) = Some (record { txn = ask.txn; turn = ask.turn })
stamp_of (body.Tell tell) = Some (record { txn = tell.txn; turn = tell.turn })
stamp_of (body.Validate v) = Some (record { txn = v.txn; turn = v.turn })
stamp_of (body.Verdicts reply) = Some (record { txn = reply.txn; turn = reply.turn })
stamp_of (body.Prepare p) = Some (record { txn = p.txn; turn = p.turn })
stamp_of (body.Vote reply) = Some (record { txn = reply.txn; turn = reply.turn })
stamp_of (body.Probe probe) = Some (record { txn = probe.txn; turn = probe.turn })
stamp_of (body.Newest reply) = Some (record { txn = reply.txn; turn = reply.turn })
stamp_of _ = None

abbrev pub admin_of_query : Scenario → Query → Option AdminId
admin_of_query sc query = option_map (λ (item : Item). item.admin) (slice_get sc.items (item_of query).0)

-- the administrator of the item of a transaction's query, where there is one
abbrev pub admin_asked : Scenario → TxnId → ℕ → Option AdminId
admin_asked sc txn number = option_and_then (admin_of_query sc) (query_in sc txn number)

-- all verdicts were made before the place
abbrev pub AreEarlier : ℕ → List Verdict → Type 0
AreEarlier place verdicts = Each (λ (verdict : Verdict). verdict.place < place) verdicts

-- so were an instance's, and its reading, if it has one
pub record IsEarlierInstance (place : ℕ) (instance : Instance) : Type 0 where
  pub proofs : AreEarlier place instance.proofs
  pub reading : IfSome instance.reading (λ (read : ℕ). read < place)

-- all that a coordinator has closed or gathered was made before the place
pub record IsAbove (place : ℕ) (instances : List Instance) (gathered : List Verdict) : Type 0 where
  pub closed : Each (IsEarlierInstance place) instances
  pub gathered_before : AreEarlier place gathered

-- the verdicts of a vote were made at the place
abbrev pub PlacedAt : ℕ → Vote → Type 0
PlacedAt place (vote.Yes verdicts) = Each (λ (verdict : Verdict). verdict.place ≡ place) verdicts
PlacedAt place _ = Unit {0}

-- what the authority tells now was told after all that is closed
abbrev pub TellNow : Coordinator → Phase → ℕ → Type 0
TellNow c (phase.Stapling number) sent = IsAbove sent c.instances c.gathered
TellNow c (phase.Asking over round) sent = IsAbove sent c.instances c.gathered
TellNow c _ sent = Unit {0}

-- no version of these verdicts is above what the master told
abbrev pub AreUpTo : List Version → List Verdict → Type 0
AreUpTo told verdicts = Each (λ (verdict : Verdict). verdict.version.0 ≤ (version_for told verdict.admin).0) verdicts

-- what the master told was told after all that is closed or gathered, and is no less than the versions that were gathered
pub record IsReadAfter (sent : ℕ) (told : List Version) (instances : List Instance) (gathered : List Verdict) : Type 0 where
  pub above : IsAbove sent instances gathered
  pub up_to : AreUpTo told gathered

-- it was told after each reply that a round has and each newer version that it met, and is no less than the versions of the replies
pub record IsReadIn (sent : ℕ) (told : List Version) (round : Round) : Type 0 where
  pub replies : AreEarlier sent (proofs_in round.targets)
  pub up_to : AreUpTo told (proofs_in round.targets)
  pub mets : Each (λ (met : Met). met.place < sent) round.mets

-- what the master tells now
abbrev pub NewestNow : Coordinator → Phase → ℕ → NewestReply → Type 0
NewestNow c (phase.Probing number) sent reply = IsReadAfter sent reply.newest c.instances c.gathered
NewestNow c (phase.Reading over round) sent reply = IsReadAfter sent reply.newest c.instances c.gathered × IsReadIn sent reply.newest round
NewestNow c phase.VoteProbing sent reply = IsReadAfter sent reply.newest c.instances c.gathered
NewestNow c _ sent reply = Unit {0}

-- a query that was asked: its number, its staple, and the version that what was gathered pins, if it pins one
pub record IsAskedSo (sc : Scenario) (gathered : List Verdict) (number : ℕ) (staple : Option Staple) (q : QueryRequest) : Type 0 where
  pub query : q.query ≡ number
  pub staple_is : q.staple ≡ staple
  pub pin_is : q.pin ≡ option_and_then (pin_of gathered) (admin_asked sc q.txn q.query)

-- a request to run a query is that of the phase
abbrev pub QueryNow : Scenario → Coordinator → Phase → QueryRequest → Type 0
QueryNow sc c (phase.Querying number staple) q = IsAskedSo sc c.gathered number staple q
QueryNow sc c _ q = Unit {0}

-- a verdict on the query: it is of the place of the staple, and of the version that is pinned, if one is
pub record IsOnQuery (gathered : List Verdict) (number : ℕ) (staple : Option Staple) (verdict : Verdict) : Type 0 where
  pub query : verdict.query ≡ number
  pub placed : IfSome staple (λ (given : Staple). verdict.place ≡ given.place)
  pub pinned : IfSome (pin_of gathered verdict.admin) (λ (pin : Version). verdict.version ≡ pin)

-- a query that ran has a verdict exactly where it was asked with a staple, and it is true
pub record RanNow (gathered : List Verdict) (number : ℕ) (staple : Option Staple) (verdict : Option Verdict) : Type 0 where
  pub proved : is_some verdict ≡ is_some staple
  pub on_query : IfSome verdict (IsOnQuery gathered number staple)
  pub has_rule : IfSome verdict (λ (proof : Verdict). is_some proof.rule ≡ true)

-- only a query that was asked with a staple is denied, and its verdict is false
pub record DeniedNow (gathered : List Verdict) (number : ℕ) (staple : Option Staple) (verdict : Verdict) : Type 0 where
  pub stapled : is_some staple ≡ true
  pub on_query : IsOnQuery gathered number staple verdict
  pub ruleless : is_none verdict.rule ≡ true

-- a newer version was found than the one that is pinned, of the administrator of the query's item
pub record NewerNow (sc : Scenario) (gathered : List Verdict) (txn : TxnId) (number : ℕ) (newer : Newer) : Type 0 where
  pub admin_is : admin_asked sc txn number ≡ Some newer.admin
  pub used_is : pin_of gathered newer.admin ≡ Some newer.used

abbrev pub AnswerNow : Scenario → List Verdict → TxnId → ℕ → Option Staple → Answer → Type 0
AnswerNow sc gathered txn number staple (answer.Ran value verdict) = RanNow gathered number staple verdict
AnswerNow sc gathered txn number staple (answer.Denied verdict) = DeniedNow gathered number staple verdict
AnswerNow sc gathered txn number staple (answer.Newer newer) = NewerNow sc gathered txn number newer
AnswerNow sc gathered txn number staple _ = Unit {0}

-- the answer to the query of this number, which was asked with the staple
pub record IsAnswered (sc : Scenario) (gathered : List Verdict) (number : ℕ) (staple : Option Staple) (done : DoneReply) : Type 0 where
  pub query : done.query ≡ number
  pub answer_is : AnswerNow sc gathered done.txn number staple done.answer

-- an answer is to the query of the phase
abbrev pub DoneNow : Scenario → Coordinator → Phase → DoneReply → Type 0
DoneNow sc c (phase.Querying number staple) done = IsAnswered sc c.gathered number staple done
DoneNow sc c _ done = Unit {0}

-- after an update a request wants something, of what the round aims at
abbrev pub WantNow : Round → List (AdminId × Version) → Type 0
WantNow round want = (round.number ≡ 1) ⊎ ((is_empty want ≡ false) × Each (λ (wanted : AdminId × Version). is_within round.aim wanted ≡ true) want)

-- and what a server votes has the versions that the round aims at
abbrev pub AimedVote : Round → Vote → Type 0
AimedVote round (vote.Yes verdicts) = (round.number ≡ 1) ⊎ (list_all (is_aimed round.aim) verdicts ≡ true)
AimedVote round _ = Unit {0}

-- a request to prepare has the staple of the round, and wants what the round does; votes without a round are asked for without a staple
abbrev pub PrepareNow : Phase → PrepareRequest → Type 0
PrepareNow (phase.Checking over round staple) p = (p.staple ≡ Some staple) × WantNow round p.want
PrepareNow (phase.Voting awaited) p = p.staple ≡ None
PrepareNow _ p = Unit {0}

-- so has a request to evaluate
abbrev pub ValidateNow : Phase → ValidateRequest → Type 0
ValidateNow (phase.Checking over round staple) v = (v.staple ≡ staple) × WantNow round v.want
ValidateNow _ v = Unit {0}

-- a vote of a server that was asked without a staple has no verdict
abbrev pub ProvesNothing : Vote → Type 0
ProvesNothing (vote.Yes verdicts) = verdicts ≡ []
ProvesNothing _ = Unit {0}

-- that of one that was asked with a staple has some
abbrev pub ProvesSome : Vote → Type 0
ProvesSome (vote.Yes verdicts) = verdicts ≡ [] → ⊥
ProvesSome _ = Unit {0}

-- and a vote is of its place, and of the versions
abbrev pub VoteNow : Phase → Vote → Type 0
VoteNow (phase.Checking over round staple) said = PlacedAt staple.place said × AimedVote round said × ProvesSome said
VoteNow (phase.Voting awaited) said = ProvesNothing said
VoteNow _ said = Unit {0}

-- so are verdicts without a vote
abbrev pub VerdictsNow : Phase → List Verdict → Type 0
VerdictsNow (phase.Checking over round staple) verdicts = PlacedAt staple.place (vote.Yes verdicts) × AimedVote round (vote.Yes verdicts)
VerdictsNow _ verdicts = Unit {0}

-- what a mail of the present turn, sent at a place, says of the request that is outstanding
abbrev pub Now : Scenario → Coordinator → ℕ → Body → Type 0
Now sc c sent (body.Query q) = QueryNow sc c c.phase q
Now sc c sent (body.Done done) = DoneNow sc c c.phase done
Now sc c sent (body.Tell tell) = TellNow c c.phase sent
Now sc c sent (body.Validate v) = ValidateNow c.phase v
Now sc c sent (body.Verdicts reply) = IfSome reply.verdicts (VerdictsNow c.phase)
Now sc c sent (body.Prepare p) = PrepareNow c.phase p
Now sc c sent (body.Vote reply) = VoteNow c.phase reply.vote
Now sc c sent (body.Newest reply) = NewestNow c c.phase sent reply
Now sc c sent _ = Unit {0}

-- a mail of a turn that is not above the present one
pub record IsOfPast (sc : Scenario) (c : Coordinator) (sent turn : ℕ) (said : Body) : Type 0 where
  pub past : turn ≤ c.turn
  pub now : turn ≡ c.turn → Now sc c sent said

-- what a mail is for a coordinator that is up; one that has decided awaits nothing
abbrev pub IsTimely : Scenario → Coordinator → ℕ → ℕ → Body → Type 0
IsTimely sc c sent turn said = is_undecided c.phase ≡ true → IsOfPast sc c sent turn said

abbrev pub TurnFits : Scenario → ℕ → ℕ → Body → Coordinator → Type 0
TurnFits sc sent turn said c = IsTimely sc c sent turn said

-- where the turn rises all mails of before are of an earlier turn
pub raised : (sc : Scenario) (c next : Coordinator) (sent turn : ℕ) (said : Body) → is_undecided c.phase ≡ true → next.turn ≡ c.turn + 1 → IsTimely sc c sent turn said → IsTimely sc next sent turn said
raised sc c next sent turn said undecided rises h unsure =
    let before : turn ≤ c.turn = (h undecided).past in
    record { past = omega (arith, before, rises); now = λ e. absurd (omega (arith, before, rises, e)) }

-- ---- answers

-- a reply of the turn of its request, whatever the places at which they are sent; P says which coordinators there are
pub record Answers (sc : Scenario) (P : TxnId → Coordinator → Type 0) (request reply : Body) (stamped : Stamp) : Type 0 where
  pub asked : Stamp
  pub asked_is : stamp_of request ≡ Some asked
  pub reply_is : stamp_of reply ≡ Some stamped
  pub same_txn : asked.txn ≡ stamped.txn
  pub timely : (c : Coordinator) (sent place : ℕ) → P stamped.txn c → IsTimely sc c sent asked.turn request → IsTimely sc c place stamped.turn reply

-- what is so of a request is so of its answers
abbrev pub IsClosed : Scenario → (TxnId → Coordinator → Type 0) → (Body → Type 0) → Type 0
IsClosed sc P T = (request reply : Body) (stamped : Stamp) → Answers sc P request reply stamped → T request → T reply

-- what only offices say depends on the place where it was sent
abbrev pub IsOfNoOffice : Body → Type 0
IsOfNoOffice (body.Tell tell) = ⊥
IsOfNoOffice (body.Newest reply) = ⊥
IsOfNoOffice _ = Unit {0}

now_anywhere : (sc : Scenario) (c : Coordinator) (sent place : ℕ) (said : Body) → IsOfNoOffice said → Now sc c sent said → Now sc c place said
now_anywhere sc c sent place (body.Tell tell) other h = absurd other
now_anywhere sc c sent place (body.Newest reply) other h = absurd other
now_anywhere sc c sent place _ other h = h

pub timely_anywhere : (sc : Scenario) (c : Coordinator) (sent place turn : ℕ) (said : Body) → IsOfNoOffice said → IsTimely sc c sent turn said → IsTimely sc c place turn said
timely_anywhere sc c sent place turn said other h unsure = record { past = (h unsure).past; now = λ e. now_anywhere sc c sent place said other ((h unsure).now e) }

-- ---- requests are few

-- how many queries a transaction has
abbrev pub query_count : Scenario → TxnId → ℕ
query_count sc txn = option_map_or (λ (declared : Transaction). length declared.queries) (slice_get sc.txns txn.0) 0

-- the most requests that a coordinator has made in its phase
abbrev pub ceiling : Scenario → Coordinator → ℕ
ceiling sc c = ceiling_in (query_count sc c.txn) c.phase

-- no transaction has more than 16 queries
abbrev pub AreFew : Scenario → Type 0
AreFew sc = (txn : TxnId) → query_count sc txn ≤ 16

first_of_three : (a b c : Bool) → (a && b && c) ≡ true → a ≡ true
first_of_three a b c e = grind arith

-- so it is in a scenario that keeps every rule
pub few_queries : (sc : Scenario) → IsValid sc → AreFew sc
few_queries sc valid txn = few_in sc.txns txn.0 (and_parts (has_count 0 128 sc.txns) (list_all (is_valid_txn sc) sc.txns) (and_parts (has_count 0 128 sc.txns && list_all (is_valid_txn sc) sc.txns) (are_distinct same_txn_name sc.txns) valid.txns).0).1
  where
    few_of : (declared : Transaction) → is_valid_txn sc declared ≡ true → length declared.queries ≤ 16
    few_of declared h =
        count_most 1 16 (length declared.queries)
        (first_of_three (has_count 1 16 declared.queries) (list_all (is_valid_query sc) declared.queries) (not (list_any (is_name_of_server declared) sc.servers))
        (and_parts (has_valid_creds sc declared && is_from_to 1 16 declared.rounds) _ h).1)

    few_in : (txns : List Transaction) (n : ℕ) → list_all (is_valid_txn sc) txns ≡ true → option_map_or (λ (declared : Transaction). length declared.queries) (slice_get txns n) 0 ≤ 16
    few_in [] n h = omega arith
    few_in (declared ∷ txns) zero h = few_of declared (and_parts (is_valid_txn sc declared) (list_all (is_valid_txn sc) txns) h).0
    few_in (declared ∷ txns) (suc n) h = few_in txns n (and_parts (is_valid_txn sc declared) (list_all (is_valid_txn sc) txns) h).1

-- a query's number is among those of its transaction
pub number_within : (sc : Scenario) (txn : TxnId) (number : ℕ) (asked : Query) → query_in sc txn number ≡ Some asked → (1 ≤ number) × (number ≤ query_count sc txn)
number_within sc txn number asked e = within (slice_get sc.txns txn.0) number e
  where
    within : (found : Option Transaction) (k : ℕ) → option_and_then (λ (declared : Transaction). query_at declared k) found ≡ Some asked
        → (1 ≤ k) × (k ≤ option_map_or (λ (declared : Transaction). length declared.queries) found 0)
    within None k f = absurd (cc)
    within (Some declared) zero f = absurd (cc)
    within (Some declared) (suc n) f = let less : n < length declared.queries = slice_get_within declared.queries n asked f in (omega arith, omega (arith, less))

-- below the greatest number of a turn the next one is new
pub turn_rises : (c : Coordinator) → c.turn ≤ 1000 → next_turn c ≡ c.turn + 1
turn_rises c le = omega (arith, le)

-- a query is asked within its bound, if it is the first
pub first_move : (turn : ℕ) → turn ≤ 0 → turn + 1 ≤ before_query 1 + 2
first_move turn low = omega (arith, low)

-- so is a further one
pub next_move : (number next turn : ℕ) → 1 ≤ number → next ≡ number + 1 → turn ≤ before_query number + 2 → turn + 1 ≤ before_query next + 2
next_move number next turn first one_more low = omega (arith, first, one_more, low)

pub low_query : (count number asked turn : ℕ) → count ≤ 16 → number ≤ count + 1 → asked ≤ 3 → turn ≤ before_query number + asked → turn ≤ 1000
low_query count number asked turn few last of_three low = omega (arith, few, last, of_three, low)

pub low_validation : (count query number asked turn : ℕ) → count ≤ 16 → query ≤ count + 1 → number ≤ 17 → asked ≤ 3 → turn ≤ until_validation query number asked → turn ≤ 1000
low_validation count query number asked turn few last most of_three low = omega (arith, few, last, most, of_three, low)

pub low_round : (count number asked turn : ℕ) → count ≤ 16 → number ≤ 17 → asked ≤ 3 → turn ≤ until_round count number asked → turn ≤ 1000
low_round count number asked turn few most of_three low = omega (arith, few, most, of_three, low)

-- so is the next round
pub further_move : (count number turn : ℕ) → 1 ≤ number → turn ≤ until_round count number 3 → turn + 1 ≤ until_round count (number + 1) 1
further_move count number turn first low = omega (arith, first, low)

-- or it ends at a query
pub died_move : (count number turn : ℕ) → 1 ≤ number → number ≤ count → turn ≤ before_query number + 2 → turn ≤ until_round count 17 3
died_move count number turn first last low = omega (arith, first, last, low)

pub end_move : (count number asked turn : ℕ) → number ≤ 17 → asked ≤ 3 → turn ≤ until_round count number asked → turn ≤ until_round count 17 3
end_move count number asked turn most of_three low = omega (arith, most, of_three, low)
