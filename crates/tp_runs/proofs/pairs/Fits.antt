-- What holds of a transaction's deeds and epochs at a server in every state, and what each of its mails says of them.
use Rattle.tp_runs.proofs.basics.Phases.{Asks, Pauses, Prepares}
use Rattle.tp_runs.proofs.basics.Verdicts.{numbers_of}
use Rattle.tp_coord.specs.Sums.{asked_value}
use Rattle.std.proofs.Common.{◌≡◌, ◌⊎◌, ℕ, ◌+◌, ◌<◌, ◌≤◌, List, [], ◌∷◌, ◌++◌, length, take, true, false, Option, Some, None, is_some, IfSome, Contains, option_map, ℤ}
use Rattle.tp_model.specs.Authorisation.{is_own_query}
use Rattle.tp_model.specs.Limits.{is_empty}
use Rattle.tp_model.specs.WantedVersions.{wanted_of}
use Rattle.tp_runs.proofs.basics.Ids.{server_number}
use Rattle.tp_model.specs.Words.{AdminId, Answer, Deed, DoneReply, PrepareRequest, Prepared, QueryRequest, ValidateRequest, Verdict, VerdictsReply, Version, Vote}
use Rattle.tp_model.specs.Words.answer
use Rattle.tp_model.specs.Words.vote
use Rattle.tp_server.specs.declared.server.Ballot.{Ballot}
use Rattle.tp_server.specs.declared.server.Entry.{Entry}
use Rattle.tp_types.specs.Each.{Each}
use Rattle.tp_coord.specs.Sums.{asked_value}
use Rattle.tp_runs.proofs.basics.Found.{answer_in}
use Rattle.tp_runs.proofs.pairs.Pair.{Asker, Held, Pair, got, held, numbers, prepared_held, voted_held}
use Rattle.tp_runs.proofs.pairs.Site.{Site, count, here, upto}
use Rattle.tp_runs.proofs.deeds.Runs.{RunsSoFar, deed_at}

-- ---- what is there in an epoch

-- the server holds these deeds, begun in this epoch
abbrev pub IsThere : Pair → ℕ → List Deed → Type 0
IsThere p epoch deeds = held p ≡ Some (record { epoch = epoch; deeds = deeds })

-- the server makes no entry in this epoch any more: it is down, has settled, or is in a later epoch
abbrev pub IsOver : Pair → ℕ → Type 0
IsOver p epoch = (p.up ≡ false) ⊎ ((p.settled ≡ true) ⊎ (epoch < p.epoch))

-- what was begun in this epoch is lost for ever
pub record IsGone (p : Pair) (epoch : ℕ) : Type 0 where
  pub past : epoch ≤ p.epoch
  pub none : (deeds : List Deed) → IsThere p epoch deeds → ⊥
  pub over : IsOver p epoch

-- deeds that were begun in this epoch, of which P holds
pub record There (p : Pair) (epoch : ℕ) (P : List Deed → Type 0) : Type 0 where
  pub deeds : List Deed
  pub found : IsThere p epoch deeds
  pub says : P deeds

-- P holds of what was begun in this epoch, or that is lost
abbrev pub Tells : Pair → ℕ → (List Deed → Type 0) → Type 0
Tells p epoch P = There p epoch P ⊎ IsGone p epoch

-- every query at the server up to a number has a deed
abbrev pub Covers : Site → ℕ → List Deed → Type 0
Covers s last deeds = (number : ℕ) → 1 ≤ number → number ≤ last → here s number ≡ true → Contains (numbers deeds) number

-- the deeds are those of the first queries at the server, in order
pub record IsFront (s : Site) (deeds : List Deed) : Type 0 where
  pub last : ℕ
  pub numbers_are : numbers deeds ≡ upto s last

-- ---- what the server holds and what the coordinator got

-- while the coordinator asks the server, it may have one deed more: that of the present query
pub record OneMore (s : Site) (a : Asker) (deeds : List Deed) : Type 0 where
  pub asks : a.stand ≡ Asks
  pub is_here : here s (length a.deeds + 1) ≡ true
  pub value : ℤ
  pub more : deeds ≡ got s a.deeds ++ deed_at s.txn (length a.deeds + 1) value ∷ []

-- the deeds are those that the coordinator got, or one more
abbrev pub Matches : Site → Asker → List Deed → Type 0
Matches s a deeds = (deeds ≡ got s a.deeds) ⊎ OneMore s a deeds

-- the server has told no epoch: no query at it has run, and what it holds is at most the deed of the first one
pub record First (s : Site) (p : Pair) (a : Asker) : Type 0 where
  pub none : upto s (length a.deeds) ≡ []
  pub there : (h : Held) → held p ≡ Some h → Matches s a h.deeds

-- the server has told this epoch: a query at it has run, and what it holds of the epoch is what the coordinator got, or one more
pub record Kept (s : Site) (p : Pair) (a : Asker) (epoch : ℕ) : Type 0 where
  pub some : upto s (length a.deeds) ≡ [] → ⊥
  pub told : Tells p epoch (Matches s a)

abbrev pub Pairing : Site → Pair → Asker → Option ℕ → Type 0
Pairing s p a None = First s p a
Pairing s p a (Some epoch) = Kept s p a epoch

-- what the server has prepared it prepared for this coordinator, in the epoch that it told
pub record Made (a : Asker) (prepared : Prepared) : Type 0 where
  pub epoch : a.epoch ≡ Some prepared.epoch
  pub prepares : a.stand ≡ Prepares

-- a coordinator that is up and has not decided; before it brings the servers to vote, nothing of its transaction is settled
pub record AskerFits (s : Site) (p : Pair) (a : Asker) : Type 0 where
  pub numbers_are : numbers (got s a.deeds) ≡ upto s (length a.deeds)
  pub runs : RunsSoFar s.txn a.deeds
  pub pairing : Pairing s p a a.epoch
  pub made : (prepared : Prepared) → p.prepared ≡ Some prepared → Made a prepared
  pub least : a.stand ≡ Asks → length a.deeds < count s
  pub most : length a.deeds ≤ count s
  pub all : a.stand ≡ Prepares → length a.deeds ≡ count s
  pub unsettled : p.settled ≡ true → a.stand ≡ Prepares

-- ---- mails

-- a request of this turn for the query after so many, or the answer to it: it is of the past, or of the query that is asked now, and
-- just then of the present turn
pub record Live (turn before : ℕ) (a : Asker) : Type 0 where
  pub past : before ≤ length a.deeds
  pub now : before ≡ length a.deeds → a.stand ≡ Asks
  pub present : before ≡ length a.deeds → turn ≡ a.turn
  pub turn_past : turn ≤ a.turn
  pub turn_now : a.stand ≡ Asks → turn ≡ a.turn → before ≡ length a.deeds

-- a request of a coordinator that is up and has not decided
pub record QueryLive (s : Site) (q : QueryRequest) (before : ℕ) (a : Asker) : Type 0 where
  pub live : Live q.turn before a
  pub epoch : IfSome q.epoch (λ (epoch : ℕ). a.epoch ≡ Some epoch)
  pub value : q.value ≡ asked_value s.txn (take before a.deeds) (before + 1)

-- a request to run a query, whatever became of the coordinator that sent it: all queries before it at the server have run in the
-- epoch that it names, and there is none before it where it names no epoch
pub record QueryFits (s : Site) (p : Pair) (q : QueryRequest) : Type 0 where
  pub before : ℕ
  pub number_is : q.query ≡ before + 1
  pub is_here : here s (before + 1) ≡ true
  pub first : q.epoch ≡ None → upto s before ≡ []
  pub covers : IfSome q.epoch (λ (epoch : ℕ). Tells p epoch (Covers s before))
  pub live : IfSome p.asker (QueryLive s q before)

-- the value is the one that the query is asked with after these deeds, if it is asked with one
abbrev pub IsAsked : Site → List Deed → ℕ → ℤ → Type 0
IsAsked s deeds number value = IfSome (asked_value s.txn deeds number) (λ (asked : ℤ). value ≡ asked)

-- an answer to a coordinator that is up and has not decided
pub record RanLive (s : Site) (done : DoneReply) (value : ℤ) (before : ℕ) (a : Asker) : Type 0 where
  pub live : Live done.turn before a
  pub epoch : (upto s before ≡ []) ⊎ (a.epoch ≡ Some done.epoch)
  pub asked : IsAsked s (take before a.deeds) (before + 1) value

-- an answer that a query ran: its deed is in what was begun in the answer's epoch
pub record RanFits (s : Site) (p : Pair) (done : DoneReply) (value : ℤ) : Type 0 where
  pub before : ℕ
  pub number_is : done.query ≡ before + 1
  pub is_here : here s (before + 1) ≡ true
  pub told : Tells p done.epoch (λ (deeds : List Deed). Contains deeds (deed_at s.txn (before + 1) value))
  pub live : IfSome p.asker (RanLive s done value before)

-- an answer that a query did not run: it is to a query at the server
pub record AnsweredFits (s : Site) (p : Pair) (done : DoneReply) : Type 0 where
  pub before : ℕ
  pub number_is : done.query ≡ before + 1
  pub is_here : here s (before + 1) ≡ true
  pub live : IfSome p.asker (Live done.turn before)

abbrev pub AnswerFits : Site → Pair → DoneReply → Answer → Type 0
AnswerFits s p done (answer.Ran value verdict) = RanFits s p done value
AnswerFits s p done _ = AnsweredFits s p done

-- an answer
abbrev pub DoneFits : Site → Pair → DoneReply → Type 0
DoneFits s p done = AnswerFits s p done done.answer

-- a request to prepare of a coordinator that is up and has not decided
pub record PrepareLive (r : PrepareRequest) (a : Asker) : Type 0 where
  pub epoch : a.epoch ≡ Some r.epoch
  pub prepares : a.stand ≡ Prepares

-- of each administrator of the transaction's queries at the server a version is wanted
abbrev pub Names : Site → List (AdminId × Version) → Type 0
Names s want = (number : ℕ) (admin : AdminId) → is_own_query s.scenario s.txn number (server_number s.at) admin ≡ true → is_some (wanted_of want admin) ≡ true

-- so it is of those of the queries there up to one
abbrev pub NamesUpto : Site → ℕ → List (AdminId × Version) → Type 0
NamesUpto s last want = (number : ℕ) (admin : AdminId) → number ≤ last → is_own_query s.scenario s.txn number (server_number s.at) admin ≡ true → is_some (wanted_of want admin) ≡ true

-- so it is where any version is wanted
abbrev pub NamesIfAny : Site → ℕ → List (AdminId × Version) → Type 0
NamesIfAny s last want = (is_empty want ≡ true) ⊎ NamesUpto s last want

-- a request to prepare: there are queries at the server, and all of them have run in the epoch that it names; where it
-- wants versions, it names all administrators
pub record PrepareFits (s : Site) (p : Pair) (r : PrepareRequest) : Type 0 where
  pub some : upto s (count s) ≡ [] → ⊥
  pub covers : Tells p r.epoch (Covers s (count s))
  pub names : (is_empty r.want ≡ true) ⊎ Names s r.want
  pub live : IfSome p.asker (PrepareLive r)

-- ---- verdicts

-- verdicts on just the transaction's queries at the server up to a number, in order
abbrev pub AreUpto : Site → ℕ → List Verdict → Type 0
AreUpto s last verdicts = numbers_of verdicts ≡ upto s last

-- and on all of them
abbrev pub AreOnAll : Site → List Verdict → Type 0
AreOnAll s verdicts = AreUpto s (count s) verdicts

-- a request of this turn that a server proves what it has done so far, or the answer to it: in the present turn the
-- coordinator pauses, and P. Of one of the past nothing is said, since more may have been done by then
pub record ProofLive (turn : ℕ) (P : Type 0) (a : Asker) : Type 0 where
  pub past : turn ≤ a.turn
  pub pauses : turn ≡ a.turn → a.stand ≡ Pauses
  pub now : turn ≡ a.turn → P

-- a request to validate names the epoch that is kept; where it wants versions, it names all administrators of the queries at the server
-- that have run so far
abbrev pub ValidateLive : Site → ValidateRequest → Asker → Type 0
ValidateLive s v a = ProofLive v.turn ((a.epoch ≡ Some v.epoch) × NamesIfAny s (length a.deeds) v.want) a

-- and whenever it comes, what was begun in that epoch is there or lost for ever
pub record ValidateFits (s : Site) (p : Pair) (v : ValidateRequest) : Type 0 where
  pub told : Tells p v.epoch (λ (deeds : List Deed). Unit {0})
  pub live : IfSome p.asker (ValidateLive s v)

-- the answer has verdicts on the queries at the server that have run so far, or it says that what was done is lost
abbrev pub VerdictsLive : Site → VerdictsReply → Asker → Type 0
VerdictsLive s reply a = ProofLive reply.turn (IfSome reply.verdicts (AreUpto s (length a.deeds))) a

abbrev pub VerdictsFits : Site → Pair → VerdictsReply → Type 0
VerdictsFits s p reply = IfSome p.asker (VerdictsLive s reply)

-- ---- votes

-- a server that was asked to prepare without a staple proves nothing, and one that was asked with a staple proves all
abbrev pub AreNoneOrAll : Site → List Verdict → Type 0
AreNoneOrAll s verdicts = (verdicts ≡ []) ⊎ AreOnAll s verdicts

-- so is a vote YES, whatever became of the coordinator that asked for it
abbrev pub VoteFits : Site → Vote → Type 0
VoteFits s (vote.Yes verdicts) = AreNoneOrAll s verdicts
VoteFits s _ = Unit {0}

-- ---- the server

-- a query that waits: it may run in the entry's epoch, was not answered, and nothing was voted yet
pub record Waits (s : Site) (p : Pair) (entry : Entry) (q : QueryRequest) : Type 0 where
  pub fits : QueryFits s p q
  pub epoch_is : IfSome q.epoch (λ (epoch : ℕ). epoch ≡ entry.epoch)
  pub fresh : answer_in q.query entry.answers ≡ None
  pub unvoted : entry.ballot ≡ None

-- an entry. Until it is voted on its deeds are answered, and it is of the server's epoch; then its vote has all verdicts
-- or none
pub record EntryFits (s : Site) (p : Pair) (entry : Entry) : Type 0 where
  pub waiting : IfSome entry.waiting (Waits s p entry)
  pub answers : Each (DoneFits s p) entry.answers
  pub answered : entry.ballot ≡ None → (number : ℕ) → Contains (numbers entry.deeds) number → is_some (answer_in number entry.answers) ≡ true
  pub present : entry.ballot ≡ None → entry.epoch ≡ p.epoch
  pub ballot : IfSome entry.ballot (λ (cast : Ballot). AreNoneOrAll s cast.verdicts)

-- the server: what it voted on is what it prepared, with all verdicts or none, and what it holds are the first deeds in
-- an epoch of its own
pub record ServerFits (s : Site) (p : Pair) : Type 0 where
  pub down : p.up ≡ false → p.entry ≡ None
  pub settled : p.settled ≡ true → (p.entry ≡ None) × (p.prepared ≡ None)
  pub votes : p.up ≡ true → option_map prepared_held p.prepared ≡ voted_held p.entry
  pub past : (h : Held) → held p ≡ Some h → h.epoch ≤ p.epoch
  pub front : (h : Held) → held p ≡ Some h → IsFront s h.deeds
  pub voted : p.voted ≡ true → is_some p.asker ≡ true → is_some p.prepared ≡ true
  pub verdicts : (prepared : Prepared) → p.prepared ≡ Some prepared → AreNoneOrAll s prepared.verdicts

-- what holds in every state
pub record Fits (s : Site) (p : Pair) : Type 0 where
  pub server : ServerFits s p
  pub asker : IfSome p.asker (AskerFits s p)
  pub entry : IfSome p.entry (EntryFits s p)
