-- What follows from the table of moves and from what is gathered, said of each scheme and of each proof.
use Rattle.std.specs.Prelude.{ℕ, ◌≡◌, ◌<◌, ◌≤◌, ◌+◌, ◌++◌, ◌⊎◌, ◌↔◌, List, [], ◌∷◌, take, slice_get, Bool, true, false, Some, None}
use Rattle.tp_types.specs.Each.{Each}
use Rattle.tp_model.specs.Words.{AdminId, Cause, Level, Newer, Reading, Scheme, Verdict, Version}
use Rattle.tp_model.specs.Words.cause
use Rattle.tp_model.specs.Words.scheme
use Rattle.tp_scheme.specs.declared.moves.Move.{Move}
use Rattle.tp_scheme.specs.declared.moves.Point.{Point}
use Rattle.tp_scheme.specs.Gathered.{is_of, newest_in, older, pin_of}
use Rattle.tp_model.specs.Levels.{is_global_at}
use Rattle.tp_scheme.specs.Moves.{next_move, proves_each}
use Rattle.tp_scheme.specs.Moves.move
use Rattle.tp_scheme.specs.Moves.point

-- ---- beginnings

-- where a query begins, or all queries are done with, no other query is gone on to
abbrev pub BeginningsAct : Type 0
BeginningsAct =
    (chosen : Scheme) (reads : Bool) (queries query : ℕ)
    → next_move chosen reads queries (point.Begun query) ≡ move.Following → ⊥

-- a query is sent at once only where the scheme does not prove each, and there is such a query
abbrev pub SendsUnproved : Type 0
SendsUnproved =
    (chosen : Scheme) (reads : Bool) (queries query : ℕ)
    → next_move chosen reads queries (point.Begun query) ≡ move.SendQuery
    → (proves_each chosen ≡ false) × (query ≤ queries)

-- the authority is asked only where the scheme proves each query, as one of the queries begins
abbrev pub AsksBeforeProved : Type 0
AsksBeforeProved =
    (chosen : Scheme) (reads : Bool) (queries : ℕ) (at : Point)
    → next_move chosen reads queries at ≡ move.Ask
    → (proves_each chosen ≡ true) × ((query : ℕ) × (at ≡ point.Begun query) × (query ≤ queries))

-- ---- what is done under which scheme, and where

-- the master is asked only under incremental where it is read, after a query or after the votes
abbrev pub ProbesIncremental : Type 0
ProbesIncremental =
    (chosen : Scheme) (reads : Bool) (queries : ℕ) (at : Point)
    → next_move chosen reads queries at ≡ move.Probe
    → (chosen ≡ scheme.Incremental) × (reads ≡ true)
    × (((query : ℕ) × (at ≡ point.Ran query)) ⊎ (at ≡ point.Voted))

-- the queries so far are evaluated together only under continuous, after a query
abbrev pub ValidatesContinuous : Type 0
ValidatesContinuous =
    (chosen : Scheme) (reads : Bool) (queries : ℕ) (at : Point)
    → next_move chosen reads queries at ≡ move.Validate
    → (chosen ≡ scheme.Continuous) × ((query : ℕ) × (at ≡ point.Ran query))

-- votes without evaluation are asked for only under incremental, where no query is left
abbrev pub VotesIncremental : Type 0
VotesIncremental =
    (chosen : Scheme) (reads : Bool) (queries : ℕ) (at : Point)
    → next_move chosen reads queries at ≡ move.Votes
    → (chosen ≡ scheme.Incremental) × ((query : ℕ) × (at ≡ point.Begun query) × (queries < query))

-- the rounds at commit never come under incremental, and only where no query is left
abbrev pub RoundsAtCommit : Type 0
RoundsAtCommit =
    (chosen : Scheme) (reads : Bool) (queries : ℕ) (at : Point)
    → next_move chosen reads queries at ≡ move.CommitRounds
    → (chosen ≡ scheme.Incremental → ⊥)
    × ((query : ℕ) × (at ≡ point.Begun query) × (queries < query))

-- a transaction commits only after the votes
abbrev pub DecidesAfterVotes : Type 0
DecidesAfterVotes =
    (chosen : Scheme) (reads : Bool) (queries : ℕ) (at : Point)
    → next_move chosen reads queries at ≡ move.Decide → (at ≡ point.Voted) ⊎ (at ≡ point.VoteRead)

-- ---- the way from point to point

-- the point that a move leads to, once it is done; a decision leads no further
abbrev pub point_after : Point → Move → Point
point_after (point.Begun query) move.Ask = point.Stapled query
point_after (point.Begun query) move.SendQuery = point.Ran query
point_after (point.Begun query) move.CommitRounds = point.Voted
point_after (point.Begun query) move.Votes = point.Voted
point_after (point.Stapled query) move.SendQuery = point.Ran query
point_after (point.Ran query) move.Probe = point.Read query
point_after (point.Ran query) move.Validate = point.Validated query
point_after (point.Ran query) move.Following = point.Begun (query + 1)
point_after (point.Read query) move.Following = point.Begun (query + 1)
point_after (point.Validated query) move.Following = point.Begun (query + 1)
point_after point.Voted move.Probe = point.VoteRead
point_after at _ = at

-- these moves, one after another, lead from the one point to the other
abbrev pub Leads : Scheme → Bool → ℕ → Point → List Move → Point → Type 0
Leads scheme reads queries from [] to = from ≡ to
Leads scheme reads queries from (first ∷ moves) to =
    (next_move scheme reads queries from ≡ first)
    × Leads scheme reads queries (point_after from first) moves to

-- what is done for each query: punctual and incremental prove it as it runs, which incremental alone holds against the master where
-- it is read; continuous evaluates all so far; deferred only runs it
abbrev pub moves_of_query : Scheme → Bool → List Move
moves_of_query scheme.Deferred reads = move.SendQuery ∷ move.Following ∷ []
moves_of_query scheme.Punctual reads = move.Ask ∷ move.SendQuery ∷ move.Following ∷ []
moves_of_query scheme.Incremental false = move.Ask ∷ move.SendQuery ∷ move.Following ∷ []
moves_of_query scheme.Incremental true =
    move.Ask ∷ move.SendQuery ∷ move.Probe ∷ move.Following ∷ []
moves_of_query scheme.Continuous reads = move.SendQuery ∷ move.Validate ∷ move.Following ∷ []

-- what is done after the last: all but incremental evaluate all queries at commit; incremental votes alone, and reads the master once
-- more where it is read
abbrev pub moves_at_end : Scheme → Bool → List Move
moves_at_end scheme.Deferred reads = move.CommitRounds ∷ move.Decide ∷ []
moves_at_end scheme.Punctual reads = move.CommitRounds ∷ move.Decide ∷ []
moves_at_end scheme.Incremental false = move.Votes ∷ move.Decide ∷ []
moves_at_end scheme.Incremental true = move.Votes ∷ move.Probe ∷ move.Decide ∷ []
moves_at_end scheme.Continuous reads = move.CommitRounds ∷ move.Decide ∷ []

-- each query leads to the beginning of the next
abbrev pub QueriesLeadOn : Type 0
QueriesLeadOn =
    (chosen : Scheme) (reads : Bool) (queries query : ℕ) → query ≤ queries
    → Leads chosen reads queries (point.Begun query) (moves_of_query chosen reads)
    (point.Begun (query + 1))

-- the last one leads to the decision, at one of the points after the votes
abbrev pub LastQueryDecides : Type 0
LastQueryDecides =
    (chosen : Scheme) (reads : Bool) (queries : ℕ)
    → (at : Point)
    × Leads chosen reads queries (point.Begun queries)
    (moves_of_query chosen reads ++ moves_at_end chosen reads) at

-- ---- pins

-- what is added to pinned proofs leaves the pin
abbrev pub PinsStay : Type 0
PinsStay =
    (proofs : List Verdict) (proof : Verdict) (admin : AdminId) (version : Version)
    → pin_of proofs admin ≡ Some version → pin_of (proofs ++ proof ∷ []) admin ≡ Some version

-- the first proof of an administrator pins its version, and a proof of another pins nothing
abbrev pub FirstProofsPin : Type 0
FirstProofsPin =
    (proofs : List Verdict) (proof : Verdict) (admin : AdminId) → pin_of proofs admin ≡ None
    → (is_of admin proof ≡ true → pin_of (proofs ++ proof ∷ []) admin ≡ Some proof.version)
    × (is_of admin proof ≡ false → pin_of (proofs ++ proof ∷ []) admin ≡ None)

-- ---- what a reading finds

-- where its administrator is under global consistency the proof is not below the reading
abbrev pub IsNotBelow : List Level → Reading → Verdict → Type 0
IsNotBelow levels reading proof =
    is_global_at levels proof.admin ≡ true
    → (newest_in reading proof.admin).0 ≤ proof.version.0

-- nothing is found exactly where no proof is below
abbrev pub NoneWhereNoneIsBelow : Type 0
NoneWhereNoneIsBelow =
    (levels : List Level) (proofs : List Verdict) (reading : Reading)
    → (older levels proofs reading ≡ None) ↔ Each (IsNotBelow levels reading) proofs

-- the versions are those of a kept proof under global consistency and of the reading, the proof is below, and none before it is
pub record IsFirstBelow (levels : List Level) (proofs : List Verdict) (reading : Reading)
    (newer : Newer) : Type 0 where
  pub place : ℕ
  pub proof : Verdict
  pub kept : slice_get proofs place ≡ Some proof
  pub admin : newer.admin ≡ proof.admin
  pub used : newer.used ≡ proof.version
  pub found : newer.found ≡ newest_in reading proof.admin
  pub global : is_global_at levels proof.admin ≡ true
  pub below : newer.used.0 < newer.found.0
  pub first : Each (IsNotBelow levels reading) (take place proofs)

-- what is found is of the first proof that is below
abbrev pub FindsTheFirstBelow : Type 0
FindsTheFirstBelow =
    (levels : List Level) (proofs : List Verdict) (reading : Reading) (why : Cause)
    → older levels proofs reading ≡ Some why
    → (newer : Newer) × (why ≡ cause.Newer newer) × IsFirstBelow levels proofs reading newer
