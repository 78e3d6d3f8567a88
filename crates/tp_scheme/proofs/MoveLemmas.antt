-- The table of moves, case by case.
use Rattle.std.proofs.Common.{◌≡◌, ◌<◌, ◌≤◌, ◌+◌, ◌⊎◌, ℕ, Bool, true, false, cond, leb, refl, subst, inl, inr, arith}
use Rattle.std.proofs.lemmas.Bool.{le-leb, leb-false, leb-true, lt-leb}
use Rattle.tp_model.specs.Words.{Scheme}
use Rattle.tp_model.specs.Words.scheme
use Rattle.tp_scheme.specs.declared.moves.Move.{Move}
use Rattle.tp_scheme.specs.declared.moves.Point.{Point}
use Rattle.tp_scheme.specs.Laws.{AsksBeforeProved, BeginningsAct, DecidesAfterVotes, LastQueryDecides, ProbesIncremental, QueriesLeadOn, RoundsAtCommit, SendsUnproved, ValidatesContinuous, VotesIncremental}
use Rattle.tp_scheme.specs.Moves.{after_queries, after_run, after_votes, before_query, next_move, proves_each}
use Rattle.tp_scheme.specs.Moves.move
use Rattle.tp_scheme.specs.Moves.point

-- ---- which move comes where

-- what a move says of the scheme, of whether the master is read, and of the point
abbrev pub Says : Scheme → Bool → ℕ → Point → Move → Type 0
Says chosen reads queries at move.Ask = (proves_each chosen ≡ true) × ((query : ℕ) × (at ≡ point.Begun query) × (query ≤ queries))
Says chosen reads queries at move.SendQuery = (query : ℕ) → at ≡ point.Begun query → (proves_each chosen ≡ false) × (query ≤ queries)
Says chosen reads queries at move.Probe = (chosen ≡ scheme.Incremental) × (reads ≡ true) × (((query : ℕ) × (at ≡ point.Ran query)) ⊎ (at ≡ point.Voted))
Says chosen reads queries at move.Validate = (chosen ≡ scheme.Continuous) × ((query : ℕ) × (at ≡ point.Ran query))
Says chosen reads queries at move.CommitRounds = (chosen ≡ scheme.Incremental → ⊥) × ((query : ℕ) × (at ≡ point.Begun query) × (queries < query))
Says chosen reads queries at move.Votes = (chosen ≡ scheme.Incremental) × ((query : ℕ) × (at ≡ point.Begun query) × (queries < query))
Says chosen reads queries at move.Decide = (at ≡ point.Voted) ⊎ (at ≡ point.VoteRead)
Says chosen reads queries at move.Following = (query : ℕ) → at ≡ point.Begun query → ⊥

sent_at : (scheme : Scheme) (queries query : ℕ) → proves_each scheme ≡ false → query ≤ queries
    → (other : ℕ) → point.Begun query ≡ point.Begun other → (proves_each scheme ≡ false) × (other ≤ queries)
sent_at scheme queries query each le other same = (each, subst (λ n. n ≤ queries) (cc) le)

begun_says : (scheme : Scheme) (reads : Bool) (queries query : ℕ) (b : Bool) → leb query queries ≡ b
    → Says scheme reads queries (point.Begun query) (cond b (before_query scheme) (after_queries scheme))
begun_says scheme.Deferred reads queries query true e = sent_at scheme.Deferred queries query refl (leb-true query queries e)
begun_says scheme.Punctual reads queries query true e = (refl, (query, refl, leb-true query queries e))
begun_says scheme.Incremental reads queries query true e = (refl, (query, refl, leb-true query queries e))
begun_says scheme.Continuous reads queries query true e = sent_at scheme.Continuous queries query refl (leb-true query queries e)
begun_says scheme.Deferred reads queries query false e = (λ same. cc, (query, refl, leb-false query queries e))
begun_says scheme.Punctual reads queries query false e = (λ same. cc, (query, refl, leb-false query queries e))
begun_says scheme.Incremental reads queries query false e = (refl, (query, refl, leb-false query queries e))
begun_says scheme.Continuous reads queries query false e = (λ same. cc, (query, refl, leb-false query queries e))

ran_says : (scheme : Scheme) (reads : Bool) (queries query : ℕ) → Says scheme reads queries (point.Ran query) (after_run scheme reads)
ran_says scheme.Deferred reads queries query = λ other same. cc
ran_says scheme.Punctual reads queries query = λ other same. cc
ran_says scheme.Incremental true queries query = (refl, refl, inl (query, refl))
ran_says scheme.Incremental false queries query = λ other same. cc
ran_says scheme.Continuous reads queries query = (refl, (query, refl))

voted_says : (scheme : Scheme) (reads : Bool) (queries : ℕ) → Says scheme reads queries point.Voted (after_votes scheme reads)
voted_says scheme.Deferred reads queries = inl refl
voted_says scheme.Punctual reads queries = inl refl
voted_says scheme.Incremental true queries = (refl, refl, inr refl)
voted_says scheme.Incremental false queries = inl refl
voted_says scheme.Continuous reads queries = inl refl

says : (scheme : Scheme) (reads : Bool) (queries : ℕ) (at : Point) → Says scheme reads queries at (next_move scheme reads queries at)
says scheme reads queries (point.Begun query) = begun_says scheme reads queries query (leb query queries) refl
says scheme reads queries (point.Stapled query) = λ other same. cc
says scheme reads queries (point.Ran query) = ran_says scheme reads queries query
says scheme reads queries (point.Read query) = λ other same. cc
says scheme reads queries (point.Validated query) = λ other same. cc
says scheme reads queries point.Voted = voted_says scheme reads queries
says scheme reads queries point.VoteRead = inr refl

moved : (scheme : Scheme) (reads : Bool) (queries : ℕ) (at : Point) (next : Move) → next_move scheme reads queries at ≡ next → Says scheme reads queries at next
moved scheme reads queries at next e = subst (Says scheme reads queries at) e (says scheme reads queries at)

pub beginnings_act : BeginningsAct
beginnings_act scheme reads queries query e = moved scheme reads queries (point.Begun query) move.Following e query refl

pub sends_unproved : SendsUnproved
sends_unproved scheme reads queries query e = moved scheme reads queries (point.Begun query) move.SendQuery e query refl

pub asks_before_proved : AsksBeforeProved
asks_before_proved scheme reads queries at e = moved scheme reads queries at move.Ask e

pub probes_incremental : ProbesIncremental
probes_incremental scheme reads queries at e = moved scheme reads queries at move.Probe e

pub validates_continuous : ValidatesContinuous
validates_continuous scheme reads queries at e = moved scheme reads queries at move.Validate e

pub votes_incremental : VotesIncremental
votes_incremental scheme reads queries at e = moved scheme reads queries at move.Votes e

pub rounds_at_commit : RoundsAtCommit
rounds_at_commit scheme reads queries at e = moved scheme reads queries at move.CommitRounds e

pub decides_after_votes : DecidesAfterVotes
decides_after_votes scheme reads queries at e = moved scheme reads queries at move.Decide e

-- ---- the way from point to point

pub queries_lead_on : QueriesLeadOn
queries_lead_on scheme.Deferred reads queries query le = (rw (le-leb query queries le) refl, (refl, refl))
queries_lead_on scheme.Punctual reads queries query le = (rw (le-leb query queries le) refl, (refl, (refl, refl)))
queries_lead_on scheme.Incremental false queries query le = (rw (le-leb query queries le) refl, (refl, (refl, refl)))
queries_lead_on scheme.Incremental true queries query le = (rw (le-leb query queries le) refl, (refl, (refl, (refl, refl))))
queries_lead_on scheme.Continuous reads queries query le = (rw (le-leb query queries le) refl, (refl, (refl, refl)))

there : (queries : ℕ) → leb queries queries ≡ true
there queries = le-leb queries queries (omega arith)

past : (queries : ℕ) → leb (queries + 1) queries ≡ false
past queries = lt-leb (queries + 1) queries (omega arith)

pub last_query_decides : LastQueryDecides
last_query_decides scheme.Deferred reads queries = (point.Voted, (rw (there queries) refl, (refl, (rw (past queries) refl, (refl, refl)))))
last_query_decides scheme.Punctual reads queries = (point.Voted, (rw (there queries) refl, (refl, (refl, (rw (past queries) refl, (refl, refl))))))
last_query_decides scheme.Incremental false queries = (point.Voted, (rw (there queries) refl, (refl, (refl, (rw (past queries) refl, (refl, refl))))))
last_query_decides scheme.Incremental true queries = (point.VoteRead, (rw (there queries) refl, (refl, (refl, (refl, (rw (past queries) refl, (refl, (refl, refl))))))))
last_query_decides scheme.Continuous reads queries = (point.Voted, (rw (there queries) refl, (refl, (refl, (rw (past queries) refl, (refl, refl))))))
