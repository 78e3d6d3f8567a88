-- Trust: how many instances a transaction has closed, and how many proofs it has gathered, where it has passed a point of a query.
use Rattle.std.proofs.Common.{Bool, arith, false, refl, true, ℕ, ◌+◌, ◌-◌, ◌≡◌, ◌≤◌}
use Rattle.tp_model.specs.Words.scheme
use Rattle.tp_model.specs.Words.{Scheme}
use Rattle.tp_coord.specs.declared.coordinator.Phase.TheVariants as phase
use Rattle.tp_coord.specs.declared.coordinator.Span.TheVariants as span
use Rattle.tp_coord.specs.declared.coordinator.Span.{Span}
use Rattle.tp_round.specs.declared.round.Round.{Round}
use Rattle.tp_scheme.specs.Moves.{next_move}
use Rattle.tp_scheme.specs.declared.moves.Move.TheVariants as move
use Rattle.tp_scheme.specs.declared.moves.Point.TheVariants as point
use Rattle.tp_scheme.specs.declared.moves.Point.{Point}
use Rattle.tp_runs.proofs.trust.Instances.{closed_in, gathered_in}

-- the point comes after the query of this number ran
pub data IsPast : Point → ℕ → Type 0 where
  AfterRun : (number : ℕ) → IsPast (point.Ran number) number
  AfterRead : (number : ℕ) → IsPast (point.Read number) number
  AfterValidation : (number : ℕ) → IsPast (point.Validated number) number

-- where a query ran: incremental closes its instance once the master was read, if it is, and continuous once it was validated
abbrev pub closed_ran : Scheme → Bool → ℕ → ℕ
closed_ran scheme.Deferred reads number = 0
closed_ran scheme.Punctual reads number = number
closed_ran scheme.Incremental true number = number - 1
closed_ran scheme.Incremental false number = number
closed_ran scheme.Continuous reads number = number - 1

abbrev pub closed_later : Scheme → ℕ → ℕ
closed_later scheme.Deferred number = 0
closed_later _ number = number

abbrev pub closed_past : Scheme → Bool → Point → ℕ
closed_past chosen reads (point.Ran number) = closed_ran chosen reads number
closed_past chosen reads (point.Read number) = closed_later chosen number
closed_past chosen reads (point.Validated number) = closed_later chosen number
closed_past chosen reads _ = 0

abbrev pub gathered_past : Scheme → ℕ → ℕ
gathered_past scheme.Incremental number = number
gathered_past _ number = 0

later_as : (chosen : Scheme) (queries number : ℕ) → closed_later chosen number ≡ closed_in chosen queries (phase.Stapling (number + 1))
later_as scheme.Deferred queries number = refl
later_as scheme.Punctual queries number = omega arith
later_as scheme.Incremental queries number = omega arith
later_as scheme.Continuous queries number = omega arith

ran_as_before : (chosen : Scheme) (reads : Bool) (queries number : ℕ) → next_move chosen reads queries (point.Ran number) ≡ move.Following → closed_ran chosen reads number ≡ closed_in chosen queries (phase.Stapling (number + 1))
ran_as_before scheme.Deferred reads queries number e = refl
ran_as_before scheme.Punctual reads queries number e = omega arith
ran_as_before scheme.Incremental true queries number e = absurd (cc)
ran_as_before scheme.Incremental false queries number e = omega arith
ran_as_before scheme.Continuous reads queries number e = absurd (cc)

-- where the next query begins, as many are closed as before it
pub closed_before_next : (chosen : Scheme) (reads : Bool) (queries number : ℕ) (at : Point) → IsPast at number → next_move chosen reads queries at ≡ move.Following → closed_past chosen reads at ≡ closed_in chosen queries (phase.Stapling (number + 1))
closed_before_next chosen reads queries _ _ (AfterRun number) e = ran_as_before chosen reads queries number e
closed_before_next chosen reads queries _ _ (AfterRead number) e = later_as chosen queries number
closed_before_next chosen reads queries _ _ (AfterValidation number) e = later_as chosen queries number

pub gathered_before_next : (chosen : Scheme) (queries number : ℕ) → gathered_past chosen number ≡ gathered_in chosen queries (phase.Stapling (number + 1))
gathered_before_next scheme.Deferred queries number = refl
gathered_before_next scheme.Punctual queries number = refl
gathered_before_next scheme.Incremental queries number = omega arith
gathered_before_next scheme.Continuous queries number = refl

-- the number of queries counts for nothing there
pub past_as : (chosen : Scheme) (reads : Bool) (counted queries number : ℕ) (at : Point) → IsPast at number → next_move chosen reads counted at ≡ move.Following → closed_past chosen reads at ≡ closed_in chosen queries (phase.Stapling (number + 1))
past_as chosen reads counted queries _ _ (AfterRun number) e = closed_before_next chosen reads queries number (point.Ran number) (AfterRun number) e
past_as chosen reads counted queries _ _ (AfterRead number) e = closed_before_next chosen reads queries number (point.Read number) (AfterRead number) e
past_as chosen reads counted queries _ _ (AfterValidation number) e = closed_before_next chosen reads queries number (point.Validated number) (AfterValidation number) e

-- how many requests of a query there are at the most, up to the point
abbrev pub asked_past : Point → ℕ
asked_past (point.Ran number) = 2
asked_past _ = 53

pub asked_few : (at : Point) → asked_past at ≤ 53
asked_few (point.Ran number) = omega arith
asked_few (point.Begun number) = omega arith
asked_few (point.Stapled number) = omega arith
asked_few (point.Read number) = omega arith
asked_few (point.Validated number) = omega arith
asked_few point.Voted = omega arith
asked_few point.VoteRead = omega arith

-- a move at a point, and what it says of the scheme
pub record IsProbed (chosen : Scheme) (reads : Bool) : Type 0 where
  pub incremental : chosen ≡ scheme.Incremental
  pub reads_it : reads ≡ true

-- as many are closed where the master is asked after a query
pub closed_probing : (chosen : Scheme) (queries number : ℕ) (reads : Bool) → IsProbed chosen reads → closed_ran chosen reads number ≡ closed_in chosen queries (phase.Probing number)
closed_probing scheme.Incremental queries number true k = refl
closed_probing scheme.Incremental queries number false k = let wrong = k.reads_it in absurd (cc)
closed_probing scheme.Deferred queries number reads k = let wrong = k.incremental in absurd (cc)
closed_probing scheme.Punctual queries number reads k = let wrong = k.incremental in absurd (cc)
closed_probing scheme.Continuous queries number reads k = let wrong = k.incremental in absurd (cc)

pub gathered_probing : (chosen : Scheme) (queries number : ℕ) → chosen ≡ scheme.Incremental → gathered_past chosen number ≡ gathered_in chosen queries (phase.Probing number)
gathered_probing scheme.Incremental queries number e = refl
gathered_probing scheme.Deferred queries number e = absurd (cc)
gathered_probing scheme.Punctual queries number e = absurd (cc)
gathered_probing scheme.Continuous queries number e = absurd (cc)

-- and where the queries so far are evaluated
pub closed_validating : (chosen : Scheme) (queries number : ℕ) (reads : Bool) (round : Round) → chosen ≡ scheme.Continuous → closed_ran chosen reads number ≡ closed_in chosen queries (phase.Asking (span.Validate number) round)
closed_validating scheme.Continuous queries number reads round e = refl
closed_validating scheme.Deferred queries number reads round e = absurd (cc)
closed_validating scheme.Punctual queries number reads round e = absurd (cc)
closed_validating scheme.Incremental queries number reads round e = absurd (cc)

pub gathered_validating : (chosen : Scheme) (queries number : ℕ) (over : Span) (round : Round) → chosen ≡ scheme.Continuous → gathered_past chosen number ≡ gathered_in chosen queries (phase.Asking over round)
gathered_validating scheme.Continuous queries number over round e = refl
gathered_validating scheme.Deferred queries number over round e = absurd (cc)
gathered_validating scheme.Punctual queries number over round e = absurd (cc)
gathered_validating scheme.Incremental queries number over round e = absurd (cc)
