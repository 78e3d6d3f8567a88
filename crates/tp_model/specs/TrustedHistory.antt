-- The trusted history: all that the report of a run shows, at any moment and once all transactions have ended.
use Rattle.std.specs.Prelude.{◌≡◌, ℕ, ◌+◌, ◌&&◌, ◌||◌, List, [], ◌∷◌, length, Bool, true, ℤ}
use Rattle.std.specs.List.{list_all, list_any}
use Rattle.tp_model.specs.Words.{Ending, Fact, Outcome, Scenario, ServerId, Step, Transaction, TxnId}
use Rattle.tp_model.specs.Words.outcome
use Rattle.tp_model.specs.Agreement.{is_agreed}
use Rattle.tp_model.specs.Causes.{is_caused}
use Rattle.tp_model.specs.Commits.{are_lone}
use Rattle.tp_model.specs.Facts.{is_decided_as, is_settled_as, is_submission}
use Rattle.tp_model.specs.Outside.{IsOutside}
use Rattle.tp_model.specs.Queries.{servers_of}
use Rattle.tp_model.specs.SerialRun.{is_serial, overlay, store_of}
use Rattle.tp_model.specs.Trust.{is_trusted}

-- ---- at any moment

-- the history agrees, its commits are trusted and serial and stand apart, and its aborts have causes; each item has its opening
-- value, overlaid by the commits that its server has settled
pub record TrustedSoFar (sc : Scenario) (steps : List Step) (facts : List Fact) (values : List ℤ)
    : Type 0 where
  pub outside : IsOutside sc steps facts
  pub agreed : is_agreed sc facts ≡ true
  pub trusted : is_trusted sc facts ≡ true
  pub caused : is_caused sc facts ≡ true
  pub serial : is_serial sc facts ≡ true
  pub lone : are_lone facts ≡ true
  pub values_are : values ≡ overlay sc facts

-- ---- once all transactions have ended

abbrev pub is_settled_everywhere : List ServerId → List Fact → TxnId → Outcome → Bool
is_settled_everywhere servers facts txn ended =
    list_all (λ (at : ServerId). list_any (is_settled_as at txn ended) facts) servers

-- the transaction was decided so, and settled so at each of its servers
abbrev pub ended_as : List ServerId → List Fact → TxnId → Outcome → Bool
ended_as servers facts txn ended =
    list_any (is_decided_as txn ended) facts && is_settled_everywhere servers facts txn ended

-- the transaction was submitted, decided, and settled with that outcome at each of its servers
abbrev pub has_ended : Scenario → List Fact → TxnId → Transaction → Bool
has_ended sc facts txn declared =
    list_any (is_submission txn) facts
    && (ended_as (servers_of sc declared) facts txn outcome.Commit
    || ended_as (servers_of sc declared) facts txn outcome.Abort)

-- so have all transactions, the first having this number
abbrev pub have_ended : Scenario → List Fact → ℕ → List Transaction → Bool
have_ended sc facts first [] = true
have_ended sc facts first (declared ∷ others) =
    has_ended sc facts (record { 0 = first }) declared && have_ended sc facts (first + 1) others

-- the history of a run of these steps: it is trusted as at any moment; every transaction was submitted, decided, and settled so at each of
-- its servers; each item has the value that all commits leave; and the steps are counted
pub record TrustedHistory (sc : Scenario) (steps : List Step) (facts : List Fact) (ending : Ending)
    : Type 0 where
  pub so_far : TrustedSoFar sc steps facts ending.values
  pub ended : have_ended sc facts 0 sc.txns ≡ true
  pub whole : ending.values ≡ store_of sc facts
  pub steps_are : ending.steps ≡ length steps
