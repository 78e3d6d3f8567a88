-- Agreement: no two actors decide a transaction differently.
use Rattle.std.specs.Prelude.{ℕ, ◌+◌, ◌&&◌, List, [], ◌∷◌, slice_get, take, Bool, true, false, not}
use Rattle.std.specs.List.{list_any}
use Rattle.std.specs.Option.{option_map_or}
use Rattle.tp_model.specs.Words.{Fact, Outcome, Scenario, ServerId, Transaction, TxnId, What}
use Rattle.tp_model.specs.Words.outcome
use Rattle.tp_model.specs.Words.what
use Rattle.tp_model.specs.Facts.{before, is_decided_as, is_decision, is_settlement, is_submission, was_submitted}
use Rattle.tp_model.specs.Queries.{is_at_server}

abbrev pub has_item : Scenario → ServerId → Transaction → Bool
has_item sc at declared = list_any (is_at_server sc at.0) declared.queries

-- the transaction has a query on an item of the server
abbrev pub has_item_at : Scenario → ServerId → TxnId → Bool
has_item_at sc at txn = option_map_or (has_item sc at) (slice_get sc.txns txn.0) false

-- a commit is settled only after it was decided, and an abort only where no commit is ever decided
abbrev pub follows_decision : TxnId → ℕ → List Fact → Outcome → Bool
follows_decision txn place facts outcome.Commit =
    list_any (is_decided_as txn outcome.Commit) (before place facts)
follows_decision txn place facts outcome.Abort =
    not (list_any (is_decided_as txn outcome.Commit) facts)

-- a transaction is submitted at most once, and decided at most once and after that; a server settles it at most once, after its
-- submission, where it has an item there, and as it was decided. Of two that may not both be, the second in the list fails: `earlier`
-- are the facts that stand before this one in the list of all facts
abbrev pub keeps_agreement_what : Scenario → List Fact → List Fact → ℕ → What → Bool
keeps_agreement_what sc facts earlier place (what.Submitted txn) =
    not (list_any (is_submission txn) earlier)
keeps_agreement_what sc facts earlier place (what.Decided txn decided) =
    not (list_any (is_decision txn) earlier) && was_submitted txn place facts
keeps_agreement_what sc facts earlier place (what.Settled at txn ended) =
    not (list_any (is_settlement at txn) earlier)
    && (was_submitted txn place facts && has_item_at sc at txn)
    && follows_decision txn place facts ended
keeps_agreement_what sc facts earlier place _ = true

-- the rule of a fact beside all facts, and beside those that stand before it in the list
abbrev pub keeps_agreement : Scenario → List Fact → List Fact → Fact → Bool
keeps_agreement sc facts earlier fact = keeps_agreement_what sc facts earlier fact.place fact.what

-- all facts from this number on keep agreement
abbrev pub agree_from : Scenario → List Fact → ℕ → List Fact → Bool
agree_from sc facts number [] = true
agree_from sc facts number (fact ∷ later) =
    keeps_agreement sc facts (take number facts) fact && agree_from sc facts (number + 1) later

-- every fact keeps agreement
abbrev pub is_agreed : Scenario → List Fact → Bool
is_agreed sc facts = agree_from sc facts 0 facts
