-- Commits stand apart: no two have one place, so that one of any two is before the other.
use Rattle.std.specs.Prelude.{ℕ, ◌==◌, ◌&&◌, List, Bool, true, false, is_some}
use Rattle.std.specs.List.{count_by, list_all}
use Rattle.tp_model.specs.Words.{Fact, What}
use Rattle.tp_model.specs.Words.decision
use Rattle.tp_model.specs.Words.what
use Rattle.tp_model.specs.Facts.{record_of}

abbrev pub is_commit_what : What → Bool
is_commit_what (what.Decided txn decided) = is_some (record_of decided)
is_commit_what _ = false

-- the fact is a commit of the place
abbrev pub is_commit_at : ℕ → Fact → Bool
is_commit_at place fact = (fact.place == place) && is_commit_what fact.what

abbrev pub is_lone_what : List Fact → ℕ → What → Bool
is_lone_what facts place (what.Decided txn (decision.Commit committed)) =
    count_by (is_commit_at place) facts == 1
is_lone_what facts place _ = true

-- the rule of a fact beside all facts: a commit is the only one of its place
abbrev pub is_lone : List Fact → Fact → Bool
is_lone facts fact = is_lone_what facts fact.place fact.what

-- every commit is the only one of its place
abbrev pub are_lone : List Fact → Bool
are_lone facts = list_all (is_lone facts) facts
