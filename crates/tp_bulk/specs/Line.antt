-- The line of a large run.
use Rattle.std.specs.Prelude.{ℕ, List, [], ◌∷◌, Bool, false, codes, decimal}
use Rattle.std.specs.List.{count_by}
use Rattle.tp_model.specs.Facts.{outcome_of, same_outcome}
use Rattle.tp_model.specs.Words.{Ending, Fact, Outcome, What}
use Rattle.tp_model.specs.Words.outcome
use Rattle.tp_model.specs.Words.what
use Rattle.tp_report.specs.Tokens.{Token, last_word, text_of, word}

abbrev pub decides_what : Outcome → What → Bool
decides_what ended (what.Decided txn decided) = same_outcome (outcome_of decided) ended
decides_what ended _ = false

-- the fact decides a transaction so, whichever it is
abbrev pub decides : Outcome → Fact → Bool
decides ended fact = decides_what ended fact.what

-- `bulk N commits C aborts A steps S mails M`: so many decisions of either outcome, and so many steps and mails
abbrev pub line_tokens : ℕ → List Fact → Ending → List Token
line_tokens count facts ending =
    word (codes "bulk") ∷ word (decimal count)
    ∷ word (codes "commits") ∷ word (decimal (count_by (decides outcome.Commit) facts))
    ∷ word (codes "aborts") ∷ word (decimal (count_by (decides outcome.Abort) facts))
    ∷ word (codes "steps") ∷ word (decimal ending.steps)
    ∷ word (codes "mails") ∷ last_word (decimal ending.mails) ∷ []

abbrev pub line_of : ℕ → List Fact → Ending → List ℕ
line_of count facts ending = text_of (line_tokens count facts ending)
