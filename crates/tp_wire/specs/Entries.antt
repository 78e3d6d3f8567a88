-- What a history says: its steps, its facts and its mails.
use Rattle.std.specs.Prelude.{ℕ, ◌+◌, List, [], ◌∷◌, ◌++◌, length, map}
use Rattle.tp_types.specs.declared.fact.Fact.{Fact}
use Rattle.tp_types.specs.declared.fact.What.{What}
use Rattle.tp_types.specs.declared.mail.Letter.{Letter}
use Rattle.tp_types.specs.declared.mail.Mail.{Mail}
use Rattle.tp_types.specs.declared.scenario.Step.{Step}
use Rattle.tp_wire.specs.declared.view.Entry.{Entry}

-- the steps in order
abbrev pub steps_in : List Entry → List Step
steps_in log = map (λ (e : Entry). e.step) log

-- what happened, as facts of one place
abbrev pub facts_of : ℕ → List What → List Fact
facts_of place happened = map (λ (w : What). record { place = place; what = w }) happened

abbrev pub facts_from : ℕ → List Entry → List Fact
facts_from place [] = []
facts_from place (e ∷ es) = facts_of place e.happened ++ facts_from (place + 1) es

-- the facts in order: what happened in a step has the step's place
abbrev pub facts_in : List Entry → List Fact
facts_in log = facts_from 0 log

-- letters as mails of rising numbers, sent at one place
abbrev pub mails_of : ℕ → ℕ → List Letter → List Mail
mails_of place number [] = []
mails_of place number (letter ∷ letters) = record { number = number; sent = place; letter = letter } ∷ mails_of place (number + 1) letters

abbrev pub mails_from : ℕ → ℕ → List Entry → List Mail
mails_from place number [] = []
mails_from place number (e ∷ es) = mails_of place number e.letters ++ mails_from (place + 1) (number + length e.letters) es

-- the mails in order: each letter is the next mail, sent at its step's place
abbrev pub mails_in : List Entry → List Mail
mails_in log = mails_from 0 0 log

-- how many mails were sent
abbrev pub sent_in : List Entry → ℕ
sent_in [] = 0
sent_in (e ∷ es) = length e.letters + sent_in es
