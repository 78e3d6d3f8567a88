-- What the world keeps of its steps, facts and mails, and how it grows.
use Rattle.std.specs.Prelude.{◌≡◌, List, ◌∷◌, [], ◌++◌, length, replicate, true}
use Rattle.tp_model.specs.Words.{Letter, Step, What}
use Rattle.tp_machine.specs.declared.history.History.{History}
use Rattle.tp_machine.specs.Machine.{facts_of, mails_of}

-- nothing happened
pub record IsEmpty (history : History) : Type 0 where
  pub steps : history.steps ≡ []
  pub facts : history.facts ≡ []
  pub mails : history.mails ≡ []
  pub pending : history.pending ≡ []

-- the step is added with what happened in it and its letters, whose mails are undelivered
pub record Notes (old new : History) (taken : Step) (happened : List What) (letters : List Letter)
    : Type 0 where
  pub steps : new.steps ≡ old.steps ++ taken ∷ []
  pub facts : new.facts ≡ old.facts ++ facts_of (length old.steps) happened
  pub mails : new.mails ≡ old.mails ++ mails_of (length old.steps) (length old.mails) letters
  pub pending : new.pending ≡ old.pending ++ replicate (length letters) true

-- nothing is added or delivered
pub record SameHistory (old new : History) : Type 0 where
  pub steps : new.steps ≡ old.steps
  pub facts : new.facts ≡ old.facts
  pub mails : new.mails ≡ old.mails
  pub pending : new.pending ≡ old.pending
