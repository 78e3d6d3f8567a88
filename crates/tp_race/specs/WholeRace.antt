-- The list of steps of a race: what stands in it of its scenario's scripts and of its mails, and what comes behind the
-- book.
use Rattle.std.specs.Prelude.{◌≡◌, ◌<◌, ◌≤◌, ℕ, List, [], ◌∷◌, length, Bool, true, false, ◌==◌}
use Rattle.std.specs.List.{count_by, list_all, sum_by}
use Rattle.tp_auto.specs.Auto.{is_quiet}
use Rattle.tp_ends.specs.After.{all_after, final_after}
use Rattle.tp_machine.specs.Named.{IsTxn}
use Rattle.tp_model.specs.Ids.{same_txn}
use Rattle.tp_model.specs.Words.step
use Rattle.tp_model.specs.Words.{Scenario, Step, TxnId}
use Rattle.tp_types.specs.Each.{Each}
use Rattle.tp_race.specs.Callers.{scripts_of}

-- the first list has members of the second, in the order in which they stand there
pub data IsWithin {A : Type 0} : List A → List A → Type 0 where
  Nothing : (ys : List A) → IsWithin [] ys
  Kept : (x : A) (xs ys : List A) → IsWithin xs ys → IsWithin (x ∷ xs) (x ∷ ys)
  Passed : (y : A) (xs ys : List A) → IsWithin xs ys → IsWithin xs (y ∷ ys)

abbrev pub submits : TxnId → Step → Bool
submits txn (step.Submit other) = same_txn other txn
submits txn _ = false

abbrev pub delivers : ℕ → Step → Bool
delivers mail (step.Deliver other) = other == mail
delivers mail _ = false

abbrev pub is_timer : Step → Bool
is_timer (step.Timer txn) = true
is_timer _ = false

-- a step that comes from publishers and officers alone
abbrev pub is_office_step : Step → Bool
is_office_step (step.Publish admin) = true
is_office_step (step.Push admin server) = true
is_office_step (step.Revoke cred) = true
is_office_step (step.Tick by) = true
is_office_step _ = false

-- a step that a race may have: it loses no mail, and nobody crashes or boots
abbrev pub is_race_step : Step → Bool
is_race_step (step.Lose mail) = false
is_race_step (step.Crash who cut) = false
is_race_step (step.Boot who) = false
is_race_step _ = true

-- a test of steps that only those of publishers and officers pass
abbrev pub IsOfOffices : (Step → Bool) → Type 0
IsOfOffices p = (taken : Step) → p taken ≡ true → is_office_step taken ≡ true

-- All steps of a race: those of the book, and the automatic ones after them. Each transaction stands in one submission.
-- Each script is within the list. Whatever is asked of the steps of publishers and officers is so as often in the list
-- as in all scripts. Each mail's number stands in one delivery, and no other number does. No mail is lost, nobody
-- crashes or boots. Timers stand behind the book alone. The machine is quiet
pub record WholeRace (sc : Scenario) (book : List Step) : Type 0 where
  pub submitted : (txn : TxnId) → IsTxn sc txn → count_by (submits txn) (all_after sc book) ≡ 1
  pub scripts : Each (λ (script : List Step). IsWithin script (all_after sc book)) (scripts_of sc)
  pub as_often : (p : Step → Bool) → IsOfOffices p
      → count_by p (all_after sc book) ≡ sum_by (count_by p) (scripts_of sc)
  pub delivered : (mail : ℕ) → mail < length (final_after sc book).state.mails
      → count_by (delivers mail) (all_after sc book) ≡ 1
  pub unsent : (mail : ℕ) → 1 ≤ count_by (delivers mail) (all_after sc book)
      → mail < length (final_after sc book).state.mails
  pub steps : list_all is_race_step (all_after sc book) ≡ true
  pub untimed : count_by is_timer book ≡ 0
  pub quiet : is_quiet sc (final_after sc book) ≡ true
