-- What holds of every run of the machine.
use Rattle.std.specs.Prelude.{◌≡◌, ◌*◌, ◌^◌, ◌<◌, ◌≤◌, ◌&&◌, Bool, List, length, not, true, ℕ}
use Rattle.tp_model.specs.Words.actor
use Rattle.tp_model.specs.Words.step
use Rattle.tp_model.specs.Words.{Scenario, Step, TxnId}
use Rattle.tp_model.specs.Valid.{is_valid}
use Rattle.tp_model.specs.SerialRun.{store_of}
use Rattle.tp_model.specs.TrustedHistory.{TrustedSoFar, have_ended}
use Rattle.tp_model.specs.Printable.{is_printable}
use Rattle.tp_machine.specs.declared.actors.Actors.{Actors}
use Rattle.tp_machine.specs.Machine.{State, after, ending_of, is_armed_at, is_down, is_submitted}
use Rattle.tp_machine.specs.WorldView.{WorldView}
use Rattle.tp_types.specs.Each.{Each}
use Rattle.tp_machine.specs.Fits.{AllFitLogs}
use Rattle.tp_machine.specs.Named.{IsStepOf, IsTxn}

-- the history of a state is trusted at this moment
abbrev pub IsTrustedState : Scenario → State → Type 0
IsTrustedState sc w = TrustedSoFar sc w.steps w.facts (ending_of sc w).values

-- what a world shows at any moment is a trusted history
abbrev pub IsTrustedSoFar : WorldView → Type 0
IsTrustedSoFar world = IsTrustedState world.scenario world.machine.state

-- where all transactions have ended at all their servers, the values are those that all commits leave
abbrev pub HasAllCommits : Scenario → State → Type 0
HasAllCommits sc w =
    have_ended sc w.facts 0 sc.txns ≡ true → (ending_of sc w).values ≡ store_of sc w.facts

-- the transaction was submitted, and its coordinator is up and has no request outstanding: each of its servers has acknowledged its end
abbrev pub is_finished : Actors → TxnId → Bool
is_finished actors txn =
    is_submitted actors txn && not (is_down actors (actor.Coordinator txn))
    && not (is_armed_at actors txn)

-- each transaction is finished
abbrev pub AreFinished : Scenario → State → Type 0
AreFinished sc w = (txn : TxnId) → IsTxn sc txn → is_finished w.actors txn ≡ true

-- where each is finished, each was decided, and settled so at each of its servers
abbrev pub HasAllEnds : Scenario → State → Type 0
HasAllEnds sc w = AreFinished sc w → have_ended sc w.facts 0 sc.txns ≡ true

-- of every scenario that is run, after every list of steps that name what exists, the history is trusted so far
abbrev pub IsAlwaysTrusted : Type 0
IsAlwaysTrusted =
    (sc : Scenario) (steps : List Step) → is_valid sc ≡ true → Each (IsStepOf sc) steps
    → IsTrustedState sc (after sc steps).state

-- and where all transactions have ended, nothing that was committed is missing
abbrev pub HasAlwaysAllCommits : Type 0
HasAlwaysAllCommits =
    (sc : Scenario) (steps : List Step) → is_valid sc ≡ true → Each (IsStepOf sc) steps
    → HasAllCommits sc (after sc steps).state

-- and where all are finished, all have ended
abbrev pub HasAlwaysAllEnds : Type 0
HasAlwaysAllEnds =
    (sc : Scenario) (steps : List Step) → is_valid sc ≡ true → Each (IsStepOf sc) steps
    → HasAllEnds sc (after sc steps).state

-- so many mails come on each step, if each query that waits counts as one more: a server that boots asks the coordinator of each
-- transaction that it has prepared, and a scenario has at most 128 transactions; no other step sends more than 16, but for the queries that
-- it lets go on
abbrev pub mails_most : ℕ
mails_most = 128

-- of every scenario that is run a list of steps that name what exists sends few mails: at most 128 times as many as it has steps
abbrev pub SendsFewMails : Type 0
SendsFewMails =
    (sc : Scenario) (steps : List Step) → is_valid sc ≡ true → Each (IsStepOf sc) steps
    → length (after sc steps).state.mails ≤ mails_most * length steps

-- the numbers that a step says are of 64 bits
abbrev pub HasNumbers : Step → Type 0
HasNumbers (step.Tick by) = by < 2 ^ 64
HasNumbers (step.Lose mail) = mail < 2 ^ 64
HasNumbers _ = Unit {0}

-- what a state shows may be printed as a report
abbrev pub IsPrintableState : Scenario → State → Type 0
IsPrintableState sc w = is_printable sc w.facts (ending_of sc w) ≡ true

-- of every scenario that is run, after every list of fewer than 2^57 steps that name what exists, so that a count of mails
-- is of 64 bits too
abbrev pub IsAlwaysPrintable : Type 0
IsAlwaysPrintable =
    (sc : Scenario) (steps : List Step) → is_valid sc ≡ true → Each (IsStepOf sc) steps
    → Each HasNumbers steps → length steps < 2 ^ 57 → IsPrintableState sc (after sc steps).state

-- of every scenario that is run, after every list of steps that name what exists, each record on each actor's log fits
-- a log
abbrev pub AlwaysFitLogs : Type 0
AlwaysFitLogs = (sc : Scenario) → is_valid sc ≡ true → AllFitLogs sc
