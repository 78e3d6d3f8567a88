-- A replicated master as its callers see it, and what its calls do.
use Rattle.std.specs.Prelude.{◌≡◌, ℕ, ◌+◌, ◌<◌, ◌≤◌, ◌^◌, List, [], ◌∷◌, ◌++◌, length, replicate, Bool, true, false, Option, Some, None, if◌then◌else◌}
use Rattle.tp_quorum.specs.Acts.{machine_of}
use Rattle.tp_quorum.specs.Automatic.{at_rest, automatic_steps, bound, next_of, running_count}
use Rattle.tp_quorum.specs.Machine.{IsStepOf, Machine, after, machine_after, opened_replica, refusal}
use Rattle.tp_quorum.specs.OneMaster.{ends}
use Rattle.tp_quorum.specs.Replica.{first_version}
use Rattle.tp_quorum.specs.Words.{Answer, Operation, Phase, QError, QFact, QStep, QWhat, Sizes, Version}
use Rattle.tp_quorum.specs.Words.answer
use Rattle.tp_quorum.specs.Words.error
use Rattle.tp_quorum.specs.Words.phase
use Rattle.tp_quorum.specs.Words.step
use Rattle.tp_quorum.specs.Words.what
use Rattle.tp_quorum.specs.declared.acts.Members.{Members}
use Rattle.tp_quorum.specs.declared.ledger.Ledger.{Ledger}
use Rattle.tp_types.specs.Each.{Each}

pub record QuorumView : Type 0 where
  pub sizes : Sizes
  pub machine : Machine
  pub given_up : Bool

-- the machine is what some list of steps that name what exists gives, where there is a replica
pub record IsReached (sizes : Sizes) (m : Machine) : Type 0 where
  pub some : 1 ≤ sizes.replicas
  pub steps : List QStep
  pub named : Each (IsStepOf sizes) steps
  pub is : m ≡ after sizes steps

-- the parts of a replicated master that is not given up
pub record IsRun (sizes : Sizes) (members : Members) (ledger : Ledger) : Type 0 where
  pub small : sizes.replicas < 2 ^ 32
  pub numbered : length ledger.pending ≡ length ledger.mails
  pub few : length members.ops + 1 < 2 ^ 32
  pub reached : IsReached sizes (machine_of members ledger)

-- one more operation has a number of 32 bits
abbrev pub CanBegin : Machine → QStep → Type 0
CanBegin m (step.Publish admin) = length m.state.ops + 2 < 2 ^ 32
CanBegin m (step.Read reader admin) = length m.state.ops + 2 < 2 ^ 32
CanBegin m _ = Unit {0}

-- the step was not refused, and is done
pub record Does (old new : QuorumView) (taken : QStep) : Type 0 where
  pub was_up : old.given_up ≡ false
  pub done : refusal old.machine.state taken ≡ None
  pub now : new ≡ record old { machine = machine_after old.machine taken }

-- it was refused and nothing changed
pub record IsRefused (old new : QuorumView) (taken : QStep) (why : QError) : Type 0 where
  pub was_up : old.given_up ≡ false
  pub why_is : refusal old.machine.state taken ≡ Some why
  pub now : new ≡ old

-- memory was refused, now or before
abbrev pub Refuses : QuorumView → QuorumView → QStep → QError → Type 0
Refuses old new taken error.NoMemory = new.given_up ≡ true
Refuses old new taken why = IsRefused old new taken why

-- ---- the automatic phase

-- the step names what exists, may begin what it begins, and is not refused
pub record IsNext (sizes : Sizes) (m : Machine) (taken : QStep) : Type 0 where
  pub named : IsStepOf sizes taken
  pub begins : CanBegin m taken
  pub done : refusal m.state taken ≡ None

-- the automatic steps of a machine, of which there are no more than its bound
abbrev pub steps_left : Machine → List QStep
steps_left m = automatic_steps (bound m) m

-- these steps were done, one after another and none of them refused; then nothing is left to do, and every operation has
-- ended
pub record Drains (old new : QuorumView) : Type 0 where
  pub was_up : old.given_up ≡ false
  pub now : new ≡ record old { machine = at_rest old.machine }
  pub steps : new.machine.state.steps ≡ old.machine.state.steps ++ steps_left old.machine
  pub few : length (steps_left old.machine) ≤ bound old.machine
  pub quiet : next_of new.machine ≡ None
  pub ended : running_count new.machine.state.ops ≡ 0

-- ---- before the first step

abbrev pub opened_members : Sizes → Members
opened_members sizes =
    record {
      replicas = replicate sizes.replicas (opened_replica sizes.admins);
      ops = [];
      last = replicate sizes.admins first_version;
    }

abbrev pub opened_ledger : Ledger
opened_ledger = record { mails = []; pending = []; facts = []; steps = [] }

-- ---- what came of an operation

abbrev pub phase_answer : Phase → Answer
phase_answer (phase.Ended version) = answer.Done version
phase_answer _ = answer.Pending

abbrev pub answer_of : Option Operation → Answer
answer_of None = answer.Pending
answer_of (Some o) = phase_answer o.phase

-- the version with which an operation ended, by the facts, if it did
abbrev pub end_by : QWhat → Option Version
end_by (what.Ended op version) = Some version
end_by _ = None

abbrev pub end_of : ℕ → List QFact → Option Version
end_of op [] = None
end_of op (fact ∷ facts) = if ends op fact.what then end_by fact.what else end_of op facts

-- what they say of it: it ended with this version, or has not ended
abbrev pub answer_by : Option Version → Answer
answer_by None = answer.Pending
answer_by (Some version) = answer.Done version
