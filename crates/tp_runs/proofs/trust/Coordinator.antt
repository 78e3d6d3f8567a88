-- Trust, the coordinator: it awaits answers to requests that fit, commits on what its transaction's scheme demands, whose proofs are right,
-- true and of one version, and aborts for causes that facts show.
use Rattle.std.proofs.Common.{IfSome, List, None, Option, Some, [], is_none, length, refl, slice_get, subst, true, ℕ, ◌∷◌, ◌≡◌, ◌≤◌}
use Rattle.tp_types.proofs.EachLemmas.{missing}
use Rattle.tp_types.specs.Each.{Each}
use Rattle.tp_types.specs.Effect.{Effect, ignores}
use Rattle.tp_model.specs.Causes.{are_rounds_shown, is_bound_to_newest, is_newer_shown}
use Rattle.tp_model.specs.Levels.{reads_master}
use Rattle.tp_model.specs.Versions.{newest}
use Rattle.tp_model.specs.Words.{Body, Cause, CommitRecord, Decision, Denied, Fact, Instance, Letter, Mail, Outcome, Record, Scenario, ServerId, Transaction, TxnId, Verdict}
use Rattle.tp_model.specs.Words.actor
use Rattle.tp_model.specs.Words.body
use Rattle.tp_model.specs.Words.cause
use Rattle.tp_model.specs.Words.decision
use Rattle.tp_model.specs.Words.log
use Rattle.tp_coord.specs.Row.{denied_by, requests}
use Rattle.tp_coord.specs.State.{Coordinator}
use Rattle.tp_coord.specs.declared.coordinator.Phase.{Phase}
use Rattle.tp_machine.specs.Named.{IsTxn}
use Rattle.tp_scheme.specs.Gathered.{closed}
use Rattle.tp_runs.proofs.basics.Phases.{ceiling_in, is_undecided}
use Rattle.tp_runs.proofs.basics.Turns.{IsAbove, IsTimely, Stamp, TurnFits, ceiling, query_count, stamp_of}
use Rattle.tp_runs.proofs.trust.Fit.{BodyFits, Right}
use Rattle.tp_runs.proofs.trust.Instances.{IsSoFarIn, IsTrustedCommit, closed_as, closed_before, gathered_as, gathered_before, so_far_on}
use Rattle.tp_runs.proofs.trust.Phases.{IsMadeAfter, PhaseFits, Suits}
use Rattle.tp_runs.specs.Sound.{IsSoundBody}

-- ---- what is kept

-- what a transaction of the scenario has closed and gathered before the phase
abbrev pub AreSoFar : Scenario → List Fact → ℕ → TxnId → Phase → List Instance → List Verdict → Type 0
AreSoFar sc facts place txn awaited instances gathered = (declared : Transaction) → slice_get sc.txns txn.0 ≡ Some declared → IsSoFarIn sc facts place txn declared awaited instances gathered

-- a coordinator awaits the answer to a request that fits, in a phase of its transaction's scheme and a turn of that phase; before the
-- decision what it has closed is what the scheme demands so far, and what is closed or gathered is of the past, and was made before the
-- staple and the replies that the phase has
pub record CoordinatorFits (sc : Scenario) (facts : List Fact) (place : ℕ) (c : Coordinator) : Type 0 where
  pub awaits : PhaseFits sc facts place c.txn c.phase
  pub suits : (declared : Transaction) → slice_get sc.txns c.txn.0 ≡ Some declared → Suits declared.scheme (reads_master sc declared) c.phase
  pub so_far : is_undecided c.phase ≡ true → AreSoFar sc facts place c.txn c.phase c.instances c.gathered
  pub above : is_undecided c.phase ≡ true → IsAbove place c.instances c.gathered
  pub made_after : IsMadeAfter c.instances c.gathered c.phase
  pub turn : c.turn ≤ ceiling sc c

-- a commit rests on what its transaction's scheme demands, and on instances that are trusted
abbrev pub CommitFits : Scenario → List Fact → ℕ → TxnId → CommitRecord → Type 0
CommitFits sc facts place txn committed = (declared : Transaction) → slice_get sc.txns txn.0 ≡ Some declared → IsTrustedCommit sc facts place txn declared committed

-- a denial is by a right verdict without a rule; where the scheme denies at the newest version, under global consistency its version was the
-- newest at its place, or a later one
pub record DeniedFits (sc : Scenario) (facts : List Fact) (place : ℕ) (txn : TxnId) (denied : Denied) : Type 0 where
  pub verdict : Verdict
  pub denied_is : denied ≡ denied_by verdict
  pub right : Right sc facts place txn verdict
  pub ruleless : is_none verdict.rule ≡ true
  pub bound : (declared : Transaction) → slice_get sc.txns txn.0 ≡ Some declared → is_bound_to_newest declared denied ≡ true → newest sc verdict.admin verdict.place facts ≤ verdict.version.0

-- what a server refused, a death for an older transaction, a restart and a halt are shown elsewhere
abbrev pub CauseFits : Scenario → List Fact → ℕ → TxnId → Cause → Type 0
CauseFits sc facts place txn (cause.Denied denied) = DeniedFits sc facts place txn denied
CauseFits sc facts place txn (cause.Newer newer) = (declared : Transaction) → slice_get sc.txns txn.0 ≡ Some declared → is_newer_shown sc place facts newer declared ≡ true
CauseFits sc facts place txn (cause.Rounds mets) = (declared : Transaction) → slice_get sc.txns txn.0 ≡ Some declared → are_rounds_shown sc txn place facts mets declared ≡ true
CauseFits sc facts place txn _ = Unit {0}

abbrev pub DecisionFits : Scenario → List Fact → ℕ → TxnId → Decision → Type 0
DecisionFits sc facts place txn (decision.Commit committed) = CommitFits sc facts place txn committed
DecisionFits sc facts place txn (decision.Abort why) = CauseFits sc facts place txn why

abbrev pub RecordDecides : Scenario → List Fact → ℕ → Record → Type 0
RecordDecides sc facts place (log.Decided d) = DecisionFits sc facts place d.txn d.decision
RecordDecides sc facts place _ = Unit {0}

-- a letter is of the coordinator's own transaction, and of its present turn; one that is down promises nothing
pub record IsOfTurn (sc : Scenario) (txn : TxnId) (now : Option Coordinator) (sent : ℕ) (said : Body) (stamped : Stamp) : Type 0 where
  pub own : stamped.txn ≡ txn
  pub timely : IfSome now (TurnFits sc sent stamped.turn said)

abbrev pub LetterOfTurn : Scenario → TxnId → Option Coordinator → ℕ → Letter → Type 0
LetterOfTurn sc txn now sent letter = IfSome (stamp_of letter.body) (IsOfTurn sc txn now sent letter.body)

-- an act of a coordinator that was up or down: what it is after it, if it is up, fits; so do the record that it forced and its letters,
-- wherever they are sent; and mails of before stay timely
pub record CoordinatorTrusts (sc : Scenario) (facts : List Fact) (place : ℕ) (txn : TxnId) (was now : Option Coordinator) (append : Option Record) (letters : List Letter) : Type 0 where
  pub fits : IfSome now (CoordinatorFits sc facts place)
  pub decides : IfSome append (RecordDecides sc facts place)
  pub says : (sent : ℕ) → Each (λ (letter : Letter). BodyFits sc facts place sent letter.body) letters
  pub timely : (sent : ℕ) → Each (LetterOfTurn sc txn now sent) letters
  pub old : (sent turn : ℕ) (said : Body) → IfSome was (TurnFits sc sent turn said) → IfSome now (TurnFits sc sent turn said)

-- that of a row
abbrev pub RowTrusts : Scenario → List Fact → ℕ → Coordinator → Effect Coordinator → Type 0
RowTrusts sc facts place c effect = CoordinatorTrusts sc facts place c.txn (Some c) (Some effect.state) effect.reaction.append effect.reaction.letters

pub ignores_trusts_in_coordinator : (sc : Scenario) (facts : List Fact) (place : ℕ) (c : Coordinator) → CoordinatorFits sc facts place c → RowTrusts sc facts place c (ignores c)
ignores_trusts_in_coordinator sc facts place c h = record { fits = h; decides = tt; says = λ sent. tt; timely = λ sent. tt; old = λ sent turn said t. t }

-- what is closed and gathered stays as it is in a phase before which as much is
pub moved_on : (sc : Scenario) (facts : List Fact) (place : ℕ) (txn : TxnId) (awaited next : Phase) (instances : List Instance) (gathered : List Verdict)
    → ((queries : ℕ) → closed_before queries awaited ≡ closed_before queries next) → ((queries : ℕ) → gathered_before queries awaited ≡ gathered_before queries next)
    → AreSoFar sc facts place txn awaited instances gathered → AreSoFar sc facts place txn next instances gathered
moved_on sc facts place txn awaited next instances gathered closed gathers h declared found =
    let queries = length declared.queries in
    so_far_on sc facts place txn declared _ _ _ _ instances gathered (closed_as declared.scheme queries awaited next (closed queries)) (gathered_as declared.scheme queries awaited next (gathers queries)) (h declared found)

pub phase_fits : (sc : Scenario) (facts : List Fact) (place : ℕ) (c : Coordinator) (awaited : Phase) → CoordinatorFits sc facts place c → c.phase ≡ awaited → PhaseFits sc facts place c.txn awaited
phase_fits sc facts place c awaited h e = subst (PhaseFits sc facts place c.txn) e h.awaits

pub turn_low : (sc : Scenario) (facts : List Fact) (place : ℕ) (c : Coordinator) (awaited : Phase) → CoordinatorFits sc facts place c → c.phase ≡ awaited → c.turn ≤ ceiling_in (query_count sc c.txn) awaited
turn_low sc facts place c awaited h e = subst (λ (p : Phase). c.turn ≤ ceiling_in (query_count sc c.txn) p) e h.turn

-- what a mail says where its turn is the present one
abbrev pub PresentMail : Scenario → Coordinator → ℕ → Body → Type 0
PresentMail sc c sent said = IfSome (stamp_of said) (λ (stamped : Stamp). stamped.txn ≡ c.txn → IsTimely sc c sent stamped.turn said)

-- a mail to a coordinator that is up: what it says exists and fits, and holds now where its turn is the present one
pub record IsHeard (sc : Scenario) (facts : List Fact) (place : ℕ) (c : Coordinator) (mail : Mail) : Type 0 where
  pub sound : IsSoundBody sc (actor.Coordinator c.txn) mail.letter.body
  pub fits : BodyFits sc facts place mail.sent mail.letter.body
  pub present : PresentMail sc c mail.sent mail.letter.body

-- a transaction of the scenario
pub declared_there : (sc : Scenario) (txn : TxnId) → IsTxn sc txn → (declared : Transaction) × (slice_get sc.txns txn.0 ≡ Some declared)
declared_there sc txn exists = found (slice_get sc.txns txn.0) refl
  where
    found : (declared : Option Transaction) → slice_get sc.txns txn.0 ≡ declared → (declared : Transaction) × (slice_get sc.txns txn.0 ≡ Some declared)
    found None e = absurd (missing sc.txns txn.0 exists e)
    found (Some declared) e = (declared, e)

-- ---- orders

pub orders_fit : (sc : Scenario) (facts : List Fact) (place sent : ℕ) (c : Coordinator) (ended : Outcome) (servers : List ServerId)
    → Each (λ (letter : Letter). BodyFits sc facts place sent letter.body) (requests c (body.Decide (record { txn = c.txn; outcome = ended })) servers)
orders_fit sc facts place sent c ended [] = tt
orders_fit sc facts place sent c ended (at ∷ servers) = (tt, orders_fit sc facts place sent c ended servers)

pub orders_timely : (sc : Scenario) (c : Coordinator) (now : Option Coordinator) (sent : ℕ) (ended : Outcome) (servers : List ServerId)
    → Each (LetterOfTurn sc c.txn now sent) (requests c (body.Decide (record { txn = c.txn; outcome = ended })) servers)
orders_timely sc c now sent ended [] = tt
orders_timely sc c now sent ended (at ∷ servers) = (tt, orders_timely sc c now sent ended servers)
