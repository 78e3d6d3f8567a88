-- Laws of the calls of a replicated master: what its parts show is a machine that steps give, and they go on as it does.
use Rattle.std.specs.List.{range_with_len}
use Rattle.std.proofs.Common.{◌≡◌, ℕ, ◌+◌, ◌<◌, ◌≤◌, ◌^◌, not, List, [], ◌∷◌, ◌++◌, length, replicate, slice_get, slice_set, Bool, true, false, cond, Option, Some, None, Result, Ok, Err, IfErr, OnOk, is_some, zero, suc, refl, sym, ap, subst, arith, ◌∙◌, if◌then◌else◌}
use Rattle.std.proofs.lemmas.Bool.{eq-eqb, ne_eqb}
use Rattle.tp_pending.proofs.FlagLemmas.{marked-append, marked-replicate}
use Rattle.tp_pending.specs.Flags.{marked}
use Rattle.tp_quorum.proofs.Facts.{no_end}
use Rattle.tp_quorum.proofs.Lists.{append_length, pushed_length, same_length, set_length, some_within}
use Rattle.tp_quorum.proofs.Runs.{always_rests}
use Rattle.tp_quorum.proofs.World.{PhaseRests, Rests}
use Rattle.tp_quorum.specs.Acts.{Advances, FitNumbers, HasNextVersion, beside, flags_after, machine_of}
use Rattle.tp_quorum.specs.Machine.{IsStepOf, Machine, Move, State, after_step, after_steps, boots_at, crashes_at, delivery, is_request, machine_after, move_of, moved, opening, operation_takes, operation_takes_at, refusal, replica_takes, replica_takes_at, still_undelivered, times_out_at, without_number}
use Rattle.tp_quorum.specs.OneMaster.{OneMaster, count_of, is_beginning, is_publication, publications}
use Rattle.tp_quorum.specs.Operations.{HasFlagsBelow}
use Rattle.tp_quorum.specs.QuorumView.{CanBegin, Does, IsReached, IsRun, QuorumView, answer_by, answer_of, end_of, opened_ledger, opened_members, phase_answer}
use Rattle.tp_quorum.specs.Replica.{ReplicaView}
use Rattle.tp_quorum.specs.Words.{AdminId, Operation, Phase, QError, QFact, QMail, QStep, QWhat, Sizes}
use Rattle.tp_quorum.specs.Words.phase
use Rattle.tp_quorum.specs.Words.step
use Rattle.tp_quorum.specs.Words.what
use Rattle.tp_quorum.specs.declared.acts.Members.{Members}
use Rattle.tp_quorum.specs.declared.ledger.Ledger.{Ledger}
use Rattle.tp_types.proofs.EachLemmas.{each_more, each_placed}

-- ---- what a move looks at

-- a move looks at no facts and no steps
abbrev pub without_facts : State → State
without_facts w =
    record { replicas = w.replicas; ops = w.ops; last = w.last; mails = w.mails; facts = []; steps = [] }

replica_blind : (w : State) (mail : QMail) (found : Option ReplicaView) → replica_takes_at (without_facts w) mail found ≡ replica_takes_at w mail found
replica_blind w mail None = refl
replica_blind w mail (Some found) = refl

operation_blind : (w : State) (mail : QMail) (found : Option Operation) → operation_takes_at (without_facts w) mail found ≡ operation_takes_at w mail found
operation_blind w mail None = refl
operation_blind w mail (Some o) = refl

receipt_blind : (w : State) (mail : QMail) (b : Bool) → (if b then replica_takes (without_facts w) mail else operation_takes (without_facts w) mail) ≡ (if b then replica_takes w mail else operation_takes w mail)
receipt_blind w mail true = replica_blind w mail (slice_get w.replicas mail.replica)
receipt_blind w mail false = operation_blind w mail (slice_get w.ops mail.op)

delivery_blind : (w : State) (found : Option QMail) → delivery (without_facts w) found ≡ delivery w found
delivery_blind w None = refl
delivery_blind w (Some mail) = receipt_blind w mail (is_request mail.body)

crash_blind : (w : State) (step_of : QStep) (replica : ℕ) (found : Option ReplicaView) → boots_at (without_facts w) replica found ≡ boots_at w replica found
crash_blind w taken replica None = refl
crash_blind w taken replica (Some found) = refl

timer_blind : (w : State) (op : ℕ) (found : Option Operation) → times_out_at (without_facts w) op found ≡ times_out_at w op found
timer_blind w op None = refl
timer_blind w op (Some o) = refl

pub move_blind : (w : State) (taken : QStep) → move_of (without_facts w) taken ≡ move_of w taken
move_blind w (step.Publish admin) = refl
move_blind w (step.Read reader admin) = refl
move_blind w (step.Deliver mail) = delivery_blind w (slice_get w.mails mail)
move_blind w (step.Lose mail) = refl
move_blind w (step.Crash replica cut) = by (slice_get w.replicas replica)
  where
    by : (found : Option ReplicaView) → crashes_at (without_facts w) replica cut found ≡ crashes_at w replica cut found
    by None = refl
    by (Some found) = refl
move_blind w (step.Boot replica) = crash_blind w (step.Boot replica) replica (slice_get w.replicas replica)
move_blind w (step.Timer op) = timer_blind w op (slice_get w.ops op)

refusal_blind : (w : State) (taken : QStep) → refusal (without_facts w) taken ≡ refusal w taken
refusal_blind w (step.Publish admin) = refl
refusal_blind w (step.Read reader admin) = refl
refusal_blind w (step.Deliver mail) = refl
refusal_blind w (step.Lose mail) = refl
refusal_blind w (step.Crash replica cut) = refl
refusal_blind w (step.Boot replica) = refl
refusal_blind w (step.Timer op) = refl

pub refusal_same : (members : Members) (ledger : Ledger) (taken : QStep) → refusal (beside members ledger.mails) taken ≡ refusal (machine_of members ledger).state taken
refusal_same members ledger taken = refusal_blind (machine_of members ledger).state taken

-- ---- how many replicas and operations there are

pub record KeepsCounts (w : State) (move : Move) : Type 0 where
  pub replicas : length move.replicas ≡ length w.replicas
  pub ops : length move.ops ≡ length w.ops

replica_counts : (w : State) (mail : QMail) (found : Option ReplicaView) → KeepsCounts w (replica_takes_at w mail found)
replica_counts w mail None = record { replicas = refl; ops = refl }
replica_counts w mail (Some found) = record { replicas = set_length w.replicas mail.replica _; ops = refl }

operation_counts : (w : State) (mail : QMail) (found : Option Operation) → KeepsCounts w (operation_takes_at w mail found)
operation_counts w mail None = record { replicas = refl; ops = refl }
operation_counts w mail (Some o) = record { replicas = refl; ops = set_length w.ops mail.op _ }

delivery_counts : (w : State) (found : Option QMail) → KeepsCounts w (delivery w found)
delivery_counts w None = record { replicas = refl; ops = refl }
delivery_counts w (Some mail) = by (is_request mail.body)
  where
    by : (b : Bool) → KeepsCounts w (if b then replica_takes w mail else operation_takes w mail)
    by true = replica_counts w mail (slice_get w.replicas mail.replica)
    by false = operation_counts w mail (slice_get w.ops mail.op)

crash_counts : (w : State) (taken : QStep) (replica : ℕ) → KeepsCounts w (move_of w (step.Boot replica))
crash_counts w taken replica = by (slice_get w.replicas replica)
  where
    by : (found : Option ReplicaView) → KeepsCounts w (boots_at w replica found)
    by None = record { replicas = refl; ops = refl }
    by (Some found) = record { replicas = set_length w.replicas replica _; ops = refl }

timer_counts : (w : State) (op : ℕ) (found : Option Operation) → KeepsCounts w (times_out_at w op found)
timer_counts w op None = record { replicas = refl; ops = refl }
timer_counts w op (Some o) = record { replicas = refl; ops = refl }

-- there are as many replicas, and at most one operation more
pub record Counts (m : Machine) (taken : QStep) (move : Move) : Type 0 where
  pub replicas : length move.replicas ≡ length m.state.replicas
  pub ops : CanBegin m taken → length m.state.ops + 1 < 2 ^ 32 → length move.ops + 1 < 2 ^ 32

counted_so : (m : Machine) (taken : QStep) (move : Move) → KeepsCounts m.state move → Counts m taken move
counted_so m taken move kept = record { replicas = kept.replicas; ops = λ begins few. omega (arith, kept.ops, few) }

one_more : (ops : List Operation) (o : Operation) → length ops + 2 < 2 ^ 32 → length (ops ++ o ∷ []) + 1 < 2 ^ 32
one_more ops o few = omega (arith, few, pushed_length ops o)

counts : (m : Machine) (taken : QStep) → Counts m taken (move_of m.state taken)
counts m (step.Publish admin) = record { replicas = refl; ops = λ begins few. one_more m.state.ops _ begins }
counts m (step.Read reader admin) = record { replicas = refl; ops = λ begins few. one_more m.state.ops _ begins }
counts m (step.Deliver mail) = counted_so m (step.Deliver mail) (move_of m.state (step.Deliver mail)) (delivery_counts m.state (slice_get m.state.mails mail))
counts m (step.Lose mail) = record { replicas = refl; ops = λ begins few. few }
counts m (step.Crash replica cut) = counted_so m (step.Crash replica cut) (move_of m.state (step.Crash replica cut)) (by (slice_get m.state.replicas replica))
  where
    by : (found : Option ReplicaView) → KeepsCounts m.state (crashes_at m.state replica cut found)
    by None = record { replicas = refl; ops = refl }
    by (Some found) = record { replicas = set_length m.state.replicas replica _; ops = refl }
counts m (step.Boot replica) = counted_so m (step.Boot replica) (move_of m.state (step.Boot replica)) (crash_counts m.state (step.Boot replica) replica)
counts m (step.Timer op) = counted_so m (step.Timer op) (move_of m.state (step.Timer op)) (timer_counts m.state op (slice_get m.state.ops op))

step_count : (m : Machine) (taken : QStep) → length (after_step m taken).state.replicas ≡ length m.state.replicas
step_count m taken = by (refusal m.state taken)
  where
    by : (refused : Option QError) → length (if is_some refused then m else machine_after m taken).state.replicas ≡ length m.state.replicas
    by None = (counts m taken).replicas
    by (Some why) = refl

steps_count : (m : Machine) (steps : List QStep) → length (after_steps m steps).state.replicas ≡ length m.state.replicas
steps_count m [] = refl
steps_count m (taken ∷ steps) = steps_count (after_step m taken) steps ∙ step_count m taken

-- ---- what a run has

run_rests : (sizes : Sizes) (members : Members) (ledger : Ledger) → IsRun sizes members ledger → Rests sizes.admins (machine_of members ledger).state
run_rests sizes members ledger run = subst (λ (m : Machine). Rests sizes.admins m.state) (sym run.reached.is) (always_rests sizes run.reached.steps run.reached.some run.reached.named)

pub reached_count : (sizes : Sizes) (m : Machine) → IsReached sizes m → length m.state.replicas ≡ sizes.replicas
reached_count sizes m reached = ap (λ (n : Machine). length n.state.replicas) reached.is ∙ steps_count (opening sizes) reached.steps ∙ same_length sizes.replicas _

pub run_has_one_master : (sizes : Sizes) (members : Members) (ledger : Ledger) → IsRun sizes members ledger → OneMaster ledger.facts
run_has_one_master sizes members ledger run = (run_rests sizes members ledger run).one_master

flags_below : (w : State) (op admin : ℕ) (reader : Option ℕ) (now : Phase) → length w.replicas < 2 ^ 32 → PhaseRests w op admin reader now → HasFlagsBelow (2 ^ 32) now
flags_below w op admin reader (phase.Fetching greatest answered) few rests = omega (arith, few, rests.count)
flags_below w op admin reader (phase.Storing version answered) few rests = omega (arith, few, rests.count)
flags_below w op admin reader (phase.Ended version) few rests = tt

pub fits : (sizes : Sizes) (members : Members) (ledger : Ledger) → IsRun sizes members ledger → FitNumbers members
fits sizes members ledger run =
    let count = reached_count sizes (machine_of members ledger) run.reached in
    let rests = run_rests sizes members ledger run in
    let few : length members.replicas < 2 ^ 32 = omega (arith, count, run.small) in
    record {
      replicas = few;
      ops = run.few;
      flags = each_placed (λ (o : Operation). HasFlagsBelow (2 ^ 32) o.phase) members.ops (λ n o e. flags_below (machine_of members ledger).state n o.admin.0 o.reader o.phase few (rests.ops n o e).now);
    }

publications_few : (admin : AdminId) (facts : List QFact) → publications admin facts ≤ count_of is_beginning facts
publications_few admin [] = omega arith
publications_few admin (fact ∷ facts) = by fact.what (publications_few admin facts)
  where
    least : (b : Bool) → publications admin facts ≤ count_of is_beginning facts → (if b then publications admin facts + 1 else publications admin facts) ≤ count_of is_beginning facts + 1
    least true later = omega (arith, later)
    least false later = omega (arith, later)

    by : (said : QWhat) → publications admin facts ≤ count_of is_beginning facts → (if is_publication admin said then publications admin facts + 1 else publications admin facts) ≤ (if is_beginning said then count_of is_beginning facts + 1 else count_of is_beginning facts)
    by (what.Began op other reader version) later = least (is_publication admin (what.Began op other reader version)) later
    by (what.Ended op version) later = later

pub has_next_version : (sizes : Sizes) (members : Members) (ledger : Ledger) (taken : QStep) → IsRun sizes members ledger → CanBegin (machine_of members ledger) taken → HasNextVersion members taken
has_next_version sizes members ledger (step.Publish admin) run begins =
    let rests = run_rests sizes members ledger run in
    omega (arith, rests.published admin, publications_few admin ledger.facts, rests.op_count, begins)
has_next_version sizes members ledger (step.Read reader admin) run begins = tt
has_next_version sizes members ledger (step.Deliver mail) run begins = tt
has_next_version sizes members ledger (step.Lose mail) run begins = tt
has_next_version sizes members ledger (step.Crash replica cut) run begins = tt
has_next_version sizes members ledger (step.Boot replica) run begins = tt
has_next_version sizes members ledger (step.Timer op) run begins = tt

-- ---- undelivered mails

without_below : (n k : ℕ) (flags : List Bool) → k < n → without_number (marked n flags) k ≡ marked n flags
without_below n k [] below = refl
without_below n k (true ∷ flags) below =
    ap (λ (b : Bool). cond (not b) (n ∷ without_number (marked (n + 1) flags) k) (without_number (marked (n + 1) flags) k)) (ne_eqb n k (λ e. omega (arith, e, below)))
    ∙ ap (λ (numbers : List ℕ). n ∷ numbers) (without_below (n + 1) k flags (omega (arith, below)))
without_below n k (false ∷ flags) below = without_below (n + 1) k flags (omega (arith, below))

cleared : (n k : ℕ) (flags : List Bool) → marked n (slice_set flags k false) ≡ without_number (marked n flags) (n + k)
cleared n k [] = refl
cleared n zero (true ∷ flags) =
    let same : n ≡ n + 0 = omega arith in
    sym
    (ap (λ (b : Bool). cond (not b) (n ∷ without_number (marked (n + 1) flags) (n + 0)) (without_number (marked (n + 1) flags) (n + 0))) (eq-eqb n (n + 0) same)
    ∙ without_below (n + 1) (n + 0) flags (omega arith))
cleared n zero (false ∷ flags) = sym (without_below (n + 1) (n + 0) flags (omega arith))
cleared n (suc k) (true ∷ flags) =
    let same : (n + 1) + k ≡ n + suc k = omega arith in
    let later : marked (n + 1) (slice_set flags k false) ≡ without_number (marked (n + 1) flags) (n + suc k) = cleared (n + 1) k flags ∙ ap (without_number (marked (n + 1) flags)) same in
    ap (λ (numbers : List ℕ). n ∷ numbers) later
    ∙ sym (ap (λ (b : Bool). cond (not b) (n ∷ without_number (marked (n + 1) flags) (n + suc k)) (without_number (marked (n + 1) flags) (n + suc k))) (ne_eqb n (n + suc k) (λ e. omega (arith, e))))
cleared n (suc k) (false ∷ flags) =
    let same : (n + 1) + k ≡ n + suc k = omega arith in
    cleared (n + 1) k flags ∙ ap (without_number (marked (n + 1) flags)) same

cleared_first : (k : ℕ) (flags : List Bool) → marked 0 (slice_set flags k false) ≡ without_number (marked 0 flags) k
cleared_first k flags = let same : 0 + k ≡ k = omega arith in cleared 0 k flags ∙ ap (without_number (marked 0 flags)) same

still_marked : (taken : QStep) (flags : List Bool) → marked 0 (flags_after taken flags) ≡ still_undelivered taken (marked 0 flags)
still_marked (step.Publish admin) flags = refl
still_marked (step.Read reader admin) flags = refl
still_marked (step.Deliver mail) flags = cleared_first mail flags
still_marked (step.Lose mail) flags = cleared_first mail flags
still_marked (step.Crash replica None) flags = refl
still_marked (step.Crash replica (Some cut)) flags = cleared_first cut.mail flags
still_marked (step.Boot replica) flags = refl
still_marked (step.Timer op) flags = refl

flags_length : (taken : QStep) (flags : List Bool) → length (flags_after taken flags) ≡ length flags
flags_length (step.Publish admin) flags = refl
flags_length (step.Read reader admin) flags = refl
flags_length (step.Deliver mail) flags = set_length flags mail false
flags_length (step.Lose mail) flags = set_length flags mail false
flags_length (step.Crash replica None) flags = refl
flags_length (step.Crash replica (Some cut)) flags = set_length flags cut.mail false
flags_length (step.Boot replica) flags = refl
flags_length (step.Timer op) flags = refl

undelivered_next : (taken : QStep) (flags : List Bool) (mails count : ℕ) → length flags ≡ mails → marked 0 (flags_after taken flags ++ replicate count true) ≡ still_undelivered taken (marked 0 flags) ++ range_with_len mails count
undelivered_next taken flags mails count numbered =
    let first : 0 + length (flags_after taken flags) ≡ mails = omega (arith, flags_length taken flags, numbered) in
    marked-append 0 (flags_after taken flags) (replicate count true)
    ∙ ap (λ (numbers : List ℕ). marked 0 (flags_after taken flags) ++ numbers) (marked-replicate (0 + length (flags_after taken flags)) count ∙ ap (λ (low : ℕ). range_with_len low count) first)
    ∙ ap (λ (numbers : List ℕ). numbers ++ range_with_len mails count) (still_marked taken flags)

-- ---- a step

-- what both parts show after a step is the machine after it
pub advanced : (members members' : Members) (ledger ledger' : Ledger) (taken : QStep) → length ledger.pending ≡ length ledger.mails → Advances members ledger taken members' ledger'
    → machine_of members' ledger' ≡ machine_after (machine_of members ledger) taken
advanced members members' ledger ledger' taken numbered does =
    let w : State = (machine_of members ledger).state in
    let blind : move_of (beside members ledger.mails) taken ≡ move_of w taken = move_blind w taken in
    let move : Move = move_of (beside members ledger.mails) taken in
    let one : machine_of members' ledger' ≡ machine_of (record { replicas = move.replicas; ops = move.ops; last = move.last }) ledger' = ap (λ (ms : Members). machine_of ms ledger') does.members_are in
    let two = ap (λ (l : Ledger). machine_of (record { replicas = move.replicas; ops = move.ops; last = move.last }) l) does.ledger_is in
    let flags = undelivered_next taken ledger.pending (length ledger.mails) (length move.sent) numbered in
    one ∙ two ∙ (λ i. record { state = (moved (machine_of members ledger) taken move).state; undelivered = flags i }) ∙ ap (moved (machine_of members ledger) taken) blind

after_more : (m : Machine) (steps : List QStep) (taken : QStep) → after_steps m (steps ++ taken ∷ []) ≡ after_step (after_steps m steps) taken
after_more m [] taken = refl
after_more m (first ∷ steps) taken = after_more (after_step m first) steps taken

pub reached_next : (sizes : Sizes) (m : Machine) (taken : QStep) → IsReached sizes m → IsStepOf sizes taken → refusal m.state taken ≡ None → IsReached sizes (machine_after m taken)
reached_next sizes m taken reached named done = record {
  some = reached.some;
  steps = reached.steps ++ taken ∷ [];
  named = each_more (IsStepOf sizes) reached.steps taken reached.named named;
  is =
      ap (λ (refused : Option QError). if is_some refused then m else machine_after m taken) (sym done)
      ∙ ap (λ (before : Machine). after_step before taken) reached.is
      ∙ sym (after_more (opening sizes) reached.steps taken);
}

-- and it is a run still
pub run_next : (sizes : Sizes) (members members' : Members) (ledger ledger' : Ledger) (taken : QStep) → IsRun sizes members ledger → IsStepOf sizes taken → CanBegin (machine_of members ledger) taken
    → refusal (machine_of members ledger).state taken ≡ None → Advances members ledger taken members' ledger' → IsRun sizes members' ledger'
run_next sizes members members' ledger ledger' taken run named begins done does =
    let same = advanced members members' ledger ledger' taken run.numbered does in
    let count = (counts (machine_of members ledger) taken).ops begins run.few in
    let ops : length members'.ops ≡ length (machine_after (machine_of members ledger) taken).state.ops = ap (λ (m : Machine). length m.state.ops) same in
    let pending : length ledger'.pending ≡ length (flags_after taken ledger.pending ++ replicate (length (move_of (beside members ledger.mails) taken).sent) true) = ap (λ (l : Ledger). length l.pending) does.ledger_is in
    let mails : length ledger'.mails ≡ length (ledger.mails ++ (move_of (beside members ledger.mails) taken).sent) = ap (λ (l : Ledger). length l.mails) does.ledger_is in
    let flags = append_length (flags_after taken ledger.pending) (replicate (length (move_of (beside members ledger.mails) taken).sent) true) in
    let new = same_length (length (move_of (beside members ledger.mails) taken).sent) true in
    let all = append_length ledger.mails (move_of (beside members ledger.mails) taken).sent in
    record {
      small = run.small;
      numbered = omega (arith, pending, mails, flags, new, all, flags_length taken ledger.pending, run.numbered);
      few = omega (arith, ops, count);
      reached = subst (IsReached sizes) (sym same) (reached_next sizes (machine_of members ledger) taken run.reached named done);
    }

-- whatever is answered, it is a run unless it was given up
pub run_or_given_up : (sizes : Sizes) (members members' : Members) (ledger ledger' : Ledger) (given_up : Bool) (taken : QStep) (result : Result (Unit {0}) QError) → IsRun sizes members ledger → IsStepOf sizes taken → CanBegin (machine_of members ledger) taken
    → refusal (beside members ledger.mails) taken ≡ None → OnOk result (Advances members ledger taken members' ledger') → IfErr result (λ (why : QError). given_up ≡ true) → given_up ≡ false → IsRun sizes members' ledger'
run_or_given_up sizes members members' ledger ledger' given_up taken (Ok done) run named begins free does gave up =
    run_next sizes members members' ledger ledger' taken run named begins (sym (refusal_same members ledger taken) ∙ free) does
run_or_given_up sizes members members' ledger ledger' given_up taken (Err why) run named begins free does gave up = absurd (let both : false ≡ true = sym up ∙ gave in cc)

-- what is answered Ok did the step
pub does_step : (old : QuorumView) (sizes : Sizes) (members members' : Members) (ledger ledger' : Ledger) (given_up given_up' : Bool) (taken : QStep) (result : Result (Unit {0}) QError)
    → old ≡ record { sizes = sizes; machine = machine_of members ledger; given_up = given_up } → given_up ≡ false → IsRun sizes members ledger → refusal (beside members ledger.mails) taken ≡ None
    → OnOk result (Advances members ledger taken members' ledger') → OnOk result (given_up' ≡ given_up) → OnOk result (Does old (record { sizes = sizes; machine = machine_of members' ledger'; given_up = given_up' }) taken)
does_step old sizes members members' ledger ledger' given_up given_up' taken (Err why) is up run free does same = tt
does_step old sizes members members' ledger ledger' given_up given_up' taken (Ok done) is up run free does same =
    let sizes_are : sizes ≡ old.sizes = sym (ap (λ (q : QuorumView). q.sizes) is) in
    let machine_is : machine_of members' ledger' ≡ machine_after old.machine taken =
    advanced members members' ledger ledger' taken run.numbered does ∙ ap (λ (q : QuorumView). machine_after q.machine taken) (sym is) in
    let given_is : given_up' ≡ old.given_up = same ∙ ap (λ (q : QuorumView). q.given_up) (sym is) in
    record {
      was_up = ap (λ (q : QuorumView). q.given_up) is ∙ up;
      done = ap (λ (q : QuorumView). refusal q.machine.state taken) is ∙ sym (refusal_same members ledger taken) ∙ free;
      now = λ i. record { sizes = sizes_are i; machine = machine_is i; given_up = given_is i };
    }

-- ---- the first moment, and answers

pub opened_run : (sizes : Sizes) → 1 ≤ sizes.replicas → sizes.replicas < 2 ^ 32 → IsRun sizes (opened_members sizes) opened_ledger
opened_run sizes some small = record { small = small; numbered = refl; few = omega arith; reached = record { some = some; steps = []; named = tt; is = refl } }

phase_ended : (w : State) (op admin : ℕ) (reader : Option ℕ) (now : Phase) → PhaseRests w op admin reader now → phase_answer now ≡ answer_by (end_of op w.facts)
phase_ended w op admin reader (phase.Fetching greatest answered) rests = sym (ap answer_by (no_end op w.facts rests.running))
phase_ended w op admin reader (phase.Storing version answered) rests = sym (ap answer_by (no_end op w.facts rests.running))
phase_ended w op admin reader (phase.Ended version) rests = sym (ap answer_by rests.has_end)

pub answer_ended : (sizes : Sizes) (members : Members) (ledger : Ledger) (op : ℕ) → IsRun sizes members ledger → op < length members.ops → answer_of (slice_get members.ops op) ≡ answer_by (end_of op ledger.facts)
answer_ended sizes members ledger op run begun =
    let there = some_within members.ops op begun in
    ap answer_of there.1
    ∙ phase_ended (machine_of members ledger).state op there.0.admin.0 there.0.reader there.0.phase ((run_rests sizes members ledger run).ops op there.0 there.1).now
