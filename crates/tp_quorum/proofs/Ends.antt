-- The automatic phase ends: the potential falls at each of its steps, and where no step is next nothing is left to do.
use Rattle.std.specs.Option.{option_map_or, option_or}
use Rattle.std.proofs.Common.{◌≡◌, ◌⊎◌, inl, inr, ℕ, ◌+◌, ◌<◌, ◌≤◌, List, [], ◌∷◌, length, map, slice_get, Bool, true, false, Option, Some, None, is_some, option_map, zero, suc, refl, sym, ap, subst, arith, ◌∙◌, if◌then◌else◌, not}
use Rattle.std.proofs.lemmas.Bool.{lt-ltb}
use Rattle.tp_types.proofs.EachLemmas.{each_get}
use Rattle.tp_types.specs.Each.{Each}
use Rattle.tp_quorum.proofs.Beginning.{none_where}
use Rattle.tp_quorum.proofs.Falls.{Falls, boot_falls, reply_falls, request_falls, timer_falls}
use Rattle.tp_quorum.proofs.Lists.{some_within}
use Rattle.tp_quorum.proofs.Potential.{Covers, MachineRests, moved_sent, potential, potential_most, uncovered}
use Rattle.tp_quorum.proofs.Runs.{opening_rests, steps_rest}
use Rattle.tp_quorum.proofs.World.{MailRests}
use Rattle.tp_quorum.specs.Automatic.{HasEnd, at_rest, automatic_steps, bound, next_of, running_count}
use Rattle.tp_quorum.specs.Laws.{AlwaysHasEnd}
use Rattle.tp_quorum.specs.Machine.{IsStepOf, Machine, State, after, after_step, after_steps, boots_at, delivery, first_where, is_down, is_idle, is_replica_down, is_request, machine_after, move_of, opening, operation_takes, operation_takes_at, receipt, refusal, replica_takes, replica_takes_at, times_out_at}
use Rattle.tp_quorum.specs.Operations.{answers_in, is_running}
use Rattle.tp_quorum.specs.Replica.{ReplicaView}
use Rattle.tp_quorum.specs.Words.{Operation, QError, QMail, QStep, Sizes}
use Rattle.tp_quorum.specs.Words.error
use Rattle.tp_quorum.specs.Words.step

-- ---- each automatic step

-- the first that passes a test
pub record FirstOf {A : Type 0} (test : A → Bool) (xs : List A) (number found : ℕ) : Type 0 where
  pub place : ℕ
  pub member : A
  pub is_found : found ≡ number + place
  pub is_member : slice_get xs place ≡ Some member
  pub passes : test member ≡ true

pub first_of_where : {A : Type 0} (test : A → Bool) (xs : List A) (number found : ℕ) → first_where test number xs ≡ Some found → FirstOf test xs number found
first_of_where test [] number found e = absurd (cc)
first_of_where test (x ∷ xs) number found e = by (test x) refl (first_of_where test xs (number + 1) found) e
  where
    by : (b : Bool) → test x ≡ b → (first_where test (number + 1) xs ≡ Some found → FirstOf test xs (number + 1) found) → (if b then Some number else first_where test (number + 1) xs) ≡ Some found → FirstOf test (x ∷ xs) number found
    by true passes later here =
        let same : number ≡ found = cc in
        record { place = 0; member = x; is_found = omega (arith, same); is_member = refl; passes = passes }
    by false fails later there =
        let rest = later there in
        record { place = suc rest.place; member = rest.member; is_found = omega (arith, rest.is_found); is_member = rest.is_member; passes = rest.passes }

-- it is not refused, and the potential falls
pub record Goes (admins replicas ops : ℕ) (m : Machine) (covering : ℕ → Bool) (taken : QStep) : Type 0 where
  pub done : refusal m.state taken ≡ None
  pub falls : Falls admins replicas ops m covering taken (move_of m.state taken)

delivery_goes : (admins replicas ops : ℕ) (m : Machine) (covering : ℕ → Bool) → MachineRests admins replicas ops m → Covers replicas m covering → ((r : ℕ) → is_down (slice_get m.state.replicas r) ≡ false)
    → (number : ℕ) (numbers : List ℕ) (mail : QMail) → m.undelivered ≡ number ∷ numbers → slice_get m.state.mails number ≡ Some mail → Falls admins replicas ops m covering (step.Deliver number) (receipt m.state mail)
delivery_goes admins replicas ops m covering h covers up number numbers mail first e = by (is_request mail.body) refl
  where
    rests : MailRests m.state mail
    rests = each_get (MailRests m.state) m.state.mails number mail h.rests.mails e

    by : (b : Bool) → is_request mail.body ≡ b → Falls admins replicas ops m covering (step.Deliver number) (if b then replica_takes m.state mail else operation_takes m.state mail)
    by true asks =
        let there = some_within m.state.replicas mail.replica rests.replica in
        subst (λ (found : Option ReplicaView). Falls admins replicas ops m covering (step.Deliver number) (replica_takes_at m.state mail found)) (sym there.1)
        (request_falls admins replicas ops m covering h covers up number numbers mail first e asks there.0 there.1)
    by false reply =
        subst (λ (found : Option Operation). Falls admins replicas ops m covering (step.Deliver number) (operation_takes_at m.state mail found)) (sym rests.is_op)
        (reply_falls admins replicas ops m covering h covers number numbers mail first e reply rests.op rests.is_op)

none_down : (w : State) → first_where is_replica_down 0 w.replicas ≡ None → (r : ℕ) → is_down (slice_get w.replicas r) ≡ false
none_down w none r = by (slice_get w.replicas r) refl
  where
    by : (found : Option ReplicaView) → slice_get w.replicas r ≡ found → is_down found ≡ false
    by None e = refl
    by (Some replica) e = none_where is_replica_down w.replicas 0 r replica none e

first_number : (numbers : List ℕ) (number : ℕ) → slice_get numbers 0 ≡ Some number → (others : List ℕ) × (numbers ≡ number ∷ others)
first_number [] number e = absurd (cc)
first_number (first ∷ others) number e = let same : first ≡ number = cc in (others, ap (λ (n : ℕ). n ∷ others) same)

no_number : (numbers : List ℕ) → slice_get numbers 0 ≡ None → numbers ≡ []
no_number [] e = refl
no_number (first ∷ others) e = absurd (cc)

next_goes : (admins replicas ops : ℕ) (m : Machine) (covering : ℕ → Bool) → MachineRests admins replicas ops m → Covers replicas m covering
    → (down : Option ℕ) → first_where is_replica_down 0 m.state.replicas ≡ down → (mail : Option ℕ) → slice_get m.undelivered 0 ≡ mail → (op : Option ℕ) → first_where is_running 0 m.state.ops ≡ op
    → (taken : QStep) → option_or (option_map (λ (r : ℕ). step.Boot r) down) (option_or (option_map (λ (number : ℕ). step.Deliver number) mail) (option_map (λ (n : ℕ). step.Timer n) op)) ≡ Some taken
    → Goes admins replicas ops m covering taken
next_goes admins replicas ops m covering h covers (Some r) down mail first op running taken is =
    let found = first_of_where is_replica_down m.state.replicas 0 r down in
    let there : slice_get m.state.replicas r ≡ Some found.member = let same : r ≡ found.place = omega (arith, found.is_found) in ap (slice_get m.state.replicas) same ∙ found.is_member in
    let same : step.Boot r ≡ taken = cc in
    let is_down_now : is_down (slice_get m.state.replicas r) ≡ true = ap is_down there ∙ found.passes in
    subst (Goes admins replicas ops m covering) same (record {
      done = ap (λ (b : Bool). if b then None else Some (error.NotDown r)) is_down_now;
      falls =
          subst (λ (p : Option ReplicaView). Falls admins replicas ops m covering (step.Boot r) (boots_at m.state r p)) (sym there)
          (boot_falls admins replicas ops m covering h covers r found.member there found.passes);
    })
next_goes admins replicas ops m covering h covers None down (Some number) first op running taken is =
    let split = first_number m.undelivered number first in
    let within : number < length m.state.mails = each_get (λ (n : ℕ). n < length m.state.mails) m.undelivered 0 number h.sent first in
    let there = some_within m.state.mails number within in
    let same : step.Deliver number ≡ taken = cc in
    subst (Goes admins replicas ops m covering) same (record {
      done = ap (λ (b : Bool). if b then None else Some (error.NoSuchMail number (length m.state.mails))) (lt-ltb number (length m.state.mails) within);
      falls =
          subst (λ (found : Option QMail). Falls admins replicas ops m covering (step.Deliver number) (delivery m.state found)) (sym there.1)
          (delivery_goes admins replicas ops m covering h covers (none_down m.state down) number split.0 there.0 split.1 there.1);
    })
next_goes admins replicas ops m covering h covers None down None first (Some op) running taken is =
    let found = first_of_where is_running m.state.ops 0 op running in
    let there : slice_get m.state.ops op ≡ Some found.member = let same : op ≡ found.place = omega (arith, found.is_found) in ap (slice_get m.state.ops) same ∙ found.is_member in
    let same : step.Timer op ≡ taken = cc in
    let runs_now : is_idle (slice_get m.state.ops op) ≡ false = ap is_idle there ∙ ap not found.passes in
    subst (Goes admins replicas ops m covering) same (record {
      done = ap (λ (b : Bool). if b then Some (error.Idle op) else None) runs_now;
      falls =
          subst (λ (p : Option Operation). Falls admins replicas ops m covering (step.Timer op) (times_out_at m.state op p)) (sym there)
          (timer_falls admins replicas ops m covering h covers (none_down m.state down) (no_number m.undelivered first) op found.member there found.passes);
    })
next_goes admins replicas ops m covering h covers None down None first None running taken is = absurd (cc)

pub goes_on : (admins replicas ops : ℕ) (m : Machine) (covering : ℕ → Bool) → MachineRests admins replicas ops m → Covers replicas m covering → (taken : QStep) → next_of m ≡ Some taken → Goes admins replicas ops m covering taken
goes_on admins replicas ops m covering h covers taken is =
    next_goes admins replicas ops m covering h covers (first_where is_replica_down 0 m.state.replicas) refl (slice_get m.undelivered 0) refl (first_where is_running 0 m.state.ops) refl taken is

-- a step that is not refused is done
pub step_done : (m : Machine) (taken : QStep) → refusal m.state taken ≡ None → machine_after m taken ≡ after_step m taken
step_done m taken done = sym (ap (λ (refused : Option QError). if is_some refused then m else machine_after m taken) done)

-- ---- so many of them

few_steps : (admins replicas ops count : ℕ) (m : Machine) (covering : ℕ → Bool) → MachineRests admins replicas ops m → Covers replicas m covering → length (automatic_steps count m) ≤ potential replicas ops m covering
few_steps admins replicas ops zero m covering h covers = omega arith
few_steps admins replicas ops (suc count) m covering h covers = by (next_of m) refl (λ next c rests held. few_steps admins replicas ops count next c rests held)
  where
    by : (taken : Option QStep) → next_of m ≡ taken → ((next : Machine) (c : ℕ → Bool) → MachineRests admins replicas ops next → Covers replicas next c → length (automatic_steps count next) ≤ potential replicas ops next c)
        → length (option_map_or (λ (t : QStep). t ∷ automatic_steps count (after_step m t)) taken []) ≤ potential replicas ops m covering
    by None is later = omega arith
    by (Some t) is later =
        let goes = goes_on admins replicas ops m covering h covers t is in
        let same = step_done m t goes.done in
        let rest : length (automatic_steps count (after_step m t)) ≤ potential replicas ops (machine_after m t) goes.falls.next =
        subst (λ (next : Machine). length (automatic_steps count next) ≤ potential replicas ops (machine_after m t) goes.falls.next) same (later (machine_after m t) goes.falls.next goes.falls.rests goes.falls.covers) in
        omega (arith, rest, goes.falls.less)

-- it is quiet after so many steps, or has one more
quiet_or_more : (count : ℕ) (m : Machine) → (next_of (after_steps m (automatic_steps count m)) ≡ None) ⊎ (length (automatic_steps (suc count) m) ≡ suc count)
quiet_or_more zero m = by (next_of m) refl
  where
    by : (taken : Option QStep) → next_of m ≡ taken → (next_of m ≡ None) ⊎ (length (option_map_or (λ (t : QStep). t ∷ []) taken []) ≡ 1)
    by None is = inl is
    by (Some t) is = inr refl
quiet_or_more (suc count) m = by (next_of m) refl (λ next. quiet_or_more count next)
  where
    by : (taken : Option QStep) → next_of m ≡ taken → ((next : Machine) → (next_of (after_steps next (automatic_steps count next)) ≡ None) ⊎ (length (automatic_steps (suc count) next) ≡ suc count))
        → (next_of (after_steps m (option_map_or (λ (t : QStep). t ∷ automatic_steps count (after_step m t)) taken [])) ≡ None)
        ⊎ (length (option_map_or (λ (t : QStep). t ∷ automatic_steps (suc count) (after_step m t)) taken []) ≡ suc (suc count))
    by None is later = inl is
    by (Some t) is later = elim (later (after_step m t)) [ inl quiet ↦ inl quiet | inr more ↦ inr (ap (λ (n : ℕ). suc n) more) ]

-- ---- at rest

none_run : (ops : List Operation) (number : ℕ) → first_where is_running number ops ≡ None → running_count ops ≡ 0
none_run [] number none = refl
none_run (o ∷ ops) number none = by (is_running o) (none_run ops (number + 1)) none
  where
    by : (b : Bool) → (first_where is_running (number + 1) ops ≡ None → running_count ops ≡ 0) → (if b then Some number else first_where is_running (number + 1) ops) ≡ None → answers_in (b ∷ map is_running ops) ≡ 0
    by true later found = absurd (cc)
    by false later rest = later rest

quiet_ops : (down mail op : Option ℕ) → option_or (option_map (λ (r : ℕ). step.Boot r) down) (option_or (option_map (λ (number : ℕ). step.Deliver number) mail) (option_map (λ (n : ℕ). step.Timer n) op)) ≡ None → op ≡ None
quiet_ops (Some r) mail op e = absurd (cc)
quiet_ops None (Some number) op e = absurd (cc)
quiet_ops None None (Some n) e = absurd (cc)
quiet_ops None None None e = refl

has_end : (admins replicas ops : ℕ) (m : Machine) → MachineRests admins replicas ops m → HasEnd m
has_end admins replicas ops m h = record { few = few; quiet = quiet; ended = none_run (at_rest m).state.ops 0 (quiet_ops (first_where is_replica_down 0 (at_rest m).state.replicas) (slice_get (at_rest m).undelivered 0) (first_where is_running 0 (at_rest m).state.ops) quiet) }
  where
    few : (count : ℕ) → length (automatic_steps count m) ≤ bound m
    few count =
        let less = few_steps admins replicas ops count m uncovered h (λ op o there covered runs. absurd (let no : false ≡ true = covered in cc)) in
        omega (arith, less, potential_most admins replicas ops m h)

    quiet : next_of (at_rest m) ≡ None
    quiet = elim (quiet_or_more (bound m) m) [ inl done ↦ done | inr more ↦ absurd (omega (arith, more, few (suc (bound m)))) ]

-- ---- after every list of steps

step_sent : (m : Machine) (taken : QStep) → Each (λ (n : ℕ). n < length m.state.mails) m.undelivered → Each (λ (n : ℕ). n < length (after_step m taken).state.mails) (after_step m taken).undelivered
step_sent m taken sent = by (refusal m.state taken)
  where
    by : (refused : Option QError) → Each (λ (n : ℕ). n < length (if is_some refused then m else machine_after m taken).state.mails) (if is_some refused then m else machine_after m taken).undelivered
    by None = moved_sent m taken (move_of m.state taken) sent
    by (Some error) = sent

steps_sent : (m : Machine) (steps : List QStep) → Each (λ (n : ℕ). n < length m.state.mails) m.undelivered → Each (λ (n : ℕ). n < length (after_steps m steps).state.mails) (after_steps m steps).undelivered
steps_sent m [] sent = sent
steps_sent m (taken ∷ steps) sent = steps_sent (after_step m taken) steps (step_sent m taken sent)

pub after_rests : (sizes : Sizes) (steps : List QStep) → 1 ≤ sizes.replicas → Each (IsStepOf sizes) steps
    → MachineRests sizes.admins (length (after sizes steps).state.replicas) (length (after sizes steps).state.ops) (after sizes steps)
after_rests sizes steps some each = record {
  rests = steps_rest sizes (opening sizes) (opening_rests sizes some) steps each;
  replica_count = refl;
  op_count = refl;
  sent = steps_sent (opening sizes) steps tt;
}

pub always_has_end : AlwaysHasEnd
always_has_end = λ sizes steps some each.
    has_end sizes.admins (length (after sizes steps).state.replicas) (length (after sizes steps).state.ops) (after sizes steps) (after_rests sizes steps some each)
