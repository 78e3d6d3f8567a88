-- One master before the first step, after every step, and so after every list of steps.
use Rattle.std.proofs.Common.{◌≡◌, ℕ, ◌≤◌, List, [], ◌∷◌, length, replicate, slice_get, Bool, true, false, Option, Some, None, is_some, zero, suc, refl, sym, ap, subst, arith, ◌∙◌, if◌then◌else◌}
use Rattle.tp_types.proofs.EachLemmas.{each_get}
use Rattle.tp_types.specs.Each.{Each}
use Rattle.tp_quorum.proofs.Beginning.{publish_rests, read_rests}
use Rattle.tp_quorum.proofs.Counting.{most_all}
use Rattle.tp_quorum.proofs.Facts.{one_master_empty}
use Rattle.tp_quorum.proofs.Going.{operation_takes_rests}
use Rattle.tp_quorum.proofs.Lists.{same_at, same_length}
use Rattle.tp_quorum.proofs.Replicas.{boot_rests, crash_rests, idle_rests, replica_takes_rests, timer_rests}
use Rattle.tp_quorum.proofs.Told.{told_at, told_at_some}
use Rattle.tp_quorum.proofs.World.{MailRests, ReplicaRests, Rests, last_at}
use Rattle.tp_quorum.specs.Laws.{IsAlwaysOneMaster}
use Rattle.tp_quorum.specs.Machine.{IsStepOf, Machine, State, after_step, after_steps, busy, delivery, first_where, is_by_publisher, is_request, machine_after, move_of, opened_replica, opening, opening_state, operation_takes, receipt, refusal, replica_takes, state_after}
use Rattle.tp_quorum.specs.Replica.{first_version, told_of_all}
use Rattle.tp_quorum.specs.Words.{QError, QMail, QStep, Sizes}
use Rattle.tp_quorum.specs.Words.step

-- ---- before the first step

first_last : (count n : ℕ) → last_at (replicate count first_version) n ≡ 1
first_last zero n = refl
first_last (suc count) zero = refl
first_last (suc count) (suc n) = first_last count n

opened_rests : (admins : ℕ) → ReplicaRests (replicate admins first_version) (opened_replica admins)
opened_rests admins = record {
  knows = λ known e. let same : told_of_all admins [] ≡ known = cc in sym same ∙ ap (λ (n : ℕ). told_of_all n []) (sym (same_length admins first_version));
  few = λ admin. omega (arith, first_last admins admin);
}

pub opening_rests : (sizes : Sizes) → 1 ≤ sizes.replicas → Rests sizes.admins (opening_state sizes)
opening_rests sizes some = record {
  some = omega (arith, some, same_length sizes.replicas (opened_replica sizes.admins));
  admin_count = same_length sizes.admins first_version;
  replicas = λ n replica e. subst (ReplicaRests (replicate sizes.admins first_version)) (same_at sizes.replicas n (opened_replica sizes.admins) replica e) (opened_rests sizes.admins);
  published = λ admin. omega (arith, first_last sizes.admins admin.0);
  op_count = refl;
  ops = λ op o e. absurd (cc);
  mails = tt;
  facts = tt;
  most = λ admin.
      most_all (length (replicate sizes.replicas (opened_replica sizes.admins))) (λ (r : ℕ). 1 ≤ told_at (replicate sizes.replicas (opened_replica sizes.admins)) r admin)
      (omega (arith, some, same_length sizes.replicas (opened_replica sizes.admins))) (λ r. told_at_some (replicate sizes.replicas (opened_replica sizes.admins)) r admin);
  past = tt;
  one_master = one_master_empty;
}

-- ---- each step

receipt_rests : (admins : ℕ) (w : State) (taken : QStep) (number : ℕ) (mail : QMail) → Rests admins w → slice_get w.mails number ≡ Some mail → Rests admins (state_after w taken (receipt w mail))
receipt_rests admins w taken number mail h sent = by (is_request mail.body)
  where
    by : (b : Bool) → Rests admins (state_after w taken (if b then replica_takes w mail else operation_takes w mail))
    by true = replica_takes_rests admins w taken mail h (each_get (MailRests w) w.mails number mail h.mails sent) (slice_get w.replicas mail.replica) refl
    by false = operation_takes_rests admins w taken number mail h sent (slice_get w.ops mail.op) refl

delivery_rests : (admins : ℕ) (w : State) (taken : QStep) (number : ℕ) → Rests admins w → (found : Option QMail) → slice_get w.mails number ≡ found → Rests admins (state_after w taken (delivery w found))
delivery_rests admins w taken number h None e = idle_rests admins w taken h
delivery_rests admins w taken number h (Some mail) e = receipt_rests admins w taken number mail h e

not_busy : (found : Option ℕ) → busy found ≡ None → found ≡ None
not_busy None e = refl
not_busy (Some op) e = absurd (cc)

step_rests : (sizes : Sizes) (w : State) → Rests sizes.admins w → (taken : QStep) → IsStepOf sizes taken → refusal w taken ≡ None → Rests sizes.admins (state_after w taken (move_of w taken))
step_rests sizes w h (step.Publish admin) exists done = publish_rests sizes.admins w admin h exists (not_busy (first_where (is_by_publisher admin) 0 w.ops) done) (step.Publish admin)
step_rests sizes w h (step.Read reader admin) exists done = read_rests sizes.admins w reader admin h exists (step.Read reader admin)
step_rests sizes w h (step.Deliver mail) exists done = delivery_rests sizes.admins w (step.Deliver mail) mail h (slice_get w.mails mail) refl
step_rests sizes w h (step.Lose mail) exists done = idle_rests sizes.admins w (step.Lose mail) h
step_rests sizes w h (step.Crash replica cut) exists done = crash_rests sizes.admins w (step.Crash replica cut) replica cut h (slice_get w.replicas replica) refl
step_rests sizes w h (step.Boot replica) exists done = boot_rests sizes.admins w (step.Boot replica) replica h (slice_get w.replicas replica) refl
step_rests sizes w h (step.Timer op) exists done = timer_rests sizes.admins w (step.Timer op) op h (slice_get w.ops op) refl

pub after_step_rests : (sizes : Sizes) (m : Machine) → Rests sizes.admins m.state → (taken : QStep) → IsStepOf sizes taken → Rests sizes.admins (after_step m taken).state
after_step_rests sizes m h taken exists = by (refusal m.state taken) refl
  where
    by : (refused : Option QError) → refusal m.state taken ≡ refused → Rests sizes.admins (if is_some refused then m else machine_after m taken).state
    by None done = step_rests sizes m.state h taken exists done
    by (Some error) refused = h

-- ---- every list of steps

pub steps_rest : (sizes : Sizes) (m : Machine) → Rests sizes.admins m.state → (steps : List QStep) → Each (IsStepOf sizes) steps → Rests sizes.admins (after_steps m steps).state
steps_rest sizes m h [] each = h
steps_rest sizes m h (taken ∷ steps) each = steps_rest sizes (after_step m taken) (after_step_rests sizes m h taken each.0) steps each.1

pub always_rests : (sizes : Sizes) (steps : List QStep) → 1 ≤ sizes.replicas → Each (IsStepOf sizes) steps → Rests sizes.admins (after_steps (opening sizes) steps).state
always_rests sizes steps some each = steps_rest sizes (opening sizes) (opening_rests sizes some) steps each

pub always_one_master : IsAlwaysOneMaster
always_one_master = λ sizes steps some each. (always_rests sizes steps some each).one_master
