-- What opening a log does to its disk, from the calls that it made.
use Rattle.std.proofs.Common.{◌≡◌, inl, inr, ⊎_elim, ℕ, ◌<◌, ◌≤◌, List, [], ◌∷◌, drop, length, Result, Ok, Err, refl, sym, ap, subst, ◌∙◌, arith}
use Rattle.tp_device.specs.Disks.{Call, DiskState, CallEffect, LeavesOnly, MayLeave, Sync, Write, after_sync, after_write, clean_state}
use Rattle.tp_types.specs.Faults.{Rose}
use Rattle.tp_device.specs.declared.disk.DiskError.{DiskError}
use Rattle.tp_device.specs.declared.disk.DiskError.TheVariants as errors
use Rattle.tp_log.specs.Openings.{GivesUp, LeftOpening, Opens, Reads, gate_calls}
use Rattle.tp_log.specs.Refusals.{IfDevice, log_error}
use Rattle.tp_log.specs.mirrors.Steps.{Step, Steps}
use Rattle.tp_log.proofs.AppendAnswers.{fault_of, makes}
use Rattle.tp_log.proofs.Appends.{clean_image}

nothing_behind : (seen : List ℕ) → length seen ≤ 1 → drop 1 seen ≡ []
nothing_behind [] few = refl
nothing_behind (b ∷ []) few = refl
nothing_behind (b ∷ c ∷ seen) few = absurd (omega (arith, few))

module _ {D : Type 0} (state : D → DiskState) (left_since : D → D → List ℕ → Type 0) (does : D → Call → Result (Unit {0}) DiskError → D → Type 0) (faults : D → ℕ)
    (only_now : (disk : D) (image : List ℕ) → left_since disk disk image → MayLeave (state disk) image) where
  abbrev IsStep : Call → D → Result (Unit {0}) DiskError → D → Type 0
  IsStep call old result new = Step state left_since does faults call old result new

  -- as far as this a crash leaves no other image
  pub record Far (old new : D) : Type 0 where
    pub moments : LeavesOnly left_since old new (LeftOpening (state old))
    pub later : faults old ≤ faults new

  far_start : (d : D) → Far d d
  far_start d = record { moments = λ image left. inl (only_now d image left); later = omega arith }

  far_step : (old mid new : D) (call : Call) (result : Result (Unit {0}) DiskError) → Far old mid → IsStep call mid result new
      → ((image : List ℕ) → MayLeave (state new) image → LeftOpening (state old) image) → Far old new
  far_step old mid new call result far step images = record {
    moments = λ image left. ⊎_elim (far.moments image) (images image) (step.time old image left);
    later = omega (arith, far.later, step.cause.later);
  }

  settled_left : (old d : D) → state d ≡ after_sync (state old) → (image : List ℕ) → MayLeave (state d) image → LeftOpening (state old) image
  settled_left old d at image left = inr (inl (clean_image (state old).seen image (subst (λ (s : DiskState). MayLeave s image) at left)))

  far_first : (old first : D) → IsStep Sync old (Ok tt) first → Far old first
  far_first old first step = far_step old old first Sync (Ok tt) (far_start old) step (settled_left old first step.effect)

  far_read : (old first then : D) → IsStep Sync old (Ok tt) first → Reads state left_since does faults first then → Far old then
  far_read old first then step reads =
      let far = far_first old first step in
      record {
        moments = λ image left. ⊎_elim (far.moments image) (settled_left old then (reads.same ∙ step.effect) image) (reads.time old image left);
        later = omega (arith, far.later, reads.later);
      }

  -- ---- the gate

  small_left : (s : DiskState) (image : List ℕ) → length s.seen ≤ 1 → length image ≤ 1 → LeftOpening s image
  small_left s image few small = inr (inr (few, small))

  gate_wrote : (seen image : List ℕ) → length seen ≤ 1 → MayLeave (after_write 0 (0 ∷ []) (clean_state seen)) image → length image ≤ 1
  gate_wrote seen image few left = omega (arith, few, left.no_longer)

  gate_failed : (seen image : List ℕ) (now : DiskState) → length seen ≤ 1 → CallEffect (Write 0 (0 ∷ [])) (clean_state seen) (Err errors.Failed) now → MayLeave now image → length image ≤ 1
  gate_failed seen image now few may left = omega (arith, few, (may.crash image left).no_longer)

  gate_settled : (seen : List ℕ) → length seen ≤ 1 → after_sync (after_write 0 (0 ∷ []) (clean_state seen)) ≡ clean_state (0 ∷ [])
  gate_settled seen few = ap (λ (t : List ℕ). clean_state (0 ∷ t)) (nothing_behind seen few)

  module _ (old then : D) (at : state then ≡ after_sync (state old)) (few : length (state old).seen ≤ 1) (far : Far old then) where
    wrote_left : (d : D) → state d ≡ after_write 0 (0 ∷ []) (state then) → (image : List ℕ) → MayLeave (state d) image → LeftOpening (state old) image
    wrote_left d now image left =
        small_left (state old) image few (gate_wrote (state old).seen image few (subst (λ (s : DiskState). MayLeave s image) (now ∙ ap (after_write 0 (0 ∷ [])) at) left))

    far_wrote : (mid : D) → IsStep (Write 0 (0 ∷ [])) then (Ok tt) mid → Far old mid
    far_wrote mid step = far_step old then mid (Write 0 (0 ∷ [])) (Ok tt) far step (wrote_left mid step.effect)

    gate_is : (mid new : D) → IsStep (Write 0 (0 ∷ [])) then (Ok tt) mid → IsStep Sync mid (Ok tt) new → state new ≡ clean_state (0 ∷ [])
    gate_is mid new write sync = sync.effect ∙ ap after_sync (write.effect ∙ ap (after_write 0 (0 ∷ [])) at) ∙ gate_settled (state old).seen few

    far_gate : (mid new : D) → IsStep (Write 0 (0 ∷ [])) then (Ok tt) mid → IsStep Sync mid (Ok tt) new → Far old new
    far_gate mid new write sync = far_step old mid new Sync (Ok tt) (far_wrote mid write) sync
        (λ image left. small_left (state old) image few (omega (arith, (subst (λ (s : DiskState). MayLeave s image) (gate_is mid new write sync) left).no_longer)))

    far_write_failed : (new : D) → IsStep (Write 0 (0 ∷ [])) then (Err errors.Failed) new → Far old new
    far_write_failed new step =
        let may = subst (λ (s : DiskState). CallEffect (Write 0 (0 ∷ [])) s (Err errors.Failed) (state new)) at step.effect in
        far_step old then new (Write 0 (0 ∷ [])) (Err errors.Failed) far step
        (λ image left. small_left (state old) image few (gate_failed (state old).seen image (state new) few may left))

    far_sync_failed : (mid new : D) → IsStep (Write 0 (0 ∷ [])) then (Ok tt) mid → IsStep Sync mid (Err errors.Failed) new → Far old new
    far_sync_failed mid new write sync =
        far_step old mid new Sync (Err errors.Failed) (far_wrote mid write) sync (wrote_left new (sync.effect ∙ write.effect))

    record Gated (new : D) : Type 0 where
      pub is : state new ≡ clean_state (0 ∷ [])
      pub reached : Far old new

    gated : (new : D) → Steps state left_since does faults gate_calls then (Ok tt) new → Gated new
    gated new (inr refused) = absurd (cc (refused.2))
    gated new (inl (mid, write, inr refused)) = absurd (cc (refused.2))
    gated new (inl (mid, write, inl (last, sync, same))) =
        subst (λ (d : D). Gated d) (sym same) (record { is = gate_is mid last write sync; reached = far_gate mid last write sync })

    gate_refused : (new : D) → Steps state left_since does faults gate_calls then (Err errors.Failed) new → Far old new
    gate_refused new (inr (errors.Failed, write, e)) = far_write_failed new write
    gate_refused new (inr (errors.NoMemory, write, e)) = absurd (cc e)
    gate_refused new (inl (mid, write, inr (errors.Failed, sync, e))) = far_sync_failed mid new write sync
    gate_refused new (inl (mid, write, inr (errors.NoMemory, sync, e))) = absurd (cc e)
    gate_refused new (inl (mid, write, inl (last, sync, none))) = absurd none

  -- ---- the answers

  pub opens_long : (old first new : D) → IsStep Sync old (Ok tt) first → Reads state left_since does faults first new → 1 < length (state old).seen → Opens state left_since does faults old new
  opens_long old first new step reads many =
      let far = far_read old first new step reads in
      record {
        first = first;
        sync = step.call_is;
        then = new;
        read = reads;
        calls = inl (many, refl);
        long = λ _. reads.same ∙ step.effect;
        short = λ few. absurd (omega (arith, many, few));
        moments = far.moments;
        later = far.later;
      }

  pub opens_short : (old first then new : D) → IsStep Sync old (Ok tt) first → Reads state left_since does faults first then → length (state old).seen ≤ 1
      → Steps state left_since does faults gate_calls then (Ok tt) new → Opens state left_since does faults old new
  opens_short old first then new step reads few steps =
      let g = gated old then (reads.same ∙ step.effect) few (far_read old first then step reads) new steps in
      record {
        first = first;
        sync = step.call_is;
        then = then;
        read = reads;
        calls = inr (few, makes state left_since does faults only_now gate_calls then (Ok tt) new steps);
        long = λ many. absurd (omega (arith, many, few));
        short = λ _. g.is;
        moments = g.reached.moments;
        later = g.reached.later;
      }

  pub sync_refused : (old gone : D) (e : DiskError) → IsStep Sync old (Err e) gone → IfDevice (log_error e) (GivesUp state left_since does faults old gone)
  sync_refused old gone errors.NoMemory step = tt
  sync_refused old gone errors.Failed step =
      let far = far_step old old gone Sync (Err errors.Failed) (far_start old) step
      (λ image left. inl (subst (λ (s : DiskState). MayLeave s image) step.effect left)) in
      record { calls = inl step.call_is; moments = far.moments; fault = step.cause.failed refl }

  pub read_refused : (old first gone : D) → IsStep Sync old (Ok tt) first → Reads state left_since does faults first gone → Rose (faults first) (faults gone) → GivesUp state left_since does faults old gone
  read_refused old first gone step reads rose =
      let far = far_read old first gone step reads in
      record {
        calls = inr (first, step.call_is, gone, reads, inl refl);
        moments = far.moments;
        fault = omega (arith, rose, step.cause.later);
      }

  pub gate_given_up : (old first then gone : D) (e : DiskError) → IsStep Sync old (Ok tt) first → Reads state left_since does faults first then → length (state old).seen ≤ 1
      → Steps state left_since does faults gate_calls then (Err e) gone → IfDevice (log_error e) (GivesUp state left_since does faults old gone)
  gate_given_up old first then gone errors.NoMemory step reads few steps = tt
  gate_given_up old first then gone errors.Failed step reads few steps =
      let far = gate_refused old then (reads.same ∙ step.effect) few (far_read old first then step reads) gone steps in
      let made = makes state left_since does faults only_now gate_calls then (Err errors.Failed) gone steps in
      let rose = fault_of state left_since does faults only_now gate_calls then gone steps in
      record {
        calls = inr (first, step.call_is, then, reads, inr (few, made));
        moments = far.moments;
        fault = omega (arith, rose, step.cause.later, reads.later);
      }

  -- ---- what is left by a refusal, whichever it is

  pub sync_left : (old gone : D) (e : DiskError) → IsStep Sync old (Err e) gone → Far old gone
  sync_left old gone errors.NoMemory step = absurd (step.effect)
  sync_left old gone errors.Failed step =
      far_step old old gone Sync (Err errors.Failed) (far_start old) step (λ image left. inl (subst (λ (s : DiskState). MayLeave s image) step.effect left))

  pub read_left : (old first gone : D) → IsStep Sync old (Ok tt) first → Reads state left_since does faults first gone → Far old gone
  read_left old first gone step reads = far_read old first gone step reads

  module _ (old then : D) (at : state then ≡ after_sync (state old)) (few : length (state old).seen ≤ 1) (far : Far old then) where
    settled_again : (d : D) → state d ≡ state then → (image : List ℕ) → MayLeave (state d) image → LeftOpening (state old) image
    settled_again d same image left = settled_left old d (same ∙ at) image left

    gate_memory : (new : D) → Steps state left_since does faults gate_calls then (Err errors.NoMemory) new → Far old new
    gate_memory new (inr (errors.Failed, write, e)) = absurd (cc e)
    gate_memory new (inr (errors.NoMemory, write, e)) = far_step old then new (Write 0 (0 ∷ [])) (Err errors.NoMemory) far write (settled_again new write.effect)
    gate_memory new (inl (mid, write, inr (errors.Failed, sync, e))) = absurd (cc e)
    gate_memory new (inl (mid, write, inr (errors.NoMemory, sync, e))) = absurd (sync.effect)
    gate_memory new (inl (mid, write, inl (last, sync, none))) = absurd none

  pub gate_left : (old first then gone : D) (e : DiskError) → IsStep Sync old (Ok tt) first → Reads state left_since does faults first then → length (state old).seen ≤ 1
      → Steps state left_since does faults gate_calls then (Err e) gone → Far old gone
  gate_left old first then gone errors.NoMemory step reads few steps =
      gate_memory old then (reads.same ∙ step.effect) few (far_read old first then step reads) gone steps
  gate_left old first then gone errors.Failed step reads few steps =
      gate_refused old then (reads.same ∙ step.effect) few (far_read old first then step reads) gone steps
