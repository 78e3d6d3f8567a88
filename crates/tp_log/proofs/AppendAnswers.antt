-- What an append answers, from the calls that it made.
use Rattle.std.proofs.Common.{◌≡◌, inl, inr, ℕ, ◌+◌, ◌≤◌, List, [], ◌∷◌, ◌++◌, length, Bool, true, false, Result, Ok, Err, refl, sym, ap, subst, ◌∙◌, arith}
use Rattle.tp_types.specs.declared.records.Record.{Record}
use Rattle.tp_device.specs.Disks.{Call, DiskState, LeavesOnly, MayLeave, clean_state}
use Rattle.tp_types.specs.Faults.{Rose}
use Rattle.tp_device.specs.declared.disk.DiskError.{DiskError}
use Rattle.tp_device.specs.declared.disk.DiskError.TheVariants as errors
use Rattle.tp_record.specs.Records.{IsRecord}
use Rattle.tp_record.specs.Spelling.{spelling}
use Rattle.tp_log.specs.Images.{Ends, blocks}
use Rattle.tp_log.specs.Appends.{body_max}
use Rattle.tp_log.specs.Logs.{Adds, Fails, GivesEither, Keeps, LogState, Makes, Stays, append_calls}
use Rattle.tp_log.specs.mirrors.Steps.{Step, Steps, forced_calls}
use Rattle.tp_log.proofs.Appends.{After, Kept, after_steps, clean_image}

abbrev failed_is : Result (Unit {0}) DiskError → Result (Unit {0}) DiskError
failed_is result = result

module _ {D : Type 0} (state : D → DiskState) (left_since : D → D → List ℕ → Type 0) (does : D → Call → Result (Unit {0}) DiskError → D → Type 0) (faults : D → ℕ)
    (only_now : (disk : D) (image : List ℕ) → left_since disk disk image → MayLeave (state disk) image) where
  pub makes : (calls : List Call) (old : D) (result : Result (Unit {0}) DiskError) (new : D) → Steps state left_since does faults calls old result new → Makes does calls old result new
  makes [] old (Ok x) new steps = steps
  makes [] old (Err e) new steps = absurd steps
  makes (call ∷ calls) old result new (inl passed) = inl (passed.0, passed.1.call_is, makes calls passed.0 result new passed.2)
  makes (call ∷ calls) old result new (inr refused) = inr (refused.0, refused.1.call_is, refused.2)

  -- a failure among several calls is a fault
  pub fault_of : (calls : List Call) (old new : D) → Steps state left_since does faults calls old (Err errors.Failed) new → Rose (faults old) (faults new)
  fault_of [] old new steps = absurd steps
  fault_of (call ∷ calls) old new (inl passed) = omega (arith, passed.1.cause.later, fault_of calls passed.0 new passed.2)
  fault_of (call ∷ calls) old new (inr refused) = by_error refused.0 refused.1 refused.2
    where
      by_error : (e : DiskError) → Step state left_since does faults call old (Err e) new → failed_is (Err errors.Failed) ≡ failed_is (Err e) → Rose (faults old) (faults new)
      by_error errors.Failed step e = step.cause.failed refl
      by_error errors.NoMemory step e = absurd cc

  -- no call was made of the disk
  pub unmoved : (log : LogState D) (r : Record) (records : List Record) → Keeps state log records → LeavesOnly left_since log.disk log.disk (GivesEither records r)
  unmoved log r records keeps image left =
      let seen = (state log.disk).seen in
      let image-is : image ≡ seen = clean_image seen image (subst (λ (s : DiskState). MayLeave s image) keeps.forced (only_now log.disk image left)) in
      inl (inr (subst (λ (b : List ℕ). Ends b records) (sym image-is) keeps.at_gate.ends))

  abbrev log : D → ℕ → Bool → LogState D
  log disk gate closed = record { disk = disk; gate = gate; closed = closed }

  module _ (disk : D) (gate : ℕ) (r : Record) (bytes : List ℕ) (is : IsRecord r) (bytes-are : bytes ≡ spelling r ++ 0 ∷ []) where
    spelled : (at : ℕ) → forced_calls at bytes ≡ append_calls at (spelling r)
    spelled at = ap (forced_calls at) bytes-are

    after : (result : Result (Unit {0}) DiskError) (new : D) (closed : Bool) → Steps state left_since does faults (forced_calls gate bytes) disk result new
        → (records : List Record) → Keeps state (log disk gate closed) records → After state left_since does faults only_now records r disk result new
    after result new closed steps records keeps =
        let e = keeps.at_gate.ends in
        let calls : forced_calls gate bytes ≡ append_calls (length (blocks records)) (spelling r) = spelled gate ∙ ap (λ (k : ℕ). append_calls k (spelling r)) keeps.at_gate.gate_is in
        after_steps state left_since does faults only_now records r is e.are e.gate e.shut e.rest disk new result (keeps.forced ∙ ap clean_state e.parts)
        (subst (λ (cs : List Call). Steps state left_since does faults cs disk result new) calls steps)

    pub moments : (result : Result (Unit {0}) DiskError) (new : D) (closed : Bool) → Steps state left_since does faults (forced_calls gate bytes) disk result new
        → (records : List Record) → Keeps state (log disk gate closed) records → LeavesOnly left_since disk new (GivesEither records r)
    moments result new closed steps records keeps = (after result new closed steps records keeps).so.moments

    made : (result : Result (Unit {0}) DiskError) (new : D) → Steps state left_since does faults (forced_calls gate bytes) disk result new → Makes does (append_calls gate (spelling r)) disk result new
    made result new steps = subst (λ (cs : List Call). Makes does cs disk result new) (spelled gate) (makes (forced_calls gate bytes) disk result new steps)

    kept_is : (records : List Record) (at next : ℕ) (new : D) → Kept state left_since does faults only_now records at new → next ≡ at → Keeps state (log new next false) records
    kept_is records at next new kept is-at = record {
      still_open = refl;
      at_gate = record { ends = kept.at_gate.ends; gate_is = is-at ∙ kept.at_gate.gate_is };
      forced = kept.forced;
    }

    pub adds : (next : ℕ) (new : D) (closed : Bool) → closed ≡ false → length (spelling r) ≤ body_max → next ≡ gate + length bytes → Steps state left_since does faults (forced_calls gate bytes) disk (Ok tt) new
        → Adds state does faults (log disk gate closed) r (log new next closed)
    adds next new closed is-open fits place steps = record {
      was_open = is-open;
      is_open = is-open;
      is = is;
      fits = fits;
      calls = made (Ok tt) new steps;
      kept = λ records keeps.
          let a = after (Ok tt) new closed steps records keeps in
          let at : next ≡ length (blocks records) + length (spelling r ++ 0 ∷ []) = omega (arith, place, keeps.at_gate.gate_is, ap length bytes-are) in
          subst (λ (b : Bool). Keeps state (log new next b) (records ++ r ∷ [])) (sym is-open) (kept_is (records ++ r ∷ []) (length (blocks records) + length (spelling r ++ 0 ∷ [])) next new a.outcome at);
    }

    pub fails : (new : D) (closed : Bool) → closed ≡ false → length (spelling r) ≤ body_max → Steps state left_since does faults (forced_calls gate bytes) disk (Err errors.Failed) new
        → Fails state does faults (log disk gate closed) r (log new gate true)
    fails new closed is-open fits steps = record {
      was_open = is-open;
      is_closed = refl;
      is = is;
      fits = fits;
      calls = made (Err errors.Failed) new steps;
      fault = fault_of (forced_calls gate bytes) disk new steps;
      kept = λ records keeps. record { was_closed = refl; images = (after (Err errors.Failed) new closed steps records keeps).so.images };
    }

    pub stays : (new : D) (closed : Bool) → closed ≡ false → length (spelling r) ≤ body_max → Steps state left_since does faults (forced_calls gate bytes) disk (Err errors.NoMemory) new
        → Stays state does faults (log disk gate closed) r (log new gate closed)
    stays new closed is-open fits steps = record {
      was_open = is-open;
      is_open = is-open;
      calls = inr (record { is = is; fits = fits; same_gate = refl; calls = made (Err errors.NoMemory) new steps });
      kept = λ records keeps.
          let a = after (Err errors.NoMemory) new closed steps records keeps in
          subst (λ (b : Bool). Keeps state (log new gate b) records) (sym is-open) (kept_is records (length (blocks records)) gate new a.outcome keeps.at_gate.gate_is);
    }
