-- What the disk of an actor's log holds.
use Rattle.std.proofs.Common.{◌≡◌, inl, inr, ℕ, ◌<◌, ◌≤◌, List, [], ◌∷◌, ◌++◌, length, None, Some, Bool, true, false, if◌then◌else◌, Result, Ok, Err, OnErr, OnOk, refl, sym, ap, subst, ◌∙◌, arith}
use Rattle.std.proofs.lemmas.Bool.{cases_lt}
use Rattle.tp_device.specs.Disks.{DiskState, MayLeave, after_sync, clean_state}
use Rattle.tp_device.specs.Memory.{Memory, disk_of}
use Rattle.tp_log.specs.Images.{Gives}
use Rattle.tp_log.specs.Appends.{is_kept, kept_after}
use Rattle.tp_log.specs.Logs.{Keeps, LogState, fresh_log}
use Rattle.tp_log.proofs.Appends.{clean_image}
use Rattle.tp_log.proofs.Blocks.{gives_one}
use Rattle.tp_log.proofs.Found.{gives_found}
use Rattle.tp_model.specs.Words.{Cut, Record}
use Rattle.tp_actor_log.specs.Disks.{IsDiskOf}
use Rattle.tp_actor_log.specs.Records.{cut_record, log_with}
use Rattle.tp_actor_log.specs.mirrors.Disks.{IsForced, records_on}

-- a log has these records on its disk
pub record HasRecords (log : LogState Memory) (records : List Record) : Type 0 where
  pub forced : IsForced log
  pub same : records_on log ≡ records

-- one that keeps them does
pub kept_records : (log : LogState Memory) (records : List Record) → Keeps disk_of log records → log.disk.left ≡ None → HasRecords log records
kept_records log records keeps running =
    let gives : Gives log.disk.disk.seen records = inr keeps.at_gate.ends in
    let same : records_on log ≡ records = gives_found log.disk.disk.seen records gives in
    record {
      forced = record {
        gives = subst (Gives log.disk.disk.seen) (sym same) gives;
        forced = keeps.forced;
        running = running;
        keeps = λ _. subst (Keeps disk_of log) (sym same) keeps;
      };
      same = same;
    }

-- so does one that is closed, whose bytes give them
pub closed_records : (log : LogState Memory) (records : List Record) → Gives log.disk.disk.seen records → log.disk.disk ≡ clean_state log.disk.disk.seen → log.disk.left ≡ None → log.closed ≡ true
    → HasRecords log records
closed_records log records gives forced running closed =
    let same : records_on log ≡ records = gives_found log.disk.disk.seen records gives in
    record {
      forced = record {
        gives = subst (Gives log.disk.disk.seen) (sym same) gives;
        forced = forced;
        running = running;
        keeps = λ e. absurd (cc (closed, e));
      };
      same = same;
    }

-- so does a fresh one, which has none
pub fresh_records : HasRecords fresh_log []
fresh_records =
    kept_records fresh_log []
    (record {
      still_open = refl;
      at_gate = record {
        ends = record { gate = 0; rest = []; are = tt; shut = λ e. absurd (omega (arith, e)); parts = refl };
        gate_is = refl;
      };
      forced = refl;
    })
    refl

-- every image that a crash may leave of it gives its records
pub forced_disk : (log : LogState Memory) → IsForced log → IsDiskOf log.disk (records_on log)
forced_disk log h image left =
    let same = clean_image log.disk.disk.seen image (subst (λ (s : DiskState). MayLeave s image) h.forced left) in
    subst (λ (t : List ℕ). Gives t (records_on log)) (sym same) h.gives

-- what a cut leaves of an append is the record or nothing
pub torn : (cut : Cut) (kept : List Record) (r : Record) → kept_after cut.calls cut.fill kept r ≡ log_with kept (cut_record cut (Some r))
torn cut kept r = by_case (is_kept cut.calls cut.fill)
  where
    by_case : (b : Bool) → (if b then kept ++ r ∷ [] else kept) ≡ log_with kept (if b then Some r else None)
    by_case true = refl
    by_case false = refl

-- ---- an append

-- what an append left, as it answered: one record more, or what was there
pub record Appended {E : Type 0} (old new : LogState Memory) (r : Record) (result : Result (Unit {0}) E) : Type 0 where
  pub forced : IsForced new
  pub one_more : OnOk result (records_on new ≡ records_on old ++ r ∷ [])
  pub same : OnErr result (records_on new ≡ records_on old)

pub appended : {E : Type 0} (old new : LogState Memory) (r : Record) (result : Result (Unit {0}) E) → IsForced old → old.closed ≡ false
    → OnOk result ((records : List Record) → Keeps disk_of old records → Keeps disk_of new (records ++ r ∷ []))
    → OnErr result ((records : List Record) → Keeps disk_of old records → Keeps disk_of new records)
    → new.disk.left ≡ None → Appended old new r result
appended old new r (Ok x) h is_open kept stays running =
    let now = kept_records new (records_on old ++ r ∷ []) (kept (records_on old) (h.keeps is_open)) running in
    record { forced = now.forced; one_more = now.same; same = tt }
appended old new r (Err e) h is_open kept stays running =
    let now = kept_records new (records_on old) (stays (records_on old) (h.keeps is_open)) running in
    record { forced = now.forced; one_more = tt; same = now.same }

-- ---- a crash

-- one that crashed with nothing unsynced has what it had
pub crash_records : (old new : LogState Memory) → IsForced old → new.disk ≡ record old.disk { left = None } → new.closed ≡ true → HasRecords new (records_on old)
crash_records old new h disk closed =
    let state : new.disk.disk ≡ old.disk.disk = ap (λ (m : Memory). m.disk) disk in
    let seen : new.disk.disk.seen ≡ old.disk.disk.seen = ap (λ (s : DiskState). s.seen) state in
    closed_records new (records_on old) (subst (λ (t : List ℕ). Gives t (records_on old)) (sym seen) h.gives)
    (state ∙ h.forced ∙ ap clean_state (sym seen)) (ap (λ (m : Memory). m.left) disk) closed

-- ---- reading anew

abbrev synced : LogState Memory → Memory
synced log = record log.disk { disk = after_sync log.disk.disk }

-- one that was opened anew has what it had
pub reread_records : (old new : LogState Memory) (records : List Record) → IsForced old → Gives old.disk.disk.seen records → Keeps disk_of new records
    → (1 < length old.disk.disk.seen → new.disk ≡ synced old)
    → (length old.disk.disk.seen ≤ 1 → new.disk ≡ record old.disk { disk = clean_state (0 ∷ []) })
    → HasRecords new (records_on old)
reread_records old new records h gives keeps long short =
    let same : records ≡ records_on old = gives_one old.disk.disk.seen records (records_on old) gives h.gives in
    let running : new.disk.left ≡ None = elim (cases_lt 1 (length old.disk.disk.seen)) [
      | inl lt ↦ ap (λ (m : Memory). m.left) (long lt) ∙ h.running
      | inr le ↦ ap (λ (m : Memory). m.left) (short le) ∙ h.running
    ] in
    kept_records new (records_on old) (subst (Keeps disk_of new) same keeps) running

-- and so has one that could not be
pub unread_records : (old new : LogState Memory) → IsForced old → new.disk ≡ synced old → new.closed ≡ true → HasRecords new (records_on old)
unread_records old new h disk closed =
    let state : new.disk.disk ≡ after_sync old.disk.disk = ap (λ (m : Memory). m.disk) disk in
    let seen : new.disk.disk.seen ≡ old.disk.disk.seen = ap (λ (s : DiskState). s.seen) state in
    closed_records new (records_on old) (subst (λ (t : List ℕ). Gives t (records_on old)) (sym seen) h.gives)
    (state ∙ ap clean_state (sym seen)) (ap (λ (m : Memory). m.left) disk ∙ h.running) closed
