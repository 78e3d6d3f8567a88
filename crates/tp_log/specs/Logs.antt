-- What a log keeps.
use Rattle.std.specs.Prelude.{◌≡◌, ◌⊎◌, ◌<◌, ◌≤◌, ℕ, ◌+◌, List, [], ◌∷◌, ◌++◌, length, Bool, true, false, Result, Ok, Err, refl}
use Rattle.std.specs.Coded.{Coded, code_by, coded×, coded_bool, coded_ℕ}
use Rattle.tp_types.specs.declared.records.Record.{Record}
use Rattle.tp_device.specs.Disks.{Call, DiskState, MayLeave, Sync, Write, clean_state}
use Rattle.tp_device.specs.Memory.{Memory, fresh}
use Rattle.tp_device.specs.declared.disk.DiskError.{DiskError}
use Rattle.tp_device.specs.declared.disk.DiskError.TheVariants as disk_errors
use Rattle.tp_types.specs.Faults.{Rose}
use Rattle.tp_record.specs.Records.{IsRecord}
use Rattle.tp_record.specs.Spelling.{spelling}
use Rattle.tp_log.specs.Appends.{body_max}
use Rattle.tp_log.specs.Images.{Ends, Gives, blocks}
use Rattle.tp_log.specs.declared.error.LogError.{LogError}
use Rattle.tp_log.specs.declared.error.LogError.TheVariants as errors

-- a log: its disk, the place of the gate that ends it, and whether an append failed
pub record LogState (D : Type 0) : Type 0 where
  pub disk : D
  pub gate : ℕ
  pub closed : Bool

-- an empty log on a fresh disk in memory
abbrev pub fresh_log : LogState Memory
fresh_log = record { disk = fresh; gate = 0; closed = false }

-- it is stored as the pair of its fields
abbrev pub log_code : {D : Type 0} → Coded D → Coded (LogState D)
log_code {D} code =
    code_by (D × (ℕ × Bool)) (coded× code (coded× coded_ℕ coded_bool))
    (λ l. (l.disk, (l.gate, l.closed)))
    (λ p. record { disk = p.0; gate = p.1.0; closed = p.1.1 }) (λ _. refl)

-- the bytes are open blocks of these records, and at this place a gate that is not open
pub record IsAt (bytes : List ℕ) (records : List Record) (gate : ℕ) : Type 0 where
  pub ends : Ends bytes records
  pub gate_is : gate ≡ length (blocks records)

-- an open log keeps these records: its gate stands behind them, and nothing is unsynced
pub record Keeps {D : Type 0} (state : D → DiskState) (log : LogState D) (records : List Record)
    : Type 0 where
  pub still_open : log.closed ≡ false
  pub at_gate : IsAt (state log.disk).seen records log.gate
  pub forced : state log.disk ≡ clean_state (state log.disk).seen

-- the image gives the records, with one more or without it
abbrev pub GivesEither : List Record → Record → List ℕ → Type 0
GivesEither records r image = Gives image records ⊎ Gives image (records ++ r ∷ [])

-- a log of which an append failed: every image that a crash may leave gives the records, with the one
-- that was appended or without it
pub record MayKeep {D : Type 0} (state : D → DiskState) (log : LogState D) (records : List Record)
    (r : Record) : Type 0 where
  pub was_closed : log.closed ≡ true
  pub images : (image : List ℕ) → MayLeave (state log.disk) image → GivesEither records r image

-- ---- the calls of an append

-- at the closed gate: the body and a closed next gate behind it, and once they are synced the gate
abbrev pub append_calls : ℕ → List ℕ → List Call
append_calls gate body =
    Write (gate + 1) (body ++ 0 ∷ []) ∷ Sync ∷ Write gate (1 ∷ []) ∷ Sync ∷ []

-- the calls were made one after the other: all of them passed, or all up to one that was refused so
abbrev pub Makes : {D : Type 0} → (D → Call → Result (Unit {0}) DiskError → D → Type 0) → List Call
    → D → Result (Unit {0}) DiskError → D → Type 0
Makes does [] old (Ok _) new = new ≡ old
Makes does [] old (Err _) new = ⊥
Makes {D} does (call ∷ calls) old result new =
    ((mid : D) × does old call (Ok tt) mid × Makes does calls mid result new)
    ⊎ ((e : DiskError) × does old call (Err e) new × (result ≡ Err e))

-- ---- what an append does, by its answer

module _ {D : Type 0} (state : D → DiskState) (does : D → Call → Result (Unit {0}) DiskError → D → Type 0) (faults : D → ℕ) where
  -- the log keeps one record more
  pub record Adds (old : LogState D) (r : Record) (new : LogState D) : Type 0 where
    pub was_open : old.closed ≡ false
    pub is_open : new.closed ≡ false
    pub is : IsRecord r
    pub fits : length (spelling r) ≤ body_max
    pub calls : Makes does (append_calls old.gate (spelling r)) old.disk (Ok tt) new.disk
    pub kept : (records : List Record) → Keeps state old records
        → Keeps state new (records ++ r ∷ [])

  -- a call of the disk failed, and one_more a fault
  pub record Fails (old : LogState D) (r : Record) (new : LogState D) : Type 0 where
    pub was_open : old.closed ≡ false
    pub is_closed : new.closed ≡ true
    pub is : IsRecord r
    pub fits : length (spelling r) ≤ body_max
    pub calls : Makes does (append_calls old.gate (spelling r)) old.disk
        (Err disk_errors.Failed) new.disk
    pub fault : Rose (faults old.disk) (faults new.disk)
    pub kept : (records : List Record) → Keeps state old records → MayKeep state new records r

  -- a call of the disk was refused memory, after those before it passed
  pub record Halts (old : LogState D) (r : Record) (new : LogState D) : Type 0 where
    pub is : IsRecord r
    pub fits : length (spelling r) ≤ body_max
    pub same_gate : new.gate ≡ old.gate
    pub calls : Makes does (append_calls old.gate (spelling r)) old.disk
        (Err disk_errors.NoMemory) new.disk

  -- memory was refused, and the log keeps its records: before the first call of the disk, and then nothing changed, or by a call
  pub record Stays (old : LogState D) (r : Record) (new : LogState D) : Type 0 where
    pub was_open : old.closed ≡ false
    pub is_open : new.closed ≡ false
    pub calls : (new ≡ old) ⊎ Halts old r new
    pub kept : (records : List Record) → Keeps state old records → Keeps state new records

  abbrev pub AppendEffect : LogState D → Record → Result (Unit {0}) LogError → LogState D → Type 0
  AppendEffect old r (Ok _) new = Adds old r new
  AppendEffect old r (Err errors.Device) new = Fails old r new
  AppendEffect old r (Err errors.NoMemory) new = Stays old r new
  AppendEffect old r (Err errors.Closed) new = (old.closed ≡ true) × (new ≡ old)
  AppendEffect old r (Err errors.TooLong) new = (old.closed ≡ false) × (body_max < length (spelling r)) × (new ≡ old)
  AppendEffect old r (Err (errors.NotALog place)) new = ⊥
