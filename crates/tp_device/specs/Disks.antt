-- What the calls of a disk do, and which images a crash may leave.
use Rattle.std.specs.Prelude.{◌≡◌, ◌⊎◌, ℕ, ◌+◌, ◌-◌, ◌<◌, ◌≤◌, ◌&&◌, nat_le, nat_lt, min, max, Bool, false, List, [], ◌∷◌, ◌++◌, length, take, drop, slice_index, Result, Ok, Err}
use Rattle.std.specs.List.{list_any}
use Rattle.tp_device.specs.declared.disk.DiskError.{DiskError}
use Rattle.tp_device.specs.declared.disk.DiskError.TheVariants as errors
use Rattle.tp_device.specs.declared.span.Span.{Span}

-- a disk, as its calls leave it: what a read gives, the least and the greatest length since the last
-- sync that succeeded, and the ranges that were written since
pub record DiskState : Type 0 where
  pub seen : List ℕ
  pub least : ℕ
  pub greatest : ℕ
  pub written : List Span

abbrev pub is_within : ℕ → Span → Bool
is_within i span = nat_le span.at i && nat_lt i (span.at + span.len)

abbrev pub is_touched : List Span → ℕ → Bool
is_touched spans i = list_any (λ span. is_within i span) spans

-- a crash may leave this image: a length between the two, and below the least one the byte that a read
-- gives wherever nothing was written since. All else is free
pub record MayLeave (s : DiskState) (image : List ℕ) : Type 0 where
  pub no_shorter : s.least ≤ length image
  pub no_longer : length image ≤ s.greatest
  pub kept : (i : ℕ) → i < s.least → is_touched s.written i ≡ false
      → slice_index image i ≡ slice_index s.seen i

-- ---- the calls

-- a read: as many bytes as there are and as there is room for, and the rest of the buffer stays
abbrev pub ReadsAt : List ℕ → ℕ → List ℕ → ℕ → List ℕ → Type 0
ReadsAt seen at room n new =
    (n ≡ min (length room) (length seen - at)) × (new ≡ take n (drop at seen) ++ drop n room)

abbrev pub with_piece : List ℕ → ℕ → List ℕ → List ℕ
with_piece old at piece = take at old ++ (piece ++ drop (at + length piece) old)

abbrev pub span : ℕ → ℕ → Span
span at len = record { at = at; len = len }

abbrev pub after_write : ℕ → List ℕ → DiskState → DiskState
after_write at piece s = record {
  seen = with_piece s.seen at piece;
  least = s.least;
  greatest = max s.greatest (at + length piece);
  written = s.written ++ span at (length piece) ∷ [];
}

abbrev pub after_cut : ℕ → DiskState → DiskState
after_cut len s = record s { seen = take len s.seen; least = min s.least len }

-- nothing is unsynced: a crash leaves what a read gives
abbrev pub clean_state : List ℕ → DiskState
clean_state seen = record { seen = seen; least = length seen; greatest = length seen; written = [] }

abbrev pub after_sync : DiskState → DiskState
after_sync s = clean_state s.seen

-- ---- calls that failed

-- after a write that failed the range counts as written, and the length is the old or the new one
pub record MayHaveWritten (at len : ℕ) (old new : DiskState) : Type 0 where
  pub size : (length new.seen ≡ length old.seen)
      ⊎ (length new.seen ≡ max (length old.seen) (at + len))
  pub others : (i : ℕ) → i < length old.seen → is_within i (span at len) ≡ false
      → slice_index new.seen i ≡ slice_index old.seen i
  pub crash : (image : List ℕ) → MayLeave new image
      → MayLeave
      (record {
        seen = new.seen;
        least = old.least;
        greatest = max old.greatest (at + len);
        written = old.written ++ span at len ∷ [];
      })
      image

-- after a cut that failed the bytes are the old or the new ones, and what it was to cut off is free
pub record MayHaveCut (len : ℕ) (old new : DiskState) : Type 0 where
  pub seen : (new.seen ≡ old.seen) ⊎ (new.seen ≡ take len old.seen)
  pub crash : (image : List ℕ) → MayLeave new image
      → MayLeave (record old { seen = new.seen; least = min old.least len }) image

-- ---- what each call does, by its answer

-- a call that may change a disk
pub data Call : Type 0 where
  Write : (at : ℕ) (piece : List ℕ) → Call
  Cut : (len : ℕ) → Call
  Sync : Call

-- A refusal of memory changes nothing, and a sync answers none. A sync that failed changes nothing
abbrev pub CallEffect : Call → DiskState → Result (Unit {0}) DiskError → DiskState → Type 0
CallEffect (Write at piece) old (Ok _) new = new ≡ after_write at piece old
CallEffect (Write at piece) old (Err errors.Failed) new = MayHaveWritten at (length piece) old new
CallEffect (Write at piece) old (Err errors.NoMemory) new = new ≡ old
CallEffect (Cut len) old (Ok _) new = new ≡ after_cut len old
CallEffect (Cut len) old (Err errors.Failed) new = MayHaveCut len old new
CallEffect (Cut len) old (Err errors.NoMemory) new = new ≡ old
CallEffect Sync old (Ok _) new = new ≡ after_sync old
CallEffect Sync old (Err errors.Failed) new = new ≡ old
CallEffect Sync old (Err errors.NoMemory) new = ⊥

-- ---- moments

-- a call takes time: a crash since an earlier moment might have left what it might have left before the
-- call, or what it may leave after it
abbrev pub Passes : {D : Type 0} → (D → DiskState) → (D → D → List ℕ → Type 0) → D → D → Type 0
Passes {D} state left_since old new =
    (start : D) (image : List ℕ) → left_since start new image
    → left_since start old image ⊎ MayLeave (state new) image

-- a crash at any moment from the first state of a disk to the second leaves an image that has P
abbrev pub LeavesOnly : {D : Type 0} → (D → D → List ℕ → Type 0) → D → D → (List ℕ → Type 0)
    → Type 0
LeavesOnly left_since start now P = (image : List ℕ) → left_since start now image → P image
