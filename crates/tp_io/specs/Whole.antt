-- Reading to the end, and writing whole texts.
use Rattle.std.specs.Prelude.{ℕ, ◌≡◌, ◌+◌, ◌++◌, ◌<◌, ◌≤◌, ⊤, Some, None, List, length, take, Bool, true, false, Option, Result, Ok, Err}
use Rattle.std.specs.Io.KnownBytes.{Consumes, Appends, IsAtEnd}
use Rattle.tp_io.specs.declared.whole.ReadError.{ReadError}
use Rattle.tp_io.specs.declared.whole.ReadError.TheVariants.{TooLong, Fault, NoMemory}

-- some bytes were taken, at most so many
pub record TakesAtMost (most : ℕ) (old new : Option (List ℕ)) : Type 0 where
  pub bytes : List ℕ
  pub consumed : Consumes old new bytes
  pub limit : length bytes ≤ most

-- so many bytes were taken
pub record TakesExactly (count : ℕ) (old new : Option (List ℕ)) : Type 0 where
  pub bytes : List ℕ
  pub consumed : Consumes old new bytes
  pub exact : length bytes ≡ count

-- one read: what it took stands behind the bytes from before, of which there are at most one more than an input may have, and it
-- took nothing only at the end
pub record Took (most : ℕ) (left left' : Option (List ℕ)) (bytes bytes' : List ℕ) (more : Bool) : Type 0 where
  pub piece : List ℕ
  pub appended : bytes' ≡ bytes ++ piece
  pub consumed : Consumes left left' piece
  pub limit : length bytes' ≤ most + 1
  pub longer : more ≡ true → length bytes < length bytes'
  pub ended : more ≡ false → (bytes' ≡ bytes) × IsAtEnd left'

-- where the input is told: Ok gives the whole of it, and TooLong comes only where it has more bytes than it may have
abbrev pub ReadsAll : ℕ → Option (List ℕ) → Result (List ℕ) ReadError → Type 0
ReadsAll most None result = ⊤
ReadsAll most (Some input) (Ok bytes) = (bytes ≡ input) × (length input ≤ most)
ReadsAll most (Some input) (Err TooLong) = most < length input
ReadsAll most (Some input) (Err Fault) = ⊤
ReadsAll most (Some input) (Err NoMemory) = ⊤

-- a part of the text's front was appended, and not the whole text
pub record AppendsFront (old new : Option (List ℕ)) (text : List ℕ) : Type 0 where
  pub count : ℕ
  pub partial : count < length text
  pub appended : Appends old new (take count text)
