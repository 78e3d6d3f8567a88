-- What the bytes of a log say.
use Rattle.std.specs.Prelude.{◌≡◌, ◌≢◌, ◌⊎◌, ◌<◌, ◌≤◌, ⊤, ℕ, ◌+◌, List, [], ◌∷◌, ◌++◌, length}
use Rattle.tp_types.specs.declared.records.Record.{Record}
use Rattle.tp_record.specs.Records.{IsRecord}
use Rattle.tp_record.specs.Spelling.{spelling}

-- an open gate, which is 1, and a body for each record
abbrev pub blocks : List Record → List ℕ
blocks [] = []
blocks (r ∷ records) = 1 ∷ (spelling r ++ blocks records)

abbrev pub AreRecords : List Record → Type 0
AreRecords [] = ⊤
AreRecords (r ∷ records) = IsRecord r × AreRecords records

-- a gate that is not open ends the records, and what follows it is not read
pub record Ends (image : List ℕ) (records : List Record) : Type 0 where
  pub gate : ℕ
  pub rest : List ℕ
  pub are : AreRecords records
  pub shut : gate ≢ 1
  pub parts : image ≡ blocks records ++ gate ∷ rest

-- an image of at most one byte is the empty log
abbrev pub Gives : List ℕ → List Record → Type 0
Gives image records = ((length image ≤ 1) × (records ≡ [])) ⊎ Ends image records

-- the image gives the one records and then the others, and this is the place of the gate between them
pub record GivesBehind (image : List ℕ) (place : ℕ) (before more : List Record) : Type 0 where
  pub gives : Gives image (before ++ more)
  pub place_is : place ≡ length (blocks before)

-- no record and a next gate stand at the front
abbrev pub NoneStands : List ℕ → Type 0
NoneStands behind =
    (r : Record) (next : ℕ) (more : List ℕ) → IsRecord r → behind ≢ spelling r ++ next ∷ more

-- behind an open gate, at this place, no record and a next gate stand
pub record FailsAt (image : List ℕ) (place : ℕ) : Type 0 where
  pub records : List Record
  pub behind : List ℕ
  pub long : 1 < length image
  pub are : AreRecords records
  pub parts : image ≡ blocks records ++ 1 ∷ behind
  pub place_is : place ≡ length (blocks records) + 1
  pub none : NoneStands behind

-- the image gives some records, or fails at some place
abbrev pub HasReading : List ℕ → Type 0
HasReading image =
    ((records : List Record) × Gives image records) ⊎ ((place : ℕ) × FailsAt image place)
