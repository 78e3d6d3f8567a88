-- Reading the records of an image.
use Rattle.std.proofs.Common.{◌≡◌, ℕ, ◌-◌, ◌<◌, ◌≤◌, List, [], ◌∷◌, ◌++◌, length, drop, Some, None, sym, ap, ◌∙◌, arith}
use Rattle.std.specs.Prelude.{Option}
use Rattle.std.proofs.lemmas.List.{length-append, drop_at}
use Rattle.tp_types.specs.declared.records.Record.{Record}
use Rattle.tp_record.specs.Records.{IsRecord, Begins}
use Rattle.tp_record.specs.Spelling.{spelling}
use Rattle.tp_log.specs.Images.{AreRecords, FailsAt, NoneStands, blocks}
use Rattle.tp_log.proofs.Blocks.{blocks-push}

abbrev pub there : Record → ℕ → Option (Record × ℕ)
there r n = Some (r, n)

abbrev size_of : ℕ → Option (Record × ℕ) → ℕ
size_of d None = d
size_of d (Some x) = x.1

-- what was found takes all the bytes, so no next gate stands behind it
pub takes_all : (behind : List ℕ) (found : Record) (n : ℕ) → length behind ≤ n
    → ((r : Record) → IsRecord r → Begins behind (spelling r) → there found n ≡ there r (length (spelling r))) → NoneStands behind
takes_all behind found n all only r next more is e =
    let same = only r is (next ∷ more, e) in
    let size : n ≡ length (spelling r) = ap (λ (o : Option (Record × ℕ)). size_of n o) same in
    omega (arith, size, all, ap length e ∙ length-append (spelling r) (next ∷ more))

-- nothing was found
pub none_found : (behind : List ℕ) → ((r : Record) → IsRecord r → Begins behind (spelling r) → ⊥) → NoneStands behind
none_found behind none r next more is e = none r is (next ∷ more, e)

-- behind what was found
pub found_front : (behind : List ℕ) (r : Record) (n : ℕ) → Begins behind (spelling r) → n ≡ length (spelling r) → behind ≡ spelling r ++ drop n behind
found_front behind r n begins size =
    begins.1 ∙ ap (λ (t : List ℕ). spelling r ++ t) (sym (ap (drop n) begins.1 ∙ drop_at (spelling r) begins.0 n (sym size)))

-- one record more was read
pub read_more : (image : List ℕ) (records : List Record) (rest behind : List ℕ) (r : Record) (n : ℕ) → image ≡ blocks records ++ rest → rest ≡ 1 ∷ behind → behind ≡ spelling r ++ drop n behind → image ≡ blocks (records ++ r ∷ []) ++ drop n behind
read_more image records rest behind r n so_far gate found =
    so_far ∙ ap (λ (t : List ℕ). blocks records ++ t) (gate ∙ ap (λ (t : List ℕ). 1 ∷ t) found) ∙ sym (blocks-push records r (drop n behind))

pub fails_here : (image : List ℕ) (records : List Record) (rest behind : List ℕ) → 1 < length image → AreRecords records → image ≡ blocks records ++ rest → rest ≡ 1 ∷ behind → NoneStands behind → FailsAt image (length image - length behind)
fails_here image records rest behind long are so_far gate none = record {
  records = records;
  behind = behind;
  long = long;
  are = are;
  parts = so_far ∙ ap (λ (t : List ℕ). blocks records ++ t) gate;
  place_is = omega (arith, ap length so_far ∙ length-append (blocks records) rest, ap length gate);
  none = none;
}
