-- Every image of bytes has a reading, or a place at which it fails.
use Rattle.std.proofs.Common.{◌≡◌, inl, inr, ℕ, zero, suc, ◌+◌, ◌<◌, ◌≤◌, List, [], ◌∷◌, ◌++◌, length, Some, None, Bool, true, false, refl, sym, ap, ◌∙◌, arith}
use Rattle.std.specs.Prelude.{◌==◌}
use Rattle.std.proofs.lemmas.Bool.{eqb-false, eqb-true}
use Rattle.std.proofs.lemmas.List.{length-append}
use Rattle.tp_types.specs.declared.records.Record.{Record}
use Rattle.tp_record.specs.Spelling.{spelling}
use Rattle.tp_record.specs.mirrors.Readings.{Read, body_at}
use Rattle.tp_record.proofs.Bodies.{body_takes, nothing_read, one_spelling}
use Rattle.tp_record.proofs.Exact.{AreBytes, AreBytes-rest}
use Rattle.tp_log.specs.Images.{AreRecords, HasReading, NoneStands, blocks}
use Rattle.tp_log.proofs.Blocks.{AreRecords-push, blocks-push}
use Rattle.tp_log.proofs.Reading.{fails_here}

-- a record that takes all the bytes leaves none for a next gate
whole_stands : (behind : List ℕ) (r : Record) → AreBytes behind → body_at behind ≡ Some (r, []) → NoneStands behind
whole_stands behind r fits read s next more is e =
    let here = body_takes behind r [] fits read in
    let one = one_spelling r s [] (next ∷ more) here.1 is (sym here.0 ∙ e) in
    absurd (omega (arith, ap length one.1))

module _ (image : List ℕ) (long : 1 < length image) where
  -- the records so far, and what is not read yet
  abbrev Onward : ℕ → Type 0
  Onward turns = (records : List Record) (rest : List ℕ) → length rest ≤ turns → 0 < length rest → AreBytes rest → AreRecords records → image ≡ blocks records ++ rest → HasReading image

  module _ (turns : ℕ) (onward : Onward turns) (records : List Record) (gate : ℕ) (behind : List ℕ) (few : length behind ≤ turns) (fits : AreBytes behind) (are : AreRecords records)
      (parts : image ≡ blocks records ++ gate ∷ behind) where
    by_read : (read : Read Record) → body_at behind ≡ read → gate ≡ 1 → HasReading image
    by_read None e open_gate =
        inr (_, fails_here image records (gate ∷ behind) behind long are parts (ap (λ (g : ℕ). g ∷ behind) open_gate) (λ r next more is same. nothing_read behind r e is (next ∷ more, same)))
    by_read (Some (r, [])) e open_gate =
        inr (_, fails_here image records (gate ∷ behind) behind long are parts (ap (λ (g : ℕ). g ∷ behind) open_gate) (whole_stands behind r fits e))
    by_read (Some (r, next ∷ more)) e open_gate =
        let here = body_takes behind r (next ∷ more) fits e in
        let size : length behind ≡ length (spelling r) + length (next ∷ more) = ap length here.0 ∙ length-append (spelling r) (next ∷ more) in
        onward (records ++ r ∷ []) (next ∷ more) (omega (arith, few, size)) (omega arith) (AreBytes-rest behind (spelling r) (next ∷ more) here.0 fits) (AreRecords-push records r are here.1)
        (parts ∙ ap (λ (t : List ℕ). blocks records ++ t) (ap (λ (g : ℕ). g ∷ behind) open_gate ∙ ap (λ (t : List ℕ). 1 ∷ t) here.0) ∙ sym (blocks-push records r (next ∷ more)))

    by_gate : (b : Bool) → (gate == 1) ≡ b → HasReading image
    by_gate true e = by_read (body_at behind) refl (eqb-true gate 1 e)
    by_gate false e = inl (records, inr (record { gate = gate; rest = behind; are = are; shut = eqb-false gate 1 e; parts = parts }))

  reads_on : (turns : ℕ) → Onward turns
  reads_on turns records [] few some fits are parts = absurd (omega (arith, some))
  reads_on zero records (gate ∷ behind) few some fits are parts = absurd (omega (arith, few))
  reads_on (suc turns) records (gate ∷ behind) few some fits are parts = by_gate turns (reads_on turns) records gate behind (omega (arith, few)) fits.1 are parts (gate == 1) refl

pub has_reading : (image : List ℕ) → AreBytes image → HasReading image
has_reading [] fits = inl ([], inl (omega arith, refl))
has_reading (b ∷ []) fits = inl ([], inl (omega arith, refl))
has_reading (b ∷ c ∷ bytes) fits = reads_on (b ∷ c ∷ bytes) (omega arith) (length (b ∷ c ∷ bytes)) [] (b ∷ c ∷ bytes) (omega arith) (omega arith) fits tt refl
