-- The function gives the records that an image gives.
use Rattle.std.proofs.Common.{◌≡◌, ◌≢◌, inl, inr, ℕ, zero, suc, ◌≤◌, List, [], ◌∷◌, ◌++◌, length, Some, Bool, true, false, cond, refl, sym, ap, ◌∙◌, append_assoc, arith}
use Rattle.std.specs.Prelude.{◌==◌}
use Rattle.std.proofs.lemmas.Bool.{ne_eqb}
use Rattle.std.proofs.lemmas.List.{length-append}
use Rattle.tp_types.specs.declared.records.Record.{Record}
use Rattle.tp_record.specs.Spelling.{spelling}
use Rattle.tp_record.specs.mirrors.Readings.{body_at}
use Rattle.tp_record.proofs.Bodies.{body_again}
use Rattle.tp_log.specs.Images.{AreRecords, Gives, blocks}
use Rattle.tp_log.specs.Found.{found_from, found_next, records_in}

found_ends : (turns : ℕ) (rs : List Record) (g : ℕ) (rest : List ℕ) → AreRecords rs → g ≢ 1 → length (blocks rs ++ g ∷ rest) ≤ turns → found_from turns (blocks rs ++ g ∷ rest) ≡ rs
found_ends zero [] g rest are shut few = absurd (omega arith)
found_ends zero (r ∷ rs) g rest are shut few = absurd (omega arith)
found_ends (suc turns) [] g rest are shut few = ap (λ (b : Bool). cond b (found_next (λ bytes. found_from turns bytes) (body_at rest)) []) (ne_eqb g 1 shut)
found_ends (suc turns) (r ∷ rs) g rest are shut few =
    let regrouped : (spelling r ++ blocks rs) ++ g ∷ rest ≡ spelling r ++ (blocks rs ++ g ∷ rest) = append_assoc (spelling r) (blocks rs) (g ∷ rest) in
    let read : body_at ((spelling r ++ blocks rs) ++ g ∷ rest) ≡ Some (r, blocks rs ++ g ∷ rest) = ap body_at regrouped ∙ body_again r (blocks rs ++ g ∷ rest) are.0 in
    let size : length (blocks rs ++ g ∷ rest) ≤ turns = omega (arith, few, ap length regrouped ∙ length-append (spelling r) (blocks rs ++ g ∷ rest)) in
    ap (found_next (λ bytes. found_from turns bytes)) read ∙ ap (λ (ss : List Record). r ∷ ss) (found_ends turns rs g rest are.1 shut size)

short_found : (image : List ℕ) → length image ≤ 1 → records_in image ≡ []
unfolding body_at
short_found [] short = refl
short_found (g ∷ []) short = by_gate (g == 1)
  where
    by_gate : (b : Bool) → cond b (found_next (λ bytes. found_from 0 bytes) (body_at [])) [] ≡ []
    by_gate true = refl
    by_gate false = refl
short_found (g ∷ h ∷ image) short = absurd (omega arith)

pub gives_found : (image : List ℕ) (rs : List Record) → Gives image rs → records_in image ≡ rs
gives_found image rs (inl p) = short_found image p.0 ∙ sym p.1
gives_found image rs (inr e) =
    ap records_in e.parts ∙ found_ends (length (blocks rs ++ e.gate ∷ e.rest)) rs e.gate e.rest e.are e.shut (omega arith)
