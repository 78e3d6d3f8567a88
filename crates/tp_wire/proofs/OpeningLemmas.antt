-- Parts and passes that are dealt one after another.
use Rattle.std.proofs.Common.{◌≡◌, ℕ, zero, suc, ◌+◌, ◌-◌, ◌<◌, List, [], ◌∷◌, ◌++◌, sym, ap, ◌∙◌, false, arith}
use Rattle.atomic_table.specs.Seated.{TableId}
use Rattle.tp_wire.specs.declared.view.View.{View}
use Rattle.tp_wire.specs.Passes.{Known, without_part, part_alone, fresh_pass, fresh_passes}
use Rattle.tp_wire.specs.Rule.{fresh, fresh_parts, holder}
use Rattle.tp_wire.proofs.SeatLemmas.{first_cut}

more_passes : (table : TableId) (from count : ℕ) → fresh_passes table from (suc count) ≡ fresh_passes table from count ++ fresh_pass table (from + count) ∷ []
more_passes table from zero = ap (λ (n : ℕ). fresh_pass table n ∷ []) (omega arith)
more_passes table from (suc count) =
    let at : (from + 1) + count ≡ from + suc count = omega arith in
    ap (λ (ps : List Known). fresh_pass table from ∷ ps) (more_passes table (from + 1) count)
    ∙ ap (λ (n : ℕ). fresh_pass table from ∷ (fresh_passes table (from + 1) count ++ fresh_pass table n ∷ [])) at

-- one pass more is dealt
pub dealt_more : (table : TableId) (count : ℕ) → fresh_passes table 0 count ++ fresh_pass table count ∷ [] ≡ fresh_passes table 0 (count + 1)
dealt_more table count =
    let at : count ≡ 0 + count = omega arith in
    let next : suc count ≡ count + 1 = omega arith in
    ap (λ (n : ℕ). fresh_passes table 0 count ++ fresh_pass table n ∷ []) at ∙ (sym (more_passes table 0 count) ∙ ap (fresh_passes table 0) next)

-- the first part that is left is cut off
pub part_cut : (n limit : ℕ) → n < limit → (part_alone n (holder (fresh_parts n (limit - n))) ≡ holder (fresh n ∷ [])) × (without_part n (holder (fresh_parts n (limit - n))) ≡ holder (fresh_parts (n + 1) (limit - (n + 1))))
part_cut n limit less =
    let left : limit - n ≡ suc (limit - (n + 1)) = omega (arith, less) in
    let cut = first_cut n (limit - (n + 1)) in
    (ap (λ (k : ℕ). part_alone n (holder (fresh_parts n k))) left ∙ ap holder cut.1, ap (λ (k : ℕ). without_part n (holder (fresh_parts n k))) left ∙ ap holder cut.0)

-- what is cut off is the pass of its number
pub pass_cut : (p : Known) (n : ℕ) (found table : TableId) (v : View) → p ≡ record { table = found; view = v; given_up = false } → found ≡ table → v ≡ holder (fresh n ∷ []) → p ≡ fresh_pass table n
pass_cut p n found table v is same view_is =
    is ∙ (ap (λ (t : TableId). record { table = t; view = v; given_up = false }) same ∙ ap (λ (u : View). record { table = table; view = u; given_up = false }) view_is)
