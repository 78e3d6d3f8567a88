use Rattle.std.proofs.Common.{List, [], arith, inl, inr, length, refl, sym, ℤ, ⊎_elim, ◌∙◌, ◌∷◌, ◌≡◌, ◌⊎◌}
use Rattle.tp_model.specs.Words.{Deed, Query}
use Rattle.tp_coord.specs.Sums.{registers_from}
use Rattle.tp_coord.proofs.sums.registers_after.Goals as goal

-- where queries or deeds are at an end, the registers stay
none_left : (queries : List Query) (deeds : List Deed) (registers : List ℤ) → (length queries ≡ 0) ⊎ (length deeds ≡ 0) → registers_from queries deeds registers ≡ registers
none_left [] deeds registers h = refl
none_left (query ∷ queries) [] registers h = refl
none_left (query ∷ queries) (deed ∷ deeds) registers h = absurd (⊎_elim (λ e. omega (arith, e)) (λ e. omega (arith, e)) h)

pub returns : goal.returns
returns c =
    sym (none_left c.loop-query.query-iterator.a.rest.now c.loop-query.query-iterator.b.rest.now c.loop-query.registers (⊎_elim (λ h. inl h.1.0) (λ h. inr h.1.0) c.in-None.ensures.steps))
    ∙ c.loop-query.invariant
