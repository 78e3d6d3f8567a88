use Rattle.std.proofs.Common.{◌≡◌, ◌<◌, ℕ, suc, zero, List, [], ◌∷◌, get_or, length, take, refl, ap, sym, ◌∙◌, arith, add-one}
use Rattle.tp_model.specs.Words.{Version}
use Rattle.tp_recover.specs.Kept.{with_all_told, with_told}
use Rattle.tp_recover.proofs.versions.tell_all.Goals as goal

none_told : (newest : List Version) → with_all_told newest [] ≡ newest
none_told [] = refl
none_told (known ∷ newest) = refl

one_more : (newest told : List Version) (at : ℕ) (d : Version) → at < length told
    → with_told (with_all_told newest (take at told)) at (get_or told at d) ≡ with_all_told newest (take (suc at) told)
one_more [] told at d within = refl
one_more (known ∷ newest) [] at d within = absurd (omega (arith, within))
one_more (known ∷ newest) (first ∷ told) zero d within = rw (none_told newest) refl
one_more (known ∷ newest) (first ∷ told) (suc at) d within = rw (one_more newest told at d (omega (arith, within))) refl

pub loop-admin-init : goal.loop-admin-init
loop-admin-init c = sym (none_told c.args.newest.now)

pub loop-admin-preserved : goal.loop-admin-preserved
loop-admin-preserved c =
    let at : ℕ = c.loop-admin.admin in
    let version : Version = get_or c.args.told.now at (record { 0 = 0 }) in
    rw add-one
    (c.tell.ensures ∙ ap (λ (newest : List Version). with_told newest at version) c.loop-admin.invariant
    ∙ one_more c.args.newest.now c.args.told.now at (record { 0 = 0 }) c.loop-admin-test.true)
