-- The first proof of an administrator among others.
use Rattle.std.proofs.Common.{◌≡◌, ◌++◌, Bool, true, false, cond, List, [], ◌∷◌, Some, None, refl, sym, ◌∙◌}
use Rattle.tp_model.specs.Words.{AdminId, Verdict, Version}
use Rattle.tp_scheme.specs.Gathered.{is_of, pin_of}
use Rattle.tp_scheme.specs.Laws.{FirstProofsPin, PinsStay}

-- the pin where the first of these proofs is or is not of the administrator
pin_with : (admin : AdminId) (first : Verdict) (proofs : List Verdict) (b : Bool) → is_of admin first ≡ b
    → pin_of (first ∷ proofs) admin ≡ cond b (Some first.version) (pin_of proofs admin)
pin_with admin first proofs true e = rw e refl
pin_with admin first proofs false e = rw e refl

stays_where : (admin : AdminId) (first : Verdict) (proofs more : List Verdict) (version : Version) (b : Bool) → is_of admin first ≡ b
    → (pin_of proofs admin ≡ Some version → pin_of more admin ≡ Some version)
    → pin_of (first ∷ proofs) admin ≡ Some version → pin_of (first ∷ more) admin ≡ Some version
stays_where admin first proofs more version true e rest pinned =
    pin_with admin first more true e ∙ sym (pin_with admin first proofs true e) ∙ pinned
stays_where admin first proofs more version false e rest pinned =
    pin_with admin first more false e ∙ rest (sym (pin_with admin first proofs false e) ∙ pinned)

pub pins_stay : PinsStay
pins_stay [] proof admin version pinned = cc
pins_stay (first ∷ proofs) proof admin version pinned =
    stays_where admin first proofs (proofs ++ proof ∷ []) version (is_of admin first) refl (pins_stay proofs proof admin version) pinned

-- where no proof so far is of the administrator, the pin is that of what is added alone
unpinned_where : (admin : AdminId) (first proof : Verdict) (proofs more : List Verdict) (b : Bool) → is_of admin first ≡ b
    → (pin_of proofs admin ≡ None → pin_of more admin ≡ pin_of (proof ∷ []) admin)
    → pin_of (first ∷ proofs) admin ≡ None → pin_of (first ∷ more) admin ≡ pin_of (proof ∷ []) admin
unpinned_where admin first proof proofs more true e rest none =
    let pinned : Some first.version ≡ None = sym (pin_with admin first proofs true e) ∙ none in
    cc
unpinned_where admin first proof proofs more false e rest none =
    pin_with admin first more false e ∙ rest (sym (pin_with admin first proofs false e) ∙ none)

unpinned : (proofs : List Verdict) (proof : Verdict) (admin : AdminId) → pin_of proofs admin ≡ None
    → pin_of (proofs ++ proof ∷ []) admin ≡ pin_of (proof ∷ []) admin
unpinned [] proof admin none = refl
unpinned (first ∷ proofs) proof admin none =
    unpinned_where admin first proof proofs (proofs ++ proof ∷ []) (is_of admin first) refl (unpinned proofs proof admin) none

pub first_proofs_pin : FirstProofsPin
first_proofs_pin proofs proof admin none = (
  λ its. unpinned proofs proof admin none ∙ pin_with admin proof [] true its,
  λ its. unpinned proofs proof admin none ∙ pin_with admin proof [] false its,
)
