-- Exact readers: what is read is spelled so, and what is spelled so is read.
use Rattle.std.proofs.Common.{◌≡◌, ◌⊎◌, ℕ, zero, suc, ◌<◌, ◌^◌, List, [], ◌∷◌, ◌++◌, length, get_or, take, Option, Some, None, Bool, true, false, cond, refl, sym, ap, subst, ◌∙◌, append_assoc, arith, inl, inr}
use Rattle.std.proofs.lemmas.List.{length-append}
use Rattle.tp_record.specs.mirrors.Readings.{Read, Reader, ◌>>=◌, mapped, both}

abbrev pub AreBytes : List ℕ → Type 0
AreBytes [] = Unit {0}
AreBytes (b ∷ bytes) = (b < 256) × AreBytes bytes

pub AreBytes-at : (bytes : List ℕ) → AreBytes bytes → (i : ℕ) → get_or bytes i 0 < 256
AreBytes-at [] h i = omega arith
AreBytes-at (b ∷ bytes) h zero = h.0
AreBytes-at (b ∷ bytes) h (suc i) = AreBytes-at bytes h.1 i

pub AreBytes-from : (bytes : List ℕ) → ((i : ℕ) → get_or bytes i 0 < 256) → AreBytes bytes
AreBytes-from [] h = tt
AreBytes-from (b ∷ bytes) h = (h 0, AreBytes-from bytes (λ i. h (suc i)))

pub AreBytes-take : (n : ℕ) (bytes : List ℕ) → AreBytes bytes → AreBytes (take n bytes)
AreBytes-take zero bytes h = tt
AreBytes-take (suc n) [] h = tt
AreBytes-take (suc n) (b ∷ bytes) h = (h.0, AreBytes-take n bytes h.1)

behind : (xs ys : List ℕ) → AreBytes (xs ++ ys) → AreBytes ys
behind [] ys h = h
behind (x ∷ xs) ys h = behind xs ys h.1

pub AreBytes-rest : (bytes xs ys : List ℕ) → bytes ≡ xs ++ ys → AreBytes bytes → AreBytes ys
AreBytes-rest bytes xs ys e h = behind xs ys (subst AreBytes e h)

pub record Exact {X : Type 0} (spell : X → List ℕ) (In : X → Type 0) (read : Reader X) : Type 0 where
  pub takes : (bytes : List ℕ) (x : X) (rest : List ℕ) → AreBytes bytes → read bytes ≡ Some (x, rest) → (bytes ≡ spell x ++ rest) × In x
  pub again : (x : X) (rest : List ℕ) → In x → length (spell x) < 2 ^ 32 → read (spell x ++ rest) ≡ Some (x, rest)
  pub solid : (x : X) → 0 < length (spell x)

-- the value of a step that did not fail
pub bind_some : {A B : Type 0} (r : Option A) (f : A → Option B) (y : B) → (r >>= f) ≡ Some y → (x : A) × (r ≡ Some x) × (f x ≡ Some y)
bind_some (Some x) f y e = (x, refl, e)
bind_some None f y e = absurd cc

abbrev there : {A : Type 0} → A → Option A
there x = Some x

pub some_is : {A : Type 0} (x y : A) → there x ≡ there y → x ≡ y
some_is x y e = cc

-- a value that was carried over
pub mapped_some : {A B : Type 0} (f : A → B) (r : Read A) (y : B) (rest : List ℕ) → mapped f r ≡ Some (y, rest) → (x : A) × (r ≡ Some (x, rest)) × (f x ≡ y)
mapped_some {A} {B} f (Some x) y rest e =
    let same = some_is (f x.0, x.1) (y, rest) e in
    (x.0, ap (λ (t : List ℕ). there (x.0, t)) (ap (λ (p : B × List ℕ). p.1) same), ap (λ (p : B × List ℕ). p.0) same)
mapped_some f None y rest e = absurd cc

-- which way a test went
pub chosen : {A : Type 0} (b : Bool) (x y z : A) → cond b x y ≡ z → ((b ≡ true) × (x ≡ z)) ⊎ ((b ≡ false) × (y ≡ z))
chosen true x y z e = inl (refl, e)
chosen false x y z e = inr (refl, e)

pub exact_both : {A B : Type 0} (sa : A → List ℕ) (ia : A → Type 0) (ra : Reader A) (sb : B → List ℕ) (ib : B → Type 0) (rb : Reader B)
    → Exact sa ia ra → Exact sb ib rb → Exact (λ (p : A × B). sa p.0 ++ sb p.1) (λ (p : A × B). ia p.0 × ib p.1) (both ra rb)
exact_both {A} {B} sa ia ra sb ib rb ea eb = record {
  takes = λ bytes x rest fits e.
      let a = bind_some (ra bytes) (λ a. rb a.1 >>= λ b. Some ((a.0, b.0), b.1)) (x, rest) e in
      let b = bind_some (rb a.0.1) (λ b. Some ((a.0.0, b.0), b.1)) (x, rest) a.2 in
      let ta = ea.takes bytes a.0.0 a.0.1 fits a.1 in
      let tb = eb.takes a.0.1 b.0.0 b.0.1 (AreBytes-rest bytes (sa a.0.0) a.0.1 ta.0 fits) b.1 in
      let parts : bytes ≡ (sa a.0.0 ++ sb b.0.0) ++ b.0.1 = ta.0 ∙ ap (λ (t : List ℕ). sa a.0.0 ++ t) tb.0 ∙ sym (append_assoc (sa a.0.0) (sb b.0.0) b.0.1) in
      let made : (A × B) × List ℕ = ((a.0.0, b.0.0), b.0.1) in
      let same = some_is made (x, rest) b.2 in
      subst (λ (q : (A × B) × List ℕ). (bytes ≡ (sa q.0.0 ++ sb q.0.1) ++ q.1) × (ia q.0.0 × ib q.0.1)) same (parts, (ta.1, tb.1));
  again = λ x rest fits few.
      ap (both ra rb) (append_assoc (sa x.0) (sb x.1) rest)
      ∙ rw (ea.again x.0 (sb x.1 ++ rest) fits.0 (omega (arith, few, length-append (sa x.0) (sb x.1))), eb.again x.1 rest fits.1 (omega (arith, few, length-append (sa x.0) (sb x.1)))) refl;
  solid = λ x. omega (arith, ea.solid x.0, length-append (sa x.0) (sb x.1));
}

-- the same bytes for another type: f makes its values of the parts that g gives
pub exact_as : {A B : Type 0} (s : A → List ℕ) (i : A → Type 0) (r : Reader A) (f : A → B) (g : B → A) → ((a : A) → g (f a) ≡ a) → ((b : B) → f (g b) ≡ b)
    → Exact s i r → Exact (λ (b : B). s (g b)) (λ (b : B). i (g b)) (λ bytes. mapped f (r bytes))
exact_as {A} {B} s i r f g gf fg e = record {
  takes = λ bytes y rest fits h.
      let m = mapped_some f (r bytes) y rest h in
      let t = e.takes bytes m.0 rest fits m.1 in
      let back : m.0 ≡ g y = sym (gf m.0) ∙ ap g m.2 in
      subst (λ (a : A). (bytes ≡ s a ++ rest) × i a) back t;
  again = λ y rest fits few.
      ap (mapped f) (e.again (g y) rest fits few) ∙ ap (λ (b : B). Some (b, rest)) (fg y);
  solid = λ y. e.solid (g y);
}
