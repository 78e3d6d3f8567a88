-- A value behind a tag: what is read by its tag is spelled so.
use Rattle.std.proofs.Common.{◌≡◌, ℕ, ◌<◌, ◌^◌, List, [], ◌∷◌, ◌++◌, length, Some, sym, ap, subst, ◌∙◌, inl, inr}
use Rattle.std.specs.Prelude.{◌==◌, if◌then◌else◌}
use Rattle.std.proofs.lemmas.Bool.{eqb-true}
use Rattle.tp_record.specs.mirrors.Readings.{Read, Reader, ◌>>=◌, mapped, both, byte_at}
use Rattle.tp_record.proofs.Exact.{AreBytes, AreBytes-rest, Exact, exact_both, some_is, mapped_some, chosen}
use Rattle.tp_record.proofs.Generic.{tagged}

pub pair : {A B : Type 0} {sa : A → List ℕ} {ia : A → Type 0} {ra : Reader A} {sb : B → List ℕ} {ib : B → Type 0} {rb : Reader B}
    → Exact sa ia ra → Exact sb ib rb → Exact (λ (p : A × B). sa p.0 ++ sb p.1) (λ (p : A × B). ia p.0 × ib p.1) (both ra rb)
pair {sa = sa} {ia = ia} {ra = ra} {sb = sb} {ib = ib} {rb = rb} ea eb = exact_both sa ia ra sb ib rb ea eb

-- one of two readings, by the tag
pub choice : {X : Type 0} {G : Type 0} (tag k : ℕ) (here other : Read X) (y : X × List ℕ) → (if tag == k then here else other) ≡ Some y → (tag ≡ k → here ≡ Some y → G) → (other ≡ Some y → G) → G
choice tag k here other y h f g = elim (chosen (tag == k) here other (Some y) h) [ inl p ↦ f (eqb-true tag k p.0) p.1 | inr p ↦ g p.1 ]

-- x is spelled by the tag and the bytes up to the rest
abbrev pub Spells : {X : Type 0} → (X → List ℕ) → (X → Type 0) → ℕ → List ℕ → X → List ℕ → Type 0
Spells spell In tag bytes x rest = (tag ∷ bytes ≡ spell x ++ rest) × In x

abbrev pub read_of : {X : Type 0} → X → List ℕ → Read X
read_of x rest = Some (x, rest)

-- a variant that holds nothing
pub bare : {X : Type 0} (spell : X → List ℕ) (In : X → Type 0) (k tag : ℕ) (bytes : List ℕ) (made x : X) (rest : List ℕ) → spell made ≡ k ∷ [] → In made → tag ≡ k → read_of made bytes ≡ read_of x rest → Spells spell In tag bytes x rest
bare {X} spell In k tag bytes made x rest e fits is h =
    let start : X × List ℕ = (made, bytes) in
    subst (λ (q : X × List ℕ). Spells spell In tag bytes q.0 q.1) (some_is start (x, rest) h) (ap (λ (t : ℕ). t ∷ bytes) is ∙ ap (λ (t : List ℕ). t ++ bytes) (sym e), fits)

-- a variant that holds a value
pub holding : {A X : Type 0} {s : A → List ℕ} {i : A → Type 0} {r : Reader A} (exact : Exact s i r) (spell : X → List ℕ) (In : X → Type 0) (make : A → X) (k tag : ℕ) (bytes : List ℕ) (x : X) (rest : List ℕ)
    → ((a : A) → spell (make a) ≡ k ∷ s a) → ((a : A) → i a → In (make a)) → AreBytes bytes → tag ≡ k → mapped make (r bytes) ≡ Some (x, rest) → Spells spell In tag bytes x rest
holding {s = s} {r = r} exact spell In make k tag bytes x rest e fits are is h =
    let m = mapped_some make (r bytes) x rest h in
    let t = exact.takes bytes m.0 rest are m.1 in
    let parts : tag ∷ bytes ≡ spell (make m.0) ++ rest = (λ j. is j ∷ t.0 j) ∙ ap (λ (u : List ℕ). u ++ rest) (sym (e m.0)) in
    subst (λ (y : _). Spells spell In tag bytes y rest) m.2 (parts, fits m.0 t.1)

-- a value that is read by its tag
pub exact_tagged : {X : Type 0} (spell : X → List ℕ) (In : X → Type 0) (next : ℕ → Reader X)
    → ((tag : ℕ) (bytes : List ℕ) (x : X) (rest : List ℕ) → AreBytes bytes → next tag bytes ≡ Some (x, rest) → Spells spell In tag bytes x rest)
    → ((x : X) (rest : List ℕ) → In x → length (spell x) < 2 ^ 32 → (byte_at (spell x ++ rest) >>= λ tag. next tag.0 tag.1) ≡ Some (x, rest))
    → ((x : X) → 0 < length (spell x)) → Exact spell In (λ bytes. byte_at bytes >>= λ tag. next tag.0 tag.1)
exact_tagged spell In next takes again solid = record {
  takes = λ bytes x rest fits h.
      let t = tagged next bytes x rest h in
      let u = takes t.0 t.1 x rest (AreBytes-rest bytes (t.0 ∷ []) t.1 t.2 fits) t.3 in
      (t.2 ∙ u.0, u.1);
  again = again;
  solid = solid;
}
