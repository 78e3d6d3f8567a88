-- Numbers, options and lists are read exactly.
use Rattle.std.proofs.Common.{◌≡◌, ℕ, zero, suc, ◌+◌, ◌^◌, ◌<◌, ◌≤◌, List, [], ◌∷◌, ◌++◌, length, Option, Some, None, ℤ, refl, sym, ap, subst, ◌∙◌, append_assoc, arith, inl, inr}
use Rattle.std.specs.Prelude.{◌==◌, FitsSigned, if◌then◌else◌}
use Rattle.std.specs.List.{flat_map}
use Rattle.std.specs.Int.{w128, cast_signed, cast_unsigned}
use Rattle.std.proofs.Math.Facts.{sfits_to_z, Fits-of_z}
use Rattle.std.proofs.lemmas.Bool.{eqb-true}
use Rattle.std.proofs.lemmas.Int.{to_z-of_z, of_z-to_z}
use Rattle.std.proofs.lemmas.List.{length-append}
use Rattle.std.proofs.lemmas.List.Concat.{flat_map-cons}
use Rattle.byteorder.specs.Endian.{big_bytes}
use Rattle.tp_record.specs.Ranges.{IsShort, IsLong, IsValue, InOption, InList}
use Rattle.tp_record.specs.Spelling.{short, long, value, option, list}
use Rattle.tp_record.specs.mirrors.Readings.{Reader, ◌>>=◌, mapped, byte_at, number_at, value_at, flagged, option_at, times, list_at}
use Rattle.tp_record.proofs.Exact.{AreBytes, AreBytes-rest, Exact, bind_some, some_is, mapped_some, chosen}
use Rattle.tp_record.proofs.Numbers.{number_takes, number_again}
use mir.Val.{Fits}

pub exact_short : Exact short IsShort (number_at 4)
unfolding short
exact_short = record {
  takes = λ bytes x rest fits e. number_takes 4 bytes x rest fits e;
  again = λ x rest small few. number_again 4 x rest small;
  solid = λ x. omega arith;
}

pub exact_long : Exact long IsLong (number_at 8)
unfolding long
exact_long = record {
  takes = λ bytes x rest fits e. number_takes 8 bytes x rest fits e;
  again = λ x rest small few. number_again 8 x rest small;
  solid = λ x. omega arith;
}

pub exact_value : Exact value IsValue value_at
unfolding value value_at
exact_value = record {
  takes = λ bytes z rest fits e.
      let m = mapped_some (cast_signed w128) (number_at 16 bytes) z rest e in
      let t = number_takes 16 bytes m.0 rest fits m.1 in
      let fit : Fits w128 m.0 = record { fits = t.1 } in
      let back : cast_unsigned w128 z ≡ m.0 = ap (cast_unsigned w128) (sym m.2) ∙ of_z-to_z w128 m.0 t.1 in
      (t.0 ∙ ap (λ (n : ℕ). big_bytes 16 n ++ rest) (sym back), subst (FitsSigned w128) m.2 (sfits_to_z fit));
  again = λ z rest fits few.
      let fit : Fits w128 (cast_unsigned w128 z) = Fits-of_z fits in
      ap (mapped (cast_signed w128)) (number_again 16 (cast_unsigned w128 z) rest fit.fits)
      ∙ ap (λ (y : ℤ). Some (y, rest)) (to_z-of_z w128 z fits);
  solid = λ z. omega arith;
}

-- the first byte, behind which another reader goes on by it
pub tagged : {A : Type 0} (next : ℕ → Reader A) (bytes : List ℕ) (x : A) (rest : List ℕ) → (byte_at bytes >>= λ tag. next tag.0 tag.1) ≡ Some (x, rest)
    → (tag : ℕ) × (others : List ℕ) × (bytes ≡ tag ∷ others) × (next tag others ≡ Some (x, rest))
tagged next [] x rest e = absurd cc
tagged next (tag ∷ others) x rest e = (tag, others, refl, e)

pub exact_option : {A : Type 0} (s : A → List ℕ) (i : A → Type 0) (r : Reader A) → Exact s i r → Exact (option s) (InOption i) (option_at r)
exact_option {A} s i r e = record { takes = takes_option; again = again_option; solid = solid_option }
  where
    takes_flag : (flag : ℕ) (bytes : List ℕ) (x : Option A) (rest : List ℕ) → AreBytes bytes → flagged r flag bytes ≡ Some (x, rest) → (flag ∷ bytes ≡ option s x ++ rest) × InOption i x
    takes_flag flag bytes x rest fits h = elim (chosen (flag == 0) (Some (None, bytes)) (if flag == 1 then mapped Some (r bytes) else None) (Some (x, rest)) h) [
      | inl p ↦
          let is : flag ≡ 0 = eqb-true flag 0 p.0 in
          let made : Option A × List ℕ = (None, bytes) in
          subst (λ (q : Option A × List ℕ). (flag ∷ bytes ≡ option s q.0 ++ q.1) × InOption i q.0) (some_is made (x, rest) p.1) (ap (λ (f : ℕ). f ∷ bytes) is, tt)
      | inr p ↦ elim (chosen (flag == 1) (mapped Some (r bytes)) None (Some (x, rest)) p.1) [
        | inl q ↦
            let is : flag ≡ 1 = eqb-true flag 1 q.0 in
            let m = mapped_some Some (r bytes) x rest q.1 in
            let t = e.takes bytes m.0 rest fits m.1 in
            subst (λ (y : Option A). (flag ∷ bytes ≡ option s y ++ rest) × InOption i y) m.2 ((λ j. is j ∷ t.0 j), t.1)
        | inr q ↦ absurd cc
      ]
    ]

    takes_option : (bytes : List ℕ) (x : Option A) (rest : List ℕ) → AreBytes bytes → option_at r bytes ≡ Some (x, rest) → (bytes ≡ option s x ++ rest) × InOption i x
    takes_option bytes x rest fits h =
        let t = tagged (flagged r) bytes x rest h in
        let u = takes_flag t.0 t.1 x rest (AreBytes-rest bytes (t.0 ∷ []) t.1 t.2 fits) t.3 in
        (t.2 ∙ u.0, u.1)

    again_option : (x : Option A) (rest : List ℕ) → InOption i x → length (option s x) < 2 ^ 32 → option_at r (option s x ++ rest) ≡ Some (x, rest)
    again_option None rest h few = refl
    again_option (Some x) rest h few = ap (mapped Some) (e.again x rest h (omega arith))

    solid_option : (x : Option A) → 0 < length (option s x)
    solid_option None = omega arith
    solid_option (Some x) = omega arith

pub exact_times : {A : Type 0} (s : A → List ℕ) (i : A → Type 0) (r : Reader A) → Exact s i r → (n : ℕ) (bytes : List ℕ) (xs : List A) (rest : List ℕ) → AreBytes bytes → times r n bytes ≡ Some (xs, rest)
    → (bytes ≡ flat_map s xs ++ rest) × InList i xs × (length xs ≡ n)
exact_times {A} s i r e zero bytes xs rest fits h =
    let made : List A × List ℕ = ([], bytes) in
    subst (λ (q : List A × List ℕ). (bytes ≡ flat_map s q.0 ++ q.1) × InList i q.0 × (length q.0 ≡ 0)) (some_is made (xs, rest) h) (refl, tt, refl)
exact_times {A} s i r e (suc n) bytes xs rest fits h =
    let a = bind_some (r bytes) (λ first. times r n first.1 >>= λ others. Some (first.0 ∷ others.0, others.1)) (xs, rest) h in
    let b = bind_some (times r n a.0.1) (λ others. Some (a.0.0 ∷ others.0, others.1)) (xs, rest) a.2 in
    let first = e.takes bytes a.0.0 a.0.1 fits a.1 in
    let others = exact_times s i r e n a.0.1 b.0.0 b.0.1 (AreBytes-rest bytes (s a.0.0) a.0.1 first.0 fits) b.1 in
    let parts : bytes ≡ flat_map s (a.0.0 ∷ b.0.0) ++ b.0.1 =
    first.0 ∙ ap (λ (t : List ℕ). s a.0.0 ++ t) others.0 ∙ sym (append_assoc (s a.0.0) (flat_map s b.0.0) b.0.1) ∙ ap (λ (t : List ℕ). t ++ b.0.1) (sym (flat_map-cons s a.0.0 b.0.0)) in
    let made : List A × List ℕ = (a.0.0 ∷ b.0.0, b.0.1) in
    subst (λ (q : List A × List ℕ). (bytes ≡ flat_map s q.0 ++ q.1) × InList i q.0 × (length q.0 ≡ suc n)) (some_is made (xs, rest) b.2) (parts, (first.1, others.1), ap suc others.2)

pub again_times : {A : Type 0} (s : A → List ℕ) (i : A → Type 0) (r : Reader A) → Exact s i r → (xs : List A) (rest : List ℕ) → InList i xs → length (flat_map s xs) < 2 ^ 32
    → times r (length xs) (flat_map s xs ++ rest) ≡ Some (xs, rest)
again_times s i r e [] rest h few = refl
again_times s i r e (x ∷ xs) rest h few =
    let regrouped : flat_map s (x ∷ xs) ++ rest ≡ s x ++ (flat_map s xs ++ rest) = ap (λ (t : List ℕ). t ++ rest) (flat_map-cons s x xs) ∙ append_assoc (s x) (flat_map s xs) rest in
    let size : length (flat_map s (x ∷ xs)) ≡ length (s x) + length (flat_map s xs) = ap length (flat_map-cons s x xs) ∙ length-append (s x) (flat_map s xs) in
    let first : r (s x ++ (flat_map s xs ++ rest)) ≡ Some (x, flat_map s xs ++ rest) = e.again x (flat_map s xs ++ rest) h.0 (omega (arith, few, size)) in
    let others : times r (length xs) (flat_map s xs ++ rest) ≡ Some (xs, rest) = again_times s i r e xs rest h.1 (omega (arith, few, size)) in
    ap (times r (suc (length xs))) regrouped ∙ rw (first, others) refl

-- each member takes a byte at least
members_few : {A : Type 0} (s : A → List ℕ) → ((x : A) → 0 < length (s x)) → (xs : List A) → length xs ≤ length (flat_map s xs)
members_few s solid [] = omega arith
members_few s solid (x ∷ xs) = omega (arith, solid x, members_few s solid xs, ap length (flat_map-cons s x xs) ∙ length-append (s x) (flat_map s xs))

pub exact_list : {A : Type 0} (s : A → List ℕ) (i : A → Type 0) (r : Reader A) → Exact s i r → Exact (list s) (InList i) (list_at r)
exact_list {A} s i r e = record {
  takes = λ bytes xs rest fits h.
      let a = bind_some (number_at 4 bytes) (λ count. times r count.0 count.1) (xs, rest) h in
      let count = exact_short.takes bytes a.0.0 a.0.1 fits a.1 in
      let members = exact_times s i r e a.0.0 a.0.1 xs rest (AreBytes-rest bytes (short a.0.0) a.0.1 count.0 fits) a.2 in
      let parts : bytes ≡ list s xs ++ rest =
      count.0 ∙ ap (λ (t : List ℕ). short a.0.0 ++ t) members.0 ∙ sym (append_assoc (short a.0.0) (flat_map s xs) rest) ∙ ap (λ (n : ℕ). (short n ++ flat_map s xs) ++ rest) (sym members.2) in
      (parts, members.1);
  again = λ xs rest h few.
      let size = length-append (short (length xs)) (flat_map s xs) in
      let count : number_at 4 (short (length xs) ++ (flat_map s xs ++ rest)) ≡ Some (length xs, flat_map s xs ++ rest) =
      exact_short.again (length xs) (flat_map s xs ++ rest) (omega (arith, few, size, members_few s e.solid xs)) (omega (arith, few, size)) in
      ap (list_at r) (append_assoc (short (length xs)) (flat_map s xs) rest)
      ∙ rw count (again_times s i r e xs rest h (omega (arith, few, size)));
  solid = λ xs. omega (arith, exact_short.solid (length xs), length-append (short (length xs)) (flat_map s xs));
}
