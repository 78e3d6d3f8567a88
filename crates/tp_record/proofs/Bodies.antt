-- Bodies are read exactly.
use Rattle.std.proofs.Common.{◌≡◌, ℕ, ◌+◌, ◌-◌, ◌<◌, ◌^◌, List, ◌++◌, length, Some, None, sym, ap, subst, ◌∙◌, append_assoc, arith, inl, inr}
use Rattle.std.specs.Prelude.{◌==◌, Option, cond}
use Rattle.std.proofs.lemmas.Bool.{eqb-true}
use Rattle.std.proofs.lemmas.Bool.Decides.{nat_tests}
use Rattle.std.proofs.lemmas.List.{length-append}
use Rattle.tp_types.specs.declared.records.Record.{Record}
use Rattle.tp_record.specs.Records.{IsRecord, Begins}
use Rattle.tp_record.specs.Spelling.{content, short, spelling}
use Rattle.tp_record.specs.mirrors.Readings.{◌>>=◌, body_at, content_at, measured, number_at}
use Rattle.tp_record.proofs.Exact.{AreBytes, AreBytes-rest, bind_some, some_is, chosen}
use Rattle.tp_record.proofs.Generic.{exact_short}
use Rattle.tp_record.proofs.KindsRead.{exact_content}

pub body_takes : (bytes : List ℕ) (r : Record) (rest : List ℕ) → AreBytes bytes → body_at bytes ≡ Some (r, rest) → (bytes ≡ spelling r ++ rest) × IsRecord r
unfolding body_at
body_takes bytes r rest fits e =
    let a = bind_some (number_at 4 bytes) (λ count. content_at count.1 >>= λ x. measured count.0 (length count.1) x) (r, rest) e in
    let b = bind_some (content_at a.0.1) (λ x. measured a.0.0 (length a.0.1) x) (r, rest) a.2 in
    let count = exact_short.takes bytes a.0.0 a.0.1 fits a.1 in
    let inside = exact_content.takes a.0.1 b.0.0 b.0.1 (AreBytes-rest bytes (short a.0.0) a.0.1 count.0 fits) b.1 in
    elim (chosen (length b.0.1 + a.0.0 == length a.0.1) (Some b.0) None (Some (r, rest)) b.2) [
      | inl p ↦
          let sum : length b.0.1 + a.0.0 ≡ length a.0.1 = eqb-true _ _ p.0 in
          let size : a.0.0 ≡ length (content b.0.0) = omega (arith, sum, ap length inside.0 ∙ length-append (content b.0.0) b.0.1) in
          let parts : bytes ≡ spelling b.0.0 ++ b.0.1 =
          count.0 ∙ ap (λ (t : List ℕ). short a.0.0 ++ t) inside.0 ∙ sym (append_assoc (short a.0.0) (content b.0.0) b.0.1) ∙ ap (λ (n : ℕ). (short n ++ content b.0.0) ++ b.0.1) size in
          let few : length (content b.0.0) < 2 ^ 32 = omega (arith, size, count.1) in
          subst (λ (q : Record × List ℕ). (bytes ≡ spelling q.0 ++ q.1) × IsRecord q.0) (some_is b.0 (r, rest) p.1) (parts, (inside.1, few))
      | inr p ↦ absurd cc
    ]

pub body_again : (r : Record) (rest : List ℕ) → IsRecord r → body_at (spelling r ++ rest) ≡ Some (r, rest)
unfolding body_at short
body_again r rest is =
    let size = length (content r) in
    let count : number_at 4 (short size ++ (content r ++ rest)) ≡ Some (size, content r ++ rest) = exact_short.again size (content r ++ rest) is.1 (omega arith) in
    let inside : content_at (content r ++ rest) ≡ Some (r, rest) = exact_content.again r rest is.0 is.1 in
    let sum : length rest + size ≡ length (content r ++ rest) = omega (arith, length-append (content r) rest) in
    let measure : measured size (length (content r ++ rest)) (r, rest) ≡ Some (r, rest) = rw (← sum) (same_sum (length rest + size) (r, rest)) in
    ap body_at (append_assoc (short size) (content r) rest) ∙ rw (count, inside) measure
  where
    same_sum : (n : ℕ) (x : Record × List ℕ) → cond (n == n) (Some x) None ≡ Some x
    same_sum n x = grind (arith, nat_tests)

-- what is left of the bytes is shorter by the spelling
pub body_length : (bytes : List ℕ) (r : Record) (rest : List ℕ) → AreBytes bytes → body_at bytes ≡ Some (r, rest) → length bytes ≡ length (spelling r) + length rest
body_length bytes r rest fits e = ap length (body_takes bytes r rest fits e).0 ∙ length-append (spelling r) rest

abbrev pub found_at : Record → ℕ → Option (Record × ℕ)
found_at r n = Some (r, n)

-- what was read is the record whose spelling the bytes begin with
pub only_read : (bytes : List ℕ) (r s : Record) (rest : List ℕ) (n : ℕ) → AreBytes bytes → body_at bytes ≡ Some (r, rest) → IsRecord s → Begins bytes (spelling s)
    → n ≡ length bytes - length rest → found_at r n ≡ found_at s (length (spelling s))
only_read bytes r s rest n fits e is begins count =
    let again : body_at bytes ≡ Some (s, begins.0) = ap body_at begins.1 ∙ body_again s begins.0 is in
    let here : Record × List ℕ = (r, rest) in
    let there : Record × List ℕ = (s, begins.0) in
    let same : here ≡ there = some_is here there (sym e ∙ again) in
    let same_record : r ≡ s = ap (λ (q : Record × List ℕ). q.0) same in
    let size : n ≡ length (spelling s) = omega (arith, count, body_length bytes r rest fits e, ap (λ (q : Record). length (spelling q)) same_record) in
    λ i. found_at (same_record i) (size i)

pub nothing_read : (bytes : List ℕ) (s : Record) → body_at bytes ≡ None → IsRecord s → Begins bytes (spelling s) → ⊥
nothing_read bytes s e is begins =
    let again : body_at bytes ≡ Some (s, begins.0) = ap body_at begins.1 ∙ body_again s begins.0 is in
    absurd (cc (e, again))

pub one_spelling : (r s : Record) (x y : List ℕ) → IsRecord r → IsRecord s → spelling r ++ x ≡ spelling s ++ y → (r ≡ s) × (x ≡ y)
one_spelling r s x y is-r is-s e =
    let here : Record × List ℕ = (r, x) in
    let there : Record × List ℕ = (s, y) in
    let same : here ≡ there = some_is here there (sym (body_again r x is-r) ∙ ap body_at e ∙ body_again s y is-s) in
    (ap (λ (q : Record × List ℕ). q.0) same, ap (λ (q : Record × List ℕ). q.1) same)
