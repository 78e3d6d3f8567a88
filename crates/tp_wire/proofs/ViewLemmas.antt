-- Sums over all views, and what holds of each view as one of them changes.
use Rattle.std.proofs.Common.{◌≡◌, ℕ, zero, suc, ◌+◌, ◌≤◌, ◌==◌, List, [], ◌∷◌, ◌++◌, map, true, refl, sym, ap, ◌∙◌, subst, append_assoc, arith}
use Rattle.std.proofs.lemmas.Bool.Decides.{nat_tests}
use Rattle.std.specs.Prelude.{slice_set}
use mathlib.Core.Option.{some, some-injective, some-ne-none}
use lib.ListN.{get_elem?}
use Rattle.tp_types.specs.Each.{Each}
use Rattle.tp_types.proofs.EachLemmas.{each_append}
use Rattle.tp_wire.specs.declared.view.Entry.{Entry}
use Rattle.tp_wire.specs.declared.view.Part.{Part}
use Rattle.tp_wire.specs.declared.view.View.{View}
use Rattle.tp_wire.specs.History.{StartsWith, Misses, IsPart, one_if, times, numbers_of}
use Rattle.tp_wire.specs.Rule.{total}
use Rattle.tp_wire.specs.Passes.{moved}
use Rattle.tp_wire.proofs.ListLemmas.{cancel, each_front}

-- ---- sums

pub total_set : (f : View → ℕ) (views : List View) (at : ℕ) (v w : View) → get_elem? views at ≡ some v → total f (slice_set views at w) + f v ≡ total f views + f w
total_set f [] at v w e = absurd (some-ne-none v (sym e))
total_set f (u ∷ views) zero v w e = let same : f u ≡ f v = ap f (some-injective u v e) in omega arith
total_set f (u ∷ views) (suc at) v w e = let rest = total_set f views at v w e in omega arith

pub total_more : (f : View → ℕ) (views : List View) (w : View) → total f (views ++ w ∷ []) ≡ total f views + f w
total_more f [] w = omega arith
total_more f (u ∷ views) w = let rest = total_more f views w in omega arith

pub total_one : (f : View → ℕ) (views : List View) (at : ℕ) (v : View) → get_elem? views at ≡ some v → f v ≤ total f views
total_one f [] at v e = absurd (some-ne-none v (sym e))
total_one f (u ∷ views) zero v e = let same : f u ≡ f v = ap f (some-injective u v e) in omega arith
total_one f (u ∷ views) (suc at) v e = let rest = total_one f views at v e in omega arith

-- ---- each view

pub each_at : (P : View → Type 0) (views : List View) (at : ℕ) (v : View) → get_elem? views at ≡ some v → Each P views → P v
each_at P [] at v e h = absurd (some-ne-none v (sym e))
each_at P (u ∷ views) zero v e h = subst P (some-injective u v e) h.0
each_at P (u ∷ views) (suc at) v e h = each_at P views at v e h.1

-- what each view but one keeps, by what it and that one are together
pub each_besides : (P Q : View → Type 0) (f : View → ℕ) (v : View) (views : List View)
    → ((u : View) → ((f : View → ℕ) → f u ≤ total f views) → P u → Q u) → Each P views → Each Q views
each_besides P Q f v [] keeps h = tt
each_besides P Q f v (u ∷ views) keeps h =
    (keeps u (λ g. omega arith) h.0, each_besides P Q f v views (λ w less p. keeps w (λ g. let rest = less g in omega arith) p) h.1)

-- one view changes, and each other, of which it is known what the two are together, keeps what it needs
pub each_else : (P Q : View → Type 0) (views : List View) (at : ℕ) (v w : View) → get_elem? views at ≡ some v → Each P views
    → ((u : View) → ((f : View → ℕ) → f v + f u ≤ total f views) → P u → Q u) → Q w → Each Q (slice_set views at w)
each_else P Q [] at v w e h keeps q = tt
each_else P Q (u ∷ views) zero v w e h keeps q =
    (q, each_besides P Q (λ _. 0) v views (λ x less p. keeps x (λ f. let rest = less f in let same : f u ≡ f v = ap f (some-injective u v e) in omega arith) p) h.1)
each_else P Q (u ∷ views) (suc at) v w e h keeps q =
    (keeps u (λ f. let one = total_one f views at v e in omega arith) h.0, each_else P Q views at v w e h.1 (λ x less p. keeps x (λ f. let rest = less f in omega arith) p) q)

-- ---- parts

pub own_number : (n : ℕ) (ns : List ℕ) → 1 ≤ times n (n ∷ ns)
own_number n ns = let here : (n == n) ≡ true = grind (arith, nat_tests) in let one : one_if (n == n) ≡ 1 = ap one_if here in omega (arith, one)

-- what follows from P for the parts whose number stands among these holds of each
pub each_own : (P Q : Part → Type 0) (parts : List Part) → ((p : Part) → 1 ≤ times p.number (numbers_of parts) → P p → Q p) → Each P parts → Each Q parts
each_own P Q [] keeps h = tt
each_own P Q (p ∷ parts) keeps h =
    (keeps p (own_number p.number (numbers_of parts)) h.0, each_own P Q parts (λ r more q. keeps r (omega arith) q) h.1)

pub part_more : (log extra : List Entry) (p : Part) → IsPart log p → Each (Misses p.number) extra → IsPart (log ++ extra) p
part_more log extra p h none =
    (h.0 ++ extra, sym (append_assoc p.upto h.0 extra) ∙ ap (λ (l : List Entry). l ++ extra) h.1, each_append (Misses p.number) h.0 extra h.2 none)

-- the part of a history is one of each beginning that has all of it
pub part_seen : (log seen : List Entry) (p : Part) → IsPart log p → StartsWith log seen → StartsWith seen p.upto → IsPart seen p
part_seen log seen p h begins within =
    let both : p.upto ++ (within.0 ++ begins.0) ≡ log = sym (append_assoc p.upto within.0 begins.0) ∙ (ap (λ (l : List Entry). l ++ begins.0) within.1 ∙ begins.1) in
    let rest : h.0 ≡ within.0 ++ begins.0 = cancel p.upto h.0 (within.0 ++ begins.0) (h.1 ∙ sym both) in
    (within.0, within.1, each_front (Misses p.number) within.0 begins.0 (subst (Each (Misses p.number)) rest h.2))

pub numbers_moved : (log : List Entry) (parts : List Part) → numbers_of (map (moved log) parts) ≡ numbers_of parts
numbers_moved log [] = refl
numbers_moved log (p ∷ parts) = ap (λ (ns : List ℕ). p.number ∷ ns) (numbers_moved log parts)
