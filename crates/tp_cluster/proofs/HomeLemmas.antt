-- The passes that are taken home from the actors.
use Rattle.std.proofs.Common.{◌≡◌, ℕ, ◌+◌, ◌<◌, ◌≤◌, ◌≢◌, ◌⊎◌, inl, inr, List, [], ◌∷◌, ◌++◌, length, map, refl, sym, ap, ◌∙◌, subst, append-nil, append_assoc, length-append, arith}
use Rattle.std.specs.Prelude.{◌==◌, Bool, IfSome, None, Option, Some, true, false}
use Rattle.std.proofs.lemmas.Bool.Decides.{nat_tests}
use Rattle.atomic_table.specs.Seated.{TableId}
use Rattle.tp_model.specs.Words.{Actor, Scenario}
use Rattle.tp_types.specs.Each.{Each}
use Rattle.tp_types.proofs.EachLemmas.{each_append}
use Rattle.tp_machine.specs.Moves.{number_of}
use Rattle.tp_wire.specs.declared.view.Part.{Part}
use Rattle.tp_wire.specs.declared.view.View.{View}
use Rattle.tp_wire.specs.Closing.{HasParts, parts_of}
use Rattle.tp_wire.specs.History.{one_if, times, numbers_of}
use Rattle.tp_wire.specs.Passes.{Known, views_of}
use Rattle.tp_cluster.specs.Offices.{Held, IsOffice}
use Rattle.tp_cluster.specs.mirrors.Homes.{AreGathered, AreHome, IsHome}

pub office_home : (sc : Scenario) (table : TableId) (who : Actor) (held : Held) (kept : Known) (number : ℕ) → IsOffice sc table who held kept → number ≡ number_of sc who → IsHome table number kept
office_home sc table who held kept number office is = record {
  site = office.site;
  live = office.live;
  part = office.part;
  one = office.one;
  number_is = office.number_is ∙ sym is;
  took = office.took;
}

-- so it is, if it stands there, where the actor has this number
pub passes_home : (sc : Scenario) (table : TableId) (who : Actor) (held : Held) (number own : ℕ) (stood : Option Known)
    → IfSome stood (IsOffice sc table who held) → own ≡ number_of sc who → own ≡ number → IfSome stood (IsHome table number)
passes_home sc table who held number own (Some kept) office is same = office_home sc table who held kept number office (sym same ∙ is)
passes_home sc table who held number own None office is same = tt

pub none_gathered : (table : TableId) (number : ℕ) (old : List Known) → AreGathered table number number old old
none_gathered table number old = record { homes = []; new_is = sym (append-nil old); home = tt; count = omega arith }

pub one_gathered : (table : TableId) (number next : ℕ) (old new : List Known) (kept : Known) → IsHome table number kept → number + 1 ≡ next → new ≡ old ++ kept ∷ [] → AreGathered table number next old new
one_gathered table number next old new kept home is new_is = record { homes = kept ∷ []; new_is = new_is; home = (home, tt); count = omega (arith, is) }

homes_append : (table : TableId) (first middle : ℕ) (one other : List Known) → AreHome table first one → first + length one ≡ middle → AreHome table middle other → AreHome table first (one ++ other)
homes_append table first middle [] other h is o = subst (λ (n : ℕ). AreHome table n other) (omega (arith, is)) o
homes_append table first middle (kept ∷ one) other h is o = (h.0, homes_append table (first + 1) middle one other h.1 (omega (arith, is)) o)

pub both_gathered : (table : TableId) (first middle next : ℕ) (old mid new : List Known) → AreGathered table first middle old mid → AreGathered table middle next mid new → AreGathered table first next old new
both_gathered table first middle next old mid new one other =
    let a = one.count in let b = other.count in
    record {
      homes = one.homes ++ other.homes;
      new_is = other.new_is ∙ (ap (λ (l : List Known). l ++ other.homes) one.new_is ∙ append_assoc old one.homes other.homes);
      home = homes_append table first middle one.homes other.homes one.home one.count other.home;
      count = omega (arith, length-append one.homes other.homes, a, b);
    }

-- ---- all of them

pub homes_sites : (table : TableId) (first : ℕ) (homes : List Known) → AreHome table first homes → Each (λ (p : Known). p.table ≡ table) homes
homes_sites table first [] h = tt
homes_sites table first (kept ∷ homes) h = (h.0.site, homes_sites table (first + 1) homes h.1)

pub homes_untaken : (table : TableId) (first : ℕ) (homes : List Known) → AreHome table first homes → Each (λ (p : Part). p.took ≡ []) (parts_of (views_of homes))
homes_untaken table first [] h = tt
homes_untaken table first (kept ∷ homes) h =
    each_append (λ (p : Part). p.took ≡ []) kept.view.parts (parts_of (views_of homes))
    (subst (Each (λ (p : Part). p.took ≡ [])) (sym h.0.one) (h.0.took, tt))
    (homes_untaken table (first + 1) homes h.1)

itself : (n m : ℕ) → n ≡ m → one_if (n == m) ≡ 1
itself n m e = ap one_if (the_same n m e)
  where
    the_same : (n m : ℕ) → n ≡ m → (n == m) ≡ true
    the_same n m e = grind (arith, nat_tests)

pub homes_held : (table : TableId) (first : ℕ) (homes : List Known) (number : ℕ) → AreHome table first homes → first ≤ number → number < first + length homes
    → 1 ≤ times number (numbers_of (parts_of (views_of homes)))
homes_held table first [] number h low high = absurd (omega (arith, low, high))
homes_held table first (kept ∷ homes) number h low high =
    subst (λ (ps : List Part). 1 ≤ times number (numbers_of (ps ++ parts_of (views_of homes)))) (sym h.0.one)
    (stands (decided number first) (λ n. homes_held table (first + 1) homes number h.1 (omega (arith, low, n)) (omega (arith, high))))
  where
    rest : List ℕ
    rest = numbers_of (parts_of (views_of homes))

    decided : (n m : ℕ) → (n ≡ m) ⊎ (n ≢ m)
    decided n m = grind (arith, nat_tests)

    stands : (number ≡ first) ⊎ (number ≢ first) → (number ≢ first → 1 ≤ times number rest) → 1 ≤ one_if (h.0.part.number == number) + times number rest
    stands (inl e) more = let one = itself h.0.part.number number (h.0.number_is ∙ sym e) in omega (arith, one)
    stands (inr n) more = let least = more n in omega (arith, least)
