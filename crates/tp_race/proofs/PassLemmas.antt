-- The passes of callers, one after another.
use Rattle.std.proofs.Common.{◌≡◌, ℕ, zero, suc, ◌+◌, ◌<◌, List, [], ◌∷◌, ◌++◌, length, take, drop, append-nil, length-append, false, refl, sym, ap, ◌∙◌, subst, arith}
use Rattle.std.specs.Prelude.{Some, slice_get, slice_index_or}
use Rattle.atomic_table.specs.Seated.{TableId}
use Rattle.tp_model.specs.Words.{Scenario}
use Rattle.tp_types.specs.Each.{Each, EachAt}
use Rattle.tp_wire.specs.Passes.{Known, fresh_pass, fresh_passes, views_of}
use Rattle.tp_wire.proofs.ListLemmas.{take_whole}
use Rattle.tp_cluster.proofs.OpeningLemmas.{dealt_more}
use Rattle.tp_race.specs.Callers.{AllFrom, AreAll, HasEnded, callers_of, scripts_of}
use Rattle.tp_race.specs.Commands.{HasWorked}

-- ---- lists

last_of : {A : Type 0} (xs ys : List A) (x y : A) → xs ++ x ∷ [] ≡ ys ++ y ∷ [] → (xs ≡ ys) × (x ≡ y)
last_of [] [] x y e = let same : x ≡ y = cc in (refl, same)
last_of [] (b ∷ []) x y e = absurd (cc)
last_of [] (b ∷ (c ∷ ys)) x y e = absurd (cc)
last_of (a ∷ []) [] x y e = absurd (cc)
last_of (a ∷ (c ∷ xs)) [] x y e = absurd (cc)
last_of (a ∷ xs) (b ∷ ys) x y e =
    let first : a ≡ b = cc in
    let others : xs ++ x ∷ [] ≡ ys ++ y ∷ [] = cc in
    let rest = last_of xs ys x y others in
    let front : xs ≡ ys = rest.0 in
    let both : a ∷ xs ≡ b ∷ ys = cc in
    (both, rest.1)

-- what stands at a place, where another would stand if the list were shorter
pub got : {A : Type 0} (xs : List A) (n : ℕ) (x d : A) → slice_get xs n ≡ Some x → (n < length xs) × (slice_index_or xs n d ≡ x)
got [] n x d e = absurd (cc)
got (y ∷ xs) zero x d e = let same : y ≡ x = cc in (omega arith, same)
got (y ∷ xs) (suc n) x d e = let rest = got xs n x d e in let less = rest.0 in (omega (arith, less), rest.1)

at_more : {A : Type 0} (P : ℕ → A → Type 0) (xs : List A) (x : A) → EachAt P xs → P (length xs) x → EachAt P (xs ++ x ∷ [])
at_more P [] x h p zero found e = let same : x ≡ found = cc in subst (P 0) same p
at_more P [] x h p (suc n) found e = absurd (cc)
at_more P (y ∷ xs) x h p zero found e = let same : y ≡ found = cc in h zero found (ap Some same)
at_more P (y ∷ xs) x h p (suc n) found e = at_more (λ k a. P (suc k) a) xs x (λ k a there. h (suc k) a there) p n found e

drop_whole : {A : Type 0} (xs : List A) → drop (length xs) xs ≡ []
drop_whole [] = refl
drop_whole (x ∷ xs) = drop_whole xs

-- ---- fresh passes

-- the last of fresh passes, and the others
pub last_fresh : (table : TableId) (from count : ℕ) (passes : List Known) (p : Known) → fresh_passes table from (count + 1) ≡ passes ++ p ∷ []
    → (passes ≡ fresh_passes table from count) × (p ≡ fresh_pass table (from + count))
last_fresh table from count passes p e =
    last_of passes (fresh_passes table from count) p (fresh_pass table (from + count)) (sym e ∙ sym (dealt_more table from count (fresh_passes table from count) (fresh_pass table (from + count)) refl refl))

pub fresh_length : (table : TableId) (from count : ℕ) → length (fresh_passes table from count) ≡ count
fresh_length table from zero = refl
fresh_length table from (suc count) = ap suc (fresh_length table (from + 1) count)

pub fresh_at : (table : TableId) (from count n : ℕ) (d : Known) → n < count → slice_index_or (fresh_passes table from count) n d ≡ fresh_pass table (from + n)
fresh_at table from zero n d less = absurd (omega arith)
fresh_at table from (suc count) zero d less = ap (fresh_pass table) (omega arith)
fresh_at table from (suc count) (suc n) d less =
    let same : (from + 1) + n ≡ from + suc n = omega arith in
    fresh_at table (from + 1) count n d (omega arith) ∙ ap (fresh_pass table) same

-- one of fresh passes
pub one_fresh : (table : TableId) (from n : ℕ) (passes : List Known) (p : Known) → passes ≡ fresh_passes table from (length passes) → n < length passes → p ≡ slice_index_or passes n p → p ≡ fresh_pass table (from + n)
one_fresh table from n passes p fresh less is = is ∙ (ap (λ (ps : List Known). slice_index_or ps n p) fresh ∙ fresh_at table from (length passes) n p less)

-- fresh passes are those of their count
pub as_many : (table : TableId) (from count : ℕ) (passes : List Known) → passes ≡ fresh_passes table from count → passes ≡ fresh_passes table from (length passes)
as_many table from count passes is = is ∙ ap (fresh_passes table from) (sym (fresh_length table from count) ∙ ap (λ (ps : List Known). length ps) (sym is))

-- the pass of the caller without a script, and those of the others
pub dealt : (table : TableId) (from callers : ℕ) (sc : Scenario) (all others : List Known) (last : Known) → all ≡ fresh_passes table from callers → callers ≡ callers_of sc → all ≡ others ++ last ∷ []
    → (others ≡ fresh_passes table from (length (scripts_of sc))) × (last ≡ fresh_pass table (from + length (scripts_of sc)))
dealt table from callers sc all others last fresh count cut =
    last_fresh table from (length (scripts_of sc)) others last (ap (fresh_passes table from) (sym count) ∙ (sym fresh ∙ cut))

-- how many passes there are again, when all have been given back
all_back : (table : TableId) (from : ℕ) (sc : Scenario) (others back : List Known) (last : Known) → others ≡ fresh_passes table from (length (scripts_of sc)) → length back ≡ length others
    → length (back ++ last ∷ []) ≡ callers_of sc
all_back table from sc others back last is kept =
    let count : length others ≡ length (scripts_of sc) = ap (λ (ps : List Known). length ps) is ∙ fresh_length table from (length (scripts_of sc)) in
    omega (arith, length-append back (last ∷ []), kept, count)

-- the first of a list and nothing of the rest
whole_front : {A : Type 0} (n : ℕ) (ys xs : List A) → length ys ≡ length xs → n ≡ length xs → take n (ys ++ drop (length ys) xs) ≡ ys
whole_front {A = A} n ys xs same is =
    let none : drop (length ys) xs ≡ [] = ap (λ (k : ℕ). drop k xs) same ∙ drop_whole xs in
    let count : n ≡ length ys = omega (arith, same, is) in
    ap (λ (l : List A). take n (ys ++ l)) none ∙ (ap (take n) (append-nil ys) ∙ (ap (λ (k : ℕ). take k ys) count ∙ take_whole ys))

-- ---- all callers

each_site : (sc : Scenario) (table : TableId) (from : ℕ) (passes : List Known) → ((n : ℕ) (p : Known) → slice_get passes n ≡ Some p → HasWorked sc table (from + n) p) → Each (λ (p : Known). p.table ≡ table) passes
each_site sc table from [] h = tt
each_site sc table from (p ∷ passes) h =
    let at = (λ (n : ℕ). let same : from + suc n ≡ (from + 1) + n = omega arith in same) in
    ((h zero p refl).site, each_site sc table (from + 1) passes (λ n q e. subst (λ (k : ℕ). HasWorked sc table k q) (at n) (h (suc n) q e)))

all_ended : (sc : Scenario) (table : TableId) (from : ℕ) (passes : List Known) → ((n : ℕ) (p : Known) → slice_get passes n ≡ Some p → HasWorked sc table (from + n) p)
    → Each (λ (p : Known). p.given_up ≡ false) passes → AllFrom (HasEnded sc) from (views_of passes)
all_ended sc table from [] h live = tt
all_ended sc table from (p ∷ passes) h live =
    let first : from + 0 ≡ from = omega arith in
    let at = (λ (n : ℕ). let same : from + suc n ≡ (from + 1) + n = omega arith in same) in (
      subst (λ (k : ℕ). HasEnded sc k p.view) first ((h zero p refl).ended live.0),
      all_ended sc table (from + 1) passes (λ n q e. subst (λ (k : ℕ). HasWorked sc table k q) (at n) (h (suc n) q e)) live.1,
    )

views_count : (passes : List Known) → length (views_of passes) ≡ length passes
views_count [] = refl
views_count (p ∷ passes) = ap suc (views_count passes)

from_none : (sc : Scenario) (table : TableId) (passes : List Known) → EachAt (HasWorked sc table) passes → (n : ℕ) (p : Known) → slice_get passes n ≡ Some p → HasWorked sc table (0 + n) p
from_none sc table passes h n p e = let same : n ≡ 0 + n = omega arith in subst (λ (k : ℕ). HasWorked sc table k p) same (h n p e)

pub all_of_table : (sc : Scenario) (table : TableId) (passes : List Known) → EachAt (HasWorked sc table) passes → Each (λ (p : Known). p.table ≡ table) passes
all_of_table sc table passes h = each_site sc table 0 passes (from_none sc table passes h)

pub all_have_ended : (sc : Scenario) (table : TableId) (passes : List Known) → length passes ≡ callers_of sc → EachAt (HasWorked sc table) passes
    → Each (λ (p : Known). p.given_up ≡ false) passes → AreAll (HasEnded sc) (callers_of sc) (views_of passes)
all_have_ended sc table passes count h live = record {
  count = views_count passes ∙ count;
  each = all_ended sc table 0 passes (from_none sc table passes h) live;
}

-- all passes given back, in order: those of the callers with scripts, and behind them the last
pub given_back : (sc : Scenario) (table : TableId) (from n k : ℕ) (others items ys front all : List Known) (last : Known) → others ≡ fresh_passes table from (length (scripts_of sc)) → items ≡ others
    → length ys ≡ length items → k ≡ length items → front ≡ take k (ys ++ drop (length ys) items) → all ≡ front ++ last ∷ [] → n ≡ length (scripts_of sc)
    → EachAt (HasWorked sc table) ys → HasWorked sc table n last → EachAt (HasWorked sc table) all × (length all ≡ callers_of sc)
given_back sc table from n k others items ys front all last fresh same kept count cut joined number worked ended =
    let whole : all ≡ ys ++ last ∷ [] = joined ∙ ap (λ (l : List Known). l ++ last ∷ []) (cut ∙ whole_front k ys items kept count) in
    let long : length ys ≡ length others = kept ∙ ap (λ (l : List Known). length l) same in
    let others_count : length others ≡ length (scripts_of sc) = ap (λ (ps : List Known). length ps) fresh ∙ fresh_length table from (length (scripts_of sc)) in
    let at : n ≡ length ys = omega (arith, number, long, others_count) in (
      subst (EachAt (HasWorked sc table)) (sym whole) (at_more (HasWorked sc table) ys last worked (subst (λ (m : ℕ). HasWorked sc table m last) at ended)),
      ap (λ (l : List Known). length l) whole ∙ all_back table from sc others ys last fresh long,
    )
