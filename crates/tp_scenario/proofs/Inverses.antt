-- What the steps of a walk gave, where the walk gave a value.
use Rattle.std.proofs.Common.{◌≡◌, ℕ, ◌+◌, ◌<◌, Bool, true, false, List, [], ◌∷◌, ◌++◌, length, map, Option, Some, None, Result, Ok, Err, refl, sym, ap, subst, ◌∙◌, arith, ℤ, pos, negsuc, if◌then◌else◌}
use Rattle.std.specs.Prelude.{is_some, ok_or}
use Rattle.std.proofs.lemmas.Bool.Decides.{nat_tests}
use Rattle.std.proofs.lemmas.List.{length-append}
use Rattle.tp_types.proofs.ListLemmas.{none_passes}
use Rattle.serde_json.specs.Data.{Data, Items, no_items, item}
use Rattle.tp_types.specs.Spelling.{is_name}
use Rattle.tp_model.specs.Limits.{has_count, is_between, is_from_to}
use Rattle.tp_model.specs.Valid.{are_distinct}
use Rattle.tp_scenario.specs.declared.fault.Fault.{Fault}
use Rattle.tp_scenario.specs.declared.path.Path.{Path}
use Rattle.tp_scenario.specs.Chain.{◌>>=◌}
use Rattle.tp_scenario.specs.Faults.{range}
use Rattle.tp_model.specs.Ids.{same_name}
use Rattle.tp_scenario.specs.Names.{Names, place_of}
use Rattle.tp_scenario.specs.Values.{apart, array_at, count_at, count_or, count_or_range, each, item_count, items_at, items_or, items_or_range, name_at, name_or_range, new_name_at, place_at, place_or_unknown, text_at, through, whole_at, whole_in, within}
use Rattle.tp_scenario.proofs.GrowingLists.{any_made, distinct_more, place_within}

-- ---- one step and the next

-- what came first, and what then
pub then_ok : {A B : Type 0} (walked : Result A Fault) (next : A → Result B Fault) (b : B) → (walked >>= next) ≡ Ok b → (a : A) × (walked ≡ Ok a) × (next a ≡ Ok b)
then_ok (Ok a) next b e = (a, refl, e)
then_ok (Err fault) next b e = absurd (cc)

pub test_ok : {A : Type 0} (test : Bool) (given a : A) (fault : Fault) → (if test then Ok given else Err fault) ≡ Ok a → (test ≡ true) × (given ≡ a)
test_ok true given a fault e = (refl, cc)
test_ok false given a fault e = absurd (cc)

pub refusal_ok : {A : Type 0} (test : Bool) (given a : A) (fault : Fault) → (if test then Err fault else Ok given) ≡ Ok a → (test ≡ false) × (given ≡ a)
refusal_ok false given a fault e = (refl, cc)
refusal_ok true given a fault e = absurd (cc)

pub ok_or_ok : {A : Type 0} (found : Option A) (a : A) (fault : Fault) → ok_or found fault ≡ Ok a → found ≡ Some a
ok_or_ok (Some given) a fault e = cc
ok_or_ok None a fault e = absurd (cc)

pub ok_same : {A : Type 0} (given a : A) → ◌≡◌ {A = Result A Fault} (Ok given) (Ok a) → given ≡ a
ok_same given a e = cc

-- ---- numbers

pub counted_ok : (path : Path) (low high : ℕ) (z : ℤ) (n : ℕ) → count_or_range path low high z ≡ Ok n → is_from_to low high n ≡ true
counted_ok path low high (pos m) n e =
    let got = test_ok (is_from_to low high m) m n _ e in
    subst (λ (k : ℕ). is_from_to low high k ≡ true) got.1 got.0
counted_ok path low high (negsuc m) n e = absurd (cc)

pub count_ok : (path : Path) (low high : ℕ) (value : Option Data) (n : ℕ) → count_at path low high value ≡ Ok n → is_from_to low high n ≡ true
unfolding count_at
count_ok path low high value n e = let number = then_ok (whole_at path value) _ _ e in counted_ok path low high number.0 n number.2

pub count_or_ok : (path : Path) (low high missing : ℕ) (value : Option Data) (n : ℕ) → is_from_to low high missing ≡ true → count_or path low high missing value ≡ Ok n → is_from_to low high n ≡ true
unfolding count_or
count_or_ok path low high missing None n well e = subst (λ (k : ℕ). is_from_to low high k ≡ true) (ok_same missing n e) well
count_or_ok path low high missing (Some d) n well e = count_ok path low high (Some d) n e

pub whole_ok : (path : Path) (low high : ℤ) (value : Option Data) (z : ℤ) → whole_in path low high value ≡ Ok z → is_between low high z ≡ true
unfolding whole_in
whole_ok path low high value z e =
    let number = then_ok (whole_at path value) (within path low high) z e in
    let got = test_ok (is_between low high number.0) number.0 z (range path) number.2 in
    subst (λ (y : ℤ). is_between low high y ≡ true) got.1 got.0

-- ---- names

no_place : (place : Option ℕ) → is_some place ≡ false → place ≡ None
no_place None h = refl
no_place (Some place) h = absurd (cc)

-- a name that is apart from these has no place among them
pub apart_ok : (path : Path) (names : Names) (given name : List ℕ) → apart path names given ≡ Ok name → (given ≡ name) × (place_of name names ≡ None)
apart_ok path names given name e =
    let got = refusal_ok (is_some (place_of given names)) given name _ e in
    (got.1, subst (λ (n : List ℕ). place_of n names ≡ None) got.1 (no_place (place_of given names) got.0))

pub new_name_ok : (path : Path) (names : Names) (value : Option Data) (name : List ℕ) → new_name_at path names value ≡ Ok name → place_of name names ≡ None
unfolding new_name_at
new_name_ok path names value name e = let text = then_ok (name_at path value) _ _ e in (apart_ok path names text.0 name text.2).1

-- a name that is read is spelled as one
name_spelled : (path : Path) (value : Option Data) (name : List ℕ) → name_at path value ≡ Ok name → is_name name ≡ true
unfolding name_at
name_spelled path value name e =
    let text = then_ok (text_at path value) (name_or_range path) name e in
    let got = test_ok (is_name text.0) text.0 name (range path) text.2 in
    subst (λ (n : List ℕ). is_name n ≡ true) got.1 got.0

pub new_name_spelled : (path : Path) (names : Names) (value : Option Data) (name : List ℕ) → new_name_at path names value ≡ Ok name → is_name name ≡ true
unfolding new_name_at
new_name_spelled path names value name e =
    let text = then_ok (name_at path value) _ _ e in
    subst (λ (n : List ℕ). is_name n ≡ true) (apart_ok path names text.0 name text.2).0 (name_spelled path value text.0 text.1)

pub used_ok : (path : Path) (names : Names) (name : List ℕ) (place : ℕ) → place_or_unknown path names name ≡ Ok place → place < length names
unfolding place_or_unknown
used_ok path names name place e = place_within (λ (other : List ℕ). same_name other name) names place (ok_or_ok _ _ _ e)

pub used_at_ok : (path : Path) (names : Names) (value : Option Data) (place : ℕ) → place_at path names value ≡ Ok place → place < length names
unfolding place_at
used_at_ok path names value place e = let text = then_ok (name_at path value) _ _ e in used_ok path names text.0 place text.2

-- names stay apart
pub named_apart : {A : Type 0} (name_of : A → List ℕ) (made : List A) (x : A) → place_of (name_of x) (map name_of made) ≡ None
    → are_distinct (λ one other. same_name (name_of one) (name_of other)) made ≡ true → are_distinct (λ one other. same_name (name_of one) (name_of other)) (made ++ x ∷ []) ≡ true
named_apart name_of made x new apart_before =
    distinct_more (λ one other. same_name (name_of one) (name_of other)) made x
    (sym (any_made name_of (λ (other : List ℕ). same_name other (name_of x)) made) ∙ none_passes (λ (other : List ℕ). same_name other (name_of x)) (map name_of made) new)
    apart_before

-- ---- arrays

pub items_ok : (path : Path) (least most : ℕ) (value : Option Data) (items : Items) → items_at path least most value ≡ Ok items → is_from_to least most (item_count items) ≡ true
unfolding items_at items_or_range
items_ok path least most value items e =
    let found = then_ok (array_at path value) _ _ e in
    let got = test_ok (is_from_to least most (item_count found.0)) found.0 items (range path) found.2 in
    subst (λ (ds : Items). is_from_to least most (item_count ds) ≡ true) got.1 got.0

pub items_or_ok : (path : Path) (most : ℕ) (value : Option Data) (items : Items) → items_or path most value ≡ Ok items → is_from_to 0 most (item_count items) ≡ true
unfolding items_or
items_or_ok path most None items e = subst (λ (ds : Items). is_from_to 0 most (item_count ds) ≡ true) (ok_same no_items items e) (none_fits most)
  where
    none_fits : (n : ℕ) → is_from_to 0 n 0 ≡ true
    none_fits n = grind (arith, nat_tests)
items_or_ok path most (Some d) items e = items_ok path 0 most (Some d) items e

-- what each step keeps, the whole keeps
pub through_keeps : {S : Type 0} (walk : S → Data → Result S Fault) (P : S → Type 0) → ((state next : S) (d : Data) → P state → walk state d ≡ Ok next → P next)
    → (ds : Items) (state last : S) → P state → through walk state ds ≡ Ok last → P last
through_keeps walk P step no_items state last kept e = subst P (ok_same state last e) kept
through_keeps walk P step (item d ds) state last kept e =
    let next = then_ok (walk state d) _ last e in
    through_keeps walk P step ds next.0 last (step state next.0 d kept next.1) next.2

-- the same, where each step makes a count one more
pub through_count : {S : Type 0} (walk : S → Data → Result S Fault) (P : S → Type 0) (count : S → ℕ) → ((state next : S) (d : Data) → P state → walk state d ≡ Ok next → P next × (count next ≡ count state + 1))
    → (ds : Items) (state last : S) → P state → through walk state ds ≡ Ok last → P last × (count last ≡ count state + item_count ds)
through_count walk P count step no_items state last kept e = let same = ok_same state last e in (subst P same kept, omega (arith, ap count same))
through_count walk P count step (item d ds) state last kept e =
    let next = then_ok (walk state d) _ last e in
    let here = step state next.0 d kept next.1 in
    let all = through_count walk P count step ds next.0 last here.0 next.2 in
    (all.0, omega (arith, all.1, here.1))

pub each_keeps : {X : Type 0} (walk : List X → Data → Result X Fault) (P : List X → Type 0) → ((made : List X) (x : X) (d : Data) → P made → walk made d ≡ Ok x → P (made ++ x ∷ []))
    → (ds : Items) (made all : List X) → P made → each walk made ds ≡ Ok all → P all
each_keeps walk P step no_items made all kept e = subst P (ok_same made all e) kept
each_keeps walk P step (item d ds) made all kept e =
    let next = then_ok (walk made d) _ all e in
    each_keeps walk P step ds (made ++ next.0 ∷ []) all (step made next.0 d kept next.1) next.2

pub each_length : {X : Type 0} (walk : List X → Data → Result X Fault) (ds : Items) (made all : List X) → each walk made ds ≡ Ok all → length all ≡ length made + item_count ds
each_length walk no_items made all e = let same = ap length (ok_same made all e) in omega (arith, same)
each_length walk (item d ds) made all e =
    let next = then_ok (walk made d) _ all e in
    let rest = each_length walk ds (made ++ next.0 ∷ []) all next.2 in
    let more = length-append made (next.0 ∷ []) in
    omega (arith, rest, more)

-- as many as the array has
pub each_count : {X : Type 0} (walk : List X → Data → Result X Fault) (least most : ℕ) (ds : Items) (all : List X) → is_from_to least most (item_count ds) ≡ true → each walk [] ds ≡ Ok all
    → has_count least most all ≡ true
each_count walk least most ds all few e =
    let long : length all ≡ item_count ds = omega (arith, each_length walk ds [] all e) in
    subst (λ (n : ℕ). is_from_to least most n ≡ true) (sym long) few
