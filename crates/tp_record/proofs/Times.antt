-- Reading members one after the other, as a loop does.
use Rattle.std.proofs.Common.{◌≡◌, ℕ, suc, ◌-◌, ◌+◌, ◌≤◌, ◌<◌, List, [], ◌∷◌, ◌++◌, length, take, get_or, subst, All, Some, None, refl, sym, ap, ◌∙◌, append_assoc, arith}
use Rattle.std.specs.List.{AllByRecursion, flat_map}
use Rattle.std.proofs.lemmas.List.{append-nil, take_more, take_all}
use Rattle.std.proofs.lemmas.List.Concat.{flat_map-append}
use Rattle.std.proofs.lemmas.List.Elements.{All-head, All-tail, All-more}
use Rattle.tp_record.specs.declared.bytes.Halt.{Halt}
use Rattle.tp_record.specs.declared.bytes.Halt.TheVariants as halt
use Rattle.tp_record.specs.mirrors.Gives.{Gives}
use Rattle.tp_record.specs.mirrors.Readings.{Read, Reader, ◌>>=◌, times, list_at, number_at}
use Rattle.std.specs.Prelude.{Err}

-- what was read before, and what is still read
abbrev pub with_front : {A : Type 0} → List A → Read (List A) → Read (List A)
with_front front read = read >>= λ x. Some (front ++ x.0, x.1)

regroup : {A : Type 0} (front : List A) (n : A) (read : Read (List A)) → with_front front (read >>= λ x. Some (n ∷ x.0, x.1)) ≡ with_front (front ++ n ∷ []) read
regroup {A} front n (Some x) = ap (λ (ns : List A). Some (ns, x.1)) (simp append_assoc)
regroup front n None = refl

pub goes_on : {A : Type 0} (r : Reader A) (front : List A) (count i : ℕ) (bytes : List ℕ) (n : A) (after : List ℕ) (total : Read (List A)) → i < count → r bytes ≡ Some (n, after)
    → with_front front (times r (count - i) bytes) ≡ total → with_front (front ++ n ∷ []) (times r (count - (i + 1)) after) ≡ total
goes_on r front count i bytes n after total lt h so_far =
    let k : count - i ≡ suc (count - (i + 1)) = omega arith in
    let one : with_front front (times r (count - i) bytes) ≡ with_front (front ++ n ∷ []) (times r (count - (i + 1)) after) = rw (k, h) (regroup front n (times r (count - (i + 1)) after)) in
    sym one ∙ so_far

pub ends : {A : Type 0} (r : Reader A) (e : Halt) (front : List A) (count i : ℕ) (bytes rest left : List ℕ) (total : Read (List A)) → i < count → Gives (Err e) rest (r bytes)
    → with_front front (times r (count - i) bytes) ≡ total → Gives (Err e) left total
ends r halt.NoMemory front count i bytes rest left total lt h so_far = tt
ends r halt.NoRecord front count i bytes rest left total lt h so_far =
    let k : count - i ≡ suc (count - (i + 1)) = omega arith in
    let one : with_front front (times r (count - i) bytes) ≡ None = rw (k, h) refl in
    sym so_far ∙ one

pub is_done : {A : Type 0} (r : Reader A) (front : List A) (count i : ℕ) (bytes : List ℕ) (total : Read (List A)) → count ≤ i → with_front front (times r (count - i) bytes) ≡ total → total ≡ Some (front, bytes)
is_done {A} r front count i bytes total le so_far =
    let k : count - i ≡ 0 = omega arith in
    let one : with_front front (times r (count - i) bytes) ≡ Some (front, bytes) = rw k (ap (λ (ns : List A). Some (ns, bytes)) (append-nil front)) in
    sym so_far ∙ one

pub each_of_all : {A : Type 0} (P : A → Type 0) (xs : List A) → All P xs → AllByRecursion P xs
each_of_all P [] all = tt
each_of_all P (x ∷ xs) all = (All-head P x xs all, each_of_all P xs (All-tail P x xs all))

-- one member more was written
pub written_more : {A : Type 0} (spell : A → List ℕ) (xs : List A) (i : ℕ) (x : A) (start count out new : List ℕ) → i < length xs → x ≡ get_or xs i x
    → out ≡ start ++ (count ++ flat_map spell (take i xs)) → new ≡ out ++ spell x → new ≡ start ++ (count ++ flat_map spell (take (i + 1) xs))
written_more spell xs i x start count out new lt is so_far now =
    let more : flat_map spell (take (i + 1) xs) ≡ flat_map spell (take i xs) ++ spell x =
    ap (flat_map spell) (take_more xs i x lt ∙ ap (λ (y : _). take i xs ++ y ∷ []) (sym is)) ∙ flat_map-append spell (take i xs) (x ∷ []) ∙ ap (λ (t : List ℕ). flat_map spell (take i xs) ++ t) (append-nil (spell x)) in
    now ∙ ap (λ (t : List ℕ). t ++ spell x) so_far ∙ append_assoc start (count ++ flat_map spell (take i xs)) (spell x)
    ∙ ap (λ (t : List ℕ). start ++ t) (append_assoc count (flat_map spell (take i xs)) (spell x) ∙ ap (λ (t : List ℕ). count ++ t) (sym more))

pub range_more : {A : Type 0} (P : A → Type 0) (xs : List A) (i : ℕ) (x : A) → i < length xs → x ≡ get_or xs i x → All P (take i xs) → P x → All P (take (i + 1) xs)
range_more P xs i x lt is so_far now = All-more P xs i x lt so_far (subst P is now)

pub range_whole : {A : Type 0} (P : A → Type 0) (xs : List A) (i : ℕ) → length xs ≤ i → All P (take i xs) → AllByRecursion P xs
range_whole {A} P xs i le all = each_of_all P xs (subst (All P) (take_all i xs le) all)

-- behind the count stand the members
pub counted : {A : Type 0} (r : Reader A) (bytes : List ℕ) (count : ℕ) (rest : List ℕ) → number_at 4 bytes ≡ Some (count, rest) → list_at r bytes ≡ times r count rest
counted {A} r bytes count rest h = ap (λ (read : Read ℕ). read >>= λ n. times r n.0 n.1) h
