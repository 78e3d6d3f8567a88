-- The bytes of logs: each image gives one list of records, or fails at one place.
use Rattle.std.proofs.Common.{◌≡◌, ◌≢◌, inl, inr, ℕ, ◌+◌, ◌≤◌, List, [], ◌∷◌, ◌++◌, length, refl, sym, ap, ◌∙◌, append_assoc, arith}
use Rattle.std.proofs.lemmas.List.{length-append}
use Rattle.tp_types.specs.declared.records.Record.{Record}
use Rattle.tp_record.specs.Records.{IsRecord}
use Rattle.tp_record.specs.Spelling.{spelling}
use Rattle.tp_record.proofs.Bodies.{one_spelling}
use Rattle.tp_log.specs.Images.{AreRecords, Ends, FailsAt, Gives, NoneStands, blocks}

-- one block more
pub blocks-push : (records : List Record) (r : Record) (rest : List ℕ) → blocks (records ++ r ∷ []) ++ rest ≡ blocks records ++ 1 ∷ (spelling r ++ rest)
blocks-push [] r rest = ap (λ (t : List ℕ). 1 ∷ t) (append_assoc (spelling r) [] rest)
blocks-push (s ∷ records) r rest =
    ap (λ (t : List ℕ). 1 ∷ t) (append_assoc (spelling s) (blocks (records ++ r ∷ [])) rest ∙ ap (λ (t : List ℕ). spelling s ++ t) (blocks-push records r rest) ∙ sym (append_assoc (spelling s) (blocks records) (1 ∷ (spelling r ++ rest))))

pub AreRecords-push : (records : List Record) (r : Record) → AreRecords records → IsRecord r → AreRecords (records ++ r ∷ [])
AreRecords-push [] r are is = (is, tt)
AreRecords-push (s ∷ records) r are is = (are.0, AreRecords-push records r are.1 is)

abbrev front : {A : Type 0} → A → List A → A
front d [] = d
front d (x ∷ xs) = x

abbrev tail : {A : Type 0} → List A → List A
tail [] = []
tail (x ∷ xs) = xs

-- behind the first gates, which are the same
behind : (r s : Record) (rs ss : List Record) (x y : List ℕ) → 1 ∷ (spelling r ++ blocks rs) ++ x ≡ 1 ∷ (spelling s ++ blocks ss) ++ y → spelling r ++ (blocks rs ++ x) ≡ spelling s ++ (blocks ss ++ y)
behind r s rs ss x y e = sym (append_assoc (spelling r) (blocks rs) x) ∙ ap tail e ∙ append_assoc (spelling s) (blocks ss) y

-- two readings up to a gate that is not open are one
pub same_records : (rs ss : List Record) (g h : ℕ) (x y : List ℕ) → AreRecords rs → AreRecords ss → g ≢ 1 → h ≢ 1 → blocks rs ++ g ∷ x ≡ blocks ss ++ h ∷ y → rs ≡ ss
same_records [] [] g h x y ar as' sg sh e = refl
same_records [] (s ∷ ss) g h x y ar as' sg sh e = absurd (sg (ap (front 0) e))
same_records (r ∷ rs) [] g h x y ar as' sg sh e = absurd (sh (sym (ap (front 0) e)))
same_records (r ∷ rs) (s ∷ ss) g h x y ar as' sg sh e =
    let one = one_spelling r s (blocks rs ++ g ∷ x) (blocks ss ++ h ∷ y) ar.0 as'.0 (behind r s rs ss (g ∷ x) (h ∷ y) e) in
    λ i. one.0 i ∷ same_records rs ss g h x y ar.1 as'.1 sg sh one.1 i

some_left : (t : List ℕ) (g : ℕ) (x : List ℕ) → (next : ℕ) × (more : List ℕ) × (t ++ g ∷ x ≡ next ∷ more)
some_left [] g x = (g, x, refl)
some_left (b ∷ t) g x = (b, t ++ g ∷ x, refl)

-- where nothing stands behind an open gate there is no reading
pub no_reading : (rs ss : List Record) (g : ℕ) (x b : List ℕ) → AreRecords rs → AreRecords ss → g ≢ 1 → NoneStands b → blocks rs ++ g ∷ x ≡ blocks ss ++ 1 ∷ b → ⊥
no_reading [] [] g x b ar as' sg none e = sg (ap (front 0) e)
no_reading [] (s ∷ ss) g x b ar as' sg none e = sg (ap (front 0) e)
no_reading (r ∷ rs) [] g x b ar as' sg none e =
    let left = some_left (blocks rs) g x in
    none r left.0 left.1 ar.0 (sym (ap tail e) ∙ append_assoc (spelling r) (blocks rs) (g ∷ x) ∙ ap (λ (t : List ℕ). spelling r ++ t) left.2)
no_reading (r ∷ rs) (s ∷ ss) g x b ar as' sg none e =
    let one = one_spelling r s (blocks rs ++ g ∷ x) (blocks ss ++ 1 ∷ b) ar.0 as'.0 (behind r s rs ss (g ∷ x) (1 ∷ b) e) in
    no_reading rs ss g x b ar.1 as'.1 sg none one.1

-- and such a gate has one place
pub same_place : (rs ss : List Record) (b c : List ℕ) → AreRecords rs → AreRecords ss → NoneStands b → NoneStands c → blocks rs ++ 1 ∷ b ≡ blocks ss ++ 1 ∷ c → rs ≡ ss
same_place [] [] b c ar as' nb nc e = refl
same_place [] (s ∷ ss) b c ar as' nb nc e =
    let left = some_left (blocks ss) 1 c in
    absurd (nb s left.0 left.1 as'.0 (ap tail e ∙ append_assoc (spelling s) (blocks ss) (1 ∷ c) ∙ ap (λ (t : List ℕ). spelling s ++ t) left.2))
same_place (r ∷ rs) [] b c ar as' nb nc e =
    let left = some_left (blocks rs) 1 b in
    absurd (nc r left.0 left.1 ar.0 (sym (ap tail e) ∙ append_assoc (spelling r) (blocks rs) (1 ∷ b) ∙ ap (λ (t : List ℕ). spelling r ++ t) left.2))
same_place (r ∷ rs) (s ∷ ss) b c ar as' nb nc e =
    let one = one_spelling r s (blocks rs ++ 1 ∷ b) (blocks ss ++ 1 ∷ c) ar.0 as'.0 (behind r s rs ss (1 ∷ b) (1 ∷ c) e) in
    λ i. one.0 i ∷ same_place rs ss b c ar.1 as'.1 nb nc one.1 i

-- ---- images

-- an image of at most one byte that ends by a gate has no record
pub short_ends : (image : List ℕ) (rs : List Record) → length image ≤ 1 → Ends image rs → rs ≡ []
short_ends image [] short e = refl
short_ends image (r ∷ rs) short e =
    let size : length (blocks (r ∷ rs) ++ e.gate ∷ e.rest) ≡ 1 + length (spelling r ++ blocks rs) + (1 + length e.rest) = omega (arith, length-append (blocks (r ∷ rs)) (e.gate ∷ e.rest)) in
    absurd (omega (arith, short, size, ap length e.parts))

pub gives_one : (image : List ℕ) (rs ss : List Record) → Gives image rs → Gives image ss → rs ≡ ss
gives_one image rs ss (inl p) (inl q) = p.1 ∙ sym q.1
gives_one image rs ss (inl p) (inr q) = p.1 ∙ sym (short_ends image ss p.0 q)
gives_one image rs ss (inr p) (inl q) = short_ends image rs q.0 p ∙ sym q.1
gives_one image rs ss (inr p) (inr q) = same_records rs ss p.gate q.gate p.rest q.rest p.are q.are p.shut q.shut (sym p.parts ∙ q.parts)

pub fails_not : (image : List ℕ) (rs : List Record) (place : ℕ) → Gives image rs → FailsAt image place → ⊥
fails_not image rs place (inl p) f = omega (arith, p.0, f.long)
fails_not image rs place (inr p) f = no_reading rs f.records p.gate p.rest f.behind p.are f.are p.shut f.none (sym p.parts ∙ f.parts)

pub fails_one : (image : List ℕ) (p q : ℕ) → FailsAt image p → FailsAt image q → p ≡ q
fails_one image p q f h =
    f.place_is ∙ ap (λ (rs : List Record). length (blocks rs) + 1) (same_place f.records h.records f.behind h.behind f.are h.are f.none h.none (sym f.parts ∙ h.parts)) ∙ sym h.place_is
