-- The first proof that a reading is above.
use Rattle.std.proofs.Common.{◌≡◌, ◌≤◌, ◌&&◌, ℕ, zero, suc, Bool, true, false, cond, ltb, List, [], ◌∷◌, Some, None, refl, sym, subst, ◌∙◌}
use Rattle.std.proofs.lemmas.Bool.{and_parts, le-ltb, ltb-false, ltb-true}
use Rattle.tp_types.specs.Each.{Each}
use Rattle.tp_model.specs.Words.{Cause, Level, Newer, Reading, Verdict}
use Rattle.tp_model.specs.Words.cause
use Rattle.tp_scheme.specs.Gathered.{is_older, newer_by, newest_in, older}
use Rattle.tp_model.specs.Levels.{is_global_at}
use Rattle.tp_scheme.specs.Laws.{FindsTheFirstBelow, IsFirstBelow, IsNotBelow, NoneWhereNoneIsBelow}

-- ---- one proof

not_below_at : (g lt : Bool) (n v : ℕ) → ltb v n ≡ lt → (g && lt) ≡ false → g ≡ true → n ≤ v
not_below_at true true n v e and global = cc
not_below_at true false n v e and global = ltb-false v n e
not_below_at false lt n v e and global = cc

not_below : (levels : List Level) (reading : Reading) (proof : Verdict) → is_older levels reading proof ≡ false → IsNotBelow levels reading proof
not_below levels reading proof e =
    not_below_at (is_global_at levels proof.admin) (ltb proof.version.0 (newest_in reading proof.admin).0) (newest_in reading proof.admin).0 proof.version.0 refl e

not_older_at : (g : Bool) (n v : ℕ) → (g ≡ true → n ≤ v) → (g && ltb v n) ≡ false
not_older_at true n v le = le-ltb v n (le refl)
not_older_at false n v le = refl

not_older : (levels : List Level) (reading : Reading) (proof : Verdict) → IsNotBelow levels reading proof → is_older levels reading proof ≡ false
not_older levels reading proof le = not_older_at (is_global_at levels proof.admin) (newest_in reading proof.admin).0 proof.version.0 le

-- ---- all proofs

-- what is found where the first of these proofs is or is not below
older_with : (levels : List Level) (reading : Reading) (first : Verdict) (proofs : List Verdict) (b : Bool) → is_older levels reading first ≡ b
    → older levels (first ∷ proofs) reading ≡ cond b (Some (newer_by reading first)) (older levels proofs reading)
older_with levels reading first proofs true e = rw e refl
older_with levels reading first proofs false e = rw e refl

none_where : (levels : List Level) (reading : Reading) (first : Verdict) (proofs : List Verdict) (b : Bool) → is_older levels reading first ≡ b
    → (older levels proofs reading ≡ None → Each (IsNotBelow levels reading) proofs)
    → older levels (first ∷ proofs) reading ≡ None → Each (IsNotBelow levels reading) (first ∷ proofs)
none_where levels reading first proofs true e rest none =
    let found : Some (newer_by reading first) ≡ None = sym (older_with levels reading first proofs true e) ∙ none in
    cc
none_where levels reading first proofs false e rest none =
    (not_below levels reading first e, rest (sym (older_with levels reading first proofs false e) ∙ none))

none_below : (levels : List Level) (proofs : List Verdict) (reading : Reading) → older levels proofs reading ≡ None → Each (IsNotBelow levels reading) proofs
none_below levels [] reading none = tt
none_below levels (first ∷ proofs) reading none =
    none_where levels reading first proofs (is_older levels reading first) refl (none_below levels proofs reading) none

none_found : (levels : List Level) (proofs : List Verdict) (reading : Reading) → Each (IsNotBelow levels reading) proofs → older levels proofs reading ≡ None
none_found levels [] reading each = refl
none_found levels (first ∷ proofs) reading each =
    older_with levels reading first proofs false (not_older levels reading first each.0) ∙ none_found levels proofs reading each.1

pub none_where_none_is_below : NoneWhereNoneIsBelow
none_where_none_is_below levels proofs reading = (none_below levels proofs reading, none_found levels proofs reading)

-- ---- the first that is below

abbrev Found : List Level → List Verdict → Reading → Cause → Type 0
Found levels proofs reading why = (newer : Newer) × (why ≡ cause.Newer newer) × IsFirstBelow levels proofs reading newer

here : (levels : List Level) (reading : Reading) (first : Verdict) (proofs : List Verdict) → is_older levels reading first ≡ true
    → Found levels (first ∷ proofs) reading (newer_by reading first)
here levels reading first proofs e =
    let parts = and_parts (is_global_at levels first.admin) (ltb first.version.0 (newest_in reading first.admin).0) e in (
      record { admin = first.admin; used = first.version; found = newest_in reading first.admin },
      refl,
      record {
        place = zero;
        proof = first;
        kept = refl;
        admin = refl;
        used = refl;
        found = refl;
        global = parts.0;
        below = ltb-true first.version.0 (newest_in reading first.admin).0 parts.1;
        first = tt;
      },
    )

later : (levels : List Level) (reading : Reading) (first : Verdict) (proofs : List Verdict) (why : Cause) → is_older levels reading first ≡ false
    → Found levels proofs reading why → Found levels (first ∷ proofs) reading why
later levels reading first proofs why e (newer, is, one) = (
  newer,
  is,
  record {
    place = suc one.place;
    proof = one.proof;
    kept = one.kept;
    admin = one.admin;
    used = one.used;
    found = one.found;
    global = one.global;
    below = one.below;
    first = (not_below levels reading first e, one.first);
  },
)

some_inside : (one other : Cause) → Some one ≡ Some other → one ≡ other
some_inside one other e = cc

found_where : (levels : List Level) (reading : Reading) (first : Verdict) (proofs : List Verdict) (why : Cause) (b : Bool) → is_older levels reading first ≡ b
    → (older levels proofs reading ≡ Some why → Found levels proofs reading why)
    → older levels (first ∷ proofs) reading ≡ Some why → Found levels (first ∷ proofs) reading why
found_where levels reading first proofs why true e rest found =
    let is = some_inside (newer_by reading first) why (sym (older_with levels reading first proofs true e) ∙ found) in
    subst (Found levels (first ∷ proofs) reading) is (here levels reading first proofs e)
found_where levels reading first proofs why false e rest found =
    later levels reading first proofs why e (rest (sym (older_with levels reading first proofs false e) ∙ found))

pub finds_the_first_below : FindsTheFirstBelow
finds_the_first_below levels [] reading why found = cc
finds_the_first_below levels (first ∷ proofs) reading why found =
    found_where levels reading first proofs why (is_older levels reading first) refl (finds_the_first_below levels proofs reading why) found
