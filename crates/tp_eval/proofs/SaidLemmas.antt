-- Of credentials that are kept by issuer and attribute, the first that says what an atom asks is the first of all.
use Rattle.std.proofs.Common.{◌≡◌, ◌<◌, ◌≤◌, ℕ, zero, suc, ◌+◌, ◌==◌, ◌&&◌, nat_lt, not, Bool, true, false, cond, List, [], ◌∷◌, ◌++◌, length, filter, find, take, slice_get, slice_set, position, unwrap_or, Option, Some, None, refl, sym, ap, subst, append-nil, arith, ◌∙◌, true≢false, if◌then◌else◌}
use Rattle.std.specs.List.{list_any, position_or_len}
use Rattle.std.specs.Option.{option_map_or, option_or}
use Rattle.std.specs.Ordering.{int_eq}
use Rattle.std.specs.Cmp.Lexicographic.{pointwise, bytes_decides}
use Rattle.std.proofs.lemmas.Bool.{and_parts}
use Rattle.std.proofs.lemmas.Bool.Decides.{nat_tests, Decides-int_eq}
use Rattle.std.proofs.lemmas.List.{length-append, length-set}
use Rattle.std.proofs.lemmas.List.Elements.{filter-append}
use Rattle.std.proofs.lemmas.List.Folds.{find-append}
use Rattle.tp_model.specs.Words.{CredId, Credential, Op, Value}
use Rattle.tp_types.specs.declared.policy.Op.TheVariants.{Equal}
use Rattle.tp_types.specs.declared.policy.Value.TheVariants.{Number, Word}
use Rattle.tp_model.specs.Ids.{same_name}
use Rattle.tp_model.specs.Credentials.{said_in, triple_by, triple_of}
use Rattle.tp_model.specs.Policies.{Triple, meets, same_value, satisfies}
use Rattle.tp_eval.specs.mirrors.Said.{Adds, IsIndexOf, Kind, NotesKind, at_place, is_kind, list_for, meets_same, says_in, with_first}

-- ---- lists side by side with what they are found by

-- the list beside the first that passes
abbrev beside : {A B : Type 0} → (A → Bool) → List A → List (List B) → List B
beside test [] lists = []
beside test (x ∷ xs) [] = []
beside test (x ∷ xs) (list ∷ lists) = cond (test x) list (beside test xs lists)

one_more : (n : ℕ) → 1 + n ≡ suc n
one_more n = omega arith

none_past : {B : Type 0} (lists : List (List B)) (at : ℕ) → nat_lt at (length lists) ≡ false → unwrap_or (slice_get lists at) [] ≡ []
none_past [] at e = refl
none_past (list ∷ lists) zero e = absurd (grind (arith, nat_tests, e))
none_past (list ∷ lists) (suc at) e = none_past lists at (grind (arith, nat_tests, e))

by_place : {B : Type 0} (lists : List (List B)) (at : ℕ) (there : Bool) → nat_lt at (length lists) ≡ there
    → option_map_or (λ (k : ℕ). unwrap_or (slice_get lists k) []) (cond there (Some at) None) [] ≡ unwrap_or (slice_get lists at) []
by_place lists at true e = refl
by_place lists at false e = sym (none_past lists at e)

at_first : {A B : Type 0} (test : A → Bool) (xs : List A) (lists : List (List B)) → length xs ≡ length lists
    → unwrap_or (slice_get lists (position_or_len test xs)) [] ≡ beside test xs lists
at_first test [] [] e = refl
at_first test [] (list ∷ lists) e = absurd (cc)
at_first test (x ∷ xs) [] e = refl
at_first test (x ∷ xs) (list ∷ lists) e = first_or_later (at_first test xs lists (omega (arith, e))) (test x) refl
  where
    first_or_later : unwrap_or (slice_get lists (position_or_len test xs)) [] ≡ beside test xs lists → (b : Bool) → test x ≡ b → unwrap_or (slice_get (list ∷ lists) (position_or_len test (x ∷ xs))) [] ≡ cond (test x) list (beside test xs lists)
    first_or_later later true is = rw is refl
    first_or_later later false is = rw (is, one_more (position_or_len test xs)) later

-- what is kept of an issuer and an attribute stands beside them
kept_beside : (kinds : List Kind) (lists : List (List CredId)) (issuer attr : List ℕ) → length kinds ≡ length lists
    → list_for kinds lists issuer attr ≡ beside (is_kind issuer attr) kinds lists
kept_beside kinds lists issuer attr e =
    let test = is_kind issuer attr in
    ap (λ (count : ℕ). option_map_or (λ (k : ℕ). unwrap_or (slice_get lists k) []) (cond (nat_lt (position_or_len test kinds) count) (Some (position_or_len test kinds)) None) []) e
    ∙ by_place lists (position_or_len test kinds) (nat_lt (position_or_len test kinds) (length lists)) refl
    ∙ at_first test kinds lists e

-- a list that is added at the end stands beside what is added
beside_pushed : {A B : Type 0} (test : A → Bool) (xs : List A) (lists : List (List B)) (x : A) (list : List B) → length xs ≡ length lists
    → beside test (xs ++ x ∷ []) (lists ++ list ∷ []) ≡ cond (list_any test xs) (beside test xs lists) (cond (test x) list [])
beside_pushed test [] [] x list e = refl
beside_pushed test [] (other ∷ lists) x list e = absurd (cc)
beside_pushed test (y ∷ xs) [] x list e = absurd (cc)
beside_pushed test (y ∷ xs) (other ∷ lists) x list e = first_or_later (beside_pushed test xs lists x list (omega (arith, e))) (test y) refl
  where
    first_or_later : beside test (xs ++ x ∷ []) (lists ++ list ∷ []) ≡ cond (list_any test xs) (beside test xs lists) (cond (test x) list []) → (b : Bool) → test y ≡ b
        → beside test ((y ∷ xs) ++ x ∷ []) ((other ∷ lists) ++ list ∷ []) ≡ cond (list_any test (y ∷ xs)) (beside test (y ∷ xs) (other ∷ lists)) (cond (test x) list [])
    first_or_later later true is = rw is refl
    first_or_later later false is = rw is later

-- where none passes nothing stands beside it
beside_none : {A B : Type 0} (test : A → Bool) (xs : List A) (lists : List (List B)) → list_any test xs ≡ false → beside test xs lists ≡ []
beside_none test [] lists e = refl
beside_none test (x ∷ xs) [] e = refl
beside_none test (x ∷ xs) (list ∷ lists) e = first_or_later (beside_none test xs lists) (test x) refl e
  where
    first_or_later : (list_any test xs ≡ false → beside test xs lists ≡ []) → (b : Bool) → test x ≡ b → list_any test (x ∷ xs) ≡ false → beside test (x ∷ xs) (list ∷ lists) ≡ []
    first_or_later later true is none = absurd (true≢false (rw is at none))
    first_or_later later false is none = rw is (later (rw is at none))

-- the list beside the first is changed
beside_changed : (test : Kind → Bool) (change : List CredId → List CredId) (kinds : List Kind) (lists : List (List CredId)) → length kinds ≡ length lists
    → list_any test kinds ≡ true → beside test kinds (at_place change (position_or_len test kinds) lists) ≡ change (beside test kinds lists)
beside_changed test change [] lists e any = absurd (true≢false (sym any))
beside_changed test change (kind ∷ kinds) [] e any = absurd (cc)
beside_changed test change (kind ∷ kinds) (list ∷ lists) e any = first_or_later (beside_changed test change kinds lists (omega (arith, e))) (test kind) refl any
  where
    first_or_later : (list_any test kinds ≡ true → beside test kinds (at_place change (position_or_len test kinds) lists) ≡ change (beside test kinds lists)) → (b : Bool) → test kind ≡ b → list_any test (kind ∷ kinds) ≡ true
        → beside test (kind ∷ kinds) (at_place change (position_or_len test (kind ∷ kinds)) (list ∷ lists)) ≡ change (beside test (kind ∷ kinds) (list ∷ lists))
    first_or_later later true is all = rw (is, is) refl
    first_or_later later false is all = rw (is, one_more (position_or_len test kinds), is) (later (rw is at all))

-- the lists beside others stay
beside_kept : (own test : Kind → Bool) (change : List CredId → List CredId) (kinds : List Kind) (lists : List (List CredId))
    → ((kind : Kind) → own kind ≡ true → test kind ≡ false)
    → beside test kinds (at_place change (position_or_len own kinds) lists) ≡ beside test kinds lists
beside_kept own test change [] lists apart = refl
beside_kept own test change (kind ∷ kinds) [] apart = refl
beside_kept own test change (kind ∷ kinds) (list ∷ lists) apart = first_or_later (beside_kept own test change kinds lists apart) (own kind) refl
  where
    first_or_later : beside test kinds (at_place change (position_or_len own kinds) lists) ≡ beside test kinds lists → (b : Bool) → own kind ≡ b → beside test (kind ∷ kinds) (at_place change (position_or_len own (kind ∷ kinds)) (list ∷ lists)) ≡ beside test (kind ∷ kinds) (list ∷ lists)
    first_or_later later true is = rw (is, apart kind is) refl
    first_or_later later false is = rw (is, one_more (position_or_len own kinds)) (ap (λ (others : List CredId). cond (test kind) list others) later)

-- ---- what a credential says

same_bytes : (one other : List ℕ) → same_name one other ≡ true → one ≡ other
same_bytes one other = (bytes_decides one other).0

same_values : (one other : Value) → same_value one other ≡ true → one ≡ other
same_values (Number one) (Number other) e = ap Number ((Decides-int_eq one other).0 e)
same_values (Word one) (Word other) e = ap Word (same_bytes one other e)
same_values (Number one) (Word other) e = absurd (true≢false (sym e))
same_values (Word one) (Number other) e = absurd (true≢false (sym e))

-- one that meets what a credential says says the same
same_triple : (credential : Credential) (triple : Triple) → meets_same credential triple ≡ true → triple ≡ triple_by credential
same_triple credential triple e =
    let parts = and_parts (same_name triple.issuer credential.issuer && same_name triple.attr credential.attr) (satisfies Equal credential.value triple.value) e in
    let names = and_parts (same_name triple.issuer credential.issuer) (same_name triple.attr credential.attr) parts.0 in
    three triple.issuer credential.issuer triple.attr credential.attr triple.value credential.value
    (same_bytes triple.issuer credential.issuer names.0) (same_bytes triple.attr credential.attr names.1) (same_values triple.value credential.value parts.1)
  where
    three : (issuer issuer' attr attr' : List ℕ) (value value' : Value) → issuer ≡ issuer' → attr ≡ attr' → value ≡ value'
        → ◌≡◌ {A = Triple} (record { issuer = issuer; attr = attr; value = value }) (record { issuer = issuer'; attr = attr'; value = value' })
    three issuer issuer' attr attr' value value' i a v = cc (i, a, v)

module _ (creds : List Credential) (subject : List ℕ) (credential : Credential) (cred : CredId)
    (said : said_in creds subject cred ≡ Some (triple_by credential)) where
  -- one that says the same passes each test that the credential passes
  same_passes : (test : Triple → Bool) (other : CredId) → says_in creds subject (meets_same credential) other ≡ true → says_in creds subject test cred ≡ true
      → says_in creds subject test other ≡ true
  same_passes test other same passes = by_said (said_in creds subject other) refl
    where
      by_said : (triple : Option Triple) → said_in creds subject other ≡ triple → says_in creds subject test other ≡ true
      by_said None is = absurd (true≢false (sym same ∙ ap (λ (t : Option Triple). option_map_or (meets_same credential) t false) is))
      by_said (Some triple) is =
          let meets : meets_same credential triple ≡ true = sym (ap (λ (t : Option Triple). option_map_or (meets_same credential) t false) is) ∙ same in
          let here : test (triple_by credential) ≡ true = sym (ap (λ (t : Option Triple). option_map_or test t false) said) ∙ passes in
          ap (λ (t : Option Triple). option_map_or test t false) is ∙ (ap test (same_triple credential triple meets) ∙ here)

  -- where one says the same, and the credential passes a test, some passes it
  some_passes : (test : Triple → Bool) (kept : List CredId) → list_any (says_in creds subject (meets_same credential)) kept ≡ true → says_in creds subject test cred ≡ true
      → (first : CredId) × (find (says_in creds subject test) kept ≡ Some first)
  some_passes test [] any passes = absurd (true≢false (sym any))
  some_passes test (other ∷ kept) any passes = by_other (λ among. some_passes test kept among passes) (says_in creds subject test other) refl
    where
      Later : Type 0
      Later = list_any (says_in creds subject (meets_same credential)) kept ≡ true → (first : CredId) × (find (says_in creds subject test) kept ≡ Some first)

      by_other : Later → (b : Bool) → says_in creds subject test other ≡ b → (first : CredId) × (find (says_in creds subject test) (other ∷ kept) ≡ Some first)
      by_other later true is = (other, rw is refl)
      by_other later false is = by_same (says_in creds subject (meets_same credential) other) refl
        where
          by_same : (b : Bool) → says_in creds subject (meets_same credential) other ≡ b → (first : CredId) × (find (says_in creds subject test) (other ∷ kept) ≡ Some first)
          by_same true same = absurd (true≢false (sym (same_passes test other same passes) ∙ is))
          by_same false same =
              let found = later (rw same at any) in
              (found.0, rw is found.1)

  -- a list with one more finds what it found before, or else the credential
  found_with : (test : Triple → Bool) (kept : List CredId)
      → find (says_in creds subject test) (with_first creds subject credential cred kept)
      ≡ option_or (find (says_in creds subject test) kept) (find (says_in creds subject test) (cred ∷ []))
  found_with test kept = by_any (list_any (says_in creds subject (meets_same credential)) kept) refl
    where
      by_passes : list_any (says_in creds subject (meets_same credential)) kept ≡ true → (b : Bool) → says_in creds subject test cred ≡ b
          → find (says_in creds subject test) kept ≡ option_or (find (says_in creds subject test) kept) (find (says_in creds subject test) (cred ∷ []))
      by_passes any true passes = let first = some_passes test kept any passes in rw first.1 refl
      by_passes any false passes = rw passes (or_none (find (says_in creds subject test) kept))
        where
          or_none : (found : Option CredId) → found ≡ option_or found None
          or_none None = refl
          or_none (Some first) = refl

      by_any : (b : Bool) → list_any (says_in creds subject (meets_same credential)) kept ≡ b
          → find (says_in creds subject test) (with_first creds subject credential cred kept)
          ≡ option_or (find (says_in creds subject test) kept) (find (says_in creds subject test) (cred ∷ []))
      by_any true any = rw any (by_passes any (says_in creds subject test cred) refl)
      by_any false any = rw any (find-append (says_in creds subject test) kept (cred ∷ []))

-- ---- one more credential

same_turned : (one other : List ℕ) → same_name one other ≡ same_name other one
same_turned [] [] = refl
same_turned [] (byte ∷ bytes) = refl
same_turned (byte ∷ bytes) [] = refl
same_turned (byte ∷ bytes) (next ∷ others) =
    let turned : (byte == next) ≡ (next == byte) = grind (arith, nat_tests) in
    ap (λ (b : Bool). b && same_name bytes others) turned ∙ ap (λ (b : Bool). (next == byte) && b) (same_turned bytes others)

-- the list of an issuer and an attribute is changed as it should be, where these are the credential's, and else stays
module _ (creds : List Credential) (subject : List ℕ) (credential : Credential) (cred : CredId)
    (kinds : List Kind) (lists : List (List CredId)) (kinds' : List Kind) (lists' : List (List CredId))
    (e : length kinds ≡ length lists) (notes : NotesKind creds subject credential cred kinds lists kinds' lists') where
  abbrev own : Kind → Bool
  own = is_kind credential.issuer credential.attr

  test_is : is_kind notes.kind.0.now notes.kind.1.now ≡ own
  test_is = ap (λ (name : List ℕ). is_kind name notes.kind.1.now) notes.of_issuer ∙ ap (is_kind credential.issuer) notes.of_attr

  kinds_are : kinds' ≡ (if list_any own kinds then kinds else kinds ++ notes.kind ∷ [])
  kinds_are = notes.kinds_are ∙ ap (λ (t : Kind → Bool). if list_any t kinds then kinds else kinds ++ notes.kind ∷ []) test_is

  lists_are : lists' ≡ (if list_any own kinds then at_place (with_first creds subject credential cred) (position_or_len own kinds) lists else lists ++ (cred ∷ []) ∷ [])
  lists_are =
      notes.lists_are
      ∙ ap (λ (t : Kind → Bool). if list_any t kinds then at_place (with_first creds subject credential cred) (position_or_len t kinds) lists else lists ++ (cred ∷ []) ∷ []) test_is

  as_many_after : length kinds' ≡ length lists'
  as_many_after = by_any (list_any own kinds) refl
    where
      by_any : (b : Bool) → list_any own kinds ≡ b → length kinds' ≡ length lists'
      by_any true any =
          let kinds_as : kinds' ≡ kinds = kinds_are ∙ rw any refl in
          let lists_as : lists' ≡ at_place (with_first creds subject credential cred) (position_or_len own kinds) lists = lists_are ∙ rw any refl in
          ap length kinds_as ∙ e
          ∙ sym (ap length lists_as ∙ length-set lists (position_or_len own kinds) (with_first creds subject credential cred (unwrap_or (slice_get lists (position_or_len own kinds)) [])))
      by_any false any =
          let kinds_as : kinds' ≡ kinds ++ notes.kind ∷ [] = kinds_are ∙ rw any refl in
          let lists_as : lists' ≡ lists ++ (cred ∷ []) ∷ [] = lists_are ∙ rw any refl in
          ap length kinds_as ∙ length-append kinds (notes.kind ∷ []) ∙ ap (λ (n : ℕ). n + 1) e
          ∙ sym (ap length lists_as ∙ length-append lists ((cred ∷ []) ∷ []))

  -- the list of the credential's own issuer and attribute
  own_after : beside own kinds' lists' ≡ with_first creds subject credential cred (beside own kinds lists)
  own_after = by_any (list_any own kinds) refl
    where
      is_own : own notes.kind ≡ true
      is_own =
          let one : same_name credential.issuer notes.kind.0.now ≡ true = (bytes_decides credential.issuer notes.kind.0.now).1 (sym notes.of_issuer) in
          let other : same_name credential.attr notes.kind.1.now ≡ true = (bytes_decides credential.attr notes.kind.1.now).1 (sym notes.of_attr) in
          rw (one, other) refl

      by_any : (b : Bool) → list_any own kinds ≡ b → beside own kinds' lists' ≡ with_first creds subject credential cred (beside own kinds lists)
      by_any true any =
          ap (λ (ks : List Kind). beside own ks lists') (kinds_are ∙ rw any refl)
          ∙ ap (beside own kinds) (lists_are ∙ rw any refl)
          ∙ beside_changed own (with_first creds subject credential cred) kinds lists e any
      by_any false any =
          ap (λ (ks : List Kind). beside own ks lists') (kinds_are ∙ rw any refl)
          ∙ ap (beside own (kinds ++ notes.kind ∷ [])) (lists_are ∙ rw any refl)
          ∙ beside_pushed own kinds lists notes.kind (cred ∷ []) e
          ∙ (rw (any, is_own) refl)
          ∙ ap (with_first creds subject credential cred) (sym (beside_none own kinds lists any))

  -- any other list
  other_after : (issuer attr : List ℕ) → (same_name issuer credential.issuer && same_name attr credential.attr) ≡ false
      → beside (is_kind issuer attr) kinds' lists' ≡ beside (is_kind issuer attr) kinds lists
  other_after issuer attr other = by_any (list_any own kinds) refl
    where
      test : Kind → Bool
      test = is_kind issuer attr

      apart : (kind : Kind) → own kind ≡ true → test kind ≡ false
      apart kind is =
          let parts = and_parts (same_name credential.issuer kind.0.now) (same_name credential.attr kind.1.now) is in
          let issuers : credential.issuer ≡ kind.0.now = same_bytes credential.issuer kind.0.now parts.0 in
          let attrs : credential.attr ≡ kind.1.now = same_bytes credential.attr kind.1.now parts.1 in
          sym (ap (λ (name : List ℕ). same_name issuer name && same_name attr credential.attr) issuers
          ∙ ap (λ (name : List ℕ). same_name issuer kind.0.now && same_name attr name) attrs) ∙ other

      not_new : test notes.kind ≡ false
      not_new =
          ap (λ (name : List ℕ). same_name issuer name && same_name attr notes.kind.1.now) notes.of_issuer
          ∙ ap (λ (name : List ℕ). same_name issuer credential.issuer && same_name attr name) notes.of_attr ∙ other

      or_nothing : (b : Bool) → list_any test kinds ≡ b → cond (list_any test kinds) (beside test kinds lists) [] ≡ beside test kinds lists
      or_nothing true any = rw any refl
      or_nothing false any = rw any (sym (beside_none test kinds lists any))

      by_any : (b : Bool) → list_any own kinds ≡ b → beside test kinds' lists' ≡ beside test kinds lists
      by_any true any =
          ap (λ (ks : List Kind). beside test ks lists') (kinds_are ∙ rw any refl)
          ∙ ap (beside test kinds) (lists_are ∙ rw any refl)
          ∙ beside_kept own test (with_first creds subject credential cred) kinds lists apart
      by_any false any =
          ap (λ (ks : List Kind). beside test ks lists') (kinds_are ∙ rw any refl)
          ∙ ap (beside test (kinds ++ notes.kind ∷ [])) (lists_are ∙ rw any refl)
          ∙ beside_pushed test kinds lists notes.kind (cred ∷ []) e
          ∙ (rw not_new (or_nothing (list_any test kinds) refl))

  -- what is found is what was found, or else the credential
  found_after : said_in creds subject cred ≡ Some (triple_by credential) → (issuer attr : List ℕ) (op : Op) (wanted : Value)
      → find (says_in creds subject (meets issuer attr op wanted)) (beside (is_kind issuer attr) kinds' lists')
      ≡ option_or (find (says_in creds subject (meets issuer attr op wanted)) (beside (is_kind issuer attr) kinds lists))
      (find (says_in creds subject (meets issuer attr op wanted)) (cred ∷ []))
  found_after said issuer attr op wanted = by_own (same_name issuer credential.issuer && same_name attr credential.attr) refl
    where
      test : Triple → Bool
      test = meets issuer attr op wanted

      passing : CredId → Bool
      passing = says_in creds subject test

      or_none : (found : Option CredId) → found ≡ option_or found None
      or_none None = refl
      or_none (Some first) = refl

      unmet : (same_name issuer credential.issuer && same_name attr credential.attr) ≡ false → passing cred ≡ false
      unmet other =
          ap (λ (t : Option Triple). option_map_or test t false) said
          ∙ ap (λ (b : Bool). (b && same_name credential.attr attr) && satisfies op wanted credential.value) (same_turned credential.issuer issuer)
          ∙ ap (λ (b : Bool). (same_name issuer credential.issuer && b) && satisfies op wanted credential.value) (same_turned credential.attr attr)
          ∙ ap (λ (b : Bool). b && satisfies op wanted credential.value) other

      by_own : (b : Bool) → (same_name issuer credential.issuer && same_name attr credential.attr) ≡ b
          → find passing (beside (is_kind issuer attr) kinds' lists') ≡ option_or (find passing (beside (is_kind issuer attr) kinds lists)) (find passing (cred ∷ []))
      by_own true is =
          let parts = and_parts (same_name issuer credential.issuer) (same_name attr credential.attr) is in
          let issuers : issuer ≡ credential.issuer = same_bytes issuer credential.issuer parts.0 in
          let attrs : attr ≡ credential.attr = same_bytes attr credential.attr parts.1 in
          let tests : is_kind issuer attr ≡ own = ap (λ (name : List ℕ). is_kind name attr) issuers ∙ ap (is_kind credential.issuer) attrs in
          ap (λ (t : Kind → Bool). find passing (beside t kinds' lists')) tests
          ∙ (ap (find passing) own_after
          ∙ (found_with creds subject credential cred said test (beside own kinds lists)
          ∙ ap (λ (t : Kind → Bool). option_or (find passing (beside t kinds lists)) (find passing (cred ∷ []))) (sym tests)))
      by_own false other =
          ap (find passing) (other_after issuer attr other)
          ∙ (or_none (find passing (beside (is_kind issuer attr) kinds lists))
          ∙ ap (option_or (find passing (beside (is_kind issuer attr) kinds lists))) (sym (rw (unmet other) refl)))

said_by_place : (creds : List Credential) (subject : List ℕ) (cred : CredId) (credential : Credential) → slice_get creds cred.0 ≡ Some credential
    → same_name credential.subject subject ≡ true → said_in creds subject cred ≡ Some (triple_by credential)
said_by_place creds subject cred credential there own = ap (λ (found : Option Credential). option_map_or (triple_of subject) found None) there ∙ rw own refl

pub added : (creds : List Credential) (subject : List ℕ) (cred : CredId) (credential : Credential) (kinds : List Kind) (lists : List (List CredId))
    (kinds' : List Kind) (lists' : List (List CredId)) → slice_get creds cred.0 ≡ Some credential → same_name credential.subject subject ≡ true
    → NotesKind creds subject credential cred kinds lists kinds' lists' → Adds creds subject cred kinds lists kinds' lists'
added creds subject cred credential kinds lists kinds' lists' there is_own notes = record {
  as_many = λ e. as_many_after creds subject credential cred kinds lists kinds' lists' e notes;
  finds = λ e issuer attr op wanted.
      let test = says_in creds subject (meets issuer attr op wanted) in
      ap (find test) (kept_beside kinds' lists' issuer attr (as_many_after creds subject credential cred kinds lists kinds' lists' e notes))
      ∙ (found_after creds subject credential cred kinds lists kinds' lists' e notes (said_by_place creds subject cred credential there is_own) issuer attr op wanted
      ∙ ap (λ (kept : List CredId). option_or (find test kept) (find test (cred ∷ []))) (sym (kept_beside kinds lists issuer attr e)));
}

pub from_not : (b : Bool) → not b ≡ false → b ≡ true
from_not true e = refl
from_not false e = absurd (true≢false e)

pub as_new : {A : Type 0} (b : Bool) (old new : A) → not b ≡ true → new ≡ (if b then old else new)
as_new true old new e = absurd (true≢false (sym e))
as_new false old new e = refl

pub as_old : {A : Type 0} (b : Bool) (old new : A) → not b ≡ false → old ≡ (if b then old else new)
as_old true old new e = refl
as_old false old new e = absurd (true≢false e)

-- ---- all that are valid

pub index_grows : (creds : List Credential) (subject : List ℕ) (valid : CredId → Bool) (presented : List CredId) (at : ℕ) (cred : CredId)
    (kinds : List Kind) (lists : List (List CredId)) (kinds' : List Kind) (lists' : List (List CredId))
    → take (at + 1) presented ≡ take at presented ++ cred ∷ [] → valid cred ≡ true → IsIndexOf creds subject (filter valid (take at presented)) kinds lists
    → Adds creds subject cred kinds lists kinds' lists' → IsIndexOf creds subject (filter valid (take (at + 1) presented)) kinds' lists'
index_grows creds subject valid presented at cred kinds lists kinds' lists' there is index adds =
    let taken : filter valid (take (at + 1) presented) ≡ filter valid (take at presented) ++ cred ∷ [] =
    ap (filter valid) there ∙ (filter-append valid (take at presented) (cred ∷ []) ∙ rw is refl) in
    record {
      as_many = adds.as_many index.as_many;
      finds = λ issuer attr op wanted.
          let test = says_in creds subject (meets issuer attr op wanted) in
          adds.finds index.as_many issuer attr op wanted
          ∙ (ap (λ (found : Option CredId). option_or found (find test (cred ∷ []))) (index.finds issuer attr op wanted)
          ∙ (sym (find-append test (filter valid (take at presented)) (cred ∷ [])) ∙ ap (find test) (sym taken)));
    }

pub index_stays : (creds : List Credential) (subject : List ℕ) (valid : CredId → Bool) (presented : List CredId) (at : ℕ) (cred : CredId)
    (kinds : List Kind) (lists : List (List CredId))
    → take (at + 1) presented ≡ take at presented ++ cred ∷ [] → valid cred ≡ false → IsIndexOf creds subject (filter valid (take at presented)) kinds lists
    → IsIndexOf creds subject (filter valid (take (at + 1) presented)) kinds lists
index_stays creds subject valid presented at cred kinds lists there is index =
    let taken : filter valid (take (at + 1) presented) ≡ filter valid (take at presented) =
    ap (filter valid) there ∙ (filter-append valid (take at presented) (cred ∷ []) ∙ (rw is (append-nil (filter valid (take at presented))))) in
    subst (λ (valid_ones : List CredId). IsIndexOf creds subject valid_ones kinds lists) (sym taken) index
