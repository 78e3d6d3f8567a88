-- Conditions are read exactly, within each depth.
use Rattle.std.proofs.lemmas.Bool.{and_parts, eqb-true, not-true}
use Rattle.std.proofs.Common.{◌≡◌, ◌⊎◌, inl, inr, ℕ, zero, suc, ◌≤◌, ◌==◌, ◌&&◌, not, List, [], ◌∷◌, ◌++◌, Bool, true, false, Option, Some, Result, Ok, Err, refl, sym, ap, subst, ◌∙◌, arith, if◌then◌else◌, codes, ◌+◌}
use Rattle.std.proofs.lemmas.List.{append_assoc, append_cancel_right}
use Rattle.tp_types.specs.declared.policy.Cond.{Cond}
use Rattle.tp_types.specs.declared.policy.Cond.TheVariants as cond
use Rattle.tp_types.specs.Spelling.{is_letter}
use Rattle.tp_policy_text.specs.declared.halt.Stop.{Stop}
use Rattle.tp_policy_text.specs.declared.halt.Stop.TheVariants as stop
use Rattle.tp_policy_text.specs.Grammar.{AnyCond, IsAtom, IsCond, IsConj, IsDisj, IsInParentheses, IsMember, AreJoined, and_of, or_of}
use Rattle.tp_policy_text.specs.Lexis.{Token, count, first, is_blank}
use Rattle.tp_policy_text.specs.mirrors.Readers.{atom_at, both, comes, cond_at, conj_at, disj_at, earlier, in_parentheses, joined_at, more_of, part_at, second, sign_at, word_at}
use Rattle.tp_policy_text.specs.mirrors.Readings.{Reader, Reading, is_open, stopped}
use Rattle.tp_policy_text.proofs.Choices.{Either, choice_exact, retell, unopened_exact}
use Rattle.tp_policy_text.proofs.Comparisons.{atom_exact, same_inl}
use Rattle.tp_policy_text.proofs.Exact.{Exact, IsLevel, IsShallow, Language, Starts, left_at, Ends}
use Rattle.tp_policy_text.proofs.Heads.{not_dot}
use Rattle.tp_policy_text.proofs.Images.{Image, mapped_exact}
use Rattle.tp_policy_text.proofs.Leaves.{any_next}
use Rattle.tp_policy_text.proofs.Links.{Fits, Linked, link_exact}
use Rattle.tp_policy_text.proofs.Sequences.{Both, both_exact, inr_is, narrowed}
use Rattle.tp_policy_text.proofs.Patterns.{name_begins, token_begins}
use Rattle.tp_policy_text.proofs.Texts.{count_append}
use Rattle.tp_policy_text.proofs.Tokens.{Says, plain_token, token_exact}

-- ---- one or more, with a word between

joined_wider : {A : Type 0} (word : List ℕ) (L W : Language A) → ((s t : List ℕ) (a : A) → L a s t → W a s t) → (xs : List A) (s t : List ℕ) → AreJoined word L xs s t → AreJoined word W xs s t
joined_wider word L W wide [] s t h = h
joined_wider word L W wide (x ∷ xs) s t (inl h) = inl (h.0, wide s t x h.1)
joined_wider word L W wide (x ∷ xs) s t (inr h) = inr (h.0, h.1, wide s h.0 x h.2, h.3, joined_wider word L W wide xs h.1 t h.4)

-- a reader that is spent
pub spent_exact : {A : Type 0} (L W : Language A) (F : Option ℕ → Bool) (d : ℕ) → Starts L → ((s t : List ℕ) (a : A) → L a s t → W a s t) → Exact L W F d d 0 (λ s. stopped stop.Spent s)
spent_exact {A = A} L W F d some wide = record {
  front = λ s. record { before = []; parts = refl };
  local = λ x t u o h same. let none = (nothing x t o h) in ap (λ (l : List ℕ). stopped stop.Spent (l ++ u)) none.0 ∙ ap (λ (v : Result A Stop). left_at v u) (sym none.1);
  spaced = λ x t u a h tight may. absurd (wrong a (ap (λ (w : Reading A). w.outcome) h));
  takes = λ s t a h. absurd (wrong a (ap (λ (w : Reading A). w.outcome) h));
  wide = wide;
  again = λ s t a h may. inr (tt);
  full = λ s t a h may short. absurd (omega (arith, short));
  lasts = λ s short h. omega (arith, short);
  viable = λ x t why h. let none = (nothing x t (Err why) h).0 in record {
    more = some.byte ∷ some.others;
    value = some.value;
    ends = λ u tight. subst (λ (l : List ℕ). L some.value (l ++ (some.byte ∷ (some.others ++ u))) u) (sym none) (some.ends u tight);
  };
  some = some;
  solid = λ t a h. wrong a (ap (λ (w : Reading A). w.outcome) h);
  level = λ x t a h. absurd (wrong a (ap (λ (w : Reading A). w.outcome) h));
  deep = λ x t h. absurd (not_deep (ap (λ (w : Reading A). w.outcome) h));
  opens = λ x t h. absurd (not_deep (ap (λ (w : Reading A). w.outcome) h));
  shallow = λ x t o h. subst (IsShallow d) (sym (nothing x t o h).0) (λ p q parts. absurd (no_parts p q parts));
}
  where
    wrong : (a : A) → ◌≡◌ {A = Result A Stop} (Err stop.Spent) (Ok a) → ⊥
    wrong a e = absurd (cc)

    not_deep : ◌≡◌ {A = Result A Stop} (Err stop.Spent) (Err stop.Deep) → ⊥
    not_deep e = absurd (cc)

    nothing : (x t : List ℕ) (o : Result A Stop) → stopped stop.Spent (x ++ t) ≡ left_at o t → (x ≡ []) × (o ≡ Err stop.Spent)
    nothing x t o h = (append_cancel_right x [] t (ap (λ (w : Reading A). w.left) h), sym (ap (λ (w : Reading A). w.outcome) h))

    no_parts : (p q : List ℕ) → [] ≡ p ++ (40 ∷ q) → ⊥
    no_parts [] q parts = absurd (cc)
    no_parts (c ∷ p) q parts = absurd (cc)

-- neither the word between two members nor what the members exclude
abbrev pub not_joined : (Option ℕ → Bool) → ℕ → Option ℕ → Bool
not_joined F byte o = F o && not (comes byte o)

pub more_no : {A : Type 0} (byte : ℕ) (a : A) (o : Option ℕ) → comes byte o ≡ false → more_of byte a o ≡ inl (a ∷ [])
more_no {A = A} byte a o e = ap (λ (b : Bool). chosen b) e
  where
    chosen : Bool → List A ⊎ (List A → List A)
    chosen b = if b then inr (λ others. a ∷ others) else inl (a ∷ [])

pub more_yes : {A : Type 0} (byte : ℕ) (a : A) (o : Option ℕ) → comes byte o ≡ true → more_of byte a o ≡ inr (λ others. a ∷ others)
more_yes {A = A} byte a o e = ap (λ (b : Bool). chosen b) e
  where
    chosen : Bool → List A ⊎ (List A → List A)
    chosen b = if b then inr (λ others. a ∷ others) else inl (a ∷ [])

left_or_right : {A : Type 0} (c : List A) (g : List A → List A) → ◌≡◌ {A = List A ⊎ (List A → List A)} (inl c) (inr g) → ⊥
left_or_right c g e = absurd (cc)

-- the next byte says whether there is more
pub more_ends : {A : Type 0} (byte : ℕ) (a : A) (o : Option ℕ) (c : List A) → more_of byte a o ≡ inl c → (comes byte o ≡ false) × (c ≡ a ∷ [])
more_ends {A = A} byte a o c h = by_next (comes byte o) refl
  where
    by_next : (b : Bool) → comes byte o ≡ b → (comes byte o ≡ false) × (c ≡ a ∷ [])
    by_next false e = (e, sym (same_inl (a ∷ []) c (sym (more_no byte a o e) ∙ h)))
    by_next true e = absurd (left_or_right c (λ others. a ∷ others) (sym h ∙ more_yes byte a o e))

pub more_goes : {A : Type 0} (byte : ℕ) (a : A) (o : Option ℕ) (g : List A → List A) → more_of byte a o ≡ inr g → (λ others. a ∷ others) ≡ g
more_goes {A = A} byte a o g h = by_next (comes byte o) refl
  where
    by_next : (b : Bool) → comes byte o ≡ b → (λ others. a ∷ others) ≡ g
    by_next false e = absurd (left_or_right (a ∷ []) g (sym (more_no byte a o e) ∙ h))
    by_next true e = inr_is (λ others. a ∷ others) g (sym (more_yes byte a o e) ∙ h)

pub more_fits : {A : Type 0} (byte : ℕ) (V : Language (List A)) (F : Option ℕ → Bool) (d : ℕ) → ((b : List A) (m t : List ℕ) → V b m t → first m ≡ Some byte) → F (Some byte) ≡ true → (byte == byte) ≡ true
    → Fits (more_of {A = A} byte) V F (not_joined F byte) (not_joined F byte) d d
more_fits {A = A} byte V F d begins allows same = record {
  follows = λ b m t h. ap F (begins b m t h) ∙ allows;
  leads = λ a b m t h. inl (λ others. a ∷ others, more_yes byte a (first m) (ap (comes byte) (begins b m t h) ∙ same));
  done = λ a o c h o2 may. let over = more_ends byte a o c h in let parts = and_parts (F o2) (not (comes byte o2)) may in
      (more_no byte a o2 (not-true (comes byte o2) parts.1) ∙ ap (λ (l : List A). inl l) (sym over.1), parts.0);
  after = λ o may. may;
  even = λ a o c h. refl;
}

abbrev Following : {A : Type 0} → List ℕ → Language A → Language (List A)
Following {A = A} word L = Both second (Says true word (tt {0})) (AreJoined word L)

linked_joined : {A : Type 0} (byte : ℕ) (word : List ℕ) (L : Language A) (xs : List A) (s t : List ℕ) → Linked (more_of byte) L (Following word L) xs s t → AreJoined word L xs s t
linked_joined byte word L xs s t (inl h) =
    subst (λ l. AreJoined word L l s t) (sym (more_ends byte h.value (first t) xs h.ends).1) (inl (refl, h.one))
linked_joined {A = A} byte word L xs s t (inr h) =
    let goes = more_goes byte h.value (first h.between) h.with_more h.goes in
    subst (λ l. AreJoined word L l s t) (sym (h.is ∙ (ap (λ (g : List A → List A). g h.more) (sym goes) ∙ ap (λ l. h.value ∷ l) h.two.is)))
    (inr (h.between, h.two.between, h.one, h.two.one.1, h.two.two))

joined_linked : {A : Type 0} (byte : ℕ) (others : List ℕ) (L : Language A) (xs : List A) (s t : List ℕ) → (byte == byte) ≡ true → comes byte (first t) ≡ false
    → AreJoined (byte ∷ others) L xs s t → Linked (more_of byte) L (Following (byte ∷ others) L) xs s t
joined_linked byte others L [] s t same over h = absurd (h)
joined_linked {A = A} byte others L (x ∷ xs) s t same over (inl h) = inl (record {
  value = x;
  one = h.1;
  ends = more_no byte x (first t) over ∙ ap (λ (l : List A). inl (x ∷ l)) (sym h.0);
})
joined_linked byte others L (x ∷ xs) s t same over (inr h) = inr (record {
  value = x;
  more = xs;
  with_more = λ ys. x ∷ ys;
  between = h.0;
  one = h.2;
  goes = more_yes byte x (first h.0) (ap (comes byte) (token_begins true byte others h.0 h.1 h.3) ∙ same);
  two = record { value = tt; more = xs; between = h.1; one = (refl, h.3); two = h.4; is = refl };
  is = refl;
})

pub joined_exact : {A : Type 0} (byte : ℕ) (others : List ℕ) (L W : Language A) (F : Option ℕ → Bool) (d N : ℕ) (r : Reader A) → Exact L W F d d N r
    → is_blank byte ≡ false → count 40 (byte ∷ others) ≡ 0 → count 41 (byte ∷ others) ≡ 0 → F (Some byte) ≡ true → (byte == byte) ≡ true → (n : ℕ) → n ≤ N
    → Exact (AreJoined (byte ∷ others) L) (AreJoined (byte ∷ others) W) (not_joined F byte) d d n (joined_at n byte (byte ∷ others) r)
joined_exact {A = A} byte others L W F d N r R tight opens closes allows same zero fewer =
    spent_exact (AreJoined (byte ∷ others) L) (AreJoined (byte ∷ others) W) (not_joined F byte) d
    (record {
      byte = R.some.byte;
      others = R.some.others;
      value = R.some.value ∷ [];
      tight = R.some.tight;
      ends = λ u may. inl (refl, R.some.ends u may);
    })
    (λ s t xs h. joined_wider (byte ∷ others) L W R.wide xs s t h)
joined_exact {A = A} byte others L W F d N r R tight opens closes allows same (suc n) fewer =
    retell (Linked (more_of byte) L (Following (byte ∷ others) L)) (Linked (more_of byte) W (Following (byte ∷ others) W))
    (AreJoined (byte ∷ others) L) (AreJoined (byte ∷ others) W) (not_joined F byte) (not_joined F byte) d d (suc n) (suc n)
    (joined_at (suc n) byte (byte ∷ others) r)
    (link_exact (more_of byte) r (both second (word_at (byte ∷ others) (tt {0})) (joined_at n byte (byte ∷ others) r)) L W
    (Following (byte ∷ others) L) (Following (byte ∷ others) W) F (not_joined F byte) (not_joined F byte) d d d (suc n) n
    (narrowed L W F F d d N (suc n) r R (λ o may. may) fewer)
    (both_exact second (word_at (byte ∷ others) (tt {0})) (joined_at n byte (byte ∷ others) r) (Says true (byte ∷ others) (tt {0})) (Says true (byte ∷ others) (tt {0}))
    (AreJoined (byte ∷ others) L) (AreJoined (byte ∷ others) W) any_next (not_joined F byte) d d d n
    (plain_token true byte others (tt {0}) any_next d n tight opens closes)
    (joined_exact byte others L W F d N r R tight opens closes allows same n (omega (arith, fewer)))
    (λ b m t h. refl))
    (more_fits byte (Following (byte ∷ others) W) F d (λ b m t h. token_begins true byte others m h.between h.one.1) allows same)
    (omega (arith)))
    (record {
      to = λ s t xs h. linked_joined byte (byte ∷ others) L xs s t h;
      from = λ s t xs may h. joined_linked byte others L xs s t same (not-true (comes byte (first t)) (and_parts (F (first t)) (not (comes byte (first t))) may).1) h;
      from_wide = λ s t xs may h. joined_linked byte others W xs s t same (not-true (comes byte (first t)) (and_parts (F (first t)) (not (comes byte (first t))) may).1) h;
      to_wide = λ s t xs h. linked_joined byte (byte ∷ others) W xs s t h;
      wide = λ s t xs h. joined_wider (byte ∷ others) L W R.wide xs s t h;
      allows = λ o may. may;
    })
    (omega (arith))

-- ---- parts

open_level : (d : ℕ) → IsLevel (suc d) d (40 ∷ [])
open_level d = omega (arith)

open_shallow : (d : ℕ) → IsShallow (suc d) (40 ∷ [])
open_shallow d p q parts = let sum = ap (count 40) parts ∙ count_append 40 p (40 ∷ q) in omega (arith, sum)

close_level : (d : ℕ) → IsLevel d (suc d) (41 ∷ [])
close_level d = omega (arith)

close_shallow : (d : ℕ) → IsShallow d (41 ∷ [])
close_shallow d p q parts = let sum = ap (count 40) parts ∙ count_append 40 p (40 ∷ q) in absurd (omega (arith, sum))

abbrev Closed : Language Cond → Language Cond
Closed I = Both earlier I (Says false (codes ")") (tt {0}))

abbrev Parentheses : Language Cond → Language Cond
Parentheses I = Both second (Says false (codes "(") (tt {0})) (Closed I)

says_parentheses : (I : Language Cond) (c : Cond) (s t : List ℕ) → Parentheses I c s t → IsInParentheses I c s t
says_parentheses I c s t h = record {
  opened = h.between;
  closed = h.two.between;
  opens = h.one.1;
  inner = subst (λ v. I v h.between h.two.between) (sym (h.is ∙ h.two.is)) h.two.one;
  closes = h.two.two.1;
}

parentheses_say : (I : Language Cond) (c : Cond) (s t : List ℕ) → IsInParentheses I c s t → Parentheses I c s t
parentheses_say I c s t h = record {
  value = tt;
  more = c;
  between = h.opened;
  one = (refl, h.opens);
  two = record { value = c; more = tt; between = h.closed; one = h.inner; two = (refl, h.closes); is = refl };
  is = refl;
}

pub parentheses_wider : (I J : Language Cond) → ((s t : List ℕ) (c : Cond) → I c s t → J c s t) → (c : Cond) (s t : List ℕ) → IsInParentheses I c s t → IsInParentheses J c s t
parentheses_wider I J wide c s t h = record { opened = h.opened; closed = h.closed; opens = h.opens; inner = wide h.opened h.closed c h.inner; closes = h.closes }

parentheses_exact : (I J : Language Cond) (F : Option ℕ → Bool) (d n : ℕ) (r : Reader Cond) → Exact I J F d d n r → F (Some 41) ≡ true
    → Exact (IsInParentheses I) (IsInParentheses J) not_dot (suc d) (suc d) n (in_parentheses r)
parentheses_exact I J F d n r R allows =
    retell (Parentheses I) (Parentheses J) (IsInParentheses I) (IsInParentheses J) any_next not_dot (suc d) (suc d) n n (in_parentheses r)
    (both_exact second (sign_at (codes "(") (tt {0})) (both earlier r (sign_at (codes ")") (tt {0}))) (Says false (codes "(") (tt {0})) (Says false (codes "(") (tt {0})) (Closed I) (Closed J) any_next any_next (suc d) d (suc d) n
    (token_exact false 40 [] (tt {0}) (suc d) d n refl (open_level d) (open_shallow d))
    (both_exact earlier r (sign_at (codes ")") (tt {0})) I J (Says false (codes ")") (tt {0})) (Says false (codes ")") (tt {0})) F any_next d d (suc d) n R
    (token_exact false 41 [] (tt {0}) d (suc d) n refl (close_level d) (close_shallow d))
    (λ b m t h. ap F (token_begins false 41 [] m t h.1) ∙ allows))
    (λ b m t h. refl))
    (record {
      to = λ s t c h. says_parentheses I c s t h;
      from = λ s t c may h. parentheses_say I c s t h;
      from_wide = λ s t c may h. parentheses_say J c s t h;
      to_wide = λ s t c h. says_parentheses J c s t h;
      wide = λ s t c h. parentheses_wider I J R.wide c s t h;
      allows = λ o may. refl;
    })
    (omega (arith))

letter_not_open : (byte : ℕ) → is_letter byte ≡ true → is_open (Some byte) ≡ false
letter_not_open byte e = by_open (byte == 40) refl
  where
    by_open : (b : Bool) → (byte == 40) ≡ b → b ≡ false
    by_open false e2 = refl
    by_open true e2 = let both = sym e ∙ ap is_letter (eqb-true byte 40 e2) in absurd (cc)

atom_begins : (c : Cond) (s t : List ℕ) → IsAtom c s t → is_open (first s) ≡ false
atom_begins c s t (inl h) = ap is_open (ap first h.1.begins)
atom_begins c s t (inr h) =
    let at = name_begins true h.issuer (codes "." ++ h.attr) s h.between h.claim.issuer_is
    (subst (λ l. Token true l s h.between) (append_assoc h.issuer (codes ".") h.attr) h.claim.word) in
    ap is_open at.1.0 ∙ letter_not_open at.0 at.1.1

parentheses_begin : (I : Language Cond) (c : Cond) (s t : List ℕ) → IsInParentheses I c s t → is_open (first s) ≡ true
parentheses_begin I c s t h = ap is_open (token_begins false 40 [] s h.opened h.opens)

part_wider : (I J : Language Cond) → ((s t : List ℕ) (c : Cond) → I c s t → J c s t) → (s t : List ℕ) (c : Cond) → IsMember I c s t → IsMember J c s t
part_wider I J wide s t c (inl h) = inl (parentheses_wider I J wide c s t h)
part_wider I J wide s t c (inr h) = inr h

conj_wider : (I J : Language Cond) → ((s t : List ℕ) (c : Cond) → I c s t → J c s t) → (s t : List ℕ) (c : Cond) → IsConj I c s t → IsConj J c s t
conj_wider I J wide s t c (members, is, h) = (members, is, joined_wider (codes "and") (IsMember I) (IsMember J) (part_wider I J wide) members s t h)

disj_wider : (I J : Language Cond) → ((s t : List ℕ) (c : Cond) → I c s t → J c s t) → (s t : List ℕ) (c : Cond) → IsDisj I c s t → IsDisj J c s t
disj_wider I J wide s t c (members, is, h) = (members, is, joined_wider (codes "or") (IsConj I) (IsConj J) (conj_wider I J wide) members s t h)

pub any_of : (depth : ℕ) (s t : List ℕ) (c : Cond) → IsCond depth c s t → AnyCond c s t
any_of depth s t c h = (depth, h)

-- ( true ), after which anything may come
some_parentheses : Ends (IsInParentheses AnyCond) (40 ∷ [])
some_parentheses = record {
  more = codes "true) ";
  value = cond.True;
  ends = λ u tight. record {
    opened = codes "true) " ++ u;
    closed = codes ") " ++ u;
    opens = record { after = codes "true) " ++ u; begins = refl; is_apart = refl; left_is = refl };
    inner = (1, (cond.True ∷ [], refl, inl (refl, (cond.True ∷ [], refl, inl (refl, inr (inl (refl, record { after = codes ") " ++ u; begins = refl; is_apart = refl; left_is = refl })))))));
    closes = record { after = codes " " ++ u; begins = refl; is_apart = refl; left_is = sym tight };
  };
}

no_parts_exact : (n : ℕ) (inner : Reader Cond) → Exact (IsMember (IsCond 0)) (IsMember AnyCond) not_dot 0 0 n (part_at 0 inner)
no_parts_exact n inner =
    retell IsAtom (Either (IsInParentheses AnyCond) IsAtom) (IsMember (IsCond 0)) (IsMember AnyCond) not_dot not_dot 0 0 n n (part_at 0 inner)
    (unopened_exact atom_at IsAtom IsAtom (IsInParentheses AnyCond) not_dot n (atom_exact 0 n)
    (record { opened = λ s t c h. parentheses_begin AnyCond c s t h; other = λ s t c h. atom_begins c s t h; some = some_parentheses }))
    (record {
      to = λ s t c h. inr h;
      from = λ s t c may h. from s t c h;
      from_wide = λ s t c may h. h;
      to_wide = λ s t c h. h;
      wide = part_wider (IsCond 0) AnyCond (any_of 0);
      allows = λ o may. may;
    })
    (omega (arith))
  where
    from : (s t : List ℕ) (c : Cond) → IsMember (IsCond 0) c s t → IsAtom c s t
    from s t c (inl h) = absurd (h.inner)
    from s t c (inr h) = h

parts_exact : (d n : ℕ) (F : Option ℕ → Bool) (inner : Reader Cond) → Exact (IsCond (suc d)) AnyCond F d d n inner → F (Some 41) ≡ true
    → Exact (IsMember (IsCond (suc d))) (IsMember AnyCond) not_dot (suc d) (suc d) n (part_at (suc d) inner)
parts_exact d n F inner R allows =
    choice_exact is_open (in_parentheses inner) atom_at (IsInParentheses (IsCond (suc d))) (IsInParentheses AnyCond) IsAtom IsAtom not_dot (suc d) (suc d) n
    (parentheses_exact (IsCond (suc d)) AnyCond F d n inner R allows)
    (atom_exact (suc d) n)
    (record { one = λ s t c h. parentheses_begin AnyCond c s t h; two = λ s t c h. atom_begins c s t h })

-- ---- conjunctions and disjunctions

abbrev pub after_conj : Option ℕ → Bool
after_conj = not_joined not_dot 97

abbrev pub after_cond : Option ℕ → Bool
after_cond = not_joined after_conj 111

image_conj : (I : Language Cond) (s t : List ℕ) (c : Cond) → Image and_of (AreJoined (codes "and") (IsMember I)) c s t → IsConj I c s t
image_conj I s t c h = (h.value, h.is, h.says)

conj_image : (I : Language Cond) (s t : List ℕ) (c : Cond) → IsConj I c s t → Image and_of (AreJoined (codes "and") (IsMember I)) c s t
conj_image I s t c (members, is, h) = record { value = members; is = is; says = h }

conj_exact : (I : Language Cond) (d n : ℕ) (inner : Reader Cond) → ((s t : List ℕ) (c : Cond) → I c s t → AnyCond c s t) → Exact (IsMember I) (IsMember AnyCond) not_dot d d n (part_at d inner)
    → Exact (IsConj I) (IsConj AnyCond) after_conj d d n (conj_at n d inner)
conj_exact I d n inner wide R =
    retell (Image and_of (AreJoined (codes "and") (IsMember I))) (Image and_of (AreJoined (codes "and") (IsMember AnyCond))) (IsConj I) (IsConj AnyCond) after_conj after_conj d d n n (conj_at n d inner)
    (mapped_exact and_of (AreJoined (codes "and") (IsMember I)) (AreJoined (codes "and") (IsMember AnyCond)) after_conj d d n (joined_at n 97 (codes "and") (part_at d inner))
    (joined_exact 97 (110 ∷ 100 ∷ []) (IsMember I) (IsMember AnyCond) not_dot d n (part_at d inner) R refl refl refl refl refl n (omega (arith))))
    (record {
      to = image_conj I;
      from = λ s t c may h. conj_image I s t c h;
      from_wide = λ s t c may h. conj_image AnyCond s t c h;
      to_wide = image_conj AnyCond;
      wide = conj_wider I AnyCond wide;
      allows = λ o may. may;
    })
    (omega (arith))

image_disj : (I : Language Cond) (s t : List ℕ) (c : Cond) → Image or_of (AreJoined (codes "or") (IsConj I)) c s t → IsDisj I c s t
image_disj I s t c h = (h.value, h.is, h.says)

disj_image : (I : Language Cond) (s t : List ℕ) (c : Cond) → IsDisj I c s t → Image or_of (AreJoined (codes "or") (IsConj I)) c s t
disj_image I s t c (members, is, h) = record { value = members; is = is; says = h }

any_disj : (s t : List ℕ) (c : Cond) → AnyCond c s t → IsDisj AnyCond c s t
any_disj s t c (zero, h) = absurd (h)
any_disj s t c (suc depth, h) = disj_wider (IsCond depth) AnyCond (any_of depth) s t c h

-- ---- one depth for all members

deeper : (d e : ℕ) → d ≤ e → (s t : List ℕ) (c : Cond) → IsCond d c s t → IsCond e c s t
deeper zero e le s t c h = absurd (h)
deeper (suc d) zero le s t c h = absurd (omega (arith, le))
deeper (suc d) (suc e) le s t c h = disj_wider (IsCond d) (IsCond e) (deeper d e (omega (arith, le))) s t c h

-- languages that grow with a number
abbrev Grows : {A : Type 0} → (ℕ → Language A) → Type 0
Grows {A = A} L = (d e : ℕ) → d ≤ e → (s t : List ℕ) (a : A) → L d a s t → L e a s t

joined_common : {A : Type 0} (word : List ℕ) (L : ℕ → Language A) → Grows L → (xs : List A) (s t : List ℕ) → AreJoined word (λ a s t. (n : ℕ) × L n a s t) xs s t → (n : ℕ) × AreJoined word (L n) xs s t
joined_common word L grows [] s t h = absurd (h)
joined_common word L grows (x ∷ xs) s t (inl h) = (h.1.0, inl (h.0, h.1.1))
joined_common word L grows (x ∷ xs) s t (inr (between, after, one, and, others)) =
    let rest = joined_common word L grows xs after t others in (
      one.0 + rest.0,
      inr (
        between,
        after,
        grows one.0 (one.0 + rest.0) (omega (arith)) s between x one.1,
        and,
        joined_wider word (L rest.0) (L (one.0 + rest.0)) (λ s t a k. grows rest.0 (one.0 + rest.0) (omega (arith)) s t a k) xs after t rest.1,
      ),
    )

parts_grow : Grows (λ n. IsMember (IsCond n))
parts_grow d e le s t c h = part_wider (IsCond d) (IsCond e) (deeper d e le) s t c h

conjs_grow : Grows (λ n. IsConj (IsCond n))
conjs_grow d e le s t c h = conj_wider (IsCond d) (IsCond e) (deeper d e le) s t c h

part_common : (s t : List ℕ) (c : Cond) → IsMember AnyCond c s t → (n : ℕ) × IsMember (IsCond n) c s t
part_common s t c (inl h) = (h.inner.0, inl (record { opened = h.opened; closed = h.closed; opens = h.opens; inner = h.inner.1; closes = h.closes }))
part_common s t c (inr h) = (0, inr h)

conj_common : (s t : List ℕ) (c : Cond) → IsConj AnyCond c s t → (n : ℕ) × IsConj (IsCond n) c s t
conj_common s t c (members, is, h) =
    let all = joined_common (codes "and") (λ n. IsMember (IsCond n)) parts_grow members s t
    (joined_wider (codes "and") (IsMember AnyCond) (λ c s t. (n : ℕ) × IsMember (IsCond n) c s t) part_common members s t h) in
    (all.0, (members, is, all.1))

disj_any : (s t : List ℕ) (c : Cond) → IsDisj AnyCond c s t → AnyCond c s t
disj_any s t c (members, is, h) =
    let all = joined_common (codes "or") (λ n. IsConj (IsCond n)) conjs_grow members s t
    (joined_wider (codes "or") (IsConj AnyCond) (λ c s t. (n : ℕ) × IsConj (IsCond n) c s t) conj_common members s t h) in
    (suc all.0, (members, is, all.1))

disj_exact : (d n : ℕ) (inner : Reader Cond) → Exact (IsMember (IsCond d)) (IsMember AnyCond) not_dot d d n (part_at d inner) → Exact (IsCond (suc d)) AnyCond after_cond d d n (disj_at n d inner)
disj_exact d n inner R =
    retell (Image or_of (AreJoined (codes "or") (IsConj (IsCond d)))) (Image or_of (AreJoined (codes "or") (IsConj AnyCond))) (IsCond (suc d)) AnyCond after_cond after_cond d d n n (disj_at n d inner)
    (mapped_exact or_of (AreJoined (codes "or") (IsConj (IsCond d))) (AreJoined (codes "or") (IsConj AnyCond)) after_cond d d n (joined_at n 111 (codes "or") (conj_at n d inner))
    (joined_exact 111 (114 ∷ []) (IsConj (IsCond d)) (IsConj AnyCond) after_conj d n (conj_at n d inner) (conj_exact (IsCond d) d n inner (any_of d) R) refl refl refl refl refl n (omega (arith))))
    (record {
      to = image_disj (IsCond d);
      from = λ s t c may h. disj_image (IsCond d) s t c h;
      from_wide = λ s t c may h. disj_image AnyCond s t c (any_disj s t c h);
      to_wide = λ s t c h. disj_any s t c (image_disj AnyCond s t c h);
      wide = any_of (suc d);
      allows = λ o may. may;
    })
    (omega (arith))

pub cond_exact : (fuel d : ℕ) → Exact (IsCond (suc d)) AnyCond after_cond d d fuel (cond_at fuel d)
cond_exact fuel zero = disj_exact 0 fuel (stopped stop.Deep) (no_parts_exact fuel (stopped stop.Deep))
cond_exact fuel (suc d) = disj_exact (suc d) fuel (cond_at fuel d) (parts_exact d fuel after_cond (cond_at fuel d) (cond_exact fuel d) refl)
