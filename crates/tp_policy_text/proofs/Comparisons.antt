-- Atoms are read exactly.
use Rattle.std.proofs.Common.{◌≡◌, ◌⊎◌, inl, inr, ℕ, ◌==◌, ◌||◌, List, [], ◌∷◌, ◌++◌, Bool, true, false, Option, Some, None, refl, sym, ap, subst, ◌∙◌, arith, codes, ℤ}
use Rattle.std.proofs.lemmas.Bool.Decides.{nat_tests}
use Rattle.std.proofs.lemmas.List.{append-nil}
use Rattle.tp_types.specs.declared.policy.Cond.{Cond}
use Rattle.tp_types.specs.declared.policy.Cond.TheVariants as cond
use Rattle.tp_types.specs.declared.policy.Op.{Op}
use Rattle.tp_types.specs.declared.policy.Op.TheVariants as op
use Rattle.tp_types.specs.declared.policy.Value.{Value}
use Rattle.tp_types.specs.declared.policy.Value.TheVariants as value
use Rattle.tp_types.specs.Spelling.{is_digit, is_letter, is_number}
use Rattle.tp_policy_text.specs.Grammar.{Int, IsAtom, IsCompared, IsInt, IsValue, IsWholeName}
use Rattle.tp_policy_text.specs.Lexis.{Token, Word, first}
use Rattle.tp_policy_text.specs.mirrors.Readers.{Compared, Head, atom_at, atom_of, begins_int, both, comes, compared_at, head_at, int_at, name_at, sign_at, value_at, with_number, with_op}
use Rattle.tp_policy_text.specs.mirrors.Readings.{choice, mapped}
use Rattle.tp_policy_text.proofs.Choices.{Either, choice_exact, retell}
use Rattle.tp_policy_text.proofs.Exact.{Exact, Language}
use Rattle.tp_policy_text.proofs.Heads.{IsHead, head_exact, not_dot}
use Rattle.tp_policy_text.proofs.Images.{Image, mapped_exact}
use Rattle.tp_policy_text.proofs.Leaves.{any_next}
use Rattle.tp_policy_text.proofs.Links.{Fits, Leads, Linked, link_exact}
use Rattle.tp_policy_text.proofs.Names.{name_exact}
use Rattle.tp_policy_text.proofs.Numbers.{int_exact, number_parts}
use Rattle.tp_policy_text.proofs.Patterns.{name_begins, token_begins}
use Rattle.tp_policy_text.proofs.Sequences.{Both, both_exact, inr_is}
use Rattle.tp_policy_text.proofs.Tokens.{Says, plain_token}

-- ---- values

abbrev Numbers : Language Value
Numbers = Image value.Number Int

abbrev Names : Language Value
Names = Image value.Word IsWholeName

value_says : (v : Value) (s t : List ℕ) → Either Numbers Names v s t → IsValue v s t
value_says v s t (inl h) = subst (λ w. IsValue w s t) (sym h.is) h.says
value_says v s t (inr h) = subst (λ w. IsValue w s t) (sym h.is) h.says

says_value : (v : Value) (s t : List ℕ) → IsValue v s t → Either Numbers Names v s t
says_value (value.Number z) s t h = inl (record { value = z; is = refl; says = h })
says_value (value.Word name) s t h = inr (record { value = name; is = refl; says = h })

digit_begins : (byte : ℕ) → is_digit byte ≡ true → begins_int (Some byte) ≡ true
digit_begins byte e = ap (λ (b : Bool). b || (byte == 45)) e

int_begins : (z : ℤ) (s t : List ℕ) → Int z s t → begins_int (first s) ≡ true
int_begins z s t h = by_spelling h.text h.spelled h.word
  where
    by_number : (text : List ℕ) → is_number text ≡ true → Word text s t → begins_int (first s) ≡ true
    by_number [] e w = absurd (cc)
    by_number (head ∷ others) e w = ap begins_int (ap first w.begins) ∙ digit_begins head (number_parts head others e).digit

    by_spelling : (text : List ℕ) → IsInt text z → Word text s t → begins_int (first s) ≡ true
    by_spelling text (inl k) w = by_number text k.digits w
    by_spelling text (inr k) w = ap begins_int (ap first (w.begins ∙ ap (λ l. l ++ w.after) k.signed))

letter_begins : (byte : ℕ) → is_letter byte ≡ true → begins_int (Some byte) ≡ false
letter_begins byte e = by_int (begins_int (Some byte)) refl
  where
    wrong : (n : ℕ) → is_letter n ≡ true → (is_digit n || (n == 45)) ≡ true → ⊥
    wrong n e2 e3 = grind (arith, nat_tests)

    by_int : (b : Bool) → begins_int (Some byte) ≡ b → b ≡ false
    by_int false e2 = refl
    by_int true e2 = absurd (wrong byte e e2)

named_begins : (name s t : List ℕ) → IsWholeName name s t → begins_int (first s) ≡ false
named_begins name s t h =
    let at = name_begins true name [] s t h.spelled (subst (λ l. Token true l s t) (sym (append-nil name)) h.word) in
    ap begins_int at.1.0 ∙ letter_begins at.0 at.1.1

pub value_exact : (d n : ℕ) → Exact IsValue IsValue any_next d d n value_at
value_exact d n =
    retell (Either Numbers Names) (Either Numbers Names) IsValue IsValue any_next any_next d d n n value_at
    (choice_exact begins_int (λ s. mapped value.Number (int_at s)) (λ s. mapped value.Word (name_at s)) Numbers Numbers Names Names any_next d d n
    (mapped_exact value.Number Int Int any_next d d n int_at (int_exact d n))
    (mapped_exact value.Word IsWholeName IsWholeName any_next d d n name_at (name_exact d n))
    (record {
      one = λ s t a h. int_begins h.value s t h.says;
      two = λ s t a h. named_begins h.value s t h.says;
    }))
    (record {
      to = λ s t a h. value_says a s t h;
      from = λ s t a may h. says_value a s t h;
      from_wide = λ s t a may h. says_value a s t h;
      to_wide = λ s t a h. value_says a s t h;
      wide = λ s t a h. h;
      allows = λ o may. refl;
    })
    (omega (arith))

-- ---- an operator with what it compares to

abbrev pub IsComparedBy : Compared → List ℕ → List ℕ → Type 0
IsComparedBy c s t = IsCompared c.op c.wanted s t

abbrev Equals : Language Compared
Equals = Both with_op (Says false (codes "=") op.Equal) IsValue

abbrev AtLeasts : Language Compared
AtLeasts = Both with_number (Says false (codes ">=") op.AtLeast) Int

abbrev AtMosts : Language Compared
AtMosts = Both with_number (Says false (codes "<=") op.AtMost) Int

abbrev Comparing : Language Compared
Comparing = Either Equals (Either AtLeasts AtMosts)

comparing_says : (c : Compared) (s t : List ℕ) → Comparing c s t → IsComparedBy c s t
comparing_says c s t (inl h) = subst (λ v. IsComparedBy v s t) (sym (h.is ∙ ap (λ o. with_op o h.more) h.one.0)) (h.between, h.one.1, h.two)
comparing_says c s t (inr (inl h)) = subst (λ v. IsComparedBy v s t) (sym (h.is ∙ ap (λ o. with_number o h.more) h.one.0)) (h.between, h.one.1, h.two)
comparing_says c s t (inr (inr h)) = subst (λ v. IsComparedBy v s t) (sym (h.is ∙ ap (λ o. with_number o h.more) h.one.0)) (h.between, h.one.1, h.two)

says_by : (compares : Op) (wanted : Value) (s t : List ℕ) → IsCompared compares wanted s t → Comparing (with_op compares wanted) s t
says_by op.Equal v s t h = inl (record { value = op.Equal; more = v; between = h.0; one = (refl, h.1); two = h.2; is = refl })
says_by op.AtLeast (value.Number z) s t h = inr (inl (record { value = op.AtLeast; more = z; between = h.0; one = (refl, h.1); two = h.2; is = refl }))
says_by op.AtMost (value.Number z) s t h = inr (inr (record { value = op.AtMost; more = z; between = h.0; one = (refl, h.1); two = h.2; is = refl }))
says_by op.AtLeast (value.Word name) s t h = absurd (h)
says_by op.AtMost (value.Word name) s t h = absurd (h)

pub compared_exact : (d n : ℕ) → Exact IsComparedBy IsComparedBy any_next d d n compared_at
compared_exact d n =
    retell Comparing Comparing IsComparedBy IsComparedBy any_next any_next d d n n compared_at
    (choice_exact (comes 61) (both with_op (sign_at (codes "=") op.Equal) value_at)
    (choice (comes 62) (both with_number (sign_at (codes ">=") op.AtLeast) int_at) (both with_number (sign_at (codes "<=") op.AtMost) int_at))
    Equals Equals (Either AtLeasts AtMosts) (Either AtLeasts AtMosts) any_next d d n
    (both_exact with_op (sign_at (codes "=") op.Equal) value_at (Says false (codes "=") op.Equal) (Says false (codes "=") op.Equal) IsValue IsValue any_next any_next d d d n
    (plain_token false 61 [] op.Equal any_next d n refl refl refl) (value_exact d n) (λ b m t h. refl))
    (choice_exact (comes 62) (both with_number (sign_at (codes ">=") op.AtLeast) int_at) (both with_number (sign_at (codes "<=") op.AtMost) int_at)
    AtLeasts AtLeasts AtMosts AtMosts any_next d d n
    (both_exact with_number (sign_at (codes ">=") op.AtLeast) int_at (Says false (codes ">=") op.AtLeast) (Says false (codes ">=") op.AtLeast) Int Int any_next any_next d d d n
    (plain_token false 62 (61 ∷ []) op.AtLeast any_next d n refl refl refl) (int_exact d n) (λ b m t h. refl))
    (both_exact with_number (sign_at (codes "<=") op.AtMost) int_at (Says false (codes "<=") op.AtMost) (Says false (codes "<=") op.AtMost) Int Int any_next any_next d d d n
    (plain_token false 60 (61 ∷ []) op.AtMost any_next d n refl refl refl) (int_exact d n) (λ b m t h. refl))
    (record {
      one = λ s t a h. ap (comes 62) (token_begins false 62 (61 ∷ []) s h.between h.one.1);
      two = λ s t a h. ap (comes 62) (token_begins false 60 (61 ∷ []) s h.between h.one.1);
    }))
    (record {
      one = λ s t a h. ap (comes 61) (token_begins false 61 [] s h.between h.one.1);
      two = λ s t a h. other_begins a s t h;
    }))
    (record {
      to = λ s t a h. comparing_says a s t h;
      from = λ s t a may h. says_by a.op a.wanted s t h;
      from_wide = λ s t a may h. says_by a.op a.wanted s t h;
      to_wide = λ s t a h. comparing_says a s t h;
      wide = λ s t a h. h;
      allows = λ o may. refl;
    })
    (omega (arith))
  where
    other_begins : (a : Compared) (s t : List ℕ) → Either AtLeasts AtMosts a s t → comes 61 (first s) ≡ false
    other_begins a s t (inl h) = ap (comes 61) (token_begins false 62 (61 ∷ []) s h.between h.one.1)
    other_begins a s t (inr h) = ap (comes 61) (token_begins false 60 (61 ∷ []) s h.between h.one.1)

-- ---- atoms

compared_begins : (compares : Op) (wanted : Value) (s t : List ℕ) → IsCompared compares wanted s t → not_dot (first s) ≡ true
compared_begins op.Equal v s t h = ap not_dot (token_begins false 61 [] s h.0 h.1)
compared_begins op.AtLeast (value.Number z) s t h = ap not_dot (token_begins false 62 (61 ∷ []) s h.0 h.1)
compared_begins op.AtMost (value.Number z) s t h = ap not_dot (token_begins false 60 (61 ∷ []) s h.0 h.1)
compared_begins op.AtLeast (value.Word name) s t h = absurd (h)
compared_begins op.AtMost (value.Word name) s t h = absurd (h)

pub same_inl : {C : Type 0} {B : Type 0} (a b : C) → ◌≡◌ {A = C ⊎ (B → C)} (inl a) (inl b) → a ≡ b
same_inl {C = C} {B = B} a b e = ap value_of e
  where
    value_of : C ⊎ (B → C) → C
    value_of (inl c) = c
    value_of (inr g) = a

atom_fits : (d : ℕ) → Fits atom_of IsComparedBy not_dot any_next not_dot d d
atom_fits d = record {
  follows = λ b m t h. compared_begins b.op b.wanted m t h;
  leads = λ a b m t h. leads a (first m);
  done = done;
  after = λ o may. refl;
  even = λ a o c h. refl;
}
  where
    leads : (a : Option Head) (o : Option ℕ) → Leads atom_of a o
    leads None o = inr (cond.True, λ o2. refl)
    leads (Some head) o = inl (_, refl)

    done : (a : Option Head) (o : Option ℕ) (c : Cond) → atom_of a o ≡ inl c → (o2 : Option ℕ) → not_dot o2 ≡ true → (atom_of a o2 ≡ inl c) × (not_dot o2 ≡ true)
    done None o c h o2 may = (h, may)
    done (Some head) o c h o2 may = absurd (wrong h)
      where
        wrong : {g : Compared → Cond} → ◌≡◌ {A = Cond ⊎ (Compared → Cond)} (inr g) (inl c) → ⊥
        wrong e = absurd (cc)

linked_atom : (c : Cond) (s t : List ℕ) → Linked atom_of IsHead IsComparedBy c s t → IsAtom c s t
linked_atom c s t (inl h) = by_head h.value h.one h.ends
  where
    by_head : (a : Option Head) → IsHead a s t → atom_of a (first t) ≡ inl c → IsAtom c s t
    by_head None one ends = inl (sym (same_inl {B = Compared} cond.True c ends), one)
    by_head (Some head) one ends = absurd (cc)
linked_atom c s t (inr h) = by_head h.value h.one h.goes
  where
    by_attr : (issuer : List ℕ) (attr : Option (List ℕ)) → IsHead (Some (record { issuer = issuer; attr = attr })) s h.between
        → atom_of (Some (record { issuer = issuer; attr = attr })) (first h.between) ≡ inr h.with_more → IsAtom c s t
    by_attr issuer None one goes = absurd (one)
    by_attr issuer (Some attr) one goes = inr (record {
      issuer = issuer;
      attr = attr;
      compares = h.more.op;
      wanted = h.more.wanted;
      says = h.is ∙ ap (λ (g : Compared → Cond). g h.more) (sym (inr_is (λ (compared : Compared). cond.Atom issuer attr compared.op compared.wanted) h.with_more goes));
      between = h.between;
      claim = one;
      compared = h.two;
    })

    by_head : (a : Option Head) → IsHead a s h.between → atom_of a (first h.between) ≡ inr h.with_more → IsAtom c s t
    by_head None one goes = absurd (cc)
    by_head (Some head) one goes = by_attr head.issuer head.attr one goes

atom_linked : (c : Cond) (s t : List ℕ) → IsAtom c s t → Linked atom_of IsHead IsComparedBy c s t
atom_linked c s t (inl h) = inl (record { value = None; one = h.1; ends = ap (λ (v : Cond). inl v) (sym h.0) })
atom_linked c s t (inr h) = inr (record {
  value = Some (record { issuer = h.issuer; attr = Some h.attr });
  more = record { op = h.compares; wanted = h.wanted };
  with_more = λ compared. cond.Atom h.issuer h.attr compared.op compared.wanted;
  between = h.between;
  one = h.claim;
  goes = refl;
  two = h.compared;
  is = h.says;
})

pub atom_exact : (d n : ℕ) → Exact IsAtom IsAtom not_dot d d n atom_at
atom_exact d n =
    retell (Linked atom_of IsHead IsComparedBy) (Linked atom_of IsHead IsComparedBy) IsAtom IsAtom not_dot not_dot d d n n atom_at
    (link_exact atom_of head_at compared_at IsHead IsHead IsComparedBy IsComparedBy not_dot any_next not_dot d d d n n (head_exact d n) (compared_exact d n) (atom_fits d) (omega (arith)))
    (record {
      to = λ s t a h. linked_atom a s t h;
      from = λ s t a may h. atom_linked a s t h;
      from_wide = λ s t a may h. atom_linked a s t h;
      to_wide = λ s t a h. linked_atom a s t h;
      wide = λ s t a h. h;
      allows = λ o may. may;
    })
    (omega (arith))
