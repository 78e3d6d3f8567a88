-- The printed form of an atom says it.
use Rattle.std.proofs.lemmas.Bool.{and_parts}
use Rattle.std.proofs.Common.{◌≡◌, inl, inr, ℕ, ◌&&◌, List, [], ◌∷◌, ◌++◌, true, false, refl, sym, subst, arith, append_assoc, codes}
use Rattle.std.proofs.lemmas.Bool.Decides.{nat_tests}
use Rattle.tp_types.specs.declared.policy.Cond.TheVariants as cond
use Rattle.tp_types.specs.declared.policy.Op.{Op}
use Rattle.tp_types.specs.declared.policy.Op.TheVariants as op
use Rattle.tp_types.specs.declared.policy.Value.{Value}
use Rattle.tp_types.specs.declared.policy.Value.TheVariants as value
use Rattle.tp_types.specs.Spelling.{is_letter, is_name}
use Rattle.std.specs.Fmt.{signed_decimal}
use Rattle.tp_policy_text.specs.Grammar.{IsAtom, IsCompared, IsValue}
use Rattle.tp_policy_text.specs.Lexis.{Token, first, in_word, is_blank, skip}
use Rattle.tp_policy_text.specs.Printed.{atom_text, can_be_value, can_compare, op_text, value_text}
use Rattle.tp_policy_text.proofs.Exact.{Language}
use Rattle.tp_policy_text.proofs.Names.{name_parts}
use Rattle.tp_policy_text.proofs.PrintedNumbers.{int_tight, prints_int}
use Rattle.tp_policy_text.proofs.Texts.{IsTight, tight_byte}

-- the text says the value, where no letter, digit or `_` follows it, and begins with no blank
pub record Prints {A : Type 0} (L : Language A) (a : A) (text : List ℕ) : Type 0 where
  pub tight : (r : List ℕ) → IsTight (text ++ r)
  pub says : (r : List ℕ) → in_word (first r) ≡ false → L a (text ++ r) (skip r)

pub word_says : (token r : List ℕ) → in_word (first r) ≡ false → Token true token (token ++ r) (skip r)
word_says token r free = record { after = r; begins = refl; is_apart = free; left_is = refl }

letter_tight : (byte : ℕ) → is_letter byte ≡ true → is_blank byte ≡ false
letter_tight byte e = grind (arith, nat_tests)

pub name_tight : (name : List ℕ) → is_name name ≡ true → (r : List ℕ) → IsTight (name ++ r)
name_tight [] h r = absurd (cc)
name_tight (head ∷ others) h r = tight_byte head (others ++ r) (letter_tight head (name_parts head others h).letter)

pub value_prints : (wanted : Value) → can_be_value wanted ≡ true → Prints IsValue wanted (value_text wanted)
value_prints (value.Number z) h = record {
  tight = λ r. int_tight (signed_decimal z) z (prints_int z h) r;
  says = λ r free. record { text = signed_decimal z; spelled = prints_int z h; word = word_says (signed_decimal z) r free };
}
value_prints (value.Word name) h = record {
  tight = λ r. name_tight name h r;
  says = λ r free. record { spelled = h; word = word_says name r free };
}

op_tight : (compares : Op) (s : List ℕ) → op_text compares ++ s ≡ skip (op_text compares ++ s)
op_tight op.Equal s = refl
op_tight op.AtLeast s = refl
op_tight op.AtMost s = refl

compared_says : (compares : Op) (wanted : Value) → can_compare compares wanted ≡ true → can_be_value wanted ≡ true → (r : List ℕ) → in_word (first r) ≡ false
    → IsCompared compares wanted (op_text compares ++ (32 ∷ (value_text wanted ++ r))) (skip r)
compared_says op.Equal wanted may h r free =
    let is = value_prints wanted h in
    (value_text wanted ++ r, record { after = 32 ∷ (value_text wanted ++ r); begins = refl; is_apart = refl; left_is = sym (is.tight r) }, is.says r free)
compared_says op.AtLeast (value.Number z) may h r free =
    let is = value_prints (value.Number z) h in
    (signed_decimal z ++ r, record { after = 32 ∷ (signed_decimal z ++ r); begins = refl; is_apart = refl; left_is = sym (is.tight r) }, is.says r free)
compared_says op.AtLeast (value.Word name) may h r free = absurd (cc)
compared_says op.AtMost (value.Number z) may h r free =
    let is = value_prints (value.Number z) h in
    (signed_decimal z ++ r, record { after = 32 ∷ (signed_decimal z ++ r); begins = refl; is_apart = refl; left_is = sym (is.tight r) }, is.says r free)
compared_says op.AtMost (value.Word name) may h r free = absurd (cc)

pub true_prints : Prints IsAtom cond.True (codes "true")
true_prints = record { tight = λ r. refl; says = λ r free. inl (refl, word_says (codes "true") r free) }

pub atom_prints : (issuer attr : List ℕ) (compares : Op) (wanted : Value) → (is_name issuer && is_name attr && can_compare compares wanted && can_be_value wanted) ≡ true
    → Prints IsAtom (cond.Atom issuer attr compares wanted) (atom_text issuer attr compares wanted)
atom_prints issuer attr compares wanted h = record { tight = λ r. subst IsTight (sym (front r)) (name_tight issuer names.0 (46 ∷ (attr ++ later r))); says = says }
  where
    three : ((is_name issuer && is_name attr && can_compare compares wanted) ≡ true) × (can_be_value wanted ≡ true)
    three = and_parts (is_name issuer && is_name attr && can_compare compares wanted) (can_be_value wanted) h

    two : ((is_name issuer && is_name attr) ≡ true) × (can_compare compares wanted ≡ true)
    two = and_parts (is_name issuer && is_name attr) (can_compare compares wanted) three.0

    names : (is_name issuer ≡ true) × (is_name attr ≡ true)
    names = and_parts (is_name issuer) (is_name attr) two.0

    -- what stands behind the attribute
    later : List ℕ → List ℕ
    later r = 32 ∷ (op_text compares ++ (32 ∷ (value_text wanted ++ r)))

    front : (r : List ℕ) → atom_text issuer attr compares wanted ++ r ≡ issuer ++ (46 ∷ (attr ++ later r))
    front r = simp append_assoc

    says : (r : List ℕ) → in_word (first r) ≡ false → IsAtom (cond.Atom issuer attr compares wanted) (atom_text issuer attr compares wanted ++ r) (skip r)
    says r free = inr (record {
      issuer = issuer;
      attr = attr;
      compares = compares;
      wanted = wanted;
      says = refl;
      between = op_text compares ++ (32 ∷ (value_text wanted ++ r));
      claim = record {
        issuer_is = names.0;
        attr_is = names.1;
        word = record {
          after = 32 ∷ (op_text compares ++ (32 ∷ (value_text wanted ++ r)));
          begins = simp append_assoc;
          is_apart = refl;
          left_is = op_tight compares (32 ∷ (value_text wanted ++ r));
        };
      };
      compared = compared_says compares wanted two.1 three.1 r free;
    })
