-- What a text of the grammar says is of the grammar.
use Rattle.std.proofs.lemmas.Bool.{and_from, and_parts}
use Rattle.std.proofs.Common.{◌≡◌, inl, inr, ℕ, zero, suc, ◌&&◌, nat_le, List, [], ◌∷◌, length, true, refl, ap, ◌∙◌, arith, codes}
use Rattle.std.specs.List.{list_all}
use Rattle.std.proofs.lemmas.Bool.Decides.{nat_tests}
use Rattle.tp_types.specs.declared.policy.Cond.{Cond}
use Rattle.tp_types.specs.declared.policy.Op.{Op}
use Rattle.tp_types.specs.declared.policy.Op.TheVariants as op
use Rattle.tp_types.specs.declared.policy.Pattern.{Pattern}
use Rattle.tp_types.specs.declared.policy.Pattern.TheVariants as pattern
use Rattle.tp_types.specs.declared.policy.Policy.{Policy}
use Rattle.tp_types.specs.declared.policy.Rule.{Rule}
use Rattle.tp_types.specs.declared.policy.Value.{Value}
use Rattle.tp_types.specs.declared.policy.Value.TheVariants as value
use Rattle.tp_types.specs.Spelling.{is_name}
use Rattle.tp_policy_text.specs.Grammar.{AnyCond, AreRules, IsAtom, IsCompared, IsCond, IsConj, IsDisj, IsMember, IsPattern, IsValue, AreJoined, Spells, and_of, or_of}
use Rattle.tp_policy_text.specs.Lexis.{skip}
use Rattle.tp_policy_text.specs.Printed.{IsOfGrammar, can_be_cond, can_be_pattern, can_be_rule, can_be_value, can_compare}
use Rattle.tp_policy_text.proofs.Exact.{Language}
use Rattle.tp_policy_text.proofs.PrintLemmas.{can_be_and, can_be_atom, can_be_or, can_be_true}
use Rattle.tp_policy_text.proofs.PrintedNumbers.{int_short}

value_can_be : (wanted : Value) (s t : List ℕ) → IsValue wanted s t → can_be_value wanted ≡ true
value_can_be (value.Number z) s t h = int_short h.text z h.spelled
value_can_be (value.Word name) s t h = h.spelled

compared_can_be : (compares : Op) (wanted : Value) (s t : List ℕ) → IsCompared compares wanted s t → (can_compare compares wanted ≡ true) × (can_be_value wanted ≡ true)
compared_can_be op.Equal wanted s t h = (refl, value_can_be wanted h.0 t h.2)
compared_can_be op.AtLeast (value.Number z) s t h = (refl, value_can_be (value.Number z) h.0 t h.2)
compared_can_be op.AtLeast (value.Word name) s t h = absurd (h)
compared_can_be op.AtMost (value.Number z) s t h = (refl, value_can_be (value.Number z) h.0 t h.2)
compared_can_be op.AtMost (value.Word name) s t h = absurd (h)

atom_can_be : (c : Cond) (s t : List ℕ) → IsAtom c s t → can_be_cond c ≡ true
atom_can_be c s t (inl h) = ap can_be_cond h.0 ∙ can_be_true
atom_can_be c s t (inr h) =
    let compared = compared_can_be h.compares h.wanted h.between t h.compared in
    ap can_be_cond h.says ∙ (can_be_atom h.issuer h.attr h.compares h.wanted
    ∙ and_from (is_name h.issuer && is_name h.attr && can_compare h.compares h.wanted) (can_be_value h.wanted)
    (and_from (is_name h.issuer && is_name h.attr) (can_compare h.compares h.wanted)
    (and_from (is_name h.issuer) (is_name h.attr) h.claim.issuer_is h.claim.attr_is) compared.0) compared.1)

-- ---- members

joined_can_be : (word : List ℕ) (L : Language Cond) → ((c : Cond) (s t : List ℕ) → L c s t → can_be_cond c ≡ true) → (members : List Cond) (s t : List ℕ) → AreJoined word L members s t → list_all can_be_cond members ≡ true
joined_can_be word L each [] s t h = absurd (h)
joined_can_be word L each (c ∷ cs) s t (inl h) =
    and_from (can_be_cond c) (list_all can_be_cond cs) (each c s t h.1) (ap (list_all can_be_cond) h.0)
joined_can_be word L each (c ∷ cs) s t (inr h) =
    and_from (can_be_cond c) (list_all can_be_cond cs) (each c s h.0 h.2) (joined_can_be word L each cs h.1 t h.4)

two_or_more : (n : ℕ) → nat_le 2 (suc (suc n)) ≡ true
two_or_more n = grind (arith, nat_tests)

-- I is what stands in parentheses
module _ (I : Language Cond) (each : (c : Cond) (s t : List ℕ) → I c s t → can_be_cond c ≡ true) where
  part_can_be : (c : Cond) (s t : List ℕ) → IsMember I c s t → can_be_cond c ≡ true
  part_can_be c s t (inl h) = each c h.opened h.closed h.inner
  part_can_be c s t (inr h) = atom_can_be c s t h

  conj_can_be : (c : Cond) (s t : List ℕ) → IsConj I c s t → can_be_cond c ≡ true
  conj_can_be c s t (members, is, h) = by_members members is (joined_can_be (codes "and") (IsMember I) part_can_be members s t h) h
    where
      by_members : (cs : List Cond) → c ≡ and_of cs → list_all can_be_cond cs ≡ true → AreJoined (codes "and") (IsMember I) cs s t → can_be_cond c ≡ true
      by_members [] e all j = absurd (j)
      by_members (m ∷ []) e all j = ap can_be_cond e ∙ (and_parts (can_be_cond m) true all).0
      by_members (m ∷ k ∷ cs) e all j = ap can_be_cond e ∙ (can_be_and (m ∷ k ∷ cs) ∙ and_from (nat_le 2 (length (m ∷ k ∷ cs))) (list_all can_be_cond (m ∷ k ∷ cs)) (two_or_more (length cs)) all)

  disj_can_be : (c : Cond) (s t : List ℕ) → IsDisj I c s t → can_be_cond c ≡ true
  disj_can_be c s t (members, is, h) = by_members members is (joined_can_be (codes "or") (IsConj I) conj_can_be members s t h) h
    where
      by_members : (cs : List Cond) → c ≡ or_of cs → list_all can_be_cond cs ≡ true → AreJoined (codes "or") (IsConj I) cs s t → can_be_cond c ≡ true
      by_members [] e all j = absurd (j)
      by_members (m ∷ []) e all j = ap can_be_cond e ∙ (and_parts (can_be_cond m) true all).0
      by_members (m ∷ k ∷ cs) e all j = ap can_be_cond e ∙ (can_be_or (m ∷ k ∷ cs) ∙ and_from (nat_le 2 (length (m ∷ k ∷ cs))) (list_all can_be_cond (m ∷ k ∷ cs)) (two_or_more (length cs)) all)

cond_can_be : (d : ℕ) (c : Cond) (s t : List ℕ) → IsCond d c s t → can_be_cond c ≡ true
cond_can_be zero c s t h = absurd (h)
cond_can_be (suc d) c s t h = disj_can_be (IsCond d) (cond_can_be d) c s t h

-- ---- rules

pattern_can_be : (about : Pattern) (s t : List ℕ) → IsPattern about s t → can_be_pattern about ≡ true
pattern_can_be pattern.All s t h = refl
pattern_can_be (pattern.Exact name) s t h = h.spelled
pattern_can_be (pattern.Prefix name) s t h = h.spelled

rules_can_be : (rules : List Rule) (s : List ℕ) → AreRules AnyCond rules s → list_all can_be_rule rules ≡ true
rules_can_be [] s h = refl
rules_can_be (rule ∷ rules) s (left, one, later) =
    and_from (can_be_rule rule) (list_all can_be_rule rules)
    (and_from (can_be_pattern rule.pattern) (can_be_cond rule.cond)
    (pattern_can_be rule.pattern one.about one.matched one.matching)
    (cond_can_be one.condition.0 rule.cond one.conditioned one.ended one.condition.1))
    (rules_can_be rules left later)

-- what a text says can be printed
pub spelled_of_grammar : (policy : Policy) (text : List ℕ) → Spells policy text → IsOfGrammar policy
spelled_of_grammar policy text h = rules_can_be policy.rules (skip text) h
