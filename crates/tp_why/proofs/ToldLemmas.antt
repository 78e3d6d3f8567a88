-- Each rule that is about the action on the item has an atom, where the policy does not allow the action and is of the
-- grammar.
use Rattle.std.proofs.Common.{◌≡◌, ℕ, ◌+◌, Bool, true, false, not, ◌||◌, nat_le, cond as if_so, List, [], ◌∷◌, ◌++◌, length, map, append_assoc, Option, Some, None, refl, ap, sym, subst, ◌∙◌, true≢false, arith}
use Rattle.std.proofs.lemmas.Bool.{and_from, and_parts, or_right}
use Rattle.std.proofs.lemmas.Bool.Decides.{nat_tests}
use Rattle.std.proofs.lemmas.List.Folds.{list_any-append}
use Rattle.std.specs.List.{list_all, list_any}
use Rattle.std.specs.Option.{option_or}
use Rattle.tp_types.proofs.ListLemmas.{number_itself}
use Rattle.tp_model.specs.Words.{Action, Cond, Policy, Rule}
use Rattle.tp_model.specs.Words.cond
use Rattle.tp_types.specs.declared.policy.Cond.{map-Cond, roll-Cond}
use Rattle.tp_types.specs.declared.policy.Cond.TheFolds.{fold-roll-Cond, ind-Cond}
use Rattle.tp_types.specs.declared.policy.Cond.TheOpen.{Cond-F, True, Atom, And, Or}
use Rattle.tp_model.specs.Policies.{Triple, allows, holds, matches, rule_allows}
use Rattle.tp_policy_text.specs.Printed.{IsOfGrammar, can_be_cond, can_be_pattern, can_be_rule}
use Rattle.tp_policy_text.proofs.PrintLemmas.{can_be_and, can_be_or}
use Rattle.tp_why.specs.declared.atoms.FalseAtom.{FalseAtom}
use Rattle.tp_why.specs.declared.atoms.Atom as atoms
use Rattle.tp_why.specs.Refutation.{all_cuts, atoms_from, cut, each_rule, first_cut, is_of_rule, is_rule_told, is_told, is_true, level, numbered, refutation, rule_atoms, under}
use Rattle.tp_why.proofs.CutLemmas.{and_others, cut_of_and, cut_of_atom, cut_of_or}
use Rattle.tp_why.proofs.RefutedLemmas.{Cuts, is_cut}

-- ---- no cut is empty

-- the condition, if it is of the grammar, is not cut to nothing
abbrev HasAtoms : List Triple → Cond → Type 0
HasAtoms held condition = can_be_cond condition ≡ true → cut held condition ≡ Some [] → ⊥

empty_front : (first more : List atoms.Atom) → ◌≡◌ {A = Option (List atoms.Atom)} (Some (first ++ more)) (Some []) → first ≡ []
empty_front [] more e = refl
empty_front (atom ∷ first) more e = cc

first_empty : (one others : Option (List atoms.Atom)) → and_others one others ≡ Some [] → one ≡ Some []
first_empty None others e = cc
first_empty (Some first) None e = cc
first_empty (Some first) (Some more) e = ap Some (empty_front first more e)

atom_not_empty : (atom : atoms.Atom) (truth : Bool) → ◌≡◌ {A = Option (List atoms.Atom)} (if_so truth None (Some (atom ∷ []))) (Some []) → ⊥
atom_not_empty atom true e = cc
atom_not_empty atom false e = cc

none_empty : ◌≡◌ {A = Option (List atoms.Atom)} None (Some []) → ⊥
none_empty e = cc

module _ (held : List Triple) where
  abbrev Member : Type 0
  Member = (c : Cond) × HasAtoms held c

  abbrev conditions : List Member → List Cond
  conditions members = map (λ e. e.0) members

  first_has : (members : List Member) → list_all can_be_cond (conditions members) ≡ true → first_cut (map (cut held) (conditions members)) ≡ Some [] → ⊥
  first_has [] all e = cc
  first_has (member ∷ members) all e =
      let parts = and_parts (can_be_cond member.0) (list_all can_be_cond (conditions members)) all in
      by_first (cut held member.0) (member.1 parts.0) (first_has members parts.1) e
    where
      by_first : (found : Option (List atoms.Atom)) → (found ≡ Some [] → ⊥) → (first_cut (map (cut held) (conditions members)) ≡ Some [] → ⊥)
          → option_or found (first_cut (map (cut held) (conditions members))) ≡ Some [] → ⊥
      by_first None here later e = later e
      by_first (Some cuts) here later e = here e

  all_have : (members : List Member) → nat_le 2 (length (conditions members)) ≡ true → list_all can_be_cond (conditions members) ≡ true
      → all_cuts (map (cut held) (conditions members)) ≡ Some [] → ⊥
  all_have [] many all e = true≢false (sym many ∙ grind (arith, nat_tests))
  all_have (member ∷ members) many all e =
      let parts = and_parts (can_be_cond member.0) (list_all can_be_cond (conditions members)) all in
      member.1 parts.0 (first_empty (cut held member.0) (all_cuts (map (cut held) (conditions members))) e)

  level_has : (y : Cond-F Member) → HasAtoms held (roll-Cond (map-Cond Member Cond (λ e. e.0) y))
  level_has True = λ can e. none_empty (sym (fold-roll-Cond (Option (List atoms.Atom)) (level held) True) ∙ e)
  level_has (Atom issuer attr compares wanted) =
      let atom : atoms.Atom = record { issuer = issuer; attr = attr; op = compares; wanted = wanted } in
      subst (HasAtoms held) (sym (cond.rolls-Atom issuer attr compares wanted))
      (λ can e. atom_not_empty atom (is_true held atom) (sym (cut_of_atom held issuer attr compares wanted) ∙ e))
  level_has (And members) =
      subst (HasAtoms held) (sym (cond.rolls-And (conditions members)))
      (λ can e.
      let parts = and_parts (nat_le 2 (length (conditions members))) (list_all can_be_cond (conditions members)) (sym (can_be_and (conditions members)) ∙ can) in
      first_has members parts.1 (sym (cut_of_and held (conditions members)) ∙ e))
  level_has (Or members) =
      subst (HasAtoms held) (sym (cond.rolls-Or (conditions members)))
      (λ can e.
      let parts = and_parts (nat_le 2 (length (conditions members))) (list_all can_be_cond (conditions members)) (sym (can_be_or (conditions members)) ∙ can) in
      all_have members parts.0 parts.1 (sym (cut_of_or held (conditions members)) ∙ e))

  has_atoms : (condition : Cond) → HasAtoms held condition
  has_atoms = ind-Cond (HasAtoms held) (λ x y is. subst (λ z. HasAtoms held (roll-Cond z)) is (level_has y))

-- ---- each rule

told_among : (number : ℕ) (atom : atoms.Atom) (cuts : List atoms.Atom) (front back : List FalseAtom)
    → list_any (is_of_rule number) (front ++ (map (numbered number) (atom ∷ cuts) ++ back)) ≡ true
told_among number atom cuts front back =
    list_any-append (is_of_rule number) front (map (numbered number) (atom ∷ cuts) ++ back)
    ∙ or_right (list_any (is_of_rule number) front) (list_any (is_of_rule number) (map (numbered number) (atom ∷ cuts) ++ back))
    (rw (number_itself number) refl)

told_where : (held : List Triple) (number : ℕ) (front back : List FalseAtom) (truth : Bool) (opens : (atoms.Atom → Bool) → Bool) (found : Option (List atoms.Atom))
    → truth ≡ false → Cuts held truth opens found → (found ≡ Some [] → ⊥) → list_any (is_of_rule number) (front ++ (under number found ++ back)) ≡ true
told_where held number front back truth opens None e cuts some = absurd (true≢false (sym cuts ∙ e))
told_where held number front back truth opens (Some []) e cuts some = absurd (some refl)
told_where held number front back truth opens (Some (atom ∷ others)) e cuts some = told_among number atom others front back

rule_told : (asked : Action) (item : List ℕ) (held : List Triple) (number : ℕ) (rule : Rule) (front back : List FalseAtom) (fits : Bool) → matches asked item rule ≡ fits
    → rule_allows asked item held rule ≡ false → can_be_cond rule.cond ≡ true
    → is_rule_told asked item (front ++ (if_so fits (under number (cut held rule.cond)) [] ++ back)) number rule ≡ true
rule_told asked item held number rule front back false e none can = rw e refl
rule_told asked item held number rule front back true e none can =
    let untrue : holds held rule.cond ≡ false = rw e at none in
    or_right (not (matches asked item rule)) (list_any (is_of_rule number) (front ++ (under number (cut held rule.cond) ++ back)))
    (told_where held number front back (holds held rule.cond) _ (cut held rule.cond) untrue (is_cut held rule.cond) (has_atoms held rule.cond can))

rules_told : (asked : Action) (item : List ℕ) (held : List Triple) (number : ℕ) (rules : List Rule) (front : List FalseAtom)
    → list_any (rule_allows asked item held) rules ≡ false → list_all can_be_rule rules ≡ true
    → each_rule (is_rule_told asked item (front ++ atoms_from (rule_atoms asked item held) number rules)) number rules ≡ true
rules_told asked item held number [] front none all = refl
rules_told asked item held number (rule ∷ rules) front none all =
    let later = atoms_from (rule_atoms asked item held) (number + 1) rules in
    let here = rule_atoms asked item held number rule in
    let first : rule_allows asked item held rule ≡ false = first_of_two (rule_allows asked item held rule) (list_any (rule_allows asked item held) rules) none in
    let others : list_any (rule_allows asked item held) rules ≡ false = second_of_two (rule_allows asked item held rule) (list_any (rule_allows asked item held) rules) none in
    let parts = and_parts (can_be_rule rule) (list_all can_be_rule rules) all in
    let own = and_parts (can_be_pattern rule.pattern) (can_be_cond rule.cond) parts.0 in
    let same : (front ++ here) ++ later ≡ front ++ (here ++ later) = append_assoc front here later in
    and_from (is_rule_told asked item (front ++ (here ++ later)) number rule) (each_rule (is_rule_told asked item (front ++ (here ++ later))) (number + 1) rules)
    (rule_told asked item held number rule front later (matches asked item rule) refl first own.1)
    (subst (λ entries. each_rule (is_rule_told asked item entries) (number + 1) rules ≡ true) same
    (rules_told asked item held (number + 1) rules (front ++ here) others parts.1))
  where
    first_of_two : (a b : Bool) → (a || b) ≡ false → a ≡ false
    first_of_two false b e = refl
    first_of_two true b e = absurd (true≢false e)

    second_of_two : (a b : Bool) → (a || b) ≡ false → b ≡ false
    second_of_two false b e = e
    second_of_two true b e = absurd (true≢false e)

pub told : (policy : Policy) (asked : Action) (item : List ℕ) (held : List Triple) → IsOfGrammar policy → allows policy asked item held ≡ false
    → is_told policy asked item (refutation policy asked item held) ≡ true
told policy asked item held of_grammar none = rules_told asked item held 1 policy.rules [] none of_grammar
