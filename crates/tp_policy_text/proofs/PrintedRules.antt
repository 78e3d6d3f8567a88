-- The printed form of a policy is a text that says it.
use Rattle.std.proofs.lemmas.Bool.{and_parts}
use Rattle.std.proofs.Common.{◌≡◌, ℕ, List, [], ◌∷◌, ◌++◌, true, Option, Some, None, refl, sym, ap, ◌∙◌, append_assoc, codes}
use Rattle.std.specs.List.{flat_map, list_all}
use Rattle.tp_types.specs.declared.policy.Action.{Action}
use Rattle.tp_types.specs.declared.policy.Action.TheVariants as action
use Rattle.tp_types.specs.declared.policy.Pattern.{Pattern}
use Rattle.tp_types.specs.declared.policy.Pattern.TheVariants as pattern
use Rattle.tp_types.specs.declared.policy.Policy.{Policy}
use Rattle.tp_types.specs.declared.policy.Rule.{Rule}
use Rattle.tp_policy_text.specs.Grammar.{AnyCond, AreRules, IsAction, IsPattern, IsRule, Spells}
use Rattle.tp_policy_text.specs.Lexis.{skip}
use Rattle.tp_policy_text.specs.Printed.{IsOfGrammar, action_text, can_be_cond, can_be_pattern, can_be_rule, cond_text, pattern_text, policy_text, rule_line}
use Rattle.tp_policy_text.proofs.PrintedAtoms.{Prints, name_tight, word_says}
use Rattle.tp_policy_text.proofs.PrintedConditions.{cond_prints}

action_prints : (acts : Option Action) → Prints IsAction acts (action_text acts)
action_prints (Some action.Read) = record { tight = λ r. refl; says = λ r free. word_says (codes "read") r free }
action_prints (Some action.Write) = record { tight = λ r. refl; says = λ r free. word_says (codes "write") r free }
action_prints None = record { tight = λ r. refl; says = λ r free. word_says (codes "any") r free }

pattern_prints : (about : Pattern) → can_be_pattern about ≡ true → Prints IsPattern about (pattern_text about)
pattern_prints pattern.All h = record { tight = λ r. refl; says = λ r free. record { after = r; begins = refl; is_apart = refl; left_is = refl } }
pattern_prints (pattern.Exact name) h = record { tight = λ r. name_tight name h r; says = λ r free. record { spelled = h; word = word_says name r free } }
pattern_prints (pattern.Prefix name) h = record {
  tight = λ r. ap skip (append_assoc name (42 ∷ []) r) ∙ (name_tight name h (42 ∷ r) ∙ sym (append_assoc name (42 ∷ []) r));
  says = λ r free. record { spelled = h; sign = record { after = r; begins = refl; is_apart = refl; left_is = refl } };
}

-- a rule's line from its `;`, its `if`, its pattern, its `on` and its action, and what stands behind the line
abbrev ended : List ℕ → List ℕ
ended r = 59 ∷ 10 ∷ r

abbrev from_if : Rule → List ℕ → List ℕ
from_if rule r = codes "if" ++ (32 ∷ (cond_text rule.cond ++ ended r))

abbrev from_pattern : Rule → List ℕ → List ℕ
from_pattern rule r = pattern_text rule.pattern ++ (32 ∷ from_if rule r)

abbrev from_on : Rule → List ℕ → List ℕ
from_on rule r = codes "on" ++ (32 ∷ from_pattern rule r)

abbrev from_action : Rule → List ℕ → List ℕ
from_action rule r = action_text rule.action ++ (32 ∷ from_on rule r)

rule_says : (rule : Rule) → can_be_rule rule ≡ true → (r : List ℕ) → IsRule AnyCond rule (rule_line rule ++ r) (skip r)
rule_says rule h r = record {
  allowed = from_action rule r;
  allow = record { after = 32 ∷ from_action rule r; begins = simp append_assoc; is_apart = refl; left_is = sym (acts.tight (32 ∷ from_on rule r)) };
  acted = from_on rule r;
  acts = acts.says (32 ∷ from_on rule r) refl;
  about = from_pattern rule r;
  on = record { after = 32 ∷ from_pattern rule r; begins = refl; is_apart = refl; left_is = sym (matches.tight (32 ∷ from_if rule r)) };
  matched = from_if rule r;
  matching = matches.says (32 ∷ from_if rule r) refl;
  conditioned = cond_text rule.cond ++ ended r;
  if_word = record { after = 32 ∷ (cond_text rule.cond ++ ended r); begins = refl; is_apart = refl; left_is = sym (condition.tight (ended r)) };
  ended = ended r;
  condition = condition.says (ended r) refl;
  ends = record { after = 10 ∷ r; begins = refl; is_apart = refl; left_is = refl };
}
  where
    tests : (can_be_pattern rule.pattern ≡ true) × (can_be_cond rule.cond ≡ true)
    tests = and_parts (can_be_pattern rule.pattern) (can_be_cond rule.cond) h

    acts : Prints IsAction rule.action (action_text rule.action)
    acts = action_prints rule.action

    matches : Prints IsPattern rule.pattern (pattern_text rule.pattern)
    matches = pattern_prints rule.pattern tests.0

    condition : Prints AnyCond rule.cond (cond_text rule.cond)
    condition = cond_prints rule.cond tests.1

rules_say : (rules : List Rule) → list_all can_be_rule rules ≡ true → AreRules AnyCond rules (skip (flat_map rule_line rules))
rules_say [] h = refl
rules_say (rule ∷ rules) h =
    let tests = and_parts (can_be_rule rule) (list_all can_be_rule rules) h in
    (skip (flat_map rule_line rules), rule_says rule tests.0 (flat_map rule_line rules), rules_say rules tests.1)

-- the printed form of a policy says it
pub printed_spells : (policy : Policy) → IsOfGrammar policy → Spells policy (policy_text policy)
printed_spells policy h = rules_say policy.rules h
