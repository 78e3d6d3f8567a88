-- Rules are read exactly.
use Rattle.std.proofs.lemmas.Bool.{and_parts, not-true}
use Rattle.std.proofs.Common.{◌≡◌, ◌⊎◌, inl, inr, ℕ, zero, suc, ◌≤◌, not, List, [], ◌∷◌, Bool, true, false, Option, Some, None, refl, sym, ap, subst, ◌∙◌, arith, codes}
use Rattle.tp_types.specs.declared.policy.Action.{Action}
use Rattle.tp_types.specs.declared.policy.Action.TheVariants as action
use Rattle.tp_types.specs.declared.policy.Cond.{Cond}
use Rattle.tp_types.specs.declared.policy.Rule.{Rule}
use Rattle.tp_policy_text.specs.Grammar.{AnyCond, IsAction, IsCond, IsPattern, IsRule}
use Rattle.tp_policy_text.specs.Lexis.{first}
use Rattle.tp_policy_text.specs.declared.production.Permitted.{Permitted}
use Rattle.tp_policy_text.specs.mirrors.Readers.{action_at, both, comes, cond_at, earlier, more_of, pattern_at, permitted, permitted_at, rule_at, rule_of, rules_at, second, sign_at, word_at}
use Rattle.tp_policy_text.specs.mirrors.Readings.{choice}
use Rattle.tp_policy_text.proofs.Choices.{Either, choice_exact, retell}
use Rattle.tp_policy_text.proofs.Conditions.{after_cond, any_of, cond_exact, more_ends, more_fits, more_goes, more_no, more_yes, not_joined, spent_exact}
use Rattle.tp_policy_text.proofs.Exact.{Exact, Language}
use Rattle.tp_policy_text.proofs.Leaves.{any_next}
use Rattle.tp_policy_text.proofs.Links.{Linked, link_exact}
use Rattle.tp_policy_text.proofs.Patterns.{not_star, pattern_exact, token_begins}
use Rattle.tp_policy_text.proofs.Sequences.{Both, both_exact, narrowed}
use Rattle.tp_policy_text.proofs.Tokens.{Says, plain_token}

-- ---- actions

abbrev Reads : Language (Option Action)
Reads = Says true (codes "read") (Some action.Read)

abbrev Writes : Language (Option Action)
Writes = Says true (codes "write") (Some action.Write)

abbrev Anys : Language (Option Action)
Anys = Says true (codes "any") None

says_action : (s t : List ℕ) (a : Option Action) → Either Reads (Either Writes Anys) a s t → IsAction a s t
says_action s t a (inl h) = subst (λ v. IsAction v s t) (sym h.0) h.1
says_action s t a (inr (inl h)) = subst (λ v. IsAction v s t) (sym h.0) h.1
says_action s t a (inr (inr h)) = subst (λ v. IsAction v s t) (sym h.0) h.1

action_says : (s t : List ℕ) (a : Option Action) → IsAction a s t → Either Reads (Either Writes Anys) a s t
action_says s t (Some action.Read) h = inl (refl, h)
action_says s t (Some action.Write) h = inr (inl (refl, h))
action_says s t None h = inr (inr (refl, h))

action_exact : (d n : ℕ) → Exact IsAction IsAction any_next d d n action_at
action_exact d n =
    retell (Either Reads (Either Writes Anys)) (Either Reads (Either Writes Anys)) IsAction IsAction any_next any_next d d n n action_at
    (choice_exact (comes 114) (word_at (codes "read") (Some action.Read)) (choice (comes 119) (word_at (codes "write") (Some action.Write)) (word_at (codes "any") None))
    Reads Reads (Either Writes Anys) (Either Writes Anys) any_next d d n
    (plain_token true 114 (101 ∷ 97 ∷ 100 ∷ []) (Some action.Read) any_next d n refl refl refl)
    (choice_exact (comes 119) (word_at (codes "write") (Some action.Write)) (word_at (codes "any") None) Writes Writes Anys Anys any_next d d n
    (plain_token true 119 (114 ∷ 105 ∷ 116 ∷ 101 ∷ []) (Some action.Write) any_next d n refl refl refl)
    (plain_token true 97 (110 ∷ 121 ∷ []) None any_next d n refl refl refl)
    (record {
      one = λ s t a h. ap (comes 119) (token_begins true 119 (114 ∷ 105 ∷ 116 ∷ 101 ∷ []) s t h.1);
      two = λ s t a h. ap (comes 119) (token_begins true 97 (110 ∷ 121 ∷ []) s t h.1);
    }))
    (record {
      one = λ s t a h. ap (comes 114) (token_begins true 114 (101 ∷ 97 ∷ 100 ∷ []) s t h.1);
      two = λ s t a h. other_begins s t a h;
    }))
    (record {
      to = says_action;
      from = λ s t a may h. action_says s t a h;
      from_wide = λ s t a may h. action_says s t a h;
      to_wide = says_action;
      wide = λ s t a h. h;
      allows = λ o may. refl;
    })
    (omega (arith))
  where
    other_begins : (s t : List ℕ) (a : Option Action) → Either Writes Anys a s t → comes 114 (first s) ≡ false
    other_begins s t a (inl h) = ap (comes 114) (token_begins true 119 (114 ∷ 105 ∷ 116 ∷ 101 ∷ []) s t h.1)
    other_begins s t a (inr h) = ap (comes 114) (token_begins true 97 (110 ∷ 121 ∷ []) s t h.1)

-- ---- one rule

abbrev Ifs : Language Cond → Language Cond
Ifs C = Both second (Says true (codes "if") (tt {0})) (Both earlier C (Says false (codes ";") (tt {0})))

abbrev Permits : Language Cond → Language Permitted
Permits C = Both permitted IsPattern (Ifs C)

abbrev Ons : Language Cond → Language Permitted
Ons C = Both second (Says true (codes "on") (tt {0})) (Permits C)

abbrev Allows : Language Cond → Language Rule
Allows C = Both second (Says true (codes "allow") (tt {0})) (Both rule_of IsAction (Ons C))

allows_rule : (C : Language Cond) (s t : List ℕ) (rule : Rule) → Allows C rule s t → IsRule C rule s t
allows_rule C s t rule h =
    let after = h.two in
    let on = after.two in
    let permits = on.two in
    let condition = permits.two in
    let ends = condition.two in
    subst (λ r. IsRule C r s t) (sym (h.is ∙ (after.is ∙ ap (λ p. rule_of after.value p) (on.is ∙ (permits.is ∙ ap (λ c. permitted permits.value c) (condition.is ∙ ends.is))))))
    (record {
      allowed = h.between;
      allow = h.one.1;
      acted = after.between;
      acts = after.one;
      about = on.between;
      on = on.one.1;
      matched = permits.between;
      matching = permits.one;
      conditioned = condition.between;
      if_word = condition.one.1;
      ended = ends.between;
      condition = ends.one;
      ends = ends.two.1;
    })

rule_allows : (C : Language Cond) (s t : List ℕ) (rule : Rule) → IsRule C rule s t → Allows C rule s t
rule_allows C s t rule h = record {
  value = tt;
  more = rule;
  between = h.allowed;
  one = (refl, h.allow);
  two = record {
    value = rule.action;
    more = permitted rule.pattern rule.cond;
    between = h.acted;
    one = h.acts;
    two = record {
      value = tt;
      more = permitted rule.pattern rule.cond;
      between = h.about;
      one = (refl, h.on);
      two = record {
        value = rule.pattern;
        more = rule.cond;
        between = h.matched;
        one = h.matching;
        two = record {
          value = tt;
          more = rule.cond;
          between = h.conditioned;
          one = (refl, h.if_word);
          two = record { value = rule.cond; more = tt; between = h.ended; one = h.condition; two = (refl, h.ends); is = refl };
          is = refl;
        };
        is = refl;
      };
      is = refl;
    };
    is = refl;
  };
  is = refl;
}

pub rule_wider : (C D : Language Cond) → ((s t : List ℕ) (c : Cond) → C c s t → D c s t) → (s t : List ℕ) (rule : Rule) → IsRule C rule s t → IsRule D rule s t
rule_wider C D wide s t rule h = record {
  allowed = h.allowed;
  allow = h.allow;
  acted = h.acted;
  acts = h.acts;
  about = h.about;
  on = h.on;
  matched = h.matched;
  matching = h.matching;
  conditioned = h.conditioned;
  if_word = h.if_word;
  ended = h.ended;
  condition = wide h.conditioned h.ended rule.cond h.condition;
  ends = h.ends;
}

pub rule_exact : (fuel d : ℕ) → Exact (IsRule (IsCond (suc d))) (IsRule AnyCond) any_next d d fuel (rule_at fuel d)
rule_exact fuel d =
    retell (Allows (IsCond (suc d))) (Allows AnyCond) (IsRule (IsCond (suc d))) (IsRule AnyCond) any_next any_next d d fuel fuel (rule_at fuel d)
    (both_exact second (word_at (codes "allow") (tt {0})) (both rule_of action_at (both second (word_at (codes "on") (tt {0})) (permitted_at fuel d)))
    (Says true (codes "allow") (tt {0})) (Says true (codes "allow") (tt {0})) (Both rule_of IsAction (Ons (IsCond (suc d)))) (Both rule_of IsAction (Ons AnyCond)) any_next any_next d d d fuel
    (plain_token true 97 (108 ∷ 108 ∷ 111 ∷ 119 ∷ []) (tt {0}) any_next d fuel refl refl refl)
    (both_exact rule_of action_at (both second (word_at (codes "on") (tt {0})) (permitted_at fuel d)) IsAction IsAction (Ons (IsCond (suc d))) (Ons AnyCond) any_next any_next d d d fuel
    (action_exact d fuel)
    (both_exact second (word_at (codes "on") (tt {0})) (permitted_at fuel d) (Says true (codes "on") (tt {0})) (Says true (codes "on") (tt {0})) (Permits (IsCond (suc d))) (Permits AnyCond) any_next any_next d d d fuel
    (plain_token true 111 (110 ∷ []) (tt {0}) any_next d fuel refl refl refl)
    (both_exact permitted pattern_at (both second (word_at (codes "if") (tt {0})) (both earlier (cond_at fuel d) (sign_at (codes ";") (tt {0})))) IsPattern IsPattern (Ifs (IsCond (suc d))) (Ifs AnyCond) not_star any_next d d d fuel
    (pattern_exact d fuel)
    (both_exact second (word_at (codes "if") (tt {0})) (both earlier (cond_at fuel d) (sign_at (codes ";") (tt {0}))) (Says true (codes "if") (tt {0})) (Says true (codes "if") (tt {0}))
    (Both earlier (IsCond (suc d)) (Says false (codes ";") (tt {0}))) (Both earlier AnyCond (Says false (codes ";") (tt {0}))) any_next any_next d d d fuel
    (plain_token true 105 (102 ∷ []) (tt {0}) any_next d fuel refl refl refl)
    (both_exact earlier (cond_at fuel d) (sign_at (codes ";") (tt {0})) (IsCond (suc d)) AnyCond (Says false (codes ";") (tt {0})) (Says false (codes ";") (tt {0})) after_cond any_next d d d fuel
    (cond_exact fuel d)
    (plain_token false 59 [] (tt {0}) any_next d fuel refl refl refl)
    (λ b m t h. ap after_cond (token_begins false 59 [] m t h.1)))
    (λ b m t h. refl))
    (λ b m t h. ap not_star (token_begins true 105 (102 ∷ []) m h.between h.one.1)))
    (λ b m t h. refl))
    (λ b m t h. refl))
    (λ b m t h. refl))
    (record {
      to = allows_rule (IsCond (suc d));
      from = λ s t a may h. rule_allows (IsCond (suc d)) s t a h;
      from_wide = λ s t a may h. rule_allows AnyCond s t a h;
      to_wide = allows_rule AnyCond;
      wide = rule_wider (IsCond (suc d)) AnyCond (any_of (suc d));
      allows = λ o may. refl;
    })
    (omega (arith))

-- ---- rules one after another

-- one or more rules
abbrev pub Many : Language Cond → List Rule → List ℕ → List ℕ → Type 0
Many C [] s t = ⊥
Many C (rule ∷ rules) s t = ((rules ≡ []) × IsRule C rule s t) ⊎ ((between : List ℕ) × IsRule C rule s between × Many C rules between t)

pub many_wider : (C D : Language Cond) → ((s t : List ℕ) (c : Cond) → C c s t → D c s t) → (rules : List Rule) (s t : List ℕ) → Many C rules s t → Many D rules s t
many_wider C D wide [] s t h = h
many_wider C D wide (rule ∷ rules) s t (inl h) = inl (h.0, rule_wider C D wide s t rule h.1)
many_wider C D wide (rule ∷ rules) s t (inr h) = inr (h.0, rule_wider C D wide s h.0 rule h.1, many_wider C D wide rules h.0 t h.2)

rule_begins : (C : Language Cond) (rule : Rule) (s t : List ℕ) → IsRule C rule s t → first s ≡ Some 97
rule_begins C rule s t h = token_begins true 97 (108 ∷ 108 ∷ 111 ∷ 119 ∷ []) s h.allowed h.allow

pub many_begins : (C : Language Cond) (rules : List Rule) (s t : List ℕ) → Many C rules s t → first s ≡ Some 97
many_begins C [] s t h = absurd (h)
many_begins C (rule ∷ rules) s t (inl h) = rule_begins C rule s t h.1
many_begins C (rule ∷ rules) s t (inr h) = rule_begins C rule s h.0 h.1

-- no rule comes next
abbrev pub after_rules : Option ℕ → Bool
after_rules = not_joined any_next 97

linked_many : (C : Language Cond) (rules : List Rule) (s t : List ℕ) → Linked (more_of 97) (IsRule C) (Many C) rules s t → Many C rules s t
linked_many C rules s t (inl h) = subst (λ l. Many C l s t) (sym (more_ends 97 h.value (first t) rules h.ends).1) (inl (refl, h.one))
linked_many C rules s t (inr h) =
    let goes = more_goes 97 h.value (first h.between) h.with_more h.goes in
    subst (λ l. Many C l s t) (sym (h.is ∙ ap (λ (g : List Rule → List Rule). g h.more) (sym goes))) (inr (h.between, h.one, h.two))

many_linked : (C : Language Cond) (rules : List Rule) (s t : List ℕ) → comes 97 (first t) ≡ false → Many C rules s t → Linked (more_of 97) (IsRule C) (Many C) rules s t
many_linked C [] s t over h = absurd (h)
many_linked C (rule ∷ rules) s t over (inl h) = inl (record {
  value = rule;
  one = h.1;
  ends = more_no 97 rule (first t) over ∙ ap (λ (l : List Rule). inl (rule ∷ l)) (sym h.0);
})
many_linked C (rule ∷ rules) s t over (inr h) = inr (record {
  value = rule;
  more = rules;
  with_more = λ others. rule ∷ others;
  between = h.0;
  one = h.1;
  goes = more_yes 97 rule (first h.0) (ap (comes 97) (many_begins C rules h.0 t h.2));
  two = h.2;
  is = refl;
})

pub rules_exact : (fuel d : ℕ) (left : ℕ) → left ≤ fuel → Exact (Many (IsCond (suc d))) (Many AnyCond) after_rules d d left (rules_at left fuel d)
rules_exact fuel d zero fewer =
    spent_exact (Many (IsCond (suc d))) (Many AnyCond) after_rules d
    (record {
      byte = (rule_exact fuel d).some.byte;
      others = (rule_exact fuel d).some.others;
      value = (rule_exact fuel d).some.value ∷ [];
      tight = (rule_exact fuel d).some.tight;
      ends = λ u may. inl (refl, (rule_exact fuel d).some.ends u may);
    })
    (λ s t rules h. many_wider (IsCond (suc d)) AnyCond (any_of (suc d)) rules s t h)
rules_exact fuel d (suc left) fewer =
    retell (Linked (more_of 97) (IsRule (IsCond (suc d))) (Many (IsCond (suc d)))) (Linked (more_of 97) (IsRule AnyCond) (Many AnyCond))
    (Many (IsCond (suc d))) (Many AnyCond) after_rules after_rules d d (suc left) (suc left) (rules_at (suc left) fuel d)
    (link_exact (more_of 97) (rule_at fuel d) (rules_at left fuel d) (IsRule (IsCond (suc d))) (IsRule AnyCond) (Many (IsCond (suc d))) (Many AnyCond) any_next after_rules after_rules d d d (suc left) left
    (narrowed (IsRule (IsCond (suc d))) (IsRule AnyCond) any_next any_next d d fuel (suc left) (rule_at fuel d) (rule_exact fuel d) (λ o may. may) fewer)
    (rules_exact fuel d left (omega (arith, fewer)))
    (more_fits 97 (Many AnyCond) any_next d (λ b m t h. many_begins AnyCond b m t h) refl refl)
    (omega (arith)))
    (record {
      to = λ s t rules h. linked_many (IsCond (suc d)) rules s t h;
      from = λ s t rules may h. many_linked (IsCond (suc d)) rules s t (not-true (comes 97 (first t)) (and_parts true (not (comes 97 (first t))) may).1) h;
      from_wide = λ s t rules may h. many_linked AnyCond rules s t (not-true (comes 97 (first t)) (and_parts true (not (comes 97 (first t))) may).1) h;
      to_wide = λ s t rules h. linked_many AnyCond rules s t h;
      wide = λ s t rules h. many_wider (IsCond (suc d)) AnyCond (any_of (suc d)) rules s t h;
      allows = λ o may. may;
    })
    (omega (arith))
