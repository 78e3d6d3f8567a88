-- What a policy allows: a rule that matches, and whose condition is true of what is held. What is held is a set of triples of an
-- issuer, an attribute and a value; neither the order of rules nor a certificate plays a part.
use Rattle.std.specs.Prelude.{ℕ, ◌==◌, ◌&&◌, List, Bool, true, false, Option, Some, None}
use Rattle.std.specs.List.{list_all, list_any, starts_with}
use Rattle.std.specs.Ordering.{int_eq}
use Rattle.tp_model.specs.Words.{Action, Op, Pattern, Policy, Rule, Value}
use Rattle.tp_model.specs.Words.action
use Rattle.tp_types.specs.declared.policy.Cond.{Cond, fold-Cond}
use Rattle.tp_types.specs.declared.policy.Cond.TheOpen.{Cond-F, True, Atom, And, Or}
use Rattle.tp_types.specs.declared.policy.Op.TheVariants.{Equal, AtLeast, AtMost}
use Rattle.tp_types.specs.declared.policy.Pattern.TheVariants.{All, Exact, Prefix}
use Rattle.tp_types.specs.declared.policy.Value.TheVariants.{Number, Word}
use Rattle.tp_model.specs.Ids.{same_name}
use Rattle.tp_model.specs.Limits.{int_le}

-- an issuer says that the attribute has the value
pub record Triple : Type 0 where
  pub issuer : List ℕ
  pub attr : List ℕ
  pub value : Value

-- equal numbers, or equal words; a number never equals a word
abbrev pub same_value : Value → Value → Bool
same_value (Number one) (Number other) = int_eq one other
same_value (Word one) (Word other) = same_name one other
same_value _ _ = false

-- both are numbers, and the first is at most the second
abbrev pub is_at_most : Value → Value → Bool
is_at_most (Number one) (Number other) = int_le one other
is_at_most _ _ = false

-- a value satisfies a comparison with another
abbrev pub satisfies : Op → Value → Value → Bool
satisfies Equal wanted found = same_value found wanted
satisfies AtLeast wanted found = is_at_most wanted found
satisfies AtMost wanted found = is_at_most found wanted

-- the triple is of the issuer and the attribute, and its value satisfies the comparison
abbrev pub meets : List ℕ → List ℕ → Op → Value → Triple → Bool
meets issuer attr op wanted triple =
    same_name triple.issuer issuer && same_name triple.attr attr && satisfies op wanted triple.value

abbrev pub is_met : Bool → Bool
is_met member = member

-- one level of a condition, whose members are known to be true or false
abbrev pub level : List Triple → Cond-F Bool → Bool
level held True = true
level held (Atom issuer attr op wanted) = list_any (meets issuer attr op wanted) held
level held (And members) = list_all is_met members
level held (Or members) = list_any is_met members

-- the condition is true of what is held: an atom where some triple meets it, And where all members are, Or where one is
abbrev pub holds : List Triple → Cond → Bool
holds held condition = fold-Cond Bool (level held) condition

abbrev pub same_action : Action → Action → Bool
same_action action.Read action.Read = true
same_action action.Write action.Write = true
same_action _ _ = false

-- a rule without an action is about any
abbrev pub is_about_action : Option Action → Action → Bool
is_about_action None asked = true
is_about_action (Some named) asked = same_action named asked

-- the item's name is one of the pattern
abbrev pub is_about_item : Pattern → List ℕ → Bool
is_about_item All item = true
is_about_item (Exact name) item = same_name item name
is_about_item (Prefix name) item = starts_with ◌==◌ item name

-- the rule is about the action on the item
abbrev pub matches : Action → List ℕ → Rule → Bool
matches asked item rule = is_about_action rule.action asked && is_about_item rule.pattern item

-- the rule allows the action on the item, on what is held
abbrev pub rule_allows : Action → List ℕ → List Triple → Rule → Bool
rule_allows asked item held rule = matches asked item rule && holds held rule.cond

-- the policy allows the action on the item, on what is held: some rule does
abbrev pub allows : Policy → Action → List ℕ → List Triple → Bool
allows policy asked item held = list_any (rule_allows asked item held) policy.rules
