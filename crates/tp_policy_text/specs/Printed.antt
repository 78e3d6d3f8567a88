-- The printed form of a policy: one text for each.
use Rattle.std.specs.Prelude.{ℕ, suc, ◌^◌, ◌&&◌, nat_le, nat_lt, List, ◌++◌, length, Bool, true, false, Option, Some, None, ℤ, pos, negsuc, codes, IsTrue}
use Rattle.std.specs.Fmt.{signed_decimal}
use Rattle.std.specs.List.{flat_map, join_by, list_all}
use Rattle.tp_types.specs.declared.policy.Action.{Action}
use Rattle.tp_types.specs.declared.policy.Action.TheVariants as action
use Rattle.tp_types.specs.declared.policy.Cond.{Cond, fold-Cond}
use Rattle.tp_types.specs.declared.policy.Cond.TheOpen.{Cond-F, True, Atom, And, Or}
use Rattle.tp_types.specs.declared.policy.Op.{Op}
use Rattle.tp_types.specs.declared.policy.Op.TheVariants as op
use Rattle.tp_types.specs.declared.policy.Pattern.{Pattern}
use Rattle.tp_types.specs.declared.policy.Pattern.TheVariants as pattern
use Rattle.tp_types.specs.declared.policy.Policy.{Policy}
use Rattle.tp_types.specs.declared.policy.Rule.{Rule}
use Rattle.tp_types.specs.declared.policy.Value.{Value}
use Rattle.tp_types.specs.declared.policy.Value.TheVariants as value
use Rattle.tp_types.specs.Spelling.{is_name}

-- ---- atoms

abbrev pub op_text : Op → List ℕ
op_text op.Equal = codes "="
op_text op.AtLeast = codes ">="
op_text op.AtMost = codes "<="

-- a number in decimal, and a word as it is
abbrev pub value_text : Value → List ℕ
value_text (value.Number z) = signed_decimal z
value_text (value.Word name) = name

abbrev pub atom_text : List ℕ → List ℕ → Op → Value → List ℕ
atom_text issuer attr compares wanted =
    issuer ++ codes "." ++ attr ++ codes " " ++ op_text compares ++ codes " " ++ value_text wanted

-- ---- conditions

pub data Kind : Type 0 where
  plain : Kind
  conjunction : Kind
  disjunction : Kind

-- a condition's text, and whether it is an And, an Or, or neither
pub record CondText : Type 0 where
  pub kind : Kind
  pub text : List ℕ

abbrev pub in_parentheses : List ℕ → List ℕ
in_parentheses text = codes "(" ++ text ++ codes ")"

-- a member of an And stands in parentheses where it is an And or an Or
abbrev pub within_and : Kind → List ℕ → List ℕ
within_and plain text = text
within_and conjunction text = in_parentheses text
within_and disjunction text = in_parentheses text

-- a member of an Or stands in parentheses where it is an Or
abbrev pub within_or : Kind → List ℕ → List ℕ
within_or plain text = text
within_or conjunction text = text
within_or disjunction text = in_parentheses text

abbrev pub in_and : CondText → List ℕ
in_and member = within_and member.kind member.text

abbrev pub in_or : CondText → List ℕ
in_or member = within_or member.kind member.text

-- one level of a condition, whose members are shown
abbrev pub level_text : Cond-F CondText → CondText
level_text True = record { kind = plain; text = codes "true" }
level_text (Atom issuer attr compares wanted) = record {
  kind = plain;
  text = atom_text issuer attr compares wanted;
}
level_text (And members) = record {
  kind = conjunction;
  text = join_by in_and (codes " and ") members;
}
level_text (Or members) = record {
  kind = disjunction;
  text = join_by in_or (codes " or ") members;
}

abbrev pub kind_and_text : Cond → CondText
kind_and_text c = fold-Cond CondText level_text c

abbrev pub cond_text : Cond → List ℕ
cond_text c = (kind_and_text c).text

-- ---- rules

abbrev pub action_text : Option Action → List ℕ
action_text (Some action.Read) = codes "read"
action_text (Some action.Write) = codes "write"
action_text None = codes "any"

abbrev pub pattern_text : Pattern → List ℕ
pattern_text pattern.All = codes "*"
pattern_text (pattern.Exact name) = name
pattern_text (pattern.Prefix name) = name ++ codes "*"

abbrev pub rule_line : Rule → List ℕ
rule_line rule =
    codes "allow " ++ action_text rule.action ++ codes " on " ++ pattern_text rule.pattern
    ++ codes " if " ++ cond_text rule.cond ++ codes ";\n"

-- the rules in their order, each on a line of its own
abbrev pub policy_text : Policy → List ℕ
policy_text policy = flat_map rule_line policy.rules

-- ---- what the grammar can say

-- how far a number is from 0
abbrev pub distance : ℤ → ℕ
distance (pos n) = n
distance (negsuc n) = suc n

-- a number has at most fifteen digits
abbrev pub can_be_value : Value → Bool
can_be_value (value.Number z) = nat_lt (distance z) (10 ^ 15)
can_be_value (value.Word name) = is_name name

-- words are compared by `=` alone
abbrev pub can_compare : Op → Value → Bool
can_compare op.Equal wanted = true
can_compare op.AtLeast (value.Number z) = true
can_compare op.AtMost (value.Number z) = true
can_compare _ _ = false

abbrev pub can_be_member : Bool → Bool
can_be_member member = member

abbrev pub can_be_level : Cond-F Bool → Bool
can_be_level True = true
can_be_level (Atom issuer attr compares wanted) =
    is_name issuer && is_name attr && can_compare compares wanted && can_be_value wanted
can_be_level (And members) = nat_le 2 (length members) && list_all can_be_member members
can_be_level (Or members) = nat_le 2 (length members) && list_all can_be_member members

-- each And and each Or has two members or more, and each atom can be said
abbrev pub can_be_cond : Cond → Bool
can_be_cond c = fold-Cond Bool can_be_level c

abbrev pub can_be_pattern : Pattern → Bool
can_be_pattern pattern.All = true
can_be_pattern (pattern.Exact name) = is_name name
can_be_pattern (pattern.Prefix name) = is_name name

abbrev pub can_be_rule : Rule → Bool
can_be_rule rule = can_be_pattern rule.pattern && can_be_cond rule.cond

-- some text of the grammar says the policy
abbrev pub IsOfGrammar : Policy → Type 0
IsOfGrammar policy = IsTrue (list_all can_be_rule policy.rules)
