-- The grammar of the policy language, as a relation between a text, what it says, and what is left of the text. Each production is
-- one definition, and each of its forms one case.
use Rattle.std.specs.Prelude.{◌≡◌, ◌⊎◌, ℕ, zero, suc, ◌+◌, ◌≤◌, List, [], ◌∷◌, ◌++◌, true, Option, Some, None, ℤ, pos, neg_ℤ, codes, ◌<◌}
use Rattle.tp_types.specs.declared.policy.Action.{Action}
use Rattle.tp_types.specs.declared.policy.Action.TheVariants as action
use Rattle.tp_types.specs.declared.policy.Cond.{Cond}
use Rattle.tp_types.specs.declared.policy.Cond.TheVariants as cond
use Rattle.tp_types.specs.declared.policy.Op.{Op}
use Rattle.tp_types.specs.declared.policy.Op.TheVariants as op
use Rattle.tp_types.specs.declared.policy.Pattern.{Pattern}
use Rattle.tp_types.specs.declared.policy.Pattern.TheVariants as pattern
use Rattle.tp_types.specs.declared.policy.Policy.{Policy}
use Rattle.tp_types.specs.declared.policy.Rule.{Rule}
use Rattle.tp_types.specs.declared.policy.Value.{Value}
use Rattle.tp_types.specs.declared.policy.Value.TheVariants as value
use Rattle.tp_types.specs.Spelling.{IsName, is_number, spelled_from}
use Rattle.tp_policy_text.specs.Lexis.{Sign, Word, skip, count}

-- ---- numbers

-- a number, or a `-` and a number that is not 0
pub record IsNatural (text : List ℕ) (z : ℤ) : Type 0 where
  pub digits : is_number text ≡ true
  pub number_is : z ≡ pos (spelled_from 0 text)

pub record IsNegative (text : List ℕ) (z : ℤ) : Type 0 where
  pub digits : List ℕ
  pub signed : text ≡ codes "-" ++ digits
  pub are_digits : is_number digits ≡ true
  pub not_zero : 1 ≤ spelled_from 0 digits
  pub number_is : z ≡ neg_ℤ (pos (spelled_from 0 digits))

abbrev pub IsInt : List ℕ → ℤ → Type 0
IsInt text z = IsNatural text z ⊎ IsNegative text z

-- an integer stands as a word does
pub record Int (z : ℤ) (before left : List ℕ) : Type 0 where
  pub text : List ℕ
  pub spelled : IsInt text z
  pub word : Word text before left

-- a name stands as a word does
pub record IsWholeName (name before left : List ℕ) : Type 0 where
  pub spelled : IsName name
  pub word : Word name before left

-- ---- atoms

-- issuer.attribute, with nothing around the dot: what an issuer says of a subject
pub record Claim (issuer attr before left : List ℕ) : Type 0 where
  pub issuer_is : IsName issuer
  pub attr_is : IsName attr
  pub word : Word (issuer ++ codes "." ++ attr) before left

-- an integer or a name
abbrev pub IsValue : Value → List ℕ → List ℕ → Type 0
IsValue (value.Number z) before left = Int z before left
IsValue (value.Word name) before left = IsWholeName name before left

-- `=` takes either, and the others an integer
abbrev pub IsCompared : Op → Value → List ℕ → List ℕ → Type 0
IsCompared op.Equal v before left =
    (between : List ℕ) × Sign (codes "=") before between × IsValue v between left
IsCompared op.AtLeast (value.Number z) before left =
    (between : List ℕ) × Sign (codes ">=") before between × Int z between left
IsCompared op.AtMost (value.Number z) before left =
    (between : List ℕ) × Sign (codes "<=") before between × Int z between left
IsCompared _ _ before left = ⊥

-- what an issuer says, and what it is compared to
pub record IsComparison (c : Cond) (before left : List ℕ) : Type 0 where
  pub issuer : List ℕ
  pub attr : List ℕ
  pub compares : Op
  pub wanted : Value
  pub says : c ≡ cond.Atom issuer attr compares wanted
  pub between : List ℕ
  pub claim : Claim issuer attr before between
  pub compared : IsCompared compares wanted between left

-- the word true, or a comparison
abbrev pub IsAtom : Cond → List ℕ → List ℕ → Type 0
IsAtom c before left =
    ((c ≡ cond.True) × Word (codes "true") before left) ⊎ IsComparison c before left

-- ---- conditions

-- one or more, with a word between two of them
abbrev pub AreJoined : {A : Type 0} → List ℕ → (A → List ℕ → List ℕ → Type 0) → List A → List ℕ
    → List ℕ → Type 0
AreJoined word P [] before left = ⊥
AreJoined word P (x ∷ xs) before left =
    ((xs ≡ []) × P x before left)
    ⊎ ((between : List ℕ) × (after : List ℕ) × P x before between × Word word between after
    × AreJoined word P xs after left)

-- one member is itself
abbrev pub and_of : List Cond → Cond
and_of (c ∷ []) = c
and_of members = cond.And members

abbrev pub or_of : List Cond → Cond
or_of (c ∷ []) = c
or_of members = cond.Or members

-- a condition in parentheses, where I is what may stand in them, or an atom
pub record IsInParentheses (I : Cond → List ℕ → List ℕ → Type 0) (c : Cond) (before left : List ℕ)
    : Type 0 where
  pub opened : List ℕ
  pub closed : List ℕ
  pub opens : Sign (codes "(") before opened
  pub inner : I c opened closed
  pub closes : Sign (codes ")") closed left

abbrev pub IsMember : (Cond → List ℕ → List ℕ → Type 0) → Cond → List ℕ → List ℕ → Type 0
IsMember I c before left = IsInParentheses I c before left ⊎ IsAtom c before left

-- parts joined by `and`
abbrev pub IsConj : (Cond → List ℕ → List ℕ → Type 0) → Cond → List ℕ → List ℕ → Type 0
IsConj I c before left =
    (members : List Cond) × (c ≡ and_of members)
    × AreJoined (codes "and") (IsMember I) members before left

-- conjunctions joined by `or`
abbrev pub IsDisj : (Cond → List ℕ → List ℕ → Type 0) → Cond → List ℕ → List ℕ → Type 0
IsDisj I c before left =
    (members : List Cond) × (c ≡ or_of members) × AreJoined (codes "or") (IsConj I) members before left

-- a condition with fewer parentheses within one another than the number
abbrev pub IsCond : ℕ → Cond → List ℕ → List ℕ → Type 0
IsCond zero c before left = ⊥
IsCond (suc depth) c before left = IsDisj (IsCond depth) c before left

-- a condition, whatever its depth
abbrev pub AnyCond : Cond → List ℕ → List ℕ → Type 0
AnyCond c before left = (depth : ℕ) × IsCond depth c before left

-- ---- rules

abbrev pub IsAction : Option Action → List ℕ → List ℕ → Type 0
IsAction (Some action.Read) before left = Word (codes "read") before left
IsAction (Some action.Write) before left = Word (codes "write") before left
IsAction None before left = Word (codes "any") before left

-- a prefix is a name with a `*` at its end
pub record IsPrefix (name before left : List ℕ) : Type 0 where
  pub spelled : IsName name
  pub sign : Sign (name ++ codes "*") before left

abbrev pub IsPattern : Pattern → List ℕ → List ℕ → Type 0
IsPattern pattern.All before left = Sign (codes "*") before left
IsPattern (pattern.Exact name) before left = IsWholeName name before left
IsPattern (pattern.Prefix name) before left = IsPrefix name before left

-- allow ACTION on PATTERN if CONDITION ;
pub record IsRule (C : Cond → List ℕ → List ℕ → Type 0) (rule : Rule) (before left : List ℕ)
    : Type 0 where
  pub allowed : List ℕ
  pub allow : Word (codes "allow") before allowed
  pub acted : List ℕ
  pub acts : IsAction rule.action allowed acted
  pub about : List ℕ
  pub on : Word (codes "on") acted about
  pub matched : List ℕ
  pub matching : IsPattern rule.pattern about matched
  pub conditioned : List ℕ
  pub if_word : Word (codes "if") matched conditioned
  pub ended : List ℕ
  pub condition : C rule.cond conditioned ended
  pub ends : Sign (codes ";") ended left

-- rules one after another, up to the end
abbrev pub AreRules : (Cond → List ℕ → List ℕ → Type 0) → List Rule → List ℕ → Type 0
AreRules C [] before = before ≡ []
AreRules C (rule ∷ rules) before =
    (left : List ℕ) × IsRule C rule before left × AreRules C rules left

-- a whole text says the policy, with conditions C; blanks may stand before the first token
abbrev pub SpellsBy : (Cond → List ℕ → List ℕ → Type 0) → Policy → List ℕ → Type 0
SpellsBy C policy text = AreRules C policy.rules (skip text)

-- a text says the policy, whatever its depth, and with at most so many parentheses within one another
abbrev pub Spells : Policy → List ℕ → Type 0
Spells policy text = SpellsBy AnyCond policy text

abbrev pub SpellsWithin : ℕ → Policy → List ℕ → Type 0
SpellsWithin depth policy text = SpellsBy (IsCond (depth + 1)) policy text

-- ---- what goes wrong

-- some text of the grammar begins so
pub record Begins (text : List ℕ) : Type 0 where
  pub more : List ℕ
  pub policy : Policy
  pub spells : Spells policy (text ++ more)

-- the text has no reading, and the beginning is the longest with which some text of the grammar begins
pub record Stops (text before : List ℕ) : Type 0 where
  pub rest : List ℕ
  pub parts : text ≡ before ++ rest
  pub begins : Begins before
  pub further : (byte : ℕ) (others : List ℕ) → rest ≡ byte ∷ others
      → ¬ (Begins (before ++ byte ∷ []))
  pub none : (policy : Policy) → ¬ (Spells policy text)

-- no parenthesis of the text stands within as many others as may be
abbrev pub IsWithin : ℕ → List ℕ → Type 0
IsWithin limit text = (p q : List ℕ) → text ≡ p ++ (40 ∷ q) → count 40 p < count 41 p + limit

-- the text goes on behind the beginning with a parenthesis that stands within as many others as may be; it is the first such one, and
-- some text of the grammar begins so
pub record IsTooDeep (limit : ℕ) (text before : List ℕ) : Type 0 where
  pub rest : List ℕ
  pub parts : text ≡ before ++ (40 ∷ rest)
  pub begins : Begins (before ++ (40 ∷ []))
  pub within : count 40 before ≡ count 41 before + limit
  pub first : IsWithin limit before
