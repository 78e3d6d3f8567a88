-- What refutes a policy: of each rule that is about an action on an item, atoms of its condition that are false, and
-- enough for the condition to be false. `Policies` of `tp_model` says when a condition is true, and what a policy
-- allows.
use Rattle.std.specs.Prelude.{ℕ, ◌+◌, ◌==◌, ◌&&◌, ◌||◌, List, [], ◌∷◌, ◌++◌, map, Bool, true, false, not, Option, Some, None, option_map, option_and_then, if◌then◌else◌}
use Rattle.std.specs.List.{list_all, list_any}
use Rattle.std.specs.Option.{option_or}
use Rattle.tp_model.specs.Words.{Action, Cond, Op, Policy, Rule}
use Rattle.tp_model.specs.Words.op
use Rattle.tp_types.specs.declared.policy.Cond.{fold-Cond}
use Rattle.tp_types.specs.declared.policy.Cond.TheOpen.{Cond-F, True, Atom as IsAtom, And, Or}
use Rattle.tp_model.specs.Ids.{same_name}
use Rattle.tp_model.specs.Policies.{Triple, matches, meets, same_value}
use Rattle.tp_why.specs.declared.atoms.Atom.{Atom}
use Rattle.tp_why.specs.declared.atoms.FalseAtom.{FalseAtom}

-- ---- atoms

-- something that is held meets the atom
abbrev pub is_true : List Triple → Atom → Bool
is_true held atom = list_any (meets atom.issuer atom.attr atom.op atom.wanted) held

abbrev pub same_op : Op → Op → Bool
same_op op.Equal op.Equal = true
same_op op.AtLeast op.AtLeast = true
same_op op.AtMost op.AtMost = true
same_op _ _ = false

-- the atoms say the same
abbrev pub same_atom : Atom → Atom → Bool
same_atom one other =
    same_name one.issuer other.issuer && same_name one.attr other.attr && same_op one.op other.op
    && same_value one.wanted other.wanted

-- ---- the cut of a condition

-- an atom that is false is its own cut
abbrev pub cut_atom : List Triple → Atom → Option (List Atom)
cut_atom held atom = if is_true held atom then None else Some (atom ∷ [])

-- the first cut that there is
abbrev pub first_cut : List (Option (List Atom)) → Option (List Atom)
first_cut [] = None
first_cut (member ∷ members) = option_or member (first_cut members)

-- all cuts, one after another, where there is each
abbrev pub all_cuts : List (Option (List Atom)) → Option (List Atom)
all_cuts [] = Some []
all_cuts (member ∷ members) =
    option_and_then (λ first. option_map (λ others. first ++ others) (all_cuts members)) member

-- one level of a condition, where the cuts of its members are known
abbrev pub level : List Triple → Cond-F (Option (List Atom)) → Option (List Atom)
level held True = None
level held (IsAtom issuer attr op wanted) =
    cut_atom held (record { issuer = issuer; attr = attr; op = op; wanted = wanted })
level held (And members) = first_cut members
level held (Or members) = all_cuts members

-- atoms of a condition that are false and enough for it to be false, or None where it is true: of an atom itself, of
-- And those of the first member that is false, of Or those of all members
abbrev pub cut : List Triple → Cond → Option (List Atom)
cut held condition = fold-Cond (Option (List Atom)) (level held) condition

-- ---- the refutation of a policy

abbrev pub numbered : ℕ → Atom → FalseAtom
numbered number atom = record { rule = number; atom = atom }

-- the atoms of a cut, each under the number of the rule
abbrev pub under : ℕ → Option (List Atom) → List FalseAtom
under number None = []
under number (Some atoms) = map (numbered number) atoms

-- those of a rule that is about the action on the item
abbrev pub rule_atoms : Action → List ℕ → List Triple → ℕ → Rule → List FalseAtom
rule_atoms asked item held number rule =
    if matches asked item rule then under number (cut held rule.cond) else []

-- those of all rules, the first having this number
abbrev pub atoms_from : (ℕ → Rule → List FalseAtom) → ℕ → List Rule → List FalseAtom
atoms_from of_rule number [] = []
atoms_from of_rule number (rule ∷ rules) =
    of_rule number rule ++ atoms_from of_rule (number + 1) rules

-- of each rule that is about the action on the item the cut of its condition, where rules are counted from 1
abbrev pub refutation : Policy → Action → List ℕ → List Triple → List FalseAtom
refutation policy asked item held = atoms_from (rule_atoms asked item held) 1 policy.rules

-- ---- each rule

-- every rule passes a test by its number, the first having this one
abbrev pub each_rule : (ℕ → Rule → Bool) → ℕ → List Rule → Bool
each_rule of_rule number [] = true
each_rule of_rule number (rule ∷ rules) =
    of_rule number rule && each_rule of_rule (number + 1) rules

-- the atom is of the rule of this number
abbrev pub is_of_rule : ℕ → FalseAtom → Bool
is_of_rule number entry = entry.rule == number

-- a rule that is about the action on the item has an atom
abbrev pub is_rule_told : Action → List ℕ → List FalseAtom → ℕ → Rule → Bool
is_rule_told asked item atoms number rule =
    not (matches asked item rule) || list_any (is_of_rule number) atoms

-- so has every rule, where rules are counted from 1
abbrev pub is_told : Policy → Action → List ℕ → List FalseAtom → Bool
is_told policy asked item atoms = each_rule (is_rule_told asked item atoms) 1 policy.rules

-- ---- the check

abbrev pub is_false_entry : List Triple → FalseAtom → Bool
is_false_entry held entry = not (is_true held entry.atom)

abbrev pub is_entry : ℕ → Atom → FalseAtom → Bool
is_entry number atom entry = (entry.rule == number) && same_atom entry.atom atom

-- the atom is listed for the rule of this number
abbrev pub is_listed : List FalseAtom → ℕ → Atom → Bool
is_listed atoms number atom = list_any (is_entry number atom) atoms

-- an entry of the rule of this number is false
abbrev pub is_false_under : List Triple → ℕ → FalseAtom → Bool
is_false_under held number entry = not (entry.rule == number) || is_false_entry held entry

abbrev pub is_open_member : Bool → Bool
is_open_member member = member

abbrev pub open_level : (Atom → Bool) → Cond-F Bool → Bool
open_level listed True = true
open_level listed (IsAtom issuer attr op wanted) =
    not (listed (record { issuer = issuer; attr = attr; op = op; wanted = wanted }))
open_level listed (And members) = list_all is_open_member members
open_level listed (Or members) = list_any is_open_member members

-- the condition is true where every atom counts as true that is not listed, and each that is listed as false
abbrev pub is_open : (Atom → Bool) → Cond → Bool
is_open listed condition = fold-Cond Bool (open_level listed) condition

-- a rule that is about the action on the item: each atom that is listed for it is false, and these are enough
abbrev pub is_rule_refuted : Action → List ℕ → List Triple → List FalseAtom → ℕ → Rule → Bool
is_rule_refuted asked item held atoms number rule =
    not (matches asked item rule)
    || (list_all (is_false_under held number) atoms
    && not (is_open (is_listed atoms number) rule.cond))

-- every rule is refuted, where rules are counted from 1
abbrev pub is_refuted : Policy → Action → List ℕ → List Triple → List FalseAtom → Bool
is_refuted policy asked item held atoms =
    each_rule (is_rule_refuted asked item held atoms) 1 policy.rules
