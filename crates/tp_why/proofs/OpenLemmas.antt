-- One level at a time of a condition where the atoms that are listed count as false and all others as true.
use Rattle.std.proofs.Common.{◌≡◌, Bool, ◌&&◌, ◌||◌, not, List, [], ◌∷◌, map, refl, ap, sym, ◌∙◌}
use Rattle.std.specs.List.{list_all, list_any}
use Rattle.tp_model.specs.Words.{Cond, Op, Value}
use Rattle.tp_model.specs.Words.cond
use Rattle.tp_types.specs.declared.policy.Cond.TheOpen.{Atom, And, Or}
use Rattle.tp_types.specs.declared.policy.Cond.TheFolds.{fold-roll-Cond}
use Rattle.tp_why.specs.declared.atoms.Atom as atoms
use Rattle.tp_why.specs.Refutation.{is_open, is_open_member, open_level}

all_members : (test : Cond → Bool) (members : List Cond) → list_all is_open_member (map test members) ≡ list_all test members
all_members test [] = refl
all_members test (member ∷ members) = ap (λ b. test member && b) (all_members test members)

any_members : (test : Cond → Bool) (members : List Cond) → list_any is_open_member (map test members) ≡ list_any test members
any_members test [] = refl
any_members test (member ∷ members) = ap (λ b. test member || b) (any_members test members)

pub open_atom : (listed : atoms.Atom → Bool) (issuer attr : _) (op : Op) (wanted : Value)
    → is_open listed (cond.Atom issuer attr op wanted) ≡ not (listed (record { issuer = issuer; attr = attr; op = op; wanted = wanted }))
open_atom listed issuer attr op wanted =
    ap (is_open listed) (sym (cond.rolls-Atom issuer attr op wanted)) ∙ fold-roll-Cond Bool (open_level listed) (Atom issuer attr op wanted)

pub open_and : (listed : atoms.Atom → Bool) (members : List Cond) → is_open listed (cond.And members) ≡ list_all (is_open listed) members
open_and listed members =
    ap (is_open listed) (sym (cond.rolls-And members)) ∙ fold-roll-Cond Bool (open_level listed) (And members) ∙ all_members (is_open listed) members

pub open_or : (listed : atoms.Atom → Bool) (members : List Cond) → is_open listed (cond.Or members) ≡ list_any (is_open listed) members
open_or listed members =
    ap (is_open listed) (sym (cond.rolls-Or members)) ∙ fold-roll-Cond Bool (open_level listed) (Or members) ∙ any_members (is_open listed) members
