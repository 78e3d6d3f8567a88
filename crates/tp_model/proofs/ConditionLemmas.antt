-- One level of a condition at a time.
use Rattle.std.proofs.Common.{◌≡◌, Bool, ◌&&◌, ◌||◌, List, [], ◌∷◌, map, refl, ap, sym, ◌∙◌}
use Rattle.std.specs.List.{list_all, list_any}
use Rattle.tp_model.specs.Words.{Cond, Op, Value}
use Rattle.tp_model.specs.Words.cond
use Rattle.tp_types.specs.declared.policy.Cond.TheOpen.{Atom, And, Or}
use Rattle.tp_types.specs.declared.policy.Cond.TheFolds.{fold-roll-Cond}
use Rattle.tp_model.specs.Policies.{Triple, holds, is_met, level, meets}

all_members : (test : Cond → Bool) (members : List Cond) → list_all is_met (map test members) ≡ list_all test members
all_members test [] = refl
all_members test (member ∷ members) = ap (λ b. test member && b) (all_members test members)

any_members : (test : Cond → Bool) (members : List Cond) → list_any is_met (map test members) ≡ list_any test members
any_members test [] = refl
any_members test (member ∷ members) = ap (λ b. test member || b) (any_members test members)

pub holds_and : (held : List Triple) (members : List Cond) → holds held (cond.And members) ≡ list_all (holds held) members
holds_and held members =
    ap (holds held) (sym (cond.rolls-And members)) ∙ fold-roll-Cond Bool (level held) (And members) ∙ all_members (holds held) members

pub holds_or : (held : List Triple) (members : List Cond) → holds held (cond.Or members) ≡ list_any (holds held) members
holds_or held members =
    ap (holds held) (sym (cond.rolls-Or members)) ∙ fold-roll-Cond Bool (level held) (Or members) ∙ any_members (holds held) members

pub holds_atom : (held : List Triple) (issuer attr : _) (op : Op) (wanted : Value) → holds held (cond.Atom issuer attr op wanted) ≡ list_any (meets issuer attr op wanted) held
holds_atom held issuer attr op wanted =
    ap (holds held) (sym (cond.rolls-Atom issuer attr op wanted)) ∙ fold-roll-Cond Bool (level held) (Atom issuer attr op wanted)
