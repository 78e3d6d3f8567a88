-- One level of what a condition takes at a time.
use Rattle.std.proofs.Common.{◌≡◌, Bool, List, Option, map, option_map, ap, sym, ◌∙◌}
use Rattle.std.specs.List.{find}
use Rattle.tp_model.specs.Words.{Cond, CredId, Op, Value}
use Rattle.tp_model.specs.Words.cond
use Rattle.tp_types.specs.declared.policy.Cond.TheOpen.{Atom, And, Or}
use Rattle.tp_types.specs.declared.policy.Cond.TheFolds.{fold-roll-Cond}
use Rattle.tp_model.specs.Policies.{Triple, meets}
use Rattle.tp_eval.specs.Uses.{level, only, uses_of, uses_of_all, uses_of_first}

pub taken_atom : (shows : (Triple → Bool) → CredId → Bool) (presented : List CredId) (issuer attr : _) (op : Op) (wanted : Value)
    → uses_of shows presented (cond.Atom issuer attr op wanted) ≡ option_map only (find (shows (meets issuer attr op wanted)) presented)
taken_atom shows presented issuer attr op wanted =
    ap (uses_of shows presented) (sym (cond.rolls-Atom issuer attr op wanted))
    ∙ fold-roll-Cond (Option (List CredId)) (level shows presented) (Atom issuer attr op wanted)

pub taken_and : (shows : (Triple → Bool) → CredId → Bool) (presented : List CredId) (members : List Cond)
    → uses_of shows presented (cond.And members) ≡ uses_of_all (map (uses_of shows presented) members)
taken_and shows presented members =
    ap (uses_of shows presented) (sym (cond.rolls-And members)) ∙ fold-roll-Cond (Option (List CredId)) (level shows presented) (And members)

pub taken_or : (shows : (Triple → Bool) → CredId → Bool) (presented : List CredId) (members : List Cond)
    → uses_of shows presented (cond.Or members) ≡ uses_of_first (map (uses_of shows presented) members)
taken_or shows presented members =
    ap (uses_of shows presented) (sym (cond.rolls-Or members)) ∙ fold-roll-Cond (Option (List CredId)) (level shows presented) (Or members)
