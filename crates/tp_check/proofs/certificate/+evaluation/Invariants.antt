use Rattle.std.proofs.Common.{◌≡◌, drop}
use Rattle.std.specs.List.{list_all, list_any}
use Rattle.tp_model.specs.Policies.{holds}
use Rattle.tp_cred.specs.mirrors.HeldBy.{held_by}
use Rattle.tp_check.proofs.certificate.+evaluation.Given as goal

-- the members that are left decide
abbrev pub invariant-all_hold-loop-member : goal.invariant-all_hold-loop-member
invariant-all_hold-loop-member l =
    list_all (holds (held_by l.held)) (drop l.member-index l.members) ≡ list_all (holds (held_by l.held)) l.members

-- the members that are left decide
abbrev pub invariant-any_holds-loop-member : goal.invariant-any_holds-loop-member
invariant-any_holds-loop-member l =
    list_any (holds (held_by l.held)) (drop l.member-index l.members) ≡ list_any (holds (held_by l.held)) l.members
