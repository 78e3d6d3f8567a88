use Rattle.std.proofs.Common.{◌≡◌, drop}
use Rattle.std.specs.List.{list_all, list_any}
use Rattle.tp_why.specs.Refutation.{is_listed, is_open}
use Rattle.tp_why.proofs.check.+opening.Given as goal

-- the members that are left decide
abbrev pub invariant-all_open-loop-member : goal.invariant-all_open-loop-member
invariant-all_open-loop-member l =
    list_all (is_open (is_listed l.listed.atoms.now l.listed.number)) (drop l.member-index l.members) ≡ list_all (is_open (is_listed l.listed.atoms.now l.listed.number)) l.members

-- the members that are left decide
abbrev pub invariant-any_open-loop-member : goal.invariant-any_open-loop-member
invariant-any_open-loop-member l =
    list_any (is_open (is_listed l.listed.atoms.now l.listed.number)) (drop l.member-index l.members) ≡ list_any (is_open (is_listed l.listed.atoms.now l.listed.number)) l.members
