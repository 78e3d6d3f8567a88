use Rattle.std.proofs.Common.{◌≡◌, drop, map}
use Rattle.tp_json.specs.View.{members_view, with_members}
use Rattle.tp_json.specs.mirrors.Lent.{lent_view}
use Rattle.tp_json.proofs.ViewLemmas.{seen}
use Rattle.tp_json.proofs.order.in_order.Given as goal

abbrev pub invariant-loop-member : goal.invariant-loop-member
invariant-loop-member l =
    with_members (lent_view l.found.entries) (map seen (drop l.member-index l.members)) ≡ members_view l.members
