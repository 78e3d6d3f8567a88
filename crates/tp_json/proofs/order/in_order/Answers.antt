use Rattle.std.proofs.Common.{◌≡◌, ◌+◌, ◌∷◌, drop, map, sym, ap, ◌∙◌, arith}
use Rattle.std.proofs.lemmas.List.{drop_more}
use Rattle.tp_json.specs.View.{with_members}
use Rattle.tp_json.specs.mirrors.Lent.{lent_view}
use Rattle.tp_json.proofs.ViewLemmas.{lent_view-insert, seen}
use Rattle.tp_json.proofs.order.in_order.Goals as goal

pub loop-member-init : goal.loop-member-init
loop-member-init c = ap (λ es. with_members (lent_view es) (map seen c.args.members.now)) c.new-found.ensures.empty

pub loop-member-preserved : goal.loop-member-preserved
loop-member-preserved c =
    let loop = c.loop-member in
    let all = c.args.members.now in
    let member = c.member-item.result in
    let rest = drop (loop.member-index + 1) all in
    let here : drop loop.member-index all ≡ member ∷ rest =
    drop_more all loop.member-index member (omega arith) ∙ ap (λ m. m ∷ rest) (sym c.member-item.is) in
    ap (λ ms. with_members ms (map seen rest)) (ap lent_view c.in_ok-insert.ensures.entries ∙ lent_view-insert loop.found.entries _ _)
    ∙ sym (ap (λ ms. with_members (lent_view loop.found.entries) (map seen ms)) here)
    ∙ loop.invariant
