use Rattle.std.proofs.Common.{Bool, List, sym, subst, ◌∙◌, ◌++◌, ◌∷◌, ◌≡◌, [], ap, true, ℕ}
use Rattle.tp_pending.proofs.RingLemmas.{posted_flags, posted_ring}
use Rattle.tp_pending.specs.mirrors.Ring.{IsRing, flags_of, link_before, with_after, with_before, with_last}
use Rattle.tp_pending.proofs.pending.Pending.post.Goals as goal

pub invariant_of-self-2 : goal.invariant_of-self-2
invariant_of-self-2 c =
    let last : ℕ = c.visited-last.result.before in
    let left : c.set_before.new.nodes ≡ with_last c.len-node.result last c.self.inside.nodes =
    c.set_before.ensures ∙ ap (with_before 0 c.len-node.result) (c.set_after.ensures ∙ ap (with_after last c.len-node.result) c.in_ok-push.ensures.ok) in
    subst IsRing (sym left)
    (subst (λ (at : ℕ). IsRing (with_last at last c.self.inside.nodes)) (sym c.len-node.ensures)
    (posted_ring c.self.inside.nodes last (ap link_before c.visited-last.ensures.value) c.self.invariant))

pub returns-clause-ok : goal.returns-clause-ok
returns-clause-ok c =
    let last : ℕ = c.visited-last.result.before in
    let left : c.set_before.new.nodes ≡ with_last c.len-node.result last c.self.inside.nodes =
    c.set_before.ensures ∙ ap (with_before 0 c.len-node.result) (c.set_after.ensures ∙ ap (with_after last c.len-node.result) c.in_ok-push.ensures.ok) in
    ap flags_of left ∙ (posted_flags c.self.inside.nodes c.len-node.result last c.self.invariant.ended ∙ ap (λ (flags : List Bool). flags ++ true ∷ []) c.self.view_is)
