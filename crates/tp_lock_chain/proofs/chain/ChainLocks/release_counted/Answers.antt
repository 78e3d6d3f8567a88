use Rattle.std.proofs.Common.{◌∙◌, ap, arith, subst, sym}
use Rattle.tp_lock.specs.Rule.{after_release}
use Rattle.tp_lock_chain.specs.Cost.{most_steps}
use Rattle.tp_lock_chain.specs.declared.links.Pool.{Pool}
use Rattle.tp_lock_chain.specs.mirrors.Pool.{IsKept, shown}
use Rattle.tp_lock_chain.proofs.LeaveLemmas.{left_cost, left_kept, left_shown}
use Rattle.tp_lock_chain.proofs.chain.ChainLocks.release_counted.Goals as goal

pub invariant_of-self : goal.invariant_of-self
invariant_of-self g c = subst (λ (p : Pool). IsKept p) (sym c.leave.ensures.pool) (left_kept c.self.inside.pool c.args.owner c.self.invariant)

pub returns-clause-released : goal.returns-clause-released
returns-clause-released g c =
    ap shown c.leave.ensures.pool ∙ left_shown c.self.inside.pool c.args.owner c.self.invariant ∙ ap (after_release c.args.owner) c.self.view_is

pub returns-clause-counted : goal.returns-clause-counted
returns-clause-counted g c =
    let cost = left_cost c.self.inside.pool c.args.owner c.self.invariant in
    let same = ap (most_steps c.args.owner) c.self.view_is in
    omega (arith, c.leave.ensures.steps, cost, same)
