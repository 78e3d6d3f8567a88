use Rattle.std.proofs.Common.{◌∙◌, ap, subst, sym}
use Rattle.tp_lock.specs.Rule.{after_release}
use Rattle.tp_lock_chain.specs.declared.links.Pool.{Pool}
use Rattle.tp_lock_chain.specs.mirrors.Pool.{IsKept, shown}
use Rattle.tp_lock_chain.proofs.LeaveLemmas.{left_kept, left_shown}
use Rattle.tp_lock_chain.proofs.chain.ChainLocksLockTable.release.Goals as goal

pub invariant_of-self : goal.invariant_of-self
invariant_of-self c = subst (λ (p : Pool). IsKept p) (sym c.leave.ensures.pool) (left_kept c.self.inside.pool c.args.owner c.self.invariant)

pub returns : goal.returns
returns c = ap shown c.leave.ensures.pool ∙ left_shown c.self.inside.pool c.args.owner c.self.invariant ∙ ap (after_release c.args.owner) c.self.view_is
