use Rattle.std.proofs.Common.{◌∙◌, ap, subst, sym}
use Rattle.tp_lock.specs.Rule.{opening}
use Rattle.tp_lock_chain.specs.declared.links.Pool.{Pool}
use Rattle.tp_lock_chain.specs.mirrors.Pool.{IsKept, shown}
use Rattle.tp_lock_chain.proofs.RoomLemmas.{opened_kept, opened_shown}
use Rattle.tp_lock_chain.proofs.chain.ChainLocks.opened.Goals as goal

pub invariant_of-result : goal.invariant_of-result
invariant_of-result c = subst (λ (p : Pool). IsKept p) (sym c.in_ok-pool-in-Ok.ensures) (opened_kept c.in-Ok.count)

pub returns-in_ok-pool-in-Ok : goal.returns-in_ok-pool-in-Ok
returns-in_ok-pool-in-Ok c = ap shown c.in_ok-pool-in-Ok.ensures ∙ opened_shown c.in-Ok.count ∙ ap opening c.in-Ok.ensures.1
