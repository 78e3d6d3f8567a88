use Rattle.std.proofs.Common.{ap, arith}
use Rattle.tp_recover.specs.Log.{boots_in}
use Rattle.tp_recover.proofs.BootsApart.{boots_few}
use Rattle.tp_recover.proofs.apart.add_apart.Goals as goal

-- there are no more boots than records
pub overflow_add-boots : goal.overflow_add-boots
overflow_add-boots c =
    let taken = c.into_vec-next-items.result in
    omega (arith, c.loop-next.invariant.boots, ap boots_in c.into_iter-next-iterator.ensures.into_iter_gives.0, boots_few taken.items, taken.ok.0, taken.ok.1, taken.small)
