use Rattle.std.proofs.Common.{◌≡◌, arith, subst, ℕ}
use Rattle.tp_cluster.proofs.HomeLemmas.{both_gathered}
use Rattle.tp_cluster.specs.Runs.{actors_of}
use Rattle.tp_cluster.specs.mirrors.Homes.{AreGathered}
use Rattle.tp_cluster.proofs.closing.gathered.Goals as goal

pub overflow_add-len : goal.overflow_add-len
overflow_add-len g c =
    let a = c.len.ensures in let b = c.len-2.ensures in let few = c.requires.servers in let most = c.requires.txns in
    omega (arith, a, b, few, most)

pub overflow_add-len-2 : goal.overflow_add-len-2
overflow_add-len-2 g c =
    let a = c.len.ensures in let b = c.len-2.ensures in let few = c.requires.servers in let most = c.requires.txns in
    omega (arith, a, b, few, most)

pub returns : goal.returns
returns g c =
    let table = g.B.Site.table in
    let servers = c.in_ok-next.ensures in
    let coordinators = both_gathered table 0 c.in_ok-next.next c.in_ok-next-2.next c.args.passes c.gather_all.new.passes c.gather_all-2.new.passes servers c.in_ok-next-2.ensures in
    let authority = both_gathered table 0 c.in_ok-next-2.next c.in_ok-next-3.next c.args.passes c.gather_all-2.new.passes c.gather.new.passes coordinators c.in_ok-next-3.ensures in
    let all = both_gathered table 0 c.in_ok-next-3.next c.in_ok-next-4.next c.args.passes c.gather.new.passes c.gather-2.new.passes authority c.in_ok-next-4.ensures in
    let a = c.len.ensures in let b = c.len-2.ensures in let same = c.if-next-len.false in
    let count : c.in_ok-next-4.next ≡ actors_of c.args.plan.now.scenario = omega (arith, a, b, same) in
    subst (λ (n : ℕ). AreGathered table 0 n c.args.passes c.gather-2.new.passes) count all
