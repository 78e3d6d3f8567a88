use Rattle.std.proofs.Common.{◌∙◌, ap, sym, take, List}
use Rattle.std.proofs.lemmas.List.{drop-drop}
use Rattle.tp_lock.specs.Rule.{without_grant}
use Rattle.tp_lock.specs.Table.{Table}
use Rattle.tp_lock.specs.declared.entry.Grant.{Grant}
use Rattle.tp_lock_chain.specs.mirrors.Pool.{shown}
use Rattle.tp_lock_chain.proofs.chain.ChainLocksLockTable.take_granted.Goals as goal

pub returns-in-Some-clause-left : goal.returns-in-Some-clause-left
returns-in-Some-clause-left c =
    let pool = c.self.inside.pool in
    ap (λ (grants : List Grant). let table : Table = record { lists = (shown pool).lists; grants = grants } in table) (sym (drop-drop 1 pool.next (take pool.given pool.granted)))
    ∙ ap without_grant c.self.view_is
