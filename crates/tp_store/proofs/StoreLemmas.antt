-- The calls of a store where there is no such transaction, and where there is.
use Rattle.std.proofs.Common.{◌≡◌, ◌≤◌, List, [], get_or, length, slice_get, None, ap, sym, ◌∙◌}
use Rattle.std.proofs.lemmas.List.{set_past}
use Rattle.std.proofs.lemmas.Option.{slice_get_past, unwrap_or-slice_get}
use Rattle.tp_model.specs.Words.{TxnId}
use Rattle.tp_store.specs.declared.writes.TentativeWrite.{TentativeWrite}
use Rattle.tp_store.specs.Contents.{Contents}
use Rattle.tp_store.specs.Rule.{after_apply, after_write, with_writes, writes_of}
use Rattle.tp_store.specs.Writes.{with_write}

-- what is set where there is no place is lost
lost : (store : Contents) (txn : TxnId) (writes : List TentativeWrite) → length store.tentative ≤ txn.0 → with_writes store txn writes ≡ store
lost store txn writes past =
    ap (λ (lists : List (List TentativeWrite)). let s : Contents = record store { tentative = lists } in s) (set_past store.tentative txn.0 writes past)

pub write_nowhere : (store : Contents) (txn : TxnId) (write : TentativeWrite) → length store.tentative ≤ txn.0 → store ≡ after_write store txn write
write_nowhere store txn write past = sym (lost store txn (with_write (writes_of store txn) write) past)

pub write_there : (store : Contents) (txn : TxnId) (write : TentativeWrite) (writes kept : List TentativeWrite) → writes ≡ get_or store.tentative txn.0 []
    → kept ≡ with_write writes write → with_writes store txn kept ≡ after_write store txn write
write_there store txn write writes kept here is =
    ap (with_writes store txn) (is ∙ ap (λ list. with_write list write) (here ∙ sym (unwrap_or-slice_get store.tentative txn.0 [])))

pub apply_nowhere : (store : Contents) (txn : TxnId) → length store.tentative ≤ txn.0 → store ≡ after_apply store txn
apply_nowhere store txn past =
    let none : slice_get store.tentative txn.0 ≡ None = slice_get_past store.tentative txn.0 past in
    rw none (sym (lost store txn [] past))
