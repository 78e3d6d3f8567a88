use Rattle.std.proofs.Common.{◌≡◌, ◌++◌, drop}
use Rattle.tp_model.specs.ByAge.{by_txn}
use Rattle.tp_server.specs.mirrors.Inquiries.{inquiries}
use Rattle.tp_server.proofs.booted.inquiries_in.Given as goal

-- the letters so far, and those of the places that are left behind them, are all letters
abbrev pub invariant-loop-place : goal.invariant-loop-place
invariant-loop-place l =
    l.letters ++ inquiries l.server (by_txn (drop l.place-index l.table)) ≡ inquiries l.server (by_txn l.table)
