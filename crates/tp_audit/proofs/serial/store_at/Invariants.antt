use Rattle.std.proofs.Common.{◌≡◌, drop, fold}
use Rattle.tp_model.specs.Facts.{before}
use Rattle.tp_model.specs.SerialRun.{store_at, with_fact}
use Rattle.tp_audit.proofs.serial.store_at.Given as goal

-- the facts that are left
abbrev pub invariant-loop-fact : goal.invariant-loop-fact
invariant-loop-fact l =
    fold with_fact l.store (before l.place (drop l.fact-index l.facts)) ≡ store_at l.scenario l.place l.facts
