use Rattle.std.proofs.Common.{◌≡◌, ◌≤◌, ◌+◌, drop, fold}
use Rattle.tp_recover.specs.Kept.{kept_step}
use Rattle.tp_recover.proofs.kept.Kept.take_all.Given as goal

-- the records that are left lead from here to where all of them lead, and none has counted more than one epoch
abbrev pub invariant-loop-forced : goal.invariant-loop-forced
invariant-loop-forced l =
    (fold kept_step l.self (drop l.forced-index l.records) ≡ fold kept_step l.initial.self l.records)
    × (l.self.epoch ≤ l.forced-index + 1)
