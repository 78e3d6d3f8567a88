use Rattle.std.proofs.Common.{◌≡◌, ◌-◌, []}
use Rattle.tp_wire.specs.Passes.{fresh_passes}
use Rattle.tp_wire.specs.Rule.{holder, fresh_parts}
use Rattle.tp_wire.proofs.wire.deal.Given as goal

abbrev pub ghosts-cut_off : goal.ghosts-cut_off
ghosts-cut_off g a = record { number = a.number }

-- the parts from here on are left, and there is a pass for each before
abbrev pub invariant-loop-number : goal.invariant-loop-number
invariant-loop-number g l =
    (l.seat.table_id ≡ g.B.Site.table)
    × (l.seat.me ≡ (holder (fresh_parts l.number (l.passes - l.number)), []))
    × (l.made ≡ fresh_passes g.B.Site.table 0 l.number)
