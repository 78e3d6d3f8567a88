use Rattle.std.proofs.Common.{◌+◌, ◌-◌, ◌≤◌, length}
use Rattle.std.specs.Io.KnownBytes.{Consumes}
use Rattle.tp_io.proofs.whole.read_to_end.Given as goal

-- what was taken so far is what is kept, and it is no longer than an input that is too long
abbrev pub invariant-loop-source : goal.invariant-loop-source
invariant-loop-source g l = record {
  taken : Consumes (g.I.Source.left l.fn.source) (g.I.Source.left l.source) l.bytes.items;
  limit : length l.bytes.items ≤ l.most + 1;
  later : g.I.Source.faults l.fn.source ≤ g.I.Source.faults l.source;
}

abbrev pub decreases-loop-source : goal.decreases-loop-source
decreases-loop-source g l = l.most + 1 - length l.bytes.items
