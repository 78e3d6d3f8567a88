use Rattle.std.proofs.Common.{◌≡◌, ◌+◌, ◌*◌, ◌^◌, ◌<◌, take}
use Rattle.std.specs.List.{sum_by}
use Rattle.tp_why.proofs.MomentLemmas.{ticks_by}
use Rattle.tp_why.proofs.moment.clock_at.Given as goal

-- the clock so far, which each fact moves by less than 2^64
abbrev pub invariant-loop-fact : goal.invariant-loop-fact
invariant-loop-fact l =
    record {
      sum : l.clock ≡ l.scenario.clock + sum_by (ticks_by l.place) (take l.fact-index l.facts);
      small : l.clock < 2 ^ 64 * (l.fact-index + 1);
    }
