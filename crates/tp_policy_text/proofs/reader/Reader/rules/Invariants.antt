use Rattle.std.proofs.Common.{◌≡◌, ◌-◌}
use Rattle.tp_policy_text.specs.mirrors.Readers.{rules_at}
use Rattle.tp_policy_text.proofs.Productions.{with_front}
use Rattle.tp_policy_text.proofs.reader.Reader.rules.Given as goal

-- the rules so far, and those that are still read
abbrev pub invariant-loop-turn : goal.invariant-loop-turn
invariant-loop-turn l =
    with_front l.rules (rules_at (l.fuel - l._turn) l.fuel l.depth l.self.rest.now) ≡ rules_at l.fuel l.fuel l.depth l.initial.self.rest.now
