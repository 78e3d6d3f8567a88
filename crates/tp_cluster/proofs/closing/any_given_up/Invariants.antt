use Rattle.std.specs.Prelude.{◌≡◌, drop, false}
use Rattle.tp_types.specs.Each.{Each}
use Rattle.tp_wire.specs.Passes.{Known}
use Rattle.tp_cluster.proofs.closing.any_given_up.Given as goal

-- those before are not given up: so where the others are not, none is
abbrev pub invariant-loop-at : goal.invariant-loop-at
invariant-loop-at l = Each (λ (p : Known). p.given_up ≡ false) (drop l.at l.passes) → Each (λ (p : Known). p.given_up ≡ false) l.passes
