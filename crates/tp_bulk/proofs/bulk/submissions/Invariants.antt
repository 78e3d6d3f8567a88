use Rattle.std.proofs.Common.{◌≡◌, ℕ, map}
use Rattle.std.specs.List.{range_with_len}
use Rattle.tp_model.specs.Words.step
use Rattle.tp_bulk.proofs.bulk.submissions.Given as goal

abbrev pub invariant-loop-number : goal.invariant-loop-number
invariant-loop-number l = l.steps ≡ map (λ (number : ℕ). step.Submit (record { 0 = number })) (range_with_len 0 l.number)
