use Rattle.std.proofs.Common.{rules, arith, ℕ}
use Rattle.std.proofs.lemmas.List.FromFn.{map-range_with_len_more}
use Rattle.tp_model.specs.Words.step
use Rattle.tp_bulk.proofs.bulk.submissions.Goals as goal

pub loop-number-preserved : goal.loop-number-preserved
loop-number-preserved c = let more = map-range_with_len_more (λ (number : ℕ). step.Submit (record { 0 = number })) 0 c.loop-number.number c.loop-number.number (omega arith) in search (rules, more)
