use Rattle.std.proofs.Common.{arith}
use Rattle.std.proofs.lemmas.Int.{ints}
use Rattle.tp_audit.proofs.total.minus.Goals as goal

pub returns-then-term-lt0-clause-value : goal.returns-then-term-lt0-clause-value
returns-then-term-lt0-clause-value c = let one = c.plus.ensures.value in let two = c.plus-then-term-lt0.ensures.value in omega (arith, ints)
