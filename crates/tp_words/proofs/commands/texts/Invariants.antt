use Rattle.std.proofs.Common.{drop, map}
use Rattle.tp_words.proofs.TextLemmas.{Goes}
use Rattle.tp_words.proofs.commands.texts.Given as goal

abbrev pub invariant-loop-word : goal.invariant-loop-word
invariant-loop-word l = Goes l.words (drop l.word-index l.words) (map (λ text. text.now) l.texts.items)
