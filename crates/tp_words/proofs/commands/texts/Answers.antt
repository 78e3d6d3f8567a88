use Rattle.std.proofs.Common.{rules, ◌≡◌, ◌∙◌, ◌+◌, ◌++◌, List, [], ◌∷◌, ℕ, ap, drop, map}
use Rattle.std.proofs.lemmas.List.{map-append}
use Rattle.std.specs.Prelude.{IsUtf8}
use Rattle.tp_words.proofs.TextLemmas.{goes_on, stops, word_here}
use Rattle.tp_words.proofs.commands.texts.Goals as goal

pub loop-word-preserved : goal.loop-word-preserved
loop-word-preserved c =
    let here = word_here c.args.words.now c.loop-word.word-index c.word-item.result c.loop-word-test.true c.word-item.is in
    let put : c.push.new.self.items ≡ c.loop-word.texts.items ++ c.in-Ok.text ∷ [] = search rules in
    let case_is : (c.in-Ok.text.now ≡ c.word-item.result.0) × IsUtf8 c.word-item.result.0 = search rules in
    goes_on c.args.words.now (drop c.loop-word.word-index c.args.words.now) (drop (c.loop-word.word-index + 1) c.args.words.now) c.word-item.result _ _ here
    (ap (map (λ text. text.now)) put ∙ (map-append (λ text. text.now) c.loop-word.texts.items (c.in-Ok.text ∷ []) ∙ ap (λ (t : List ℕ). map (λ text. text.now) c.loop-word.texts.items ++ t ∷ []) case_is.0)) case_is.1 c.loop-word.invariant

pub returns-in-Err : goal.returns-in-Err
returns-in-Err c =
    let here = word_here c.args.words.now c.loop-word.word-index c.word-item.result c.loop-word-test.true c.word-item.is in
    let wrong : IsUtf8 c.word-item.result.0 → ⊥ = search rules in
    stops c.args.words.now (drop c.loop-word.word-index c.args.words.now) (drop (c.loop-word.word-index + 1) c.args.words.now) c.word-item.result _ here wrong c.loop-word.invariant
