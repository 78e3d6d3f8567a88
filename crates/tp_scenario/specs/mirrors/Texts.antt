-- Words as code holds them.
use Rattle.std.specs.Prelude.{ℕ, List, Option, map, option_map}
use denote.Ref.{Bor}
use Rattle.tp_scenario.specs.Words.{words_behind}

-- the words of a text, where one is left
abbrev pub words_left : Option (Bor (List ℕ)) → List (List ℕ)
words_left rest = words_behind (option_map (λ text. text.now) rest)

-- what texts contain
abbrev pub texts : List (Bor (List ℕ)) → List (List ℕ)
texts names = map (λ name. name.now) names
