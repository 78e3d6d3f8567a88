-- Values with what was written over them.
use Rattle.std.specs.Prelude.{List, [], ◌∷◌, Option, unwrap_or, ℤ}

-- of each value what was written over it, or itself
abbrev pub laid : List ℤ → List (Option ℤ) → List ℤ
laid [] written = []
laid (value ∷ values) [] = value ∷ values
laid (value ∷ values) (over ∷ written) = unwrap_or over value ∷ laid values written
