-- What a request to run a query has.
use Rattle.std.specs.Prelude.{Option, is_some, true, ℤ, ◌≡◌}
use Rattle.tp_model.specs.Words.query
use Rattle.tp_model.specs.Words.{Query}

-- a write has a value
abbrev pub HasValue : Query → Option ℤ → Type 0
HasValue (query.Write item expr) value = is_some value ≡ true
HasValue _ value = Unit {0}
