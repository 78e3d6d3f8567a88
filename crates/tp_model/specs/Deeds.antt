-- What a query that ran has done.
use Rattle.std.specs.Prelude.{ℕ, ℤ}
use Rattle.tp_model.specs.Words.{Deed, Query}
use Rattle.tp_model.specs.Authorisation.{action_of}
use Rattle.tp_model.specs.Queries.{item_of}

-- the deed of a query with its number and value: what was read, or what was written
abbrev pub deed_of : ℕ → Query → ℤ → Deed
deed_of number query value =
    record { query = number; item = item_of query; action = action_of query; value = value }
