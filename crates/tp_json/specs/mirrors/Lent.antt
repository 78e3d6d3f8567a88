-- The members of an object as they are lent in order.
use Rattle.std.specs.Prelude.{ℕ, List, [], ◌∷◌}
use Rattle.std.specs.Borrow.{Bor}
use Rattle.serde_json.specs.Data.{Members, no_members, member}
use Rattle.tp_json.specs.View.{view}
use Rattle.tp_json.specs.declared.tree.Json.{Json}

abbrev pub lent_view : List (Bor (List ℕ) × Bor Json) → Members
lent_view [] = no_members
lent_view (m ∷ ms) = member m.0.now (view m.1.now) (lent_view ms)
