-- The data that a value stands for, as serde_json defines it.
use Rattle.std.specs.Prelude.{ℕ, List, [], ◌∷◌, map}
use Rattle.std.specs.Borrow.{Bor}
use Rattle.serde_json.specs.Data.{Num, unsigned, negative, float, Data, null, boolean, number, string, array, object, Items, no_items, item, Members, no_members, put}
use Rattle.tp_json.specs.declared.number.Number.{Number}
use Rattle.tp_json.specs.declared.number.Number.TheVariants.{Natural, Negative, Float}
use Rattle.tp_json.specs.declared.tree.Json.{Json, fold-Json}
use Rattle.tp_json.specs.declared.tree.Json.TheOpen.{Json-F}

abbrev pub number_view : Number → Num
number_view (Natural n) = unsigned n
number_view (Negative z) = negative z
number_view (Float x) = float x

abbrev pub items_of : List Data → Items
items_of [] = no_items
items_of (d ∷ ds) = item d (items_of ds)

-- the members go in one after another, so the last value of a key stays
abbrev pub with_members : Members → List (Bor (List ℕ) × Data) → Members
with_members found [] = found
with_members found (m ∷ ms) = with_members (put m.0.now m.1 found) ms

-- one level, with each value inside already seen as its data
abbrev pub view_step : Json-F Data → Data
view_step Json-F.Null = null
view_step (Json-F.Bool b) = boolean b
view_step (Json-F.Number x) = number (number_view x)
view_step (Json-F.String s) = string s.now
view_step (Json-F.Array v) = array (items_of v.items)
view_step (Json-F.Object v) = object (with_members no_members v.items)

abbrev pub view : Json → Data
view = fold-Json Data view_step

abbrev pub items_view : List Json → Items
items_view vs = items_of (map view vs)

abbrev pub members_view : List (Bor (List ℕ) × Json) → Members
members_view ms = with_members no_members (map (λ m. (m.0, view m.1)) ms)
