-- The members of an array, which code lends once the value was tested.
use Rattle.std.specs.Prelude.{Option, Some, None, option_and_then}
use Rattle.serde_json.specs.Data.{Data, Items, no_items}
use Rattle.serde_json.specs.Find.{as_array}

abbrev pub items_or_none : Option Items → Items
items_or_none None = no_items
items_or_none (Some items) = items

-- none, where the value is missing or is no array
abbrev pub items_in : Option Data → Items
items_in value = items_or_none (option_and_then as_array value)
