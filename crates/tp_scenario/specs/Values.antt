-- Single values of a scenario's JSON: their kind and spelling first, and then their range.
use Rattle.std.specs.Prelude.{ℕ, ◌+◌, ◌&&◌, List, [], ◌∷◌, ◌++◌, ℤ, pos, negsuc, Bool, true, false, if◌then◌else◌, Option, Some, None, option_and_then, is_some, Result, Ok, Err, ok_or}
use Rattle.std.specs.List.{list_all, list_any}
use Rattle.serde_json.specs.Data.{Data, string, array, Items, no_items, item, Members, no_members, member}
use Rattle.serde_json.specs.Find.{get, as_number, as_str, as_array, as_i64, as_object}
use Rattle.tp_types.specs.Spelling.{is_name}
use Rattle.tp_model.specs.Limits.{is_between, is_from_to}
use Rattle.tp_scenario.specs.declared.fault.Fault.{Fault}
use Rattle.tp_scenario.specs.declared.path.Key.{Key}
use Rattle.tp_scenario.specs.declared.path.Path.{Path}
use Rattle.tp_scenario.specs.Chain.{◌>>=◌}
use Rattle.tp_scenario.specs.Faults.{shape, range, unknown}
use Rattle.tp_model.specs.Ids.{same_name}
use Rattle.tp_scenario.specs.Names.{Names, place_of}
use Rattle.tp_scenario.specs.Paths.{key_text}

-- ---- objects

-- the value at a key
unfoldable pub field : Key → Data → Option Data
field key d = get (key_text key) d

abbrev pub has : Data → Key → Bool
has d key = is_some (field key d)

abbrev pub is_spelled : List ℕ → Key → Bool
is_spelled text key = same_name text (key_text key)

-- the text is one of these keys
abbrev pub is_key : List Key → List ℕ → Bool
is_key keys text = list_any (is_spelled text) keys

abbrev pub have_keys : List Key → Members → Bool
have_keys keys no_members = true
have_keys keys (member text d members) = is_key keys text && have_keys keys members

-- an object that has no other key than these
abbrev pub has_only : List Key → Option Members → Bool
has_only keys None = false
has_only keys (Some members) = have_keys keys members

-- an object that has no other key than the needed ones and these, and every needed one
unfoldable pub object_at : Path → List Key → List Key → Data → Result Data Fault
object_at path present_at others d =
    if has_only (present_at ++ others) (as_object d) && list_all (has d) present_at then Ok d
    else Err (shape path)

-- ---- values that are there or not

-- the value that is needed; after the test of its object none is missing
unfoldable pub present_at : Path → Option Data → Result Data Fault
present_at path value = ok_or value (shape path)

-- a text
unfoldable pub text_at : Path → Option Data → Result (List ℕ) Fault
text_at path value = ok_or (option_and_then as_str value) (shape path)

abbrev pub name_or_range : Path → List ℕ → Result (List ℕ) Fault
name_or_range path text = if is_name text then Ok text else Err (range path)

-- a text that is spelled as a name
unfoldable pub name_at : Path → Option Data → Result (List ℕ) Fault
name_at path value = text_at path value >>= name_or_range path

abbrev pub apart : Path → Names → List ℕ → Result (List ℕ) Fault
apart path names name = if is_some (place_of name names) then Err (range path) else Ok name

-- a name that is declared, and is not among these
unfoldable pub new_name_at : Path → Names → Option Data → Result (List ℕ) Fault
new_name_at path names value = name_at path value >>= apart path names

-- a name that is used: its place among these
unfoldable pub place_or_unknown : Path → Names → List ℕ → Result ℕ Fault
place_or_unknown path names name = ok_or (place_of name names) (unknown path)

unfoldable pub place_at : Path → Names → Option Data → Result ℕ Fault
place_at path names value = name_at path value >>= place_or_unknown path names

-- a whole number: one that fits 64 bits with its sign and has neither a point nor an exponent
unfoldable pub whole_at : Path → Option Data → Result ℤ Fault
whole_at path value = ok_or (option_and_then as_i64 (option_and_then as_number value)) (shape path)

abbrev pub within : Path → ℤ → ℤ → ℤ → Result ℤ Fault
within path low high z = if is_between low high z then Ok z else Err (range path)

-- a whole number of a range
unfoldable pub whole_in : Path → ℤ → ℤ → Option Data → Result ℤ Fault
whole_in path low high value = whole_at path value >>= within path low high

abbrev pub count_or_range : Path → ℕ → ℕ → ℤ → Result ℕ Fault
count_or_range path low high (pos n) = if is_from_to low high n then Ok n else Err (range path)
count_or_range path low high (negsuc n) = Err (range path)

-- a whole number of a range that begins at 0 or later
unfoldable pub count_at : Path → ℕ → ℕ → Option Data → Result ℕ Fault
count_at path low high value = whole_at path value >>= count_or_range path low high

-- the same, where a missing one has this value
unfoldable pub count_or : Path → ℕ → ℕ → ℕ → Option Data → Result ℕ Fault
count_or path low high missing None = Ok missing
count_or path low high missing (Some d) = count_at path low high (Some d)

-- ---- arrays

abbrev pub item_count : Items → ℕ
item_count no_items = 0
item_count (item d ds) = item_count ds + 1

-- the length is in its range
unfoldable pub items_or_range : Path → ℕ → ℕ → Items → Result Items Fault
items_or_range path least most items =
    if is_from_to least most (item_count items) then Ok items else Err (range path)

-- an array
unfoldable pub array_at : Path → Option Data → Result Items Fault
array_at path value = ok_or (option_and_then as_array value) (shape path)

-- an array whose length is in its range
unfoldable pub items_at : Path → ℕ → ℕ → Option Data → Result Items Fault
items_at path least most value = array_at path value >>= items_or_range path least most

-- the same, where a missing one is empty
unfoldable pub items_or : Path → ℕ → Option Data → Result Items Fault
items_or path most None = Ok no_items
items_or path most (Some d) = items_at path 0 most (Some d)

-- the members of the JSON array of some texts
abbrev pub items_of : List (List ℕ) → Items
items_of [] = no_items
items_of (text ∷ texts) = item (string text) (items_of texts)

-- the JSON array of these texts
abbrev pub array_of : List (List ℕ) → Data
array_of texts = array (items_of texts)

-- the members in order, from one state to the next
abbrev pub through : {S : Type 0} → (S → Data → Result S Fault) → S → Items → Result S Fault
through walk state no_items = Ok state
through walk state (item d ds) = walk state d >>= λ next. through walk next ds

-- the members in order, each walked with those that were made before it
abbrev pub each : {X : Type 0} → (List X → Data → Result X Fault) → List X → Items
    → Result (List X) Fault
each walk made no_items = Ok made
each walk made (item d ds) = walk made d >>= λ x. each walk (made ++ x ∷ []) ds
