-- What the proofs of serial data take from a scenario's rules: the opening values are in range.
use Rattle.std.proofs.Common.{List, [], map, refl, true, ◌∷◌, ◌≡◌}
use Rattle.std.proofs.lemmas.Bool.{and_from}
use Rattle.tp_model.specs.Limits.{is_between}
use Rattle.tp_model.specs.SerialRun.{are_in_range, opening_store}
use Rattle.tp_model.specs.Words.{Item, Scenario}
use Rattle.tp_runs.proofs.ids.Valid.{IsValid, IsValidItem}
use Rattle.tp_types.specs.Each.{Each}

all_within_in_deeds : (sc : Scenario) (items : List Item) → Each (IsValidItem sc) items → are_in_range items (map (λ (item : Item). item.value) items) ≡ true
all_within_in_deeds sc [] h = refl
all_within_in_deeds sc (item ∷ items) h = and_from (is_between item.min item.max item.value) (are_in_range items (map (λ (other : Item). other.value) items)) h.0.opening (all_within_in_deeds sc items h.1)

-- the opening values are in range
pub opening_in_range : (sc : Scenario) → IsValid sc → are_in_range sc.items (opening_store sc) ≡ true
opening_in_range sc valid = all_within_in_deeds sc sc.items valid.items
