-- A transaction that asks for no global level reads no master.
use Rattle.std.proofs.Common.{◌≡◌, List, [], ◌∷◌, Option, None, Some, Bool, false, refl}
use Rattle.std.specs.List.{list_any}
use Rattle.std.specs.Option.{option_map_or}
use Rattle.tp_model.specs.Levels.{is_global, is_global_item, is_global_query, reads_master}
use Rattle.tp_model.specs.Queries.{item_of}
use Rattle.tp_model.specs.Words.{Item, Query, Scenario, Transaction}
use Rattle.std.specs.Prelude.{slice_get}

none_at : (txn : Transaction) (found : Option Item) → is_global txn.level ≡ false
    → option_map_or (is_global_item txn) found false ≡ false
none_at txn None e = refl
none_at txn (Some item) e = e

none_among : (sc : Scenario) (txn : Transaction) (queries : List Query) → is_global txn.level ≡ false
    → list_any (is_global_query sc txn) queries ≡ false
none_among sc txn [] e = refl
none_among sc txn (query ∷ queries) e =
    rw (none_at txn (slice_get sc.items (item_of query).0) e, none_among sc txn queries e)

pub reads_none : (sc : Scenario) (txn : Transaction) → is_global txn.level ≡ false → reads_master sc txn ≡ false
reads_none sc txn e = none_among sc txn txn.queries e
