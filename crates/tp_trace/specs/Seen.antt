-- What is seen of a server, and the lines of what a step changed in it.
use Rattle.std.specs.Prelude.{ℕ, ℤ, pos, ◌+◌, ◌&&◌, List, [], ◌∷◌, ◌++◌, map, slice_get, Bool, true, false, not, Option, Some, None, codes, decimal, unwrap_or, if◌then◌else◌}
use Rattle.std.specs.Fmt.{signed_decimal}
use Rattle.std.specs.List.{flat_map, list_any}
use Rattle.std.specs.Option.{option_map_or}
use Rattle.std.specs.Ordering.{int_eq}
use Rattle.tp_lock.specs.Rule.{entries_at}
use Rattle.tp_lock.specs.Table.{Table}
use Rattle.tp_lock.specs.declared.entry.LockEntry.{LockEntry}
use Rattle.tp_model.specs.Ids.{same_txn, same_version}
use Rattle.tp_model.specs.Policies.{same_action}
use Rattle.tp_model.specs.Words.{ItemId, Scenario, ServerDecl, ServerId, TxnId, Version}
use Rattle.tp_report.specs.ReportText.{action_word, admin_name, item_name, server_name, txn_name}
use Rattle.tp_server.specs.State.{Server}
use Rattle.tp_store.specs.Rule.{read_in}
use Rattle.tp_trace.specs.Lines.{Line, line_of}
use Rattle.tp_trace.specs.declared.lines.Kind.TheVariants as kind
use Rattle.tp_trace.specs.declared.seen.Seen.{Seen}

-- ---- what is seen

-- the items that a server has
abbrev pub items_of : Scenario → ServerId → List ItemId
items_of sc at = option_map_or (λ (server : ServerDecl). server.items) (slice_get sc.servers at.0) []

abbrev pub entries_in : Table → ItemId → List LockEntry
entries_in table item = entries_at item table

-- the value of an item, which each has
abbrev pub value_in : List ℤ → ItemId → ℤ
value_in values item = unwrap_or (slice_get values item.0) (pos 0)

-- of a server that is up: the locks and the value of each of its items, and the versions that it knows
abbrev pub seen_of : List ItemId → Server → Seen
seen_of items s = record {
  locks = map (entries_in s.locks) items;
  known = s.store.known;
  values = map (value_in s.store.values) items;
}

-- nothing is seen of a server that is down
abbrev pub nothing_seen : Seen
nothing_seen = record { locks = []; known = []; values = [] }

abbrev pub seen_up : List ItemId → Option Server → Seen
seen_up items None = nothing_seen
seen_up items (Some s) = seen_of items s

-- the values of the items to a transaction: what it has written itself, or else the item's
abbrev pub values_to : List ItemId → Server → TxnId → List ℤ
values_to items s txn = map (read_in s.store txn) items

-- ---- locks

-- a lock of the same owner and mode
abbrev pub is_of_entry : LockEntry → LockEntry → Bool
is_of_entry entry other =
    same_txn other.owner entry.owner && same_action other.mode entry.mode

abbrev pub same_held : Bool → Bool → Bool
same_held true held = held
same_held false held = not held

-- which is held, or waits, as this one
abbrev pub is_entry : LockEntry → LockEntry → Bool
is_entry entry other = is_of_entry entry other && same_held other.held entry.held

-- `SERVER ITEM TXN MODE`
unfoldable pub lock_words : Scenario → ServerId → ItemId → LockEntry → List ℕ
lock_words sc at item entry =
    server_name sc at ++ codes " " ++ item_name sc item ++ codes " " ++ txn_name sc entry.owner
    ++ codes " " ++ action_word entry.mode

abbrev pub free_line : Scenario → ℕ → ServerId → ItemId → LockEntry → Line
free_line sc place at item entry = line_of place kind.Free (lock_words sc at item entry)

-- a lock that was there is no longer
unfoldable pub free_if : Scenario → ℕ → ServerId → ItemId → List LockEntry → LockEntry → List Line
free_if sc place at item after entry =
    if list_any (is_of_entry entry) after then [] else free_line sc place at item entry ∷ []

abbrev pub held_word : Bool → List ℕ
held_word true = codes " holds"
held_word false = codes " waits"

abbrev pub lock_line : Scenario → ℕ → ServerId → ItemId → LockEntry → Line
lock_line sc place at item entry =
    line_of place kind.Lock (lock_words sc at item entry ++ held_word entry.held)

-- a lock is new, or waited and is held
unfoldable pub lock_if : Scenario → ℕ → ServerId → ItemId → List LockEntry → LockEntry → List Line
lock_if sc place at item before entry =
    if list_any (is_entry entry) before then [] else lock_line sc place at item entry ∷ []

-- the list of an item, by the number of the item at its server
abbrev pub list_in : List (List LockEntry) → ℕ → List LockEntry
list_in lists number = option_map_or (λ (entries : List LockEntry). entries) (slice_get lists number) []

-- the locks that are gone, of the items from this one on
abbrev pub frees_from : Scenario → ℕ → ServerId → ℕ → Seen → Seen → List ItemId → List Line
frees_from sc place at number before after [] = []
frees_from sc place at number before after (item ∷ items) =
    flat_map (free_if sc place at item (list_in after.locks number)) (list_in before.locks number)
    ++ frees_from sc place at (number + 1) before after items

-- the locks that are new
abbrev pub locks_from : Scenario → ℕ → ServerId → ℕ → Seen → Seen → List ItemId → List Line
locks_from sc place at number before after [] = []
locks_from sc place at number before after (item ∷ items) =
    flat_map (lock_if sc place at item (list_in before.locks number)) (list_in after.locks number)
    ++ locks_from sc place at (number + 1) before after items

-- ---- versions

abbrev pub knows_line : Scenario → ℕ → ServerId → ℕ → Version → Line
knows_line sc place at admin version =
    line_of place kind.Knows
    (server_name sc at ++ codes " " ++ admin_name sc (record { 0 = admin }) ++ codes " "
    ++ decimal version.0)

-- a version of an administrator is known that was not before
unfoldable pub knows_if : Scenario → ℕ → ServerId → ℕ → Option Version → Version → List Line
knows_if sc place at admin before version =
    if option_map_or (same_version version) before false then []
    else knows_line sc place at admin version ∷ []

abbrev pub knows_from : Scenario → ℕ → ServerId → ℕ → List Version → List Version → List Line
knows_from sc place at admin before [] = []
knows_from sc place at admin before (version ∷ others) =
    knows_if sc place at admin (slice_get before admin) version
    ++ knows_from sc place at (admin + 1) before others

-- ---- values

abbrev pub item_line : Scenario → ℕ → ServerId → ItemId → ℤ → Line
item_line sc place at item value =
    line_of place kind.Item
    (server_name sc at ++ codes " " ++ item_name sc item ++ codes " " ++ signed_decimal value)

-- the value of an item is another
unfoldable pub value_if : Scenario → ℕ → ServerId → ItemId → Option ℤ → Option ℤ → List Line
value_if sc place at item (Some old) (Some new) =
    if int_eq old new then [] else item_line sc place at item new ∷ []
value_if sc place at item _ _ = []

abbrev pub values_from : Scenario → ℕ → ServerId → ℕ → List ℤ → List ℤ → List ItemId
    → List Line
values_from sc place at number before after [] = []
values_from sc place at number before after (item ∷ items) =
    value_if sc place at item (slice_get before number) (slice_get after number)
    ++ values_from sc place at (number + 1) before after items

-- ---- a server

-- what changed in a server that is up now
abbrev pub seen_lines : Scenario → ℕ → ServerId → Seen → Seen → List Line
seen_lines sc place at before after =
    frees_from sc place at 0 before after (items_of sc at)
    ++ locks_from sc place at 0 before after (items_of sc at)
    ++ knows_from sc place at 0 before.known after.known
    ++ values_from sc place at 0 before.values after.values (items_of sc at)

-- the values that a crash leaves: those that the server had, with the writes of the transaction whose commit the log has
-- gained, if there is one
abbrev pub left_lines : Scenario → ℕ → ServerId → Server → Option TxnId → List Line
left_lines sc place at s None = []
left_lines sc place at s (Some txn) =
    values_from sc place at 0 (seen_of (items_of sc at) s).values (values_to (items_of sc at) s txn)
    (items_of sc at)

-- what changed in a server between these states; of one that was down before, against nothing
abbrev pub changed_lines : Scenario → ℕ → ServerId → Option Server → Option Server → Option TxnId
    → List Line
changed_lines sc place at before (Some s) ended =
    seen_lines sc place at (seen_up (items_of sc at) before) (seen_of (items_of sc at) s)
changed_lines sc place at (Some s) None ended = left_lines sc place at s ended
changed_lines sc place at None None ended = []
