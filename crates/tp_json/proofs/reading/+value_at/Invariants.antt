use Rattle.std.proofs.Common.{◌≡◌, ℕ, ◌+◌, ◌*◌, ◌≤◌, length}
use Rattle.json.specs.Json.{items, members, value, parse_map}
use Rattle.serde_json.specs.Data.{no_members}
use Rattle.serde_json.specs.Read.{of_items, of_members, converted}
use Rattle.tp_json.specs.View.{members_view}
use Rattle.tp_json.proofs.ReadLemmas.{then}
use Rattle.tp_json.proofs.reading.+value_at.Given as goal

abbrev pub decreases-value_at : goal.decreases-value_at
decreases-value_at l = 2 * l.depth

abbrev pub decreases-items_at : goal.decreases-items_at
decreases-items_at l = 2 * l.depth + 1

abbrev pub decreases-members_at : goal.decreases-members_at
decreases-members_at l = 2 * l.depth + 1

abbrev pub invariant-items_at-items : goal.invariant-items_at-items
invariant-items_at-items l =
    (n : ℕ) × (length l.reader ≤ n)
    × (converted of_items (items (value l.depth) (length l.initial.reader) l.initial.reader) ≡ parse_map (then l.found.items) (converted of_items (items (value l.depth) n l.reader)))
    × (length l.reader ≤ length l.initial.reader)

abbrev pub decreases-items_at-items : goal.decreases-items_at-items
decreases-items_at-items l = length l.reader

abbrev pub invariant-members_at-members : goal.invariant-members_at-members
invariant-members_at-members l =
    (n : ℕ) × (length l.reader ≤ n)
    × (converted (λ ms. of_members ms no_members) (members (value l.depth) (length l.initial.reader) l.initial.reader) ≡ converted (λ ms. of_members ms (members_view l.found.items)) (members (value l.depth) n l.reader))
    × (length l.reader ≤ length l.initial.reader)

abbrev pub decreases-members_at-members : goal.decreases-members_at-members
decreases-members_at-members l = length l.reader
